use Rattle.std.proofs.Common.{◌≡◌, ℕ, ◌*◌, List, length, Some, refl, ap, ◌∙◌}
use Rattle.pgm_images.proofs.Common.{Encoding, Plain, Raw, take_header, numbers_in}
use Rattle.pgm_images.specs.Grammar.{HasSamples}
use Rattle.pgm_images.proofs.ReadingLemmas.{not_there, numbers_size}
use Rattle.pgm_images.proofs.SpacedLemmas.{many_spaced, spaced_many}
use Rattle.pgm_images.proofs.StandsLemmas.{header_of, header_back, raster_of, raster_many}
use Rattle.pgm_images.proofs.laws.first_faults.Goals as goal

samples_of : (encoding : Encoding) (maxval count : ℕ) (rest numbers : List ℕ)
    → numbers_in encoding maxval count rest ≡ Some numbers
    → HasSamples encoding maxval rest numbers
samples_of Plain maxval count rest numbers e = spaced_many count rest numbers e
samples_of Raw maxval count rest numbers e = raster_of maxval count rest numbers e

samples_back : (encoding : Encoding) (maxval : ℕ) (rest numbers : List ℕ)
    → HasSamples encoding maxval rest numbers
    → numbers_in encoding maxval (length numbers) rest ≡ Some numbers
samples_back Plain maxval rest numbers (body, end, are, blanks, spelled) =
    ap (numbers_in Plain maxval (length numbers)) spelled ∙ many_spaced numbers body end are blanks
samples_back Raw maxval rest numbers is = raster_many maxval rest numbers is

pub returns-clause-header : goal.returns-clause-header
returns-clause-header c text none =
    rw
    (not_there (take_header text)
    (λ found e. none found.0 found.1 (header_of text found.0 found.1 e)))
    refl

pub returns-clause-sides : goal.returns-clause-sides
returns-clause-sides c text header rest is sides = rw (header_back text header rest is, sides) refl

pub returns-clause-maxval : goal.returns-clause-maxval
returns-clause-maxval c text header rest is sides maxval =
    rw (header_back text header rest is, sides, maxval) refl

pub returns-clause-samples : goal.returns-clause-samples
returns-clause-samples c text header rest is sides maxval none =
    let count : ℕ = header.height * header.width in
    let nothing = not_there (numbers_in header.encoding header.maxval count rest) (λ numbers e.
    none numbers (numbers_size header.encoding header.maxval count rest numbers e)
    (samples_of header.encoding header.maxval count rest numbers e)) in
    rw (header_back text header rest is, sides, maxval, nothing) refl

pub returns-clause-high : goal.returns-clause-high
returns-clause-high c text header rest samples is sides maxval size has high =
    let found :
    numbers_in header.encoding header.maxval (header.height * header.width) rest ≡ Some samples =
    rw (← size) (samples_back header.encoding header.maxval rest samples has) in
    rw (header_back text header rest is, sides, maxval, found, high) refl
