-- The samples of an image, row by row.
use Rattle.std.proofs.Common.{decimal, IsTrue, ◌≡◌, ℕ, pos, unsigned_abs, ◌+◌, ◌*◌, ◌<◌, ◌≤◌, List, [], ◌∷◌, ◌++◌, length, map, take, refl, ap, sym, ◌∙◌, append_assoc, arith, take_all}
use Rattle.pgm_images.proofs.Common.{is_side, nat_tests, map-append}
use Rattle.std.proofs.lemmas.Fmt.{length-decimal-le}
use Rattle.std.proofs.Math.Seq.{take-add}
use Rattle.vx_base.specs.Image.{ImageValue, IsImage}
use Rattle.vx_base.proofs.TableLaws.{part_is_run, row_fits}
use Rattle.image_core.specs.Rows.{row_of}

-- a row's samples come after those of the rows above it
pub row_more : (image : ImageValue) (y : ℕ) → IsImage image → y < image.height
    → take ((y + 1) * image.width) image.samples
    ≡ take (y * image.width) image.samples ++ row_of image y
row_more image y is below =
    let w = image.width in
    let next : (y + 1) * w ≡ y * w + w = omega arith in
    let fits : y * w + w ≤ length image.samples =
    omega (arith, row_fits w image.height y below, is.size) in
    ap (λ n. take n image.samples) next
    ∙ take-add (y * w) w image.samples
    ∙ ap (λ l. take (y * w) image.samples ++ l) (part_is_run image.samples (y * w) w fits)

-- one more row was written
pub rows_more : (image : ImageValue) (y : ℕ) (head text row new : List ℕ)
    → IsImage image
    → y < image.height
    → map pos row ≡ row_of image y
    → new ≡ text ++ row
    → map pos text ≡ map pos head ++ take (y * image.width) image.samples
    → map pos new ≡ map pos head ++ take ((y + 1) * image.width) image.samples
rows_more image y head text row new is below same added before =
    ap (map pos) added
    ∙ map-append pos text row
    ∙ ap (λ l. l ++ map pos row) before
    ∙ ap (λ l. (map pos head ++ take (y * image.width) image.samples) ++ l) same
    ∙ simp append_assoc (ap (λ l. map pos head ++ l) (sym (row_more image y is below)))

bytes_back : (bytes : List ℕ) → map unsigned_abs (map pos bytes) ≡ bytes
bytes_back [] = refl
bytes_back (b ∷ bytes) = ap (λ l. b ∷ l) (bytes_back bytes)

-- and then all rows were
pub rows_all : (image : ImageValue) (y : ℕ) (head text : List ℕ) → IsImage image → y ≡ image.height
    → map pos text ≡ map pos head ++ take (y * image.width) image.samples
    → text ≡ head ++ map unsigned_abs image.samples
rows_all image y head text is end all =
    let whole : take (y * image.width) image.samples ≡ image.samples =
    take_all (y * image.width) image.samples (rw end (omega (arith, is.size))) in
    sym (bytes_back text)
    ∙ ap (map unsigned_abs) (all ∙ ap (λ l. map pos head ++ l) whole)
    ∙ map-append unsigned_abs (map pos head) image.samples
    ∙ ap (λ l. l ++ map unsigned_abs image.samples) (bytes_back head)

-- a side has at most four digits
pub side_digits : (n side : ℕ) → n ≡ side → IsTrue (is_side side) → length (decimal n) ≤ 4
side_digits n side e is =
    let below : side < 10000 = grind (arith, nat_tests) in
    length-decimal-le 4 n (omega arith) (omega arith) (omega arith)
