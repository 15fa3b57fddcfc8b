-- Samples that are read have one spelling.
use Rattle.std.proofs.Common.{◌≡◌, ℕ, ◌*◌, [], length, sym, refl, All}
use Rattle.vx_wire.proofs.Common.{Format, sample_count, IsSample, sample_bytes, IsPicture, decoded_samples, encoded_samples, take_samples, take_picture, picture_bytes}
use Rattle.vx_wire.proofs.ReadFields.{Reads, then_reads, made, bytes_reads, description_reads}
use Rattle.vx_wire.proofs.SampleBytes.{encoded_back}

-- a number of samples
pub samples_reads : (format : Format) (count : ℕ)
    → Reads [] (take_samples format count) (λ samples. encoded_samples format samples)
    (λ samples. (length samples ≡ count) × All (IsSample format) samples)
samples_reads format count =
    then_reads (bytes_reads (count * sample_bytes format)) _ (λ bytes are.
    let (back, size, each) = encoded_back format count bytes are.1 are.0 in
    made (decoded_samples format count bytes) (sym back) (size, each))

-- a picture
pub picture_reads : Reads [] take_picture picture_bytes IsPicture
picture_reads =
    then_reads description_reads _
    (λ d d_is. then_reads (samples_reads d.format (sample_count d)) _ (λ samples are.
    made (record { description = d; samples = samples }) refl
    (record { description = d_is; size = are.0; sampled = are.1 })))
