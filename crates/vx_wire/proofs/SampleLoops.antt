-- One more sample decoded, and one more encoded.
use Rattle.std.proofs.Common.{◌≡◌, ℕ, ℤ, zero, suc, ◌+◌, ◌*◌, ◌<◌, ◌-◌, List, [], ◌∷◌, ◌++◌, length, take, drop, map, arith, sym, ap, ◌∙◌, drop-drop}
use Rattle.vx_wire.proofs.Common.{Format, sample_bytes, decoded_sample, decoded_samples}
use Rattle.std.proofs.lemmas.List.{take_more_set, map-append}
use Rattle.std.proofs.Math.ListN.{set}

-- one more sample, after the first i
pub decoded_more : (format : Format) (i : ℕ) (bytes : List ℕ) → let w = sample_bytes format in
    decoded_samples format (suc i) bytes
    ≡ decoded_samples format i bytes ++ decoded_sample format (take w (drop (i * w) bytes)) ∷ []
decoded_more format zero bytes =
    let w = sample_bytes format in
    let none : 0 ≡ 0 * w = omega arith in
    ap (λ n. decoded_sample format (take w (drop n bytes)) ∷ []) none
decoded_more format (suc i) bytes =
    let w = sample_bytes format in
    let first = decoded_sample format (take w bytes) in
    let behind : drop (i * w) (drop w bytes) ≡ drop (suc i * w) bytes =
    drop-drop (i * w) w bytes ∙ ap (λ n. drop n bytes) (suc_times i w) in
    ap (λ l. first ∷ l) (decoded_more format i (drop w bytes))
    ∙ ap
    (λ l. first
    ∷ (decoded_samples format i (drop w bytes) ++ decoded_sample format (take w l) ∷ []))
    behind
  where
    suc_times : (i w : ℕ) → w + i * w ≡ suc i * w
    suc_times i w = omega arith

-- the bytes of that sample, as they are cut out
pub piece_is : (i n w : ℕ) (bytes : List ℕ)
    → n ≡ w
    → take ((i * n + n) - i * n) (drop (i * n) bytes) ≡ take w (drop (i * w) bytes)
piece_is i n w bytes e =
    let many : (i * n + n) - i * n ≡ n = omega arith in
    ap (λ m. take m (drop (i * n) bytes)) many ∙ ap (λ m. take m (drop (i * m) bytes)) e

-- one more sample was decoded, from the bytes after those of the samples before it
pub decodes_more :
    {S : Type 0} (value : S → ℤ) (format : Format) (i : ℕ) (bytes piece : List ℕ)
    (samples : List S) (sample : S)
    → i < length samples
    → map value (take i samples) ≡ decoded_samples format i bytes
    → piece ≡ take (sample_bytes format) (drop (i * sample_bytes format) bytes)
    → value sample ≡ decoded_sample format piece
    → map value (take (i + 1) (set samples i sample)) ≡ decoded_samples format (i + 1) bytes
decodes_more value format i bytes piece samples sample below before here is =
    let one : suc i ≡ i + 1 = omega arith in
    ap (map value) (take_more_set samples i sample below)
    ∙ map-append value (take i samples) (sample ∷ [])
    ∙ ap (λ l. l ++ value sample ∷ []) before
    ∙ ap (λ z. decoded_samples format i bytes ++ z ∷ []) (is ∙ ap (decoded_sample format) here)
    ∙ sym (decoded_more format i bytes)
    ∙ ap (λ n. decoded_samples format n bytes) one
