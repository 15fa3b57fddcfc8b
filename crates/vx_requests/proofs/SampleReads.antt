-- Samples that are read piece by piece.
use Rattle.std.proofs.Common.{◌≡◌, ℕ, ℤ, pos, zero, suc, ◌+◌, ◌*◌, ◌-◌, ◌<◌, ◌≤◌, ◌^◌, List, [], ◌∷◌, ◌++◌, Option, arith, length, take, drop, map, sym, ap, ◌∙◌, zero-add, length-append, length-take-le, length-drop, All}
use Rattle.vx_requests.proofs.Common.{Consumes, Consumes-trans, length-map, All-append, Format, U8, sample_bytes, decoded_samples, StreamFault, ReadsPart, ReadsSamples, put_mid}
use Rattle.std.proofs.Math.Nat.{add-mul}
use Rattle.std.proofs.lemmas.List.{map-append, take-append-le, drop-append-le}
use Rattle.vx_wire.proofs.SampleBytes.{decoded-U8}
use Rattle.vx_requests.proofs.Pieces.{part_after}
use Rattle.vx_requests.proofs.TransferSteps.{take-put_mid}

-- the bytes of some samples, and then those of others
decoded-append : (format : Format) (n m : ℕ) (xs ys : List ℕ)
    → length xs ≡ n * sample_bytes format
    → decoded_samples format (n + m) (xs ++ ys)
    ≡ decoded_samples format n xs ++ decoded_samples format m ys
decoded-append format zero m [] ys long = ap (λ k. decoded_samples format k ys) (zero-add m)
decoded-append format zero m (x ∷ xs) ys long = absurd (omega arith)
decoded-append format (suc n) m xs ys long =
    let w = sample_bytes format in
    let more : suc n + m ≡ suc (n + m) = omega arith in
    let fits : w ≤ length xs = omega (arith, suc_times n w) in
    let front : take w (xs ++ ys) ≡ take w xs = take-append-le w xs ys fits in
    let back : drop w (xs ++ ys) ≡ drop w xs ++ ys = drop-append-le w xs ys fits in
    let rest : length (drop w xs) ≡ n * w = omega (arith, suc_times n w, length-drop w xs) in
    rw (more, front, back, decoded-append format n m (drop w xs) ys rest)
  where
    suc_times : (n w : ℕ) → suc n * w ≡ w + n * w
    suc_times n w = omega arith

-- more samples were read
reads_both : (a b c : Option (List ℕ)) (format : Format) (xs ys : List ℤ)
    → ReadsSamples a b format xs
    → ReadsSamples b c format ys
    → ReadsSamples a c format (xs ++ ys)
reads_both a b c format xs ys (front, read, size, bytes, are) (back, read', size', bytes', are') =
    let n = length xs in
    let m = length ys in
    let many : length (xs ++ ys) ≡ n + m = length-append xs ys in
    let long : length (front ++ back) ≡ length (xs ++ ys) * sample_bytes format =
    rw (length-append, size, size', many, add-mul) in (
      front ++ back,
      Consumes-trans a b c front back read read',
      long,
      All-append (λ b. b < 2 ^ 8) front back bytes bytes',
      rw (many, decoded-append format n m front back size, ← are, ← are'),
    )

-- n samples more were read, after the first ones
pub reads_piece :
    {S : Type 0} (value : S → ℤ) (a b c : Option (List ℕ)) (format : Format) (from n : ℕ)
    (xs ys : List S)
    → from ≤ length xs
    → n ≤ length ys
    → ReadsSamples a b format (map value (take from xs))
    → ReadsSamples b c format (map value (take n ys))
    → ReadsSamples a c format (map value (take (from + n) (put_mid from (length xs - from) xs ys)))
reads_piece value a b c format from n xs ys within fits before read =
    rw (take-put_mid from n xs ys within fits, map-append value (take from xs) (take n ys))
    (reads_both a b c format (map value (take from xs)) (map value (take n ys)) before read)

-- less than the samples was read, after the first ones
pub part_of_samples :
    {S : Type 0} (value : S → ℤ) (a b c : Option (List ℕ)) (format : Format) (from more all : ℕ)
    (xs : List S) (e : StreamFault)
    → from ≤ length xs
    → from + more ≡ all
    → ReadsSamples a b format (map value (take from xs))
    → ReadsPart b c (more * sample_bytes format) e
    → ReadsPart a c (all * sample_bytes format) e
part_of_samples value a b c format from more all xs e within whole
    (bytes, read, size, each, are) part =
    let many : length (map value (take from xs)) ≡ from =
    length-map (take from xs) value ∙ length-take-le from xs within in
    let long : length bytes ≡ from * sample_bytes format =
    size ∙ ap (λ k. k * sample_bytes format) many in
    let sum : from * sample_bytes format + more * sample_bytes format ≡ all * sample_bytes format =
    rw (← whole, add-mul) in
    part_after a b c bytes (more * sample_bytes format) (all * sample_bytes format) e read
    (omega (arith, long, sum)) part

-- the bytes of U8 samples are the samples
pub reads_bytes : (a b : Option (List ℕ)) (bytes : List ℕ)
    → All (λ x. x < 2 ^ 8) bytes
    → Consumes a b bytes
    → ReadsSamples a b U8 (map pos bytes)
reads_bytes a b bytes each read =
    let many : length (map pos bytes) ≡ length bytes = length-map bytes pos in
    let size : length bytes ≡ length bytes * 1 = omega arith in (
      bytes,
      read,
      size ∙ ap (λ k. k * 1) (sym many),
      each,
      decoded-U8 (length bytes) bytes size ∙ ap (λ k. decoded_samples U8 k bytes) (sym many),
    )
