-- One more number of a raster.
use Rattle.std.proofs.Common.{◌≡◌, ℕ, ℤ, pos, zero, suc, ◌+◌, ◌-◌, ◌<◌, ◌≤◌, Bool, true, false, ◌==◌, ◌||◌, ◌&&◌, nat_le, nat_lt, List, [], ◌∷◌, ◌++◌, map, Option, Some, None, Ok, refl, ap, sym, ◌∙◌, append_assoc, append-nil, length, get_or, take, Fits, w8, ◌≢◌, arith, min, le-leb, length-set, take_all}
use Rattle.pgm_images.proofs.Common.{option_map, nat_tests, set, map-append, BeginsWith, TakesNumber, LeftToFill, samples_up_to, all_up_to, take_count, take_short_sample, nothing_left}
use Rattle.std.proofs.lemmas.List.{take_more_set}
use Rattle.std.proofs.lemmas.List.Folds.{list_all-append}
use Rattle.pgm_images.specs.Raster.{Reads, HoldsNumbers, prepend}

after_one : (done : List ℕ) (n : ℕ) (o : Option (List ℕ))
    → prepend done (option_map (λ others. n ∷ others) o) ≡ prepend (done ++ n ∷ []) o
after_one done n None = refl
after_one done n (Some others) = ap Some (simp append_assoc)

-- one more of them was taken
so_many-more :
    (take : List ℕ → BeginsWith ℕ) (is_end : List ℕ → Bool) (left n : ℕ)
    (done rest others : List ℕ) (whole : Option (List ℕ))
    → 0 < left
    → whole ≡ prepend done (take_count take is_end left rest)
    → take rest ≡ Some (n, others)
    → whole ≡ prepend (done ++ n ∷ []) (take_count take is_end (left - 1) others)
so_many-more take is_end zero n done rest others whole some is next = absurd (omega arith)
so_many-more take is_end (suc left) n done rest others whole some is next =
    let less : suc left - 1 ≡ left = omega arith in
    rw less (is ∙ rw next (after_one done n (take_count take is_end left others)))

so_many-none :
    (take : List ℕ → BeginsWith ℕ) (is_end : List ℕ → Bool) (left : ℕ) (done rest : List ℕ)
    (whole : Option (List ℕ))
    → 0 < left
    → whole ≡ prepend done (take_count take is_end left rest) → take rest ≡ None → whole ≡ None
so_many-none take is_end zero done rest whole some is none = absurd (omega arith)
so_many-none take is_end (suc left) done rest whole some is none = is ∙ rw none refl

-- ---- numbers that were written over samples

filled_more : (maxval n kept : ℕ) (above : Bool) (samples : List ℤ) (sample : ℤ) (numbers : List ℕ)
    → maxval ≤ 32767
    → kept ≡ min n 65535
    → sample ≡ pos (min kept maxval)
    → HoldsNumbers maxval above samples numbers
    → HoldsNumbers maxval (above || nat_lt maxval kept) (samples ++ sample ∷ []) (numbers ++ n ∷ [])
filled_more maxval n kept above samples sample numbers low least is filled =
    let each :
    all_up_to maxval (numbers ++ n ∷ []) ≡ (all_up_to maxval numbers && (nat_le n maxval && true)) =
    list_all-append (λ m. nat_le m maxval) numbers (n ∷ []) in
    record {
      above = grind (arith, nat_tests, filled.above, each);
      samples = λ none.
          let before : above ≡ false = grind (arith, nat_tests, none) in
          let now : min kept maxval ≡ n = grind (arith, nat_tests, none) in
          cc (filled.samples before, is, now, map-append pos numbers (n ∷ []));
    }

-- one more was written
pub filling_more :
    (take : List ℕ → BeginsWith ℕ) (is_end : List ℕ → Bool) (maxval left kept : ℕ)
    (above : Bool) (samples : List ℤ) (sample : ℤ) (rest others : List ℕ)
    (whole : Option (List ℕ))
    → 0 < left
    → maxval ≤ 32767
    → TakesNumber (take rest) kept others
    → sample ≡ pos (min kept maxval)
    → LeftToFill take is_end maxval above samples left rest whole
    → LeftToFill take is_end maxval (above || nat_lt maxval kept) (samples ++ sample ∷ [])
    (left - 1) others whole
filling_more take is_end maxval left kept above samples sample rest others whole some low took
    is (numbers, filled, whole_is) = (
      numbers ++ took.number ∷ [],
      filled_more maxval took.number kept above samples sample numbers low took.least is filled,
      so_many-more take is_end left took.number numbers rest others whole some whole_is took.is,
    )

-- a number was written over the sample at index
pub filling_set :
    {T : Type 0} (value : T → ℤ) (take_one : List ℕ → BeginsWith ℕ) (is_end : List ℕ → Bool)
    (maxval kept index : ℕ) (high higher : Bool) (samples : List T) (sample : T)
    (rest others : List ℕ) (whole : Option (List ℕ))
    → index < length samples
    → maxval ≤ 32767
    → TakesNumber (take_one rest) kept others
    → value sample ≡ pos (min kept maxval)
    → (high || nat_lt maxval kept) ≡ higher
    → LeftToFill take_one is_end maxval high (map value (take index samples))
    (length samples - index) rest whole
    → LeftToFill take_one is_end maxval higher
    (map value (take (index + 1) (set samples index sample)))
    (length (set samples index sample) - (index + 1)) others whole
filling_set {T} value take_one is_end maxval kept index high higher samples sample rest others
    whole within low took is above before =
    let fewer : length (set samples index sample) - (index + 1) ≡ length samples - index - 1 =
    omega (arith, length-set {A = T}) in
    rw (
      ← above,
      take_more_set samples index sample within,
      map-append value (take index samples) (sample ∷ []),
      fewer,
    )
    (filling_more take_one is_end maxval (length samples - index) kept high
    (map value (take index samples)) (value sample) rest others whole (omega arith) low took is
    before)

-- all were written, the text ends, and none is above the maxval
pub filling_done :
    {A T : Type 0} (value : T → ℤ) (take_one : List ℕ → BeginsWith ℕ) (is_end : List ℕ → Bool)
    (maxval index : ℕ) (high : Bool) (samples : List T) (rest : List ℕ)
    (whole : Option (List ℕ)) (done : A)
    → length samples ≤ index → high ≡ false → is_end rest ≡ true
    → LeftToFill take_one is_end maxval high (map value (take index samples))
    (length samples - index) rest whole
    → Reads {A = A} (samples_up_to maxval whole) (map value samples) (Ok done)
filling_done value take_one is_end maxval index high samples rest whole done all low end
    (numbers, filled, is) =
    let none : length samples - index ≡ 0 = omega arith in
    let found : whole ≡ Some numbers =
    is
    ∙ ap (λ left. prepend numbers (take_count take_one is_end left rest)) none
    ∙ rw end (ap Some (append-nil numbers)) in
    let below : all_up_to maxval numbers ≡ true = grind (arith, filled.above, low) in
    let written : map value samples ≡ map pos numbers =
    ap (map value) (sym (take_all index samples all)) ∙ filled.samples low in
    record { ok = ap (samples_up_to maxval) found ∙ rw below (ap Ok (sym written)); err = tt }

-- no number was found
pub filling_none :
    (take_one : List ℕ → BeginsWith ℕ) (is_end : List ℕ → Bool) (maxval left : ℕ) (high : Bool)
    (written : List ℤ) (rest : List ℕ) (whole : Option (List ℕ))
    → 0 < left
    → take_one rest ≡ None
    → LeftToFill take_one is_end maxval high written left rest whole
    → whole ≡ None
filling_none take_one is_end maxval left high written rest whole some none (numbers, filled, is) =
    so_many-none take_one is_end left numbers rest whole some is none

pub none_left : (rest : List ℕ) → (length rest == 0) ≡ true → nothing_left rest ≡ true
none_left [] e = refl
none_left (b ∷ rest) e = grind (arith, nat_tests)

-- bytes that are one number each: as many as there are
pub bytes-many : (count : ℕ) (bytes : List ℕ)
    → length bytes ≡ count
    → take_count take_short_sample nothing_left count bytes ≡ Some bytes
bytes-many count [] e = rw (← e) refl
bytes-many count (b ∷ bytes) e = rw (← e, bytes-many (length bytes) bytes refl) refl

pub bytes-other : (count : ℕ) (bytes : List ℕ)
    → length bytes ≢ count
    → take_count take_short_sample nothing_left count bytes ≡ None
bytes-other zero [] e = absurd (e refl)
bytes-other zero (b ∷ bytes) e = refl
bytes-other (suc count) [] e = refl
bytes-other (suc count) (b ∷ bytes) e =
    ap (λ o. option_map (λ numbers. b ∷ numbers) o)
    (bytes-other count bytes (λ same. e (ap suc same)))

-- and no byte is above 255
pub bytes_low : (maxval : ℕ) (bytes : List ℕ)
    → 255 ≤ maxval
    → ((i : ℕ) → Fits w8 (get_or bytes i 0))
    → all_up_to maxval bytes ≡ true
bytes_low maxval [] high each = refl
bytes_low maxval (b ∷ bytes) high each =
    let first = (each 0).fits in
    rw (le-leb b maxval (omega (arith, first, high)))
    (bytes_low maxval bytes high (λ i. each (suc i)))

-- bytes that are the samples
pub bytes_read : {A : Type 0} (maxval count : ℕ) (bytes samples : List ℕ) (done : A)
    → length bytes ≡ count
    → samples ≡ bytes
    → all_up_to maxval bytes ≡ true
    → Reads {A = A}
    (samples_up_to maxval (take_count take_short_sample nothing_left count bytes))
    (map pos samples) (Ok done)
bytes_read maxval count bytes samples done long same low =
    record {
      ok =
          ap (samples_up_to maxval) (bytes-many count bytes long)
          ∙ rw low (ap (λ l. Ok (map pos l)) (sym same));
      err = tt;
    }
