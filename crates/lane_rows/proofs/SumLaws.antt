-- Sums that bytes, or their squares, are added to in lanes.
use Rattle.std.proofs.Common.{◌≡◌, inl, inr, ℕ, ℤ, pos, negsuc, suc, ◌+◌, ◌-◌, ◌%◌, ◌^◌, ◌<◌, ◌+ℤ◌, ◌*ℤ◌, List, [], ◌∷◌, length, map, cond, min, ltb, w8, w16, Fits, FitsSigned, to_z, of_z, refl, ap, ◌∙◌, sym, subst, arith, map-id, get_or, take_all}
use Rattle.std.specs.Simd.Lanes.{put_chunk}
use Rattle.lane_rows.proofs.Common.{zip2, chunk, Each1, Each1-from_get_or, length-map, length-zip2, put_chunk_whole, sel_l, number_l, digits_l, ints, clamps, cases_lt, to_z-of_z, to_z_pos, S16, Saturate, narrow, top, int_div_euclid}
use Rattle.vx_base.specs.Pixelwise.{accumulated_sum, accumulated_square}
use Rattle.lane_rows.proofs.LaneLaws.{products, product_lane, chosen_w16, smaller_lane}
use Rattle.lane_rows.proofs.DigitLaws.{recast}
use Rattle.lane_rows.proofs.Lanewise.{Lanewise, one, other, constant, each, both, chosen, items_are, pairs_are, each_is, length-all}

-- ---- sums that can grow

abbrev bits : Lanewise ℕ ℤ ℕ
bits = each (of_z w16) other

abbrev room : Lanewise ℕ ℤ ℕ
room = both (λ x y. (x + (65536 - y)) % 65536) (constant 32767) bits

abbrev less : ℕ → ℕ → ℕ
less x y = cond (ltb x y) 65535 0

abbrev added : Lanewise ℕ ℤ ℕ
added = chosen (top 15) (both less one room) one room

abbrev plus : ℕ → ℕ → ℕ
plus x y = (x + y) % 65536

abbrev after : Lanewise ℕ ℤ ℕ
after = both plus bits added

-- lanes of 16 bits by way of their bytes
abbrev in_bytes : List ℕ → List ℕ
in_bytes xs = digits_l 65536 16 (number_l 256 (digits_l 256 32 (number_l 65536 xs)))

same_bytes : (xs : List ℕ) → length xs ≡ 16 → Each1 (λ x. x < 65536) xs → in_bytes xs ≡ xs
same_bytes xs long small = recast 65536 65536 32 16 xs xs refl long small refl

-- ---- at one lane

clamp_pos : (n : ℕ) → pos (min n 32767) ≡ narrow S16 Saturate (pos n)
clamp_pos n = grind (arith, ints, clamps)

clamp_negative : (n : ℕ) → n < 32768 → negsuc n ≡ narrow S16 Saturate (negsuc n)
clamp_negative n small = grind (arith, ints, clamps, small)

abbrev left : ℕ → ℕ
left y = (32767 + (65536 - y)) % 65536

sum_is : (a : ℕ) (c : ℤ)
    → a < 65536
    → FitsSigned w16 c
    → to_z w16 (plus (of_z w16 c) (min a (left (of_z w16 c)))) ≡ accumulated_sum S16 (pos a) c
sum_is a (pos n) small f =
    let e = f.sfits in
    let v : (n + min a ((32767 + (65536 - n)) % 65536)) % 65536 ≡ min (n + a) 32767 =
    omega (arith, small, e) in
    rw v (to_z_pos w16 (min (n + a) 32767) (omega arith) ∙ clamp_pos (n + a))
sum_is a (negsuc n) small f =
    let e = f.sfits in
    elim (cases_lt n a) [
      | inl more ↦ (
          let v :
          (65536 - suc n + min a ((32767 + (65536 - (65536 - suc n))) % 65536)) % 65536
          ≡ min (a - suc n) 32767 =
          omega (arith, small, e, more) in
          let z : negsuc n +ℤ pos a ≡ pos (a - suc n) = omega (arith, ints, more) in
          rw (v, z) (to_z_pos w16 (min (a - suc n) 32767) (omega arith) ∙ clamp_pos (a - suc n)))
      | inr less ↦ (
          let v :
          (65536 - suc n + min a ((32767 + (65536 - (65536 - suc n))) % 65536)) % 65536
          ≡ 65536 - suc (n - a) =
          omega (arith, small, e, less) in
          let z : negsuc n +ℤ pos a ≡ negsuc (n - a) = omega (arith, ints, less) in
          rw (v, z)
          (to_z-of_z w16 (negsuc (n - a)) (record { sfits = omega (arith, e) })
          ∙ clamp_negative (n - a) (omega (arith, e))))
    ]

min_at : (x y : ℕ) → cond (top 15 (less x y)) x y ≡ min x y
min_at x y = chosen_w16 (ltb x y) x y ∙ smaller_lane x y

added_below : (a : ℕ) (c : ℤ)
    → a < 65536
    → cond (top 15 (less a (left (of_z w16 c)))) a (left (of_z w16 c)) < 65536
added_below a c small =
    subst (λ n. n < 65536) (sym (min_at a (left (of_z w16 c))))
    (let e : min a (left (of_z w16 c)) < 65536 = omega (arith, small) in e)

after_is : (a : ℕ) (c : ℤ)
    → Fits w16 a
    → FitsSigned w16 c
    → to_z w16
    (plus (of_z w16 c) (cond (top 15 (less a (left (of_z w16 c)))) a (left (of_z w16 c))))
    ≡ accumulated_sum S16 (pos a) c
after_is a c p f =
    ap (λ n. to_z w16 (plus (of_z w16 c) n)) (min_at a (left (of_z w16 c))) ∙ sum_is a c p.fits f

-- ---- in lanes

module _ (xs : List ℕ) (cs : List ℤ) (p : (length xs ≡ 16) × Each1 (Fits w16) xs)
    (long : length cs ≡ 16) (fs : Each1 (FitsSigned w16) cs) where
  abbrev sums : List ℕ → List ℕ
  sums ys = zip2 plus (map (of_z w16) cs) ys

  abbrev least : List ℕ → List ℕ
  least ys = sel_l (map (top 15) (zip2 less xs ys)) xs ys

  room_same : in_bytes (room.all 16 xs cs) ≡ room.all 16 xs cs
  room_same =
      same_bytes (room.all 16 xs cs) (length-all room 16 xs cs p.0 long)
      (each_is room (Fits w16) (FitsSigned w16) (λ x. x < 65536) 16 xs cs p.0 long p.1 fs
      (λ a c f g. omega arith))

  accumulated_are :
      map (to_z w16) (sums (in_bytes (least (in_bytes (room.all 16 xs cs)))))
      ≡ zip2 (accumulated_sum S16) (map pos xs) cs
  accumulated_are =
      ap (λ l. map (to_z w16) (sums (in_bytes (least l)))) room_same
      ∙ ap (λ l. map (to_z w16) (sums l))
      (same_bytes (added.all 16 xs cs) (length-all added 16 xs cs p.0 long)
      (each_is added (Fits w16) (FitsSigned w16) (λ x. x < 65536) 16 xs cs p.0 long p.1 fs
      (λ a c f g. added_below a c f.fits)))
      ∙ pairs_are after (Fits w16) (FitsSigned w16) (to_z w16) pos (λ c. c)
      (accumulated_sum S16) 16 xs cs p.0 long p.1 fs after_is
      ∙ ap (zip2 (accumulated_sum S16) (map pos xs)) (map-id cs)

  -- what is stored
  pub sums_stored : (old : List ℤ)
      → cs ≡ map (λ z. z) old
      → put_chunk 0 old (map (to_z w16) (sums (in_bytes (least (in_bytes (room.all 16 xs cs))))))
      ≡ zip2 (accumulated_sum S16) (map pos xs) old
  sums_stored old is =
      let same : cs ≡ old = is ∙ map-id old in
      let made =
      ap length accumulated_are
      ∙ length-zip2 (accumulated_sum S16) (map pos xs) cs (length-map xs pos ∙ p.0 ∙ sym long)
      ∙ length-map xs pos
      ∙ p.0 in
      put_chunk_whole old _ (ap length (sym same) ∙ long ∙ sym made)
      ∙ accumulated_are
      ∙ ap (zip2 (accumulated_sum S16) (map pos xs)) same

-- ---- squares of bytes over a power of two

of_squares : (k : ℕ) (zs cs : List ℤ)
    → zip2 (accumulated_sum S16) (map (λ a. int_div_euclid (a *ℤ a) (pos (2 ^ k))) zs) cs
    ≡ zip2 (accumulated_square S16 k) zs cs
of_squares k [] cs = refl
of_squares k (z ∷ zs) [] = refl
of_squares k (z ∷ zs) (c ∷ cs) = ap (λ l. accumulated_square S16 k z c ∷ l) (of_squares k zs cs)

pub squares_added : (k : ℕ) (xs : List ℕ) (cs : List ℤ)
    → length xs ≡ 16
    → ((i : ℕ) → Fits w8 (get_or xs i 0))
    → zip2 (accumulated_sum S16) (map pos ((products k).all 16 (chunk 0 16 xs) (chunk 0 16 xs))) cs
    ≡ zip2 (accumulated_square S16 k) (map pos xs) cs
squares_added k xs cs long fits =
    ap (λ l. zip2 (accumulated_sum S16) (map pos ((products k).all 16 l l)) cs)
    (take_all 16 xs (omega (arith, long)))
    ∙ ap (λ l. zip2 (accumulated_sum S16) l cs)
    (items_are (products k) (Fits w8) pos pos (λ a. int_div_euclid (a *ℤ a) (pos (2 ^ k))) 16 xs
    long (Each1-from_get_or (Fits w8) xs 0 (λ i _. fits i))
    (λ x f. ap pos (product_lane x x k k refl f f)))
    ∙ of_squares k (map pos xs) cs

pub ruleset square_lanes = (squares_added, map-id)
