-- Gradients in lanes.
use Rattle.std.proofs.Common.{◌≡◌, ℕ, ℤ, pos, ◌+◌, ◌-◌, ◌*◌, ◌%◌, ◌<◌, ◌≤◌, ◌-ℤ◌, List, [], ◌∷◌, length, map, refl, ap, ◌∙◌, sym, arith, w8, w16, to_z, Fits, subst}
use Rattle.lane_rows.proofs.Common.{range_with_len, zip2, ints, put_chunk_whole, Each1}
use Rattle.std.specs.Prelude.{slice_index}
use Rattle.std.specs.Simd.Lanes.{put_chunk}
use Rattle.vx_base.specs.Image.{run}
use Rattle.vx_base.specs.Window.{gradient_x, gradient_y}
use Rattle.vx_base.proofs.TableLaws.{length-run}
use Rattle.lane_rows.specs.Windows.{lanes_of, three_of, nine_of, change}
use Rattle.lane_rows.specs.declared.nine_rows.Three.{Three}

-- the bits of signed lanes are added and subtracted modulo 2 ^ 16
abbrev plus : ℕ → ℕ → ℕ
plus a b = (a + b) % 65536

abbrev minus : ℕ → ℕ → ℕ
minus a b = (a + (65536 - b)) % 65536

signed : (p q : ℕ) → p ≤ 1020 → q ≤ 1020 → to_z w16 ((65536 + p - q) % 65536) ≡ pos p -ℤ pos q
signed p q small_p small_q = grind (arith, ints)

bits : (a b c d e f : ℕ) → a < 256 → b < 256 → c < 256 → d < 256 → e < 256 → f < 256
    → plus (plus (minus d a) (plus (minus e b) (minus e b))) (minus f c)
    ≡ (65536 + (d + f + 2 * e) - (a + c + 2 * b)) % 65536
bits a b c d e f ha hb hc hd he hf = omega arith

lane : (a b c d e f : ℕ) → Fits w8 a → Fits w8 b → Fits w8 c → Fits w8 d → Fits w8 e → Fits w8 f
    → to_z w16 (plus (plus (minus d a) (plus (minus e b) (minus e b))) (minus f c))
    ≡ change (a, b, c) (d, e, f)
lane a b c d e f p q r s t u =
    ap (to_z w16) (bits a b c d e f p.fits q.fits r.fits s.fits t.fits u.fits)
    ∙ signed (d + f + 2 * e) (a + c + 2 * b) (omega (arith, s.fits, t.fits, u.fits))
    (omega (arith, p.fits, q.fits, r.fits))
    ∙ omega (arith, ints)

abbrev pub AreBytes : List ℕ × List ℕ × List ℕ → Type 0
AreBytes p = Each1 (Fits w8) p.0 × Each1 (Fits w8) p.1 × Each1 (Fits w8) p.2

-- the weighted sum of three vectors of bytes minus that of three others
abbrev lanes : (from to : List ℕ × List ℕ × List ℕ) → List ℤ
lanes from to =
    let less : List ℕ → List ℕ → List ℕ = λ xs ys. zip2 minus (map (λ n. n) xs) (map (λ n. n) ys) in
    map (to_z w16)
    (zip2 plus (zip2 plus (less to.0 from.0) (zip2 plus (less to.1 from.1) (less to.1 from.1)))
    (less to.2 from.2))

abbrev items : Three → List ℕ → List ℕ × List ℕ × List ℕ
items rows ks = (
  map (slice_index rows.left.now) ks,
  map (slice_index rows.middle.now) ks,
  map (slice_index rows.right.now) ks,
)

abbrev changed : Three → Three → ℕ → ℤ
changed from to i = change (three_of from i) (three_of to i)

by_lanes : (from to : Three) (ks : List ℕ)
    → AreBytes (items from ks)
    → AreBytes (items to ks)
    → lanes (items from ks) (items to ks) ≡ map (changed from to) ks
by_lanes from to [] p q = refl
by_lanes from to (k ∷ ks) p q =
    cc (
      lane _ _ _ _ _ _ p.0.0 p.1.0 p.2.0 q.0.0 q.1.0 q.2.0,
      by_lanes from to ks (p.0.1, p.1.1, p.2.1) (q.0.1, q.1.1, q.2.1),
    )

-- what is stored of 32 indices
pub changes_stored : (from to : Three) (index : ℕ) (out : List ℤ) (p q : List ℕ × List ℕ × List ℕ)
    → length out ≡ 32
    → p ≡ lanes_of from index
    → q ≡ lanes_of to index
    → AreBytes p
    → AreBytes q
    → put_chunk 0 out (lanes p q) ≡ run index 32 (changed from to)
changes_stored from to index out p q room pp qq fp fq =
    let is : lanes p q ≡ run index 32 (changed from to) =
    rw (pp, qq)
    (by_lanes from to (range_with_len index 32) (subst AreBytes pp fp) (subst AreBytes qq fq))
    in
    put_chunk_whole out (lanes p q)
    (room ∙ sym (ap length is ∙ length-run (changed from to) index 32))
    ∙ is

pub x_is_x : (above here below : ℕ × ℕ × ℕ)
    → change (above.0, here.0, below.0) (above.2, here.2, below.2)
    ≡ gradient_x (nine_of above here below)
x_is_x above here below = omega (arith, ints)

pub y_is_y : (above here below : ℕ × ℕ × ℕ)
    → change above below ≡ gradient_y (nine_of above here below)
y_is_y above here below = omega (arith, ints)
