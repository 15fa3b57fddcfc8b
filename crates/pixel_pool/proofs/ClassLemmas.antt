-- Lemmas on size classes.
use Rattle.std.proofs.Common.{◌≡◌, ℕ, zero, suc, ◌+◌, ◌-◌, ◌*◌, ◌/◌, ◌^◌, ◌<◌, ◌≤◌, min, inl, inr, refl, add-zero, add-one, add-suc, arith}
use Rattle.std.proofs.lemmas.Bool.{cases_lt}
use Rattle.std.proofs.Math.Nat.{pow-le-pow_right}
use Rattle.pixel_pool.specs.Classes.{class_step, class_size, class_count, FitsIn}

-- the capacity of a class is not far above that of the class below it
pub step_small : (class : ℕ) → class < class_count → class_step class ≤ 2 ^ 23
step_small class below =
    let few : class / 8 - 1 ≤ 23 = omega arith in
    pow-le-pow_right {n = 2} (omega arith) {j = 23} few

pub capacity_zero : class_size 0 ≡ 0
unfolding class_size
capacity_zero = refl

pub capacity_suc : (class : ℕ) → class_size (suc class) ≡ class_size class + class_step class
unfolding class_size
capacity_suc class = refl

pub capacity_more : (class : ℕ) → class_size (class + 1) ≡ class_size class + class_step class
capacity_more class = rw add-one (capacity_suc class)

-- a greater class has no less capacity
pub capacity_rises : (class above : ℕ)
    → class ≤ class + above
    → class_size class ≤ class_size (class + above)
capacity_rises class zero within = rw add-zero (omega arith)
capacity_rises class (suc above) within =
    rw add-suc
    (omega (arith, capacity_rises class above (omega arith), capacity_suc (class + above)))

pub capacity_mono : (class other : ℕ) → class ≤ other → class_size class ≤ class_size other
capacity_mono class other within =
    let e : class + (other - class) ≡ other = omega arith in
    rw e at (capacity_rises class (other - class) (omega arith))

-- the capacity of a class can't overflow
pub capacity_small : (class : ℕ) → class ≤ class_count → class_size class ≤ class * 2 ^ 23
capacity_small zero within = omega (arith, capacity_zero)
capacity_small (suc class) within =
    omega (
      arith,
      capacity_suc class,
      step_small class (omega arith),
      capacity_small class (omega arith),
    )

-- the capacity of a class, for loops over classes
pub ruleset capacity_steps = (capacity_zero, capacity_more, capacity_mono, capacity_small)

pub capacity_one : 1 ≡ class_size 1
unfolding class_size
capacity_one = refl

-- the largest image fits in the last class
pub largest_capacity : class_size 192 ≡ 67108864
unfolding class_size
largest_capacity = refl

-- samples that fit in two capacities fit in any that isn't below the lesser of them
pub fits_least : (count one other capacity : ℕ)
    → FitsIn count one
    → FitsIn count other
    → min one other ≤ capacity
    → FitsIn count capacity
fits_least count one other capacity fits fits_other least small =
    elim (cases_lt one other) [
      | inl p ↦ let x = fits small in (x.0, x.1, x.2, omega (arith, x.3, p, least))
      | inr p ↦ let x = fits_other small in (x.0, x.1, x.2, omega (arith, x.3, p, least))
    ]

pub fits_more : (count one capacity : ℕ) → FitsIn count one → one ≤ capacity → FitsIn count capacity
fits_more count one capacity fits more small =
    let x = fits small in (x.0, x.1, x.2, omega (arith, x.3, more))
