-- Classes of blocks by size. A size is a number of samples.
use Rattle.std.specs.Prelude.{ℕ, zero, suc, ◌+◌, ◌-◌, ◌/◌, ◌^◌, ◌≤◌, ◌<◌}

-- the size of the next class minus the size of this class. The difference is 1 if this class's size
-- is below 16. Otherwise it is an eighth of the greatest power of two that isn't above this class's
-- size.
abbrev pub class_step : ℕ → ℕ
class_step class = 2 ^ (class / 8 - 1)

-- the number of samples of a free block of a class: 0, 1, .., 16, 18, .., 32, 36, .., 64, 72, ..
unfoldable pub class_size : ℕ → ℕ
class_size zero = 0
class_size (suc class) = class_size class + class_step class

-- the number of classes; a block of the last has 67,108,864 samples
abbrev pub class_count : ℕ
class_count = 193

-- the class of a block with memory for `memory` samples: the greatest whose size isn't above this
pub record IsClassOf (memory class : ℕ) : Type 0 where
  pub class_known : class < class_count
  pub within : class_size class ≤ memory
  pub greatest : (other : ℕ) → other < class_count → class_size other ≤ memory → other ≤ class

-- a block with memory for `memory` samples has at least `count` samples once it is free, if any
-- class has as many
abbrev pub FitsIn : ℕ → ℕ → Type 0
FitsIn count memory =
    count ≤ class_size 192
    → (class : ℕ) × (class < class_count) × (count ≤ class_size class) × (class_size class ≤ memory)
