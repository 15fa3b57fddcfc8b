-- Free blocks, given by the number of blocks of each class.
use Rattle.std.specs.Prelude.{◌≡◌, ◌≤◌, ◌<◌, ◌+◌, ◌-◌, ◌*◌, ℕ, zero, suc, List, slice_index, slice_set, sum_by}
use Rattle.pixel_pool.specs.Classes.{class_size, class_count, IsClassOf}

-- the number of free blocks
abbrev pub free_count : List ℕ → ℕ
free_count free = sum_by (λ n. n) free

-- there is a free block of the class
abbrev pub HasFree : List ℕ → ℕ → Type 0
HasFree free class = 0 < slice_index free class

-- there is a free block with at least `count` samples
abbrev pub HasBlockFor : List ℕ → ℕ → Type 0
HasBlockFor free count = (class : ℕ) × HasFree free class × (count ≤ class_size class)

-- the free blocks after one of this class is removed
abbrev pub without_one : List ℕ → ℕ → List ℕ
without_one free class = slice_set free class (slice_index free class - 1)

-- the free blocks after one of this class is added
abbrev pub with_one : List ℕ → ℕ → List ℕ
with_one free class = slice_set free class (slice_index free class + 1)

-- the smallest free block with at least `count` samples was taken
pub record UsesSmallest (count : ℕ) (old new : List ℕ) : Type 0 where
  pub class : ℕ
  pub free : HasFree old class
  pub fits : count ≤ class_size class
  pub smallest : (other : ℕ) → HasFree old other → count ≤ class_size other → class ≤ other
  pub used : new ≡ without_one old class

-- a block for `count` samples was lent: the smallest free one with as many, or if there is none, a
-- new one
pub record LendsSmallest (count : ℕ) (old new : List ℕ) : Type 0 where
  pub used : HasBlockFor old count → UsesSmallest count old new
  pub added : (HasBlockFor old count → ⊥) → new ≡ old

-- a block with memory for `memory` samples became free
pub record GetsFree (memory : ℕ) (old new : List ℕ) : Type 0 where
  pub class : ℕ
  pub is_class : IsClassOf memory class
  pub added : new ≡ with_one old class
  pub free : HasFree new class

-- the total number of samples of the free blocks of all classes below this one
unfoldable pub samples_below : List ℕ → ℕ → ℕ
samples_below free zero = 0
samples_below free (suc class) =
    samples_below free class + slice_index free class * class_size class

-- the number of free blocks and their total number of samples are within the limits
pub record IsTrim (free : List ℕ) : Type 0 where
  pub blocks : free_count free ≤ 16384
  pub samples : samples_below free class_count ≤ 67108864

-- no class has more free blocks than before
abbrev pub IsFewer : List ℕ → List ℕ → Type 0
IsFewer new old = (class : ℕ) → slice_index new class ≤ slice_index old class

-- a free block was dropped; its class was the greatest that had a free block
pub record DropsLargest (old new : List ℕ) : Type 0 where
  pub class : ℕ
  pub free : HasFree old class
  pub greatest : (other : ℕ) → HasFree old other → other ≤ class
  pub dropped : new ≡ without_one old class

-- the class has fewer free blocks than before
abbrev pub LosesBlocks : List ℕ → List ℕ → ℕ → Type 0
LosesBlocks old new class = slice_index new class < slice_index old class

-- a class loses blocks only if no greater class has any left
abbrev pub LosesLargestFirst : List ℕ → List ℕ → Type 0
LosesLargestFirst old new =
    (class other : ℕ) → LosesBlocks old new class → class < other → slice_index new other ≡ 0

-- a class loses blocks only if keeping one more of its blocks would exceed the limits
abbrev pub LosesNoMore : List ℕ → List ℕ → Type 0
LosesNoMore old new = (class : ℕ) → LosesBlocks old new class → IsTrim (with_one new class) → ⊥
