-- The view of a `Shelf` (the blocks of one format), and the links between its free blocks.
use Rattle.std.specs.Prelude.{◌≡◌, ◌≤◌, ◌<◌, ℕ, ◌+◌, List, length, map, Some, IsSomeAnd, slice_index_or, vec_capacity}
use Rattle.slab.specs.Slab.{Slab, get, slab_len}
use Rattle.pixel_pool.specs.Classes.{class_size, class_count}
use Rattle.pixel_pool.specs.Free.{free_count}
use Rattle.pixel_pool.specs.declared.shelf.Free.{Free}
use Rattle.pixel_pool.specs.declared.stacks.Stack.{Stack}

-- the number of lent blocks, and the number of free blocks of each class
pub record ShelfValue : Type 0 where
  pub lent : ℕ
  pub free : List ℕ

-- the number of blocks, lent and free
abbrev pub block_count : ShelfValue → ℕ
block_count s = s.lent + free_count s.free

-- the height of each stack, in blocks
abbrev pub lengths : List Stack → List ℕ
lengths stacks = map (λ s. s.len) stacks

-- the empty stack
abbrev pub no_stack : Stack
no_stack = record { top = 0; len = 0 }

-- the stack of a class
abbrev pub stack_at : List Stack → ℕ → Stack
stack_at stacks class = slice_index_or stacks class no_stack

module _ {T : Type 0} where
  -- the block is of this class, and is the top of a stack of `len` blocks
  abbrev pub IsTopOf : ℕ → ℕ → Free T → Type 0
  IsTopOf class len block = (block.class ≡ class) × (block.under.len + 1 ≡ len)

  -- if the stack isn't empty, `top` is the key of a free block of the class, and the stack's other
  -- blocks are under this block
  abbrev pub IsStack : Slab (Free T) → ℕ → Stack → Type 0
  IsStack free class stack =
      0 < stack.len → IsSomeAnd (get free stack.top) (IsTopOf class stack.len)

  -- a block has memory for the samples of its class, and the block holds the part of the
  -- class's stack that is below the block
  pub record IsStacked (stacks : List Stack) (free : Slab (Free T)) (block : Free T) : Type 0 where
    pub capacity : class_size block.class ≤ vec_capacity block.samples
    pub capacity_known : block.capacity ≡ class_size block.class
    pub within : block.under.len < (stack_at stacks block.class).len
    pub linked : IsStack free block.class block.under

  -- the stacks of free blocks, one for each class. A stack holds the key of its top block, and each
  -- block holds the stack below it. No two blocks of a class are at the same height. The stacks
  -- together have as many blocks as the slab.
  pub record AreStacks (stacks : List Stack) (free : Slab (Free T)) : Type 0 where
    pub all : length stacks ≡ class_count
    pub tops : (class : ℕ) → IsStack free class (stack_at stacks class)
    pub each : (key : ℕ) (block : Free T) → get free key ≡ Some block → IsStacked stacks free block
    pub alone : (key other : ℕ) (block another : Free T)
        → get free key ≡ Some block
        → get free other ≡ Some another
        → block.class ≡ another.class → block.under.len ≡ another.under.len → key ≡ other
    pub counted : free_count (lengths stacks) ≡ slab_len free
