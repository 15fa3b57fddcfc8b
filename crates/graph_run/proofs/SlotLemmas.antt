-- Slots of a plan: their indices and sizes.
use Rattle.std.proofs.Common.{◌≡◌, ℕ, ◌+◌, ◌<◌, ◌≤◌, List, [], ◌∷◌, ◌++◌, map, length, suc, Some, inl, inr, refl, ap, ◌∙◌, arith, IfSome, slice_get, is_some, unwrap_or, eq-eqb, length-append}
use Rattle.graph_run.proofs.Common.{range_with_len, list_any, nat_tests, length-map-range_with_len, slice_get-get_or, Format, Reference, same_reference, sample_count, VirtualOutput, Node, In, any-from_In, In-filter, In-map, IsPlan, PlanView, slot_index, slot_index_of, planned_capacities}
use Rattle.std.proofs.lemmas.List.FromFn.{get_or-map-range_with_len}
use Rattle.buffer_plan.specs.Slots.{maximum_of, IsValid}
use Rattle.buffer_plan.proofs.PlanLemmas.{same_format-refl}
use Rattle.graph_run.specs.Slots.{capacities_for}

-- ---- elements by index

module _ {X : Type 0} where
  get_left : (xs ys : List X) (k : ℕ) → k < length xs → slice_get (xs ++ ys) k ≡ slice_get xs k
  get_left (x ∷ xs) ys (suc k) below = get_left xs ys k (omega (arith, below))
  get_left x ys k below = grind arith

  get_right : (xs ys : List X) (n k : ℕ)
      → length xs ≡ n
      → slice_get (xs ++ ys) (n + k) ≡ slice_get ys k
  get_right [] ys n k long = let same : n + k ≡ k = omega (arith, long) in ap (slice_get ys) same
  get_right (x ∷ xs) ys n k long = grind (arith, get_right xs ys (length xs) k refl)

  get_made : (f : ℕ → X) (n k : ℕ) → k < n → slice_get (map f (range_with_len 0 n)) k ≡ Some (f k)
  get_made f n k below =
      let long : length (map f (range_with_len 0 n)) ≡ n = length-map-range_with_len f 0 n in
      slice_get-get_or (map f (range_with_len 0 n)) k (f k) (omega (arith, long, below))
      ∙ ap (λ x. Some x) (get_or-map-range_with_len f 0 n k k (f k) below (omega arith))

-- ---- the indices of slots

module _ (p : PlanView) where
  long : (format : Format) → length (capacities_for p format) ≡ p.slot_count format
  long format =
      length-map-range_with_len
      (λ k. let room : Format × ℕ = (format, p.slot_samples format k) in room) 0
      (p.slot_count format)

  made_at : (format : Format) (k : ℕ)
      → k < p.slot_count format
      → slice_get (capacities_for p format) k ≡ Some (format, p.slot_samples format k)
  made_at format k below =
      get_made (λ j. let room : Format × ℕ = (format, p.slot_samples format j) in room)
      (p.slot_count format) k below

  -- the size of a slot
  pub planned_at : (format : Format) (k : ℕ) → k < p.slot_count format
      → slice_get (planned_capacities p) (slot_index p format k)
      ≡ Some (format, p.slot_samples format k)
  planned_at z0 k below = grind (arith, get_left, long, length-append, made_at, get_right)

-- ---- the slots of virtual images

below_greatest : (n : ℕ) (ns : List ℕ) → In n ns → n ≤ maximum_of ns
below_greatest n [] i = absurd i
below_greatest n (m ∷ ns) (inl same) = grind (arith, nat_tests)
below_greatest n (m ∷ ns) (inr i) = grind (arith, nat_tests, below_greatest n ns i)

-- a slot of the image's format that is large enough for it
pub record HasSlot (p : PlanView) (o : VirtualOutput) : Type 0 where
  pub slot : ℕ
  pub is : p.slot_of o.cell ≡ Some slot
  pub below : slot < p.slot_count o.desc.format
  pub room : sample_count o.desc ≤ p.slot_samples o.desc.format slot

-- slots as in a plan that are large enough for each image
pub record HasSlots (steps : List Node) (outs : List VirtualOutput) (p : PlanView) : Type 0 where
  pub given : (cell : Reference)
      → is_some (p.slot_of cell) ≡ list_any (λ o. same_reference o.cell cell) outs
  pub valid : IsValid steps outs p.slot_of
  pub below : (o : VirtualOutput)
      → In o outs
      → IfSome (p.slot_of o.cell) (λ k. k < p.slot_count o.desc.format)
  pub room : (o : VirtualOutput)
      → In o outs
      → IfSome (p.slot_of o.cell) (λ k. sample_count o.desc ≤ p.slot_samples o.desc.format k)

-- a plan's slots hold the greatest of their images
pub planned_slots : (steps : List Node) (outs : List VirtualOutput) (p : PlanView)
    → IsPlan steps outs p
    → HasSlots steps outs p
planned_slots steps outs p plan =
    grind (arith, In-filter, same_format-refl, eq-eqb, below_greatest, In-map)

module _ (steps : List Node) (outs : List VirtualOutput) (p : PlanView)
    (plan : HasSlots steps outs p) where
  pub has_slot : (o : VirtualOutput) → In o outs → HasSlot p o
  has_slot o i = grind (arith, any-from_In)

  pub home_at : (o : VirtualOutput) (h : HasSlot p o)
      → slot_index_of p o ≡ slot_index p o.desc.format h.slot
  home_at o h = ap (λ s. slot_index p o.desc.format (unwrap_or s 0)) h.is

  -- images at the same index share a slot
  pub one_home : (a b : VirtualOutput)
      → In a outs
      → In b outs
      → slot_index_of p a ≡ slot_index_of p b
      → (a.desc.format ≡ b.desc.format) × (p.slot_of a.cell ≡ p.slot_of b.cell)
  one_home a b i j same = grind (arith, has_slot, home_at)
