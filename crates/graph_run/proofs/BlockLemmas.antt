-- Blocks of a pool for slots, and the places of these.
use Rattle.buffer_plan.specs.Lives.{is_live}
use Rattle.std.proofs.Common.{rules, ◌≡◌, ◌≢◌, ℕ, zero, suc, ◌+◌, ◌*◌, ◌≤◌, ◌<◌, ◌⊎◌, List, [], ◌∷◌, ◌++◌, length, map, get_or, drop, take, refl, sym, ap, ◌∙◌, arith, sum_by, slice_set, append_assoc, Option, Some, None, length-append}
use Rattle.graph_run.specs.Slots.{capacities_for, slot_total}
use Rattle.graph_run.proofs.Common.{length-map-range_with_len, range_with_len, map-append, VirtualOutput, Node, Format, S16, U32, U8, IsPlan, PlanView, slot_index, planned_capacities, take_more, Samples, samples_format, values, blocks_of, lent_of}
use Rattle.std.proofs.lemmas.List.{append-nil, drop_all, drop_more, get_or_default, get_or-map, length-map, take_all}
use Rattle.std.proofs.lemmas.List.FromFn.{map-range_with_len_more}
use Rattle.std.proofs.lemmas.List.Sums.{sum_by_push, sum_by-append, sum_by-cons, length-filter, count_by-le-length}
use Rattle.buffer_plan.specs.Slots.{IsPeak, of_format}
use Rattle.pixel_pool.specs.Block.{BlockValue}
use Rattle.pixel_pool.specs.declared.pool.Pool.{Pool}
use Rattle.pixel_pool.specs.Pool.{one_of, KeepsOtherFree, Lends}
use Rattle.graph_steps.specs.Planes.{PlaneValue, plane}
use Rattle.graph_steps.specs.Steps.{capacities, capacity}
use Rattle.graph_run.proofs.ListLemmas.{rest_at}
use Rattle.graph_run.specs.Blocks.{blocks_of_format, block_size, capacity_count, lent_size, samples_size}

-- ---- places

-- a format has at most as many slots as images
slots_le : (steps : List Node) (outs : List VirtualOutput) (p : PlanView)
    → IsPlan steps outs p
    → (f : Format)
    → p.slot_count f ≤ length (of_format f outs)
slots_le steps outs p plan f = by_first (p.peak_step f) (plan.peak f)
  where
    by_first : (first : Option ℕ)
        → IsPeak steps outs f (p.slot_count f) first
        → p.slot_count f ≤ length (of_format f outs)
    by_first None peak = omega (arith, peak.none refl)
    by_first (Some step) peak =
        grind (
          arith,
          peak.some step refl,
          length-filter (λ o. is_live steps o.cell step) (of_format f outs),
          count_by-le-length (λ o. is_live steps o.cell step) (of_format f outs),
        )

formats_le : (outs : List VirtualOutput)
    → length (of_format U8 outs) + length (of_format S16 outs) + length (of_format U32 outs) ≤
    length outs
formats_le [] = omega arith
formats_le (o ∷ outs) = grind (arith, formats_le outs)

-- there are at most as many slots as images
pub slots_total : (steps : List Node) (outs : List VirtualOutput) (p : PlanView)
    → IsPlan steps outs p
    → slot_total p ≤ length outs
slots_total steps outs p plan =
    omega (
      arith,
      slots_le steps outs p plan U8,
      slots_le steps outs p plan S16,
      slots_le steps outs p plan U32,
      formats_le outs,
    )

-- the places of a format's slots follow each other
pub place_more : (p : PlanView) (f : Format) (k : ℕ) → slot_index p f k ≡ slot_index p f 0 + k
place_more p f k = grind arith

-- as many capacities more as the format has slots
pub capacities_counted : (p : PlanView) (f : Format) (before after : List (Format × ℕ))
    → after ≡ before ++ capacities_for p f
    → length after ≡ length before + p.slot_count f
capacities_counted p f before after capacities =
    grind (arith, length-map-range_with_len, length-append)

-- ---- one more

-- a room more of a format
pub slots_more : (format : Format) (room : ℕ → ℕ) (k n : ℕ) (before capacities : List (Format × ℕ))
    → capacities ≡ before ++ map (λ j. (format, room j)) (range_with_len 0 k)
    → n ≡ room k
    → capacities ++ (format, n) ∷ []
    ≡ before ++ map (λ j. (format, room j)) (range_with_len 0 (k + 1))
slots_more format room k n before capacities are count =
    grind (
      arith,
      append_assoc,
      map-range_with_len_more (λ (j : ℕ). let r : Format × ℕ = (format, room j) in r) 0 k k,
    )

-- a block more has its room
pub sizes_more :
    (size_of : BlockValue → Format × ℕ) (capacities : List (Format × ℕ))
    (blocks : List BlockValue) (b : BlockValue) (k : ℕ) (d : Format × ℕ)
    → k < length capacities
    → size_of b ≡ get_or capacities k d
    → map size_of blocks ≡ take k capacities
    → map size_of (blocks ++ b ∷ []) ≡ take (k + 1) capacities
sizes_more size_of capacities blocks b k d below is sizes = search (rules, map-append, take_more)

pub lends_more : (blocks : List BlockValue) (b : BlockValue) (format : Format)
    → samples_format b.samples ≡ format
    → (old now new : Pool) (f : Format)
    → Lends now new format
    → lent_of now f ≡ lent_of old f + blocks_of_format blocks f
    → lent_of new f ≡ lent_of old f + blocks_of_format (blocks ++ b ∷ []) f
lends_more blocks b format format_is old now new f lends before = grind (arith, sum_by_push)

-- two formats are one or not
formats : (f g : Format) → ((f ≡ g) × (one_of g f ≡ 1)) ⊎ ((f ≢ g) × (one_of g f ≡ 0))
formats f g = grind arith

-- a block that is taken adds at most one
pub taken_adds : (old new : Pool) (format : Format)
    → Lends old new format
    → blocks_of new format ≤ blocks_of old format + 1
    → KeepsOtherFree old new format
    → (f : Format) → blocks_of new f ≤ blocks_of old f + one_of format f
taken_adds old new format lends most others f = grind (arith, formats)

-- the capacities that are left, of which this is the first
pub capacities_left : (capacities : List (Format × ℕ)) (k : ℕ) (r d : Format × ℕ)
    → k < length capacities
    → r ≡ get_or capacities k d
    → (f : Format)
    → capacity_count (drop k capacities) f
    ≡ one_of r.0 f + capacity_count (drop (k + 1) capacities) f
capacities_left capacities k r d below is f =
    grind (
      arith,
      rest_at capacities k r d below is,
      sum_by-cons (λ (x : Format × ℕ). one_of x.0 f) r (drop (k + 1) capacities),
    )

-- ---- blocks that come back

-- a sum over what is told of items
sum_told : {X Y : Type 0} (told_of : X → Y) (g : Y → ℕ) (xs : List X)
    → sum_by (λ x. g (told_of x)) xs ≡ sum_by g (map told_of xs)
sum_told told_of g [] = refl
sum_told told_of g (x ∷ xs) =
    sum_by-cons (λ y. g (told_of y)) x xs
    ∙ ap (λ n. g (told_of x) + n) (sum_told told_of g xs)
    ∙ sym (sum_by-cons g (told_of x) (map told_of xs))

-- blocks of the same formats are as many
pub counts_stay : (old new : List BlockValue)
    → map lent_size new ≡ map lent_size old
    → (f : Format)
    → blocks_of_format new f ≡ blocks_of_format old f
counts_stay old new same f =
    let one : Format × ℕ → ℕ = λ r. one_of r.0 f in
    sum_told lent_size one new ∙ ap (sum_by one) same ∙ sym (sum_told lent_size one old)

-- a vector that was lent as a slice holds the slice's items
pub written_back : {X : Type 0} (old new : List X) (n : ℕ)
    → length new ≡ length old
    → n ≡ length old
    → take n (new ++ drop (length new) old) ≡ new
written_back old new n long all = grind (arith, drop_all, append-nil, take_all)

-- ---- blocks by a plan

capacities_count : (format f : Format) (room : ℕ → ℕ) (from count : ℕ)
    → sum_by (λ (r : Format × ℕ). one_of r.0 f)
    (map (λ k. (format, room k)) (range_with_len from count))
    ≡ count * one_of format f
capacities_count format f room from zero = omega arith
capacities_count format f room from (suc count) =
    grind (
      arith,
      sum_by-cons (λ (r : Format × ℕ). one_of r.0 f) (format, room from)
          (map (λ k. (format, room k)) (range_with_len (from + 1) count)),
      capacities_count format f room (from + 1) count,
    )

-- as many capacities of a format as it has slots
pub planned_count : (p : PlanView) (f : Format)
    → capacity_count (planned_capacities p) f ≡ p.slot_count f
planned_count p f =
    grind (
      arith,
      sum_by-append (λ (r : Format × ℕ). one_of r.0 f)
          (capacities_for p U8 ++ capacities_for p S16) (capacities_for p U32),
      sum_by-append (λ (r : Format × ℕ). one_of r.0 f) (capacities_for p U8) (capacities_for p S16),
      capacities_count U8 f (p.slot_samples U8) 0 (p.slot_count U8),
      capacities_count S16 f (p.slot_samples S16) 0 (p.slot_count S16),
      capacities_count U32 f (p.slot_samples U32) 0 (p.slot_count U32),
    )

-- as many blocks of a format as capacities
pub blocks_counted : (blocks : List BlockValue) (capacities : List (Format × ℕ))
    → map block_size blocks ≡ capacities
    → (f : Format)
    → blocks_of_format blocks f ≡ capacity_count capacities f
blocks_counted blocks capacities are f =
    sum_told block_size (λ (r : Format × ℕ). one_of r.0 f) blocks
    ∙ ap (λ (l : List (Format × ℕ)). capacity_count l f) are

-- ---- planes of slots

abbrev size_of : PlaneValue → Format × ℕ
size_of p = (p.format, length p.samples)

-- the plane of one slot more, whose block is still in the list
pub planes_more :
    (old now : List BlockValue) (planes after : List PlaneValue) (p : PlaneValue) (k : ℕ)
    (b : BlockValue)
    → capacities planes ≡ map block_size (take k old)
    → drop k now ≡ drop k old
    → k < length now
    → length now ≡ length old
    → size_of p ≡ block_size (get_or now k b)
    → after ≡ planes ++ p ∷ []
    → capacities after ≡ map block_size (take (k + 1) old)
planes_more old now planes after p k b sizes rest below count size are =
    ap capacities are
    ∙ map-append size_of planes (p ∷ [])
    ∙ ap (λ l. l ++ size_of p ∷ []) sizes
    ∙ ap (λ r. map block_size (take k old) ++ r ∷ [])
    (size ∙ ap block_size (same_item old now k b rest below count))
    ∙ sym (map-append block_size (take k old) (get_or old k b ∷ []))
    ∙ ap (map block_size) (sym (take_more old k b (omega (arith, below, count))))
  where
    same_item : (old now : List BlockValue) (k : ℕ) (b : BlockValue)
        → drop k now ≡ drop k old
        → k < length now
        → length now ≡ length old
        → get_or now k b ≡ get_or old k b
    same_item old now k b rest below count =
        let first : List BlockValue → BlockValue = λ l. get_or l 0 b in
        ap first (sym (drop_more now k b below))
        ∙ ap first rest
        ∙ ap first (drop_more old k b (omega (arith, below, count)))

-- the blocks that are still to be given to planes
pub rest_more : (old now : List BlockValue) (k : ℕ) (b : BlockValue)
    → drop k now ≡ drop k old
    → drop (k + 1) (slice_set now k b) ≡ drop (k + 1) old
rest_more old now k b rest =
    let same : k + 1 ≡ suc k = omega arith in
    ap (λ n. drop n (slice_set now k b)) same
    ∙ drop_after now k b
    ∙ sym (drop_tail now k)
    ∙ ap tail rest
    ∙ drop_tail old k
    ∙ ap (λ n. drop n old) (sym same)
  where
    tail : {X : Type 0} → List X → List X
    tail [] = []
    tail (x ∷ l) = l

    drop_tail : {X : Type 0} (l : List X) (k : ℕ) → tail (drop k l) ≡ drop (suc k) l
    drop_tail [] zero = refl
    drop_tail [] (suc k) = refl
    drop_tail (x ∷ l) zero = refl
    drop_tail (x ∷ l) (suc k) = drop_tail l k

    drop_after : {X : Type 0} (l : List X) (k : ℕ) (x : X)
        → drop (suc k) (slice_set l k x) ≡ drop (suc k) l
    drop_after [] k x = refl
    drop_after (y ∷ l) zero x = refl
    drop_after (y ∷ l) (suc k) x = drop_after l k x

-- the samples that a plane gives back are those of its block
pub returned_size : (start planes : List PlaneValue) (k : ℕ) (b : Samples) (r : PlaneValue)
    → samples_format b ≡ (get_or planes k r).format
    → values b ≡ (get_or planes k r).samples
    → k < length planes
    → plane planes k ≡ plane start k
    → length planes ≡ length start
    → samples_size b ≡ capacity (capacities start) k
returned_size start planes k b r format value below here count =
    grind (arith, get_or_default, get_or-map)

-- they are as many as the pool lent in the block of the plane's slot
pub returned_fits :
    (old now : List BlockValue) (sizes : List (Format × ℕ)) (k : ℕ) (b : Samples) (x : BlockValue)
    → samples_size b ≡ capacity sizes k
    → take (length old) sizes ≡ map lent_size old
    → map lent_size now ≡ map lent_size old
    → k < length old
    → samples_size b ≡ lent_size (get_or now k x)
returned_fits old now sizes k b x gives fit same below =
    gives
    ∙ sym (get_or_take sizes k (length old) (U8, 0) below)
    ∙ ap (λ l. let r : Format × ℕ = get_or l k (U8, 0) in r) (fit ∙ sym same)
    ∙ get_or-map lent_size now k x (U8, 0)
    (omega
    (arith, below, sym (length-map now lent_size) ∙ ap length same ∙ length-map old lent_size))
  where
    get_or_take : {X : Type 0} (l : List X) (k n : ℕ) (d : X)
        → k < n
        → get_or (take n l) k d ≡ get_or l k d
    get_or_take [] k zero d inside = refl
    get_or_take [] k (suc n) d inside = refl
    get_or_take (y ∷ l) zero (suc n) d inside = refl
    get_or_take (y ∷ l) (suc k) (suc n) d inside = get_or_take l k n d (omega (arith, inside))
    get_or_take (y ∷ l) k zero d inside = absurd (omega (arith, inside))

-- one block more is back
pub back_more : (sizes : List (Format × ℕ)) (now : List BlockValue) (k : ℕ) (b : BlockValue)
    → map block_size (take k now) ≡ take k sizes
    → block_size b ≡ capacity sizes k
    → k < length now
    → k < length sizes
    → map block_size (take (k + 1) (slice_set now k b)) ≡ take (k + 1) sizes
back_more sizes now k b back size below inside =
    ap (map block_size) (take_set now k b below)
    ∙ map-append block_size (take k now) (b ∷ [])
    ∙ ap (λ l. l ++ block_size b ∷ []) back
    ∙ ap (λ r. take k sizes ++ r ∷ []) size
    ∙ sym (take_more sizes k (U8, 0) inside)
  where
    take_set : {X : Type 0} (l : List X) (k : ℕ) (x : X)
        → k < length l
        → take (k + 1) (slice_set l k x) ≡ take k l ++ x ∷ []
    take_set {X = X} l k x inside =
        ap (λ n. take n (slice_set l k x)) (let same : k + 1 ≡ suc k = omega arith in same)
        ∙ at l k x inside
      where
        at : (l : List X) (k : ℕ) (x : X)
            → k < length l
            → take (suc k) (slice_set l k x) ≡ take k l ++ x ∷ []
        at [] k x inside = absurd (omega (arith, inside))
        at (y ∷ l) zero x inside = refl
        at (y ∷ l) (suc k) x inside = ap (λ (m : List X). y ∷ m) (at l k x (omega (arith, inside)))
