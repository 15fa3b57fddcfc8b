-- What the state of a client keeps, when an object is added, when some are no longer held and when
-- others are written.
use Rattle.std.proofs.Common.{◌≡◌, ℕ, ◌+◌, ◌<◌, ◌≤◌, Bool, true, false, IsTrue, List, [], ◌∷◌, ◌++◌, length, map, Some, if◌then◌else◌, refl, sym, ap, subst, ◌∙◌, arith, All, ◌&&◌, ◌||◌, not, nat_lt, nat_le, sum, filter}
use Rattle.client_model.proofs.Common.{IsStrictlyIncreasing, option_map, and_parts, or_cases, length-map, All-nil, All-push, All-filter, All-weaker, All-map, All-tail, find-append, list_any-append, IfSome_then, Reference, ObjectValue, IsObject, NamedObject, object_held, with_object, Context, with_objects, uses, is_used, is_held, still_held, skeleton, nodes_in, names_of, named_has, held_by_name, All-from_map, lasting_named, Lasts, IsReplacement, LimitsValue, NodesStand, KeepsLimits}
use Rattle.vx_base.specs.Object.{object_bytes}
use Rattle.object_table.specs.Context.{with_new, new_context, charge_of, can_insert}
use Rattle.client_model.specs.Context.{has_capacity}
use Rattle.std.specs.List.{flat_map}
use Rattle.std.proofs.lemmas.List.{length_push}
use Rattle.std.proofs.lemmas.List.Filters.{length-filter_both, sum_by-filter_both}
use Rattle.std.proofs.lemmas.List.Folds.{flat_map-map}
use Rattle.std.proofs.lemmas.List.Sums.{sum-map, sum_by_push}
use Rattle.object_table.specs.Uses.{used_names, name_count}
use Rattle.object_table.proofs.GraphLemmas.{is_used_there}
use Rattle.object_table.proofs.SkeletonLaws.{map-determined, bytes-skeleton}
use Rattle.graph_run.proofs.CellLemmas.{Lasts-with_object}
use Rattle.graph_run.proofs.LastingLemmas.{Lasting, nodes-last, held-lasts}
use Rattle.client_model.specs.States.{Stays}
use Rattle.client_model.proofs.NamedLaws.{increasing-filter, increasing-push}
use Rattle.client_model.proofs.HoldLaws.{OperandsStand, nodes_stand, stands-alike, stands_more, held_still, nodes_still}
use Rattle.object_table.proofs.HeldLemmas.{object_held-map}

-- a new context keeps the limits
pub new_context_keeps : (limits : LimitsValue) → KeepsLimits limits new_context
new_context_keeps limits = grind arith

-- ---- an object more

-- the meaning of `has_capacity`: a name is left, fewer than 1,024 objects are held, and the quota
-- allows the bytes
capacity_parts : (limits : LimitsValue) (c : Context) (bytes : ℕ)
    → IsTrue (has_capacity limits c bytes)
    → (c.next < 4294967296)
    × ((length c.objects < 1024) × (charge_of c.objects + bytes ≤ limits.quota))
capacity_parts limits c bytes h =
    grind (arith, and_parts (can_insert c) (nat_le (charge_of c.objects + bytes) limits.quota) h)

-- an object that is held stays held with one more object
held_more : (objects : List NamedObject) (new : NamedObject) (o : NamedObject)
    → IsTrue (is_held objects o)
    → IsTrue (is_held (objects ++ new ∷ []) o)
held_more objects new o h =
    grind (
      arith,
      or_cases o.live (is_used objects o.name) h,
      list_any-append (λ p. p.live && uses p.object o.name) objects (new ∷ []),
    )

-- a new object within the limits keeps them; a new graph has no nodes
pub with_new_keeps : (limits : LimitsValue) (c : Context) (object : ObjectValue)
    → KeepsLimits limits c
    → IsObject object
    → nodes_in object ≡ []
    → IsTrue (has_capacity limits c (object_bytes object))
    → KeepsLimits limits (with_new c object)
with_new_keeps limits c object h is none capacity =
    let o : NamedObject = record { name = c.next; live = true; object = object } in
    let after : List NamedObject = c.objects ++ o ∷ [] in
    let r = capacity_parts limits c (object_bytes object) capacity in
    record {
      objects = All-push (λ p. IsObject p.object) c.objects o h.objects is;
      names = increasing-push c.objects o h.below h.names;
      below =
          All-push (λ p. p.name < c.next + 1) c.objects o
          (All-weaker (λ p. p.name < c.next) (λ p. p.name < c.next + 1) (λ p less. omega arith)
          c.objects h.below)
          (omega arith);
      left = omega (arith, r.0);
      held =
          All-push (λ p. IsTrue (is_held after p)) c.objects o
          (All-weaker (λ p. IsTrue (is_held c.objects p)) (λ p. IsTrue (is_held after p))
          (held_more c.objects o) c.objects h.held)
          refl;
      nodes =
          All-push (NodesStand after) c.objects o
          (All-weaker (NodesStand c.objects) (NodesStand after)
          (λ p stood. nodes_stand c.objects after p.name (nodes_in p.object)
          (stands_more c.objects o p.name) stood)
          c.objects h.nodes)
          (subst (All (OperandsStand after c.next)) (sym none)
          (All-nil (OperandsStand after c.next)));
      count = omega (arith, r.1.0, length_push c.objects o);
      quota =
          omega
          (arith, r.1.1, sum_by_push (λ (p : NamedObject). object_bytes p.object) c.objects o);
    }

-- ---- what is no longer held

-- what a client's state keeps before what nothing holds is gone
pub record KeepsRest (limits : LimitsValue) (c : Context) : Type 0 where
  pub objects : All (λ o. IsObject o.object) c.objects
  pub names : IsStrictlyIncreasing (names_of c.objects)
  pub below : All (λ o. o.name < c.next) c.objects
  pub left : c.next ≤ 4294967296
  pub nodes : All (NodesStand c.objects) c.objects
  pub count : length c.objects ≤ 1024
  pub quota : charge_of c.objects ≤ limits.quota

-- what a client's state keeps once the others are gone
pub still_held_keeps : (limits : LimitsValue) (c : Context)
    → KeepsRest limits c
    → KeepsLimits limits (with_objects c (still_held c.objects))
still_held_keeps limits c h =
    let kept : NamedObject → Bool = is_held c.objects in
    let gone : NamedObject → Bool = λ o. not (is_held c.objects o) in
    record {
      objects = All-filter kept (λ o. IsObject o.object) c.objects h.objects;
      names = increasing-filter kept c.objects h.names;
      below = All-filter kept (λ o. o.name < c.next) c.objects h.below;
      left = h.left;
      held = held_still c.objects;
      nodes = nodes_still c.objects h.names h.nodes;
      count = omega (arith, h.count, length-filter_both kept gone (λ o. refl) c.objects);
      quota =
          omega (
            arith,
            h.quota,
            sum_by-filter_both kept gone (λ o. refl)
                (λ (o : NamedObject). object_bytes o.object) c.objects,
          );
    }

-- ---- what a request leaves

-- the limits; names go on; and what was made before and is held still has its skeleton, and but for
-- some names its nodes
pub record Leaves (limits : LimitsValue) (changes : ℕ → Bool) (c after : Context) : Type 0 where
  pub keeps : KeepsLimits limits after
  pub next : c.next ≤ after.next
  pub skeletons : (name : ℕ) → name < c.next → Stays skeleton c.objects after.objects name
  pub nodes : (name : ℕ)
      → name < c.next
      → changes name ≡ false
      → Stays nodes_in c.objects after.objects name

-- what is the same of all objects, of which some are no longer held, stays
still_held_stays :
    {X : Type 0} (part : ObjectValue → X) (before objects : List NamedObject) (name : ℕ)
    → IsStrictlyIncreasing (names_of objects)
    → option_map part (object_held objects name) ≡ option_map part (object_held before name)
    → Stays part before (still_held objects) name
still_held_stays part before objects name names same =
    IfSome_then (object_held (still_held objects) name)
    (named_has (λ n object. object_held objects n ≡ Some object) (still_held objects) name
    (All-filter (is_held objects) (λ o. object_held objects o.name ≡ Some o.object) objects
    (held_by_name objects names)))
    (λ object found. sym same ∙ ap (option_map part) found)

-- ---- objects that replace others

-- what holds of each element and depends on its image alone
pub All-alike : {X Y : Type 0} (f : X → Y) (P : Y → Type 0) (xs ys : List X)
    → map f ys ≡ map f xs
    → All (λ x. P (f x)) xs
    → All (λ y. P (f y)) ys
All-alike f P xs ys same h = All-from_map P f ys (subst (All P) (sym same) (All-map P f xs h))

-- where all elements pass, all are kept
filter_all : {X : Type 0} (p : X → Bool) (xs : List X) → All (λ x. p x ≡ true) xs → filter p xs ≡ xs
filter_all p [] h = refl
filter_all p (x ∷ xs) h =
    grind (arith, filter_all p xs (All-tail (λ y. p y ≡ true) x xs h), h 0 x (omega arith))

-- an object's name and skeleton
abbrev pub live_skeleton : NamedObject → NamedObject
live_skeleton o = record { name = o.name; live = true; object = skeleton o.object }

-- objects of the same names and skeletons
module _ (limits : LimitsValue) (c : Context) (others : List NamedObject)
    (h : KeepsLimits limits c) (same : map live_skeleton others ≡ map live_skeleton c.objects) where
  pub skeletons_told : (name : ℕ)
      → option_map skeleton (object_held others name)
      ≡ option_map skeleton (object_held c.objects name)
  skeletons_told name =
      sym (object_held-map live_skeleton skeleton others name (λ o. refl) (λ o e. refl))
      ∙ ap (λ l. object_held l name) same
      ∙ object_held-map live_skeleton skeleton c.objects name (λ o. refl) (λ o e. refl)

  rest_told : All (λ o. IsObject o.object) others
      → All (NodesStand c.objects) others
      → KeepsRest limits (with_objects c others)
  rest_told are stand =
      let bytes : NamedObject → ℕ = λ o. object_bytes o.object in
      let charge =
      map-determined live_skeleton bytes (λ o. object_bytes o.object)
      (λ o. bytes-skeleton o.object) others c.objects same in
      record {
        objects = are;
        names =
            subst IsStrictlyIncreasing
            (sym
            (map-determined live_skeleton (λ o. o.name) (λ o. o.name) (λ o. refl) others
            c.objects same))
            h.names;
        below = All-alike live_skeleton (λ o. o.name < c.next) c.objects others same h.below;
        left = h.left;
        nodes =
            All-weaker (NodesStand c.objects) (NodesStand others)
            (λ o. nodes_stand c.objects others o.name (nodes_in o.object)
            (λ operand stood. stands-alike others c.objects o.name operand
            (skeletons_told operand.0.name) ∙ stood))
            others stand;
        count =
            omega (
              arith,
              h.count,
              ap length same,
              length-map others live_skeleton,
              length-map
                  c.objects live_skeleton,
            );
        quota =
            omega (arith, h.quota, ap sum charge, sum-map bytes others, sum-map bytes c.objects);
      }

  module _ (changes : ℕ → Bool) (are : All (λ o. IsObject o.object) others)
      (stand : All (NodesStand c.objects) others)
      (nodes : (name : ℕ) → changes name
      ≡ false → option_map nodes_in (object_held others name)
      ≡ option_map nodes_in (object_held c.objects name))
    where
      -- a request leaves of them those that are held
      pub still_leaves : Leaves limits changes c (with_objects c (still_held others))
      still_leaves =
          let rest = rest_told are stand in
          record {
            keeps = still_held_keeps limits (with_objects c others) rest;
            next = omega arith;
            skeletons =
                λ name known. still_held_stays skeleton c.objects others name rest.names
                (skeletons_told name);
            nodes =
                λ name known kept. still_held_stays nodes_in c.objects others name rest.names
                (nodes name kept);
          }

      pub all_leaves : All (λ o. IsTrue (is_held others o)) others
          → Leaves limits changes c (with_objects c others)
      all_leaves held =
          subst (λ (l : List NamedObject). Leaves limits changes c (with_objects c l))
          (filter_all (is_held others) others held) still_leaves

-- what the nodes of objects use, of which as much lasts
used_alike : (objects others : List NamedObject)
    → map lasting_named others ≡ map lasting_named objects
    → (name : ℕ)
    → is_used others name ≡ is_used objects name
used_alike objects others same name =
    sym (is_used_there others name)
    ∙ ap (λ names. nat_lt 0 (name_count name names))
    (sym (flat_map-map used_by lasting_named others)
    ∙ ap (flat_map used_by) same
    ∙ flat_map-map used_by lasting_named objects)
    ∙ is_used_there objects name
  where
    used_by : Lasting → List ℕ
    used_by left = if left.0.live then flat_map used_names left.1 else []

module _ (limits : LimitsValue) (changes : ℕ → Bool) (c : Context) (h : KeepsLimits limits c) where
  -- objects of which as much lasts
  pub alike_leaves : (others : List NamedObject)
      → Lasts c.objects others
      → Leaves limits changes c (with_objects c others)
  alike_leaves others alike =
      let lasts = alike.lasting in
      let same =
      map-determined lasting_named live_skeleton (λ left. record left.0 { live = true })
      (λ o. refl) others c.objects lasts in
      all_leaves limits c others h same changes alike.objects
      (All-alike lasting_named (λ left. All (OperandsStand c.objects left.0.name) left.1)
      c.objects others lasts h.nodes)
      (λ name kept. nodes-last (object_held others name) (object_held c.objects name)
      (held-lasts c.objects others name lasts))
      (All-alike lasting_named (λ left. IsTrue (left.0.live || is_used others left.0.name))
      c.objects others lasts
      (All-weaker (λ o. IsTrue (is_held c.objects o)) (λ o. IsTrue (is_held others o))
      (λ o held. ap (λ b. o.live || b) (used_alike c.objects others lasts o.name) ∙ held)
      c.objects h.held))

  -- the same objects
  pub same_leaves : Leaves limits changes c c
  same_leaves = alike_leaves c.objects (record { objects = h.objects; lasting = refl })

  -- one more object
  pub with_new_leaves : (object : ObjectValue)
      → IsObject object
      → nodes_in object ≡ []
      → IsTrue (has_capacity limits c (object_bytes object))
      → Leaves limits changes c (with_new c object)
  with_new_leaves object is none capacity =
      record {
        keeps = with_new_keeps limits c object h is none capacity;
        next = omega arith;
        skeletons = λ name known. as_before skeleton name known;
        nodes = λ name known kept. as_before nodes_in name known;
      }
    where
      as_before : {X : Type 0} (part : ObjectValue → X) (name : ℕ)
          → name < c.next
          → Stays part c.objects (with_new c object).objects name
      as_before part name known = grind (arith, find-append)

  -- an object that is written to a cell
  pub with_object_leaves : (w : Reference × ObjectValue)
      → IsReplacement c.objects w
      → Leaves limits changes c (with_objects c (with_object c.objects w.0 w.1))
  with_object_leaves w may =
      alike_leaves (with_object c.objects w.0 w.1)
      (Lasts-with_object c.objects w may h.names h.objects)
