-- Images and tallies written back to a table give the objects after the run of a graph.
use Rattle.std.proofs.Common.{◌≡◌, ◌≢◌, ℕ, suc, ◌<◌, ◌≤◌, false, List, [], ◌∷◌, map, zip, length, get_or, refl, ap, ◌∙◌, inl, inr, arith, All, Option, Some, None, ◌⊎◌, if◌then◌else◌}
use Rattle.graph_run.proofs.Common.{Reference, ImageObject, ImageValue, In, NamedObject, ObjectValue, objects_at_end, is_virtual_object, node_output, Node, Output, object_kind, same_cell-true, same_cell-refl, lasting_named, named_at_start, Operand, IsObject, Function, parameters}
use Rattle.vx_base.specs.declared.kind.Kind.TheVariants as kind
use Rattle.graph_steps.specs.declared.tally.Tally.{Tally}
use Rattle.graph_steps.specs.Tallies.{tally_of}
use Rattle.graph_run.specs.Program.{tally_by}
use Rattle.graph_run.specs.Results.{tally_object}
use Rattle.graph_run.proofs.HeldLaws.{last_to, or_none}
use Rattle.graph_run.proofs.BegunLaws.{begun_stays, kept_virtual}
use Rattle.graph_run.proofs.LastingLemmas.{Lasting}
use Rattle.graph_run.proofs.LinkLaws.{All-from_In, In-from_All}

-- ---- lists of written values

-- a list of references with the objects of a list of values
module _ {X : Type 0} (object_of : X → ObjectValue) where
  -- each reference gets the object of the value at its index
  pub comes_back : (cells : List Reference) (xs : List X) (x : X) (w : Reference × ObjectValue)
      → In w (zip cells (map object_of xs))
      → (k : ℕ) × (k < length cells) × (w ≡ (get_or cells k w.0, object_of (get_or xs k x)))
  comes_back (c ∷ cells) (y ∷ xs) x w (inl e) = (0, omega arith, e)
  comes_back (c ∷ cells) (y ∷ xs) x w (inr i) =
      let r = comes_back cells xs x w i in (suc r.0, omega (arith, r.1), r.2)
  comes_back cells xs x w i = absurd (grind arith)

  pub each_comes : (cells : List Reference) (xs : List X) (c : Reference)
      → length cells ≤ length xs
      → In c cells
      → (o : ObjectValue) × In (c, o) (zip cells (map object_of xs))
  each_comes (d ∷ cells) (y ∷ xs) c enough (inl e) = (
    object_of y,
    inl (ap (λ (r : Reference). let pair : Reference × ObjectValue = (r, object_of y) in pair) e),
  )
  each_comes (d ∷ cells) (y ∷ xs) c enough (inr i) =
      let r = each_comes cells xs c (omega (arith, enough)) i in (r.0, inr r.1)
  each_comes cells xs c enough i = absurd (grind arith)

-- if all values written to an object are the same, that is its value
module _ (c : Reference) (known : Option ObjectValue) where
  pub last_known : (ws : List (Reference × ObjectValue))
      → ((w : Reference × ObjectValue) → In w ws → c ≡ w.0 → known ≡ Some w.1)
      → (last_to c ws ≡ None) ⊎ ((x : ObjectValue) × (last_to c ws ≡ Some x) × (known ≡ Some x))
  last_known [] each = inl refl
  last_known (w ∷ ws) each =
      grind (
        arith,
        last_known ws (λ y i e. each y (inr i) e),
        each w (inl refl),
        same_cell-true c w.0,
      )

pub last_none : (c : Reference) (ws : List (Reference × ObjectValue))
    → ((w : Reference × ObjectValue) → In w ws → c ≡ w.0 → ⊥)
    → last_to c ws ≡ None
last_none c ws each = grind (arith, last_known c None ws (λ w i e. absurd (each w i e)))

pub last_some : (c : Reference) (x : ObjectValue) (ws : List (Reference × ObjectValue))
    → In (c, x) ws
    → last_to c ws ≡ None
    → ⊥
last_some c x [] i none = absurd i
last_some c x (w ∷ ws) i none =
    grind (arith, last_some c x ws, or_none (last_to c ws) _ none, same_cell-refl c)

-- ---- tallies as objects

-- a node without an output image writes the tally of its input
pub tally_output :
    (n : Node) (which : Output) (a : ImageValue) (second : Option ObjectValue)
    (old : ObjectValue) (t : Tally)
    → (object_kind old ≡ kind.Distribution) ⊎ (object_kind old ≡ kind.Extremes)
    → tally_by (object_kind old) old ≡ t ∷ []
    → node_output n which (ImageObject a) second old ≡ tally_object (tally_of a t)
tally_output n which a second old t of e = grind arith

pub counted_kind : (f : Function)
    → (parameters f).output ≢ kind.Image
    → ((parameters f).output ≡ kind.Distribution) ⊎ ((parameters f).output ≡ kind.Extremes)
counted_kind f other = grind arith

-- ---- virtual images that are restored

pub kept_real : (o p : Option ObjectValue)
    → ((x : ObjectValue) → o ≡ Some x → is_virtual_object x ≡ false)
    → kept_virtual o p ≡ p
kept_real o p real = grind (arith, real)

in_forgotten : (old new : List NamedObject) (x : NamedObject)
    → In x (objects_at_end old new)
    → In x old ⊎ In x new
in_forgotten (o ∷ old) (p ∷ new) x i = grind (arith, in_forgotten old new x)
in_forgotten old new x i = grind arith

pub forgotten_are : (old new : List NamedObject)
    → All (λ o. IsObject o.object) old
    → All (λ o. IsObject o.object) new
    → All (λ o. IsObject o.object) (objects_at_end old new)
forgotten_are old new before after =
    All-from_In (λ (o : NamedObject). IsObject o.object) (objects_at_end old new)
    (λ x i. elim (in_forgotten old new x i) [
      | inl j ↦ In-from_All (λ (o : NamedObject). IsObject o.object) old before x j
      | inr j ↦ In-from_All (λ (o : NamedObject). IsObject o.object) new after x j
    ])

-- after virtual images are restored, the lasting parts are as before the run
pub forgotten_lasting :
    (found : Reference → Operand) (nodes : List Node) (old new : List NamedObject)
    → map lasting_named new ≡ map lasting_named (map (named_at_start found nodes) old)
    → map lasting_named (objects_at_end old new) ≡ map lasting_named old
forgotten_lasting found nodes [] new same = grind arith
forgotten_lasting found nodes (o ∷ old) [] same = absurd (cc same)
forgotten_lasting found nodes (o ∷ old) (p ∷ new) same =
    let own : lasting_named p ≡ lasting_named (named_at_start found nodes o) = cc in
    let rest : map lasting_named new ≡ map lasting_named (map (named_at_start found nodes) old) =
    cc in
    ap (λ (l : List Lasting). lasting_named (if is_virtual_object o.object then o else p) ∷ l)
    (forgotten_lasting found nodes old new rest)
    ∙ ap (λ (x : Lasting). x ∷ map lasting_named old) (grind (arith, own, begun_real o))
  where
    begun_real : (x : NamedObject)
        → is_virtual_object x.object ≡ false
        → named_at_start found nodes x ≡ x
    begun_real x real = grind (arith, real, begun_stays x.object)
