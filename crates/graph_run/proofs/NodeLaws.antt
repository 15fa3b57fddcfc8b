-- The values that a node writes, object by object.
use Rattle.std.proofs.Common.{◌≡◌, ◌≢◌, Bool, true, false, ◌||◌, if◌then◌else◌, List, [], ◌∷◌, refl, sym, ◌∙◌, inl, inr, Option, Some, None, arith, option_map, option_and_then, ◌⊎◌}
use Rattle.graph_run.proofs.Common.{cases_Bool, or_left, or_right, or_parts, Node, Output, First, Second, Reference, same_reference, outputs, ObjectValue, node_output, written_to, written_in, written_from, NamedObject, object_at, In, writes, has_twice, kind_in, form_of, form_held, In-append, same_cell-true, option_or}
use Rattle.vx_base.specs.declared.kind.Kind.TheVariants as kind
use Rattle.graph_run.proofs.ObjectLaws.{is_delay, shown, form-node_output}
use Rattle.graph_run.proofs.HeldLaws.{IsWrite, AreWrites, last_to, last_to-append, or_assoc}

-- ---- the value that a node gives an object

-- an operand is this cell
abbrev pub is_cell : Option Reference → Reference → Bool
is_cell None c = false
is_cell (Some d) c = same_reference c d

-- the output that a reference names
abbrev pub output_at : Node → Reference → Output
output_at n c = if is_cell n.out2 c then Second else First

-- the new value of an output, computed from its first value if the node's objects exist; otherwise
-- it stays as it is now
abbrev pub output_of : Node
    → Output
    → Option ObjectValue
    → Option ObjectValue
    → Option ObjectValue
    → Option ObjectValue
    → Option ObjectValue
output_of n output (Some first) second (Some old) now = Some (node_output n output first second old)
output_of n output first second old now = now

-- the value that a node gives an object that was `old` at first and is `now`
abbrev pub given_to : Node
    → (Reference → Option ObjectValue)
    → Reference
    → Option ObjectValue
    → Option ObjectValue
    → Option ObjectValue
given_to n object_at c old now =
    output_of n (output_at n c) (object_at n.in1) (option_and_then object_at n.in2) old now

-- the same for an object with its values among the first and the present objects
abbrev pub given_from : (Reference → Option ObjectValue)
    → Node
    → (Reference → Option ObjectValue)
    → Reference
    → Option ObjectValue
given_from start n object_at c = given_to n object_at c (start c) (object_at c)

-- the same if `now` is its present value
abbrev pub given_in : Node → (Reference → Option ObjectValue) → Reference → Option ObjectValue
given_in n object_at c = given_from object_at n object_at c

shown-output_of : (n : Node) (output : Output) (first second old now : Option ObjectValue)
    → option_map shown (output_of n output first second old now)
    ≡ output_of n output (option_map shown first) (option_map shown second)
    (option_map shown old) (option_map shown now)
shown-output_of n output first second old now = grind arith

-- the images of a delay, seen as a whole, don't matter
pub shown-given_to :
    (n : Node) (object_at : Reference → Option ObjectValue) (c : Reference)
    (old now : Option ObjectValue)
    → option_map shown (given_to n object_at c old now)
    ≡ given_to n (λ d. option_map shown (object_at d)) c (option_map shown old)
    (option_map shown now)
shown-given_to n object_at c old now =
    grind (
      arith,
      shown-output_of n (output_at n c) (object_at n.in1) (option_and_then object_at n.in2) old now,
    )

pub shown-given_from :
    (start : Reference → Option ObjectValue) (n : Node)
    (object_at : Reference → Option ObjectValue) (c : Reference)
    → option_map shown (given_from start n object_at c)
    ≡ given_from (λ d. option_map shown (start d)) n (λ d. option_map shown (object_at d)) c
shown-given_from start n object_at c = shown-given_to n object_at c (start c) (object_at c)

-- a form stays
pub form-output_of : (n : Node) (output : Output) (first second old now : Option ObjectValue)
    → option_map form_of now ≡ option_map form_of old
    → option_map form_of (output_of n output first second old now) ≡ option_map form_of old
form-output_of n output first second old now h = grind arith

-- ---- the list of values that a node writes

pub writes-outputs : (n : Node) (c : Reference)
    → writes n c ≡ (is_cell n.out1 c || is_cell n.out2 c)
writes-outputs n c = grind arith

last_there :
    (n : Node) (output : Output) (o : Option Reference)
    (start object_at : Reference → Option ObjectValue) (c : Reference)
    → is_cell o c ≡ true
    → last_to c (written_in n output o start object_at)
    ≡ last_to c
    (written_to n output c (object_at n.in1) (option_and_then object_at n.in2) (start c))
last_there n output o start object_at c h = grind (arith, same_cell-true c)

-- it replaces the old value, and a value that another output of the node gave
over_old : (n : Node) (output : Output) (c : Reference) (first second old now : Option ObjectValue)
    → option_or (last_to c (written_to n output c first second old)) now
    ≡ output_of n output first second old now
over_old n output c u second old now = grind arith

-- the last value written to an object is the one that the node gives it
pub last_written :
    (start : Reference → Option ObjectValue) (n : Node)
    (object_at : Reference → Option ObjectValue) (c : Reference)
    → option_or (last_to c (written_from start n object_at)) (object_at c)
    ≡ (if writes n c then given_from start n object_at c else object_at c)
last_written start n object_at c =
    grind (
      arith,
      last_to-append,
      or_assoc,
      last_to,
      writes-outputs,
      cases_Bool (is_cell n.out1 c),
      cases_Bool (is_cell n.out2 c),
      over_old,
      cases_Bool,
      last_there,
    )

-- no other objects are written
pub last_elsewhere :
    (start : Reference → Option ObjectValue) (n : Node)
    (object_at : Reference → Option ObjectValue) (c : Reference)
    → writes n c ≡ false
    → last_to c (written_from start n object_at) ≡ None
last_elsewhere start n object_at c h = grind (arith, or_parts, writes-outputs, last_to-append)

-- ---- members of the list

-- each is given to an output that existed, from a first input that exists
pub record IsGiven (n : Node) (output : Output) (o : Option Reference)
    (start object_at : Reference → Option ObjectValue) (c : Reference) (object : ObjectValue) : Type
    0 where
  pub first : ObjectValue
  pub out : ObjectValue
  pub there : is_cell o c ≡ true
  pub read : object_at n.in1 ≡ Some first
  pub old : start c ≡ Some out
  pub gives : object ≡ node_output n output first (option_and_then object_at n.in2) out

given_cases :
    (start : Reference → Option ObjectValue) (n : Node)
    (object_at : Reference → Option ObjectValue) (w : Reference × ObjectValue)
    → In w (written_from start n object_at)
    → IsGiven n First n.out1 start object_at w.0 w.1
    ⊎ IsGiven n Second n.out2 start object_at w.0 w.1
given_cases start n object_at w i =
    grind (
      arith,
      In-append w (written_in n First n.out1 start object_at)
          (written_in n Second n.out2 start object_at) i,
    )

first_written : (n : Node) (c : Reference) → is_cell n.out1 c ≡ true → writes n c ≡ true
first_written n c e = writes-outputs n c ∙ or_left (is_cell n.out1 c) (is_cell n.out2 c) e

second_written : (n : Node) (c : Reference) → is_cell n.out2 c ≡ true → writes n c ≡ true
second_written n c e = writes-outputs n c ∙ or_right (is_cell n.out1 c) (is_cell n.out2 c) e

-- an object that is written existed
pub written_held :
    (start : Reference → Option ObjectValue) (n : Node)
    (object_at : Reference → Option ObjectValue) (w : Reference × ObjectValue)
    → In w (written_from start n object_at)
    → (writes n w.0 ≡ true) × ((out : ObjectValue) × (start w.0 ≡ Some out))
written_held start n object_at w i =
    elim (given_cases start n object_at w i) [
      | inl g ↦ (first_written n w.0 g.there, (g.out, g.old))
      | inr g ↦ (second_written n w.0 g.there, (g.out, g.old))
    ]

-- it keeps its form
write_is :
    (start objects : List NamedObject) (n : Node) (output : Output) (o : Option Reference)
    (c : Reference) (object : ObjectValue)
    → form_held objects c ≡ form_held start c
    → kind_in objects c ≢ Some kind.Delay
    → IsGiven n output o (object_at start) (object_at objects) c object → IsWrite objects c object
write_is start objects n output o c object forms whole g = grind (arith, form-node_output, is_delay)

pub AreWrites-written : (start objects : List NamedObject) (n : Node)
    → ((c : Reference) → form_held objects c ≡ form_held start c)
    → ((c : Reference) → writes n c ≡ true → kind_in objects c ≢ Some kind.Delay)
    → AreWrites objects (written_from (object_at start) n (object_at objects))
AreWrites-written start objects n forms whole w i =
    elim (given_cases (object_at start) n (object_at objects) w i) [
      | inl g ↦
          write_is start objects n First n.out1 w.0 w.1 (forms w.0)
          (whole w.0 (first_written n w.0 g.there)) g
      | inr g ↦
          write_is start objects n Second n.out2 w.0 w.1 (forms w.0)
          (whole w.0 (second_written n w.0 g.there)) g
    ]

-- ---- objects with the values that a node gives them

-- if each output has the value that the node gives it, all written values are there
pub given_holds :
    (start : Reference → Option ObjectValue) (n : Node) (object_at : Reference → Option ObjectValue)
    → has_twice (outputs n) ≡ false
    → ((c : Reference) → writes n c ≡ true → object_at c ≡ given_from start n object_at c)
    → (w : Reference × ObjectValue)
    → In w (written_from start n object_at)
    → object_at w.0 ≡ Some w.1
given_holds start n object_at once h w i = grind (arith, given_cases start n object_at w i)

held_last :
    (object_at : Reference → Option ObjectValue) (c : Reference)
    (ws : List (Reference × ObjectValue))
    → ((w : Reference × ObjectValue) → In w ws → object_at w.0 ≡ Some w.1)
    → option_or (last_to c ws) (object_at c) ≡ object_at c
held_last object_at c [] h = refl
held_last object_at c (w ∷ ws) h =
    grind (
      arith,
      or_assoc (last_to c ws) (if same_reference c w.0 then Some w.1 else None) (object_at c),
      held_last object_at c ws (λ v i. h v (inr i)),
      cases_Bool (same_reference c w.0),
      same_cell-true c w.0,
      h w (inl refl),
    )

-- if all written values are there, each output has the value that the node gives it
pub holds_given :
    (start : Reference → Option ObjectValue) (n : Node) (object_at : Reference → Option ObjectValue)
    →
    ((w : Reference × ObjectValue)
    → In w (written_from start n object_at)
    → object_at w.0 ≡ Some w.1)
    → (c : Reference) → writes n c ≡ true → object_at c ≡ given_from start n object_at c
holds_given start n object_at h c e =
    sym (held_last object_at c (written_from start n object_at) h)
    ∙ last_written start n object_at c
    ∙ rw e refl
