-- Fields, which are read in order from the front of a body.
use Rattle.std.specs.Prelude.{◌≡◌, ℕ, ◌+◌, ◌*◌, if◌then◌else◌, nat_le, List, [], ◌∷◌, length, take, drop, Option, Some, None, Result, Ok, Err, IfOk, IfErr}
use Rattle.vx_wire.specs.declared.body_fault.BodyFault.{BodyFault}
use Rattle.vx_wire.specs.declared.body_fault.BodyFault.TheVariants.{InvalidParameters}

-- a field's value and the bytes after the field, or the field's fault
abbrev pub FieldResult : Type 0 → Type 0
FieldResult A = Result (A × List ℕ) BodyFault

-- A call read the field at the front of `old`, and `new` is the bytes after the field. Or the call
-- returned the field's fault.
pub record Takes {A : Type 0} (take : List ℕ → FieldResult A) (old new : List ℕ)
    (result : Result A BodyFault) : Type 0 where
  pub ok : IfOk result (λ x. take old ≡ Ok (x, new))
  pub err : IfErr result (λ fault. take old ≡ Err fault)

-- reads what follows a field; a fault of the field ends the reading
abbrev pub and_then : {A B : Type 0}
    → FieldResult A
    → (A → List ℕ → Result B BodyFault)
    → Result B BodyFault
and_then (Ok taken) next = next taken.0 taken.1
and_then (Err fault) next = Err fault

-- the value, or InvalidParameters if bytes follow the last field
abbrev pub at_end : {A : Type 0} → A → List ℕ → Result A BodyFault
at_end value [] = Ok value
at_end value (b ∷ rest) = Err InvalidParameters

-- the value that `made` gives for the only field of a body
abbrev pub one_field : {A B : Type 0}
    → (List ℕ → FieldResult A)
    → (A → B)
    → List ℕ
    → Result B BodyFault
one_field take made body = and_then (take body) (λ x rest. at_end (made x) rest)

-- the value that `made` gives for the two fields of a body
abbrev pub two_fields : {A B C : Type 0}
    → (List ℕ → FieldResult A)
    → (List ℕ → FieldResult B)
    → (A → B → C)
    → List ℕ
    → Result C BodyFault
two_fields first second made body = and_then (first body) (λ x rest. one_field second (made x) rest)

-- a field's value and the bytes after the field, if the value is allowed; else the given fault
abbrev pub allowed_or_fault : {A : Type 0} → BodyFault → Option A → List ℕ → FieldResult A
allowed_or_fault fault None rest = Err fault
allowed_or_fault fault (Some value) rest = Ok (value, rest)

-- ---- numbers, most significant byte first; InvalidParameters if a number is cut short

-- reads a u8 from the front of a body
abbrev pub take_byte : List ℕ → FieldResult ℕ
take_byte [] = Err InvalidParameters
take_byte (a ∷ rest) = Ok (a, rest)

-- reads a u16 from the front of a body
abbrev pub take_short : List ℕ → FieldResult ℕ
take_short body =
    and_then (take_byte body)
    (λ a rest. and_then (take_byte rest) (λ b rest. Ok (256 * a + b, rest)))

-- reads a u32 from the front of a body
abbrev pub take_long : List ℕ → FieldResult ℕ
take_long body =
    and_then (take_short body)
    (λ a rest. and_then (take_short rest) (λ b rest. Ok (65536 * a + b, rest)))

-- ---- several bytes as one field

-- reads `n` bytes from the front of a body; InvalidParameters if the body has fewer bytes
abbrev pub take_bytes : ℕ → List ℕ → FieldResult (List ℕ)
take_bytes n body =
    if nat_le n (length body) then Ok (take n body, drop n body) else Err InvalidParameters
