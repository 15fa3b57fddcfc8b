-- Each request has one spelling.
use Rattle.std.proofs.Common.{◌≡◌, ℕ, List, [], ◌∷◌, ◌++◌, Option, Some, None, Result, Ok, refl, sym, ap, subst, ◌∙◌, append-nil}
use Rattle.vx_wire.proofs.Common.{Reference, Request, OpenContext, ReleaseContext, CreateImage, QueryImage, WriteImage, WriteImagePgm, ReadImage, ReadImagePgm, SetValid, Release, CreateLut, CreateThreshold, CreateConvolution, CreateDistribution, ReadDistribution, CreateMinMax, ReadMinMax, CreateGraph, CreateVirtualImage, AddNode, RemoveNode, VerifyGraph, ProcessGraph, Immediate, CreateDelay, AgeDelay, RegisterAutoAging, BodyFault, op_number, op_of, FieldResult, at_end, one_field, two_fields, request_of, body_of, take_reference, IsRequest}
use Rattle.vx_wire.specs.declared.op.Op.{Op}
use Rattle.vx_wire.specs.declared.op.Op.TheVariants as kinds
use Rattle.vx_wire.specs.Op.{ops, op_numbered}
use Rattle.vx_wire.specs.Requests.{request_with, request_with_known}
use Rattle.vx_wire.specs.Images.{write_image_pgm_in}
use Rattle.vx_wire.proofs.Numbers.{number_is}
use Rattle.vx_wire.proofs.ReadFields.{AllBytes, then_of, Reads, long_reads, description_reads, partial_desc_reads, cell_reads, rectangle_reads, slots_reads, bins_reads}
use Rattle.vx_wire.proofs.ReadSamples.{picture_reads}
use Rattle.vx_wire.proofs.ReadObjects.{lut_reads, threshold_reads, convolution_reads}
use Rattle.vx_wire.proofs.ReadNode.{node_reads}

end_of : {A : Type 0} (x y : A) (rest : List ℕ) → at_end x rest ≡ Ok y → (x ≡ y) × (rest ≡ [])
end_of x y [] e = (cc, refl)
end_of x y (b ∷ rest) e = cc

-- the one spelling of a request
pub record Spelled (op : Op) (body : List ℕ) (request : Request) : Type 0 where
  pub op_is : op ≡ op_of request
  pub body_is : body ≡ body_of request
  pub within : IsRequest request

-- a body of no field, of one and of two

none_of : {op : Op} (made : Request)
    → Spelled op [] made
    → (body : List ℕ) (request : Request)
    → at_end made body ≡ Ok request
    → Spelled op body request
none_of {op} made spelled body request e =
    let (same, empty) = end_of made request body e in
    subst (λ b. Spelled op b request) (sym empty) (subst (Spelled op []) same spelled)

one_of :
    {op : Op} {A : Type 0} {take : List ℕ → FieldResult A} {bytes : A → List ℕ} {Is : A → Type 0}
    → Reads [] take bytes Is
    → (made : A → Request) → ((x : A) → Is x → Spelled op (bytes x) (made x))
    → (body : List ℕ) (request : Request)
    → AllBytes body
    → one_field take made body ≡ Ok request
    → Spelled op body request
one_of {op} {take} {bytes} field made spelled body request is e =
    let (x, rest, is_x, e1) = then_of (take body) (λ x rest. at_end (made x) rest) request e in
    let (same, empty) = end_of (made x) request rest e1 in
    let (body_is, x_is, is1) = field.of body x rest is is_x in
    let whole : body ≡ bytes x = body_is ∙ ap (λ l. bytes x ++ l) empty ∙ append-nil (bytes x) in
    subst (λ b. Spelled op b request) (sym whole)
    (subst (Spelled op (bytes x)) same (spelled x x_is))

two_of :
    {op : Op} {A B : Type 0} {take : List ℕ → FieldResult A} {bytes : A → List ℕ}
    {Is : A → Type 0} {next : List ℕ → FieldResult B} {others : B → List ℕ} {Are : B → Type 0}
    → Reads [] take bytes Is → Reads [] next others Are
    → (made : A → B → Request)
    → ((x : A) (y : B) → Is x → Are y → Spelled op (bytes x ++ others y) (made x y))
    → (body : List ℕ) (request : Request)
    → AllBytes body
    → two_fields take next made body ≡ Ok request
    → Spelled op body request
two_of {op} {take} {bytes} {next} {others} first second made spelled body request is e =
    let (x, rest, is_x, e1) =
    then_of (take body) (λ x rest. one_field next (made x) rest) request e in
    let (y, rest1, is_y, e2) = then_of (next rest) (λ y rest. at_end (made x y) rest) request e1 in
    let (same, empty) = end_of (made x y) request rest1 e2 in
    let (body_is, x_is, is1) = first.of body x rest is is_x in
    let (rest_is, y_is, is2) = second.of rest y rest1 is1 is_y in
    let whole : rest ≡ others y = rest_is ∙ ap (λ l. others y ++ l) empty ∙ append-nil (others y) in
    subst (λ b. Spelled op b request) (sym (body_is ∙ ap (λ l. bytes x ++ l) whole))
    (subst (Spelled op (bytes x ++ others y)) same (spelled x y x_is y_is))

-- all bytes after the reference are the text
write_pgm_of : (body : List ℕ) (request : Request)
    → AllBytes body
    → write_image_pgm_in body ≡ Ok request
    → Spelled kinds.WriteImagePgm body request
write_pgm_of body request is e =
    let next : Reference → List ℕ → Result Request BodyFault =
    λ cell text. Ok (WriteImagePgm cell text) in
    let (cell, text, is_cell, e1) = then_of (take_reference body) next request e in
    let same : WriteImagePgm cell text ≡ request = cc in
    let (body_is, cell_is, is1) = cell_reads.of body cell text is is_cell in
    subst (Spelled kinds.WriteImagePgm body) same
    (record { op_is = refl; body_is = body_is; within = (cell_is, is1) })

-- a body of each op
with_op : (op : Op) (body : List ℕ) (request : Request)
    → AllBytes body
    → request_with op body ≡ Ok request
    → Spelled op body request
with_op kinds.OpenContext body request is e =
    none_of OpenContext (record { op_is = refl; body_is = refl; within = tt }) body request e
with_op kinds.ReleaseContext body request is e =
    none_of ReleaseContext (record { op_is = refl; body_is = refl; within = tt }) body request e
with_op kinds.CreateImage body request is e =
    one_of description_reads CreateImage
    (λ x within. record { op_is = refl; body_is = refl; within = within }) body request is e
with_op kinds.QueryImage body request is e =
    one_of cell_reads QueryImage
    (λ x within. record { op_is = refl; body_is = refl; within = within }) body request is e
with_op kinds.WriteImage body request is e =
    two_of cell_reads picture_reads WriteImage
    (λ x y first second. record { op_is = refl; body_is = refl; within = (first, second) }) body
    request is e
with_op kinds.WriteImagePgm body request is e = write_pgm_of body request is e
with_op kinds.ReadImage body request is e =
    one_of cell_reads ReadImage
    (λ x within. record { op_is = refl; body_is = refl; within = within }) body request is e
with_op kinds.ReadImagePgm body request is e =
    one_of cell_reads ReadImagePgm
    (λ x within. record { op_is = refl; body_is = refl; within = within }) body request is e
with_op kinds.SetValid body request is e =
    two_of cell_reads rectangle_reads SetValid
    (λ x y first second. record { op_is = refl; body_is = refl; within = (first, second) }) body
    request is e
with_op kinds.Release body request is e =
    one_of long_reads Release
    (λ x within. record { op_is = refl; body_is = refl; within = within }) body request is e
with_op kinds.CreateLut body request is e =
    one_of lut_reads CreateLut
    (λ x within. record { op_is = refl; body_is = refl; within = within }) body request is e
with_op kinds.CreateThreshold body request is e =
    one_of threshold_reads CreateThreshold
    (λ x within. record { op_is = refl; body_is = refl; within = within }) body request is e
with_op kinds.CreateConvolution body request is e =
    one_of convolution_reads CreateConvolution
    (λ x within. record { op_is = refl; body_is = refl; within = within }) body request is e
with_op kinds.CreateDistribution body request is e =
    one_of bins_reads CreateDistribution
    (λ x within. record { op_is = refl; body_is = refl; within = within }) body request is e
with_op kinds.ReadDistribution body request is e =
    one_of long_reads ReadDistribution
    (λ x within. record { op_is = refl; body_is = refl; within = within }) body request is e
with_op kinds.CreateMinMax body request is e =
    none_of CreateMinMax (record { op_is = refl; body_is = refl; within = tt }) body request e
with_op kinds.ReadMinMax body request is e =
    one_of long_reads ReadMinMax
    (λ x within. record { op_is = refl; body_is = refl; within = within }) body request is e
with_op kinds.CreateGraph body request is e =
    none_of CreateGraph (record { op_is = refl; body_is = refl; within = tt }) body request e
with_op kinds.CreateVirtualImage body request is e =
    two_of long_reads partial_desc_reads CreateVirtualImage
    (λ x y first second. record { op_is = refl; body_is = refl; within = (first, second) }) body
    request is e
with_op kinds.AddNode body request is e =
    two_of long_reads node_reads AddNode
    (λ x y first second. record { op_is = refl; body_is = refl; within = (first, second) }) body
    request is e
with_op kinds.RemoveNode body request is e =
    two_of long_reads long_reads RemoveNode
    (λ x y first second. record { op_is = refl; body_is = refl; within = (first, second) }) body
    request is e
with_op kinds.VerifyGraph body request is e =
    one_of long_reads VerifyGraph
    (λ x within. record { op_is = refl; body_is = refl; within = within }) body request is e
with_op kinds.ProcessGraph body request is e =
    one_of long_reads ProcessGraph
    (λ x within. record { op_is = refl; body_is = refl; within = within }) body request is e
with_op kinds.Immediate body request is e =
    one_of node_reads Immediate
    (λ x within. record { op_is = refl; body_is = refl; within = within }) body request is e
with_op kinds.CreateDelay body request is e =
    two_of cell_reads slots_reads CreateDelay
    (λ x y first second. record { op_is = refl; body_is = refl; within = (first, second) }) body
    request is e
with_op kinds.AgeDelay body request is e =
    one_of long_reads AgeDelay
    (λ x within. record { op_is = refl; body_is = refl; within = within }) body request is e
with_op kinds.RegisterAutoAging body request is e =
    two_of long_reads long_reads RegisterAutoAging
    (λ x y first second. record { op_is = refl; body_is = refl; within = (first, second) }) body
    request is e

-- there is such an op
known_op : (known : Option Op) (body : List ℕ) (request : Request)
    → request_with_known known body ≡ Ok request
    → (op : Op) × (known ≡ Some op) × (request_with op body ≡ Ok request)
known_op None body request e = cc
known_op (Some op) body request e = (op, refl, e)

pub one_spelling : (number : ℕ) (body : List ℕ) (request : Request)
    → AllBytes body
    → request_of number body ≡ Ok request
    → (number ≡ op_number (op_of request)) × (body ≡ body_of request) × IsRequest request
one_spelling number body request is e =
    let (op, known, e1) = known_op (op_numbered number) body request e in
    let spelled = with_op op body request is e1 in (
      number_is op_number ops number op known ∙ ap op_number spelled.op_is,
      spelled.body_is,
      spelled.within,
    )
