-- A request is read back from its op and body.
use Rattle.std.proofs.Common.{◌≡◌, List, [], ◌∷◌, ◌++◌, ℕ, Ok, refl, ap, append-nil}
use Rattle.vx_wire.proofs.Common.{w32, to_be_bytes, Request, OpenContext, ReleaseContext, CreateImage, QueryImage, WriteImage, WriteImagePgm, ReadImage, ReadImagePgm, SetValid, Release, CreateLut, CreateThreshold, CreateConvolution, CreateDistribution, ReadDistribution, CreateMinMax, ReadMinMax, CreateGraph, CreateVirtualImage, AddNode, RemoveNode, VerifyGraph, ProcessGraph, Immediate, CreateDelay, AgeDelay, RegisterAutoAging, op_number, op_of, FieldResult, and_then, one_field, two_fields, take_long, request_of, body_of, take_description, description_bytes, take_partial_desc, partial_desc_bytes, take_reference, reference_bytes, take_picture, picture_bytes, take_lut, lut_bytes, take_threshold, threshold_bytes, take_convolution, convolution_bytes, take_bins, bins_bytes, take_node, node_bytes, take_slots, take_rectangle, rectangle_bytes, IsRequest}
use Rattle.vx_wire.proofs.SpelledFields.{long_back, description_back, partial_desc_back, cell_back, rectangle_back, slots_back, bins_back, picture_back}
use Rattle.vx_wire.proofs.SpelledObjects.{lut_back, threshold_back, convolution_back}
use Rattle.vx_wire.proofs.SpelledNode.{node_back}

-- a body of one field and of two

one_back :
    {A : Type 0} (take : List ℕ → FieldResult A) (made : A → Request) (bytes : List ℕ) (x : A)
    → take (bytes ++ []) ≡ Ok (x, [])
    → one_field take made bytes ≡ Ok (made x)
one_back take made bytes x e = rw (← append-nil bytes, e) refl

two_back :
    {A B : Type 0} (take : List ℕ → FieldResult A) (next : List ℕ → FieldResult B)
    (made : A → B → Request) (bytes others : List ℕ) (x : A) (y : B)
    → take (bytes ++ others) ≡ Ok (x, others)
    → next (others ++ []) ≡ Ok (y, [])
    → two_fields take next made (bytes ++ others) ≡ Ok (made x y)
two_back take next made bytes others x y first second = rw (first, ← append-nil others, second) refl

pub read_back : (request : Request)
    → IsRequest request
    → request_of (op_number (op_of request)) (body_of request) ≡ Ok request
read_back OpenContext is = refl
read_back ReleaseContext is = refl
read_back (CreateImage d) is =
    one_back take_description CreateImage (description_bytes d) d (description_back d [] is)
read_back (QueryImage cell) is =
    one_back take_reference QueryImage (reference_bytes cell) cell (cell_back cell [] is)
read_back (WriteImage cell p) is =
    let bytes = picture_bytes p in
    two_back take_reference take_picture WriteImage (reference_bytes cell) bytes cell p
    (cell_back cell bytes is.0) (picture_back p [] is.1)
read_back (WriteImagePgm cell text) is =
    ap (λ t. and_then t (λ cell text. Ok (WriteImagePgm cell text))) (cell_back cell text is.0)
read_back (ReadImage cell) is =
    one_back take_reference ReadImage (reference_bytes cell) cell (cell_back cell [] is)
read_back (ReadImagePgm cell) is =
    one_back take_reference ReadImagePgm (reference_bytes cell) cell (cell_back cell [] is)
read_back (SetValid cell r) is =
    let bytes = rectangle_bytes r in
    two_back take_reference take_rectangle SetValid (reference_bytes cell) bytes cell r
    (cell_back cell bytes is.0) (rectangle_back r [] is.1)
read_back (Release name) is =
    one_back take_long Release (to_be_bytes w32 name) name (long_back name [] is)
read_back (CreateLut lut) is = one_back take_lut CreateLut (lut_bytes lut) lut (lut_back lut [] is)
read_back (CreateThreshold t) is =
    one_back take_threshold CreateThreshold (threshold_bytes t) t (threshold_back t [] is)
read_back (CreateConvolution c) is =
    one_back take_convolution CreateConvolution (convolution_bytes c) c (convolution_back c [] is)
read_back (CreateDistribution bins) is =
    one_back take_bins CreateDistribution (bins_bytes bins) bins (bins_back bins [] is)
read_back (ReadDistribution name) is =
    one_back take_long ReadDistribution (to_be_bytes w32 name) name (long_back name [] is)
read_back CreateMinMax is = refl
read_back (ReadMinMax name) is =
    one_back take_long ReadMinMax (to_be_bytes w32 name) name (long_back name [] is)
read_back CreateGraph is = refl
read_back (CreateVirtualImage graph declared) is =
    let bytes = partial_desc_bytes declared in
    two_back take_long take_partial_desc CreateVirtualImage (to_be_bytes w32 graph) bytes graph
    declared (long_back graph bytes is.0) (partial_desc_back declared [] is.1)
read_back (AddNode graph node) is =
    let bytes = node_bytes node in
    two_back take_long take_node AddNode (to_be_bytes w32 graph) bytes graph node
    (long_back graph bytes is.0) (node_back node [] is.1)
read_back (RemoveNode graph number) is =
    let bytes = to_be_bytes w32 number in
    two_back take_long take_long RemoveNode (to_be_bytes w32 graph) bytes graph number
    (long_back graph bytes is.0) (long_back number [] is.1)
read_back (VerifyGraph graph) is =
    one_back take_long VerifyGraph (to_be_bytes w32 graph) graph (long_back graph [] is)
read_back (ProcessGraph graph) is =
    one_back take_long ProcessGraph (to_be_bytes w32 graph) graph (long_back graph [] is)
read_back (Immediate node) is =
    one_back take_node Immediate (node_bytes node) node (node_back node [] is)
read_back (CreateDelay cell n) is =
    two_back take_reference take_slots CreateDelay (reference_bytes cell) (n ∷ []) cell n
    (cell_back cell (n ∷ []) is.0) (slots_back n [] is.1)
read_back (AgeDelay name) is =
    one_back take_long AgeDelay (to_be_bytes w32 name) name (long_back name [] is)
read_back (RegisterAutoAging graph delay) is =
    let bytes = to_be_bytes w32 delay in
    two_back take_long take_long RegisterAutoAging (to_be_bytes w32 graph) bytes graph delay
    (long_back graph bytes is.0) (long_back delay [] is.1)
