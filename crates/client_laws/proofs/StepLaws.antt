-- The effect of each request on the limits and the objects held, and the states after requests.
use Rattle.std.proofs.Common.{◌≢◌, ℕ, Bool, List, [], ◌∷◌, Some, None, refl, All, MatchOption, arith}
use Rattle.client_laws.proofs.Common.{All-head, All-tail, GraphObject, Request, ReleaseContext, WriteImagePgm, AddNode, VerifyGraph, ProcessGraph, Immediate, LimitsValue, Context, State, IsRequest, Outcome, outcome_of, reply_and_state, answer_to, KeepsLimits, state_after, changes_nodes, Leaves}
use Rattle.vx_base.specs.Image.{new_image}
use Rattle.vx_base.specs.Graph.{new_graph}
use Rattle.vx_base.specs.Object.{ImageObject, LutObject, ThresholdObject, ConvolutionObject, DistributionObject, ExtremesObject, new_distribution, no_extremes}
use Rattle.client_model.specs.declared.request.Request.TheVariants.{OpenContext, CreateImage, QueryImage, WriteImage, ReadImage, ReadImagePgm, SetValid, Release, CreateLut, CreateThreshold, CreateConvolution, CreateDistribution, ReadDistribution, CreateMinMax, ReadMinMax, CreateGraph, CreateVirtualImage, RemoveNode, CreateDelay, AgeDelay, RegisterAutoAging}
use Rattle.client_model.proofs.StateLaws.{same_leaves, new_context_keeps}
use Rattle.vx_base.proofs.ImageLaws.{new_image_is}
use Rattle.client_model.proofs.OutcomeLaws.{StateKeeps, KeepsBut, create_keeps, same_keeps}
use Rattle.client_model.proofs.ImageStepLaws.{write_image_keeps, write_text_keeps, set_valid_keeps}
use Rattle.std.proofs.lemmas.List.{length-replicate}
use Rattle.client_model.specs.Images.{query_image, read_image, read_text}
use Rattle.client_model.specs.Statistics.{read_distribution, read_min_max}
use Rattle.client_model.specs.Graphs.{verify_graph}
use Rattle.client_model.proofs.DelayStepLaws.{create_delay_keeps, age_delay_keeps, register_keeps}
use Rattle.client_model.proofs.NodeStepLaws.{immediate_keeps}
use Rattle.client_model.proofs.GraphStepLaws.{new_graph_is, create_virtual_image_keeps, add_node_keeps, remove_node_keeps, release_keeps}
use Rattle.client_laws.proofs.RunStepLaws.{process_graph_keeps}

-- each request that doesn't release a context leaves it within its limits, with the skeletons of
-- what is held, and the nodes of graphs
pub outcome_keeps : (limits : LimitsValue) (c : Context) (request : Request)
    → request ≢ ReleaseContext
    → KeepsLimits limits c
    → IsRequest request
    → KeepsBut (changes_nodes request) limits c (outcome_of limits c request)
outcome_keeps limits c OpenContext stays h is = tt
outcome_keeps limits c ReleaseContext stays h is = absurd (stays refl)
outcome_keeps limits c (CreateImage d) stays h is =
    create_keeps limits c (ImageObject (new_image d.width d.height d.format)) h
    (new_image_is d.width d.height d.format is.width is.height) refl
outcome_keeps limits c (QueryImage cell) stays h is =
    same_keeps limits c (query_image c cell) h (grind arith)
outcome_keeps limits c (WriteImage cell p) stays h is = write_image_keeps limits c cell p h is.1
outcome_keeps limits c (WriteImagePgm cell text) stays h is = write_text_keeps limits c cell text h
outcome_keeps limits c (ReadImage cell) stays h is =
    same_keeps limits c (read_image c cell) h (grind arith)
outcome_keeps limits c (ReadImagePgm cell) stays h is =
    same_keeps limits c (read_text c cell) h (grind arith)
outcome_keeps limits c (SetValid cell valid) stays h is =
    set_valid_keeps limits c cell valid h is.1.bounds
outcome_keeps limits c (Release name) stays h is = release_keeps limits c name h
outcome_keeps limits c (CreateLut lut) stays h is = create_keeps limits c (LutObject lut) h is refl
outcome_keeps limits c (CreateThreshold threshold) stays h is =
    create_keeps limits c (ThresholdObject threshold) h is refl
outcome_keeps limits c (CreateConvolution convolution) stays h is =
    create_keeps limits c (ConvolutionObject convolution) h is refl
outcome_keeps limits c (CreateDistribution bins) stays h is =
    create_keeps limits c (DistributionObject (new_distribution bins)) h
    (record { bins = is; size = length-replicate {A = ℕ} bins.bins 0 }) refl
outcome_keeps limits c (ReadDistribution name) stays h is =
    same_keeps limits c (read_distribution c name) h (grind arith)
outcome_keeps limits c CreateMinMax stays h is =
    create_keeps limits c (ExtremesObject no_extremes) h tt refl
outcome_keeps limits c (ReadMinMax name) stays h is =
    same_keeps limits c (read_min_max c name) h (grind arith)
outcome_keeps limits c CreateGraph stays h is =
    create_keeps limits c (GraphObject new_graph) h new_graph_is refl
outcome_keeps limits c (CreateVirtualImage graph declared) stays h is =
    create_virtual_image_keeps limits c graph declared h is.0 is.1
outcome_keeps limits c (AddNode graph n) stays h is = add_node_keeps limits c graph n h is.1
outcome_keeps limits c (RemoveNode graph number) stays h is =
    remove_node_keeps limits c graph number h
outcome_keeps limits c (VerifyGraph graph) stays h is =
    same_keeps limits c (verify_graph limits c graph) h (grind arith)
outcome_keeps limits c (ProcessGraph graph) stays h is = process_graph_keeps limits c graph h
outcome_keeps limits c (Immediate n) stays h is = immediate_keeps limits c n h is
outcome_keeps limits c (CreateDelay cell slots) stays h is =
    create_delay_keeps limits c cell slots h is.1
outcome_keeps limits c (AgeDelay name) stays h is = age_delay_keeps limits c name h
outcome_keeps limits c (RegisterAutoAging graph delay) stays h is =
    register_keeps limits c graph delay h

-- the context after an outcome
answered_keeps : (changes : ℕ → Bool) (limits : LimitsValue) (c : Context) (outcome : Outcome)
    → KeepsLimits limits c
    → KeepsBut changes limits c outcome
    → MatchOption (reply_and_state c outcome).1 ⊥ (Leaves limits changes c)
answered_keeps changes limits c outcome h kept = grind (arith, same_leaves)

-- the context after a request that doesn't release it
pub answer_leaves : (limits : LimitsValue) (c : Context) (request : Request)
    → request ≢ ReleaseContext
    → KeepsLimits limits c
    → IsRequest request
    → MatchOption (answer_to limits (Some c) request).1 ⊥ (Leaves limits (changes_nodes request) c)
answer_leaves limits c request stays h is =
    answered_keeps (changes_nodes request) limits c (outcome_of limits c request) h
    (outcome_keeps limits c request stays h is)

-- the state after a request keeps the limits
pub answer_keeps : (limits : LimitsValue) (state : State) (request : Request)
    → StateKeeps limits state
    → IsRequest request
    → StateKeeps limits (answer_to limits state request).1
answer_keeps limits None OpenContext h is = new_context_keeps limits
answer_keeps limits None other h is = tt
answer_keeps limits (Some c) ReleaseContext h is = tt
answer_keeps limits (Some c) other h is =
    of_context (answer_to limits (Some c) other).1 (answer_leaves limits c other (λ e. cc) h is)
  where
    of_context : (state : State)
        → MatchOption state ⊥ (Leaves limits (changes_nodes other) c)
        → StateKeeps limits state
    of_context state left = grind arith

-- the state after requests keeps the limits
pub state_after_keeps : (limits : LimitsValue) (state : State) (requests : List Request)
    → StateKeeps limits state
    → All IsRequest requests
    → StateKeeps limits (state_after limits state requests)
state_after_keeps limits state [] h is = h
state_after_keeps limits state (request ∷ requests) h is =
    state_after_keeps limits (answer_to limits state request).1 requests
    (answer_keeps limits state request h (All-head IsRequest request requests is))
    (All-tail IsRequest request requests is)
