-- The meaning of every request: the reply to a client, and the client's new state.
use Rattle.std.specs.Prelude.{Some, None, Ok, Err}
use Rattle.vx_base.specs.declared.code.Code.TheVariants as code
use Rattle.vx_base.specs.Object.{LutObject, ThresholdObject, ConvolutionObject, DistributionObject, ExtremesObject, GraphObject, new_distribution, no_extremes}
use Rattle.vx_base.specs.Graph.{new_graph}
use Rattle.client_model.specs.declared.request.Request.{Request}
use Rattle.client_model.specs.declared.request.Request.TheVariants.{OpenContext, ReleaseContext, CreateImage, QueryImage, WriteImage, WriteImagePgm, ReadImage, ReadImagePgm, SetValid, Release, CreateLut, CreateThreshold, CreateConvolution, CreateDistribution, ReadDistribution, CreateMinMax, ReadMinMax, CreateGraph, CreateVirtualImage, AddNode, RemoveNode, VerifyGraph, ProcessGraph, Immediate, CreateDelay, AgeDelay, RegisterAutoAging}
use Rattle.client_model.specs.declared.refusal.Refusal.TheVariants.{InvalidValue}
use Rattle.client_model.specs.declared.reply.Reply.{Reply}
use Rattle.client_model.specs.declared.reply.Reply.TheVariants.{Refused, Empty}
use Rattle.client_model.specs.Limits.{LimitsValue}
use Rattle.object_table.specs.Context.{Context, new_context}
use Rattle.client_model.specs.Context.{State}
use Rattle.client_model.specs.Refusal.{Outcome, refusal_code}
use Rattle.client_model.specs.Images.{create, create_image, query_image, write_image, write_text, read_image, read_text, set_valid}
use Rattle.client_model.specs.Objects.{release}
use Rattle.client_model.specs.Statistics.{read_distribution, read_min_max}
use Rattle.client_model.specs.Graphs.{create_virtual_image, add_node, remove_node, verify_graph, process_graph}
use Rattle.client_model.specs.Immediate.{immediate}
use Rattle.client_model.specs.Delays.{create_delay, age_delay, register_auto_aging}

-- the outcome of a request in the client's context
abbrev pub outcome_of : LimitsValue → Context → Request → Outcome
outcome_of limits c OpenContext = Err InvalidValue
outcome_of limits c ReleaseContext = Ok (Empty, None)
outcome_of limits c (CreateImage d) = create_image limits c d
outcome_of limits c (QueryImage cell) = query_image c cell
outcome_of limits c (WriteImage cell p) = write_image c cell p
outcome_of limits c (WriteImagePgm cell text) = write_text c cell text
outcome_of limits c (ReadImage cell) = read_image c cell
outcome_of limits c (ReadImagePgm cell) = read_text c cell
outcome_of limits c (SetValid cell valid) = set_valid c cell valid
outcome_of limits c (Release name) = release c name
outcome_of limits c (CreateLut lut) = create limits c (LutObject lut)
outcome_of limits c (CreateThreshold threshold) = create limits c (ThresholdObject threshold)
outcome_of limits c (CreateConvolution convolution) =
    create limits c (ConvolutionObject convolution)
outcome_of limits c (CreateDistribution bins) =
    create limits c (DistributionObject (new_distribution bins))
outcome_of limits c (ReadDistribution name) = read_distribution c name
outcome_of limits c CreateMinMax = create limits c (ExtremesObject no_extremes)
outcome_of limits c (ReadMinMax name) = read_min_max c name
outcome_of limits c CreateGraph = create limits c (GraphObject new_graph)
outcome_of limits c (CreateVirtualImage graph declared) =
    create_virtual_image limits c graph declared
outcome_of limits c (AddNode graph node) = add_node c graph node
outcome_of limits c (RemoveNode graph number) = remove_node c graph number
outcome_of limits c (VerifyGraph graph) = verify_graph limits c graph
outcome_of limits c (ProcessGraph graph) = process_graph limits c graph
outcome_of limits c (Immediate n) = immediate c n
outcome_of limits c (CreateDelay cell slots) = create_delay limits c cell slots
outcome_of limits c (AgeDelay name) = age_delay c name
outcome_of limits c (RegisterAutoAging graph delay) = register_auto_aging c graph delay

-- the reply to a client with a context, and the client's new state; a refusal leaves the state
-- unchanged
abbrev pub reply_and_state : Context → Outcome → Reply × State
reply_and_state c (Ok done) = done
reply_and_state c (Err refusal) = (Refused (refusal_code refusal), Some c)

-- the reply to a client without a context, and the client's new state
abbrev pub answer_without : Request → Reply × State
answer_without OpenContext = (Empty, Some new_context)
answer_without other = (Refused code.InvalidReference, None)

-- the reply to a request of a client in this state, and the new state
abbrev pub answer_to : LimitsValue → State → Request → Reply × State
answer_to limits None request = answer_without request
answer_to limits (Some c) request = reply_and_state c (outcome_of limits c request)
