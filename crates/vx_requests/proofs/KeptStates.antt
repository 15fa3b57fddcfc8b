-- Frames keep the limits of a client's state.
use Rattle.std.proofs.Common.{◌≡◌, ℕ, List, [], ◌∷◌, Option, Some, None, Result, Ok, Err, refl, sym, subst, All, IfSome, IfOk}
use Rattle.vx_requests.proofs.Common.{All-head, All-tail, Reference, IsImage, Request, LimitsValue, State, image_of, IsRequest, BodyFault, request_of, Frame, IsFrame, answer_spelled, Summary, StreamFault, ReceivedFrame, is_kept_of, answer_frame, after, frames_of, mine, Session}
use Rattle.std.proofs.lemmas.List.Elements.{All-filter, All-map}
use Rattle.client_model.proofs.ImageStepLaws.{image_of_is}
use Rattle.object_table.proofs.HeldLemmas.{All-from_map}
use Rattle.client_model.proofs.OutcomeLaws.{StateKeeps}
use Rattle.client_laws.proofs.StepLaws.{answer_keeps}
use Rattle.vx_wire.proofs.OneSpelling.{one_spelling}
use Rattle.vx_requests.specs.Serving.Answer.{answer}

spelled_keeps : (limits : LimitsValue) (state : State) (spelled : Result Request BodyFault)
    → StateKeeps limits state
    → ((request : Request) → spelled ≡ Ok request → IsRequest request)
    → StateKeeps limits (answer_spelled limits state spelled).1
spelled_keeps limits state (Ok request) kept is =
    answer_keeps limits state request kept (is request refl)
spelled_keeps limits state (Err fault) kept is = kept

-- a frame
frame_keeps : (limits : LimitsValue) (state : State) (f : Frame)
    → IsFrame f
    → StateKeeps limits state
    → StateKeeps limits (answer_frame (answer limits) state f).1
unfolding answer
frame_keeps limits state f is kept =
    spelled_keeps limits state (request_of f.op f.body) kept
    (λ request e. (one_spelling f.op f.body request is.bytes e).2)

-- frames, one after the other
pub frames_keep : (limits : LimitsValue) (state : State) (frames : List Frame)
    → All IsFrame frames
    → StateKeeps limits state
    → StateKeeps limits (after (answer limits) state frames)
frames_keep limits state [] are kept = kept
frames_keep limits state (f ∷ frames) are kept =
    frames_keep limits (answer_frame (answer limits) state f).1 frames
    (All-tail IsFrame f frames are)
    (frame_keeps limits state f (All-head IsFrame f frames are) kept)

-- the images of a state that keeps the limits
pub images_are : (limits : LimitsValue) (state : State) (cell : Reference)
    → StateKeeps limits state
    → IfSome state (λ c. IfOk (image_of c.objects cell) IsImage)
images_are limits None cell kept = tt
images_are limits (Some c) cell kept = image_of_is limits c cell kept

-- a client's own of frames
mine_are : (client : ℕ) (marked : List ReceivedFrame)
    → All IsFrame (frames_of marked)
    → All IsFrame (mine client marked)
mine_are client marked are =
    All-map IsFrame (λ m. m.frame) _
    (All-filter (is_kept_of client) (λ m. IsFrame m.frame) marked
    (All-from_map IsFrame (λ m. m.frame) marked are))

-- a call of serve
pub session_keeps :
    (limits : LimitsValue) (left_old left_new taken_old taken_new : Option (List ℕ))
    (old new : ℕ → State) (result : Result Summary StreamFault) (client : ℕ)
    → Session limits left_old left_new taken_old taken_new old new result
    → StateKeeps limits (old client)
    → StateKeeps limits (new client)
session_keeps limits left_old left_new taken_old taken_new old new result client session kept =
    subst (StateKeeps limits) (sym (session.states client))
    (frames_keep limits (old client) (mine client session.marked)
    (mine_are client session.marked session.frames) kept)
