-- What a WriteImagePgm frame is answered.
use Rattle.std.proofs.Common.{◌≡◌, ℕ, List, Some, Ok, Err, ap}
use Rattle.vx_requests.proofs.Common.{Reference, WriteImagePgm, Reply, Refused, World, state_of, BodyFault, parse_fault, fault_code, op_numbered, said_of, frame_of, states_of, spelled_frame, IsReply}
use Rattle.client_contexts.specs.Applies.{Applies}
use Rattle.vx_wire.specs.declared.op.Op.TheVariants as ops
use Rattle.vx_wire.specs.Images.{write_image_pgm_in}
use Rattle.vx_requests.proofs.FrameReplies.{refused_reply, kept_reply}

module _ (client op : ℕ) (body : List ℕ) (is : op_numbered op ≡ Some ops.WriteImagePgm)
    (old new : World) where
  -- a body with a fault is refused
  pub refused_text : (fault : BodyFault) → write_image_pgm_in body ≡ Err fault → new ≡ old
      → IsReply old.limits (frame_of client op body) (states_of old) (states_of new)
      (spelled_frame client op (said_of (Refused (fault_code (parse_fault fault)))))
  refused_text fault e same =
      refused_reply old.limits (states_of old) (states_of new) client op body fault (rw is e)
      (λ each. ap (state_of each) same)

  -- the runtime did what the request says
  pub written_text : (image : Reference) (text : List ℕ) (reply : Reply)
      → write_image_pgm_in body ≡ Ok (WriteImagePgm image text)
      → Applies client (WriteImagePgm image text) old new (Ok reply)
      → IsReply old.limits (frame_of client op body) (states_of old) (states_of new)
      (spelled_frame client op (said_of reply))
  written_text image text reply e did =
      kept_reply old.limits (states_of old) (states_of new) client op body
      (WriteImagePgm image text) reply (rw is e) did.reply did.own did.others
