-- Replies that write an image's own samples.
use Rattle.std.proofs.Common.{◌≡◌, ℕ, List, sym, ap, ◌∙◌}
use Rattle.vx_requests.proofs.Common.{Reference, ReadImage, ReadImagePgm, Reply, State, World, state_of, said_of, ReplyContent, reply_bytes, spelled_frame, said_in, Text}
use Rattle.client_contexts.specs.Applies.{IsAnswered}
use Rattle.vx_requests.specs.declared.serving.answered.ReplyContent.TheVariants.{Samples}

module _ (world : World) (number client op : ℕ) (content : ReplyContent) (image : Reference)
    (reply : Reply) where
  abbrev frame_with : ReplyContent → List ℕ
  frame_with content =
      reply_bytes (spelled_frame client op (said_in world.limits (state_of number world) content))

  abbrev frame_of : Reply × State → List ℕ
  frame_of told = reply_bytes (spelled_frame client op (said_of told.0))

  pub told_samples : content ≡ Samples image → IsAnswered number (ReadImage image) world reply
      → reply_bytes (spelled_frame client op (said_of reply))
      ≡ reply_bytes (spelled_frame client op (said_in world.limits (state_of number world) content))
  told_samples is told = sym (ap frame_with is ∙ ap frame_of told)

  pub told_text : content ≡ Text image → IsAnswered number (ReadImagePgm image) world reply
      → reply_bytes (spelled_frame client op (said_of reply))
      ≡ reply_bytes (spelled_frame client op (said_in world.limits (state_of number world) content))
  told_text is told = sym (ap frame_with is ∙ ap frame_of told)
