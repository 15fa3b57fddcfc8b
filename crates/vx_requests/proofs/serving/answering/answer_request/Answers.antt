use Rattle.std.proofs.Common.{refl}
use Rattle.vx_requests.proofs.FrameReplies.{wanting_reply, kept_reply, read_reply, text_reply}
use Rattle.vx_requests.proofs.serving.answering.answer_request.Goals as goal

pub returns-in-ReadImage-clause-replies : goal.returns-in-ReadImage-clause-replies
returns-in-ReadImage-clause-replies c =
    λ op body spelled. read_reply _ _ _ _ op body c.in-ReadImage.image
    (rw c.in-ReadImage.is at spelled) (λ each. refl)

pub returns-in-ReadImagePgm-clause-replies : goal.returns-in-ReadImagePgm-clause-replies
returns-in-ReadImagePgm-clause-replies c =
    λ op body spelled. text_reply _ _ _ _ op body c.in-ReadImagePgm.image
    (rw c.in-ReadImagePgm.is at spelled) (λ each. refl)

pub returns-in-Ok : goal.returns-in-Ok
returns-in-Ok c =
    let did = c.in-Ok.ensures.applies in
    record {
      replies =
          λ op body spelled. kept_reply _ _ _ _ op body c.args.request.now c.in-Ok.reply spelled
          did.reply did.own did.others;
      limits = did.limits;
    }

pub returns-in-Err : goal.returns-in-Err
returns-in-Err c =
    let did = c.in-Err.ensures.applies in
    record {
      replies =
          λ op body spelled. wanting_reply _ _ _ _ op body c.args.request.now spelled
          (λ image is. c.in_default.not-ReadImage image is)
          (λ image is. c.in_default.not-ReadImagePgm image is) did.takes did.no_memory;
      limits = did.limits;
    }
