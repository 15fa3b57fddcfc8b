use Rattle.connections.proofs.laws.served_frames.Goals as goal

pub returns : goal.returns
returns c = λ connection old new read written stays one.
    let r = one.replied in (
      record { frame = one.frame; lost = r.lost },
      one.reply,
      one.is_frame,
      one.read_is,
      one.written_is,
      record { stays = stays; may = r.may; states = r.states; said = r.said },
    )
