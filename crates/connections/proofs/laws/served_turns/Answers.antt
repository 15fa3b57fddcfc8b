use Rattle.connections.proofs.laws.served_turns.Goals as goal

pub returns : goal.returns
returns c =
    λ connection code old new left_old left_new taken_old taken_new stays
    (f, reply, is, read, replied, wrote). (
      record { frame = f; lost = replied.lost },
      reply,
      is,
      read,
      wrote.0,
      record { stays = stays; may = replied.may; states = replied.states; said = replied.said },
    )
