use Rattle.client_contexts.proofs.IncomingLemmas.{picture_in, read_is}
use Rattle.client_contexts.proofs.incoming.write_from.Goals as goal

pub returns-in-Ok-clause-done : goal.returns-in-Ok-clause-done
returns-in-Ok-clause-done g c =
    let fill = c.fill_block in (
      picture_in c.args.desc fill.new.block.samples,
      c.exchange.ensures.picture,
      read_is _ c.args.desc _ _ c.in_ok-block.block.samples fill.new.block.samples _
          c.in_ok-block.ensures.described fill.ensures.size c.in-Ok.ensures.fills,
      c.exchange.ensures.written,
    )

pub returns-in-Err-clause-err : goal.returns-in-Err-clause-err
returns-in-Err-clause-err g c =
    let fill = c.fill_block in (
      picture_in c.args.desc fill.new.block.samples,
      read_is _ c.args.desc _ _ c.in_ok-block.block.samples fill.new.block.samples _
          c.in_ok-block.ensures.described fill.ensures.size c.in-Err.ensures.fills,
    )
