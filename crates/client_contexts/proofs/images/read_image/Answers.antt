use Rattle.client_contexts.proofs.OutcomeLemmas.{image_is}
use Rattle.client_contexts.proofs.images.read_image.Goals as goal

pub picture-requires : goal.picture-requires
picture-requires c =
    image_is c.args.table.now c.args.reference c.in_ok-image.image.now c.requires
    c.in_ok-image.ensures.ok
