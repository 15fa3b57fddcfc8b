use Rattle.image_tests.proofs.ImageLaws.{bytes_image}
use Rattle.image_tests.proofs.images.lend.Goals as goal

pub new-requires-clause-image : goal.new-requires-clause-image
new-requires-clause-image c =
    bytes_image _ _ _ _ c.clear.ensures c.prove_sides.ensures c.prove_bounds.ensures.bounds
    c.requires.room c.prove_bytes.ensures
