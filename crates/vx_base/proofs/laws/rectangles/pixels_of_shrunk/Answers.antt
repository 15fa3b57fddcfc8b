use Rattle.vx_base.proofs.RectangleLaws.{shrunk_places}
use Rattle.vx_base.proofs.laws.rectangles.pixels_of_shrunk.Goals as goal

pub returns : goal.returns
returns c = shrunk_places
