use Rattle.vx_base.proofs.RectangleLaws.{places_decide}
use Rattle.vx_base.proofs.laws.rectangles.pixels_decide_rectangle.Goals as goal

pub returns : goal.returns
returns c = places_decide
