use Rattle.window_kernels.proofs.gradients.sobel3.Goals as goal
use Rattle.window_kernels.proofs.gradients.sobel3.Goals.{in-Some, in_default}

pub returns-in-Some-output_y-clause-x : goal.returns-in-Some-output_y-clause-x
returns-in-Some-output_y-clause-x c = elim c.match-output_x.branch [
  | in-Some w ↦ rw (w.output_x-is, w.in-Some.is) w.sobel_x3.ensures
  | in_default w ↦ rw (w.output_x-is, w.in_default.is) tt
]

pub returns-in-Some-output_y-clause-y : goal.returns-in-Some-output_y-clause-y
returns-in-Some-output_y-clause-y c = rw c.in-Some-output_y.is c.sobel_y3.ensures

pub returns-in_default-output_y-clause-x : goal.returns-in_default-output_y-clause-x
returns-in_default-output_y-clause-x c = elim c.match-output_x.branch [
  | in-Some w ↦ rw (w.output_x-is, w.in-Some.is) w.sobel_x3.ensures
  | in_default w ↦ rw (w.output_x-is, w.in_default.is) tt
]
