use Rattle.pixel_kernels.proofs.arithmetic.add.Goals as goal

pub returns-in-Wrap : goal.returns-in-Wrap
returns-in-Wrap c = rw c.in-Wrap.is c.write_arithmetic.ensures

pub returns-in-Saturate : goal.returns-in-Saturate
returns-in-Saturate c = rw c.in-Saturate.is c.write_arithmetic-in-Saturate.ensures
