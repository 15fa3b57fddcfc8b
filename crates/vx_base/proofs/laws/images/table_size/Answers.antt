use Rattle.vx_base.proofs.TableLaws.{length-table}
use Rattle.vx_base.proofs.laws.images.table_size.Goals as goal

pub returns : goal.returns
returns c = length-table
