use Rattle.vx_base.proofs.FormatLaws.{open_formats}
use Rattle.vx_base.proofs.laws.formats.open_formats_suffice.Goals as goal

pub returns : goal.returns
returns c = open_formats
