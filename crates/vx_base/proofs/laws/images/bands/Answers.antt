use Rattle.vx_base.proofs.TableLaws.{band-append}
use Rattle.vx_base.proofs.ImageLaws.{whole_band}
use Rattle.vx_base.proofs.laws.images.bands.Goals as goal

pub returns-clause-whole : goal.returns-clause-whole
returns-clause-whole c = whole_band

pub returns-clause-joined : goal.returns-clause-joined
returns-clause-joined c = band-append
