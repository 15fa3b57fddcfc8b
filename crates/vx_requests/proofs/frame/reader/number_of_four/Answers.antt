use Rattle.vx_requests.proofs.Common.{be_bytes_4}
use Rattle.vx_requests.proofs.frame.reader.number_of_four.Goals as goal

pub returns : goal.returns
returns c =
    be_bytes_4 c.args.bytes.now c.from_be_bytes.result c.told-bytes c.fits-bytes
    c.from_be_bytes.ensures
