-- The frames that may be lost when memory runs out.
use Rattle.std.specs.Prelude.{◌<◌, length, Result, Ok, Err, ◌⊎◌}
use Rattle.client_model.specs.declared.request.Request.{Request}
use Rattle.client_model.specs.declared.request.Request.TheVariants.{ReadImage, ReadImagePgm}
use Rattle.vx_requests.specs.Frame.Frames.{Frame}
use Rattle.vx_wire.specs.declared.body_fault.BodyFault.{BodyFault}
use Rattle.client_model.specs.Request.{TakesMemory}
use Rattle.vx_wire.specs.Requests.{request_of, HoldsSamples}

-- the request needs memory to be parsed or answered; ReadImage and ReadImagePgm do not, because
-- their replies are written straight from the image
abbrev pub NeedsMemory : Request → Type 0
NeedsMemory (ReadImage image) = ⊥
NeedsMemory (ReadImagePgm image) = ⊥
NeedsMemory request = HoldsSamples request ⊎ TakesMemory request

-- the body encodes a request that needs memory
abbrev pub SpellsTaking : Result Request BodyFault → Type 0
SpellsTaking (Ok request) = NeedsMemory request
SpellsTaking (Err fault) = ⊥

-- the frame may be lost: its body has more than 64 bytes, or its request needs memory
abbrev pub MayBeLost : Frame → Type 0
MayBeLost f = (64 < length f.body) ⊎ SpellsTaking (request_of f.op f.body)
