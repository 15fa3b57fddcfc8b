-- The results of `apply`.
use Rattle.std.specs.Prelude.{◌≡◌, ◌⊎◌, ℕ, List, None, Result, Ok, Err, if◌then◌else◌}
use Rattle.vx_base.specs.declared.code.Code.{Code}
use Rattle.vx_base.specs.declared.code.Code.TheVariants.{InvalidFormat, InvalidDimension, InvalidValue, NoMemory}
use Rattle.vx_base.specs.declared.format.Format.TheVariants.{U8}
use Rattle.vx_base.specs.declared.output.Output.TheVariants.{First}
use Rattle.vx_base.specs.Sample.{same_format}
use Rattle.vx_base.specs.Image.{ImageValue}
use Rattle.vx_base.specs.Picture.{PictureValue, picture_of, picture_image}
use Rattle.vx_base.specs.Outputs.{node_image}
use Rattle.pgm_images.specs.declared.fault.PgmFault.{PgmFault}
use Rattle.pgm_images.specs.declared.fault.PgmFault.TheVariants as fault
use Rattle.pgm_images.specs.Reading.{read_result}
use Rattle.pgm_images.specs.Writing.{pgm_text}
use Rattle.vx_programs.specs.declared.ended.Ended.{Ended}
use Rattle.vx_programs.specs.declared.ended.Ended.TheVariants.{Refused}
use Rattle.vx_programs.specs.declared.job.Job.{Job}
use Rattle.vx_programs.specs.Job.{node_of}

-- the image that the job's node computes from a picture
abbrev pub image_made : Job → PictureValue → ImageValue
image_made job p = node_image (node_of job) First U8 (picture_image p) None

-- the PGM text of the image that the job's node computes
abbrev pub text_made : Job → PictureValue → List ℕ
text_made job p = pgm_text (picture_of (image_made job p))

-- the code for a fault of a PGM text
abbrev pub pgm_fault_code : PgmFault → Code
pgm_fault_code fault.InvalidDimension = InvalidDimension
pgm_fault_code fault.InvalidValue = InvalidValue
pgm_fault_code fault.InvalidFormat = InvalidFormat
pgm_fault_code fault.NoMemory = NoMemory

-- the text that a job writes if it has read a U8 picture, otherwise the code of the fault
abbrev pub applied_to : Job → Result PictureValue PgmFault → Result (List ℕ) Code
applied_to job (Err fault) = Err (pgm_fault_code fault)
applied_to job (Ok p) =
    if same_format p.description.format U8 then Ok (text_made job p) else Err InvalidFormat

-- the PGM text that a job writes for the PGM text that it reads, or the code of the fault
abbrev pub job_result : Job → List ℕ → Result (List ℕ) Code
job_result job text = applied_to job (read_result text)

-- the program ended with NoMemory, or with the code in `outcome`
pub record EndsFor (outcome : Result (List ℕ) Code) (ended : Ended) : Type 0 where
  pub is :
      (ended ≡ Refused NoMemory) ⊎ ((code : Code) × (outcome ≡ Err code) × (ended ≡ Refused code))
