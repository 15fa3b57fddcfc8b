-- How `apply` ends for a text that encodes no picture.
use Rattle.std.proofs.Common.{◌≡◌, ℕ, List, Some, Result, Ok, Err, IfErr, IsErrAnd, inl, inr, ap, ◌∙◌}
use Rattle.vx_base.specs.Picture.{PictureValue}
use Rattle.pgm_images.specs.declared.fault.PgmFault.{PgmFault}
use Rattle.pgm_images.specs.Reading.{read_result, fault_of, FailsFor}
use Rattle.vx_programs.specs.declared.ended.Ended.{Ended}
use Rattle.vx_programs.specs.declared.ended.Ended.TheVariants.{Refused}
use Rattle.vx_programs.specs.declared.job.Job.{Job}
use Rattle.vx_programs.specs.Apply.{job_result, applied_to, pgm_fault_code, EndsFor}

fault_found : (read : Result PictureValue PgmFault) (e : PgmFault)
    → fault_of read ≡ Some e
    → read ≡ Err e
fault_found (Ok p) e h = cc
fault_found (Err f) e h = let same : f ≡ e = cc in ap (λ (x : PgmFault). Err x) same

pub ends_for : (job : Job) (text : List ℕ) (e : PgmFault) (ended : Ended)
    → FailsFor text e
    → ended ≡ Refused (pgm_fault_code e)
    → EndsFor (job_result job text) ended
ends_for job text e ended fails is =
    record {
      is = elim fails.is [
        | inl found ↦
            inr (pgm_fault_code e, ap (applied_to job) (fault_found (read_result text) e found), is)
        | inr wants ↦ inl (is ∙ ap (λ (x : PgmFault). Refused (pgm_fault_code x)) wants.0)
      ];
    }

pub ends_if : {T : Type 0} (job : Job) (text : List ℕ) (e : PgmFault)
    → FailsFor text e
    → (result : Result T Ended)
    → IsErrAnd result (λ ended. ended ≡ Refused (pgm_fault_code e))
    → IfErr result (EndsFor (job_result job text))
ends_if job text e fails (Ok x) is = tt
ends_if job text e fails (Err ended) is = ends_for job text e ended fails is
