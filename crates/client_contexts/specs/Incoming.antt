-- Pictures whose samples are read from a source and written to an image.
use Rattle.std.specs.Prelude.{ℕ, ℤ, ◌≡◌, ◌⊎◌, ⊤, List, length, Some, Result, Ok, Err}
use Rattle.vx_base.specs.Reference.{Reference}
use Rattle.vx_base.specs.Description.{Description, sample_count}
use Rattle.vx_base.specs.Picture.{PictureValue}
use Rattle.vx_base.specs.declared.code.Code.{Code}
use Rattle.vx_base.specs.declared.code.Code.TheVariants.{NoMemory}
use Rattle.vx_base.specs.declared.format.Format.{Format}
use Rattle.object_table.specs.Context.{Context}
use Rattle.client_model.specs.declared.refusal.Refusal.{Refusal}
use Rattle.client_model.specs.Operands.{image_of}
use Rattle.client_model.specs.declared.reply.Reply.TheVariants as reply
use Rattle.client_model.specs.declared.request.Request.TheVariants.{WriteImage}
use Rattle.client_model.specs.Refusal.{refusal_code}
use Rattle.client_contexts.specs.declared.source.WriteFault.{WriteFault}
use Rattle.client_contexts.specs.declared.source.WriteFault.TheVariants.{Refused, Source}
use Rattle.client_contexts.specs.Lookup.{refusal_for}
use Rattle.client_contexts.specs.World.{World}
use Rattle.client_contexts.specs.Applies.{Applies, AppliesToKept, IsAnswered}

-- `fills` is the effect of a call of `fill`. The arguments of `fills` are the source before and
-- after, the format of the samples, the samples after, and the result.
module _ {S E : Type 0} (fills : S → S → Format → List ℤ → Result ⊤ E → Type 0)
    (d : Description) (old new : S) where
  -- p has this description, and its samples are those that the source gave, or any samples if the
  -- source failed
  pub record IsRead (p : PictureValue) (result : Result ⊤ E) : Type 0 where
    pub described : p.description ≡ d
    pub size : length p.samples ≡ sample_count d
    pub came : fills old new d.format p.samples result

  -- a picture that the source gave is written to a client's image, as WriteImage writes it
  abbrev pub WritesReadPicture : ℕ → Reference → World → World → Type 0
  WritesReadPicture client cell before after =
      (p : PictureValue) × IsRead p (Ok tt)
      × Applies client (WriteImage cell p) before after (Ok reply.Empty)
      × AppliesToKept client (WriteImage cell p) before after (Ok reply.Empty)

  -- the reason why a picture isn't written: a refusal or no memory, before anything was read; or a
  -- fault of the source
  abbrev pub SaysWhyUnwritten : (Code → Type 0) → WriteFault E → Type 0
  SaysWhyUnwritten refuses (Refused code) = (new ≡ old) × ((code ≡ NoMemory) ⊎ refuses code)
  SaysWhyUnwritten refuses (Source fault) = (p : PictureValue) × IsRead p (Err fault)

-- writing a picture of this description to a reference is refused with this code
abbrev pub IsRefusedFor : Context → Reference → Description → Code → Type 0
IsRefusedFor c cell d code =
    (refusal : Refusal)
    × (code ≡ refusal_code refusal)
    × (refusal_for (image_of c.objects cell) d ≡ Some refusal)

-- a client's request to write any picture of this description to this reference is refused with
-- this code
abbrev pub IsRefused : ℕ → Reference → Description → World → Code → Type 0
IsRefused client cell d world code =
    (p : PictureValue)
    → p.description ≡ d
    → IsAnswered client (WriteImage cell p) world (reply.Refused code)
