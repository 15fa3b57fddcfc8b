-- Pictures that are read from a source: the samples, and then the client's context and the world.
use Rattle.std.specs.Prelude.{⊤}
use Rattle.std.proofs.Common.{◌≡◌, ◌∙◌, ℕ, false, List, ℤ, Some, length, Result, Ok, Err, inl, inr, OnOk, OnErr, IfErr, refl, sym, ap, subst, ne_eqb}
use Rattle.client_contexts.proofs.Common.{is_at, lookup, nat_cmp, Reference, Description, Format, Context, Empty, Request, Reply, WriteImage, reply_and_state, write_image, LimitsValue, KeepsLimits, AreKept, KeptGraph, ClientContext, World}
use Rattle.vx_base.specs.Reference.{IsReference}
use Rattle.vx_base.specs.Picture.{PictureValue, IsPicture, Describes, values, samples_format}
use Rattle.vx_base.specs.declared.code.Code.{Code}
use Rattle.vx_base.specs.declared.samples.Samples.{Samples}
use Rattle.client_model.specs.Answer.{answer_to}
use Rattle.client_model.specs.Operands.{image_of}
use Rattle.client_contexts.specs.Applies.{Applies}
use Rattle.client_contexts.specs.Incoming.{IsRead, SaysWhyUnwritten, IsRefusedFor, IsRefused, WritesReadPicture}
use Rattle.client_contexts.specs.World.{state_of}
use Rattle.client_contexts.specs.declared.memory.NoMemory.{NoMemory}
use Rattle.client_contexts.specs.declared.source.WriteFault.{WriteFault}
use Rattle.client_contexts.specs.declared.source.WriteFault.TheVariants.{Refused, Source}
use Rattle.client_contexts.proofs.ForgetLemmas.{apart}
use Rattle.client_contexts.proofs.KeptGraphLemmas.{kept_written}
use Rattle.client_contexts.proofs.WriteLemmas.{write_refused}
use Rattle.client_contexts.proofs.RuntimeLemmas.{applies_to_kept}
use Rattle.client_contexts.proofs.VerifiedLemmas.{same_keeps}
use Rattle.std.specs.Map.{set_value}
use Rattle.std.proofs.lemmas.Result.{IfErr-weaker, on_ok_weaker}
use Rattle.std.proofs.lemmas.Map.Steps.{set_value_same}

abbrev pub picture_in : Description → Samples → PictureValue
picture_in d samples = record { description = d; samples = values samples }

module _ {S E : Type 0} (fills : S → S → Format → List ℤ → Result ⊤ E → Type 0)
    (d : Description) (old new : S) where
  -- samples that were read into a block that fits the description
  pub read_is : (before after : Samples) (result : Result ⊤ E)
      → Describes d before
      → length (values after) ≡ length (values before)
      → fills old new (samples_format before) (values after) result
      → IsRead fills d old new (picture_in d after) result
  read_is before after result h size came =
      record {
        described = refl;
        size = size ∙ h.size;
        came = subst (λ (f : Format). fills old new f (values after) result) h.format came;
      }

  -- the refusal may be described by a weaker property
  pub unwritten_weaker : (P Q : Code → Type 0) (fault : WriteFault E)
      → ((code : Code) → P code → Q code)
      → SaysWhyUnwritten fills d old new P fault
      → SaysWhyUnwritten fills d old new Q fault
  unwritten_weaker P Q (Refused code) weaker (same, inl none) = (same, inl none)
  unwritten_weaker P Q (Refused code) weaker (same, inr why) = (same, inr (weaker code why))
  unwritten_weaker P Q (Source fault) weaker read = read

  -- the kept graphs can still run
  pub incoming_keeps :
      (limits : LimitsValue) (c later : Context) (cell : Reference)
      (kept : List (ℕ × KeptGraph)) (result : Result ⊤ (WriteFault E))
      → KeepsLimits limits c
      → IsReference cell
      → OnOk result
      ((p : PictureValue)
      × IsPicture p
      × IsRead fills d old new p (Ok tt)
      × (write_image c cell p ≡ Ok (Empty, Some later)))
      → OnErr result (later ≡ c)
      → AreKept c kept
      → AreKept later kept
  incoming_keeps limits c later cell kept (Ok x) h is (p, picture, read, done) back are =
      let written : Result Reply ⊤ = Ok Empty in
      kept_written limits c later (WriteImage cell p) (write_image c cell p) written kept h
      (is, picture) refl (λ name. refl) refl done tt are
  incoming_keeps limits c later cell kept (Err e) h is done back are = rw back are

-- ---- the world

-- a client's picture is refused by its context
refused_by :
    (client : ℕ) (world : World) (c : Context) (cell : Reference) (d : Description) (code : Code)
    → state_of client world ≡ Some c
    → IsRefusedFor c cell d code
    → IsRefused client cell d world code
refused_by client world c cell d code is (refusal, told, why) = λ p described.
    let refused = write_refused (image_of c.objects cell) c cell p refusal (rw described why) in
    rw (is, refused, told) refl

-- the client's entry changes as by the request, and all others stay
applies_done :
    (limits : LimitsValue) (client : ℕ) (request : Request) (reply : Reply)
    (old new : List (ℕ × ClientContext)) (o n : ClientContext)
    → lookup (is_at (nat_cmp client)) old ≡ Some o
    → lookup (is_at (nat_cmp client)) new ≡ Some n
    →
    ((other : ℕ)
    → is_at (nat_cmp client) other ≡ false
    → lookup (is_at (nat_cmp other)) new ≡ lookup (is_at (nat_cmp other)) old)
    → answer_to limits (Some o.context) request ≡ (reply, Some n.context)
    → Applies client request (record { limits = limits; contexts = old })
    (record { limits = limits; contexts = new }) (Ok reply)
applies_done limits client request reply old new o n was is others answers =
    record {
      limits = refl;
      reply = rw (was, answers) refl;
      own = rw (was, is, answers) refl;
      others =
          λ other differs. rw
          (others other (apart client other (ne_eqb client other (λ same. differs (sym same)))))
          refl;
      no_memory = tt;
      takes = tt;
    }

module _ {S E : Type 0} (fills : S → S → Format → List ℤ → Result ⊤ E → Type 0)
    (d : Description) (old new : S) (limits : LimitsValue) (client : ℕ)
    (before after : List (ℕ × ClientContext)) (world : World)
    (shown : record { limits = limits; contexts = before } ≡ world) (o n : ClientContext)
    (was : lookup (is_at (nat_cmp client)) before ≡ Some o) (result : Result ⊤ (WriteFault E))
    (cell : Reference) where
  abbrev later : World
  later = record { limits = limits; contexts = after }

  -- the picture is written
  pub write_applies : lookup (is_at (nat_cmp client)) after ≡ Some n
      →
      ((other : ℕ)
      → is_at (nat_cmp client) other ≡ false
      → lookup (is_at (nat_cmp other)) after ≡ lookup (is_at (nat_cmp other)) before)
      → n.verified ≡ o.verified
      → OnOk result
      ((p : PictureValue)
      × IsRead fills d old new p (Ok tt)
      × (write_image o.context cell p ≡ Ok (Empty, Some n.context)))
      → OnOk result (WritesReadPicture fills d old new client cell world later)
  write_applies is others same done =
      on_ok_weaker result
      (λ (p, read, written).
      let request : Request = WriteImage cell p in
      let reply : Result Reply NoMemory = Ok Empty in
      let answers : answer_to limits (Some o.context) request ≡ (Empty, Some n.context) =
      ap (reply_and_state o.context) written in (
        p,
        read,
        rw (← shown)
            (applies_done limits client request Empty before after o n was is others answers),
        rw (← shown)
            (applies_to_kept limits client request reply before after (Some o) (Some n) was is
            others
            (same_keeps limits.work request refl o.verified n.verified reply (λ name. refl) same)),
      )) done

  -- or the result is the reason why not
  pub write_told : IfErr result (SaysWhyUnwritten fills d old new (IsRefusedFor o.context cell d))
      → IfErr result (SaysWhyUnwritten fills d old new (IsRefused client cell d world))
  write_told told =
      IfErr-weaker result _ _
      (λ fault said. unwritten_weaker fills d old new (IsRefusedFor o.context cell d)
      (IsRefused client cell d world) fault
      (λ code. refused_by client world o.context cell d code (rw (← shown, was) refl)) said)
      told

-- if the client's entry is unchanged, the world is unchanged
pub write_same :
    {T F : Type 0} (limits : LimitsValue) (client : ℕ) (before after : List (ℕ × ClientContext))
    (world : World) (o n : ClientContext) (result : Result T F)
    → record { limits = limits; contexts = before } ≡ world
    → lookup (is_at (nat_cmp client)) before ≡ Some o
    → after ≡ set_value (is_at (nat_cmp client)) before n
    → OnErr result (n ≡ o)
    → OnErr result (record { limits = limits; contexts = after } ≡ world)
write_same limits client before after world o n (Ok x) shown was becomes none = tt
write_same limits client before after world o n (Err fault) shown was becomes is =
    let stays : after ≡ before =
    becomes
    ∙ ap (set_value (is_at (nat_cmp client)) before) is
    ∙ set_value_same (is_at (nat_cmp client)) before o was in
    ap
    (λ (contexts : List (ℕ × ClientContext)). let w : World = record
    { limits = limits; contexts = contexts } in w)
    stays
    ∙ shown
