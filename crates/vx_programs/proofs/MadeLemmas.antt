-- What the requests of `apply` are answered, from one state to the next.
use Rattle.std.proofs.Common.{◌≡◌, ◌∙◌, ◌+◌, ◌*◌, ◌≤◌, ℕ, ℤ, true, List, [], ◌∷◌, None, Some, ap, subst, sym, refl, arith, nat_le, eq-eqb, le-leb, leb-true}
use Rattle.std.proofs.lemmas.Bool.{and_parts}
use Rattle.std.proofs.Math.Nat.{mul-le-mul}
use Rattle.vx_base.specs.declared.border.Border.{Border}
use Rattle.vx_base.specs.declared.format.Format.{Format}
use Rattle.vx_base.specs.declared.format.Format.TheVariants.{U8}
use Rattle.vx_base.specs.Reference.{Reference}
use Rattle.vx_base.specs.Description.{Description, IsDescription, is_side}
use Rattle.vx_base.specs.Image.{ImageValue, new_image}
use Rattle.vx_base.specs.Picture.{PictureValue, picture_image}
use Rattle.vx_base.specs.Object.{ImageObject}
use Rattle.client_model.specs.declared.request.Request.{Request}
use Rattle.client_model.specs.declared.request.Request.TheVariants.{OpenContext, CreateImage, WriteImage, Immediate, ReadImagePgm}
use Rattle.client_model.specs.declared.reply.Reply.{Reply}
use Rattle.client_model.specs.declared.reply.Reply.TheVariants.{Text}
use Rattle.client_model.specs.Limits.{LimitsValue, default_limits}
use Rattle.object_table.specs.Context.{new_context, charge_of}
use Rattle.client_model.specs.Context.{State}
use Rattle.client_model.specs.Answer.{answer_to}
use Rattle.client_contexts.specs.World.{World, state_of}
use Rattle.vx_programs.specs.declared.job.Job.{Job}
use Rattle.vx_programs.specs.declared.job.Operation.{Operation}
use Rattle.vx_programs.specs.declared.job.Operation.TheVariants.{Not, Box, Gaussian, Median, Erode, Dilate}
use Rattle.vx_programs.specs.Job.{node_of}
use Rattle.vx_programs.specs.Apply.{image_made, text_made}
use Rattle.vx_base.specs.declared.desc.TheConstants.{GREATEST_SIDE}

-- a context with one image, and one with two
abbrev pub of_one : ImageValue → State
of_one a =
    Some
    (record { next = 2; objects = record { name = 1; live = true; object = ImageObject a } ∷ [] })

abbrev pub of_two : ImageValue → ImageValue → State
of_two a b = Some (record {
  next = 3;
  objects =
      record { name = 1; live = true; object = ImageObject a }
      ∷ record { name = 2; live = true; object = ImageObject b }
      ∷ [];
})

-- images of at most 2^26 samples of one byte, two of which are within the quota
pub first_created : (w h : ℕ)
    → h * w ≤ GREATEST_SIDE * GREATEST_SIDE
    →
    (answer_to default_limits (Some new_context)
    (CreateImage (record { width = w; height = h; format = U8 }))).1
    ≡ of_one (new_image w h U8)
first_created w h fits =
    let room : nat_le (0 + h * w * 1) 268435456 ≡ true = le-leb _ _ (omega (arith, fits)) in
    rw room refl

pub second_created : (w h : ℕ)
    → h * w ≤ GREATEST_SIDE * GREATEST_SIDE
    →
    (answer_to default_limits (of_one (new_image w h U8))
    (CreateImage (record { width = w; height = h; format = U8 }))).1
    ≡ of_two (new_image w h U8) (new_image w h U8)
second_created w h fits =
    let charge : ℕ =
    charge_of (record { name = 1; live = true; object = ImageObject (new_image w h U8) } ∷ []) in
    let room : nat_le (charge + h * w * 1) 268435456 ≡ true = le-leb _ _ (omega (arith, fits)) in
    rw room refl

pub picture_written : (w h : ℕ) (samples : List ℤ) →
    let p : PictureValue =
    record { description = record { width = w; height = h; format = U8 }; samples = samples } in
    (answer_to default_limits (of_two (new_image w h U8) (new_image w h U8))
    (WriteImage (record { name = 1; slot = None }) p)).1
    ≡ of_two (picture_image p) (new_image w h U8)
picture_written w h samples = rw (eq-eqb w w refl, eq-eqb h h refl) refl

pub node_run : (operation : Operation) (border : Border) (w h : ℕ) (samples : List ℤ) →
    let job : Job = record { operation = operation; border = border } in
    let p : PictureValue =
    record { description = record { width = w; height = h; format = U8 }; samples = samples } in
    (answer_to default_limits (of_two (picture_image p) (new_image w h U8))
    (Immediate (node_of job))).1
    ≡ of_two (picture_image p) (image_made job p)
node_run Not border w h samples = rw (eq-eqb w w refl, eq-eqb h h refl) refl
node_run Box border w h samples = rw (eq-eqb w w refl, eq-eqb h h refl) refl
node_run Gaussian border w h samples = rw (eq-eqb w w refl, eq-eqb h h refl) refl
node_run Median border w h samples = rw (eq-eqb w w refl, eq-eqb h h refl) refl
node_run Erode border w h samples = rw (eq-eqb w w refl, eq-eqb h h refl) refl
node_run Dilate border w h samples = rw (eq-eqb w w refl, eq-eqb h h refl) refl

pub text_read : (operation : Operation) (border : Border) (w h : ℕ) (samples : List ℤ) →
    let job : Job = record { operation = operation; border = border } in
    let p : PictureValue =
    record { description = record { width = w; height = h; format = U8 }; samples = samples } in
    (answer_to default_limits (of_two (picture_image p) (image_made job p))
    (ReadImagePgm (record { name = 2; slot = None }))).0
    ≡ Text (text_made job p)
text_read Not border w h samples = refl
text_read Box border w h samples = refl
text_read Gaussian border w h samples = refl
text_read Median border w h samples = refl
text_read Erode border w h samples = refl
text_read Dilate border w h samples = refl

-- ---- the worlds that the requests lead through

side_most : (n : ℕ) → is_side n ≡ true → n ≤ GREATEST_SIDE
side_most n is = leb-true n GREATEST_SIDE (and_parts (nat_le 1 n) (nat_le n GREATEST_SIDE) is).1

-- what a request of client 1 makes of a world
pub record Asks (old : World) (request : Request) (new : World) : Type 0 where
  pub limits : new.limits ≡ old.limits
  pub state : state_of 1 new ≡ (answer_to old.limits (state_of 1 old) request).1

-- the limits are the default ones, and this is the state of client 1
record Has (w : World) (s : State) : Type 0 where
  limits : w.limits ≡ default_limits
  state : state_of 1 w ≡ s

answer_in : (w : World) (s : State) (request : Request)
    → Has w s
    → answer_to w.limits (state_of 1 w) request ≡ answer_to default_limits s request
answer_in w s request has =
    ap (λ (l : LimitsValue). answer_to l (state_of 1 w) request) has.limits
    ∙ ap (λ (t : State). answer_to default_limits t request) has.state

step : (w : World) (s : State) (request : Request) (w' : World) (s' : State)
    → Has w s
    → Asks w request w'
    → (answer_to default_limits s request).1 ≡ s'
    → Has w' s'
step w s request w' s' has asks comes =
    record {
      limits = asks.limits ∙ has.limits;
      state = asks.state ∙ ap (λ a. a.1) (answer_in w s request has) ∙ comes;
    }

-- the reply to the last request
abbrev pub Gives : Job → PictureValue → Type 0
Gives job p =
    (w0 w1 w2 w3 w4 w5 : World)
    → w0 ≡ record { limits = default_limits; contexts = [] }
    → Asks w0 OpenContext w1
    → Asks w1 (CreateImage p.description) w2
    → Asks w2 (CreateImage p.description) w3
    → Asks w3 (WriteImage (record { name = 1; slot = None }) p) w4
    → Asks w4 (Immediate (node_of job)) w5
    → (out : Reference)
    → out ≡ record { name = 2; slot = None }
    → (reply : Reply)
    → reply ≡ (answer_to w5.limits (state_of 1 w5) (ReadImagePgm out)).0
    → reply ≡ Text (text_made job p)

gives_bytes : (operation : Operation) (border : Border) (w h : ℕ) (samples : List ℤ)
    → h * w ≤ GREATEST_SIDE * GREATEST_SIDE
    →
    Gives (record { operation = operation; border = border })
    (record { description = record { width = w; height = h; format = U8 }; samples = samples })
gives_bytes operation border w h samples fits w0 w1 w2 w3 w4 w5 new a1 a2 a3 a4 a5 out is reply
    replied =
    let d : Description = record { width = w; height = h; format = U8 } in
    let p : PictureValue = record { description = d; samples = samples } in
    let job : Job = record { operation = operation; border = border } in
    let blank : ImageValue = new_image w h U8 in
    let h0 : Has w0 None =
    record { limits = ap (λ (x : World). x.limits) new; state = ap (state_of 1) new } in
    let h1 : Has w1 (Some new_context) =
    step w0 None OpenContext w1 (Some new_context) h0 a1 refl in
    let h2 : Has w2 (of_one blank) =
    step w1 (Some new_context) (CreateImage d) w2 (of_one blank) h1 a2 (first_created w h fits) in
    let h3 : Has w3 (of_two blank blank) =
    step w2 (of_one blank) (CreateImage d) w3 (of_two blank blank) h2 a3
    (second_created w h fits) in
    let h4 : Has w4 (of_two (picture_image p) blank) =
    step w3 (of_two blank blank) (WriteImage (record { name = 1; slot = None }) p) w4
    (of_two (picture_image p) blank) h3 a4 (picture_written w h samples) in
    let h5 : Has w5 (of_two (picture_image p) (image_made job p)) =
    step w4 (of_two (picture_image p) blank) (Immediate (node_of job)) w5
    (of_two (picture_image p) (image_made job p)) h4 a5 (node_run operation border w h samples)
    in
    replied
    ∙ ap (λ (cell : Reference). (answer_to w5.limits (state_of 1 w5) (ReadImagePgm cell)).0) is
    ∙ ap (λ a. a.0)
    (answer_in w5 (of_two (picture_image p) (image_made job p))
    (ReadImagePgm (record { name = 2; slot = None })) h5)
    ∙ text_read operation border w h samples

-- a picture of U8 comes back as the text of what the job makes of it
pub gives_text : (job : Job) (p : PictureValue)
    → p.description.format ≡ U8
    → IsDescription p.description
    → Gives job p
gives_text job p u8 is =
    let d = p.description in
    let fits : d.height * d.width ≤ GREATEST_SIDE * GREATEST_SIDE =
    mul-le-mul (side_most d.height is.height) (side_most d.width is.width) in
    let q : PictureValue =
    record {
      description = record { width = d.width; height = d.height; format = U8 };
      samples = p.samples;
    } in
    let e : p ≡ q =
    ap
    (λ (f : Format). record {
      description = record { width = d.width; height = d.height; format = f };
      samples =
          p.samples;
    })
    u8 in
    subst (λ (x : PictureValue). Gives job x) (sym e)
    (gives_bytes job.operation job.border d.width d.height p.samples fits)
