-- Two box filters, and an integral image, in bands of two rows.
use Rattle.std.proofs.Common.{◌≡◌, ◌≢◌, ℕ, zero, suc, ◌<◌, ◌≤◌, Option, Some, None, true, refl, sym, subst, inl, inr, arith, rules, ap, IsTrue}
use Rattle.graph_steps.proofs.Common.{CanMake, CanReduceBand, Reduction, blank_image, description_of, own_by, same_size, Description, HoldsRows, ImageValue, IsClient, IsClients, IsImage, IsNeeded, IsProgram, IsStepOf, IsUnwritten, NamesPlanes, ReadsPlane, Step, Suits, U32, U8, Write, block_images, capacities, capacity, images_after, new_image_is, plane, reads_output, ◌⊎◌}
use Rattle.vx_base.specs.Node.{IsNode}
use Rattle.graph_steps.proofs.StepLaws.{made_is}
use Rattle.graph_steps.proofs.BandLaws.{whole_desc}
use Rattle.graph_steps.specs.Examples.{no_tables, small_image_desc, client_plane, box_node, box_step, boxes, box_planes, box_tallies, integral_step, sums, sums_planes}

abbrev first_box : Step
first_box = box_step 1 0 (Some small_image_desc) 1

abbrev second_box : Step
second_box = box_step 0 2 None 0

one_of : (P : Step → Type 0) → P first_box → P second_box → (s : Step) → IsStepOf s boxes → P s
one_of P p q s i = elim i [
  | inl e ↦ subst P (sym e) p
  | inr j ↦ elim j [ inl e ↦ subst P (sym e) q | inr k ↦ absurd k ]
]

is_node : IsNode box_node
is_node = search rules

reads_first : (input output c halo : ℕ) (describes : Option Description)
    → ReadsPlane (box_step input output describes halo) c
    → c ≡ input
reads_first input output c halo describes r = elim r [ inl e ↦ sym e | inr e ↦ absurd (cc) ]

one_unwritten : IsUnwritten boxes 1
one_unwritten = one_of (λ s. s.output ≢ 1) (λ e. omega arith) (λ e. omega arith)

is_client : IsClient client_plane
is_client = record {
  whole = search rules;
  rows = refl;
  image = new_image_is 1 4 U8 refl refl;
}

client_at : (c : ℕ) → IsClients 1 3 c → IsClient (plane box_planes c)
client_at zero k = absurd (let b = k.0 in omega arith)
client_at (suc zero) k = is_client
client_at (suc (suc zero)) k = is_client
client_at (suc (suc (suc c))) k = absurd (let b = k.1 in omega arith)

tall_at : (c : ℕ) → IsClients 1 3 c → (plane box_planes c).desc.height ≤ 4
tall_at zero k = absurd (let b = k.0 in omega arith)
tall_at (suc zero) k = omega arith
tall_at (suc (suc zero)) k = omega arith
tall_at (suc (suc (suc c))) k = absurd (let b = k.1 in omega arith)

-- what is needed at the start is the first client's image
needed_one : (c more : ℕ) → IsNeeded (IsClients 1 3) 4 boxes c more → c ≡ 1
needed_one c more n = elim n [
  | inl r ↦ reads_first 1 0 c 1 (Some small_image_desc) r.0
  | inr a ↦ elim a.1 [
    | inl r ↦ absurd (a.0 (reads_first 0 2 c 0 None r.0))
    | inr b ↦ elim b.1 [
      | inl e ↦ absurd (a.0 (sym e.0))
      | inr k ↦ (let from = k.0.0 in let to = k.0.1 in let x = b.0 in omega arith)
    ]
  ]
]

-- a box filter can run on images that have the small description
box_suits : (input output halo : ℕ) (describes : Option Description) (images : ℕ → ImageValue)
    → description_of (images input) ≡ small_image_desc
    → description_of (own_by describes (images output)) ≡ small_image_desc
    → Suits no_tables 4 (box_step input output describes halo) images
box_suits input output halo describes images in_is out_is = record {
  makes =
      subst (λ d. CanMake (box_step input output describes halo) (images input) None d)
      (sym out_is) (box_makes (images input) in_is);
  table = (λ k e. absurd (cc));
  near = omega arith;
  tall =
      (λ c r. let e = reads_first input output c halo describes r in subst
      (λ k. (images k).height ≤ 4) (sym e)
      (subst (λ (d : Description). d.height ≤ 4) (sym in_is) (omega arith)));
}
  where
    box_makes : (image : ImageValue)
        → description_of image ≡ small_image_desc
        → CanMake (box_step input output describes halo) image None small_image_desc
    box_makes image is = record {
      node = is_node;
      kind = tt;
      formats = (let f : image.format ≡ U8 = ap (λ (d : Description). d.format) is in rw f refl);
      size = subst (λ d. IsTrue (same_size small_image_desc d)) (sym is) refl;
      second_size = tt;
    }

-- after the first box filter
abbrev between : ℕ → ImageValue
between = images_after no_tables (Write first_box) (block_images box_planes)

first_suits : Suits no_tables 4 first_box (block_images box_planes)
first_suits = box_suits 1 0 1 (Some small_image_desc) (block_images box_planes) refl refl

between_desc : description_of (between 0) ≡ small_image_desc
between_desc = whole_desc no_tables 4 first_box (block_images box_planes) first_suits

second_suits : Suits no_tables 4 second_box between
second_suits = box_suits 0 2 0 None between between_desc refl

between_is : IsImage (between 0)
between_is =
    made_is first_box (block_images box_planes 1) None small_image_desc
    (blank_image small_image_desc) first_suits.makes refl is_client.image tt

pub is_program : IsProgram no_tables 4 2 1 boxes box_planes
is_program = record {
  some = omega arith;
  forward = omega arith;
  clients = client_at;
  tall = tall_at;
  names = one_of (NamesPlanes 1 3)
      (record {
        output = omega arith;
        reads =
            (λ c r. let e = reads_first 1 0 c 1 (Some small_image_desc) r in
            (omega arith, (λ z. omega arith)));
        virtual = (λ d e. omega arith);
        client = (λ e. absurd (cc));
        own = (λ sums. absurd (cc));
      })
      (record {
        output = omega arith;
        reads = (λ c r. let e = reads_first 0 2 c 0 None r in (omega arith, (λ z. omega arith)));
        virtual = (λ d e. absurd (cc));
        client = (λ e. omega arith);
        own = (λ sums. refl);
      });
  inputs =
      λ r i. elim i
      [ inl e ↦ subst (λ (q : Reduction). q.input < 3) (sym e) (omega arith) | inr k ↦ absurd k ];
  runs = (
    first_suits,
    (
      second_suits,
      (between_is, subst (λ (d : Description). d.height ≤ 4) (sym between_desc) (omega arith), tt),
    ),
  );
  one_writer = ((λ none. absurd (cc)), ((λ none s i. absurd i), tt));
  begins =
      λ c more n. let e =
      needed_one c more n in subst (λ k. IsUnwritten boxes k × IsClients 1 3 k) (sym e)
      (one_unwritten, (omega arith, omega arith));
  enough = (
    (λ rows n. elim n [
      | inl r ↦ omega (arith, r.1)
      | inr a ↦ elim a.1
          [ inl e ↦ omega (arith, e.1) | inr k ↦ absurd k.0 ]
    ]),
    ((λ rows n. elim n [ inl e ↦ omega (arith, e.1) | inr k ↦ absurd k.0 ]), tt),
  );
  room =
      one_of
      (λ s. (d : Description)
      → s.describes ≡ Some d
      → HoldsRows 2 s.halo d (capacity (capacities box_planes) s.output))
      (λ d e. let k : small_image_desc ≡ d = cc in subst
      (λ d. HoldsRows 2 1 d (capacity (capacities box_planes) 0)) k (refl, omega arith))
      (λ d e. absurd (cc));
  once =
      one_of
      (λ s. reads_output s.node.function ≡ true → ((s.halo ≡ 0) × (s.describes ≡ None)) ⊎ (4 ≤ 2))
      (λ e. absurd (cc)) (λ e. absurd (cc));
}

pub can_reduce : CanReduceBand no_tables 0 boxes (block_images box_planes) box_tallies
can_reduce = record {
  apart = ((λ q i. absurd i), tt);
  reduces = (
    record {
      tally = omega arith;
      format = (λ e. cc);
      bounded = (omega arith, omega arith);
    },
    tt,
  );
}

-- ---- an integral image

only : (P : Step → Type 0) → P integral_step → (s : Step) → IsStepOf s sums → P s
only P p s i = elim i [ inl e ↦ subst P (sym e) p | inr k ↦ absurd k ]

sum_input : (c : ℕ) → ReadsPlane integral_step c → c ≡ 0
sum_input c r = elim r [ inl e ↦ sym e | inr e ↦ absurd (cc) ]

input_unwritten : IsUnwritten sums 0
input_unwritten = only (λ s. s.output ≢ 0) (λ e. omega arith)

sums_client : (c : ℕ) → IsClients 0 2 c → IsClient (plane sums_planes c)
sums_client zero k = is_client
sums_client (suc zero) k = record {
  whole = search rules;
  rows = refl;
  image = new_image_is 1 4 U32 refl refl;
}
sums_client (suc (suc c)) k = absurd (let b = k.1 in omega arith)

sums_tall : (c : ℕ) → IsClients 0 2 c → (plane sums_planes c).desc.height ≤ 4
sums_tall zero k = omega arith
sums_tall (suc zero) k = omega arith
sums_tall (suc (suc c)) k = absurd (let b = k.1 in omega arith)

-- what is needed at the start is the input
input_needed : (c more : ℕ) → IsNeeded (IsClients 0 2) 4 sums c more → c ≡ 0
input_needed c more n = elim n [
  | inl r ↦ sum_input c r.0
  | inr a ↦ (let below = a.1.0.1 in let other = a.0 in omega arith)
]

pub sums_program : IsProgram no_tables 4 2 0 sums sums_planes
sums_program = record {
  some = omega arith;
  forward = omega arith;
  clients = sums_client;
  tall = sums_tall;
  names = only (NamesPlanes 0 2) (record {
    output = omega arith;
    reads = (λ c r. let e = sum_input c r in (omega arith, (λ z. omega arith)));
    virtual = (λ d e. absurd (cc));
    client = (λ e. omega arith);
    own = (λ adds. refl);
  });
  inputs = λ r i. absurd i;
  runs = (
    record {
      makes = search rules;
      table = (λ k e. absurd (cc));
      near = omega arith;
      tall =
          (λ c r. let e = sum_input c r in subst (λ k. (block_images sums_planes k).height ≤ 4)
          (sym e) (omega arith));
    },
    tt,
  );
  one_writer = ((λ none s i. absurd i), tt);
  begins =
      λ c more n. let e =
      input_needed c more n in subst (λ k. IsUnwritten sums k × IsClients 0 2 k) (sym e)
      (input_unwritten, (omega arith, omega arith));
  enough = ((λ rows n. absurd n.0), tt);
  room =
      only
      (λ s. (d : Description)
      → s.describes ≡ Some d
      → HoldsRows 2 s.halo d (capacity (capacities sums_planes) s.output))
      (λ d e. absurd (cc));
  once =
      only
      (λ s. reads_output s.node.function ≡ true → ((s.halo ≡ 0) × (s.describes ≡ None)) ⊎ (4 ≤ 2))
      (λ e. inl (refl, refl));
}
