use Rattle.std.proofs.Common.{◌≡◌, ◌+◌, ◌<◌, ◌^◌, ◌∙◌, min, inl, inr, refl, arith}
use Rattle.graph_steps.proofs.HaloLaws.{raised_one, raised_two}
use Rattle.graph_steps.proofs.halos.raise_inputs.Goals as goal

pub raise-requires : goal.raise-requires
raise-requires c = c.requires c.args.step.now.first (inl refl)

pub raise-requires-in-Plane : goal.raise-requires-in-Plane
raise-requires-in-Plane c =
    omega (arith, c.raise.auto.needs, c.requires c.in-Plane.second (inr c.in-Plane.is))

pub returns-in-Plane : goal.returns-in-Plane
returns-in-Plane c =
    let s = c.args.step.now in
    let fit : c.args.high < 2 ^ 16 = c.ranges.high.fits in
    let m = c.min-rows.ensures in
    let a = c.saturating_add.ensures in
    let exact : c.min-rows.result ≡ min c.args.high (s.halo + s.radius) = omega arith in
    let r =
    raised_two s c.min-rows.result c.in-Plane.second c.args.needs.now c.raise.new.needs
    c.raise-in-Plane.new.needs
    (c.requires s.first (inl refl)) (c.requires c.in-Plane.second (inr c.in-Plane.is))
    c.in-Plane.is c.raise.ensures c.raise-in-Plane.ensures in
    record {
      grows = r.grows;
      enough = λ k reads. (let e = r.enough k reads in omega arith);
      only = λ k. elim (r.only k) [ inl e ↦ inl e | inr m ↦ inr (m.0, m.1 ∙ exact) ];
    }

pub returns-in_default : goal.returns-in_default
returns-in_default c =
    let s = c.args.step.now in
    let fit : c.args.high < 2 ^ 16 = c.ranges.high.fits in
    let m = c.min-rows.ensures in
    let a = c.saturating_add.ensures in
    let exact : c.min-rows.result ≡ min c.args.high (s.halo + s.radius) = omega arith in
    let r =
    raised_one s c.min-rows.result c.args.needs.now c.raise.new.needs
    (c.requires s.first (inl refl)) (λ k e. c.in_default.not-Plane k e) c.raise.ensures in
    record {
      grows = r.grows;
      enough = λ k reads. (let e = r.enough k reads in omega arith);
      only = λ k. elim (r.only k) [ inl e ↦ inl e | inr m ↦ inr (m.0, m.1 ∙ exact) ];
    }
