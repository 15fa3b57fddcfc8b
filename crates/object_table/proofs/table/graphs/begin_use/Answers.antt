use Rattle.std.proofs.Common.{refl, ◌+◌, ◌<◌, Option, IfSome, ap, sym, subst, ◌∙◌, arith}
use Rattle.object_table.proofs.Common.{nat_cmp, is_at, All-lookup, Entry}
use Rattle.object_table.proofs.UseLemmas.{with_uses, more, more_is, used-nil, used-one, used-none}
use Rattle.object_table.proofs.table.graphs.begin_use.Goals as goal

pub overflow_add-entry : goal.overflow_add-entry
overflow_add-entry c =
    let Small : Entry → Type 0 = λ e. e.uses < 4294967295 in
    let small : Small c.in-Some-get_mut.entry.now =
    subst (λ (o : Option Entry). IfSome o Small) (sym c.in-Some-get_mut.ensures.value)
    (All-lookup Small (is_at (nat_cmp c.name.result)) c.args.entries.now.entries c.requires) in
    omega (arith, small)

pub returns-in-Some-get_mut : goal.returns-in-Some-get_mut
returns-in-Some-get_mut c =
    let entries = c.args.entries.now.entries in
    let old = c.in-Some-get_mut.entry.now in
    (c.get_mut.follows.holds (with_uses old (old.uses + 1))).0
    ∙ used-one more more_is entries c.name.result old c.get_mut.ensures.ordered
    (sym c.in-Some-get_mut.ensures.value)
    ∙ (rw (c.in-Some.is, c.name.ensures.value) refl)

pub returns-in_default-get_mut : goal.returns-in_default-get_mut
returns-in_default-get_mut c =
    ap (λ m. m.entries) c.get_mut.follows.holds-at-none
    ∙ used-none more more_is c.args.entries.now.entries c.name.result
    (sym c.in_default-get_mut.ensures.value)
    ∙ (rw (c.in-Some.is, c.name.ensures.value) refl)

pub returns-in_default : goal.returns-in_default
returns-in_default c =
    sym (used-nil more more_is c.args.entries.now.entries) ∙ (rw c.in_default.is refl)
