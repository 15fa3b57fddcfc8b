use Rattle.std.proofs.Common.{rules, ◌*◌, List, length, ap, sym, ◌∙◌, sum_by}
use Rattle.object_table.proofs.Common.{ImageValue, image_bytes}
use Rattle.object_table.proofs.DelayLemmas.{bytes_alike}
use Rattle.object_table.proofs.delay.Delay.bytes.Goals as goal

pub returns-clause-value : goal.returns-clause-value
returns-clause-value c =
    let s = c.self.inside in
    ap (λ n. n * c.byte_count.result) (c.len.ensures ∙ (search rules))
    ∙ ap (λ n. length s.images.items * n) c.byte_count.ensures.value
    ∙ sym (bytes_alike s.desc s.images.items c.self.invariant.alike)
    ∙ ap (λ (images : List ImageValue). sum_by image_bytes images) c.self.view_is
