use Rattle.std.proofs.Common.{sym, ◌∙◌}
use Rattle.vx_wire.proofs.WrongSizes.{wrong_body}
use Rattle.vx_wire.proofs.requests.images.take_image_head.Goals as goal

pub returns-else-rest-byte_count-clause-err : goal.returns-else-rest-byte_count-clause-err
returns-else-rest-byte_count-clause-err c = λ samples long.
    wrong_body c.args.head.now c.take.new.fields c.take-2.new.fields samples c.in_ok-image.image
    c.in_ok-desc.desc c.told-head
    (rw c.new-fields.ensures at c.in_ok-image.ensures.ok) c.in_ok-desc.ensures.ok
    (λ same. c.if-rest-byte_count.false (sym long ∙ same ∙ sym c.byte_count.ensures.value))
