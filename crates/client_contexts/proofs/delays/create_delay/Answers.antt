use Rattle.client_contexts.proofs.delays.create_delay.Goals as goal

pub returns-clause-comes : goal.returns-clause-comes
returns-clause-comes c =
    rw c.in_ok-find_image.ensures.ok.image
    (rw (c.new-2.ensures, c.in_ok-delay.ensures.value, c.desc-desc.ensures) at
    c.hold_images.ensures.comes)
