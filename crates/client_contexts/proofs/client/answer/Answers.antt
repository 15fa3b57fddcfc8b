use Rattle.client_contexts.proofs.client.answer.Goals as goal

pub returns-in_ok-write_image-in-WriteImage-clause-within_limits :
    goal.returns-in_ok-write_image-in-WriteImage-clause-within_limits
returns-in_ok-write_image-in-WriteImage-clause-within_limits c =
    c.write_image.ensures.within_limits c.args.limits c.requires.within_limits

pub returns-in-WriteImagePgm-clause-within_limits :
    goal.returns-in-WriteImagePgm-clause-within_limits
returns-in-WriteImagePgm-clause-within_limits c =
    c.write_text.ensures.within_limits c.args.limits c.requires.within_limits

pub returns-in_ok-set_valid-in-SetValid-clause-within_limits :
    goal.returns-in_ok-set_valid-in-SetValid-clause-within_limits
returns-in_ok-set_valid-in-SetValid-clause-within_limits c =
    c.set_valid.ensures.within_limits c.args.limits c.requires.within_limits

pub returns-in_ok-release-in-Release-clause-within_limits :
    goal.returns-in_ok-release-in-Release-clause-within_limits
returns-in_ok-release-in-Release-clause-within_limits c =
    c.release.ensures.within_limits c.args.limits c.requires.within_limits

pub returns-in-AddNode-clause-within_limits : goal.returns-in-AddNode-clause-within_limits
returns-in-AddNode-clause-within_limits c =
    c.add_node.ensures.within_limits c.args.limits c.requires.within_limits

pub returns-in_ok-remove_node-in-RemoveNode-clause-within_limits :
    goal.returns-in_ok-remove_node-in-RemoveNode-clause-within_limits
returns-in_ok-remove_node-in-RemoveNode-clause-within_limits c =
    c.remove_node.ensures.within_limits c.args.limits c.requires.within_limits

pub returns-in_ok-run_at_once-in-Immediate-clause-within_limits :
    goal.returns-in_ok-run_at_once-in-Immediate-clause-within_limits
returns-in_ok-run_at_once-in-Immediate-clause-within_limits c =
    c.run_at_once.ensures.within_limits c.args.limits c.requires.within_limits

pub returns-in_ok-age_delay-in-AgeDelay-clause-within_limits :
    goal.returns-in_ok-age_delay-in-AgeDelay-clause-within_limits
returns-in_ok-age_delay-in-AgeDelay-clause-within_limits c =
    c.age_delay.ensures.within_limits c.args.limits c.requires.within_limits

pub returns-in-RegisterAutoAging-clause-within_limits :
    goal.returns-in-RegisterAutoAging-clause-within_limits
returns-in-RegisterAutoAging-clause-within_limits c =
    c.register_auto_aging.ensures.within_limits c.args.limits c.requires.within_limits
