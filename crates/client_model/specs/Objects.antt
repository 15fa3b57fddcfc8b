-- Requests on objects of any kind. OpenVX 1.3, "Object: Reference", vxReleaseReference.
use Rattle.std.specs.Prelude.{ℕ, is_none, Some, Ok, Err, if◌then◌else◌}
use Rattle.client_model.specs.declared.refusal.Refusal.TheVariants.{InvalidReference}
use Rattle.client_model.specs.declared.reply.Reply.TheVariants.{Empty}
use Rattle.object_table.specs.Context.{Context, object_named, with_objects}
use Rattle.object_table.specs.Holds.{still_held, without_name}
use Rattle.client_model.specs.Refusal.{Outcome}

-- Release: the name is no longer live, and no later object gets it; objects that are then no longer
-- held are dropped
abbrev pub release : Context → ℕ → Outcome
release c name =
    if is_none (object_named c.objects name) then Err InvalidReference else Ok (
      Empty,
      Some (with_objects c (still_held (without_name c.objects name))),
    )
