use Rattle.std.proofs.Common.{◌∙◌, ap, sym, refl, map, map-id, pos}
use Rattle.graph_steps.proofs.Common.{samples_format, the_view, values}
use Rattle.graph_steps.proofs.KernelLaws.{plane_written}
use Rattle.graph_steps.proofs.plane.Plane.write.Goals as goal

pub returns-in-U8 : goal.returns-in-U8
returns-in-U8 c =
    plane_written pos (map pos) (λ _. refl) c.args.kernel.now (the_view c.self.inside)
    c.args.self.now c.self.view_is c.args.rows c.requires.room c.requires.can c.from.result
    c.from-2.result c.from-width.result
    c.in-U8.block.len c.in-U8.block.items c.deref_mut.result.now
    c.make_rows-self-inside.new.samples _ _ c.from.ensures c.from-2.ensures
    (c.from-width.ensures ∙ c.width.ensures.value)
    c.deref_mut.ensures.value c.deref_mut.ensures.len (ap values c.in-U8.is)
    (ap samples_format c.in-U8.is) c.make_rows-self-inside.auto.samples
    c.make_rows-self-inside.ensures.samples c.make_rows-self-inside.ensures.valid

pub returns-in-S16 : goal.returns-in-S16
returns-in-S16 c =
    plane_written (λ z. z) (λ l. l) (λ l. sym (map-id l)) c.args.kernel.now
    (the_view c.self.inside) c.args.self.now c.self.view_is c.args.rows c.requires.room
    c.requires.can c.from.result c.from-2.result c.from-width.result
    c.in-S16.block.len c.in-S16.block.items c.deref_mut-in-S16.result.now
    c.make_rows-self-inside-in-S16.new.samples _ _ c.from.ensures c.from-2.ensures
    (c.from-width.ensures ∙ c.width.ensures.value)
    c.deref_mut-in-S16.ensures.value c.deref_mut-in-S16.ensures.len (ap values c.in-S16.is)
    (ap samples_format c.in-S16.is) c.make_rows-self-inside-in-S16.auto.samples
    c.make_rows-self-inside-in-S16.ensures.samples c.make_rows-self-inside-in-S16.ensures.valid

pub returns-in-U32 : goal.returns-in-U32
returns-in-U32 c =
    plane_written pos (map pos) (λ _. refl) c.args.kernel.now (the_view c.self.inside)
    c.args.self.now c.self.view_is c.args.rows c.requires.room c.requires.can c.from.result
    c.from-2.result c.from-width.result
    c.in-U32.block.len c.in-U32.block.items c.deref_mut-in-U32.result.now
    c.make_rows-self-inside-in-U32.new.samples _ _ c.from.ensures c.from-2.ensures
    (c.from-width.ensures ∙ c.width.ensures.value)
    c.deref_mut-in-U32.ensures.value c.deref_mut-in-U32.ensures.len (ap values c.in-U32.is)
    (ap samples_format c.in-U32.is) c.make_rows-self-inside-in-U32.auto.samples
    c.make_rows-self-inside-in-U32.ensures.samples c.make_rows-self-inside-in-U32.ensures.valid
