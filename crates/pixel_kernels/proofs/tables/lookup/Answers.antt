use Rattle.std.proofs.Common.{rules, ◌∙◌, ap, sym, map, pos}
use Rattle.pixel_kernels.proofs.Common.{S16, U8}
use Rattle.vx_base.specs.Picture.{samples_format, values}
use Rattle.pixel_kernels.proofs.FormatLaws.{table_written}
use Rattle.pixel_kernels.proofs.tables.lookup.Goals as goal

pub returns-in-U8 : goal.returns-in-U8
returns-in-U8 c =
    table_written c.args.lut.now U8 _ c.args.image.now c.args.output.now _
    (ap samples_format (sym c.in-U8.is) ∙ c.entries.ensures.format)
    (ap (map pos) c.as_slice.ensures.value ∙ ap values (sym c.in-U8.is) ∙ c.entries.ensures.value)
    (search rules) c.write_one.ensures

pub returns-in-S16 : goal.returns-in-S16
returns-in-S16 c =
    table_written c.args.lut.now S16 _ c.args.image.now c.args.output.now _
    (ap samples_format (sym c.in-S16.is) ∙ c.entries.ensures.format)
    (c.as_slice-in-S16.ensures.value ∙ ap values (sym c.in-S16.is) ∙ c.entries.ensures.value)
    (search rules) c.write_one-in-S16.ensures
