use Rattle.std.proofs.Common.{◌-◌, vec_len, ap, sum_by, drop, take, arith}
use Rattle.object_table.proofs.Common.{image_bytes, sum_by-append}
use Rattle.std.proofs.lemmas.List.Sums.{sum_by-take-drop}
use Rattle.object_table.proofs.delay.Delay.age.Goals as goal

pub returns-clause-bytes : goal.returns-clause-bytes
returns-clause-bytes c =
    let images = c.self.inside.images.items in
    let turn = vec_len c.self.inside.images - 1 in
    omega (
      arith,
      ap (sum_by image_bytes) c.rotate_right.ensures.items,
      sum_by-append image_bytes (drop turn images) (take turn images),
      sum_by-take-drop image_bytes images turn,
      ap (sum_by image_bytes) c.self.view_is,
    )
