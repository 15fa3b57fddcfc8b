use Rattle.std.proofs.Common.{◌≡◌, ◌++◌, [], ◌∷◌, List, length, sym, ap, subst, ◌∙◌, arith}
use Rattle.std.proofs.lemmas.List.{length_push, append_assoc}
use Rattle.graph_run.proofs.Common.{Context, NamedObject, with_written, image_held}
use Rattle.graph_steps.specs.Planes.{PlaneValue}
use Rattle.graph_run.specs.Bind.{bare_images, image_plane, image_planes}
use Rattle.graph_run.proofs.BindLemmas.{CanTake, next_context, taken_can, taken_planes, taken_written}
use Rattle.graph_run.proofs.bind.take_out.Goals as goal

pub loop-cell-preserved : goal.loop-cell-preserved
loop-cell-preserved c =
    let t : Context = c.loop-cell.table in
    let cell = c.in-Some.cell.now in
    let others = c.in-Some.others.now in
    let after : Context = c.take_image-plane.new.table in
    let planes = c.loop-cell.planes.items in
    let inv = c.loop-cell.invariant in
    let e = c.in-Some.ensures.cases.0 in
    let can : CanTake t.objects (cell ∷ others) = rw e at inv.can in
    let left : after.objects ≡ _ =
    ap (λ (x : Context). x.objects) c.take_image-plane.ensures.left in
    let pushed :
    c.push_reserved.new.self.items ≡ planes ++ image_plane (image_held t.objects cell) ∷ [] =
    c.push_reserved.ensures.items
    ∙ ap (λ (p : PlaneValue). planes ++ p ∷ []) c.take_image-plane.ensures.plane in
    let before : planes ++ image_planes t.objects (cell ∷ others) ≡ _ = rw e at inv.planes in
    let written : with_written t.objects (bare_images t.objects (cell ∷ others)) ≡ _ =
    rw e at inv.written in
    record {
      can =
          subst (λ (o : List NamedObject). CanTake o others) (sym left)
          (taken_can t.objects cell others can);
      room =
          omega (
            arith,
            ap length pushed,
            length_push planes
                (image_plane (image_held t.objects cell)),
            ap length e,
            inv.room,
            c.push_reserved.ensures.capacity,
          );
      capacity = c.push_reserved.ensures.capacity ∙ inv.capacity;
      planes =
          grind (
            arith,
            pushed,
            left,
            append_assoc planes
                (image_plane (image_held t.objects cell) ∷ []) (image_planes after.objects others),
            taken_planes t.objects cell others can,
            before,
          );
      next = next_context c.args.table.now t after _ inv.next c.take_image-plane.ensures.left;
      written = grind (arith, left, taken_written t.objects cell others can, written);
    }
