use Rattle.std.proofs.Common.{◌<◌, ◌++◌, ◌∙◌, ap, length, arith}
use Rattle.std.proofs.lemmas.Option.{slice_get-get_or}
use Rattle.margin_box.specs.Margins.{box_items, items_of, margins_in}
use Rattle.margin_box.proofs.FaceLemmas.{box-is}
use Rattle.margin_box.proofs.RangeLemmas.{range_step}
use Rattle.margin_box.proofs.items.boxes_items.Goals as goal

pub loop-place-preserved : goal.loop-place-preserved
loop-place-preserved c =
    let m = margins_in c.args.margins.now in
    let faces = c.args.margins.now.faces.now in
    let areas = c.args.areas.now in
    let place = c.loop-place.place in
    let below : place < 16 = omega arith in
    let there : place < length areas = omega (arith, c.told-areas) in
    record {
      faces = c.in_ok-push_box.ensures.faces;
      items = range_step (box_items m c.args.number c.args.page.now areas) place 16 _ _ _ below
          (c.in_ok-push_box.ensures.items ∙ ap (λ z. items_of faces c.loop-place.items.items ++ z) (box-is m c.args.number c.args.page.now areas place _ _ (slice_get-get_or areas place _ there) c.faced_style-faced.ensures.style))
          c.loop-place.invariant.items;
    }
