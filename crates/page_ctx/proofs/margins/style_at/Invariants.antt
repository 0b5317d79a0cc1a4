use Rattle.std.proofs.Common.{◌≡◌, map, drop}
use Rattle.page_ctx.specs.Margins.{box_in, style_at}
use Rattle.page_ctx.proofs.margins.style_at.Given as goal

abbrev pub invariant-loop-found : goal.invariant-loop-found
invariant-loop-found l = style_at l.place (map box_in (drop l.found-index l.boxes)) ≡ style_at l.place (map box_in l.boxes)
