use Rattle.std.proofs.Common.{◌<◌, length, sym, arith}
use Rattle.std.proofs.lemmas.Option.{slice_get-get_or}
use Rattle.margin_box.proofs.faces.faced_style.Goals as goal

pub returns-clause-face : goal.returns-clause-face
returns-clause-face c =
    let there : c.args.place < length c.args.faces.now = omega (arith, c.told-faces) in
    c.requires.faces c.args.place _ _ c.requires.place (sym c.in_ok-style.ensures.style) (slice_get-get_or c.args.faces.now c.args.place _ there)
