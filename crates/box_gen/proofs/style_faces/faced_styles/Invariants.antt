use Rattle.std.proofs.Common.{◌≡◌, ◌++◌, drop}
use Rattle.box_gen.specs.Faced.{styles_in}
use Rattle.box_gen.proofs.style_faces.faced_styles.Given as goal

abbrev pub invariant-loop-style : goal.invariant-loop-style
invariant-loop-style l = l.faced.items ++ styles_in l.faces (drop l.style-index l.styles) ≡ styles_in l.faces l.styles
