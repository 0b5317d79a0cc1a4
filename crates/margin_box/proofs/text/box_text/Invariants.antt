use Rattle.std.proofs.Common.{◌≡◌, take, string_bytes}
use Rattle.std.specs.List.{flat_map}
use Rattle.margin_box.specs.Margins.{margins_in}
use Rattle.margin_box.specs.Texts.{part_text}
use Rattle.margin_box.proofs.text.box_text.Given as goal

abbrev pub invariant-loop-part : goal.invariant-loop-part
invariant-loop-part l = string_bytes l.text ≡ flat_map (part_text (margins_in l.margins) l.page) (take l.part-index l.parts)
