use Rattle.std.proofs.Common.{◌≡◌, ◌-◌, ◌++◌, length, string_bytes}
use Rattle.sheets.specs.Sheets.{text_from, child_text}
use Rattle.sheets.proofs.elements.child_text.Given as goal

abbrev pub invariant-loop-index : goal.invariant-loop-index
invariant-loop-index l = string_bytes l.text ++ text_from l.dom l.element.0 l.index (length l.dom - l.index) ≡ child_text l.dom l.element.0
