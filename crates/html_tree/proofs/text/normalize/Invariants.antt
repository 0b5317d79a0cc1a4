use Rattle.std.proofs.Common.{◌≡◌, ◌++◌, length}
use Rattle.std.specs.String.{string_bytes}
use denote.Text.{Utf8}
use denote.Shadow.{shadow}
use Rattle.html_tree.specs.Texts.{normalized}
use Rattle.html_tree.proofs.text.normalize.Given as goal

abbrev pub invariant-loop-at : goal.invariant-loop-at
invariant-loop-at l = record {
  utf8 : shadow (Utf8 l.rest);
  left : string_bytes l.out ++ normalized l.rest ≡ string_bytes l.fn.out ++ normalized l.text;
}

abbrev pub decreases-loop-at : goal.decreases-loop-at
decreases-loop-at l = length l.rest
