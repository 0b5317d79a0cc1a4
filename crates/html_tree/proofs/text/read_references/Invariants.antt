use Rattle.std.proofs.Common.{◌≡◌, ◌++◌, length}
use Rattle.std.specs.String.{string_bytes}
use denote.Text.{Utf8}
use denote.Shadow.{shadow}
use Rattle.html_tree.specs.Texts.{referred_after}
use Rattle.html_tree.proofs.text.read_references.Given as goal

abbrev pub invariant-loop-at : goal.invariant-loop-at
invariant-loop-at l = record {
  utf8 : shadow (Utf8 l.rest);
  left : string_bytes l.out ++ referred_after 0 l.rest ≡ string_bytes l.fn.out ++ referred_after 0 l.text;
}

abbrev pub decreases-loop-at : goal.decreases-loop-at
decreases-loop-at l = length l.rest
