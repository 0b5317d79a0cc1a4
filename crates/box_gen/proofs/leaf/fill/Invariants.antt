use Rattle.std.proofs.Common.{◌≡◌, ◌+◌, ◌≤◌, ◌++◌, ℕ, List, drop, length}
use Rattle.bk_num.specs.Limits.{most_text_bytes}
use Rattle.inline_text.specs.Joined.{ends_from}
use Rattle.box_gen.specs.Runs.{spans_from, starts_from, styles_in}
use Rattle.box_gen.proofs.leaf.fill.Given as goal

abbrev pub invariant-loop-mark : goal.invariant-loop-mark
invariant-loop-mark l = record {
  each : l.next + length (styles_in (drop l.mark-index l.marks)) ≡ length l.ends;
  short : l.at ≤ most_text_bytes;
  ends : (texts : List (List ℕ)) → l.ends ≡ ends_from 0 texts → drop l.next l.ends ≡ ends_from l.at (drop l.next texts);
  spans : (texts : List (List ℕ)) → l.ends ≡ ends_from 0 texts → l.spans.items ++ spans_from l.at (styles_in (drop l.mark-index l.marks)) (drop l.next texts) ≡ l.initial.spans.items ++ spans_from 0 (styles_in l.marks) texts;
  starts : (texts : List (List ℕ)) → l.ends ≡ ends_from 0 texts → l.starts.items ++ starts_from l.at (drop l.mark-index l.marks) (drop l.next texts) ≡ l.initial.starts.items ++ starts_from 0 l.marks texts;
}
