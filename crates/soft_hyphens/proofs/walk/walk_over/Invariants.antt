use Rattle.std.proofs.Common.{◌≡◌, ℕ, List, drop}
use Rattle.hyphen.specs.Meaning.{value_in}
use Rattle.inline_text.specs.Joined.{ends_from, joined}
use Rattle.soft_hyphens.specs.Walk.{IsIn, IsOver}
use Rattle.soft_hyphens.specs.Words.{letters_in, points_with}
use Rattle.soft_hyphens.proofs.SliceLemmas.{BeginAt}
use Rattle.soft_hyphens.proofs.walk.walk_over.Given as goal

abbrev pub invariant-loop-index : goal.invariant-loop-index
invariant-loop-index l = record {
  walk : IsIn l.text l.walk l.offsets.items;
  begin : (ts : List (List ℕ)) → l.text ≡ joined ts → l.ends ≡ ends_from 0 ts → BeginAt (record { bytes = l.text; ends = l.ends }) ts l.index l.walk.at;
  over : (ts : List (List ℕ)) → l.text ≡ joined ts → l.ends ≡ ends_from 0 ts → IsOver (points_with (value_in l.hyphenator)) (letters_in l.autos ts) l.text l.walk l.offsets.items × (drop l.walk.place (letters_in l.autos ts) ≡ letters_in (drop l.index l.autos) (drop l.index ts));
}
