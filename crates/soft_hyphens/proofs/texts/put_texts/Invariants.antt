use Rattle.std.proofs.Common.{◌≡◌, ℕ, Bool, false, List, length}
use Rattle.std.specs.List.{All}
use Rattle.std.specs.Str.{IsCharBoundary}
use Rattle.inline_text.specs.Joined.{ends_from, joined}
use Rattle.soft_hyphens.specs.Pass.{chars_in, offsets_in}
use Rattle.soft_hyphens.proofs.LeftLemmas.{IsLeft}
use Rattle.soft_hyphens.proofs.SliceLemmas.{BeginAt}
use Rattle.soft_hyphens.proofs.texts.put_texts.Given as goal

abbrev pub invariant-loop-index : goal.invariant-loop-index
invariant-loop-index l = record {
  at : IsCharBoundary l.text l.at;
  rest : All (IsCharBoundary l.text) l.rest;
  ends : length l.made.ends ≡ l.index;
  begin : (ts : List (List ℕ)) → l.text ≡ joined ts → l.ends ≡ ends_from 0 ts → BeginAt (record { bytes = l.text; ends = l.ends }) ts l.index l.at;
  left : (here : ℕ → Bool) (ts : List (List ℕ)) → l.text ≡ joined ts → l.ends ≡ ends_from 0 ts → here 0 ≡ false → l.offsets ≡ offsets_in here (chars_in ts) → IsLeft here ts l.made l.index l.at l.rest;
}
