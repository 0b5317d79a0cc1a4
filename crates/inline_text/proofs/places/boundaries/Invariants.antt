use Rattle.std.proofs.Common.{◌≡◌, ◌++◌, map}
use Rattle.std.specs.List.{All, filter}
use Rattle.unicode_segmentation.specs.Iter.{grapheme_indices_left}
use Rattle.unicode_segmentation.proofs.SegmentsLemmas.{IsPieceOf}
use Rattle.boxes.specs.Wraps.{wraps_anywhere}
use Rattle.inline_text.specs.Places.{emergencies_of, ends_in}
use Rattle.inline_text.proofs.places.boundaries.Given as goal

abbrev pub invariant-loop-at : goal.invariant-loop-at
invariant-loop-at l = record {
  can : (goal.iterator-loop-at).can_next l.at-iterator;
  finite : (goal.iterator-loop-at).is_finite l.at-iterator;
  goes : l.places ++ filter (ends_in wraps_anywhere l.spans) (map (λ p. p.0) (grapheme_indices_left l.at-iterator)) ≡ emergencies_of l.text l.spans;
  pieces : All (IsPieceOf l.text) (grapheme_indices_left l.at-iterator);
}
