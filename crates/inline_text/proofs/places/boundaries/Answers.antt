use Rattle.std.proofs.Common.{◌≡◌, ◌∙◌, ◌++◌, ◌∷◌, [], ℕ, List, Bool, true, cond, map, ap, sym, append_assoc}
use Rattle.std.specs.List.{filter}
use Rattle.std.proofs.lemmas.List.Elements.{All-same, All-rest}
use Rattle.unicode_segmentation.specs.Grapheme.{graphemes, is_grapheme_break}
use Rattle.unicode_segmentation.specs.Segments.{with_offsets}
use Rattle.unicode_segmentation.specs.Iter.{grapheme_indices_left}
use Rattle.unicode_segmentation.proofs.SegmentsLemmas.{IsPieceOf, All-IsPieceOf}
use Rattle.boxes.specs.Wraps.{wraps_anywhere}
use Rattle.inline_text.specs.Places.{boundaries_of, emergencies_of, ends_in}
use Rattle.inline_text.proofs.PlaceLemmas.{filter_step}
use Rattle.inline_text.proofs.places.boundaries.Goals as goal

pub loop-at-init : goal.loop-at-init
unfolding emergencies_of boundaries_of
loop-at-init c =
    let left : grapheme_indices_left c.into_iter-at-iterator.result ≡ with_offsets 0 (graphemes true c.args.text.now) = ap grapheme_indices_left c.into_iter-at-iterator.ensures.into_iter_gives ∙ c.grapheme_indices-at-items.ensures.left in
    record {
      can = tt;
      finite = tt;
      goes = ap (λ (l : List ℕ). l ++ filter (ends_in wraps_anywhere c.args.spans.now) (map (λ (p : ℕ × List ℕ). p.0) (grapheme_indices_left c.into_iter-at-iterator.result))) c.new-places.ensures
          ∙ ap (λ (l : List (ℕ × List ℕ)). filter (ends_in wraps_anywhere c.args.spans.now) (map (λ (p : ℕ × List ℕ). p.0) l)) left;
      pieces = All-same (IsPieceOf c.args.text.now) (grapheme_indices_left c.into_iter-at-iterator.result) (with_offsets 0 (graphemes true c.args.text.now)) left (All-IsPieceOf (is_grapheme_break true) c.args.text.now c.utf8.text);
    }

pub loop-at-preserved : goal.loop-at-preserved
loop-at-preserved c =
    let inv = c.loop-at.invariant in
    let at : ℕ = c.in-Some.at in
    let test : ℕ → Bool = ends_in wraps_anywhere c.args.spans.now in
    let rest : List (ℕ × List ℕ) = grapheme_indices_left c.next.new.self in
    let offsets : List ℕ = map (λ (p : ℕ × List ℕ). p.0) rest in
    let steps : grapheme_indices_left c.loop-at.at-iterator ≡ (at, c.in-Some.field-0-1.now) ∷ rest = c.in-Some.ensures.steps in
    let puts : c.push_place.new.places ≡ c.loop-at.places ++ cond (test at) (at ∷ []) [] = c.in_ok-push_place.ensures ∙ ap (λ (b : Bool). c.loop-at.places ++ cond b (at ∷ []) []) c.wraps_anywhere_before.ensures in
    record {
      can = tt;
      finite = tt;
      goes = ap (λ (l : List ℕ). l ++ filter test offsets) puts ∙ append_assoc c.loop-at.places (cond (test at) (at ∷ []) []) (filter test offsets)
          ∙ ap (λ (l : List ℕ). c.loop-at.places ++ l) (sym (filter_step test at offsets))
          ∙ sym (ap (λ (l : List (ℕ × List ℕ)). c.loop-at.places ++ filter test (map (λ (p : ℕ × List ℕ). p.0) l)) steps) ∙ inv.goes;
      pieces = All-rest (IsPieceOf c.args.text.now) (at, c.in-Some.field-0-1.now) rest (grapheme_indices_left c.loop-at.at-iterator) steps inv.pieces;
    }
