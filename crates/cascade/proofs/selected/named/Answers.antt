use Rattle.std.proofs.Common.{◌≡◌, ◌∙◌, map, option_map, get_or, ap, sym}
use Rattle.std.specs.Prelude.{slice_get}
use Rattle.std.proofs.lemmas.Option.{slice_get-map}
use Rattle.std.proofs.lemmas.List.{get_or_default}
use Rattle.cascade.specs.Candidates.{applied_in}
use Rattle.cascade.specs.Selected.{selected_in, named_at}
use Rattle.cascade.proofs.TurnLemmas.{step_turn}
use Rattle.cascade.proofs.PlaceLemmas.{through, from_get}
use Rattle.cascade.proofs.selected.named.Goals as goal

pub loop-place-preserved : goal.loop-place-preserved
loop-place-preserved c =
    let got : option_map (λ s. s.now) c.get.result ≡ slice_get c.args.selected.now (get_or c.args.places.now c.loop-place.place-index 0) =
    from_get (λ s. s.now) c.args.selected.now (get_or c.args.places.now c.loop-place.place-index 0) _ c.get.result c.get.ensures.lookup.3 c.get.ensures.lookup.1 in
    let is : option_map (λ s. selected_in s.now) c.get.result ≡ slice_get (map selected_in c.args.selected.now) (get_or c.args.places.now c.loop-place.place-index 0) =
    through (λ s. s.now) selected_in c.get.result ∙ ap (option_map selected_in) got ∙ sym (slice_get-map selected_in c.args.selected.now (get_or c.args.places.now c.loop-place.place-index 0)) in
    rw (c.in_ok-push_named.ensures, is) (step_turn (named_at (map selected_in c.args.selected.now) c.args.wanted) (map applied_in c.loop-place.rules.items) c.args.places.now c.loop-place.place-index (get_or c.args.places.now c.loop-place.place-index 0)
    c.loop-place-test.true (get_or_default c.args.places.now c.loop-place.place-index 0 (get_or c.args.places.now c.loop-place.place-index 0) c.loop-place-test.true) ∙ c.loop-place.invariant)
