use Rattle.std.proofs.Common.{◌≡◌, ◌∙◌, ◌∷◌, [], ◌++◌, List, ap, sym}
use Rattle.boxes.specs.declared.flow.Start.{Start}
use Rattle.boxes.specs.declared.place.Position.{Position}
use Rattle.box_gen.specs.Flow.{calls_of, own_starts}
use Rattle.box_gen.specs.Sources.{source_in}
use Rattle.box_gen.proofs.PlaceLemmas.{calls-cons, goes-on, own-cons}
use Rattle.box_gen.proofs.build.parted.Goals as goal

pub loop-place-preserved : goal.loop-place-preserved
loop-place-preserved c =
    let src = source_in c.args.input.now in
    let place : Start = c.in-Some.place in
    let rest : List Start = c.next.new.self.rest.items in
    let calls : List Position = c.loop-place.calls.items in
    let starts : List Start = c.loop-place.starts.items in
    let step : c.loop-place.place-iterator.rest.items ≡ place ∷ rest = c.in-Some.ensures.steps.0 in
    record {
      calls = goes-on calls c.part_place.new.calls.items (calls_of src (place ∷ [])) (calls_of src rest) (calls_of src c.args.places.items) c.in_ok-part_place.ensures.calls
          (ap (λ (l : List Position). calls ++ l) (sym (calls-cons src place rest)) ∙ ap (λ (l : List Start). calls ++ calls_of src l) (sym step) ∙ c.loop-place.invariant.calls);
      starts = goes-on starts c.part_place.new.starts.items (own_starts src (place ∷ [])) (own_starts src rest) (own_starts src c.args.places.items) c.in_ok-part_place.ensures.starts
          (ap (λ (l : List Start). starts ++ l) (sym (own-cons src place rest)) ∙ ap (λ (l : List Start). starts ++ own_starts src l) (sym step) ∙ c.loop-place.invariant.starts);
    }
