use Rattle.std.proofs.Common.{◌↔◌, map, sym, subst, arith}
use Rattle.std.specs.Prelude.{IsTrue}
use Rattle.selectors.specs.Match.{Matches}
use Rattle.cascade.specs.declared.selected.Selected.{Selected}
use Rattle.std.proofs.lemmas.List.{length-map}
use Rattle.match_table.specs.All.{MatchesAt}
use Rattle.cascade.specs.Selected.{selected_in, selectors_of}
use Rattle.cascade.proofs.PlaceLemmas.{passed_turn, all_passed, match_at, selector_at}
use Rattle.cascade.proofs.winners.places_at.Goals as goal

pub loop-place-preserved : goal.loop-place-preserved
loop-place-preserved c =
    let n = c.in-Ok.ensures.1 in
    let test = c.loop-place-test.true in
    passed_turn (λ k. MatchesAt c.args.dom.now (selectors_of (map selected_in c.args.selected.now)) k c.args.node.0) c.loop-place.place c.loop-place.places.items c.push_if.new.places.items c.matches-hit.result c.loop-place.invariant
    (match_at c.args.dom.now (selectors_of (map selected_in c.args.selected.now)) c.loop-place.place c.args.node.0 c.index-selected-place.result.selector.now c.matches-hit.result
    (selector_at c.args.selected.now c.loop-place.place c.index-selected-place.result (omega (arith, test, n)) c.index-selected-place.is) (subst (λ (x : Selected). IsTrue c.matches-hit.result ↔ Matches c.args.dom.now x.selector.now c.args.node.0) (sym c.index-selected-place.is) c.matches-hit.ensures))
    c.in_ok-push_if.ensures

pub returns : goal.returns
returns c =
    let n = c.in-Ok.ensures.1 in
    let test = c.loop-place-test.false in
    let len = length-map c.args.selected.now selected_in in
    all_passed c.args.dom.now (map selected_in c.args.selected.now) c.args.node.0 c.loop-place.place c.loop-place.places.items (omega (arith, test, n, len)) c.loop-place.invariant
