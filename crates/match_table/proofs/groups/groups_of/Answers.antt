use Rattle.std.proofs.Common.{map, length, ap, arith}
use Rattle.std.proofs.lemmas.List.{length-map}
use Rattle.match_table.proofs.IndexLemmas.{slice-map}
use Rattle.match_table.proofs.GroupLemmas.{none-grouped, grouped-more, grouped-all}
use Rattle.match_table.proofs.groups.groups_of.Goals as goal

pub loop-place-init : goal.loop-place-init
loop-place-init c = none-grouped (map (λ s. s.now) c.args.selectors.now) (map (λ s. s.now) c.new-groups.result.firsts.items) c.new-groups.result.places.items (ap (map (λ s. s.now)) c.new-groups.ensures.firsts) c.new-groups.ensures.places

pub loop-place-preserved : goal.loop-place-preserved
loop-place-preserved c =
    grouped-more (map (λ s. s.now) c.args.selectors.now) c.index-selectors-place.result.now c.loop-place.place (map (λ s. s.now) c.loop-place.groups.firsts.items) (map (λ s. s.now) c.add.new.self.firsts.items) c.loop-place.groups.places.items c.add.new.self.places.items
    (slice-map (λ s. s.now) c.args.selectors.now c.loop-place.place c.index-selectors-place.result (let n = c.in-Ok.ensures.1 in let test = c.loop-place-test.true in omega (arith, test, n)) c.index-selectors-place.is)
    c.loop-place.invariant c.in_ok-add.ensures

pub returns : goal.returns
returns c =
    let n = c.in-Ok.ensures.1 in
    let test = c.loop-place-test.false in
    grouped-all (map (λ s. s.now) c.args.selectors.now) c.loop-place.place (length c.args.selectors.now) (map (λ s. s.now) c.loop-place.groups.firsts.items) c.loop-place.groups.places.items (length-map c.args.selectors.now (λ s. s.now)) (omega (arith, n, test)) c.loop-place.invariant
