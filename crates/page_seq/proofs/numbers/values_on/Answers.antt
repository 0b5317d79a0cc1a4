use Rattle.std.proofs.Common.{◌≡◌, List, length, pos, map, get_or, subst, ap, ◌∙◌, take_all, length-set}
use Rattle.boxes.specs.declared.flow.Reset.{Reset}
use Rattle.boxes.specs.declared.place.Position.{Position}
use Rattle.page_seq.specs.Places.{page_of}
use Rattle.page_seq.proofs.NumberLemmas.{AreValues, values_more, all_values, number_at}
use Rattle.page_seq.proofs.numbers.values_on.Goals as goal

pub loop-k-preserved : goal.loop-k-preserved
loop-k-preserved c =
    let t = c.args.tree.now in
    let pages = c.args.list.now.pages in
    let none : Reset = record { value = pos 0; at = record { event = 0; offset = 0 } } in
    let sent : c.index.result.now ≡ page_of t pages (get_or c.args.resets.now c.loop-k.k none).at = number_at t pages c.args.resets.now c.in_ok-numbers.numbers.items c.loop-k.k c.index.result.now none c.loop-k-test.true (c.in_ok-numbers.ensures ∙ ap (λ (ps : List Position). map (page_of t pages) ps) (c.as_slice.ensures.value ∙ c.in_ok-places.ensures)) c.index.ensures in
    let more = values_more (λ r. page_of t pages r.at) c.args.resets.now (length pages) c.loop-k.k c.index.result.now none c.loop-k.values.items c.loop-k-test.true c.loop-k.invariant.0 sent c.loop-k.invariant.1 in
    let set = c.set_value.ensures in
    (rw set (length-set c.loop-k.values.items c.index.result.now _ ∙ c.loop-k.invariant.0), rw set more)

pub returns : goal.returns
returns c = all_values c.args.tree.now c.args.list.now.pages c.args.resets.now c.loop-k.values.items c.loop-k.invariant.0 (subst (λ (rs : List Reset). AreValues (λ r. page_of c.args.tree.now c.args.list.now.pages r.at) rs (length c.args.list.now.pages) c.loop-k.values.items) (take_all c.loop-k.k c.args.resets.now c.loop-k-test.false) c.loop-k.invariant.1)
