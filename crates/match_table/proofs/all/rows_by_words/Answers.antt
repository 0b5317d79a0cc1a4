use Rattle.std.proofs.Common.{◌∙◌, map, length, ap, arith}
use Rattle.std.proofs.lemmas.List.{length-map}
use Rattle.match_table.proofs.IndexLemmas.{slice-map}
use Rattle.match_table.proofs.AllLemmas.{rows-none, rows-more, rows-done, rows-below}
use Rattle.match_table.proofs.all.rows_by_words.Goals as goal

pub loop-place-init : goal.loop-place-init
loop-place-init c =
    let count = c.in_ok-rows.ensures.count in
    record {
      rows = rows-none c.args.document.now (map (λ s. s.now) c.args.selectors.now) c.in_ok-rows.rows.items c.in_ok-rows.ensures.empty;
      count = count ∙ c.len.ensures.len ∙ ap length c.dom.ensures;
    }

pub loop-place-preserved : goal.loop-place-preserved
loop-place-preserved c = record {
  rows = rows-more c.args.document.now (map (λ s. s.now) c.args.selectors.now) c.index-selectors-place.result.now c.loop-place.place c.loop-place.rows.items c.mark.new.rows.items
      (slice-map (λ s. s.now) c.args.selectors.now c.loop-place.place c.index-selectors-place.result (let n = c.in-Ok.ensures.1 in let test = c.loop-place-test.true in omega (arith, test, n)) c.index-selectors-place.is)
      c.in_ok-mark.ensures.count c.loop-place.invariant.rows c.in_ok-mark.ensures.marked;
  count = c.in_ok-mark.ensures.count ∙ c.loop-place.invariant.count;
}

pub returns : goal.returns
returns c =
    let same = length-map c.args.selectors.now (λ s. s.now) in
    let n = c.in-Ok.ensures.1 in
    let test = c.loop-place-test.false in
    record {
      count = c.loop-place.invariant.count;
      lists = rows-done c.args.document.now (map (λ s. s.now) c.args.selectors.now) c.loop-place.place c.loop-place.rows.items (omega (arith, same, n, test)) c.loop-place.invariant.rows;
    }

pub mark-requires-clause-below : goal.mark-requires-clause-below
mark-requires-clause-below c = rows-below c.args.document.now (map (λ s. s.now) c.args.selectors.now) c.loop-place.place c.loop-place.rows.items c.loop-place.invariant.rows
