use Rattle.std.proofs.Common.{map, ◌≤◌, sym, subst}
use Rattle.std.proofs.lemmas.List.{length-map}
use Rattle.match_table.specs.Index.{HaveKeys}
use Rattle.match_table.proofs.IndexLemmas.{keys-more, slice-map, taken-all}
use Rattle.match_table.proofs.index.words_of_keys.Goals as goal

pub loop-selector-preserved : goal.loop-selector-preserved
loop-selector-preserved c =
    keys-more c.loop-selector.words c.add_keys.new.words (map (λ s. s.now) c.args.selectors.now) c.loop-selector.selector-index c.selector-item.result.now
    (slice-map (λ s. s.now) c.args.selectors.now c.loop-selector.selector-index c.selector-item.result c.loop-selector-test.true c.selector-item.is)
    c.loop-selector.invariant c.in_ok-add_keys.ensures.keeps c.in_ok-add_keys.ensures.added

pub returns : goal.returns
returns c = subst (λ l. HaveKeys c.loop-selector.words l) (taken-all c.loop-selector.selector-index (map (λ s. s.now) c.args.selectors.now)
    (subst (λ n. n ≤ c.loop-selector.selector-index) (sym (length-map c.args.selectors.now (λ s. s.now))) c.loop-selector-test.false)) c.loop-selector.invariant
