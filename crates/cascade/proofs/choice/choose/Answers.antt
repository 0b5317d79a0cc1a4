use Rattle.std.proofs.Common.{[], ◌≡◌, ◌+◌, ◌≤◌, option_map, length, take, map, ◌∙◌, sym, subst}
use Rattle.std.proofs.lemmas.List.{length-map, take_all}
use Rattle.std.proofs.lemmas.Result.{IfOk-weaker}
use Rattle.style.specs.Longhands.{longhand_count}
use Rattle.cascade.specs.Candidates.{applied_in, DeclaredBy}
use Rattle.cascade.specs.Choice.{candidate_in, views, longs_in}
use Rattle.cascade.specs.Winners.{AreWinners}
use Rattle.cascade.proofs.WinnerLemmas.{AllBest, best-told, best-none, are-winners}
use Rattle.cascade.proofs.CandidateLemmas.{rule_step, applied_read, none_declared}
use Rattle.cascade.proofs.choice.choose.Goals as goal

pub loop-rule-init : goal.loop-rule-init
loop-rule-init c = best-told (λ d. ⊥) (DeclaredBy []) (λ d e. absurd e) none_declared (views c.none_yet-best.result) (best-none (views c.none_yet-best.result) c.none_yet-best.ensures)

pub loop-rule-preserved : goal.loop-rule-preserved
loop-rule-preserved c =
    subst (AllBest (DeclaredBy (take (c.loop-rule.rule-index + 1) (map applied_in c.args.rules.now)))) (sym c.offer_decls.ensures)
    (rule_step (map applied_in c.args.rules.now) c.loop-rule.rule-index (applied_in c.rule-item.result) (views c.loop-rule.best) (applied_read c.args.rules.now c.loop-rule.rule-index c.rule-item.result c.loop-rule-test.true c.rule-item.is) c.loop-rule.invariant)

pub returns : goal.returns
returns c =
    let all : length c.args.rules.now ≤ c.loop-rule.rule-index = c.loop-rule-test.false in
    let taken : take c.loop-rule.rule-index (map applied_in c.args.rules.now) ≡ map applied_in c.args.rules.now = take_all c.loop-rule.rule-index (map applied_in c.args.rules.now) (rw (length-map c.args.rules.now applied_in) all) in
    let best : AllBest (DeclaredBy (map applied_in c.args.rules.now)) (views c.loop-rule.best) = subst (λ rs. AllBest (DeclaredBy rs) (views c.loop-rule.best)) taken c.loop-rule.invariant in
    let count : length (views c.loop-rule.best) ≡ longhand_count = length-map c.loop-rule.best (option_map candidate_in) ∙ c.longs_of.ensures.count in
    let won : AreWinners (DeclaredBy (map applied_in c.args.rules.now)) (longs_in (views c.loop-rule.best)) = are-winners (DeclaredBy (map applied_in c.args.rules.now)) (views c.loop-rule.best) count best in
    IfOk-weaker c.longs_of.result (λ v. v ≡ longs_in (views c.loop-rule.best)) (AreWinners (DeclaredBy (map applied_in c.args.rules.now))) (λ v e. subst (AreWinners (DeclaredBy (map applied_in c.args.rules.now))) (sym e) won) c.longs_of.ensures.longs
