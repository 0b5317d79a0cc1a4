use Rattle.std.proofs.Common.{◌≡◌, ◌++◌, ◌∷◌, [], List, Option, None, length, get_or, take, drop, replicate, subst, sym, ap, ◌∙◌, arith, take_all}
use Rattle.std.proofs.lemmas.Grind.{common_steps}
use Rattle.std.proofs.lemmas.List.{length-replicate, take_more}
use Rattle.boxes.specs.declared.flow.Start.{Start}
use Rattle.refs.specs.Kept.{AreStartsOf}
use Rattle.refs.proofs.StartLemmas.{none_stands}
use Rattle.refs.proofs.starts.starts_of.Goals as goal

pub loop-start-init : goal.loop-start-init
loop-start-init c =
    let is : c.in_ok-found.found.items ≡ replicate (length c.args.nodes.now) None = grind (arith, common_steps) in
    (ap length is ∙ length-replicate (length c.args.nodes.now) None, none_stands c.args.nodes.now c.in_ok-found.found.items is)

pub loop-start-preserved : goal.loop-start-preserved
loop-start-preserved c =
    let nodes = c.args.nodes.now in
    let starts : List Start = c.args.starts.now in
    let i = c.loop-start.start-index in
    let none : Start = record { node = record { 0 = 0 }; note = None; at = record { event = 0; offset = 0 } } in
    let found : List (Option Start) = c.start_on.new.found in
    let value : c.deref_mut.result.now ≡ c.loop-start.found.items = c.deref_mut.ensures.value in
    let now : take c.loop-start.found.len (found ++ drop (length found) c.loop-start.found.items) ≡ found = grind (arith, common_steps) in
    let size : length found ≡ length nodes = grind (arith, common_steps) in
    let more : AreStartsOf nodes (take i starts ++ get_or starts i none ∷ []) found = c.start_on.ensures (take i starts) (subst (AreStartsOf nodes (take i starts)) (sym value) c.loop-start.invariant.1) in
    rw now (size, subst (λ (ss : List Start). AreStartsOf nodes ss found) (sym (take_more starts i none c.loop-start-test.true)) more)

pub returns : goal.returns
returns c = subst (λ (starts : List Start). AreStartsOf c.args.nodes.now starts c.loop-start.found.items) (take_all c.loop-start.start-index c.args.starts.now c.loop-start-test.false) c.loop-start.invariant.1
