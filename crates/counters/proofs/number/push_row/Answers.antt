use Rattle.std.proofs.Common.{◌≡◌, ℕ, List, [], ◌∷◌, Option, Some, true, ◌+◌, drop, length, map, option_map, sym, ◌∙◌, ap, subst}
use Rattle.std.specs.String.{string_bytes}
use Rattle.named_lists.specs.Lists.{ListsOf}
use Rattle.counters.specs.declared.scopes.Act.{Act}
use Rattle.counters.specs.declared.scopes.CounterEvent.{CounterEvent}
use Rattle.counters.specs.Document.{named}
use Rattle.counters.specs.Gather.{is_use, with_changes}
use Rattle.counters.specs.Log.{of_asked}
use Rattle.counters.proofs.RepeatLemmas.{Stand, event_of, pushed-len, pushed-stand, row-pushed, row-repeated}
use Rattle.counters.proofs.number.push_row.Goals as goal
use Rattle.counters.proofs.number.push_row.Goals.{then-not-repeats+in_ok-push_event, else-not-repeats}

pub loop-change-preserved : goal.loop-change-preserved
loop-change-preserved c =
    let asked : List (List ℕ) = map (λ k. string_bytes k) c.args.asked.now.keys in
    let x : List ℕ × Act = c.change-item.result in
    let items : List (List ℕ × Act) = c.as_slice-change-items.result.now in
    let before : Option (List ℕ) = option_map (λ n. n.now) c.if-not-repeats.before in
    let old : Option (List ℕ) = option_map (λ n. n.now) c.loop-change.before in
    let p : List ℕ × CounterEvent = event_of c.args.row.now.at c.args.row.now.end x in
    elim c.if-not-repeats.branch [
      | then-not-repeats+in_ok-push_event w ↦
          let new : c.if-not-repeats.into ≡ with_changes c.loop-change.into (of_asked asked (p ∷ [])) = w.into-is ∙ w.in_ok-push_event.ensures ∙ ap (λ (n : List ℕ). with_changes c.loop-change.into (of_asked asked ((n, p.1) ∷ []))) w.as_str.ensures in
          let named_is : before ≡ Some x.0 = ap (option_map (λ n. n.now)) w.before-is ∙ ap (λ (n : List ℕ). Some n) w.as_str-then-not-repeats.ensures in (
            row-pushed asked c.args.row.now.at c.args.row.now.end items c.loop-change.change-index x c.loop-change.into c.if-not-repeats.into c.loop-change-test.true c.change-item.is new ∙ c.loop-change.invariant.0,
            c.loop-change.invariant.1,
            pushed-len asked p c.loop-change.into c.if-not-repeats.into c.loop-change.invariant.2 new,
            pushed-stand asked p c.loop-change.into c.if-not-repeats.into before c.loop-change.invariant.2 new named_is,
          )
      | else-not-repeats w ↦
          let repeats : (old ≡ Some x.0) × (is_use x.1 ≡ true) = c.repeats.ensures w.if-not-repeats.false in (
            ap (λ (l : ListsOf CounterEvent). with_changes l (of_asked asked (named c.args.row.now.at c.args.row.now.end (drop (c.loop-change.change-index + 1) items)))) w.into-is ∙ row-repeated asked c.args.row.now.at c.args.row.now.end items c.loop-change.change-index x c.loop-change.into old c.loop-change-test.true c.change-item.is c.loop-change.invariant.3 repeats.0 repeats.1 ∙ c.loop-change.invariant.0,
            c.loop-change.invariant.1,
            subst (λ (l : ListsOf CounterEvent). length l.names ≡ length l.lists) (sym w.into-is) c.loop-change.invariant.2,
            subst (λ (l : ListsOf CounterEvent). Stand asked c.args.row.now.at l before) (sym w.into-is) (subst (Stand asked c.args.row.now.at c.loop-change.into) (sym (ap (option_map (λ n. n.now)) w.before-is)) c.loop-change.invariant.3),
          )
    ]
