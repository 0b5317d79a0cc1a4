use Rattle.std.proofs.Common.{◌≡◌, ◌++◌, List, All, ℕ, ◌<◌, ◌≤◌, subst, ap, ◌∙◌}
use Rattle.std.specs.List.{flat_map}
use Rattle.note_list.specs.Left.{left_from, left_of_last, next_of, whole_notes}
use Rattle.note_list.specs.declared.carried.Carried.{Carried}
use Rattle.note_list.proofs.QueueLemmas.{last_few, left_is}
use Rattle.note_list.proofs.left.left_after.Goals as goal

pub next_of-next-requires : goal.next_of-next-requires
next_of-next-requires c = last_few c.args.flow.now.notes c.args.last c.requires.few c.requires.last

pub returns : goal.returns
returns c =
    let next : c.next_of-next.result ≡ next_of c.args.last = c.next_of-next.ensures in
    let below = c.drop_below.ensures.below in
    let called : c.push_called.new.left ≡ (left_of_last c.args.flow.now.notes c.args.last ++ c.drop_below.new.self) ++ flat_map (left_from c.args.flow.now.notes (next_of c.args.last)) (whole_notes c.args.from c.args.to) =
    c.in_ok-push_called.ensures
    ∙ ap (λ (xs : List Carried). xs ++ flat_map (left_from c.args.flow.now.notes c.next_of-next.result) (whole_notes c.args.from c.args.to)) c.in_ok-push_last.ensures
    ∙ ap (λ (n : ℕ). (left_of_last c.args.flow.now.notes c.args.last ++ c.drop_below.new.self) ++ flat_map (left_from c.args.flow.now.notes n) (whole_notes c.args.from c.args.to)) next in
    called
    ∙ left_is c.args.flow.now.notes c.args.carried c.drop_below.new.self c.args.from c.args.to c.args.last
    (below.0, below.1, subst (λ (n : ℕ). All (λ p. p.note < n) below.0) next below.2)
    (λ p e. subst (λ (n : ℕ). n ≤ p.note) next (c.drop_below.ensures.first p e))
    c.requires.ascend c.requires.stands
