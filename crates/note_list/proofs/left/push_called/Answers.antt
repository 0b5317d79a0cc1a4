use Rattle.std.proofs.Common.{◌≡◌, ◌<◌, ◌≤◌, ◌++◌, List, sym, subst, ap, ◌∙◌, arith}
use Rattle.std.specs.List.{flat_map}
use Rattle.std.proofs.lemmas.List.{append-nil}
use Rattle.note_list.specs.Conditions.{IsHeld}
use Rattle.note_list.specs.Left.{left_from, whole_notes}
use Rattle.note_list.specs.declared.carried.Carried.{Carried}
use Rattle.note_list.proofs.NotedLemmas.{start_held}
use Rattle.note_list.proofs.PartLemmas.{push_next, whole_next, whole_none}
use Rattle.note_list.proofs.left.push_called.Goals as goal

pub loop-note-init : goal.loop-note-init
loop-note-init c = record {
  low = omega arith;
  high = c.requires.order;
  left = sym (append-nil c.args.left.now) ∙ ap (λ (xs : List Carried). c.args.left.now ++ flat_map (left_from c.args.flow.now.notes c.args.next) xs) (sym (whole_none c.args.from c.args.from (omega arith)));
}

pub push_from-requires : goal.push_from-requires
push_from-requires c =
    let before : c.loop-note.note < c.args.to = c.loop-note-test.true in
    let within = c.requires.within in
    subst (IsHeld c.args.flow.now.notes) (sym c.whole.ensures) (start_held c.args.flow.now.notes c.loop-note.note (omega arith))

pub loop-note-preserved : goal.loop-note-preserved
loop-note-preserved c =
    let before : c.loop-note.note < c.args.to = c.loop-note-test.true in
    let low = c.loop-note.invariant.low in
    record {
      low = omega arith;
      high = omega arith;
      left = push_next (left_from c.args.flow.now.notes c.args.next) c.args.left.now c.loop-note.left c.push_from.new.left (whole_notes c.args.from c.loop-note.note) _ (c.in_ok-push_from.ensures ∙ ap (λ (x : Carried). c.loop-note.left ++ left_from c.args.flow.now.notes c.args.next x) c.whole.ensures) c.loop-note.invariant.left
          ∙ ap (λ (xs : List Carried). c.args.left.now ++ flat_map (left_from c.args.flow.now.notes c.args.next) xs) (sym (whole_next c.args.from c.loop-note.note low));
    }

pub returns : goal.returns
returns c =
    let end : c.args.to ≤ c.loop-note.note = c.loop-note-test.false in
    let high = c.loop-note.invariant.high in
    let at : c.loop-note.note ≡ c.args.to = omega arith in
    c.loop-note.invariant.left ∙ ap (λ k. c.args.left.now ++ flat_map (left_from c.args.flow.now.notes c.args.next) (whole_notes c.args.from k)) at
