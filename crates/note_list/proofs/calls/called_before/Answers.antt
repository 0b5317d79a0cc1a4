use Rattle.std.proofs.Common.{◌≡◌, ◌==◌, Bool, false, cond, List, length, map, rules, sym, subst, ap, ◌∙◌, arith}
use Rattle.std.specs.List.{prefix_len}
use Rattle.std.proofs.lemmas.Bool.{ne_eqb}
use Rattle.std.proofs.lemmas.List.Sorted.{IsPartitionPoint-from_clause}
use Rattle.boxes.specs.Tree.{Tree}
use Rattle.boxes.specs.declared.flow.Note.{Note}
use Rattle.boxes.specs.declared.place.Position.{Position}
use Rattle.page_seq.specs.Places.{NeverFall, anchor_of, is_before}
use Rattle.note_list.specs.Calls.{end_before}
use Rattle.note_list.proofs.CallLemmas.{calls_part, prefix_at}
use Rattle.note_list.proofs.calls.called_before.Goals as goal

pub returns : goal.returns
returns c =
    let t : Tree = c.args.flow.now.main in
    let notes : List Note = c.as_slice-notes.result.now in
    let end : Position = c.end_before-end.result in
    let p : Note → Bool = λ n. is_before (anchor_of t n.call) end in
    let order : NeverFall (map (λ n. n.call) notes) = subst (λ (xs : List Note). NeverFall (map (λ n. n.call) xs)) (sym c.as_slice-notes.ensures) c.requires.calls in
    let point = IsPartitionPoint-from_clause (λ (n : Note). is_before (anchor_of t n.call) end) notes c.partition_point.result c.partition_point.ensures.partitioned (calls_part t notes end order) (λ a r q k. search rules) in
    let all : c.partition_point.result ≡ prefix_len p notes = prefix_at p notes c.partition_point.result c.partition_point.ensures.bound (λ k d h. point.0 k d (omega arith) h) (λ k d l h. point.1 k d l h) in
    let other : (c.args.at.event == length t.events) ≡ false = ne_eqb c.args.at.event (length t.events) (λ e. c.if-at-count.false (e ∙ sym c.count.ensures.count)) in
    all ∙ ap (λ (xs : List Note). prefix_len p xs) c.as_slice-notes.ensures
    ∙ ap (λ (at : Position). prefix_len (λ n. is_before (anchor_of t n.call) at) c.args.flow.now.notes) c.end_before-end.ensures
    ∙ ap (λ (b : Bool). cond b (length c.args.flow.now.notes) (prefix_len (λ n. is_before (anchor_of t n.call) (end_before t c.args.at)) c.args.flow.now.notes)) (sym other)
