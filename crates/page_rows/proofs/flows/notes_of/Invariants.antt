use Rattle.std.proofs.Common.{All, ◌≤◌, length, map}
use Rattle.boxes.specs.Clones.{AreSliced}
use Rattle.note_list.specs.Conditions.{CanBeCut}
use Rattle.page_seq.specs.Places.{NeverFall}
use Rattle.page_rows.proofs.flows.notes_of.Given as goal

abbrev pub invariant-loop-note : goal.invariant-loop-note
invariant-loop-note l = record {
  bodies : All (λ n. CanBeCut l.faces n.body) l.list.items;
  sliced : All (λ n. AreSliced n.body.boxes) l.list.items;
  calls : NeverFall (map (λ n. n.call) l.list.items);
  count : length l.list.items ≤ 67108864;
}
