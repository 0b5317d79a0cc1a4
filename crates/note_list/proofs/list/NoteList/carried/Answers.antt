use Rattle.std.proofs.Common.{◌≡◌, ℤ, [], All, ap, length, sym, subst, arith}
use Rattle.std.proofs.lemmas.Int.{ints, to_z-of_z}
use Rattle.std.proofs.lemmas.List.Elements.{All-nil}
use mir.Val.{SFits}
use mir.Syntax.{w64}
use Rattle.notes.specs.Notes.{IsCarryCount}
use Rattle.note_list.specs.Kept.{AreHeldNow, IsHeldIn}
use Rattle.note_list.specs.Known.{new_noted}
use Rattle.note_list.specs.Lists.{note_rows}
use Rattle.note_list.specs.declared.solid.NotedSolid.{NotedSolid}
use Rattle.note_list.proofs.BodyLemmas.{EndsIn, read_none, read_same}
use Rattle.note_list.proofs.ReadLemmas.{counts_told}
use Rattle.note_list.proofs.ShortLemmas.{short_same, short_start}
use Rattle.note_list.proofs.list.NoteList.carried.Goals as goal

pub read_carried-requires-clause-list : goal.read_carried-requires-clause-list
read_carried-requires-clause-list g c = record {
  ready = c.new-list.ensures.ready;
  ends = subst (All (EndsIn c.args.flow.now.notes)) (sym c.new-list.ensures.none) (All-nil (EndsIn c.args.flow.now.notes));
}

pub returns-clause-ends : goal.returns-clause-ends
returns-clause-ends g c = subst (All (EndsIn c.args.flow.now.notes)) (sym c.in_ok-hold.ensures.solids) c.in_ok-read_carried.ensures.ends

pub returns-clause-list : goal.returns-clause-list
returns-clause-list g c =
    let all = c.in_ok-read_carried.ensures.list [] (read_none c.args.frame.height c.new-list.result c.new-list.ensures.none c.new-list.ensures.over c.new-list.ensures.begun) in
    let read = read_same c.args.frame.height all.0 c.read_carried.new.self c.hold.new.self c.in_ok-hold.ensures.solids c.in_ok-hold.ensures.over c.in_ok-hold.ensures.begun all.2 in
    record {
      list = all.0;
      listed = all.1;
      read = read;
      counts = counts_told c.hold.new.self c.args.frame.height all.0 c.requires.frame.height_low read (let fits : SFits w64 c.args.frame.height = (let low = c.requires.frame.height_low in let high = c.requires.frame.height_high in omega (arith, ints)) in subst (λ (h : ℤ). IsCarryCount (note_rows c.hold.new.self.solids.items) (length c.hold.new.self.solids.items) h c.hold.new.self.own) (to_z-of_z w64 _ fits) c.in_ok-hold.ensures.counts);
    }

pub returns-clause-short : goal.returns-clause-short
returns-clause-short g c =
    short_same c.args.frame.height c.read_carried.new.self c.hold.new.self c.in_ok-hold.ensures.solids c.in_ok-hold.ensures.over
    (c.in_ok-read_carried.ensures.short (short_start c.args.frame.height c.new-list.result c.new-list.ensures.none c.requires.frame.height_low))

pub returns-clause-lines : goal.returns-clause-lines
returns-clause-lines g c = λ known are.
    let none : new_noted known c.args.flow.now.notes c.args.frame.width c.new-list.result.solids.items ≡ 0 = ap (new_noted known c.args.flow.now.notes c.args.frame.width) c.new-list.ensures.none in
    let same : new_noted known c.args.flow.now.notes c.args.frame.width c.hold.new.self.solids.items ≡ new_noted known c.args.flow.now.notes c.args.frame.width c.read_carried.new.self.solids.items = ap (new_noted known c.args.flow.now.notes c.args.frame.width) c.in_ok-hold.ensures.solids in
    let count = c.in_ok-read_carried.ensures.lines known are in
    omega (arith, none, same, count)

pub returns-clause-now : goal.returns-clause-now
returns-clause-now g c =
    let none : AreHeldNow c.args.flow.now.notes c.args.frame.width c.args.lines.now.kept c.new-list.result.solids.items =
    subst (AreHeldNow c.args.flow.now.notes c.args.frame.width c.args.lines.now.kept) (sym c.new-list.ensures.none) (All-nil (λ (s : NotedSolid). IsHeldIn c.args.flow.now.notes c.args.frame.width c.args.lines.now.kept s.note s.at)) in
    subst (AreHeldNow c.args.flow.now.notes c.args.frame.width c.read_carried.new.lines.kept) (sym c.in_ok-hold.ensures.solids) (c.in_ok-read_carried.ensures.now none)
