use Rattle.std.proofs.Common.{◌<◌, ◌≤◌, true, [], ◌∷◌, refl, sym, subst, arith, ◌∙◌}
use Rattle.note_list.specs.Calls.{start_place}
use Rattle.cursor.proofs.AskLemmas.{keeps_all, keeps_twice}
use Rattle.cursor.proofs.StepLemmas.{takes_none, takes_twice}
use Rattle.note_list.specs.Conditions.{IsHeld}
use Rattle.note_list.specs.declared.carried.Carried.{Carried}
use Rattle.note_list.proofs.NotedLemmas.{start_held}
use Rattle.note_list.proofs.KnownLemmas.{known_more}
use Rattle.note_list.proofs.BodyLemmas.{Calls, call_end, call_next, call_start}
use Rattle.note_list.proofs.list.NoteList.call.Goals as goal

pub loop-note-init : goal.loop-note-init
loop-note-init g c = record {
  ready = c.requires.list.ready;
  ends = c.requires.list.ends;
  own = refl;
  low = omega arith;
  high = omega arith;
  calls = call_start c.args.faces.now c.args.flow.now.notes c.args.frame.width c.args.frame.height c.args.from c.args.self.now;
  short = λ h. h;
  lines = λ known are. omega arith;
  kept = c.requires.kept;
  keeps = keeps_all c.args.lines.now.kept;
  takes = takes_none c.args.lines.now.kept c.args.lines.now.kept c.args.steps.now;
  now = λ h. h;
}

pub loop-note-preserved : goal.loop-note-preserved
loop-note-preserved g c =
    let before : c.loop-note.note < c.args.to = c.loop-note-test.true in
    let low = c.loop-note.invariant.low in
    let next : Calls c.args.faces.now c.args.flow.now.notes c.args.frame.width c.args.frame.height (record { note = c.loop-note.note; at = start_place; called = true } ∷ []) c.loop-note.self c.read.new.self =
    subst (λ (x : Carried). Calls c.args.faces.now c.args.flow.now.notes c.args.frame.width c.args.frame.height (record { note = x.note; at = x.at; called = true } ∷ []) c.loop-note.self c.read.new.self) c.whole.ensures c.in_ok-read.ensures.list in
    record {
      ready = c.in_ok-read.ensures.ready;
      ends = c.in_ok-read.ensures.ends;
      own = c.in_ok-read.ensures.own ∙ c.loop-note.invariant.own;
      low = omega arith;
      high = omega arith;
      calls = call_next c.args.faces.now c.args.flow.now.notes c.args.frame.width c.args.frame.height c.args.from c.loop-note.note c.args.self.now c.loop-note.self c.read.new.self low c.loop-note.invariant.calls next;
      short = λ h. c.in_ok-read.ensures.short (c.loop-note.invariant.short h);
      lines = λ known are. let more = c.in_ok-read.ensures.lines known (known_more known c.args.lines.now.kept c.loop-note.lines.kept are c.loop-note.invariant.keeps) in let count = c.loop-note.invariant.lines known are in omega (arith, more, count);
      kept = c.read.ensures.kept;
      keeps = keeps_twice c.args.lines.now.kept c.loop-note.lines.kept c.read.new.lines.kept c.loop-note.invariant.keeps c.read.ensures.keeps;
      takes = takes_twice c.args.lines.now.kept c.loop-note.lines.kept c.read.new.lines.kept c.args.steps.now c.loop-note.steps c.read.new.steps c.loop-note.invariant.keeps c.read.ensures.keeps c.loop-note.invariant.takes c.in_ok-read.ensures.takes;
      now = λ h. c.in_ok-read.ensures.now (c.loop-note.invariant.now h);
    }

pub read-requires-clause-list : goal.read-requires-clause-list
read-requires-clause-list g c = record { ready = c.loop-note.invariant.ready; ends = c.loop-note.invariant.ends }

pub read-requires-clause-held : goal.read-requires-clause-held
read-requires-clause-held g c =
    let before : c.loop-note.note < c.args.to = c.loop-note-test.true in
    let within = c.requires.within in
    subst (IsHeld c.args.flow.now.notes) (sym c.whole.ensures) (start_held c.args.flow.now.notes c.loop-note.note (omega arith))

pub returns-clause-list : goal.returns-clause-list
returns-clause-list g c =
    let end : c.args.to ≤ c.loop-note.note = c.loop-note-test.false in
    call_end c.args.faces.now c.args.flow.now.notes c.args.frame.width c.args.frame.height c.args.from c.args.to c.loop-note.note c.args.self.now c.loop-note.self c.loop-note.invariant.low c.loop-note.invariant.high end c.loop-note.invariant.calls

pub returns-in_err-read-clause-keeps : goal.returns-in_err-read-clause-keeps
returns-in_err-read-clause-keeps g c = keeps_twice c.args.lines.now.kept c.loop-note.lines.kept c.read.new.lines.kept c.loop-note.invariant.keeps c.read.ensures.keeps
