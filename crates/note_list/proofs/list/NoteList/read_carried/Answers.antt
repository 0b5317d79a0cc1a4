use Rattle.std.proofs.Common.{◌≤◌, List, length, subst, arith}
use Rattle.bk_num.proofs.ListLemmas.{all-get, take-past}
use Rattle.cursor.proofs.AskLemmas.{keeps_all, keeps_twice}
use Rattle.cursor.proofs.StepLemmas.{takes_none, takes_twice}
use Rattle.note_list.specs.Conditions.{IsHeld}
use Rattle.note_list.specs.Lists.{carried_parts}
use Rattle.note_list.specs.declared.carried.Carried.{Carried}
use Rattle.note_list.proofs.KnownLemmas.{known_more}
use Rattle.note_list.proofs.BodyLemmas.{Calls, calls_none, carry_next, carry_rest}
use Rattle.note_list.proofs.list.NoteList.read_carried.Goals as goal

pub loop-at-init : goal.loop-at-init
loop-at-init g c = record {
  ready = c.requires.list.ready;
  ends = c.requires.list.ends;
  calls = calls_none c.args.faces.now c.args.flow.now.notes c.args.frame.width c.args.frame.height c.args.self.now;
  short = λ h. h;
  lines = λ known are. omega arith;
  kept = c.requires.kept;
  keeps = keeps_all c.args.lines.now.kept;
  takes = takes_none c.args.lines.now.kept c.args.lines.now.kept c.args.steps.now;
  now = λ h. h;
}

pub returns-then-self-clause-list : goal.returns-then-self-clause-list
returns-then-self-clause-list g c = carry_rest c.args.faces.now c.args.flow.now.notes c.args.frame.width c.args.frame.height c.args.carried.now c.loop-at.at c.args.self.now c.loop-at.self c.requires.flow.notes c.requires.carried c.if-self.true c.loop-at.invariant.calls

pub read-requires-clause-list : goal.read-requires-clause-list
read-requires-clause-list g c = record { ready = c.loop-at.invariant.ready; ends = c.loop-at.invariant.ends }

pub read-requires-clause-held : goal.read-requires-clause-held
read-requires-clause-held g c = all-get (IsHeld c.args.flow.now.notes) c.args.carried.now c.loop-at.at c.part.result c.requires.carried c.part.ensures

pub loop-at-preserved : goal.loop-at-preserved
loop-at-preserved g c = record {
  ready = c.in_ok-read.ensures.ready;
  ends = c.in_ok-read.ensures.ends;
  calls = carry_next c.args.faces.now c.args.flow.now.notes c.args.frame.width c.args.frame.height c.args.carried.now c.loop-at.at c.part.result c.args.self.now c.loop-at.self c.read.new.self c.part.ensures c.loop-at.invariant.calls c.in_ok-read.ensures.list;
  short = λ h. c.in_ok-read.ensures.short (c.loop-at.invariant.short h);
  lines = λ known are. let more = c.in_ok-read.ensures.lines known (known_more known c.args.lines.now.kept c.loop-at.lines.kept are c.loop-at.invariant.keeps) in let count = c.loop-at.invariant.lines known are in omega (arith, more, count);
  kept = c.read.ensures.kept;
  keeps = keeps_twice c.args.lines.now.kept c.loop-at.lines.kept c.read.new.lines.kept c.loop-at.invariant.keeps c.read.ensures.keeps;
  takes = takes_twice c.args.lines.now.kept c.loop-at.lines.kept c.read.new.lines.kept c.args.steps.now c.loop-at.steps c.read.new.steps c.loop-at.invariant.keeps c.read.ensures.keeps c.loop-at.invariant.takes c.in_ok-read.ensures.takes;
  now = λ h. c.in_ok-read.ensures.now (c.loop-at.invariant.now h);
}

pub returns-clause-list : goal.returns-clause-list
returns-clause-list g c =
    let end = c.loop-at-test.false in
    let size = c.len-at-end.ensures in
    let all : length c.args.carried.now ≤ c.loop-at.at = omega arith in
    subst (λ (cs : List Carried). Calls c.args.faces.now c.args.flow.now.notes c.args.frame.width c.args.frame.height (carried_parts cs) c.args.self.now c.loop-at.self) (take-past c.args.carried.now c.loop-at.at all) c.loop-at.invariant.calls

pub returns-in_err-read-clause-keeps : goal.returns-in_err-read-clause-keeps
returns-in_err-read-clause-keeps g c = keeps_twice c.args.lines.now.kept c.loop-at.lines.kept c.read.new.lines.kept c.loop-at.invariant.keeps c.read.ensures.keeps
