use Rattle.std.proofs.Common.{◌≡◌, ◌+◌, ◌&&◌, ◌||◌, Bool, arith, is_some, refl, sym, ap, ◌∙◌, subst}
use Rattle.std.proofs.lemmas.Option.{slice_get_within}
use Rattle.bk_num.proofs.ListLemmas.{all-get}
use Rattle.boxes.specs.Tree.{Tree}
use Rattle.boxes.specs.declared.flow.Note.{Note}
use Rattle.cursor.proofs.AskLemmas.{keeps_all}
use Rattle.cursor.proofs.RemLemmas.{stands}
use Rattle.cursor.proofs.StepLemmas.{takes_none}
use Rattle.cursor.specs.KeptLines.{ArePlaced, StayPlaced}
use Rattle.seams.specs.Runs.{solid_after}
use Rattle.note_list.specs.Conditions.{CanBeCut}
use Rattle.note_list.specs.Lists.{NotePart}
use Rattle.note_list.specs.Reads.{HasReadOn}
use Rattle.note_list.proofs.KeptLemmas.{note_lines}
use Rattle.note_list.proofs.BodyLemmas.{list_full, list_read}
use Rattle.note_list.proofs.list.NoteList.read.Goals as goal

pub returns-then-self-clause-list : goal.returns-then-self-clause-list
returns-then-self-clause-list g c = λ list r.
    let note : Note = c.requires.held.note in
    let cut : CanBeCut c.args.faces.now note.body = all-get (λ (n : Note). CanBeCut c.args.faces.now n.body) c.args.flow.now.notes c.args.part.note note c.requires.flow.notes c.requires.held.has in
    let body : c.body_of-body.result.now ≡ note.body = c.body_of-body.ensures note c.requires.held.has in
    list_full c.args.faces.now c.args.flow.now.notes c.args.frame.width c.args.frame.height _ note c.args.self.now _ cut.is (stands note.body c.args.part.at c.requires.held.holds) c.requires.held.has c.requires.start c.if-self.true refl refl
    (ap (λ (b : Bool). b || c.args.self.now.begun) (c.begins.ensures ∙ ap (λ (t : Tree). c.args.called && is_some (solid_after t 0)) body)) list r

pub read_body-requires-clause-body : goal.read_body-requires-clause-body
read_body-requires-clause-body g c =
    let note : Note = c.requires.held.note in
    subst (CanBeCut c.args.faces.now) (sym (c.body_of-body.ensures note c.requires.held.has)) (all-get (λ (n : Note). CanBeCut c.args.faces.now n.body) c.args.flow.now.notes c.args.part.note note c.requires.flow.notes c.requires.held.has)

pub returns-clause-list : goal.returns-clause-list
returns-clause-list g c = λ list r.
    let note : Note = c.requires.held.note in
    let body : c.body_of-body.result.now ≡ note.body = c.body_of-body.ensures note c.requires.held.has in
    let p : NotePart = record { note = c.args.part.note; at = c.args.part.at; called = c.args.called } in
    list_read c.args.faces.now c.args.flow.now.notes c.args.frame.width c.args.frame.height p note c.args.self.now c.read_body.new.self c.requires.held.has c.if-self.false (subst (λ (t : Tree). HasReadOn c.args.faces.now t c.args.frame.width c.args.frame.height p c.args.self.now c.read_body.new.self) body c.in_ok-read_body.ensures.read) c.in_ok-read_body.ensures.begun list r

pub read_body-requires-clause-few : goal.read_body-requires-clause-few
read_body-requires-clause-few g c =
    let low = slice_get_within c.args.flow.now.notes c.args.part.note c.requires.held.note c.requires.held.has in
    let few = c.requires.flow.count in
    omega (arith, low, few)

pub read_body-requires-clause-list : goal.read_body-requires-clause-list
read_body-requires-clause-list g c = record { ready = c.requires.list.ready; room = c.if-self.false }

pub read_body-requires-clause-lines : goal.read_body-requires-clause-lines
read_body-requires-clause-lines g c =
    let note : Note = c.requires.held.note in
    record {
      kept = c.requires.kept.kept;
      placed = subst (λ (t : Tree). ArePlaced (c.args.part.note + 1) t c.args.lines.now) (sym (c.body_of-body.ensures note c.requires.held.has)) (c.requires.kept.notes c.args.part.note note c.requires.held.has);
    }

pub returns-in_err-read_body-clause-kept : goal.returns-in_err-read_body-clause-kept
returns-in_err-read_body-clause-kept g c =
    let note : Note = c.requires.held.note in
    note_lines c.args.faces.now c.args.flow.now c.args.part.note note c.args.lines.now c.read_body.new.lines c.requires.held.has c.requires.kept c.read_body.ensures.kept
    (subst (λ (t : Tree). StayPlaced (c.args.part.note + 1) t c.args.lines.now c.read_body.new.lines) (c.body_of-body.ensures note c.requires.held.has) c.read_body.ensures.placed)

pub returns-clause-kept : goal.returns-clause-kept
returns-clause-kept g c =
    let note : Note = c.requires.held.note in
    note_lines c.args.faces.now c.args.flow.now c.args.part.note note c.args.lines.now c.read_body.new.lines c.requires.held.has c.requires.kept c.read_body.ensures.kept
    (subst (λ (t : Tree). StayPlaced (c.args.part.note + 1) t c.args.lines.now c.read_body.new.lines) (c.body_of-body.ensures note c.requires.held.has) c.read_body.ensures.placed)

pub returns-clause-now : goal.returns-clause-now
returns-clause-now g c = λ held. c.in_ok-read_body.ensures.now c.args.flow.now.notes c.requires.held.note c.requires.held.has (sym (c.body_of-body.ensures c.requires.held.note c.requires.held.has)) held

pub returns-then-self-clause-lines : goal.returns-then-self-clause-lines
returns-then-self-clause-lines g c = λ known are. omega arith

pub returns-clause-lines : goal.returns-clause-lines
returns-clause-lines g c = c.in_ok-read_body.ensures.lines c.args.flow.now.notes c.requires.held.note c.requires.held.has (sym (c.body_of-body.ensures c.requires.held.note c.requires.held.has))

pub returns-then-self-clause-keeps : goal.returns-then-self-clause-keeps
returns-then-self-clause-keeps g c = keeps_all c.args.lines.now.kept

pub returns-then-self-clause-takes : goal.returns-then-self-clause-takes
returns-then-self-clause-takes g c = takes_none c.args.lines.now.kept c.args.lines.now.kept c.args.steps.now
