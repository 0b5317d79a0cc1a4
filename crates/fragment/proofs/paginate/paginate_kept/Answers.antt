use Rattle.std.proofs.Common.{List, sym, subst}
use Rattle.std.proofs.lemmas.Result.{IfOk-weaker}
use Rattle.cursor.specs.Asks.{KeepsHeld, TakesSteps}
use Rattle.line_fill.specs.Kept.{AreKept}
use Rattle.line_fill.specs.declared.kept.KeptLeaf.{KeptLeaf}
use Rattle.fragment.proofs.KeptLemmas.{flow_lines}
use Rattle.page_list.specs.Laws.{MeetWithin}
use Rattle.page_list.specs.LookedPages.{LooksAtPages}
use Rattle.fragment.proofs.paginate.paginate_kept.Goals as goal

pub returns-clause-begins : goal.returns-clause-begins
returns-clause-begins g c = IfOk-weaker c.pages_of.result _ _ (λ list paged. c.notes_begin_in_time.ensures c.args.faces.now c.args.flow.now (g.Fr.Frames.view c.args.frames.now) list.pages c.requires.flow paged) c.pages_of.ensures.pages

pub returns-clause-breaks : goal.returns-clause-breaks
returns-clause-breaks g c = IfOk-weaker c.pages_of.result _ _ (λ list paged. c.breaks_hold.ensures c.args.faces.now c.args.flow.now (g.Fr.Frames.view c.args.frames.now) list.pages c.requires.flow paged) c.pages_of.ensures.pages

pub returns-clause-inside : goal.returns-clause-inside
returns-clause-inside g c = IfOk-weaker c.pages_of.result _ _ (λ list paged. c.pages_end_inside.ensures c.args.faces.now c.args.flow.now (g.Fr.Frames.view c.args.frames.now) list.pages (g.met.Fr.Frames.wide c.args.frames.now) c.requires.flow paged) c.pages_of.ensures.pages

pub returns-clause-bound : goal.returns-clause-bound
returns-clause-bound g c =
    let within : MeetWithin (g.Fr.Frames.is_free c.args.frames.now) (g.Fr.Frames.bound c.args.frames.now) (g.Fr.Frames.view c.args.frames.now) = record { some = g.met.Fr.Frames.within c.args.frames.now; at_once = g.met.Fr.Frames.free c.args.frames.now } in
    IfOk-weaker c.pages_of.result _ _ (λ list paged. c.pages_are_few.ensures c.args.faces.now c.args.flow.now (g.Fr.Frames.view c.args.frames.now) (g.Fr.Frames.is_free c.args.frames.now) (g.Fr.Frames.bound c.args.frames.now) list.pages c.requires.flow c.has_texts.ensures within paged) c.pages_of.ensures.pages

pub pages_of-requires-clause-kept : goal.pages_of-requires-clause-kept
pages_of-requires-clause-kept g c =
    flow_lines c.args.faces.now c.args.flow.now c.forget.new.self (subst (AreKept c.args.faces.now) (sym c.forget.ensures.same) c.requires.kept) c.forget.ensures.placed

pub returns-clause-keeps : goal.returns-clause-keeps
returns-clause-keeps g c = subst (λ (old : List KeptLeaf). KeepsHeld old c.pages_of.new.lines.kept) c.forget.ensures.same c.pages_of.ensures.keeps

pub returns-clause-takes : goal.returns-clause-takes
returns-clause-takes g c = IfOk-weaker c.pages_of.result _ _ (λ list takes. subst (λ (old : List KeptLeaf). TakesSteps old c.pages_of.new.lines.kept c.args.steps.now c.pages_of.new.steps) c.forget.ensures.same takes) c.pages_of.ensures.takes

pub returns-clause-lines : goal.returns-clause-lines
returns-clause-lines g c = IfOk-weaker c.pages_of.result _ _ (λ list looks. subst (λ (old : List KeptLeaf). LooksAtPages c.args.faces.now c.args.flow.now (g.Fr.Frames.view c.args.frames.now) old list.pages c.args.steps.now c.pages_of.new.steps) c.forget.ensures.same looks) c.pages_of.ensures.lines
