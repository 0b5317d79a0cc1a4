use Rattle.std.proofs.Common.{◌≡◌, ◌+◌, true, false, List, [], ◌∷◌, ◌++◌, length, length-append, refl, sym, ap, ◌∙◌, subst, arith}
use Rattle.std.proofs.lemmas.Bool.{eqb-true}
use Rattle.std.proofs.lemmas.Grind.{common_steps}
use Rattle.boxes.specs.declared.flow.Flow.{Flow}
use Rattle.boxes.specs.Frames.{PageFrames}
use Rattle.page_list.specs.Pages.{IsPaged, HaveNearTops, after_notes, has_some, notes_page_of}
use Rattle.fragment.specs.Runs.{Leads, LooksOn}
use Rattle.fragment.specs.declared.paginate.FlowPages.{FlowPages}
use Rattle.fragment.proofs.RunLemmas.{leaves_some, run_ends, run_step, some_left, has_none, has_one, noted_step}
use Rattle.std.proofs.lemmas.List.Elements.{All-nil}
use Rattle.boxes.specs.declared.page.Page.{Page}
use Rattle.boxes.specs.declared.page.Placed.{Placed}
use Rattle.cursor.proofs.AskLemmas.{keeps_all, keeps_twice}
use Rattle.cursor.proofs.StepLemmas.{takes_none, takes_twice}
use Rattle.cursor.specs.Asks.{IsHeldNow}
use Rattle.fragment.specs.Kept.{ArePagesHeld, IsPageHeld}
use Rattle.fragment.proofs.KeptLemmas.{pages_more}
use Rattle.fragment.proofs.NearLemmas.{near_more}
use Rattle.fragment.proofs.PagesLookLemmas.{past_ends, past_more, past_none}
use Rattle.fragment.proofs.paginate.with_notes.Goals as goal

pub loop-turn-init : goal.loop-turn-init
loop-turn-init g c =
    let is = c.requires.pages in
    let few = is.few in
    record {
      turns = omega arith;
      few = omega arith;
      carries = is.carried;
      stands = is.stands;
      run = (is.state, is.leads, is.done, is.index, is.name, is.carried_is);
      looks = past_none c.args.faces.now c.args.flow.now (g.Fr.Frames.view c.args.frames.now) c.args.lines.now.kept c.args.made c.args.steps.now;
      near = c.requires.tops;
      kept = c.requires.kept;
      keeps = keeps_all c.args.lines.now.kept;
      takes = takes_none c.args.lines.now.kept c.args.lines.now.kept c.args.steps.now;
      held = c.requires.held;
    }

pub returns-then-is_empty-clause-pages : goal.returns-then-is_empty-clause-pages
returns-then-is_empty-clause-pages g c =
    let run = c.loop-turn.invariant.run in
    let none : has_some c.loop-turn.carried ≡ false = has_none c.loop-turn.carried (eqb-true (length c.loop-turn.carried) 0 (sym c.is_empty.ensures ∙ c.if-is_empty.true)) in
    subst (IsPaged c.args.faces.now c.args.flow.now (g.Fr.Frames.view c.args.frames.now)) (sym c.of.ensures)
    (run_ends c.args.faces.now c.args.flow.now (g.Fr.Frames.view c.args.frames.now) run.0 c.loop-turn.pages.items (record { done = run.2; none = ap has_some run.5 ∙ none }) run.1)

pub returns-then-is_empty-clause-tops : goal.returns-then-is_empty-clause-tops
returns-then-is_empty-clause-tops g c = subst HaveNearTops (sym c.of.ensures) c.loop-turn.invariant.near

pub returns-then-is_empty-clause-held : goal.returns-then-is_empty-clause-held
returns-then-is_empty-clause-held g c = subst (ArePagesHeld c.args.flow.now c.loop-turn.lines.kept) (sym c.of.ensures) c.loop-turn.invariant.held

pub returns-then-is_empty-clause-looks : goal.returns-then-is_empty-clause-looks
returns-then-is_empty-clause-looks g c =
    let frames : PageFrames = g.Fr.Frames.view c.args.frames.now in
    let none : has_some c.loop-turn.carried ≡ false = has_none c.loop-turn.carried (eqb-true (length c.loop-turn.carried) 0 (sym c.is_empty.ensures ∙ c.if-is_empty.true)) in
    subst (λ (ps : List Page). LooksOn c.args.faces.now c.args.flow.now frames c.args.lines.now.kept c.args.made ps c.args.steps.now c.loop-turn.steps) (sym c.of.ensures)
    (past_ends c.args.faces.now c.args.flow.now frames c.args.lines.now.kept c.args.made c.args.steps.now c.loop-turn.steps (record { pages = c.loop-turn.pages; name = c.args.made.name; carried = c.loop-turn.carried }) none c.loop-turn.invariant.looks)

pub returns-then-len-clause-many : goal.returns-then-len-clause-many
returns-then-len-clause-many g c = λ e.
    let run = c.loop-turn.invariant.run in
    let few = c.loop-turn.invariant.few in
    let full = c.if-len.true in
    let some : has_some c.loop-turn.carried ≡ true = has_one c.loop-turn.carried (sym c.is_empty.ensures ∙ c.if-is_empty.false) in
    leaves_some c.args.faces.now c.args.flow.now (g.Fr.Frames.view c.args.frames.now) run.0 c.loop-turn.pages.items 100000 (some_left run.0 (ap has_some run.5 ∙ some)) (let size = c.len.ensures in omega arith) run.1

pub loop-turn-preserved : goal.loop-turn-preserved
loop-turn-preserved g c =
    let f : Flow = c.args.flow.now in
    let run = c.loop-turn.invariant.run in
    let now : c.push.new.self.items ≡ c.loop-turn.pages.items ++ c.notes_page_of.result ∷ [] = grind (arith, common_steps) in
    let size : length c.push.new.self.items ≡ length c.loop-turn.pages.items + 1 = ap length now ∙ length-append c.loop-turn.pages.items (c.notes_page_of.result ∷ []) in
    let turns = c.loop-turn.invariant.turns in
    let few = c.loop-turn.invariant.few in
    let full = c.if-len.false in
    let many = c.len.ensures in
    let count = c.len-in-loop-turn.ensures in
    let before = run.3 in
    let index : run.0.index ≡ c.len-in-loop-turn.result + 1 = omega arith in
    let some : has_some c.loop-turn.carried ≡ true = has_one c.loop-turn.carried (sym c.is_empty.ensures ∙ c.if-is_empty.false) in
    let is : c.push.new.self.items ≡ c.loop-turn.pages.items ++ notes_page_of (c.len-in-loop-turn.result + 1) c.args.made.name c.frame-frame.result c.in-Ok.placed.notes ∷ [] = now ∙ ap (λ (q : Page). c.loop-turn.pages.items ++ q ∷ []) c.notes_page_of.ensures in
    let step = noted_step c.args.faces.now f (g.Fr.Frames.view c.args.frames.now) run.0 c.args.made.name (c.len-in-loop-turn.result + 1) c.frame-frame.result c.loop-turn.carried c.in-Ok.placed.left c.in-Ok.placed.notes run.2 run.4 index run.5 c.frame-frame.ensures.frame some c.in-Ok.ensures.cut in
    record {
      turns = omega arith;
      few = omega arith;
      carries = c.in-Ok.ensures.carried;
      stands = c.in-Ok.ensures.stands;
      run = (
        after_notes run.0 c.in-Ok.placed.left,
        subst (Leads c.args.faces.now f (g.Fr.Frames.view c.args.frames.now) (after_notes run.0 c.in-Ok.placed.left)) (sym is) (run_step c.args.faces.now f (g.Fr.Frames.view c.args.frames.now) run.0 (after_notes run.0 c.in-Ok.placed.left) (notes_page_of (c.len-in-loop-turn.result + 1) c.args.made.name c.frame-frame.result c.in-Ok.placed.notes) c.loop-turn.pages.items step run.1),
        run.2,
        omega arith,
        run.4,
        refl,
      );
      looks =
          let before : FlowPages = record { pages = c.loop-turn.pages; name = c.args.made.name; carried = c.loop-turn.carried } in
          let after : FlowPages = record { pages = c.push.new.self; name = c.args.made.name; carried = c.in-Ok.placed.left } in
          past_more c.args.faces.now f (g.Fr.Frames.view c.args.frames.now) c.args.lines.now.kept c.args.made c.loop-turn.lines.kept c.args.steps.now c.loop-turn.steps c.next_notes.new.steps before after (c.len-in-loop-turn.result + 1) c.frame-frame.result c.in-Ok.placed.notes c.loop-turn.invariant.keeps (omega arith) c.frame-frame.ensures.frame some c.in-Ok.ensures.cut c.in-Ok.ensures.lines refl is c.loop-turn.invariant.looks;
      near = subst HaveNearTops (sym now) (near_more c.loop-turn.pages.items c.notes_page_of.result c.loop-turn.invariant.near (rw c.notes_page_of.ensures c.in-Ok.ensures.near));
      kept = c.next_notes.ensures.kept;
      keeps = keeps_twice c.args.lines.now.kept c.loop-turn.lines.kept c.next_notes.new.lines.kept c.loop-turn.invariant.keeps c.next_notes.ensures.keeps;
      takes = takes_twice c.args.lines.now.kept c.loop-turn.lines.kept c.next_notes.new.lines.kept c.args.steps.now c.loop-turn.steps c.next_notes.new.steps c.loop-turn.invariant.keeps c.next_notes.ensures.keeps c.loop-turn.invariant.takes c.in-Ok.ensures.takes;
      held =
          let kept = c.next_notes.new.lines.kept in
          let noted : IsPageHeld f c.frame-frame.result.width kept [] c.in-Ok.placed.notes = record { solids = All-nil (λ (q : Placed). IsHeldNow f.main c.frame-frame.result.width kept q.at); notes = c.in-Ok.ensures.now } in
          pages_more f c.loop-turn.lines.kept kept c.loop-turn.pages.items c.push.new.self.items c.notes_page_of.result c.next_notes.ensures.keeps
          (subst (λ (q : Page). IsPageHeld f q.frame.width kept q.solids q.notes) (sym c.notes_page_of.ensures) noted) now c.loop-turn.invariant.held;
    }

pub returns-in_default-clause-keeps : goal.returns-in_default-clause-keeps
returns-in_default-clause-keeps g c = keeps_twice c.args.lines.now.kept c.loop-turn.lines.kept c.next_notes.new.lines.kept c.loop-turn.invariant.keeps c.next_notes.ensures.keeps

pub returns-then-is_err-clause-keeps : goal.returns-then-is_err-clause-keeps
returns-then-is_err-clause-keeps g c = keeps_twice c.args.lines.now.kept c.loop-turn.lines.kept c.next_notes.new.lines.kept c.loop-turn.invariant.keeps c.next_notes.ensures.keeps
