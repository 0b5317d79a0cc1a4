use Rattle.std.proofs.Common.{◌≡◌, ◌+◌, List, Option, None, pos, [], ◌∷◌, ◌++◌, length, length-append, refl, sym, ap, ◌∙◌, subst, arith}
use Rattle.std.proofs.lemmas.Grind.{common_steps}
use Rattle.boxes.specs.declared.flow.Flow.{Flow}
use Rattle.boxes.specs.declared.frames.Frame.{Frame}
use Rattle.boxes.specs.declared.frames.PageKind.TheVariants as kind
use Rattle.boxes.specs.declared.page.Page.{Page}
use Rattle.boxes.specs.declared.frames.Demand.{Demand}
use Rattle.page_list.specs.declared.cut.Cut.{Cut}
use Rattle.note_list.specs.Conditions.{AreCarried, IsAtSolid}
use Rattle.boxes.specs.declared.place.Position.{Position}
use Rattle.page_list.specs.Cuts.{IsFlowCut, place_after}
use Rattle.boxes.specs.Frames.{PageFrames}
use Rattle.page_list.specs.Pages.{State, AreNear, HaveNearTops, IsStep, name_at, flow_page, after_flow, is_forced, start_of}
use Rattle.page_list.specs.Pages.IsStep.{flows}
use Rattle.page_list.specs.Looked.{IsLookedFlow}
use Rattle.page_list.specs.LookedPages.IsLookedNext.{flows as looked_flow}
use Rattle.note_list.specs.Calls.{start_place}
use Rattle.fragment.specs.Runs.{Leads}
use Rattle.std.proofs.lemmas.List.Elements.{All-nil}
use Rattle.fragment.proofs.RunLemmas.{leaves_some, not_done, state_at, run_step, run_added, adds_size, adds_grow, page_is, forced_some, frame_cut, none_carried, start_holds, next_state, ended_at}
use Rattle.cursor.proofs.AskLemmas.{keeps_all, keeps_twice}
use Rattle.cursor.proofs.StepLemmas.{takes_none, takes_twice}
use Rattle.cursor.specs.Asks.{KeepsHeld, TakesSteps}
use Rattle.fragment.specs.Kept.{ArePagesHeld, IsPageHeld}
use Rattle.fragment.proofs.KeptLemmas.{pages_added, pages_more}
use Rattle.fragment.proofs.NearLemmas.{near_more, near_added}
use Rattle.fragment.proofs.PagesLookLemmas.{HasLookedTo, looked_added, looked_more}
use Rattle.fragment.proofs.paginate.flow_pages.Given as given
use Rattle.fragment.proofs.paginate.flow_pages.Goals.{After-page_of-page}
use Rattle.fragment.proofs.paginate.flow_pages.Goals as goal

pub cut_page-requires-clause-page : goal.cut_page-requires-clause-page
cut_page-requires-clause-page g c = record {
  holds = c.loop-turn.invariant.holds;
  carried = c.loop-turn.invariant.carries;
  stands = c.loop-turn.invariant.stands;
  frame = c.frame-frame.ensures.good;
}

pub loop-turn-init : goal.loop-turn-init
loop-turn-init g c = rw c.new-pages.ensures.items (rw c.new-carried.ensures (record {
  holds = start_holds c.args.flow.now.main;
  count = refl;
  turns = omega arith;
  few = omega arith;
  carries = none_carried c.args.flow.now start_place;
  stands = All-nil (IsAtSolid c.args.flow.now.notes);
  run =
      let is : start_of c.args.flow.now.main ≡ record (start_of c.args.flow.now.main) { demand = c.seam-demand.result.forced } = ap (λ (d : Option Demand). record (start_of c.args.flow.now.main) { demand = d }) (sym (c.seam-demand.ensures.forced (pos 0))) in
      (name_at c.args.flow.now.main start_place, is, λ known are. (0, (is, refl), omega arith));
  near = All-nil (λ (q : Page). AreNear q.solids q.notes);
  kept = c.requires.kept;
  keeps = keeps_all c.args.lines.now.kept;
  takes = takes_none c.args.lines.now.kept c.args.lines.now.kept c.args.steps.now;
  ahead = c.none-ahead.ensures c.args.faces.now c.args.flow.now.main c.args.lines.now.kept;
  held = All-nil (λ (q : Page). IsPageHeld c.args.flow.now q.frame.width c.args.lines.now.kept q.solids q.notes);
}))

pub returns-in-Err-clause-many : goal.returns-in-Err-clause-many
returns-in-Err-clause-many g c e =
    let f : Flow = c.args.flow.now in
    let frames : PageFrames = (g.Fr.Frames.view c.args.frames.now) in
    let added = c.in-Err.ensures.many e in
    let run = c.loop-turn.invariant.run in
    let size = adds_size frames c.name_at_seam-name.result c.loop-turn.demand c.loop-turn.index 100001 c.loop-turn.pages.items c.add_blanks.new.pages.items added c.loop-turn.invariant.count in
    leaves_some c.args.faces.now f frames (state_at c.loop-turn.from.at c.loop-turn.from.kept 100001 c.loop-turn.demand c.loop-turn.carried run.0) c.add_blanks.new.pages.items 100000 (not_done (state_at c.loop-turn.from.at c.loop-turn.from.kept 100001 c.loop-turn.demand c.loop-turn.carried run.0) refl) (omega arith)
    (run_added c.args.faces.now f frames c.loop-turn.from.at c.loop-turn.from.kept c.loop-turn.demand c.loop-turn.carried run.0 c.loop-turn.index 100001 c.name_at_seam-name.result c.loop-turn.pages.items c.add_blanks.new.pages.items (c.name_at_seam-name.ensures (pos 0)) added run.1)

-- the state of the page that a turn makes
abbrev here : (g : given.Over) (c : After-page_of-page g) → State
here g c = state_at c.loop-turn.from.at c.loop-turn.from.kept c.in-Ok.to c.loop-turn.demand c.loop-turn.carried c.loop-turn.invariant.run.0

leads : (g : given.Over) (c : After-page_of-page g) → Leads c.args.faces.now c.args.flow.now (g.Fr.Frames.view c.args.frames.now) (here g c) c.add_blanks.new.pages.items
leads g c = run_added c.args.faces.now c.args.flow.now (g.Fr.Frames.view c.args.frames.now) c.loop-turn.from.at c.loop-turn.from.kept c.loop-turn.demand c.loop-turn.carried c.loop-turn.invariant.run.0 c.loop-turn.index c.in-Ok.to c.name_at_seam-name.result c.loop-turn.pages.items c.add_blanks.new.pages.items
    (c.name_at_seam-name.ensures (pos 0)) c.in-Ok.ensures.blanks c.loop-turn.invariant.run.1

nears : (g : given.Over) (c : After-page_of-page g) → HaveNearTops c.add_blanks.new.pages.items
nears g c = near_added (g.Fr.Frames.view c.args.frames.now) c.name_at_seam-name.result c.loop-turn.demand c.loop-turn.index c.in-Ok.to c.loop-turn.pages.items c.add_blanks.new.pages.items c.in-Ok.ensures.blanks c.loop-turn.invariant.near

same_page : (g : given.Over) (c : After-page_of-page g) → (c.frame-frame.result ≡ (g.Fr.Frames.view c.args.frames.now).frame_of c.in-Ok.to (name_at c.args.flow.now.main c.loop-turn.from.at) kind.Flow) × (c.page_of-page.result.0 ≡ flow_page (g.Fr.Frames.view c.args.frames.now) c.args.flow.now.main (here g c) c.in-Ok-cut_page.cut)
same_page g c =
    let same = page_is c.args.faces.now c.args.flow.now (g.Fr.Frames.view c.args.frames.now) c.loop-turn.from.at c.loop-turn.from.kept c.loop-turn.demand c.loop-turn.carried c.loop-turn.invariant.run.0 c.in-Ok.to c.in-Ok-cut_page.cut c.name_at_seam-name.result c.frame-frame.result (c.name_at_seam-name.ensures (pos 0)) c.frame-frame.ensures.frame in
    (same.0, c.page_of-page.ensures.page ∙ same.1)

carried_cut : (g : given.Over) (c : After-page_of-page g) → IsFlowCut c.args.faces.now c.args.flow.now c.frame-frame.result c.loop-turn.from c.loop-turn.carried c.in-Ok-cut_page.cut
carried_cut g c = c.in-Ok-cut_page.ensures.cut

step : (g : given.Over) (c : After-page_of-page g) → IsStep c.args.faces.now c.args.flow.now (g.Fr.Frames.view c.args.frames.now) (here g c) (flow_page (g.Fr.Frames.view c.args.frames.now) c.args.flow.now.main (here g c) c.in-Ok-cut_page.cut) (after_flow c.args.flow.now.main (here g c) c.in-Ok-cut_page.cut)
step g c = flows refl c.in-Ok.ensures.meets c.in-Ok-cut_page.cut
    (frame_cut c.args.faces.now c.args.flow.now c.loop-turn.from c.loop-turn.carried c.in-Ok-cut_page.cut c.frame-frame.result ((g.Fr.Frames.view c.args.frames.now).frame_of c.in-Ok.to (name_at c.args.flow.now.main c.loop-turn.from.at) kind.Flow) (same_page g c).0 (carried_cut g c)) refl refl

-- the pages with the last one
more : (g : given.Over) (c : After-page_of-page g) (now : List Page) → now ≡ c.add_blanks.new.pages.items ++ c.page_of-page.result.0 ∷ [] → Leads c.args.faces.now c.args.flow.now (g.Fr.Frames.view c.args.frames.now) (after_flow c.args.flow.now.main (here g c) c.in-Ok-cut_page.cut) now
more g c now is =
    let all : now ≡ c.add_blanks.new.pages.items ++ flow_page (g.Fr.Frames.view c.args.frames.now) c.args.flow.now.main (here g c) c.in-Ok-cut_page.cut ∷ [] = is ∙ ap (λ (q : Page). c.add_blanks.new.pages.items ++ q ∷ []) (same_page g c).1 in
    subst (Leads c.args.faces.now c.args.flow.now (g.Fr.Frames.view c.args.frames.now) (after_flow c.args.flow.now.main (here g c) c.in-Ok-cut_page.cut)) (sym all)
    (run_step c.args.faces.now c.args.flow.now (g.Fr.Frames.view c.args.frames.now) (here g c) (after_flow c.args.flow.now.main (here g c) c.in-Ok-cut_page.cut) (flow_page (g.Fr.Frames.view c.args.frames.now) c.args.flow.now.main (here g c) c.in-Ok-cut_page.cut) c.add_blanks.new.pages.items (step g c) (leads g c))

near : (g : given.Over) (c : After-page_of-page g) (now : List Page) → now ≡ c.add_blanks.new.pages.items ++ c.page_of-page.result.0 ∷ [] → HaveNearTops now
near g c now is = subst HaveNearTops (sym is) (near_more c.add_blanks.new.pages.items c.page_of-page.result.0 (nears g c) (subst (λ (q : Page). AreNear q.solids q.notes) (sym c.page_of-page.ensures.page) c.in-Ok-cut_page.ensures.near))

-- and the lines that they may look at
looks : (g : given.Over) (c : After-page_of-page g) (now : List Page) → now ≡ c.add_blanks.new.pages.items ++ c.page_of-page.result.0 ∷ [] → HasLookedTo c.args.faces.now c.args.flow.now (g.Fr.Frames.view c.args.frames.now) c.args.lines.now.kept c.args.steps.now c.cut_page.new.steps (after_flow c.args.flow.now.main (here g c) c.in-Ok-cut_page.cut) now
looks g c now is =
    let f : Flow = c.args.flow.now in
    let frames : PageFrames = g.Fr.Frames.view c.args.frames.now in
    let page : Page = flow_page frames f.main (here g c) c.in-Ok-cut_page.cut in
    looked_more c.args.faces.now f frames c.args.lines.now.kept c.loop-turn.lines.kept c.args.steps.now c.loop-turn.steps c.cut_page.new.steps (here g c) (after_flow f.main (here g c) c.in-Ok-cut_page.cut) page c.add_blanks.new.pages.items now c.loop-turn.invariant.keeps (step g c)
    (λ known are.
    let has = c.in-Ok-cut_page.ensures.lines known are in
    (has.0, looked_flow refl c.in-Ok.ensures.meets (subst (λ (x : Frame). IsLookedFlow c.args.faces.now f x c.loop-turn.from c.loop-turn.carried known has.0) (same_page g c).0 has.1), has.2))
    (is ∙ ap (λ (q : Page). c.add_blanks.new.pages.items ++ q ∷ []) (same_page g c).1)
    (looked_added c.args.faces.now f frames c.loop-turn.from.at c.loop-turn.from.kept c.loop-turn.demand c.loop-turn.carried c.loop-turn.invariant.run.0 c.args.lines.now.kept c.args.steps.now c.loop-turn.steps c.loop-turn.index c.in-Ok.to c.name_at_seam-name.result c.loop-turn.pages.items c.add_blanks.new.pages.items (c.name_at_seam-name.ensures (pos 0)) c.in-Ok.ensures.blanks c.loop-turn.invariant.run.2)

-- what is held once a page is made
keeps_on : (g : given.Over) (c : After-page_of-page g) → KeepsHeld c.args.lines.now.kept c.cut_page.new.lines.kept
keeps_on g c = keeps_twice c.args.lines.now.kept c.loop-turn.lines.kept c.cut_page.new.lines.kept c.loop-turn.invariant.keeps c.cut_page.ensures.keeps

takes_on : (g : given.Over) (c : After-page_of-page g) → TakesSteps c.args.lines.now.kept c.cut_page.new.lines.kept c.args.steps.now c.cut_page.new.steps
takes_on g c = takes_twice c.args.lines.now.kept c.loop-turn.lines.kept c.cut_page.new.lines.kept c.args.steps.now c.loop-turn.steps c.cut_page.new.steps c.loop-turn.invariant.keeps c.cut_page.ensures.keeps c.loop-turn.invariant.takes c.in-Ok-cut_page.ensures.takes

held_now : (g : given.Over) (c : After-page_of-page g) (now : List Page) → now ≡ c.add_blanks.new.pages.items ++ c.page_of-page.result.0 ∷ [] → ArePagesHeld c.args.flow.now c.cut_page.new.lines.kept now
held_now g c now is =
    let f : Flow = c.args.flow.now in
    let kept = c.cut_page.new.lines.kept in
    let page : IsPageHeld f c.page_of-page.result.0.frame.width kept c.page_of-page.result.0.solids c.page_of-page.result.0.notes =
    subst (λ (q : Page). IsPageHeld f q.frame.width kept q.solids q.notes) (sym c.page_of-page.ensures.page) c.in-Ok-cut_page.ensures.now in
    pages_more f c.loop-turn.lines.kept kept c.add_blanks.new.pages.items now c.page_of-page.result.0 c.cut_page.ensures.keeps page is
    (pages_added f c.loop-turn.lines.kept (g.Fr.Frames.view c.args.frames.now) c.name_at_seam-name.result c.loop-turn.demand c.loop-turn.index c.in-Ok.to c.loop-turn.pages.items c.add_blanks.new.pages.items c.in-Ok.ensures.blanks c.loop-turn.invariant.held)

pub returns-then-ended-clause-keeps : goal.returns-then-ended-clause-keeps
returns-then-ended-clause-keeps g c = keeps_on g (goal.at.returns-then-ended-clause-keeps g c).After-page_of-page

pub returns-then-ended-clause-takes : goal.returns-then-ended-clause-takes
returns-then-ended-clause-takes g c = takes_on g (goal.at.returns-then-ended-clause-takes g c).After-page_of-page

pub returns-then-ended-clause-held : goal.returns-then-ended-clause-held
returns-then-ended-clause-held g c =
    let now : c.push.new.self.items ≡ c.add_blanks.new.pages.items ++ c.page_of-page.result.0 ∷ [] = grind (arith, common_steps) in
    held_now g (goal.at.returns-then-ended-clause-held g c).After-page_of-page c.push.new.self.items now

pub returns-then-ended-clause-pages : goal.returns-then-ended-clause-pages
returns-then-ended-clause-pages g c =
    let p = (goal.at.returns-then-ended-clause-pages g c).After-page_of-page in
    let cut : Cut = c.in-Ok-cut_page.cut in
    let now : c.push.new.self.items ≡ c.add_blanks.new.pages.items ++ c.page_of-page.result.0 ∷ [] = grind (arith, common_steps) in
    let size : length c.push.new.self.items ≡ length c.add_blanks.new.pages.items + 1 = ap length now ∙ length-append c.add_blanks.new.pages.items (c.page_of-page.result.0 ∷ []) in
    let count = c.in-Ok.ensures.count in
    let most = c.in-Ok.ensures.few in
    let at : cut.to ≡ place_after c.args.flow.now.main None = ended_at c.args.faces.now c.args.flow.now c.frame-frame.result c.loop-turn.from c.loop-turn.carried cut (carried_cut g p) c.if-ended.true in
    let left : c.page_of-page.result.1 ≡ cut.carried = c.page_of-page.ensures.carried in
    record {
      state = after_flow c.args.flow.now.main (here g p) cut;
      leads = more g p c.push.new.self.items now;
      done = c.if-ended.true;
      index = omega arith;
      few = omega arith;
      name = sym (c.name_at_seam-name.ensures (pos 0));
      carried_is = sym left;
      carried = rw left (subst (λ (q : Position). AreCarried c.args.flow.now q cut.carried) at c.in-Ok-cut_page.ensures.carried);
      stands = rw left c.in-Ok-cut_page.ensures.stands;
    }

pub returns-then-ended-clause-tops : goal.returns-then-ended-clause-tops
returns-then-ended-clause-tops g c =
    let now : c.push.new.self.items ≡ c.add_blanks.new.pages.items ++ c.page_of-page.result.0 ∷ [] = grind (arith, common_steps) in
    near g (goal.at.returns-then-ended-clause-tops g c).After-page_of-page c.push.new.self.items now

pub returns-then-ended-clause-looks : goal.returns-then-ended-clause-looks
returns-then-ended-clause-looks g c =
    let p = (goal.at.returns-then-ended-clause-looks g c).After-page_of-page in
    let now : c.push.new.self.items ≡ c.add_blanks.new.pages.items ++ c.page_of-page.result.0 ∷ [] = grind (arith, common_steps) in
    let size : length c.push.new.self.items ≡ length c.add_blanks.new.pages.items + 1 = ap length now ∙ length-append c.add_blanks.new.pages.items (c.page_of-page.result.0 ∷ []) in
    let count = c.in-Ok.ensures.count in
    record {
      state = after_flow c.args.flow.now.main (here g p) c.in-Ok-cut_page.cut;
      ends = record { done = c.if-ended.true; index = omega arith; name = sym (c.name_at_seam-name.ensures (pos 0)); carried = sym c.page_of-page.ensures.carried };
      looks = looks g p c.push.new.self.items now;
    }

pub loop-turn-preserved : goal.loop-turn-preserved
loop-turn-preserved g c =
    let p = (goal.at.loop-turn-preserved g c).After-page_of-page in
    let cut : Cut = c.in-Ok-cut_page.cut in
    let now : c.push.new.self.items ≡ c.add_blanks.new.pages.items ++ c.page_of-page.result.0 ∷ [] = grind (arith, common_steps) in
    let size : length c.push.new.self.items ≡ length c.add_blanks.new.pages.items + 1 = ap length now ∙ length-append c.add_blanks.new.pages.items (c.page_of-page.result.0 ∷ []) in
    let count = c.in-Ok.ensures.count in
    let most = c.in-Ok.ensures.few in
    let old = c.loop-turn.invariant.turns in
    let grows = adds_grow (g.Fr.Frames.view c.args.frames.now) c.name_at_seam-name.result c.loop-turn.demand c.loop-turn.index c.in-Ok.to c.loop-turn.pages.items c.add_blanks.new.pages.items c.in-Ok.ensures.blanks in
    let left : c.page_of-page.result.1 ≡ cut.carried = c.page_of-page.ensures.carried in
    let kept : is_forced cut.forced ≡ c.is_some.result = forced_some cut.forced ∙ sym c.is_some.ensures in
    record {
      holds = c.in-Ok-cut_page.ensures.holds;
      count = omega arith;
      turns = omega arith;
      few = omega arith;
      carries = rw left c.in-Ok-cut_page.ensures.carried;
      stands = rw left c.in-Ok-cut_page.ensures.stands;
      run =
          let next = next_state c.args.flow.now.main (here g p) cut c.is_some.result c.page_of-page.result.1 (c.in-Ok.to + 1) c.if-ended.false kept left (omega arith) in (
            name_at c.args.flow.now.main c.loop-turn.from.at,
            subst (λ (s : State). Leads c.args.faces.now c.args.flow.now (g.Fr.Frames.view c.args.frames.now) s c.push.new.self.items) next (more g p c.push.new.self.items now),
            subst (λ (s : State). HasLookedTo c.args.faces.now c.args.flow.now (g.Fr.Frames.view c.args.frames.now) c.args.lines.now.kept c.args.steps.now c.cut_page.new.steps s c.push.new.self.items) next (looks g p c.push.new.self.items now),
          );
      near = near g p c.push.new.self.items now;
      kept = c.cut_page.ensures.kept;
      keeps = keeps_on g p;
      takes = takes_on g p;
      ahead = c.in-Ok-cut_page.ensures.ahead;
      held = held_now g p c.push.new.self.items now;
    }

pub returns-clause-many : goal.returns-clause-many
returns-clause-many g c = λ e.
    let frames : PageFrames = (g.Fr.Frames.view c.args.frames.now) in
    let last = c.loop-turn-test.false in
    let turns = c.loop-turn.invariant.turns in
    let few = c.loop-turn.invariant.few in
    let run = c.loop-turn.invariant.run in
    let at : State = state_at c.loop-turn.from.at c.loop-turn.from.kept c.loop-turn.index c.loop-turn.demand c.loop-turn.carried run.0 in
    leaves_some c.args.faces.now c.args.flow.now frames at c.loop-turn.pages.items 100000 (not_done at refl) (omega arith) run.1

pub returns-in_default-clause-keeps : goal.returns-in_default-clause-keeps
returns-in_default-clause-keeps g c = keeps_twice c.args.lines.now.kept c.loop-turn.lines.kept c.cut_page.new.lines.kept c.loop-turn.invariant.keeps c.cut_page.ensures.keeps

pub returns-then-is_err-clause-keeps : goal.returns-then-is_err-clause-keeps
returns-then-is_err-clause-keeps g c = keeps_twice c.args.lines.now.kept c.loop-turn.lines.kept c.cut_page.new.lines.kept c.loop-turn.invariant.keeps c.cut_page.ensures.keeps
