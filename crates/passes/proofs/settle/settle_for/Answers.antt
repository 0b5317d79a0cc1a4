use Rattle.std.proofs.Common.{rules, ◌≡◌, ℕ, suc, ◌+◌, ◌-◌, ◌<◌, List, false, length, get_or, pos, refl, sym, subst, arith}
use Rattle.std.proofs.lemmas.Result.{err_from_is_err_and}
use Rattle.gen_text.specs.declared.table.Entry.{Entry}
use Rattle.boxes.specs.Frames.{PageFrames}
use Rattle.passes.specs.Looked.{LookIn}
use Rattle.passes.specs.Settles.{work_of}
use Rattle.passes.proofs.LookedLemmas.{have_looked, known_next, look_next, look_start, looked_last, looked_none}
use Rattle.passes.proofs.PassLemmas.{low, low_after, low_node, pass_differs, pass_goes_on, pass_settles, pass_stops}
use Rattle.passes.proofs.TargetLemmas.{targets_ascend}
use Rattle.passes.proofs.settle.settle_for.Goals as goal

pub opening-requires : goal.opening-requires
opening-requires g c = targets_ascend c.args.input.now.dom.now c.args.input.now.styles.now c.args.targets.now c.args.targets.now c.requires.targets refl

pub pass_under-requires-clause-targets : goal.pass_under-requires-clause-targets
pass_under-requires-clause-targets g c = targets_ascend c.args.input.now.dom.now c.args.input.now.styles.now c.args.targets.now c.args.targets.now c.requires.targets refl

pub returns-in_err-pass-clause-settles : goal.returns-in_err-pass-clause-settles
returns-in_err-pass-clause-settles g c =
    let input = c.args.input.now in
    let frames : PageFrames = (g.Fr.Frames.view c.args.frames.now) in
    let p = err_from_is_err_and c.from_residual-in_err-pass.result c.from_residual-in_err-pass.ensures.1 in
    rw (p.1, p.2) (pass_stops input frames (g.Fr.Frames.per c.args.frames.now) c.args.limit c.passes.passes c.args.targets.now c.args.targets.now c.passes.table c.requires.targets refl c.passes.invariant.0 c.in_err-pass.field-0.0 c.in_err-pass.ensures.stops)

pub returns-in_default-clause-settles : goal.returns-in_default-clause-settles
returns-in_default-clause-settles g c =
    let input = c.args.input.now in
    let frames : PageFrames = (g.Fr.Frames.view c.args.frames.now) in
    pass_settles input frames (g.Fr.Frames.per c.args.frames.now) c.args.limit c.passes.passes c.args.targets.now c.args.targets.now c.passes.table c.requires.targets refl c.passes.invariant.0
    c.in_ok-pass.pass c.in_ok-pass.ensures.pass (search rules)

pub bounds-as_slice-place : goal.bounds-as_slice-place
bounds-as_slice-place g c =
    let input = c.args.input.now in
    let frames : PageFrames = (g.Fr.Frames.view c.args.frames.now) in
    subst (λ (xs : List Entry). c.in-Some.place < length xs) (sym c.as_slice.ensures.entries)
    (low input frames (g.Fr.Frames.per c.args.frames.now) c.args.limit c.passes.passes c.args.targets.now c.args.targets.now c.passes.table c.requires.targets refl c.passes.invariant.0
    c.in_ok-pass.pass c.in_ok-pass.ensures.pass c.in-Some.place c.in-Some.ensures.place c.in-Some.ensures.within)

pub bounds-as_slice-place-then-passes-limit : goal.bounds-as_slice-place-then-passes-limit
bounds-as_slice-place-then-passes-limit g c =
    let input = c.args.input.now in
    let frames : PageFrames = (g.Fr.Frames.view c.args.frames.now) in
    subst (λ (xs : List Entry). c.in-Some.place < length xs) (sym c.as_slice-then-passes-limit.ensures.entries)
    (low_after input frames (g.Fr.Frames.per c.args.frames.now) c.args.limit c.passes.passes c.args.targets.now c.args.targets.now c.passes.table c.requires.targets refl c.passes.invariant.0
    c.in_ok-pass.pass c.in_ok-pass.ensures.pass c.in-Some.place c.in-Some.ensures.place c.in-Some.ensures.within)

pub not_settled-requires : goal.not_settled-requires
not_settled-requires g c =
    let input = c.args.input.now in
    let frames : PageFrames = (g.Fr.Frames.view c.args.frames.now) in
    subst (λ (xs : List Entry). (get_or xs c.in-Some.place (record { node = record { 0 = 0 }; number = pos 0 })).node.0 < length input.dom.now) (sym c.as_slice.ensures.entries)
    (low_node input frames (g.Fr.Frames.per c.args.frames.now) c.args.limit c.passes.passes c.args.targets.now c.args.targets.now c.passes.table c.requires.targets refl c.passes.invariant.0
    c.in_ok-pass.pass c.in_ok-pass.ensures.pass c.in-Some.place c.in-Some.ensures.place c.in-Some.ensures.within (record { node = record { 0 = 0 }; number = pos 0 }))

pub returns-then-passes-limit-clause-settles : goal.returns-then-passes-limit-clause-settles
returns-then-passes-limit-clause-settles g c =
    let input = c.args.input.now in
    let frames : PageFrames = (g.Fr.Frames.view c.args.frames.now) in
    pass_differs input frames (g.Fr.Frames.per c.args.frames.now) c.args.limit c.passes.passes c.args.targets.now c.args.targets.now c.passes.table c.requires.targets refl c.passes.invariant.0
    c.in_ok-pass.pass c.in_ok-pass.ensures.pass c.in-Some.place c.in-Some.ensures.place c.in-Some.ensures.within (record { node = record { 0 = 0 }; number = pos 0 })
    c.not_settled.result (search rules) (rw (sym c.as_slice.ensures.entries, sym c.as_slice-then-passes-limit.ensures.entries) c.not_settled.ensures)

pub passes-preserved : goal.passes-preserved
passes-preserved g c =
    let input = c.args.input.now in
    let frames : PageFrames = (g.Fr.Frames.view c.args.frames.now) in (
      rw c.shown_of-table.ensures (pass_goes_on input frames (g.Fr.Frames.per c.args.frames.now) c.args.limit c.passes.passes c.args.targets.now c.args.targets.now c.passes.table c.requires.targets refl c.passes.invariant.0
          c.in_ok-pass.pass c.in_ok-pass.ensures.pass c.in-Some.place c.in-Some.ensures.place c.in-Some.ensures.within (search rules)),
      c.turn.ensures.kept c.args.input.now.faces.now c.in_ok-pass.ensures.kept,
      λ placed are.
          let w = work_of input frames (g.Fr.Frames.per c.args.frames.now) c.args.targets.now in
          let n : suc (c.passes.passes - 1) ≡ c.passes.passes + 1 - 1 = (let some = c.passes.invariant.0.0 in omega (arith, some)) in
          let (lines, look, few) = look_next input frames (g.Fr.Frames.per c.args.frames.now) c.args.targets.now c.passes.table c.in_ok-pass.pass.shown c.in_ok-pass.pass.flow c.in_ok-pass.pass.pages.pages c.in_ok-pass.ensures.pass c.passes.lines.kept c.args.steps.now c.passes.steps c.pass_under.new.steps (c.passes.passes - 1) c.passes.invariant.2 c.in_ok-pass.ensures.lines placed are in (
            placed c.in_ok-pass.pass.flow c.in_ok-pass.pass.pages.pages,
            lines,
            rw c.shown_of-table.ensures (subst (λ (k : ℕ). LookIn w placed k c.in_ok-pass.pass.shown (placed c.in_ok-pass.pass.flow c.in_ok-pass.pass.pages.pages) lines) n look),
            known_next placed are c.in_ok-pass.pass.flow c.in_ok-pass.pass.pages.pages c.pass_under.new.lines.kept c.turn.new.self.kept c.in_ok-pass.ensures.held c.turn.ensures.turned,
            few,
          ),
    )

pub pass_under-requires-clause-kept : goal.pass_under-requires-clause-kept
pass_under-requires-clause-kept g c = c.passes.invariant.1

-- ---- how many lines are looked at
pub passes-init : goal.passes-init
passes-init g c =
    let input = c.args.input.now in
    let frames : PageFrames = (g.Fr.Frames.view c.args.frames.now) in (
      (omega arith, (let low = c.requires.limit in omega (arith, low)), c.in_ok-table.ensures),
      c.new-lines.ensures.kept c.args.input.now.faces.now,
      λ placed are. (λ a. false, 0, look_start (work_of input frames (g.Fr.Frames.per c.args.frames.now) c.args.targets.now) placed c.in_ok-table.table c.in_ok-table.ensures, (λ a e. absurd (cc)), omega arith),
    )

pub returns-in_err-pass-clause-lines : goal.returns-in_err-pass-clause-lines
returns-in_err-pass-clause-lines g c =
    let input = c.args.input.now in
    let frames : PageFrames = (g.Fr.Frames.view c.args.frames.now) in
    let p = err_from_is_err_and c.from_residual-in_err-pass.result c.from_residual-in_err-pass.ensures.1 in
    rw (p.1, p.2) (looked_none input frames (g.Fr.Frames.per c.args.frames.now) c.args.limit (work_of input frames (g.Fr.Frames.per c.args.frames.now) c.args.targets.now) c.passes.table c.in_err-pass.field-0.0 c.args.steps.now c.pass_under.new.steps c.in_err-pass.ensures.stops)

pub returns-in_default-clause-lines : goal.returns-in_default-clause-lines
returns-in_default-clause-lines g c =
    let input = c.args.input.now in
    let frames : PageFrames = (g.Fr.Frames.view c.args.frames.now) in
    have_looked input frames (g.Fr.Frames.per c.args.frames.now) c.args.targets.now c.passes.table c.in_ok-pass.pass.shown c.in_ok-pass.pass.flow c.in_ok-pass.pass.pages.pages c.in_ok-pass.ensures.pass c.passes.lines.kept c.args.steps.now c.passes.steps c.pass_under.new.steps (c.passes.passes - 1) c.passes.invariant.2 c.in_ok-pass.ensures.lines
    c.requires.targets c.passes.passes (let some = c.passes.invariant.0.0 in omega (arith, some))

pub returns-then-passes-limit-clause-lines : goal.returns-then-passes-limit-clause-lines
returns-then-passes-limit-clause-lines g c =
    let input = c.args.input.now in
    let frames : PageFrames = (g.Fr.Frames.view c.args.frames.now) in
    looked_last input frames (g.Fr.Frames.per c.args.frames.now) c.args.limit c.not_settled.result c.args.steps.now c.pass_under.new.steps
    (have_looked input frames (g.Fr.Frames.per c.args.frames.now) c.args.targets.now c.passes.table c.in_ok-pass.pass.shown c.in_ok-pass.pass.flow c.in_ok-pass.pass.pages.pages c.in_ok-pass.ensures.pass c.passes.lines.kept c.args.steps.now c.passes.steps c.pass_under.new.steps (c.passes.passes - 1) c.passes.invariant.2 c.in_ok-pass.ensures.lines
    c.requires.targets c.args.limit (let some = c.passes.invariant.0.0 in let last : c.passes.passes ≡ c.args.limit = search rules in omega (arith, some, last)))
