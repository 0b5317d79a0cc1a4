use Rattle.std.proofs.Common.{◌≡◌, ◌≤◌, ◌+◌, ◌*◌, ◌∙◌, None, List, length, [], ap, sym, subst, arith}
use Rattle.dom.specs.Walk.{steps_of}
use Rattle.dom.specs.declared.walk.Step.{Step}
use Rattle.box_gen.specs.Bodies.{Walks, after_all, after_both, all_walked, noted, walks_start}
use Rattle.box_gen.specs.Flow.{bodies_of, nothing}
use Rattle.box_gen.specs.Gather.{make}
use Rattle.box_gen.specs.Sources.{source_in}
use Rattle.box_gen.specs.Walk.{Walk, walk}
use Rattle.box_gen.specs.Walkers.{all_bytes, all_events, walks_in}
use Rattle.box_gen.proofs.BodyLemmas.{all-can}
use Rattle.box_gen.proofs.BuildLemmas.{all-bytes, all-is}
use Rattle.box_gen.proofs.EventSums.{goes-few, left-few, start-few}
use Rattle.box_gen.proofs.RoomLemmas.{more-all}
use Rattle.box_gen.proofs.SoundLemmas.{built-is, can-all}
use Rattle.box_gen.proofs.notes.walk_through.Goals as goal
use Rattle.box_gen.proofs.Walkable.{CanAll, CanWalk}

pub loop-step-init : goal.loop-step-init
loop-step-init c =
    let src = source_in c.args.input.now in
    let styles = c.args.input.now.texts.now.styles.now in
    let steps : c.new-steps.result.steps ≡ steps_of c.args.input.now.texts.now.dom.now = c.new-steps.ensures.steps in
    let start : walks_in styles c.new_walker-walker.result ≡ walks_start = c.new_walker-walker.ensures.walks styles in
    record {
      nodes = c.new-steps.ensures.nodes;
      can = subst (λ (w : Walk). CanWalk src w c.new-steps.result.steps) (sym (ap (λ (v : Walks). v.main) start)) (subst (CanWalk src (walk (make nothing []) [] None)) (sym steps) (can-all src c.requires.input.ranges c.len.ensures.tree));
      notes = subst (λ (v : Walks). CanAll src (noted None (bodies_of src)) v c.new-steps.result.steps) (sym start) (subst (CanAll src (noted None (bodies_of src)) walks_start) (sym steps) (all-can src c.len.ensures.tree));
      goes = ap (λ (v : Walks). after_all src v c.new-steps.result.steps) start ∙ ap (after_all src walks_start) steps;
      few = subst (λ (v : Walks). all_events v + 8 * length c.new-steps.result.steps ≤ 6400000) (sym start) (subst (λ (l : List Step). all_events walks_start + 8 * length l ≤ 6400000) (sym steps) (start-few src c.len.ensures.tree));
      sound = c.new_walker-walker.ensures.sound;
    }

pub loop-step-preserved : goal.loop-step-preserved
loop-step-preserved c =
    let src = source_in c.args.input.now in
    let old : Walks = walks_in c.args.input.now.texts.now.styles.now c.loop-step.walker in
    let new : Walks = walks_in c.args.input.now.texts.now.styles.now c.pass_all.new.walker in
    let rest : List Step = c.next.new.self.steps in
    let is : new ≡ after_both src old c.in-Some.step = c.in-Ok.ensures.walks in
    record {
      nodes = c.in-Some.ensures.nodes ∙ c.loop-step.invariant.nodes;
      can = subst (λ (w : Walk). CanWalk src w rest) (sym (ap (λ (v : Walks). v.main) is)) (subst (CanWalk src old.main) c.in-Some.ensures.some c.loop-step.invariant.can).1;
      notes = subst (λ (v : Walks). CanAll src (noted None (bodies_of src)) v rest) (sym is) (subst (CanAll src (noted None (bodies_of src)) old) c.in-Some.ensures.some c.loop-step.invariant.notes).1;
      goes = ap (λ (v : Walks). after_all src v rest) is ∙ sym (ap (after_all src old) c.in-Some.ensures.some) ∙ c.loop-step.invariant.goes;
      few = subst (λ (v : Walks). all_events v + 8 * length rest ≤ 6400000) (sym is) (goes-few src old c.in-Some.step c.loop-step.steps.steps rest c.in-Some.ensures.some c.loop-step.invariant.few);
      sound = c.in-Ok.ensures.sound;
    }

pub pass_all-requires-clause-room : goal.pass_all-requires-clause-room
pass_all-requires-clause-room c = left-few (walks_in c.args.input.now.texts.now.styles.now c.loop-step.walker) c.loop-step.steps.steps c.loop-step.invariant.few

pub returns-in-Err-clause-cause : goal.returns-in-Err-clause-cause
returns-in-Err-clause-cause c = λ e.
    let src = source_in c.args.input.now in
    let old : Walks = walks_in c.args.input.now.texts.now.styles.now c.loop-step.walker in
    let v : Walks = after_both src old c.in-Some.step in
    let rest : List Step = c.next.new.self.steps in
    let goes : after_all src v rest ≡ all_walked src = sym (ap (after_all src old) c.in-Some.ensures.some) ∙ c.loop-step.invariant.goes in
    let long = c.in-Err.ensures.cause e in
    let more = more-all src v rest in
    let all = ap (λ (x : Walks). all_bytes x) goes in
    let is = all-bytes src c.requires.input.ranges c.len.ensures.tree in
    omega (arith, long, more, all, is)

pub returns-clause-main : goal.returns-clause-main
returns-clause-main c =
    let src = source_in c.args.input.now in
    let old : Walks = walks_in c.args.input.now.texts.now.styles.now c.loop-step.walker in
    let end : old ≡ all_walked src = sym (ap (after_all src old) c.in_default.ensures.none.0) ∙ c.loop-step.invariant.goes in
    built-is src c.requires.input.ranges c.len.ensures.tree ∙ sym (ap (λ (v : Walks). v.main.gathered.built) (end ∙ all-is src c.len.ensures.tree))

pub returns-clause-bodies : goal.returns-clause-bodies
returns-clause-bodies c =
    let src = source_in c.args.input.now in
    let old : Walks = walks_in c.args.input.now.texts.now.styles.now c.loop-step.walker in
    let end : old ≡ all_walked src = sym (ap (after_all src old) c.in_default.ensures.none.0) ∙ c.loop-step.invariant.goes in
    ap (λ (v : Walks). v.notes.bodies) (end ∙ all-is src c.len.ensures.tree)
