-- Steps of the walks add few events, and a document has few steps: so there is always room for a step.
use Rattle.std.proofs.Common.{◌≡◌, ℕ, ◌+◌, ◌*◌, ◌<◌, ◌≤◌, ◌==◌, Bool, true, false, cond, not, List, [], ◌∷◌, ◌++◌, Option, None, Some, length, refl, ap, arith, length-append}
use Rattle.std.specs.List.{sum_by}
use Rattle.std.proofs.lemmas.List.Sums.{sum_by_push}
use Rattle.bk_num.specs.Limits.{most_events}
use Rattle.boxes.specs.declared.place.Event.TheVariants.{Opens}
use Rattle.boxes.specs.Tree.{Tree, takes_leaf}
use Rattle.counters.proofs.StepCounts.{steps-few}
use Rattle.dom.specs.Nodes.{IsTree}
use Rattle.dom.specs.Walk.{node_of, steps_of}
use Rattle.dom.specs.declared.walk.Step.{Step}
use Rattle.dom.specs.declared.walk.Step.TheVariants.{Enter, Leave}
use Rattle.style.specs.Nodes.{NodeStyles}
use Rattle.style.specs.declared.style.Style.{Style}
use Rattle.box_gen.specs.declared.builder.FlowBuilder.{FlowBuilder}
use Rattle.box_gen.specs.declared.notes.Walker.{Walker}
use Rattle.box_gen.specs.Bodies.{Walks, after_both, body_at, is_end, note_ended, noted, notes_after, outside, walks, walks_start}
use Rattle.box_gen.specs.Flow.{Built, last_items, with_run}
use Rattle.box_gen.specs.Gather.{Gathered, adds}
use Rattle.box_gen.specs.Sites.{HasRoom}
use Rattle.box_gen.specs.Trees.{Source, in_note, Role, text, hidden, inline, block, note, role_of}
use Rattle.box_gen.specs.Walk.{Walk, after_step, enter_by, enter_node, innermost, leave_by, leave_node, walk}
use Rattle.box_gen.specs.Walkers.{AreSoundWalks, IsBody, all_events, body_events, body_in, walks_in}
use Rattle.box_gen.proofs.NoteSums.{sites-sum}
use Rattle.box_gen.proofs.RoomLemmas.{events-run, shut-more}

abbrev events_in : Walk → ℕ
events_in w = length w.gathered.built.tree.events

-- a block of a style ends
ended-few : (src : Source) (s : Style) (g : Gathered) (t : Tree) → t ≡ (with_run src s (not (takes_leaf g.built.tree.events)) g.built g.run).tree → length t.events ≤ length g.built.tree.events + 3
ended-few src s g t e =
    let run = events-run src s (not (takes_leaf g.built.tree.events)) g.built g.run in
    let same = ap (λ (t : Tree). length t.events) e in
    omega (arith, run, same)

-- a step adds four events at most
pub step-few : (src : Source) (w : Walk) (s : Step) → length (after_step src w s).gathered.built.tree.events ≤ length w.gathered.built.tree.events + 4
step-few src w (Enter n) = by w.unshown
  where
    enters : (r : Role) → events_in (enter_node src n.0 r w) ≤ events_in w + 4
    enters hidden = omega arith
    enters (text t) = omega arith
    enters (inline u) = omega arith
    enters (note u) = omega arith
    enters (block u) =
        let b : Built = with_run src (innermost w.blocks) true w.gathered.built w.gathered.run in
        let run = events-run src (innermost w.blocks) true w.gathered.built w.gathered.run in
        let opens = length-append b.tree.events (Opens (length b.tree.boxes) ∷ []) in
        omega (arith, run, opens)

    by : (o : Option ℕ) → events_in (enter_by src n.0 o w) ≤ events_in w + 4
    by None = enters (role_of src n.0)
    by (Some h) = omega arith
step-few src w (Leave n) = by w.unshown
  where
    leaves : (r : Role) → events_in (leave_node src n.0 r w) ≤ events_in w + 4
    leaves hidden = omega arith
    leaves (text t) = omega arith
    leaves (inline u) = omega arith
    leaves (note u) = omega arith
    leaves (block u) =
        let g : Gathered = adds (last_items src n.0) w.gathered in
        let t : Tree = (with_run src u (not (takes_leaf g.built.tree.events)) g.built g.run).tree in
        let run = ended-few src u g t refl in
        let end = shut-more t in
        omega (arith, run, end)

    out : (b : Bool) → events_in (cond b (walk w.gathered w.blocks None) w) ≤ events_in w + 4
    out true = omega arith
    out false = omega arith

    by : (o : Option ℕ) → events_in (leave_by src n.0 o w) ≤ events_in w + 4
    by None = leaves (role_of src n.0)
    by (Some h) = out (h == n.0)

note-few : (src : Source) (n : ℕ) (b : Walk) → length (note_ended src n b).tree.events ≤ length b.gathered.built.tree.events + 4
note-few src n b =
    let u : Style = innermost b.blocks in
    let g : Gathered = adds (last_items src n) b.gathered in
    let t : Tree = (with_run src u (not (takes_leaf g.built.tree.events)) g.built g.run).tree in
    let run = ended-few src u g t refl in
    let end = shut-more t in
    omega (arith, run, end)

begun-few : (src : Source) (over : Option ℕ) (s : Step) → body_events (outside src over s) ≤ 1
begun-few src None (Enter n) = by (role_of src n.0)
  where
    by : (r : Role) → body_events (body_at src n.0 r) ≤ 1
    by hidden = omega arith
    by (text t) = omega arith
    by (inline u) = omega arith
    by (block u) = omega arith
    by (note u) = omega arith
begun-few src (Some h) (Enter n) = omega arith
begun-few src None (Leave n) = omega arith
begun-few src (Some h) (Leave n) = omega arith

-- a step of both walks adds eight events at most
pub both-few : (src : Source) (v : Walks) (s : Step) → all_events (after_both src v s) ≤ all_events v + 8
both-few src v s = by v.notes.body
  where
    main : length (after_step src v.main s).gathered.built.tree.events ≤ length v.main.gathered.built.tree.events + 4
    main = step-few src v.main s

    inside : (b : Walk) (e : Bool) → all_events (walks (after_step src v.main s) (cond e (noted None (v.notes.bodies ++ note_ended (in_note src) (node_of s) b ∷ [])) (noted (Some (after_step (in_note src) b s)) v.notes.bodies))) ≤ ((length v.main.gathered.built.tree.events + length b.gathered.built.tree.events) + sum_by (λ (x : Built). length x.tree.events) v.notes.bodies) + 8
    inside b true =
        let p = sum_by_push (λ (x : Built). length x.tree.events) v.notes.bodies (note_ended (in_note src) (node_of s) b) in
        let m = note-few (in_note src) (node_of s) b in
        let k = main in
        omega (arith, p, m, k)
    inside b false = let m = step-few (in_note src) b s in let k = main in omega (arith, m, k)

    by : (o : Option Walk) → all_events (walks (after_step src v.main s) (notes_after src v.main.unshown o v.notes.bodies s)) ≤ ((length v.main.gathered.built.tree.events + body_events o) + sum_by (λ (x : Built). length x.tree.events) v.notes.bodies) + 8
    by None = let m = begun-few src v.main.unshown s in let k = main in omega (arith, m, k)
    by (Some b) = inside b (is_end v.main.unshown s)

-- ---- room

-- eight events for each step that is left
pub start-few : (src : Source) → IsTree src.nodes → all_events walks_start + 8 * length (steps_of src.nodes) ≤ 6400000
start-few src t = let s = steps-few src.nodes t in let n = t.few in omega (arith, s, n)

pub goes-few : (src : Source) (v : Walks) (s : Step) (before rest : List Step) → before ≡ s ∷ rest → all_events v + 8 * length before ≤ 6400000 → all_events (after_both src v s) + 8 * length rest ≤ 6400000
goes-few src v s before rest e l = let m = both-few src v s in let n = ap (λ (x : List Step). length x) e in omega (arith, l, m, n)

pub left-few : (v : Walks) (rest : List Step) → all_events v + 8 * length rest ≤ 6400000 → all_events v + 10 < most_events
left-few v rest l = omega (arith, l)

pub main-room : (styles : List NodeStyles) (w : Walker) → AreSoundWalks w → all_events (walks_in styles w) + 10 < most_events → HasRoom w.main.site
main-room styles w s l =
    let sum = s.shared.events in
    let a = sites-sum (λ (t : Tree). length t.events) w.bodies.items in
    record { few = omega (arith, l); left = omega (arith, l, sum, a) }

pub body-room : (styles : List NodeStyles) (w : Walker) (b : FlowBuilder) → w.body ≡ Some b → IsBody w.main b → AreSoundWalks w → all_events (walks_in styles w) + 10 < most_events → HasRoom b.site
body-room styles w b e is s l =
    let sum = s.shared.events in
    let a = sites-sum (λ (t : Tree). length t.events) w.bodies.items in
    let k = ap (λ (o : Option FlowBuilder). body_events (body_in styles o)) e in
    let room = is.events in
    record { few = omega (arith, l, k); left = omega (arith, l, sum, a, k, room) }
