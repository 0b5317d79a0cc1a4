use Rattle.std.proofs.Common.{◌≡◌, ◌∙◌, ◌-◌, ℕ, List, Some, length, slice_get, sym, ap, subst}
use Rattle.std.proofs.lemmas.Option.{get_or_from_slice_get, slice_get_within}
use Rattle.bk_num.proofs.ListLemmas.{all-from}
use Rattle.boxes.specs.Clones.{open_through}
use Rattle.boxes.specs.Tree.{Tree, open_before}
use Rattle.boxes.specs.declared.page.Placed.{Placed}
use Rattle.seams.specs.Runs.{events_in}
use Rattle.paint.specs.Bounds.{IsNearPart}
use Rattle.paint.specs.Clones.{last_solid, parted_behind, run_behind}
use Rattle.paint.specs.Order.{StandsIn}
use Rattle.paint.specs.Parts.{AreOpenSomewhere, IsInnermost}
use Rattle.paint.specs.declared.parts.Fragment.{Fragment}
use Rattle.paint.proofs.PageLemmas.{reached_near}
use Rattle.paint.proofs.ThroughLemmas.{behind_open, last_get, through_open}
use Rattle.paint.proofs.again.close_again.Goals as goal

-- the boxes that the page's end parts, by the run behind its last solid
parted : (t : Tree) (solids : List Placed) (s : Placed) (run : ℕ × ℕ) → slice_get solids (length solids - 1) ≡ Some s → run ≡ run_behind t s → open_through t run.0 (events_in t run.0 run.1) ≡ parted_behind t (last_solid solids)
parted t solids s run last is = ap (λ (r : ℕ × ℕ). open_through t r.0 (events_in t r.0 r.1)) is ∙ sym (ap (parted_behind t) (last_get solids s last))

pub through-inner-requires-clause-inner : goal.through-inner-requires-clause-inner
through-inner-requires-clause-inner c =
    let t : Tree = c.args.tree.now in
    let s : Placed = c.in-Some.last.now in
    let last : slice_get c.args.solids.now (length c.args.solids.now - 1) ≡ Some s = sym c.in-Some.ensures.value in
    let at : ℕ = length c.args.solids.now - 1 in
    let stands : StandsIn t s = subst (StandsIn t) (get_or_from_slice_get c.args.solids.now at s s last) (c.requires.stand at s (slice_get_within c.args.solids.now at s last)) in
    let event = c.requires.behind s (last_get c.args.solids.now s last) in
    let from : open_before t.events c.args.reached.event ≡ open_before t.events c.run_behind-from.result.0 =
    behind_open t s c.args.reached.event stands.event event ∙ ap (λ (r : ℕ × ℕ). open_before t.events r.0) (sym c.run_behind-from.ensures.value) in
    subst (λ (l : List Fragment). IsInnermost l (open_before t.events c.run_behind-from.result.0) c.args.reached.inner) (sym c.deref.ensures.value) (subst (λ (bs : List ℕ). IsInnermost c.args.parts.now.items bs c.args.reached.inner) from c.requires.inner)

pub close_all-requires-clause-inner : goal.close_all-requires-clause-inner
close_all-requires-clause-inner c =
    let t : Tree = c.args.tree.now in
    let s : Placed = c.in-Some.last.now in
    let is = parted t c.args.solids.now s c.run_behind-from.result (sym c.in-Some.ensures.value) c.run_behind-from.ensures.value in
    subst (λ (bs : List ℕ). IsInnermost c.args.parts.now.items bs c.through-inner.result) is (subst (λ (l : List Fragment). IsInnermost l (open_through t c.run_behind-from.result.0 (events_in t c.run_behind-from.result.0 c.run_behind-from.result.1)) c.through-inner.result) c.deref.ensures.value c.through-inner.ensures)

pub close_all-requires-clause-opened : goal.close_all-requires-clause-opened
close_all-requires-clause-opened c =
    let t : Tree = c.args.tree.now in
    let s : Placed = c.in-Some.last.now in
    let is = parted t c.args.solids.now s c.run_behind-from.result (sym c.in-Some.ensures.value) c.run_behind-from.ensures.value in
    subst (AreOpenSomewhere t) is (through_open t c.count-count.ensures.tree c.run_behind-from.result.0 c.run_behind-from.result.1 c.run_behind-from.ensures.order c.run_behind-from.ensures.within)

pub returns-in_default-clause-near : goal.returns-in_default-clause-near
returns-in_default-clause-near c = all-from IsNearPart c.args.parts.now.items (reached_near c.args.tree.now c.count-count.ensures.tree c.args.origin.now.width c.args.solids.now c.args.parts.now.items c.requires.depth c.requires.near c.requires.reached)
