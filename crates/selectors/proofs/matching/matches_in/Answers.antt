use Rattle.std.proofs.Common.{◌≡◌, ◌&&◌, ◌||◌, ◌-◌, ℕ, suc, true, false, arith, ◌∙◌, ap, sym, refl, subst, length, inl, inr}
use Rattle.std.proofs.lemmas.Bool.{true≢false, or_right}
use Rattle.selectors.specs.Sets.{has}
use Rattle.selectors.specs.Match.{Tree, joins_by, Matches}
use Rattle.selectors.specs.Selectors.{SelectorView}
use Rattle.selectors.specs.declared.types.Join.{Join}
use Rattle.selectors.specs.declared.types.Join.TheVariants.{Child, Inside, Next, Later}
use Rattle.selectors.proofs.Pending.{Pending, Wanted, by_joins, nothing, looks, looked, hit, to_prev, from_prev, ends_at_root, to_parent, from_parent, starts, started}
use Rattle.selectors.proofs.SetLemmas.{has_none}
use Rattle.selectors.proofs.matching.matches_in.Goals.{After-wanted_prev}
use Rattle.selectors.proofs.matching.matches_in.Goals as goal

no_joins : (j : Join) (k : ℕ) → by_joins (has 0) (has 0) nothing (has 0) j k ≡ false
no_joins Child k = has_none k
no_joins Inside k = has_none k
no_joins Next k = refl
no_joins Later k = has_none k

pub path-init : goal.path-init
path-init c =
    let last : c.count.result - 1 ≡ length c.args.selector.now.joins = omega arith in
    let is : has c.with-here.result (length c.args.selector.now.joins) ≡ true = subst (λ k. has c.with-here.result k ≡ true) last c.with-here.ensures.same in
    record {
      within = c.requires;
      sound = started c.args.document.now c.args.selector.now (has c.with-here.result) (by_joins (has 0) (has 0) nothing (has 0)) (length c.args.selector.now.joins) c.args.node.0 (λ k other. c.with-here.ensures.other k (λ e. other (e ∙ last)) ∙ has_none k) no_joins;
      complete = starts c.args.document.now c.args.selector.now (has c.with-here.result) (by_joins (has 0) (has 0) nothing (has 0)) (length c.args.selector.now.joins) c.args.node.0 is;
    }

pub returns-then-has : goal.returns-then-has
returns-then-has c =
    ((λ _. c.path.invariant.sound (hit c.args.document.now c.args.selector.now (has c.path.here) (by_joins (has c.path.child) (has c.path.inside) nothing (has c.path.later)) (has c.fitting-found.result) c.path.at.0 c.fitting-found.ensures (sym c.has.ensures ∙ c.if-has.true))), (λ _. refl))

grows : (p : After-wanted_prev) (j : Join) (k : ℕ) → by_joins (has p.union-child.result) (has p.union-inside.result) (has p.before-in-path-4.result) (has p.union-later.result) j k ≡ (by_joins (has p.path.child) (has p.path.inside) nothing (has p.path.later) j k || (joins_by p.args.selector.now j k && has p.fitting-found.result (suc k)))
grows p Child k = p.union-child.ensures k ∙ ap (λ b. has p.path.child k || b) (p.before-in-path.ensures k)
grows p Inside k = p.union-inside.ensures k ∙ ap (λ b. has p.path.inside k || b) (p.before-in-path-2.ensures k)
grows p Later k = p.union-later.ensures k ∙ ap (λ b. has p.path.later k || b) (p.before-in-path-3.ensures k)
grows p Next k = p.before-in-path-4.ensures k

abbrev After : After-wanted_prev → Type 0
After p = Wanted p.args.document.now p.args.selector.now (by_joins (has p.union-child.result) (has p.union-inside.result) (has p.before-in-path-4.result) (has p.union-later.result)) p.path.at.0

to_after : (p : After-wanted_prev) → Matches p.args.document.now p.args.selector.now p.args.node.0 → After p
to_after p m = looks p.args.document.now p.args.selector.now (has p.path.here) (by_joins (has p.path.child) (has p.path.inside) nothing (has p.path.later)) (has p.fitting-found.result) (by_joins (has p.union-child.result) (has p.union-inside.result) (has p.before-in-path-4.result) (has p.union-later.result)) p.path.at.0 p.fitting-found.ensures (grows p) (sym p.has.ensures ∙ p.if-has.false) (p.path.invariant.complete m)

from_after : (p : After-wanted_prev) → After p → Matches p.args.document.now p.args.selector.now p.args.node.0
from_after p w = p.path.invariant.sound (looked p.args.document.now p.args.selector.now (has p.path.here) (by_joins (has p.path.child) (has p.path.inside) nothing (has p.path.later)) (has p.fitting-found.result) (by_joins (has p.union-child.result) (has p.union-inside.result) (has p.before-in-path-4.result) (has p.union-later.result)) p.path.at.0 p.fitting-found.ensures (grows p) w)

pub path-preserved-in-Some : goal.path-preserved-in-Some
path-preserved-in-Some c =
    let p : After-wanted_prev = (goal.at.path-preserved-in-Some c).After-wanted_prev in
    record {
      within = omega (arith, c.in-Some.ensures.below, c.path.invariant.within);
      sound = λ h. from_after p (from_prev c.args.document.now c.args.selector.now (has c.union-child.result) (has c.union-inside.result) (has c.before-in-path-4.result) (has c.union-later.result) (has c.union-here.result) c.path.at.0 c.in-Some.prev.0 c.in-Some.ensures.some c.in-Some.ensures.row c.union-here.ensures h);
      complete = λ m. to_prev c.args.document.now c.args.selector.now (has c.union-child.result) (has c.union-inside.result) (has c.before-in-path-4.result) (has c.union-later.result) (has c.union-here.result) c.path.at.0 c.in-Some.prev.0 c.in-Some.ensures.some c.in-Some.ensures.row c.union-here.ensures (to_after p m);
    }

pub returns-in-None : goal.returns-in-None
returns-in-None c =
    let p : After-wanted_prev = (goal.at.returns-in-None c).After-wanted_prev in
    ((λ e. absurd (true≢false (sym e))), (λ m. absurd (ends_at_root c.args.document.now c.args.selector.now (has c.union-child.result) (has c.union-inside.result) (has c.before-in-path-4.result) (has c.union-later.result) c.path.at.0 (λ k w. c.in_default.ensures.none k (c.union-here.ensures k ∙ w)) (sym c.in-None.ensures.value) (to_after p m))))

-- nothing is wanted at a node or behind it
empty : (dom : Tree) (s : SelectorView) (set child inside : ℕ) (x : ℕ) → set ≡ 0 → ((k : ℕ) → has set k ≡ (has child k || has inside k)) → Pending dom s (has set) (by_joins (has 0) (has inside) nothing (has 0)) x → ⊥
empty dom s set child inside x e joined (inl h) = absurd (true≢false (sym h.1 ∙ subst (λ z. has z h.0 ≡ false) (sym e) (has_none h.0)))
empty dom s set child inside x e joined (inr (Child, k, m, w, q, r)) = absurd (true≢false (sym w ∙ has_none k))
empty dom s set child inside x e joined (inr (Inside, k, m, w, q, r)) = absurd (true≢false (sym (joined k ∙ or_right (has child k) (has inside k) w) ∙ subst (λ z. has z k ≡ false) (sym e) (has_none k)))
empty dom s set child inside x e joined (inr (Next, k, m, w, q, r)) = absurd (true≢false (sym w))
empty dom s set child inside x e joined (inr (Later, k, m, w, q, r)) = absurd (true≢false (sym w ∙ has_none k))

pub returns-then-here-eq0 : goal.returns-then-here-eq0
returns-then-here-eq0 c =
    let p : After-wanted_prev = (goal.at.returns-then-here-eq0 c).After-wanted_prev in (
      (λ e. absurd (true≢false (sym e))),
      (λ m. absurd (empty c.args.document.now c.args.selector.now c.union-here-in-path.result c.union-child.result c.union-inside.result c.in-Some-parent_of.parent.0 (omega (arith, c.if-here-eq0.true)) c.union-here-in-path.ensures
          (to_parent c.args.document.now c.args.selector.now (has c.union-child.result) (has c.union-inside.result) (has c.before-in-path-4.result) (has c.union-later.result) c.path.at.0 (λ k w. c.in_default.ensures.none k (c.union-here.ensures k ∙ w)) (has c.union-here-in-path.result) (has 0) (has 0) c.in-Some-parent_of.parent.0 (sym c.in-Some-parent_of.ensures.value) c.union-here-in-path.ensures has_none has_none (to_after p m)))),
    )

pub path-preserved : goal.path-preserved
path-preserved c =
    let p : After-wanted_prev = (goal.at.path-preserved c).After-wanted_prev in
    record {
      within = omega (arith, c.in-Some-parent_of.ensures.below, c.path.invariant.within);
      sound = λ h. from_after p (from_parent c.args.document.now c.args.selector.now (has c.union-child.result) (has c.union-inside.result) (has c.before-in-path-4.result) (has c.union-later.result) c.path.at.0 (λ k w. c.in_default.ensures.none k (c.union-here.ensures k ∙ w)) (has c.union-here-in-path.result) (has 0) (has 0) c.in-Some-parent_of.parent.0 (sym c.in-Some-parent_of.ensures.value) c.union-here-in-path.ensures has_none has_none h);
      complete = λ m. to_parent c.args.document.now c.args.selector.now (has c.union-child.result) (has c.union-inside.result) (has c.before-in-path-4.result) (has c.union-later.result) c.path.at.0 (λ k w. c.in_default.ensures.none k (c.union-here.ensures k ∙ w)) (has c.union-here-in-path.result) (has 0) (has 0) c.in-Some-parent_of.parent.0 (sym c.in-Some-parent_of.ensures.value) c.union-here-in-path.ensures has_none has_none (to_after p m);
    }
