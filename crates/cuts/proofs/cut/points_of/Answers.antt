use Rattle.std.proofs.Common.{rules, ◌≡◌, ◌+◌, ◌≤◌, ℕ, suc, Bool, ℤ, ◌≤ℤ◌, ◌<ℤ◌, ◌+ℤ◌, true, false, List, Option, option_map, ap, refl, sym, ◌∙◌, subst, arith, add-one}
use Rattle.std.proofs.lemmas.Int.{ints, to_z-of_z}
use mir.Val.{SFits}
use mir.Syntax.{w64}
use Rattle.bk_num.specs.Limits.{most_entries}
use Rattle.seams.specs.Levels.{number_of}
use Rattle.cuts.specs.declared.row.SolidRow.{SolidRow}
use Rattle.cuts.specs.Rows.{ReachesWithin, limit_of, lines_after, rows_bottom, rows_extent, rows_reach, level_after, tail_after}
use Rattle.cuts.specs.Areas.{FitsTold, LooseTold, area_after, seen_with}
use Rattle.cuts.proofs.ReachLemmas.{reached_low, small_tails}
use Rattle.cuts.proofs.CutLemmas.{AreSeen, seen_start, seen_next, seen_past, choose, no_points, none_seen}
use Rattle.cuts.proofs.PointLemmas.{limit_within}
use Rattle.cuts.proofs.cut.points_of.Goals as goal
use Rattle.cuts.proofs.cut.points_of.Goals.{After-area_at, After-are_all}

-- what each path knows once the solid is placed
record Placed (c : After-area_at) : Type 0 where
  bottom : c.place_row.new.reach.bottom ≡ rows_bottom c.args.room.now.kept c.args.rows.now (suc c.loop-at.at)
  extent : c.place_row.new.reach.extent ≡ rows_extent c.args.room.now.kept c.args.rows.now (suc c.loop-at.at)
  reached : ReachesWithin (c.loop-at.at + 1) c.place_row.new.reach

placed : (c : After-area_at) → Placed c
placed c =
    let now : c.place_row.new.reach.bottom ≡ rows_bottom c.args.room.now.kept c.args.rows.now (suc c.loop-at.at) = c.place_row.ensures.bottom ∙ rw c.loop-at.invariant.bottom refl in
    record {
      bottom = now;
      extent = c.place_row.ensures.extent ∙ rw (c.loop-at.invariant.extent, now) refl;
      reached = c.place_row.ensures.reached;
    }

far : (c : After-area_at) → ReachesWithin most_entries c.place_row.new.reach
far c =
    let in_rows = c.loop-at-test.true in
    let few = c.requires.rows.few in
    reached_low (c.loop-at.at + 1) most_entries c.place_row.new.reach (omega arith) (placed c).reached

pub place_row-requires-clause-top : goal.place_row-requires-clause-top
place_row-requires-clause-top c z = record {
  bottom = c.loop-at.invariant.bottom ∙ ap (rows_bottom c.args.room.now.kept c.args.rows.now) z;
  extent = c.loop-at.invariant.extent ∙ ap (rows_extent c.args.room.now.kept c.args.rows.now) z;
}

pub fits_above-fits-requires-clause-reached : goal.fits_above-fits-requires-clause-reached
fits_above-fits-requires-clause-reached c = far (goal.at.fits_above-fits-requires-clause-reached c).After-area_at

pub fits_above-loose-requires-clause-reached : goal.fits_above-loose-requires-clause-reached
fits_above-loose-requires-clause-reached c = far (goal.at.fits_above-loose-requires-clause-reached c).After-area_at

pub loop-at-init : goal.loop-at-init
loop-at-init c = record {
  bottom = refl;
  extent = refl;
  reached = record { low = omega (arith, ints); high = omega (arith, ints); least = omega (arith, ints); most = omega (arith, ints) };
  low = omega arith;
  before = refl;
  before_low = omega arith;
  after = c.lines_on-after.ensures;
  seen = seen_start c.args.rows.now (FitsTold c.args.room.now.kept c.args.rows.now c.args.room.now.height c.args.areas.now) (LooseTold c.args.room.now.kept c.args.rows.now c.args.room.now.height c.args.room.now.carried) no_points none_seen refl refl;
}

-- what is known of the points once that after the solid is seen
seen_now : (c : After-are_all) → c.place_row.new.reach.extent ≡ rows_extent c.args.room.now.kept c.args.rows.now (suc c.loop-at.at) → suc c.loop-at.at ≤ limit_of c.args.rows.now →
    AreSeen c.args.rows.now (FitsTold c.args.room.now.kept c.args.rows.now c.args.room.now.height c.args.areas.now) (LooseTold c.args.room.now.kept c.args.rows.now c.args.room.now.height c.args.room.now.carried) (suc c.loop-at.at) c.see.new.self
seen_now c extent low =
    let rows : List SolidRow = c.args.rows.now in
    let height : ℤ = c.args.room.now.height in
    let fits : ℕ → Type 0 = FitsTold c.args.room.now.kept rows height c.args.areas.now in
    let loose : ℕ → Type 0 = LooseTold c.args.room.now.kept rows height c.args.room.now.carried in
    let next : ℕ = suc c.loop-at.at in
    let area_fits : SFits w64 c.area_at.result = search rules in
    let height_fits : SFits w64 height = search rules in
    let own_fits : SFits w64 c.args.room.now.carried = search rules in
    let tail_fits : SFits w64 c.tail_at-tail.result = search rules in
    let tail : c.tail_at-tail.result ≡ tail_after rows next = rw add-one at c.tail_at-tail.ensures.tail in
    let far : ℤ = c.place_row.new.reach.extent +ℤ c.tail_at-tail.result in
    let reach : far ≡ rows_reach c.args.room.now.kept rows next = ap (λ (z : ℤ). z +ℤ c.tail_at-tail.result) extent ∙ ap (λ (z : ℤ). rows_extent c.args.room.now.kept rows next +ℤ z) tail in
    let sum : ℤ → ℤ → Type 0 = λ x y. (x +ℤ y) ≤ℤ height in
    let area : c.area_at.result ≡ area_after c.args.areas.now next = c.area_at.ensures.area in
    let fit : c.fits_above-fits.result ≡ true → sum far c.area_at.result = simp to_z-of_z at c.fits_above-fits.ensures.fits in
    let miss : c.fits_above-fits.result ≡ false → ¬ (sum far c.area_at.result) = simp to_z-of_z at c.fits_above-fits.ensures.misses in
    let own_fit : c.fits_above-loose.result ≡ true → sum far c.args.room.now.carried = simp to_z-of_z at c.fits_above-loose.ensures.fits in
    let own_miss : c.fits_above-loose.result ≡ false → ¬ (sum far c.args.room.now.carried) = simp to_z-of_z at c.fits_above-loose.ensures.misses in
    let is : option_map number_of c.dropped_after-dropped.result ≡ level_after rows next = rw add-one at c.dropped_after-dropped.ensures in
    let now : c.see.new.self ≡ seen_with c.loop-at.points (level_after rows next) next c.fits_above-fits.result c.fits_above-loose.result = rw add-one at (c.see.ensures ∙ ap (λ (o : Option ℕ). seen_with c.loop-at.points o (c.loop-at.at + 1) c.fits_above-fits.result c.fits_above-loose.result) is) in
    subst (AreSeen rows fits loose next) (sym now)
    (seen_next rows fits loose c.loop-at.at c.loop-at.points c.fits_above-fits.result c.fits_above-loose.result c.loop-at.invariant.seen low
    (λ e. subst (λ (x : ℤ). sum x (area_after c.args.areas.now next)) reach (subst (sum far) area (fit e)))
    (λ e f. miss e (subst (sum far) (sym area) (subst (λ (x : ℤ). sum x (area_after c.args.areas.now next)) (sym reach) f)))
    (λ e. subst (λ (x : ℤ). sum x c.args.room.now.carried) reach (own_fit e))
    (λ e f. own_miss e (subst (λ (x : ℤ). sum x c.args.room.now.carried) (sym reach) f)))

pub lines_on-after-requires-in-loop-at-clause-after : goal.lines_on-after-requires-in-loop-at-clause-after
lines_on-after-requires-in-loop-at-clause-after c = λ k e. c.loop-at.invariant.after ∙ ap (lines_after c.args.rows.now) (let n : c.loop-at.at ≡ k = omega (arith, e) in n)

pub loop-at-preserved : goal.loop-at-preserved
loop-at-preserved c =
    let p = placed (goal.at.loop-at-preserved c).After-area_at in
    record {
      bottom = rw add-one p.bottom;
      extent = rw add-one p.extent;
      reached = p.reached;
      low = let b = c.is_limit.ensures.before c.if-is_limit.false in omega (arith, b);
      before = c.lines_up_to-before.ensures.lines;
      before_low = c.lines_up_to-before.ensures.small;
      after = c.lines_on-after-in-loop-at.ensures;
      seen = rw add-one (seen_now (goal.at.loop-at-preserved c).After-are_all p.extent (let b = c.is_limit.ensures.before c.if-is_limit.false in omega (arith, b)));
    }

-- no more of the points is told
pub returns-then-is_limit : goal.returns-then-is_limit
returns-then-is_limit c =
    let end = c.is_limit.ensures.limit c.if-is_limit.true in
    choose c.args.rows.now (FitsTold c.args.room.now.kept c.args.rows.now c.args.room.now.height c.args.areas.now) (LooseTold c.args.room.now.kept c.args.rows.now c.args.room.now.height c.args.room.now.carried) c.loop-at.at c.loop-at.points c.loop-at.invariant.seen (omega (arith, end)) c.requires.rows.some c.requires.rows.between

pub returns-then-are_all : goal.returns-then-are_all
returns-then-are_all c =
    let d = (goal.at.returns-then-are_all c).After-are_all in
    let kept : Bool = c.args.room.now.kept in
    let rows : List SolidRow = c.args.rows.now in
    let height : ℤ = c.args.room.now.height in
    let all = c.are_all.ensures c.if-are_all.true in
    let low = c.is_limit.ensures.before c.if-is_limit.false in
    let tall : SFits w64 height = search rules in
    let extent = (placed (goal.at.returns-then-are_all c).After-area_at).extent in
    let over : height <ℤ rows_extent kept rows (suc c.loop-at.at) = subst (λ (z : ℤ). height <ℤ z) extent (subst (λ (z : ℤ). z <ℤ c.place_row.new.reach.extent) (to_z-of_z w64 height tall) all.1) in
    choose rows (FitsTold kept rows height c.args.areas.now) (LooseTold kept rows height c.args.room.now.carried) (limit_of rows) _
    (seen_past kept rows height c.args.areas.now c.args.room.now.carried (suc c.loop-at.at) _ (small_tails rows c.requires.rows.small) c.requires.areas c.requires.carried.low over all.0 (omega (arith, low)) (seen_now d extent (omega (arith, low)))) (omega arith) c.requires.rows.some c.requires.rows.between

pub returns : goal.returns
returns c =
    let all = limit_within c.args.rows.now in
    let over = c.loop-at-test.false in
    choose c.args.rows.now (FitsTold c.args.room.now.kept c.args.rows.now c.args.room.now.height c.args.areas.now) (LooseTold c.args.room.now.kept c.args.rows.now c.args.room.now.height c.args.room.now.carried) c.loop-at.at c.loop-at.points c.loop-at.invariant.seen (omega (arith, all, over)) c.requires.rows.some c.requires.rows.between
