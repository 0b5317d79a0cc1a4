use Rattle.std.proofs.Common.{◌≡◌, ◌<◌, ◌∙◌, ◌∷◌, ◌++◌, [], ℕ, ℤ, pos, ◌+ℤ◌, List, Some, drop, length, map, slice_get, refl, sym, ap, subst, arith, rules, to_z, of_z}
use Rattle.std.specs.Int.{int_max}
use Rattle.std.proofs.lemmas.Int.{ints, clamps, to_z-of_z}
use Rattle.std.proofs.lemmas.Option.{slice_get_read}
use Rattle.bk_num.proofs.ListLemmas.{drop-next}
use mir.Val.{SFits}
use mir.Syntax.{w64}
use Rattle.boxes.specs.declared.page.Placed.{Placed}
use Rattle.cursor.specs.declared.solid.Solid.{Solid}
use Rattle.cursor.specs.Fields.{solid_view}
use Rattle.cursor.specs.Remainder.{SolidView, IsSmallSolid}
use Rattle.page_list.specs.Cuts.{first_gap, placed_at}
use Rattle.fragment.specs.Solids.{foot_from}
use Rattle.fragment.proofs.SolidLemmas.{view_at}
use Rattle.fragment.proofs.TopLemmas.{foot_push, place_begun, place_more, low_more, high_more}
use Rattle.fragment.proofs.tops.place_all.Goals as goal

pub loop-at-preserved : goal.loop-at-preserved
loop-at-preserved c =
    let solids : List Solid = c.args.solids.now in
    let views : List SolidView = map solid_view solids in
    let at : ℕ = c.loop-at.at in
    let s : Solid = c.index-solids-at.result in
    let less : at < length solids = omega arith in
    let few = c.requires.few in
    let there : slice_get solids at ≡ Some s = slice_get_read solids (length solids) at s refl less c.index-solids-at.is in
    let small : IsSmallSolid (solid_view s) = subst (λ (x : Solid). IsSmallSolid (solid_view x)) (sym c.index-solids-at.is) (c.requires.small at c.index-solids-at.result less) in
    let whole = small.whole in
    let tall = small.height in
    let some = small.some in
    let bottom : ℤ = c.loop-at.reach.bottom in
    let items : List Placed = c.loop-at.items.items in
    let near = c.gap_above-gap.ensures.small refl in
    let fits : SFits w64 c.gap_above-gap.result = search rules in
    let gap : to_z w64 (of_z w64 c.gap_above-gap.result) ≡ s.seam.whole_gap = to_z-of_z w64 c.gap_above-gap.result fits ∙ c.gap_above-gap.ensures.below refl in
    let under : c.push_below-in-loop-at.new.reach.bottom ≡ (bottom +ℤ s.seam.whole_gap) +ℤ s.height = c.push_below-in-loop-at.ensures.bottom ∙ ap (λ (z : ℤ). (bottom +ℤ z) +ℤ s.height) gap in
    let pushed : c.push_below-in-loop-at.new.items.items ≡ items ++ placed_at (bottom +ℤ s.seam.whole_gap) (solid_view s) ∷ [] = c.in_ok-push_below-2.ensures.placed ∙ ap (λ (z : ℤ). items ++ placed_at (bottom +ℤ z) (solid_view s) ∷ []) gap in
    let extent = c.push_below-in-loop-at.ensures.extent in
    let low = c.loop-at.invariant.low in
    let high = c.loop-at.invariant.high in
    let least = c.loop-at.invariant.least in
    let most = c.loop-at.invariant.most in
    record {
      placed = place_more _ bottom _ views (solid_view s) at _ _ (view_at solids at s there) c.loop-at.invariant.placed under pushed;
      foot = extent ∙ sym (ap (foot_from (pos 0)) pushed ∙ foot_push (pos 0) items (placed_at (bottom +ℤ s.seam.whole_gap) (solid_view s)) ∙ ap (λ (e : ℤ). int_max e ((bottom +ℤ s.seam.whole_gap) +ℤ s.height)) (sym c.loop-at.invariant.foot) ∙ ap (int_max c.loop-at.reach.extent) (sym under));
      low = low_more bottom _ at low (omega (arith, ints));
      high = high_more bottom _ at high (omega (arith, ints));
      least = omega (arith, ints, clamps);
      most = omega (arith, ints, clamps);
    }

pub loop-at-init : goal.loop-at-init
loop-at-init c =
    let solids : List Solid = c.args.solids.now in
    let views : List SolidView = map solid_view solids in
    let s : Solid = c.index-solids-0.result in
    let some : 0 < length solids = c.requires.some in
    let there : slice_get solids 0 ≡ Some s = slice_get_read solids (length solids) 0 s refl some c.index-solids-0.is in
    let small : IsSmallSolid (solid_view s) = subst (λ (x : Solid). IsSmallSolid (solid_view x)) (sym c.index-solids-0.is) (c.requires.small 0 c.index-solids-0.result some) in
    let kept = small.kept in
    let head = small.head in
    let tall = small.height in
    let tall_some = small.some in
    let fits : SFits w64 c.gap_above-first.result = search rules in
    let near = c.gap_above-first.ensures.near in
    let rest : views ≡ solid_view s ∷ drop 1 views = drop-next views 0 (solid_view s) (view_at solids 0 s there) in
    let gap : to_z w64 (of_z w64 c.gap_above-first.result) ≡ first_gap c.args.kept views = to_z-of_z w64 c.gap_above-first.result fits ∙ c.gap_above-first.ensures.top refl ∙ ap (first_gap c.args.kept) (sym rest) in
    let none : pos 0 +ℤ to_z w64 (of_z w64 c.gap_above-first.result) ≡ to_z w64 (of_z w64 c.gap_above-first.result) = omega (arith, ints) in
    let under : c.push_below.new.reach.bottom ≡ first_gap c.args.kept views +ℤ s.height = c.push_below.ensures.bottom ∙ ap (λ (z : ℤ). z +ℤ s.height) (none ∙ gap) in
    let pushed : c.push_below.new.items.items ≡ c.in_ok-items.items.items ++ placed_at (first_gap c.args.kept views) (solid_view s) ∷ [] = c.in_ok-push_below.ensures.placed ∙ ap (λ (z : ℤ). c.in_ok-items.items.items ++ placed_at z (solid_view s) ∷ []) (none ∙ gap) in
    let one : c.push_below.new.items.items ≡ placed_at (first_gap c.args.kept views) (solid_view s) ∷ [] = pushed ∙ ap (λ (ps : List Placed). ps ++ placed_at (first_gap c.args.kept views) (solid_view s) ∷ []) c.in_ok-items.ensures.items in
    let bottom = c.push_below.ensures.bottom in
    let extent = c.push_below.ensures.extent in
    record {
      placed = place_begun _ _ views (solid_view s) c.in_ok-items.items.items _ (view_at solids 0 s there) c.in_ok-items.ensures.items under pushed;
      foot = extent ∙ sym (ap (foot_from (pos 0)) one ∙ ap (int_max (pos 0)) (sym under));
      low = omega (arith, ints);
      high = omega (arith, ints);
      least = omega (arith, ints, clamps);
      most = omega (arith, ints, clamps);
    }
