use Rattle.std.proofs.Common.{◌≡◌, ◌+ℤ◌, ◌∙◌, ℤ, Bool, Option, None, Some, cond, ap, ap₂, sym, subst, arith, to_z, of_z}
use Rattle.std.proofs.lemmas.Int.{ints}
use mir.Syntax.{w64}
use Rattle.bk_num.specs.Limits.{most_open}
use Rattle.bk_num.specs.declared.sides.BoxSide.TheVariants as side
use Rattle.boxes.specs.Spans.{frame_at}
use Rattle.paint.specs.Bounds.{IsNearBottom}
use Rattle.paint.specs.Clones.{lower_again, lowest}
use Rattle.paint.specs.declared.extent.VerticalExtent.{VerticalExtent}
use Rattle.paint.proofs.BoundLemmas.{foot_near, lowest_near}
use Rattle.paint.proofs.again.foot_of.Goals as goal

abbrev edge : ℤ → ℤ → Option VerticalExtent
edge top bottom = Some (record { top = top; bottom = bottom })

pub overflow_add-result : goal.overflow_add-result
overflow_add-result c =
    let near : IsNearBottom most_open c.lowest-top.result = subst (IsNearBottom most_open) (sym c.lowest-top.ensures) (lowest_near most_open c.args.inner c.in-Some.extent c.requires.inner (c.requires.reach c.in-Some.extent c.in-Some.is)) in
    omega (arith, ints, near)

pub returns-then-props-clause-value : goal.returns-then-props-clause-value
returns-then-props-clause-value c =
    let p = c.args.props.now in
    let e : VerticalExtent = c.in-Some.extent in
    let top : ℤ = c.lowest-top.result in
    let near : IsNearBottom most_open top = subst (IsNearBottom most_open) (sym c.lowest-top.ensures) (lowest_near most_open c.args.inner e c.requires.inner (c.requires.reach e c.in-Some.is)) in
    let width = c.args.part.now.around.width in
    let low = c.requires.wide.low in
    let high = c.requires.wide.high in
    let wide : to_z w64 (of_z w64 width) ≡ width = omega (arith, ints, low, high) in
    let height : c.frame_units.result ≡ frame_at p side.Bottom width = c.frame_units.ensures.value ∙ ap (frame_at p side.Bottom) wide in
    let top_exact : to_z w64 (of_z w64 top) ≡ top = omega (arith, ints, near) in
    let exact : to_z w64 (of_z w64 (to_z w64 (of_z w64 top) +ℤ to_z w64 (of_z w64 c.frame_units.result))) ≡ top +ℤ c.frame_units.result = omega (arith, ints, near) in
    ap₂ edge top_exact exact ∙ ap₂ (λ (x y : ℤ). edge x (x +ℤ y)) c.lowest-top.ensures height
    ∙ sym (ap (lower_again (Some p) width c.args.inner) c.in-Some.is ∙ ap (λ (v : Bool). cond v (edge (lowest c.args.inner e) (lowest c.args.inner e +ℤ frame_at p side.Bottom width)) None) c.if-props.true)

pub returns-then-props-clause-near : goal.returns-then-props-clause-near
returns-then-props-clause-near c = λ n inner x is.
    let e : VerticalExtent = c.in-Some.extent in
    let top : ℤ = c.lowest-top.result in
    let reach = c.requires.reach e c.in-Some.is in
    let most : IsNearBottom most_open top = subst (IsNearBottom most_open) (sym c.lowest-top.ensures) (lowest_near most_open c.args.inner e c.requires.inner reach) in
    let near : IsNearBottom n top = subst (IsNearBottom n) (sym c.lowest-top.ensures) (lowest_near n c.args.inner e inner reach) in
    let top_exact : to_z w64 (of_z w64 top) ≡ top = omega (arith, ints, most) in
    let exact : to_z w64 (of_z w64 (to_z w64 (of_z w64 top) +ℤ to_z w64 (of_z w64 c.frame_units.result))) ≡ top +ℤ c.frame_units.result = omega (arith, ints, most) in
    foot_near n top c.frame_units.result x near c.frame_units.ensures.low c.frame_units.ensures.high (sym (ap₂ edge top_exact exact) ∙ is)

pub returns-clause-value : goal.returns-clause-value
returns-clause-value c = sym (ap (lower_again (Some c.args.props.now) c.args.part.now.around.width c.args.inner) c.in-Some.is ∙ ap (λ (v : Bool). cond v (edge (lowest c.args.inner c.in-Some.extent) (lowest c.args.inner c.in-Some.extent +ℤ frame_at c.args.props.now side.Bottom c.args.part.now.around.width)) None) c.if-props.false)
