use Rattle.std.proofs.Common.{◌≡◌, ◌+ℤ◌, ◌∙◌, ◌⊎◌, ◌^◌, ℕ, zero, suc, inl, inr, nat_eq, false, arith, rules, refl}
use Rattle.std.proofs.lemmas.Bool.{ne_eqb}
use Rattle.std.proofs.lemmas.Int.{to_z-of_z}
use mir.Val.{SFits}
use mir.Syntax.{w64}
use Rattle.bk_num.specs.Numbers.{IsWithin}
use Rattle.cuts.specs.Rows.{IsAtTop, gap_above}
use Rattle.cuts.proofs.ReachLemmas.{gap_here, reached_more}
use Rattle.cuts.proofs.cut.place_row.Goals as goal

pub returns-clause-bottom : goal.returns-clause-bottom
returns-clause-bottom c =
    let gap : SFits w64 c.gap_above-gap.result = search rules in
    let tall : SFits w64 c.row_at-row.result.now.height = search rules in
    let grows : c.place.new.self.bottom ≡ (c.args.reach.now.bottom +ℤ c.gap_above-gap.result) +ℤ c.row_at-row.result.now.height = simp to_z-of_z at c.place.ensures.bottom in
    let is : c.gap_above-gap.result ≡ gap_above c.args.room.now.kept c.args.rows.now c.args.at = gap_here c.args.room.now.kept c.args.rows.now c.args.at c.row_at-row.result.now c.gap_above-gap.result c.row_at-row.ensures.row c.gap_above-gap.ensures.top c.gap_above-gap.ensures.below in
    grows ∙ rw (is, c.row_at-row.ensures.row) refl

pub returns-clause-reached : goal.returns-clause-reached
returns-clause-reached c =
    let gap : SFits w64 c.gap_above-gap.result = search rules in
    let tall : SFits w64 c.row_at-row.result.now.height = search rules in
    let grows : c.place.new.self.bottom ≡ (c.args.reach.now.bottom +ℤ c.gap_above-gap.result) +ℤ c.row_at-row.result.now.height = simp to_z-of_z at c.place.ensures.bottom in
    let first : IsAtTop c.args.reach.now ⊎ IsWithin (2 ^ 32) c.gap_above-gap.result = by c.args.at c.requires.top c.gap_above-gap.ensures.small in
    reached_more c.args.at c.args.reach.now c.place.new.self c.gap_above-gap.result c.row_at-row.result.now.height c.requires.reached c.gap_above-gap.ensures.near first c.row_at-row.ensures.small.height c.row_at-row.ensures.small.some grows c.place.ensures.extent
  where
    by : (at : ℕ) → (at ≡ 0 → IsAtTop c.args.reach.now) → (nat_eq at 0 ≡ false → IsWithin (2 ^ 32) c.gap_above-gap.result) → IsAtTop c.args.reach.now ⊎ IsWithin (2 ^ 32) c.gap_above-gap.result
    by zero top small = inl (top refl)
    by (suc n) top small = inr (small (ne_eqb (suc n) 0 (λ e. omega arith)))
