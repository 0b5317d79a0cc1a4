use Rattle.std.proofs.Common.{◌≡◌, ◌∙◌, ℕ, List, length, Option, Some, None, ap, ◌+ℤ◌, ◌∷◌, ◌++◌, [], ℤ, Bool, true, false, rules, refl, sym, subst, ◌⊎◌, ◌^◌, inl, inr, not, arith}
use Rattle.std.specs.Int.{int_max}
use Rattle.std.proofs.lemmas.Int.{clamps, ints, to_z-of_z}
use mir.Val.{SFits}
use mir.Syntax.{w64}
use Rattle.notes.specs.declared.reach.Reach.{Reach}
use Rattle.cuts.specs.declared.look.Look.{Look}
use Rattle.bk_num.specs.Numbers.{IsWithin}
use Rattle.cuts.specs.Areas.{AreTold}
use Rattle.cuts.specs.Cuts.{NoteLists}
use Rattle.cuts.specs.declared.row.SolidRow.{SolidRow}
use Rattle.cuts.specs.Prefixes.{IsStacked, look_by}
use Rattle.cuts.specs.Rows.{IsAtTop, top_gap}
use Rattle.cuts.specs.Seen.{seen_by}
use Rattle.cuts.proofs.LookLemmas.{below_more, took_going, took_placed}
use Rattle.cuts.proofs.ReachLemmas.{reached_more}
use Rattle.cuts.proofs.look.Look.take.Goals as goal
use Rattle.cuts.proofs.look.Look.take.Goals.{After-place}

-- the gap above the solid, and where it stands
top_is : (c : After-place) → c.args.self.now.some ≡ false → c.gap_above-gap.result ≡ top_gap c.args.room.now.kept (Some c.args.row.now)
top_is c e = c.gap_above-gap.ensures.top (ap not (c.see.ensures.some ∙ e))

below_is : (c : After-place) → c.args.self.now.some ≡ true → c.gap_above-gap.result ≡ c.args.row.now.seam.whole_gap
below_is c e = c.gap_above-gap.ensures.below (ap not (c.see.ensures.some ∙ e))

bottom_is : (c : After-place) → c.place.new.self.bottom ≡ (c.args.self.now.reach.bottom +ℤ c.gap_above-gap.result) +ℤ c.args.row.now.height
bottom_is c =
    let gap : SFits w64 c.gap_above-gap.result = search rules in
    let tall : SFits w64 c.args.row.now.height = search rules in
    let is : c.place.new.self.bottom ≡ (c.see.new.self.reach.bottom +ℤ c.gap_above-gap.result) +ℤ c.args.row.now.height = simp to_z-of_z at c.place.ensures.bottom in
    is ∙ ap (λ (q : Reach). (q.bottom +ℤ c.gap_above-gap.result) +ℤ c.args.row.now.height) c.see.ensures.reach

extent_is : (c : After-place) → c.place.new.self.extent ≡ int_max c.args.self.now.reach.extent c.place.new.self.bottom
extent_is c = c.place.ensures.extent ∙ ap (λ (q : Reach). int_max q.extent c.place.new.self.bottom) c.see.ensures.reach

abbrev new_of : After-place → Look
new_of c = record { some = true; reach = c.place.new.self; fitted = c.see.new.self.fitted; least = c.see.new.self.least; left = c.see.new.self.left }

pub returns-clause-look : goal.returns-clause-look
returns-clause-look c = λ rows list n told look.
    let d = (goal.at.returns-clause-look c).After-place in
    let kept : Bool = c.args.room.now.kept in
    let height : ℤ = c.args.room.now.height in
    let area : SFits w64 c.args.area = c.ranges.area in
    by d rows list n c.see.new.self.left (c.see.ensures.seen rows list n (λ some inside. subst (λ (z : ℤ). AreTold height list n (length rows) z c.args.room.now.carried) (sym (to_z-of_z w64 c.args.area area)) (told some inside)) look)
  where
    by : (d : After-place) (rows : List SolidRow) (list : NoteLists) (n : ℕ) (o : Option ℕ) → seen_by d.args.room.now.kept d.args.room.now.height list n rows d.args.row.now d.args.self.now d.see.new.self o → look_by d.args.room.now.kept d.args.room.now.height list n (rows ++ d.args.row.now ∷ []) (new_of d) o
    by d rows list n None on = took_going d.args.room.now.kept d.args.room.now.height list n rows d.args.row.now d.args.self.now d.see.new.self (new_of d) d.gap_above-gap.result on refl refl (top_is d) (below_is d) refl (bottom_is d) (extent_is d)
    by d rows list n (Some left) m = m

pub returns-clause-placed : goal.returns-clause-placed
returns-clause-placed c = λ rows placed.
    let d = (goal.at.returns-clause-placed c).After-place in
    took_placed c.args.room.now.kept rows c.args.row.now c.args.self.now (new_of d) c.gap_above-gap.result placed (top_is d) (below_is d) refl (bottom_is d) (extent_is d)

pub returns-clause-short : goal.returns-clause-short
returns-clause-short c = λ rows widest placed few more short. let s = c.see.ensures.short rows widest placed few more short in record { least = s.least; short = s.short }

pub returns-clause-read : goal.returns-clause-read
returns-clause-read c = λ n read.
    let d = (goal.at.returns-clause-read c).After-place in
    let first : IsAtTop c.args.self.now.reach ⊎ IsWithin (2 ^ 32) c.gap_above-gap.result = by c.args.self.now.some c.requires.read.1 (λ e. c.gap_above-gap.ensures.small (ap not c.see.ensures.some ∙ e)) in
    (reached_more n c.args.self.now.reach c.place.new.self c.gap_above-gap.result c.args.row.now.height read.0 c.gap_above-gap.ensures.near first c.requires.small.height c.requires.small.some (bottom_is d) (extent_is d), λ e. absurd (cc))
  where
    by : (b : Bool) → (b ≡ false → IsAtTop c.args.self.now.reach) → (not b ≡ false → IsWithin (2 ^ 32) c.gap_above-gap.result) → IsAtTop c.args.self.now.reach ⊎ IsWithin (2 ^ 32) c.gap_above-gap.result
    by true top small = inr (small refl)
    by false top small = inl (top refl)

pub returns-clause-stacked : goal.returns-clause-stacked
returns-clause-stacked c = λ rows stacked. by (goal.at.returns-clause-stacked c).After-place rows stacked
  where
    by : (d : After-place) (rows : List SolidRow) → IsStacked d.args.room.now.kept d.args.room.now.height rows d.args.self.now → IsStacked d.args.room.now.kept d.args.room.now.height (rows ++ d.args.row.now ∷ []) (new_of d)
    by d rows (inl placed) = inl (took_placed d.args.room.now.kept rows d.args.row.now d.args.self.now (new_of d) d.gap_above-gap.result placed (top_is d) (below_is d) refl (bottom_is d) (extent_is d))
    by d rows (inr below) =
        let over = below.reach in
        let extent = extent_is d in
        inr (record { missed = d.see.ensures.missed below.missed; reach = omega (arith, ints, clamps, over, extent); over = below_more d.args.room.now.kept d.args.room.now.height rows (d.args.row.now ∷ []) below.over })
