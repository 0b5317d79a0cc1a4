-- A line that is aligned left: its slack isn't read.
use Rattle.std.proofs.Common.{◌≡◌, ◌∙◌, ℕ, ◌-◌, ◌++◌, ℤ, pos, ◌+ℤ◌, false, List, map, refl, sym, ap, ap₂, arith}
use Rattle.bk_num.specs.declared.values.Align.{Align}
use Rattle.bk_num.specs.declared.values.Align.TheVariants as align
use Rattle.metrics.specs.Face.{FontFace}
use Rattle.boxes.specs.Lines.{LineView}
use Rattle.boxes.specs.declared.leaf.Leaf.{Leaf}
use Rattle.line_fill.specs.LineEnd.{indent_of}
use Rattle.line_place.specs.declared.place.Setting.{Setting}
use Rattle.line_place.specs.Placing.{free_end, has_shares, hyphens_of, runs_of, setting_of, shift_of, slack_of}
use Rattle.line_place.specs.Runs.{is_free, line_pieces}
use Rattle.line_place.specs.Sums.{run_of}

no_shares : (leaf : Leaf) (to slack : ℕ) → leaf.align ≡ align.Left → has_shares leaf to slack ≡ false
unfolding has_shares
no_shares leaf to slack left = rw left refl

no_free : (leaf : Leaf) (line : LineView) (slack : ℕ) → leaf.align ≡ align.Left → free_end leaf line slack ≡ line.from
unfolding free_end
no_free leaf line slack left = rw (no_shares leaf line.to slack left) refl

no_shift : (leaf : Leaf) (slack : ℕ) → leaf.align ≡ align.Left → shift_of leaf.align slack ≡ shift_of leaf.align 0
no_shift leaf slack left = ap (λ (a : Align). shift_of a slack) left ∙ sym (ap (λ (a : Align). shift_of a 0) left)

-- how a line is set whose spaces share nothing
abbrev left_setting : Leaf → LineView → ℤ → ℕ → Setting
left_setting leaf line measure slack = record { start = indent_of leaf line.from measure +ℤ pos (shift_of leaf.align 0); slack = slack; count = 0 }

setting_left : (leaf : Leaf) (line : LineView) (measure : ℤ) (slack : ℕ) → leaf.align ≡ align.Left → setting_of leaf line measure slack ≡ left_setting leaf line measure slack
unfolding setting_of
setting_left leaf line measure slack left =
    let e : line.from - line.from ≡ 0 = omega arith in
    rw (no_free leaf line slack left, e, no_shift leaf slack left) refl

-- the runs are those of a line without slack
runs_left : (faces : List FontFace) (leaf : Leaf) (line : LineView) (measure : ℤ) → leaf.align ≡ align.Left → runs_of faces leaf line measure ≡
    map (run_of faces leaf line.from line.from (left_setting leaf line measure 0)) (line_pieces (is_free leaf.text line.from) line.from line.to 0 leaf.spans)
    ++ hyphens_of faces leaf line line.from (left_setting leaf line measure 0)
runs_left faces leaf line measure left = rw (no_free leaf line (slack_of faces leaf line measure) left, setting_left leaf line measure (slack_of faces leaf line measure) left) refl

-- how a line without slack is set
abbrev set_at : ℤ → Setting
set_at start = record { start = start; slack = 0; count = 0 }

-- the same, where the end of the spaces that share and the line's beginning are known by equations
pub runs_set : (faces : List FontFace) (leaf : Leaf) (line : LineView) (measure : ℤ) (free : ℕ) (start : ℤ) → leaf.align ≡ align.Left → free ≡ line.from → start ≡ indent_of leaf line.from measure +ℤ pos (shift_of leaf.align 0) →
    map (run_of faces leaf free line.from (record { start = start; slack = 0; count = 0 })) (line_pieces (is_free leaf.text free) line.from line.to 0 leaf.spans)
    ++ hyphens_of faces leaf line free (record { start = start; slack = 0; count = 0 }) ≡ runs_of faces leaf line measure
runs_set faces leaf line measure free start left is_from is_start =
    ap₂ (λ (f : ℕ) (s : ℤ). map (run_of faces leaf f line.from (set_at s)) (line_pieces (is_free leaf.text f) line.from line.to 0 leaf.spans) ++ hyphens_of faces leaf line f (set_at s)) is_from is_start
    ∙ sym (runs_left faces leaf line measure left)
