use Rattle.std.proofs.Common.{◌≡◌, ◌<◌, ◌≤◌, ◌+◌, ℕ, List, [], ◌∷◌, ◌++◌, length, take, slice_set, sym, ap, ◌∙◌, subst, arith}
use Rattle.std.proofs.lemmas.List.{length-set, length-take-le, take_more_set}
use Rattle.seams.specs.declared.open_box.OpenBox.{OpenBox}
use Rattle.seams.specs.Widths.{AreBounded, IsBounded}
use Rattle.seams.proofs.WidthLemmas.{bounded_more}
use Rattle.seams.proofs.widths.Widths.push.Goals as goal

pub invariant_of-self : goal.invariant_of-self
invariant_of-self c =
    let ws : List OpenBox = c.self.inside.boxes in
    let n : ℕ = c.self.inside.count in
    let all : length ws ≡ 2048 = c.self.invariant.0 in
    let few : n ≤ 2048 = c.self.invariant.1 in
    let size : length (take n ws) ≡ n = length-take-le n ws (omega arith) in
    let same : length (take n ws) ≡ length c.args.self.now = ap length c.self.view_is in
    let room : n < 2048 = omega arith in
    let written : take (n + 1) (slice_set ws n c.args.opened) ≡ take n ws ++ c.args.opened ∷ [] = take_more_set ws n _ (omega arith) in (
      length-set ws n c.args.opened ∙ all,
      omega arith,
      subst AreBounded (sym written) (bounded_more (take n ws) c.args.opened c.self.invariant.2 (subst (λ (k : ℕ). IsBounded (k + 1) c.args.opened) (sym same) c.requires.bounded)),
    )
