use Rattle.std.proofs.Common.{◌≡◌, ◌<◌, ◌≤◌, ◌+◌, ℕ, suc, pos, List, Some, get_or, length, take, slice_get, sym, ap, ◌∙◌, arith, subst}
use Rattle.std.proofs.lemmas.List.{length-take-le}
use Rattle.std.proofs.lemmas.Option.{slice_get-get_or}
use Rattle.boxes.proofs.ListLemmas.{take-get}
use Rattle.seams.specs.declared.open_box.OpenBox.{OpenBox}
use Rattle.seams.specs.Widths.{IsBounded}
use Rattle.seams.proofs.widths.Widths.at.Goals as goal

got : (c : goal.After-result-1) (d : OpenBox) → slice_get (take c.self.inside.count c.self.inside.boxes) c.args.index ≡ Some (get_or c.self.inside.boxes c.args.index d)
got c d =
    let ws : List OpenBox = c.self.inside.boxes in
    let n : ℕ = c.self.inside.count in
    let all : length ws ≡ 2048 = c.self.invariant.0 in
    let few : n ≤ 2048 = c.self.invariant.1 in
    let size : length (take n ws) ≡ n = length-take-le n ws (omega arith) in
    let same : length (take n ws) ≡ length c.args.self.now = ap length c.self.view_is in
    let less : c.args.index < n = (let r = c.requires in omega arith) in
    take-get ws n c.args.index _ less (slice_get-get_or ws c.args.index d (omega arith))

pub returns-clause-value : goal.returns-clause-value
returns-clause-value c = ap (λ (l : List OpenBox). slice_get l c.args.index) (sym c.self.view_is) ∙ got c _

pub returns-clause-bounded : goal.returns-clause-bounded
returns-clause-bounded c =
    let none : OpenBox = record { width = pos 0; head = pos 0; tail = pos 0 } in
    let next : suc c.args.index ≡ c.args.index + 1 = omega arith in
    subst (λ (n : ℕ). IsBounded n (get_or c.self.inside.boxes c.args.index none)) next (c.self.invariant.2 c.args.index _ (got c none))
