use Rattle.std.proofs.Common.{◌≡◌, ◌≤◌, ◌-◌, suc, ℕ, List, length, take, sym, ◌∙◌, arith}
use Rattle.std.proofs.lemmas.List.{length-take-le}
use Rattle.seams.specs.declared.open_box.OpenBox.{OpenBox}
use Rattle.seams.proofs.WidthLemmas.{bounded_less, widths_closed, take_twice}
use Rattle.seams.proofs.widths.Widths.close_box.Goals as goal

pub invariant_of-self : goal.invariant_of-self
invariant_of-self c =
    let few : c.self.inside.count ≤ 2048 = c.self.invariant.1 in
    (c.self.invariant.0, omega arith, bounded_less c.self.inside.boxes (c.self.inside.count - 1) c.self.inside.count (omega arith) c.self.invariant.2)

pub returns-then-self-gt0 : goal.returns-then-self-gt0
returns-then-self-gt0 c = λ t measure boxes same.
    let ws : List OpenBox = c.self.inside.boxes in
    let n : ℕ = c.self.inside.count in
    let all : length ws ≡ 2048 = c.self.invariant.0 in
    let few : n ≤ 2048 = c.self.invariant.1 in
    let some = c.if-self-gt0.true in
    let size : length (take n ws) ≡ n = length-take-le n ws (omega arith) in
    let last : suc (n - 1) ≡ length (take n ws) = omega arith in
    sym (take_twice ws (n - 1) n (omega arith)) ∙ widths_closed t measure (take n ws) boxes (n - 1) (c.self.view_is ∙ same) last
