use Rattle.std.proofs.Common.{◌≡◌, ◌+◌, ◌∙◌, ℕ, suc, Bool, Some, cond, ap, ap₂, sym, arith}
use Rattle.seams.specs.Runs.{run_end, run_start, solid_after}
use Rattle.paint.proofs.ThroughLemmas.{behind_order}
use Rattle.paint.proofs.again.run_behind.Goals as goal

abbrev two : ℕ → ℕ → ℕ × ℕ
two a b = (a, b)

pub returns-clause-value : goal.returns-clause-value
returns-clause-value c =
    let t = c.args.tree.now in
    let k : ℕ = c.args.solid.now.at.event in
    let next : k + 1 ≡ suc k = omega arith in
    let end : c.run_end.result ≡ run_end t (solid_after t (suc k)) = c.run_end.ensures.end ∙ ap (run_end t) (c.solid_after.ensures.value ∙ ap (solid_after t) next) in
    ap₂ two c.run_start.ensures.start end ∙ sym (ap (λ (v : Bool). cond v (two k k) (two (run_start t (Some k)) (run_end t (solid_after t (suc k))))) (sym c.ends_inside.ensures ∙ c.if-ends_inside.false))

pub returns-then-ends_inside-clause-value : goal.returns-then-ends_inside-clause-value
returns-then-ends_inside-clause-value c =
    let t = c.args.tree.now in
    let k : ℕ = c.args.solid.now.at.event in
    sym (ap (λ (v : Bool). cond v (two k k) (two (run_start t (Some k)) (run_end t (solid_after t (suc k))))) (sym c.ends_inside.ensures ∙ c.if-ends_inside.true))

pub returns-clause-order : goal.returns-clause-order
returns-clause-order c =
    let t = c.args.tree.now in
    let k : ℕ = c.args.solid.now.at.event in
    let next : k + 1 ≡ suc k = omega arith in
    let start = c.run_start.ensures.start in
    let end : c.run_end.result ≡ run_end t (solid_after t (suc k)) = c.run_end.ensures.end ∙ ap (run_end t) (c.solid_after.ensures.value ∙ ap (solid_after t) next) in
    let order = behind_order t k c.requires.within in
    omega arith
