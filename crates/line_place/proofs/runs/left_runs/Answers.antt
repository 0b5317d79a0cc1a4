use Rattle.std.proofs.Common.{◌≡◌, ◌∙◌, ◌+ℤ◌, pos, List, rules, subst, to_z, of_z, w64}
use Rattle.std.specs.Prelude.{IfOk}
use Rattle.line_place.specs.declared.place.Run.{Run}
use Rattle.line_fill.specs.LineEnd.{indent_of}
use Rattle.line_place.specs.Placing.{shift_of}
use Rattle.line_place.proofs.LeftLemmas.{runs_set}
use Rattle.line_place.proofs.runs.left_runs.Goals as goal

pub returns-clause-value : goal.returns-clause-value
returns-clause-value c =
    let leaf = c.args.leaf.now in
    let start : c.start_at.result ≡ indent_of leaf c.args.line.from c.args.measure +ℤ pos (shift_of leaf.align 0) = (let e = c.from.ensures in let v = c.start_at.ensures.value in search rules) in
    let kept : to_z w64 (of_z w64 c.start_at.result) ≡ c.start_at.result = (let l = c.start_at.ensures.low in let h = c.start_at.ensures.high in search rules) in
    subst (λ (z : List Run). IfOk c.set_runs.result (λ v. v ≡ z)) (runs_set c.args.faces.now leaf c.args.line c.args.measure c.from-2.result (to_z w64 (of_z w64 c.start_at.result)) c.requires.left c.from-2.ensures (kept ∙ start)) c.set_runs.ensures.value
