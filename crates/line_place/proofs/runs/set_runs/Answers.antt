use Rattle.std.proofs.Common.{◌∙◌, ◌++◌, List, ap₂, map, subst, sym}
use Rattle.std.specs.List.{All}
use Rattle.std.specs.Str.{IsCharBoundary}
use Rattle.line_place.specs.declared.pieces.Piece.{Piece}
use Rattle.line_place.specs.declared.place.Run.{Run}
use Rattle.line_place.specs.Placing.{IsNearRun, IsRunIn}
use Rattle.line_place.specs.Sums.{run_of}
use Rattle.line_place.proofs.CharLemmas.{runs_in}
use Rattle.line_place.proofs.runs.set_runs.Goals as goal

pub push_hyphen-requires-clause-inside : goal.push_hyphen-requires-clause-inside
push_hyphen-requires-clause-inside c =
    let faces = c.args.faces.now in
    let leaf = c.args.leaf.now in
    let from = c.args.line.from in
    let known = c.in_ok-pieces.ensures in
    let new = c.in_ok-sums.ensures.runs ∙ ap₂ (λ (old : List Run) (ps : List Piece). old ++ map (run_of faces leaf c.args.free c.from.result c.args.setting) ps) c.new-runs.ensures c.deref.ensures.value in
    subst (All (IsRunIn leaf)) (sym new) (runs_in faces leaf c.args.free c.from.result c.args.setting c.in_ok-pieces.pieces.items known.pieces.inside (known.chars (subst (IsCharBoundary leaf.text) (sym c.from.ensures) c.requires.line.begins) (subst (IsCharBoundary leaf.text) (sym c.to.ensures) c.requires.line.ends)) (subst (All IsNearRun) new c.in_ok-sums.ensures.near))
