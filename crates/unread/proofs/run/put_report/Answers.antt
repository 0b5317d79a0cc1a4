use Rattle.std.proofs.Common.{inl, inr, length}
use Rattle.std.proofs.lemmas.Result.{err_from_is_err_and}
use Rattle.bk_io.specs.Texts.{unmarked}
use Rattle.html_tree.specs.Tree.{tree_of}
use Rattle.metrics.specs.Text.{faces_of}
use Rattle.unread.proofs.CauseLemmas.{faces_first, if_err_map, tree_first}
use Rattle.unread.proofs.run.put_report.Goals as goal

pub returns-in_err-faces-clause-cause : goal.returns-in_err-faces-clause-cause
returns-in_err-faces-clause-cause g c =
    let p = err_from_is_err_and c.from_residual.result c.from_residual.ensures.1 in
    rw (p.1, p.2) (inl (faces_first (faces_of (unmarked c.args.metrics.now)) (tree_of (unmarked c.args.html.now)) (length c.args.files.now) c.in_err-faces.field-0.0 (rw c.without_mark.ensures.value at c.in_err-faces.ensures.cause)))

pub returns-in_err-dom-clause-cause : goal.returns-in_err-dom-clause-cause
returns-in_err-dom-clause-cause g c =
    let p = err_from_is_err_and c.from_residual-in_err-dom.result c.from_residual-in_err-dom.ensures.1 in
    let faces = rw c.without_mark.ensures.value at c.in_ok-faces.ensures.faces in
    rw (p.1, p.2) (inl (rw faces (tree_first (tree_of (unmarked c.args.html.now)) (length c.args.files.now) c.in_err-dom.field-0.0 (rw c.without_mark-2.ensures.value at c.in_err-dom.ensures.cause))))

pub returns-in_err-lines-clause-cause : goal.returns-in_err-lines-clause-cause
returns-in_err-lines-clause-cause g c =
    let p = err_from_is_err_and c.from_residual-in_err-lines.result c.from_residual-in_err-lines.ensures.1 in
    let faces = rw c.without_mark.ensures.value at c.in_ok-faces.ensures.faces in
    let tree = rw c.without_mark-2.ensures.value at c.in_ok-dom.ensures.tree in
    rw (p.1, p.2) (inl (rw (faces, tree) c.in_err-lines.ensures.cause))

pub returns-clause-cause : goal.returns-clause-cause
returns-clause-cause g c = if_err_map c.put_lines.result (λ o h. inr h) c.put_lines.ensures.cause
