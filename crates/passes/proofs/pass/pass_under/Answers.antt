use Rattle.std.proofs.Common.{◌∙◌, ℕ, List, ap, subst, sym}
use Rattle.boxes.specs.declared.page.Page.{Page}
use Rattle.page_seq.specs.Folds.{fold_of}
use Rattle.refs.specs.Tables.{table_of}
use Rattle.boxes.specs.Frames.{IsPerPage}
use Rattle.std.proofs.lemmas.Result.{err_from_is_err_and}
use Rattle.passes.specs.Settles.{work_of}
use Rattle.passes.proofs.PassLemmas.{pages_few, pages_stop}
use Rattle.passes.proofs.pass.pass_under.Goals as goal

pub returns-in_err-flow-clause-stops : goal.returns-in_err-flow-clause-stops
returns-in_err-flow-clause-stops g c =
    let p = err_from_is_err_and c.from_residual.result c.from_residual.ensures.1 in
    rw (p.1, p.2) (c.in_err-flow.ensures.stops (g.Fr.Frames.view c.args.frames.now) (g.Fr.Frames.per c.args.frames.now) c.args.targets.now)

pub returns-in_err-pages-clause-stops : goal.returns-in_err-pages-clause-stops
returns-in_err-pages-clause-stops g c =
    let frames = (g.Fr.Frames.view c.args.frames.now) in
    let per = (g.Fr.Frames.per c.args.frames.now) in
    let w = work_of c.args.input.now frames per c.args.targets.now in
    let p = err_from_is_err_and c.from_residual-in_err-pages.result c.from_residual-in_err-pages.ensures.1 in
    rw (p.1, p.2) (pages_stop w c.args.table.now c.in_ok-flow.flow c.in_err-pages.field-0.0 (c.in_ok-flow.ensures.flow frames per c.args.targets.now) c.in_ok-flow.ensures.fits c.in_err-pages.ensures.many)

pub fold-requires-clause-per : goal.fold-requires-clause-per
fold-requires-clause-per g c = subst IsPerPage (sym c.per_page.ensures) (g.met.Fr.Frames.few c.args.frames.now)

pub shown-requires-clause-few : goal.shown-requires-clause-few
shown-requires-clause-few g c = pages_few c.per_page.result c.in_ok-pages.pages.pages c.in_ok-folded.folded.pages (subst IsPerPage (sym c.per_page.ensures) (g.met.Fr.Frames.few c.args.frames.now)) c.folds_keep_all.ensures c.in_ok-folded.ensures c.in_ok-pages.ensures.few

pub returns-clause-pass : goal.returns-clause-pass
returns-clause-pass g c = record {
  flow_is = c.in_ok-flow.ensures.flow (g.Fr.Frames.view c.args.frames.now) (g.Fr.Frames.per c.args.frames.now) c.args.targets.now;
  fits = c.in_ok-flow.ensures.fits;
  paged = c.in_ok-pages.ensures.pages;
  few = c.in_ok-pages.ensures.few;
  shown =
      c.in_ok-shown.ensures
      ∙ ap (λ (ps : List Page). table_of c.in_ok-flow.flow ps c.args.targets.now)
      (c.in_ok-folded.ensures ∙ ap (λ (n : ℕ). fold_of n c.in_ok-pages.pages.pages) c.per_page.ensures);
}
