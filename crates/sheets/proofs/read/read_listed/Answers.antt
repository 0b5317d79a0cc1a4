use Rattle.std.proofs.Common.{◌+◌, ℕ, List, map, take, sym, subst}
use Rattle.std.specs.List.{AllZip}
use Rattle.std.proofs.lemmas.Result.{err_from_is_err_and}
use Rattle.sheets.specs.List.{sheet_in}
use Rattle.sheets.specs.Sheets.{author_texts}
use Rattle.cascade.specs.declared.sheet.ReadSheet.{ReadSheet}
use Rattle.css_page.specs.declared.rules.PageRule.{PageRule}
use Rattle.sheets.specs.Files.{file_texts}
use Rattle.sheets.specs.Sources.{ArePageRules, IsReadFrom, authors_of, sources_of}
use Rattle.sheets.proofs.PageLemmas.{pages-next}
use Rattle.sheets.proofs.ReadLemmas.{left-many, left-step, not-few, read-next}
use Rattle.sheets.proofs.read.read_listed.Goals as goal

pub loop-number-preserved : goal.loop-number-preserved
loop-number-preserved c =
    let texts : List (List ℕ) = author_texts (map sheet_in c.args.listed.now) (file_texts c.args.files.now) in
    let i : ℕ = c.loop-number.number in
    let at = c.text_at.ensures in
    record {
      read = subst (λ (l : List ReadSheet). AllZip IsReadFrom (sources_of (take (i + 1) texts)) l) (sym c.in_ok-push-2.ensures.ok)
          (read-next texts i c.text_at.result.now at c.loop-number.read c.in_ok-own.field-0.read c.loop-number.invariant.read c.in_ok-own.ensures.read);
      pages = subst (λ (l : List PageRule). ArePageRules (authors_of (take (i + 1) texts)) l) (sym c.in_ok-append.ensures)
          (pages-next texts c.text_at.result.now i at c.loop-number.pages.items c.in_ok-own.field-0.pages c.loop-number.invariant.pages c.in_ok-own.ensures.pages);
      left = λ reading h. left-step texts i c.text_at.result.now at reading (c.in_ok-own.ensures.answer reading h) (c.loop-number.invariant.left reading h);
    }

pub returns-in_err-own-clause-few : goal.returns-in_err-own-clause-few
returns-in_err-own-clause-few c = λ reading h.
    let texts : List (List ℕ) = author_texts (map sheet_in c.args.listed.now) (file_texts c.args.files.now) in
    let p = err_from_is_err_and c.from_residual-in_err-own.result c.from_residual-in_err-own.ensures.1 in
    rw (p.1, p.2) (not-few reading texts c.text_at.result.now c.in_err-own.field-0.0
    (λ many. left-many texts c.loop-number.number c.text_at.result.now c.text_at.ensures reading many (c.loop-number.invariant.left reading h)) (c.in_err-own.ensures.answer reading h))
