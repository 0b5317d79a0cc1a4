use Rattle.std.proofs.Common.{◌≡◌, true, get_or, arith, sym, ap, ◌∙◌}
use Rattle.page_seq.specs.Places.{has_end_after}
use Rattle.page_seq.proofs.PlaceLemmas.{no_page, page_at_here, page_at_last, passed_more}
use Rattle.page_seq.proofs.places.page_from.Goals as goal

pub returns-then-has_end_after : goal.returns-then-has_end_after
returns-then-has_end_after c =
    let d = c.index-pages-number.result in
    let there : has_end_after c.args.at (get_or c.args.pages.now c.loop-number.number d) ≡ true = ap (λ p. has_end_after c.args.at p) (sym c.index-pages-number.is) ∙ (sym c.has_end_after.ensures ∙ c.if-has_end_after.true) in
    page_at_here c.args.pages.now c.args.at c.args.first c.loop-number.number d (omega arith) there (omega arith) c.requires.first (λ j l h. c.loop-number.invariant j d l h)

pub loop-number-preserved : goal.loop-number-preserved
loop-number-preserved c = passed_more c.args.pages.now c.args.at c.args.first c.loop-number.number c.index-pages-number.result (let w = c.requires.within in omega arith) c.index-pages-number.is (sym c.has_end_after.ensures ∙ c.if-has_end_after.false) c.loop-number.invariant

pub returns : goal.returns
returns c = c.requires.last ∙ page_at_last c.args.pages.now c.args.at c.args.first no_page c.requires.first (λ j l h. c.loop-number.invariant j no_page l (let e = c.requires.last in omega arith))
