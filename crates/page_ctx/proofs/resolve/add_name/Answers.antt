use Rattle.page_ctx.proofs.TableLemmas.{six_good, six_pushed}
use Rattle.page_ctx.proofs.resolve.add_name.Goals as goal

pub returns-clause-boxes : goal.returns-clause-boxes
returns-clause-boxes c =
    six_pushed _ _ _ _ _ _ _ _ _ _ _ _ _ c.in_ok-first.ensures.boxes c.in_ok-left.ensures.boxes c.in_ok-right.ensures.boxes c.in_ok-blank_first.ensures.boxes
    c.in_ok-blank_left.ensures.boxes c.in_ok-blank_right.ensures.boxes

pub returns-clause-good : goal.returns-clause-good
returns-clause-good c =
    six_good _ _ _ _ _ _ c.in_ok-first.ensures.good c.in_ok-left.ensures.good c.in_ok-right.ensures.good c.in_ok-blank_first.ensures.good c.in_ok-blank_left.ensures.good
    c.in_ok-blank_right.ensures.good
