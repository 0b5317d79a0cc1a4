use Rattle.std.proofs.Common.{length, sym, subst}
use Rattle.match_table.specs.Index.{AreNoted}
use Rattle.match_table.proofs.all.rows_of.Goals as goal

pub rows_by_words-requires-clause-noted : goal.rows_by_words-requires-clause-noted
rows_by_words-requires-clause-noted c =
    subst (λ d. AreNoted d c.in_ok-words.words c.deref.result.now (length d)) c.dom.ensures
    (subst (λ z. AreNoted c.dom.result.now c.in_ok-words.words z (length c.dom.result.now)) (sym c.deref.ensures.value) c.in_ok-lists.ensures.noted)
