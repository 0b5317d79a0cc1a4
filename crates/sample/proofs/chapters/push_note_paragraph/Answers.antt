use Rattle.std.proofs.Common.{◌∙◌, ◌++◌, ℕ, List, sym, ap, string_bytes}
use Rattle.sample.proofs.Appended.{appended7}
use Rattle.sample.proofs.ChapterLemmas.{note_paragraph-end, note_paragraph-parts}
use Rattle.sample.proofs.chapters.push_note_paragraph.Goals as goal

pub returns-clause-text : goal.returns-clause-text
returns-clause-text c =
    appended7 _ _ _ _ _ _ _ _ _ _ _ _ _ _ _
    c.in_ok-push_text.ensures c.in_ok-push_words.ensures.text c.in_ok-push_text-2.ensures c.in_ok-push_words-2.ensures.text
    c.in_ok-push_text-3.ensures c.in_ok-push_words-3.ensures.text c.in_ok-push_text-4.ensures
    ∙ ap (λ (z : List ℕ). string_bytes c.args.out.now ++ z)
    (sym (note_paragraph-parts _ _ _ c.in_ok-push_words.ensures.state c.in_ok-push_words-2.ensures.state))

pub returns-clause-state : goal.returns-clause-state
returns-clause-state c =
    note_paragraph-end _ _ _ _ c.in_ok-push_words.ensures.state c.in_ok-push_words-2.ensures.state c.in_ok-push_words-3.ensures.state
