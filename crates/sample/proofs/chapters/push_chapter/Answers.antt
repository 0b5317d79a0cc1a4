use Rattle.std.proofs.Common.{◌∙◌, ◌++◌, ℕ, List, sym, ap, string_bytes}
use Rattle.sample.proofs.Appended.{appended6}
use Rattle.sample.proofs.ChapterLemmas.{ArePlaces, chapter-parts, chapter-state}
use Rattle.sample.proofs.chapters.push_chapter.Goals as goal

pub returns-clause-text : goal.returns-clause-text
returns-clause-text c =
    let places : ArePlaces c.args.draws.now c.push_paragraph.new.draws c.push_paragraph-2.new.draws c.push_note_paragraph.new.draws c.push_paragraph-3.new.draws = record {
      at_second = c.in_ok-push_paragraph.ensures.state;
      at_third = c.in_ok-push_paragraph-2.ensures.state;
      at_fourth = c.in_ok-push_note_paragraph.ensures.state;
      at_last = c.in_ok-push_paragraph-3.ensures.state;
    } in
    appended6 _ _ _ _ _ _ _ _ _ _ _ _ _
    c.in_ok-push_heading.ensures c.in_ok-push_paragraph.ensures.text c.in_ok-push_paragraph-2.ensures.text
    c.in_ok-push_note_paragraph.ensures.text c.in_ok-push_paragraph-3.ensures.text c.in_ok-push_paragraph-4.ensures.text
    ∙ ap (λ (z : List ℕ). string_bytes c.args.out.now ++ z) (sym (chapter-parts c.args.number _ _ _ _ _ places))

pub returns-clause-state : goal.returns-clause-state
returns-clause-state c =
    let places : ArePlaces c.args.draws.now c.push_paragraph.new.draws c.push_paragraph-2.new.draws c.push_note_paragraph.new.draws c.push_paragraph-3.new.draws = record {
      at_second = c.in_ok-push_paragraph.ensures.state;
      at_third = c.in_ok-push_paragraph-2.ensures.state;
      at_fourth = c.in_ok-push_note_paragraph.ensures.state;
      at_last = c.in_ok-push_paragraph-3.ensures.state;
    } in
    chapter-state _ _ _ _ _ _ places c.in_ok-push_paragraph-4.ensures.state
