use Rattle.sample.specs.Html.{paragraph}
use Rattle.sample.proofs.Appended.{appended3}
use Rattle.sample.proofs.chapters.push_paragraph.Goals as goal

pub returns-clause-text : goal.returns-clause-text
unfolding paragraph
returns-clause-text c = appended3 _ _ _ _ _ _ _ c.in_ok-push_text.ensures c.in_ok-push_words.ensures.text c.in_ok-push_text-2.ensures
