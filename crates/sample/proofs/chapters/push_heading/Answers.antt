use Rattle.sample.specs.Html.{heading}
use Rattle.sample.proofs.Appended.{appended5}
use Rattle.sample.proofs.chapters.push_heading.Goals as goal

pub returns : goal.returns
unfolding heading
returns c =
    appended5 _ _ _ _ _ _ _ _ _ _ _
    c.in_ok-push_text.ensures c.in_ok-push_number.ensures c.in_ok-push_text-2.ensures c.in_ok-push_number-2.ensures c.in_ok-push_text-3.ensures
