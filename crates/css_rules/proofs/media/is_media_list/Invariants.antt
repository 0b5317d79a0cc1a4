use Rattle.std.proofs.Common.{◌≡◌, length}
use Rattle.css_rules.specs.Views.{items_in}
use Rattle.css_rules.specs.Media.{is_media_list}
use Rattle.css_rules.specs.MediaSteps.{reads, state_in}
use Rattle.css_rules.proofs.media.is_media_list.Given as goal

abbrev pub invariant-loop-left : goal.invariant-loop-left
invariant-loop-left l = is_media_list (items_in l.tokens) ≡ reads (state_in l.reader) (items_in l.left)

abbrev pub decreases-loop-left : goal.decreases-loop-left
decreases-loop-left l = length l.left
