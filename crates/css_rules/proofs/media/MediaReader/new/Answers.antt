use Rattle.std.proofs.Common.{◌≡◌, subst, sym, true}
use Rattle.css_rules.specs.Media.{is_media_list}
use Rattle.css_rules.specs.MediaSteps.{reads}
use Rattle.css_rules.specs.declared.media.Seen.TheVariants as seen
use Rattle.css_rules.proofs.MediaLemmas.{reads_all}
use Rattle.css_rules.proofs.media.MediaReader.new.Goals as goal

pub returns : goal.returns
returns c = λ ts. subst (λ b. reads (record { brackets = b; seen = seen.Nothing; blank = true }) ts ≡ is_media_list ts) (sym c.new.ensures) (reads_all ts)
