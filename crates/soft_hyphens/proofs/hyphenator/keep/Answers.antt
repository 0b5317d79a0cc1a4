use Rattle.std.proofs.Common.{◌∙◌, sym, ap}
use Rattle.std.specs.String.{string_bytes}
use Rattle.hyphen.specs.Meaning.{value_in}
use Rattle.soft_hyphens.specs.Known.{word_points}
use Rattle.soft_hyphens.proofs.KnownLemmas.{knows-more}
use Rattle.soft_hyphens.proofs.hyphenator.keep.Goals as goal

pub returns : goal.returns
returns c =
    knows-more (value_in c.args.patterns.now) c.args.known.now c.insert.new.self (string_bytes c.in_ok-key.key) c.in_ok-points.points c.requires c.in-Ok.ensures.updates
    (c.in_ok-points.ensures ∙ ap (word_points (value_in c.args.patterns.now)) (sym c.in_ok-key.ensures.ok))
