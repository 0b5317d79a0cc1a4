use Rattle.std.proofs.lemmas.List.{take-map}
use Rattle.css_rules.specs.Decls.{decl_from}
use Rattle.css_rules.proofs.CoverLemmas.{Covers-take}
use Rattle.css_rules.proofs.decls.decl_from.Goals as goal

pub split-requires : goal.split-requires
split-requires c = Covers-take c.args.text.now c.args.tokens.now c.value_len.result c.requires

pub returns : goal.returns
unfolding decl_from
returns c = rw (c.is_some-important.ensures, c.split.ensures.front, c.important_place.ensures.value, c.value_len.ensures.value, take-map)
