use Rattle.std.proofs.Common.{◌∙◌, sym}
use Rattle.std.specs.Str.{bytes_eq}
use Rattle.dom.proofs.NameLemmas.{position-map}
use Rattle.match_table.proofs.index.Words.number.Goals as goal

pub returns-clause-value : goal.returns-clause-value
returns-clause-value c = rw (← c.self.view_is) (c.get_index_of.ensures.index ∙ sym (position-map (λ k. k.now) (bytes_eq c.args.word.now) c.self.inside.set.keys))
