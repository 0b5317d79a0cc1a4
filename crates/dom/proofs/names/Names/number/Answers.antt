use Rattle.std.proofs.Common.{sym, ◌∙◌}
use Rattle.std.specs.String.{string_bytes}
use Rattle.std.specs.Str.{bytes_eq}
use Rattle.dom.proofs.NameLemmas.{position-map}
use Rattle.dom.proofs.names.Names.number.Goals as goal

pub returns-in-Some-clause-number : goal.returns-in-Some-clause-number
returns-in-Some-clause-number c = rw (← c.self.view_is) (c.in-Some.ensures.index ∙ sym (position-map (λ s. string_bytes s) (bytes_eq c.args.name.now) c.self.inside.set.keys))

pub returns-in-None-clause-number : goal.returns-in-None-clause-number
returns-in-None-clause-number c = rw (← c.self.view_is) (c.in-None.ensures.index ∙ sym (position-map (λ s. string_bytes s) (bytes_eq c.args.name.now) c.self.inside.set.keys))
