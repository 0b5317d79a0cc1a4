use Rattle.std.proofs.Common.{◌∙◌, sym, ap, refl, not}
use Rattle.match_table.proofs.TypeLemmas.{has-mapped, with-mapped}
use Rattle.match_table.proofs.types.Kinds.add.Goals as goal

pub returns-clause-new : goal.returns-clause-new
returns-clause-new c = rw (← c.self.view_is) (c.in_ok-added.ensures.added ∙ ap not (sym (has-mapped (λ pair. (pair.0, pair.1.now)) (c.args.parent, c.args.name.now) c.self.inside.set.keys)))

pub returns-clause-kinds : goal.returns-clause-kinds
returns-clause-kinds c = rw (← c.self.view_is) (with-mapped (λ pair. (pair.0, pair.1.now)) (c.args.parent, c.args.name.now) c.self.inside.set.keys c.insert.new.self.keys (c.args.parent, c.args.name) refl c.in_ok-added.ensures.keys)
