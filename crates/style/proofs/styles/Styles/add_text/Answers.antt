use Rattle.style.proofs.NodeLemmas.{sound-text}
use Rattle.style.proofs.styles.Styles.add_text.Goals as goal

pub invariant_of-self : goal.invariant_of-self
invariant_of-self c = sound-text c.push_row.result _ c.self.inside.rows.items _ _ c.push_row.ensures.ok c.push_row.ensures.err c.self.invariant (record { own = tt; before = tt; after = tt; call = tt; marker = tt })
