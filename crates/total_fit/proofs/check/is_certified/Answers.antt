use Rattle.std.proofs.Common.{◌∙◌, refl, sym}
use Rattle.total_fit.proofs.CertificateLemmas.{certified-follows, certified-made}
use Rattle.total_fit.proofs.check.is_certified.Goals as goal

pub returns-then-not-follow : goal.returns-then-not-follow
returns-then-not-follow c = (λ t. absurd cc, λ h. c.if-not-follow.ensures.1 (certified-follows _ _ _ _ _ h))

pub returns : goal.returns
returns c = (
  λ t. certified-made c.args.stops.now c.args.measures c.args.ends.now c.args.cost c.args.potentials.now c.if-potentials-stops.false
      (sym c.potential_at.ensures ∙ c.if-not-is_value.ensures.0 refl) (sym c.potential_at-2.ensures ∙ c.if-not-is_value-2.ensures.0 refl)
      (c.if-not-follow.ensures.0 refl) (c.hold_at_lines.ensures.0 t),
  λ h. c.hold_at_lines.ensures.1 h.lines,
)
