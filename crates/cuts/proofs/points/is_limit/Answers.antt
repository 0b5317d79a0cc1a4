use Rattle.std.proofs.Common.{◌≡◌, Option, Some, None, is_some, false, refl, sym, ◌∙◌, arith}
use Rattle.std.proofs.lemmas.Option.{slice_get-get_or}
use Rattle.boxes.specs.declared.frames.Demand.{Demand}
use Rattle.cuts.proofs.PointLemmas.{limit_here, limit_past}
use Rattle.cuts.proofs.points.is_limit.Goals as goal

none_of : (o : Option Demand) → is_some o ≡ false → o ≡ None
none_of None e = refl
none_of (Some d) e = absurd (cc)

pub returns-then-at-gt0-clause-limit : goal.returns-then-at-gt0-clause-limit
returns-then-at-gt0-clause-limit c = λ e. limit_here c.args.rows.now c.args.at _ (slice_get-get_or c.args.rows.now c.args.at _ c.requires.at) (let some = c.if-at-gt0.true in omega arith) (sym c.is_some.ensures ∙ e) c.requires.low

pub returns-then-at-gt0-clause-before : goal.returns-then-at-gt0-clause-before
returns-then-at-gt0-clause-before c = λ e. limit_past c.args.rows.now c.args.at _ (slice_get-get_or c.args.rows.now c.args.at _ c.requires.at) (λ h. none_of _ (sym c.is_some.ensures ∙ e)) c.requires.low
