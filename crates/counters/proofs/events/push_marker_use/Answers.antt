use Rattle.std.proofs.Common.{◌++◌, ◌∙◌, ap}
use Rattle.counters.specs.Document.{use_of}
use Rattle.counters.specs.Log.{placed}
use Rattle.std.specs.Prelude.{codes}
use Rattle.std.proofs.lemmas.Result.{on_ok_weaker}
use Rattle.counters.proofs.events.push_marker_use.Goals as goal

pub returns-then-numeral : goal.returns-then-numeral
returns-then-numeral c = rw (c.if-numeral.true) (on_ok_weaker c.push_one.result (λ e. e ∙ ap (λ l. l ++ placed c.args.place (use_of (codes "list-item"))) c.in_ok-ask.ensures) c.push_one.ensures)
