use Rattle.std.proofs.Common.{◌&&◌, not, is_some, ap, ◌∙◌, sym}
use Rattle.std.proofs.lemmas.Bool.{eq-eqb}
use Rattle.seams.specs.Runs.{solid_before}
use Rattle.note_list.proofs.BeginLemmas.{first_is}
use Rattle.note_list.proofs.solid.is_first.Goals as goal

pub returns-then-at-eq0 : goal.returns-then-at-eq0
returns-then-at-eq0 c = λ body first solid.
    first_is body c.args.at c.args.first c.is_at.result first solid c.is_at.ensures.hit c.is_at.ensures.miss
    ∙ ap (λ b. b && not (is_some (solid_before body c.args.at.event))) (sym (eq-eqb c.args.at.offset 0 c.if-at-eq0.true))
