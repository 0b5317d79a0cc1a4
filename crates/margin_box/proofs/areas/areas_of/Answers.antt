use Rattle.std.proofs.Common.{List, sym, subst}
use Rattle.std.specs.List.{All}
use Rattle.paint.specs.declared.item.Area.{Area}
use Rattle.margin_box.specs.Areas.{IsGoodArea}
use Rattle.margin_box.proofs.AreaLemmas.{areas_good}
use Rattle.margin_box.proofs.areas.areas_of.Goals as goal

pub returns-clause-good : goal.returns-clause-good
returns-clause-good c =
    subst (λ (areas : List Area). All IsGoodArea areas) (sym c.areas_by.ensures) (areas_good c.args.cell.now c.requires)
