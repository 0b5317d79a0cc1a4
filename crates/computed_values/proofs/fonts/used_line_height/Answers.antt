use Rattle.std.proofs.Common.{◌≡◌, ◌≤ℤ◌, pos, subst, sym, rules}
use Rattle.bk_num.specs.Lengths.{part}
use Rattle.style.specs.declared.values.LineHeight.TheVariants as height
use Rattle.style.specs.Ranges.{IsHeight}
use Rattle.bk_num.proofs.UnitLemmas.{part-least}
use Rattle.computed_values.proofs.fonts.used_line_height.Goals as goal

pub returns-in-Number-clause-least : goal.returns-in-Number-clause-least
returns-in-Number-clause-least c l h =
    let least : IsHeight (height.Number c.in-Number.number) = subst IsHeight c.in-Number.is h in
    let is : c.part_of.result ≡ part c.in-Number.number c.args.size 1 = search rules in
    subst (λ z. pos 0 ≤ℤ z) (sym is) (part-least c.in-Number.number c.args.size 1 least l)
