use Rattle.std.proofs.Common.{◌≡◌, true, not, refl, ap, sym}
use Rattle.std.proofs.lemmas.Bool.{ne_eqb}
use Rattle.std.specs.List.{list_all}
use Rattle.html_tree.specs.Texts.{named_references}
use Rattle.html_tree.specs.Words.{begins_with, starting}
use Rattle.html_tree.proofs.NameLemmas.{none-starting}
use Rattle.html_tree.proofs.references.rows_of.Goals as goal

pub returns-then-first-eq97 : goal.returns-then-first-eq97
unfolding named_references
returns-then-first-eq97 c = ap (λ b. starting b named_references) (sym c.if-first-eq97.true)

pub returns-then-first-eq98 : goal.returns-then-first-eq98
unfolding named_references
returns-then-first-eq98 c = ap (λ b. starting b named_references) (sym c.if-first-eq98.true)

pub returns-then-first-eq99 : goal.returns-then-first-eq99
unfolding named_references
returns-then-first-eq99 c = ap (λ b. starting b named_references) (sym c.if-first-eq99.true)

pub returns-then-first-eq100 : goal.returns-then-first-eq100
unfolding named_references
returns-then-first-eq100 c = ap (λ b. starting b named_references) (sym c.if-first-eq100.true)

pub returns-then-first-eq68 : goal.returns-then-first-eq68
unfolding named_references
returns-then-first-eq68 c = ap (λ b. starting b named_references) (sym c.if-first-eq68.true)

pub returns-then-first-eq101 : goal.returns-then-first-eq101
unfolding named_references
returns-then-first-eq101 c = ap (λ b. starting b named_references) (sym c.if-first-eq101.true)

pub returns-then-first-eq103 : goal.returns-then-first-eq103
unfolding named_references
returns-then-first-eq103 c = ap (λ b. starting b named_references) (sym c.if-first-eq103.true)

pub returns-then-first-eq104 : goal.returns-then-first-eq104
unfolding named_references
returns-then-first-eq104 c = ap (λ b. starting b named_references) (sym c.if-first-eq104.true)

pub returns-then-first-eq108 : goal.returns-then-first-eq108
unfolding named_references
returns-then-first-eq108 c = ap (λ b. starting b named_references) (sym c.if-first-eq108.true)

pub returns-then-first-eq109 : goal.returns-then-first-eq109
unfolding named_references
returns-then-first-eq109 c = ap (λ b. starting b named_references) (sym c.if-first-eq109.true)

pub returns-then-first-eq110 : goal.returns-then-first-eq110
unfolding named_references
returns-then-first-eq110 c = ap (λ b. starting b named_references) (sym c.if-first-eq110.true)

pub returns-then-first-eq112 : goal.returns-then-first-eq112
unfolding named_references
returns-then-first-eq112 c = ap (λ b. starting b named_references) (sym c.if-first-eq112.true)

pub returns-then-first-eq80 : goal.returns-then-first-eq80
unfolding named_references
returns-then-first-eq80 c = ap (λ b. starting b named_references) (sym c.if-first-eq80.true)

pub returns-then-first-eq113 : goal.returns-then-first-eq113
unfolding named_references
returns-then-first-eq113 c = ap (λ b. starting b named_references) (sym c.if-first-eq113.true)

pub returns-then-first-eq114 : goal.returns-then-first-eq114
unfolding named_references
returns-then-first-eq114 c = ap (λ b. starting b named_references) (sym c.if-first-eq114.true)

pub returns-then-first-eq115 : goal.returns-then-first-eq115
unfolding named_references
returns-then-first-eq115 c = ap (λ b. starting b named_references) (sym c.if-first-eq115.true)

pub returns-then-first-eq116 : goal.returns-then-first-eq116
unfolding named_references
returns-then-first-eq116 c = ap (λ b. starting b named_references) (sym c.if-first-eq116.true)

pub returns-then-first-eq122 : goal.returns-then-first-eq122
unfolding named_references
returns-then-first-eq122 c = ap (λ b. starting b named_references) (sym c.if-first-eq122.true)

pub returns-else-first-eq122 : goal.returns-else-first-eq122
unfolding named_references
returns-else-first-eq122 c =
    let none : list_all (λ r. not (begins_with c.args.first r.0)) named_references ≡ true = rw (ne_eqb _ _ c.if-first-eq97.false, ne_eqb _ _ c.if-first-eq98.false, ne_eqb _ _ c.if-first-eq99.false, ne_eqb _ _ c.if-first-eq100.false, ne_eqb _ _ c.if-first-eq68.false, ne_eqb _ _ c.if-first-eq101.false, ne_eqb _ _ c.if-first-eq103.false, ne_eqb _ _ c.if-first-eq104.false, ne_eqb _ _ c.if-first-eq108.false, ne_eqb _ _ c.if-first-eq109.false, ne_eqb _ _ c.if-first-eq110.false, ne_eqb _ _ c.if-first-eq112.false, ne_eqb _ _ c.if-first-eq80.false, ne_eqb _ _ c.if-first-eq113.false, ne_eqb _ _ c.if-first-eq114.false, ne_eqb _ _ c.if-first-eq115.false, ne_eqb _ _ c.if-first-eq116.false, ne_eqb _ _ c.if-first-eq122.false) refl in
    sym (none-starting c.args.first named_references none)
