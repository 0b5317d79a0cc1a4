use Rattle.std.proofs.Common.{rules, ◌≡◌, ◌==◌, false, Some, None, sym, ◌∙◌, subst, arith, FitsSigned}
use Rattle.std.specs.Int.{w64}
use Rattle.std.proofs.lemmas.Int.{to_z-of_z}
use Rattle.std.proofs.lemmas.Bool.Decides.{nat_tests}
use Rattle.gen_text.specs.declared.table.Entry.{Entry}
use Rattle.gen_text.proofs.TableLemmas.{found, other}
use Rattle.gen_text.proofs.table.number.Goals as goal

pub returns-then-entry-node : goal.returns-then-entry-node
returns-then-entry-node c =
    let fits : FitsSigned w64 c.in-Some.entry.number = search rules in
    let same : c.in-Some.entry.node.0 ≡ c.args.node = grind (arith, nat_tests) in
    rw (to_z-of_z w64 c.in-Some.entry.number fits) (sym (found c.args.entries.now c.args.node c.count_before.result c.in-Some.entry c.count_before.ensures.before (sym c.entry_at.ensures ∙ c.in-Some.is) same))

pub returns-else-entry-node : goal.returns-else-entry-node
returns-else-entry-node c =
    let differ : (c.in-Some.entry.node.0 == c.args.node) ≡ false = grind (arith, nat_tests) in
    sym (other c.args.entries.now c.args.node c.count_before.result c.requires c.count_before.ensures.before c.count_before.ensures.after (Some c.in-Some.entry) (sym c.entry_at.ensures ∙ c.in-Some.is) (λ e h. let same : c.in-Some.entry ≡ e = cc in subst (λ (y : Entry). (y.node.0 == c.args.node) ≡ false) same differ))

pub returns-in_default : goal.returns-in_default
returns-in_default c = sym (other c.args.entries.now c.args.node c.count_before.result c.requires c.count_before.ensures.before c.count_before.ensures.after None (sym c.entry_at.ensures ∙ c.in_default.is) (λ e h. cc))
