use Rattle.std.proofs.Common.{◌≡◌, ◌==◌, true, false, List, length, sym, ap, ◌∙◌}
use Rattle.std.proofs.lemmas.Bool.{eqb-true}
use Rattle.cascade.specs.declared.decl.ReadDecl.{ReadDecl}
use Rattle.cascade.proofs.AppliesLemmas.{offered_none, offered_some}
use Rattle.cascade.proofs.selected.offered.Goals as goal

pub returns-then-is_empty : goal.returns-then-is_empty
returns-then-is_empty c =
    let none : (length c.args.rule.now.decls == 0) ≡ true = ap (λ (ds : List ReadDecl). length ds == 0) (sym c.as_slice.ensures) ∙ sym c.is_empty.ensures ∙ c.if-is_empty.true in
    sym (offered_none c.args.rule.now.decls c.args.rule.now.selectors.items (eqb-true (length c.args.rule.now.decls) 0 none))

pub returns : goal.returns
returns c =
    let some : (length c.args.rule.now.decls == 0) ≡ false = ap (λ (ds : List ReadDecl). length ds == 0) (sym c.as_slice.ensures) ∙ sym c.is_empty.ensures ∙ c.if-is_empty.false in
    c.as_slice-2.ensures ∙ sym (offered_some c.args.rule.now.decls c.args.rule.now.selectors.items some)
