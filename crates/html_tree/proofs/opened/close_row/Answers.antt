use Rattle.std.proofs.Common.{rules, vec_len, ◌≡◌, ◌∙◌, false, sym, get_or, length}
use Rattle.html_tree.specs.Rules.{rule_of}
use Rattle.html_tree.specs.Scopes.{has_in_scope, HaveScopes}
use Rattle.html_tree.proofs.KeptLemmas.{none-closed, scopes-take}
use Rattle.html_tree.proofs.opened.close_row.Goals as goal

pub returns-then-not-last_scopes-index-clause-closed : goal.returns-then-not-last_scopes-index-clause-closed
returns-then-not-last_scopes-index-clause-closed c =
    let have : HaveScopes c.args.dom.now c.args.opened.now.items c.deref.result.now = rw c.deref.ensures.value c.requires.scopes in
    let flag : get_or c.last_scopes.result c.args.index false ≡ has_in_scope (rule_of c.args.row.now) c.args.dom.now c.args.opened.now.items (length c.args.opened.now.items) = c.last_scopes.ensures c.args.dom.now c.args.opened.now.items have c.args.index (rule_of c.args.row.now) c.requires.row in
    none-closed c.args.name.now c.args.dom.now c.args.opened.now.items (rule_of c.args.row.now) (sym flag ∙ c.if-not-last_scopes-index.true)

pub returns-then-has-all_but-clause-scopes : goal.returns-then-has-all_but-clause-scopes
returns-then-has-all_but-clause-scopes c =
    let n : vec_len c.close_by.new.opened ≡ length c.close_by.new.opened.items = search rules in
    rw (c.truncate.ensures.items, c.len.ensures, n, c.close_by.ensures.closed) (scopes-take c.args.dom.now c.args.opened.now.items c.args.scopes.now.items _ c.requires.scopes)
