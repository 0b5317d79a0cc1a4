use Rattle.std.proofs.Common.{◌≡◌, ◌∙◌, ap, arith, [], ◌∷◌, ◌++◌, length}
use Rattle.std.proofs.lemmas.Grind.{common_steps}
use Rattle.html_tree.specs.Scopes.{AreScopes, HaveScopes, has_within}
use Rattle.html_tree.proofs.KeptLemmas.{scopes-push}
use Rattle.html_tree.proofs.tree.keep_open.Goals as goal

pub returns-clause-scopes : goal.returns-clause-scopes
returns-clause-scopes c = λ nodes h e.
    let s : c.push.new.self.items ≡ c.args.scopes.now.items ++ c.scopes_within-inner.result ∷ [] = grind (arith, common_steps) in
    let o : c.push-2.new.self.items ≡ c.args.opened.now.items ++ c.args.node ∷ [] = grind (arith, common_steps) in
    let have : HaveScopes nodes c.args.opened.now.items c.deref.result.now = rw c.deref.ensures.value h in
    let outer : AreScopes nodes c.args.opened.now.items (length c.args.opened.now.items) c.last_scopes.result = c.last_scopes.ensures nodes c.args.opened.now.items have in
    rw (s, o) (scopes-push nodes c.args.opened.now.items c.args.scopes.now.items c.args.node c.args.name.now c.scopes_within-inner.result h e (λ i r q. c.scopes_within-inner.ensures i r q ∙ ap (has_within r c.args.name.now) (outer i r q)))
