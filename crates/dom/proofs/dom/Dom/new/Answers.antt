use Rattle.std.proofs.Common.{◌≡◌, ℕ, List, [], ◌∷◌, None, arith, subst, sym}
use Rattle.std.proofs.lemmas.Grind.{common_steps}
use Rattle.dom.specs.Nodes.{root}
use Rattle.dom.specs.Ids.{first_in}
use Rattle.dom.specs.Links.{root_row}
use Rattle.dom.specs.Order.{IsFirstOf}
use Rattle.dom.proofs.DomLemmas.{sound-root}
use Rattle.dom.proofs.IdLemmas.{first-root}
use Rattle.dom.proofs.dom.Dom.new.Goals as goal

pub invariant_of-result : goal.invariant_of-result
invariant_of-result c =
    let whats : c.in_ok-store.store ≡ root.what ∷ [] = c.in_ok-store.ensures in
    let rows : c.in_ok-rows.rows.items ≡ root_row ∷ [] = c.in_ok-rows.ensures in
    let none : (id : List ℕ) → first_in c.new.result id ≡ None = λ id. grind (arith, common_steps) in
    record {
      rows = rw (whats, rows) sound-root;
      firsts = λ id. rw (whats, rows) (subst (λ o. IsFirstOf (root ∷ []) id o) (sym (none id)) (first-root id));
    }
