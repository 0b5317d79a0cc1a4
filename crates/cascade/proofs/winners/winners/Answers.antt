use Rattle.std.proofs.Common.{◌≡◌, ◌∙◌, map, subst}
use Rattle.cascade.specs.Candidates.{DeclaredBy}
use Rattle.cascade.specs.Winners.{AreWinners}
use Rattle.cascade.specs.Document.{rules_of, style_decls}
use Rattle.cascade.specs.Selected.{selected_in, selected_from, rules_at, ArePlaces}
use Rattle.cascade.proofs.AppliesLemmas.{at_node}
use Rattle.cascade.proofs.winners.winners.Goals as goal

pub returns : goal.returns
returns c =
    let all : map selected_in c.in_ok-selected.selected.items ≡ selected_from 0 (rules_of c.args.sheets.now) = c.in_ok-selected.ensures in
    let found = subst (λ z. ArePlaces c.args.dom.now (map selected_in z) c.args.node.0 c.in_ok-places.places.items) c.deref.ensures.value c.in_ok-places.ensures in
    let same : c.as_slice.result.now ≡ style_decls c.args.dom.now c.args.node.0 = c.as_slice.ensures ∙ c.in_ok-styled.ensures in
    let won = subst (λ z. AreWinners (DeclaredBy (rules_at (map selected_in c.in_ok-selected.selected.items) z c.as_slice.result.now c.args.pseudo)) c.in_ok-longs.longs) c.deref-3.ensures.value
    (subst (λ z. AreWinners (DeclaredBy (rules_at (map selected_in z) c.deref-3.result.now c.as_slice.result.now c.args.pseudo)) c.in_ok-longs.longs) c.deref-2.ensures.value c.in_ok-longs.ensures) in
    at_node c.args.dom.now c.args.sheets.now (map selected_in c.in_ok-selected.selected.items) c.args.node.0 c.in_ok-places.places.items c.as_slice.result.now c.args.pseudo c.in_ok-longs.longs all found same won
