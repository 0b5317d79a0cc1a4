-- What wins for nodes to which the same rules apply.
use Rattle.std.proofs.Common.{◌≡◌, ℕ, ◌+◌, List, [], ◌∷◌, ◌++◌, Option, None, Some, Result, Ok, Err, IfOk, OnOk, length, length-append, slice_get, refl, sym, ◌∙◌, ap, subst, arith, ◌⊎◌, inl, inr}
use Rattle.std.proofs.lemmas.Option.{slice_get_within, same_Some}
use Rattle.bk_num.proofs.ListLemmas.{get-push, slice_get_at}
use Rattle.selectors.specs.Match.{Tree}
use Rattle.match_table.specs.All.{AreMatchLists, Matched}
use Rattle.cascade.specs.declared.decl.ReadDecl.{ReadDecl}
use Rattle.cascade.specs.declared.sheet.ReadSheet.{ReadSheet}
use Rattle.cascade.specs.declared.table.NodeWinners.{NodeWinners}
use Rattle.cascade.specs.Document.{rules_of, decls_in, style_decls, AreNodeWinners, AreAllWinners}
use Rattle.cascade.specs.Selected.{SelectedOf, selected_from, selectors_of, AreChosen}
use Rattle.cascade.specs.Sharing.{IsLike, IsChosenAt, AreChosenAt, AddsChosen, SharesFound, found_for, mark_of, noted_as, places_in}
use Rattle.cascade.specs.Table.{WinnersOf, AddsLike, no_winners, with_node}
use Rattle.cascade.proofs.PlaceLemmas.{listed_places, of_chosen}

pub on-ok : {A E P : Type 0} (res : Result A E) → P → OnOk res P
on-ok (Ok a) p = p
on-ok (Err a) p = tt

like-chosen : (dom : Tree) (ss : List SelectedOf) (matched : Matched) (e n : ℕ) (w : NodeWinners) → IsLike dom matched.rows e n → IsChosenAt dom ss matched e w → IsChosenAt dom ss matched n w
like-chosen dom ss matched e n w like c row at = subst (λ d. AreChosen ss (places_in matched.groups row) d w) (ap decls_in like.style) (c row (like.groups ∙ at))

-- what is chosen for the selectors that match a node and for its style attribute
pub chosen-here : {E : Type 0} (res : Result NodeWinners E) (dom : Tree) (ss : List SelectedOf) (matched : Matched) (n : ℕ) (row places : List ℕ) (styled : List ReadDecl) → slice_get matched.rows n ≡ Some row → places ≡ places_in matched.groups row → styled ≡ style_decls dom n
    → IfOk res (λ w. AreChosen ss places styled w) → IfOk res (λ w. IsChosenAt dom ss matched n w)
chosen-here (Ok w) dom ss matched n row places styled there are same c = λ other at.
    subst (λ l. AreChosen ss (places_in matched.groups l) (style_decls dom n) w) (same_Some _ _ (sym there ∙ at)) (subst (λ d. AreChosen ss (places_in matched.groups row) d w) same (subst (λ l. AreChosen ss l styled w) are c))
chosen-here (Err e) dom ss matched n row places styled there are same c = tt

pub adds-like : (dom : Tree) (ss : List SelectedOf) (matched : Matched) (e n : ℕ) (all more : WinnersOf) → IsLike dom matched.rows e n → AddsLike all e more → AddsChosen dom ss matched n all.winners more.winners
adds-like dom ss matched e n all more like adds = record { winners = adds.wins; added = ap (λ (t : WinnersOf). t.winners) adds.added; chosen = λ h. like-chosen dom ss matched e n adds.wins like (h e adds.wins adds.there) }

pub adds-new : (dom : Tree) (ss : List SelectedOf) (matched : Matched) (n : ℕ) (all more : List NodeWinners) (w : NodeWinners) → IsChosenAt dom ss matched n w → more ≡ all ++ w ∷ [] → AddsChosen dom ss matched n all more
adds-new dom ss matched n all more w c e = record { winners = w; added = e; chosen = λ h. c }

-- ---- which nodes share

pub shares-like : (dom : Tree) (matched : List (List ℕ)) (n e : ℕ) (noted later : List ((List ℕ × Option (List ℕ)) × ℕ)) (all more : WinnersOf) → Some e ≡ found_for dom matched noted n → later ≡ noted → AddsLike all e more → SharesFound dom matched n noted later all more
shares-like dom matched n e noted later all more is same adds = record {
  found = λ f at. (subst (λ k. AddsLike all k more) (same_Some e f (is ∙ at)) adds, same);
  none = λ h. let no : Some e ≡ None = is ∙ h in cc;
}

pub shares-new : (dom : Tree) (matched : List (List ℕ)) (n : ℕ) (noted later : List ((List ℕ × Option (List ℕ)) × ℕ)) (all more : WinnersOf) (w : NodeWinners) → None ≡ found_for dom matched noted n → length all.winners ≡ n → more ≡ with_node all w (length all.winners) → later ≡ noted_as (mark_of dom matched n) n noted → SharesFound dom matched n noted later all more
shares-new dom matched n noted later all more w is len adds notes = record {
  found = λ f at. let no : None ≡ Some f = is ∙ at in cc;
  none = λ h. (ap (λ (t : WinnersOf). t.firsts) adds ∙ ap (λ k. all.firsts ++ k ∷ []) len, notes);
}

pub chosen-turn : (dom : Tree) (ss : List SelectedOf) (matched : Matched) (n : ℕ) (all more : List NodeWinners) → length all ≡ n → AreChosenAt dom ss matched all → AddsChosen dom ss matched n all more → AreChosenAt dom ss matched more
chosen-turn dom ss matched n all more len old adds k w at = by (get-push all adds.winners w k (subst (λ l. slice_get l k ≡ Some w) adds.added at))
  where
    by : ((k ≡ length all) × (w ≡ adds.winners)) ⊎ (slice_get all k ≡ Some w) → IsChosenAt dom ss matched k w
    by (inl (here, same)) = subst (λ j. IsChosenAt dom ss matched j w) (sym (here ∙ len)) (subst (λ v. IsChosenAt dom ss matched n v) (sym same) (adds.chosen old))
    by (inr there) = old k w there

pub count-turn : (dom : Tree) (ss : List SelectedOf) (matched : Matched) (n : ℕ) (all more : List NodeWinners) → length all ≡ n → AddsChosen dom ss matched n all more → length more ≡ n + 1
count-turn dom ss matched n all more len adds = ap length adds.added ∙ length-append all (adds.winners ∷ []) ∙ ap (λ k. k + 1) len

pub none-chosen : (dom : Tree) (ss : List SelectedOf) (matched : Matched) (all : WinnersOf) → all ≡ no_winners → AreChosenAt dom ss matched all.winners × (length all.winners ≡ 0)
none-chosen dom ss matched all e = ((λ k w at. let h : slice_get [] k ≡ Some w = subst (λ (t : WinnersOf). slice_get t.winners k ≡ Some w) e at in cc), ap (λ (t : WinnersOf). length t.winners) e)

pub all-chosen : (dom : Tree) (sheets : List ReadSheet) (ss : List SelectedOf) (matched : Matched) (all : List NodeWinners) → ss ≡ selected_from 0 (rules_of sheets) → length matched.rows ≡ length dom → AreMatchLists dom (selectors_of ss) matched → length all ≡ length dom → AreChosenAt dom ss matched all → AreAllWinners dom sheets all
all-chosen dom sheets ss matched all same rows lists count chosen = record { count = count; each = each }
  where
    each : (n : ℕ) (w : NodeWinners) → slice_get all n ≡ Some w → AreNodeWinners dom sheets n w
    each n w at =
        let low = slice_get_within all n w at in
        let row = slice_get_at matched.rows n (omega arith) in
        of_chosen dom sheets ss n (places_in matched.groups row.0) (style_decls dom n) w same (listed_places dom ss matched.groups n row.0 (lists.each n row.0 row.1)) refl (chosen n w at row.0 row.1)
