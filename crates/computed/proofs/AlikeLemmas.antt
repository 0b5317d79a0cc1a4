-- Nodes that share their styles.
use Rattle.std.proofs.Common.{◌≡◌, ℕ, ◌+◌, List, [], ◌∷◌, ◌++◌, None, Some, Result, Ok, Err, OnOk, is_some, length, length-append, slice_get, refl, sym, ◌∙◌, ap, subst, ◌⊎◌, inl, inr}
use Rattle.std.proofs.lemmas.Option.{same_Some}
use Rattle.bk_num.proofs.ListLemmas.{get-push, get-keep, get-end}
use Rattle.dom.specs.Nodes.{Node, parents_of, parent_at, name_at}
use Rattle.style.specs.Nodes.{NodeStyles, AddsLike}
use Rattle.cascade.specs.declared.table.NodeWinners.{NodeWinners}
use Rattle.cascade.specs.Table.{WinnersOf}
use Rattle.computed.specs.Names.{node_names, with_names}
use Rattle.computed.specs.Walk.{IsElement, IsNode, AreNodes, Adds}
use Rattle.computed.specs.Alike.{KeptStyles, IsLike, HaveRow, AreFirsts, AddsNext, NotesFound, deciding_of, found_for, noted_as}
use Rattle.computed.proofs.NameLemmas.{element-known}

-- what holds below one parent holds below another with the same row
element-move : (names : List (List ℕ)) (rows : List NodeStyles) (p q : ℕ) → slice_get rows p ≡ slice_get rows q → (w : NodeWinners) (r : NodeStyles) → IsElement names rows (Some p) w r → IsElement names rows (Some q) w r
element-move names rows p q e w r h = record { style = h.style; own = h.own; values = rw (← e) h.values; shown = rw (← e) h.shown; note = rw (← e) h.note; in_note = rw (← e) h.in_note; before = h.before; after = h.after; call = h.call; marker = h.marker }

same-rows : (rows : List NodeStyles) (firsts : List ℕ) → AreFirsts rows firsts → (p q f : ℕ) → slice_get firsts p ≡ Some f → slice_get firsts q ≡ Some f → slice_get rows p ≡ slice_get rows q
same-rows rows firsts same p q f hp hq =
    let a = same p f hp in
    let b = same q f hq in
    let e : a.row ≡ b.row = same_Some _ _ (sym a.first ∙ b.first) in
    a.there ∙ ap (λ r. Some r) e ∙ sym b.there

-- an earlier element with the same winners and the same styles above it
like-row : (names : List (List ℕ)) (nodes : List Node) (winners : List NodeWinners) (rows : List NodeStyles) (firsts : List ℕ) (e n : ℕ) (row : NodeStyles) (like : IsLike nodes winners firsts e n) → slice_get rows e ≡ Some row
    → (w : NodeWinners) → slice_get winners n ≡ Some w → AreNodes names nodes winners rows → IsElement names rows (Some like.earlier.parent) w row
like-row names nodes winners rows firsts e n row like at w wins all =
    let won : slice_get winners e ≡ Some w = sym like.earlier.wins ∙ like.later.wins ∙ wins in
    rw (like.earlier.element, like.earlier.below) at (all e w row won at)

like-fits : (names : List (List ℕ)) (nodes : List Node) (winners : List NodeWinners) (rows : List NodeStyles) (firsts : List ℕ) (e n : ℕ) (row : NodeStyles) → IsLike nodes winners firsts e n → slice_get rows e ≡ Some row
    → (w : NodeWinners) → slice_get winners n ≡ Some w → AreNodes names nodes winners rows → AreFirsts rows firsts → IsNode names rows (parent_at (parents_of nodes) n) (is_some (name_at nodes n)) w row
like-fits names nodes winners rows firsts e n row like at w wins all same =
    let old = like-row names nodes winners rows firsts e n row like at w wins all in
    let equal = same-rows rows firsts same like.earlier.parent like.later.parent like.decides.parent like.earlier.first like.later.first in
    rw (like.later.element, like.later.below) (element-move names rows like.earlier.parent like.later.parent equal w row old)

pub adds-like : {A E : Type 0} (res : Result A E) (names : List (List ℕ)) (nodes : List Node) (winners : List NodeWinners) (k e : ℕ) (firsts noted : List ℕ) (rows next : List NodeStyles) → IsLike nodes winners firsts e k → AddsLike rows e next → OnOk res (noted ≡ firsts ++ e ∷ []) → OnOk res (AddsNext names names nodes winners k firsts noted rows next)
adds-like (Ok a) names nodes winners k e firsts noted rows next like adds ok = record {
  row = adds.row;
  added = adds.added;
  first = e;
  is_noted = ok;
  shared = subst (λ l. slice_get l e ≡ Some adds.row) (sym adds.added) (get-keep rows (adds.row ∷ []) e adds.row adds.there);
  fits = λ w wins all same. like-fits names nodes winners rows firsts e k adds.row like adds.there w wins all same;
  numbered = λ w wins all same. sym (element-known names rows (Some like.earlier.parent) w adds.row (like-row names nodes winners rows firsts e k adds.row like adds.there w wins all));
}
adds-like (Err a) names nodes winners k e firsts noted rows next like adds ok = tt

pub adds-new : {A E : Type 0} (res : Result A E) (names more : List (List ℕ)) (nodes : List Node) (winners : List NodeWinners) (k : ℕ) (w : NodeWinners) (firsts noted : List ℕ) (rows next : List NodeStyles) → length rows ≡ k → slice_get winners k ≡ Some w → Adds names more nodes k w rows next → OnOk res (noted ≡ firsts ++ k ∷ []) → OnOk res (AddsNext names more nodes winners k firsts noted rows next)
adds-new (Ok a) names more nodes winners k w firsts noted rows next len at adds ok = record {
  row = adds.row;
  added = adds.added;
  first = k;
  is_noted = ok;
  shared = subst (λ l. slice_get l k ≡ Some adds.row) (sym adds.added) (subst (λ j. slice_get (rows ++ adds.row ∷ []) j ≡ Some adds.row) len (get-end rows adds.row));
  fits = λ v wins all same. subst (λ x. IsNode more rows (parent_at (parents_of nodes) k) (is_some (name_at nodes k)) x adds.row) (same_Some _ _ (sym at ∙ wins)) adds.fits;
  numbered = λ v wins all same. subst (λ x. more ≡ with_names names (node_names x adds.row)) (same_Some _ _ (sym at ∙ wins)) adds.numbered;
}
adds-new (Err a) names more nodes winners k w firsts noted rows next len at adds ok = tt

pub notes-like : {A E : Type 0} (res : Result A E) (nodes : List Node) (winners : WinnersOf) (n e : ℕ) (kept later : KeptStyles) → Some e ≡ found_for nodes winners kept n → OnOk res (later.firsts ≡ kept.firsts ++ e ∷ []) → later.known ≡ kept.known → OnOk res (NotesFound nodes winners n kept later)
notes-like (Ok a) nodes winners n e kept later is first known = record {
  found = λ f at. (first ∙ ap (λ k. kept.firsts ++ k ∷ []) (same_Some e f (is ∙ at)), known);
  none = λ h. let no : Some e ≡ None = is ∙ h in cc;
}
notes-like (Err a) nodes winners n e kept later is first known = tt

pub notes-new : {A E : Type 0} (res : Result A E) (nodes : List Node) (winners : WinnersOf) (n : ℕ) (kept later : KeptStyles) → None ≡ found_for nodes winners kept n → OnOk res (later.firsts ≡ kept.firsts ++ n ∷ []) → OnOk res (later.known ≡ noted_as (deciding_of nodes winners kept.firsts n) n kept.known) → OnOk res (NotesFound nodes winners n kept later)
notes-new (Ok a) nodes winners n kept later is first known = record {
  found = λ f at. let no : None ≡ Some f = is ∙ at in cc;
  none = λ h. (first, known);
}
notes-new (Err a) nodes winners n kept later is first known = tt

pub to-adds : (names more : List (List ℕ)) (nodes : List Node) (winners : List NodeWinners) (k : ℕ) (w : NodeWinners) (firsts noted : List ℕ) (rows next : List NodeStyles) → AddsNext names more nodes winners k firsts noted rows next → slice_get winners k ≡ Some w → AreNodes names nodes winners rows → AreFirsts rows firsts → Adds names more nodes k w rows next
to-adds names more nodes winners k w firsts noted rows next n at all same = record { row = n.row; added = n.added; fits = n.fits w at all same; numbered = n.numbered w at all same }

pub firsts-turn : (names more : List (List ℕ)) (nodes : List Node) (winners : List NodeWinners) (k : ℕ) (firsts noted : List ℕ) (rows next : List NodeStyles) → length rows ≡ k → length firsts ≡ k → AreFirsts rows firsts → AddsNext names more nodes winners k firsts noted rows next → AreFirsts next noted
firsts-turn names more nodes winners k firsts noted rows next len count same n j f at = by (get-push firsts n.first f j (subst (λ l. slice_get l j ≡ Some f) n.is_noted at))
  where
    kept : (i : ℕ) (r : NodeStyles) → slice_get rows i ≡ Some r → slice_get next i ≡ Some r
    kept i r h = subst (λ l. slice_get l i ≡ Some r) (sym n.added) (get-keep rows (n.row ∷ []) i r h)

    last : slice_get next k ≡ Some n.row
    last = subst (λ l. slice_get l k ≡ Some n.row) (sym n.added) (subst (λ i. slice_get (rows ++ n.row ∷ []) i ≡ Some n.row) len (get-end rows n.row))

    by : ((j ≡ length firsts) × (f ≡ n.first)) ⊎ (slice_get firsts j ≡ Some f) → HaveRow next j f
    by (inl (here, one)) = record { row = n.row; there = subst (λ i. slice_get next i ≡ Some n.row) (sym (here ∙ count)) last; first = subst (λ i. slice_get next i ≡ Some n.row) (sym one) n.shared }
    by (inr old) = let h = same j f old in record { row = h.row; there = kept j h.row h.there; first = kept f h.row h.first }

pub noted-turn : (names more : List (List ℕ)) (nodes : List Node) (winners : List NodeWinners) (k : ℕ) (firsts noted : List ℕ) (rows next : List NodeStyles) → length firsts ≡ k → AddsNext names more nodes winners k firsts noted rows next → length noted ≡ k + 1
noted-turn names more nodes winners k firsts noted rows next count n = ap length n.is_noted ∙ length-append firsts (n.first ∷ []) ∙ ap (λ i. i + 1) count

pub none-noted : (rows : List NodeStyles) (firsts : List ℕ) → firsts ≡ [] → AreFirsts rows firsts × (length firsts ≡ 0)
none-noted rows firsts e = ((λ k f at. let h : slice_get [] k ≡ Some f = subst (λ l. slice_get l k ≡ Some f) e at in cc), rw e refl)
