-- Rows of nodes, and names that grow.
use Rattle.std.proofs.Common.{◌≡◌, ℕ, ℤ, ◌+◌, ◌<◌, ◌≤◌, Bool, true, false, List, [], ◌∷◌, ◌++◌, Option, None, Some, Result, Ok, Err, OnOk, is_some, length, length-append, unwrap_or, slice_get, refl, sym, ◌∙◌, ap, subst, arith, ◌⊎◌, inl, inr}
use Rattle.std.proofs.lemmas.Option.{slice_get_within, same_Some}
use Rattle.std.specs.Option.{option_to_list}
use Rattle.bk_num.proofs.ListLemmas.{get-push, get-before}
use Rattle.dom.specs.Nodes.{Node, IsTree, parents_of, parent_at, name_at}
use Rattle.dom.proofs.WalkLemmas.{parent-below}
use Rattle.style.specs.Nodes.{NodeStyles, change_last, own_style}
use Rattle.style.specs.declared.style.Style.{Style}
use Rattle.style.specs.declared.long.Long.{Long}
use Rattle.cascade.specs.declared.table.NodeWinners.{NodeWinners}
use Rattle.computed.specs.Names.{page_in, with_names}
use Rattle.computed.specs.Walk.{IsPage, IsStyle, HasPseudo, IsElement, IsNode, AreNodes, Adds, AddsElement, Extends, style_above, root_above, is_shown_below, is_note_below, is_in_note_below, parent_row}
use Rattle.computed.specs.Rows.{PseudoStyles, all_put, AreGenerated, generated_names}
use Rattle.computed.proofs.NameLemmas.{then-names}

pub then-extends : (a b c : List (List ℕ)) → Extends a b → Extends b c → Extends a c
then-extends a b c h g = λ k t e. g k t (h k t e)

page-keep : (names more : List (List ℕ)) → Extends names more → (parent : ℕ) (o : Option (List ℕ)) (n : ℕ) → IsPage names parent o n → IsPage more parent o n
page-keep names more e parent None n h = h
page-keep names more e parent (Some name) n h = e n name h

pub style-keep : (names more : List (List ℕ)) → Extends names more → (p : Style) (root : Option ℤ) (w : List Long) (s : Style) → IsStyle names p root w s → IsStyle more p root w s
style-keep names more e p root w s h = record { values = h.values; page = page-keep names more e p.page.0 (page_in w) s.page.0 h.page }

pub pseudo-keep : (names more : List (List ℕ)) → Extends names more → (own : Style) (root : ℤ) (allowed : Bool) (w : List Long) (o : Option Style) → HasPseudo names own root allowed w o → HasPseudo more own root allowed w o
pseudo-keep names more e own root allowed w None h = h
pseudo-keep names more e own root allowed w (Some s) h = (h.0, record { values = h.1.values; page = page-keep names more e own.page.0 (page_in w) s.page.0 h.1.page })

pub change-same : {A : Type 0} (xs : List A) → change_last (λ x. x) xs ≡ xs
change-same [] = refl
change-same (x ∷ []) = refl
change-same (x ∷ (y ∷ ys)) = ap (λ zs. x ∷ zs) (change-same (y ∷ ys))

change-end : {A : Type 0} (f : A → A) (xs : List A) (x : A) → change_last f (xs ++ x ∷ []) ≡ xs ++ f x ∷ []
change-end f [] x = refl
change-end f (y ∷ []) x = refl
change-end f (y ∷ (z ∷ zs)) x = ap (λ ws. y ∷ ws) (change-end f (z ∷ zs) x)

pub change-some : {A : Type 0} (f : A → A) (xs : List A) → 0 < length xs → 0 < length (change_last f xs)
change-some f [] h = h
change-some f (x ∷ []) h = omega arith
change-some f (x ∷ (y ∷ ys)) h = omega arith

abbrev whole : Style → Bool → Bool → Bool → PseudoStyles → NodeStyles
whole s shown note in_note g = record { own = Some s; before = g.before; after = g.after; call = g.call; marker = g.marker; shown = shown; note = note; in_note = in_note }

ends : {A : Type 0} (rows : List A) (r : A) (f g h k : A → A) → change_last f (change_last g (change_last h (change_last k (rows ++ r ∷ [])))) ≡ rows ++ f (g (h (k r))) ∷ []
ends rows r f g h k = rw (change-end k rows r, change-end h rows (k r), change-end g rows (h (k r)), change-end f rows (g (h (k r)))) refl

put-end : (rows : List NodeStyles) (s : Style) (shown note in_note : Bool) (b a c m : Option Style) → all_put (record { before = b; after = a; call = c; marker = m }) (rows ++ own_style s shown note in_note ∷ []) ≡ rows ++ whole s shown note in_note (record { before = b; after = a; call = c; marker = m }) ∷ []
put-end rows s shown note in_note None None None None = ends rows (own_style s shown note in_note) _ _ _ _
put-end rows s shown note in_note None None None (Some m) = ends rows (own_style s shown note in_note) _ _ _ _
put-end rows s shown note in_note None None (Some c) None = ends rows (own_style s shown note in_note) _ _ _ _
put-end rows s shown note in_note None None (Some c) (Some m) = ends rows (own_style s shown note in_note) _ _ _ _
put-end rows s shown note in_note None (Some a) None None = ends rows (own_style s shown note in_note) _ _ _ _
put-end rows s shown note in_note None (Some a) None (Some m) = ends rows (own_style s shown note in_note) _ _ _ _
put-end rows s shown note in_note None (Some a) (Some c) None = ends rows (own_style s shown note in_note) _ _ _ _
put-end rows s shown note in_note None (Some a) (Some c) (Some m) = ends rows (own_style s shown note in_note) _ _ _ _
put-end rows s shown note in_note (Some b) None None None = ends rows (own_style s shown note in_note) _ _ _ _
put-end rows s shown note in_note (Some b) None None (Some m) = ends rows (own_style s shown note in_note) _ _ _ _
put-end rows s shown note in_note (Some b) None (Some c) None = ends rows (own_style s shown note in_note) _ _ _ _
put-end rows s shown note in_note (Some b) None (Some c) (Some m) = ends rows (own_style s shown note in_note) _ _ _ _
put-end rows s shown note in_note (Some b) (Some a) None None = ends rows (own_style s shown note in_note) _ _ _ _
put-end rows s shown note in_note (Some b) (Some a) None (Some m) = ends rows (own_style s shown note in_note) _ _ _ _
put-end rows s shown note in_note (Some b) (Some a) (Some c) None = ends rows (own_style s shown note in_note) _ _ _ _
put-end rows s shown note in_note (Some b) (Some a) (Some c) (Some m) = ends rows (own_style s shown note in_note) _ _ _ _

-- an element's row is there
pub element-added : {A E : Type 0} (res : Result A E) (old names more : List (List ℕ)) → Extends names more → (parent : Option ℕ) (w : NodeWinners) (rows mid new : List NodeStyles) (s : Style) (shown note in_note : Bool) (g : PseudoStyles) → IsStyle names (style_above (parent_row rows parent)) (root_above rows parent) w.own s → shown ≡ is_shown_below parent rows s → note ≡ is_note_below parent rows s → in_note ≡ is_in_note_below parent rows note → AreGenerated more s (unwrap_or (root_above rows parent) s.font_size) shown note w g → names ≡ with_names old (option_to_list (page_in w.own)) → more ≡ with_names names (generated_names w g) → mid ≡ rows ++ own_style s shown note in_note ∷ [] → OnOk res (new ≡ all_put g mid) → OnOk res (AddsElement old more parent w rows new)
element-added (Ok a) old names more e parent w rows mid new s shown note in_note g v h1 h2 h3 gs n1 n2 m ok = record {
  row = whole s shown note in_note g;
  added = ok ∙ ap (all_put g) m ∙ put-end rows s shown note in_note g.before g.after g.call g.marker;
  fits = record { style = s; own = refl; values = style-keep names more e (style_above (parent_row rows parent)) (root_above rows parent) w.own s v; shown = h1; note = h2; in_note = h3; before = gs.before; after = gs.after; call = gs.call; marker = gs.marker };
  numbered = then-names old names more (option_to_list (page_in w.own)) (generated_names w g) n1 n2;
}
element-added (Err a) old names more e parent w rows mid new s shown note in_note g v h1 h2 h3 gs n1 n2 m ok = tt

-- the rows of a node's parent and of the root stay
element-keep : (names more : List (List ℕ)) → Extends names more → (rows : List NodeStyles) (row : NodeStyles) (parent : Option ℕ) → ((p : ℕ) → parent ≡ Some p → p < length rows) → (w : NodeWinners) (r : NodeStyles) → IsElement names rows parent w r → IsElement more (rows ++ row ∷ []) parent w r
element-keep names more e rows row None low w r h = record { style = h.style; own = h.own; values = style-keep names more e (style_above None) None w.own h.style h.values; shown = h.shown; note = h.note; in_note = h.in_note; before = pseudo-keep names more e h.style h.style.font_size r.shown w.before r.before h.before; after = pseudo-keep names more e h.style h.style.font_size r.shown w.after r.after h.after; call = pseudo-keep names more e h.style h.style.font_size r.note w.call r.call h.call; marker = pseudo-keep names more e h.style h.style.font_size r.note w.marker r.marker h.marker }
element-keep names more e rows row (Some p) low w r h =
    let l = low p refl in
    let at = get-before rows row p l in
    let first = get-before rows row 0 (omega arith) in
    record { style = h.style; own = h.own; values = rw (at, first) (style-keep names more e _ _ w.own h.style h.values); shown = rw at h.shown; note = rw at h.note; in_note = rw at h.in_note; before = rw first (pseudo-keep names more e h.style _ r.shown w.before r.before h.before); after = rw first (pseudo-keep names more e h.style _ r.shown w.after r.after h.after); call = rw first (pseudo-keep names more e h.style _ r.note w.call r.call h.call); marker = rw first (pseudo-keep names more e h.style _ r.note w.marker r.marker h.marker) }

node-keep : (names more : List (List ℕ)) → Extends names more → (rows : List NodeStyles) (row : NodeStyles) (parent : Option ℕ) → ((p : ℕ) → parent ≡ Some p → p < length rows) → (b : Bool) (w : NodeWinners) (r : NodeStyles) → IsNode names rows parent b w r → IsNode more (rows ++ row ∷ []) parent b w r
node-keep names more e rows row parent low false w r h = h
node-keep names more e rows row parent low true w r h = element-keep names more e rows row parent low w r h

pub nodes-turn : (names more : List (List ℕ)) (nodes : List Node) (winners : List NodeWinners) (i : ℕ) (w : NodeWinners) (rows next : List NodeStyles) → IsTree nodes → slice_get winners i ≡ Some w → length rows ≡ i → AreNodes names nodes winners rows → Extends names more → Adds names more nodes i w rows next → AreNodes more nodes winners next
nodes-turn names more nodes winners i w rows next tree at len all e adds k v r hw hr = by (get-push rows adds.row r k (subst (λ l. slice_get l k ≡ Some r) adds.added hr))
  where
    low : k ≤ i → (p : ℕ) → parent_at (parents_of nodes) k ≡ Some p → p < length rows
    low l p h = let f = parent-below nodes tree k p h in omega arith

    by : ((k ≡ length rows) × (r ≡ adds.row)) ⊎ (slice_get rows k ≡ Some r) → IsNode more next (parent_at (parents_of nodes) k) (is_some (name_at nodes k)) v r
    by (inl (here, same)) =
        let place : k ≡ i = here ∙ len in
        let winner : v ≡ w = same_Some _ _ (sym hw ∙ ap (slice_get winners) place ∙ at) in
        subst (λ l. IsNode more l (parent_at (parents_of nodes) k) (is_some (name_at nodes k)) v r) (sym adds.added) (node-keep more more (λ j t g. g) rows adds.row _ (low (omega arith)) _ v r (rw (winner, same, place) adds.fits))
    by (inr old) =
        let within = slice_get_within rows k r old in
        subst (λ l. IsNode more l (parent_at (parents_of nodes) k) (is_some (name_at nodes k)) v r) (sym adds.added) (node-keep names more e rows adds.row _ (low (omega arith)) _ v r (all k v r hw old))

pub count-turn : (names more : List (List ℕ)) (nodes : List Node) (i : ℕ) (w : NodeWinners) (rows next : List NodeStyles) → length rows ≡ i → Adds names more nodes i w rows next → length next ≡ i + 1
count-turn names more nodes i w rows next len adds = ap length adds.added ∙ length-append rows (adds.row ∷ []) ∙ ap (λ n. n + 1) len

pub put-length : {A E B : Type 0} (res : Result A E) (f : B → B) (old new : List B) → OnOk res (new ≡ change_last f old) → 0 < length old → OnOk res (0 < length new)
put-length (Ok a) f old new ok h = rw ok (change-some f old h)
put-length (Err a) f old new ok h = tt

pub none-yet : (names : List (List ℕ)) (nodes : List Node) (winners : List NodeWinners) (rows : List NodeStyles) → rows ≡ [] → AreNodes names nodes winners rows × (length rows ≡ 0)
none-yet names nodes winners rows e = ((λ k w r hw hr. let h : slice_get [] k ≡ Some r = subst (λ l. slice_get l k ≡ Some r) e hr in cc), rw e refl)
