-- A document has one list of page names and one list of styles.
use Rattle.std.proofs.Common.{◌≡◌, ◌∙◌, ℕ, ℤ, zero, suc, ◌<◌, Bool, true, false, List, [], ◌∷◌, ◌++◌, Option, None, Some, is_some, length, map, option_map, slice_get, refl, sym, ap, subst, arith}
use Rattle.std.proofs.lemmas.Option.{same_Some}
use Rattle.dom.specs.NameLists.{AreOnce}
use Rattle.dom.specs.Nodes.{Node, IsTree, parents_of, parent_at, name_at}
use Rattle.dom.proofs.WalkLemmas.{parent-below}
use Rattle.style.specs.Nodes.{NodeStyles}
use Rattle.style.specs.declared.style.Style.{Style}
use Rattle.style.specs.declared.long.Long.{Long}
use Rattle.cascade.specs.Laws.{WinnersAreOne}
use Rattle.cascade.specs.declared.table.NodeWinners.{NodeWinners}
use Rattle.computed.specs.Names.{page_in, given_names, node_names, page_names, with_names}
use Rattle.computed.specs.Walk.{IsStyle, HasPseudo, IsElement, IsNode, AreStyles, style_above, root_above, parent_row}
use Rattle.computed.specs.Laws.{StylesAreOne}
use Rattle.computed.proofs.NameLemmas.{are-once, one-number}
use Rattle.computed.proofs.OneLemmas.{same_places, past_within, one_winners, unnamed, unnamed_node, one_list, same_below}

-- ---- the names that are given don't depend on their numbers

given-unnamed : (w : List Long) (o : Option Style) → given_names w o ≡ given_names w (option_map unnamed o)
given-unnamed w None = refl
given-unnamed w (Some s) = refl

node-unnamed : (w : NodeWinners) (r : NodeStyles) → node_names w r ≡ node_names w (unnamed_node r)
node-unnamed w r =
    let own = given-unnamed w.own r.own in
    let before = given-unnamed w.before r.before in
    let after = given-unnamed w.after r.after in
    let call = given-unnamed w.call r.call in
    let marker = given-unnamed w.marker r.marker in
    λ i. own i ++ (before i ++ (after i ++ (call i ++ marker i)))

all-unnamed : (ws : List NodeWinners) (rows : List NodeStyles) → page_names ws rows ≡ page_names ws (map unnamed_node rows)
all-unnamed [] rows = refl
all-unnamed (w ∷ ws) [] = refl
all-unnamed (w ∷ ws) (r ∷ rows) = ap (λ l. l ++ page_names ws rows) (node-unnamed w r) ∙ ap (λ l. node_names w (unnamed_node r) ++ l) (all-unnamed ws rows)

-- ---- styles with the same numbers are the same

whole-style : (s t : Style) → unnamed s ≡ unnamed t → s.page.0 ≡ t.page.0 → s ≡ t
whole-style s t e n = λ i. record (e i) { page = record { 0 = n i } }

own-one : (names : List (List ℕ)) → AreOnce names → (p q : Style) (r z : Option ℤ) (w : List Long) (s t : Style) → p ≡ q → IsStyle names p r w s → IsStyle names q z w t → s.page.0 ≡ t.page.0
own-one names once p q r z w s t e h g = one-number names once p.page.0 q.page.0 (page_in w) s.page.0 t.page.0 (ap (λ (x : Style). x.page.0) e) h.page g.page

pseudo-one : (names : List (List ℕ)) → AreOnce names → (own other : Style) (r z : ℤ) (m n : Bool) (w : List Long) (o p : Option Style) → own.page.0 ≡ other.page.0 → option_map unnamed o ≡ option_map unnamed p → HasPseudo names own r m w o → HasPseudo names other z n w p → o ≡ p
pseudo-one names once own other r z m n w None None f e h g = refl
pseudo-one names once own other r z m n w None (Some t) f e h g = cc
pseudo-one names once own other r z m n w (Some s) None f e h g = cc
pseudo-one names once own other r z m n w (Some s) (Some t) f e h g =
    let number = one-number names once own.page.0 other.page.0 (page_in w) s.page.0 t.page.0 f h.1.page g.1.page in
    ap (λ x. Some x) (whole-style s t (same_Some _ _ e) number)

module _ (names : List (List ℕ)) (once : AreOnce names) (rows others : List NodeStyles) where
  abbrev SameAt : ℕ → Type 0
  SameAt k = slice_get rows k ≡ slice_get others k

  value-same : (parent : Option ℕ) → ((p : ℕ) → parent ≡ Some p → SameAt p) → parent_row rows parent ≡ parent_row others parent
  value-same None low = refl
  value-same (Some p) low = low p refl

  element-one : (parent : Option ℕ) (w : NodeWinners) (a b : NodeStyles) → ((p : ℕ) → parent ≡ Some p → SameAt p) → unnamed_node a ≡ unnamed_node b → IsElement names rows parent w a → IsElement names others parent w b → a ≡ b
  element-one parent w a b low e h g =
      let above : style_above (parent_row rows parent) ≡ style_above (parent_row others parent) = ap style_above (value-same parent low) in
      let styles : option_map unnamed a.own ≡ option_map unnamed b.own = ap (λ (r : NodeStyles). r.own) e in
      let style : unnamed h.style ≡ unnamed g.style = same_Some _ _ (sym (ap (option_map unnamed) h.own) ∙ styles ∙ ap (option_map unnamed) g.own) in
      let page : h.style.page.0 ≡ g.style.page.0 = own-one names once (style_above (parent_row rows parent)) (style_above (parent_row others parent)) (root_above rows parent) (root_above others parent) w.own h.style g.style above h.values g.values in
      let own : a.own ≡ b.own = h.own ∙ ap (λ x. Some x) (whole-style h.style g.style style page) ∙ sym g.own in
      let before = pseudo-one names once h.style g.style _ _ a.shown b.shown w.before a.before b.before page (ap (λ (r : NodeStyles). r.before) e) h.before g.before in
      let after = pseudo-one names once h.style g.style _ _ a.shown b.shown w.after a.after b.after page (ap (λ (r : NodeStyles). r.after) e) h.after g.after in
      let call = pseudo-one names once h.style g.style _ _ a.note b.note w.call a.call b.call page (ap (λ (r : NodeStyles). r.call) e) h.call g.call in
      let marker = pseudo-one names once h.style g.style _ _ a.note b.note w.marker a.marker b.marker page (ap (λ (r : NodeStyles). r.marker) e) h.marker g.marker in
      let shown : a.shown ≡ b.shown = ap (λ (r : NodeStyles). r.shown) e in
      let note : a.note ≡ b.note = ap (λ (r : NodeStyles). r.note) e in
      let in_note : a.in_note ≡ b.in_note = ap (λ (r : NodeStyles). r.in_note) e in
      λ i. record { own = own i; before = before i; after = after i; call = call i; marker = marker i; shown = shown i; note = note i; in_note = in_note i }

  node-one : (parent : Option ℕ) (element : Bool) (w : NodeWinners) (a b : NodeStyles) → ((p : ℕ) → parent ≡ Some p → SameAt p) → unnamed_node a ≡ unnamed_node b → IsNode names rows parent element w a → IsNode names others parent element w b → a ≡ b
  node-one parent false w a b low e h g = h ∙ sym g
  node-one parent true w a b low e h g = element-one parent w a b low e h g

  module _ (dom : List Node) (winners : List NodeWinners) (tree : IsTree dom) (full : length winners ≡ length dom) (x : AreStyles names dom winners rows) (y : AreStyles names dom winners others) where
    turn : (k : ℕ) → ((j : ℕ) → j < k → SameAt j) → SameAt k
    turn k before = by (slice_get rows k) (slice_get others k) (slice_get winners k) refl refl refl
      where
        low : (p : ℕ) → parent_at (parents_of dom) k ≡ Some p → SameAt p
        low p e = before p (parent-below dom tree k p e)

        by : (o p : Option NodeStyles) (w : Option NodeWinners) → slice_get rows k ≡ o → slice_get others k ≡ p → slice_get winners k ≡ w → SameAt k
        by None None w h g i = h ∙ sym g
        by None (Some b) w h g i = absurd (past_within rows others k b (x.count ∙ sym y.count) h g)
        by (Some a) None w h g i = absurd (past_within others rows k a (y.count ∙ sym x.count) g h)
        by (Some a) (Some b) None h g i = absurd (past_within winners rows k a (full ∙ sym x.count) i h)
        by (Some a) (Some b) (Some w) h g i =
            let places = same_below names names rows others dom winners tree full x y (suc k) k (omega arith) in
            let unnumbered : unnamed_node a ≡ unnamed_node b = same_Some _ _ (sym (ap (option_map unnamed_node) h) ∙ places ∙ ap (option_map unnamed_node) g) in
            let same = node-one (parent_at (parents_of dom) k) (is_some (name_at dom k)) w a b low unnumbered (x.each k w a i h) (y.each k w b i g) in
            h ∙ ap (λ z. Some z) same ∙ sym g

    all-below : (n k : ℕ) → k < n → SameAt k
    all-below zero k l = absurd (omega arith)
    all-below (suc n) k l = turn k (λ j m. all-below n j (omega arith))

    rows-one : rows ≡ others
    rows-one = same_places rows others (λ k. all-below (suc k) k (omega arith))

pub styles-one : WinnersAreOne → StylesAreOne
styles-one one dom sheets names more rows others tree x y =
    let won : x.winners ≡ y.winners = one_winners one dom sheets x.winners y.winners x.are_winners y.are_winners in
    let mine : AreStyles names dom y.winners rows = subst (λ ws. AreStyles names dom ws rows) won x.styles in
    let full = y.are_winners.count in
    let unnumbered = one_list names more rows others dom y.winners tree full mine y.styles in
    let given : page_names y.winners rows ≡ page_names y.winners others = all-unnamed y.winners rows ∙ ap (page_names y.winners) unnumbered ∙ sym (all-unnamed y.winners others) in
    let same : names ≡ more = mine.numbered ∙ ap (with_names ([] ∷ [])) given ∙ sym y.styles.numbered in
    let once : AreOnce more = subst AreOnce (sym y.styles.numbered) (are-once y.winners others) in
    (same, rows-one more once rows others dom y.winners tree full (subst (λ l. AreStyles l dom y.winners rows) same mine) y.styles)
