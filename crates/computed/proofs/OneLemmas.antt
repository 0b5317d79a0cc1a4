-- A document has one list of styles but for the numbers of page names.
use Rattle.std.proofs.Common.{◌≡◌, ◌∙◌, ℕ, zero, suc, ℤ, ◌<◌, Bool, true, false, not, ◌&&◌, ◌||◌, List, [], ◌∷◌, Option, None, Some, is_some, length, map, option_map, unwrap_or, slice_get, refl, sym, ap, arith}
use Rattle.bk_num.proofs.ListLemmas.{get-none}
use Rattle.std.proofs.lemmas.Option.{slice_get-map, slice_get_within, same_Some}
use Rattle.bk_num.specs.declared.values.Pseudo.TheVariants as pseudo
use Rattle.dom.specs.Nodes.{Node, IsTree, parents_of, parent_at, name_at}
use Rattle.dom.proofs.WalkLemmas.{parent-below}
use Rattle.style.specs.Nodes.{NodeStyles, style_of, style_at, is_shown_in, is_in_note_in}
use Rattle.style.specs.Styles.{initial_style}
use Rattle.style.specs.declared.style.Style.{Style}
use Rattle.style.specs.declared.long.Long.{Long}
use Rattle.cascade.specs.Document.{AreNodeWinners, AreAllWinners}
use Rattle.cascade.specs.Laws.{WinnersAreOne}
use Rattle.cascade.specs.declared.sheet.ReadSheet.{ReadSheet}
use Rattle.cascade.specs.declared.table.NodeWinners.{NodeWinners}
use Rattle.computed.specs.Applied.{computed_style, inline_display}
use Rattle.computed.specs.Walk.{IsStyle, HasPseudo, IsElement, IsNode, AreStyles, style_above, root_above, font_of, is_shown_below, is_note_below, is_in_note_below, is_displayed, is_generated, parent_row}

-- ---- lists by their places

pub same_places : {A : Type 0} (xs ys : List A) → ((k : ℕ) → slice_get xs k ≡ slice_get ys k) → xs ≡ ys
same_places [] [] h = refl
same_places [] (y ∷ ys) h = let e = h 0 in cc
same_places (x ∷ xs) [] h = let e = h 0 in cc
same_places (x ∷ xs) (y ∷ ys) h =
    let e = h 0 in
    let first : x ≡ y = same_Some _ _ e in
    ap (λ z. z ∷ xs) first ∙ ap (λ zs. y ∷ zs) (same_places xs ys (λ k. h (suc k)))

-- lists of one length end at one place
pub past_within : {A B : Type 0} (xs : List A) (ys : List B) (k : ℕ) (y : B) → length xs ≡ length ys → slice_get xs k ≡ None → slice_get ys k ≡ Some y → ⊥
past_within xs ys k y e h g =
    let past = get-none xs k h in
    let within = slice_get_within ys k y g in
    omega arith

-- ---- one list of winners

one_node : WinnersAreOne → (dom : List Node) (sheets : List ReadSheet) (n : ℕ) (v w : NodeWinners) → AreNodeWinners dom sheets n v → AreNodeWinners dom sheets n w → v ≡ w
one_node one dom sheets n v w a b =
    let own : v.own ≡ w.own = one dom sheets n pseudo.Element v.own w.own a.own b.own in
    let before : v.before ≡ w.before = one dom sheets n pseudo.Before v.before w.before a.before b.before in
    let after : v.after ≡ w.after = one dom sheets n pseudo.After v.after w.after a.after b.after in
    let call : v.call ≡ w.call = one dom sheets n pseudo.Call v.call w.call a.call b.call in
    let marker : v.marker ≡ w.marker = one dom sheets n pseudo.Marker v.marker w.marker a.marker b.marker in
    λ i. record { own = own i; before = before i; after = after i; call = call i; marker = marker i }

pub one_winners : WinnersAreOne → (dom : List Node) (sheets : List ReadSheet) (vs ws : List NodeWinners) → AreAllWinners dom sheets vs → AreAllWinners dom sheets ws → vs ≡ ws
one_winners one dom sheets vs ws a b = same_places vs ws (λ k. by k (slice_get vs k) (slice_get ws k) refl refl)
  where
    by : (k : ℕ) (o p : Option NodeWinners) → slice_get vs k ≡ o → slice_get ws k ≡ p → slice_get vs k ≡ slice_get ws k
    by k None None h g = h ∙ sym g
    by k None (Some w) h g = absurd (past_within vs ws k w (a.count ∙ sym b.count) h g)
    by k (Some v) None h g = absurd (past_within ws vs k v (b.count ∙ sym a.count) g h)
    by k (Some v) (Some w) h g = h ∙ ap (λ x. Some x) (one_node one dom sheets k v w (a.each k v h) (b.each k w g)) ∙ sym g

-- ---- a style is one

-- a style without the number of its page name
abbrev pub unnamed : Style → Style
unnamed s = record s { page = record { 0 = 0 } }

-- what a node has, without the numbers of page names
abbrev pub unnamed_node : NodeStyles → NodeStyles
unnamed_node r = record {
  own = option_map unnamed r.own;
  before = option_map unnamed r.before;
  after = option_map unnamed r.after;
  call = option_map unnamed r.call;
  marker = option_map unnamed r.marker;
  shown = r.shown;
  note = r.note;
  in_note = r.in_note;
}

-- the number of the parent's page name changes no value
by_unnamed : (p : Style) (root : Option ℤ) (w : List Long) → computed_style p root w ≡ computed_style (unnamed p) root w
by_unnamed p root w = refl

same_computed : (p q : Style) (r s : Option ℤ) (w : List Long) → unnamed p ≡ unnamed q → r ≡ s → computed_style p r w ≡ computed_style q s w
same_computed p q r s w e f = by_unnamed p r w ∙ ap (λ (x : Style). computed_style x r w) e ∙ sym (by_unnamed q r w) ∙ ap (λ x. computed_style q x w) f

one_style : (names more : List (List ℕ)) (p q : Style) (r s : Option ℤ) (w : List Long) (a b : Style) → unnamed p ≡ unnamed q → r ≡ s → IsStyle names p r w a → IsStyle more q s w b → unnamed a ≡ unnamed b
one_style names more p q r s w a b e f h g = ap unnamed h.values ∙ ap unnamed (same_computed p q r s w e f) ∙ sym (ap unnamed g.values)

-- ---- a pseudo-element's style is one

abbrev inlined : Style → Style
inlined s = record s { display = inline_display s.display }

abbrev pseudo_by : Bool → Style → Option Style
pseudo_by true s = Some s
pseudo_by false s = None

abbrev pseudo_of : Bool → Style → Option Style
pseudo_of allowed s = pseudo_by (allowed && is_generated s) (unnamed (inlined s))

pseudo_is : (names : List (List ℕ)) (own : Style) (root : ℤ) (allowed : Bool) (w : List Long) (o : Option Style) → HasPseudo names own root allowed w o → option_map unnamed o ≡ pseudo_of allowed (computed_style own (Some root) w)
pseudo_is names own root allowed w None h = sym (ap (λ b. pseudo_by b (unnamed (inlined (computed_style own (Some root) w)))) h)
pseudo_is names own root allowed w (Some s) h = ap (λ (x : Style). Some (unnamed x)) h.1.values ∙ sym (ap (λ b. pseudo_by b (unnamed (inlined (computed_style own (Some root) w)))) h.0)

one_pseudo : (names more : List (List ℕ)) (own other : Style) (r s : ℤ) (m n : Bool) (w : List Long) (o p : Option Style) → unnamed own ≡ unnamed other → r ≡ s → m ≡ n → HasPseudo names own r m w o → HasPseudo more other s n w p → option_map unnamed o ≡ option_map unnamed p
one_pseudo names more own other r s m n w o p e f a h g =
    pseudo_is names own r m w o h
    ∙ ap (pseudo_of m) (same_computed own other (Some r) (Some s) w e (ap (λ x. Some x) f))
    ∙ ap (λ b. pseudo_of b (computed_style other (Some s) w)) a
    ∙ sym (pseudo_is more other s n w p g)

-- ---- what is above a node

above_unnamed : (o : Option NodeStyles) → unnamed (style_above o) ≡ style_above (option_map unnamed_node o)
above_unnamed None = refl
above_unnamed (Some a) = by a.own
  where
    by : (s : Option Style) → unnamed (unwrap_or s initial_style) ≡ unwrap_or (option_map unnamed s) initial_style
    by None = refl
    by (Some s) = refl

shown_unnamed : (o : Option NodeStyles) → is_shown_in o ≡ is_shown_in (option_map unnamed_node o)
shown_unnamed None = refl
shown_unnamed (Some a) = refl

in_note_unnamed : (o : Option NodeStyles) → is_in_note_in o ≡ is_in_note_in (option_map unnamed_node o)
in_note_unnamed None = refl
in_note_unnamed (Some a) = refl

font_unnamed : (o : Option NodeStyles) → font_of (style_of o pseudo.Element) ≡ font_of (style_of (option_map unnamed_node o) pseudo.Element)
font_unnamed None = refl
font_unnamed (Some a) = by a.own
  where
    by : (s : Option Style) → font_of s ≡ font_of (option_map unnamed s)
    by None = refl
    by (Some s) = refl

module _ (names more : List (List ℕ)) (rows others : List NodeStyles) where
  abbrev Same : ℕ → Type 0
  Same k = option_map unnamed_node (slice_get rows k) ≡ option_map unnamed_node (slice_get others k)

  abbrev IsSameAbove : Option ℕ → Type 0
  IsSameAbove parent = (p : ℕ) → parent ≡ Some p → Same p × Same 0

  same_value : (parent : Option ℕ) → IsSameAbove parent → option_map unnamed_node (parent_row rows parent) ≡ option_map unnamed_node (parent_row others parent)
  same_value None low = refl
  same_value (Some p) low = let h = low p refl in h.0

  same_above : (o p : Option NodeStyles) → option_map unnamed_node o ≡ option_map unnamed_node p → unnamed (style_above o) ≡ unnamed (style_above p)
  same_above o p e = above_unnamed o ∙ ap style_above e ∙ sym (above_unnamed p)

  same_shown_in : (p : ℕ) → Same p → is_shown_in (slice_get rows p) ≡ is_shown_in (slice_get others p)
  same_shown_in p e = shown_unnamed (slice_get rows p) ∙ ap is_shown_in e ∙ sym (shown_unnamed (slice_get others p))

  same_in_note_in : (p : ℕ) → Same p → is_in_note_in (slice_get rows p) ≡ is_in_note_in (slice_get others p)
  same_in_note_in p e = in_note_unnamed (slice_get rows p) ∙ ap is_in_note_in e ∙ sym (in_note_unnamed (slice_get others p))

  same_font : Same 0 → font_of (style_at rows 0 pseudo.Element) ≡ font_of (style_at others 0 pseudo.Element)
  same_font e = font_unnamed (slice_get rows 0) ∙ ap (λ (o : Option NodeStyles). font_of (style_of o pseudo.Element)) e ∙ sym (font_unnamed (slice_get others 0))

  same_root : (parent : Option ℕ) → IsSameAbove parent → root_above rows parent ≡ root_above others parent
  same_root None low = refl
  same_root (Some p) low = let h = low p refl in ap (λ z. Some z) (same_font h.1)

  same_shown : (parent : Option ℕ) → IsSameAbove parent → (s t : Style) → unnamed s ≡ unnamed t → is_shown_below parent rows s ≡ is_shown_below parent others t
  same_shown None low s t e = refl
  same_shown (Some p) low s t e =
      let h = low p refl in
      let display : s.display ≡ t.display = ap (λ (x : Style). x.display) e in
      let in_parent = same_shown_in p h.0 in
      ap (λ b. b && is_displayed s.display) in_parent ∙ ap (λ d. is_shown_in (slice_get others p) && is_displayed d) display

  same_note : (parent : Option ℕ) → IsSameAbove parent → (s t : Style) → unnamed s ≡ unnamed t → is_note_below parent rows s ≡ is_note_below parent others t
  same_note None low s t e = refl
  same_note (Some p) low s t e =
      let h = low p refl in
      let float : s.float ≡ t.float = ap (λ (x : Style). x.float) e in
      let shown = same_shown (Some p) low s t e in
      let in_parent = same_in_note_in p h.0 in
      ap (λ b. b && (s.float && not (is_in_note_in (slice_get rows p)))) shown
      ∙ ap (λ f. is_shown_below (Some p) others t && (f && not (is_in_note_in (slice_get rows p)))) float
      ∙ ap (λ b. is_shown_below (Some p) others t && (t.float && not b)) in_parent

  same_in_note : (parent : Option ℕ) → IsSameAbove parent → (m n : Bool) → m ≡ n → is_in_note_below parent rows m ≡ is_in_note_below parent others n
  same_in_note None low m n e = refl
  same_in_note (Some p) low m n e =
      let h = low p refl in
      ap (λ b. b || is_in_note_in (slice_get rows p)) e ∙ ap (λ b. n || b) (same_in_note_in p h.0)

  -- ---- a node's styles are one

  one_element : (parent : Option ℕ) (w : NodeWinners) (a b : NodeStyles) → IsSameAbove parent → IsElement names rows parent w a → IsElement more others parent w b → unnamed_node a ≡ unnamed_node b
  one_element parent w a b low h g =
      let root : root_above rows parent ≡ root_above others parent = same_root parent low in
      let s : unnamed h.style ≡ unnamed g.style = one_style names more (style_above (parent_row rows parent)) (style_above (parent_row others parent)) (root_above rows parent) (root_above others parent) w.own h.style g.style (same_above (parent_row rows parent) (parent_row others parent) (same_value parent low)) root h.values g.values in
      let own : option_map unnamed a.own ≡ option_map unnamed b.own = ap (option_map unnamed) h.own ∙ ap (λ x. Some x) s ∙ sym (ap (option_map unnamed) g.own) in
      let shown : a.shown ≡ b.shown = h.shown ∙ same_shown parent low h.style g.style s ∙ sym g.shown in
      let note : a.note ≡ b.note = h.note ∙ same_note parent low h.style g.style s ∙ sym g.note in
      let in_note : a.in_note ≡ b.in_note = h.in_note ∙ same_in_note parent low a.note b.note note ∙ sym g.in_note in
      let size : unwrap_or (root_above rows parent) h.style.font_size ≡ unwrap_or (root_above others parent) g.style.font_size = ap (λ o. unwrap_or o h.style.font_size) root ∙ ap (λ (x : Style). unwrap_or (root_above others parent) x.font_size) s in
      let before = one_pseudo names more h.style g.style _ _ a.shown b.shown w.before a.before b.before s size shown h.before g.before in
      let after = one_pseudo names more h.style g.style _ _ a.shown b.shown w.after a.after b.after s size shown h.after g.after in
      let call = one_pseudo names more h.style g.style _ _ a.note b.note w.call a.call b.call s size note h.call g.call in
      let marker = one_pseudo names more h.style g.style _ _ a.note b.note w.marker a.marker b.marker s size note h.marker g.marker in
      λ i. record { own = own i; before = before i; after = after i; call = call i; marker = marker i; shown = shown i; note = note i; in_note = in_note i }

  one_row : (parent : Option ℕ) (element : Bool) (w : NodeWinners) (a b : NodeStyles) → IsSameAbove parent → IsNode names rows parent element w a → IsNode more others parent element w b → unnamed_node a ≡ unnamed_node b
  one_row parent false w a b low h g = ap unnamed_node (h ∙ sym g)
  one_row parent true w a b low h g = one_element parent w a b low h g

  module _ (dom : List Node) (winners : List NodeWinners) (tree : IsTree dom) (full : length winners ≡ length dom) (x : AreStyles names dom winners rows) (y : AreStyles more dom winners others) where
    step : (k : ℕ) → ((j : ℕ) → j < k → Same j) → Same k
    step k before = by (slice_get rows k) (slice_get others k) (slice_get winners k) refl refl refl
      where
        low : IsSameAbove (parent_at (parents_of dom) k)
        low p e =
            let l = parent-below dom tree k p e in
            (before p l, before 0 (omega arith))

        by : (o p : Option NodeStyles) (w : Option NodeWinners) → slice_get rows k ≡ o → slice_get others k ≡ p → slice_get winners k ≡ w → Same k
        by None None w h g i = ap (option_map unnamed_node) (h ∙ sym g)
        by None (Some b) w h g i = absurd (past_within rows others k b (x.count ∙ sym y.count) h g)
        by (Some a) None w h g i = absurd (past_within others rows k a (y.count ∙ sym x.count) g h)
        by (Some a) (Some b) None h g i = absurd (past_within winners rows k a (full ∙ sym x.count) i h)
        by (Some a) (Some b) (Some w) h g i =
            let same : unnamed_node a ≡ unnamed_node b = one_row (parent_at (parents_of dom) k) (is_some (name_at dom k)) w a b low (x.each k w a i h) (y.each k w b i g) in
            ap (option_map unnamed_node) h ∙ ap (λ z. Some z) same ∙ sym (ap (option_map unnamed_node) g)

    pub same_below : (n k : ℕ) → k < n → Same k
    same_below zero k l = absurd (omega arith)
    same_below (suc n) k l = step k (λ j m. same_below n j (omega arith))

    pub one_list : map unnamed_node rows ≡ map unnamed_node others
    one_list = same_places (map unnamed_node rows) (map unnamed_node others) (λ k. slice_get-map unnamed_node rows k ∙ same_below (suc k) k (omega arith) ∙ sym (slice_get-map unnamed_node others k))
