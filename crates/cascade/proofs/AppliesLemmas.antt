-- What is listed for a node is what applies to it.
use Rattle.std.proofs.Common.{◌≡◌, ℕ, suc, zero, ◌+◌, ◌==◌, Bool, true, false, List, [], ◌∷◌, Option, None, Some, length, map, option_map, slice_get, cond, refl, sym, ◌∙◌, ap, subst, arith, ◌⊎◌, inl, inr}
use Rattle.bk_num.proofs.ListLemmas.{contains-get, get-contains, contains-none, contains-one, contains-map, contains-first, contains-more}
use Rattle.std.specs.List.{Contains, filter_map, cons_option}
use Rattle.std.proofs.lemmas.List.Elements.{Contains-append_left, Contains-append_right, Contains-append_cases}
use Rattle.std.proofs.lemmas.Option.{slice_get-map, same_Some}
use Rattle.bk_num.specs.declared.values.Pseudo.{Pseudo}
use Rattle.bk_num.specs.declared.values.Pseudo.TheVariants as pseudo
use Rattle.selectors.specs.Selectors.{SelectorView}
use Rattle.selectors.specs.Match.{Tree, Matches}
use Rattle.style.specs.declared.long.Long.{Long}
use Rattle.cascade.specs.declared.decl.ReadDecl.{ReadDecl}
use Rattle.cascade.specs.declared.sheet.ReadSheet.{ReadSheet}
use Rattle.cascade.specs.Candidates.{Declared, AppliedDeclsOf, DeclaredBy}
use Rattle.cascade.specs.Winners.{IsWinner, AreWinners}
use Rattle.cascade.specs.Document.{RuleIn, rules_of, weight_of, style_decls, IsRuleApplied, IsStyleApplied, Applies, IsDeclaredAt}
use Rattle.cascade.specs.Selected.{SelectedOf, offered, offered_by, selected_by, selected_from, selectors_of, is_same, named, named_at, style_rule, style_rules, rules_at, ArePlaces}

-- ---- elements of lists

of_map : {A B : Type 0} (f : A → B) (xs : List A) (y : B) → Contains (map f xs) y → (x : A) × Contains xs x × (f x ≡ y)
of_map {A = A} f xs y h = let g = contains-get (map f xs) y h in by (slice_get xs g.0) refl (sym (slice_get-map f xs g.0) ∙ g.1)
  where
    by : (o : Option A) → slice_get xs (contains-get (map f xs) y h).0 ≡ o → option_map f o ≡ Some y → (x : A) × Contains xs x × (f x ≡ y)
    by None at e = cc
    by (Some x) at e = (x, get-contains xs (contains-get (map f xs) y h).0 x at, same_Some _ _ e)

of_filter : {A B : Type 0} (h : A → Option B) (xs : List A) (y : B) → Contains (filter_map h xs) y → (x : A) × Contains xs x × (h x ≡ Some y)
of_filter h [] y c = absurd (contains-none y c)
of_filter {A = A} {B = B} h (x ∷ xs) y c = by (h x) refl c (λ d. of_filter h xs y d)
  where
    by : (o : Option B) → h x ≡ o → Contains (cons_option o (filter_map h xs)) y → (Contains (filter_map h xs) y → (z : A) × Contains xs z × (h z ≡ Some y)) → (z : A) × Contains (x ∷ xs) z × (h z ≡ Some y)
    by None e c rest = let r = rest c in (r.0, contains-more x xs r.0 r.1, r.2)
    by (Some z) e c rest = of (Contains-append_cases (z ∷ []) (filter_map h xs) y c)
      where
        of : Contains (z ∷ []) y ⊎ Contains (filter_map h xs) y → (w : A) × Contains (x ∷ xs) w × (h w ≡ Some y)
        of (inl a) = (x, contains-first x xs, e ∙ ap (λ v. Some v) (contains-one z y a))
        of (inr b) = let r = rest b in (r.0, contains-more x xs r.0 r.1, r.2)

in_filter : {A B : Type 0} (h : A → Option B) (xs : List A) (x : A) (y : B) → Contains xs x → h x ≡ Some y → Contains (filter_map h xs) y
in_filter h [] x y c e = absurd (contains-none x c)
in_filter {B = B} h (w ∷ xs) x y c e = by (Contains-append_cases (w ∷ []) xs x c) (λ d. in_filter h xs x y d e)
  where
    kept : (o : Option B) → Contains (filter_map h xs) y → Contains (cons_option o (filter_map h xs)) y
    kept None b = b
    kept (Some z) b = contains-more z (filter_map h xs) y b

    first : (o : Option B) → o ≡ Some y → Contains (cons_option o (filter_map h xs)) y
    first None i = cc
    first (Some z) i = subst (λ v. Contains (z ∷ filter_map h xs) v) (same_Some _ _ i) (contains-first z (filter_map h xs))

    by : Contains (w ∷ []) x ⊎ Contains xs x → (Contains xs x → Contains (filter_map h xs) y) → Contains (cons_option (h w) (filter_map h xs)) y
    by (inl a) rest = first (h w) (ap h (contains-one w x a) ∙ e)
    by (inr b) rest = kept (h w) (rest b)

-- ---- the selectors of rules

pub offered_none : (decls : List ReadDecl) (ss : List SelectorView) → length decls ≡ 0 → offered_by decls ss ≡ []
offered_none [] ss e = refl
offered_none (d ∷ decls) ss e = absurd (omega arith)

pub offered_some : (decls : List ReadDecl) (ss : List SelectorView) → (length decls == 0) ≡ false → offered_by decls ss ≡ ss
offered_some [] ss e = cc
offered_some (d ∷ decls) ss e = refl

of_offered : (decls : List ReadDecl) (ss : List SelectorView) (s : SelectorView) → Contains (offered_by decls ss) s → Contains ss s
of_offered [] ss s h = absurd (contains-none s h)
of_offered (d ∷ decls) ss s h = h

in_offered : (decls : List ReadDecl) (ss : List SelectorView) (s : SelectorView) (k : ℕ) (d : ReadDecl) → slice_get decls k ≡ Some d → Contains ss s → Contains (offered_by decls ss) s
in_offered [] ss s k d at h = cc
in_offered (x ∷ decls) ss s k d at h = h

record IsSelected (q : ℕ) (rs : List RuleIn) (s : SelectedOf) : Type 0 where
  place : ℕ
  rule : RuleIn
  there : slice_get rs place ≡ Some rule
  selector : SelectorView
  of_rule : Contains rule.read.selectors.items selector
  is : s ≡ selected_by (q + place) rule.origin rule.read.decls selector

of_selected : (q : ℕ) (rs : List RuleIn) (s : SelectedOf) → Contains (selected_from q rs) s → IsSelected q rs s
of_selected q [] s h = absurd (contains-none s h)
of_selected q (r ∷ rs) s h = by (Contains-append_cases (map (selected_by q r.origin r.read.decls) (offered r.read)) (selected_from (q + 1) rs) s h) (λ g. of_selected (q + 1) rs s g)
  where
    by : Contains (map (selected_by q r.origin r.read.decls) (offered r.read)) s ⊎ Contains (selected_from (q + 1) rs) s → (Contains (selected_from (q + 1) rs) s → IsSelected (q + 1) rs s) → IsSelected q (r ∷ rs) s
    by (inl a) rest =
        let m = of_map (selected_by q r.origin r.read.decls) (offered r.read) s a in
        let n : q ≡ q + 0 = omega arith in
        record { place = 0; rule = r; there = refl; selector = m.0; of_rule = of_offered r.read.decls r.read.selectors.items m.0 m.1; is = sym m.2 ∙ ap (λ k. selected_by k r.origin r.read.decls m.0) n }
    by (inr b) rest =
        let x = rest b in
        let n : q + 1 + x.place ≡ q + suc x.place = omega arith in
        record { place = suc x.place; rule = x.rule; there = x.there; selector = x.selector; of_rule = x.of_rule; is = x.is ∙ ap (λ k. selected_by k x.rule.origin x.rule.read.decls x.selector) n }

in_selected : (q : ℕ) (rs : List RuleIn) (k : ℕ) (r : RuleIn) (v : SelectorView) → slice_get rs k ≡ Some r → Contains (offered r.read) v → Contains (selected_from q rs) (selected_by (q + k) r.origin r.read.decls v)
in_selected q [] k r v at has = cc
in_selected q (x ∷ rs) zero r v at has =
    let same : x ≡ r = same_Some _ _ at in
    let n : q ≡ q + 0 = omega arith in
    subst (λ j. Contains (selected_from q (x ∷ rs)) (selected_by j r.origin r.read.decls v)) n
    (subst (λ (y : RuleIn). Contains (selected_from q (x ∷ rs)) (selected_by q y.origin y.read.decls v)) same
    (Contains-append_left (map (selected_by q x.origin x.read.decls) (offered x.read)) (selected_from (q + 1) rs) (selected_by q x.origin x.read.decls v)
    (contains-map (selected_by q x.origin x.read.decls) (offered x.read) v (subst (λ (y : RuleIn). Contains (offered y.read) v) (sym same) has))))
in_selected q (x ∷ rs) (suc k) r v at has =
    let n : q + 1 + k ≡ q + suc k = omega arith in
    subst (λ j. Contains (selected_from q (x ∷ rs)) (selected_by j r.origin r.read.decls v)) n
    (Contains-append_right (map (selected_by q x.origin x.read.decls) (offered x.read)) (selected_from (q + 1) rs) (selected_by (q + 1 + k) r.origin r.read.decls v) (in_selected (q + 1) rs k r v at has))

-- ---- pseudo-elements

same_is : (a b : Pseudo) → is_same a b ≡ true → a ≡ b
same_is pseudo.Element pseudo.Element e = refl
same_is pseudo.Element pseudo.Before e = cc
same_is pseudo.Element pseudo.After e = cc
same_is pseudo.Element pseudo.Call e = cc
same_is pseudo.Element pseudo.Marker e = cc
same_is pseudo.Before pseudo.Element e = cc
same_is pseudo.Before pseudo.Before e = refl
same_is pseudo.Before pseudo.After e = cc
same_is pseudo.Before pseudo.Call e = cc
same_is pseudo.Before pseudo.Marker e = cc
same_is pseudo.After pseudo.Element e = cc
same_is pseudo.After pseudo.Before e = cc
same_is pseudo.After pseudo.After e = refl
same_is pseudo.After pseudo.Call e = cc
same_is pseudo.After pseudo.Marker e = cc
same_is pseudo.Call pseudo.Element e = cc
same_is pseudo.Call pseudo.Before e = cc
same_is pseudo.Call pseudo.After e = cc
same_is pseudo.Call pseudo.Call e = refl
same_is pseudo.Call pseudo.Marker e = cc
same_is pseudo.Marker pseudo.Element e = cc
same_is pseudo.Marker pseudo.Before e = cc
same_is pseudo.Marker pseudo.After e = cc
same_is pseudo.Marker pseudo.Call e = cc
same_is pseudo.Marker pseudo.Marker e = refl

same_self : (a : Pseudo) → is_same a a ≡ true
same_self pseudo.Element = refl
same_self pseudo.Before = refl
same_self pseudo.After = refl
same_self pseudo.Call = refl
same_self pseudo.Marker = refl

record IsNamed (p : Pseudo) (o : Option SelectedOf) (a : AppliedDeclsOf) : Type 0 where
  one : SelectedOf
  at : o ≡ Some one
  pseudo : one.selector.pseudo ≡ p
  rule : one.rule ≡ a

of_named : (p : Pseudo) (o : Option SelectedOf) (a : AppliedDeclsOf) → named p o ≡ Some a → IsNamed p o a
of_named p None a e = cc
of_named p (Some s) a e = by (is_same s.selector.pseudo p) refl e
  where
    by : (b : Bool) → is_same s.selector.pseudo p ≡ b → cond b (Some s.rule) None ≡ Some a → IsNamed p (Some s) a
    by true t f = record { one = s; at = refl; pseudo = same_is s.selector.pseudo p t; rule = same_Some _ _ f }
    by false t f = cc

in_named : (p : Pseudo) (s : SelectedOf) → s.selector.pseudo ≡ p → named p (Some s) ≡ Some s.rule
in_named p s e = ap (λ b. cond b (Some s.rule) None) (ap (λ q. is_same q p) e ∙ same_self p)

-- ---- what applies

applies_by : (dom : Tree) (sheets : List ReadSheet) (ss : List SelectedOf) (n : ℕ) (places : List ℕ) (p : Pseudo) → ss ≡ selected_from 0 (rules_of sheets) → ArePlaces dom ss n places
    → (a : AppliedDeclsOf) → Contains (filter_map (named_at ss p) places) a → IsRuleApplied dom sheets n p a
applies_by dom sheets ss n places p all found a h =
    let f = of_filter (named_at ss p) places a h in
    let one = of_named p (slice_get ss f.0) a f.2 in
    let m = (found f.0).0 f.1 in
    let at : slice_get (selectors_of ss) f.0 ≡ Some one.one.selector = slice_get-map (λ (s : SelectedOf). s.selector) ss f.0 ∙ ap (option_map (λ (s : SelectedOf). s.selector)) one.at in
    let view : m.0 ≡ one.one.selector = same_Some _ _ (sym m.1 ∙ at) in
    let s = of_selected 0 (rules_of sheets) one.one (subst (λ l. Contains l one.one) all (get-contains ss f.0 one.one one.at)) in
    let sel : one.one.selector ≡ s.selector = ap (λ (x : SelectedOf). x.selector) s.is in
    let k : 0 + s.place ≡ s.place = omega arith in
    record {
      place = s.place;
      rule = s.rule;
      there = s.there;
      selector = s.selector;
      of_rule = s.of_rule;
      pseudo = ap (λ (v : SelectorView). v.pseudo) (sym sel) ∙ one.pseudo;
      matches = subst (λ v. Matches dom v n) (view ∙ sel) m.2;
      weight = sym (ap (λ (x : AppliedDeclsOf). x.weight) one.rule) ∙ ap (λ (x : SelectedOf). x.rule.weight) s.is ∙ ap (λ j. weight_of s.rule.origin j s.selector) k;
      decls = sym (ap (λ (x : AppliedDeclsOf). x.decls) one.rule) ∙ ap (λ (x : SelectedOf). x.rule.decls) s.is;
    }

styles_by : (dom : Tree) (n : ℕ) (p : Pseudo) (a : AppliedDeclsOf) → Contains (style_rules (style_decls dom n) p) a → IsStyleApplied dom n p a
styles_by dom n p a h = by (is_same p pseudo.Element) refl h
  where
    by : (b : Bool) → is_same p pseudo.Element ≡ b → Contains (cond b (style_rule (style_decls dom n) ∷ []) []) a → IsStyleApplied dom n p a
    by true t c = let e = sym (contains-one (style_rule (style_decls dom n)) a c) in record { element = same_is p pseudo.Element t; weight = ap (λ (x : AppliedDeclsOf). x.weight) e; decls = ap (λ (x : AppliedDeclsOf). x.decls) e }
    by false t c = absurd (contains-none a c)

of_rules : (dom : Tree) (sheets : List ReadSheet) (ss : List SelectedOf) (n : ℕ) (places : List ℕ) (p : Pseudo) → ss ≡ selected_from 0 (rules_of sheets) → ArePlaces dom ss n places
    → (a : AppliedDeclsOf) → Contains (rules_at ss places (style_decls dom n) p) a → Applies dom sheets n p a
of_rules dom sheets ss n places p all found a h = by (Contains-append_cases (filter_map (named_at ss p) places) (style_rules (style_decls dom n) p) a h)
  where
    by : Contains (filter_map (named_at ss p) places) a ⊎ Contains (style_rules (style_decls dom n) p) a → Applies dom sheets n p a
    by (inl c) = inl (applies_by dom sheets ss n places p all found a c)
    by (inr c) = inr (styles_by dom n p a c)

in_rules : (dom : Tree) (sheets : List ReadSheet) (ss : List SelectedOf) (n : ℕ) (places : List ℕ) (p : Pseudo) → ss ≡ selected_from 0 (rules_of sheets) → ArePlaces dom ss n places
    → (a : AppliedDeclsOf) (j : ℕ) (d : ReadDecl) → slice_get a.decls j ≡ Some d → Applies dom sheets n p a → Contains (rules_at ss places (style_decls dom n) p) a
in_rules dom sheets ss n places p all found a j d own (inl r) =
    let k : 0 + r.place ≡ r.place = omega arith in
    let some : Contains (offered r.rule.read) r.selector = in_offered r.rule.read.decls r.rule.read.selectors.items r.selector j d (ap (λ ds. slice_get ds j) (sym r.decls) ∙ own) r.of_rule in
    let s : SelectedOf = selected_by (0 + r.place) r.rule.origin r.rule.read.decls r.selector in
    let there : Contains ss s = subst (λ l. Contains l s) (sym all) (in_selected 0 (rules_of sheets) r.place r.rule r.selector r.there some) in
    let g = contains-get ss s there in
    let at : slice_get (selectors_of ss) g.0 ≡ Some r.selector = slice_get-map (λ (x : SelectedOf). x.selector) ss g.0 ∙ ap (option_map (λ (x : SelectedOf). x.selector)) g.1 in
    let place : Contains places g.0 = (found g.0).1 (r.selector, at, r.matches) in
    let is : named_at ss p g.0 ≡ Some s.rule = ap (named p) g.1 ∙ in_named p s r.pseudo in
    let same : s.rule ≡ a = ap (λ j. record { weight = weight_of r.rule.origin j r.selector; decls = r.rule.read.decls }) k ∙ ap (λ w. record { weight = w; decls = r.rule.read.decls }) (sym r.weight) ∙ ap (λ ds. record { weight = a.weight; decls = ds }) (sym r.decls) in
    Contains-append_left (filter_map (named_at ss p) places) (style_rules (style_decls dom n) p) a (in_filter (named_at ss p) places g.0 a place (is ∙ ap (λ x. Some x) same))
in_rules dom sheets ss n places p all found a j d own (inr r) =
    let same : style_rule (style_decls dom n) ≡ a = ap (λ w. record { weight = w; decls = style_decls dom n }) (sym r.weight) ∙ ap (λ ds. record { weight = a.weight; decls = ds }) (sym r.decls) in
    let element : is_same p pseudo.Element ≡ true = ap (λ q. is_same q pseudo.Element) r.element in
    Contains-append_right (filter_map (named_at ss p) places) (style_rules (style_decls dom n) p) a
    (subst (λ b. Contains (cond b (style_rule (style_decls dom n) ∷ []) []) a) (sym element) (subst (λ x. Contains (style_rule (style_decls dom n) ∷ []) x) same (contains-first (style_rule (style_decls dom n)) [])))

-- ---- the same winners

winner_told : (P Q : Declared → Type 0) → ((d : Declared) → P d → Q d) → ((d : Declared) → Q d → P d) → (s : ℕ) (d : Declared) → IsWinner P s d → IsWinner Q s d
winner_told P Q to from s d w = record { there = to d w.there; of_slot = w.of_slot; greatest = λ e q g. w.greatest e (from e q) g }

winners_told : (P Q : Declared → Type 0) → ((d : Declared) → P d → Q d) → ((d : Declared) → Q d → P d) → (longs : List Long) → AreWinners P longs → AreWinners Q longs
winners_told P Q to from longs w = record {
  each = λ k long h. let x = w.each k long h in (x.0, x.1, winner_told P Q to from _ x.0 x.2);
  all = λ e q. w.all e (from e q);
  ordered = w.ordered;
}

-- what wins among the listed rules wins for the node
pub at_node : (dom : Tree) (sheets : List ReadSheet) (ss : List SelectedOf) (n : ℕ) (places : List ℕ) (styled : List ReadDecl) (p : Pseudo) (longs : List Long) → ss ≡ selected_from 0 (rules_of sheets) → ArePlaces dom ss n places → styled ≡ style_decls dom n
    → AreWinners (DeclaredBy (rules_at ss places styled p)) longs → AreWinners (IsDeclaredAt dom sheets n p) longs
at_node dom sheets ss n places styled p longs all found same w =
    winners_told (DeclaredBy (rules_at ss places (style_decls dom n) p)) (IsDeclaredAt dom sheets n p) to from longs (subst (λ ds. AreWinners (DeclaredBy (rules_at ss places ds p)) longs) same w)
  where
    to : (d : Declared) → DeclaredBy (rules_at ss places (style_decls dom n) p) d → IsDeclaredAt dom sheets n p d
    to d h = record { source = h.rule; applies = of_rules dom sheets ss n places p all found h.rule (get-contains (rules_at ss places (style_decls dom n) p) h.place h.rule h.there); is = h.is }

    from : (d : Declared) → IsDeclaredAt dom sheets n p d → DeclaredBy (rules_at ss places (style_decls dom n) p) d
    from d g = let k = contains-get (rules_at ss places (style_decls dom n) p) g.source (in_rules dom sheets ss n places p all found g.source g.is.decl g.is.source g.is.there g.applies) in record { place = k.0; rule = g.source; there = k.1; is = g.is }

-- no rule, no winner
pub none_wins : (rules : List AppliedDeclsOf) → rules ≡ [] → AreWinners (DeclaredBy rules) []
none_wins rules e = subst (λ rs. AreWinners (DeclaredBy rs) []) (sym e) (record {
  each = λ k long h. cc;
  all = λ d h. absurd (let at = h.there in cc);
  ordered = λ j k a b less h g. cc;
})
