-- what wins of a whole, by what wins of what selectors without a name declare and of what those with the name do
use Rattle.std.proofs.Common.{◌≡◌, ℕ, ◌==◌, Bool, true, false, ◌&&◌, cond, List, [], ◌∷◌, ◌++◌, Option, None, Some, option_map, map, refl, sym, ◌∙◌, ap, subst}
use Rattle.std.specs.Str.{bytes_eq}
use Rattle.std.specs.Option.{option_or}
use Rattle.std.specs.List.{fold, flat_map, cons_option}
use Rattle.std.proofs.lemmas.Bool.{true≢false}
use Rattle.std.proofs.lemmas.List.Sums.{fold-append}
use Rattle.css_page.specs.declared.rules.PageRule.{PageRule}
use Rattle.css_page.specs.declared.selectors.PageSelector.{PageSelector}
use Rattle.css_page.specs.declared.values.PageDecl.{PageDecl}
use Rattle.css_page.specs.declared.values.PageLong.{PageLong}
use Rattle.style.proofs.RankingLemmas.{above-not, above-trans, not-above}
use Rattle.page_ctx.specs.declared.classes.PageClasses.{PageClasses}
use Rattle.page_ctx.specs.declared.property.PageProperty.{PageProperty}
use Rattle.page_ctx.specs.declared.weight.PageWeight.{PageWeight}
use Rattle.page_ctx.specs.Selectors.{is_for, is_for_each, takes_classes, takes_name}
use Rattle.page_ctx.specs.Weights.{ranks_of, is_above, of_decl, specificity, greater, greatest_such, is_for_page, is_named, with_selector}
use Rattle.page_ctx.specs.Winners.{AppliedPageRuleOf, Declared, applied_by, applied_to, block_declared, box_declared, declared_by, decls_of, is_of, longs_of, of_page, page_declared, rule_declared, winner, winning, with_declared}
use Rattle.page_ctx.specs.Groups.{all_own, is_own}
use Rattle.page_ctx.proofs.WeightLemmas.{same-weight}

-- ---- the greater of two, the later of equal ones

-- what wins of one list and then of another
abbrev pub over : Option Declared → Option Declared → Option Declared
over x None = x
over x (Some d) = winning x d

pub over-none : (x : Option Declared) → over None x ≡ x
over-none None = refl
over-none (Some d) = refl

over-three : (a b c : Declared) → over (over (Some a) (Some b)) (Some c) ≡ over (Some a) (over (Some b) (Some c))
over-three a b c = by (is_above a.weight b.weight) refl (is_above b.weight c.weight) refl (is_above a.weight c.weight) refl
  where
    by : (v : Bool) → is_above a.weight b.weight ≡ v → (w : Bool) → is_above b.weight c.weight ≡ w → (u : Bool) → is_above a.weight c.weight ≡ u
        → over (cond v (Some a) (Some b)) (Some c) ≡ over (Some a) (cond w (Some b) (Some c))
    by true f true g true h = rw (f, h) refl
    by true f true g false h = absurd (true≢false (sym (above-trans (ranks_of a.weight) (ranks_of b.weight) (ranks_of c.weight) f g) ∙ h))
    by true f false g u h = refl
    by false f true g u h = rw (f, g) refl
    by false f false g true h = absurd (true≢false (sym h ∙ not-above (ranks_of a.weight) (ranks_of b.weight) (ranks_of c.weight) f g))
    by false f false g false h = rw (g, h) refl

over-assoc : (x y z : Option Declared) → over (over x y) z ≡ over x (over y z)
over-assoc x y None = refl
over-assoc x None (Some c) = refl
over-assoc None (Some b) (Some c) = sym (over-none (winning (Some b) c))
over-assoc (Some a) (Some b) (Some c) = over-three a b c

-- a declaration, if it is of the property
abbrev pub one : PageProperty → Declared → Option Declared
one p d = cond (is_of p d.long) (Some d) None

one-more : (p : PageProperty) (x : Option Declared) (d : Declared) → with_declared p x d ≡ over x (one p d)
one-more p x d = by (is_of p d.long)
  where
    by : (b : Bool) → cond b (winning x d) x ≡ over x (cond b (Some d) None)
    by true = refl
    by false = refl

pub fold-over : (p : PageProperty) (x : Option Declared) (ds : List Declared) → fold (with_declared p) x ds ≡ over x (winner p ds)
fold-over p x [] = refl
fold-over p x (d ∷ ds) =
    fold-over p (with_declared p x d) ds ∙ ap (λ z. over z (winner p ds)) (one-more p x d) ∙ over-assoc x (one p d) (winner p ds)
    ∙ ap (over x) (sym (fold-over p (with_declared p None d) ds ∙ ap (λ z. over z (winner p ds)) (one-more p None d ∙ over-none (one p d))))

pub winner-append : (p : PageProperty) (ds es : List Declared) → winner p (ds ++ es) ≡ over (winner p ds) (winner p es)
winner-append p ds es = fold-append (with_declared p) None ds es ∙ fold-over p (winner p ds) es

-- ---- of selectors with and without a name

-- what is there is of a selector with a name, or without one
abbrev IsKind : Bool → Option Declared → Type 0
IsKind b None = Unit {0}
IsKind b (Some d) = d.weight.named ≡ b

over-kind : (b : Bool) (x y : Option Declared) → IsKind b x → IsKind b y → IsKind b (over x y)
over-kind b x None h g = h
over-kind b None (Some d) h g = g
over-kind b (Some a) (Some d) h g = by (is_above a.weight d.weight)
  where
    by : (v : Bool) → IsKind b (cond v (Some a) (Some d))
    by true = h
    by false = g

-- of the two kinds, which one comes first doesn't decide
over-turned : (x y : Option Declared) → IsKind false x → IsKind true y → over x y ≡ over y x
over-turned None y h g = over-none y
over-turned (Some a) None h g = refl
over-turned (Some a) (Some b) h g = by (is_above a.weight b.weight) refl (is_above b.weight a.weight) refl
  where
    by : (v : Bool) → is_above a.weight b.weight ≡ v → (w : Bool) → is_above b.weight a.weight ≡ w → cond v (Some a) (Some b) ≡ cond w (Some b) (Some a)
    by true e true f = absurd (true≢false (sym f ∙ above-not (ranks_of a.weight) (ranks_of b.weight) e))
    by true e false f = refl
    by false e true f = refl
    by false e false f = absurd (true≢false (sym g ∙ ap (λ (w : PageWeight). w.named) (sym (same-weight a.weight b.weight e f)) ∙ h))

-- a whole, what is in it of selectors without a name, and of those with one: what wins of the whole wins of both
record Whole (p : PageProperty) (ds es ns : List Declared) : Type 0 where
  none : IsKind false (winner p es)
  some : IsKind true (winner p ns)
  both : winner p ds ≡ over (winner p es) (winner p ns)

four : (e n f m : Option Declared) → IsKind true n → IsKind false f → over (over e n) (over f m) ≡ over (over e f) (over n m)
four e n f m h g =
    over-assoc e n (over f m) ∙ ap (over e) (sym (over-assoc n f m) ∙ ap (λ z. over z m) (sym (over-turned f n g h)) ∙ over-assoc f n m) ∙ sym (over-assoc e f (over n m))

whole-append : (p : PageProperty) (ds es ns cs fs ms : List Declared) → Whole p ds es ns → Whole p cs fs ms → Whole p (ds ++ cs) (es ++ fs) (ns ++ ms)
whole-append p ds es ns cs fs ms one other = record {
  none = subst (IsKind false) (sym (winner-append p es fs)) (over-kind false (winner p es) (winner p fs) one.none other.none);
  some = subst (IsKind true) (sym (winner-append p ns ms)) (over-kind true (winner p ns) (winner p ms) one.some other.some);
  both = winner-append p ds cs ∙ ap (λ z. over z (winner p cs)) one.both ∙ ap (over (over (winner p es) (winner p ns))) other.both
      ∙ four (winner p es) (winner p ns) (winner p fs) (winner p ms) one.some other.none
      ∙ ap (λ z. over z (over (winner p ns) (winner p ms))) (sym (winner-append p es fs)) ∙ ap (over (winner p (es ++ fs))) (sym (winner-append p ns ms));
}

whole-nil : (p : PageProperty) → Whole p [] [] []
whole-nil p = record { none = tt; some = tt; both = refl }

whole-flat : {A : Type 0} (p : PageProperty) (f g h : A → List Declared) → ((x : A) → Whole p (f x) (g x) (h x)) → (xs : List A) → Whole p (flat_map f xs) (flat_map g xs) (flat_map h xs)
whole-flat p f g h each [] = whole-nil p
whole-flat p f g h each (x ∷ xs) = whole-append p (f x) (g x) (h x) (flat_map f xs) (flat_map g xs) (flat_map h xs) (each x) (whole-flat p f g h each xs)

-- ---- a rule with selectors of both kinds declares what those with the name declare

below : (i : Bool) (e n : PageWeight) → e.named ≡ false → n.named ≡ true → is_above (of_decl e i) (of_decl n i) ≡ false
below true e n h g = rw (h, g) refl
below false e n h g = rw (h, g) refl

one-long : (p : PageProperty) (i : Bool) (e n : PageWeight) → e.named ≡ false → n.named ≡ true → (l : PageLong)
    → Whole p (declared_by (of_decl n i) l ∷ []) (declared_by (of_decl e i) l ∷ []) (declared_by (of_decl n i) l ∷ [])
one-long p i e n h g l = record {
  none = kind false e h (is_of p l);
  some = kind true n g (is_of p l);
  both = by (is_of p l);
}
  where
    kind : (b : Bool) (w : PageWeight) → w.named ≡ b → (v : Bool) → IsKind b (cond v (Some (declared_by (of_decl w i) l)) None)
    kind b w k true = k
    kind b w k false = tt

    by : (v : Bool) → cond v (Some (declared_by (of_decl n i) l)) None ≡ over (cond v (Some (declared_by (of_decl e i) l)) None) (cond v (Some (declared_by (of_decl n i) l)) None)
    by true = sym (ap (λ b. cond b (Some (declared_by (of_decl e i) l)) (Some (declared_by (of_decl n i) l))) (below i e n h g))
    by false = refl

longs-whole : (p : PageProperty) (i : Bool) (e n : PageWeight) → e.named ≡ false → n.named ≡ true → (ls : List PageLong)
    → Whole p (map (declared_by (of_decl n i)) ls) (map (declared_by (of_decl e i)) ls) (map (declared_by (of_decl n i)) ls)
longs-whole p i e n h g [] = whole-nil p
longs-whole p i e n h g (l ∷ ls) =
    whole-append p (declared_by (of_decl n i) l ∷ []) (declared_by (of_decl e i) l ∷ []) (declared_by (of_decl n i) l ∷ []) (map (declared_by (of_decl n i)) ls)
    (map (declared_by (of_decl e i)) ls) (map (declared_by (of_decl n i)) ls) (one-long p i e n h g l) (longs-whole p i e n h g ls)

decls-whole : (p : PageProperty) (e n : PageWeight) → e.named ≡ false → n.named ≡ true → (ds : List PageDecl) → Whole p (decls_of n ds) (decls_of e ds) (decls_of n ds)
decls-whole p e n h g ds = whole-flat p (longs_of n) (longs_of e) (longs_of n) (λ d. longs-whole p d.important e n h g d.longs) ds

block-whole : (p : PageProperty) (place : ℕ) (e n : PageWeight) → e.named ≡ false → n.named ≡ true → (b : ℕ × List PageDecl) → Whole p (block_declared n place b) (block_declared e place b) (block_declared n place b)
block-whole p place e n h g b = by (b.0 == place)
  where
    by : (v : Bool) → Whole p (cond v (decls_of n b.1) []) (cond v (decls_of e b.1) []) (cond v (decls_of n b.1) [])
    by true = decls-whole p e n h g b.1
    by false = whole-nil p

-- what is declared by a rule with a weight, for a page or for one of its boxes
abbrev Declares : PageProperty → (AppliedPageRuleOf → List Declared) → Type 0
Declares p f = (e n : PageWeight) → e.named ≡ false → n.named ≡ true → (r : PageRule) → Whole p (f (applied_by r n)) (f (applied_by r e)) (f (applied_by r n))

page-declares : (p : PageProperty) → Declares p of_page
page-declares p e n h g r = decls-whole p e n h g r.decls

box-declares : (p : PageProperty) (place : ℕ) → Declares p (rule_declared place)
box-declares p place e n h g r = whole-flat p (block_declared n place) (block_declared e place) (block_declared n place) (block-whole p place e n h g) r.boxes

-- ---- the specificity of a rule

-- a weight of selectors with a name, or without one
abbrev IsOf : Bool → Option PageWeight → Type 0
IsOf b None = Unit {0}
IsOf b (Some w) = (w.important ≡ false) × (w.named ≡ b)

greater-of : (b : Bool) (o : Option PageWeight) (w : PageWeight) → IsOf b o → w.important ≡ false → w.named ≡ b → IsOf b (greater o w)
greater-of b None w h i n = (i, n)
greater-of b (Some v) w h i n = by (is_above w v)
  where
    by : (t : Bool) → IsOf b (cond t (Some w) (Some v))
    by true = (i, n)
    by false = h

above-named : (e n : PageWeight) → e.important ≡ false → e.named ≡ false → n.important ≡ false → n.named ≡ true → is_above n e ≡ true
above-named e n i h k g = rw (i, h, k, g) refl

not-above-named : (e n : PageWeight) → e.important ≡ false → e.named ≡ false → n.important ≡ false → n.named ≡ true → is_above e n ≡ false
not-above-named e n i h k g = above-not (ranks_of n) (ranks_of e) (above-named e n i h k g)

-- one more selector with the name
more-named : (n e : Option PageWeight) (w : PageWeight) → IsOf false e → w.important ≡ false → w.named ≡ true → greater (option_or n e) w ≡ option_or (greater n w) e
more-named (Some v) e w h i g = by (is_above w v)
  where
    by : (t : Bool) → cond t (Some w) (Some v) ≡ option_or (cond t (Some w) (Some v)) e
    by true = refl
    by false = refl
more-named None None w h i g = refl
more-named None (Some v) w h i g = ap (λ b. cond b (Some w) (Some v)) (above-named v w h.0 h.1 i g)

-- one more without
more-unnamed : (n e : Option PageWeight) (w : PageWeight) → IsOf true n → w.important ≡ false → w.named ≡ false → greater (option_or n e) w ≡ option_or n (greater e w)
more-unnamed None e w h i g = refl
more-unnamed (Some v) e w h i g = ap (λ b. cond b (Some w) (Some v)) (not-above-named w v i g h.0 h.1)

-- where the weight of all selectors so far is that of those with the name, or else that of those without one
abbrev Steps : Option PageWeight → Option PageWeight → Option PageWeight → Type 0
Steps d n e = IsOf true n × IsOf false e × (d ≡ option_or n e)

stepped : (name : List ℕ) (c : PageClasses) (n e : Option PageWeight) (s : PageSelector) → IsOf true n → IsOf false e
    → Steps (with_selector (is_for_page name c) (option_or n e) s) (with_selector (is_own (Some name) c) n s) (with_selector (is_own None c) e s)
stepped name c n e s h g = by s.name refl
  where
    asked : (m : List ℕ) → s.name ≡ Some m → (a : Bool) → Steps (cond a (greater (option_or n e) (specificity s)) (option_or n e)) (cond a (greater n (specificity s)) n) e
    asked m k true = (greater-of true n (specificity s) h refl (ap is_named k), g, more-named n e (specificity s) g refl (ap is_named k))
    asked m k false = (h, g, refl)

    bare : s.name ≡ None → (a : Bool) → Steps (cond a (greater (option_or n e) (specificity s)) (option_or n e)) n (cond a (greater e (specificity s)) e)
    bare k true = (h, greater-of false e (specificity s) g refl (ap is_named k), more-unnamed n e (specificity s) h refl (ap is_named k))
    bare k false = (h, g, refl)

    by : (o : Option (List ℕ)) → s.name ≡ o
        → Steps (cond (takes_name o name && takes_classes s c) (greater (option_or n e) (specificity s)) (option_or n e)) (cond (is_for name o && takes_classes s c) (greater n (specificity s)) n) (cond (is_for_each o && takes_classes s c) (greater e (specificity s)) e)
    by None k = bare k (takes_classes s c)
    by (Some m) k = asked m k (bytes_eq m name && takes_classes s c)

record Greatest (name : List ℕ) (c : PageClasses) (ss : List PageSelector) (n e : Option PageWeight) : Type 0 where
  named : IsOf true (fold (with_selector (is_own (Some name) c)) n ss)
  unnamed : IsOf false (fold (with_selector (is_own None c)) e ss)
  whole : fold (with_selector (is_for_page name c)) (option_or n e) ss ≡ option_or (fold (with_selector (is_own (Some name) c)) n ss) (fold (with_selector (is_own None c)) e ss)

greatest-of : (name : List ℕ) (c : PageClasses) (ss : List PageSelector) (n e : Option PageWeight) → IsOf true n → IsOf false e → Greatest name c ss n e
greatest-of name c [] n e h g = record { named = h; unnamed = g; whole = refl }
greatest-of name c (s ∷ ss) n e h g =
    let step = stepped name c n e s h g in
    let rest = greatest-of name c ss (with_selector (is_own (Some name) c) n s) (with_selector (is_own None c) e s) step.0 step.1 in
    record { named = rest.named; unnamed = rest.unnamed; whole = ap (λ z. fold (with_selector (is_for_page name c)) z ss) step.2 ∙ rest.whole }

-- ---- all rules

only-unnamed : (p : PageProperty) (f : AppliedPageRuleOf → List Declared) → Declares p f → (r : PageRule) (e : PageWeight) → e.named ≡ false → Whole p (f (applied_by r e)) (f (applied_by r e)) []
only-unnamed p f d r e h = let w = d e (record e { named = true }) h refl r in record { none = w.none; some = tt; both = refl }

only-named : (p : PageProperty) (f : AppliedPageRuleOf → List Declared) → Declares p f → (r : PageRule) (n : PageWeight) → n.named ≡ true → Whole p (f (applied_by r n)) [] (f (applied_by r n))
only-named p f d r n h = let w = d (record n { named = false }) n refl h r in record { none = tt; some = w.some; both = sym (over-none (winner p (f (applied_by r n)))) }

rules-whole : (p : PageProperty) (f : AppliedPageRuleOf → List Declared) → Declares p f → (name : List ℕ) (c : PageClasses) (rules : List PageRule)
    → Whole p (flat_map f (applied_to name c rules)) (flat_map f (all_own None c rules)) (flat_map f (all_own (Some name) c rules))
rules-whole p f d name c [] = whole-nil p
rules-whole p f d name c (r ∷ rules) =
    let best = greatest-of name c r.selectors None None tt tt in
    subst (λ o. Whole p (flat_map f (cons_option (option_map (applied_by r) o) (applied_to name c rules))) (flat_map f (all_own None c (r ∷ rules))) (flat_map f (all_own (Some name) c (r ∷ rules)))) (sym best.whole)
    (by (rules-whole p f d name c rules) (greatest_such (is_own (Some name) c) r.selectors) (greatest_such (is_own None c) r.selectors) best.named best.unnamed)
  where
    by : Whole p (flat_map f (applied_to name c rules)) (flat_map f (all_own None c rules)) (flat_map f (all_own (Some name) c rules)) → (n e : Option PageWeight) → IsOf true n → IsOf false e
        → Whole p (flat_map f (cons_option (option_map (applied_by r) (option_or n e)) (applied_to name c rules))) (flat_map f (cons_option (option_map (applied_by r) e) (all_own None c rules)))
        (flat_map f (cons_option (option_map (applied_by r) n) (all_own (Some name) c rules)))
    by more None None h g = more
    by more None (Some e) h g = whole-append p (f (applied_by r e)) (f (applied_by r e)) [] (flat_map f (applied_to name c rules)) (flat_map f (all_own None c rules)) (flat_map f (all_own (Some name) c rules)) (only-unnamed p f d r e g.1) more
    by more (Some n) None h g = whole-append p (f (applied_by r n)) [] (f (applied_by r n)) (flat_map f (applied_to name c rules)) (flat_map f (all_own None c rules)) (flat_map f (all_own (Some name) c rules)) (only-named p f d r n h.1) more
    by more (Some n) (Some e) h g = whole-append p (f (applied_by r n)) (f (applied_by r e)) (f (applied_by r n)) (flat_map f (applied_to name c rules)) (flat_map f (all_own None c rules)) (flat_map f (all_own (Some name) c rules)) (d e n g.1 h.1 r) more

groups : (p : PageProperty) (f : AppliedPageRuleOf → List Declared) → Declares p f → (name : List ℕ) (c : PageClasses) (rules : List PageRule)
    → winner p (flat_map f (all_own None c rules) ++ flat_map f (all_own (Some name) c rules)) ≡ winner p (flat_map f (applied_to name c rules))
groups p f d name c rules = winner-append p (flat_map f (all_own None c rules)) (flat_map f (all_own (Some name) c rules)) ∙ sym (rules-whole p f d name c rules).both

-- for a page
pub page-groups : (p : PageProperty) (name : List ℕ) (c : PageClasses) (rules : List PageRule) → winner p (page_declared (all_own None c rules) ++ page_declared (all_own (Some name) c rules)) ≡ winner p (page_declared (applied_to name c rules))
page-groups p name c rules = groups p of_page (page-declares p) name c rules

-- for a margin box
pub box-groups : (p : PageProperty) (place : ℕ) (name : List ℕ) (c : PageClasses) (rules : List PageRule)
    → winner p (box_declared place (all_own None c rules) ++ box_declared place (all_own (Some name) c rules)) ≡ winner p (box_declared place (applied_to name c rules))
box-groups p place name c rules = groups p (rule_declared place) (box-declares p place) name c rules
