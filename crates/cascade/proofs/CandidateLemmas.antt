-- The declarations of rules, as lists and as a relation.
use Rattle.std.proofs.Common.{◌≡◌, ℕ, suc, zero, ◌+◌, ◌<◌, ◌≤◌, List, [], ◌∷◌, ◌++◌, Option, Some, length, map, take, get_or, slice_get, option_map, refl, sym, ◌∙◌, ap, subst, arith, ◌⊎◌, inl, inr}
use Rattle.std.proofs.lemmas.Bool.{cases_lt}
use Rattle.std.specs.List.{fold}
use Rattle.std.proofs.lemmas.Option.{slice_get-map, slice_get-get_or}
use Rattle.bk_num.proofs.ListLemmas.{get-take, take-get}
use Rattle.style.specs.declared.long.Long.{Long}
use Rattle.cascade.specs.declared.weight.DeclWeight.{DeclWeight}
use Rattle.cascade.specs.declared.decl.ReadDecl.{ReadDecl}
use Rattle.cascade.specs.declared.choice.AppliedDecls.{AppliedDecls}
use Rattle.cascade.specs.Weights.{of_decl, at_place}
use Rattle.cascade.specs.Candidates.{Declared, IsDeclared, AppliedDeclsOf, applied_in, DeclaredBy}
use Rattle.cascade.specs.Choice.{offered, longs_from, decls_from}
use Rattle.cascade.proofs.WinnerLemmas.{AllBest, Within, best-told, fold-best}

-- ---- the longhands of a declaration

in-longs : (w : DeclWeight) (q : ℕ) (ls : List Long) (d : Declared) → Within (longs_from w q ls) d → (m : ℕ) × (slice_get ls m ≡ Some d.long) × (d.weight ≡ at_place w (q + m))
in-longs w q [] d e = absurd e
in-longs w q (l ∷ ls) d (inl e) =
    let long : d.long ≡ l = ap (λ (x : Declared). x.long) e in
    let weight : d.weight ≡ at_place w q = ap (λ (x : Declared). x.weight) e in
    let n : q ≡ q + 0 = omega arith in
    (0, ap (λ x. Some x) (sym long), weight ∙ ap (at_place w) n)
in-longs w q (l ∷ ls) d (inr h) =
    let r = in-longs w (q + 1) ls d h in
    let n : q + 1 + r.0 ≡ q + suc r.0 = omega arith in
    (suc r.0, r.1, r.2 ∙ ap (at_place w) n)

to-longs : (w : DeclWeight) (q : ℕ) (ls : List Long) (d : Declared) (m : ℕ) → slice_get ls m ≡ Some d.long → d.weight ≡ at_place w (q + m) → Within (longs_from w q ls) d
to-longs w q [] d m h e = cc
to-longs w q (l ∷ ls) d zero h e =
    let long : l ≡ d.long = cc in
    let n : q + 0 ≡ q = omega arith in
    inl (ap (λ x. record { weight = x; long = d.long }) (e ∙ ap (at_place w) n) ∙ ap (λ x. record { weight = at_place w q; long = x }) (sym long))
to-longs w q (l ∷ ls) d (suc m) h e = let n : q + suc m ≡ q + 1 + m = omega arith in inr (to-longs w (q + 1) ls d m h (e ∙ ap (at_place w) n))

-- ---- the declarations of a rule

within-append : (xs ys : List Declared) (d : Declared) → Within (xs ++ ys) d → Within xs d ⊎ Within ys d
within-append [] ys d h = inr h
within-append (x ∷ xs) ys d (inl e) = inl (inl e)
within-append (x ∷ xs) ys d (inr h) = by (within-append xs ys d h)
  where
    by : Within xs d ⊎ Within ys d → ((d ≡ x) ⊎ Within xs d) ⊎ Within ys d
    by (inl a) = inl (inr a)
    by (inr b) = inr b

within-left : (xs ys : List Declared) (d : Declared) → Within xs d → Within (xs ++ ys) d
within-left [] ys d h = absurd h
within-left (x ∷ xs) ys d (inl e) = inl e
within-left (x ∷ xs) ys d (inr h) = inr (within-left xs ys d h)

within-right : (xs ys : List Declared) (d : Declared) → Within ys d → Within (xs ++ ys) d
within-right [] ys d h = h
within-right (x ∷ xs) ys d h = inr (within-right xs ys d h)

-- it is a longhand of one of these declarations, which stand from the j-th place on
record IsFrom (w : DeclWeight) (j : ℕ) (ds : List ReadDecl) (d : Declared) : Type 0 where
  decl : ℕ
  source : ReadDecl
  there : slice_get ds decl ≡ Some source
  place : ℕ
  long : slice_get source.longs place ≡ Some d.long
  is : d.weight ≡ at_place (of_decl w source.important (j + decl)) place

in-decls : (w : DeclWeight) (j : ℕ) (ds : List ReadDecl) (d : Declared) → Within (decls_from w j ds) d → IsFrom w j ds d
in-decls w j [] d e = absurd e
in-decls w j (x ∷ ds) d h = by (within-append (longs_from (of_decl w x.important j) 0 x.longs) (decls_from w (j + 1) ds) d h) (λ b. in-decls w (j + 1) ds d b)
  where
    by : Within (longs_from (of_decl w x.important j) 0 x.longs) d ⊎ Within (decls_from w (j + 1) ds) d → (Within (decls_from w (j + 1) ds) d → IsFrom w (j + 1) ds d) → IsFrom w j (x ∷ ds) d
    by (inl a) rest =
        let r = in-longs (of_decl w x.important j) 0 x.longs d a in
        let n : j ≡ j + 0 = omega arith in
        let m : 0 + r.0 ≡ r.0 = omega arith in
        record { decl = 0; source = x; there = refl; place = r.0; long = r.1; is = r.2 ∙ ap (at_place (of_decl w x.important j)) m ∙ ap (λ k. at_place (of_decl w x.important k) r.0) n }
    by (inr b) rest =
        let r = rest b in
        let n : j + 1 + r.decl ≡ j + suc r.decl = omega arith in
        record { decl = suc r.decl; source = r.source; there = r.there; place = r.place; long = r.long; is = r.is ∙ ap (λ k. at_place (of_decl w r.source.important k) r.place) n }

to-decls : (w : DeclWeight) (j : ℕ) (ds : List ReadDecl) (d : Declared) (m : ℕ) (source : ReadDecl) (place : ℕ) → slice_get ds m ≡ Some source → slice_get source.longs place ≡ Some d.long → d.weight ≡ at_place (of_decl w source.important (j + m)) place → Within (decls_from w j ds) d
to-decls w j [] d m source place h g e = cc
to-decls w j (x ∷ ds) d zero source place h g e =
    let same : source ≡ x = cc in
    let n : j + 0 ≡ j = omega arith in
    let k : place ≡ 0 + place = omega arith in
    within-left (longs_from (of_decl w x.important j) 0 x.longs) (decls_from w (j + 1) ds) d
    (to-longs (of_decl w x.important j) 0 x.longs d place (subst (λ (s : ReadDecl). slice_get s.longs place ≡ Some d.long) same g) (e ∙ ap (λ i. at_place (of_decl w source.important i) place) n ∙ ap (λ (s : ReadDecl). at_place (of_decl w s.important j) place) same ∙ ap (at_place (of_decl w x.important j)) k))
to-decls w j (x ∷ ds) d (suc m) source place h g e =
    let n : j + suc m ≡ j + 1 + m = omega arith in
    within-right (longs_from (of_decl w x.important j) 0 x.longs) (decls_from w (j + 1) ds) d (to-decls w (j + 1) ds d m source place h g (e ∙ ap (λ i. at_place (of_decl w source.important i) place) n))

is-declared : (w : DeclWeight) (ds : List ReadDecl) (d : Declared) → Within (decls_from w 0 ds) d → IsDeclared w ds d
is-declared w ds d h =
    let r = in-decls w 0 ds d h in
    let n : 0 + r.decl ≡ r.decl = omega arith in
    record { decl = r.decl; source = r.source; there = r.there; place = r.place; long = r.long; is = r.is ∙ ap (λ k. at_place (of_decl w r.source.important k) r.place) n }

from-declared : (w : DeclWeight) (ds : List ReadDecl) (d : Declared) → IsDeclared w ds d → Within (decls_from w 0 ds) d
from-declared w ds d h =
    let n : h.decl ≡ 0 + h.decl = omega arith in
    to-decls w 0 ds d h.decl h.source h.place h.there h.long (h.is ∙ ap (λ k. at_place (of_decl w h.source.important k) h.place) n)

-- ---- one more rule

pub rule_step : (rules : List AppliedDeclsOf) (i : ℕ) (r : AppliedDeclsOf) (best : List (Option Declared)) → slice_get rules i ≡ Some r → AllBest (DeclaredBy (take i rules)) best → AllBest (DeclaredBy (take (i + 1) rules)) (fold offered best (decls_from r.weight 0 r.decls))
rule_step rules i r best at all =
    best-told (λ d. DeclaredBy (take i rules) d ⊎ Within (decls_from r.weight 0 r.decls) d) (DeclaredBy (take (i + 1) rules)) to from (fold offered best (decls_from r.weight 0 r.decls)) (fold-best (decls_from r.weight 0 r.decls) (DeclaredBy (take i rules)) best all)
  where
    to : (d : Declared) → DeclaredBy (take i rules) d ⊎ Within (decls_from r.weight 0 r.decls) d → DeclaredBy (take (i + 1) rules) d
    to d (inl h) = let g = get-take rules i h.place h.rule h.there in let l = g.0 in record { place = h.place; rule = h.rule; there = take-get rules (i + 1) h.place h.rule (omega (arith, l)) g.1; is = h.is }
    to d (inr w) = record { place = i; rule = r; there = take-get rules (i + 1) i r (omega arith) at; is = is-declared r.weight r.decls d w }

    from : (d : Declared) → DeclaredBy (take (i + 1) rules) d → DeclaredBy (take i rules) d ⊎ Within (decls_from r.weight 0 r.decls) d
    from d h = by (get-take rules (i + 1) h.place h.rule h.there) (cases_lt h.place i)
      where
        by : ((h.place < i + 1) × (slice_get rules h.place ≡ Some h.rule)) → (h.place < i) ⊎ (i ≤ h.place) → DeclaredBy (take i rules) d ⊎ Within (decls_from r.weight 0 r.decls) d
        by g (inl l) = inl (record { place = h.place; rule = h.rule; there = take-get rules i h.place h.rule l g.1; is = h.is })
        by g (inr l) =
            let e : h.place ≡ i = (let a = g.0 in omega (arith, a, l)) in
            let same : h.rule ≡ r = (let s : slice_get rules i ≡ Some h.rule = subst (λ k. slice_get rules k ≡ Some h.rule) e g.1 in cc) in
            inr (from-declared r.weight r.decls d (subst (λ (x : AppliedDeclsOf). IsDeclared x.weight x.decls d) same h.is))

applied_at : (rules : List AppliedDecls) (i : ℕ) (d : AppliedDecls) → i < length rules → slice_get (map applied_in rules) i ≡ Some (applied_in (get_or rules i d))
applied_at rules i d h = slice_get-map applied_in rules i ∙ ap (option_map applied_in) (slice_get-get_or rules i d h)

pub applied_read : (rules : List AppliedDecls) (i : ℕ) (x : AppliedDecls) → i < length rules → x ≡ get_or rules i x → slice_get (map applied_in rules) i ≡ Some (applied_in x)
applied_read rules i x h e = applied_at rules i x h ∙ ap (λ (y : AppliedDecls). Some (applied_in y)) (sym e)

-- no rule declares anything
pub none_declared : (d : Declared) → DeclaredBy [] d → ⊥
none_declared d h = let e = h.there in cc
