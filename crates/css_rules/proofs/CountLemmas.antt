-- A sheet read so far, and how many rules it has.
use Rattle.std.proofs.Common.{◌≡◌, ℕ, ◌+◌, ◌<◌, Bool, false, List, [], ◌∷◌, ◌++◌, length, ap, sym, ◌∙◌, subst, append_assoc, append-nil, length-append, arith}
use Rattle.css_tok.specs.Tokens.{Item}
use Rattle.css_rules.specs.Pages.{PageOf}
use Rattle.css_rules.specs.Sheet.{RuleOf, AreRules, IsSheet, rule_count, page_count, rules_in_step, pages_in_step, inside_after, GoesOn, none}
use Rattle.css_rules.specs.declared.sheet.SheetStep.{SheetStep}
use Rattle.css_rules.proofs.Unique.{rules_unique}
use Rattle.css_rules.proofs.Total.{has_rules}

abbrev Goes : List Item → Bool → List Item → List RuleOf → List PageOf → Type 0
Goes all m ts rs ps = (qs : List RuleOf) (os : List PageOf) → AreRules m ts qs os → AreRules false all (rs ++ qs) (ps ++ os)

pub step_goes : (s : SheetStep) (m behind : Bool) (all ts us : List Item) (rs qs : List RuleOf) (ps os : List PageOf) → Goes all m ts rs ps → GoesOn s m ts us → behind ≡ inside_after m s → qs ≡ rs ++ rules_in_step s → os ≡ ps ++ pages_in_step s → Goes all behind us qs os
step_goes s m behind all ts us rs qs ps os goes step left rules pages = λ q o rest.
    let r : qs ++ q ≡ rs ++ (rules_in_step s ++ q) = ap (λ z. z ++ q) rules ∙ append_assoc rs (rules_in_step s) q in
    let p : os ++ o ≡ ps ++ (pages_in_step s ++ o) = ap (λ z. z ++ o) pages ∙ append_assoc ps (pages_in_step s) o in
    subst (λ z. AreRules false all z (os ++ o)) (sym r) (subst (λ z. AreRules false all (rs ++ (rules_in_step s ++ q)) z) (sym p)
    (goes (rules_in_step s ++ q) (pages_in_step s ++ o) (step q o (subst (λ z. AreRules z us q o) left rest))))

pages_append : (ps os : List PageOf) → page_count (ps ++ os) ≡ page_count ps + page_count os
pages_append [] os = omega arith
pages_append (p ∷ ps) os = omega (arith, pages_append ps os)

count_append : (rs qs : List RuleOf) (ps os : List PageOf) → rule_count (rs ++ qs) (ps ++ os) ≡ rule_count rs ps + rule_count qs os
count_append rs qs ps os =
    let l : length (rs ++ qs) ≡ length rs + length qs = length-append rs qs in
    let s : page_count (ps ++ os) ≡ page_count ps + page_count os = pages_append ps os in
    omega (arith, l, s)

pub step_counts : (s : SheetStep) (rs qs : List RuleOf) (ps os : List PageOf) (count more : ℕ) → qs ≡ rs ++ rules_in_step s → os ≡ ps ++ pages_in_step s → count ≡ rule_count rs ps → more ≡ count + rule_count (rules_in_step s) (pages_in_step s) → more ≡ rule_count qs os
step_counts s rs qs ps os count more rules pages is adds =
    adds ∙ ap (λ z. z + rule_count (rules_in_step s) (pages_in_step s)) is ∙ sym (count_append rs (rules_in_step s) ps (pages_in_step s)) ∙ ap (λ z. rule_count z (ps ++ pages_in_step s)) (sym rules) ∙ ap (rule_count qs) (sym pages)

pub too_many : (all ts : List Item) (m : Bool) (rs : List RuleOf) (ps : List PageOf) (count : ℕ) → Goes all m ts rs ps → count ≡ rule_count rs ps → 20000 < count → (qs : List RuleOf) (os : List PageOf) → IsSheet all qs os → 20000 < rule_count qs os
too_many all ts m rs ps count goes is many qs os sheet =
    let h = has_rules m ts in
    let u = rules_unique (goes h.0 h.1 h.2) sheet in
    let e : rule_count (rs ++ h.0) (ps ++ h.1) ≡ rule_count qs os = ap (λ z. rule_count z (ps ++ h.1)) u.0 ∙ ap (rule_count qs) u.1 in
    let a : rule_count (rs ++ h.0) (ps ++ h.1) ≡ rule_count rs ps + rule_count h.0 h.1 = count_append rs h.0 ps h.1 in
    let p : 20000 < rule_count rs ps = subst (λ z. 20000 < z) is many in
    subst (λ z. 20000 < z) (sym a ∙ e) (more_than (rule_count rs ps) (rule_count h.0 h.1) p)
  where
    more_than : (a b : ℕ) → 20000 < a → 20000 < a + b
    more_than a b h = omega arith

pub sheet_ends : (all ts : List Item) (m : Bool) (rs : List RuleOf) (ps : List PageOf) → Goes all m ts rs ps → ts ≡ [] → IsSheet all rs ps
sheet_ends all ts m rs ps goes is =
    subst (λ z. AreRules false all z ps) (append-nil rs) (subst (λ z. AreRules false all (rs ++ []) z) (append-nil ps) (goes [] [] (subst (λ z. AreRules m z [] []) (sym is) (none m))))
