-- rules one after the other, by their selectors that ask for a name or for none
use Rattle.std.proofs.Common.{◌≡◌, ◌<◌, ℕ, ◌+◌, ◌==◌, Bool, true, false, ◌&&◌, cond, List, [], ◌∷◌, ◌++◌, append-nil, append_assoc, Option, None, Some, option_map, option_to_list, map, refl, sym, ◌∙◌, ap, arith}
use Rattle.std.specs.Prelude.{filter, fold}
use Rattle.std.specs.List.{cons_option}
use Rattle.std.proofs.lemmas.Bool.{eq-eqb}
use Rattle.std.proofs.lemmas.Bool.Decides.{nat_tests}
use Rattle.std.proofs.lemmas.List.Elements.{filter-append}
use Rattle.std.proofs.lemmas.List.Sums.{fold-append}
use Rattle.css_page.specs.declared.rules.PageRule.{PageRule}
use Rattle.css_page.specs.declared.selectors.PageSelector.{PageSelector}
use Rattle.page_ctx.specs.declared.classes.PageClasses.{PageClasses}
use Rattle.page_ctx.specs.declared.weight.PageWeight.{PageWeight}
use Rattle.page_ctx.specs.Selectors.{asks, takes_classes}
use Rattle.page_ctx.specs.Index.{RuleSelectorOf, of_rule, selectors_from, own_selectors}
use Rattle.page_ctx.specs.Weights.{is_above, greater, greatest_such, specificity, with_selector}
use Rattle.page_ctx.specs.Winners.{AppliedPageRuleOf, NumberedRule, applied_by, numbered_by, weight_at, other_than, rule_with}
use Rattle.page_ctx.specs.Groups.{all_own, is_own}

-- the rules that are done, and the one that selectors come of
pub record Going : Type 0 where
  pub found : List AppliedPageRuleOf
  pub last : Option NumberedRule

abbrev pub going : List AppliedPageRuleOf → Option NumberedRule → Going
going found last = record { found = found; last = last }

-- a selector more that takes the page
abbrev pub with_taken : Going → RuleSelectorOf → Going
with_taken g e = going (g.found ++ option_to_list (other_than g.last e.number)) (rule_with g.last e)

-- a selector more
abbrev pub with_one : PageClasses → Going → RuleSelectorOf → Going
with_one c g e = cond (takes_classes e.selector c) (with_taken g e) g

abbrev last_rule : Option NumberedRule → List AppliedPageRuleOf
last_rule o = option_to_list (option_map (λ (a : NumberedRule). a.applied) o)

-- all rules
abbrev pub all_rules : Going → List AppliedPageRuleOf
all_rules g = g.found ++ last_rule g.last

-- the rule that selectors come of has a lesser number
abbrev IsBefore : ℕ → Option NumberedRule → Type 0
IsBefore n None = Unit {0}
IsBefore n (Some a) = a.number < n

later : (n : ℕ) (o : Option NumberedRule) → IsBefore n o → IsBefore (n + 1) o
later n None b = b
later n (Some a) b = omega (arith, b)

fresh-weight : (n : ℕ) (o : Option NumberedRule) → IsBefore n o → weight_at o n ≡ None
fresh-weight n None b = refl
fresh-weight n (Some a) b = let e : (a.number == n) ≡ false = grind (arith, nat_tests, b) in rw e refl

fresh-other : (n : ℕ) (o : Option NumberedRule) → IsBefore n o → option_to_list (other_than o n) ≡ last_rule o
fresh-other n None b = refl
fresh-other n (Some a) b = let e : (a.number == n) ≡ false = grind (arith, nat_tests, b) in rw e refl

-- where the selectors of a rule of a number have this greatest specificity so far
abbrev at : ℕ → PageRule → Going → Option PageWeight → Going
at n r g None = g
at n r g (Some w) = going (all_rules g) (Some (numbered_by n r w))

one-taken : (n : ℕ) (r : PageRule) (g : Going) → IsBefore n g.last → (best : Option PageWeight) (s : PageSelector) → with_taken (at n r g best) (of_rule n r s) ≡ at n r g (greater best (specificity s))
one-taken n r g b None s =
    ap (λ z. going (g.found ++ z) (rule_with g.last (of_rule n r s))) (fresh-other n g.last b)
    ∙ ap (λ o. going (all_rules g) (option_map (numbered_by n r) (greater o (specificity s)))) (fresh-weight n g.last b)
one-taken n r g b (Some w) s =
    let kept : going (all_rules g) (option_map (numbered_by n r) (greater (Some w) (specificity s))) ≡ at n r g (greater (Some w) (specificity s)) = by (is_above (specificity s) w) in
    ap (λ t. going (all_rules g ++ option_to_list (cond t None (Some (applied_by r w)))) (option_map (numbered_by n r) (greater (cond t (Some w) None) (specificity s)))) (eq-eqb n n refl)
    ∙ ap (λ z. going z (option_map (numbered_by n r) (greater (Some w) (specificity s)))) (append-nil (all_rules g)) ∙ kept
  where
    by : (v : Bool) → going (all_rules g) (option_map (numbered_by n r) (cond v (Some (specificity s)) (Some w))) ≡ at n r g (cond v (Some (specificity s)) (Some w))
    by true = refl
    by false = refl

-- a selector asks for this name, or for none
abbrev own : Option (List ℕ) → RuleSelectorOf → Bool
own asked e = asks asked e.selector.name

of-rule : (asked : Option (List ℕ)) (c : PageClasses) (n : ℕ) (r : PageRule) (g : Going) → IsBefore n g.last → (best : Option PageWeight) (ss : List PageSelector)
    → fold (with_one c) (at n r g best) (filter (own asked) (map (of_rule n r) ss)) ≡ at n r g (fold (with_selector (is_own asked c)) best ss)
of-rule asked c n r g b best [] = refl
of-rule asked c n r g b best (s ∷ ss) = taken (λ o. of-rule asked c n r g b o ss) (asks asked s.name)
  where
    More : Type 0
    More = (o : Option PageWeight) → fold (with_one c) (at n r g o) (filter (own asked) (map (of_rule n r) ss)) ≡ at n r g (fold (with_selector (is_own asked c)) o ss)

    classed : More → (t : Bool) → fold (with_one c) (cond t (with_taken (at n r g best) (of_rule n r s)) (at n r g best)) (filter (own asked) (map (of_rule n r) ss)) ≡ at n r g (fold (with_selector (is_own asked c)) (cond t (greater best (specificity s)) best) ss)
    classed more true = ap (λ z. fold (with_one c) z (filter (own asked) (map (of_rule n r) ss))) (one-taken n r g b best s) ∙ more (greater best (specificity s))
    classed more false = more best

    taken : More → (t : Bool) → fold (with_one c) (at n r g best) (cond t (of_rule n r s ∷ filter (own asked) (map (of_rule n r) ss)) (filter (own asked) (map (of_rule n r) ss))) ≡ at n r g (fold (with_selector (is_own asked c)) (cond (t && takes_classes s c) (greater best (specificity s)) best) ss)
    taken more true = classed more (takes_classes s c)
    taken more false = more best

of-rules : (asked : Option (List ℕ)) (c : PageClasses) (n : ℕ) (g : Going) → IsBefore n g.last → (rules : List PageRule)
    → all_rules (fold (with_one c) g (filter (own asked) (selectors_from n rules))) ≡ all_rules g ++ all_own asked c rules
of-rules asked c n g b [] = sym (append-nil (all_rules g))
of-rules asked c n g b (r ∷ rules) =
    ap (λ z. all_rules (fold (with_one c) g z)) (filter-append (own asked) (map (of_rule n r) r.selectors) (selectors_from (n + 1) rules))
    ∙ ap all_rules (fold-append (with_one c) g (filter (own asked) (map (of_rule n r) r.selectors)) (filter (own asked) (selectors_from (n + 1) rules)))
    ∙ ap (λ z. all_rules (fold (with_one c) z (filter (own asked) (selectors_from (n + 1) rules)))) (of-rule asked c n r g b None r.selectors)
    ∙ by (λ h e. of-rules asked c (n + 1) h e rules) (greatest_such (is_own asked c) r.selectors)
  where
    by : ((h : Going) → IsBefore (n + 1) h.last → all_rules (fold (with_one c) h (filter (own asked) (selectors_from (n + 1) rules))) ≡ all_rules h ++ all_own asked c rules)
        → (o : Option PageWeight) → all_rules (fold (with_one c) (at n r g o) (filter (own asked) (selectors_from (n + 1) rules))) ≡ all_rules g ++ cons_option (option_map (applied_by r) o) (all_own asked c rules)
    by more None = more g (later n g.last b)
    by more (Some w) = more (going (all_rules g) (Some (numbered_by n r w))) (omega arith) ∙ append_assoc (all_rules g) (applied_by r w ∷ []) (all_own asked c rules)

-- the rules that have selectors that ask for a name, or for none, by these
pub are-applied : (asked : Option (List ℕ)) (c : PageClasses) (rules : List PageRule) (all : List RuleSelectorOf) → all ≡ own_selectors rules asked → all_rules (fold (with_one c) (going [] None) all) ≡ all_own asked c rules
are-applied asked c rules all e = ap (λ z. all_rules (fold (with_one c) (going [] None) z)) e ∙ of-rules asked c 0 (going [] None) tt rules
