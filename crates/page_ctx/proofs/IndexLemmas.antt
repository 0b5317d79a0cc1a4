-- the selectors that ask for a name, and those that ask for none
use Rattle.std.proofs.Common.{◌≡◌, ◌<◌, ℕ, suc, ◌+◌, Bool, true, false, cond, List, [], ◌∷◌, ◌++◌, append_assoc, Option, None, Some, length, map, drop, get_or, refl, sym, ◌∙◌, ap, arith}
use Rattle.std.specs.Prelude.{filter}
use Rattle.std.specs.Str.{bytes_eq}
use Rattle.std.proofs.lemmas.List.{map-append}
use Rattle.std.proofs.lemmas.Option.{slice_get_read}
use Rattle.bk_num.proofs.ListLemmas.{drop-next}
use Rattle.named_lists.specs.Lists.{items_of, no_lists, of_name, with_items}
use Rattle.named_lists.proofs.ListLemmas.{are-of-names}
use Rattle.css_page.specs.declared.rules.PageRule.{PageRule}
use Rattle.page_ctx.specs.declared.index.RuleSelector.{RuleSelector}
use Rattle.page_ctx.specs.declared.index.SelectorIndex.{SelectorIndex}
use Rattle.page_ctx.specs.Selectors.{is_for, is_for_each}
use Rattle.page_ctx.specs.Index.{selector_in, selectors_from, own_selectors, under, by_names, named, unnamed, IsIndex}

-- ---- the lists of names

of-named : (all : List RuleSelector) (name : List ℕ) → of_name (by_names all) name ≡ named all name
of-named [] name = refl
of-named (x ∷ all) name = by (of-named all name) x.selector.now.name
  where
    asked : of_name (by_names all) name ≡ named all name → (b : Bool) (m : List ℕ) → map (λ e. e.1) (cond b ((m, x) ∷ filter (λ e. bytes_eq e.0 name) (by_names all)) (filter (λ e. bytes_eq e.0 name) (by_names all))) ≡ cond b (x ∷ named all name) (named all name)
    asked more true m = ap (λ z. x ∷ z) more
    asked more false m = more

    by : of_name (by_names all) name ≡ named all name → (o : Option (List ℕ)) → of_name (under x o ++ by_names all) name ≡ cond (is_for name o) (x ∷ named all name) (named all name)
    by more None = more
    by more (Some m) = asked more (bytes_eq m name) m

pub items-named : (all : List RuleSelector) (name : List ℕ) → items_of (with_items no_lists (by_names all)) name ≡ named all name
items-named all name = (are-of-names RuleSelector (by_names all)).each name ∙ of-named all name

mapped : (f : Option (List ℕ) → Bool) (all : List RuleSelector) → map selector_in (filter (λ e. f e.selector.now.name) all) ≡ filter (λ e. f e.selector.name) (map selector_in all)
mapped f [] = refl
mapped f (x ∷ all) = by (mapped f all) (f x.selector.now.name)
  where
    by : map selector_in (filter (λ e. f e.selector.now.name) all) ≡ filter (λ e. f e.selector.name) (map selector_in all) → (b : Bool)
        → map selector_in (cond b (x ∷ filter (λ e. f e.selector.now.name) all) (filter (λ e. f e.selector.now.name) all)) ≡ cond b (selector_in x ∷ filter (λ e. f e.selector.name) (map selector_in all)) (filter (λ e. f e.selector.name) (map selector_in all))
    by more true = ap (λ z. selector_in x ∷ z) more
    by more false = more

-- what an index gives for a name
pub are-named : (i : SelectorIndex) (name : List ℕ) → IsIndex i → map selector_in (items_of i.named name) ≡ own_selectors i.rules.now (Some name)
are-named i name is = ap (map selector_in) (is.named name) ∙ mapped (is_for name) is.all ∙ ap (filter (λ e. is_for name e.selector.name)) is.selectors

-- those that ask for none
pub are-unnamed : (i : SelectorIndex) → IsIndex i → map selector_in i.every ≡ own_selectors i.rules.now None
are-unnamed i is = ap (map selector_in) is.every ∙ mapped is_for_each is.all ∙ ap (filter (λ e. is_for_each e.selector.name)) is.selectors

-- an index of the selectors of rules
pub is-index : (i : SelectorIndex) (rules : List PageRule) (all : List RuleSelector) → i.rules.now ≡ rules → map selector_in all ≡ selectors_from 0 rules → i.named ≡ with_items no_lists (by_names all) → i.every ≡ unnamed all → IsIndex i
is-index i rules all e are n u = record {
  all = all;
  selectors = are ∙ ap (selectors_from 0) (sym e);
  named = λ name. ap (λ l. items_of l name) n ∙ items-named all name;
  every = u;
}

-- one more, as a loop reads it
pub map-more : {A B S : Type 0} (f : A → B) (g : S → B) (old new : List A) (e : A) (xs : List S) (s : S) (i : ℕ) (whole : List B) → i < length xs → s ≡ get_or xs i s → f e ≡ g s → new ≡ old ++ e ∷ []
    → map f old ++ map g (drop i xs) ≡ whole → map f new ++ map g (drop (i + 1) xs) ≡ whole
map-more f g old new e xs s i whole l read same pushed was =
    let n : suc i ≡ i + 1 = omega arith in
    let at = slice_get_read xs (length xs) i s refl l read in
    let next : map g (drop i xs) ≡ g s ∷ map g (drop (i + 1) xs) = ap (map g) (drop-next xs i s at) ∙ ap (λ j. g s ∷ map g (drop j xs)) n in
    ap (λ z. map f z ++ map g (drop (i + 1) xs)) pushed ∙ ap (λ z. z ++ map g (drop (i + 1) xs)) (map-append f old (e ∷ [])) ∙ append_assoc (map f old) (f e ∷ []) (map g (drop (i + 1) xs))
    ∙ ap (λ z. map f old ++ z ∷ map g (drop (i + 1) xs)) same ∙ ap (λ z. map f old ++ z) (sym next) ∙ was
