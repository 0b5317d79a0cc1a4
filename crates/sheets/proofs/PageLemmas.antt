-- Page rules of one sheet after another, and that they are one list.
use Rattle.std.proofs.Common.{◌≡◌, ℕ, ◌+◌, List, [], ◌∷◌, ◌++◌, Some, slice_get, take, refl, ap, sym, ◌∙◌}
use Rattle.std.specs.List.{AllZip, filter_map, flat_map}
use Rattle.std.proofs.lemmas.List.{append-nil, map-append, take_more}
use Rattle.std.proofs.lemmas.Grind.{flat_map-append}
use Rattle.std.proofs.lemmas.Option.{get_or_from_slice_get, slice_get_within}
use Rattle.bk_num.proofs.ListLemmas.{pairs-more}
use Rattle.css_tok.specs.Tokens.{tokens_of}
use Rattle.css_rules.specs.Sheet.{HaveOneReading}
use Rattle.css_page.specs.Rules.{rule_of}
use Rattle.css_page.specs.declared.rules.PageRule.{PageRule}
use Rattle.sheets.specs.Sources.{Source, author_source, authors_of, ArePageRulesOf, ArePageRules}
use Rattle.sheets.specs.Laws.{PageRulesAreOne}

abbrev IsOf : Source → List PageRule → Type 0
IsOf s l = ArePageRulesOf s.text l

-- no sheet has no page rules
pub pages-none : ArePageRules [] []
pages-none = record { lists = []; each = tt; is = refl }

-- those of one more sheet
pages-push : (sources : List Source) (s : Source) (rules more : List PageRule) → ArePageRules sources rules → ArePageRulesOf s.text more → ArePageRules (sources ++ s ∷ []) (rules ++ more)
pages-push sources s rules more h g = record {
  lists = h.lists ++ more ∷ [];
  each = pairs-more IsOf sources h.lists s more h.each g;
  is = ap (λ l. l ++ more) h.is ∙ ap (λ l. flat_map (λ l. l) h.lists ++ l) (sym (append-nil more)) ∙ sym (flat_map-append (λ l. l) h.lists (more ∷ []));
}

module _ (texts : List (List ℕ)) (text : List ℕ) (i : ℕ) (is : slice_get texts i ≡ Some text) where
  take_next : take (i + 1) texts ≡ take i texts ++ text ∷ []
  take_next = take_more texts i text (slice_get_within texts i text is) ∙ ap (λ x. take i texts ++ x ∷ []) (get_or_from_slice_get texts i text text is)

  pub authors-next : authors_of (take (i + 1) texts) ≡ authors_of (take i texts) ++ author_source text ∷ []
  authors-next = ap authors_of take_next ∙ map-append author_source (take i texts) (text ∷ [])

  pub pages-next : (rules more : List PageRule) → ArePageRules (authors_of (take i texts)) rules → ArePageRulesOf text more → ArePageRules (authors_of (take (i + 1) texts)) (rules ++ more)
  pages-next rules more before one = rw authors-next (pages-push (authors_of (take i texts)) (author_source text) rules more before one)

-- ---- one list

module _ (law : HaveOneReading) where
  of-one : (text : List ℕ) (a b : List PageRule) → ArePageRulesOf text a → ArePageRulesOf text b → a ≡ b
  of-one text a b h g = h.is ∙ ap (filter_map rule_of) ((law (tokens_of text)).1 h.rs g.rs h.ps g.ps h.sheet g.sheet).1 ∙ sym g.is

  lists-one : (sources : List Source) (xs ys : List (List PageRule)) → AllZip IsOf sources xs → AllZip IsOf sources ys → xs ≡ ys
  lists-one [] [] [] h g = refl
  lists-one [] (x ∷ xs) ys h g = absurd h
  lists-one [] [] (y ∷ ys) h g = absurd g
  lists-one (s ∷ rest) [] ys h g = absurd h
  lists-one (s ∷ rest) (x ∷ xs) [] h g = absurd g
  lists-one (s ∷ rest) (x ∷ xs) (y ∷ ys) h g = ap (λ z. z ∷ xs) (of-one s.text x y h.0 g.0) ∙ ap (λ zs. y ∷ zs) (lists-one rest xs ys h.1 g.1)

  pub pages-one : PageRulesAreOne
  pages-one sources rules others h g = h.is ∙ ap (flat_map (λ l. l)) (lists-one sources h.lists g.lists h.each g.each) ∙ sym g.is
