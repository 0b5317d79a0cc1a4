-- What decides between two declarations for a page (css-page-3, 3.3 and 4; CSS 2.1, 6.4).
use Rattle.std.specs.Prelude.{◌≡◌, ℕ, ◌+◌, Bool, true, false, List, [], ◌∷◌, Option, None, Some, slice_get, if◌then◌else◌}
use Rattle.std.specs.Int.{from_bool}
use Rattle.std.specs.List.{fold}
use Rattle.style.specs.Ranking.{outranks}
use Rattle.css_page.specs.declared.selectors.PageSelector.{PageSelector}
use Rattle.page_ctx.specs.Selectors.{takes}
use Rattle.page_ctx.specs.declared.classes.PageClasses.{PageClasses}
use Rattle.page_ctx.specs.declared.weight.PageWeight.{PageWeight}

-- importance, and then the specificity: a name; how many of `:first` and `:blank`; how many of `:left` and `:right`
abbrev pub ranks_of : PageWeight → List ℕ
ranks_of w = from_bool w.important ∷ from_bool w.named ∷ w.pages ∷ w.sides ∷ []

-- what comes first decides first
abbrev pub is_above : PageWeight → PageWeight → Bool
is_above a b = outranks (ranks_of a) (ranks_of b)

-- a selector with a page name
abbrev pub is_named : Option (List ℕ) → Bool
is_named None = false
is_named (Some name) = true

-- the specificity of a selector
abbrev pub specificity : PageSelector → PageWeight
specificity s = record {
  important = false;
  named = is_named s.name;
  pages = s.firsts + s.blanks;
  sides = s.lefts + s.rights;
}

-- the greater of two weights
abbrev pub greater : Option PageWeight → PageWeight → Option PageWeight
greater None w = Some w
greater (Some v) w = if is_above w v then Some w else Some v

-- with the specificity of one more selector, if it is such
abbrev pub with_selector : (PageSelector → Bool) → Option PageWeight → PageSelector → Option PageWeight
with_selector is best s = if is s then greater best (specificity s) else best

-- the greatest specificity of the selectors that are such; none where none is
abbrev pub greatest_such : (PageSelector → Bool) → List PageSelector → Option PageWeight
greatest_such is selectors = fold (with_selector is) None selectors

-- whether a selector takes a page
abbrev pub is_for_page : List ℕ → PageClasses → PageSelector → Bool
is_for_page name c s = takes s name c

-- the greatest specificity of the selectors that take a page
abbrev pub greatest : List ℕ → PageClasses → List PageSelector → Option PageWeight
greatest name c selectors = greatest_such (is_for_page name c) selectors

-- the weight of a selector that takes a page, above which is that of none of these
pub record IsGreatest (name : List ℕ) (c : PageClasses) (selectors : List PageSelector) (w : PageWeight) : Type 0 where
  pub place : ℕ
  pub selector : PageSelector
  pub there : slice_get selectors place ≡ Some selector
  pub taking : takes selector name c ≡ true
  pub weight : specificity selector ≡ w
  pub greatest :
      (k : ℕ) (s : PageSelector) → slice_get selectors k ≡ Some s → takes s name c ≡ true →
      is_above (specificity s) w ≡ false

-- the weight of a declaration of a rule
abbrev pub of_decl : PageWeight → Bool → PageWeight
of_decl w important = record w { important = important }
