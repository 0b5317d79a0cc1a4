-- Selectors by groups: those that ask for a name, and those that ask for none (css-page-3, 3 and 4). Of declarations of
-- equal importance one of a selector with a name wins over one of a selector without, so of the latter no more than the
-- winners need be kept.
use Rattle.std.specs.Prelude.{◌≡◌, ℕ, Bool, ◌&&◌, List, [], ◌∷◌, ◌++◌, Option, None, map, get_or}
use Rattle.std.specs.List.{filter_map, range_with_len}
use Rattle.bk_num.specs.declared.sides.BoxSide.TheVariants as side
use Rattle.css_page.specs.declared.rules.PageRule.{PageRule}
use Rattle.css_page.specs.declared.selectors.PageSelector.{PageSelector}
use Rattle.style.specs.Styles.{initial_style}
use Rattle.css_rules.specs.MarginBoxes.{margin_box_count}
use Rattle.page_ctx.specs.declared.classes.PageClasses.{PageClasses}
use Rattle.page_ctx.specs.declared.property.PageProperty.{PageProperty}
use Rattle.page_ctx.specs.declared.property.PageProperty.TheVariants as property
use Rattle.page_ctx.specs.declared.weight.PageWeight.{}
use Rattle.page_ctx.specs.declared.groups.EachWinners.{EachWinners}
use Rattle.page_ctx.specs.declared.groups.PageWinners.{PageWinners}
use Rattle.page_ctx.specs.declared.groups.GroupedRules.{GroupedRules}
use Rattle.page_ctx.specs.Index.{IsIndex}
use Rattle.page_ctx.specs.Selectors.{asks, takes_classes}
use Rattle.page_ctx.specs.Tables.{page_1, a_left_page, a_right_page, as_blank}
use Rattle.page_ctx.specs.Winners.{AppliedPageRuleOf, Declared, all_such, box_declared, candidate_in, page_declared, winner}

-- whether a selector asks for this name, or for none, and takes pages of these classes
abbrev pub is_own : Option (List ℕ) → PageClasses → PageSelector → Bool
is_own asked c s = asks asked s.name && takes_classes s c

-- the rules that have such selectors, in their order
abbrev pub all_own : Option (List ℕ) → PageClasses → List PageRule → List AppliedPageRuleOf
all_own asked c rules = all_such (is_own asked c) rules

-- all 14 properties
abbrev pub all_properties : List PageProperty
all_properties =
    property.Size ∷
    property.Margin side.Top ∷
    property.Margin side.Right ∷
    property.Margin side.Bottom ∷
    property.Margin side.Left ∷
    property.Color ∷
    property.FontFamily ∷
    property.FontSize ∷
    property.FontStyle ∷
    property.FontWeight ∷
    property.LineHeight ∷
    property.Content ∷
    property.TextAlign ∷
    property.VerticalAlign ∷
    []

-- the winning declarations of properties, one for each that is declared
abbrev pub winners_among : List PageProperty → List Declared → List Declared
winners_among properties ds = filter_map (λ p. winner p ds) properties

-- the winning declarations of all properties
abbrev pub winners_of : List Declared → List Declared
winners_of ds = winners_among all_properties ds

-- those of the margin box of a number
abbrev pub box_winners : List AppliedPageRuleOf → ℕ → List Declared
box_winners rules place = winners_of (box_declared place rules)

-- those that are kept for the margin box of a number
abbrev pub kept_at : List (List Declared) → ℕ → List Declared
kept_at kept place = get_or kept place []

-- what is kept for the margin box of a number, and what rules declare for it
abbrev pub declared_at : List (List Declared) → List AppliedPageRuleOf → ℕ → List Declared
declared_at kept rules place = kept_at kept place ++ box_declared place rules

-- what is kept for a page and for its margin boxes are the winners among what selectors without a name declare for it
pub record AreWinners (rules : List PageRule) (c : PageClasses) (w : PageWinners) : Type 0 where
  pub page : map candidate_in w.page ≡ winners_of (page_declared (all_own None c rules))
  pub boxes :
      map (map candidate_in) w.boxes ≡ map (box_winners (all_own None c rules)) (range_with_len 0 margin_box_count)

-- so for each of the six pages
pub record AreEach (rules : List PageRule) (w : EachWinners) : Type 0 where
  pub first : AreWinners rules page_1 w.first
  pub left : AreWinners rules a_left_page w.left
  pub right : AreWinners rules a_right_page w.right
  pub blank_first : AreWinners rules (as_blank page_1) w.blank_first
  pub blank_left : AreWinners rules (as_blank a_left_page) w.blank_left
  pub blank_right : AreWinners rules (as_blank a_right_page) w.blank_right

-- an index of rules, what is kept of those without a name, and the initial families
pub record AreGrouped (g : GroupedRules) : Type 0 where
  pub index : IsIndex g.index
  pub kept : AreEach g.index.rules.now g.kept
  pub initial : g.initial.now ≡ initial_style.font_family
