-- The winning declarations for a page (css-page-3, 4; CSS 2.1, 6.4): the greatest by importance, by specificity, and by
-- order.
use Rattle.std.specs.Prelude.{◌≡◌, ◌≤◌, ℕ, ◌+◌, ◌==◌, Bool, true, false, List, [], Option, None, Some, option_map, map, slice_get, if◌then◌else◌}
use Rattle.std.specs.List.{fold, flat_map, filter_map}
use Rattle.bk_num.specs.Sides.{place_of}
use Rattle.bk_num.specs.declared.sides.BoxSide.TheVariants as side
use Rattle.css_page.specs.declared.rules.PageRule.{PageRule}
use Rattle.css_page.specs.declared.selectors.PageSelector.{PageSelector}
use Rattle.css_page.specs.declared.values.PageDecl.{PageDecl}
use Rattle.css_page.specs.declared.values.PageLong.{PageLong}
use Rattle.css_page.specs.declared.values.PageLong.TheVariants as long
use Rattle.page_ctx.specs.declared.property.PageProperty.{PageProperty}
use Rattle.page_ctx.specs.declared.property.PageProperty.TheVariants as property
use Rattle.page_ctx.specs.declared.classes.PageClasses.{PageClasses}
use Rattle.page_ctx.specs.declared.weight.PageWeight.{PageWeight}
use Rattle.page_ctx.specs.declared.applied.AppliedPageRule.{AppliedPageRule}
use Rattle.page_ctx.specs.declared.winner.PageCandidate.{PageCandidate}
use Rattle.page_ctx.specs.Index.{RuleSelectorOf}
use Rattle.page_ctx.specs.Weights.{is_above, greater, greatest_such, is_for_page, of_decl, specificity}

-- a declared value, with what decides
pub record Declared : Type 0 where
  pub weight : PageWeight
  pub long : PageLong

-- a rule that is for a page, with the greatest specificity of its selectors that take the page
pub record AppliedPageRuleOf : Type 0 where
  pub weight : PageWeight
  pub rule : PageRule

-- the same as values
abbrev pub candidate_in : PageCandidate → Declared
candidate_in c = record { weight = c.weight; long = c.long.now }

-- the same as values
abbrev pub applied_in : AppliedPageRule → AppliedPageRuleOf
applied_in a = record { weight = a.weight; rule = a.rule.now }

-- a rule with a weight
abbrev pub applied_by : PageRule → PageWeight → AppliedPageRuleOf
applied_by r w = record { weight = w; rule = r }

-- a rule with the greatest specificity of its selectors that are such, if one is
abbrev pub applied : (PageSelector → Bool) → PageRule → Option AppliedPageRuleOf
applied is r = option_map (applied_by r) (greatest_such is r.selectors)

-- the rules that have such a selector, in their order
abbrev pub all_such : (PageSelector → Bool) → List PageRule → List AppliedPageRuleOf
all_such is rules = filter_map (applied is) rules

-- a rule that is for a page, with its number
pub record NumberedRule : Type 0 where
  pub number : ℕ
  pub applied : AppliedPageRuleOf

-- the same as values
abbrev pub numbered_in : AppliedPageRule → NumberedRule
numbered_in a = record { number = a.number; applied = applied_in a }

-- a rule of a number with a weight
abbrev pub numbered_by : ℕ → PageRule → PageWeight → NumberedRule
numbered_by number r w = record { number = number; applied = applied_by r w }

-- the weight of a rule, if it has this number
abbrev pub weight_at : Option NumberedRule → ℕ → Option PageWeight
weight_at None number = None
weight_at (Some a) number = if a.number == number then Some a.applied.weight else None

-- a rule, if it has another number
abbrev pub other_than : Option NumberedRule → ℕ → Option AppliedPageRuleOf
other_than None number = None
other_than (Some a) number = if a.number == number then None else Some a.applied

-- the rule of a selector that takes the page, with the greater of its weights where it is that rule already
abbrev pub rule_with : Option NumberedRule → RuleSelectorOf → Option NumberedRule
rule_with last e = option_map (numbered_by e.number e.rule) (greater (weight_at last e.number) (specificity e.selector))

-- the rules that are for a page, in their order
abbrev pub applied_to : List ℕ → PageClasses → List PageRule → List AppliedPageRuleOf
applied_to name c rules = all_such (is_for_page name c) rules

-- a declared value with a weight
abbrev pub declared_by : PageWeight → PageLong → Declared
declared_by w l = record { weight = w; long = l }

-- what a declaration declares
abbrev pub longs_of : PageWeight → PageDecl → List Declared
longs_of w d = map (declared_by (of_decl w d.important)) d.longs

-- what declarations declare, in their order
abbrev pub decls_of : PageWeight → List PageDecl → List Declared
decls_of w ds = flat_map (longs_of w) ds

-- what a rule declares for its pages
abbrev pub of_page : AppliedPageRuleOf → List Declared
of_page a = decls_of a.weight a.rule.decls

-- what is declared for a page, in the order of the sheets
abbrev pub page_declared : List AppliedPageRuleOf → List Declared
page_declared rules = flat_map of_page rules

-- what is declared for the margin box of a number by one block of a rule, which is of the box of its own number
abbrev pub block_declared : PageWeight → ℕ → ℕ × List PageDecl → List Declared
block_declared w place block = if block.0 == place then decls_of w block.1 else []

-- what a rule declares for the margin box of a number
abbrev pub rule_declared : ℕ → AppliedPageRuleOf → List Declared
rule_declared place a = flat_map (block_declared a.weight place) a.rule.boxes

-- what is declared for the margin box of a number by the rules that are for a page, in the order of the sheets
abbrev pub box_declared : ℕ → List AppliedPageRuleOf → List Declared
box_declared place rules = flat_map (rule_declared place) rules

-- the property that a value is declared of
abbrev pub property_of : PageLong → PageProperty
property_of (long.Size g) = property.Size
property_of (long.MarginTop g) = property.Margin side.Top
property_of (long.MarginRight g) = property.Margin side.Right
property_of (long.MarginBottom g) = property.Margin side.Bottom
property_of (long.MarginLeft g) = property.Margin side.Left
property_of (long.Color g) = property.Color
property_of (long.FontFamily g) = property.FontFamily
property_of (long.FontSize g) = property.FontSize
property_of (long.FontStyle g) = property.FontStyle
property_of (long.FontWeight g) = property.FontWeight
property_of (long.LineHeight g) = property.LineHeight
property_of (long.Content g) = property.Content
property_of (long.TextAlign g) = property.TextAlign
property_of (long.VerticalAlign g) = property.VerticalAlign

-- its place among all 14, from 0; the margins by side: top, right, bottom, left
abbrev pub number_of : PageProperty → ℕ
number_of property.Size = 0
number_of (property.Margin s) = 1 + place_of s
number_of property.Color = 5
number_of property.FontFamily = 6
number_of property.FontSize = 7
number_of property.FontStyle = 8
number_of property.FontWeight = 9
number_of property.LineHeight = 10
number_of property.Content = 11
number_of property.TextAlign = 12
number_of property.VerticalAlign = 13

-- a value is declared of a property
abbrev pub is_of : PageProperty → PageLong → Bool
is_of p l = number_of (property_of l) == number_of p

-- the greater of two declarations; of equal ones the later
abbrev pub winning : Option Declared → Declared → Option Declared
winning None d = Some d
winning (Some b) d = if is_above b.weight d.weight then Some b else Some d

-- with one more declaration, if it is of the property
abbrev pub with_declared : PageProperty → Option Declared → Declared → Option Declared
with_declared p best d = if is_of p d.long then winning best d else best

-- the winning declaration of a property
abbrev pub winner : PageProperty → List Declared → Option Declared
winner p ds = fold (with_declared p) None ds

-- what it declares
abbrev pub value_of : PageProperty → List Declared → Option PageLong
value_of p ds = option_map (λ d. d.long) (winner p ds)

-- a declaration of a property than which none is greater, nor an equal one later
pub record IsWinner (p : PageProperty) (ds : List Declared) (place : ℕ) (d : Declared) : Type 0 where
  pub there : slice_get ds place ≡ Some d
  pub of_property : is_of p d.long ≡ true
  pub greatest :
      (k : ℕ) (e : Declared) → slice_get ds k ≡ Some e → is_of p e.long ≡ true → is_above e.weight d.weight ≡ false
  pub last :
      (k : ℕ) (e : Declared) → slice_get ds k ≡ Some e → is_of p e.long ≡ true → is_above d.weight e.weight ≡ false →
      k ≤ place
