-- The rules of sheets by their selectors, as lists, for the contracts of private functions.
use Rattle.std.specs.Prelude.{◌↔◌, ℕ, ◌+◌, Bool, true, false, List, [], ◌∷◌, ◌++◌, Option, None, Some, map, slice_get, if◌then◌else◌}
use Rattle.std.specs.List.{Contains, filter_map}
use Rattle.bk_num.specs.declared.values.Pseudo.{Pseudo}
use Rattle.bk_num.specs.declared.values.Pseudo.TheVariants as pseudo
use Rattle.selectors.specs.Selectors.{SelectorView}
use Rattle.selectors.specs.Match.{Tree}
use Rattle.match_table.specs.All.{MatchesAt}
use Rattle.cascade.specs.declared.decl.ReadDecl.{ReadDecl}
use Rattle.cascade.specs.declared.sheet.Origin.{Origin}
use Rattle.cascade.specs.declared.sheet.ReadRule.{ReadRule}
use Rattle.cascade.specs.declared.selected.Ruled.{Ruled}
use Rattle.cascade.specs.declared.selected.Selected.{Selected}
use Rattle.cascade.specs.declared.table.NodeWinners.{NodeWinners}
use Rattle.cascade.specs.Weights.{of_style}
use Rattle.cascade.specs.Candidates.{AppliedDeclsOf, applied_in, DeclaredBy}
use Rattle.cascade.specs.Winners.{AreWinners}
use Rattle.cascade.specs.Document.{RuleIn, weight_of}

-- the same with the rule as a value
abbrev pub ruled_in : Ruled → RuleIn
ruled_in r = record { origin = r.origin; read = r.rule.now }

-- a selector of a rule, and what it makes apply
pub record SelectedOf : Type 0 where
  pub selector : SelectorView
  pub rule : AppliedDeclsOf

-- the same with selector and declarations as values
abbrev pub selected_in : Selected → SelectedOf
selected_in s = record { selector = s.selector.now; rule = applied_in s.rule }

-- a selector of the rule at a place of the order, with the rule's declarations and its weight
abbrev pub selected_by : ℕ → Origin → List ReadDecl → SelectorView → SelectedOf
selected_by place o decls s = record { selector = s; rule = record { weight = weight_of o place s; decls = decls } }

-- some selectors, where there are declarations, and none where there are none
abbrev pub offered_by : List ReadDecl → List SelectorView → List SelectorView
offered_by [] ss = []
offered_by (d ∷ decls) ss = ss

-- the selectors of a rule that declares something; a rule that declares nothing makes nothing apply
abbrev pub offered : ReadRule → List SelectorView
offered r = offered_by r.decls r.selectors.items

-- the selectors of the rules that declare something, which stand from a place on
abbrev pub selected_from : ℕ → List RuleIn → List SelectedOf
selected_from place [] = []
selected_from place (r ∷ rs) =
    map (selected_by place r.origin r.read.decls) (offered r.read) ++ selected_from (place + 1) rs

-- the same pseudo-element
abbrev pub is_same : Pseudo → Pseudo → Bool
is_same pseudo.Element pseudo.Element = true
is_same pseudo.Before pseudo.Before = true
is_same pseudo.After pseudo.After = true
is_same pseudo.Call pseudo.Call = true
is_same pseudo.Marker pseudo.Marker = true
is_same _ _ = false

-- the declarations of a selector that names this pseudo-element
abbrev pub named : Pseudo → Option SelectedOf → Option AppliedDeclsOf
named p None = None
named p (Some s) = if is_same s.selector.pseudo p then Some s.rule else None

-- those of the k-th selector
abbrev pub named_at : List SelectedOf → Pseudo → ℕ → Option AppliedDeclsOf
named_at ss p k = named p (slice_get ss k)

-- the declarations of a style attribute with their weight
abbrev pub style_rule : List ReadDecl → AppliedDeclsOf
style_rule decls = record { weight = of_style; decls = decls }

-- a style attribute declares for the element alone
abbrev pub style_rules : List ReadDecl → Pseudo → List AppliedDeclsOf
style_rules styled p = if is_same p pseudo.Element then style_rule styled ∷ [] else []

-- what applies to a pseudo-element of a node that the selectors at some places match
abbrev pub rules_at : List SelectedOf → List ℕ → List ReadDecl → Pseudo → List AppliedDeclsOf
rules_at ss places styled p = filter_map (named_at ss p) places ++ style_rules styled p

-- the selectors alone
abbrev pub selectors_of : List SelectedOf → List SelectorView
selectors_of ss = map (λ s. s.selector) ss

-- a place is added where it is hit
abbrev pub pushed_if : Bool → List ℕ → ℕ → List ℕ
pushed_if hit places k = if hit then places ++ k ∷ [] else places

-- the places of the selectors that match a node
abbrev pub ArePlaces : Tree → List SelectedOf → ℕ → List ℕ → Type 0
ArePlaces dom ss n places = (k : ℕ) → Contains places k ↔ MatchesAt dom (selectors_of ss) k n

-- what wins among these rules for each pseudo-element
pub record AreChosen (ss : List SelectedOf) (places : List ℕ) (styled : List ReadDecl) (w : NodeWinners) : Type 0 where
  pub own : AreWinners (DeclaredBy (rules_at ss places styled pseudo.Element)) w.own
  pub before : AreWinners (DeclaredBy (rules_at ss places styled pseudo.Before)) w.before
  pub after : AreWinners (DeclaredBy (rules_at ss places styled pseudo.After)) w.after
  pub call : AreWinners (DeclaredBy (rules_at ss places styled pseudo.Call)) w.call
  pub marker : AreWinners (DeclaredBy (rules_at ss places styled pseudo.Marker)) w.marker
