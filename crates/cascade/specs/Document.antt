-- Which declarations apply to a node and to its pseudo-elements, and which of them win (CSS 2.1, 6.4).
use Rattle.std.specs.Prelude.{◌≡◌, ◌⊎◌, ℕ, Bool, true, false, List, [], ◌∷◌, ◌++◌, Option, None, Some, codes, length, map, slice_get}
use Rattle.std.specs.List.{Contains, filter_map}
use Rattle.bk_num.specs.declared.values.Pseudo.{Pseudo}
use Rattle.bk_num.specs.declared.values.Pseudo.TheVariants as pseudo
use Rattle.css_tok.specs.Tokens.{tokens_of}
use Rattle.css_rules.specs.Decls.{decls_of}
use Rattle.css_rules.specs.declared.parts.Stop.TheVariants as stop
use Rattle.dom.specs.Nodes.{attribute_at}
use Rattle.selectors.specs.Selectors.{SelectorView}
use Rattle.selectors.specs.Match.{Tree, Matches}
use Rattle.selectors.specs.Specificity.{specificity_of}
use Rattle.cascade.specs.declared.decl.ReadDecl.{ReadDecl}
use Rattle.cascade.specs.declared.sheet.Origin.{Origin}
use Rattle.cascade.specs.declared.sheet.Origin.TheVariants as origin
use Rattle.cascade.specs.declared.sheet.ReadRule.{ReadRule}
use Rattle.cascade.specs.declared.sheet.ReadSheet.{ReadSheet}
use Rattle.cascade.specs.declared.weight.DeclWeight.{DeclWeight}
use Rattle.cascade.specs.declared.table.NodeWinners.{NodeWinners}
use Rattle.cascade.specs.Weights.{of_style}
use Rattle.cascade.specs.Candidates.{Declared, AppliedDeclsOf, IsDeclared}
use Rattle.cascade.specs.Winners.{AreWinners}
use Rattle.cascade.specs.Sheets.{read_of}

-- a rule, and whose sheet it stands in
pub record RuleIn : Type 0 where
  pub origin : Origin
  pub read : ReadRule

-- a rule with the origin of its sheet
abbrev pub from_origin : Origin → ReadRule → RuleIn
from_origin o r = record { origin = o; read = r }

-- the rules of all sheets, in the order of the sheets
abbrev pub rules_of : List ReadSheet → List RuleIn
rules_of [] = []
rules_of (s ∷ ss) = map (from_origin s.origin) s.rules ++ rules_of ss

-- the author's, and not the default sheet's
abbrev pub is_author : Origin → Bool
is_author origin.Default = false
is_author origin.Author = true

-- what the declarations of the rule at a place weigh by a selector
abbrev pub weight_of : Origin → ℕ → SelectorView → DeclWeight
weight_of o place s =
    record {
      important = false;
      author = is_author o;
      styled = false;
      ids = (specificity_of s).0;
      classes = (specificity_of s).1;
      types =
          (specificity_of s).2;
      rule = place;
      decl = 0;
      place = 0;
    }

-- a rule applies to a pseudo-element of a node, or to the node: a selector of it matches the node and has that
-- pseudo-element
pub record IsRuleApplied (dom : Tree) (sheets : List ReadSheet) (n : ℕ) (p : Pseudo) (a : AppliedDeclsOf) : Type 0 where
  pub place : ℕ
  pub rule : RuleIn
  pub there : slice_get (rules_of sheets) place ≡ Some rule
  pub selector : SelectorView
  pub of_rule : Contains rule.read.selectors.items selector
  pub pseudo : selector.pseudo ≡ p
  pub matches : Matches dom selector n
  pub weight : a.weight ≡ weight_of rule.origin place selector
  pub decls : a.decls ≡ rule.read.decls

-- the declarations of a style attribute that have a reading, if there is one
abbrev pub decls_in : Option (List ℕ) → List ReadDecl
decls_in None = []
decls_in (Some text) = filter_map read_of (decls_of stop.Piece (tokens_of text))

-- the declarations of a node's style attribute that have a reading
abbrev pub style_decls : Tree → ℕ → List ReadDecl
style_decls dom n = decls_in (attribute_at dom n (codes "style"))

-- a style attribute applies to its own element
pub record IsStyleApplied (dom : Tree) (n : ℕ) (p : Pseudo) (a : AppliedDeclsOf) : Type 0 where
  pub element : p ≡ pseudo.Element
  pub weight : a.weight ≡ of_style
  pub decls : a.decls ≡ style_decls dom n

-- a rule, or a style attribute, gives declarations for a node or its pseudo-element
abbrev pub Applies : Tree → List ReadSheet → ℕ → Pseudo → AppliedDeclsOf → Type 0
Applies dom sheets n p a = IsRuleApplied dom sheets n p a ⊎ IsStyleApplied dom n p a

-- it is a longhand of a declaration that applies
pub record IsDeclaredAt (dom : Tree) (sheets : List ReadSheet) (n : ℕ) (p : Pseudo) (d : Declared) : Type 0 where
  pub source : AppliedDeclsOf
  pub applies : Applies dom sheets n p source
  pub is : IsDeclared source.weight source.decls d

-- what wins for a node and for each of its pseudo-elements
pub record AreNodeWinners (dom : Tree) (sheets : List ReadSheet) (n : ℕ) (w : NodeWinners) : Type 0 where
  pub own : AreWinners (IsDeclaredAt dom sheets n pseudo.Element) w.own
  pub before : AreWinners (IsDeclaredAt dom sheets n pseudo.Before) w.before
  pub after : AreWinners (IsDeclaredAt dom sheets n pseudo.After) w.after
  pub call : AreWinners (IsDeclaredAt dom sheets n pseudo.Call) w.call
  pub marker : AreWinners (IsDeclaredAt dom sheets n pseudo.Marker) w.marker

-- what wins for the nodes of a document
pub record AreAllWinners (dom : Tree) (sheets : List ReadSheet) (all : List NodeWinners) : Type 0 where
  pub count : length all ≡ length dom
  pub each : (n : ℕ) (w : NodeWinners) → slice_get all n ≡ Some w → AreNodeWinners dom sheets n w
