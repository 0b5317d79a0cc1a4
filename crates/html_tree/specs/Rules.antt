-- The table of what a start tag closes, and lists of names.
use Rattle.std.specs.Prelude.{ℕ, Bool, true, false, List, [], ◌∷◌, not, map, codes, if◌then◌else◌}
use Rattle.std.specs.Borrow.{Bor}
use Rattle.bk_num.specs.Names.{has_name}

-- names as bytes
abbrev pub texts : List (Bor (List ℕ)) → List (List ℕ)
texts names = map (λ n. n.now) names

-- a row of the table: it counts for these start tags or for all but them, and closes an element of `closes` that has
-- none of `scope` inside it
pub record Rule : Type 0 where
  pub all_but : Bool
  pub tags : List (List ℕ)
  pub closes : List (List ℕ)
  pub scope : List (List ℕ)

-- a row of the code's table
abbrev pub rule_of : Bool × Bor (List (Bor (List ℕ))) × Bor (List (Bor (List ℕ))) × Bor (List (Bor (List ℕ))) → Rule
rule_of r = record { all_but = r.0; tags = texts r.1.now; closes = texts r.2.now; scope = texts r.3.now }

-- the table: what start tags close (HTML, 13.1.2.4 "Optional tags" and 13.2.6.4.7, in part)
unfoldable pub rules : List Rule
rules =
    record {
      all_but = true;
      tags = codes "title" ∷ codes "base" ∷ codes "link" ∷ codes "meta" ∷ codes "style" ∷ codes "script" ∷
          codes "noscript" ∷ codes "template" ∷ [];
      closes = codes "head" ∷ [];
      scope = [];
    } ∷
    record {
      all_but = false;
      tags = codes "li" ∷ [];
      closes = codes "li" ∷ [];
      scope = codes "ul" ∷ codes "ol" ∷ codes "menu" ∷ codes "table" ∷ codes "td" ∷ codes "th" ∷ [];
    } ∷
    record {
      all_but = false;
      tags = codes "dt" ∷ codes "dd" ∷ [];
      closes = codes "dt" ∷ codes "dd" ∷ [];
      scope = codes "dl" ∷ codes "table" ∷ codes "td" ∷ codes "th" ∷ [];
    } ∷
    record {
      all_but = false;
      tags = codes "td" ∷ codes "th" ∷ [];
      closes = codes "td" ∷ codes "th" ∷ [];
      scope = codes "tr" ∷ codes "table" ∷ [];
    } ∷
    record {
      all_but = false;
      tags = codes "tr" ∷ [];
      closes = codes "tr" ∷ [];
      scope = codes "table" ∷ [];
    } ∷
    record {
      all_but = false;
      tags = codes "tbody" ∷ codes "thead" ∷ codes "tfoot" ∷ [];
      closes = codes "tbody" ∷ codes "thead" ∷ codes "tfoot" ∷ [];
      scope = codes "table" ∷ [];
    } ∷
    record {
      all_but = false;
      tags = codes "option" ∷ [];
      closes = codes "option" ∷ [];
      scope = codes "select" ∷ [];
    } ∷
    record {
      all_but = false;
      tags = codes "address" ∷ codes "article" ∷ codes "aside" ∷ codes "blockquote" ∷ codes "dd" ∷
          codes "details" ∷ codes "div" ∷ codes "dl" ∷ codes "dt" ∷ codes "fieldset" ∷ codes "figcaption" ∷
          codes "figure" ∷ codes "footer" ∷ codes "form" ∷ codes "h1" ∷ codes "h2" ∷ codes "h3" ∷
          codes "h4" ∷ codes "h5" ∷ codes "h6" ∷ codes "header" ∷ codes "hr" ∷ codes "li" ∷ codes "main" ∷
          codes "nav" ∷ codes "ol" ∷ codes "p" ∷ codes "pre" ∷ codes "section" ∷ codes "table" ∷ codes "ul" ∷
          [];
      closes = codes "p" ∷ [];
      scope = codes "table" ∷ codes "td" ∷ codes "th" ∷ codes "caption" ∷ codes "button" ∷ codes "object" ∷ [];
    } ∷
    []

-- void elements: those that have no content (HTML, 13.1.2, in part)
unfoldable pub void_names : List (List ℕ)
void_names =
    codes "area" ∷ codes "base" ∷ codes "br" ∷ codes "col" ∷ codes "embed" ∷ codes "hr" ∷ codes "img" ∷
    codes "input" ∷ codes "link" ∷ codes "meta" ∷ codes "source" ∷ codes "track" ∷ codes "wbr" ∷ []

-- whether a row names a start tag
abbrev pub names_tag : Rule → List ℕ → Bool
names_tag rule name = if rule.all_but then not (has_name rule.tags name) else has_name rule.tags name
