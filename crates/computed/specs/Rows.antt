-- How a node's row is made.
use Rattle.std.specs.Prelude.{ℕ, ℤ, Bool, List, ◌++◌, Option, None, Some, option_map}
use Rattle.bk_num.specs.declared.values.Pseudo.{Pseudo}
use Rattle.bk_num.specs.declared.values.Pseudo.TheVariants as pseudo
use Rattle.style.specs.Nodes.{NodeStyles, with_style, change_last}
use Rattle.style.specs.declared.style.Style.{Style}
use Rattle.computed.specs.declared.walk.GeneratedStyles.{GeneratedStyles}
use Rattle.cascade.specs.declared.table.NodeWinners.{NodeWinners}
use Rattle.computed.specs.Names.{given_names}
use Rattle.computed.specs.Walk.{HasPseudo}

-- a node with the style of a pseudo-element, where there is one
abbrev pub with_option : Pseudo → Option Style → NodeStyles → NodeStyles
with_option p None = λ n. n
with_option p (Some s) = with_style p s

-- the styles of an element's pseudo-elements
pub record PseudoStyles : Type 0 where
  pub before : Option Style
  pub after : Option Style
  pub call : Option Style
  pub marker : Option Style

-- the same as values
abbrev pub styles_in : GeneratedStyles → PseudoStyles
styles_in g =
    record {
      before = option_map (λ b. b.value) g.before;
      after = option_map (λ b. b.value) g.after;
      call = option_map (λ b. b.value) g.call;
      marker = option_map (λ b. b.value) g.marker;
    }

-- the last node with those of all its pseudo-elements
abbrev pub all_put : PseudoStyles → List NodeStyles → List NodeStyles
all_put g rows = change_last (with_option pseudo.Marker g.marker)
    (change_last (with_option pseudo.Call g.call)
    (change_last (with_option pseudo.After g.after) (change_last (with_option pseudo.Before g.before) rows)))

-- each is there exactly where the element may have it and it is generated
pub record AreGenerated (names : List (List ℕ)) (own : Style) (root : ℤ) (shown note : Bool) (w : NodeWinners)
    (g : PseudoStyles) : Type 0
  where
    pub before : HasPseudo names own root shown w.before g.before
    pub after : HasPseudo names own root shown w.after g.after
    pub call : HasPseudo names own root note w.call g.call
    pub marker : HasPseudo names own root note w.marker g.marker

-- the page names that are given for those that are there
abbrev pub generated_names : NodeWinners → PseudoStyles → List (List ℕ)
generated_names w g =
    given_names w.before g.before ++ (given_names w.after g.after ++
    (given_names w.call g.call ++ given_names w.marker g.marker))
