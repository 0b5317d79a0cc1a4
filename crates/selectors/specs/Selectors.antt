-- What contracts see of a selector.
use Rattle.std.specs.Prelude.{◌≡◌, ◌+◌, ◌≤◌, List, length}
use Rattle.bk_num.specs.declared.values.Pseudo.{Pseudo}
use Rattle.selectors.specs.declared.types.Join.{Join}
use Rattle.selectors.specs.declared.types.Compound.{Compound}

-- what a selector is: compounds, one join fewer, and a pseudo-element or none
pub record SelectorView : Type 0 where
  pub parts : List Compound
  pub joins : List Join
  pub pseudo : Pseudo

-- one to sixteen compounds, with one join fewer
pub record IsSelector (s : SelectorView) : Type 0 where
  pub few : length s.parts ≤ 16
  pub count : length s.parts ≡ length s.joins + 1
