use Rattle.std.specs.Prelude.{ℕ, ◌≤◌, List, map, length}
use Rattle.std.specs.String.{string_bytes, string_eq}
use Rattle.dom.specs.NameLists.{AreOnce}
use Rattle.indexmap.specs.IndexSet.{IsUnique}
use Rattle.dom.specs.declared.names.Names.TheInside.{Inside}

-- the names that contracts see, in the order in which they came
abbrev pub names_of : Inside → List (List ℕ)
names_of a = map (λ s. string_bytes s) a.set.keys

-- names: as many as a number can name, each once
pub record AreSoundNames (a : Inside) : Type 0 where
  pub few : length a.set.keys ≤ 4294967295
  pub unique : IsUnique string_eq a.set
  pub once : AreOnce (names_of a)
