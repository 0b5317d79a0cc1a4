-- The value of a counter over places and what is done at them (CSS 2.1, 12.4): it belongs to the last reset that
-- reaches its place.
use Rattle.std.specs.Prelude.{◌≡◌, ◌⊎◌, ℕ, ◌-◌, List, [], ◌∷◌, ◌++◌, Option, filter, get_or, length, map, ℤ, pos, ◌+ℤ◌}
use Rattle.std.specs.List.{flat_map}
use Rattle.std.specs.Str.{bytes_eq}
use Rattle.bk_num.specs.declared.values.Pseudo.TheVariants as pseudo
use Rattle.dom.specs.Nodes.{Node, parents_of, IsTree}
use Rattle.dom.specs.Walk.{steps_of}
use Rattle.dom.specs.declared.walk.Step.{Step}
use Rattle.dom.specs.declared.walk.Step.TheVariants.{Enter, Leave}
use Rattle.style.specs.Nodes.{NodeStyles}
use Rattle.counters.specs.declared.scopes.Act.{Act}
use Rattle.counters.specs.declared.scopes.Act.TheVariants as act
use Rattle.counters.specs.Document.{changes_at, values_of}
use Rattle.counters.specs.Sites.{Site, Reaches}

-- ---- places and acts

-- the places at a step, in order
abbrev pub sites_at : Step → List Site
sites_at (Enter n) =
    record { node = n.0; pseudo = pseudo.Element } ∷ record { node = n.0; pseudo = pseudo.Call } ∷
    record { node = n.0; pseudo = pseudo.Marker } ∷
    record { node = n.0; pseudo = pseudo.Before } ∷ []
sites_at (Leave n) = record { node = n.0; pseudo = pseudo.After } ∷ []

-- the places of a document, in its order
abbrev pub sites_of : List Node → List Site
sites_of nodes = flat_map sites_at (steps_of nodes)

-- what is done to a counter at a place
pub record SiteAct : Type 0 where
  pub place : Site
  pub act : Act

-- what a place does to the counter of a name, in order
abbrev pub acts_at : List NodeStyles → List ℕ → Site → List SiteAct
acts_at styles name s =
    map (λ c. record { place = s; act = c.1 }) (filter (λ c. bytes_eq c.0 name) (changes_at styles s.node s.pseudo))

-- what some places do to it, in their order
abbrev pub acts_of : List NodeStyles → List ℕ → List Site → List SiteAct
acts_of styles name sites = flat_map (acts_at styles name) sites

-- ---- resets, and the increments that belong to them

-- a reset, stated or implied, at a place: its number with the increments that belong to it so far
pub record Count : Type 0 where
  pub place : Site
  pub value : ℤ

-- none of some resets reaches a place
abbrev pub NoneReaches : List (Option ℕ) → Site → List Count → Type 0
NoneReaches ps p [] = Unit {0}
NoneReaches ps p (c ∷ older) = (Reaches ps c.place p → ⊥) × NoneReaches ps p older

-- an increment at a place belongs to the last of the resets, latest first, that reaches it
abbrev pub Adds : List (Option ℕ) → Site → ℤ → List Count → List Count → Type 0
Adds ps p n [] new = ⊥
Adds ps p n (c ∷ older) new =
    (Reaches ps c.place p × (new ≡ record { place = c.place; value = c.value +ℤ n } ∷ older))
    ⊎ ((Reaches ps c.place p → ⊥) × (more : List Count) × (new ≡ c ∷ more) × Adds ps p n older more)

-- what an act at a place does to the resets before it: where none of them reaches the place, an increment first resets
-- the counter to 0 there
abbrev pub Does : List (Option ℕ) → Site → Act → List Count → List Count → Type 0
Does ps p (act.Reset n) old new = new ≡ record { place = p; value = n } ∷ old
Does ps p (act.Add n) old new =
    Adds ps p n old new ⊎ (NoneReaches ps p old × (new ≡ record { place = p; value = pos 0 +ℤ n } ∷ old))

-- the resets after acts in document order
abbrev pub Come : List (Option ℕ) → List SiteAct → List Count → List Count → Type 0
Come ps [] old new = new ≡ old
Come ps (a ∷ acts) old new = (next : List Count) × Does ps a.place a.act old next × Come ps acts next new

-- the value at a place is that of the last reset that reaches it; 0 where none does
abbrev pub HasValue : List (Option ℕ) → Site → List Count → ℤ → Type 0
HasValue ps p [] v = v ≡ pos 0
HasValue ps p (c ∷ older) v =
    (Reaches ps c.place p × (v ≡ c.value)) ⊎ ((Reaches ps c.place p → ⊥) × HasValue ps p older v)

-- the innermost of the values at a place, which stand the outermost first
abbrev pub innermost : List ℤ → ℤ
innermost values = get_or values (length values - 1) (pos 0)

-- ---- law

-- the innermost value of a counter at a place is that of the last reset that reaches it, by the acts at the places up
-- to it, its own among them
abbrev pub ValuesBelongToResets : Type 0
ValuesBelongToResets =
    (nodes : List Node) (styles : List NodeStyles) (name : List ℕ) (before after : List Site) (p : Site) →
    IsTree nodes → sites_of nodes ≡ before ++ p ∷ after →
    (counts : List Count) × Come (parents_of nodes) (acts_of styles name (before ++ p ∷ [])) [] counts ×
    HasValue (parents_of nodes) p counts (innermost (values_of nodes styles p.node p.pseudo name))

-- and no other
abbrev pub ValuesAreOne : Type 0
ValuesAreOne =
    (ps : List (Option ℕ)) (acts : List SiteAct) (p : Site) (one other : List Count) (v w : ℤ) → Come ps acts [] one →
    Come ps acts [] other → HasValue ps p one v → HasValue ps p other w → v ≡ w
