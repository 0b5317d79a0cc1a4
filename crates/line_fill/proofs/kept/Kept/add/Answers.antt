use Rattle.std.proofs.Common.{ℕ, nat_eq, FitsSigned, w64}
use Rattle.std.specs.HashMap.{get}
use Rattle.std.proofs.lemmas.Int.{to_z-of_z}
use Rattle.line_fill.specs.Kept.{IsLeafAt}
use Rattle.line_fill.specs.Keys.{key_of}
use Rattle.line_fill.proofs.AddLemmas.{IsPlaced, placed}
use Rattle.line_fill.proofs.kept.Kept.add.Goals as goal
use Rattle.line_fill.proofs.kept.Kept.add.Goals.{After-add}

all : (c : After-add) → IsPlaced c.self.inside.leaves.items c.add.new.leaves.items (λ q. get nat_eq c.add.new.lasts q) (key_of c.args.leaf.value) c.args.measure c.add.result
all c =
    let fits : FitsSigned w64 c.args.measure = c.ranges.measure in
    let added = rw (to_z-of_z w64 c.args.measure fits) at c.add.ensures.added in
    let none : (j : ℕ) → IsLeafAt c.self.inside.leaves.items j (key_of c.args.leaf.value) c.args.measure → ⊥ = rw c.self.view_is c.requires.none in
    placed c.self.inside.leaves.items c.add.new.leaves.items (λ q. get nat_eq c.self.inside.lasts q) (λ q. get nat_eq c.add.new.lasts q) (key_of c.args.leaf.value) c.args.print c.args.measure c.add.result c.self.invariant c.requires.print none c.add.ensures.at added c.add.ensures.leaves c.add.ensures.lasts

pub invariant_of-self : goal.invariant_of-self
invariant_of-self c = (all c).sound

pub returns-clause-at : goal.returns-clause-at
returns-clause-at c = (all c).at

pub returns-clause-grows : goal.returns-clause-grows
returns-clause-grows c = rw (← c.self.view_is) ((all c).grows)
