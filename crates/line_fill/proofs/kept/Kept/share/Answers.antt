use Rattle.std.proofs.Common.{nat_eq, slice_set, refl}
use Rattle.std.specs.HashMap.{get}
use Rattle.line_fill.specs.Kept.{IsLeafAt}
use Rattle.line_fill.specs.Keys.{key_of}
use Rattle.line_fill.specs.declared.kept.KeptLeaf.{KeptLeaf}
use Rattle.line_fill.proofs.ShareLemmas.{IsShared, shared}
use Rattle.line_fill.proofs.kept.Kept.share.Goals as goal
use Rattle.line_fill.proofs.kept.Kept.share.Goals.{After-index_mut}

abbrev sharing : After-index_mut → KeptLeaf
sharing c = record c.index_mut.result.now { leaf = c.args.leaf }

all : (c : After-index_mut) → IsShared c.self.inside.leaves.items (slice_set c.self.inside.leaves.items c.args.at (sharing c)) (λ q. get nat_eq c.self.inside.lasts q) c.args.at (key_of c.args.leaf.value) c.args.measure
all c =
    let l : IsLeafAt c.self.inside.leaves.items c.args.at (key_of c.args.leaf.value) c.args.measure = rw c.self.view_is c.requires.at in
    shared c.self.inside.leaves.items (λ q. get nat_eq c.self.inside.lasts q) c.args.at c.index_mut.result.now (sharing c) (key_of c.args.leaf.value) c.args.measure c.self.invariant l c.index_mut.ensures.value refl refl refl refl refl

pub invariant_of-self : goal.invariant_of-self
invariant_of-self c = (all (goal.at.invariant_of-self c).After-index_mut).sound

pub returns-clause-at : goal.returns-clause-at
returns-clause-at c = (all (goal.at.returns-clause-at c).After-index_mut).at

pub returns-clause-grows : goal.returns-clause-grows
returns-clause-grows c = rw (← c.self.view_is) ((all (goal.at.returns-clause-grows c).After-index_mut).grows)
