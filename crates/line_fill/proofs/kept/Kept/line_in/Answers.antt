use Rattle.std.proofs.Common.{slice_set, nat_eq, FitsSigned, w64}
use Rattle.std.specs.HashMap.{get}
use Rattle.std.specs.Str.{IsUtf8}
use Rattle.std.proofs.lemmas.Int.{to_z-of_z}
use Rattle.line_fill.specs.Kept.{AreKept, IsLeafAt}
use Rattle.line_fill.specs.Keys.{key_of}
use Rattle.line_fill.proofs.AskLemmas.{IsAnswered, answered, if_ok}
use Rattle.line_fill.proofs.EndLemmas.{end_stands}
use Rattle.line_fill.proofs.kept.Kept.line_in.Goals as goal
use Rattle.line_fill.proofs.kept.Kept.line_in.Goals.{After-ask}
use Rattle.line_fill.proofs.kept.Kept.line_in.Given.{Over}

all : (g : Over) (c : After-ask g) → IsAnswered c.args.faces.now c.args.leaf.now c.args.from c.args.measure c.self.inside.leaves.items (slice_set c.self.inside.leaves.items c.args.at c.ask.new.kept) (λ q. get nat_eq c.self.inside.lasts q) c.args.steps.now c.ask.new.steps c.ask.result
all g c =
    let fits : FitsSigned w64 c.args.measure = c.ranges.measure in
    let line = rw (to_z-of_z w64 c.args.measure fits) at c.ask.ensures.line in
    let l : IsLeafAt c.self.inside.leaves.items c.args.at (key_of c.args.leaf.now) c.args.measure = rw c.self.view_is c.requires.at in
    let k : AreKept c.args.faces.now c.self.inside.leaves.items = rw c.self.view_is c.requires.kept in
    answered c.args.faces.now c.args.leaf.now c.args.from c.args.measure c.self.inside.leaves.items (λ q. get nat_eq c.self.inside.lasts q) c.args.at c.index_mut-kept.result.now c.ask.new.kept c.args.steps.now c.ask.new.steps c.ask.result c.self.invariant k l c.index_mut-kept.ensures.value c.ask.ensures.same line c.ask.ensures.lines

pub invariant_of-self : goal.invariant_of-self
invariant_of-self g c = (all g (goal.at.invariant_of-self g c).After-ask).sound

pub returns-clause-line : goal.returns-clause-line
returns-clause-line g c = (all g (goal.at.returns-clause-line g c).After-ask).line

pub returns-clause-end : goal.returns-clause-end
returns-clause-end g c =
    let utf8 : IsUtf8 c.args.leaf.now.text = rw (← c.as_str-text.ensures) c.as_str-text.utf8 in
    if_ok (λ line is. end_stands c.args.leaf.now c.requires.good utf8 c.args.from line.to c.requires.from is.ends) c.ask.result (all g (goal.at.returns-clause-end g c).After-ask).line

pub returns-clause-kept : goal.returns-clause-kept
returns-clause-kept g c = (all g (goal.at.returns-clause-kept g c).After-ask).kept

pub returns-clause-asked : goal.returns-clause-asked
returns-clause-asked g c = rw (← c.self.view_is) ((all g (goal.at.returns-clause-asked g c).After-ask).asked)

pub returns-clause-held : goal.returns-clause-held
returns-clause-held g c = rw (← c.self.view_is) ((all g (goal.at.returns-clause-held g c).After-ask).held_is)

pub returns-clause-fresh : goal.returns-clause-fresh
returns-clause-fresh g c = rw (← c.self.view_is) ((all g (goal.at.returns-clause-fresh g c).After-ask).fresh_is)

pub returns-clause-same : goal.returns-clause-same
returns-clause-same g c = rw (← c.self.view_is) ((all g (goal.at.returns-clause-same g c).After-ask).same)

pub returns-clause-places : goal.returns-clause-places
returns-clause-places g c = rw (← c.self.view_is) ((all g (goal.at.returns-clause-places g c).After-ask).places)
