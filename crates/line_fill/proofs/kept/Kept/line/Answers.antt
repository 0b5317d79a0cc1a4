use Rattle.std.proofs.Common.{FitsSigned, w64}
use Rattle.std.proofs.lemmas.Int.{to_z-of_z}
use Rattle.line_fill.specs.Kept.{asked_of}
use Rattle.line_fill.proofs.AskLemmas.{if_ok, kept_same, asked_through, holds_on, holds_off}
use Rattle.line_fill.proofs.kept.Kept.line.Goals as goal

pub returns-in_err-at-clause-kept : goal.returns-in_err-at-clause-kept
returns-in_err-at-clause-kept g c = kept_same c.args.faces.now c.args.self.now c.place_copy.new.self c.place_copy.ensures.grows.same c.requires.kept

pub line_in-requires-clause-kept : goal.line_in-requires-clause-kept
line_in-requires-clause-kept g c = kept_same c.args.faces.now c.args.self.now c.place_copy.new.self c.place_copy.ensures.grows.same c.requires.kept

pub returns-clause-asked : goal.returns-clause-asked
returns-clause-asked g c =
    let fits : FitsSigned w64 c.args.measure = c.ranges.measure in
    let a = rw (to_z-of_z w64 c.args.measure fits) at c.line_in.ensures.asked in
    if_ok (λ line h. asked_through (asked_of c.args.leaf.now c.args.from c.args.measure) c.args.self.now c.place_copy.new.self c.line_in.new.self c.place_copy.ensures.grows.same h) c.line_in.result a

pub returns-clause-held : goal.returns-clause-held
returns-clause-held g c =
    let fits : FitsSigned w64 c.args.measure = c.ranges.measure in
    let a = rw (to_z-of_z w64 c.args.measure fits) at c.line_in.ensures.held in
    if_ok (λ line f h. f (holds_on (asked_of c.args.leaf.now c.args.from c.args.measure) c.args.self.now c.place_copy.new.self c.place_copy.ensures.grows.same h)) c.line_in.result a

pub returns-clause-fresh : goal.returns-clause-fresh
returns-clause-fresh g c =
    let fits : FitsSigned w64 c.args.measure = c.ranges.measure in
    let a = rw (to_z-of_z w64 c.args.measure fits) at c.line_in.ensures.fresh in
    if_ok (λ line f n. f (λ h. n (holds_off (asked_of c.args.leaf.now c.args.from c.args.measure) c.args.self.now c.place_copy.new.self c.place_copy.ensures.grows.same h))) c.line_in.result a
