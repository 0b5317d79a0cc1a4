use Rattle.std.proofs.Common.{◌-◌, length, drop, arith, sym, ◌∙◌, length-drop}
use Rattle.std.proofs.lemmas.List.{take_rest}
use Rattle.memchr.specs.Find.{is_byte, Nowhere, Passes}
use Rattle.html_tok.proofs.Through.{len_through_none}
use Rattle.html_tok.proofs.ArrowLemmas.{arrow, arrow-more, arrow-none, arrow-is}
use Rattle.html_tok.proofs.scan.length_through_comment.Goals as goal

pub ends_comment-requires : goal.ends_comment-requires
ends_comment-requires c =
    let first = rw take_rest at c.in-Some.ensures in
    let room = rw length-drop at first.0.high in
    let within = c.loop-found.invariant.within in
    omega arith

pub returns-then-ends_comment : goal.returns-then-ends_comment
returns-then-ends_comment c =
    let first = rw take_rest at c.in-Some.ensures in
    let room = rw length-drop at first.0.high in
    let within = c.loop-found.invariant.within in
    sym (arrow-is c.args.rest.now c.loop-found.from c.loop-found.invariant.none c.in-Some.found first.0.before (omega arith) first.1 (sym c.ends_comment.ensures ∙ c.if-ends_comment.true))

pub loop-found-preserved : goal.loop-found-preserved
loop-found-preserved c =
    let first = rw take_rest at c.in-Some.ensures in
    let room = rw length-drop at first.0.high in
    let at = c.loop-found.invariant.within in
    record {
      within = omega arith;
      none = arrow-more c.args.rest.now c.loop-found.from c.loop-found.invariant.none c.in-Some.found first.0.before (sym c.ends_comment.ensures ∙ c.if-ends_comment.false);
    }

pub returns : goal.returns
returns c =
    let none : Nowhere (Passes (is_byte 62) (drop c.loop-found.from c.args.rest.now)) 0 (length c.args.rest.now - c.loop-found.from) = rw length-drop at (rw take_rest at c.in_default.ensures) in
    sym (len_through_none arrow c.args.rest.now (λ k l h o. arrow-none c.args.rest.now c.loop-found.from c.loop-found.invariant.none (length c.args.rest.now) none k (let f = o.fits in omega arith) o))
