use Rattle.std.proofs.Common.{◌-◌, length, drop, arith, sym, ◌∙◌, length-drop, refl}
use Rattle.std.proofs.lemmas.List.{take_rest}
use Rattle.memchr.specs.Find.{is_byte, Nowhere, Passes}
use Rattle.html_tok.specs.Fields.{end_in}
use Rattle.html_tok.proofs.TextLen.{text_goes_on, text_ends, text_to_end}
use Rattle.html_tok.proofs.scan.length_of_text.Goals as goal

pub returns-then-is_at : goal.returns-then-is_at
returns-then-is_at c =
    let first = rw take_rest at c.in-Some.ensures in
    let room = rw length-drop at first.0.high in
    let t = rw take_rest at c.is_at.ensures in
    sym (text_ends (end_in c.args.until) c.args.rest.now c.loop-found.from c.in-Some.found c.loop-found.invariant.text c.loop-found.invariant.within first.0.before room (sym t ∙ c.if-is_at.true))

pub loop-found-preserved : goal.loop-found-preserved
loop-found-preserved c =
    let first = rw take_rest at c.in-Some.ensures in
    let room = rw length-drop at first.0.high in
    let t = rw take_rest at c.is_at.ensures in
    record {
      within = omega arith;
      text = text_goes_on (end_in c.args.until) c.args.rest.now c.loop-found.from c.in-Some.found c.loop-found.invariant.text c.loop-found.invariant.within first.0.before room (sym t ∙ c.if-is_at.false);
    }

pub returns : goal.returns
returns c =
    let none : Nowhere (Passes (is_byte 60) (drop c.loop-found.from c.args.rest.now)) 0 (length c.args.rest.now - c.loop-found.from) = rw length-drop at (rw take_rest at c.in_default.ensures) in
    sym (text_to_end (end_in c.args.until) c.args.rest.now c.loop-found.from _ c.loop-found.invariant.text c.loop-found.invariant.within none refl)
