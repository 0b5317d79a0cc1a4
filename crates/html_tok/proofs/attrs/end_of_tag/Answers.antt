use Rattle.std.proofs.Common.{◌≡◌, ◌+◌, ◌-◌, ◌≤◌, ◌<◌, length, false, arith, sym, ◌∙◌, ap, Some, not, refl}
use Rattle.std.proofs.lemmas.Bool.Decides.{nat_tests}
use Rattle.html_tok.specs.Classes.{is_between, from_first}
use Rattle.html_tok.specs.Tags.{end_after, ends_attributes, after_attribute}
use Rattle.html_tok.proofs.TagLemmas.{shifted, from-le, begun, ends-between, ends-here, ends-step, ends-on, attribute-shorter, ends-some, ends-none}
use Rattle.html_tok.proofs.attrs.end_of_tag.Goals as goal

pub loop-rest-init : goal.loop-rest-init
loop-rest-init c =
    let is : c.skip_to-rest.result.now ≡ from_first (λ b. not (is_between b)) c.args.text.now = c.skip_to-rest.ensures in
    record {
      utf8 = c.skip_to-rest.utf8;
      within = rw is (from-le (λ b. not (is_between b)) c.args.text.now);
      begun = rw is (begun c.args.text.now);
      found = rw is (ends-between c.args.text.now);
    }

pub loop-rest-smaller : goal.loop-rest-smaller
loop-rest-smaller c =
    let some = ends-some c.loop-rest.rest.now (sym c.is_at_end.ensures ∙ c.loop-rest-test.true) in
    let shorter : length c.attribute.result.rest.now < length c.loop-rest.rest.now = rw c.attribute.ensures.rest (attribute-shorter c.loop-rest.rest.now some) in
    let le : length c.skip_to-rest-in-loop-rest.result.now ≤ length c.attribute.result.rest.now = rw c.skip_to-rest-in-loop-rest.ensures (from-le (λ b. not (is_between b)) c.attribute.result.rest.now) in
    omega arith

pub loop-rest-preserved : goal.loop-rest-preserved
loop-rest-preserved c =
    let goes : ends_attributes c.loop-rest.rest.now ≡ false = sym c.is_at_end.ensures ∙ c.loop-rest-test.true in
    let some = ends-some c.loop-rest.rest.now goes in
    let past : c.attribute.result.rest.now ≡ after_attribute c.loop-rest.rest.now = c.attribute.ensures.rest in
    let is : c.skip_to-rest-in-loop-rest.result.now ≡ from_first (λ b. not (is_between b)) c.attribute.result.rest.now = c.skip_to-rest-in-loop-rest.ensures in
    let shorter : length c.attribute.result.rest.now < length c.loop-rest.rest.now = rw past (attribute-shorter c.loop-rest.rest.now some) in
    let le : length c.skip_to-rest-in-loop-rest.result.now ≤ length c.attribute.result.rest.now = rw is (from-le (λ b. not (is_between b)) c.attribute.result.rest.now) in
    let step : end_after 0 c.loop-rest.rest.now ≡ shifted (length c.loop-rest.rest.now - length c.attribute.result.rest.now) (end_after 0 c.attribute.result.rest.now) = rw past (ends-step c.loop-rest.rest.now c.loop-rest.invariant.begun goes) in
    let then : end_after 0 c.attribute.result.rest.now ≡ shifted (length c.attribute.result.rest.now - length c.skip_to-rest-in-loop-rest.result.now) (end_after 0 c.skip_to-rest-in-loop-rest.result.now) = rw is (ends-between c.attribute.result.rest.now) in
    let within : length c.attribute.result.rest.now ≤ length c.args.text.now = (let w = c.loop-rest.invariant.within in omega arith) in
    record {
      utf8 = c.skip_to-rest-in-loop-rest.utf8;
      within = omega arith;
      begun = rw is (begun c.attribute.result.rest.now);
      found = ends-on c.args.text.now c.attribute.result.rest.now c.skip_to-rest-in-loop-rest.result.now (end_after 0 c.args.text.now) within le
          (ends-on c.args.text.now c.loop-rest.rest.now c.attribute.result.rest.now (end_after 0 c.args.text.now) c.loop-rest.invariant.within (omega arith) c.loop-rest.invariant.found step) then;
    }

pub returns-then-is_empty : goal.returns-then-is_empty
returns-then-is_empty c =
    let empty : length c.loop-rest.rest.now ≡ 0 = grind (arith, nat_tests) in
    sym (c.loop-rest.invariant.found ∙ rw (ends-none c.loop-rest.rest.now empty) refl)

pub returns : goal.returns
returns c =
    let some : 0 < length c.loop-rest.rest.now = grind (arith, nat_tests) in
    let here = ends-here c.loop-rest.rest.now c.loop-rest.invariant.begun (sym c.is_at_end.ensures ∙ c.loop-rest-test.false) some in
    sym (c.loop-rest.invariant.found ∙ rw here (ap Some (let e : 0 + (length c.args.text.now - length c.loop-rest.rest.now) ≡ length c.args.text.now - length c.loop-rest.rest.now = omega arith in e)))
