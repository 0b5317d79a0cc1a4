use Rattle.std.proofs.Common.{◌≡◌, ◌∙◌, ap, sym, true, false, arith}
use Rattle.css_tok.specs.Marks.{first_of}
use Rattle.css_words.specs.Input.{is_space, past_spaces}
use Rattle.css_words.proofs.ReadLemmas.{space_goes, space_ends}
use Rattle.css_words.proofs.reader.Reader.pass_spaces.Goals as goal

pub loop-self-preserved : goal.loop-self-preserved
loop-self-preserved c =
    let is : is_space (first_of c.loop-self.self) ≡ true = ap is_space (sym c.peek.ensures.next) ∙ sym c.is_space.ensures ∙ c.loop-self-test.true in
    (c.loop-self.invariant.0 ∙ space_goes c.loop-self.self is ∙ ap past_spaces (sym c.advance.ensures.rest), omega (arith, c.loop-self.invariant.1, c.advance.ensures.within))

pub returns-clause-rest : goal.returns-clause-rest
returns-clause-rest c =
    let is : is_space (first_of c.loop-self.self) ≡ false = ap is_space (sym c.peek.ensures.next) ∙ sym c.is_space.ensures ∙ c.loop-self-test.false in
    sym (c.loop-self.invariant.0 ∙ space_ends c.loop-self.self is)
