use Rattle.std.proofs.Common.{◌≡◌, ◌∙◌, ◌++◌, ◌∷◌, [], drop, ap, sym, rules, arith}
use Rattle.std.specs.Prelude.{string_bytes}
use Rattle.std.proofs.lemmas.Grind.{common_steps}
use Rattle.css_values.specs.Fonts.{spaced}
use Rattle.css_values.proofs.FontLemmas.{spaced_turn, spaced_end}
use Rattle.css_values.proofs.fonts.joined.Goals as goal

pub loop-word-preserved : goal.loop-word-preserved
loop-word-preserved c =
    let t : string_bytes c.push_str-in-loop-word.new.self ≡ (string_bytes c.loop-word.text ++ (32 ∷ [])) ++ c.word-item.result = first_of (search rules, grind (arith, common_steps)) in
    rw t (spaced_turn (string_bytes c.loop-word.text) c.word-item.result c.args.more.now c.loop-word.word-index c.loop-word-test.true c.word-item.is ∙ c.loop-word.invariant)

pub returns : goal.returns
returns c =
    let d : drop c.loop-word.word-index c.args.more.now ≡ [] = first_of (search rules, grind (arith, common_steps)) in
    c.from_string.ensures ∙ sym (spaced_end (string_bytes c.loop-word.text)) ∙ ap (λ z. string_bytes c.loop-word.text ++ spaced z) (sym d) ∙ c.loop-word.invariant
