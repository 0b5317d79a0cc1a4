use Rattle.std.proofs.Common.{rules, pos, get_or, ◌++◌, ◌∙◌, ap, arith, string_bytes, FitsSigned}
use Rattle.std.specs.Int.{w64}
use Rattle.std.proofs.lemmas.Int.{to_z-of_z}
use Rattle.gen_text.specs.Parts.{after_text}
use Rattle.gen_text.proofs.PartLemmas.{more_turn}
use Rattle.gen_text.proofs.parts.push_more.Goals as goal

pub loop-value-preserved : goal.loop-value-preserved
loop-value-preserved c =
    let v = get_or c.args.values.now c.loop-value.value-index (pos 0) in
    let fits : FitsSigned w64 v = search rules in
    more_turn (after_text c.args.between.now c.args.style) c.args.values.now c.loop-value.value-index (pos 0) (string_bytes c.args.into.now) (string_bytes c.loop-value.into) (string_bytes c.push_after.new.into) (omega arith) c.loop-value.invariant (c.in_ok-push_after.ensures ∙ ap (λ w. string_bytes c.loop-value.into ++ after_text c.args.between.now c.args.style w) (to_z-of_z w64 v fits))
