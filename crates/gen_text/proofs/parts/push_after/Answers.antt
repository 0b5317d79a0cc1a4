use Rattle.std.proofs.Common.{rules, ◌++◌, ◌∙◌, ap, string_bytes, FitsSigned}
use Rattle.std.specs.Int.{w64}
use Rattle.std.proofs.lemmas.Int.{to_z-of_z}
use Rattle.std.proofs.lemmas.Result.{on_ok_weaker}
use Rattle.counters.specs.Numerals.{numeral_of}
use Rattle.gen_text.proofs.PartLemmas.{appended}
use Rattle.gen_text.proofs.parts.push_after.Goals as goal

pub returns : goal.returns
returns c =
    let fits : FitsSigned w64 c.args.value = search rules in
    on_ok_weaker c.print_number.result (λ h. appended (string_bytes c.args.into.now) c.args.between.now (numeral_of c.args.style c.args.value) (string_bytes c.print_text.new.into) (string_bytes c.print_number.new.into) c.in_ok-print_text.ensures.ok (h ∙ ap (λ v. string_bytes c.print_text.new.into ++ numeral_of c.args.style v) (to_z-of_z w64 c.args.value fits))) c.print_number.ensures.ok
