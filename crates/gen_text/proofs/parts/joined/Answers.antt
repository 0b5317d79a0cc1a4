use Rattle.std.proofs.Common.{rules, [], ◌++◌, ◌∙◌, ap, string_bytes, FitsSigned, to_z, of_z, w64}
use Rattle.std.specs.List.{flat_map}
use Rattle.std.proofs.lemmas.Int.{to_z-of_z}
use Rattle.counters.specs.Numerals.{numeral_of}
use Rattle.gen_text.specs.Parts.{after_text}
use Rattle.gen_text.proofs.PartLemmas.{appended}
use Rattle.gen_text.proofs.parts.joined.Goals as goal

pub returns : goal.returns
returns c =
    let v = c.in-Some.first.now in
    let fits : FitsSigned w64 v = search rules in
    let first = c.in_ok-print_number.ensures.ok ∙ ap (λ l. l ++ numeral_of c.args.style (to_z w64 (of_z w64 v))) c.new-text.ensures.bytes ∙ ap (λ w. numeral_of c.args.style w) (to_z-of_z w64 v fits) in
    rw c.in-Some.ensures.cases.0 (appended [] (numeral_of c.args.style v) (flat_map (after_text c.args.between.now c.args.style) c.in-Some.more.now) (string_bytes c.print_number.new.into) (string_bytes c.push_more.new.into) first c.in_ok-push_more.ensures)
