use Rattle.std.proofs.Common.{◌≡◌, true, false, ◌<◌, ◌^◌, ◌++◌, ◌∙◌, rules, sym, ap, subst, FitsSigned, to_z, of_z, w64}
use Rattle.std.specs.Int.Signed.{mag}
use Rattle.std.specs.Str.{IsUtf8}
use Rattle.std.proofs.lemmas.Int.{to_z-of_z}
use Rattle.counters.specs.Numerals.{numeral_of}
use Rattle.counters.proofs.TextLemmas.{numeral_utf8}
use Rattle.counters.proofs.numeral.numeral_text.Goals as goal

pub unreachable-requires : goal.unreachable-requires
unreachable-requires c =
    let fits : FitsSigned w64 c.args.n = search rules in
    let small : mag c.args.n < 2 ^ 63 = search rules in
    let text : c.numeral.new.into.items ≡ numeral_of c.args.style c.args.n = c.in_ok-numeral.ensures.ok ∙ ap (λ l. l ++ numeral_of c.args.style (to_z w64 (of_z w64 c.args.n))) c.new-bytes.ensures.items ∙ ap (λ v. numeral_of c.args.style v) (to_z-of_z w64 c.args.n fits) in
    let succeeds : false ≡ true = c.in-Err.ensures.succeeds (subst IsUtf8 (sym text) (numeral_utf8 c.args.style c.args.n small)) in
    absurd (cc)
