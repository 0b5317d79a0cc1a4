use Rattle.std.proofs.Common.{◌≡◌, ◌≤◌, ◌∙◌, ap, sym, subst, is_some, true, refl}
use Rattle.std.specs.Prelude.{unwrap_or}
use Rattle.words.proofs.CommandLemmas.{columns_read}
use Rattle.words.proofs.values.columns_in.Goals as goal

pub unwrap-requires : goal.unwrap-requires
unwrap-requires c =
    let got = columns_read c.args.matches.now c.requires c.get_one.result c.get_one.ensures.value in
    subst (λ o. is_some o ≡ true) (sym got.1) refl

pub returns-clause-columns : goal.returns-clause-columns
returns-clause-columns c =
    let got = columns_read c.args.matches.now c.requires c.get_one.result c.get_one.ensures.value in
    ap (λ o. unwrap_or o 0) (sym c.unwrap.ensures ∙ got.1) ∙ got.4

pub returns-clause-least : goal.returns-clause-least
returns-clause-least c =
    let got = columns_read c.args.matches.now c.requires c.get_one.result c.get_one.ensures.value in
    subst (λ n. 1 ≤ n) (ap (λ o. unwrap_or o 0) (sym got.1 ∙ c.unwrap.ensures)) got.2

pub returns-clause-most : goal.returns-clause-most
returns-clause-most c =
    let got = columns_read c.args.matches.now c.requires c.get_one.result c.get_one.ensures.value in
    subst (λ n. n ≤ 8) (ap (λ o. unwrap_or o 0) (sym got.1 ∙ c.unwrap.ensures)) got.3
