use Rattle.std.proofs.Common.{◌≡◌, ◌∙◌, ap, sym, [], Some}
use Rattle.std.specs.Prelude.{option_map, unwrap_or}
use Rattle.clap.specs.Words.{first_of, found_of, rows_of}
use Rattle.clap.proofs.WalkLemmas.{first_value-rows}
use Rattle.words.proofs.values.text_in.Goals as goal

pub returns : goal.returns
returns c =
    let shown : first_of c.args.id.now (rows_of (found_of c.args.matches.now)) ≡ Some c.unwrap.result.now =
    sym (first_value-rows (found_of c.args.matches.now) c.args.id.now) ∙ (sym c.get_str.ensures ∙ ap (option_map (λ s. s.now)) c.unwrap.ensures) in
    sym (ap (λ o. unwrap_or o []) shown)
