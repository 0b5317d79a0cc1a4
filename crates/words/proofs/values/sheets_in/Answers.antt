use Rattle.std.proofs.Common.{rules, ◌≡◌, ◌∙◌, ap, codes, map, List, [], Option, Some, None, refl, Bor}
use Rattle.std.specs.Prelude.{option_map, unwrap_or}
use Rattle.clap.specs.Words.{Text, all_of, found_of, rows_of}
use Rattle.clap.proofs.WalkLemmas.{raw_values-rows}
use Rattle.words.proofs.values.sheets_in.Goals as goal

-- the texts that are there, or none
texts_of : (o : Option (Bor (List (Bor Text)))) (rows : Option (List Text)) (d names : Bor (List (Bor Text)))
    → option_map (λ s. map (λ v. v.now) s.now) o ≡ rows → d.now ≡ [] → names ≡ unwrap_or o d
    → map (λ v. v.now) names.now ≡ unwrap_or rows []
texts_of None rows d names read empty is = rw (← read, is, empty) refl
texts_of (Some s) rows d names read empty is = rw (← read, is) refl

pub returns-clause-sheets : goal.returns-clause-sheets
returns-clause-sheets c =
    let found = found_of c.args.matches.now in
    let items : c.extend_from_slice.new.self.items ≡ c.unwrap_or-names.result.now = search rules in
    ap (map (λ v. v.now)) items
    ∙ texts_of c.get_strs.result (all_of (codes "css") (rows_of found)) _ c.unwrap_or-names.result (c.get_strs.ensures ∙ raw_values-rows found (codes "css")) refl c.unwrap_or-names.ensures
