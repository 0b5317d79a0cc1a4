use Rattle.std.proofs.Common.{◌≡◌, ℕ, ◌-◌, ◌<◌, ◌≤◌, Some, length, map, option_map, slice_get, refl, sym, ap, subst, ◌∙◌, arith}
use Rattle.std.proofs.lemmas.List.{length-map}
use Rattle.std.proofs.lemmas.Option.{slice_get-map, slice_get_read}
use Rattle.sheets.specs.List.{sheet_in}
use Rattle.sheets.specs.declared.list.ElementSheet.{ElementSheet}
use Rattle.sheets.specs.Files.{file_texts}
use Rattle.sheets.proofs.ReadLemmas.{element-at}
use Rattle.sheets.proofs.read.text_at.Goals as goal

pub returns-else-number-files : goal.returns-else-number-files
returns-else-number-files c =
    let listed = c.args.listed.now in
    let e = c.index-listed-number.result in
    let many : length (file_texts c.args.files.now) ≡ length c.args.files.now = length-map c.args.files.now _ in
    let low : length c.args.files.now ≤ c.args.number = omega (arith, c.if-number-files.false) in
    let within : c.args.number - length c.args.files.now < length listed = omega (arith, c.requires, low) in
    let at : slice_get listed (c.args.number - length c.args.files.now) ≡ Some e = slice_get_read listed (length listed) (c.args.number - length c.args.files.now) e refl within c.index-listed-number.is in
    let sheet : slice_get (map sheet_in listed) (c.args.number - length c.args.files.now) ≡ Some (sheet_in e) = slice_get-map sheet_in listed (c.args.number - length c.args.files.now) ∙ ap (option_map sheet_in) at in
    let there : slice_get (map sheet_in listed) (c.args.number - length (file_texts c.args.files.now)) ≡ Some (sheet_in e) = subst (λ (n : ℕ). slice_get (map sheet_in listed) (c.args.number - n) ≡ Some (sheet_in e)) (sym many) sheet in
    let text : c.as_str-else-number-files.result.now ≡ e.text = c.as_str-else-number-files.ensures ∙ sym (ap (λ (x : ElementSheet). x.text) c.index-listed-number.is) in
    element-at (map sheet_in listed) (file_texts c.args.files.now) c.args.number (sheet_in e) (omega (arith, many, low)) there ∙ ap Some (sym text)
