use Rattle.std.proofs.Common.{[], ◌∷◌, ◌++◌, pos, refl}
use Rattle.std.proofs.lemmas.Result.{err_from_is_err_and}
use Rattle.std.specs.Fmt.{signed_decimal}
use Rattle.listing.specs.Records.{style_name}
use Rattle.bk_io.proofs.Passing.{first_of_two, two_given}
use Rattle.listing.proofs.RecordLemmas.{face-is}
use Rattle.listing.proofs.fields.add_face.Goals as goal

pub returns-in_err-add_texts-clause-bytes : goal.returns-in_err-add_texts-clause-bytes
returns-in_err-add_texts-clause-bytes g c =
    let face = c.args.face.now in
    let p = err_from_is_err_and c.from_residual.result c.from_residual.ensures.1 in
    rw p.1 (first_of_two _ _ _ (32 ∷ (face.name.now ++ [])) (style_name face.italic ++ (signed_decimal (pos face.weight) ++ [])) _
    (face-is face.name.now face.italic face.weight (style_name face.italic) (signed_decimal (pos face.weight)) refl refl) c.in_err-add_texts.ensures.bytes)

pub returns-clause-bytes : goal.returns-clause-bytes
returns-clause-bytes g c =
    let face = c.args.face.now in
    two_given _ _ _ _ _ _ (32 ∷ (face.name.now ++ [])) (c.style_name.result.now ++ (c.format.result.now ++ [])) _ c.add_texts-2.result
    (face-is face.name.now face.italic face.weight c.style_name.result.now c.format.result.now c.style_name.ensures c.format.ensures.text)
    c.in_ok-add_texts.ensures.bytes c.add_texts-2.ensures.bytes
