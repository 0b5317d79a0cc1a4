use Rattle.std.proofs.Common.{rules, ◌≡◌, string_bytes, true, sym, refl}
use Rattle.std.specs.Str.{is_utf8}
use Rattle.std.proofs.lemmas.Str.{is_utf8-from_IsUtf8, IsUtf8-from_is_utf8, IsUtf8-had}
use Rattle.std.proofs.lemmas.Bool.{false_from_ne_true, both_ways}
use Rattle.bk_io.proofs.texts.text_from.Goals as goal

pub returns-in-Ok-clause-utf8 : goal.returns-in-Ok-clause-utf8
returns-in-Ok-clause-utf8 c =
    let e : string_bytes c.in-Ok.text ≡ c.args.bytes.items = search rules in
    let u : is_utf8 c.args.bytes.items ≡ true = rw e at (is_utf8-from_IsUtf8 _ (IsUtf8-had _ c.in-Ok.text.ok)) in
    sym u

pub returns-in-Err-clause-utf8 : goal.returns-in-Err-clause-utf8
returns-in-Err-clause-utf8 c = sym (false_from_ne_true _ (λ h. absurd (both_ways _ refl (c.in-Err.ensures.succeeds (IsUtf8-from_is_utf8 _ h)))))
