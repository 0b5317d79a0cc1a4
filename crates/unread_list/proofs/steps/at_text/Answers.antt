use Rattle.std.proofs.Common.{◌≡◌, ◌+◌, ◌++◌, ◌∙◌, ap, sym, subst, take, length, length-append, arith}
use Rattle.std.specs.Str.{IsUtf8}
use Rattle.std.proofs.Math.Seq.{take-append_seam}
use Rattle.std.proofs.lemmas.Str.{IsUtf8-append, IsCharBoundary-from_take}
use Rattle.unread_list.proofs.steps.at_text.Goals as goal

pub split_at-requires : goal.split_at-requires
split_at-requires c =
    let len : length (c.args.at.now ++ c.args.prelude.now) ≡ length c.args.at.now + length c.args.prelude.now = length-append c.args.at.now c.args.prelude.now in
    let front : take (length (c.args.at.now ++ c.args.prelude.now)) c.args.text.now ≡ c.args.at.now ++ c.args.prelude.now = ap (λ z. take (length (c.args.at.now ++ c.args.prelude.now)) z) c.requires.is ∙ take-append_seam (c.args.at.now ++ c.args.prelude.now) c.requires.rest in
    rw (sym len) (IsCharBoundary-from_take c.args.text.now (length (c.args.at.now ++ c.args.prelude.now)) c.utf8.text (omega (arith, ap length c.requires.is, length-append (c.args.at.now ++ c.args.prelude.now) c.requires.rest)) (subst IsUtf8 (sym front) (IsUtf8-append c.args.at.now c.args.prelude.now c.utf8.at c.utf8.prelude)))
