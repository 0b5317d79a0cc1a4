use Rattle.std.proofs.Common.{◌≡◌, ◌+◌, length, take, arith, subst, sym}
use Rattle.std.specs.Str.{IsUtf8}
use Rattle.std.proofs.lemmas.Str.{IsUtf8-append, IsCharBoundary-from_take}
use Rattle.std.proofs.lemmas.List.{take_all}
use Rattle.css_rules.specs.Views.{items_in}
use Rattle.css_rules.specs.Parts.{joined}
use Rattle.css_rules.proofs.CoverLemmas.{Covers-take, length_more, joined_more, covered_length, covered_front}
use Rattle.css_rules.proofs.decls.split.Goals as goal

pub overflow_add-len : goal.overflow_add-len
overflow_add-len c =
    let more : length (joined (items_in (take (c.loop-token.token-index + 1) c.args.tokens.now))) ≡ length (joined (items_in (take c.loop-token.token-index c.args.tokens.now))) + length c.as_bytes.result.now = rw c.as_bytes.ensures.value (length_more c.args.tokens.now c.loop-token.token-index _ c.loop-token-test.true) in
    omega (arith, more, covered_length c.args.text.now (take (c.loop-token.token-index + 1) c.args.tokens.now) (Covers-take c.args.text.now c.args.tokens.now (c.loop-token.token-index + 1) c.requires))

pub loop-token-preserved : goal.loop-token-preserved
loop-token-preserved c =
    record {
      len = rw (c.as_bytes.ensures.value, c.loop-token.invariant.len) (sym (length_more c.args.tokens.now c.loop-token.token-index _ c.loop-token-test.true));
      utf8 = subst IsUtf8 (sym (joined_more c.args.tokens.now c.loop-token.token-index _ c.loop-token-test.true)) (IsUtf8-append (joined (items_in (take c.loop-token.token-index c.args.tokens.now))) _ c.loop-token.invariant.utf8 (subst IsUtf8 c.as_bytes.ensures.value c.as_bytes.ensures.utf8));
    }

pub split_at-requires : goal.split_at-requires
split_at-requires c =
    let all : take c.loop-token.token-index c.args.tokens.now ≡ c.args.tokens.now = take_all c.loop-token.token-index c.args.tokens.now c.loop-token-test.false in
    let len : c.loop-token.len ≡ length (joined (items_in c.args.tokens.now)) = rw all at c.loop-token.invariant.len in
    let utf8 : IsUtf8 (joined (items_in c.args.tokens.now)) = rw all at c.loop-token.invariant.utf8 in
    rw len (IsCharBoundary-from_take c.args.text.now (length (joined (items_in c.args.tokens.now))) c.utf8.text (covered_length c.args.text.now c.args.tokens.now c.requires) (subst IsUtf8 (sym (covered_front c.args.text.now c.args.tokens.now c.requires)) utf8))
