use Rattle.std.proofs.Common.{◌≡◌, ◌∙◌, ◌+◌, ◌++◌, ◌∷◌, [], ℕ, List, length, drop, ap, sym, arith, append_assoc, length-append}
use Rattle.std.specs.Char.{encode_utf8, len_utf8}
use Rattle.std.specs.Str.{chars}
use Rattle.std.specs.Str.Iter.{chars_rest}
use Rattle.std.proofs.lemmas.List.{nil_from_length}
use Rattle.std.proofs.lemmas.Str.{IsUtf8-past_char, chars-nil, chars_past_char, drop_past_char, length-encode}
use Rattle.soft_hyphens.specs.Pass.{letters_with}
use Rattle.soft_hyphens.proofs.SliceLemmas.{drop-next, get-first}
use Rattle.soft_hyphens.proofs.walk.pass_piece.Goals as goal

pub pass_char-requires-clause-next : goal.pass_char-requires-clause-next
pass_char-requires-clause-next c =
    let inv = c.loop-code.invariant in
    let text : List ℕ = c.args.text.now in
    let at : ℕ = c.loop-code.walk.at in
    let code : ℕ = c.in-Some.code in
    let more : List ℕ = chars_rest c.next.new.self in
    let tail : List ℕ = drop (c.args.walk.at + length c.args.piece.now) text in
    let here : drop at text ≡ encode_utf8 code ++ (more ++ tail) = inv.next ∙ ap (λ (l : List ℕ). l ++ tail) c.in-Some.ensures.steps.0 ∙ append_assoc (encode_utf8 code) more tail in
    here ∙ ap (λ (l : List ℕ). encode_utf8 code ++ l) (sym (drop_past_char text (more ++ tail) at code here))

pub loop-code-preserved : goal.loop-code-preserved
loop-code-preserved c =
    let inv = c.loop-code.invariant in
    let text : List ℕ = c.args.text.now in
    let at : ℕ = c.loop-code.walk.at in
    let code : ℕ = c.in-Some.code in
    let rest : List ℕ = chars_rest c.loop-code.code-iterator in
    let more : List ℕ = chars_rest c.next.new.self in
    let tail : List ℕ = drop (c.args.walk.at + length c.args.piece.now) text in
    let bytes : rest ≡ encode_utf8 code ++ more = c.in-Some.ensures.steps.0 in
    let here : drop at text ≡ encode_utf8 code ++ (more ++ tail) = inv.next ∙ ap (λ (l : List ℕ). l ++ tail) bytes ∙ append_assoc (encode_utf8 code) more tail in
    let spell : chars rest ≡ code ∷ chars more = chars_past_char rest more code inv.utf8 bytes in
    let to : c.in_ok-walk.walk.at ≡ at + len_utf8 code = c.in_ok-walk.ensures.at in
    let size : length rest ≡ len_utf8 code + length more = ap (λ (l : List ℕ). length l) bytes ∙ length-append (encode_utf8 code) more ∙ ap (λ (n : ℕ). n + length more) (length-encode code) in
    record {
      can = tt;
      finite = tt;
      utf8 = IsUtf8-past_char rest more code inv.utf8 bytes;
      walk = c.in_ok-walk.ensures.walk;
      at = omega (arith, inv.at, to, size);
      next = ap (λ (n : ℕ). drop n text) to ∙ drop_past_char text (more ++ tail) at code here;
      over = λ ls others o e.
          let old = inv.over ls others o e in
          let first : drop c.loop-code.walk.place ls ≡ (record { code = code; auto = c.args.auto }) ∷ (letters_with c.args.auto (chars more) ++ others) = old.1 ∙ ap (λ (l : List ℕ). letters_with c.args.auto l ++ others) spell in (
            c.in_ok-walk.ensures.over ls old.0 (get-first ls c.loop-code.walk.place _ _ first),
            ap (λ (n : ℕ). drop n ls) c.in_ok-walk.ensures.place ∙ drop-next ls c.loop-code.walk.place _ _ first,
          );
    }

pub returns : goal.returns
returns c =
    let inv = c.loop-code.invariant in
    let rest : List ℕ = chars_rest c.loop-code.code-iterator in
    let nil : rest ≡ [] = nil_from_length rest c.in-None.ensures.steps.0.0 in
    let none : chars rest ≡ [] = ap chars nil ∙ chars-nil in
    record {
      walk = inv.walk;
      at = omega (arith, inv.at, ap (λ (l : List ℕ). length l) nil);
      over = λ ls more o e. let old = inv.over ls more o e in (old.0, old.1 ∙ ap (λ (l : List ℕ). letters_with c.args.auto l ++ more) none);
    }
