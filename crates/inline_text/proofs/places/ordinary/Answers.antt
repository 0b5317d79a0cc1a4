use Rattle.std.proofs.Common.{◌≡◌, ◌∙◌, ◌+◌, ◌++◌, ◌∷◌, [], ℕ, List, Bool, cond, length, ap, ap₂, sym, subst, arith, append_assoc, append-nil, length-append}
use Rattle.std.specs.Char.{len_utf8, encode_utf8}
use Rattle.std.specs.Str.{chars, IsUtf8}
use Rattle.std.specs.Str.Iter.{char_indices_offset, char_indices_rest}
use Rattle.std.proofs.lemmas.Str.{IsUtf8-past_char, chars_past_char, chars-nil, length-encode}
use Rattle.std.proofs.lemmas.List.{nil_from_length}
use Rattle.inline_text.specs.Places.{is_opportunity}
use Rattle.inline_text.proofs.PlaceLemmas.{places_after, places_start, places_step}
use Rattle.inline_text.proofs.places.ordinary.Goals as goal

pub loop-at-init : goal.loop-at-init
loop-at-init c =
    let rest : char_indices_rest c.into_iter-at-iterator.result ≡ c.args.text.now = ap char_indices_rest c.into_iter-at-iterator.ensures.into_iter_gives ∙ c.char_indices-at-items.ensures.rest in
    let offset : char_indices_offset c.into_iter-at-iterator.result ≡ 0 = ap char_indices_offset c.into_iter-at-iterator.ensures.into_iter_gives ∙ c.char_indices-at-items.ensures.offset in
    let size : length (char_indices_rest c.into_iter-at-iterator.result) ≡ length c.args.text.now = ap length rest in
    let few = c.requires.few in
    record {
      can = omega (arith, size, offset, few);
      finite = tt;
      utf8 = subst IsUtf8 (sym rest) c.utf8.text;
      end = omega (arith, size, offset);
      goes = ap (λ (l : List ℕ). l ++ places_after c.args.spans.now 0 (char_indices_offset c.into_iter-at-iterator.result) (chars (char_indices_rest c.into_iter-at-iterator.result))) (c.of-places.ensures ∙ c.in_ok-with_capacity.ensures.items)
          ∙ ap₂ (λ (n : ℕ) (l : List ℕ). places_after c.args.spans.now 0 n (chars l)) offset rest ∙ places_start c.args.text.now c.args.spans.now;
    }

pub loop-at-preserved : goal.loop-at-preserved
loop-at-preserved c =
    let inv = c.loop-at.invariant in
    let spans = c.args.spans.now in
    let at : ℕ = char_indices_offset c.loop-at.at-iterator in
    let next : ℕ = c.in-Some.next in
    let rest : List ℕ = char_indices_rest c.next.new.self in
    let bytes : char_indices_rest c.loop-at.at-iterator ≡ encode_utf8 next ++ rest = c.in-Some.ensures.steps.1 in
    let spell : chars (char_indices_rest c.loop-at.at-iterator) ≡ next ∷ chars rest = chars_past_char (char_indices_rest c.loop-at.at-iterator) rest next inv.utf8 bytes in
    let offset : char_indices_offset c.next.new.self ≡ at + len_utf8 next = c.in-Some.ensures.steps.2 ∙ ap (λ n. at + n) (length-encode next) in
    let size : length (char_indices_rest c.loop-at.at-iterator) ≡ length (encode_utf8 next) + length rest = ap length bytes ∙ length-append (encode_utf8 next) rest in
    let end : char_indices_offset c.next.new.self + length rest ≡ length c.args.text.now = omega (arith, offset, size, inv.end, length-encode next) in
    let here : List ℕ = cond (is_opportunity spans (record { before = c.loop-at.before; next = next; at = at })) (at ∷ []) [] in
    let puts : c.push_place.new.places ≡ c.loop-at.places ++ here =
    c.in_ok-push_place.ensures ∙ ap (λ (b : Bool). c.loop-at.places ++ cond b (c.in-Some.at ∷ []) []) c.is_opportunity-is_place.ensures
    ∙ ap (λ (n : ℕ). c.loop-at.places ++ cond (is_opportunity spans (record { before = c.loop-at.before; next = next; at = n })) (n ∷ []) []) c.in-Some.ensures.steps.0 in
    let few = c.requires.few in
    record {
      can = omega (arith, end, few);
      finite = tt;
      utf8 = IsUtf8-past_char (char_indices_rest c.loop-at.at-iterator) rest next inv.utf8 bytes;
      end = end;
      goes = ap₂ (λ (l : List ℕ) (n : ℕ). l ++ places_after spans next n (chars rest)) puts offset ∙ append_assoc c.loop-at.places here (places_after spans next (at + len_utf8 next) (chars rest))
          ∙ ap (λ (l : List ℕ). c.loop-at.places ++ l) (sym (places_step spans c.loop-at.before at next (chars rest)))
          ∙ ap (λ (l : List ℕ). c.loop-at.places ++ places_after spans c.loop-at.before at l) (sym spell) ∙ inv.goes;
    }

pub returns : goal.returns
returns c =
    let none : chars (char_indices_rest c.loop-at.at-iterator) ≡ [] = ap chars (nil_from_length (char_indices_rest c.loop-at.at-iterator) c.in-None.ensures.steps.0) ∙ chars-nil in
    sym (append-nil c.loop-at.places) ∙ ap (λ (l : List ℕ). c.loop-at.places ++ places_after c.args.spans.now c.loop-at.before (char_indices_offset c.loop-at.at-iterator) l) (sym none) ∙ c.loop-at.invariant.goes
