use Rattle.std.proofs.Common.{◌≡◌, ◌-◌, length, length-drop, arith, ◌∙◌, ap, take, drop, get_or, ◌++◌, encode_utf8, add-zero}
use Rattle.std.specs.String.{string_bytes}
use Rattle.std.proofs.lemmas.Bool.{eqb-true}
use Rattle.std.proofs.lemmas.List.{get_or-drop}
use Rattle.html_tree.specs.Texts.{referred_after, reference_at}
use Rattle.html_tree.proofs.TextLemmas.{refer-on, refer-end, reference-end, reference-boundary}
use Rattle.html_tree.proofs.text.read_references.Goals as goal

pub range_from-rest-requires : goal.range_from-rest-requires
range_from-rest-requires c =
    let first = rw c.as_bytes.ensures.value at c.in-Some.ensures in
    let begun : c.range_from-begun.result.now ≡ drop c.in-Some.at c.loop-at.rest.now = c.range_from-begun.ensures.value in
    let is : get_or c.range_from-begun.result.now 0 0 ≡ 38 = ap (λ l. get_or l 0 0) begun ∙ get_or-drop c.in-Some.at c.loop-at.rest.now 0 0 ∙ ap (λ k. get_or c.loop-at.rest.now k 0) (add-zero c.in-Some.at) ∙ eqb-true _ _ first.1 in
    let len : c.reference_at-reference.result.len ≡ (reference_at c.range_from-begun.result.now).len = rw (← c.as_bytes-in-Some.ensures.value) c.reference_at-reference.ensures.len in
    λ _. rw len (reference-boundary c.range_from-begun.result.now c.range_from-begun.utf8 is)

pub loop-at-smaller : goal.loop-at-smaller
loop-at-smaller c =
    let first = rw c.as_bytes.ensures.value at c.in-Some.ensures in
    let begun : c.range_from-begun.result.now ≡ drop c.in-Some.at c.loop-at.rest.now = c.range_from-begun.ensures.value in
    let is : get_or (drop c.in-Some.at c.loop-at.rest.now) 0 0 ≡ 38 = get_or-drop c.in-Some.at c.loop-at.rest.now 0 0 ∙ ap (λ k. get_or c.loop-at.rest.now k 0) (add-zero c.in-Some.at) ∙ eqb-true _ _ first.1 in
    let len : c.reference_at-reference.result.len ≡ (reference_at (drop c.in-Some.at c.loop-at.rest.now)).len = rw (← begun, ← c.as_bytes-in-Some.ensures.value) c.reference_at-reference.ensures.len in
    let end = reference-end (drop c.in-Some.at c.loop-at.rest.now) is in
    let some = end.some in
    let within = end.within in
    let l : length c.range_from-rest.result.now ≡ (length c.loop-at.rest.now - c.in-Some.at) - c.reference_at-reference.result.len = ap length (c.range_from-rest.ensures.value ∙ ap (drop c.reference_at-reference.result.len) begun) ∙ length-drop c.reference_at-reference.result.len (drop c.in-Some.at c.loop-at.rest.now) ∙ ap (λ n. n - c.reference_at-reference.result.len) (length-drop c.in-Some.at c.loop-at.rest.now) in
    let high = first.0.high in
    omega (arith, l, len, some, high)

pub loop-at-preserved : goal.loop-at-preserved
loop-at-preserved c =
    let first = rw c.as_bytes.ensures.value at c.in-Some.ensures in
    let plain : c.range.result.now ≡ take c.in-Some.at c.loop-at.rest.now = c.range.ensures.value ∙ ap (λ n. take n c.loop-at.rest.now) (let z : c.in-Some.at - 0 ≡ c.in-Some.at = omega arith in z) in
    let begun : c.range_from-begun.result.now ≡ drop c.in-Some.at c.loop-at.rest.now = c.range_from-begun.ensures.value in
    let is : get_or (drop c.in-Some.at c.loop-at.rest.now) 0 0 ≡ 38 = get_or-drop c.in-Some.at c.loop-at.rest.now 0 0 ∙ ap (λ k. get_or c.loop-at.rest.now k 0) (add-zero c.in-Some.at) ∙ eqb-true _ _ first.1 in
    let len : c.reference_at-reference.result.len ≡ (reference_at (drop c.in-Some.at c.loop-at.rest.now)).len = rw (← begun, ← c.as_bytes-in-Some.ensures.value) c.reference_at-reference.ensures.len in
    let code : c.reference_at-reference.result.character ≡ (reference_at (drop c.in-Some.at c.loop-at.rest.now)).code = rw (← begun, ← c.as_bytes-in-Some.ensures.value) c.reference_at-reference.ensures.character in
    let rest : c.range_from-rest.result.now ≡ drop (reference_at (drop c.in-Some.at c.loop-at.rest.now)).len (drop c.in-Some.at c.loop-at.rest.now) = c.range_from-rest.ensures.value ∙ ap (drop c.reference_at-reference.result.len) begun ∙ ap (λ n. drop n (drop c.in-Some.at c.loop-at.rest.now)) len in
    let before : string_bytes c.push_str.new.self ≡ string_bytes c.loop-at.out ++ take c.in-Some.at c.loop-at.rest.now = c.in_ok-push_str.ensures.bytes ∙ ap (λ r. string_bytes c.loop-at.out ++ r) plain in
    let new : string_bytes c.push.new.self ≡ (string_bytes c.loop-at.out ++ take c.in-Some.at c.loop-at.rest.now) ++ encode_utf8 (reference_at (drop c.in-Some.at c.loop-at.rest.now)).code =
    rw (← before, ← code) c.in_ok-push.ensures.bytes in
    record {
      utf8 = c.range_from-rest.utf8;
      left = rw rest (refer-on c.loop-at.rest.now (string_bytes c.loop-at.out) (string_bytes c.push.new.self) (string_bytes c.args.out.now ++ referred_after 0 c.args.text.now) c.in-Some.at first.0.high first.0.before is new c.loop-at.invariant.left);
    }

pub returns : goal.returns
returns c = refer-end c.loop-at.rest.now (string_bytes c.loop-at.out) (string_bytes c.push_str-2.new.self) (string_bytes c.args.out.now ++ referred_after 0 c.args.text.now) (rw c.as_bytes.ensures.value at c.in_default.ensures) c.in_ok-push_str-2.ensures.bytes c.loop-at.invariant.left
