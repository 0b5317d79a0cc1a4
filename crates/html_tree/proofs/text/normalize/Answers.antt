use Rattle.std.proofs.Common.{◌≡◌, ◌-◌, ◌<◌, length, length-drop, add-zero, arith, ◌∙◌, ap, take, drop, get_or, ◌++◌}
use Rattle.std.specs.String.{string_bytes}
use Rattle.html_tree.specs.Texts.{normalized, normalized_byte}
use Rattle.html_tree.proofs.TextLemmas.{normalize-on, normalize-end, special-small}
use Rattle.std.proofs.lemmas.List.{get_or-drop}
use Rattle.std.proofs.lemmas.Str.{IsCharBoundary-after_ascii}
use Rattle.html_tree.proofs.text.normalize.Goals as goal

pub range_from-rest-requires : goal.range_from-rest-requires
range_from-rest-requires c =
    let first = rw c.as_bytes.ensures.value at c.in-Some.ensures in
    let begun : c.range_from-begun.result.now ≡ drop c.in-Some.at c.loop-at.rest.now = c.range_from-begun.ensures.value in
    let byte : get_or c.range_from-begun.result.now 0 0 ≡ get_or c.loop-at.rest.now c.in-Some.at 0 = ap (λ l. get_or l 0 0) begun ∙ get_or-drop c.in-Some.at c.loop-at.rest.now 0 0 ∙ ap (λ k. get_or c.loop-at.rest.now k 0) (add-zero c.in-Some.at) in
    let high = first.0.high in
    let some : 0 < length c.range_from-begun.result.now = (let l = ap length begun ∙ length-drop c.in-Some.at c.loop-at.rest.now in omega arith) in
    λ _. IsCharBoundary-after_ascii c.range_from-begun.result.now 0 c.range_from-begun.utf8 some (rw byte (special-small (get_or c.loop-at.rest.now c.in-Some.at 0) first.1))

pub loop-at-preserved : goal.loop-at-preserved
loop-at-preserved c =
    let first = rw c.as_bytes.ensures.value at c.in-Some.ensures in
    let plain : c.range.result.now ≡ take c.in-Some.at c.loop-at.rest.now = c.range.ensures.value ∙ ap (λ n. take n c.loop-at.rest.now) (let z : c.in-Some.at - 0 ≡ c.in-Some.at = omega arith in z) in
    let begun : c.range_from-begun.result.now ≡ drop c.in-Some.at c.loop-at.rest.now = c.range_from-begun.ensures.value in
    let rest : c.range_from-rest.result.now ≡ drop 1 (drop c.in-Some.at c.loop-at.rest.now) = c.range_from-rest.ensures.value ∙ ap (drop 1) begun in
    let before : string_bytes c.push_str.new.self ≡ string_bytes c.loop-at.out ++ take c.in-Some.at c.loop-at.rest.now = c.in_ok-push_str.ensures.bytes ∙ ap (λ r. string_bytes c.loop-at.out ++ r) plain in
    let new : string_bytes c.push_normalized.new.out ≡ (string_bytes c.loop-at.out ++ take c.in-Some.at c.loop-at.rest.now) ++ normalized_byte (get_or (drop c.in-Some.at c.loop-at.rest.now) 0 0) (get_or (drop c.in-Some.at c.loop-at.rest.now) 1 0) =
    rw (← before, ← begun, ← c.as_bytes-in-Some.ensures.value) c.in_ok-push_normalized.ensures in
    record {
      utf8 = c.range_from-rest.utf8;
      left = rw rest (normalize-on c.loop-at.rest.now (string_bytes c.loop-at.out) (string_bytes c.push_normalized.new.out) (string_bytes c.args.out.now ++ normalized c.args.text.now) c.in-Some.at first.0.high first.0.before new c.loop-at.invariant.left);
    }

pub returns : goal.returns
returns c = normalize-end c.loop-at.rest.now (string_bytes c.loop-at.out) (string_bytes c.push_str-2.new.self) (string_bytes c.args.out.now ++ normalized c.args.text.now) (rw c.as_bytes.ensures.value at c.in_default.ensures) c.in_ok-push_str-2.ensures.bytes c.loop-at.invariant.left
