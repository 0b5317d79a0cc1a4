use Rattle.std.proofs.Common.{rules, ◌≡◌, ◌<◌, ◌+◌, ◌+ℤ◌, ◌++◌, ◌∷◌, [], ℤ, List, Option, None, pos, unwrap_or, ℕ, length, drop, get_or, refl, sym, ap, ◌∙◌, arith, append_assoc, append-nil, FitsSigned, w64}
use Rattle.std.proofs.lemmas.Int.{to_z-of_z, ints}
use Rattle.std.proofs.lemmas.List.{drop_all}
use Rattle.std.proofs.lemmas.List.FromFn.{length-map-range_with_len}
use Rattle.page_seq.specs.Numbers.{value_on, values_of, numbers_after}
use Rattle.page_seq.proofs.NumberLemmas.{IsSmallValue, small_value, small_next, numbers_more}
use Rattle.page_seq.proofs.numbers.numbers.Goals as goal

pub loop-value-init : goal.loop-value-init
loop-value-init c =
    let values : c.deref-value-items.result.now ≡ values_of c.args.flow.now.main c.args.list.now.pages c.args.flow.now.resets = c.deref-value-items.ensures.value ∙ (c.in_ok-values.ensures ∙ ap (values_of c.args.flow.now.main c.args.list.now.pages) c.as_slice.ensures) in
    record {
      numbers = rw (c.new-numbers.ensures.items, values) refl;
      low = omega (arith, ints);
      high = omega (arith, ints);
    }

-- the numbers so far, one more, and those that are left
one_more : (all out out' : List ℤ) (before number : ℤ) (values : List (Option ℤ)) (i : ℕ) → i < length values → all ≡ out ++ numbers_after before (drop i values) → number ≡ unwrap_or (get_or values i None) (before +ℤ pos 1) → out' ≡ out ++ number ∷ [] → all ≡ out' ++ numbers_after number (drop (i + 1) values)
one_more all out out' before number values i h told is pushed =
    told ∙ (ap (λ (ns : List ℤ). out ++ ns) (numbers_more before values i None h ∙ ap (λ (n : ℤ). n ∷ numbers_after n (drop (i + 1) values)) (sym is)) ∙ rw pushed (sym (append_assoc out (number ∷ []) _)))

pub loop-value-preserved : goal.loop-value-preserved
loop-value-preserved c =
    let t = c.args.flow.now.main in
    let pages = c.args.list.now.pages in
    let resets = c.args.flow.now.resets in
    let items = c.deref-value-items.result.now in
    let values : items ≡ values_of t pages resets = c.deref-value-items.ensures.value ∙ (c.in_ok-values.ensures ∙ ap (values_of t pages) c.as_slice.ensures) in
    let count : length items ≡ length pages = rw values (length-map-range_with_len (value_on t pages resets) 0 (length pages)) in
    let within : c.loop-value.value-index < length pages = omega arith in
    let fits : FitsSigned w64 c.number_after-number.result = search rules in
    let is = c.number_after-number.ensures in
    let small : IsSmallValue (get_or items c.loop-value.value-index None) = rw values (small_value t pages resets c.loop-value.value-index None c.requires.small within) in
    let bounds = small_next (get_or items c.loop-value.value-index None) _ c.loop-value.value-index small c.loop-value.invariant.low c.loop-value.invariant.high in
    let pushed = rw (to_z-of_z w64 c.number_after-number.result fits) at c.in_ok-push.ensures.items in
    rw (to_z-of_z w64 c.number_after-number.result fits) (record {
      numbers = one_more _ _ _ _ _ items c.loop-value.value-index c.loop-value-test.true c.loop-value.invariant.numbers is pushed;
      low = rw is bounds.0;
      high = rw is bounds.1;
    })

pub returns : goal.returns
returns c = sym (c.loop-value.invariant.numbers ∙ rw (drop_all c.loop-value.value-index c.deref-value-items.result.now c.loop-value-test.false, append-nil) refl)
