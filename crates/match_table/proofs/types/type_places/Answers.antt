use Rattle.std.proofs.Common.{◌≡◌, ◌≤◌, ◌+◌, ◌-◌, ◌∙◌, ℕ, length, inl, inr, refl, sym, subst, arith}
use Rattle.std.specs.Prelude.{slice_get, Some}
use Rattle.std.proofs.lemmas.Bool.{cases_eq}
use Rattle.std.proofs.lemmas.List.{length-set}
use Rattle.std.proofs.lemmas.Option.{slice_get_read}
use Rattle.match_table.proofs.TypeRanges.{AreKindsOf}
use Rattle.match_table.proofs.TypeLemmas.{kinds-none, kinds-more, kind-within, last-is, firsts-set, lasts-set, lasts-none, places-are, AreLasts}
use Rattle.match_table.proofs.types.type_places.Goals as goal

pub loop-left-init : goal.loop-left-init
loop-left-init c =
    let len = c.len-left.ensures.len in
    let count = c.in_ok-places.ensures.count in
    record {
      count = count;
      within = omega (arith, len);
      firsts = c.in_ok-places.ensures.firsts;
      lasts = lasts-none c.args.dom.now c.len-left.result c.in_ok-places.places.items (omega (arith, len, count));
      kinds = subst (AreKindsOf c.args.dom.now (λ m. c.len-left.result ≤ m)) (sym c.new-kinds.ensures)
          (kinds-none c.args.dom.now (λ m. c.len-left.result ≤ m) (λ m k low is. omega (arith, low, len, kind-within c.args.dom.now m k is)));
    }

pub loop-left-preserved : goal.loop-left-preserved
loop-left-preserved c =
    let more = c.loop-left-test.true in
    let count = c.loop-left.invariant.count in
    let within = c.loop-left.invariant.within in
    let here : ℕ = c.loop-left.left - 1 in
    let step : c.loop-left.left ≡ here + 1 = omega (arith, more) in
    let at : slice_get c.loop-left.places.items here ≡ Some c.index_mut-place.result.now =
    slice_get_read c.loop-left.places.items (length c.loop-left.places.items) here c.index_mut-place.result.now refl (omega (arith, count, within, more)) c.index_mut-place.ensures.value in
    record {
      count = length-set c.loop-left.places.items here _ ∙ count;
      within = omega (arith, within);
      firsts = firsts-set c.args.dom.now c.loop-left.places.items here c.index_mut-place.result.now (record { first = c.index_mut-place.result.now.first; last = c.in_ok-last.last }) at refl c.loop-left.invariant.firsts;
      lasts = lasts-set c.args.dom.now c.loop-left.places.items here (record { first = c.index_mut-place.result.now.first; last = c.in_ok-last.last })
          (c.in_ok-last.ensures.new ∙ last-is c.args.dom.now (λ m. c.loop-left.left ≤ m) c.loop-left.kinds here (λ m lt. omega (arith, lt, more)) (λ m low. omega (arith, low, more)) c.loop-left.invariant.kinds)
          (subst (λ z. AreLasts c.args.dom.now z c.loop-left.places.items) step c.loop-left.invariant.lasts);
      kinds = subst (AreKindsOf c.args.dom.now (λ m. here ≤ m)) (sym c.in_ok-last.ensures.kinds)
          (kinds-more c.args.dom.now (λ m. c.loop-left.left ≤ m) (λ m. here ≤ m) c.loop-left.kinds here
          (λ m low. elim (cases_eq m here) [ inl same ↦ inr same | inr other ↦ inl (omega (arith, low, other, more)) ])
          (λ m low. omega (arith, low)) (omega arith) c.loop-left.invariant.kinds);
    }

pub returns : goal.returns
returns c =
    let test = c.loop-left-test.false in
    let none : c.loop-left.left ≡ 0 = omega (arith, test) in
    record {
      count = c.loop-left.invariant.count;
      places = places-are c.args.dom.now c.loop-left.places.items c.loop-left.invariant.firsts (subst (λ z. AreLasts c.args.dom.now z c.loop-left.places.items) none c.loop-left.invariant.lasts);
    }
