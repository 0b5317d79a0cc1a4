-- The values of the resets of the page number are small.
use Rattle.std.proofs.Common.{◌≡◌, ◌≤◌, ℕ, suc, Bool, true, false, cond, ℤ, List, [], ◌∷◌, Some, ◌++◌, map, filter, slice_get, refl, sym, subst, arith}
use Rattle.std.specs.Prelude.{unsigned_abs}
use Rattle.std.specs.List.{All}
use Rattle.std.proofs.lemmas.List.Elements.{All-nil, All-cons}
use Rattle.boxes.specs.declared.flow.Reset.{Reset}
use Rattle.boxes.specs.declared.place.Position.{Position}
use Rattle.page_seq.specs.Numbers.{IsSmallReset}
use Rattle.style.specs.Counters.{AreCounters}
use Rattle.box_gen.specs.Flow.{is_page, page_values, resets_at}
use Rattle.box_gen.proofs.OwnerLemmas.{all-append}

abbrev AreSmall : List (List ℕ × ℤ) → Type 0
AreSmall cs = (k : ℕ) (c : List ℕ × ℤ) → slice_get cs k ≡ Some c → unsigned_abs c.1 ≤ 999999999

small-reset : (at : Position) (v : ℤ) → unsigned_abs v ≤ 999999999 → IsSmallReset (record { value = v; at = at })
small-reset at v l = record { low = grind arith; high = grind arith }

-- the counters of pages among some, where one comes first
abbrev pages_with : Bool → List ℕ × ℤ → List (List ℕ × ℤ) → List (List ℕ × ℤ)
pages_with b c cs = cond b (c ∷ filter is_page cs) (filter is_page cs)

small-all : (at : Position) (cs : List (List ℕ × ℤ)) → AreSmall cs → All IsSmallReset (resets_at at (page_values cs))
small-all at [] h = All-nil IsSmallReset
small-all at (c ∷ cs) h = by (is_page c) (small-all at cs (λ k d e. h (suc k) d e))
  where
    by : (b : Bool) → All IsSmallReset (resets_at at (page_values cs)) → All IsSmallReset (resets_at at (map (λ (d : List ℕ × ℤ). d.1) (pages_with b c cs)))
    by true r = All-cons IsSmallReset (record { value = c.1; at = at }) (resets_at at (page_values cs)) (small-reset at c.1 (h 0 c refl)) r
    by false r = r

-- a list of small resets with those of a style's counters
pub small-more : (at : Position) (cs : List (List ℕ × ℤ)) (before after : List Reset) → AreCounters cs → after ≡ before ++ resets_at at (page_values cs) → All IsSmallReset before → All IsSmallReset after
small-more at cs before after a e h = subst (All IsSmallReset) (sym e) (all-append IsSmallReset before (resets_at at (page_values cs)) h (small-all at cs a.small))
