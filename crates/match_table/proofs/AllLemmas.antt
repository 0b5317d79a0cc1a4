-- Lists of matches.
use Rattle.std.proofs.Common.{◌≡◌, ◌↔◌, ℕ, suc, ◌+◌, ◌-◌, ◌<◌, ◌≤◌, Bool, true, false, inl, inr, List, [], ◌∷◌, ◌++◌, Some, get_or, length, take, refl, sym, ◌∙◌, ap, subst, arith, ◌==◌}
use Rattle.std.specs.Prelude.{slice_get, slice_set, IsTrue}
use Rattle.std.specs.List.{All, Contains}
use Rattle.std.proofs.Common.{length-append}
use Rattle.std.proofs.lemmas.Bool.{cases_eq, cases_lt}
use Rattle.std.proofs.lemmas.Bool.Decides.{nat_tests}
use Rattle.std.proofs.lemmas.List.{get_or-set_same, get_or-set_other, get_or_past, take_more}
use Rattle.std.proofs.lemmas.List.Elements.{All-nil, All-head, All-tail, All-push, All-get_or, All-from_get_or, Contains-get_or, Contains-push, Contains-push_cases, Contains-append_left}
use Rattle.std.proofs.lemmas.Option.{slice_get-get_or, get_or_from_slice_get, slice_get_within, same_Some}
use Rattle.bk_num.proofs.ListLemmas.{get-end}
use Rattle.selectors.specs.Selectors.{SelectorView}
use Rattle.selectors.specs.Sets.{has}
use Rattle.selectors.specs.Match.{Tree, Matches, Reaches}
use Rattle.match_table.specs.Columns.{IsCell}
use Rattle.match_table.specs.declared.columns.Cell.{Cell}
use Rattle.match_table.specs.All.{AreAscending, MatchesAt}
use Rattle.match_table.specs.Rows.{is_same, with_last, with_place, placed_if, AreBelow, IsMarked, AreMarked, AreMatchRows}
use Rattle.match_table.proofs.RowInvariants.{IsGoing, AreGoing, IsRow, AreRows}

-- ---- a place at the end of a list

below_same : (k : ℕ) (ks : List ℕ) → All (λ m. m < k) ks → is_same k (slice_get ks (length ks - 1)) ≡ false
below_same k [] all = refl
below_same k (m ∷ ms) all =
    let within : length (m ∷ ms) - 1 < length (m ∷ ms) = omega arith in
    let less : get_or (m ∷ ms) (length (m ∷ ms) - 1) 0 < k = All-get_or (λ x. x < k) (m ∷ ms) (length (m ∷ ms) - 1) 0 within all in
    let differ : (get_or (m ∷ ms) (length (m ∷ ms) - 1) 0 == k) ≡ false = grind (arith, nat_tests) in
    ap (is_same k) (slice_get-get_or (m ∷ ms) (length (m ∷ ms) - 1) 0 within) ∙ differ

end_same : (k : ℕ) (ks : List ℕ) → is_same k (slice_get (ks ++ k ∷ []) (length (ks ++ k ∷ []) - 1)) ≡ true
end_same k ks =
    let len : length (ks ++ k ∷ []) ≡ length ks + 1 = length-append ks (k ∷ []) in
    let at : length (ks ++ k ∷ []) - 1 ≡ length ks = omega (arith, len) in
    let same : (k == k) ≡ true = grind (arith, nat_tests) in
    ap (λ i. is_same k (slice_get (ks ++ k ∷ []) i)) at ∙ ap (is_same k) (get-end ks k) ∙ same

last-new : (ks : List ℕ) (k : ℕ) → All (λ m. m < k) ks → with_last ks k ≡ ks ++ k ∷ []
unfolding with_last
last-new ks k all = rw (below_same k ks all) refl

last-same : (ks : List ℕ) (k : ℕ) → with_last (ks ++ k ∷ []) k ≡ ks ++ k ∷ []
unfolding with_last
last-same ks k = rw (end_same k ks) refl

-- ---- one selector's nodes

pub going-none : (dom : Tree) (s : SelectorView) (Seen : ℕ → Type 0) (k : ℕ) (rows : List (List ℕ)) → ((n : ℕ) → Seen n → ⊥) → AreGoing dom s Seen k rows rows
going-none dom s Seen k rows none n within = inr (λ seen m. none n seen, refl)

put-last : (dom : Tree) (s : SelectorView) (Seen : ℕ → Type 0) (n k : ℕ) (old new : List ℕ) → All (λ m. m < k) old → IsGoing dom s Seen n k old new → with_last new k ≡ old ++ k ∷ []
put-last dom s Seen n k old new below (inl h) = ap (λ z. with_last z k) h.1 ∙ last-same old k
put-last dom s Seen n k old new below (inr h) = ap (λ z. with_last z k) h.1 ∙ last-new old k below

more-seen : (dom : Tree) (s : SelectorView) (Seen Seen' : ℕ → Type 0) (n k : ℕ) (old new : List ℕ) → (Seen' n → Seen n) → IsGoing dom s Seen n k old new → IsGoing dom s Seen' n k old new
more-seen dom s Seen Seen' n k old new weak (inl h) = inl h
more-seen dom s Seen Seen' n k old new weak (inr h) = inr (λ seen m. h.0 (weak seen) m, h.1)

not-matched : (dom : Tree) (s : SelectorView) (Seen Seen' : ℕ → Type 0) (n k : ℕ) (old new : List ℕ) → (Matches dom s n → ⊥) → IsGoing dom s Seen n k old new → IsGoing dom s Seen' n k old new
not-matched dom s Seen Seen' n k old new differ (inl h) = inl h
not-matched dom s Seen Seen' n k old new differ (inr h) = inr (λ seen m. differ m, h.1)

pub going-hit : (dom : Tree) (s : SelectorView) (Seen Seen' : ℕ → Type 0) (k at : ℕ) (old new : List (List ℕ)) → length new ≡ length old → at < length old → AreBelow k old
    → AreGoing dom s Seen k old new → Matches dom s at → ((n : ℕ) → Seen' n → (n ≡ at → ⊥) → Seen n) → AreGoing dom s Seen' k old (with_place new at k)
unfolding with_place
going-hit dom s Seen Seen' k at old new same within below going m weak n lt = elim (cases_eq n at) [
  | inl e ↦ subst (λ z. IsGoing dom s Seen' z k (get_or old z []) (get_or (slice_set new at (with_last (get_or new at []) k)) z [])) (sym e)
      (inl (m, get_or-set_same new at (with_last (get_or new at []) k) [] (omega (arith, same, within)) ∙ put-last dom s Seen at k (get_or old at []) (get_or new at []) (below at) (going at within)))
  | inr other ↦ subst (λ z. IsGoing dom s Seen' n k (get_or old n []) z) (sym (get_or-set_other new at n (with_last (get_or new at []) k) [] other))
      (more-seen dom s Seen Seen' n k (get_or old n []) (get_or new n []) (λ seen. weak n seen other) (going n lt))
]

pub going-miss : (dom : Tree) (s : SelectorView) (Seen Seen' : ℕ → Type 0) (k at : ℕ) (old new : List (List ℕ))
    → AreGoing dom s Seen k old new → (at < length old → Matches dom s at → ⊥) → ((n : ℕ) → Seen' n → (n ≡ at → ⊥) → Seen n) → AreGoing dom s Seen' k old new
going-miss dom s Seen Seen' k at old new going differ weak n lt = elim (cases_eq n at) [
  | inl e ↦ not-matched dom s Seen Seen' n k (get_or old n []) (get_or new n []) (λ m. differ (subst (λ z. z < length old) e lt) (subst (λ z. Matches dom s z) e m)) (going n lt)
  | inr other ↦ more-seen dom s Seen Seen' n k (get_or old n []) (get_or new n []) (λ seen. weak n seen other) (going n lt)
]

pub going-if : (dom : Tree) (s : SelectorView) (Seen Seen' : ℕ → Type 0) (k at : ℕ) (old new : List (List ℕ)) (hit : Bool) → length new ≡ length old → AreBelow k old
    → AreGoing dom s Seen k old new → (IsTrue hit ↔ ((at < length old) × Matches dom s at)) → ((n : ℕ) → Seen' n → (n ≡ at → ⊥) → Seen n) → AreGoing dom s Seen' k old (placed_if hit new at k)
going-if dom s Seen Seen' k at old new true same below going is weak = let m = is.0 refl in going-hit dom s Seen Seen' k at old new same m.0 below going m.1 weak
going-if dom s Seen Seen' k at old new false same below going is weak =
    going-miss dom s Seen Seen' k at old new going (λ within m. (let f : false ≡ true = is.1 (within, m) in cc)) weak

-- one more of a list was seen
pub seen-more : (nodes : List ℕ) (i n : ℕ) → i < length nodes → Contains (take (i + 1) nodes) n → (n ≡ get_or nodes i 0 → ⊥) → Contains (take i nodes) n
seen-more nodes i n within has other = elim (Contains-push_cases (take i nodes) (get_or nodes i 0) n (subst (λ l. Contains l n) (take_more nodes i 0 within) has)) [
  | inl h ↦ h
  | inr e ↦ absurd (other (sym e))
]

pub none-seen : (nodes : List ℕ) (n : ℕ) → Contains (take 0 nodes) n → ⊥
none-seen [] n has = omega (arith, has.1)
none-seen (x ∷ xs) n has = omega (arith, has.1)

pub going-done : (dom : Tree) (s : SelectorView) (Seen : ℕ → Type 0) (k : ℕ) (old new : List (List ℕ)) → AreGoing dom s Seen k old new → ((n : ℕ) → n < length old → Matches dom s n → Seen n) → AreMarked dom s k old new
going-done dom s Seen k old new going all n lt = elim (going n lt) [
  | inl h ↦ inl h
  | inr h ↦ inr (λ m. h.0 (all n lt m) m, h.1)
]

-- ---- one selector after another

pub ascending-push : (ks : List ℕ) (k : ℕ) → AreAscending ks → All (λ m. m < k) ks → AreAscending (ks ++ k ∷ [])
ascending-push [] k asc below = (All-nil (λ m. k < m), tt)
ascending-push (x ∷ xs) k asc below =
    (All-push (λ m. x < m) xs k asc.0 (All-head (λ m. m < k) x xs below), ascending-push xs k asc.1 (All-tail (λ m. m < k) x xs below))

row-below : (dom : Tree) (ss : List SelectorView) (k n : ℕ) (ks : List ℕ) → IsRow dom ss k n ks → All (λ m. m < k) ks
row-below dom ss k n ks row = All-from_get_or (λ m. m < k) ks 0 (λ i within. ((row.each (get_or ks i 0)).0 (Contains-get_or ks i 0 within)).0)

pub rows-below : (dom : Tree) (ss : List SelectorView) (k : ℕ) (rows : List (List ℕ)) → AreRows dom ss k rows → AreBelow k rows
rows-below dom ss k rows are n = elim (cases_lt n (length rows)) [
  | inl within ↦ row-below dom ss k n (get_or rows n []) (are n within)
  | inr past ↦ subst (All (λ m. m < k)) (sym (get_or_past rows n [] past)) (All-nil (λ m. m < k))
]

pub rows-none : (dom : Tree) (ss : List SelectorView) (rows : List (List ℕ)) → ((i : ℕ) → get_or rows i [] ≡ []) → AreRows dom ss 0 rows
rows-none dom ss rows empty n within = subst (λ ks. IsRow dom ss 0 n ks) (sym (empty n)) (record {
  ascending = tt;
  each = λ j. (λ has. absurd (omega (arith, has.1)), λ h. absurd (omega (arith, h.0)));
})

row-more : (dom : Tree) (ss : List SelectorView) (s : SelectorView) (k n : ℕ) (old new : List ℕ) → slice_get ss k ≡ Some s → IsRow dom ss k n old → IsMarked dom s n k old new → IsRow dom ss (suc k) n new
row-more dom ss s k n old new is row (inl h) = subst (λ ks. IsRow dom ss (suc k) n ks) (sym h.1) (record {
  ascending = ascending-push old k row.ascending (row-below dom ss k n old row);
  each = λ j. (
    λ has. elim (Contains-push_cases old k j has) [
      | inl old-has ↦ (let at = (row.each j).0 old-has in (omega (arith, at.0), at.1))
      | inr e ↦ (omega (arith, e), subst (λ z. MatchesAt dom ss z n) e (s, is, h.0))
    ],
    λ at. elim (cases_eq j k) [
      | inl e ↦ subst (λ z. Contains (old ++ k ∷ []) z) (sym e) (Contains-push old k)
      | inr other ↦ Contains-append_left old (k ∷ []) j ((row.each j).1 (omega (arith, at.0, other), at.1))
    ],
  );
})
row-more dom ss s k n old new is row (inr h) = subst (λ ks. IsRow dom ss (suc k) n ks) (sym h.1) (record {
  ascending = row.ascending;
  each = λ j. (
    λ has. (let at = (row.each j).0 has in (omega (arith, at.0), at.1)),
    λ at. elim (cases_eq j k) [
      | inl e ↦ (let there = subst (λ z. MatchesAt dom ss z n) e at.1 in absurd (h.0 (subst (λ z. Matches dom z n) (same_Some there.0 s (sym there.1 ∙ is)) there.2)))
      | inr other ↦ (row.each j).1 (omega (arith, at.0, other), at.1)
    ],
  );
})

pub rows-more : (dom : Tree) (ss : List SelectorView) (s : SelectorView) (k : ℕ) (old new : List (List ℕ)) → slice_get ss k ≡ Some s → length new ≡ length old → AreRows dom ss k old → AreMarked dom s k old new → AreRows dom ss (k + 1) new
rows-more dom ss s k old new is same are marked n within =
    let lt : n < length old = omega (arith, same, within) in
    let next : k + 1 ≡ suc k = omega arith in
    subst (λ z. IsRow dom ss z n (get_or new n [])) (sym next) (row-more dom ss s k n (get_or old n []) (get_or new n []) is (are n lt) (marked n lt))

pub rows-done : (dom : Tree) (ss : List SelectorView) (k : ℕ) (rows : List (List ℕ)) → length ss ≤ k → AreRows dom ss k rows → AreMatchRows dom ss rows
rows-done dom ss k rows all are n ks is =
    let row : IsRow dom ss k n ks = subst (λ z. IsRow dom ss k n z) (get_or_from_slice_get rows n ks [] is) (are n (slice_get_within rows n ks is)) in
    record {
      ascending = row.ascending;
      each = λ j. (λ has. ((row.each j).0 has).1, λ at. (row.each j).1 (omega (arith, all, slice_get_within ss j at.0 at.1), at));
    }

pub empty-seen : (n : ℕ) → Contains {X = ℕ} [] n → ⊥
empty-seen n has = omega (arith, has.1)

pub not-below : (n : ℕ) → n < 0 → ⊥
not-below n lt = omega (arith, lt)

pub matched-in : (a b at : ℕ) (P : Type 0) (hit : Bool) → a ≡ b → (IsTrue hit ↔ ((at < b) × P)) → (IsTrue hit ↔ ((at < a) × P))
matched-in a b at P hit e iff = subst (λ z. IsTrue hit ↔ ((at < z) × P)) (sym e) iff

pub column-hit : (dom : Tree) (s : SelectorView) (node last bound : ℕ) (cell : Cell) (hit : Bool) → hit ≡ has cell.reach last → last ≡ length s.joins → IsCell dom s node cell → node < bound
    → IsTrue hit ↔ ((node < bound) × Matches dom s node)
column-hit dom s node last bound cell hit e l is lt =
    (λ t. (lt, subst (λ k. Reaches dom s k node) l ((is.reach last).0 (sym e ∙ t))), λ h. e ∙ (is.reach last).1 (subst (λ k. Reaches dom s k node) (sym l) h.1))
