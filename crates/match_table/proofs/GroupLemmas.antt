-- Groups of equal selectors.
use Rattle.std.proofs.Common.{◌≡◌, ◌⊎◌, ℕ, ◌+◌, ◌<◌, ◌≤◌, inl, inr, List, [], ◌∷◌, ◌++◌, Some, Result, Ok, Err, OnOk, get_or, length, refl, sym, ◌∙◌, ap, subst, arith}
use Rattle.std.specs.Prelude.{slice_get, slice_set}
use Rattle.std.specs.List.{All, Contains}
use Rattle.std.proofs.Common.{length-append}
use Rattle.std.proofs.lemmas.Bool.{cases_eq, cases_lt}
use Rattle.std.proofs.lemmas.List.{length-set, get_or-set_same, get_or-set_other, get_or_past}
use Rattle.std.proofs.lemmas.List.Elements.{All-from_get_or, Contains-get_or, Contains-push, Contains-push_cases, Contains-append_left}
use Rattle.std.proofs.lemmas.Option.{slice_get-get_or, get_or_from_slice_get, slice_get_within}
use Rattle.bk_num.proofs.ListLemmas.{contains-none, get-before, get-end, get-keep}
use Rattle.selectors.specs.Selectors.{SelectorView}
use Rattle.selectors.specs.Match.{Tree}
use Rattle.match_table.specs.All.{AreAscending, MatchesAt, IsPlaceIn, AreGroups, IsMatchList, AreMatchLists}
use Rattle.match_table.specs.Rows.{IsMatchRow, AreMatchRows}
use Rattle.match_table.specs.Groups.{IsSame, AreGrouped, IsAdded}
use Rattle.match_table.proofs.AllLemmas.{ascending-push}

-- ---- no groups

nothing : (g : ℕ) → get_or {A = List ℕ} [] g [] ≡ []
nothing g = get_or_past [] g [] (omega arith)

no-place : (g k : ℕ) → Contains (get_or {A = List ℕ} [] g []) k → ⊥
no-place g k has = contains-none k (subst (λ l. Contains l k) (nothing g) has)

no-groups : (ss : List SelectorView) → AreGrouped ss 0 [] []
no-groups ss = record {
  counted = refl;
  ascending = λ g. subst AreAscending (sym (nothing g)) tt;
  below = λ g k has. absurd (no-place g k has);
  same = λ g k has. absurd (no-place g k has);
  all = λ k lt. absurd (omega (arith, lt));
  once = λ g h k has other. absurd (no-place g k has);
}

pub none-grouped : (ss firsts : List SelectorView) (groups : List (List ℕ)) → firsts ≡ [] → groups ≡ [] → AreGrouped ss 0 firsts groups
none-grouped ss firsts groups f g = subst (λ l. AreGrouped ss 0 l groups) (sym f) (subst (λ l. AreGrouped ss 0 [] l) (sym g) (no-groups ss))

-- ---- one selector more

has-new : (s : SelectorView) (k : ℕ) (firsts more : List SelectorView) (groups new : List (List ℕ)) (a : IsAdded s k firsts groups more new) → Contains (get_or new a.group []) k
has-new s k firsts more groups new a = subst (λ l. Contains l k) (sym a.put) (Contains-push (get_or groups a.group []) k)

put-at : (s : SelectorView) (k h : ℕ) (firsts more : List SelectorView) (groups new : List (List ℕ)) (a : IsAdded s k firsts groups more new) → h ≡ a.group → get_or new h [] ≡ get_or groups a.group [] ++ k ∷ []
put-at s k h firsts more groups new a e = ap (λ i. get_or new i []) e ∙ a.put

has-old : (s : SelectorView) (k h j : ℕ) (firsts more : List SelectorView) (groups new : List (List ℕ)) (a : IsAdded s k firsts groups more new) → Contains (get_or groups h []) j → Contains (get_or new h []) j
has-old s k h j firsts more groups new a has = elim (cases_eq h a.group) [
  | inl e ↦ subst (λ l. Contains l j) (sym (put-at s k h firsts more groups new a e)) (Contains-append_left (get_or groups a.group []) (k ∷ []) j (subst (λ i. Contains (get_or groups i []) j) e has))
  | inr other ↦ subst (λ l. Contains l j) (sym (a.others h other)) has
]

which : (s : SelectorView) (k h j : ℕ) (firsts more : List SelectorView) (groups new : List (List ℕ)) (a : IsAdded s k firsts groups more new) → Contains (get_or new h []) j → Contains (get_or groups h []) j ⊎ ((h ≡ a.group) × (k ≡ j))
which s k h j firsts more groups new a has = by (cases_eq h a.group)
  where
    here : h ≡ a.group → Contains (get_or groups a.group []) j ⊎ (k ≡ j) → Contains (get_or groups h []) j ⊎ ((h ≡ a.group) × (k ≡ j))
    here e (inl old) = inl (subst (λ i. Contains (get_or groups i []) j) (sym e) old)
    here e (inr same) = inr (e, same)

    by : (h ≡ a.group) ⊎ (h ≡ a.group → ⊥) → Contains (get_or groups h []) j ⊎ ((h ≡ a.group) × (k ≡ j))
    by (inl e) = here e (Contains-push_cases (get_or groups a.group []) k j (subst (λ l. Contains l j) (put-at s k h firsts more groups new a e) has))
    by (inr other) = inl (subst (λ l. Contains l j) (a.others h other) has)

all-below : (ss : List SelectorView) (k : ℕ) (firsts : List SelectorView) (groups : List (List ℕ)) → AreGrouped ss k firsts groups → (g : ℕ) → All (λ m. m < k) (get_or groups g [])
all-below ss k firsts groups old g = All-from_get_or (λ m. m < k) (get_or groups g []) 0 (λ i within. old.below g (get_or (get_or groups g []) i 0) (Contains-get_or (get_or groups g []) i 0 within))

pub grouped-more : (ss : List SelectorView) (s : SelectorView) (k : ℕ) (firsts more : List SelectorView) (groups new : List (List ℕ)) → slice_get ss k ≡ Some s → AreGrouped ss k firsts groups → IsAdded s k firsts groups more new → AreGrouped ss (k + 1) more new
grouped-more ss s k firsts more groups new is old a = record {
  counted = a.counted;
  ascending = λ g. elim (cases_eq g a.group) [
    | inl e ↦ subst AreAscending (sym (put-at s k g firsts more groups new a e)) (ascending-push (get_or groups a.group []) k (old.ascending a.group) (all-below ss k firsts groups old a.group))
    | inr other ↦ subst AreAscending (sym (a.others g other)) (old.ascending g)
  ];
  below = λ g j has. below g j (part g j has);
  same = λ g j has. same g j (part g j has);
  all = λ j lt. elim (cases_eq j k) [
    | inl e ↦ (a.group, subst (λ z. Contains (get_or new a.group []) z) (sym e) (has-new s k firsts more groups new a))
    | inr other ↦ (let at = old.all j (omega (arith, lt, other)) in (at.0, has-old s k at.0 j firsts more groups new a at.1))
  ];
  once = λ g h j has other. once g h j (part g j has) (part h j other);
}
  where
    part : (h j : ℕ) → Contains (get_or new h []) j → Contains (get_or groups h []) j ⊎ ((h ≡ a.group) × (k ≡ j))
    part h j has = which s k h j firsts more groups new a has

    below : (g j : ℕ) → Contains (get_or groups g []) j ⊎ ((g ≡ a.group) × (k ≡ j)) → j < k + 1
    below g j (inl has) = let lt = old.below g j has in omega (arith, lt)
    below g j (inr e) = let same = e.1 in omega (arith, same)

    same : (g j : ℕ) → Contains (get_or groups g []) j ⊎ ((g ≡ a.group) × (k ≡ j)) → IsSame ss more g j
    same g j (inl has) = let at = old.same g j has in (at.0, a.kept g at.0 at.1, at.2)
    same g j (inr e) = (s, subst (λ i. slice_get more i ≡ Some s) (sym e.0) a.first, subst (λ i. slice_get ss i ≡ Some s) e.1 is)

    once : (g h j : ℕ) → Contains (get_or groups g []) j ⊎ ((g ≡ a.group) × (k ≡ j)) → Contains (get_or groups h []) j ⊎ ((h ≡ a.group) × (k ≡ j)) → g ≡ h
    once g h j (inl has) (inl other) = old.once g h j has other
    once g h j (inl has) (inr e) = let lt = old.below g j has in let same = e.1 in absurd (omega (arith, lt, same))
    once g h j (inr e) (inl has) = let lt = old.below h j has in let same = e.1 in absurd (omega (arith, lt, same))
    once g h j (inr e) (inr f) = e.0 ∙ sym f.0

-- a place is put into a group of equal selectors
pub added-old : {A E : Type 0} (res : Result A E) (s : SelectorView) (k g : ℕ) (firsts more : List SelectorView) (groups new : List (List ℕ)) → slice_get firsts g ≡ Some s → length groups ≡ length firsts → more ≡ firsts
    → OnOk res (new ≡ slice_set groups g (get_or groups g [] ++ k ∷ [])) → OnOk res (IsAdded s k firsts groups more new)
added-old (Err x) s k g firsts more groups new at count same e = tt
added-old (Ok x) s k g firsts more groups new at count same e =
    let low = slice_get_within firsts g s at in
    record {
      group = g;
      first = subst (λ l. slice_get l g ≡ Some s) (sym same) at;
      put = ap (λ l. get_or l g []) e ∙ get_or-set_same groups g (get_or groups g [] ++ k ∷ []) [] (omega (arith, low, count));
      others = λ h other. ap (λ l. get_or l h []) e ∙ get_or-set_other groups g h (get_or groups g [] ++ k ∷ []) [] other;
      kept = λ h t there. subst (λ l. slice_get l h ≡ Some t) (sym same) there;
      counted = ap length e ∙ length-set groups g (get_or groups g [] ++ k ∷ []) ∙ count ∙ ap length (sym same);
    }

-- a group is made
beside : (groups : List (List ℕ)) (row : List ℕ) (h : ℕ) → (h ≡ length groups → ⊥) → get_or (groups ++ row ∷ []) h [] ≡ get_or groups h []
beside groups row h other = elim (cases_lt h (length groups)) [
  | inl low ↦ get_or_from_slice_get (groups ++ row ∷ []) h (get_or groups h []) [] (get-before groups row h low ∙ slice_get-get_or groups h [] low)
  | inr past ↦ (let len = length-append groups (row ∷ []) in get_or_past (groups ++ row ∷ []) h [] (omega (arith, len, past, other)) ∙ sym (get_or_past groups h [] past))
]

pub added-new : {A E : Type 0} (res : Result A E) (s : SelectorView) (k : ℕ) (firsts more : List SelectorView) (groups new : List (List ℕ)) → length groups ≡ length firsts
    → OnOk res (more ≡ firsts ++ s ∷ []) → OnOk res (new ≡ groups ++ (k ∷ []) ∷ []) → OnOk res (IsAdded s k firsts groups more new)
added-new (Err x) s k firsts more groups new count f g = tt
added-new (Ok x) s k firsts more groups new count f g = record {
  group = length groups;
  first = subst (λ l. slice_get l (length groups) ≡ Some s) (sym f) (subst (λ i. slice_get (firsts ++ s ∷ []) i ≡ Some s) (sym count) (get-end firsts s));
  put = ap (λ l. get_or l (length groups) []) g ∙ get_or_from_slice_get (groups ++ (k ∷ []) ∷ []) (length groups) (k ∷ []) [] (get-end groups (k ∷ []))
      ∙ sym (ap (λ l. l ++ k ∷ []) (get_or_past groups (length groups) [] (omega arith)));
  others = λ h other. ap (λ l. get_or l h []) g ∙ beside groups (k ∷ []) h other;
  kept = λ h t there. subst (λ l. slice_get l h ≡ Some t) (sym f) (get-keep firsts (s ∷ []) h t there);
  counted = ap length g ∙ length-append groups ((k ∷ []) ∷ []) ∙ ap (λ n. n + 1) count ∙ sym (length-append firsts (s ∷ [])) ∙ sym (ap length f);
}

-- ---- all selectors

pub grouped-all : (ss : List SelectorView) (count all : ℕ) (firsts : List SelectorView) (groups : List (List ℕ)) → length ss ≡ all → all ≤ count → AreGrouped ss count firsts groups → AreGrouped ss all firsts groups
grouped-all ss count all firsts groups len low are = record {
  counted = are.counted;
  ascending = are.ascending;
  below = λ g k has. (let at = are.same g k has in let lt = slice_get_within ss k at.0 at.2 in omega (arith, lt, len));
  same = are.same;
  all = λ k lt. are.all k (omega (arith, lt, low));
  once = are.once;
}

are-groups : (ss firsts : List SelectorView) (groups : List (List ℕ)) → AreGrouped ss (length ss) firsts groups → AreGroups ss groups
are-groups ss firsts groups are = record {
  ascending = are.ascending;
  equal = λ g j k has other. (let at = are.same g j has in let to = are.same g k other in at.2 ∙ sym at.1 ∙ to.1 ∙ sym to.2);
  all = λ k. (λ at. are.below at.0 k at.1, λ lt. are.all k lt);
  once = are.once;
}

listed : (dom : Tree) (ss firsts : List SelectorView) (groups : List (List ℕ)) (n : ℕ) (row : List ℕ) → AreGrouped ss (length ss) firsts groups → IsMatchRow dom firsts n row → IsMatchList dom ss groups n row
listed dom ss firsts groups n row are is = record { ascending = is.ascending; each = λ k. (to k, from k) }
  where
    to : (k : ℕ) → IsPlaceIn groups row k → MatchesAt dom ss k n
    to k at =
        let here = are.same at.0 k at.2 in
        let m = (is.each at.0).0 at.1 in
        (m.0, here.2 ∙ sym here.1 ∙ m.1, m.2)

    from : (k : ℕ) → MatchesAt dom ss k n → IsPlaceIn groups row k
    from k m =
        let at = are.all k (slice_get_within ss k m.0 m.1) in
        let here = are.same at.0 k at.1 in
        (at.0, (is.each at.0).1 (m.0, here.1 ∙ sym here.2 ∙ m.1, m.2), at.1)

pub lists-of : (dom : Tree) (ss firsts : List SelectorView) (rows groups : List (List ℕ)) (count : ℕ) → count ≡ length ss → AreGrouped ss count firsts groups → AreMatchRows dom firsts rows → AreMatchLists dom ss (record { rows = rows; groups = groups })
lists-of dom ss firsts rows groups count len are match =
    let all = subst (λ c. AreGrouped ss c firsts groups) len are in
    record {
      groups = are-groups ss firsts groups all;
      each = λ n row at. listed dom ss firsts groups n row all (match n row at);
    }
