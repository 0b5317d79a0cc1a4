-- Places that are noted by the numbers of leaves, and the others, as one list of entries.
use Rattle.std.proofs.Common.{◌≡◌, ◌≢◌, ◌∙◌, ℕ, zero, suc, ◌+◌, ◌<◌, ◌≤◌, ℤ, Bool, true, false, ◌&&◌, List, [], ◌∷◌, ◌++◌, Option, Some, None, length, replicate, take, slice_set, refl, sym, ap, subst, arith}
use Rattle.std.specs.Prelude.{if◌then◌else◌, nat_eq}
use Rattle.std.specs.Map.{lookup}
use Rattle.std.specs.Ordering.{int_eq}
use Rattle.std.proofs.Math.Dec.{eqb-suc-suc, eqb-suc-zero, eqb-zero-suc}
use Rattle.std.proofs.lemmas.Bool.{eq-eqb, eqb-true, and_parts}
use Rattle.std.proofs.lemmas.Bool.Decides.{Decides-int_eq}
use Rattle.std.proofs.lemmas.Map.Entries.{lookup_head, lookup_tail}
use Rattle.std.proofs.lemmas.Option.{same_Some}
use Rattle.cursor.specs.KeptLines.{LeafAtMeasure, leaf_eq, place_in}
use Rattle.cursor.specs.LeafPlaces.{at_measure, entries_from, first_in, goes_first, is_free, noted_at}
use Rattle.cursor.specs.declared.leaf_places.NotedPlace.{NotedPlace}
use Rattle.cursor.proofs.PlaceLemmas.{same_numbers}

all_true : (a b c : Bool) → a ≡ true → b ≡ true → c ≡ true → ((a && b) && c) ≡ true
all_true true true true p q r = refl
all_true true true false p q r = cc
all_true true false c p q r = cc
all_true false b c p q r = cc

not_true : (b : Bool) → (b ≡ true → ⊥) → b ≡ false
not_true true f = absurd (f refl)
not_true false f = refl

both_ways : {b : Bool} → b ≡ true → b ≡ false → ⊥
both_ways p q = let f : true ≡ false = sym p ∙ q in cc

is_equal : (n i other l : ℕ) (m measure : ℤ) → n ≡ other → i ≡ l → m ≡ measure → leaf_eq (n, i, m) (other, l, measure) ≡ true
is_equal n i other l m measure p q r = all_true (nat_eq n other) (nat_eq i l) (int_eq m measure) (eq-eqb n other p) (eq-eqb i l q) ((Decides-int_eq m measure).1 r)

-- ---- one list of entries

-- the entry of a leaf of the main tree is found
hit : (firsts : List (Option NotedPlace)) (others : List (LeafAtMeasure × ℕ)) (l k j : ℕ) (noted : NotedPlace) → j ≡ l + k → noted_at firsts k ≡ Some noted → lookup (leaf_eq (0, j, noted.measure)) (entries_from l firsts ++ others) ≡ Some noted.at
hit [] others l k j noted e h = cc
hit (None ∷ firsts) others l zero j noted e h = cc
hit (None ∷ firsts) others l (suc k) j noted e h = hit firsts others (suc l) k j noted (omega (arith, e)) h
hit (Some x ∷ firsts) others l zero j noted e h =
    let same : x ≡ noted = same_Some _ _ h in
    lookup_head (leaf_eq (0, j, noted.measure)) ((0, l, x.measure), x.at) (entries_from (suc l) firsts ++ others) (is_equal 0 j 0 l noted.measure x.measure refl (omega (arith, e)) (ap (λ (y : NotedPlace). y.measure) (sym same)))
    ∙ ap (λ (y : NotedPlace). Some y.at) same
hit (Some x ∷ firsts) others l (suc k) j noted e h =
    lookup_tail (leaf_eq (0, j, noted.measure)) ((0, l, x.measure), x.at) (entries_from (suc l) firsts ++ others) (not_true (leaf_eq (0, j, noted.measure) (0, l, x.measure)) (λ t. let g = (same_numbers 0 j 0 l noted.measure x.measure t).1 in absurd (omega (arith, e, g))))
    ∙ hit firsts others (suc l) k j noted (omega (arith, e)) h

-- the place of a leaf isn't among those of the main tree
abbrev IsMissed : List (Option NotedPlace) → ℕ → ℕ → ℕ → ℤ → Type 0
IsMissed firsts l n i m = (k : ℕ) (noted : NotedPlace) → noted_at firsts k ≡ Some noted → n ≡ 0 → i ≡ l + k → m ≡ noted.measure → ⊥

-- what has no entry there is sought among the others
miss : (firsts : List (Option NotedPlace)) (others : List (LeafAtMeasure × ℕ)) (l n i : ℕ) (m : ℤ) → IsMissed firsts l n i m → lookup (leaf_eq (n, i, m)) (entries_from l firsts ++ others) ≡ lookup (leaf_eq (n, i, m)) others
miss [] others l n i m none = refl
miss (None ∷ firsts) others l n i m none = miss firsts others (suc l) n i m (λ k noted h z e w. none (suc k) noted h z (omega (arith, e)) w)
miss (Some x ∷ firsts) others l n i m none =
    lookup_tail (leaf_eq (n, i, m)) ((0, l, x.measure), x.at) (entries_from (suc l) firsts ++ others) (not_true (leaf_eq (n, i, m) (0, l, x.measure)) (λ t. let s = same_numbers n i 0 l m x.measure t in let g = s.1 in none 0 x refl s.0 (omega (arith, g)) s.2))
    ∙ miss firsts others (suc l) n i m (λ k noted h z e w. none (suc k) noted h z (omega (arith, e)) w)

-- the first of two, if it is there
abbrev pub either_of : Option ℕ → Option ℕ → Option ℕ
either_of None o = o
either_of (Some at) o = Some at

-- a leaf of the main tree that has a place
module _ (firsts : List (Option NotedPlace)) (others : List (LeafAtMeasure × ℕ)) (i : ℕ) (m : ℤ) where
  at_noted : (noted : NotedPlace) → noted_at firsts i ≡ Some noted → (b : Bool) → int_eq noted.measure m ≡ b → lookup (leaf_eq (0, i, m)) (entries_from 0 firsts ++ others) ≡ either_of (if b then Some noted.at else None) (lookup (leaf_eq (0, i, m)) others)
  at_noted noted h true e = subst (λ (v : ℤ). lookup (leaf_eq (0, i, v)) (entries_from 0 firsts ++ others) ≡ Some noted.at) ((Decides-int_eq noted.measure m).0 e) (hit firsts others 0 i i noted (omega arith) h)
  at_noted noted h false e = miss firsts others 0 0 i m (λ k x g z j w.
      let same : noted ≡ x = same_Some _ _ (sym h ∙ (ap (noted_at firsts) (omega (arith, j)) ∙ g)) in
      both_ways ((Decides-int_eq noted.measure m).1 (ap (λ (y : NotedPlace). y.measure) same ∙ sym w)) e)

  at_leaf : (o : Option NotedPlace) → noted_at firsts i ≡ o → lookup (leaf_eq (0, i, m)) (entries_from 0 firsts ++ others) ≡ either_of (at_measure o m) (lookup (leaf_eq (0, i, m)) others)
  at_leaf None h = miss firsts others 0 0 i m (λ k x g z j w. let n : None ≡ Some x = sym h ∙ (ap (noted_at firsts) (omega (arith, j)) ∙ g) in cc)
  at_leaf (Some noted) h = at_noted noted h (int_eq noted.measure m) refl

-- a leaf of another tree isn't there
not_main : (firsts : List (Option NotedPlace)) (n i : ℕ) (m : ℤ) → first_in firsts (suc n, i, m) ≡ None
not_main firsts n i m = ap (λ (b : Bool). if b then at_measure (noted_at firsts i) m else None) (eqb-suc-zero n)

-- a place is found among those of the main tree, or else among the others
pub found_in : (firsts : List (Option NotedPlace)) (others : List (LeafAtMeasure × ℕ)) (n i : ℕ) (m : ℤ) → place_in (entries_from 0 firsts ++ others) (n, i, m) ≡ either_of (first_in firsts (n, i, m)) (lookup (leaf_eq (n, i, m)) others)
found_in firsts others zero i m = at_leaf firsts others i m (noted_at firsts i) refl
found_in firsts others (suc n) i m =
    miss firsts others 0 (suc n) i m (λ k x g z j w. absurd (omega (arith, z)))
    ∙ ap (λ (o : Option ℕ). either_of o (lookup (leaf_eq (suc n, i, m)) others)) (sym (not_main firsts n i m))

-- as it is answered
pub found_first : (firsts : List (Option NotedPlace)) (others : List (LeafAtMeasure × ℕ)) (n i at : ℕ) (m : ℤ) → first_in firsts (n, i, m) ≡ Some at → Some at ≡ place_in (entries_from 0 firsts ++ others) (n, i, m)
found_first firsts others n i at m h = sym (found_in firsts others n i m ∙ ap (λ (o : Option ℕ). either_of o (lookup (leaf_eq (n, i, m)) others)) h)

pub found_other : (firsts : List (Option NotedPlace)) (others : List (LeafAtMeasure × ℕ)) (n i : ℕ) (m : ℤ) → first_in firsts (n, i, m) ≡ None → lookup (leaf_eq (n, i, m)) others ≡ place_in (entries_from 0 firsts ++ others) (n, i, m)
found_other firsts others n i m h = sym (found_in firsts others n i m ∙ ap (λ (o : Option ℕ). either_of o (lookup (leaf_eq (n, i, m)) others)) h)

-- ---- one more place

-- a place is noted for a leaf of the main tree, at the measure that it has, or where it has none
module _ (firsts firsts' : List (Option NotedPlace)) (others : List (LeafAtMeasure × ℕ)) (t i at : ℕ) (m : ℤ) (goes : goes_first firsts (t, i, m) ≡ true) (put : (k : ℕ) → noted_at firsts' k ≡ (if nat_eq k i then Some (record { measure = m; at = at }) else noted_at firsts k)) where
  is_main : t ≡ 0
  is_main = eqb-true t 0 (and_parts (nat_eq t 0) (is_free (noted_at firsts i) m) goes).0

  was_free : is_free (noted_at firsts i) m ≡ true
  was_free = (and_parts (nat_eq t 0) (is_free (noted_at firsts i) m) goes).1

  -- at other measures there is no place
  at_other : (o : Option NotedPlace) (v : ℤ) → is_free o m ≡ true → m ≢ v → at_measure o v ≡ None
  at_other None v free other = refl
  at_other (Some x) v free other = ap (λ (b : Bool). if b then Some x.at else None) (not_true (int_eq x.measure v) (λ e. other (sym ((Decides-int_eq x.measure m).0 free) ∙ (Decides-int_eq x.measure v).0 e)))

  there : (j : ℕ) (v : ℤ) → (leaf_eq (t, i, m) (0, j, v) ≡ true → ⊥) → (b : Bool) → nat_eq j i ≡ b → at_measure (if b then Some (record { measure = m; at = at }) else noted_at firsts j) v ≡ at_measure (noted_at firsts j) v
  there j v other false e = refl
  there j v other true e =
      let same : j ≡ i = eqb-true j i e in
      let wide : m ≢ v = λ w. other (is_equal t i 0 j m v is_main (sym same) w) in
      at_other (Some (record { measure = m; at = at })) v ((Decides-int_eq m m).1 refl) wide
      ∙ sym (at_other (noted_at firsts j) v (subst (λ (k : ℕ). is_free (noted_at firsts k) m ≡ true) (sym same) was_free) wide)

  stays : (n j : ℕ) (v : ℤ) → (leaf_eq (t, i, m) (n, j, v) ≡ true → ⊥) → first_in firsts' (n, j, v) ≡ first_in firsts (n, j, v)
  stays zero j v other = ap (λ (o : Option NotedPlace). at_measure o v) (put j) ∙ there j v other (nat_eq j i) refl
  stays (suc n) j v other = not_main firsts' n j v ∙ sym (not_main firsts n j v)

  is_there : noted_at firsts' i ≡ Some (record { measure = m; at = at })
  is_there = put i ∙ ap (λ (b : Bool). if b then Some (record { measure = m; at = at }) else noted_at firsts i) (eq-eqb i i refl)

  found : (n j : ℕ) (v : ℤ) → leaf_eq (t, i, m) (n, j, v) ≡ true → place_in (entries_from 0 firsts' ++ others) (n, j, v) ≡ Some at
  found n j v e =
      let s = same_numbers t i n j m v e in
      subst (λ (k : ℕ). place_in (entries_from 0 firsts' ++ others) (k, j, v) ≡ Some at) (sym is_main ∙ s.0)
      (subst (λ (w : ℤ). place_in (entries_from 0 firsts' ++ others) (0, j, w) ≡ Some at) s.2
      (hit firsts' others 0 i j (record { measure = m; at = at }) (let g = s.1 in omega (arith, g)) is_there))

  first_by : (n j : ℕ) (v : ℤ) (b : Bool) → leaf_eq (t, i, m) (n, j, v) ≡ b → place_in (entries_from 0 firsts' ++ others) (n, j, v) ≡ (if b then Some at else place_in (entries_from 0 firsts ++ others) (n, j, v))
  first_by n j v true e = found n j v e
  first_by n j v false e =
      found_in firsts' others n j v
      ∙ (ap (λ (o : Option ℕ). either_of o (lookup (leaf_eq (n, j, v)) others)) (stays n j v (λ w. both_ways w e))
      ∙ sym (found_in firsts others n j v))

  pub noted_first : (q : LeafAtMeasure) → place_in (entries_from 0 firsts' ++ others) q ≡ (if leaf_eq (t, i, m) q then Some at else place_in (entries_from 0 firsts ++ others) q)
  noted_first q = first_by q.0 q.1 q.2 (leaf_eq (t, i, m) q) refl

-- a place is noted among the others
module _ (firsts : List (Option NotedPlace)) (others others' : List (LeafAtMeasure × ℕ)) (t i at : ℕ) (m : ℤ) (goes : goes_first firsts (t, i, m) ≡ false) (put : (q : LeafAtMeasure) → lookup (leaf_eq q) others' ≡ (if leaf_eq (t, i, m) q then Some at else lookup (leaf_eq q) others)) where
  not_free : (o : Option NotedPlace) → is_free o m ≡ false → at_measure o m ≡ None
  not_free None e = cc
  not_free (Some x) e = ap (λ (b : Bool). if b then Some x.at else None) e

  -- what doesn't go among those of the main tree isn't there
  none : (n : ℕ) → goes_first firsts (n, i, m) ≡ false → first_in firsts (n, i, m) ≡ None
  none zero e = not_free (noted_at firsts i) e
  none (suc n) e = not_main firsts n i m

  none_there : (n j : ℕ) (v : ℤ) → leaf_eq (t, i, m) (n, j, v) ≡ true → first_in firsts (n, j, v) ≡ None
  none_there n j v e =
      let s = same_numbers t i n j m v e in
      subst (λ (k : ℕ). first_in firsts (k, j, v) ≡ None) s.0
      (subst (λ (k : ℕ). first_in firsts (t, k, v) ≡ None) s.1
      (subst (λ (w : ℤ). first_in firsts (t, i, w) ≡ None) s.2 (none t goes)))

  other_by : (n j : ℕ) (v : ℤ) (b : Bool) → leaf_eq (t, i, m) (n, j, v) ≡ b → either_of (first_in firsts (n, j, v)) (if b then Some at else lookup (leaf_eq (n, j, v)) others) ≡ (if b then Some at else place_in (entries_from 0 firsts ++ others) (n, j, v))
  other_by n j v true e = ap (λ (o : Option ℕ). either_of o (Some at)) (none_there n j v e)
  other_by n j v false e = sym (found_in firsts others n j v)

  pub noted_other : (q : LeafAtMeasure) → place_in (entries_from 0 firsts ++ others') q ≡ (if leaf_eq (t, i, m) q then Some at else place_in (entries_from 0 firsts ++ others) q)
  noted_other q =
      found_in firsts others' q.0 q.1 q.2
      ∙ (ap (either_of (first_in firsts q)) (put q) ∙ other_by q.0 q.1 q.2 (leaf_eq (t, i, m) q) refl)

-- ---- how it is put

blank : (m k : ℕ) → noted_at (replicate m None) k ≡ None
blank zero k = refl
blank (suc m) zero = refl
blank (suc m) (suc k) = blank m k

-- blank places at the end are none
pub padded : (firsts : List (Option NotedPlace)) (n m k : ℕ) → length firsts ≤ n → noted_at (take n firsts ++ replicate m None) k ≡ noted_at firsts k
padded [] zero m k l = blank m k
padded [] (suc n) m k l = blank m k
padded (x ∷ firsts) zero m k l = absurd (omega arith)
padded (x ∷ firsts) (suc n) m zero l = refl
padded (x ∷ firsts) (suc n) m (suc k) l = padded firsts n m k (omega arith)

put_at : (firsts : List (Option NotedPlace)) (i k : ℕ) (p : NotedPlace) → i < length firsts → noted_at (slice_set firsts i (Some p)) k ≡ (if nat_eq k i then Some p else noted_at firsts k)
put_at [] i k p l = absurd (omega arith)
put_at (x ∷ firsts) zero zero p l = refl
put_at (x ∷ firsts) zero (suc k) p l = ap (λ (b : Bool). if b then Some p else noted_at firsts k) (sym (eqb-suc-zero k))
put_at (x ∷ firsts) (suc i) zero p l = ap (λ (b : Bool). if b then Some p else x) (sym (eqb-zero-suc i))
put_at (x ∷ firsts) (suc i) (suc k) p l = put_at firsts i k p (omega arith) ∙ ap (λ (b : Bool). if b then Some p else noted_at firsts k) (sym (eqb-suc-suc k i))

pub put_noted : (firsts long : List (Option NotedPlace)) (i : ℕ) (p : NotedPlace) → i < length long → ((k : ℕ) → noted_at long k ≡ noted_at firsts k) → (k : ℕ) → noted_at (slice_set long i (Some p)) k ≡ (if nat_eq k i then Some p else noted_at firsts k)
put_noted firsts long i p l stays k = put_at long i k p l ∙ ap (λ (o : Option NotedPlace). if nat_eq k i then Some p else o) (stays k)
