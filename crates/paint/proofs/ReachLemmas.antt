-- Reaches that are handed on from box to box.
use Rattle.std.proofs.Common.{◌≡◌, ◌<◌, ℕ, zero, suc, ℤ, List, [], ◌∷◌, Option, None, Some, Bool, true, false, not, ◌&&◌, ◌||◌, ◌==◌, nat_lt, map, length, get_or, slice_get, slice_set, refl, sym, ap, ap₂, ◌∙◌, subst, arith, ◌⊎◌, inl, inr}
use Rattle.std.specs.Int.{int_max, int_min}
use Rattle.std.proofs.lemmas.Int.{ints, clamps}
use Rattle.std.proofs.lemmas.Bool.{cases_order, lt-ltb, le-ltb, eq-eqb, ne_eqb}
use Rattle.std.proofs.lemmas.Option.{slice_get-get_or}
use Rattle.boxes.specs.Tree.{first_of}
use Rattle.boxes.proofs.ListLemmas.{get-set}
use Rattle.paint.specs.declared.extent.VerticalExtent.{VerticalExtent}
use Rattle.paint.specs.declared.parts.Fragment.{Fragment}
use Rattle.paint.specs.Fragments.{join, here}
use Rattle.paint.specs.Parts.{Mark, AreMarks, ArePlaces, IsBelow, HaveFrom, HaveOuters, HandsTo, IsHandedOn, bare, bare_of, is_at, reaches, over_marks, spine_of}

-- ---- joins

abbrev extent : ℤ → ℤ → Option VerticalExtent
extent a b = Some (record { top = a; bottom = b })

pub join_none : (a : Option VerticalExtent) → join a None ≡ a
join_none None = refl
join_none (Some a) = refl

pub join_comm : (a b : Option VerticalExtent) → join a b ≡ join b a
join_comm None b = sym (join_none b)
join_comm (Some a) None = refl
join_comm (Some a) (Some b) =
    let t : int_min a.top b.top ≡ int_min b.top a.top = omega (arith, ints, clamps) in
    let u : int_max a.bottom b.bottom ≡ int_max b.bottom a.bottom = omega (arith, ints, clamps) in
    ap₂ (λ (x y : ℤ). extent x y) t u

pub join_assoc : (a b c : Option VerticalExtent) → join (join a b) c ≡ join a (join b c)
join_assoc None b c = refl
join_assoc (Some a) None c = refl
join_assoc (Some a) (Some b) None = refl
join_assoc (Some a) (Some b) (Some c) =
    let t : int_min (int_min a.top b.top) c.top ≡ int_min a.top (int_min b.top c.top) = omega (arith, ints, clamps) in
    let u : int_max (int_max a.bottom b.bottom) c.bottom ≡ int_max a.bottom (int_max b.bottom c.bottom) = omega (arith, ints, clamps) in
    ap₂ (λ (x y : ℤ). extent x y) t u

pub join_self : (a : Option VerticalExtent) → a ≡ join a a
join_self None = refl
join_self (Some a) =
    let t : a.top ≡ int_min a.top a.top = omega (arith, ints, clamps) in
    let u : a.bottom ≡ int_max a.bottom a.bottom = omega (arith, ints, clamps) in
    ap₂ (λ (x y : ℤ). extent x y) t u

pub join_swap : (a b c d : Option VerticalExtent) → join (join a b) (join c d) ≡ join (join a c) (join b d)
join_swap a b c d =
    join_assoc a b (join c d) ∙ ap (join a) (sym (join_assoc b c d) ∙ ap (λ x. join x d) (join_comm b c) ∙ join_assoc c b d) ∙ sym (join_assoc a c (join b d))

here_or : (a b : Bool) (e : VerticalExtent) → here (a || b) e ≡ join (here a e) (here b e)
here_or false b e = refl
here_or true false e = refl
here_or true true e = join_self (Some e)

pub over_or : (p q : List ℕ → Bool) (marks : List Mark) → over_marks (λ places. p places || q places) marks ≡ join (over_marks p marks) (over_marks q marks)
over_or p q [] = refl
over_or p q (m ∷ marks) = ap₂ join (here_or (p m.places) (q m.places) m.extent) (over_or p q marks) ∙ join_swap (here (p m.places) m.extent) (here (q m.places) m.extent) (over_marks p marks) (over_marks q marks)

-- two tests that agree on the places of marks
pub over_same : (spine : List (ℕ × Option ℕ)) (p q : List ℕ → Bool) (marks : List Mark) → AreMarks spine marks → ((places stack : List ℕ) → ArePlaces spine places stack → p places ≡ q places) → over_marks p marks ≡ over_marks q marks
over_same spine p q [] are same = refl
over_same spine p q (m ∷ marks) are same = ap₂ join (ap (λ b. here b m.extent) (same m.places are.0.0 are.0.1)) (over_same spine p q marks are.1 same)

-- ---- the box before a limit

or_and : (x y z : Bool) → (x || (y && false)) ≡ x
or_and false false z = refl
or_and false true z = refl
or_and true y z = refl

-- the boxes around a box stand before it
pub after_last : (spine : List (ℕ × Option ℕ)) (places stack : List ℕ) (at j : ℕ) → ArePlaces spine places stack → IsBelow at (first_of places) → reaches at j places ≡ is_at (first_of places) j
after_last spine [] stack at j are below = refl
after_last spine (c ∷ places) stack at j are below = by (c == j)
  where
    low : nat_lt c at ≡ true
    low = lt-ltb c at below

    by : (b : Bool) → (b || (not (nat_lt c at) && reaches at j places)) ≡ b
    by true = refl
    by false = ap (λ t. not t && reaches at j places) low

reach_step : (spine : List (ℕ × Option ℕ)) (at b : ℕ) (o : Option ℕ) (j : ℕ) → slice_get spine at ≡ Some (b, o) → (places stack : List ℕ) → ArePlaces spine places stack → reaches at j places ≡ (reaches (suc at) j places || (is_at o j && reaches (suc at) at places))
reach_step spine at b o j is [] stack are = sym (none (is_at o j))
  where
    none : (x : Bool) → (x && false) ≡ false
    none true = refl
    none false = refl
reach_step spine at b o j is (c ∷ places) [] are = absurd are
reach_step spine at b o j is (c ∷ places) (d ∷ stack) are = by (reach_step spine at b o j is places stack are.2) (cases_order c at)
  where
    put : (x l m u : Bool) (r s t k : Bool) → l ≡ m → u ≡ false → (l ≡ true → ⊥) → r ≡ (s || (k && t)) → (x || (not l && r)) ≡ ((x || (not m && s)) || (k && (u || (not m && t))))
    put true l m u r s t k lm uf off e = refl
    put false true m u r s t k lm uf off e = absurd (off refl)
    put false false true u r s t k lm uf off e = absurd (cc)
    put false false false true r s t k lm uf off e = absurd (cc)
    put false false false false r s t k lm uf off e = e

    stop : (x l m u r s t k : Bool) → l ≡ true → m ≡ true → u ≡ false → (x || (not l && r)) ≡ ((x || (not m && s)) || (k && (u || (not m && t))))
    stop true l m u r s t k lt mt uf = refl
    stop false true true false r s t true lt mt uf = refl
    stop false true true false r s t false lt mt uf = refl
    stop false true true true r s t k lt mt uf = absurd (cc)
    stop false true false u r s t k lt mt uf = absurd (cc)
    stop false false m u r s t k lt mt uf = absurd (cc)

    take_up : (x l m u r s t k : Bool) → l ≡ false → m ≡ true → u ≡ true → r ≡ k → (x || (not l && r)) ≡ ((x || (not m && s)) || (k && (u || (not m && t))))
    take_up true l m u r s t k lt mt uf e = refl
    take_up false false true true r s t true lt mt uf e = e
    take_up false false true true r s t false lt mt uf e = e
    take_up false false true false r s t k lt mt uf e = absurd (cc)
    take_up false false false u r s t k lt mt uf e = absurd (cc)
    take_up false true m u r s t k lt mt uf e = absurd (cc)

    by : reaches at j places ≡ (reaches (suc at) j places || (is_at o j && reaches (suc at) at places)) → (c ≡ at) ⊎ ((c < at) ⊎ (at < c)) → reaches at j (c ∷ places) ≡ (reaches (suc at) j (c ∷ places) || (is_at o j && reaches (suc at) at (c ∷ places)))
    by rest (inl e) =
        let two : Some (d, first_of places) ≡ Some (b, o) = sym are.0 ∙ ap (slice_get spine) e ∙ is in
        let pair : (d, first_of places) ≡ (b, o) = cc in
        let outer : first_of places ≡ o = ap (λ (x : ℕ × Option ℕ). x.1) pair in
        let last : reaches at j places ≡ is_at o j = after_last spine places stack at j are.2 (subst (λ n. IsBelow n (first_of places)) e are.1) ∙ ap (λ x. is_at x j) outer in
        take_up (c == j) (nat_lt c at) (nat_lt c (suc at)) (c == at) (reaches at j places) (reaches (suc at) j places) (reaches (suc at) at places) (is_at o j) (le-ltb c at (omega arith)) (lt-ltb c (suc at) (omega arith)) (eq-eqb c at e) last
    by rest (inr (inl low)) =
        stop (c == j) (nat_lt c at) (nat_lt c (suc at)) (c == at) (reaches at j places) (reaches (suc at) j places) (reaches (suc at) at places) (is_at o j) (lt-ltb c at low) (lt-ltb c (suc at) (omega arith)) (ne_eqb c at (λ e. omega arith))
    by rest (inr (inr high)) =
        put (c == j) (nat_lt c at) (nat_lt c (suc at)) (c == at) (reaches at j places) (reaches (suc at) j places) (reaches (suc at) at places) (is_at o j) (le-ltb c at (omega arith) ∙ sym (le-ltb c (suc at) (omega arith))) (ne_eqb c at (λ e. omega arith)) (λ t. let f = le-ltb c at (omega arith) in cc) rest

-- ---- a step

pub get-map : {A B : Type 0} (f : A → B) (xs : List A) (k : ℕ) (x : A) → slice_get xs k ≡ Some x → slice_get (map f xs) k ≡ Some (f x)
get-map f [] k x e = cc
get-map f (y ∷ xs) zero x e = let same : y ≡ x = cc in ap (λ z. Some (f z)) same
get-map f (y ∷ xs) (suc k) x e = get-map f xs k x e

pub map-set : {A B : Type 0} (f : A → B) (xs : List A) (k : ℕ) (x y : A) → slice_get xs k ≡ Some x → f y ≡ f x → map f (slice_set xs k y) ≡ map f xs
map-set f [] k x y e g = refl
map-set f (z ∷ xs) zero x y e g = let same : z ≡ x = cc in ap (λ v. v ∷ map f xs) (g ∙ ap f (sym same))
map-set f (z ∷ xs) (suc k) x y e g = ap (λ vs. f z ∷ vs) (map-set f xs k x y e g)

pub bare_step : (old new : List Fragment) (at : ℕ) → IsHandedOn old at new → bare_of new ≡ bare_of old
bare_step old new at h = by h.0.outer h.2
  where
    by : (o : Option ℕ) → HandsTo old h.0 o new → bare_of new ≡ bare_of old
    by None to = ap bare_of to
    by (Some outer) to = ap bare_of to.2 ∙ map-set bare old outer to.0 _ to.1 refl

spine_bare : (parts : List Fragment) → spine_of parts ≡ map (λ (p : Fragment). (p.number, p.outer)) (bare_of parts)
spine_bare [] = refl
spine_bare (p ∷ parts) = ap (λ (s : List (ℕ × Option ℕ)). (p.number, p.outer) ∷ s) (spine_bare parts)

pub spine_same : (old new : List Fragment) → bare_of new ≡ bare_of old → spine_of new ≡ spine_of old
spine_same old new e = spine_bare new ∙ ap (λ (l : List Fragment). map (λ (p : Fragment). (p.number, p.outer)) l) e ∙ sym (spine_bare old)

pub merge_step : (old new : List Fragment) (at : ℕ) (marks : List Mark) → IsHandedOn old at new → AreMarks (spine_of old) marks → HaveFrom (suc at) old marks → HaveFrom at new marks
merge_step old new at marks h are from j r e = by h.0.outer refl h.2
  where
    spine : List (ℕ × Option ℕ)
    spine = spine_of old

    at_is : slice_get (spine_of old) at ≡ Some (h.0.number, h.0.outer)
    at_is = get-map (λ (p : Fragment). (p.number, p.outer)) old at h.0 h.1

    whole : over_marks (reaches at j) marks ≡ join (over_marks (reaches (suc at) j) marks) (over_marks (λ places. is_at h.0.outer j && reaches (suc at) at places) marks)
    whole = over_same (spine_of old) (reaches at j) (λ places. reaches (suc at) j places || (is_at h.0.outer j && reaches (suc at) at places)) marks are (λ places stack a. reach_step (spine_of old) at h.0.number h.0.outer j at_is places stack a) ∙ over_or (reaches (suc at) j) (λ places. is_at h.0.outer j && reaches (suc at) at places) marks

    nothing : (ms : List Mark) → over_marks (λ places. false && reaches (suc at) at places) ms ≡ None
    nothing [] = refl
    nothing (m ∷ ms) = nothing ms

    stays : is_at h.0.outer j ≡ false → over_marks (reaches at j) marks ≡ over_marks (reaches (suc at) j) marks
    stays f = whole ∙ ap (join (over_marks (reaches (suc at) j) marks)) (ap (λ b. over_marks (λ places. b && reaches (suc at) at places) marks) f ∙ nothing marks) ∙ join_none _

    gains : is_at h.0.outer j ≡ true → over_marks (reaches at j) marks ≡ join (over_marks (reaches (suc at) j) marks) (over_marks (reaches (suc at) at) marks)
    gains t = whole ∙ ap (join (over_marks (reaches (suc at) j) marks)) (ap (λ b. over_marks (λ places. b && reaches (suc at) at places) marks) t)

    by : (o : Option ℕ) → h.0.outer ≡ o → HandsTo old h.0 o new → r.reach ≡ over_marks (reaches at j) marks
    by None is to = from j r (subst (λ xs. slice_get xs j ≡ Some r) to e) ∙ sym (stays (ap (λ x. is_at x j) is))
    by (Some outer) is to = of (get-set old outer j _ r (subst (λ xs. slice_get xs j ≡ Some r) to.2 e))
      where
        of : ((w : Fragment) × (slice_get old j ≡ Some w) × (((j ≡ outer) × (r ≡ record to.0 { reach = join to.0.reach h.0.reach })) ⊎ ((j ≡ outer → ⊥) × (r ≡ w)))) → r.reach ≡ over_marks (reaches at j) marks
        of (w, there, inl (same, r_is)) =
            let q_there : slice_get old j ≡ Some to.0 = ap (slice_get old) same ∙ to.1 in
            ap (λ (x : Fragment). x.reach) r_is ∙ ap₂ join (from j to.0 q_there) (from at h.0 h.1) ∙ sym (gains (ap (λ x. is_at x j) is ∙ eq-eqb outer j (sym same)))
        of (w, there, inr (other, r_is)) =
            ap (λ (x : Fragment). x.reach) r_is ∙ from j w there ∙ sym (stays (ap (λ x. is_at x j) is ∙ ne_eqb outer j (λ s. other (sym s))))

pub outers_step : (old new : List Fragment) (at : ℕ) → IsHandedOn old at new → HaveOuters old → HaveOuters new
outers_step old new at h outers j r e = by h.0.outer h.2
  where
    by : (o : Option ℕ) → HandsTo old h.0 o new → IsBelow j r.outer
    by None to = outers j r (subst (λ xs. slice_get xs j ≡ Some r) to e)
    by (Some outer) to = of (get-set old outer j _ r (subst (λ xs. slice_get xs j ≡ Some r) to.2 e))
      where
        of : ((w : Fragment) × (slice_get old j ≡ Some w) × (((j ≡ outer) × (r ≡ record to.0 { reach = join to.0.reach h.0.reach })) ⊎ ((j ≡ outer → ⊥) × (r ≡ w)))) → IsBelow j r.outer
        of (w, there, inl (same, r_is)) = subst (λ (x : Fragment). IsBelow j x.outer) (sym r_is) (outers j to.0 (ap (slice_get old) same ∙ to.1))
        of (w, there, inr (other, r_is)) = subst (λ (x : Fragment). IsBelow j x.outer) (sym r_is) (outers j w there)

-- a box was handed on to the box around it
pub handed : (old : List Fragment) (at outer : ℕ) (d e f p q w : Fragment) (r : Option VerticalExtent) → at < length old → HaveOuters old → p ≡ get_or old at d → q ≡ get_or old outer e → w ≡ get_or old outer f → p.outer ≡ Some outer → r ≡ join w.reach p.reach → IsHandedOn old at (slice_set old outer (record q { reach = r }))
handed old at outer d e f p q w r low outers p_is q_is w_is outer_is r_is =
    let there : slice_get old at ≡ Some p = slice_get-get_or old at d low ∙ ap (λ (x : Fragment). Some x) (sym p_is) in
    let below : outer < at = subst (IsBelow at) outer_is (outers at p there) in
    let around : slice_get old outer ≡ Some q = slice_get-get_or old outer e (omega arith) ∙ ap (λ (x : Fragment). Some x) (sym q_is) in
    let two : Some w ≡ Some q = ap (λ (x : Fragment). Some x) w_is ∙ sym (slice_get-get_or old outer f (omega arith)) ∙ around in
    let same : w ≡ q = cc in
    (p, there, subst (λ o. HandsTo old p o (slice_set old outer (record q { reach = r }))) (sym outer_is) (q, around, ap (λ (x : Option VerticalExtent). slice_set old outer (record q { reach = x })) (r_is ∙ ap (λ (x : Fragment). join x.reach p.reach) same)))

-- the outermost box is handed on to none
pub handed_none : (old : List Fragment) (at : ℕ) (d p : Fragment) → at < length old → p ≡ get_or old at d → p.outer ≡ None → IsHandedOn old at old
handed_none old at d p low p_is none =
    let there : slice_get old at ≡ Some p = slice_get-get_or old at d low ∙ ap (λ (x : Fragment). Some x) (sym p_is) in
    (p, there, subst (λ o. HandsTo old p o old) (sym none) refl)
