-- The solids of a page, written down at the boxes in which they stand.
use Rattle.std.proofs.Common.{◌≡◌, ◌<◌, ◌≤◌, ℕ, zero, suc, ℤ, ◌+◌, List, [], ◌∷◌, ◌++◌, Option, None, Some, Bool, true, false, cond, map, length, take, get_or, slice_get, refl, sym, ap, ap₂, ◌∙◌, subst, arith, append-nil, ◌⊎◌, inl, inr}
use Rattle.std.proofs.lemmas.Bool.{eq-eqb, ne_eqb}
use Rattle.std.proofs.lemmas.List.{take_more}
use Rattle.std.proofs.lemmas.List.Elements.{filter-append}
use Rattle.std.specs.List.{last_or}
use Rattle.boxes.specs.Tree.{Tree, open_before, first_of, is_opening}
use Rattle.boxes.specs.declared.place.Event.{Event}
use Rattle.boxes.specs.declared.place.Event.TheVariants.{Opens, Closes, Leaf}
use Rattle.boxes.specs.declared.page.Placed.{Placed}
use Rattle.boxes.proofs.ListLemmas.{get-set}
use Rattle.boxes.proofs.TreeLemmas.{open-step}
use Rattle.paint.specs.declared.extent.VerticalExtent.{VerticalExtent}
use Rattle.paint.specs.declared.parts.Fragment.{Fragment}
use Rattle.paint.specs.declared.parts.Reached.{Reached}
use Rattle.paint.specs.Fragments.{join, here, boxes_at, boxes_with, extent_of}
use Rattle.seams.specs.Runs.{is_closing}
use Rattle.paint.specs.Parts.{AddsSolid, AreMarksOf, ArePlaces, AscendTo, Extends, HaveBy, HaveNone, HaveOpened, HaveSolids, IsAt, IsBelow, IsFresh, IsGrown, IsOpened, Mark, any_event, bare_of, end_by, is_at, over_marks, place_of, solids_by, spine_of, with_solid}
use Rattle.paint.proofs.PartLemmas.{first_within, get-map-back, places_grown, spine_push, spine_size}
use Rattle.paint.proofs.ReachLemmas.{get-map, join_assoc, join_none, map-set}

-- ---- further boxes

get_more : {A : Type 0} (xs ys : List A) (k : ℕ) (x : A) → slice_get (xs ++ ys) k ≡ Some x → (slice_get xs k ≡ Some x) ⊎ ((length xs ≤ k) × ((m : ℕ) × (slice_get ys m ≡ Some x)))
get_more [] ys k x e = inr (omega arith, (k, e))
get_more (y ∷ xs) ys zero x e = inl e
get_more {A} (y ∷ xs) ys (suc k) x e = up (get_more xs ys k x e)
  where
    up : (slice_get xs k ≡ Some x) ⊎ ((length xs ≤ k) × ((m : ℕ) × (slice_get ys m ≡ Some x))) → (slice_get xs k ≡ Some x) ⊎ ((length (y ∷ xs) ≤ suc k) × ((m : ℕ) × (slice_get ys m ≡ Some x)))
    up (inl a) = inl a
    up (inr (l, m)) = inr (omega arith, m)

fresh_get : (parts : List Fragment) (k : ℕ) (p : Fragment) → HaveNone parts → slice_get parts k ≡ Some p → IsFresh p
fresh_get [] k p n e = absurd (cc)
fresh_get (q ∷ parts) zero p n e = let same : q ≡ p = cc in subst IsFresh same n.0
fresh_get (q ∷ parts) (suc k) p n e = fresh_get parts k p n.1 e

marks_grown : (spine more : List (ℕ × Option ℕ)) (es : List Event) (solids : List Placed) (marks : List Mark) → AreMarksOf spine es solids marks → AreMarksOf (spine ++ more) es solids marks
marks_grown spine more es [] [] are = tt
marks_grown spine more es [] (m ∷ marks) are = are
marks_grown spine more es (s ∷ solids) [] are = are
marks_grown spine more es (s ∷ solids) (m ∷ marks) are = (places_grown spine more m.places (boxes_at es s.at.event) are.0, are.1, marks_grown spine more es solids marks are.2)

not_at : (o : Option ℕ) (n j : ℕ) → IsBelow n o → n ≤ j → is_at o j ≡ false
not_at None n j below low = refl
not_at (Some p) n j below low = ne_eqb p j (λ e. omega arith)

over_none : (spine : List (ℕ × Option ℕ)) (es : List Event) (solids : List Placed) (marks : List Mark) (j : ℕ) → AreMarksOf spine es solids marks → length spine ≤ j → None ≡ over_marks (λ places. is_at (first_of places) j) marks
over_none spine es [] [] j are low = refl
over_none spine es [] (m ∷ marks) j are low = absurd are
over_none spine es (s ∷ solids) [] j are low = refl
over_none spine es (s ∷ solids) (m ∷ marks) j are low =
    ap₂ join (ap (λ b. here b m.extent) (sym (not_at (first_of m.places) (length spine) j (first_within spine m.places (boxes_at es s.at.event) are.0) low))) (over_none spine es solids marks j are.2 low)

by_grown : (get : Fragment → Option VerticalExtent) (test : Option Event → Bool) (es : List Event) (solids : List Placed) (old new : List Fragment) → ((p : Fragment) → IsFresh p → get p ≡ None) → IsGrown old new → HaveBy get test es solids old → HaveBy get test es solids new
by_grown get test es solids old new none g h = record { marks = h.marks; are = are; own = λ j p e. own j p (get_more old g.0 j p (subst (λ ps. slice_get ps j ≡ Some p) g.1 e)) }
  where
    are : AreMarksOf (spine_of new) es (solids_by test es solids) h.marks
    are = subst (λ s. AreMarksOf s es (solids_by test es solids) h.marks) (sym (ap spine_of g.1 ∙ spine_push old g.0)) (marks_grown (spine_of old) (spine_of g.0) es (solids_by test es solids) h.marks h.are)

    own : (j : ℕ) (p : Fragment) → (slice_get old j ≡ Some p) ⊎ ((length old ≤ j) × ((m : ℕ) × (slice_get g.0 m ≡ Some p))) → get p ≡ over_marks (λ places. is_at (first_of places) j) h.marks
    own j p (inl there) = h.own j p there
    own j p (inr (low, (m, there))) = none p (fresh_get g.0 m p g.2 there) ∙ over_none (spine_of old) es (solids_by test es solids) h.marks j h.are (let s = spine_size old in omega arith)

solids_grown : (es : List Event) (solids : List Placed) (old new : List Fragment) → IsGrown old new → HaveSolids es solids old → HaveSolids es solids new
solids_grown es solids old new g h = record {
  reaches = by_grown (λ p. p.reach) any_event es solids old new (λ p f. f.no_reach) g h.reaches;
  uppers = by_grown (λ p. p.upper) is_opening es solids old new (λ p f. f.no_upper) g h.uppers;
  lowers = by_grown (λ p. p.lower) is_closing es solids old new (λ p f. f.no_lower) g h.lowers;
}

by_none : (get : Fragment → Option VerticalExtent) (test : Option Event → Bool) (es : List Event) (parts : List Fragment) → ((p : Fragment) → IsFresh p → get p ≡ None) → HaveNone parts → HaveBy get test es [] parts
by_none get test es parts none n = record { marks = []; are = tt; own = λ j p e. none p (fresh_get parts j p n e) }

pub solids_none : (es : List Event) (parts : List Fragment) → HaveNone parts → HaveSolids es [] parts
solids_none es parts n = record {
  reaches = by_none (λ p. p.reach) any_event es parts (λ p f. f.no_reach) n;
  uppers = by_none (λ p. p.upper) is_opening es parts (λ p f. f.no_upper) n;
  lowers = by_none (λ p. p.lower) is_closing es parts (λ p f. f.no_lower) n;
}

-- ---- a solid more

-- the place to which one goes for the event of a number
abbrev end_at : List Event → ℕ → ℕ
end_at es k = end_by (slice_get es k) k

pub boxes_end : (es : List Event) (k : ℕ) → open_before es (end_at es k) ≡ boxes_at es k
boxes_end es k = by (slice_get es k) refl
  where
    by : (o : Option Event) → slice_get es k ≡ o → open_before es (end_by o k) ≡ boxes_with o (open_before es k)
    by None e = refl
    by (Some (Opens b)) e = open-step es k (Opens b) e
    by (Some (Closes b)) e = refl
    by (Some (Leaf l)) e = refl

over_push : (p : List ℕ → Bool) (marks : List Mark) (m : Mark) → over_marks p (marks ++ m ∷ []) ≡ join (over_marks p marks) (here (p m.places) m.extent)
over_push p [] m = join_none (here (p m.places) m.extent)
over_push p (n ∷ marks) m = ap (join (here (p n.places) n.extent)) (over_push p marks m) ∙ sym (join_assoc (here (p n.places) n.extent) (over_marks p marks) (here (p m.places) m.extent))

marks_push : (spine : List (ℕ × Option ℕ)) (es : List Event) (solids : List Placed) (marks : List Mark) (s : Placed) (m : Mark) → AreMarksOf spine es solids marks → ArePlaces spine m.places (boxes_at es s.at.event) → m.extent ≡ extent_of s → AreMarksOf spine es (solids ++ s ∷ []) (marks ++ m ∷ [])
marks_push spine es [] [] s m are places e = (places, e, tt)
marks_push spine es [] (n ∷ marks) s m are places e = absurd are
marks_push spine es (r ∷ solids) [] s m are places e = absurd are
marks_push spine es (r ∷ solids) (n ∷ marks) s m are places e = (are.0, are.1, marks_push spine es solids marks s m are.2 places e)

-- where a box stands isn't changed by its solids
place_kept : (event : Event) (e : VerticalExtent) (p : Fragment) → place_of (with_solid event e p) ≡ place_of p
place_kept (Opens b) e p = refl
place_kept (Closes b) e p = refl
place_kept (Leaf l) e p = refl

pub places_extend : (old new : List Fragment) (inner : Option ℕ) (event : Event) (e : VerticalExtent) → Extends old inner event e new → map place_of new ≡ map place_of old
places_extend old new None event e to = ap (map place_of) to
places_extend old new (Some i) event e to = ap (map place_of) to.2 ∙ map-set place_of old i to.0 _ to.1 (place_kept event e to.0)

spine_place : (parts : List Fragment) → spine_of parts ≡ map (λ (p : Fragment). (p.number, p.outer)) (map place_of parts)
spine_place [] = refl
spine_place (p ∷ parts) = ap (λ (s : List (ℕ × Option ℕ)). (p.number, p.outer) ∷ s) (spine_place parts)

pub spine_extends : (old new : List Fragment) → map place_of new ≡ map place_of old → spine_of new ≡ spine_of old
spine_extends old new e = spine_place new ∙ ap (λ (l : List Fragment). map (λ (p : Fragment). (p.number, p.outer)) l) e ∙ sym (spine_place old)

place_bare : (parts : List Fragment) → map place_of parts ≡ map place_of (bare_of parts)
place_bare [] = refl
place_bare (p ∷ parts) = ap (λ (l : List Fragment). place_of p ∷ l) (place_bare parts)

pub places_bare : (old new : List Fragment) → bare_of new ≡ bare_of old → map place_of new ≡ map place_of old
places_bare old new e = place_bare new ∙ ap (map place_of) e ∙ sym (place_bare old)

pub ascend_same : (a at : ℕ) (old new : List Fragment) → map place_of new ≡ map place_of old → AscendTo a old at → AscendTo a new at
ascend_same a at [] [] e up = up
ascend_same a at [] (q ∷ new) e up = absurd (cc)
ascend_same a at (p ∷ old) [] e up = absurd (cc)
ascend_same a at (p ∷ old) (q ∷ new) e up =
    let head : place_of q ≡ place_of p = cc in
    let tail : map place_of new ≡ map place_of old = cc in
    let event : q.event ≡ p.event = ap (λ (x : Fragment). x.event) head in
    (let low = up.0 in omega arith, ascend_same (suc q.event) at old new tail (subst (λ n. AscendTo (suc n) old at) (sym event) up.1))

-- a box at a place was there before
pub same_place : (old new : List Fragment) → map place_of new ≡ map place_of old → (j : ℕ) (p : Fragment) → slice_get new j ≡ Some p → (q : Fragment) × (slice_get old j ≡ Some q) × (place_of q ≡ place_of p)
same_place old new e j p there = get-map-back place_of old j (place_of p) (ap (λ s. slice_get s j) (sym e) ∙ get-map place_of new j p there)

opened_as : (t : Tree) (m : ℤ) (q p : Fragment) → place_of q ≡ place_of p → IsOpened t m (place_of q) → IsOpened t m (place_of p)
opened_as t m q p e is = subst (IsOpened t m) e is

pub opened_same : (t : Tree) (m : ℤ) (old new : List Fragment) → map place_of new ≡ map place_of old → HaveOpened t m old → HaveOpened t m new
opened_same t m old new e opened j p there =
    let back = same_place old new e j p there in
    let was : IsOpened t m back.0 = opened j back.0 back.1 in
    let is : IsOpened t m (place_of p) = opened_as t m back.0 p back.2 (record { opens = was.opens; around_is = was.around_is; content_is = was.content_is; above_is = was.above_is; inside_is = was.inside_is; around_bounded = was.around_bounded; content_bounded = was.content_bounded; above_bounded = was.above_bounded; inside_bounded = was.inside_bounded }) in
    record {
      opens = is.opens;
      around_is = is.around_is;
      content_is = is.content_is;
      above_is = is.above_is;
      inside_is = is.inside_is;
      around_bounded = is.around_bounded;
      content_bounded = is.content_bounded;
      above_bounded = is.above_bounded;
      inside_bounded = is.inside_bounded;
    }

pub at_same : (t : Tree) (m : ℤ) (old new : List Fragment) (r : Reached) → map place_of new ≡ map place_of old → IsAt t m old r → IsAt t m new r
at_same t m old new r e a = record {
  on = record {
    places = a.on.places;
    are = subst (λ s. ArePlaces s a.on.places (open_before t.events r.event)) (sym (spine_extends old new e)) a.on.are;
    inner_is = a.on.inner_is;
    outers = λ j p there. let back = same_place old new e j p there in subst (IsBelow j) (ap (λ (x : Fragment). x.outer) back.2) (a.on.outers j back.0 back.1);
    ascend = ascend_same 0 r.event old new e a.on.ascend;
  };
  opened = opened_same t m old new e a.opened;
}

-- a solid that passes the test is written down at its innermost box
by_hit : (get : Fragment → Option VerticalExtent) (test : Option Event → Bool) (es : List Event) (solids : List Placed) (s : Placed) (old new : List Fragment) (inner : Option ℕ) (event : Event) (e : VerticalExtent) (places : List ℕ) →
    ArePlaces (spine_of old) places (boxes_at es s.at.event) → inner ≡ first_of places → test (slice_get es s.at.event) ≡ true → e ≡ extent_of s → ((p : Fragment) → get (with_solid event e p) ≡ join (get p) (Some e)) → Extends old inner event e new →
    HaveBy get test es solids old → HaveBy get test es (solids ++ s ∷ []) new
by_hit get test es solids s old new inner event e places at inner_is hit e_is joins to h = record { marks = h.marks ++ m ∷ []; are = are; own = λ j p there. own inner inner_is to j p there }
  where
    m : Mark
    m = record { places = places; extent = e }

    more : solids_by test es (solids ++ s ∷ []) ≡ solids_by test es solids ++ s ∷ []
    more = filter-append (λ (r : Placed). test (slice_get es r.at.event)) solids (s ∷ []) ∙ ap (λ (b : Bool). solids_by test es solids ++ cond b (s ∷ []) []) hit

    are : AreMarksOf (spine_of new) es (solids_by test es (solids ++ s ∷ [])) (h.marks ++ record { places = places; extent = e } ∷ [])
    are = subst (λ sp. AreMarksOf sp es (solids_by test es (solids ++ s ∷ [])) (h.marks ++ record { places = places; extent = e } ∷ [])) (sym (spine_extends old new (places_extend old new inner event e to)))
        (subst (λ ss. AreMarksOf (spine_of old) es ss (h.marks ++ record { places = places; extent = e } ∷ [])) (sym more) (marks_push (spine_of old) es (solids_by test es solids) h.marks s (record { places = places; extent = e }) h.are at e_is))

    sum : (j : ℕ) (b : Bool) → is_at (first_of places) j ≡ b → over_marks (λ ps. is_at (first_of ps) j) (h.marks ++ record { places = places; extent = e } ∷ []) ≡ join (over_marks (λ ps. is_at (first_of ps) j) h.marks) (here b e)
    sum j b is = over_push (λ ps. is_at (first_of ps) j) h.marks (record { places = places; extent = e }) ∙ ap (λ x. join (over_marks (λ ps. is_at (first_of ps) j) h.marks) (here x e)) is

    own : (o : Option ℕ) → o ≡ first_of places → Extends old o event e new → (j : ℕ) (p : Fragment) → slice_get new j ≡ Some p → get p ≡ over_marks (λ ps. is_at (first_of ps) j) (h.marks ++ record { places = places; extent = e } ∷ [])
    own None is to j p there = h.own j p (subst (λ ps. slice_get ps j ≡ Some p) to there) ∙ sym (sum j false (ap (λ o. is_at o j) (sym is)) ∙ join_none _)
    own (Some i) is to j p there = of (get-set old i j _ p (subst (λ ps. slice_get ps j ≡ Some p) to.2 there))
      where
        of : ((w : Fragment) × (slice_get old j ≡ Some w) × (((j ≡ i) × (p ≡ with_solid event e to.0)) ⊎ ((j ≡ i → ⊥) × (p ≡ w)))) → get p ≡ over_marks (λ ps. is_at (first_of ps) j) (h.marks ++ record { places = places; extent = e } ∷ [])
        of (w, at_j, inl (same, p_is)) =
            ap get p_is ∙ joins to.0 ∙ ap (λ x. join x (Some e)) (h.own j to.0 (ap (slice_get old) same ∙ to.1)) ∙ sym (sum j true (ap (λ o. is_at o j) (sym is) ∙ eq-eqb i j (sym same)))
        of (w, at_j, inr (other, p_is)) =
            ap get p_is ∙ h.own j w at_j ∙ sym (sum j false (ap (λ o. is_at o j) (sym is) ∙ ne_eqb i j (λ x. other (sym x))) ∙ join_none _)

-- another solid isn't
by_miss : (get : Fragment → Option VerticalExtent) (test : Option Event → Bool) (es : List Event) (solids : List Placed) (s : Placed) (old new : List Fragment) (inner : Option ℕ) (event : Event) (e : VerticalExtent) →
    test (slice_get es s.at.event) ≡ false → ((p : Fragment) → get (with_solid event e p) ≡ get p) → Extends old inner event e new → HaveBy get test es solids old → HaveBy get test es (solids ++ s ∷ []) new
by_miss get test es solids s old new inner event e miss keeps to h = record { marks = h.marks; are = are; own = λ j p there. own inner to j p there }
  where
    less : solids_by test es (solids ++ s ∷ []) ≡ solids_by test es solids
    less = filter-append (λ (r : Placed). test (slice_get es r.at.event)) solids (s ∷ []) ∙ ap (λ (b : Bool). solids_by test es solids ++ cond b (s ∷ []) []) miss ∙ append-nil (solids_by test es solids)

    are : AreMarksOf (spine_of new) es (solids_by test es (solids ++ s ∷ [])) h.marks
    are = subst (λ sp. AreMarksOf sp es (solids_by test es (solids ++ s ∷ [])) h.marks) (sym (spine_extends old new (places_extend old new inner event e to))) (subst (λ ss. AreMarksOf (spine_of old) es ss h.marks) (sym less) h.are)

    own : (o : Option ℕ) → Extends old o event e new → (j : ℕ) (p : Fragment) → slice_get new j ≡ Some p → get p ≡ over_marks (λ ps. is_at (first_of ps) j) h.marks
    own None to j p there = h.own j p (subst (λ ps. slice_get ps j ≡ Some p) to there)
    own (Some i) to j p there = of (get-set old i j _ p (subst (λ ps. slice_get ps j ≡ Some p) to.2 there))
      where
        of : ((w : Fragment) × (slice_get old j ≡ Some w) × (((j ≡ i) × (p ≡ with_solid event e to.0)) ⊎ ((j ≡ i → ⊥) × (p ≡ w)))) → get p ≡ over_marks (λ ps. is_at (first_of ps) j) h.marks
        of (w, at_j, inl (same, p_is)) = ap get p_is ∙ keeps to.0 ∙ h.own j to.0 (ap (slice_get old) same ∙ to.1)
        of (w, at_j, inr (other, p_is)) = ap get p_is ∙ h.own j w at_j

solids_push : (es : List Event) (solids : List Placed) (s : Placed) (old new : List Fragment) (inner : Option ℕ) (event : Event) (e : VerticalExtent) (places : List ℕ) → ArePlaces (spine_of old) places (boxes_at es s.at.event) → inner ≡ first_of places → slice_get es s.at.event ≡ Some event → e ≡ extent_of s → Extends old inner event e new → HaveSolids es solids old → HaveSolids es (solids ++ s ∷ []) new
solids_push es solids s old new inner (Opens b) e places at inner_is is e_is to h = record {
  reaches = by_hit (λ p. p.reach) any_event es solids s old new inner (Opens b) e places at inner_is refl e_is (λ p. refl) to h.reaches;
  uppers = by_hit (λ p. p.upper) is_opening es solids s old new inner (Opens b) e places at inner_is (ap is_opening is) e_is (λ p. refl) to h.uppers;
  lowers = by_miss (λ p. p.lower) is_closing es solids s old new inner (Opens b) e (ap is_closing is) (λ p. refl) to h.lowers;
}
solids_push es solids s old new inner (Closes b) e places at inner_is is e_is to h = record {
  reaches = by_hit (λ p. p.reach) any_event es solids s old new inner (Closes b) e places at inner_is refl e_is (λ p. refl) to h.reaches;
  uppers = by_miss (λ p. p.upper) is_opening es solids s old new inner (Closes b) e (ap is_opening is) (λ p. refl) to h.uppers;
  lowers = by_hit (λ p. p.lower) is_closing es solids s old new inner (Closes b) e places at inner_is (ap is_closing is) e_is (λ p. refl) to h.lowers;
}
solids_push es solids s old new inner (Leaf l) e places at inner_is is e_is to h = record {
  reaches = by_hit (λ p. p.reach) any_event es solids s old new inner (Leaf l) e places at inner_is refl e_is (λ p. refl) to h.reaches;
  uppers = by_miss (λ p. p.upper) is_opening es solids s old new inner (Leaf l) e (ap is_opening is) (λ p. refl) to h.uppers;
  lowers = by_miss (λ p. p.lower) is_closing es solids s old new inner (Leaf l) e (ap is_closing is) (λ p. refl) to h.lowers;
}

-- one has gone on to a solid, and written it down
pub adds_solid : (t : Tree) (m : ℤ) (s : Placed) (old parts new : List Fragment) (to : ℕ) (inner : Option ℕ) (event : Event) (e : VerticalExtent) → IsGrown old parts → to ≡ end_by (Some event) s.at.event → IsAt t m parts (record { event = to; inner = inner }) → slice_get t.events s.at.event ≡ Some event → e ≡ extent_of s → Extends parts inner event e new →
    AddsSolid t.events s old new
adds_solid t m s old parts new to inner event e g to_is a is e_is x solids h =
    let end : to ≡ end_at t.events s.at.event = to_is ∙ ap (λ (o : Option Event). end_by o s.at.event) (sym is) in
    let boxes : open_before t.events to ≡ boxes_at t.events s.at.event = ap (open_before t.events) end ∙ boxes_end t.events s.at.event in
    solids_push t.events solids s parts new inner event e a.on.places (subst (ArePlaces (spine_of parts) a.on.places) boxes a.on.are) a.on.inner_is is e_is x (solids_grown t.events solids old parts g h)

pub at_solid : (t : Tree) (m : ℤ) (parts new : List Fragment) (to : ℕ) (inner : Option ℕ) (event : Event) (e : VerticalExtent) → IsAt t m parts (record { event = to; inner = inner }) → Extends parts inner event e new → IsAt t m new (record { event = to; inner = inner })
at_solid t m parts new to inner event e a x = at_same t m parts new (record { event = to; inner = inner }) (places_extend parts new inner event e x) a

pub solids_step : (es : List Event) (solids : List Placed) (i : ℕ) (d : Placed) (old new : List Fragment) → i < length solids → AddsSolid es (get_or solids i d) old new → HaveSolids es (take i solids) old → HaveSolids es (take (i + 1) solids) new
solids_step es solids i d old new low adds h = rw (take_more solids i d low) (adds (take i solids) h)

-- the last solid that was met is the one before a place
last_push : (o : Option Placed) (solids : List Placed) (s : Placed) → last_or o (solids ++ s ∷ []) ≡ Some s
last_push o [] s = refl
last_push o (r ∷ solids) s = last_push (Some r) solids s

abbrev pub IsBehind : List Event → List Placed → ℕ → Type 0
IsBehind es solids event = (s : Placed) → last_or None solids ≡ Some s → event ≡ end_by (slice_get es s.at.event) s.at.event

pub behind_step : (es : List Event) (solids : List Placed) (i event : ℕ) (d : Placed) → i < length solids → event ≡ end_by (slice_get es (get_or solids i d).at.event) (get_or solids i d).at.event → IsBehind es (take (i + 1) solids) event
behind_step es solids i event d low is s last =
    let two : Some (get_or solids i d) ≡ Some s = sym (ap (last_or None) (take_more solids i d low) ∙ last_push None (take i solids) (get_or solids i d)) ∙ last in
    let same : get_or solids i d ≡ s = cc in
    is ∙ ap (λ (r : Placed). end_by (slice_get es r.at.event) r.at.event) same
