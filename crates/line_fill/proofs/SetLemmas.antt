-- The lines of one leaf are changed.
use Rattle.std.proofs.Common.{◌≡◌, ℕ, ◌+◌, ℤ, ◌<◌, ◌≤◌, ◌⊎◌, inl, inr, List, Option, Some, None, ⊎_elim, Bool, true, false, cond, length, slice_get, arith, refl, sym, ◌∙◌, ap, subst}
use Rattle.std.specs.Prelude.{slice_set}
use Rattle.std.specs.List.{insert}
use Rattle.std.proofs.lemmas.Bool.{cases_lt}
use Rattle.std.proofs.lemmas.Option.{slice_get_within, slice_get-get_or, same_Some}
use Rattle.std.proofs.lemmas.List.{length-set}
use Rattle.bk_num.proofs.ListLemmas.{get-set, set-get}
use Rattle.metrics.specs.Face.{FontFace}
use Rattle.boxes.specs.Lines.{LineView}
use Rattle.boxes.specs.declared.leaf.Leaf.{Leaf}
use Rattle.line_fill.specs.LineEnd.{IsLine}
use Rattle.line_fill.specs.Kept.{AreKept, Asked, HasAsked, HasLine, Holds, HoldsNow, HoldsSame, KeepsPlaces, Stands, asked_of}
use Rattle.line_fill.specs.KeptLines.{AreRising, IsPlace, PutsAhead, is_asked, is_now}
use Rattle.line_fill.specs.KeptSearch.{IsLast}
use Rattle.line_fill.specs.KeptSound.{IsSoundBy}
use Rattle.line_fill.specs.KeptSteps.{AsksLine, IsSameLeaf, line_now, step_of}
use Rattle.line_fill.specs.KeptSteps.AsksLine.{found, fresh}
use Rattle.line_fill.specs.declared.kept.KeptLeaf.{KeptLeaf}
use Rattle.line_fill.specs.declared.lines.KeptLine.{KeptLine}
use Rattle.line_fill.proofs.InsertLemmas.{Came, get-insert, insert-at, insert-keep, one-line, rising-set}
use Rattle.line_fill.proofs.InsertLemmas.Came.{here, low, high}
use Rattle.line_fill.proofs.SameLemmas.{print_same, same_line}
use Rattle.line_fill.specs.Keys.{LeafKey, key_in, key_of}

-- where the lines of a leaf go, of which one is asked for and others may be put ahead
pub record Goes (from : ℕ) (Chosen : LineView → Type 0) (line : LineView) (old new : List KeptLine) : Type 0 where
  pub begins : line.from ≡ from
  pub rising : AreRising new
  pub place : ℕ
  pub there : slice_get new place ≡ Some (line_now line)
  pub came : (k : ℕ) (l : KeptLine) → slice_get new k ≡ Some l →
      (l ≡ line_now line) ⊎ (((j : ℕ) × (slice_get old j ≡ Some l)) ⊎ ((is_asked l ≡ false) × Chosen l.line))
  pub goes : (k : ℕ) (l : KeptLine) → slice_get old k ≡ Some l → (l.line.from ≡ from) ⊎ ((j : ℕ) × (slice_get new j ≡ Some l))

-- a line that stands is asked for
set-goes : (old : List KeptLine) (from place : ℕ) (Chosen : LineView → Type 0) (a : KeptLine) (line : LineView) → AreRising old → slice_get old place ≡ Some a → a.line ≡ line → a.line.from ≡ from →
    Goes from Chosen line old (slice_set old place (line_now line))
set-goes old from place Chosen a line up has e begun = record {
  begins = sym (ap (λ (v : LineView). v.from) e) ∙ begun;
  rising = rising-set old place a (line_now line) up has (ap (λ (v : LineView). v.from) e);
  place = place;
  there = let t = set-get old place place (line_now line) a has in at_place t.0 t.1 t.2;
  came = λ k l g. let r = get-set old place k (line_now line) l g in ⊎_elim (λ (w : (k ≡ place) × (l ≡ line_now line)). inl w.1) (λ (w : (k ≡ place → ⊥) × (l ≡ r.0)). inr (inl (k, r.1 ∙ ap (λ (x : KeptLine). Some x) (sym w.1)))) r.2;
  goes = λ k l g. let r = set-get old place k (line_now line) l g in ⊎_elim (λ (w : (k ≡ place) × (r.0 ≡ line_now line)). inl (let s : l ≡ a = same_Some _ _ (sym g ∙ (ap (slice_get old) w.0 ∙ has)) in ap (λ (x : KeptLine). x.line.from) s ∙ begun)) (λ (w : (k ≡ place → ⊥) × (r.0 ≡ l)). inr (k, r.1 ∙ ap (λ (x : KeptLine). Some x) w.1)) r.2;
}
  where
    at_place : (z : KeptLine) → slice_get (slice_set old place (line_now line)) place ≡ Some z → ((place ≡ place) × (z ≡ line_now line)) ⊎ ((place ≡ place → ⊥) × (z ≡ a)) → slice_get (slice_set old place (line_now line)) place ≡ Some (line_now line)
    at_place z g (inl w) = g ∙ ap (λ (x : KeptLine). Some x) w.1
    at_place z g (inr w) = absurd (w.0 refl)

-- a line is put, and others ahead
put-goes : (old new : List KeptLine) (from place : ℕ) (Chosen : LineView → Type 0) (line : LineView) → IsPlace old from place → line.from ≡ from → PutsAhead Chosen (insert old place (line_now line)) new →
    Goes from Chosen line old new
put-goes old new from place Chosen line at begun put =
    let here = put.stays place (line_now line) (insert-at old place (line_now line) at.within) in
    record {
      begins = begun;
      rising = put.rising;
      place = here.0;
      there = here.1;
      came = λ k l g. ⊎_elim
          (λ (w : (j : ℕ) × (slice_get (insert old place (line_now line)) j ≡ Some l)). of_came w.0 l (get-insert old place w.0 (line_now line) l at.within w.1))
          (λ (w : (is_asked l ≡ false) × Chosen l.line). inr (inr w))
          (put.comes k l g);
      goes = λ k l g. let r = insert-keep old place k (line_now line) l at.within g in inr (put.stays r.0 l r.1);
    }
  where
    of_came : (k : ℕ) (l : KeptLine) → Came old place k (line_now line) l → (l ≡ line_now line) ⊎ (((j : ℕ) × (slice_get old j ≡ Some l)) ⊎ ((is_asked l ≡ false) × Chosen l.line))
    of_came k l (here p q) = inl q
    of_came k l (low p g) = inr (inl (k, g))
    of_came k l (high j p q g) = inr (inl (j, g))

-- the line of a leaf from its own beginning on
abbrev pub IsOwnLine : List FontFace → Leaf → ℤ → LineView → Type 0
IsOwnLine faces leaf measure = λ l. IsLine faces leaf l.from measure l

pub goes_on : (faces : List FontFace) (leaf : Leaf) (from : ℕ) (measure : ℤ) (old : List KeptLine) (line : LineView) (new : List KeptLine) (steps steps' : ℕ) → AreRising old → AsksLine faces leaf from measure old line new steps steps' → Goes from (IsOwnLine faces leaf measure) line old new
goes_on faces leaf from measure old line new steps steps' up (found place a has e b is s) = subst (Goes from (IsOwnLine faces leaf measure) line old) (sym is) (set-goes old from place (IsOwnLine faces leaf measure) a line up has e b)
goes_on faces leaf from measure old line new steps steps' up (fresh place at none is put s) = put-goes old new from place (IsOwnLine faces leaf measure) line at is.begins put

-- a line of the leaf at hand is kept for what was asked
pub record HereIn (x : KeptLeaf) (lines : List KeptLine) (a : Asked) (l : KeptLine) : Type 0 where
  pub key_is : key_in x ≡ a.leaf
  pub measure_is : x.measure ≡ a.measure
  pub place : ℕ
  pub there : slice_get lines place ≡ Some l
  pub from_is : l.line.from ≡ a.from

same_leaf : (x : KeptLeaf) → IsSameLeaf x x
same_leaf x = record { key_is = refl; measure_is = refl; print_is = refl; before_is = refl }

module _ (leaves : List KeptLeaf) (at : ℕ) (x y : KeptLeaf) (has : slice_get leaves at ≡ Some x) (same : IsSameLeaf x y) where
  is_x : (i : ℕ) (w : KeptLeaf) → slice_get leaves i ≡ Some w → i ≡ at → w ≡ x
  is_x i w e p = same_Some _ _ (sym e ∙ (ap (slice_get leaves) p ∙ has))

  pub set_same : (i : ℕ) (z : KeptLeaf) → slice_get (slice_set leaves at y) i ≡ Some z → (w : KeptLeaf) × (slice_get leaves i ≡ Some w) × IsSameLeaf w z
  set_same i z e = let r = get-set leaves at i y z e in (r.0, r.1, by r.0 r.1 r.2)
    where
      by : (w : KeptLeaf) → slice_get leaves i ≡ Some w → ((i ≡ at) × (z ≡ y)) ⊎ ((i ≡ at → ⊥) × (z ≡ w)) → IsSameLeaf w z
      by w e' (inl p) = subst (λ (v : KeptLeaf). IsSameLeaf v z) (sym (is_x i w e' p.0)) (subst (λ (v : KeptLeaf). IsSameLeaf x v) (sym p.1) same)
      by w e' (inr p) = subst (λ (v : KeptLeaf). IsSameLeaf w v) (sym p.1) (same_leaf w)

  pub same_set : (i : ℕ) (w : KeptLeaf) → slice_get leaves i ≡ Some w → (z : KeptLeaf) × (slice_get (slice_set leaves at y) i ≡ Some z) × IsSameLeaf w z
  same_set i w e = let r = set-get leaves at i y w e in (r.0, r.1, by r.0 r.2)
    where
      by : (z : KeptLeaf) → ((i ≡ at) × (z ≡ y)) ⊎ ((i ≡ at → ⊥) × (z ≡ w)) → IsSameLeaf w z
      by z (inl p) = subst (λ (v : KeptLeaf). IsSameLeaf v z) (sym (is_x i w e p.0)) (subst (λ (v : KeptLeaf). IsSameLeaf x v) (sym p.1) same)
      by z (inr p) = subst (λ (v : KeptLeaf). IsSameLeaf w v) (sym p.1) (same_leaf w)

  last_set : (n p : ℕ) (o : Option ℕ) → IsLast leaves n p o → IsLast (slice_set leaves at y) n p o
  last_set n p None l = λ j z h e q. let r = set_same j z e in l j r.0 h r.1 (sym r.2.print_is ∙ q)
  last_set n p (Some i) l = let r = same_set i l.0 l.2 in (r.0, l.1, r.1, r.2.print_is ∙ l.3, λ j z h h' e q. let s = set_same j z e in l.4 j s.0 h h' s.1 (sym s.2.print_is ∙ q))

  pub sound_set : (last : ℕ → Option ℕ) → IsSoundBy leaves last → AreRising y.lines.items → IsSoundBy (slice_set leaves at y) last
  sound_set last sound up = record {
    chained = λ i z e. let r = set_same i z e in subst (λ (o : Option ℕ). IsLast (slice_set leaves at y) i z.print o) (sym r.2.before_is) (subst (λ (p : ℕ). IsLast (slice_set leaves at y) i p r.0.before) (sym r.2.print_is) (last_set i r.0.print r.0.before (sound.chained i r.0 r.1)));
    printed = λ i z e. let r = set_same i z e in r.2.print_is ∙ (sound.printed i r.0 r.1 ∙ print_same (sym r.2.key_is) (sym r.2.measure_is));
    lasts = λ p. subst (λ (n : ℕ). IsLast (slice_set leaves at y) n p (last p)) (sym (length-set leaves at y)) (last_set (length leaves) p (last p) (sound.lasts p));
    rising = λ i z e. let r = get-set leaves at i y z e in rises i z r.0 r.1 r.2;
    once = λ i j z w e f k m. let r = set_same i z e in let s = set_same j w f in sound.once i j r.0 s.0 r.1 s.1 (sym r.2.key_is ∙ (k ∙ s.2.key_is)) (sym r.2.measure_is ∙ (m ∙ s.2.measure_is));
  }
    where
      rises : (i : ℕ) (z w : KeptLeaf) → slice_get leaves i ≡ Some w → ((i ≡ at) × (z ≡ y)) ⊎ ((i ≡ at → ⊥) × (z ≡ w)) → AreRising z.lines.items
      rises i z w e (inl p) = subst (λ (v : KeptLeaf). AreRising v.lines.items) (sym p.1) up
      rises i z w e (inr p) = subst (λ (v : KeptLeaf). AreRising v.lines.items) (sym p.1) (sound.rising i w e)

  pub split : (a : Asked) (l : KeptLine) → Stands (slice_set leaves at y) a l → Stands leaves a l ⊎ HereIn x y.lines.items a l
  split a l h = let r = get-set leaves at h.at y h.leaf h.has in by r.0 r.1 r.2
    where
      by : (w : KeptLeaf) → slice_get leaves h.at ≡ Some w → ((h.at ≡ at) × (h.leaf ≡ y)) ⊎ ((h.at ≡ at → ⊥) × (h.leaf ≡ w)) → Stands leaves a l ⊎ HereIn x y.lines.items a l
      by w e (inl p) = inr (record {
        key_is = sym same.key_is ∙ (ap key_in (sym p.1) ∙ h.key_is);
        measure_is = sym same.measure_is ∙ (ap (λ (v : KeptLeaf). v.measure) (sym p.1) ∙ h.measure_is);
        place = h.place;
        there = subst (λ (v : KeptLeaf). slice_get v.lines.items h.place ≡ Some l) p.1 h.there;
        from_is = h.from_is;
      })
      by w e (inr p) = inl (record { at = h.at; leaf = h.leaf; has = e ∙ ap (λ (v : KeptLeaf). Some v) (sym p.1); key_is = h.key_is; measure_is = h.measure_is; place = h.place; there = h.there; from_is = h.from_is })

  pub join : (a : Asked) (l : KeptLine) → Stands leaves a l → Stands (slice_set leaves at y) a l ⊎ HereIn x x.lines.items a l
  join a l h = let r = set-get leaves at h.at y h.leaf h.has in by r.0 r.1 r.2
    where
      by : (z : KeptLeaf) → slice_get (slice_set leaves at y) h.at ≡ Some z → ((h.at ≡ at) × (z ≡ y)) ⊎ ((h.at ≡ at → ⊥) × (z ≡ h.leaf)) → Stands (slice_set leaves at y) a l ⊎ HereIn x x.lines.items a l
      by z e (inl p) = let s = is_x h.at h.leaf h.has p.0 in inr (record {
        key_is = ap key_in (sym s) ∙ h.key_is;
        measure_is = ap (λ (v : KeptLeaf). v.measure) (sym s) ∙ h.measure_is;
        place = h.place;
        there = subst (λ (v : KeptLeaf). slice_get v.lines.items h.place ≡ Some l) s h.there;
        from_is = h.from_is;
      })
      by z e (inr p) = inl (record { at = h.at; leaf = h.leaf; has = e ∙ ap (λ (v : KeptLeaf). Some v) p.1; key_is = h.key_is; measure_is = h.measure_is; place = h.place; there = h.there; from_is = h.from_is })

  pub here_new : (a : Asked) (l : KeptLine) → HereIn x y.lines.items a l → Stands (slice_set leaves at y) a l
  here_new a l h = let r = set-get leaves at at y x has in record { at = at; leaf = y; has = is_y r.0 r.1 r.2; key_is = same.key_is ∙ h.key_is; measure_is = same.measure_is ∙ h.measure_is; place = h.place; there = h.there; from_is = h.from_is }
    where
      is_y : (z : KeptLeaf) → slice_get (slice_set leaves at y) at ≡ Some z → ((at ≡ at) × (z ≡ y)) ⊎ ((at ≡ at → ⊥) × (z ≡ x)) → slice_get (slice_set leaves at y) at ≡ Some y
      is_y z e (inl p) = e ∙ ap (λ (v : KeptLeaf). Some v) p.1
      is_y z e (inr p) = absurd (p.0 refl)

  pub here_old : (a : Asked) (l : KeptLine) → HereIn x x.lines.items a l → Stands leaves a l
  here_old a l h = record { at = at; leaf = x; has = has; key_is = h.key_is; measure_is = h.measure_is; place = h.place; there = h.there; from_is = h.from_is }

  pub places_set : KeepsPlaces leaves (slice_set leaves at y)
  places_set = λ i k m l. let r = same_set i l.leaf l.has in record { leaf = r.0; has = r.1; key_is = r.2.key_is ∙ l.key_is; measure_is = r.2.measure_is ∙ l.measure_is }

  -- nothing is lost or won where the lines stay
  pub same_lines : y.lines.items ≡ x.lines.items → HoldsSame leaves (slice_set leaves at y)
  same_lines e = record {
    keeps = λ a l h. record { stands = stays a l h.stands; asked = h.asked };
    only = λ a l h. ⊎_elim (λ (n : Stands leaves a l). n) (λ (n : HereIn x y.lines.items a l). here_old a l (subst (λ (ls : List KeptLine). HereIn x ls a l) e n)) (split a l h);
  }
    where
      stays : (a : Asked) (l : KeptLine) → Stands leaves a l → Stands (slice_set leaves at y) a l
      stays a l h = ⊎_elim (λ (n : Stands (slice_set leaves at y) a l). n) (λ (n : HereIn x x.lines.items a l). here_new a l (subst (λ (ls : List KeptLine). HereIn x ls a l) (sym e) n)) (join a l h)

  module _ (leaf : Leaf) (from : ℕ) (measure : ℤ) (line : LineView) (key : key_in x ≡ key_of leaf) (wide : x.measure ≡ measure) (Chosen : LineView → Type 0) (g : Goes from Chosen line x.lines.items y.lines.items) where
    asked_here : (b : Asked) → key_in x ≡ b.leaf → x.measure ≡ b.measure → b.from ≡ from → HereIn x y.lines.items b (line_now line)
    asked_here b k m f = record { key_is = k; measure_is = m; place = g.place; there = g.there; from_is = g.begins ∙ sym f }

    same_asked : (b : Asked) (l : KeptLine) → HereIn x y.lines.items b l → b.from ≡ l.line.from → b ≡ asked_of leaf l.line.from measure
    same_asked b l h f =
        let k : b.leaf ≡ key_of leaf = sym h.key_is ∙ key in
        let m : b.measure ≡ measure = sym h.measure_is ∙ wide in
        ap (λ (v : LeafKey). record { leaf = v; from = b.from; measure = b.measure }) k ∙ (ap (λ (v : ℕ). record { leaf = key_of leaf; from = v; measure = b.measure }) f ∙ ap (λ (v : ℤ). record { leaf = key_of leaf; from = l.line.from; measure = v }) m)

    is_asked_for : (b : Asked) (l : KeptLine) → HereIn x y.lines.items b l → l ≡ line_now line → b ≡ asked_of leaf from measure
    is_asked_for b l h e =
        same_asked b l h (sym h.from_is) ∙ ap (λ (v : ℕ). asked_of leaf v measure) (ap (λ (v : KeptLine). v.line.from) e ∙ g.begins)

    kept_on : (b : Asked) (l : KeptLine) → Stands leaves b l → Stands (slice_set leaves at y) b l ⊎ Stands (slice_set leaves at y) b (line_now line)
    kept_on b l h = by (join b l h)
      where
        goes_by : (n : HereIn x x.lines.items b l) → (l.line.from ≡ from) ⊎ ((j : ℕ) × (slice_get y.lines.items j ≡ Some l)) → Stands (slice_set leaves at y) b l ⊎ Stands (slice_set leaves at y) b (line_now line)
        goes_by n (inl f) = inr (here_new b (line_now line) (asked_here b n.key_is n.measure_is (sym n.from_is ∙ f)))
        goes_by n (inr j) = inl (here_new b l (record { key_is = n.key_is; measure_is = n.measure_is; place = j.0; there = j.1; from_is = n.from_is }))

        by : Stands (slice_set leaves at y) b l ⊎ HereIn x x.lines.items b l → Stands (slice_set leaves at y) b l ⊎ Stands (slice_set leaves at y) b (line_now line)
        by (inl n) = inl n
        by (inr n) = goes_by n (g.goes n.place l n.there)

    -- a line that is new here: the one that is asked for, or one that is put ahead
    abbrev IsNew : Asked → KeptLine → Type 0
    IsNew b l = HereIn x y.lines.items b l × ((l ≡ line_now line) ⊎ ((is_asked l ≡ false) × Chosen l.line))

    came_from : (b : Asked) (l : KeptLine) → Stands (slice_set leaves at y) b l → Stands leaves b l ⊎ IsNew b l
    came_from b l h = by (split b l h)
      where
        came_by : (n : HereIn x y.lines.items b l) → (l ≡ line_now line) ⊎ (((j : ℕ) × (slice_get x.lines.items j ≡ Some l)) ⊎ ((is_asked l ≡ false) × Chosen l.line)) → Stands leaves b l ⊎ IsNew b l
        came_by n (inl e) = inr (n, inl e)
        came_by n (inr (inl j)) = inl (here_old b l (record { key_is = n.key_is; measure_is = n.measure_is; place = j.0; there = j.1; from_is = n.from_is }))
        came_by n (inr (inr c)) = inr (n, inr c)

        by : Stands leaves b l ⊎ HereIn x y.lines.items b l → Stands leaves b l ⊎ IsNew b l
        by (inl n) = inl n
        by (inr n) = came_by n (g.came n.place l n.there)

    -- and of those that a pass asked for
    asked_from : (b : Asked) (l : KeptLine) → HasLine (slice_set leaves at y) b l → HasLine leaves b l ⊎ (b ≡ asked_of leaf from measure)
    asked_from b l h = by (came_from b l h.stands)
      where
        never : is_asked l ≡ false → ⊥
        never e = let f : false ≡ true = sym e ∙ h.asked in cc

        by_new : HereIn x y.lines.items b l → (l ≡ line_now line) ⊎ ((is_asked l ≡ false) × Chosen l.line) → HasLine leaves b l ⊎ (b ≡ asked_of leaf from measure)
        by_new n (inl e) = inr (is_asked_for b l n e)
        by_new n (inr c) = absurd (never c.0)

        by : Stands leaves b l ⊎ IsNew b l → HasLine leaves b l ⊎ (b ≡ asked_of leaf from measure)
        by (inl n) = inl (record { stands = n; asked = h.asked })
        by (inr n) = by_new n.0 n.1

    asked_on : (b : Asked) (l : KeptLine) → HasLine leaves b l → HasLine (slice_set leaves at y) b l ⊎ HasLine (slice_set leaves at y) b (line_now line)
    asked_on b l h = ⊎_elim
        (λ (n : Stands (slice_set leaves at y) b l). inl (record { stands = n; asked = h.asked }))
        (λ (n : Stands (slice_set leaves at y) b (line_now line)). inr (record { stands = n; asked = refl }))
        (kept_on b l h.stands)

    pub has_asked : HasAsked (asked_of leaf from measure) leaves (slice_set leaves at y)
    has_asked = record {
      asked = (line_now line, record { stands = here_new (asked_of leaf from measure) (line_now line) (asked_here (asked_of leaf from measure) key wide refl); asked = refl }, refl);
      keeps = λ b h. ⊎_elim (λ (n : HasLine (slice_set leaves at y) b h.0). pair_of b h.0 n) (λ (n : HasLine (slice_set leaves at y) b (line_now line)). pair_of b (line_now line) n) (asked_on b h.0 h.1);
      keeps_now = λ b h. ⊎_elim (λ (n : HasLine (slice_set leaves at y) b h.0). now_of b h.0 n h.2) (λ (n : HasLine (slice_set leaves at y) b (line_now line)). now_of b (line_now line) n refl) (asked_on b h.0 h.1);
      only = λ b h. ⊎_elim (λ (n : HasLine leaves b h.0). inl (old_of b h.0 n)) (λ (e : b ≡ asked_of leaf from measure). inr e) (asked_from b h.0 h.1);
      only_now = λ b h. ⊎_elim (λ (n : HasLine leaves b h.0). inl (old_now b h.0 n h.2)) (λ (e : b ≡ asked_of leaf from measure). inr e) (asked_from b h.0 h.1);
    }
      where
        pair_of : (b : Asked) (l : KeptLine) → HasLine (slice_set leaves at y) b l → Holds (slice_set leaves at y) b
        pair_of b l n = (l, n)

        now_of : (b : Asked) (l : KeptLine) → HasLine (slice_set leaves at y) b l → is_now l ≡ true → HoldsNow (slice_set leaves at y) b
        now_of b l n e = (l, n, e)

        old_of : (b : Asked) (l : KeptLine) → HasLine leaves b l → Holds leaves b
        old_of b l n = (l, n)

        old_now : (b : Asked) (l : KeptLine) → HasLine leaves b l → is_now l ≡ true → HoldsNow leaves b
        old_now b l n e = (l, n, e)

    pub are_kept : (faces : List FontFace) → AreKept faces leaves → IsLine faces leaf from measure line → ((l : LineView) → Chosen l → IsOwnLine faces leaf measure l) → AreKept faces (slice_set leaves at y)
    are_kept faces old is chosen = λ b l other h e. ⊎_elim (λ (n : Stands leaves b l). old b l other n e) (λ (n : IsNew b l). by_new b l other n.0 e n.1) (came_from b l h)
      where
        there_too : (b : Asked) (l : KeptLine) (other : Leaf) → HereIn x y.lines.items b l → key_of other ≡ b.leaf → IsOwnLine faces leaf measure l.line → IsLine faces other b.from b.measure l.line
        there_too b l other n e own =
            let s = same_asked b l n (sym n.from_is) in
            let k : key_of leaf ≡ key_of other = sym (ap (λ (v : Asked). v.leaf) s) ∙ sym e in
            subst (λ (v : Asked). IsLine faces other v.from v.measure l.line) (sym s) (same_line faces leaf other l.line.from measure l.line k own)

        own : (l : KeptLine) → (l ≡ line_now line) ⊎ ((is_asked l ≡ false) × Chosen l.line) → IsOwnLine faces leaf measure l.line
        own l (inl f) = subst (λ (v : KeptLine). IsOwnLine faces leaf measure v.line) (sym f) (subst (λ (q : ℕ). IsLine faces leaf q measure line) (sym g.begins) is)
        own l (inr c) = chosen l.line c.1

        by_new : (b : Asked) (l : KeptLine) (other : Leaf) → HereIn x y.lines.items b l → key_of other ≡ b.leaf → (l ≡ line_now line) ⊎ ((is_asked l ≡ false) × Chosen l.line) → IsLine faces other b.from b.measure l.line
        by_new b l other n e c = there_too b l other n e (own l c)

  module _ (faces : List FontFace) (leaf : Leaf) (from : ℕ) (measure : ℤ) (line : LineView) (steps steps' : ℕ) (key : key_in x ≡ key_of leaf) (wide : x.measure ≡ measure) where
    -- a line that stands here
    stands_here : (place : ℕ) (a : KeptLine) → slice_get x.lines.items place ≡ Some a → a.line.from ≡ from → Stands leaves (asked_of leaf from measure) a
    stands_here place a has' b = here_old (asked_of leaf from measure) a (record { key_is = key; measure_is = wide; place = place; there = has'; from_is = b })

    -- the line that is answered
    pub line_is : AreKept faces leaves → AsksLine faces leaf from measure x.lines.items line y.lines.items steps steps' → IsLine faces leaf from measure line
    line_is old (found place a has' e b is s) = subst (λ (v : LineView). IsLine faces leaf from measure v) e (old (asked_of leaf from measure) a leaf (stands_here place a has' b) refl)
    line_is old (fresh place at' none is put s) = is

    -- a line that is held stands here
    held_here : (last : ℕ → Option ℕ) → IsSoundBy leaves last → (h : Holds leaves (asked_of leaf from measure)) → slice_get x.lines.items h.1.stands.place ≡ Some h.0
    held_here last sound h =
        let r : Stands leaves (asked_of leaf from measure) h.0 = h.1.stands in
        let w : r.leaf ≡ x = is_x r.at r.leaf r.has (sound.once r.at at r.leaf x r.has has (r.key_is ∙ sym key) (r.measure_is ∙ sym wide)) in
        subst (λ (v : KeptLeaf). slice_get v.lines.items r.place ≡ Some h.0) w r.there

    -- no step is taken for a line that is held
    pub held : (last : ℕ → Option ℕ) → IsSoundBy leaves last → AsksLine faces leaf from measure x.lines.items line y.lines.items steps steps' → Holds leaves (asked_of leaf from measure) → steps' ≡ steps
    held last sound (found place a has' e b is s) h =
        let same : h.0 ≡ a = one-line x.lines.items h.1.stands.place place h.0 a (sound.rising at x has) (held_here last sound h) has' (h.1.stands.from_is ∙ sym b) in
        let asked : is_asked a ≡ true = ap is_asked (sym same) ∙ h.1.asked in
        let none : step_of a ≡ 0 = ap (λ (v : Bool). cond v 0 1) asked in
        omega (arith, s, none)
    held last sound (fresh place at' none is put s) h = absurd (lost h.0 h.1.stands.place (held_here last sound h) h.1.stands.from_is (cases_lt h.1.stands.place place) (cases_lt place h.1.stands.place))
      where
        lost : (l : KeptLine) (k : ℕ) → slice_get x.lines.items k ≡ Some l → l.line.from ≡ from → (k < place) ⊎ (place ≤ k) → (place < k) ⊎ (k ≤ place) → ⊥
        lost l k t f (inl h) q = let r = at'.before k l h t in omega (arith, r, f)
        lost l k t f (inr h) (inl h') =
            let n = slice_get_within x.lines.items k l t in
            let a = slice_get-get_or x.lines.items place l (omega arith) in
            let r = sound.rising at x has place k _ l h' a t in
            let s' = at'.after place _ (omega arith) a in
            omega (arith, r, s', f)
        lost l k t f (inr h) (inr h') = let p : k ≡ place = omega arith in none l (subst (λ (v : ℕ). slice_get x.lines.items v ≡ Some l) p t) f

    -- one is taken for a line that isn't
    pub filled : AsksLine faces leaf from measure x.lines.items line y.lines.items steps steps' → (Holds leaves (asked_of leaf from measure) → ⊥) → steps' ≡ steps + 1
    filled (found place a has' e b is s) none = by (is_asked a) refl
      where
        by : (v : Bool) → is_asked a ≡ v → steps' ≡ steps + 1
        by true t = absurd (none (a, record { stands = stands_here place a has' b; asked = t }))
        by false t = let one : step_of a ≡ 1 = ap (λ (v : Bool). cond v 0 1) t in omega (arith, s, one)
    filled (fresh place at' none' is put s) none = s
