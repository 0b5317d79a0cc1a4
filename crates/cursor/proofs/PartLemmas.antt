-- Between two lines of a remainder stands a break point.
use Rattle.std.proofs.Common.{◌≡◌, ◌≢◌, ◌<◌, ◌≤◌, ◌+◌, ◌-◌, ℕ, zero, suc, ℤ, Bool, true, false, not, cond, ◌||◌, ◌&&◌, eqb, length, List, [], ◌∷◌, ◌++◌, Option, None, Some, slice_get, refl, sym, ap, ◌∙◌, subst, arith, add-one, ◌⊎◌, inl, inr, ⊎_elim, length-append}
use Rattle.std.specs.Prelude.{IsTrue}
use Rattle.std.proofs.Math.Arith.{lt_of_le-ne}
use Rattle.std.proofs.lemmas.Option.{slice_get_within}
use Rattle.bk_num.proofs.ListLemmas.{get-push, get-before, slice_get_at}
use Rattle.boxes.specs.Tree.{Tree, IsTree, is_leaf, is_opening, last_event}
use Rattle.boxes.specs.Tree.IsTree.{empty, opened, filled, closed}
use Rattle.boxes.specs.declared.place.Event.{Event}
use Rattle.boxes.specs.declared.place.Event.TheVariants.{Opens, Closes, Leaf}
use Rattle.boxes.specs.declared.page.SolidKind.TheVariants.{Line, OpenEdge, CloseEdge}
use Rattle.boxes.specs.declared.place.Position.{Position}
use Rattle.metrics.specs.Face.{FontFace}
use Rattle.line_fill.proofs.EndLemmas.{lines_go_on}
use Rattle.seams.specs.Runs.{is_closing, is_solid_at, has_opening, has_block_seam, events_in, run_start, run_end, solid_after, solid_before}
use Rattle.seams.specs.Seams.{class_by, line_seam, seam_before, seam_between, solid_behind}
use Rattle.seams.specs.declared.seam_info.SeamInfo.{SeamInfo}
use Rattle.seams.proofs.RunLemmas.{after_solid, events_step, solid_step}
use Rattle.cursor.specs.Parted.{HavePartedLines, IsBreak}
use Rattle.cursor.specs.Remainder.{IsContent, IsRemainder, IsSolid, SolidView, end_of, leaf_measure}
use Rattle.cursor.specs.Remainder.IsContent.{of_line, of_open, of_close}
use Rattle.cursor.proofs.RemLemmas.{Stands, begins_of, found_of, place, solid_stands, solid_within, stands}
use Rattle.std.proofs.lemmas.Bool.{eq-eqb, ne_eqb}
use Rattle.std.proofs.lemmas.Bool.Decides.{eqb_tells}

-- what stands next to a leaf: an Open before it, and a Close behind it
pub record AreAlone (es : List Event) : Type 0 where
  pub before : (k l : ℕ) → slice_get es k ≡ Some (Leaf l) → (m : ℕ) × (k ≡ suc m) × (is_opening (slice_get es m) ≡ true)
  pub behind : (k l : ℕ) (e : Event) → slice_get es k ≡ Some (Leaf l) → slice_get es (suc k) ≡ Some e → is_closing (Some e) ≡ true

no_opening : (o : Option Event) → is_opening o ≡ true → (b : Event) × (o ≡ Some b)
no_opening None h = absurd (let f : false ≡ true = h in cc)
no_opening (Some b) h = (b, refl)

not_true : false ≡ true → ⊥
not_true e = cc

module _ (es : List Event) (e : Event) (a : AreAlone es) where
  -- an event more that is no leaf, and a Close where the last one is a leaf
  push_other : ((l : ℕ) → e ≡ Leaf l → ⊥) → (is_leaf (last_event es) ≡ true → is_closing (Some e) ≡ true) → AreAlone (es ++ e ∷ [])
  push_other other last = record {
    before = λ k l g. ⊎_elim (λ (w : (k ≡ length es) × (Leaf l ≡ e)). absurd (other l (sym w.1))) (λ (w : slice_get es k ≡ Some (Leaf l)). was k l w) (get-push es e (Leaf l) k g);
    behind = λ k l x g h. ⊎_elim (λ (w : (k ≡ length es) × (Leaf l ≡ e)). absurd (other l (sym w.1))) (λ (w : slice_get es k ≡ Some (Leaf l)). next k l x w (get-push es e x (suc k) h)) (get-push es e (Leaf l) k g);
  }
    where
      was : (k l : ℕ) → slice_get es k ≡ Some (Leaf l) → (m : ℕ) × (k ≡ suc m) × (is_opening (slice_get (es ++ e ∷ []) m) ≡ true)
      was k l w =
          let b = a.before k l w in
          let n = slice_get_within es k (Leaf l) w in
          let p : k ≡ suc b.0 = b.1 in
          (b.0, b.1, ap is_opening (get-before es e b.0 (omega (arith, n, p))) ∙ b.2)

      next : (k l : ℕ) (x : Event) → slice_get es k ≡ Some (Leaf l) → ((suc k ≡ length es) × (x ≡ e)) ⊎ (slice_get es (suc k) ≡ Some x) → is_closing (Some x) ≡ true
      next k l x w (inl p) =
          let q : length es - 1 ≡ k = let p0 = p.0 in omega (arith, p0) in
          ap (λ (v : Event). is_closing (Some v)) p.1 ∙ last (ap (λ (j : ℕ). is_leaf (slice_get es j)) q ∙ ap is_leaf w)
      next k l x w (inr p) = a.behind k l x w p

  -- a leaf more, behind an Open
  push_leaf : (l' : ℕ) → e ≡ Leaf l' → is_opening (last_event es) ≡ true → AreAlone (es ++ e ∷ [])
  push_leaf l' is last = record {
    before = λ k l g. ⊎_elim (λ (w : (k ≡ length es) × (Leaf l ≡ e)). end k w.0) (λ (w : slice_get es k ≡ Some (Leaf l)). was k l w) (get-push es e (Leaf l) k g);
    behind = λ k l x g h. ⊎_elim
        (λ (w : (k ≡ length es) × (Leaf l ≡ e)). let n = slice_get_within (es ++ e ∷ []) (suc k) x h in let p = w.0 in let q = size in absurd (omega (arith, n, p, q)))
        (λ (w : slice_get es k ≡ Some (Leaf l)). next k l x w (get-push es e x (suc k) h))
        (get-push es e (Leaf l) k g);
  }
    where
      size : length (es ++ e ∷ []) ≡ suc (length es)
      size = search (arith, length-append)

      some : 0 < length es
      some = let o = no_opening (last_event es) last in let n = slice_get_within es (length es - 1) o.0 o.1 in omega (arith, n)

      end : (k : ℕ) → k ≡ length es → (m : ℕ) × (k ≡ suc m) × (is_opening (slice_get (es ++ e ∷ []) m) ≡ true)
      end k p = let s = some in (length es - 1, omega (arith, s, p), ap is_opening (get-before es e (length es - 1) (omega (arith, s))) ∙ last)

      was : (k l : ℕ) → slice_get es k ≡ Some (Leaf l) → (m : ℕ) × (k ≡ suc m) × (is_opening (slice_get (es ++ e ∷ []) m) ≡ true)
      was k l w =
          let b = a.before k l w in
          let n = slice_get_within es k (Leaf l) w in
          let p : k ≡ suc b.0 = b.1 in
          (b.0, b.1, ap is_opening (get-before es e b.0 (omega (arith, n, p))) ∙ b.2)

      next : (k l : ℕ) (x : Event) → slice_get es k ≡ Some (Leaf l) → ((suc k ≡ length es) × (x ≡ e)) ⊎ (slice_get es (suc k) ≡ Some x) → is_closing (Some x) ≡ true
      next k l x w (inl p) =
          let q : length es - 1 ≡ k = let p0 = p.0 in omega (arith, p0) in
          let f : is_opening (Some (Leaf l)) ≡ true = ap is_opening (sym w) ∙ (ap (λ (j : ℕ). is_opening (slice_get es j)) (sym q) ∙ last) in
          absurd (not_true f)
      next k l x w (inr p) = a.behind k l x w p

pub alone : (t : Tree) → IsTree t → AreAlone t.events
alone _ empty = record { before = λ k l g. absurd (none g); behind = λ k l x g h. absurd (none g) }
  where
    none : {x : Event} → ◌≡◌ {A = Option Event} None (Some x) → ⊥
    none e = cc
alone _ (opened t p tree few place good) = push_other t.events (Opens (length t.boxes)) (alone t tree) (λ l e. cc) (λ f. absurd (no_leaf (is_leaf (last_event t.events)) _ f place))
  where
    no_leaf : (b c : Bool) → b ≡ true → IsTrue (not b && c) → ⊥
    no_leaf true c e h = not_true h
    no_leaf false c e h = not_true e
alone _ (filled t leaf tree few place good owners) = push_leaf t.events (Leaf (length t.leaves)) (alone t tree) (length t.leaves) refl place
alone _ (closed t b tree few at) = push_other t.events (Closes b) (alone t tree) (λ l e. cc) (λ f. refl)

-- whether a box opens among events, and whether one does behind a lower edge, by the first of them
opening_step : (t : Tree) (k to : ℕ) (b : Bool) → k < to → to ≤ length t.events → is_opening (slice_get t.events k) ≡ b → has_opening (events_in t k to) ≡ (b || has_opening (events_in t (suc k) to))
opening_step t k to b l w o =
    let at = slice_get_at t.events k (omega (arith, l, w)) in
    ap (λ (es : List Event). has_opening es) (events_step t k to at.0 l at.1) ∙ ap (λ (x : Bool). x || has_opening (events_in t (suc k) to)) (ap is_opening (sym at.1) ∙ o)

block_step : (t : Tree) (k to : ℕ) (b : Bool) → k < to → to ≤ length t.events → is_closing (slice_get t.events k) ≡ b → has_block_seam (events_in t k to) ≡ cond b (has_opening (events_in t (suc k) to)) (has_block_seam (events_in t (suc k) to))
block_step t k to b l w o =
    let at = slice_get_at t.events k (omega (arith, l, w)) in
    ap (λ (es : List Event). has_block_seam es) (events_step t k to at.0 l at.1) ∙ ap (λ (x : Bool). cond x (has_opening (events_in t (suc k) to)) (has_block_seam (events_in t (suc k) to))) (ap is_closing (sym at.1) ∙ o)

-- an Open among events
opens_in : (t : Tree) (d k to n : ℕ) → k + d ≡ n → n < to → to ≤ length t.events → is_opening (slice_get t.events n) ≡ true → has_opening (events_in t k to) ≡ true
opens_in t zero k to n e l w o = opening_step t k to true (omega arith) w (let p : k ≡ n = omega arith in ap (λ (j : ℕ). is_opening (slice_get t.events j)) p ∙ o)
opens_in t (suc d) k to n e l w o =
    let r = opens_in t d (suc k) to n (omega arith) l w o in
    opening_step t k to (is_opening (slice_get t.events k)) (omega arith) w refl ∙ (ap (λ (b : Bool). is_opening (slice_get t.events k) || b) r ∙ either (is_opening (slice_get t.events k)))
  where
    either : (b : Bool) → (b || true) ≡ true
    either true = refl
    either false = refl

-- where a run begins with a Close and no box opens after one, the solid behind it is a lower edge
pub low_next : (t : Tree) (from n : ℕ) (e : Event) → IsTree t → is_closing (slice_get t.events from) ≡ true → from ≤ n → slice_get t.events n ≡ Some e → has_block_seam (events_in t from (run_end t (Some n))) ≡ false → is_closing (Some e) ≡ true
low_next t from n (Closes b) tree low order there none = refl
low_next t from n (Opens b) tree low order there none = absurd (not_true (sym none ∙ blocks))
  where
    end : run_end t (Some n) ≡ suc n
    end = ap (λ (o : Option Event). cond (is_opening o) (suc n) n) there

    within : n < length t.events
    within = slice_get_within t.events n (Opens b) there

    apart : from ≢ n
    apart p = not_true (ap is_closing (sym there) ∙ (ap (λ (j : ℕ). is_closing (slice_get t.events j)) (sym p) ∙ low))

    before : from < n
    before = let a = apart in lt_of_le-ne order a

    opens : has_opening (events_in t (suc from) (suc n)) ≡ true
    opens = let b' = before in let w = within in opens_in t (n - suc from) (suc from) (suc n) n (omega (arith, b')) (omega arith) (omega (arith, w)) (ap is_opening there)

    blocks : has_block_seam (events_in t from (run_end t (Some n))) ≡ true
    blocks = let b' = before in let w = within in ap (λ (j : ℕ). has_block_seam (events_in t from j)) end ∙ (block_step t from (suc n) true (omega (arith, b')) (omega (arith, w)) low ∙ opens)
low_next t from n (Leaf l) tree low order there none = absurd (not_true (sym none ∙ blocks))
  where
    end : run_end t (Some n) ≡ n
    end = ap (λ (o : Option Event). cond (is_opening o) (suc n) n) there

    within : n < length t.events
    within = slice_get_within t.events n (Leaf l) there

    opened_at : (m : ℕ) × (n ≡ suc m) × (is_opening (slice_get t.events m) ≡ true)
    opened_at = (alone t tree).before n l there

    apart : from ≢ n
    apart p = not_true (ap is_closing (sym there) ∙ (ap (λ (j : ℕ). is_closing (slice_get t.events j)) (sym p) ∙ low))

    both : (o : Option Event) → is_closing o ≡ true → is_opening o ≡ true → ⊥
    both None c o = not_true c
    both (Some (Opens b)) c o = not_true c
    both (Some (Closes b)) c o = not_true o
    both (Some (Leaf b)) c o = not_true c

    apart' : from ≢ opened_at.0
    apart' p = both (slice_get t.events from) low (ap (λ (j : ℕ). is_opening (slice_get t.events j)) p ∙ opened_at.2)

    before : from < opened_at.0
    before = let a = apart in let a' = apart' in let b = lt_of_le-ne order a in let p = opened_at.1 in lt_of_le-ne (omega (arith, b, p)) a'

    blocks : has_block_seam (events_in t from (run_end t (Some n))) ≡ true
    blocks =
        let b' = before in
        let w = within in
        let p = opened_at.1 in
        ap (λ (j : ℕ). has_block_seam (events_in t from j)) end ∙ (block_step t from n true (omega (arith, b', p)) (omega (arith, w)) low ∙ opens_in t (opened_at.0 - suc from) (suc from) n opened_at.0 (omega (arith, b')) (omega (arith, p)) (omega (arith, w)) opened_at.2)

-- ---- solids before an event

-- a solid is the first one from itself on
pub solid_itself : (t : Tree) (k : ℕ) → is_solid_at t.boxes (slice_get t.events k) ≡ true → solid_after t k ≡ Some k
solid_itself t k is = solid_step t k true (go (slice_get t.events k) refl is) is
  where
    go : (o : Option Event) → slice_get t.events k ≡ o → is_solid_at t.boxes o ≡ true → k < length t.events
    go None e is = absurd (not_true is)
    go (Some event) e is = slice_get_within t.events k event e

-- no solid stands between an event and the first solid from it on
pub before_next : (t : Tree) (d j e : ℕ) → j + d ≡ e → solid_after t j ≡ Some e → solid_before t e ≡ solid_before t j
before_next t zero j e n found = ap (solid_before t) (omega arith)
before_next t (suc d) j e n found = by (is_solid_at t.boxes (slice_get t.events j)) refl (λ next. before_next t d (suc j) e (omega arith) next)
  where
    inside : j < length t.events
    inside = let w = solid_within t j e found in omega arith

    by : (b : Bool) → is_solid_at t.boxes (slice_get t.events j) ≡ b → (solid_after t (suc j) ≡ Some e → solid_before t e ≡ solid_before t (suc j)) → solid_before t e ≡ solid_before t j
    by true is more = absurd (let f : Some e ≡ Some j = sym found ∙ solid_itself t j is in let g : e ≡ j = cc in omega arith)
    by false is more =
        let next : solid_after t (suc j) ≡ Some e = sym (solid_step t j false inside is) ∙ found in
        more next ∙ ap (λ (b : Bool). cond b (Some j) (solid_before t j)) is

pub before_found : (t : Tree) (j e : ℕ) → solid_after t j ≡ Some e → solid_before t e ≡ solid_before t j
before_found t j e found = let low = (after_solid t j e found).0 in before_next t (e - j) j e (omega arith) found

pub solid_here : (t : Tree) (from event : ℕ) → solid_after t from ≡ Some event → solid_before t (event + 1) ≡ Some event
solid_here t from event found = ap (solid_before t) (add-one event) ∙ ap (λ (b : Bool). cond b (Some event) (solid_before t event)) (after_solid t from event found).1

-- ---- the walk from a line on

-- a place right behind a solid, at which a run begins that begins with a Close
record IsBehind (t : Tree) (p : ℕ) (at : Position) : Type 0 where
  zero_is : at.offset ≡ 0
  event_is : at.event ≡ p + 1
  solid : solid_before t at.event ≡ Some p
  low : is_closing (slice_get t.events (run_start t (Some p))) ≡ true

start_within : (t : Tree) (p : ℕ) → run_start t (Some p) ≤ suc p
start_within t p = by (is_closing (slice_get t.events p))
  where
    by : (b : Bool) → cond b p (suc p) ≤ suc p
    by true = omega arith
    by false = omega arith

module _ (faces : List FontFace) (t : Tree) (w : ℤ) (tree : IsTree t) where
  zero_place : (at : Position) (x : SolidView) → Stands t at → at.offset ≡ 0 → IsSolid faces t w at x → x.placed_at.offset ≡ 0
  zero_place at x st z is = begins_of faces t w at x st is ∙ by (eqb x.placed_at.event at.event)
    where
      by : (b : Bool) → cond b at.offset 0 ≡ 0
      by true = z
      by false = refl

  -- the next solid is behind a break point, or a lower edge
  next_low : (p : ℕ) (at : Position) (x : SolidView) → Stands t at → IsBehind t p at → IsSolid faces t w at x → IsBreak x ⊎ (is_closing (slice_get t.events x.placed_at.event) ≡ true)
  next_low p at x st b is = by (has_block_seam (events_in t (run_start t (Some p)) (run_end t (Some n)))) refl
    where
      n : ℕ
      n = x.placed_at.event

      here : is_solid_at t.boxes (slice_get t.events n) ≡ true
      here = (after_solid t at.event n is.found).1

      order : at.event ≤ n
      order = (after_solid t at.event n is.found).0

      behind : solid_before t n ≡ Some p
      behind = before_found t at.event n is.found ∙ b.solid

      seam : x.seam ≡ seam_between t w (Some p) (Some n)
      seam = is.seam_is ∙ (ap (λ (z : Bool). cond z (seam_before t n w) (line_seam t n w)) (eq-eqb x.placed_at.offset 0 (zero_place at x st b.zero_is is)) ∙ (ap (λ (o : Option ℕ). seam_between t w (solid_behind t o) o) (solid_itself t n here) ∙ ap (λ (o : Option ℕ). seam_between t w o (Some n)) behind))

      by : (c : Bool) → has_block_seam (events_in t (run_start t (Some p)) (run_end t (Some n))) ≡ c → IsBreak x ⊎ (is_closing (slice_get t.events n) ≡ true)
      by true e = inl (inl (ap (λ (i : SeamInfo). i.class) seam ∙ ap (class_by (Some p) (Some n)) e))
      by false e =
          let o = order in
          let s = start_within t p in
          let q = b.event_is in
          let v = slice_get_at t.events n (solid_within t at.event n is.found) in
          inr (ap is_closing v.1 ∙ low_next t (run_start t (Some p)) n v.0 tree b.low (omega (arith, o, s, q)) v.1 e)

  not_line : (at : Position) (x : SolidView) → IsSolid faces t w at x → is_closing (slice_get t.events x.placed_at.event) ≡ true → x.kind ≡ Line → ⊥
  not_line at x is c k = by is.content
    where
      by : IsContent faces t w at x → ⊥
      by (of_line l) = not_true (ap is_closing (sym l.names) ∙ c)
      by (of_open b e d) = let f : OpenEdge b ≡ Line = sym d.kind_is ∙ k in cc
      by (of_close b e d) = let f : CloseEdge b ≡ Line = sym d.kind_is ∙ k in cc

  behind_low : (at : Position) (x : SolidView) → IsSolid faces t w at x → is_closing (slice_get t.events x.placed_at.event) ≡ true → IsBehind t x.placed_at.event x.end
  behind_low at x is c = by is.content
    where
      n : ℕ
      n = x.placed_at.event

      made : x.end ≡ record { event = n + 1; offset = 0 } → IsBehind t n x.end
      made e = record {
        zero_is = ap (λ (q : Position). q.offset) e;
        event_is = ap (λ (q : Position). q.event) e;
        solid = ap (λ (q : Position). solid_before t q.event) e ∙ solid_here t at.event n is.found;
        low = ap (λ (z : Bool). is_closing (slice_get t.events (cond z n (suc n)))) c ∙ c;
      }

      by : IsContent faces t w at x → IsBehind t n x.end
      by (of_line l) = absurd (not_true (ap is_closing (sym l.names) ∙ c))
      by (of_open b e d) = made d.ends
      by (of_close b e d) = made d.ends

  walk : (xs : List SolidView) (p : ℕ) (at : Position) (k : ℕ) (b : SolidView) → Stands t at → IsBehind t p at → IsRemainder faces t w at xs → slice_get xs k ≡ Some b → b.kind ≡ Line → (j : ℕ) × (j ≤ k) × (s : SolidView) × (slice_get xs j ≡ Some s) × IsBreak s
  walk [] p at k b st h r e l = absurd (none e)
    where
      none : ◌≡◌ {A = Option SolidView} None (Some b) → ⊥
      none g = cc
  walk (x ∷ xs) p at k b st h r e l = by (next_low p at x st h r.1.0) k e (λ c k' e'. walk xs x.placed_at.event r.0 k' b (subst (Stands t) (sym r.1.1) (solid_stands faces t w at x tree st r.1.0)) (subst (IsBehind t x.placed_at.event) (sym r.1.1) (behind_low at x r.1.0 c)) r.2 e' l)
    where
      by : IsBreak x ⊎ (is_closing (slice_get t.events x.placed_at.event) ≡ true) → (k : ℕ) → slice_get (x ∷ xs) k ≡ Some b → (is_closing (slice_get t.events x.placed_at.event) ≡ true → (k' : ℕ) → slice_get xs k' ≡ Some b → (j : ℕ) × (j ≤ k') × (s : SolidView) × (slice_get xs j ≡ Some s) × IsBreak s) → (j : ℕ) × (j ≤ k) × (s : SolidView) × (slice_get (x ∷ xs) j ≡ Some s) × IsBreak s
      by (inl q) k e more = (0, omega arith, x, refl, q)
      by (inr c) zero e more = let same : x ≡ b = cc in absurd (not_line at x r.1.0 c (ap (λ (v : SolidView). v.kind) same ∙ l))
      by (inr c) (suc k) e more = let m = more c k e in let o = m.1 in (suc m.0, omega (arith, o), m.2, m.3, m.4)

  -- from a line on, the next line is behind a break point
  from_line : (at : Position) (x : SolidView) (xs : List SolidView) (k : ℕ) (b : SolidView) → Stands t at → IsSolid faces t w at x → x.kind ≡ Line → IsRemainder faces t w x.end xs → slice_get xs k ≡ Some b → b.kind ≡ Line → (j : ℕ) × (j ≤ k) × (s : SolidView) × (slice_get xs j ≡ Some s) × IsBreak s
  from_line at x [] k b st is kind r e l = absurd (none e)
    where
      none : ◌≡◌ {A = Option SolidView} None (Some b) → ⊥
      none g = cc
  from_line at x (y ∷ ys) k b st is kind r e l = by is.content
    where
      n : ℕ
      n = x.placed_at.event

      second : IsSolid faces t w x.end y
      second = r.1.0

      standing : Stands t x.end
      standing = solid_stands faces t w at x tree st is

      -- the line ends its leaf
      whole : (number : ℕ) → slice_get t.events n ≡ Some (Leaf number) → x.end ≡ record { event = n + 1; offset = 0 } → (j : ℕ) × (j ≤ k) × (s : SolidView) × (slice_get (y ∷ ys) j ≡ Some s) × IsBreak s
      whole number names ends = walk (y ∷ ys) n x.end k b standing behind r e l
        where
          next : (v : Event) × (slice_get t.events (suc n) ≡ Some v)
          next =
              let o = (after_solid t x.end.event y.placed_at.event second.found).0 in
              let v = solid_within t x.end.event y.placed_at.event second.found in
              let q : x.end.event ≡ n + 1 = ap (λ (p : Position). p.event) ends in
              slice_get_at t.events (suc n) (omega (arith, o, v, q))

          behind : IsBehind t n x.end
          behind = record {
            zero_is = ap (λ (p : Position). p.offset) ends;
            event_is = ap (λ (p : Position). p.event) ends;
            solid = ap (λ (p : Position). solid_before t p.event) ends ∙ solid_here t at.event n is.found;
            low = ap (λ (o : Option Event). is_closing (slice_get t.events (cond (is_closing o) n (suc n)))) names ∙ (ap is_closing next.1 ∙ (alone t tree).behind n number next.0 names next.1);
          }

      -- the line leaves some of it
      part : (number to : ℕ) → slice_get t.events n ≡ Some (Leaf number) → x.end ≡ record { event = n; offset = to } → 0 < to → (j : ℕ) × (j ≤ k) × (s : SolidView) × (slice_get (y ∷ ys) j ≡ Some s) × IsBreak s
      part number to names ends some = (0, omega arith, y, refl, inr (ap (λ (i : SeamInfo). i.class) second.seam_is ∙ ap (λ (z : Bool). (cond z (seam_before t y.placed_at.event w) (line_seam t y.placed_at.event w)).class) other))
        where
          event_is : x.end.event ≡ n
          event_is = ap (λ (p : Position). p.event) ends

          itself : solid_after t x.end.event ≡ Some n
          itself = ap (solid_after t) event_is ∙ solid_itself t n (after_solid t at.event n is.found).1

          same : y.placed_at.event ≡ x.end.event
          same = let f : Some y.placed_at.event ≡ Some n = sym second.found ∙ itself in let g : y.placed_at.event ≡ n = cc in g ∙ sym event_is

          offset : y.placed_at.offset ≡ to
          offset = begins_of faces t w x.end y standing second ∙ (ap (λ (z : Bool). cond z x.end.offset 0) (eq-eqb y.placed_at.event x.end.event same) ∙ ap (λ (p : Position). p.offset) ends)

          other : eqb y.placed_at.offset 0 ≡ false
          other = ne_eqb y.placed_at.offset 0 (λ z. let o = offset in absurd (omega (arith, z, o, some)))

      by : IsContent faces t w at x → (j : ℕ) × (j ≤ k) × (s : SolidView) × (slice_get (y ∷ ys) j ≡ Some s) × IsBreak s
      by (of_open b' e' d) = absurd (let f : OpenEdge b' ≡ Line = sym d.kind_is ∙ kind in cc)
      by (of_close b' e' d) = absurd (let f : CloseEdge b' ≡ Line = sym d.kind_is ∙ kind in cc)
      by (of_line d) = go (eqb_tells d.line_of.to (length d.leaf.text)) d.ends (lines_go_on faces d.leaf x.placed_at.offset (leaf_measure t w n) d.line_of (found_of faces t w at x tree st is.found d).inside d.fills).0
        where
          go : {to len : ℕ} → ((eqb to len ≡ true) × (to ≡ len)) ⊎ ((eqb to len ≡ false) × (to ≢ len)) → x.end ≡ end_of n len to → x.placed_at.offset < to → (j : ℕ) × (j ≤ k) × (s : SolidView) × (slice_get (y ∷ ys) j ≡ Some s) × IsBreak s
          go {to} {len} (inl h) ends more = whole d.number d.names (ends ∙ ap (λ (z : Bool). cond z (record { event = n + 1; offset = 0 }) (record { event = n; offset = to })) h.0)
          go {to} {len} (inr h) ends more = part d.number to d.names (ends ∙ ap (λ (z : Bool). cond z (record { event = n + 1; offset = 0 }) (record { event = n; offset = to })) h.0) (omega (arith, more))

  parted : (xs : List SolidView) (at : Position) (i k : ℕ) (a b : SolidView) → Stands t at → IsRemainder faces t w at xs → i < k → slice_get xs i ≡ Some a → slice_get xs k ≡ Some b → a.kind ≡ Line → b.kind ≡ Line → (j : ℕ) × (i < j) × (j ≤ k) × (s : SolidView) × (slice_get xs j ≡ Some s) × IsBreak s
  parted [] at i k a b st r h e f l m = absurd (none e)
    where
      none : ◌≡◌ {A = Option SolidView} None (Some a) → ⊥
      none g = cc
  parted (x ∷ xs) at zero zero a b st r h e f l m = absurd (omega arith)
  parted (x ∷ xs) at (suc i) zero a b st r h e f l m = absurd (omega arith)
  parted (x ∷ xs) at zero (suc k) a b st r h e f l m =
      let same : x ≡ a = cc in
      let q = from_line at x xs k b st r.1.0 (ap (λ (v : SolidView). v.kind) same ∙ l) (subst (λ (p : Position). IsRemainder faces t w p xs) r.1.1 r.2) f m in
      let o = q.1 in
      (suc q.0, omega arith, omega (arith, o), q.2, q.3, q.4)
  parted (x ∷ xs) at (suc i) (suc k) a b st r h e f l m =
      let q = parted xs r.0 i k a b (subst (Stands t) (sym r.1.1) (solid_stands faces t w at x tree st r.1.0)) r.2 (omega arith) e f l m in
      let o = q.1 in
      let o' = q.2 in
      (suc q.0, omega (arith, o), omega (arith, o'), q.3, q.4, q.5)

pub parted_lines : HavePartedLines
parted_lines faces t w from xs tree holds r i k a b h e f l m = parted faces t w tree xs from i k a b (stands t from holds) r h e f l m
