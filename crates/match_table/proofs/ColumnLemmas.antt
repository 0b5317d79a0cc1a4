-- What reaches a node, by the cells of its parent and of the element sibling before it.
use Rattle.std.proofs.Common.{◌≡◌, ◌↔◌, ℕ, zero, suc, Bool, true, false, ◌&&◌, ◌||◌, Some, None, Option, refl, sym, ◌∙◌, ap, subst, ◌⊎◌, inl, inr, List, ◌++◌, ◌∷◌, [], length, option_map, IfNone, IfSome}
use Rattle.bk_num.proofs.ListLemmas.{get-push}
use Rattle.std.proofs.lemmas.Option.{same_Some}
use Rattle.std.specs.Prelude.{slice_get}
use Rattle.std.proofs.lemmas.Bool.{and_parts, and_from, or_cases, or_left, or_right}
use Rattle.selectors.specs.declared.types.Join.{Join}
use Rattle.selectors.specs.declared.types.Join.TheVariants.{Child, Inside, Next, Later}
use Rattle.bk_num.specs.declared.ids.NodeId.{NodeId}
use Rattle.match_table.specs.declared.columns.Cell.{Cell}
use Rattle.selectors.specs.Walk.{prev_element}
use Rattle.selectors.specs.Sets.{has}
use Rattle.selectors.specs.Selectors.{SelectorView}
use Rattle.selectors.specs.Match.{Tree, parent_of, IsAbove, nearest, further, IsEarlier, just_before, long_before, fits, Reaches, Stands, StandBy, joins_by}
use Rattle.match_table.specs.Columns.{ReachFrom, IsCell, AreCells}
use Rattle.selectors.proofs.SetLemmas.{has_none}
use Rattle.selectors.proofs.Pending.{joins_is, joined_by, no_above, above_step, no_earlier, earlier_step}

-- ---- the nodes that a node lies in

abbrev pub IsOuter : Tree → SelectorView → ℕ → Cell → Type 0
IsOuter dom s n c = ((parent_of dom n ≡ None) × (c.reach ≡ 0) × (c.above ≡ 0)) ⊎ ((p : ℕ) × (parent_of dom n ≡ Some p) × IsCell dom s p c)

pub child-is : (dom : Tree) (s : SelectorView) (n : ℕ) (c : Cell) (k : ℕ) → IsOuter dom s n c → (has c.reach k ≡ true) ↔ ReachFrom dom s (λ m. Stands dom Child m n) k
child-is dom s n c k (inl (none, reach, above)) = (λ h. absurd (let f : true ≡ false = sym h ∙ ap (λ x. has x k) reach ∙ has_none k in cc), λ r. absurd (let f : ◌≡◌ {A = Option ℕ} None (Some r.0) = sym none ∙ r.1 in cc))
child-is dom s n c k (inr (p, at, is)) = (λ h. (p, at, (is.reach k).0 h), λ r. (is.reach k).1 (subst (λ m. Reaches dom s k m) (same_Some r.0 p (sym r.1 ∙ at)) r.2))

pub inside-is : (dom : Tree) (s : SelectorView) (n : ℕ) (c : Cell) (k : ℕ) (above : ℕ) → has above k ≡ (has c.above k || has c.reach k) → IsOuter dom s n c → (has above k ≡ true) ↔ ReachFrom dom s (λ m. IsAbove dom m n) k
inside-is dom s n c k above union (inl (none, reach, empty)) =
    (λ h. absurd (let f : true ≡ false = sym h ∙ union ∙ rw (empty, reach, has_none k) refl in cc), λ r. absurd (no_above dom r.0 n none r.1))
inside-is dom s n c k above union (inr (p, at, is)) = (there, back)
  where
    there : has above k ≡ true → ReachFrom dom s (λ m. IsAbove dom m n) k
    there h = elim (or_cases (has c.above k) (has c.reach k) (sym union ∙ h)) [
      | inl a ↦ (let r = (is.above k).0 a in (r.0, further p at r.1, r.2))
      | inr b ↦ (p, nearest at, (is.reach k).0 b)
    ]

    back : ReachFrom dom s (λ m. IsAbove dom m n) k → has above k ≡ true
    back (m, a, r) = union ∙ (elim (above_step dom m n p at a) [
      | inl e ↦ or_right (has c.above k) (has c.reach k) ((is.reach k).1 (subst (λ x. Reaches dom s k x) e r))
      | inr b ↦ or_left (has c.above k) (has c.reach k) ((is.above k).1 (m, b, r))
    ])

-- ---- the element siblings before a node

abbrev pub IsBeside : Tree → SelectorView → ℕ → Cell → Type 0
IsBeside dom s n c = ((prev_element dom n ≡ None) × (c.reach ≡ 0) × (c.before ≡ 0)) ⊎ ((p : ℕ) × (prev_element dom n ≡ Some p) × IsCell dom s p c)

pub next-is : (dom : Tree) (s : SelectorView) (n : ℕ) (c : Cell) (k : ℕ) → IsBeside dom s n c → (has c.reach k ≡ true) ↔ ReachFrom dom s (λ m. Stands dom Next m n) k
next-is dom s n c k (inl (none, reach, before)) = (λ h. absurd (let f : true ≡ false = sym h ∙ ap (λ x. has x k) reach ∙ has_none k in cc), λ r. absurd (let f : ◌≡◌ {A = Option ℕ} None (Some r.0) = sym none ∙ r.1 in cc))
next-is dom s n c k (inr (p, at, is)) = (λ h. (p, at, (is.reach k).0 h), λ r. (is.reach k).1 (subst (λ m. Reaches dom s k m) (same_Some r.0 p (sym r.1 ∙ at)) r.2))

pub later-is : (dom : Tree) (s : SelectorView) (n : ℕ) (c : Cell) (k : ℕ) (before : ℕ) → has before k ≡ (has c.before k || has c.reach k) → IsBeside dom s n c → (has before k ≡ true) ↔ ReachFrom dom s (λ m. IsEarlier dom m n) k
later-is dom s n c k before union (inl (none, reach, empty)) =
    (λ h. absurd (let f : true ≡ false = sym h ∙ union ∙ rw (empty, reach, has_none k) refl in cc), λ r. absurd (no_earlier dom r.0 n none r.1))
later-is dom s n c k before union (inr (p, at, is)) = (there, back)
  where
    there : has before k ≡ true → ReachFrom dom s (λ m. IsEarlier dom m n) k
    there h = elim (or_cases (has c.before k) (has c.reach k) (sym union ∙ h)) [
      | inl a ↦ (let r = (is.before k).0 a in (r.0, long_before p at r.1, r.2))
      | inr b ↦ (p, just_before at, (is.reach k).0 b)
    ]

    back : ReachFrom dom s (λ m. IsEarlier dom m n) k → has before k ≡ true
    back (m, a, r) = union ∙ (elim (earlier_step dom m n p at a) [
      | inl e ↦ or_right (has c.before k) (has c.reach k) ((is.reach k).1 (subst (λ x. Reaches dom s k x) e r))
      | inr b ↦ or_left (has c.before k) (has c.reach k) ((is.before k).1 (m, b, r))
    ])

-- ---- what reaches a node

pub record IsWanted (dom : Tree) (s : SelectorView) (n : ℕ) (found : Join → ℕ → Bool) (wanted : ℕ → Bool) : Type 0 where
  pub sets : (j : Join) (k : ℕ) → (found j k ≡ true) ↔ ReachFrom dom s (λ m. Stands dom j m n) k
  pub first : wanted 0 ≡ true
  pub some : (k : ℕ) → wanted (suc k) ≡ true → (j : Join) × (joins_by s j k ≡ true) × (found j k ≡ true)
  pub all : (j : Join) (k : ℕ) → joins_by s j k ≡ true → found j k ≡ true → wanted (suc k) ≡ true

pub reach-is : (dom : Tree) (s : SelectorView) (n : ℕ) (found : Join → ℕ → Bool) (wanted reach : ℕ → Bool) → IsWanted dom s n found wanted → ((k : ℕ) → reach k ≡ (wanted k && fits dom s k n)) → (k : ℕ) → (reach k ≡ true) ↔ Reaches dom s k n
reach-is dom s n found wanted reach w is zero = (λ h. (and_parts (wanted 0) (fits dom s 0 n) (sym (is 0) ∙ h)).1, λ r. is 0 ∙ and_from (wanted 0) (fits dom s 0 n) w.first r)
reach-is dom s n found wanted reach w is (suc k) = (there, back)
  where
    there : reach (suc k) ≡ true → Reaches dom s (suc k) n
    there h =
        let b = and_parts (wanted (suc k)) (fits dom s (suc k) n) (sym (is (suc k)) ∙ h) in
        let f = w.some k b.0 in
        let r = (w.sets f.0 k).0 f.2 in
        (b.1, (r.0, subst (λ o. StandBy dom o r.0 n) (sym (joined_by s f.0 k f.1)) r.1, r.2))

    by : (o : Option Join) → slice_get s.joins k ≡ o → (m : ℕ) → StandBy dom o m n → Reaches dom s k m → wanted (suc k) ≡ true
    by None at m stands r = absurd stands
    by (Some j) at m stands r = w.all j k (joins_is s j k at) ((w.sets j k).1 (m, stands, r))

    back : Reaches dom s (suc k) n → reach (suc k) ≡ true
    back (fit, (m, stands, r)) = is (suc k) ∙ and_from (wanted (suc k)) (fits dom s (suc k) n) (by (slice_get s.joins k) refl m stands r) fit

-- the found sets by joins
abbrev pub by_join : (ℕ → Bool) → (ℕ → Bool) → (ℕ → Bool) → (ℕ → Bool) → Join → ℕ → Bool
by_join child inside next later Child k = child k
by_join child inside next later Inside k = inside k
by_join child inside next later Next k = next k
by_join child inside next later Later k = later k

pub wanted-is : (dom : Tree) (s : SelectorView) (n : ℕ) (child inside next later wanted : ℕ → Bool)
    → ((k : ℕ) → (child k ≡ true) ↔ ReachFrom dom s (λ m. Stands dom Child m n) k)
    → ((k : ℕ) → (inside k ≡ true) ↔ ReachFrom dom s (λ m. Stands dom Inside m n) k)
    → ((k : ℕ) → (next k ≡ true) ↔ ReachFrom dom s (λ m. Stands dom Next m n) k)
    → ((k : ℕ) → (later k ≡ true) ↔ ReachFrom dom s (λ m. Stands dom Later m n) k)
    → wanted 0 ≡ true
    → ((k : ℕ) → wanted (suc k) ≡ (((joins_by s Child k && child k) || (joins_by s Inside k && inside k)) || ((joins_by s Next k && next k) || (joins_by s Later k && later k))))
    → IsWanted dom s n (by_join child inside next later) wanted
wanted-is dom s n child inside next later wanted c i x l first is = record { sets = sets; first = first; some = some; all = all }
  where
    sets : (j : Join) (k : ℕ) → (by_join child inside next later j k ≡ true) ↔ ReachFrom dom s (λ m. Stands dom j m n) k
    sets Child k = c k
    sets Inside k = i k
    sets Next k = x k
    sets Later k = l k

    some : (k : ℕ) → wanted (suc k) ≡ true → (j : Join) × (joins_by s j k ≡ true) × (by_join child inside next later j k ≡ true)
    some k h = elim (or_cases ((joins_by s Child k && child k) || (joins_by s Inside k && inside k)) ((joins_by s Next k && next k) || (joins_by s Later k && later k)) (sym (is k) ∙ h)) [
      | inl v ↦ (elim (or_cases (joins_by s Child k && child k) (joins_by s Inside k && inside k) v) [
        | inl a ↦ (let p = and_parts (joins_by s Child k) (child k) a in (Child, p.0, p.1))
        | inr a ↦ (let p = and_parts (joins_by s Inside k) (inside k) a in (Inside, p.0, p.1))
      ])
      | inr v ↦ (elim (or_cases (joins_by s Next k && next k) (joins_by s Later k && later k) v) [
        | inl a ↦ (let p = and_parts (joins_by s Next k) (next k) a in (Next, p.0, p.1))
        | inr a ↦ (let p = and_parts (joins_by s Later k) (later k) a in (Later, p.0, p.1))
      ])
    ]

    all : (j : Join) (k : ℕ) → joins_by s j k ≡ true → by_join child inside next later j k ≡ true → wanted (suc k) ≡ true
    all Child k a b = is k ∙ or_left ((joins_by s Child k && child k) || (joins_by s Inside k && inside k)) ((joins_by s Next k && next k) || (joins_by s Later k && later k)) (or_left (joins_by s Child k && child k) (joins_by s Inside k && inside k) (and_from (joins_by s Child k) (child k) a b))
    all Inside k a b = is k ∙ or_left ((joins_by s Child k && child k) || (joins_by s Inside k && inside k)) ((joins_by s Next k && next k) || (joins_by s Later k && later k)) (or_right (joins_by s Child k && child k) (joins_by s Inside k && inside k) (and_from (joins_by s Inside k) (inside k) a b))
    all Next k a b = is k ∙ or_right ((joins_by s Child k && child k) || (joins_by s Inside k && inside k)) ((joins_by s Next k && next k) || (joins_by s Later k && later k)) (or_left (joins_by s Next k && next k) (joins_by s Later k && later k) (and_from (joins_by s Next k) (next k) a b))
    all Later k a b = is k ∙ or_right ((joins_by s Child k && child k) || (joins_by s Inside k && inside k)) ((joins_by s Next k && next k) || (joins_by s Later k && later k)) (or_right (joins_by s Next k && next k) (joins_by s Later k && later k) (and_from (joins_by s Later k) (later k) a b))

-- ---- the cells of the parent and of the sibling

pub outer-from : (dom : Tree) (s : SelectorView) (cells : List Cell) (n : ℕ) (o : Option NodeId) (c : Cell) → AreCells dom s cells → option_map (λ k. k.0) o ≡ parent_of dom n → IfNone o (c ≡ record { reach = 0; above = 0; before = 0 }) → IfSome o (λ p. slice_get cells p.0 ≡ Some c) → IsOuter dom s n c
outer-from dom s cells n None c are at none some = inl (sym at, ap (λ (x : Cell). x.reach) none, ap (λ (x : Cell). x.above) none)
outer-from dom s cells n (Some p) c are at none some = inr (p.0, sym at, are p.0 c some)

pub beside-from : (dom : Tree) (s : SelectorView) (cells : List Cell) (n : ℕ) (o : Option NodeId) (c : Cell) → AreCells dom s cells → option_map (λ k. k.0) o ≡ prev_element dom n → IfNone o (c ≡ record { reach = 0; above = 0; before = 0 }) → IfSome o (λ p. slice_get cells p.0 ≡ Some c) → IsBeside dom s n c
beside-from dom s cells n None c are at none some = inl (sym at, ap (λ (x : Cell). x.reach) none, ap (λ (x : Cell). x.before) none)
beside-from dom s cells n (Some p) c are at none some = inr (p.0, sym at, are p.0 c some)

pub cells-push : (dom : Tree) (s : SelectorView) (cells : List Cell) (c : Cell) (n : ℕ) → length cells ≡ n → AreCells dom s cells → IsCell dom s n c → AreCells dom s (cells ++ c ∷ [])
cells-push dom s cells c n len are is m d g = by (get-push cells c d m g)
  where
    by : (((m ≡ length cells) × (d ≡ c)) ⊎ (slice_get cells m ≡ Some d)) → IsCell dom s m d
    by (inl (e, v)) = subst (λ x. IsCell dom s x d) (sym (e ∙ len)) (subst (IsCell dom s n) (sym v) is)
    by (inr h) = are m d h
