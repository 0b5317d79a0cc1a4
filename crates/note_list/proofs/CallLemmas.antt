-- How many notes are called before a place.
use Rattle.std.proofs.Common.{◌≡◌, ℕ, zero, suc, ◌+◌, ◌-◌, ◌<◌, ◌≤◌, ⊎_elim, Bool, true, false, cond, List, [], ◌∷◌, Option, Some, option_map, length, map, get_or, slice_get, refl, sym, ap, ◌∙◌, subst, arith}
use Rattle.std.specs.List.{prefix_len}
use Rattle.std.specs.List.Sorted.{IsPartitionedBy}
use Rattle.std.proofs.lemmas.Bool.{cases_lt}
use Rattle.std.proofs.lemmas.List.Sums.{prefix_len-le-length, prefix_len_passes, prefix_len_stops}
use Rattle.std.proofs.lemmas.Option.{slice_get-get_or, slice_get-map, slice_get_within}
use Rattle.bk_num.proofs.ListLemmas.{slice_get_at}
use Rattle.boxes.specs.Tree.{Tree}
use Rattle.boxes.specs.declared.flow.Note.{Note}
use Rattle.boxes.specs.declared.place.Position.{Position}
use Rattle.page_seq.specs.Places.{NeverFall, anchor_of, is_before}
use Rattle.page_seq.proofs.PlaceLemmas.{anchor_lower, before_lower}
use Rattle.page_seq.proofs.FinderLemmas.{before_self, before_trans}
use Rattle.seams.specs.Runs.{is_solid_at, solid_after, solid_before}
use Rattle.seams.proofs.RunLemmas.{solid_step}
use Rattle.cursor.proofs.PartLemmas.{solid_itself}

-- ---- prefixes

pub prefix_step : {X : Type 0} (p : X → Bool) (xs : List X) (k : ℕ) (d : X) → k ≤ prefix_len p xs → k < length xs → p (get_or xs k d) ≡ true → k + 1 ≤ prefix_len p xs
prefix_step p xs k d low inside passes = ⊎_elim (λ (h : k < prefix_len p xs). let r = h in omega arith)
    (λ (h : prefix_len p xs ≤ k). absurd (
    let at : k ≡ prefix_len p xs = omega arith in
    let stops = prefix_len_stops p xs d (omega arith) in
    let f : true ≡ false = sym passes ∙ ap (λ (n : ℕ). p (get_or xs n d)) at ∙ stops in cc))
    (cases_lt k (prefix_len p xs))

pub prefix_stop : {X : Type 0} (p : X → Bool) (xs : List X) (k : ℕ) (d : X) → k ≤ prefix_len p xs → p (get_or xs k d) ≡ false → k ≡ prefix_len p xs
prefix_stop p xs k d low fails = ⊎_elim
    (λ (h : k < prefix_len p xs). absurd (let passes = prefix_len_passes p xs k d h in let f : true ≡ false = sym passes ∙ fails in cc))
    (λ (h : prefix_len p xs ≤ k). let e : k ≡ prefix_len p xs = omega arith in e)
    (cases_lt k (prefix_len p xs))

pub prefix_end : {X : Type 0} (p : X → Bool) (xs : List X) (k : ℕ) → k ≤ prefix_len p xs → length xs ≤ k → length xs ≡ prefix_len p xs
prefix_end p xs k low end = let high = prefix_len-le-length p xs in omega arith

pub prefix_at : {X : Type 0} (p : X → Bool) (xs : List X) (n : ℕ) → n ≤ length xs → ((k : ℕ) (d : X) → k < n → p (get_or xs k d) ≡ true) → ((k : ℕ) (d : X) → n ≤ k → k < length xs → p (get_or xs k d) ≡ false) → n ≡ prefix_len p xs
prefix_at p [] zero within before after = refl
prefix_at p [] (suc n) within before after = absurd (omega arith)
prefix_at p (x ∷ xs) zero within before after = let stop = after 0 x (omega arith) (omega arith) in ap (λ (b : Bool). cond b (1 + prefix_len p xs) 0) (sym stop)
prefix_at p (x ∷ xs) (suc n) within before after =
    let pass = before 0 x (omega arith) in
    let rest = prefix_at p xs n (omega arith) (λ k d l. before (suc k) d (omega arith)) (λ k d l m. after (suc k) d (omega arith) (omega arith)) in
    let own : suc n ≡ 1 + prefix_len p xs = omega arith in
    own ∙ ap (λ (b : Bool). cond b (1 + prefix_len p xs) 0) (sym pass)

-- ---- the order of places

pub never_fall : (places : List Position) → NeverFall places → (d i j : ℕ) (a b : Position) → i + d ≡ j → slice_get places i ≡ Some a → slice_get places j ≡ Some b → is_before b a ≡ false
never_fall places order zero i j a b n e f =
    let at : i ≡ j = omega arith in
    let same : a ≡ b = (let g : Some a ≡ Some b = sym e ∙ ap (slice_get places) at ∙ f in cc) in
    subst (λ (p : Position). is_before p a ≡ false) same (before_self a)
never_fall places order (suc d) i j a b n e f =
    let at : j ≡ suc (i + d) = omega arith in
    let w = slice_get_within places j b f in
    let c = slice_get_at places (i + d) (omega arith) in
    before_trans a c.0 b (never_fall places order d i (i + d) a c.0 refl e c.1) (order (i + d) c.0 b c.1 (ap (slice_get places) (sym at) ∙ f))

-- the notes that are called before a place come first
pub calls_part : (t : Tree) (notes : List Note) (end : Position) → NeverFall (map (λ n. n.call) notes) → IsPartitionedBy (λ n. is_before (anchor_of t n.call) end) notes
calls_part t notes end order i j d low inside passes =
    let x : Note = get_or notes i d in
    let y : Note = get_or notes j d in
    let first : slice_get (map (λ n. n.call) notes) i ≡ Some x.call = slice_get-map (λ (n : Note). n.call) notes i ∙ ap (option_map (λ (n : Note). n.call)) (slice_get-get_or notes i d (omega arith)) in
    let later : slice_get (map (λ n. n.call) notes) j ≡ Some y.call = slice_get-map (λ (n : Note). n.call) notes j ∙ ap (option_map (λ (n : Note). n.call)) (slice_get-get_or notes j d inside) in
    before_lower (anchor_of t x.call) (anchor_of t y.call) end (anchor_lower t x.call y.call (never_fall (map (λ n. n.call) notes) order (j - i) i j x.call y.call (omega arith) first later)) passes

-- ---- the solid before an event

-- no solid stands between two events where the first one from there on isn't before the second
pub none_between : (t : Tree) (d at to : ℕ) (o : Option ℕ) → at + d ≡ to → to ≤ length t.events → solid_after t at ≡ o → ((e : ℕ) → o ≡ Some e → to ≤ e) → solid_before t to ≡ solid_before t at
none_between t zero at to o e within found none = ap (solid_before t) (omega arith)
none_between t (suc d) at to o e within found none = by (is_solid_at t.boxes (slice_get t.events at)) refl (λ f. none_between t d (suc at) to o (omega arith) within f none)
  where
    by : (b : Bool) → is_solid_at t.boxes (slice_get t.events at) ≡ b → (solid_after t (suc at) ≡ o → solid_before t to ≡ solid_before t (suc at)) → solid_before t to ≡ solid_before t at
    by true is more = absurd (let low = none at (sym found ∙ solid_itself t at is) in omega arith)
    by false is more = more (sym (solid_step t at false (omega arith) is) ∙ found) ∙ ap (λ (b : Bool). cond b (Some at) (solid_before t at)) is
