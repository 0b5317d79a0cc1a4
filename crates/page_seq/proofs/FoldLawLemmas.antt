-- Folded lists hold all that their frames do.
use Rattle.std.proofs.Common.{◌≡◌, ◌<◌, ◌≤◌, ◌+◌, ◌-◌, ◌*◌, ◌%◌, ℕ, zero, suc, List, [], ◌∷◌, ◌++◌, length, take, drop, refl, sym, ap, subst, ◌∙◌, append_assoc, append-nil, arith, mul-le-mul_left, max}
use Rattle.std.specs.List.{flat_map, range_with_len}
use Rattle.std.proofs.lemmas.Grind.{flat_map-append}
use Rattle.std.proofs.lemmas.List.{drop-drop, drop_all, take-append-drop, length-append, length-take, length-drop}
use Rattle.std.proofs.Math.Nat.{div-add-mod'}
use Rattle.std.proofs.lemmas.Nat.{mod_below}
use Rattle.boxes.specs.Frames.{page_at}
use Rattle.boxes.specs.declared.page.Page.{Page}
use Rattle.page_seq.specs.Folds.{frames_on, joined_at, page_of_frames}
use Rattle.page_seq.specs.FoldLaws.{AreNumbered, FoldsKeepAll, OneIsAPage}

module _ (per : ℕ) (frames : List Page) where
  abbrev page_in : ℕ → List Page
  page_in place = page_of_frames (suc place) (frames_on per frames place)

  -- the pages from one on
  abbrev pages_from : ℕ → ℕ → List Page
  pages_from a n = flat_map page_in (range_with_len a n)

  -- what a page holds is what its frames do
  part : {A : Type 0} (f : Page → List A) → ((index : ℕ) (first : Page) (fs : List Page) → f (joined_at index first fs) ≡ flat_map f fs) → (place : ℕ) → flat_map f (page_in place) ≡ flat_map f (frames_on per frames place)
  part f is place = by (frames_on per frames place)
    where
      by : (fs : List Page) → flat_map f (page_of_frames (suc place) fs) ≡ flat_map f fs
      by [] = refl
      by (p ∷ fs) = append-nil (f (joined_at (suc place) p (p ∷ fs))) ∙ is (suc place) p (p ∷ fs)

  -- frames up to one, and those of the next page
  next_frames : (place : ℕ) → drop (per * place) frames ≡ frames_on per frames place ++ drop (per * (place + 1)) frames
  next_frames place = sym (take-append-drop per (drop (per * place) frames)) ∙ ap (λ (l : List Page). frames_on per frames place ++ l) (drop-drop per (per * place) frames ∙ ap (λ (k : ℕ). drop k frames) more)
    where
      more : per * place + per ≡ per * (place + 1)
      more = grind arith

  module _ {A : Type 0} (f : Page → List A) (is : (index : ℕ) (first : Page) (fs : List Page) → f (joined_at index first fs) ≡ flat_map f fs) where
    -- what the pages from one on hold, and the frames behind them
    parts_from : (a n : ℕ) → flat_map f (pages_from a n) ++ flat_map f (drop (per * (a + n)) frames) ≡ flat_map f (drop (per * a) frames)
    parts_from a zero = let e : a + zero ≡ a = omega arith in ap (λ k. flat_map f (drop (per * k) frames)) e
    parts_from a (suc n) =
        let e : (a + 1) + n ≡ a + suc n = omega arith in
        ap (λ (l : List A). l ++ flat_map f (drop (per * (a + suc n)) frames)) (flat_map-append f (page_in a) (pages_from (a + 1) n))
        ∙ append_assoc (flat_map f (page_in a)) (flat_map f (pages_from (a + 1) n)) (flat_map f (drop (per * (a + suc n)) frames))
        ∙ ap (λ k. flat_map f (page_in a) ++ (flat_map f (pages_from (a + 1) n) ++ flat_map f (drop (per * k) frames))) (sym e)
        ∙ ap (λ (l : List A). flat_map f (page_in a) ++ l) (parts_from (a + 1) n)
        ∙ ap (λ (l : List A). l ++ flat_map f (drop (per * (a + 1)) frames)) (part f is a)
        ∙ sym (flat_map-append f (frames_on per frames a) (drop (per * (a + 1)) frames))
        ∙ ap (flat_map f) (sym (next_frames a))

    pub all_parts : (n : ℕ) → length frames ≤ per * n → flat_map f (pages_from 0 n) ≡ flat_map f frames
    all_parts n all =
        let e : 0 + n ≡ n = omega arith in
        let none : per * 0 ≡ 0 = omega arith in
        let rest : drop (per * (0 + n)) frames ≡ [] = ap (λ k. drop (per * k) frames) e ∙ drop_all (per * n) frames all in
        sym (append-nil (flat_map f (pages_from 0 n))) ∙ ap (λ (l : List Page). flat_map f (pages_from 0 n) ++ flat_map f l) (sym rest) ∙ parts_from 0 n ∙ ap (λ k. flat_map f (drop k frames)) none

  one_each : (place : ℕ) → 0 < per → per * place < length frames → length (page_in place) ≡ 1
  one_each place some less = by (frames_on per frames place) (omega (arith, length-take per (drop (per * place) frames), length-drop (per * place) frames))
    where
      by : (fs : List Page) → 0 < length fs → length (page_of_frames (suc place) fs) ≡ 1
      by [] h = absurd (omega arith)
      by (p ∷ fs) h = refl

  pub count_from : 0 < per → (a n : ℕ) → ((k : ℕ) → k < a + n → per * k < length frames) → length (pages_from a n) ≡ n
  count_from some a zero less = refl
  count_from some a (suc n) less =
      let here = one_each a some (less a (omega arith)) in
      let rest = count_from some (a + 1) n (λ k h. less k (omega arith)) in
      length-append (page_in a) (pages_from (a + 1) n) ∙ omega arith

-- so many pages hold all frames, and no page is empty
page_bounds : (per n : ℕ) → 0 < per → (n ≤ per * page_at per n) × ((k : ℕ) → k < page_at per n → per * k < n)
page_bounds per n some =
    let whole : page_at per n * per + (n + (per - 1)) % per ≡ n + (per - 1) = div-add-mod' (n + (per - 1)) per in
    let small = mod_below (n + (per - 1)) per some in
    let turn : page_at per n * per ≡ per * page_at per n = grind arith in (
      omega arith,
      λ k h. let more : per * (k + 1) ≤ per * page_at per n = mul-le-mul_left per (omega arith) in let sum : per * (k + 1) ≡ per * k + per = grind arith in omega arith,
    )

pub folds_keep_all : FoldsKeepAll
folds_keep_all per frames is =
    let low = is.low in
    let bounds = page_bounds per (length frames) (omega arith) in record {
      solids = all_parts per frames (λ p. p.solids) (λ index first fs. refl) (page_at per (length frames)) bounds.0;
      notes = all_parts per frames (λ p. p.notes) (λ index first fs. refl) (page_at per (length frames)) bounds.0;
      count = count_from per frames (omega arith) 0 (page_at per (length frames)) (λ k h. bounds.1 k (omega arith));
    }

-- ---- one frame on each page

one_frame : (index : ℕ) (p : Page) → p.index ≡ index → joined_at index p (p ∷ []) ≡ p
one_frame index p is = let level : max p.level 0 ≡ p.level = omega arith in rw (append-nil p.solids, append-nil p.notes, level, ← is) refl

ones_from : (frames : List Page) (a : ℕ) (fs : List Page) → drop (1 * a) frames ≡ fs → AreNumbered (suc a) fs → pages_from 1 frames a (length fs) ≡ fs
ones_from frames a [] there numbered = refl
ones_from frames a (p ∷ fs) there numbered =
    let here : frames_on 1 frames a ≡ p ∷ [] = ap (λ (l : List Page). take 1 l) there in
    let page : page_in 1 frames a ≡ p ∷ [] = ap (λ (l : List Page). page_of_frames (suc a) l) here ∙ ap (λ (q : Page). q ∷ []) (one_frame (suc a) p numbered.0) in
    let next : 1 * a + 1 ≡ 1 * (a + 1) = omega arith in
    let rest : drop (1 * (a + 1)) frames ≡ fs = ap (λ k. drop k frames) (sym next) ∙ sym (drop-drop 1 (1 * a) frames) ∙ ap (λ (l : List Page). drop 1 l) there in
    let more : suc (a + 1) ≡ suc (suc a) = omega arith in
    ap (λ (l : List Page). l ++ pages_from 1 frames (a + 1) (length fs)) page ∙ ap (λ (l : List Page). p ∷ l) (ones_from frames (a + 1) fs rest (subst (λ k. AreNumbered k fs) (sym more) numbered.1))

pub one_is_a_page : OneIsAPage
one_is_a_page frames numbered =
    let count : page_at 1 (length frames) ≡ length frames = grind arith in
    ap (λ n. pages_from 1 frames 0 n) count ∙ ones_from frames 0 frames refl numbered
