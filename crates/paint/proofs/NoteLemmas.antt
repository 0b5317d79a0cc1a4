-- Notes that are painted one after another.
use Rattle.std.proofs.Common.{◌≡◌, ◌<◌, ◌-◌, ℕ, zero, suc, ◌+◌, List, [], ◌∷◌, ◌++◌, Option, None, Some, Bool, true, false, cond, ◌==◌, length, take, get_or, slice_get, refl, sym, ap, ap₂, ◌∙◌, subst, arith, append-nil, append_assoc}
use Rattle.std.specs.List.{flat_map, range_with_len}
use Rattle.std.proofs.lemmas.Bool.{eq-eqb, ne_eqb}
use Rattle.std.proofs.lemmas.Grind.{flat_map-append}
use Rattle.std.proofs.lemmas.List.{take_more}
use Rattle.bk_num.proofs.ListLemmas.{range-more}
use Rattle.metrics.specs.Face.{FontFace}
use Rattle.boxes.specs.Tree.{Tree, open_before}
use Rattle.boxes.specs.declared.flow.Note.{Note}
use Rattle.boxes.specs.declared.item.Item.{Item}
use Rattle.boxes.specs.declared.page.Placed.{Placed}
use Rattle.boxes.specs.declared.place.Event.{Event}
use Rattle.boxes.specs.declared.place.Event.TheVariants.{Opens, Closes, Leaf}
use Rattle.boxes.specs.declared.props.BoxProps.{BoxProps}
use Rattle.paint.specs.Groups.{GoesOn, IsPainted}
use Rattle.paint.specs.Items.{for_some}
use Rattle.paint.specs.Opens.{content_along}
use Rattle.paint.specs.Pages.{note_items, opened_rects, rects_at, rects_of, solids_of, tree_items}
use Rattle.paint.specs.Rects.{fragment_rects}
use Rattle.paint.specs.declared.item.SolidOrigin.{SolidOrigin}
use Rattle.boxes.specs.declared.span.Content.{Content}

-- ---- numbers in a row

flat_push : (g : ℕ → List Item) (n : ℕ) → flat_map g (range_with_len 0 (suc n)) ≡ flat_map g (range_with_len 0 n) ++ g n
flat_push g n =
    let e : 0 + n ≡ n = omega arith in
    ap (flat_map g) (range-more 0 n) ∙ flat_map-append g (range_with_len 0 n) ((0 + n) ∷ []) ∙ ap (λ (l : List Item). flat_map g (range_with_len 0 n) ++ l) (append-nil (g (0 + n)) ∙ ap g e)

-- nothing comes after a number
flat_to : (g : ℕ → List Item) (number k next : ℕ) → next ≡ suc number + k → ((n : ℕ) → number < n → g n ≡ []) → flat_map g (range_with_len 0 next) ≡ flat_map g (range_with_len 0 number) ++ g number
flat_to g number zero next is none = let e : next ≡ suc number = omega arith in ap (λ (n : ℕ). flat_map g (range_with_len 0 n)) e ∙ flat_push g number
flat_to g number (suc k) next is none =
    let last : ℕ = suc number + k in
    let e : next ≡ suc last = omega arith in
    ap (λ (n : ℕ). flat_map g (range_with_len 0 n)) e ∙ flat_push g last ∙ ap (λ (l : List Item). flat_map g (range_with_len 0 last) ++ l) (none last (omega arith)) ∙ append-nil _ ∙ flat_to g number k last refl none

flat_same : (f g : ℕ → List Item) (a n : ℕ) → ((k : ℕ) → k < a + n → f k ≡ g k) → flat_map f (range_with_len a n) ≡ flat_map g (range_with_len a n)
flat_same f g a zero same = refl
flat_same f g a (suc n) same = ap₂ (λ (x y : List Item). x ++ y) (same a (omega arith)) (flat_same f g (a + 1) n (λ k low. same k (omega arith)))

-- ---- nothing is painted of a tree without solids

none_for : (o : SolidOrigin) (c : Content) (p : Option BoxProps) → for_some (λ (q : BoxProps). fragment_rects o q c None None None) p ≡ []
unfolding fragment_rects
none_for o c None = refl
none_for o c (Some q) = refl

none_at : (t : Tree) (o : SolidOrigin) (k : ℕ) → rects_at t o [] k ≡ []
none_at t o k = by (slice_get t.events k)
  where
    by : (e : Option Event) → opened_rects t o [] k e ≡ []
    by None = refl
    by (Some (Opens b)) = none_for o (content_along t o.width (open_before t.events k)) (slice_get t.boxes b)
    by (Some (Closes b)) = refl
    by (Some (Leaf l)) = refl

flat_none : (g : ℕ → List Item) (ns : List ℕ) → ((n : ℕ) → g n ≡ []) → flat_map g ns ≡ []
flat_none g [] none = refl
flat_none g (n ∷ ns) none = ap (λ (l : List Item). l ++ flat_map g ns) (none n) ∙ flat_none g ns none

none_painted : (faces : List FontFace) (t : Tree) (o : SolidOrigin) → tree_items faces t o [] ≡ []
unfolding rects_of
none_painted faces t o = append-nil (flat_map (rects_at t o []) (range_with_len 0 (length t.events))) ∙ flat_none (rects_at t o []) (range_with_len 0 (length t.events)) (none_at t o)

none_of : (faces : List FontFace) (o : SolidOrigin) (solids : List Placed) (note : Option Note) → solids ≡ [] → for_some (λ (n : Note). tree_items faces n.body o solids) note ≡ []
none_of faces o solids None is = refl
none_of faces o solids (Some n) is = ap (tree_items faces n.body o) is ∙ none_painted faces n.body o

-- ---- steps

pub painted_none : (faces : List FontFace) (all : List Note) (o : SolidOrigin) (old : List Item) (solids : List Placed) → solids ≡ [] → IsPainted faces all o old [] old 0 solids
painted_none faces all o old solids is = record { items = sym (append-nil old); solids_are = is; none_later = λ n low. refl }

pub painted_to : (faces : List FontFace) (all : List Note) (o : SolidOrigin) (number next : ℕ) (items new : List Item) (solids kept : List Placed) → number < next →
    new ≡ items ++ for_some (λ (note : Note). tree_items faces note.body o solids) (slice_get all number) → kept ≡ [] → GoesOn faces all o items number solids new next kept
painted_to faces all o number next items new solids kept less new_is kept_is old placed p =
    let g : ℕ → List Item = note_items faces all o placed in
    let none : (n : ℕ) → number < n → note_items faces all o placed n ≡ [] = λ n low. none_of faces o (solids_of n placed) (slice_get all n) (p.none_later n low) in
    let this : for_some (λ (note : Note). tree_items faces note.body o solids) (slice_get all number) ≡ note_items faces all o placed number =
    ap (λ (ss : List Placed). for_some (λ (note : Note). tree_items faces note.body o ss) (slice_get all number)) p.solids_are in
    let before : List Item = flat_map (note_items faces all o placed) (range_with_len 0 number) in
    let far : next ≡ suc number + (next - suc number) = omega arith in
    record {
      items = new_is ∙ ap₂ (λ (x y : List Item). x ++ y) p.items this ∙ append_assoc old before (note_items faces all o placed number) ∙ ap (λ (l : List Item). old ++ l) (sym (flat_to (note_items faces all o placed) number (next - suc number) next far none));
      solids_are = kept_is ∙ sym (p.none_later next less);
      none_later = λ n low. p.none_later n (omega arith);
    }

solids_more : (k n : ℕ) (s : Placed) (placed : List (ℕ × Placed)) → solids_of k (placed ++ (n, s) ∷ []) ≡ solids_of k placed ++ cond (n == k) (s ∷ []) []
solids_more k n s [] = refl
solids_more k n s ((m, r) ∷ placed) = ap (λ (l : List Placed). cond (m == k) (r ∷ l) l) (solids_more k n s placed) ∙ by (m == k) (solids_of k placed) (cond (n == k) (s ∷ []) [])
  where
    by : (b : Bool) (xs ys : List Placed) → cond b (r ∷ (xs ++ ys)) (xs ++ ys) ≡ cond b (r ∷ xs) xs ++ ys
    by true xs ys = refl
    by false xs ys = refl

solids_other : (k n : ℕ) (s : Placed) (placed : List (ℕ × Placed)) → (n ≡ k → ⊥) → solids_of k (placed ++ (n, s) ∷ []) ≡ solids_of k placed
solids_other k n s placed other = solids_more k n s placed ∙ ap (λ (b : Bool). solids_of k placed ++ cond b (s ∷ []) []) (ne_eqb n k other) ∙ append-nil (solids_of k placed)

-- a solid more of the note
pub painted_more : (faces : List FontFace) (all : List Note) (o : SolidOrigin) (old items : List Item) (placed : List (ℕ × Placed)) (n : ℕ) (s : Placed) (solids : List Placed) → IsPainted faces all o old placed items n solids → IsPainted faces all o old (placed ++ (n, s) ∷ []) items n (solids ++ s ∷ [])
painted_more faces all o old items placed n s solids p = record {
  items = p.items ∙ ap (λ (l : List Item). old ++ l) (flat_same (note_items faces all o placed) (note_items faces all o (placed ++ (n, s) ∷ [])) 0 n same);
  solids_are = ap (λ (l : List Placed). l ++ s ∷ []) p.solids_are ∙ sym (solids_more n n s placed ∙ ap (λ (b : Bool). solids_of n placed ++ cond b (s ∷ []) []) (eq-eqb n n refl));
  none_later = λ k low. solids_other k n s placed (λ e. omega arith) ∙ p.none_later k low;
}
  where
    same : (k : ℕ) → k < 0 + n → note_items faces all o placed k ≡ note_items faces all o (placed ++ (n, s) ∷ []) k
    same k low = ap (λ (ss : List Placed). for_some (λ (note : Note). tree_items faces note.body o ss) (slice_get all k)) (sym (solids_other k n s placed (λ e. omega arith)))

-- a step of a walk over placed notes: a turn to the note of a solid, which is then among those that are known
pub painted_step : (faces : List FontFace) (all : List Note) (o : SolidOrigin) (old items new : List Item) (placed : List (ℕ × Placed)) (i : ℕ) (d : ℕ × Placed) (number next : ℕ) (solids kept more : List Placed) → i < length placed →
    IsPainted faces all o old (take i placed) items number solids → GoesOn faces all o items number solids new next kept → next ≡ (get_or placed i d).0 → more ≡ kept ++ (get_or placed i d).1 ∷ [] → IsPainted faces all o old (take (i + 1) placed) new next more
painted_step faces all o old items new placed i d number next solids kept more low p goes next_is more_is =
    let x : ℕ × Placed = get_or placed i d in
    let turned : IsPainted faces all o old (take i placed) new x.0 kept = subst (λ (n : ℕ). IsPainted faces all o old (take i placed) new n kept) next_is (goes old (take i placed) p) in
    let added : IsPainted faces all o old (take i placed ++ x ∷ []) new x.0 (kept ++ x.1 ∷ []) = painted_more faces all o old new (take i placed) x.0 x.1 kept turned in
    rw (take_more placed i d low) (subst (λ (n : ℕ). IsPainted faces all o old (take i placed ++ x ∷ []) new n more) (sym next_is) (subst (λ (ss : List Placed). IsPainted faces all o old (take i placed ++ x ∷ []) new x.0 ss) (sym more_is) added))
