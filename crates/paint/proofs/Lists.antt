-- Items that are added at a list's end.
use Rattle.std.proofs.Common.{◌≡◌, ◌∙◌, ◌+◌, ℕ, suc, ap, sym, subst, arith, Bool, true, cond, List, [], ◌∷◌, ◌++◌, append_assoc, Some, drop, map, slice_get}
use Rattle.std.proofs.lemmas.List.{map-append}
use Rattle.bk_num.proofs.ListLemmas.{drop-next}
use Rattle.metrics.specs.Face.{FontFace}
use Rattle.boxes.specs.declared.item.Item.{Item}
use Rattle.paint.specs.declared.item.ItemRef.{ItemRef}
use Rattle.paint.specs.Views.{item_of, items_in}

pub items_push : (faces : List FontFace) (xs : List ItemRef) (x : ItemRef) → items_in faces (xs ++ x ∷ []) ≡ items_in faces xs ++ item_of faces x ∷ []
items_push faces xs x = map-append (item_of faces) xs (x ∷ [])

-- an item was added
pub pushed : (faces : List FontFace) (old new : List ItemRef) (ok : Bool) (x : ItemRef) (i : Item) → new ≡ cond ok (old ++ x ∷ []) old → ok ≡ true → item_of faces x ≡ i → items_in faces new ≡ items_in faces old ++ i ∷ []
pushed faces old new ok x i items is same = ap (items_in faces) (items ∙ ap (λ (b : Bool). cond b (old ++ x ∷ []) old) is) ∙ items_push faces old x ∙ ap (λ (j : Item). items_in faces old ++ j ∷ []) same

-- what one more value of a list gives was added
pub more_pushed : {A B : Type 0} (f : A → B) (xs : List A) (k : ℕ) (x : A) (old new all : List B) → slice_get xs k ≡ Some x → new ≡ old ++ f x ∷ [] → old ++ map f (drop k xs) ≡ all → new ++ map f (drop (k + 1) xs) ≡ all
more_pushed f xs k x old new all there pushed before =
    let next : suc k ≡ k + 1 = omega arith in
    let rest : f x ∷ map f (drop (suc k) xs) ≡ map f (drop k xs) = sym (ap (map f) (drop-next xs k x there)) in
    subst (λ n. new ++ map f (drop n xs) ≡ all) next (ap (λ z. z ++ map f (drop (suc k) xs)) pushed ∙ append_assoc old (f x ∷ []) (map f (drop (suc k) xs)) ∙ ap (λ z. old ++ z) rest ∙ before)
