-- rows whose empty ones are those of no name
use Rattle.std.proofs.Common.{◌≡◌, ℕ, List, [], ◌∷◌, ◌++◌, Bor, Option, None, Some, option_map, map, slice_get, refl, sym, ◌∙◌, ap}
use Rattle.std.specs.Option.{option_or}
use Rattle.std.proofs.lemmas.List.{map-append}
use Rattle.std.proofs.lemmas.Option.{slice_get-map}
use Rattle.bk_num.specs.declared.ids.NameId.{NameId}
use Rattle.boxes.specs.Table.{row_of}
use Rattle.page_ctx.specs.Margins.{filled, found_cells, or_cells}

or-self : {A : Type 0} (cells : List A) → or_cells cells cells ≡ cells
or-self [] = refl
or-self (c ∷ cells) = refl

-- one more row
pub filled-more : {A : Type 0} (rows : List (List A)) (base x y : List A) → slice_get rows 0 ≡ Some base → or_cells base x ≡ y → filled (rows ++ x ∷ []) ≡ filled rows ++ y ∷ []
filled-more [] base x y e f = cc
filled-more (r ∷ rows) base x y e f =
    let same : r ≡ base = cc in
    map-append (or_cells r) (r ∷ rows) (x ∷ []) ∙ ap (λ z. map (or_cells r) (r ∷ rows) ++ z ∷ []) (ap (λ z. or_cells z x) same ∙ f)

at-filled : {A : Type 0} (rows : List (List A)) (base : List A) (number : ℕ) → slice_get rows 0 ≡ Some base → slice_get (filled rows) number ≡ option_map (or_cells base) (slice_get rows number)
at-filled [] base number e = cc
at-filled (r ∷ rows) base number e = let same : r ≡ base = cc in slice_get-map (or_cells r) (r ∷ rows) number ∙ ap (λ z. option_map (or_cells z) (slice_get (r ∷ rows) number)) same

by-found : {A : Type 0} (rows : List (List A)) (name : NameId) (first : Option (List A)) → slice_get rows 0 ≡ first → (cells : Option (List A)) → slice_get rows name.0 ≡ cells → found_cells first cells ≡ row_of (filled rows) name
by-found [] name None e cells f = refl
by-found (r ∷ rows) name None e cells f = cc
by-found rows name (Some base) e None f = sym (ap (λ o. option_or o (slice_get (filled rows) 0)) (at-filled rows base name.0 e ∙ ap (option_map (or_cells base)) f) ∙ at-filled rows base 0 e ∙ ap (option_map (or_cells base)) e ∙ ap (λ z. Some z) (or-self base))
by-found rows name (Some base) e (Some cells) f = sym (ap (λ o. option_or o (slice_get (filled rows) 0)) (at-filled rows base name.0 e ∙ ap (option_map (or_cells base)) f))

-- the cells of a name are found by two numbers
pub are-found : {A : Type 0} (rows : List (List A)) (name : NameId) → found_cells (slice_get rows 0) (slice_get rows name.0) ≡ row_of (filled rows) name
are-found rows name = by-found rows name (slice_get rows 0) refl (slice_get rows name.0) refl

-- what is found, as contracts see it
pub seen : {X Y : Type 0} (h : X → Y) (o : Option (Bor X)) (rows : List X) (number : ℕ) → option_map (λ c. c.now) o ≡ slice_get rows number → option_map (λ c. h c.now) o ≡ slice_get (map h rows) number
seen {X} h o rows number e = by o ∙ ap (option_map h) e ∙ sym (slice_get-map h rows number)
  where
    by : (q : Option (Bor X)) → option_map (λ c. h c.now) q ≡ option_map h (option_map (λ c. c.now) q)
    by None = refl
    by (Some c) = refl
