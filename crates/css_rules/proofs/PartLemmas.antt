-- Parts of a sheet, a token at a time.
use Rattle.std.proofs.Common.{◌≡◌, ℕ, ◌+◌, Bool, true, false, ◌||◌, ◌&&◌, ◌∙◌, length, cond, eqb, List, [], ◌∷◌, ◌++◌, map, refl, ap, sym, inl, inr, append_assoc, append-nil}
use Rattle.std.specs.Prelude.{if◌then◌else◌, ◌==◌}
use Rattle.std.specs.List.{prefix_len, list_any, list_all}
use Rattle.std.proofs.lemmas.List.{map-append}
use Rattle.std.proofs.lemmas.Bool.{cases_Bool, and_parts}
use Rattle.css_tok.specs.declared.tokens.CssToken.{CssToken}
use Rattle.css_tok.specs.Tokens.{Item, item_in}
use Rattle.css_rules.specs.declared.parts.Stop.{Stop}
use Rattle.css_rules.specs.declared.parts.Stop.TheVariants as stop
use Rattle.css_tok.specs.Marks.{mark, is_gap, is_gap_kind, first_mark, rest_of}
use Rattle.css_rules.specs.Brackets.{open_after, open_at, is_outside, is_closed}
use Rattle.css_rules.specs.Decls.{is_bad_kind}
use Rattle.css_rules.specs.Views.{items_in}
use Rattle.css_rules.specs.Parts.{ends, is_stop, front_from, after_from, parts_from, past_from, separator}

-- nothing is parted by a token without a mark
sep : (s : Stop) → eqb 0 (separator s) ≡ false
sep stop.Piece = refl
sep stop.BlockPiece = refl
sep stop.Prelude = refl
sep stop.InnerPrelude = refl
sep stop.AtRule = refl
sep stop.InnerAtRule = refl
sep stop.Comma = refl

-- one more token was passed
pub passed_push : (ts us vs : List Item) (found : List CssToken) (t : CssToken) → ts ≡ items_in found ++ us → us ≡ item_in t ∷ vs → ts ≡ items_in (found ++ t ∷ []) ++ vs
passed_push ts us vs found t is here =
    is ∙ ap (λ z. items_in found ++ z) here ∙ sym (ap (λ z. z ++ vs) (map-append item_in found (t ∷ [])) ∙ append_assoc (items_in found) (item_in t ∷ []) vs)

pub front_goes : (s : Stop) (open' : List ℕ) (found : List CssToken) (t : CssToken) (ts : List Item) → ends s open' (item_in t) ≡ false → items_in found ++ front_from s open' (item_in t ∷ ts) ≡ items_in (found ++ t ∷ []) ++ front_from s (open_after open' (item_in t)) ts
unfolding front_from
front_goes s open' found t ts inside = rw (inside, map-append item_in found (t ∷ [])) (sym (append_assoc (items_in found) (item_in t ∷ []) (front_from s (open_after open' (item_in t)) ts)))

pub front_stops : (s : Stop) (open' : List ℕ) (found : List CssToken) (t : CssToken) (ts : List Item) → ends s open' (item_in t) ≡ true → items_in found ++ front_from s open' (item_in t ∷ ts) ≡ items_in found
unfolding front_from
front_stops s open' found t ts stops = rw stops (append-nil (items_in found))

pub front_ends : (s : Stop) (open' : List ℕ) (found : List CssToken) → items_in found ++ front_from s open' [] ≡ items_in found
unfolding front_from
front_ends s open' found = append-nil (items_in found)

pub after_goes : (s : Stop) (open' : List ℕ) (t : CssToken) (ts : List Item) → ends s open' (item_in t) ≡ false → after_from s open' (item_in t ∷ ts) ≡ after_from s (open_after open' (item_in t)) ts
unfolding after_from
after_goes s open' t ts inside = rw inside

pub after_stops : (s : Stop) (open' : List ℕ) (t : CssToken) (ts : List Item) → ends s open' (item_in t) ≡ true → after_from s open' (item_in t ∷ ts) ≡ item_in t ∷ ts
unfolding after_from
after_stops s open' t ts stops = rw stops

pub after_ends : (s : Stop) (open' : List ℕ) → after_from s open' [] ≡ []
unfolding after_from
after_ends s open' = refl

pub first_mark_is : (t : Item) (ts : List Item) → first_mark (t ∷ ts) ≡ mark t
unfolding first_mark
first_mark_is t ts = refl

pub first_mark_none : first_mark [] ≡ 0
unfolding first_mark
first_mark_none = refl

pub rest_is : (t : Item) (ts : List Item) → rest_of (t ∷ ts) ≡ ts
unfolding rest_of
rest_is t ts = refl

pub rest_none : rest_of [] ≡ []
unfolding rest_of
rest_none = refl

-- a block is its first part, and what follows where that ends in `;`
pub parts_first : (s : Stop) (open' : List ℕ) (ts : List Item) → parts_from s open' ts ≡ front_from s open' ts ∷ (if first_mark (after_from s open' ts) == separator s then parts_from s [] (rest_of (after_from s open' ts)) else [])
unfolding parts_from front_from after_from first_mark rest_of
parts_first s open' [] = rw (sep s)
parts_first s open' (t ∷ ts) = elim (cases_Bool (ends s open' t)) [
  | inl stops ↦ rw stops (elim (cases_Bool (eqb (mark t) (separator s))) [ inl semi ↦ rw semi | inr other ↦ rw other ])
  | inr inside ↦ rw (inside, parts_first s (open_after open' t) ts)
]

pub past_first : (s : Stop) (open' : List ℕ) (ts : List Item) → past_from s open' ts ≡ (if first_mark (after_from s open' ts) == separator s then past_from s [] (rest_of (after_from s open' ts)) else rest_of (after_from s open' ts))
unfolding past_from after_from first_mark rest_of
past_first s open' [] = rw (sep s)
past_first s open' (t ∷ ts) = elim (cases_Bool (ends s open' t)) [
  | inl stops ↦ rw stops (elim (cases_Bool (eqb (mark t) (separator s))) [ inl semi ↦ rw semi | inr other ↦ rw other ])
  | inr inside ↦ rw (inside, past_first s (open_after open' t) ts)
]

prefix_len-map : {X Y : Type 0} (p : Y → Bool) (f : X → Y) (xs : List X) → prefix_len p (map f xs) ≡ prefix_len (λ x. p (f x)) xs
prefix_len-map p f [] = refl
prefix_len-map p f (x ∷ xs) = ap (λ n. cond (p (f x)) (1 + n) 0) (prefix_len-map p f xs)

pub gap_run_is : (ts : List CssToken) → prefix_len is_gap (items_in ts) ≡ prefix_len (λ t. is_gap (item_in t)) ts
gap_run_is ts = prefix_len-map is_gap item_in ts

pub gaps_are : (ts : List CssToken) → list_all is_gap (items_in ts) ≡ list_all (λ t. is_gap_kind t.kind) ts
gaps_are [] = refl
gaps_are (t ∷ ts) = ap (λ b. is_gap_kind t.kind && b) (gaps_are ts)

-- the brackets that are open after one more token
open_push : (open' : List ℕ) (ts : List Item) (t : Item) → open_at open' (ts ++ t ∷ []) (length (ts ++ t ∷ [])) ≡ open_after (open_at open' ts (length ts)) t
unfolding open_at
open_push open' [] t = refl
open_push open' (u ∷ us) t = open_push (open_after open' u) us t

pub opened_push : (found : List CssToken) (t : CssToken) → open_at [] (items_in (found ++ t ∷ [])) (length (items_in (found ++ t ∷ []))) ≡ open_after (open_at [] (items_in found) (length (items_in found))) (item_in t)
opened_push found t = rw (map-append item_in found (t ∷ [])) (open_push [] (items_in found) (item_in t))

-- a part that ends at a mark leaves no bracket open
pub closed_stops : (s : Stop) (open' : List ℕ) (ts : List Item) (t : Item) → ends s open' t ≡ true → open' ≡ open_at [] ts (length ts) → true ≡ is_closed ts
unfolding ends is_closed
closed_stops s open' ts t stops is = sym (ap is_outside (sym is) ∙ (and_parts (is_outside open') (is_stop s (mark t)) stops).0)

pub closed_ends : (open' : List ℕ) (ts : List Item) (b : Bool) → b ≡ is_outside open' → open' ≡ open_at [] ts (length ts) → b ≡ is_closed ts
unfolding is_closed
closed_ends open' ts b is same = is ∙ ap is_outside same

pub bad_is : (ts : List CssToken) → list_any (λ t. is_bad_kind t.kind) (items_in ts) ≡ list_any (λ t. is_bad_kind t.kind) ts
bad_is [] = refl
bad_is (t ∷ ts) = ap (λ b. is_bad_kind t.kind || b) (bad_is ts)
