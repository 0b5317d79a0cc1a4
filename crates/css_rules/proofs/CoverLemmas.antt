use Rattle.std.proofs.Common.{◌≡◌, ℕ, zero, suc, ◌+◌, ◌-◌, ◌<◌, ◌≤◌, List, [], ◌∷◌, ◌++◌, take, drop, length, get_or, ap, sym, ◌∙◌, append_assoc, append-nil, arith, Some, length-append}
use Rattle.std.proofs.lemmas.List.{map-append, append_cancel_left, take_more, take-append-drop}
use Rattle.std.proofs.lemmas.Grind.{flat_map-append}
use Rattle.std.proofs.Math.Seq.{take-append_seam}
use Rattle.std.proofs.lemmas.Option.{slice_get-map, slice_get-get_or}
use Rattle.css_tok.specs.declared.tokens.CssToken.{CssToken}
use Rattle.css_tok.specs.Tokens.{Item, item_in}
use Rattle.css_rules.specs.Views.{items_in}
use Rattle.css_rules.specs.Parts.{joined}
use Rattle.css_rules.specs.Decls.{Covers, item_before}

pub item_before_is : (ts : List CssToken) (at : ℕ) (d : CssToken) → 0 < at → at ≤ length ts → Some (item_in (get_or ts (at - 1) d)) ≡ item_before (items_in ts) at
item_before_is ts zero d some within = absurd (omega arith)
item_before_is ts (suc n) d some within =
    let e : suc n - 1 ≡ n = omega arith in
    rw (e, slice_get-map item_in ts n, slice_get-get_or ts n d (omega arith))

pub joined-append : (xs ys : List CssToken) → joined (items_in (xs ++ ys)) ≡ joined (items_in xs) ++ joined (items_in ys)
joined-append xs ys = rw (map-append item_in xs ys) (flat_map-append (λ (t : Item). t.slice) (items_in xs) (items_in ys))

pub joined_one : (t : CssToken) → joined (items_in (t ∷ [])) ≡ t.slice.now
joined_one t = append-nil t.slice.now

pub joined_push : (xs : List CssToken) (t : CssToken) → joined (items_in (xs ++ t ∷ [])) ≡ joined (items_in xs) ++ t.slice.now
joined_push xs t = joined-append xs (t ∷ []) ∙ ap (λ z. joined (items_in xs) ++ z) (joined_one t)

pub joined_more : (ts : List CssToken) (i : ℕ) (d : CssToken) → i < length ts → joined (items_in (take (i + 1) ts)) ≡ joined (items_in (take i ts)) ++ (get_or ts i d).slice.now
joined_more ts i d within = ap (λ z. joined (items_in z)) (take_more ts i d within) ∙ joined_push (take i ts) (get_or ts i d)

joined_parts : (ts : List CssToken) (n : ℕ) → joined (items_in ts) ≡ joined (items_in (take n ts)) ++ joined (items_in (drop n ts))
joined_parts ts n = ap (λ z. joined (items_in z)) (sym (take-append-drop n ts)) ∙ joined-append (take n ts) (drop n ts)

pub Covers-take : (text : List ℕ) (ts : List CssToken) (n : ℕ) → Covers text (items_in ts) → Covers text (items_in (take n ts))
Covers-take text ts n covers = record {
  rest = joined (items_in (drop n ts)) ++ covers.rest;
  is = covers.is ∙ ap (λ z. z ++ covers.rest) (joined_parts ts n) ∙ append_assoc (joined (items_in (take n ts))) (joined (items_in (drop n ts))) covers.rest;
}

pub Covers-drop : (text front back : List ℕ) (ts : List CssToken) (n : ℕ) → Covers text (items_in ts) → text ≡ front ++ back → front ≡ joined (items_in (take n ts)) → Covers back (items_in (drop n ts))
Covers-drop text front back ts n covers parts is = record {
  rest = covers.rest;
  is = append_cancel_left front back (joined (items_in (drop n ts)) ++ covers.rest) (sym parts ∙ covers.is ∙ ap (λ z. z ++ covers.rest) (joined_parts ts n ∙ ap (λ z. z ++ joined (items_in (drop n ts))) (sym is)) ∙ append_assoc front (joined (items_in (drop n ts))) covers.rest);
}

pub length_more : (ts : List CssToken) (i : ℕ) (d : CssToken) → i < length ts → length (joined (items_in (take (i + 1) ts))) ≡ length (joined (items_in (take i ts))) + length (get_or ts i d).slice.now
length_more ts i d within = ap length (joined_more ts i d within) ∙ length-append (joined (items_in (take i ts))) (get_or ts i d).slice.now

-- the first tokens are not longer than the text
pub covered_length : (text : List ℕ) (ts : List CssToken) → Covers text (items_in ts) → length (joined (items_in ts)) ≤ length text
covered_length text ts covers = omega (arith, ap length covers.is, length-append (joined (items_in ts)) covers.rest)

pub covered_front : (text : List ℕ) (ts : List CssToken) → Covers text (items_in ts) → take (length (joined (items_in ts))) text ≡ joined (items_in ts)
covered_front text ts covers = ap (λ z. take (length (joined (items_in ts))) z) covers.is ∙ take-append_seam (joined (items_in ts)) covers.rest
