-- The block of a page rule, a part at a time, at tokens that are given by an equation.
use Rattle.std.proofs.Common.{ℕ, Bor, Vec, Global, ◌≡◌, Bool, true, false, not, ◌||◌, List, [], ◌∷◌, ◌++◌, refl, ap, sym, ◌∙◌, subst, map, append_assoc, append-nil}
use Rattle.std.specs.Prelude.{Option, Some, None, is_some, option_map, option_to_list, MatchBool, IfSome, ◌==◌}
use Rattle.std.proofs.lemmas.List.{map-append}
use Rattle.css_tok.specs.Tokens.{Item}
use Rattle.css_tok.specs.Marks.{first_mark, rest_of}
use Rattle.css_rules.specs.Decls.{Decl, decl_of, decl_in}
use Rattle.css_rules.specs.declared.pages.Lead.TheVariants as lead
use Rattle.css_rules.specs.declared.pages.PagePart.{PagePart}
use Rattle.css_rules.specs.declared.decls.DeclSlice.{DeclSlice}
use Rattle.css_rules.specs.Pages.{BoxOf, IsPageBlock, IsPageAt, IsPartOfPage, cut, closer, between, margin_box, at_rule, at_closer, piece, last, page_lead, is_margin_box, box_of, box_in, at_end, past_end, piece_at, piece_end, decls_in_part, boxes_in_part}

pub goes_between : (ts us : List Item) (t : Item) (ds : List Decl) (bs : List BoxOf) (rest : List Item) → ts ≡ t ∷ us → page_lead t ≡ lead.Between → IsPageBlock us ds bs rest → IsPageBlock ts ds bs rest
goes_between ts us t ds bs rest is here block = subst (λ z. IsPageBlock z ds bs rest) (sym is) (between t us ds bs rest here block)

pub ends_closer : (ts us : List Item) (t : Item) → ts ≡ t ∷ us → page_lead t ≡ lead.Closer → IsPageBlock ts [] [] us
ends_closer ts us t is here = subst (λ z. IsPageBlock z [] [] us) (sym is) (closer t us here)

pub ends_cut : (ts us : List Item) → ts ≡ [] → us ≡ ts → IsPageBlock ts [] [] us
ends_cut ts us none same = subst (λ z. IsPageBlock ts [] [] z) (sym same) (subst (λ z. IsPageBlock z [] [] z) (sym none) cut)

abbrev IsPart : Option Decl → Option BoxOf → Bool → List Item → List Item → Type 0
IsPart d b more ts vs = MatchBool more
    ((ds : List Decl) (bs : List BoxOf) (rest : List Item) → IsPageBlock vs ds bs rest → IsPageBlock ts (option_to_list d ++ ds) (option_to_list b ++ bs) rest)
    (IsPageBlock ts (option_to_list d) (option_to_list b) vs)

not_true : (a : Bool) → true ≡ not a → a ≡ false
not_true true e = cc
not_true false e = refl

not_false : (a : Bool) → false ≡ not a → a ≡ true
not_false true e = refl
not_false false e = cc

-- an at-rule, with or without a margin box
part_at : (d : Option Decl) (b : Option BoxOf) (more : Bool) (ts us vs : List Item) (t : Item) → ts ≡ t ∷ us → page_lead t ≡ lead.At → d ≡ None → is_some b ≡ is_margin_box t us → IfSome b (λ x. x ≡ box_of t (at_end us))
    → more ≡ (is_some b || not (first_mark (at_end us) == 125)) → vs ≡ past_end (at_end us) → IsPart d b more ts vs
part_at (Some d) b more ts us vs t is here none margin box goes rest = absurd (cc)
part_at None (Some x) false ts us vs t is here none margin box goes rest = absurd (cc)
part_at None (Some x) true ts us vs t is here none margin box goes rest = λ ds bs left block.
    subst (λ z. IsPageBlock z ds (x ∷ bs) left) (sym is) (subst (λ z. IsPageBlock (t ∷ us) ds (z ∷ bs) left) (sym box)
    (margin_box t us ds bs left here (sym margin) (subst (λ z. IsPageBlock z ds bs left) rest block)))
part_at None None true ts us vs t is here none margin box goes rest = λ ds bs left block.
    subst (λ z. IsPageBlock z ds bs left) (sym is) (at_rule t us ds bs left here (sym margin) (not_true (first_mark (at_end us) == 125) goes) (subst (λ z. IsPageBlock z ds bs left) rest block))
part_at None None false ts us vs t is here none margin box goes rest =
    subst (λ z. IsPageBlock ts [] [] z) (sym rest) (subst (λ z. IsPageBlock z [] [] (past_end (at_end us))) (sym is) (at_closer t us here (sym margin) (not_false (first_mark (at_end us) == 125) goes)))

pub at_goes : (p : PagePart) (ts us vs : List Item) (t : Item) → ts ≡ t ∷ us → page_lead t ≡ lead.At → IsPageAt p t us vs → IsPartOfPage p ts vs
at_goes p ts us vs t is here at = part_at (option_map decl_in p.decl) (option_map box_in p.margin) p.more ts us vs t is here at.decl at.margin at.is at.more at.rest

part_piece : (d : Option Decl) (b : Option BoxOf) (more : Bool) (us vs : List Item) (t : Item) → page_lead t ≡ lead.Content → d ≡ decl_of (piece_at (t ∷ us)) → b ≡ None → more ≡ (first_mark (piece_end (t ∷ us)) == 59) → vs ≡ rest_of (piece_end (t ∷ us)) → IsPart d b more (t ∷ us) vs
part_piece d (Some x) more us vs t here decl none goes rest = absurd (cc)
part_piece d None true us vs t here decl none goes rest = λ ds bs left block.
    subst (λ z. IsPageBlock (t ∷ us) (option_to_list z ++ ds) bs left) (sym decl) (piece t us ds bs left here (sym goes) (subst (λ z. IsPageBlock z ds bs left) rest block))
part_piece d None false us vs t here decl none goes rest =
    subst (λ z. IsPageBlock (t ∷ us) (option_to_list d) [] z) (sym rest) (subst (λ z. IsPageBlock (t ∷ us) (option_to_list z) [] (rest_of (piece_end (t ∷ us)))) (sym decl) (last t us here (sym goes)))

pub piece_goes : (p : PagePart) (ts us vs : List Item) (t : Item) → ts ≡ t ∷ us → page_lead t ≡ lead.Content → option_map decl_in p.decl ≡ decl_of (piece_at ts) → option_map box_in p.margin ≡ None → p.more ≡ (first_mark (piece_end ts) == 59) → vs ≡ rest_of (piece_end ts) → IsPartOfPage p ts vs
piece_goes p ts us vs t is here decl margin more rest =
    subst (λ z. IsPart (option_map decl_in p.decl) (option_map box_in p.margin) p.more z vs) (sym is)
    (part_piece (option_map decl_in p.decl) (option_map box_in p.margin) p.more us vs t here (decl ∙ ap (λ z. decl_of (piece_at z)) is) margin (more ∙ ap (λ z. first_mark (piece_end z) == 59) is) (rest ∙ ap (λ z. rest_of (piece_end z)) is))

-- one more item at the end of a list, or none
pub push_map : {A B : Type 0} (f : A → B) (xs : List A) (o : Option A) (ys : List B) → map f (xs ++ option_to_list o) ++ ys ≡ map f xs ++ (option_to_list (option_map f o) ++ ys)
push_map f xs None ys = rw (append-nil xs)
push_map f xs (Some x) ys = rw (map-append f xs (x ∷ [])) (append_assoc (map f xs) (f x ∷ []) ys)

pub pushed_map : {A B : Type 0} (f : A → B) (xs : List A) (o : Option A) → map f (xs ++ option_to_list o) ≡ map f xs ++ option_to_list (option_map f o)
pushed_map f xs None = rw (append-nil xs, append-nil (map f xs))
pushed_map f xs (Some x) = map-append f xs (x ∷ [])

abbrev Margin : Type 0
Margin = Bor (List ℕ) × Vec DeclSlice Global

abbrev Goes : List Item → List Item → List Decl → List BoxOf → Type 0
Goes start ts ds bs = (es : List Decl) (cs : List BoxOf) (rest : List Item) → IsPageBlock ts es cs rest → IsPageBlock start (ds ++ es) (bs ++ cs) rest

part_more : (P Q : Type 0) (b : Bool) → MatchBool b P Q → b ≡ true → P
part_more P Q true h e = h
part_more P Q false h e = absurd (cc)

part_done : (P Q : Type 0) (b : Bool) → MatchBool b P Q → b ≡ false → Q
part_done P Q true h e = absurd (cc)
part_done P Q false h e = h

pub page_more : (p : PagePart) (start ts us : List Item) (ds es : List DeclSlice) (bs cs : List Margin) → p.more ≡ true → IsPartOfPage p ts us → Goes start ts (map decl_in ds) (map box_in bs) → es ≡ ds ++ option_to_list p.decl → cs ≡ bs ++ option_to_list p.margin → Goes start us (map decl_in es) (map box_in cs)
page_more p start ts us ds es bs cs more part goes decls margins = λ fs gs rest block.
    let d : map decl_in es ++ fs ≡ map decl_in ds ++ (decls_in_part p ++ fs) = ap (λ z. map decl_in z ++ fs) decls ∙ push_map decl_in ds p.decl fs in
    let b : map box_in cs ++ gs ≡ map box_in bs ++ (boxes_in_part p ++ gs) = ap (λ z. map box_in z ++ gs) margins ∙ push_map box_in bs p.margin gs in
    subst (λ z. IsPageBlock start z (map box_in cs ++ gs) rest) (sym d) (subst (λ z. IsPageBlock start (map decl_in ds ++ (decls_in_part p ++ fs)) z rest) (sym b)
    (goes (decls_in_part p ++ fs) (boxes_in_part p ++ gs) rest (part_more _ _ p.more part more fs gs rest block)))

pub page_done : (p : PagePart) (start ts us : List Item) (ds es : List DeclSlice) (bs cs : List Margin) → p.more ≡ false → IsPartOfPage p ts us → Goes start ts (map decl_in ds) (map box_in bs) → es ≡ ds ++ option_to_list p.decl → cs ≡ bs ++ option_to_list p.margin → IsPageBlock start (map decl_in es) (map box_in cs) us
page_done p start ts us ds es bs cs more part goes decls margins =
    let d : map decl_in es ≡ map decl_in ds ++ decls_in_part p = ap (map decl_in) decls ∙ pushed_map decl_in ds p.decl in
    let b : map box_in cs ≡ map box_in bs ++ boxes_in_part p = ap (map box_in) margins ∙ pushed_map box_in bs p.margin in
    subst (λ z. IsPageBlock start z (map box_in cs) us) (sym d) (subst (λ z. IsPageBlock start (map decl_in ds ++ decls_in_part p) z us) (sym b)
    (goes (decls_in_part p) (boxes_in_part p) us (part_done _ _ p.more part more)))
