-- The margin boxes that have content, by their numbers.
use Rattle.std.proofs.Common.{◌≡◌, ◌<◌, ◌≤◌, ℕ, zero, suc, ◌+◌, ◌-◌, ◌==◌, Bool, true, false, ◌||◌, cond, List, [], ◌∷◌, ◌++◌, append_assoc, Option, None, Some, option_map, option_to_list, map, leb, slice_get, unwrap_or, refl, sym, ◌∙◌, ap, subst, arith}
use Rattle.std.specs.Option.{option_or, option_and_then}
use Rattle.std.specs.List.{list_any, filter_map, cons_option, range_with_len}
use Rattle.std.proofs.lemmas.Bool.{eqb-true, eqb-false, leb-true, leb-false}
use Rattle.std.proofs.lemmas.Option.{slice_get-map, slice_get_past}
use Rattle.bk_num.specs.declared.ids.NameId.{NameId}
use Rattle.boxes.specs.Table.{cell_of, row_of}
use Rattle.boxes.specs.declared.frames.PageKind.{PageKind}
use Rattle.css_page.specs.declared.rules.PageRule.{PageRule}
use Rattle.page_ctx.specs.declared.classes.PageClasses.{PageClasses}
use Rattle.page_ctx.specs.Selectors.{classes_of}
use Rattle.page_ctx.specs.Settings.{PageSettingOf}
use Rattle.page_ctx.specs.Winners.{AppliedPageRuleOf, applied_to, box_declared}
use Rattle.page_ctx.specs.Tables.{texts_of, text_of, six_pages}
use Rattle.page_ctx.specs.Margins.{MarginStyleOf, alignments, style_by, style_below, margin_style, placed, box_at, boxes_by, style_at, AreMarginStyles, boxes_of_name}
use Rattle.page_ctx.proofs.TableLemmas.{six_is}

-- ---- the boxes of a cell

abbrev no_style : Option MarginStyleOf
no_style = None

one_place : (f : ℕ → Option MarginStyleOf) (place k : ℕ) (ks : List ℕ) → style_at place (filter_map (box_at f) ks) ≡ cond (list_any (λ j. j == place) ks) (f place) None
    → (b : Bool) → (k == place) ≡ b → (o : Option MarginStyleOf) → f k ≡ o → style_at place (cons_option (option_map (placed k) o) (filter_map (box_at f) ks)) ≡ cond (b || list_any (λ j. j == place) ks) (f place) None
one_place f place k ks rest true e (Some s) g = rw e (sym (subst (λ j. f j ≡ Some s) (eqb-true k place e) g))
one_place f place k ks rest true e None g =
    let n : f place ≡ None = subst (λ j. f j ≡ None) (eqb-true k place e) g in
    rest ∙ ap (λ o. cond (list_any (λ j. j == place) ks) o None) n ∙ neither (list_any (λ j. j == place) ks) ∙ sym n
  where
    neither : (b : Bool) → cond b no_style no_style ≡ no_style
    neither true = refl
    neither false = refl
one_place f place k ks rest false e (Some s) g = rw e rest
one_place f place k ks rest false e None g = rest

at_place : (f : ℕ → Option MarginStyleOf) (place : ℕ) (ks : List ℕ) → style_at place (filter_map (box_at f) ks) ≡ cond (list_any (λ j. j == place) ks) (f place) None
at_place f place [] = refl
at_place f place (k ∷ ks) = one_place f place k ks (at_place f place ks) (k == place) refl (f k) refl

further : (a place : ℕ) → a ≤ place → (a == place) ≡ false → a + 1 ≤ place
further a place l e = grind (arith, eqb-false a place e, l)

among : (a n place : ℕ) → a ≤ place → place < a + n → list_any (λ j. j == place) (range_with_len a n) ≡ true
among a zero place l h = absurd (omega (arith, l, h))
among a (suc n) place l h = by (λ g. among (a + 1) n place g (omega (arith, h))) (a == place) refl
  where
    by : (a + 1 ≤ place → list_any (λ j. j == place) (range_with_len (a + 1) n) ≡ true) → (b : Bool) → (a == place) ≡ b → (b || list_any (λ j. j == place) (range_with_len (a + 1) n)) ≡ true
    by rest true e = refl
    by rest false e = rest (further a place l e)

past_none : (s : PageSettingOf) (rules : List AppliedPageRuleOf) (place : ℕ) → 16 ≤ place → style_below s rules place ≡ None
past_none s rules place h = ap (option_and_then (style_by s (box_declared place rules))) (slice_get_past alignments place h)

beyond : (place : ℕ) → list_any (λ j. j == place) (range_with_len 0 16) ≡ false → (b : Bool) → leb 16 place ≡ b → 16 ≤ place
beyond place e true h = leb-true 16 place h
beyond place e false h = absurd (let t = among 0 16 place (omega arith) (omega (arith, leb-false 16 place h)) in let w : true ≡ false = sym t ∙ e in cc)

-- the box of a number is found
style_there : (f : ℕ → Option MarginStyleOf) → ((k : ℕ) → 16 ≤ k → f k ≡ None) → (place : ℕ) → style_at place (boxes_by f) ≡ f place
unfolding boxes_by
style_there f past place = at_place f place (range_with_len 0 16) ∙ by (list_any (λ j. j == place) (range_with_len 0 16)) refl
  where
    by : (b : Bool) → list_any (λ j. j == place) (range_with_len 0 16) ≡ b → cond b (f place) None ≡ f place
    by true e = refl
    by false e = sym (past place (beyond place e (leb 16 place) refl))

-- the boxes of one more number
pub boxes_more : (f : ℕ → Option MarginStyleOf) (boxes new all : List (ℕ × MarginStyleOf)) (place : ℕ) → place < 16 → new ≡ boxes ++ option_to_list (option_map (placed place) (f place))
    → boxes ++ filter_map (box_at f) (range_with_len place (16 - place)) ≡ all → new ++ filter_map (box_at f) (range_with_len (place + 1) (16 - (place + 1))) ≡ all
boxes_more f boxes new all place few pushed before =
    let n : 16 - place ≡ suc (16 - (place + 1)) = omega (arith, few) in
    let rest : filter_map (box_at f) (range_with_len place (16 - place)) ≡ cons_option (box_at f place) (filter_map (box_at f) (range_with_len (place + 1) (16 - (place + 1)))) = ap (λ k. filter_map (box_at f) (range_with_len place k)) n in
    ap (λ z. z ++ filter_map (box_at f) (range_with_len (place + 1) (16 - (place + 1)))) pushed ∙ append_assoc boxes _ _ ∙ ap (λ z. boxes ++ z) (joined (box_at f place) _ ∙ sym rest) ∙ before
  where
    joined : {A : Type 0} (o : Option A) (xs : List A) → option_to_list o ++ xs ≡ cons_option o xs
    joined None xs = refl
    joined (Some x) xs = refl

-- ---- the rows of names

row_is : {A : Type 0} (g : List ℕ → A) (names : List (List ℕ)) (name : NameId) (o : Option (List ℕ)) → slice_get (texts_of names) name.0 ≡ o → row_of (map g (texts_of names)) name ≡ Some (g (unwrap_or o []))
row_is g names name None e = ap (λ r. option_or r (slice_get (map g (texts_of names)) 0)) (slice_get-map g (texts_of names) name.0 ∙ ap (option_map g) e)
row_is g names name (Some text) e = ap (λ r. option_or r (slice_get (map g (texts_of names)) 0)) (slice_get-map g (texts_of names) name.0 ∙ ap (option_map g) e)

cell_is : (rules : List PageRule) (text : List ℕ) (index : ℕ) (kind : PageKind) → slice_get (boxes_of_name rules text) (cell_of index kind) ≡ Some (boxes_by (margin_style rules text (classes_of index kind)))
cell_is rules text index kind = slice_get-map (λ c. boxes_by (margin_style rules text c)) six_pages (cell_of index kind) ∙ ap (option_map (λ c. boxes_by (margin_style rules text c))) (six_is index kind)

style_is : (rules : List PageRule) (text : List ℕ) (c : PageClasses) (place : ℕ) → style_at place (boxes_by (margin_style rules text c)) ≡ margin_style rules text c place
style_is rules text c place = style_there (margin_style rules text c) (λ k h. past_none _ (applied_to text c rules) k h) place

pub are_styles : (rules : List PageRule) (names : List (List ℕ)) → AreMarginStyles rules names (map (boxes_of_name rules) (texts_of names))
are_styles rules names index name kind place =
    let text = text_of names name in
    let row = row_is (boxes_of_name rules) names name (slice_get (texts_of names) name.0) refl in
    ap (λ r. option_and_then (style_at place) (option_and_then (λ cells. slice_get cells (cell_of index kind)) r)) row ∙
    ap (option_and_then (style_at place)) (cell_is rules text index kind) ∙ style_is rules text (classes_of index kind) place
