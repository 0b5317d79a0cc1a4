-- the winners that are kept stand for all that they win over
use Rattle.std.proofs.Common.{◌≡◌, ◌<◌, ℕ, ◌==◌, Bool, true, false, ◌||◌, cond, List, [], ◌∷◌, ◌++◌, Option, None, Some, option_map, map, leb, slice_get, refl, sym, ◌∙◌, ap, arith}
use Rattle.std.specs.Option.{option_and_then}
use Rattle.std.specs.List.{filter_map, fold, list_any, cons_option, range_with_len}
use Rattle.std.proofs.lemmas.Bool.{eqb-true, leb-false, leb-true}
use Rattle.std.proofs.lemmas.Option.{slice_get_past}
use Rattle.std.proofs.lemmas.List.FromFn.{get_or-map-range_with_len}
use Rattle.bk_num.specs.declared.sides.BoxSide.TheVariants as side
use Rattle.css_page.specs.declared.rules.PageRule.{PageRule}
use Rattle.style.proofs.RankingLemmas.{above-self}
use Rattle.style.specs.declared.content.Part.{Part}
use Rattle.page_ctx.specs.declared.classes.PageClasses.{PageClasses}
use Rattle.page_ctx.specs.declared.margin_style.Alignment.{Alignment}
use Rattle.page_ctx.specs.declared.property.PageProperty.{PageProperty}
use Rattle.page_ctx.specs.declared.property.PageProperty.TheVariants as property
use Rattle.page_ctx.specs.Weights.{ranks_of}
use Rattle.page_ctx.specs.Winners.{Declared, applied_to, box_declared, number_of, page_declared, property_of, value_of, winner, winning, with_declared}
use Rattle.page_ctx.specs.Settings.{PageSettingOf, initial_setting, page_setting, setting_by}
use Rattle.page_ctx.specs.Cells.{cell_by}
use Rattle.page_ctx.specs.Tables.{page_cell}
use Rattle.page_ctx.specs.Margins.{MarginStyleOf, alignments, box_at, boxes_by, content_by, margin_style, placed, style_among, style_by, style_set}
use Rattle.page_ctx.specs.Groups.{all_own, all_properties, box_winners, declared_at, winners_among, winners_of}
use Rattle.page_ctx.proofs.GroupLemmas.{box-groups, fold-over, over, over-none, page-groups, winner-append}
use Rattle.page_ctx.proofs.WinnerLemmas.{winners_are_greatest}

-- ---- winners of all properties

over-self : (o : Option Declared) → over o o ≡ o
over-self None = refl
over-self (Some d) = ap (λ b. cond b (Some d) (Some d)) (above-self (ranks_of d.weight))

abbrev same : PageProperty → PageProperty → Bool
same p q = number_of q == number_of p

same-winner : (p q : PageProperty) (ds : List Declared) → same p q ≡ true → winner q ds ≡ winner p ds
same-winner p q ds e = ap (λ n. of_number n) (eqb-true (number_of q) (number_of p) e)
  where
    of_number : ℕ → Option Declared
    of_number n = fold (λ best d. cond (number_of (property_of d.long) == n) (winning best d) best) None ds

kept-one : (p q : PageProperty) (ds rest : List Declared) (b : Bool) → same p q ≡ b → (o : Option Declared) → winner q ds ≡ o
    → winner p (cons_option o rest) ≡ over (cond b (winner p ds) None) (winner p rest)
kept-one p q ds rest b e None g = sym (over-none (winner p rest)) ∙ ap (λ z. over z (winner p rest)) (by b e)
  where
    by : (b : Bool) → same p q ≡ b → None ≡ cond b (winner p ds) None
    by true e = sym g ∙ same-winner p q ds e
    by false e = refl
kept-one p q ds rest b e (Some d) g =
    fold-over p (with_declared p None d) rest ∙ ap (λ z. over z (winner p rest)) (by b e)
  where
    number : number_of (property_of d.long) ≡ number_of q
    number = eqb-true (number_of (property_of d.long)) (number_of q) (winners_are_greatest.found q ds d g).1.of_property

    by : (b : Bool) → same p q ≡ b → cond (number_of (property_of d.long) == number_of p) (Some d) None ≡ cond b (winner p ds) None
    by true e = ap (λ n. cond (n == number_of p) (Some d) None) number ∙ ap (λ t. cond t (Some d) None) e ∙ sym g ∙ same-winner p q ds e
    by false e = ap (λ n. cond (n == number_of p) (Some d) None) number ∙ ap (λ t. cond t (Some d) None) e

kept-all : (p : PageProperty) (ds : List Declared) (qs : List PageProperty) → winner p (winners_among qs ds) ≡ cond (list_any (same p) qs) (winner p ds) None
kept-all p ds [] = refl
kept-all p ds (q ∷ qs) = kept-one p q ds (winners_among qs ds) (same p q) refl (winner q ds) refl ∙ ap (over (cond (same p q) (winner p ds) None)) (kept-all p ds qs) ∙ by (same p q) (list_any (same p) qs)
  where
    by : (a b : Bool) → over (cond a (winner p ds) None) (cond b (winner p ds) None) ≡ cond (a || b) (winner p ds) None
    by true true = over-self (winner p ds)
    by true false = refl
    by false true = over-none (winner p ds)
    by false false = refl

all-there : (p : PageProperty) → list_any (same p) all_properties ≡ true
all-there property.Size = refl
all-there (property.Margin side.Top) = refl
all-there (property.Margin side.Right) = refl
all-there (property.Margin side.Bottom) = refl
all-there (property.Margin side.Left) = refl
all-there property.Color = refl
all-there property.FontFamily = refl
all-there property.FontSize = refl
all-there property.FontStyle = refl
all-there property.FontWeight = refl
all-there property.LineHeight = refl
all-there property.Content = refl
all-there property.TextAlign = refl
all-there property.VerticalAlign = refl

-- more declarations after the winners
kept-win : (p : PageProperty) (ds es : List Declared) → winner p (winners_of ds ++ es) ≡ winner p (ds ++ es)
kept-win p ds es =
    winner-append p (winners_of ds) es ∙ ap (λ z. over z (winner p es)) (kept-all p ds all_properties ∙ ap (λ b. cond b (winner p ds) None) (all-there p)) ∙ sym (winner-append p ds es)

-- ---- by the same winners

abbrev Agree : List Declared → List Declared → Type 0
Agree ds es = (p : PageProperty) → value_of p ds ≡ value_of p es

setting-same : (s : PageSettingOf) (ds es : List Declared) → Agree ds es → setting_by s ds ≡ setting_by s es
setting-same s ds es h = rw (h property.FontFamily, h property.FontStyle, h property.FontWeight, h property.FontSize, h property.LineHeight, h property.Color) refl

cell-same : (ds es : List Declared) → Agree ds es → cell_by ds ≡ cell_by es
cell-same ds es h =
    rw (h property.FontSize, h property.Size, h (property.Margin side.Top), h (property.Margin side.Right), h (property.Margin side.Bottom), h (property.Margin side.Left)) refl

set-same : (s : PageSettingOf) (own : Alignment) (ds es : List Declared) (content : List Part) → Agree ds es → style_set s own ds content ≡ style_set s own es content
set-same s own ds es content h = rw (h property.TextAlign, h property.VerticalAlign) refl

style-same : (page : PageSettingOf) (ds es : List Declared) (own : Alignment) → Agree ds es → style_by page ds own ≡ style_by page es own
style-same page ds es own h = ap (λ o. option_map (style_set (setting_by page ds) own ds) (content_by o)) (h property.Content) ∙ by (content_by (value_of property.Content es))
  where
    by : (o : Option (List Part)) → option_map (style_set (setting_by page ds) own ds) o ≡ option_map (style_set (setting_by page es) own es) o
    by None = refl
    by (Some content) = ap (λ x. Some (style_set x own ds content)) (setting-same page ds es h) ∙ ap (λ x. Some x) (set-same (setting_by page es) own ds es content h)

-- ---- of a page

-- what is kept for a page and what those with its name declare
abbrev pub kept_page : List ℕ → PageClasses → List PageRule → List Declared
kept_page name c rules = winners_of (page_declared (all_own None c rules)) ++ page_declared (all_own (Some name) c rules)

page-agrees : (name : List ℕ) (c : PageClasses) (rules : List PageRule) → Agree (kept_page name c rules) (page_declared (applied_to name c rules))
page-agrees name c rules p = ap (option_map (λ (d : Declared). d.long)) (kept-win p (page_declared (all_own None c rules)) (page_declared (all_own (Some name) c rules)) ∙ page-groups p name c rules)

pub cell-kept : (name : List ℕ) (c : PageClasses) (rules : List PageRule) → cell_by (kept_page name c rules) ≡ page_cell rules name c
cell-kept name c rules = cell-same (kept_page name c rules) (page_declared (applied_to name c rules)) (page-agrees name c rules)

pub setting-kept : (name : List ℕ) (c : PageClasses) (rules : List PageRule) → page_setting (kept_page name c rules) ≡ page_setting (page_declared (applied_to name c rules))
setting-kept name c rules = setting-same initial_setting (kept_page name c rules) (page_declared (applied_to name c rules)) (page-agrees name c rules)

-- ---- of margin boxes

-- what is kept for each margin box
abbrev pub kept_boxes : PageClasses → List PageRule → List (List Declared)
kept_boxes c rules = map (box_winners (all_own None c rules)) (range_with_len 0 16)

box-agrees : (place : ℕ) (name : List ℕ) (c : PageClasses) (rules : List PageRule) → place < 16 → Agree (declared_at (kept_boxes c rules) (all_own (Some name) c rules) place) (box_declared place (applied_to name c rules))
box-agrees place name c rules l p =
    ap (λ ds. value_of p (ds ++ box_declared place (all_own (Some name) c rules))) (get_or-map-range_with_len (box_winners (all_own None c rules)) 0 16 place place [] l (omega arith))
    ∙ ap (option_map (λ (d : Declared). d.long)) (kept-win p (box_declared place (all_own None c rules)) (box_declared place (all_own (Some name) c rules)) ∙ box-groups p place name c rules)

box-kept : (s : PageSettingOf) (name : List ℕ) (c : PageClasses) (rules : List PageRule) (place : ℕ)
    → style_among s (declared_at (kept_boxes c rules) (all_own (Some name) c rules)) place ≡ style_among s (λ k. box_declared k (applied_to name c rules)) place
box-kept s name c rules place = by (leb 16 place) refl (slice_get alignments place) refl
  where
    by : (b : Bool) → leb 16 place ≡ b → (o : Option Alignment) → slice_get alignments place ≡ o
        → option_and_then (style_by s (declared_at (kept_boxes c rules) (all_own (Some name) c rules) place)) o ≡ option_and_then (style_by s (box_declared place (applied_to name c rules))) o
    by b e None g = refl
    by true e (Some own) g = absurd (let past = slice_get_past alignments place (leb-true 16 place e) in let w : None ≡ Some own = sym past ∙ g in cc)
    by false e (Some own) g = style-same s (declared_at (kept_boxes c rules) (all_own (Some name) c rules) place) (box_declared place (applied_to name c rules)) own (box-agrees place name c rules (leb-false 16 place e))

boxes-same : (f g : ℕ → Option MarginStyleOf) (places : List ℕ) → ((k : ℕ) → f k ≡ g k) → filter_map (box_at f) places ≡ filter_map (box_at g) places
boxes-same f g [] h = refl
boxes-same f g (k ∷ places) h = ap (λ o. cons_option (option_map (placed k) o) (filter_map (box_at f) places)) (h k) ∙ ap (cons_option (box_at g k)) (boxes-same f g places h)

pub boxes-kept : (name : List ℕ) (c : PageClasses) (rules : List PageRule)
    → boxes_by (style_among (page_setting (page_declared (applied_to name c rules))) (declared_at (kept_boxes c rules) (all_own (Some name) c rules))) ≡ boxes_by (margin_style rules name c)
unfolding boxes_by
boxes-kept name c rules =
    boxes-same (style_among (page_setting (page_declared (applied_to name c rules))) (declared_at (kept_boxes c rules) (all_own (Some name) c rules))) (margin_style rules name c) (range_with_len 0 16)
    (box-kept (page_setting (page_declared (applied_to name c rules))) name c rules)
