-- names that no selector asks for have the rules of no name
use Rattle.std.proofs.Common.{◌≡◌, ℕ, Bool, true, false, ◌&&◌, ◌||◌, cond, List, [], ◌∷◌, ◌++◌, Option, None, Some, option_map, refl, sym, ◌∙◌, ap}
use Rattle.std.specs.Prelude.{fold}
use Rattle.std.specs.Str.{bytes_eq}
use Rattle.std.specs.List.{cons_option, list_any}
use Rattle.std.proofs.lemmas.List.Folds.{list_any-append}
use Rattle.bk_num.proofs.ListLemmas.{bytes_same, map-same}
use Rattle.boxes.specs.declared.table.PageCell.{PageCell}
use Rattle.boxes.specs.declared.table.PageRow.{PageRow}
use Rattle.css_page.specs.declared.rules.PageRule.{PageRule}
use Rattle.css_page.specs.declared.selectors.PageSelector.{PageSelector}
use Rattle.bk_num.specs.Names.{with_name}
use Rattle.named_lists.proofs.ListLemmas.{turned}
use Rattle.page_ctx.specs.declared.classes.PageClasses.{PageClasses}
use Rattle.page_ctx.specs.declared.weight.PageWeight.{PageWeight}
use Rattle.page_ctx.specs.Selectors.{takes_name, takes_classes, name_in, asked_by, asked_in, all_asked}
use Rattle.page_ctx.specs.Weights.{greater, is_for_page, specificity, with_selector}
use Rattle.page_ctx.specs.Winners.{applied, applied_by, applied_to, page_declared}
use Rattle.page_ctx.specs.Cells.{cell_by}
use Rattle.page_ctx.specs.Tables.{six_pages, row_by}
use Rattle.page_ctx.specs.Margins.{boxes_by, boxes_of_name, style_applied}

split : {X : Type 0} (p : X → Bool) (xs ys : List X) → list_any p (xs ++ ys) ≡ false → (list_any p xs ≡ false) × (list_any p ys ≡ false)
split p xs ys e = by (list_any p xs) refl (list_any p ys) refl (sym (list_any-append p xs ys) ∙ e)
  where
    by : (a : Bool) → list_any p xs ≡ a → (b : Bool) → list_any p ys ≡ b → (list_any p xs || list_any p ys) ≡ false → (list_any p xs ≡ false) × (list_any p ys ≡ false)
    by false f false g h = (f, g)
    by false f true g h = absurd (let z : (list_any p xs || list_any p ys) ≡ true = rw (f, g) refl in cc)
    by true f b g h = absurd (let z : (list_any p xs || list_any p ys) ≡ true = rw f refl in cc)

-- ---- names that no selector asks for

takes-same : (name other : List ℕ) (o : Option (List ℕ)) → list_any (bytes_eq name) (name_in o) ≡ false → list_any (bytes_eq other) (name_in o) ≡ false → takes_name o name ≡ takes_name o other
takes-same name other None e f = refl
takes-same name other (Some n) e f = out name (bytes_eq name n) refl e ∙ sym (out other (bytes_eq other n) refl f)
  where
    out : (x : List ℕ) (b : Bool) → bytes_eq x n ≡ b → list_any (bytes_eq x) (n ∷ []) ≡ false → bytes_eq n x ≡ false
    out x false h g = turned n x ∙ h
    out x true h g = absurd (let z : list_any (bytes_eq x) (n ∷ []) ≡ true = rw h refl in cc)

selectors-same : (name other : List ℕ) (c : PageClasses) (best : Option PageWeight) (selectors : List PageSelector) → list_any (bytes_eq name) (asked_in selectors) ≡ false → list_any (bytes_eq other) (asked_in selectors) ≡ false → fold (with_selector (is_for_page name c)) best selectors ≡ fold (with_selector (is_for_page other c)) best selectors
selectors-same name other c best [] e f = refl
selectors-same name other c best (s ∷ more) e f =
    let one = split (bytes_eq name) (asked_by s) (asked_in more) e in
    let two = split (bytes_eq other) (asked_by s) (asked_in more) f in
    ap (λ b. fold (with_selector (is_for_page name c)) (cond (b && takes_classes s c) (greater best (specificity s)) best) more) (takes-same name other s.name one.0 two.0) ∙ selectors-same name other c (with_selector (is_for_page other c) best s) more one.1 two.1

rules-same : (name other : List ℕ) (c : PageClasses) (rules : List PageRule) → list_any (bytes_eq name) (all_asked rules) ≡ false → list_any (bytes_eq other) (all_asked rules) ≡ false → applied_to name c rules ≡ applied_to other c rules
rules-same name other c [] e f = refl
rules-same name other c (r ∷ rules) e f =
    let one = split (bytes_eq name) (asked_in r.selectors) (all_asked rules) e in
    let two = split (bytes_eq other) (asked_in r.selectors) (all_asked rules) f in
    ap (λ o. cons_option (option_map (applied_by r) o) (applied_to name c rules)) (selectors-same name other c None r.selectors one.0 two.0) ∙ ap (cons_option (applied (is_for_page other c) r)) (rules-same name other c rules one.1 two.1)

-- what isn't among names that were added wasn't added
none-left : (x : List ℕ) (names kept : List (List ℕ)) → list_any (bytes_eq x) (fold with_name kept names) ≡ false → (list_any (bytes_eq x) kept ≡ false) × (list_any (bytes_eq x) names ≡ false)
none-left x [] kept e = (e, refl)
none-left x (n ∷ names) kept e =
    let rest = none-left x names (with_name kept n) e in
    let one = by (list_any (bytes_eq n) kept) refl rest.0 in
    (one.0, ap (λ b. b || list_any (bytes_eq x) names) one.1 ∙ rest.1)
  where
    by : (b : Bool) → list_any (bytes_eq n) kept ≡ b → list_any (bytes_eq x) (cond b kept (kept ++ n ∷ [])) ≡ false → (list_any (bytes_eq x) kept ≡ false) × (bytes_eq x n ≡ false)
    by true h g = (g, other (bytes_eq x n) refl)
      where
        other : (d : Bool) → bytes_eq x n ≡ d → bytes_eq x n ≡ false
        other false i = i
        other true i = absurd (let s : x ≡ n = bytes_same x n i in let z : list_any (bytes_eq x) kept ≡ true = ap (λ (y : List ℕ). list_any (bytes_eq y) kept) s ∙ h in cc)
    by false h g = let two = split (bytes_eq x) kept (n ∷ []) g in (two.0, sole (bytes_eq x n) two.1)
      where
        sole : (d : Bool) → (d || false) ≡ false → d ≡ false
        sole false i = refl
        sole true i = cc

unasked : (rules : List PageRule) (keys : List (List ℕ)) (name : List ℕ) → keys ≡ fold with_name [] (all_asked rules) → list_any (bytes_eq name) keys ≡ false → list_any (bytes_eq name) (all_asked rules) ≡ false
unasked rules keys name k e = (none-left name (all_asked rules) [] (ap (list_any (bytes_eq name)) (sym k) ∙ e)).1

-- ---- rows and boxes of the same rules

abbrev with_cells : List PageCell → PageRow
with_cells cells = record { cells = cells }

row-same : (xs ys : List PageRule) (name other : List ℕ) → ((c : PageClasses) → applied_to name c xs ≡ applied_to other c ys) → row_by xs name ≡ row_by ys other
row-same xs ys name other h = ap with_cells (map-same (λ c. cell_by (page_declared (applied_to name c xs))) (λ c. cell_by (page_declared (applied_to other c ys))) six_pages (λ c. ap (λ a. cell_by (page_declared a)) (h c)))

boxes-same : (xs ys : List PageRule) (name other : List ℕ) → ((c : PageClasses) → applied_to name c xs ≡ applied_to other c ys) → boxes_of_name xs name ≡ boxes_of_name ys other
boxes-same xs ys name other h = map-same (λ c. boxes_by (style_applied (applied_to name c xs))) (λ c. boxes_by (style_applied (applied_to other c ys))) six_pages (λ c. ap (λ a. boxes_by (style_applied a)) (h c))

-- a name that no selector asks for has the row of no name
pub unasked-row : (rules : List PageRule) (keys : List (List ℕ)) (name : List ℕ) → keys ≡ fold with_name [] (all_asked rules) → list_any (bytes_eq name) keys ≡ false → list_any (bytes_eq []) keys ≡ false → row_by rules [] ≡ row_by rules name
unasked-row rules keys name k e f = row-same rules rules [] name (λ c. rules-same [] name c rules (unasked rules keys [] k f) (unasked rules keys name k e))

pub unasked-boxes : (rules : List PageRule) (keys : List (List ℕ)) (name : List ℕ) → keys ≡ fold with_name [] (all_asked rules) → list_any (bytes_eq name) keys ≡ false → list_any (bytes_eq []) keys ≡ false → boxes_of_name rules [] ≡ boxes_of_name rules name
unasked-boxes rules keys name k e f = boxes-same rules rules [] name (λ c. rules-same [] name c rules (unasked rules keys [] k f) (unasked rules keys name k e))
