-- Six cells a name, and the table that they make.
use Rattle.std.proofs.Common.{◌≡◌, ◌<◌, ℕ, zero, suc, ◌+◌, ◌==◌, Bool, true, false, List, [], ◌∷◌, ◌++◌, append_assoc, Option, None, Some, option_map, length, map, drop, slice_get, unwrap_or, refl, sym, ◌∙◌, ap, subst, arith}
use Rattle.std.proofs.lemmas.Bool.{eqb-true}
use Rattle.std.proofs.lemmas.Option.{slice_get-map}
use Rattle.std.specs.List.{All}
use Rattle.bk_num.specs.declared.ids.NameId.{NameId}
use Rattle.bk_num.proofs.ListLemmas.{drop-next}
use Rattle.boxes.specs.Frames.{side_of, is_left}
use Rattle.boxes.specs.Table.{cell_in, cell_of, row_of}
use Rattle.boxes.specs.declared.frames.PageKind.{PageKind}
use Rattle.boxes.specs.declared.frames.PageKind.TheVariants.{Flow, Blank, Notes}
use Rattle.boxes.specs.declared.table.PageCell.{PageCell}
use Rattle.boxes.specs.declared.table.PageRow.{PageRow}
use Rattle.css_page.specs.declared.rules.PageRule.{PageRule}
use Rattle.page_seq.specs.Frames.{IsGoodTable}
use Rattle.page_ctx.specs.Bounds.{AreGoodCells, HasGoodRows, IsGoodCell}
use Rattle.page_ctx.specs.Selectors.{classes_of, takes}
use Rattle.page_ctx.specs.Tables.{page_cell, texts_of, text_of, IsTable, CellsSuffice, six_pages, row_by}

-- the pseudo-classes of a page are those of its cell
pub six_is : (index : ℕ) (kind : PageKind) → slice_get six_pages (cell_of index kind) ≡ Some (classes_of index kind)
six_is index kind = by (index == 1) (is_left (side_of index)) refl refl kind
  where
    first : (k : PageKind) → slice_get six_pages (cell_of 1 k) ≡ Some (classes_of 1 k)
    first Flow = refl
    first Blank = refl
    first Notes = refl

    by : (a b : Bool) → (index == 1) ≡ a → is_left (side_of index) ≡ b → (k : PageKind) → slice_get six_pages (cell_of index k) ≡ Some (classes_of index k)
    by true b ea eb k = subst (λ i. slice_get six_pages (cell_of i k) ≡ Some (classes_of i k)) (sym (eqb-true index 1 ea)) (first k)
    by false true ea eb Flow = rw (ea, eb) refl
    by false true ea eb Blank = rw (ea, eb) refl
    by false true ea eb Notes = rw (ea, eb) refl
    by false false ea eb Flow = rw (ea, eb) refl
    by false false ea eb Blank = rw (ea, eb) refl
    by false false ea eb Notes = rw (ea, eb) refl

pub cells_suffice : CellsSuffice
cells_suffice s name i j k l same =
    let one = six_is i k in
    let other = six_is j l in
    let there : slice_get six_pages (cell_of i k) ≡ slice_get six_pages (cell_of j l) = ap (slice_get six_pages) same in
    let classes : classes_of i k ≡ classes_of j l = cc in
    ap (takes s name) classes

row_there : (rows : List PageRow) (name : NameId) (row : PageRow) → slice_get rows name.0 ≡ Some row → row_of rows name ≡ Some row
row_there rows name row e = rw e refl

row_past : (rows : List PageRow) (name : NameId) → slice_get rows name.0 ≡ None → row_of rows name ≡ slice_get rows 0
row_past rows name e = rw e refl

cell_there : (rules : List PageRule) (text : List ℕ) (index : ℕ) (kind : PageKind) → cell_in (Some (row_by rules text)) (cell_of index kind) ≡ Some (page_cell rules text (classes_of index kind))
cell_there rules text index kind = slice_get-map (page_cell rules text) six_pages (cell_of index kind) ∙ ap (option_map (page_cell rules text)) (six_is index kind)

pub is_table : (rules : List PageRule) (names : List (List ℕ)) → IsTable rules names (map (row_by rules) (texts_of names))
is_table rules names index name kind = by (slice_get (texts_of names) name.0) refl
  where
    at : (o : Option (List ℕ)) → slice_get (texts_of names) name.0 ≡ o → slice_get (map (row_by rules) (texts_of names)) name.0 ≡ option_map (row_by rules) o
    at o e = slice_get-map (row_by rules) (texts_of names) name.0 ∙ ap (option_map (row_by rules)) e

    is : (o : Option (List ℕ)) → slice_get (texts_of names) name.0 ≡ o → row_of (map (row_by rules) (texts_of names)) name ≡ Some (row_by rules (unwrap_or o []))
    is None e = row_past (map (row_by rules) (texts_of names)) name (at None e)
    is (Some text) e = row_there (map (row_by rules) (texts_of names)) name (row_by rules text) (at (Some text) e)

    by : (o : Option (List ℕ)) → slice_get (texts_of names) name.0 ≡ o → cell_in (row_of (map (row_by rules) (texts_of names)) name) (cell_of index kind) ≡ Some (page_cell rules (text_of names name) (classes_of index kind))
    by o e = ap (λ r. cell_in r (cell_of index kind)) (is o e) ∙ cell_there rules (unwrap_or o []) index kind ∙ ap (λ x. Some (page_cell rules (unwrap_or x []) (classes_of index kind))) (sym e)

-- the row of one more name
pub rows_more : {A : Type 0} (f : List ℕ → A) (rows new all : List A) (names : List (List ℕ)) (number : ℕ) (text : List ℕ) (row : A) → slice_get names number ≡ Some text → row ≡ f text
    → new ≡ rows ++ row ∷ [] → rows ++ map f (drop number names) ≡ all → new ++ map f (drop (number + 1) names) ≡ all
rows_more f rows new all names number text row at is pushed before =
    let n : suc number ≡ number + 1 = omega arith in
    let one : new ≡ rows ++ f text ∷ [] = pushed ∙ ap (λ r. rows ++ r ∷ []) is in
    let rest : f text ∷ map f (drop (suc number) names) ≡ map f (drop number names) = sym (ap (map f) (drop-next names number text at)) in
    subst (λ k. new ++ map f (drop k names) ≡ all) n (ap (λ z. z ++ map f (drop (suc number) names)) one ∙ append_assoc rows (f text ∷ []) (map f (drop (suc number) names)) ∙ ap (λ z. rows ++ z) rest ∙ before)

-- the row of no name
pub rows_first : {A : Type 0} (f : List ℕ → A) (new : List A) (names : List (List ℕ)) (row : A) → row ≡ f [] → new ≡ [] ++ row ∷ [] → new ++ map f (drop 1 names) ≡ map f (texts_of names)
rows_first f new names row is pushed = ap (λ z. z ++ map f (drop 1 names)) (pushed ∙ ap (λ r. r ∷ []) is)

-- by two equal values
pub both : {A B C : Type 0} (f : A → B → C) {a b : A} {x y : B} → a ≡ b → x ≡ y → f a x ≡ f b y
both f {b = b} {x = x} e g = ap (λ z. f z x) e ∙ ap (f b) g

-- six good cells
pub six_good : (a b c d e f : PageCell) → IsGoodCell a → IsGoodCell b → IsGoodCell c → IsGoodCell d → IsGoodCell e → IsGoodCell f → All IsGoodCell (a ∷ b ∷ c ∷ d ∷ e ∷ f ∷ [])
six_good a b c d e f ga gb gc gd ge gf zero x l = ga
six_good a b c d e f ga gb gc gd ge gf (suc zero) x l = gb
six_good a b c d e f ga gb gc gd ge gf (suc (suc zero)) x l = gc
six_good a b c d e f ga gb gc gd ge gf (suc (suc (suc zero))) x l = gd
six_good a b c d e f ga gb gc gd ge gf (suc (suc (suc (suc zero)))) x l = ge
six_good a b c d e f ga gb gc gd ge gf (suc (suc (suc (suc (suc zero))))) x l = gf
six_good a b c d e f ga gb gc gd ge gf (suc (suc (suc (suc (suc (suc k)))))) x l = absurd (omega (arith, l))

-- the rows of the names are there, if no more than the one of no name
pub rows_good : (rules : List PageRule) (names : List (List ℕ)) (rows : List PageRow) → rows ≡ map (row_by rules) (texts_of names) → All AreGoodCells rows → HasGoodRows rows
rows_good rules names rows is good = record { some = subst (λ (r : List PageRow). 0 < length r) (sym is) (omega arith); cells = good }

-- good page boxes have good frames
pub frames_good : (rows : List PageRow) → HasGoodRows rows → IsGoodTable rows
frames_good rows good = record { some = good.some; cells = λ k row at n cell in_row. (good.cells k row at n cell in_row).frame }

-- a list that six are pushed to
pub six_pushed : {A : Type 0} (old one two three four five six : List A) (a b c d e f : A) → one ≡ old ++ a ∷ [] → two ≡ one ++ b ∷ [] → three ≡ two ++ c ∷ [] → four ≡ three ++ d ∷ []
    → five ≡ four ++ e ∷ [] → six ≡ five ++ f ∷ [] → six ≡ old ++ (a ∷ b ∷ c ∷ d ∷ e ∷ f ∷ [])
six_pushed old one two three four five six a b c d e f first second third fourth fifth last =
    let at_2 : two ≡ old ++ (a ∷ b ∷ []) = second ∙ ap (λ z. z ++ b ∷ []) first ∙ append_assoc old (a ∷ []) (b ∷ []) in
    let at_3 : three ≡ old ++ (a ∷ b ∷ c ∷ []) = third ∙ ap (λ z. z ++ c ∷ []) at_2 ∙ append_assoc old (a ∷ b ∷ []) (c ∷ []) in
    let at_4 : four ≡ old ++ (a ∷ b ∷ c ∷ d ∷ []) = fourth ∙ ap (λ z. z ++ d ∷ []) at_3 ∙ append_assoc old (a ∷ b ∷ c ∷ []) (d ∷ []) in
    let at_5 : five ≡ old ++ (a ∷ b ∷ c ∷ d ∷ e ∷ []) = fifth ∙ ap (λ z. z ++ e ∷ []) at_4 ∙ append_assoc old (a ∷ b ∷ c ∷ d ∷ []) (e ∷ []) in
    last ∙ ap (λ z. z ++ f ∷ []) at_5 ∙ append_assoc old (a ∷ b ∷ c ∷ d ∷ e ∷ []) (f ∷ [])
