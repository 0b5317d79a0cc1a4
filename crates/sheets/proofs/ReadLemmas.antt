-- What texts are read as, and the sheets of a run one after another.
use Rattle.std.proofs.Common.{◌≡◌, ℕ, suc, ◌+◌, ◌-◌, ◌<◌, ◌≤◌, true, false, nat_lt, List, [], ◌∷◌, ◌++◌, Some, length, length-append, map, option_map, slice_get, subst, take, drop, refl, ap, sym, ◌∙◌, arith}
use Rattle.std.specs.Prelude.{Result, Ok, Err}
use Rattle.std.specs.List.{AllZip, list_any}
use Rattle.std.proofs.Math.Seq.{drop-cons}
use Rattle.std.proofs.lemmas.Bool.Decides.{nat_tests}
use Rattle.std.proofs.lemmas.List.{drop_all, get_or-append-add, length-map, take_all}
use Rattle.std.proofs.lemmas.Option.{get_or_from_slice_get, slice_get-map, slice_get_read, slice_get_within}
use Rattle.bk_num.proofs.ListLemmas.{get-keep, pairs-more}
use Rattle.bk_num.specs.Limits.{most_rules, most_sheets}
use Rattle.css_tok.specs.Tokens.{tokens_of}
use Rattle.css_rules.specs.Pages.{PageOf}
use Rattle.css_rules.specs.Sheet.{RuleOf, IsSheet, rule_count, HaveOneReading}
use Rattle.sheets.specs.Sheets.{Sheet, author_texts}
use Rattle.sheets.specs.Readings.{SheetOf, AreReadings, has_many}
use Rattle.css_page.specs.declared.rules.PageRule.{PageRule}
use Rattle.sheets.proofs.PageLemmas.{authors-next}
use Rattle.sheets.specs.Sources.{has_many_rules, author_source, default_source, authors_of, sources_of, ArePageRules, IsReadFrom, IsAuthorOf, AreFew, AreRead}
use Rattle.sheets.specs.declared.read.Sheets.{Sheets}
use Rattle.sheets.specs.declared.read.SheetsErr.{SheetsErr}
use Rattle.sheets.specs.declared.read.SheetsErr.TheVariants as err
use Rattle.cascade.specs.declared.sheet.ReadSheet.{ReadSheet}
use Rattle.sheets.specs.Laws.{TextsAreRead}

abbrev sheet_by : List RuleOf → List PageOf → SheetOf
sheet_by rs ps = record { rules = rs; pages = ps }

pub texts-read : HaveOneReading → TextsAreRead
texts-read law = (λ text. sheet_by (law (tokens_of text)).0.0 (law (tokens_of text)).0.1, record { is = λ text rs ps h. let w = (law (tokens_of text)).0 in let one = (law (tokens_of text)).1 w.0 rs w.1 ps w.2 h in ap (λ x. sheet_by x w.1) one.0 ∙ ap (sheet_by rs) one.1 })

lt-true : (a b : ℕ) → a < b → nat_lt a b ≡ true
lt-true a b h = grind (arith, nat_tests)

lt-false : (a b : ℕ) → b ≤ a → nat_lt a b ≡ false
lt-false a b h = grind (arith, nat_tests)

module _ (reading : List ℕ → SheetOf) (text : List ℕ) (h : AreReadings reading) where
  pub read-few : (rs : List RuleOf) (ps : List PageOf) → IsSheet (tokens_of text) rs ps → rule_count rs ps ≤ most_rules → has_many (reading text) ≡ false
  read-few rs ps s few = ap has_many (h.is text rs ps s) ∙ lt-false most_rules (rule_count rs ps) few

  pub read-many : HaveOneReading → ((rs : List RuleOf) (ps : List PageOf) → IsSheet (tokens_of text) rs ps → most_rules < rule_count rs ps) → has_many (reading text) ≡ true
  read-many law many = let w = (law (tokens_of text)).0 in ap has_many (h.is text w.0 w.1 w.2) ∙ lt-true most_rules (rule_count w.0 w.1) (many w.0 w.1 w.2)

-- ---- one sheet after another

-- no sheet of those before has too many rules
abbrev pub IsLeft : (List ℕ → SheetOf) → List (List ℕ) → ℕ → Type 0
IsLeft reading texts i = list_any (has_many_rules reading) (drop i texts) ≡ list_any (has_many_rules reading) texts

module _ (texts : List (List ℕ)) (i : ℕ) (text : List ℕ) (is : slice_get texts i ≡ Some text) where
  drop_next : drop i texts ≡ text ∷ drop (i + 1) texts
  drop_next =
      let next : suc i ≡ i + 1 = omega arith in
      drop-cons texts i text (slice_get_within texts i text is) ∙ ap (λ x. x ∷ drop (suc i) texts) (get_or_from_slice_get texts i text text is) ∙ ap (λ j. text ∷ drop j texts) next

  pub left-step : (reading : List ℕ → SheetOf) → has_many (reading text) ≡ false → IsLeft reading texts i → IsLeft reading texts (i + 1)
  left-step reading few left = sym (ap (list_any (has_many_rules reading)) drop_next ∙ rw few refl) ∙ left

  pub left-many : (reading : List ℕ → SheetOf) → has_many (reading text) ≡ true → IsLeft reading texts i → list_any (has_many_rules reading) texts ≡ true
  left-many reading many left = sym left ∙ ap (list_any (has_many_rules reading)) drop_next ∙ rw many refl

  -- the sheets read so far, and one more
  pub read-next : (read : List ReadSheet) (s : ReadSheet) → AllZip IsReadFrom (sources_of (take i texts)) read → IsReadFrom (author_source text) s → AllZip IsReadFrom (sources_of (take (i + 1) texts)) (read ++ s ∷ [])
  read-next read s before one = rw (ap (λ l. default_source ∷ l) (authors-next texts text i is)) (pairs-more IsReadFrom (sources_of (take i texts)) read (author_source text) s before one)

pub left-end : (reading : List ℕ → SheetOf) (texts : List (List ℕ)) (i : ℕ) → length texts ≤ i → IsLeft reading texts i → list_any (has_many_rules reading) texts ≡ false
left-end reading texts i h left = let none : drop i texts ≡ [] = drop_all i texts h in sym left ∙ ap (list_any (has_many_rules reading)) none

-- all sheets are read
pub all_read : (texts : List (List ℕ)) (i : ℕ) (read : List ReadSheet) → length texts ≤ i → AllZip IsReadFrom (sources_of (take i texts)) read → AllZip IsReadFrom (sources_of texts) read
all_read texts i read h all = subst (λ (l : List (List ℕ)). AllZip IsReadFrom (sources_of l) read) (take_all i texts h) all

pub all_pages : (texts : List (List ℕ)) (i : ℕ) (rules : List PageRule) → length texts ≤ i → ArePageRules (authors_of (take i texts)) rules → ArePageRules (authors_of texts) rules
all_pages texts i rules h all = subst (λ (l : List (List ℕ)). ArePageRules (authors_of l) rules) (take_all i texts h) all

-- ---- a sheet that isn't read

module _ (reading : List ℕ → SheetOf) (texts : List (List ℕ)) where
  pub not-few : (text : List ℕ) (x : SheetsErr) → (has_many (reading text) ≡ true → list_any (has_many_rules reading) texts ≡ true) → IsAuthorOf (reading text) (Err x) → AreFew reading texts (Err x)
  not-few text err.Rules many h = many h
  not-few text err.Sheets many h = h
  not-few text err.NoMemory many h = tt

  -- ---- the limit of sheets

  pub read-few-sheets : (r : Result Sheets SheetsErr) → length texts ≤ most_sheets → AreFew reading texts r → AreRead reading texts r
  read-few-sheets (Ok s) few h = (lt-false most_sheets (length texts) few, h)
  read-few-sheets (Err err.Rules) few h = (lt-false most_sheets (length texts) few, h)
  read-few-sheets (Err err.Sheets) few h = absurd h
  read-few-sheets (Err err.NoMemory) few h = tt

  pub sheets-many : most_sheets < length texts → AreRead reading texts (Err err.Sheets)
  sheets-many h = lt-true most_sheets (length texts) h

get-after : (xs ys : List (List ℕ)) (k : ℕ) (y : List ℕ) → slice_get ys k ≡ Some y → slice_get (xs ++ ys) (length xs + k) ≡ Some y
get-after xs ys k y h =
    let within = slice_get_within ys k y h in
    slice_get_read (xs ++ ys) (length xs + length ys) (length xs + k) y (sym (length-append xs ys)) (omega arith) (sym (get_or-append-add xs ys k y ∙ get_or_from_slice_get ys k y y h))

-- how many texts there are, and which stands at a place
module _ (elements : List Sheet) (files : List (List ℕ)) where
  pub texts-many : length (author_texts elements files) ≡ length files + length elements
  texts-many = length-append files (map (λ s. s.text) elements) ∙ ap (λ n. length files + n) (length-map elements (λ s. s.text))

  pub file-at : (k : ℕ) (text : List ℕ) → slice_get files k ≡ Some text → slice_get (author_texts elements files) k ≡ Some text
  file-at k text is = get-keep files (map (λ s. s.text) elements) k text is

  pub element-at : (k : ℕ) (s : Sheet) → length files ≤ k → slice_get elements (k - length files) ≡ Some s → slice_get (author_texts elements files) k ≡ Some s.text
  element-at k s low is =
      let place : length files + (k - length files) ≡ k = omega arith in
      let text : slice_get (map (λ s. s.text) elements) (k - length files) ≡ Some s.text = slice_get-map (λ s. s.text) elements (k - length files) ∙ ap (option_map (λ s. s.text)) is in
      subst (λ (n : ℕ). slice_get (author_texts elements files) n ≡ Some s.text) place (get-after files (map (λ s. s.text) elements) (k - length files) s.text text)
