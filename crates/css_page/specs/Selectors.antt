-- Page selectors: a name, pseudo-classes, or both (css-page-3, 3).
use Rattle.std.specs.Prelude.{ℕ, ◌-◌, ◌^◌, min, Bool, true, false, ◌||◌, if◌then◌else◌, List, [], ◌∷◌, count_by, codes, Option, Some, None}
use Rattle.css_tok.specs.declared.kind.CssKind.TheVariants as kind
use Rattle.css_tok.specs.Tokens.{tokens_of}
use Rattle.css_words.specs.Input.{kept}
use Rattle.css_words.specs.Parser.{Parser, Outcome, ◌>>=◌, ◌>>◌, pure, refuse, peek, spaces}
use Rattle.css_words.specs.Repeat.{after_mark, comma_list, many}
use Rattle.css_words.specs.Words.{of_kind, is_none, is_mark, next_ident}
use Rattle.css_words.specs.declared.reader.Skipped.TheVariants as skipped
use Rattle.css_content.specs.Basics.{word_in}
use Rattle.css_page.specs.declared.selectors.PageSelector.{PageSelector}
use Rattle.css_page.specs.declared.selectors.PseudoPage.{PseudoPage}
use Rattle.css_page.specs.declared.selectors.PseudoPage.TheVariants as pseudo

-- the pseudo-classes of pages by their names (css-page-3, 3.2)
unfoldable pub pseudo_pages : List (List ℕ × PseudoPage)
pseudo_pages =
    (codes "first", pseudo.First) ∷ (codes "left", pseudo.Left) ∷ (codes "right", pseudo.Right) ∷
    (codes "blank", pseudo.Blank) ∷ []

-- whether two pseudo-classes are the same
abbrev pub is_same : PseudoPage → PseudoPage → Bool
is_same pseudo.First pseudo.First = true
is_same pseudo.Left pseudo.Left = true
is_same pseudo.Right pseudo.Right = true
is_same pseudo.Blank pseudo.Blank = true
is_same _ _ = false

-- how often a pseudo-class stands in a list; the number stays at the greatest of its type
unfoldable pub count_of : PseudoPage → List PseudoPage → ℕ
count_of p ps = min (count_by (λ other. is_same p other) ps) (2 ^ 32 - 1)

-- a selector with this name and these pseudo-classes
abbrev pub selector_of : Option (List ℕ) → List PseudoPage → PageSelector
selector_of name ps = record {
  name = name;
  firsts = count_of pseudo.First ps;
  blanks = count_of pseudo.Blank ps;
  lefts = count_of pseudo.Left ps;
  rights = count_of pseudo.Right ps;
}

-- a name, if there is one, and any number of pseudo-classes, each after a colon, with nothing between them
unfoldable pub name_and_pseudos : Parser PageSelector
name_and_pseudos = do
  name ← next_ident
  ps ← many (after_mark 58 (word_in pseudo_pages))
  _ ← spaces
  pure (selector_of name ps)

-- a selector isn't empty
unfoldable pub selector : Parser PageSelector
selector = do
  _ ← spaces
  t ← peek
  if of_kind kind.Ident t || is_mark 58 t then name_and_pseudos else refuse

-- an empty list is one selector that asks nothing
abbrev pub every_page : List PageSelector
every_page = selector_of None [] ∷ []

-- a list of selectors with commas between them, which may be empty
unfoldable pub selectors : Parser (List PageSelector)
selectors = do
  _ ← spaces
  t ← peek
  if is_none t then pure every_page else comma_list selector

-- a reading that leaves nothing
unfoldable pub whole_list : Parser (List PageSelector)
whole_list = do
  ss ← selectors
  t ← peek
  if is_none t then pure ss else refuse

-- what was read, where there is a reading
abbrev pub read_by : Outcome (List PageSelector) → Option (List PageSelector)
read_by None = None
read_by (Some r) = Some r.0

-- the selectors of a list; comments are nothing in it
unfoldable pub read_selectors : List ℕ → Option (List PageSelector)
read_selectors text = read_by (whole_list (kept skipped.Comments (tokens_of text)))
