-- The grammar of selectors (Selectors 3, 10.1), over the tokens without comments.
use Rattle.std.specs.Prelude.{ℕ, zero, suc, Bool, true, false, not, ◌&&◌, ◌||◌, if◌then◌else◌, ◌==◌}
use Rattle.std.specs.Prelude.{List, [], ◌∷◌, ◌++◌, length, codes, Option, Some, None, option_map}
use Rattle.std.specs.List.{flat_map}
use Rattle.std.specs.Option.{option_or}
use Rattle.bk_num.specs.declared.values.Pseudo.{Pseudo}
use Rattle.bk_num.specs.declared.values.Pseudo.TheVariants as pseudo
use Rattle.css_tok.specs.declared.kind.CssKind.TheVariants as kind
use Rattle.css_tok.specs.Tokens.{Item, tokens_of}
use Rattle.css_words.specs.Input.{kept}
use Rattle.css_words.specs.Parser.{Outcome, Parser, ◌>>=◌, ◌>>◌, pure, refuse, on_some, peek, second, advance, spaces}
use Rattle.css_words.specs.Repeat.{comma_list, many}
use Rattle.css_words.specs.Words.{of_kind, is_mark, is_named, value, ident, lower_ident, expect}
use Rattle.css_words.specs.declared.reader.Skipped.TheVariants as skipped
use Rattle.selectors.specs.AnPlusB.{an_plus_b}
use Rattle.selectors.specs.Selectors.{SelectorView}
use Rattle.selectors.specs.Specificity.{is_pseudo}
use Rattle.selectors.specs.declared.types.AttrTest.{AttrTest}
use Rattle.selectors.specs.declared.types.AttrTest.TheVariants as by
use Rattle.selectors.specs.declared.types.Test.{Test}
use Rattle.selectors.specs.declared.types.Test.TheVariants as test
use Rattle.selectors.specs.declared.types.Plain.{Plain}
use Rattle.selectors.specs.declared.types.Compound.{Compound}
use Rattle.selectors.specs.declared.types.Join.{Join}
use Rattle.selectors.specs.declared.types.Join.TheVariants as join
use Rattle.selectors.specs.declared.grammar.Kinship.{Kinship}
use Rattle.selectors.specs.declared.grammar.Kinship.TheVariants.{Named, Any, Bare}
use Rattle.selectors.specs.declared.grammar.SimpleSelector.{SimpleSelector}
use Rattle.selectors.specs.declared.grammar.SimpleSelector.TheVariants as part

-- an id selector: a Hash token
unfoldable pub id : Parser Test
id = do
  t ← peek
  advance
  pure (test.Id (value t))

-- a class selector: `.` and a name
unfoldable pub class : Parser Test
class = do
  advance
  text ← ident
  pure (test.Class text)

-- `~`, `|`, `^`, `$` and `*` before `=`
unfoldable pub attr_mark : Option Item → Option AttrTest
attr_mark t =
    if is_mark 126 t then Some by.Word else (if is_mark 124 t then Some by.Dash
    else (if is_mark 94 t then Some by.Starts
    else (if is_mark 36 t then Some by.Ends else (if is_mark 42 t then Some by.Holds else None))))

-- what stands between an attribute's name and its value
unfoldable pub attr_test : Parser AttrTest
attr_test = do
  t ← peek
  if is_mark 61 t then (advance >> pure by.Equals)
      else on_some (attr_mark t) refuse (λ o. advance >> (expect 61 >> pure o))

-- the value of an attribute selector: a name or a string
unfoldable pub attr_value : Parser (List ℕ)
attr_value = do
  t ← peek
  if of_kind kind.Ident t || of_kind kind.Str t then (advance >> pure (value t)) else refuse

-- the test, the value and the `]` of an attribute selector
unfoldable pub attr_rest : List ℕ → Parser Test
attr_rest key = do
  o ← attr_test
  spaces
  v ← attr_value
  spaces
  _ ← expect 93
  pure (test.Attr key o v)

-- `[a]`, and `[a=v]` and its kin
unfoldable pub attribute : Parser Test
attribute = do
  advance
  spaces
  key ← lower_ident
  spaces
  t ← peek
  if is_mark 93 t then (advance >> pure (test.Attr key by.Has [])) else attr_rest key

-- a token is this name, in any case of letters
abbrev pub is_word : Option Item → List ℕ → Bool
is_word t word = is_named kind.Ident t word

-- the pseudo-classes that are a name alone
unfoldable pub place_class : Option Item → Option Test
place_class t =
    if is_word t (codes "root") then Some test.Root
    else (if is_word t (codes "first-child") then Some test.FirstChild
    else (if is_word t (codes "last-child") then Some test.LastChild
    else (if is_word t (codes "only-child") then Some test.OnlyChild else None)))

-- the other pseudo-classes without an argument
unfoldable pub other_class : Option Item → Option Test
other_class t =
    if is_word t (codes "first-of-type") then Some test.FirstOfType
    else (if is_word t (codes "last-of-type") then Some test.LastOfType
    else (if is_word t (codes "empty") then Some test.Empty
    else (if is_word t (codes "link") then Some test.Link else None)))

-- a pseudo-class without an argument
unfoldable pub simple_of : Option Item → Option Test
simple_of t = option_or (place_class t) (other_class t)

-- `:nth-child( ` an+b ` )`
unfoldable pub nth : Parser Test
nth = do
  advance
  advance
  spaces
  p ← an_plus_b
  spaces
  _ ← expect 41
  pure (test.Nth p.0 p.1)

-- `:` and the function of a name
abbrev pub is_function : Option Item → Option Item → List ℕ → Bool
is_function t s name = is_mark 58 t && is_named kind.Func s name

-- a test is there
abbrev pub some_test : Parser Test → Parser (Option Test)
some_test p = p >>= (λ x. pure (Some x))

-- a pseudo-class without an argument, of two tokens, if it is one
abbrev pub simple : Option Test → Parser (Option Test)
simple o = on_some o (pure None) (λ x. advance >> (advance >> pure (Some x)))

-- a pseudo-class other than `:not`, or none
unfoldable pub pseudo_class : Parser (Option Test)
pseudo_class = do
  t ← peek
  s ← second
  if is_function t s (codes "nth-child") then some_test nth
      else (if is_mark 58 t then simple (simple_of s) else pure None)

-- a simple selector other than a type and `:not`, or none of these
unfoldable pub next_test : Parser (Option Test)
next_test = do
  t ← peek
  if of_kind kind.Hash t then some_test id
      else (if is_mark 46 t then some_test class
      else (if is_mark 91 t then some_test attribute else pseudo_class))

-- simple selectors other than types and `:not`, as many as come
unfoldable pub all_tests : Parser (List Test)
all_tests = many next_test

-- a type or `*`, or neither
unfoldable pub type_name : Parser Kinship
type_name = do
  t ← peek
  if of_kind kind.Ident t then (lower_ident >>= (λ n. pure (Named n)))
      else (if is_mark 42 t then (advance >> pure Any) else pure Bare)

-- nothing says a type
abbrev pub is_bare : Kinship → Bool
is_bare Bare = true
is_bare _ = false

-- the type that is asked for, if one is
abbrev pub name_of : Kinship → Option (List ℕ)
name_of (Named n) = Some n
name_of _ = None

-- the compound of a `:not`, which isn't empty
unfoldable pub plain : Parser Plain
plain = do
  kin ← type_name
  found ← all_tests
  if is_bare kin && length found == 0 then refuse else pure (record { name = name_of kin; tests = found })

-- the argument of `:not`: one compound without a `:not` (Selectors 3, 6.6.7)
unfoldable pub negation : Parser Plain
negation = do
  advance
  advance
  spaces
  p ← plain
  spaces
  _ ← expect 41
  pure p

-- a simple selector other than a type, or none
unfoldable pub next_part : Parser (Option SimpleSelector)
next_part = do
  t ← peek
  s ← second
  if is_function t s (codes "not") then (negation >>= (λ p. pure (Some (part.Not p))))
      else (next_test >>= (λ o. pure (option_map (λ x. part.Test x) o)))

-- the tests of a compound, and its negations, each in their order
abbrev pub Parts : Type 0
Parts = List Test × List Plain

-- the test that a simple selector is
abbrev pub tests_of : SimpleSelector → List Test
tests_of (part.Test x) = x ∷ []
tests_of (part.Not x) = []

-- the argument of a `:not`
abbrev pub nots_of : SimpleSelector → List Plain
nots_of (part.Test x) = []
nots_of (part.Not x) = x ∷ []

-- tests and arguments of `:not`, each in their order
abbrev pub parts_of : List SimpleSelector → Parts
parts_of ps = (flat_map tests_of ps, flat_map nots_of ps)

-- one more of them
abbrev pub with_part : Parts → SimpleSelector → Parts
with_part p (part.Test x) = (p.0 ++ x ∷ [], p.1)
with_part p (part.Not x) = (p.0, p.1 ++ x ∷ [])

-- simple selectors other than types, as many as come
unfoldable pub all_parts : Parser Parts
all_parts = many next_part >>= (λ ps. pure (parts_of ps))

-- neither a test nor a `:not`
abbrev pub has_none : Parts → Bool
has_none p = length p.0 == 0 && length p.1 == 0

-- a compound, which is empty only before a pseudo-element
unfoldable pub compound : Parser Compound
compound = do
  kin ← type_name
  found ← all_parts
  t ← peek
  if is_bare kin && has_none found && not (is_mark 58 t) then refuse
      else pure (record { plain = record { name = name_of kin; tests = found.0 }; nots = found.1 })

-- the pseudo-elements after `:` and after `::`
unfoldable pub old_pseudo : Option Item → Option Pseudo
old_pseudo t =
    if is_word t (codes "before") then Some pseudo.Before
    else (if is_word t (codes "after") then Some pseudo.After else None)

-- a pseudo-element after `::`
unfoldable pub new_pseudo : Option Item → Option Pseudo
new_pseudo t =
    if is_word t (codes "footnote-call") then Some pseudo.Call
    else (if is_word t (codes "footnote-marker") then Some pseudo.Marker else old_pseudo t)

-- a pseudo-element after one `:` or after two
abbrev pub pseudo_of : Bool → Option Item → Option Pseudo
pseudo_of old t = if old then old_pseudo t else new_pseudo t

-- the name of a pseudo-element
unfoldable pub pseudo_name : Bool → Parser Pseudo
pseudo_name old = do
  t ← peek
  on_some (pseudo_of old t) refuse (λ p. advance >> pure p)

-- a pseudo-element, or the element itself
unfoldable pub pseudo_element : Parser Pseudo
pseudo_element = do
  t ← peek
  s ← second
  if is_mark 58 t then (if is_mark 58 s then (advance >> (advance >> pseudo_name false))
      else (advance >> pseudo_name true))
      else pure pseudo.Element

-- the combinator that a mark is
unfoldable pub combinator_of : Option Item → Option Join
combinator_of t =
    if is_mark 62 t then Some join.Child
    else (if is_mark 43 t then Some join.Next
    else (if is_mark 126 t then Some join.Later else None))

-- the end of a selector in a list
unfoldable pub is_over : Option Item → Bool
is_over None = true
is_over (Some t) = is_mark 44 (Some t)

-- white space alone is a combinator, but not before the end of a selector
abbrev pub space_join : Bool → Bool → Parser (Option Join)
space_join over space = if over then pure None else (if space then pure (Some join.Inside) else refuse)

-- a combinator, or none at the end of the selector
unfoldable pub combinator : Parser (Option Join)
combinator = do
  t ← peek
  spaces
  s ← peek
  on_some (combinator_of s) (space_join (is_over s) (of_kind kind.Space t)) (λ j. advance >> (spaces >> pure (Some j)))

-- the combinator and the compound that follow, or none at the end of the selector
abbrev pub next_compound : Pseudo → Parser (Option (Join × Compound))
next_compound p = do
  j ← combinator
  on_some j (pure None) (λ k. if is_pseudo p then refuse else (compound >>= (λ c. pure (Some (k, c)))))

-- what follows a compound: the pseudo-element that ends the selector, or one more combinator and compound
abbrev pub next_turn : List Compound → List Join → Parser (Option Pseudo × List Compound × List Join)
next_turn parts joins = do
  p ← pseudo_element
  c ← next_compound p
  on_some c (pure (Some p, parts, joins)) (λ k. pure (None, parts ++ k.1 ∷ [], joins ++ k.0 ∷ []))

-- The number bounds the compounds, of which one was read.
unfoldable pub rest_from : ℕ → List Compound → List Join → Parser SelectorView
rest_from zero parts joins = refuse
rest_from (suc n) parts joins = do
  p ← pseudo_element
  c ← next_compound p
  on_some c (pure (record { parts = parts; joins = joins; pseudo = p }))
      (λ k. rest_from n (parts ++ k.1 ∷ []) (joins ++ k.0 ∷ []))

-- one to sixteen compounds and a pseudo-element or none, with white space round them
unfoldable pub selector : Parser SelectorView
selector = do
  spaces
  c ← compound
  rest_from 16 (c ∷ []) []

-- selectors with commas between them; nothing follows, since a selector ends at a comma or at the end
abbrev pub selectors : Parser (List SelectorView)
selectors = comma_list selector

-- what was read, without what is left
abbrev pub read_of : Outcome (List SelectorView) → Option (List SelectorView)
read_of None = None
read_of (Some p) = Some p.0

-- the selectors that a text is read as, or none where it has no reading
abbrev pub selectors_in : List ℕ → Option (List SelectorView)
selectors_in text = read_of (selectors (kept skipped.Comments (tokens_of text)))
