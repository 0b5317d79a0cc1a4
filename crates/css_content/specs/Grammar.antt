-- Lists of content, of counters and of named strings (CSS 2.1, 12.2 and 12.4; css-gcpm-3, 1.1 and 1.2; css-page-3,
-- 7.1).
use Rattle.std.specs.Prelude.{ℕ, ◌&&◌, ◌||◌, if◌then◌else◌, List, [], ◌∷◌, codes, Option, Some, None, is_some, ℤ, nat_eq}
use Rattle.std.specs.Cmp.Lexicographic.{pointwise}
use Rattle.bk_num.specs.declared.values.NumStyle.{NumStyle}
use Rattle.bk_num.specs.declared.values.NumStyle.TheVariants as style
use Rattle.css_tok.specs.declared.kind.CssKind.TheVariants as kind
use Rattle.css_tok.specs.Tokens.{Item}
use Rattle.css_words.specs.Parser.{Parser, ◌>>=◌, ◌>>◌, pure, refuse, on_some, peek, second, advance}
use Rattle.css_words.specs.Repeat.{first_and, many, fewer_than, comma_list}
use Rattle.css_words.specs.Table.{find_word}
use Rattle.css_words.specs.Words.{of_kind, is_none, is_mark, is_named, slice_of, value, ident, lower_ident, string, expect, close}
use Rattle.style.specs.declared.content.Keyword.{Keyword}
use Rattle.style.specs.declared.content.Keyword.TheVariants as keyword
use Rattle.style.specs.declared.content.Link.{Link}
use Rattle.style.specs.declared.content.Link.TheVariants as link
use Rattle.style.specs.declared.content.Part.{Part}
use Rattle.style.specs.declared.content.Part.TheVariants as part
use Rattle.style.specs.Counters.{is_page_counter, most_counters}
use Rattle.css_content.specs.Basics.{word_argument, whole}
use Rattle.css_content.specs.Numerals.{styles}
use Rattle.css_content.specs.declared.content.ContentPlace.{ContentPlace}
use Rattle.css_content.specs.declared.content.ContentPlace.TheVariants as place
use Rattle.css_content.specs.declared.content.ContentFunction.{ContentFunction}
use Rattle.css_content.specs.declared.content.ContentFunction.TheVariants as function

-- ---- parts of content

-- the functions of content by their names (CSS 2.1, 12.2; css-gcpm-3, 1.1; css-content-3, 4)
unfoldable pub functions : List (List ℕ × ContentFunction)
functions =
    (codes "attr", function.Attr) ∷ (codes "counter", function.Counter) ∷ (codes "counters", function.Counters) ∷
    (codes "target-counter", function.Target) ∷ (codes "content", function.Own) ∷ (codes "string", function.Running) ∷
    []

-- a comma and a style, or `decimal`
abbrev pub style_argument : Parser NumStyle
style_argument = word_argument styles style.Decimal

-- the arguments of attr(), a name in lower case (CSS 2.1, 12.2)
unfoldable pub attr_arguments : Parser Part
attr_arguments = do
  name ← lower_ident
  _ ← close
  pure (part.Attr name)

-- `page` counts the page's number, and `pages` how many pages there are (css-page-3, 7.1)
abbrev pub page_counter : List ℕ → NumStyle → Option Part
page_counter name s =
    if is_page_counter name then Some (part.Page s)
    else (if pointwise nat_eq name (codes "pages") then Some (part.Pages s) else None)

-- every other name counts in the flow
abbrev pub flow_counter : List ℕ → NumStyle → Option Part
flow_counter name s = if is_some (page_counter name s) then None else Some (part.Counter name s)

-- what counter() prints by its name: in a margin box pages alone count, and in the flow all else
abbrev pub counter_of : ContentPlace → List ℕ → NumStyle → Option Part
counter_of place.Content name s = flow_counter name s
counter_of place.StringSet name s = flow_counter name s
counter_of place.MarginBox name s = page_counter name s

-- the arguments of counter(): a name, and a style of numerals (CSS 2.1, 12.2)
unfoldable pub counter_arguments : ContentPlace → Parser Part
counter_arguments p = do
  name ← ident
  s ← style_argument
  _ ← close
  on_some (counter_of p name s) refuse pure

-- the arguments of counters(): a name, the text between the numbers, and a style (CSS 2.1, 12.2)
unfoldable pub counters_arguments : Parser Part
counters_arguments = do
  name ← ident
  _ ← expect 44
  between ← string
  s ← style_argument
  _ ← close
  pure (part.Counters name between s)

-- `attr(name)` or `attr(name url)`
unfoldable pub link_attr : Parser Link
link_attr = do
  name ← lower_ident
  t ← peek
  if is_named kind.Ident t (codes "url") then (advance >> close >> pure (link.Attr name))
      else (close >> pure (link.Attr name))

-- the rest of `url("..")`
unfoldable pub link_url : Parser Link
link_url = do
  address ← string
  _ ← close
  pure (link.Url address)

-- a link that begins with this token: a string, an address, or an attribute (css-content-3, 4)
unfoldable pub link_of : Option Item → Parser Link
link_of t =
    if of_kind kind.Str t || of_kind kind.Url t then pure (link.Url (value t))
    else (if is_named kind.Func t (codes "url") then link_url
    else (if is_named kind.Func t (codes "attr") then link_attr else refuse))

-- the arguments of target-counter(): a link, a name, and a style (css-content-3, 4)
unfoldable pub target_arguments : Parser Part
target_arguments = do
  t ← peek
  _ ← advance
  to ← link_of t
  _ ← expect 44
  name ← ident
  s ← style_argument
  _ ← close
  pure (part.Target to name s)

-- nothing, or `text`
unfoldable pub own_arguments : Parser Part
own_arguments = do
  t ← peek
  if is_named kind.Ident t (codes "text") then (advance >> close >> pure part.Own) else (close >> pure part.Own)

-- which value of a running string is printed (css-gcpm-3, 1.1.2)
unfoldable pub keywords : List (List ℕ × Keyword)
keywords =
    (codes "first", keyword.First) ∷ (codes "start", keyword.Start) ∷ (codes "last", keyword.Last) ∷
    (codes "first-except", keyword.FirstExcept) ∷ []

-- a comma and a keyword, or `first`
abbrev pub keyword_argument : Parser Keyword
keyword_argument = word_argument keywords keyword.First

-- the arguments of string(): a name, and a keyword (css-gcpm-3, 1.2)
unfoldable pub running_arguments : Parser Part
running_arguments = do
  name ← ident
  k ← keyword_argument
  _ ← close
  pure (part.Running name k)

-- the functions that `content` and `string-set` both have
unfoldable pub flow_arguments : ContentPlace → ContentFunction → Parser Part
flow_arguments p function.Attr = attr_arguments
flow_arguments p function.Counter = counter_arguments p
flow_arguments p function.Counters = counters_arguments
flow_arguments p _ = refuse

-- target-counter() is of `content` alone, content() of `string-set` alone, and a margin box has string() and counter()
unfoldable pub arguments : ContentPlace → ContentFunction → Parser Part
arguments place.Content function.Target = target_arguments
arguments place.StringSet function.Own = own_arguments
arguments place.MarginBox function.Running = running_arguments
arguments place.MarginBox function.Counter = counter_arguments place.MarginBox
arguments place.MarginBox _ = refuse
arguments p f = flow_arguments p f

-- what a part says that begins with this token
unfoldable pub part_of : ContentPlace → Option Item → Parser Part
part_of p t =
    if of_kind kind.Str t then pure (part.Text (value t))
    else on_some (if of_kind kind.Func t then find_word functions (slice_of t) else None) refuse (arguments p)

-- a part of a list of content
unfoldable pub one_part : ContentPlace → Parser Part
one_part p = do
  t ← peek
  if is_none t then refuse else (advance >> part_of p t)

-- parts end at a comma and at the end
unfoldable pub next_part : ContentPlace → Parser (Option Part)
next_part p = do
  t ← peek
  if is_none t || is_mark 44 t then pure None else (one_part p >>= (λ x. pure (Some x)))

-- one part or more (CSS 2.1, 12.2)
unfoldable pub content_list : ContentPlace → Parser (List Part)
content_list p = first_and (one_part p) (many (next_part p))

-- `normal`, `none`, or a list
unfoldable pub content : ContentPlace → Parser (Option (List Part))
content p = do
  t ← peek
  if is_named kind.Ident t (codes "normal") || is_named kind.Ident t (codes "none") then (advance >> pure None) else
      (content_list p >>= (λ ps. pure (Some ps)))

-- ---- counters

-- a counter's name and a number, which may be left out
unfoldable pub entry : ℤ → Parser (List ℕ × ℤ)
entry other = do
  name ← ident
  t ← peek
  if of_kind kind.Number t then (whole >>= (λ n. pure (name, n))) else pure (name, other)

-- the next counter; none at the end
unfoldable pub next_entry : ℤ → Parser (Option (List ℕ × ℤ))
next_entry other = do
  t ← peek
  if is_none t then pure None else (entry other >>= (λ e. pure (Some e)))

-- the counters after a first one
abbrev pub further_entries : ℤ → Parser (List (List ℕ × ℤ))
further_entries other = fewer_than most_counters (next_entry other)

-- `none` alone, or one entry and more
unfoldable pub counter_list : ℤ → Parser (List (List ℕ × ℤ))
counter_list other = do
  t ← peek
  s ← second
  if is_named kind.Ident t (codes "none") && is_none s then (advance >> pure []) else
      first_and (entry other) (further_entries other)

-- ---- named strings

-- a name and a list of content (css-gcpm-3, 1.1.1)
unfoldable pub string_entry : Parser (List ℕ × List Part)
string_entry = do
  name ← ident
  parts ← content_list place.StringSet
  pure (name, parts)

-- `none` alone, or a comma list
unfoldable pub string_sets : Parser (List (List ℕ × List Part))
string_sets = do
  t ← peek
  s ← second
  if is_named kind.Ident t (codes "none") && is_none s then (advance >> pure []) else comma_list string_entry
