-- Values of fonts and lines (CSS 2.1, 15 and 10.8.1).
use Rattle.std.specs.Prelude.{ℕ, ◌==◌, ◌%◌, ◌||◌, if◌then◌else◌, List, [], ◌∷◌, ◌++◌, codes, Option, Some, None, pos, unsigned_abs, int_lt}
use Rattle.bk_num.specs.Units.{clamped}
use Rattle.css_tok.specs.declared.kind.CssKind.TheVariants as kind
use Rattle.css_words.specs.Parser.{Parser, ◌>>=◌, ◌>>◌, pure, refuse, on_some, peek, advance}
use Rattle.css_words.specs.Repeat.{comma_list, many}
use Rattle.css_words.specs.Words.{of_kind, is_named, ident, next_ident, string}
use Rattle.style.specs.Initial.{normal_height}
use Rattle.style.specs.declared.values.Measure.TheVariants as measure
use Rattle.style.specs.declared.values.FontSize.{FontSize}
use Rattle.style.specs.declared.values.FontSize.TheVariants as size
use Rattle.style.specs.declared.values.Weight.{Weight}
use Rattle.style.specs.declared.values.Weight.TheVariants as weight
use Rattle.style.specs.declared.values.GivenHeight.{GivenHeight}
use Rattle.style.specs.declared.values.GivenHeight.TheVariants as height
use Rattle.css_content.specs.Basics.{word_in, whole}
use Rattle.css_values.specs.Words.{sizes, weights}
use Rattle.css_values.specs.Measures.{number_of, is_negative, read_measure, paddings}
use Rattle.css_values.specs.declared.fonts.SizeWord.{SizeWord}
use Rattle.css_values.specs.declared.fonts.SizeWord.TheVariants as word

-- ---- families

-- each word after a space
unfoldable pub spaced : List (List ℕ) → List ℕ
spaced [] = []
spaced (w ∷ ws) = (32 ∷ w) ++ spaced ws

-- Idents joined by one space
unfoldable pub words : Parser (List ℕ)
words = do
  first ← ident
  more ← many next_ident
  pure (first ++ spaced more)

-- a family: a string, or Idents (CSS 2.1, 15.3)
unfoldable pub family : Parser (List ℕ)
family = do
  t ← peek
  if of_kind kind.Str t then string else words

-- families, the wanted one first
unfoldable pub families : Parser (List (List ℕ))
families = comma_list family

-- ---- sizes, weights and heights of lines

-- the size that a word names
abbrev pub size_of : SizeWord → FontSize
size_of (word.Units u) = size.Size (measure.Px (clamped u))
size_of word.Smaller = size.Smaller
size_of word.Larger = size.Larger

-- a size: a word, or a length or percentage (CSS 2.1, 15.7)
unfoldable pub font_size : Parser FontSize
font_size = do
  t ← peek
  if of_kind kind.Ident t then (word_in sizes >>= (λ w. pure (size_of w)))
      else (read_measure paddings >>= (λ m. pure (size.Size m)))

-- 100, 200 and so on to 900
unfoldable pub hundred : Parser ℕ
hundred = do
  n ← whole
  if int_lt n (pos 100) || int_lt (pos 900) n then refuse
      else (if unsigned_abs n % 100 == 0 then pure (unsigned_abs n) else refuse)

-- a weight: a word or a number (CSS 2.1, 15.6)
unfoldable pub font_weight : Parser Weight
font_weight = do
  t ← peek
  if of_kind kind.Ident t then word_in weights else (hundred >>= (λ n. pure (weight.Number n)))

-- `normal` is the number 1.25; a number is one also where it is 0
unfoldable pub line_height : Parser GivenHeight
line_height = do
  t ← peek
  if is_named kind.Ident t (codes "normal") then (advance >> pure (height.Number normal_height))
      else (if of_kind kind.Number t
      then (if is_negative t then refuse else on_some (number_of t) refuse (λ n. advance >> pure (height.Number n)))
      else (read_measure paddings >>= (λ m. pure (height.Size m))))

-- a whole number from 1 to 1000
unfoldable pub count : Parser ℕ
count = do
  n ← whole
  if int_lt n (pos 1) || int_lt (pos 1000) n then refuse else pure (unsigned_abs n)

-- `auto`, or a name
unfoldable pub page_name : Parser (Option (List ℕ))
page_name = do
  t ← peek
  if is_named kind.Ident t (codes "auto") then (advance >> pure None) else (ident >>= (λ name. pure (Some name)))
