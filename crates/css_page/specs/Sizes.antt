-- Sizes of page boxes (css-page-3, `size`).
use Rattle.std.specs.Prelude.{ℕ, if◌then◌else◌, List, [], ◌∷◌, codes, Option, Some, None, unwrap_or, ℤ, pos}
use Rattle.bk_num.specs.Limits.{page_height, page_width}
use Rattle.bk_num.specs.Units.{clamped}
use Rattle.css_tok.specs.declared.kind.CssKind.TheVariants as kind
use Rattle.css_words.specs.Parser.{Parser, ◌>>=◌, ◌>>◌, pure, refuse, on_some, peek, advance}
use Rattle.css_words.specs.Words.{of_kind, is_named}
use Rattle.style.specs.declared.values.Measure.{Measure}
use Rattle.style.specs.declared.values.Measure.TheVariants as measure
use Rattle.css_content.specs.Basics.{word_in}
use Rattle.css_values.specs.Measures.{read_measure, lengths}
use Rattle.css_values.specs.Sides.{optional}
use Rattle.css_page.specs.declared.sizes.PageSize.{PageSize}
use Rattle.css_page.specs.declared.sizes.Orientation.{Orientation}
use Rattle.css_page.specs.declared.sizes.Orientation.TheVariants as way
use Rattle.css_page.specs.declared.sizes.PaperWord.{PaperWord}
use Rattle.css_page.specs.declared.sizes.PaperWord.TheVariants as word

-- The sheets of paper by their shorter and longer sides, in 1/64 px: a3 is 297 by 420 mm, a4 210 by 297 mm, a5 148 by
-- 210 mm, letter 8.5 by 11 in and legal 8.5 by 14 in.
unfoldable pub size_words : List (List ℕ × PaperWord)
size_words =
    (codes "a3", word.Sheet (pos 71841) (pos 101594)) ∷ (codes "a4", word.Sheet (pos 50797) (pos 71841)) ∷
    (codes "a5", word.Sheet page_width page_height) ∷ (codes "letter", word.Sheet (pos 52224) (pos 67584)) ∷
    (codes "legal", word.Sheet (pos 52224) (pos 86016)) ∷ (codes "portrait", word.Turned way.Portrait) ∷
    (codes "landscape", word.Turned way.Landscape) ∷ []

-- a page box of this width and height, in units
abbrev pub sheet : ℤ → ℤ → PageSize
sheet width height = record { width = measure.Px (clamped width); height = measure.Px (clamped height) }

-- `portrait` puts the shorter side across, and `landscape` the longer
abbrev pub turned : Orientation → ℤ → ℤ → PageSize
turned way.Portrait shorter longer = sheet shorter longer
turned way.Landscape shorter longer = sheet longer shorter

-- a5, the size of `auto`
abbrev pub a5_turned : Orientation → PageSize
a5_turned o = turned o page_width page_height

-- a sheet is upright, and an orientation alone is of a5
abbrev pub alone : PaperWord → PageSize
alone (word.Sheet shorter longer) = sheet shorter longer
alone (word.Turned o) = a5_turned o

-- of two words one is a sheet and the other an orientation, in either order
abbrev pub both : PaperWord → PaperWord → Option PageSize
both (word.Sheet shorter longer) (word.Turned o) = Some (turned o shorter longer)
both (word.Turned o) (word.Sheet shorter longer) = Some (turned o shorter longer)
both (word.Sheet shorter longer) (word.Sheet s l) = None
both (word.Turned o) (word.Turned p) = None

-- the size that one or two words give
abbrev pub chosen : PaperWord → Option PaperWord → Option PageSize
chosen w None = Some (alone w)
chosen w (Some v) = both w v

-- a size by words
unfoldable pub named : Parser PageSize
named = do
  first ← word_in size_words
  second ← optional (word_in size_words)
  on_some (chosen first second) refuse pure

-- one length is the width and the height
abbrev pub size_by : Measure → Option Measure → PageSize
size_by width height = record { width = width; height = unwrap_or height width }

-- a size by one or two lengths, neither of them negative
unfoldable pub measured : Parser PageSize
measured = do
  width ← read_measure lengths
  height ← optional (read_measure lengths)
  pure (size_by width height)

-- `auto`, words, or lengths (css-page-3, 7.1)
unfoldable pub size : Parser PageSize
size = do
  t ← peek
  if is_named kind.Ident t (codes "auto") then (advance >> pure (a5_turned way.Portrait))
      else (if of_kind kind.Ident t then named else measured)
