-- The texts of the files that the words name, or the first of them that gives none.
use Rattle.std.specs.Prelude.{◌≡◌, ◌≢◌, ℕ, suc, ◌<◌, ◌≤◌, List, length, true, Option, None, Some, Result, Ok, Err, String, slice_get}
use Rattle.std.specs.List.{AllZip}
use Rattle.std.specs.Global.{Global}
use Rattle.std.specs.Str.{is_utf8}
use Rattle.bk_num.specs.Limits.{most_file_bytes}
use Rattle.bk_io.specs.Reads.{HasTextFault, IsTextOf}
use Rattle.bk_io.specs.Shelf.{Told, IfHolds}
use Rattle.bk_io.specs.declared.read_text.TextErr.{TextErr}
use Rattle.bk_io.specs.declared.read_text.TextErr.TheVariants as err
use Rattle.words.specs.Asked.{FormatWords}
use Rattle.named_files.specs.Names.{IsBefore, name_of}
use Rattle.named_files.specs.declared.fault.FileFault.{FileFault}
use Rattle.named_files.specs.declared.file.FileOf.{FileOf}
use Rattle.named_files.specs.declared.file.FileOf.TheVariants as file
use Rattle.named_files.specs.declared.read.FileTexts.{FileTexts}

-- the text of a file that may be named: it is there where the file is named
abbrev pub IsTextIfNamed : (List ℕ → Told) → Option (List ℕ) → Option (String Global) → Type 0
IsTextIfNamed told None None = Unit {0}
IsTextIfNamed told None (Some text) = ⊥
IsTextIfNamed told (Some name) None = ⊥
IsTextIfNamed told (Some name) (Some text) = IsTextOf (told name) most_file_bytes text

-- the texts of the files that are named, where the shelf tells their bytes
pub record AreTextsOf (names : FormatWords) (told : List ℕ → Told) (texts : FileTexts) : Type 0 where
  pub metrics : IsTextOf (told names.metrics) most_file_bytes texts.metrics
  pub html : IsTextOf (told names.html) most_file_bytes texts.html
  pub sheets : AllZip (λ name text. IsTextOf (told name) most_file_bytes text) names.sheets texts.sheets.items
  pub patterns : IsTextIfNamed told names.patterns texts.patterns

-- the count of faults stays, unless a file can't be read. Any fetch may fail, so none is made but for the files up to
-- the one that gives no text
abbrev pub KeepsCount : {T : Type 0} → ℕ → ℕ → Result T FileFault → Type 0
KeepsCount before now (Ok texts) = now ≡ before
KeepsCount before now (Err fault) = fault.why ≢ err.Failed → now ≡ before

-- these bytes are a text within the limit
pub record IsReadable (file : List ℕ) : Type 0 where
  pub utf8 : is_utf8 file ≡ true
  pub few : length file ≤ most_file_bytes

-- the sheet at a place is the first of these that gives no text, and why
pub record IsFirstOf (names : List (List ℕ)) (told : List ℕ → Told) (before now : ℕ) (last : Option (List ℕ))
    (place : ℕ) (why : TextErr) : Type 0 where
  pub name : List ℕ
  pub is : slice_get names place ≡ Some name
  pub cause : HasTextFault (told name) name most_file_bytes before now last why
  pub first : (k : ℕ) (other : List ℕ) → k < place → slice_get names k ≡ Some other →
      IfHolds (told other) IsReadable

-- a fault is that of the first of these sheets that gives no text
pub record IsSheetFault (names : List (List ℕ)) (told : List ℕ → Told) (before now : ℕ) (last : Option (List ℕ))
    (fault : FileFault) : Type 0 where
  pub place : ℕ
  pub is_sheet : fault.file ≡ file.Sheet (suc place)
  pub first : IsFirstOf names told before now last place fault.why

-- a fault is that of the patterns, which are named and give no text
pub record IsPatternsFault (named : Option (List ℕ)) (told : List ℕ → Told) (before now : ℕ)
    (last : Option (List ℕ)) (fault : FileFault) : Type 0 where
  pub name : List ℕ
  pub is : named ≡ Some name
  pub is_patterns : fault.file ≡ file.Patterns
  pub cause : HasTextFault (told name) name most_file_bytes before now last fault.why

-- a fault is that of the first of the files, in their order, that gives no text
pub record IsFirstFault (names : FormatWords) (told : List ℕ → Told) (before now : ℕ) (last : Option (List ℕ))
    (fault : FileFault) : Type 0 where
  pub name : List ℕ
  pub is : name_of names fault.file ≡ Some name
  pub cause : HasTextFault (told name) name most_file_bytes before now last fault.why
  pub first : (f : FileOf) (other : List ℕ) → IsBefore f fault.file → name_of names f ≡ Some other →
      IfHolds (told other) IsReadable
