-- Why a run writes no report.
use Rattle.std.specs.Prelude.{◌≡◌, ℕ, ◌+◌, List, length, if◌then◌else◌, string_bytes, Option, Some, None, Result, Ok, Err, ◌⊎◌}
use Rattle.bk_io.specs.Causes.{Rose}
use Rattle.bk_io.specs.Shelf.{Told}
use Rattle.bk_io.specs.Texts.{unmarked}
use Rattle.bk_io.specs.declared.read_text.TextErr.{TextErr}
use Rattle.bk_io.specs.declared.read_text.TextErr.TheVariants as text
use Rattle.dom.specs.Nodes.{Node}
use Rattle.dom.specs.declared.dom.DomErr.{DomErr}
use Rattle.dom.specs.declared.dom.DomErr.TheVariants as dom_err
use Rattle.html_tree.specs.Tree.{tree_of}
use Rattle.metrics.specs.Face.{FontFace}
use Rattle.metrics.specs.Text.{faces_of}
use Rattle.metrics.specs.declared.fault.MetricsWhy.{MetricsWhy}
use Rattle.named_files.specs.Texts.{AreTextsOf, IsFirstFault}
use Rattle.named_files.specs.declared.fault.FileFault.{FileFault}
use Rattle.named_files.specs.declared.file.FileOf.{FileOf}
use Rattle.named_files.specs.declared.read.FileTexts.{FileTexts}
use Rattle.sheets.specs.Sheets.{element_sheets}
use Rattle.sheets.specs.Sources.{are_many}
use Rattle.words.specs.Asked.{Asked, FormatWords, format, sample, refused}
use Rattle.words.specs.declared.fault.WordsErr.{WordsErr}
use Rattle.words.specs.declared.fault.WordsErr.TheVariants as words
use Rattle.words.specs.declared.fault.WordsFault.TheVariants as fault
use Rattle.unread.specs.declared.outcome.Outcome.{Outcome}
use Rattle.unread.specs.declared.outcome.Outcome.TheVariants as out

-- the refusal of words that are not read
abbrev pub words_refusal : WordsErr → Outcome
words_refusal (words.Fault fault.Help) = out.Help
words_refusal (words.Fault other) = out.Usage
words_refusal words.NoMemory = out.NoMemory

-- the refusal of a file that gives no text
abbrev pub file_refusal : FileOf → TextErr → Outcome
file_refusal f text.Failed = out.CannotRead f
file_refusal f text.TooLarge = out.TooLarge f
file_refusal f (text.NotUtf8 at) = out.NotUtf8 f
file_refusal f text.NoMemory = out.NoMemory

-- an answer is the refusal that is due, or memory ran out
abbrev pub IsDue : Option Outcome → Outcome → Type 0
IsDue due out.NoMemory = Unit {0}
IsDue due o = due ≡ Some o

-- the refusal of a metrics text: its first bad line
abbrev pub faces_due : Result (List FontFace) (ℕ × MetricsWhy) → Option Outcome
faces_due (Ok faces) = None
faces_due (Err (line, why)) = Some (out.BadMetrics line)

-- that of an HTML text: its nodes are too many, or stand too deep
abbrev pub tree_due : Result (List Node) DomErr → Option Outcome
tree_due (Ok nodes) = None
tree_due (Err dom_err.Nodes) = Some out.Limit
tree_due (Err dom_err.Depth) = Some out.Limit
tree_due (Err dom_err.NoMemory) = None

-- that of so many files and the `style` elements of a document, which are more sheets than may be
abbrev pub sheets_due : ℕ → List Node → Option Outcome
sheets_due files nodes = if are_many (files + length (element_sheets nodes)) then Some out.Limit else None

-- that of an HTML text and of so many files
abbrev pub html_due : Result (List Node) DomErr → ℕ → Option Outcome
html_due (Ok nodes) files = sheets_due files nodes
html_due (Err e) files = tree_due (Err e)

-- that of a metrics text, an HTML text and so many files, the first in this order
abbrev pub book_due : Result (List FontFace) (ℕ × MetricsWhy) → Result (List Node) DomErr → ℕ → Option Outcome
book_due (Ok faces) tree files = html_due tree files
book_due (Err e) tree files = faces_due (Err e)

-- that of the texts of files
abbrev pub texts_due : List ℕ → List ℕ → ℕ → Option Outcome
texts_due metrics html files = book_due (faces_of (unmarked metrics)) (tree_of (unmarked html)) files

-- a report could not be written: the sink's count of faults rose
pub record IsPutFault (before now : ℕ) (o : Outcome) : Type 0 where
  pub rose : Rose before now
  pub is : o ≡ out.CannotWrite

-- these texts have no report, as many sheets of files among them, or it could not be written
abbrev pub IsTextsFault : List ℕ → List ℕ → ℕ → ℕ → ℕ → Outcome → Type 0
IsTextsFault metrics html files before now o = IsDue (texts_due metrics html files) o ⊎ IsPutFault before now o

-- the counts of faults of a shelf and of a sink before and after a run, and the name of the shelf's last fault
pub record Faults : Type 0 where
  pub read_before : ℕ
  pub read_now : ℕ
  pub last : Option (List ℕ)
  pub put_before : ℕ
  pub put_now : ℕ

-- these five
abbrev pub faults_of : ℕ → ℕ → Option (List ℕ) → ℕ → ℕ → Faults
faults_of read_before read_now last put_before put_now = record {
  read_before = read_before;
  read_now = read_now;
  last = last;
  put_before = put_before;
  put_now = put_now;
}

-- one of the files that are named gives no text
pub record IsFileFault (names : FormatWords) (told : List ℕ → Told) (f : Faults) (o : Outcome) : Type 0 where
  pub fault : FileFault
  pub first : IsFirstFault names told f.read_before f.read_now f.last fault
  pub is : o ≡ file_refusal fault.file fault.why

-- the texts of the files have no report, or it could not be written
pub record IsBookFault (names : FormatWords) (told : List ℕ → Told) (f : Faults) (o : Outcome) : Type 0 where
  pub texts : FileTexts
  pub are : AreTextsOf names told texts
  pub cause : IsTextsFault (string_bytes texts.metrics) (string_bytes texts.html) (length texts.sheets.items)
      f.put_before f.put_now o

-- why a run writes no report, by what the words ask for: they ask for no book; a file gives no text; the texts have no
-- report, or it could not be written; or memory ran out
abbrev pub HasCause : Asked → (List ℕ → Told) → Faults → Outcome → Type 0
HasCause (format names) told f o = IsFileFault names told f o ⊎ IsBookFault names told f o
HasCause (sample chapters) told f o = o ≡ out.Usage
HasCause (refused kind) told f o = o ≡ words_refusal (words.Fault kind)

-- the same, unless memory ran out as the words were read
abbrev pub HasCauseOrMemory : Asked → (List ℕ → Told) → Faults → Outcome → Type 0
HasCauseOrMemory asked told f o = (o ≡ out.NoMemory) ⊎ HasCause asked told f o
