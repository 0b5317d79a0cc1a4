-- What a run writes: the report of the texts of its files.
use Rattle.std.specs.Prelude.{◌≡◌, ℕ, Bool, true, false, List, [], ◌∷◌, if◌then◌else◌, Option, Result, Ok, Err, string_bytes}
use Rattle.std.specs.Io.KnownBytes.{Appends}
use Rattle.bk_io.specs.Shelf.{Told}
use Rattle.bk_io.specs.Texts.{unmarked}
use Rattle.dom.specs.Nodes.{Node}
use Rattle.html_tree.specs.Tree.{tree_of}
use Rattle.metrics.specs.Face.{FontFace}
use Rattle.metrics.specs.Text.{faces_of}
use Rattle.named_files.specs.Texts.{AreTextsOf}
use Rattle.named_files.specs.declared.read.FileTexts.{FileTexts}
use Rattle.sheets.specs.Files.{file_texts}
use Rattle.words.specs.Asked.{Asked, FormatWords, format}
use Rattle.unread.specs.Report.{report_of}
use Rattle.unread.specs.declared.outcome.Outcome.{Outcome}
use Rattle.unread.specs.declared.outcome.Outcome.TheVariants as out

-- a list isn't empty
abbrev pub has_some : List ℕ → Bool
has_some [] = false
has_some (b ∷ bs) = true

-- the report of these texts was written, and whether it has a line
pub record IsReport (metrics html : List ℕ) (files : List (List ℕ)) (old new : Option (List ℕ)) (some : Bool) :
    Type 0 where
  pub faces : List FontFace
  pub nodes : List Node
  pub faces_are : faces_of (unmarked metrics) ≡ Ok faces
  pub nodes_are : tree_of (unmarked html) ≡ Ok nodes
  pub written : Appends old new (report_of faces nodes files)
  pub some_is : some ≡ has_some (report_of faces nodes files)

-- the report of the files that are named was written
pub record IsReportOf (names : FormatWords) (told : List ℕ → Told) (old new : Option (List ℕ)) (some : Bool) :
    Type 0 where
  pub texts : FileTexts
  pub are : AreTextsOf names told texts
  pub report : IsReport (string_bytes texts.metrics) (string_bytes texts.html) (file_texts texts.sheets.items) old new
      some

-- the words ask for a book, and the report of its files was written
pub record IsAnswerTo (asked : Asked) (told : List ℕ → Told) (old new : Option (List ℕ)) (some : Bool) :
    Type 0 where
  pub names : FormatWords
  pub is : asked ≡ format names
  pub report : IsReportOf names told old new some

-- what a run comes to that wrote a report, with or without a line, or stopped
abbrev pub outcome_of : Result Bool Outcome → Outcome
outcome_of (Ok some) = if some then out.Found else out.Clean
outcome_of (Err o) = o
