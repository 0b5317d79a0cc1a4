-- The files that the words name.
use Rattle.std.specs.Prelude.{ℕ, zero, suc, ◌+◌, ◌≤◌, List, [], codes, pos, Option, Some, None, slice_get}
use Rattle.std.specs.Fmt.{signed_decimal}
use Rattle.words.specs.Asked.{FormatWords}
use Rattle.named_files.specs.declared.file.FileOf.{FileOf}
use Rattle.named_files.specs.declared.file.FileOf.TheVariants as file

-- the name that the words give a file; none for one that they don't name
abbrev pub name_of : FormatWords → FileOf → Option (List ℕ)
name_of names file.Metrics = Some names.metrics
name_of names file.Html = Some names.html
name_of names (file.Sheet zero) = None
name_of names (file.Sheet (suc place)) = slice_get names.sheets place
name_of names file.Patterns = names.patterns

-- the order of the files but the patterns
abbrev pub file_stage : FileOf → ℕ
file_stage file.Metrics = 1
file_stage file.Html = 2
file_stage (file.Sheet n) = 2 + n
file_stage file.Patterns = 0

-- whether a file is read no later than another: the patterns come after all sheets
abbrev pub IsNoLater : FileOf → FileOf → Type 0
IsNoLater f file.Patterns = Unit {0}
IsNoLater file.Patterns file.Metrics = ⊥
IsNoLater file.Patterns file.Html = ⊥
IsNoLater file.Patterns (file.Sheet n) = ⊥
IsNoLater f g = file_stage f ≤ file_stage g

-- whether a file is read before another
abbrev pub IsBefore : FileOf → FileOf → Type 0
IsBefore f g = IsNoLater g f → ⊥

-- the word for a file, and the number of a sheet
unfoldable pub file_words : FileOf → List ℕ × List ℕ
file_words file.Metrics = (codes "metrics", [])
file_words file.Html = (codes "html", [])
file_words (file.Sheet n) = (codes "sheet ", signed_decimal (pos n))
file_words file.Patterns = (codes "patterns", [])
