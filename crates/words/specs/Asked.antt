-- What the words of the command line ask for.
use Rattle.std.specs.Prelude.{◌≡◌, ◌≤◌, ℕ, Bool, List, [], ◌∷◌, Option, Result, Ok, Err, codes, map, option_map, unwrap_or, if◌then◌else◌}
use Rattle.std.specs.Str.{bytes_eq}
use Rattle.std.specs.Str.Parse.{digits_value, without_leading_plus}
use Rattle.clap.specs.Words.{Kinds, Row, Text, all_of, fault_of, first_of, matches_of, one_of}
use Rattle.clap.specs.declared.error.ErrorKind.{ErrorKind}
use Rattle.clap.specs.declared.error.ErrorKind.TheVariants as kind
use Rattle.words.specs.Grammar.{format_app, most_chapters, most_columns, most_passes, sample_app, widest_gap}
use Rattle.words.specs.declared.fault.WordsErr.{WordsErr}
use Rattle.words.specs.declared.fault.WordsErr.TheVariants as err
use Rattle.words.specs.declared.fault.WordsFault.{WordsFault}
use Rattle.words.specs.declared.fault.WordsFault.TheVariants as fault
use Rattle.words.specs.declared.request.Format.{Format}
use Rattle.words.specs.declared.request.Request.{Request}
use Rattle.words.specs.declared.request.Request.TheVariants as request

-- what `format` is asked for: the most passes, the columns of each page and the gap between them in px, and the names
-- of the files, that of patterns where it is given, sheets in the order of the words
pub record FormatWords : Type 0 where
  pub passes : ℕ
  pub columns : ℕ
  pub gap : ℕ
  pub patterns : Option Text
  pub metrics : Text
  pub html : Text
  pub sheets : List Text

-- a book to be formatted, a sample of so many chapters, or words that ask for neither
pub data Asked : Type 0 where
  format : FormatWords → Asked
  sample : ℕ → Asked
  refused : WordsFault → Asked

-- whether a word is the name of this command
unfoldable pub is_format : Text → Bool
is_format word = bytes_eq word (codes "format")

-- the word `sample`
unfoldable pub is_sample : Text → Bool
is_sample word = bytes_eq word (codes "sample")

-- the text that the matches have for this argument
abbrev pub text_in : List Row → Text → Text
text_in rows id = unwrap_or (first_of id rows) []

-- the number that is written for it, in decimal digits after a plus that may stand
abbrev pub number_in : List Row → Text → ℕ
number_in rows id = digits_value 10 (without_leading_plus (unwrap_or (one_of id rows) []))

-- what the matches of `format` ask for
abbrev pub format_in : List Row → FormatWords
format_in rows = record {
  passes = number_in rows (codes "passes");
  columns = number_in rows (codes "columns");
  gap = number_in rows (codes "gap");
  patterns = first_of (codes "patterns") rows;
  metrics = text_in rows (codes "metrics");
  html = text_in rows (codes "html");
  sheets = unwrap_or (all_of (codes "css") rows) [];
}

-- why words are refused that `clap` refuses by a fault of this kind
abbrev pub fault_for : ErrorKind → WordsFault
fault_for kind.DisplayHelp = fault.Help
fault_for other = fault.Refused

-- what is asked for where the words have no fault, else the refusal by their first one
abbrev pub unless_fault : Kinds → Asked → Asked
unless_fault [] asked = asked
unless_fault (first ∷ rest) asked = refused (fault_for first)

-- what the words after a command's name ask for
unfoldable pub asked_format : List Text → Asked
asked_format words = unless_fault (fault_of format_app words) (format (format_in (matches_of format_app words)))

-- what `sample` with these words asks for
unfoldable pub asked_sample : List Text → Asked
asked_sample words =
    unless_fault (fault_of sample_app words) (sample (number_in (matches_of sample_app words) (codes "n")))

-- what the words after the program's name ask for: the first is the command
unfoldable pub asked : List Text → Asked
asked [] = refused fault.NoCommand
asked (command ∷ words) =
    if is_format command then asked_format words else if is_sample command then asked_sample words else
    refused fault.UnknownCommand

-- ---- answers

-- the words of `format` as contracts see them
abbrev pub format_view : Format → FormatWords
format_view f = record {
  passes = f.passes;
  columns = f.columns;
  gap = f.gap;
  patterns = option_map (λ s. s.now) f.patterns;
  metrics = f.metrics.now;
  html = f.html.now;
  sheets = map (λ s. s.now) f.sheets.items;
}

-- a request as contracts see it
abbrev pub request_of : Request → Asked
request_of (request.Format f) = format (format_view f)
request_of (request.Sample n) = sample n

-- the answer is what is asked for, or the refusal, or want of memory
abbrev pub Answers : Asked → Result Request WordsErr → Type 0
Answers asked (Ok r) = request_of r ≡ asked
Answers asked (Err (err.Fault f)) = refused f ≡ asked
Answers asked (Err err.NoMemory) = Unit {0}

-- the numbers of `format` lie in their ranges
pub record AreInRange (f : Format) : Type 0 where
  pub passes_least : 1 ≤ f.passes
  pub passes_most : f.passes ≤ most_passes
  pub columns_least : 1 ≤ f.columns
  pub columns_most : f.columns ≤ most_columns
  pub gap_most : f.gap ≤ widest_gap

-- the numbers lie in the ranges that may be asked for
abbrev pub IsInRange : Request → Type 0
IsInRange (request.Format f) = AreInRange f
IsInRange (request.Sample n) = (1 ≤ n) × (n ≤ most_chapters)
