-- What the words of the command line ask for.
use Rattle.std.specs.Prelude.{ℕ, List}
use Rattle.words.specs.Asked.{Asked, FormatWords, asked as asked_of, format, format_view, sample, refused as not_read}
use Rattle.words.specs.declared.request.Request.{Request}
use Rattle.words.specs.declared.request.Request.TheVariants as request
use Rattle.book.specs.Expect.{Expect, refused, given}
use Rattle.book.specs.declared.outcome.Outcome.TheVariants as out

-- what the program does: it lists the book of files that are named, or tells the counts of a sample book of so many
-- chapters
pub data Task : Type 0 where
  files : FormatWords → Task
  chapters : ℕ → Task

-- the task that is asked for, or the fault of the words
abbrev pub task_asked : Asked → Expect Task
task_asked (format names) = given (files names)
task_asked (sample count) = given (chapters count)
task_asked (not_read fault) = refused (out.NotRead fault)

-- the task that the program's words ask for
abbrev pub asked : List (List ℕ) → Expect Task
asked ws = task_asked (asked_of ws)

-- the task of a request in memory
abbrev pub task_in : Request → Task
task_in (request.Format names) = files (format_view names)
task_in (request.Sample count) = chapters count
