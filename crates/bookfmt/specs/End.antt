-- What the program ends with.
use Rattle.std.specs.Prelude.{◌≡◌, ℕ, List, map, Option, Result, MatchResult, Vec, String, string_bytes}
use Rattle.std.specs.Global.{Global}
use Rattle.std.specs.Io.KnownBytes.{Keeps}
use Rattle.std.specs.Process.{exit_status}
use Rattle.std.specs.declared.process.ExitCode.{ExitCode}
use Rattle.bk_io.specs.Causes.{Rose}
use Rattle.bk_io.specs.Shelf.{Told}
use Rattle.book.specs.declared.outcome.Outcome.{Outcome}
use Rattle.book.specs.declared.outcome.Outcome.TheVariants as out
use Rattle.book.specs.Message.{message, status_of}
use Rattle.book.specs.Request.{asked}
use Rattle.book.specs.Run.{Answers, Completes, HasReadCause, HasWordsCause, KeepsFaults, PutsLine, PutsOnlyABook, SettlesAtOnce}

-- a shelf over a call: what it reports of files, its counts of faults before and after, and the file of the last fault
pub record ShelfCall : Type 0 where
  pub told : List ℕ → Told
  pub before : ℕ
  pub now : ℕ
  pub last : Option (List ℕ)

-- a sink over a call: the bytes taken before and after, and its counts of faults
pub record SinkCall : Type 0 where
  pub old : Option (List ℕ)
  pub new : Option (List ℕ)
  pub before : ℕ
  pub now : ℕ

-- all that `run` says of its answer to words, but of its line
pub record IsRunOf (ws : List (List ℕ)) (shelf : ShelfCall) (sink : SinkCall) (answer : Outcome) : Type 0 where
  -- it meets what is expected of the words over the shelf
  pub answers : Answers ws shelf.told sink.old sink.new answer
  -- with any other answer than Done and a write fault nothing was put
  pub put : PutsOnlyABook sink.old sink.new answer
  -- words that are refused, a file that can't be read and a book that can't be written have their causes
  pub words : HasWordsCause (asked ws) answer
  pub read_fault : HasReadCause (asked ws) shelf.told shelf.before shelf.now shelf.last answer
  pub write_fault : answer ≡ out.WriteFault → Rose sink.before sink.now
  -- no file is asked for but those that the words name, up to the first that can't be read
  pub count : KeepsFaults shelf.before shelf.now answer
  -- without a fault a document that is expected is laid out
  pub complete : Completes ws shelf.told (Rose shelf.before shelf.now) (Rose sink.before sink.now) answer
  -- over one without page references the first pass is the last
  pub at_once : SettlesAtOnce ws shelf.told answer

-- words that can't be had are answered with the reason: no file is asked for and nothing is put, since each fetch and
-- each put may fail
pub record IsRefusal (reason : Outcome) (shelf : ShelfCall) (sink : SinkCall) (answer : Outcome) : Type 0 where
  pub is : answer ≡ reason
  pub unread : shelf.now ≡ shelf.before
  pub unwritten : sink.now ≡ sink.before
  pub put : Keeps sink.old sink.new

-- what is answered to the words of the command line over a shelf and a sink: what `run` answers, or why the words can't
-- be had
abbrev pub IsAnswer : Result (Vec (String Global) Global) Outcome → ShelfCall → SinkCall → Outcome → Type 0
IsAnswer words shelf sink answer = MatchResult words
    (λ w. IsRunOf (map (λ t. string_bytes t) w.items) shelf sink answer)
    (λ reason. IsRefusal reason shelf sink answer)

-- the line of an answer was put on the error stream, and the status is the answer's
pub record EndsWith (answer : Outcome) (old new : Option (List ℕ)) (before now : ℕ) (code : ExitCode) : Type 0 where
  pub line : PutsLine old new before now (message answer)
  pub status : exit_status code ≡ status_of answer
