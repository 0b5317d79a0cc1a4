-- What a parse by a command of `clap` gives.
use Rattle.std.specs.Prelude.{◌≡◌, List, [], Result, Ok, Err, true}
use Rattle.clap.specs.Words.{App, IsParsedFrom, Kinds, Text, app_of, built, fault_of, found_of, matches_of, rows_of}
use Rattle.clap.specs.declared.builder.command.Command.{Command}
use Rattle.clap.specs.declared.error.ErrorKind.{ErrorKind}
use Rattle.clap.specs.declared.error.ErrorKind.TheVariants as kind
use Rattle.clap.specs.declared.parser.matches.ArgMatches.{ArgMatches}
use Rattle.words.specs.Asked.{Asked, refused, fault_for, unless_fault}
use Rattle.words.specs.declared.fault.WordsErr.{WordsErr}
use Rattle.words.specs.declared.fault.WordsErr.TheVariants as err

-- the command has no subcommands, nor are any built
pub record IsLeaf (app : App) : Type 0 where
  pub leaf : (built app).top.is_leaf ≡ true
  pub subs : (built app).subs ≡ []

-- the matches are those of a parse by this command
pub record IsParseBy (app : App) (m : ArgMatches) : Type 0 where
  pub command : Command
  pub shape : app_of command ≡ app
  pub parsed : IsParsedFrom command m

-- the words have no fault, and these are their matches
pub record IsParseOf (app : App) (words : List Text) (m : ArgMatches) : Type 0 where
  pub faultless : fault_of app words ≡ []
  pub rows : rows_of (found_of m) ≡ matches_of app words
  pub by : IsParseBy app m

-- the error of a parse by this kind
abbrev pub err_for : ErrorKind → WordsErr
err_for kind.OutOfMemory = err.NoMemory
err_for other = err.Fault (fault_for other)

-- the refusal by the first fault of the words, or want of memory
abbrev pub IsRefusal : Kinds → WordsErr → Type 0
IsRefusal kinds (err.Fault f) = (asked : Asked) → unless_fault kinds asked ≡ refused f
IsRefusal kinds err.NoMemory = Unit {0}

-- the matches of the words, or their refusal, or want of memory
abbrev pub ParseAnswers : App → List Text → Result ArgMatches WordsErr → Type 0
ParseAnswers app words (Ok m) = IsParseOf app words m
ParseAnswers app words (Err e) = IsRefusal (fault_of app words) e
