-- What a run of the program comes to.
use Rattle.std.specs.Prelude.{ℕ}
use Rattle.words.specs.Statuses as status
use Rattle.unread.specs.declared.outcome.Outcome.{Outcome}
use Rattle.unread.specs.declared.outcome.Outcome.TheVariants as out

-- the exit status where something was found
abbrev pub found : ℕ
found = 1

-- the exit status of an answer: the others are those of the program that formats
abbrev pub status_of : Outcome → ℕ
status_of out.Clean = status.all_done
status_of out.Found = found
status_of out.Help = status.all_done
status_of out.Usage = status.usage
status_of (out.CannotRead f) = status.cannot_read
status_of (out.NotUtf8 f) = status.not_utf8
status_of (out.BadMetrics line) = status.bad_metrics
status_of out.CannotWrite = status.cannot_write
status_of (out.TooLarge f) = status.past_limit
status_of out.Limit = status.past_limit
status_of out.NoMemory = status.no_memory
