-- The exit statuses of the programs: each number once. docs/COMMAND.md and docs/UNREAD.md say which answer has which.
use Rattle.std.specs.Prelude.{◌≡◌, ℕ}
use Rattle.words.specs.declared.status.TheConstants.{DONE, CANNOT_READ, USAGE, NOT_UTF8, BAD_PATTERNS, BAD_METRICS, NOT_SETTLED, CANNOT_WRITE, PAST_LIMIT, NO_MEMORY}

-- all is done, or help was asked for
abbrev pub all_done : ℕ
all_done = 0

-- a file can't be read
abbrev pub cannot_read : ℕ
cannot_read = 1

-- the words ask for nothing that the program does
abbrev pub usage : ℕ
usage = 2

-- a file isn't UTF-8
abbrev pub not_utf8 : ℕ
not_utf8 = 3

-- the patterns text has no reading
abbrev pub bad_patterns : ℕ
bad_patterns = 4

-- the metrics text has no reading
abbrev pub bad_metrics : ℕ
bad_metrics = 5

-- page references don't settle
abbrev pub not_settled : ℕ
not_settled = 6

-- an output can't be written
abbrev pub cannot_write : ℕ
cannot_write = 7

-- a file is too large, or another limit is passed
abbrev pub past_limit : ℕ
past_limit = 8

-- there is no memory
abbrev pub no_memory : ℕ
no_memory = 9

-- the code has these statuses
pub record StatusesAgree : Type 0 where
  pub all_done_is : DONE ≡ all_done
  pub cannot_read_is : CANNOT_READ ≡ cannot_read
  pub usage_is : USAGE ≡ usage
  pub not_utf8_is : NOT_UTF8 ≡ not_utf8
  pub bad_patterns_is : BAD_PATTERNS ≡ bad_patterns
  pub bad_metrics_is : BAD_METRICS ≡ bad_metrics
  pub not_settled_is : NOT_SETTLED ≡ not_settled
  pub cannot_write_is : CANNOT_WRITE ≡ cannot_write
  pub past_limit_is : PAST_LIMIT ≡ past_limit
  pub no_memory_is : NO_MEMORY ≡ no_memory
