-- The line that a run puts on its second sink, and the status that the program ends with.
use Rattle.std.specs.Prelude.{ℕ, List, [], ◌∷◌, codes, decimal}
use Rattle.std.specs.Fmt.{signed_decimal}
use Rattle.std.specs.List.{flat_map}
use Rattle.bk_io.specs.Escapes.{shown_byte}
use Rattle.bk_num.specs.Limits.{most_file_bytes}
use Rattle.metrics.specs.declared.fault.MetricsWhy.{MetricsWhy}
use Rattle.metrics.specs.declared.fault.MetricsWhy.TheVariants as why
use Rattle.book.specs.declared.outcome.Outcome.{Outcome}
use Rattle.book.specs.declared.outcome.Outcome.TheVariants as out
use Rattle.book.specs.declared.outcome.LimitOf.{LimitOf}
use Rattle.book.specs.declared.outcome.LimitOf.TheVariants as limit
use Rattle.named_files.specs.Names.{file_words}
use Rattle.words.specs.Statuses as status
use Rattle.words.specs.declared.fault.WordsFault.TheVariants as words

-- the word for what is wrong in a metrics text
unfoldable pub why_text : MetricsWhy → List ℕ
why_text why.Header = codes "header"
why_text why.Word = codes "word"
why_text why.Number = codes "number"
why_text why.Range = codes "range"
why_text why.Order = codes "order"
why_text why.Pair = codes "pair"
why_text why.Twice = codes "twice"
why_text why.Many = codes "many"
why_text why.NoFace = codes "noface"

-- the word for a limit
unfoldable pub limit_text : LimitOf → List ℕ
limit_text limit.Nodes = codes "nodes"
limit_text limit.Depth = codes "depth"
limit_text limit.Sheets = codes "sheets"
limit_text limit.Rules = codes "rules"
limit_text limit.Text = codes "text"
limit_text limit.Pages = codes "pages"

-- a target as the line shows it, its controls as in a string of a listing, so that it can neither begin another line
-- nor command a terminal
abbrev pub shown_target : List ℕ → List ℕ
shown_target bytes = flat_map shown_byte bytes

-- the texts of an answer's line, one after the other
unfoldable pub texts_of : Outcome → List (List ℕ)
texts_of (out.Done pages passes) =
    codes "bookfmt: " ∷ decimal pages ∷ codes " pages, " ∷ decimal passes ∷ codes " passes\n" ∷ []
texts_of (out.NotRead kind) =
    codes "bookfmt: usage: bookfmt "
    ∷ codes "format [--passes N] [--columns N] [--gap PX] [--patterns FILE] METRICS HTML [CSS ...]"
    ∷ codes " or bookfmt sample N\n" ∷ []
texts_of (out.ReadFault f) = codes "bookfmt: cannot read " ∷ (file_words f).0 ∷ (file_words f).1 ∷ codes "\n" ∷ []
texts_of (out.TooLarge f) =
    codes "bookfmt: " ∷ (file_words f).0 ∷ (file_words f).1 ∷ codes " has more than " ∷ decimal most_file_bytes
    ∷ codes " bytes\n" ∷ []
texts_of (out.NotUtf8 f at) =
    codes "bookfmt: " ∷ (file_words f).0 ∷ (file_words f).1 ∷ codes " is not UTF-8 at " ∷ decimal at ∷ codes "\n" ∷ []
texts_of (out.BadMetrics line reason) =
    codes "bookfmt: metrics line " ∷ decimal line ∷ codes ": " ∷ why_text reason ∷ codes "\n" ∷ []
texts_of (out.BadPatterns line) = codes "bookfmt: patterns line " ∷ decimal line ∷ codes "\n" ∷ []
texts_of (out.NotSettled target before after) =
    codes "bookfmt: page reference to " ∷ shown_target target ∷ codes " not settled: "
    ∷ signed_decimal before ∷ codes " then " ∷ signed_decimal after ∷ codes "\n" ∷ []
texts_of (out.Limit what) = codes "bookfmt: limit: " ∷ limit_text what ∷ codes "\n" ∷ []
texts_of out.WriteFault = codes "bookfmt: cannot write\n" ∷ []
texts_of out.NoMemory = codes "bookfmt: no memory\n" ∷ []

-- the line of an answer
abbrev pub message : Outcome → List ℕ
message o = flat_map (λ t. t) (texts_of o)

-- the exit status of an answer
abbrev pub status_of : Outcome → ℕ
status_of (out.Done pages passes) = status.all_done
status_of (out.NotRead words.Help) = status.all_done
status_of (out.NotRead words.NoCommand) = status.usage
status_of (out.NotRead words.UnknownCommand) = status.usage
status_of (out.NotRead words.Refused) = status.usage
status_of (out.ReadFault f) = status.cannot_read
status_of (out.TooLarge f) = status.past_limit
status_of (out.NotUtf8 f at) = status.not_utf8
status_of (out.BadMetrics line reason) = status.bad_metrics
status_of (out.BadPatterns line) = status.bad_patterns
status_of (out.Limit what) = status.past_limit
status_of (out.NotSettled target before after) = status.not_settled
status_of out.WriteFault = status.cannot_write
status_of out.NoMemory = status.no_memory
