-- The answer where words or files are not read.
use Rattle.bk_io.specs.declared.read_text.TextErr.{TextErr}
use Rattle.bk_io.specs.declared.read_text.TextErr.TheVariants as text
use Rattle.named_files.specs.declared.file.FileOf.{FileOf}
use Rattle.words.specs.declared.fault.WordsErr.{WordsErr}
use Rattle.words.specs.declared.fault.WordsErr.TheVariants as words
use Rattle.book.specs.declared.outcome.Outcome.{Outcome}
use Rattle.book.specs.declared.outcome.Outcome.TheVariants as out

-- the refusal of words that are not read
abbrev pub words_refusal : WordsErr → Outcome
words_refusal (words.Fault kind) = out.NotRead kind
words_refusal words.NoMemory = out.NoMemory

-- the refusal of a file that gives no text
abbrev pub file_refusal : FileOf → TextErr → Outcome
file_refusal f text.Failed = out.ReadFault f
file_refusal f text.TooLarge = out.TooLarge f
file_refusal f (text.NotUtf8 at) = out.NotUtf8 f at
file_refusal f text.NoMemory = out.NoMemory
