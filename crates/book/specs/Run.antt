-- What the words and the files ask for, and what a run answers.
use Rattle.std.specs.Prelude.{◌≡◌, ℕ, suc, ◌≤◌, List, [], ◌∷◌, length, take, nat_lt, if◌then◌else◌, Option, None, Some, ◌⊎◌}
use Rattle.std.specs.Io.KnownBytes.{Appends, Keeps}
use Rattle.std.specs.Str.{is_utf8}
use Rattle.std.specs.Str.Lossy.{utf8_valid_len}
use Rattle.bk_num.specs.Limits.{most_file_bytes}
use Rattle.bk_io.specs.Texts.{unmarked}
use Rattle.bk_io.specs.Shelf.{Told, untold, absent, holds, Faulted}
use Rattle.bk_io.specs.Causes.{Rose}
use Rattle.passes.specs.Passes.{unsettled, long, many}
use Rattle.sheets.specs.Readings.{SheetOf, AreReadings}
use Rattle.sample.specs.Html.{html_of}
use Rattle.sample.specs.Texts.{css_text, metrics_text}
use Rattle.book.specs.Expect.{Expect, free, refused, given, ◌>>=◌}
use Rattle.named_files.specs.Names.{IsNoLater, name_of}
use Rattle.book.specs.Request.{Task, files, chapters, asked}
use Rattle.words.specs.Asked.{FormatWords}
use Rattle.book.specs.Document.{BookTexts, Document, document_of, grid_of}
use Rattle.book.specs.Answer.{Book}
use Rattle.book.specs.Flow.{HasEnd, HasNoReferences}
use Rattle.book.specs.Keeps.{IsWholeBook}
use Rattle.book.specs.declared.document.Output.TheVariants as output
use Rattle.book.specs.declared.outcome.Outcome.{Outcome}
use Rattle.book.specs.declared.outcome.Outcome.TheVariants as out
use Rattle.named_files.specs.declared.file.FileOf.{FileOf}
use Rattle.named_files.specs.declared.file.FileOf.TheVariants as file
use Rattle.book.specs.declared.outcome.LimitOf.{LimitOf}
use Rattle.book.specs.declared.outcome.LimitOf.TheVariants as limit

-- the text of a file within the limit of bytes
abbrev pub text_of : FileOf → Told → Expect (List ℕ)
text_of f untold = free
text_of f absent = refused (out.ReadFault f)
text_of f (holds bytes) = if nat_lt most_file_bytes (length bytes) then refused (out.TooLarge f) else
    if is_utf8 bytes then given (unmarked bytes) else refused (out.NotUtf8 f (utf8_valid_len bytes))

-- the texts of sheets, which are numbered from k on, or the first refusal
abbrev pub sheets_from : ℕ → (List ℕ → Told) → List (List ℕ) → Expect (List (List ℕ))
sheets_from k told [] = given []
sheets_from k told (name ∷ names) = text_of (file.Sheet k) (told name) >>= λ text.
    sheets_from (suc k) told names >>= λ texts.
    given (text ∷ texts)

-- the text of the patterns, where they are named
abbrev pub patterns_named : (List ℕ → Told) → Option (List ℕ) → Expect (Option (List ℕ))
patterns_named told None = given None
patterns_named told (Some name) = text_of file.Patterns (told name) >>= λ text. given (Some text)

-- the texts of the files that are named, or the first refusal in the order of the steps
abbrev pub texts_named : FormatWords → (List ℕ → Told) → Expect BookTexts
texts_named names told = text_of file.Metrics (told names.metrics) >>= λ metrics.
    text_of file.Html (told names.html) >>= λ html.
    sheets_from 1 told names.sheets >>= λ sheets.
    patterns_named told names.patterns >>= λ patterns.
    given (record {
      passes = names.passes;
      grid = grid_of names;
      output = output.Listing;
      metrics = metrics;
      patterns = patterns;
      html = html;
      sheets = sheets;
    })

-- the document of the files that are named, or the first refusal
abbrev pub document_named : (List ℕ → SheetOf) → FormatWords → (List ℕ → Told) → Expect Document
document_named reading names told = texts_named names told >>= document_of reading

-- in how many passes at most a sample book is to settle
abbrev pub sample_passes : ℕ
sample_passes = 8

-- the texts of a sample book of so many chapters, in one column, and of which the counts are told
abbrev pub sample_texts : ℕ → BookTexts
sample_texts count = record {
  passes = sample_passes;
  grid = record { columns = 1; gap = 0 };
  output = output.Counts count;
  metrics = metrics_text;
  patterns = None;
  html = html_of count;
  sheets = css_text ∷ [];
}

-- the texts of a task: those of its files, or those of the sample
abbrev pub texts_for : Task → (List ℕ → Told) → Expect BookTexts
texts_for (files names) told = texts_named names told
texts_for (chapters count) told = given (sample_texts count)

-- the document of a task's texts
abbrev pub document_for : (List ℕ → SheetOf) → Task → (List ℕ → Told) → Expect Document
document_for reading task told = texts_for task told >>= document_of reading

-- the texts that the program's words lead to
abbrev pub texts_expected : List (List ℕ) → (List ℕ → Told) → Expect BookTexts
texts_expected ws told = asked ws >>= λ task. texts_for task told

-- what is expected of these words over this shelf: the document, or the first refusal in the order of the steps;
-- `reading` gives what each text is read as, as a sheet
abbrev pub expected : (List ℕ → SheetOf) → List (List ℕ) → (List ℕ → Told) → Expect Document
expected reading ws told = texts_expected ws told >>= document_of reading

-- this is expected of these words over this shelf: by the reading of each text as a sheet, of which there is one
pub record IsExpected (ws : List (List ℕ)) (told : List ℕ → Told) (e : Expect Document) : Type 0 where
  pub reading : List ℕ → SheetOf
  pub reads : AreReadings reading
  pub is : e ≡ expected reading ws told

-- one thing is expected of words over a shelf
abbrev pub OneIsExpected : Type 0
OneIsExpected = (ws : List (List ℕ)) (told : List ℕ → Told) (d e : Expect Document) → IsExpected ws told d →
    IsExpected ws told e → d ≡ e

-- a file is read before this refusal comes
abbrev pub IsReadBefore : FileOf → Outcome → Type 0
IsReadBefore f (out.NotRead k) = ⊥
IsReadBefore f (out.ReadFault g) = IsNoLater f g
IsReadBefore f (out.TooLarge g) = IsNoLater f g
IsReadBefore f (out.NotUtf8 g n) = IsNoLater f g
IsReadBefore f o = Unit {0}

-- an outcome that no input explains comes in the place of a refusal only before it
abbrev pub ComesBefore : Outcome → Outcome → Type 0
ComesBefore (out.ReadFault f) o = IsReadBefore f o
ComesBefore out.NoMemory o = Unit {0}
ComesBefore p o = ⊥

-- no input explains it, and nothing is put
abbrev pub IsUnforeseen : Outcome → Type 0
IsUnforeseen (out.ReadFault f) = Unit {0}
IsUnforeseen out.NoMemory = Unit {0}
IsUnforeseen o = ⊥

-- the outcome of a run that puts nothing is the refusal that is expected, or one that no input explains
abbrev pub Stops : {A : Type 0} → Expect A → Outcome → Type 0
Stops free o = Unit {0}
Stops (refused p) o = (o ≡ p) ⊎ ComesBefore o p
Stops (given b) o = IsUnforeseen o

-- the limits that the passes over a document pass: the flow of one has more text than is laid out, or more frames
abbrev pub Passes : Document → LimitOf → Type 0
Passes d limit.Text = HasEnd d long
Passes d limit.Pages = HasEnd d many
Passes d limit.Nodes = ⊥
Passes d limit.Depth = ⊥
Passes d limit.Sheets = ⊥
Passes d limit.Rules = ⊥

-- a run over a document that puts nothing: its text is too much, its pages are too many, each pass changes the number
-- of a page reference, of which the first with its last two numbers is told, or no input explains it
abbrev pub Ends : Document → Outcome → Type 0
Ends d (out.Limit what) = Passes d what
Ends d (out.NotSettled target before after) = HasEnd d (unsettled target before after)
Ends d o = IsUnforeseen o

-- what a run over a document answers, by the bytes taken: Done wrote the document's book, which keeps all that is
-- promised, and a write fault a prefix of it
abbrev pub Writes : Document → Option (List ℕ) → Option (List ℕ) → Outcome → Type 0
Writes d old new (out.Done pages passes) =
    (b : Book) × IsWholeBook d b × (pages ≡ b.pages) × (passes ≡ b.passes) × Appends old new b.bytes
Writes d old new out.WriteFault = (b : Book) × IsWholeBook d b × ((n : ℕ) × Appends old new (take n b.bytes))
Writes d old new o = Ends d o

-- what a run answers, by what is expected and the bytes taken
abbrev pub Meets : Expect Document → Option (List ℕ) → Option (List ℕ) → Outcome → Type 0
Meets (given d) old new o = Writes d old new o
Meets e old new o = Stops e o

-- what is expected of the words over the shelf is met
abbrev pub Answers : List (List ℕ) → (List ℕ → Told) → Option (List ℕ) → Option (List ℕ) → Outcome → Type 0
Answers ws told old new o = (e : Expect Document) × IsExpected ws told e × Meets e old new o

-- with any answer but Done and a write fault nothing was put
abbrev pub PutsOnlyABook : Option (List ℕ) → Option (List ℕ) → Outcome → Type 0
PutsOnlyABook old new (out.Done pages passes) = Unit {0}
PutsOnlyABook old new out.WriteFault = Unit {0}
PutsOnlyABook old new o = Keeps old new

-- a file that the words name was not read for a cause: it is absent, or the count of faults rose, last for its name
-- where that is reported
abbrev pub IsFaultOf : Option (List ℕ) → (List ℕ → Told) → ℕ → ℕ → Option (List ℕ) → Type 0
IsFaultOf None told before now last = ⊥
IsFaultOf (Some name) told before now last = Faulted (told name) name before now last

-- a file of a task was not read for a cause; a sample book has no file
abbrev pub IsTaskFault : Task → FileOf → (List ℕ → Told) → ℕ → ℕ → Option (List ℕ) → Type 0
IsTaskFault (files names) f told before now last = IsFaultOf (name_of names f) told before now last
IsTaskFault (chapters count) f told before now last = ⊥

-- a read fault is of a file that the words name, with its cause
abbrev pub HasReadCause : Expect Task → (List ℕ → Told) → ℕ → ℕ → Option (List ℕ) → Outcome → Type 0
HasReadCause (given task) told before now last (out.ReadFault f) = IsTaskFault task f told before now last
HasReadCause (refused o) told before now last (out.ReadFault f) = ⊥
HasReadCause task told before now last o = Unit {0}

-- the shelf's count of faults stays, but with a read fault. Any fetch may fail, so none is made but those of the files
-- that the words name, up to the first that can't be read
abbrev pub KeepsFaults : ℕ → ℕ → Outcome → Type 0
KeepsFaults before now (out.ReadFault f) = Unit {0}
KeepsFaults before now o = now ≡ before

-- what stops the reads of files is of one that is named, and no put
abbrev pub IsOfFiles : FormatWords → (List ℕ → Told) → ℕ → ℕ → Option (List ℕ) → Outcome → Type 0
IsOfFiles names told before now last (out.ReadFault f) = IsFaultOf (name_of names f) told before now last
IsOfFiles names told before now last (out.NotRead k) = ⊥
IsOfFiles names told before now last (out.Done pages passes) = ⊥
IsOfFiles names told before now last out.WriteFault = ⊥
IsOfFiles names told before now last o = Unit {0}

-- words are refused only for their own fault
abbrev pub HasWordsCause : Expect Task → Outcome → Type 0
HasWordsCause e (out.NotRead k) = e ≡ refused (out.NotRead k)
HasWordsCause e o = Unit {0}

-- a line was put: all of it, or, where the count of faults rose, a prefix of it
abbrev pub PutsLine : Option (List ℕ) → Option (List ℕ) → ℕ → ℕ → List ℕ → Type 0
PutsLine old new before now line =
    (before ≤ now) × (Appends old new line ⊎ (Rose before now × ((n : ℕ) × Appends old new (take n line))))

-- the answer is neither a refusal of words nor a read fault
abbrev pub IsOfBook : Outcome → Type 0
IsOfBook (out.NotRead k) = ⊥
IsOfBook (out.ReadFault f) = ⊥
IsOfBook o = Unit {0}

-- a read fault is of a file that is named, with its cause, and words are not refused
abbrev pub HasFileCause : FormatWords → (List ℕ → Told) → ℕ → ℕ → Option (List ℕ) → Outcome → Type 0
HasFileCause names told before now last (out.ReadFault f) = IsFaultOf (name_of names f) told before now last
HasFileCause names told before now last (out.NotRead k) = ⊥
HasFileCause names told before now last o = Unit {0}

-- the same for any task
abbrev pub HasTaskCause : Task → (List ℕ → Told) → ℕ → ℕ → Option (List ℕ) → Outcome → Type 0
HasTaskCause (files names) told before now last o = HasFileCause names told before now last o
HasTaskCause (chapters count) told before now last o = IsOfBook o

-- the answer is neither a refusal of words or of files nor one of a run that put something
abbrev pub IsOfTexts : Outcome → Type 0
IsOfTexts (out.Done pages passes) = ⊥
IsOfTexts (out.NotRead k) = ⊥
IsOfTexts (out.ReadFault f) = ⊥
IsOfTexts out.WriteFault = ⊥
IsOfTexts o = Unit {0}

-- the answer is a refusal of words, or memory ran out
abbrev pub IsOfWords : Outcome → Type 0
IsOfWords (out.NotRead k) = Unit {0}
IsOfWords out.NoMemory = Unit {0}
IsOfWords o = ⊥

-- the limits of a document that is laid out
abbrev pub IsOfLayout : LimitOf → Type 0
IsOfLayout limit.Text = Unit {0}
IsOfLayout limit.Pages = Unit {0}
IsOfLayout limit.Nodes = ⊥
IsOfLayout limit.Depth = ⊥
IsOfLayout limit.Sheets = ⊥
IsOfLayout limit.Rules = ⊥

-- a book was put, or the passes over the document don't settle, or memory ran out
abbrev pub IsDoneOrUnsettled : Outcome → Type 0
IsDoneOrUnsettled (out.Done pages passes) = Unit {0}
IsDoneOrUnsettled (out.Limit what) = IsOfLayout what
IsDoneOrUnsettled (out.NotSettled target before after) = Unit {0}
IsDoneOrUnsettled out.NoMemory = Unit {0}
IsDoneOrUnsettled o = ⊥

-- where a document is expected and neither count of faults rose, the answer is Done, but where the passes over it don't
-- settle, and for want of memory
abbrev pub IsComplete : Expect Document → Type 0 → Type 0 → Outcome → Type 0
IsComplete (given d) shelf_rose out_rose o = ¬ shelf_rose → ¬ out_rose → IsDoneOrUnsettled o
IsComplete e shelf_rose out_rose o = Unit {0}

-- what comes is what the words and the files lead to, unless memory or a stream stops it
abbrev pub Completes : List (List ℕ) → (List ℕ → Told) → Type 0 → Type 0 → Outcome → Type 0
Completes ws told shelf_rose out_rose o =
    (e : Expect Document) × IsExpected ws told e × IsComplete e shelf_rose out_rose o

-- the answer tells one pass where it tells any, and not that page references don't settle
abbrev pub IsOfOnePass : Outcome → Type 0
IsOfOnePass (out.Done pages passes) = passes ≡ 1
IsOfOnePass (out.NotSettled target before after) = ⊥
IsOfOnePass o = Unit {0}

-- over a document without page references the first pass is the last
abbrev pub SettlesAtOnce : List (List ℕ) → (List ℕ → Told) → Outcome → Type 0
SettlesAtOnce ws told o = (d : Document) → IsExpected ws told (given d) → HasNoReferences d → IsOfOnePass o
