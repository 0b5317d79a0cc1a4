-- Laws of books and of answers.
use Rattle.std.specs.Prelude.{◌≡◌, ℕ, List, Option, length, ◌⊎◌}
use Rattle.bk_io.specs.Shelf.{Told}
use Rattle.boxes.specs.declared.flow.Flow.{Flow}
use Rattle.boxes.specs.declared.page.Page.{Page}
use Rattle.dom.specs.Nodes.{IsTree}
use Rattle.gen_text.specs.declared.table.Entry.{Entry}
use Rattle.page_list.specs.Laws.{BreaksHold, MainStandsOnce, NotesBeginInTime, NotesStandOnce, PagesEndInside}
use Rattle.page_seq.specs.FoldLaws.{FoldsKeepAll}
use Rattle.page_seq.specs.Folds.{fold_of}
use Rattle.passes.specs.Passes.{End, settled, unsettled, long, many}
use Rattle.book.specs.Answer.{Book, IsBookOf}
use Rattle.book.specs.Document.{Document}
use Rattle.book.specs.Expect.{given, refused}
use Rattle.book.specs.Flow.{HasEnd, whole_frames}
use Rattle.book.specs.Request.{asked, files}
use Rattle.book.specs.Run.{Answers, IsExpected, IsUnforeseen}
use Rattle.book.specs.declared.outcome.LimitOf.TheVariants as limit
use Rattle.book.specs.declared.outcome.Outcome.{Outcome}
use Rattle.book.specs.declared.outcome.Outcome.TheVariants as out
use Rattle.words.specs.Asked.{FormatWords}
use Rattle.words.specs.declared.fault.WordsFault.{WordsFault}

-- what holds of all page lists
pub record PageLaws : Type 0 where
  pub main : MainStandsOnce
  pub notes : NotesStandOnce
  pub breaks : BreaksHold
  pub inside : PagesEndInside
  pub begins : NotesBeginInTime
  pub folds : FoldsKeepAll

-- ---- a document whose nodes are a tree

-- the passes over it end in one way
abbrev pub HasOneEnd : Type 0
HasOneEnd = (d : Document) (a b : End) → IsTree d.nodes → HasEnd d a → HasEnd d b → a ≡ b

-- it has one book
abbrev pub HasOneBook : Type 0
HasOneBook = (d : Document) (b c : Book) → IsTree d.nodes → IsBookOf d b → IsBookOf d c → b ≡ c

-- ---- a document in one column

-- its frames are those that its page rules give, each on a page of its own
pub record HasWholePages (d : Document) (b : Book) (is : IsBookOf d b) : Type 0 where
  pub frames : is.work.frames ≡ whole_frames is.rules is.names
  pub pages : fold_of d.grid.columns is.frames ≡ is.frames

-- in one column frames are pages
abbrev pub OneColumnIsThePage : Type 0
OneColumnIsThePage = (d : Document) (b : Book) → d.grid.columns ≡ 1 → (is : IsBookOf d b) → HasWholePages d b is

-- a document with another gap between its columns
abbrev pub with_gap : ℕ → Document → Document
with_gap gap d = record d { grid = record d.grid { gap = gap } }

-- where there is one column, the gap changes nothing of the book
abbrev pub OneColumnHasNoGap : Type 0
OneColumnHasNoGap = (d : Document) (gap : ℕ) (b c : Book) → d.grid.columns ≡ 1 → IsTree d.nodes → IsBookOf d b →
    IsBookOf (with_gap gap d) c → b ≡ c

-- ---- a document that is expected of words over a shelf

-- its nodes are a tree
abbrev pub ExpectedIsTree : Type 0
ExpectedIsTree = (ws : List (List ℕ)) (told : List ℕ → Told) (d : Document) → IsExpected ws told (given d) →
    IsTree d.nodes

-- one end of the passes is expected of words over a shelf
abbrev pub OneEndIsExpected : Type 0
OneEndIsExpected = (ws : List (List ℕ)) (told : List ℕ → Told) (d e : Document) (a b : End) →
    IsExpected ws told (given d) → IsExpected ws told (given e) → HasEnd d a → HasEnd e b → a ≡ b

-- and one book
abbrev pub OneBookIsExpected : Type 0
OneBookIsExpected = (ws : List (List ℕ)) (told : List ℕ → Told) (d e : Document) (b c : Book) →
    IsExpected ws told (given d) → IsExpected ws told (given e) → IsBookOf d b → IsBookOf e c → b ≡ c

-- words that ask for one column, and words that ask for the same with another gap: one book is expected of both
abbrev pub OneColumnIsExpected : Type 0
OneColumnIsExpected = (ws others : List (List ℕ)) (told : List ℕ → Told) (names : FormatWords) (gap : ℕ)
    (d e : Document) (b c : Book) → names.columns ≡ 1 → asked ws ≡ given (files names) →
    asked others ≡ given (files (record names { gap = gap })) → IsExpected ws told (given d) →
    IsExpected others told (given e) → IsBookOf d b → IsBookOf e c → b ≡ c

-- ---- the answer by the end of the passes

-- passes settle in so many, with so many pages, on each of which stand so many frames
pub record SettlesWith (per : ℕ) (end : End) (pages passes : ℕ) : Type 0 where
  pub flow : Flow
  pub list : List Page
  pub table : List Entry
  pub is : end ≡ settled passes flow list table
  pub count : pages ≡ length (fold_of per list)

-- the answer where passes end so: they settle, and Done tells it, or the book can't be written; a reference doesn't
-- settle; a limit is passed; or no input explains the answer
abbrev pub IsAnswerAt : ℕ → End → Outcome → Type 0
IsAnswerAt per end (out.Done pages passes) = SettlesWith per end pages passes
IsAnswerAt per end out.WriteFault = (pages : ℕ) × (passes : ℕ) × SettlesWith per end pages passes
IsAnswerAt per end (out.NotSettled target before after) = end ≡ unsettled target before after
IsAnswerAt per end (out.Limit limit.Text) = end ≡ long
IsAnswerAt per end (out.Limit limit.Pages) = end ≡ many
IsAnswerAt per end o = IsUnforeseen o

-- the end of the passes over the document that is expected decides the answer of a run
abbrev pub AnswersFollowEnds : Type 0
AnswersFollowEnds = (ws : List (List ℕ)) (told : List ℕ → Told) (old new : Option (List ℕ)) (d : Document) (end : End)
    (o : Outcome) → IsExpected ws told (given d) → HasEnd d end → Answers ws told old new o →
    IsAnswerAt d.grid.columns end o

-- ---- the answer by the words

-- words that ask for nothing are answered with their fault, or memory ran out
abbrev pub AnswersFollowWords : Type 0
AnswersFollowWords = (ws : List (List ℕ)) (told : List ℕ → Told) (old new : Option (List ℕ)) (kind : WordsFault)
    (o : Outcome) → asked ws ≡ refused (out.NotRead kind) → Answers ws told old new o →
    (o ≡ out.NotRead kind) ⊎ (o ≡ out.NoMemory)

-- this answers all words, over any shelf and sink
abbrev pub AnswersAll : Outcome → Type 0
AnswersAll o = (ws : List (List ℕ)) (told : List ℕ → Told) (old : Option (List ℕ)) →
    (new : Option (List ℕ)) × Answers ws told old new o

-- nothing but want of memory does
abbrev pub OnlyMemoryAnswersAll : Type 0
OnlyMemoryAnswersAll = (o : Outcome) → AnswersAll o → o ≡ out.NoMemory
