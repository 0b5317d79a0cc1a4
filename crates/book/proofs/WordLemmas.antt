-- Words that are not read.
use Rattle.std.proofs.Common.{◌≡◌, ◌∙◌, ◌⊎◌, ℕ, List, [], ◌∷◌, None, ap, inl, inr, refl, subst, sym, Err}
use Rattle.bk_io.specs.Shelf.{Told, untold}
use Rattle.words.specs.Asked.{Answers, Asked, asked as asked_of, is_format, is_sample}
use Rattle.words.specs.declared.fault.WordsErr.{WordsErr}
use Rattle.words.specs.declared.fault.WordsErr.TheVariants as words
use Rattle.words.specs.declared.fault.WordsFault.{WordsFault}
use Rattle.words.specs.declared.fault.WordsFault.TheVariants as fault
use Rattle.book.specs.Document.{Document, document_of}
use Rattle.book.specs.Expect.{Expect, refused, ◌>>=◌, IsRefusedUnlessMemory}
use Rattle.book.specs.Laws.{AnswersFollowWords, OnlyMemoryAnswersAll}
use Rattle.book.specs.Refusals.{words_refusal}
use Rattle.book.specs.Request.{Task, asked, task_asked}
use Rattle.book.specs.Run.{ComesBefore, IsOfWords, Meets, Stops, texts_for}
use Rattle.book.specs.declared.outcome.Outcome.{Outcome}
use Rattle.book.specs.declared.outcome.Outcome.TheVariants as out

-- words are refused as it is expected
pub words_refused : (asked : Asked) (e : WordsErr) → Answers asked (Err e) → IsRefusedUnlessMemory (task_asked asked) (words_refusal e)
words_refused asked (words.Fault f) h = subst (λ (a : Asked). IsRefusedUnlessMemory (task_asked a) (out.NotRead f)) h refl
words_refused asked words.NoMemory h = tt

-- the refusal is one of words
pub of_words : (e : WordsErr) → IsOfWords (words_refusal e)
of_words (words.Fault f) = tt
of_words words.NoMemory = tt

-- before words only memory can run out
before_words : (kind : WordsFault) (o : Outcome) → ComesBefore o (out.NotRead kind) → o ≡ out.NoMemory
before_words kind out.NoMemory b = refl
before_words kind (out.ReadFault f) b = absurd b
before_words kind (out.Done pages passes) b = absurd b
before_words kind (out.NotRead k) b = absurd b
before_words kind (out.TooLarge f) b = absurd b
before_words kind (out.NotUtf8 f at) b = absurd b
before_words kind (out.BadMetrics line why) b = absurd b
before_words kind (out.BadPatterns line) b = absurd b
before_words kind (out.NotSettled target one other) b = absurd b
before_words kind (out.Limit what) b = absurd b
before_words kind out.WriteFault b = absurd b

words_stop : (kind : WordsFault) (o : Outcome) → Stops {A = Document} (refused (out.NotRead kind)) o → (o ≡ out.NotRead kind) ⊎ (o ≡ out.NoMemory)
words_stop kind o s = elim s [ inl e ↦ inl e | inr b ↦ inr (before_words kind o b) ]

-- refused words are answered with their fault, or memory ran out
pub follow_words : AnswersFollowWords
follow_words ws told old new kind o is (e, x, m) =
    let same : e ≡ refused (out.NotRead kind) = x.is ∙ ap (λ (a : Expect Task). (a >>= λ task. texts_for task told) >>= document_of x.reading) is in
    words_stop kind o (subst (λ (z : Expect Document). Meets z old new o) same m)

no_words : asked [] ≡ refused (out.NotRead fault.NoCommand)
unfolding asked_of
no_words = refl

empty_word : asked ([] ∷ []) ≡ refused (out.NotRead fault.UnknownCommand)
unfolding asked_of is_format is_sample
empty_word = refl

both_faults : (o : Outcome) → (o ≡ out.NotRead fault.NoCommand) ⊎ (o ≡ out.NoMemory) → (o ≡ out.NotRead fault.UnknownCommand) ⊎ (o ≡ out.NoMemory) → o ≡ out.NoMemory
both_faults o (inr a) q = a
both_faults o (inl a) (inr b) = b
both_faults o (inl a) (inl b) = absurd (let e : out.NotRead fault.NoCommand ≡ out.NotRead fault.UnknownCommand = sym a ∙ b in cc)

-- an answer to no words and to an empty word is want of memory
pub only_memory : OnlyMemoryAnswersAll
only_memory o h =
    let nothing : List ℕ → Told = λ name. untold in
    let (n, a) = h [] nothing None in
    let (m, b) = h ([] ∷ []) nothing None in
    both_faults o (follow_words [] nothing None n fault.NoCommand o no_words a) (follow_words ([] ∷ []) nothing None m fault.UnknownCommand o empty_word b)
