-- Where a document is expected and no count of faults rose, a run answers Done, but where passes don't settle, and for want of memory.
use Rattle.std.proofs.Common.{◌≡◌, ℕ, zero, suc, List, [], ◌∷◌, slice_get, Option, Some, None, inl, inr, refl}
use Rattle.std.proofs.lemmas.Option.{same_Some, none-some}
use Rattle.bk_io.specs.Shelf.{Told, absent}
use Rattle.bk_io.specs.Causes.{Rose}
use Rattle.sheets.specs.Readings.{SheetOf}
use Rattle.book.specs.Expect.{Expect, free, refused, given, ◌>>=◌}
use Rattle.named_files.specs.Names.{name_of}
use Rattle.book.specs.Request.{Task, files, chapters, asked}
use Rattle.words.specs.Asked.{FormatWords}
use Rattle.book.specs.Document.{BookTexts, Document, document_of}
use Rattle.book.specs.Run.{text_of, patterns_named, sheets_from, texts_for, texts_named, expected, Writes, Meets, HasReadCause, IsFaultOf, IsComplete, IsDoneOrUnsettled}
use Rattle.book.specs.declared.outcome.Outcome.{Outcome}
use Rattle.book.specs.declared.outcome.Outcome.TheVariants as out
use Rattle.named_files.specs.declared.file.FileOf.{FileOf}
use Rattle.named_files.specs.declared.file.FileOf.TheVariants as file
use Rattle.book.specs.declared.outcome.LimitOf.TheVariants as limit

-- no document comes of a refusal, and none through steps of which a later one refuses
refused_gives : (o : Outcome) (d : Document) → refused o ≡ given d → ⊥
refused_gives o d e = absurd (cc)

through : {A : Type 0} (reading : List ℕ → SheetOf) (x : Expect A) (k : A → Expect BookTexts) (d : Document) → ((y : A) → (k y >>= document_of reading) ≡ given d → ⊥) → ((x >>= k) >>= document_of reading) ≡ given d → ⊥
through reading free k d n e = absurd (cc)
through reading (refused p) k d n e = absurd (cc)
through reading (given y) k d n e = n y e

-- the same, where it is known what the step gives
no_sheets : (reading : List ℕ → SheetOf) (x : Expect (List (List ℕ))) (k : List (List ℕ) → Expect BookTexts) (d : Document) → ((y : List (List ℕ)) → x ≡ given y → ⊥) → ((x >>= k) >>= document_of reading) ≡ given d → ⊥
no_sheets reading free k d n e = absurd (cc)
no_sheets reading (refused p) k d n e = absurd (cc)
no_sheets reading (given y) k d n e = n y refl

refused_texts : (o : Outcome) (texts : List (List ℕ)) → refused o ≡ given texts → ⊥
refused_texts o texts e = absurd (cc)

after_text : (x : Expect (List ℕ)) (rest : Expect (List (List ℕ))) (texts : List (List ℕ)) → ((more : List (List ℕ)) → rest ≡ given more → ⊥) → (x >>= λ text. rest >>= λ more. given (text ∷ more)) ≡ given texts → ⊥
after_text free rest texts n e = absurd (cc)
after_text (refused p) rest texts n e = absurd (cc)
after_text (given t) free texts n e = absurd (cc)
after_text (given t) (refused p) texts n e = absurd (cc)
after_text (given t) (given more) texts n e = n more refl

-- no texts of sheets come of names of which one isn't there
sheets_absent : (told : List ℕ → Told) (k place : ℕ) (names : List (List ℕ)) (name : List ℕ) (texts : List (List ℕ)) → slice_get names place ≡ Some name → told name ≡ absent → sheets_from k told names ≡ given texts → ⊥
sheets_absent told k place [] name texts m a e = none-some name m
sheets_absent told k zero (n ∷ names) name texts m a e =
    let there : told n ≡ absent = rw (same_Some n name m) a in
    refused_texts (out.ReadFault (file.Sheet k)) texts (rw there at e)
sheets_absent told k (suc place) (n ∷ names) name texts m a e =
    after_text (text_of (file.Sheet k) (told n)) (sheets_from (suc k) told names) texts (λ more h. sheets_absent told (suc k) place names name more m a h) e

-- no text comes of patterns that aren't there
no_patterns : (reading : List ℕ → SheetOf) (x : Expect (Option (List ℕ))) (k : Option (List ℕ) → Expect BookTexts) (d : Document) → ((y : Option (List ℕ)) → x ≡ given y → ⊥) → ((x >>= k) >>= document_of reading) ≡ given d → ⊥
no_patterns reading free k d n e = absurd (cc)
no_patterns reading (refused p) k d n e = absurd (cc)
no_patterns reading (given y) k d n e = n y refl

refused_patterns : (o : Outcome) (text : Option (List ℕ)) → refused o ≡ given text → ⊥
refused_patterns o text e = absurd (cc)

patterns_absent : (told : List ℕ → Told) (named : Option (List ℕ)) (name : List ℕ) → named ≡ Some name → told name ≡ absent → (y : Option (List ℕ)) → patterns_named told named ≡ given y → ⊥
patterns_absent told None name m a y e = none-some name m
patterns_absent told (Some n) name m a y e =
    let there : told n ≡ absent = rw (same_Some n name m) a in
    refused_patterns (out.ReadFault file.Patterns) y (rw there at e)

-- each file that a document comes of is there
is_there : (reading : List ℕ → SheetOf) (names : FormatWords) (told : List ℕ → Told) (f : FileOf) (name : List ℕ) (d : Document) → name_of names f ≡ Some name → told name ≡ absent → (texts_named names told >>= document_of reading) ≡ given d → ⊥
is_there reading names told file.Metrics name d m a e = let b : told names.metrics ≡ absent = rw (same_Some names.metrics name m) a in refused_gives (out.ReadFault file.Metrics) d (rw b at e)
is_there reading names told file.Html name d m a e = let b : told names.html ≡ absent = rw (same_Some names.html name m) a in through reading (text_of file.Metrics (told names.metrics)) _ d (λ t g. refused_gives (out.ReadFault file.Html) d (rw b at g)) e
is_there reading names told (file.Sheet zero) name d m a e = none-some name m
is_there reading names told (file.Sheet (suc place)) name d m a e = through reading (text_of file.Metrics (told names.metrics)) _ d (λ t g.
    through reading (text_of file.Html (told names.html)) _ d (λ h i.
    no_sheets reading (sheets_from 1 told names.sheets) _ d (λ texts j. sheets_absent told 1 place names.sheets name texts m a j) i) g) e
is_there reading names told file.Patterns name d m a e = through reading (text_of file.Metrics (told names.metrics)) _ d (λ t g.
    through reading (text_of file.Html (told names.html)) _ d (λ h i.
    through reading (sheets_from 1 told names.sheets) _ d (λ ss j.
    no_patterns reading (patterns_named told names.patterns) _ d (patterns_absent told names.patterns name m a) j) i) g) e

named_rose : (reading : List ℕ → SheetOf) (names : FormatWords) (told : List ℕ → Told) (before now : ℕ) (last : Option (List ℕ)) (f : FileOf) (d : Document) (n : Option (List ℕ)) → name_of names f ≡ n → (texts_named names told >>= document_of reading) ≡ given d → IsFaultOf n told before now last → Rose before now
named_rose reading names told before now last f d None i e h = absurd h
named_rose reading names told before now last f d (Some name) i e h = elim h [ inl a ↦ absurd (is_there reading names told f name d i a e) | inr r ↦ r.0 ]

rose : (reading : List ℕ → SheetOf) (e : Expect Task) (told : List ℕ → Told) (before now : ℕ) (last : Option (List ℕ)) (f : FileOf) (d : Document) → ((e >>= λ task. texts_for task told) >>= document_of reading) ≡ given d → HasReadCause e told before now last (out.ReadFault f) → Rose before now
rose reading free told before now last f d e h = absurd (cc)
rose reading (refused p) told before now last f d e h = absurd h
rose reading (given (files names)) told before now last f d e h = named_rose reading names told before now last f d (name_of names f) refl e h
rose reading (given (chapters count)) told before now last f d e h = absurd h

module _ (reading : List ℕ → SheetOf) (ws : List (List ℕ)) (told : List ℕ → Told) (before now : ℕ) (last : Option (List ℕ)) (OutRose : Type 0) (old new : Option (List ℕ)) where
  laid_out : (d : Document) (o : Outcome) → expected reading ws told ≡ given d → Writes d old new o → HasReadCause (asked ws) told before now last o → (o ≡ out.WriteFault → OutRose) → ¬ (Rose before now) → ¬ OutRose → IsDoneOrUnsettled o
  laid_out d (out.Done pages passes) e m h w n k = tt
  laid_out d (out.Limit limit.Text) e m h w n k = tt
  laid_out d (out.Limit limit.Pages) e m h w n k = tt
  laid_out d (out.Limit limit.Nodes) e m h w n k = absurd m
  laid_out d (out.Limit limit.Depth) e m h w n k = absurd m
  laid_out d (out.Limit limit.Sheets) e m h w n k = absurd m
  laid_out d (out.Limit limit.Rules) e m h w n k = absurd m
  laid_out d out.NoMemory e m h w n k = tt
  laid_out d out.WriteFault e m h w n k = absurd (k (w refl))
  laid_out d (out.ReadFault f) e m h w n k = absurd (n (rose reading (asked ws) told before now last f d e h))
  laid_out d (out.NotRead r) e m h w n k = absurd m
  laid_out d (out.TooLarge f) e m h w n k = absurd m
  laid_out d (out.NotUtf8 f at) e m h w n k = absurd m
  laid_out d (out.BadMetrics line why) e m h w n k = absurd m
  laid_out d (out.BadPatterns line) e m h w n k = absurd m
  laid_out d (out.NotSettled target one other) e m h w n k = tt

  complete_by : (e : Expect Document) (o : Outcome) → expected reading ws told ≡ e → Meets e old new o → HasReadCause (asked ws) told before now last o → (o ≡ out.WriteFault → OutRose) → IsComplete e (Rose before now) OutRose o
  complete_by free o i m h w = tt
  complete_by (refused p) o i m h w = tt
  complete_by (given d) o i m h w = laid_out d o i m h w

  pub complete_of : (o : Outcome) → Meets (expected reading ws told) old new o → HasReadCause (asked ws) told before now last o → (o ≡ out.WriteFault → OutRose) → IsComplete (expected reading ws told) (Rose before now) OutRose o
  complete_of o m h w = complete_by (expected reading ws told) o refl m h w
