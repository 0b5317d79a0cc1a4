-- Few lines are filled by what lays a document out, whatever leads to it.
use Rattle.std.proofs.Common.{◌≡◌, ℕ, List, Option, Err, sym, subst}
use Rattle.bk_io.specs.Shelf.{Told}
use Rattle.bk_num.specs.declared.ids.NodeId.{NodeId}
use Rattle.gen_text.specs.References.{AreTargets}
use Rattle.boxes.specs.Frames.{PageFrames}
use Rattle.passes.specs.Looked.{LookWithin, HaveLooked, TakesFewSteps}
use Rattle.passes.specs.Work.{Work}
use Rattle.passes.specs.declared.settle.Input.{Input}
use Rattle.passes.specs.declared.settle.PassErr.{PassErr}
use Rattle.passes.specs.declared.settle.PassErr.TheVariants as err
use Rattle.listing.specs.declared.print.PrintErr.{PrintErr}
use Rattle.listing.specs.declared.print.PrintErr.TheVariants as print
use Rattle.sheets.specs.Readings.{SheetOf}
use Rattle.soft_hyphens.specs.Words.{Points, points_in}
use Rattle.book.specs.Document.{Document, BookTexts, document_of}
use Rattle.book.specs.Expect.{Expect, free, refused, given, IsGiven, IsRefusedUnlessMemory, ◌>>=◌}
use Rattle.book.specs.Flow.{asked_of, page_frames}
use Rattle.book.specs.Laid.{StopsBy, of_passes, of_print}
use Rattle.book.specs.Lines.{EndsInFew, FillsFew, MeetsInFew, SettlesInFew, TakesFewBy}
use Rattle.book.specs.Request.{Task}
use Rattle.book.specs.Run.{IsUnforeseen, Stops, document_for, texts_for}
use Rattle.book.specs.declared.outcome.Outcome.{Outcome}
use Rattle.book.specs.declared.outcome.Outcome.TheVariants as out
use Rattle.book.specs.declared.styled.Styled.{Styled}
use Rattle.book.proofs.PassLemmas.{work_with}
use Rattle.book.proofs.Stopping.{after_given}

-- ---- passes in the frames of a document's page rules
pub few_in : (s : Styled) (asked : List (List ℕ)) (points : Option Points) (frames : PageFrames) (per : ℕ) (passes old new : ℕ) → asked ≡ asked_of s.rules → points ≡ points_in s.patterns → frames ≡ page_frames s.rules s.names s.grid → per ≡ s.grid.columns → (targets : List NodeId) → AreTargets s.dom s.styles targets → TakesFewSteps (work_with s asked points targets frames per) passes old new → TakesFewBy s passes old new
few_in s asked points frames per passes old new names by same count targets are few = record {
  targets = targets;
  are = are;
  few = subst (λ (w : Work). TakesFewSteps w passes old new) (λ i. work_with s (names i) (by i) targets (same i) (count i)) few;
}

pub unsettled_few : (s : Styled) (input : Input) (frames : PageFrames) (per old new : ℕ) → (HaveLooked input frames per s.passes old new → TakesFewBy s s.passes old new) → (e : PassErr) → LookWithin input frames per s.passes (Err e) old new → SettlesInFew s (Err (of_passes e)) old new
unsettled_few s input frames per old new f (err.NotSettled target before after) h = f h
unsettled_few s input frames per old new f err.Text h = tt
unsettled_few s input frames per old new f err.Pages h = tt
unsettled_few s input frames per old new f err.NoMemory h = tt

-- ---- what lays a document in its styles out
pub ends_few : (s : Styled) (o : Outcome) (old new : ℕ) → StopsBy s o → SettlesInFew s (Err o) old new → EndsInFew s o old new
ends_few s (out.Done pages passes) old new stops h = absurd stops
ends_few s (out.NotSettled target one other) old new stops h = h
ends_few s (out.NotRead k) old new stops h = tt
ends_few s (out.ReadFault f) old new stops h = tt
ends_few s (out.TooLarge f) old new stops h = tt
ends_few s (out.NotUtf8 f at) old new stops h = tt
ends_few s (out.BadMetrics line why) old new stops h = tt
ends_few s (out.BadPatterns line) old new stops h = tt
ends_few s (out.Limit what) old new stops h = tt
ends_few s out.WriteFault old new stops h = tt
ends_few s out.NoMemory old new stops h = tt

pub print_few : (s : Styled) (e : PrintErr) (old new : ℕ) → EndsInFew s (of_print e) old new
print_few s print.Failed old new = tt
print_few s print.NoMemory old new = tt

-- ---- and what is expected
pub given_few : (e : Expect Document) (d : Document) (o : Outcome) (old new : ℕ) → IsGiven e d → FillsFew d o old new → MeetsInFew e o old new
given_few free d o old new g h = tt
given_few (refused p) d o old new g h = tt
given_few (given x) d o old new g h = subst (λ (y : Document). FillsFew y o old new) g h

pub texts_few : (reading : List ℕ → SheetOf) (e : Expect BookTexts) (t : BookTexts) (o : Outcome) (old new : ℕ) → IsGiven e t → MeetsInFew (document_of reading t) o old new → MeetsInFew (e >>= document_of reading) o old new
texts_few reading e t o old new g h = after_given e t (document_of reading) (λ z. MeetsInFew z o old new) tt g h

pub task_few : (reading : List ℕ → SheetOf) (e : Expect Task) (task : Task) (told : List ℕ → Told) (o : Outcome) (old new : ℕ) → e ≡ given task → MeetsInFew (document_for reading task told) o old new → MeetsInFew ((e >>= λ x. texts_for x told) >>= document_of reading) o old new
task_few reading e task told o old new g h = subst (λ (x : Expect Task). MeetsInFew ((x >>= λ y. texts_for y told) >>= document_of reading) o old new) (sym g) h

-- ---- what stops before a document is laid out takes no step
memory_few : (e : Expect Document) (old new : ℕ) → MeetsInFew e out.NoMemory old new
memory_few free old new = tt
memory_few (refused p) old new = tt
memory_few (given d) old new = tt

pub refused_few : (e : Expect Document) (o : Outcome) (old new : ℕ) → IsRefusedUnlessMemory e o → MeetsInFew e o old new
refused_few free o old new r = tt
refused_few (refused p) o old new r = tt
refused_few (given d) (out.Done pages passes) old new r = absurd r
refused_few (given d) (out.NotSettled target one other) old new r = absurd r
refused_few (given d) (out.NotRead k) old new r = absurd r
refused_few (given d) (out.ReadFault f) old new r = absurd r
refused_few (given d) (out.TooLarge f) old new r = absurd r
refused_few (given d) (out.NotUtf8 f at) old new r = absurd r
refused_few (given d) (out.BadMetrics line why) old new r = absurd r
refused_few (given d) (out.BadPatterns line) old new r = absurd r
refused_few (given d) (out.Limit what) old new r = absurd r
refused_few (given d) out.WriteFault old new r = absurd r
refused_few (given d) out.NoMemory old new r = tt

unforeseen_few : (e : Expect Document) (o : Outcome) (old new : ℕ) → IsUnforeseen o → MeetsInFew e o old new
unforeseen_few free o old new u = tt
unforeseen_few (refused p) o old new u = tt
unforeseen_few (given d) (out.Done pages passes) old new u = absurd u
unforeseen_few (given d) (out.NotSettled target one other) old new u = absurd u
unforeseen_few (given d) (out.NotRead k) old new u = absurd u
unforeseen_few (given d) (out.ReadFault f) old new u = tt
unforeseen_few (given d) (out.TooLarge f) old new u = absurd u
unforeseen_few (given d) (out.NotUtf8 f at) old new u = absurd u
unforeseen_few (given d) (out.BadMetrics line why) old new u = absurd u
unforeseen_few (given d) (out.BadPatterns line) old new u = absurd u
unforeseen_few (given d) (out.Limit what) old new u = absurd u
unforeseen_few (given d) out.WriteFault old new u = absurd u
unforeseen_few (given d) out.NoMemory old new u = tt

pub stops_few : (reading : List ℕ → SheetOf) (e : Expect BookTexts) (o : Outcome) (old new : ℕ) → Stops e o → MeetsInFew (e >>= document_of reading) o old new
stops_few reading free o old new h = tt
stops_few reading (refused p) o old new h = tt
stops_few reading (given t) o old new h = unforeseen_few (document_of reading t) o old new h

pub words_few : (reading : List ℕ → SheetOf) (e : Expect Task) (told : List ℕ → Told) (o : Outcome) (old new : ℕ) → IsRefusedUnlessMemory e o → MeetsInFew ((e >>= λ task. texts_for task told) >>= document_of reading) o old new
words_few reading free told o old new r = tt
words_few reading (refused p) told o old new r = tt
words_few reading (given x) told (out.Done pages passes) old new r = absurd r
words_few reading (given x) told (out.NotSettled target one other) old new r = absurd r
words_few reading (given x) told (out.NotRead k) old new r = absurd r
words_few reading (given x) told (out.ReadFault f) old new r = absurd r
words_few reading (given x) told (out.TooLarge f) old new r = absurd r
words_few reading (given x) told (out.NotUtf8 f at) old new r = absurd r
words_few reading (given x) told (out.BadMetrics line why) old new r = absurd r
words_few reading (given x) told (out.BadPatterns line) old new r = absurd r
words_few reading (given x) told (out.Limit what) old new r = absurd r
words_few reading (given x) told out.WriteFault old new r = absurd r
words_few reading (given x) told out.NoMemory old new r = memory_few _ old new
