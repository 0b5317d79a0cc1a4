-- How a run stops at a file, and goes on after one.
use Rattle.std.proofs.Common.{◌≡◌, ◌≢◌, ap, ◌⊎◌, ℕ, suc, ◌≤◌, List, [], ◌∷◌, length, nat_lt, true, false, cond, inl, inr, refl, sym, arith, subst, Option, None, Some, Result, Ok, Err, Bool}
use Rattle.std.specs.List.{list_any}
use Rattle.std.specs.Io.KnownBytes.{Keeps}
use Rattle.std.specs.Str.{is_utf8}
use Rattle.bk_num.specs.Limits.{most_file_bytes, most_sheets}
use Rattle.bk_io.specs.Shelf.{Told, untold, absent, holds}
use Rattle.book.specs.Expect.{Expect, free, refused, given, IsGiven, IsRefused, IsRefusedUnlessMemory, ◌>>=◌}
use Rattle.metrics.specs.Text.{faces_of}
use Rattle.metrics.specs.Face.{FontFace}
use Rattle.metrics.specs.declared.fault.MetricsWhy.{MetricsWhy}
use Rattle.dom.specs.Nodes.{Node}
use Rattle.dom.specs.declared.dom.DomErr.{DomErr}
use Rattle.dom.specs.declared.dom.DomErr.TheVariants as dom_err
use Rattle.html_tree.specs.Tree.{tree_of}
use Rattle.hyphen.specs.Pattern.{Pattern}
use Rattle.hyphen.specs.Text.{patterns_of}
use Rattle.sheets.specs.Sheets.{author_texts, element_sheets}
use Rattle.sheets.specs.Readings.{SheetOf}
use Rattle.sheets.specs.Sources.{has_many_rules}
use Rattle.named_files.specs.Names.{IsNoLater}
use Rattle.book.specs.Request.{Task, files, chapters}
use Rattle.words.specs.Asked.{FormatWords}
use Rattle.book.specs.Document.{BookTexts, Document, document_of, faces_expected, grid_of, nodes_expected, patterns_expected, points_expected, sheets_expected}
use Rattle.book.specs.Run.{text_of, Stops, Ends, ComesBefore, IsReadBefore, IsUnforeseen, Meets, PutsOnlyABook, Writes, document_for, patterns_named, sheets_from, texts_for, texts_named, HasFileCause, HasReadCause, HasTaskCause, HasWordsCause, IsOfBook, IsOfFiles, IsOfTexts, IsOfWords, KeepsFaults}
use Rattle.book.specs.declared.document.Output.TheVariants as output
use Rattle.named_files.specs.declared.file.FileOf.{FileOf}
use Rattle.named_files.specs.declared.file.FileOf.TheVariants as file
use Rattle.book.specs.declared.outcome.Outcome.{Outcome}
use Rattle.book.specs.declared.outcome.Outcome.TheVariants as out

-- what is refused is refused after this file is read
abbrev pub Later : {A : Type 0} → FileOf → Expect A → Type 0
Later f free = Unit {0}
Later f (refused p) = IsReadBefore f p
Later f (given x) = Unit {0}

-- what follows a value that was found
pub after_given : {A B : Type 0} (e : Expect A) (x : A) (f : A → Expect B) (P : Expect B → Type 0) → P free → IsGiven e x → P (f x) → P (e >>= f)
after_given free x f P n g h = n
after_given (refused o) x f P n g h = absurd g
after_given (given y) x f P n g h = subst (λ z. P (f z)) g h

-- what follows a refusal
pub after_refused : {A B : Type 0} (e : Expect A) (o : Outcome) (f : A → Expect B) → IsRefused e o → Stops (e >>= f) o
after_refused free o f r = tt
after_refused (refused p) o f r = inl r
after_refused (given y) o f r = absurd r

pub later_bind : {A B : Type 0} (f : FileOf) (e : Expect A) (k : A → Expect B) → Later f e → ((x : A) → Later f (k x)) → Later f (e >>= k)
later_bind f free k l h = tt
later_bind f (refused p) k l h = l
later_bind f (given x) k l h = h x

later_cond : {A : Type 0} (f : FileOf) (b : Bool) (x y : Expect A) → Later f x → Later f y → Later f (cond b x y)
later_cond f true x y h k = h
later_cond f false x y h k = k

pub later_text : (f g : FileOf) (told : Told) → IsNoLater f g → Later f (text_of g told)
later_text f g untold h = tt
later_text f g absent h = h
later_text f g (holds bytes) h = later_cond f (nat_lt most_file_bytes (length bytes)) _ _ h (later_cond f (is_utf8 bytes) _ _ tt h)

later_faces : (f : FileOf) (read : Result (List FontFace) (ℕ × MetricsWhy)) → Later f (faces_expected read)
later_faces f (Ok faces) = tt
later_faces f (Err (line, why)) = tt

later_read : (f : FileOf) (read : Result (List Pattern) ℕ) → Later f (points_expected read)
later_read f (Ok ps) = tt
later_read f (Err line) = tt

later_points : (f : FileOf) (text : Option (List ℕ)) → Later f (patterns_expected text)
later_points f None = tt
later_points f (Some text) = later_read f (patterns_of text)

later_nodes : (f : FileOf) (read : Result (List Node) DomErr) → Later f (nodes_expected read)
later_nodes f (Ok nodes) = tt
later_nodes f (Err dom_err.Nodes) = tt
later_nodes f (Err dom_err.Depth) = tt
later_nodes f (Err dom_err.NoMemory) = tt

later_sheets : (f : FileOf) (reading : List ℕ → SheetOf) (texts : List (List ℕ)) → Later f (sheets_expected reading texts)
later_sheets f reading texts = later_cond f (nat_lt most_sheets (length texts)) _ _ tt (later_cond f (list_any (has_many_rules reading) texts) _ _ tt tt)

later_book : (reading : List ℕ → SheetOf) (f : FileOf) (t : BookTexts) → Later f (document_of reading t)
later_book reading f t =
    later_bind f _ _ (later_faces f (faces_of t.metrics)) (λ faces.
    later_bind f _ _ (later_points f t.patterns) (λ points.
    later_bind f _ _ (later_nodes f (tree_of t.html)) (λ nodes.
    later_bind f _ _ (later_sheets f reading (author_texts (element_sheets nodes) t.sheets)) (λ few. tt))))

pub later_names : (f : FileOf) (told : List ℕ → Told) (k : ℕ) (names : List (List ℕ)) → ((j : ℕ) → k ≤ j → IsNoLater f (file.Sheet j)) → Later f (sheets_from k told names)
later_names f told k [] h = tt
later_names f told k (name ∷ names) h = later_bind f _ _ (later_text f (file.Sheet k) (told name) (h k (omega arith))) (λ text.
    later_bind f _ _ (later_names f told (suc k) names (λ j low. h j (omega arith))) (λ texts. tt))

pub later_patterns : (f : FileOf) (told : List ℕ → Told) (name : Option (List ℕ)) → Later f (patterns_named told name)
later_patterns f told None = tt
later_patterns f told (Some name) = later_bind f _ _ (later_text f file.Patterns (told name) tt) (λ text. tt)

unforeseen_before : (f : FileOf) (p o : Outcome) → IsReadBefore f p → (o ≡ out.ReadFault f) ⊎ (o ≡ out.NoMemory) → ComesBefore o p
unforeseen_before f p o l u = elim u [ inl e ↦ rw e l | inr e ↦ rw e tt ]

stops_unforeseen : {A : Type 0} (f : FileOf) (e : Expect A) (o : Outcome) → Later f e → (o ≡ out.ReadFault f) ⊎ (o ≡ out.NoMemory) → Stops e o
stops_unforeseen f free o l u = tt
stops_unforeseen f (refused p) o l u = inr (unforeseen_before f p o l u)
stops_unforeseen f (given x) o l u = elim u [ inl e ↦ rw e tt | inr e ↦ rw e tt ]

-- the read of a file stops with the refusal that is expected, or as no input explains
abbrev pub StopsAt : FileOf → Expect (List ℕ) → Outcome → Type 0
StopsAt f e o = IsRefused e o ⊎ ((o ≡ out.ReadFault f) ⊎ (o ≡ out.NoMemory))

pub stops_at : {B : Type 0} (f : FileOf) (e : Expect (List ℕ)) (o : Outcome) (k : List ℕ → Expect B) → Later f e → ((x : List ℕ) → Later f (k x)) → StopsAt f e o → Stops (e >>= k) o
stops_at f free o k l h s = tt
stops_at f (refused p) o k l h s = elim s [ inl e ↦ inl e | inr u ↦ inr (unforeseen_before f p o l u) ]
stops_at f (given x) o k l h s = elim s [ inl e ↦ absurd e | inr u ↦ stops_unforeseen f (k x) o (h x) u ]

-- what stops a step that others follow stops the whole
pub stops_in : {A B : Type 0} (e : Expect A) (k : A → Expect B) (o : Outcome) → ((x : A) → IsUnforeseen o → Stops (k x) o) → Stops e o → Stops (e >>= k) o
stops_in free k o h s = tt
stops_in (refused p) k o h s = s
stops_in (given x) k o h s = h x s

-- what no input explains stops before the patterns
unforeseen_patterns : {A : Type 0} (told : List ℕ → Told) (name : Option (List ℕ)) (k : Option (List ℕ) → A) (o : Outcome) → IsUnforeseen o → Stops (patterns_named told name >>= λ p. given (k p)) o
unforeseen_patterns told name k (out.ReadFault f) u = stops_unforeseen f _ _ (later_bind f _ _ (later_patterns f told name) (λ p. tt)) (inl refl)
unforeseen_patterns told name k out.NoMemory u = stops_unforeseen file.Metrics _ _ (later_bind file.Metrics _ _ (later_patterns file.Metrics told name) (λ p. tt)) (inr refl)
unforeseen_patterns told name k o u = absurd u

-- the patterns are given no text: they are named, and their file gives none
stops_named : {A : Type 0} (told : List ℕ → Told) (named : Option (List ℕ)) (name : List ℕ) (k : Option (List ℕ) → A) (o : Outcome) → named ≡ Some name → StopsAt file.Patterns (text_of file.Patterns (told name)) o → Stops (patterns_named told named >>= λ p. given (k p)) o
stops_named told named name k o is s = rw is (stops_in (text_of file.Patterns (told name) >>= λ text. given (Some text)) _ o (λ x u. u)
    (stops_at file.Patterns (text_of file.Patterns (told name)) o _ (later_text file.Patterns file.Patterns (told name) tt) (λ t. tt) s))

module _ (told : List ℕ → Told) (names : FormatWords) (o : Outcome) where
  pub stops_at_metrics : StopsAt file.Metrics (text_of file.Metrics (told names.metrics)) o → Stops (texts_named names told) o
  stops_at_metrics s = stops_at file.Metrics _ o _ (later_text file.Metrics file.Metrics (told names.metrics) (omega arith)) (λ m.
      later_bind file.Metrics _ _ (later_text file.Metrics file.Html (told names.html) (omega arith)) (λ h.
      later_bind file.Metrics _ _ (later_names file.Metrics told 1 names.sheets (λ j low. omega arith)) (λ ss.
      later_bind file.Metrics _ _ (later_patterns file.Metrics told names.patterns) (λ p. tt)))) s

  pub stops_at_html : (m : List ℕ) → IsGiven (text_of file.Metrics (told names.metrics)) m → StopsAt file.Html (text_of file.Html (told names.html)) o → Stops (texts_named names told) o
  stops_at_html m given_m s = after_given (text_of file.Metrics (told names.metrics)) m _ (λ e. Stops e o) tt given_m (
      stops_at file.Html _ o _ (later_text file.Html file.Html (told names.html) (omega arith)) (λ h.
      later_bind file.Html _ _ (later_names file.Html told 1 names.sheets (λ j low. omega arith)) (λ ss.
      later_bind file.Html _ _ (later_patterns file.Html told names.patterns) (λ p. tt))) s)

  module _ (m h : List ℕ) (given_m : IsGiven (text_of file.Metrics (told names.metrics)) m) (given_h : IsGiven (text_of file.Html (told names.html)) h) where
    pub stops_at_sheets : Stops (sheets_from 1 told names.sheets) o → Stops (texts_named names told) o
    stops_at_sheets s = after_given (text_of file.Metrics (told names.metrics)) m _ (λ e. Stops e o) tt given_m (
        after_given (text_of file.Html (told names.html)) h _ (λ e. Stops e o) tt given_h (
        stops_in (sheets_from 1 told names.sheets) _ o (λ ss u. unforeseen_patterns told names.patterns _ o u) s))

    pub stops_at_patterns : (ss : List (List ℕ)) (name : List ℕ) → IsGiven (sheets_from 1 told names.sheets) ss → names.patterns ≡ Some name → StopsAt file.Patterns (text_of file.Patterns (told name)) o → Stops (texts_named names told) o
    stops_at_patterns ss name given_s is s = after_given (text_of file.Metrics (told names.metrics)) m _ (λ e. Stops e o) tt given_m (
        after_given (text_of file.Html (told names.html)) h _ (λ e. Stops e o) tt given_h (
        after_given (sheets_from 1 told names.sheets) ss _ (λ e. Stops e o) tt given_s (
        stops_named told names.patterns name _ o is s)))

pub texts_given : (told : List ℕ → Told) (names : FormatWords) (m h : List ℕ) (ss : List (List ℕ)) (p : Option (List ℕ)) → IsGiven (text_of file.Metrics (told names.metrics)) m → IsGiven (text_of file.Html (told names.html)) h → IsGiven (sheets_from 1 told names.sheets) ss → IsGiven (patterns_named told names.patterns) p → IsGiven (texts_named names told) (record { passes = names.passes; grid = grid_of names; output = output.Listing; metrics = m; html = h; sheets = ss; patterns = p })
texts_given told names m h ss p given_m given_h given_s given_p =
    let all : BookTexts = record { passes = names.passes; grid = grid_of names; output = output.Listing; metrics = m; html = h; sheets = ss; patterns = p } in
    after_given (text_of file.Metrics (told names.metrics)) m _ (λ e. IsGiven e all) tt given_m (
    after_given (text_of file.Html (told names.html)) h _ (λ e. IsGiven e all) tt given_h (
    after_given (sheets_from 1 told names.sheets) ss _ (λ e. IsGiven e all) tt given_s (
    after_given (patterns_named told names.patterns) p _ (λ e. IsGiven e all) tt given_p refl)))

-- ---- causes

-- what stops the reads of files, or comes after them, has a cause
pub reading_cause : (names : FormatWords) (told : List ℕ → Told) (before now : ℕ) (last : Option (List ℕ)) (o : Outcome) → IsOfFiles names told before now last o → HasFileCause names told before now last o
reading_cause names told before now last (out.ReadFault k) h = h
reading_cause names told before now last (out.NotRead k) h = absurd h
reading_cause names told before now last (out.Done pages passes) h = absurd h
reading_cause names told before now last out.WriteFault h = absurd h
reading_cause names told before now last (out.TooLarge k) h = tt
reading_cause names told before now last (out.NotUtf8 k at) h = tt
reading_cause names told before now last (out.BadMetrics line why) h = tt
reading_cause names told before now last (out.BadPatterns line) h = tt
reading_cause names told before now last (out.NotSettled target one other) h = tt
reading_cause names told before now last (out.Limit what) h = tt
reading_cause names told before now last out.NoMemory h = tt

pub book_cause : (names : FormatWords) (told : List ℕ → Told) (before now : ℕ) (last : Option (List ℕ)) (o : Outcome) → IsOfBook o → HasFileCause names told before now last o
book_cause names told before now last (out.ReadFault k) h = absurd h
book_cause names told before now last (out.NotRead k) h = absurd h
book_cause names told before now last (out.Done pages passes) h = tt
book_cause names told before now last out.WriteFault h = tt
book_cause names told before now last (out.TooLarge k) h = tt
book_cause names told before now last (out.NotUtf8 k at) h = tt
book_cause names told before now last (out.BadMetrics line why) h = tt
book_cause names told before now last (out.BadPatterns line) h = tt
book_cause names told before now last (out.NotSettled target one other) h = tt
book_cause names told before now last (out.Limit what) h = tt
book_cause names told before now last out.NoMemory h = tt

pub of_book : (o : Outcome) → IsOfTexts o → IsOfBook o
of_book (out.ReadFault k) h = absurd h
of_book (out.NotRead k) h = absurd h
of_book (out.Done pages passes) h = tt
of_book out.WriteFault h = tt
of_book (out.TooLarge k) h = tt
of_book (out.NotUtf8 k at) h = tt
of_book (out.BadMetrics line why) h = tt
of_book (out.BadPatterns line) h = tt
of_book (out.NotSettled target one other) h = tt
of_book (out.Limit what) h = tt
of_book out.NoMemory h = tt

-- with any answer the count of faults may stay
pub kept_count : (before now : ℕ) (o : Outcome) → now ≡ before → KeepsFaults before now o
kept_count before now (out.ReadFault k) e = tt
kept_count before now (out.NotRead k) e = e
kept_count before now (out.Done pages passes) e = e
kept_count before now out.WriteFault e = e
kept_count before now (out.TooLarge k) e = e
kept_count before now (out.NotUtf8 k at) e = e
kept_count before now (out.BadMetrics line why) e = e
kept_count before now (out.BadPatterns line) e = e
kept_count before now (out.NotSettled target one other) e = e
kept_count before now (out.Limit what) e = e
kept_count before now out.NoMemory e = e

-- nothing was put
pub keeps_same : (a : Option (List ℕ)) → Keeps a a
keeps_same None = tt
keeps_same (Some a) = refl

pub puts_nothing : (a : Option (List ℕ)) (o : Outcome) → PutsOnlyABook a a o
puts_nothing a (out.ReadFault k) = keeps_same a
puts_nothing a (out.NotRead k) = keeps_same a
puts_nothing a (out.Done pages passes) = tt
puts_nothing a out.WriteFault = tt
puts_nothing a (out.TooLarge k) = keeps_same a
puts_nothing a (out.NotUtf8 k at) = keeps_same a
puts_nothing a (out.BadMetrics line why) = keeps_same a
puts_nothing a (out.BadPatterns line) = keeps_same a
puts_nothing a (out.NotSettled target one other) = keeps_same a
puts_nothing a (out.Limit what) = keeps_same a
puts_nothing a out.NoMemory = keeps_same a

-- what stops a task that the words ask for
task_cause_of : (task : Task) (told : List ℕ → Told) (before now : ℕ) (last : Option (List ℕ)) (o : Outcome) → HasTaskCause task told before now last o → HasReadCause (given task) told before now last o × HasWordsCause (given task) o
task_cause_of (files names) told before now last (out.ReadFault k) h = (h, tt)
task_cause_of (files names) told before now last (out.NotRead k) h = absurd h
task_cause_of (files names) told before now last (out.Done pages passes) h = (tt, tt)
task_cause_of (files names) told before now last out.WriteFault h = (tt, tt)
task_cause_of (files names) told before now last (out.TooLarge k) h = (tt, tt)
task_cause_of (files names) told before now last (out.NotUtf8 k at) h = (tt, tt)
task_cause_of (files names) told before now last (out.BadMetrics line why) h = (tt, tt)
task_cause_of (files names) told before now last (out.BadPatterns line) h = (tt, tt)
task_cause_of (files names) told before now last (out.NotSettled target one other) h = (tt, tt)
task_cause_of (files names) told before now last (out.Limit what) h = (tt, tt)
task_cause_of (files names) told before now last out.NoMemory h = (tt, tt)
task_cause_of (chapters count) told before now last (out.ReadFault k) h = absurd h
task_cause_of (chapters count) told before now last (out.NotRead k) h = absurd h
task_cause_of (chapters count) told before now last (out.Done pages passes) h = (tt, tt)
task_cause_of (chapters count) told before now last out.WriteFault h = (tt, tt)
task_cause_of (chapters count) told before now last (out.TooLarge k) h = (tt, tt)
task_cause_of (chapters count) told before now last (out.NotUtf8 k at) h = (tt, tt)
task_cause_of (chapters count) told before now last (out.BadMetrics line why) h = (tt, tt)
task_cause_of (chapters count) told before now last (out.BadPatterns line) h = (tt, tt)
task_cause_of (chapters count) told before now last (out.NotSettled target one other) h = (tt, tt)
task_cause_of (chapters count) told before now last (out.Limit what) h = (tt, tt)
task_cause_of (chapters count) told before now last out.NoMemory h = (tt, tt)

pub task_cause : (e : Expect Task) (task : Task) (told : List ℕ → Told) (before now : ℕ) (last : Option (List ℕ)) (o : Outcome) → e ≡ given task → HasTaskCause task told before now last o → HasReadCause e told before now last o × HasWordsCause e o
task_cause e task told before now last o is h = subst (λ (x : Expect Task). HasReadCause x told before now last o × HasWordsCause x o) (sym is) (task_cause_of task told before now last o h)

-- what no input explains ends a run over any document
ends_unforeseen : (d : Document) (o : Outcome) → IsUnforeseen o → Ends d o
ends_unforeseen d (out.ReadFault f) u = tt
ends_unforeseen d out.NoMemory u = tt
ends_unforeseen d (out.Done pages passes) u = absurd u
ends_unforeseen d (out.NotRead k) u = absurd u
ends_unforeseen d (out.TooLarge f) u = absurd u
ends_unforeseen d (out.NotUtf8 f at) u = absurd u
ends_unforeseen d (out.BadMetrics line why) u = absurd u
ends_unforeseen d (out.BadPatterns line) u = absurd u
ends_unforeseen d (out.NotSettled target one other) u = absurd u
ends_unforeseen d (out.Limit what) u = absurd u
ends_unforeseen d out.WriteFault u = absurd u

-- how a run ends that put nothing, by what is expected
abbrev pub Halts : Expect Document → Outcome → Type 0
Halts (given d) o = Ends d o
Halts e o = Stops e o

ends_write : (d : Document) (old new : Option (List ℕ)) (o : Outcome) → Ends d o → Writes d old new o
ends_write d old new (out.ReadFault k) h = h
ends_write d old new (out.NotRead k) h = h
ends_write d old new (out.Done pages passes) h = absurd h
ends_write d old new out.WriteFault h = absurd h
ends_write d old new (out.TooLarge k) h = h
ends_write d old new (out.NotUtf8 k at) h = h
ends_write d old new (out.BadMetrics line why) h = h
ends_write d old new (out.BadPatterns line) h = h
ends_write d old new (out.NotSettled target one other) h = h
ends_write d old new (out.Limit what) h = h
ends_write d old new out.NoMemory h = h

pub halts_meet : (e : Expect Document) (old new : Option (List ℕ)) (o : Outcome) → Halts e o → Meets e old new o
halts_meet free old new o h = h
halts_meet (refused p) old new o h = h
halts_meet (given d) old new o h = ends_write d old new o h

-- what stops before the texts are there stops the document
unforeseen_halts : (e : Expect Document) (o : Outcome) → ((f : FileOf) → Later f e) → IsUnforeseen o → Halts e o
unforeseen_halts free o l u = tt
unforeseen_halts (refused p) (out.ReadFault f) l u = inr (l f)
unforeseen_halts (refused p) out.NoMemory l u = inr tt
unforeseen_halts (refused p) (out.Done pages passes) l u = absurd u
unforeseen_halts (refused p) (out.NotRead k) l u = absurd u
unforeseen_halts (refused p) (out.TooLarge f) l u = absurd u
unforeseen_halts (refused p) (out.NotUtf8 f at) l u = absurd u
unforeseen_halts (refused p) (out.BadMetrics line why) l u = absurd u
unforeseen_halts (refused p) (out.BadPatterns line) l u = absurd u
unforeseen_halts (refused p) (out.NotSettled target one other) l u = absurd u
unforeseen_halts (refused p) (out.Limit what) l u = absurd u
unforeseen_halts (refused p) out.WriteFault l u = absurd u
unforeseen_halts (given d) o l u = ends_unforeseen d o u

pub texts_stop : (reading : List ℕ → SheetOf) (e : Expect BookTexts) (o : Outcome) → Stops e o → Halts (e >>= document_of reading) o
texts_stop reading free o s = tt
texts_stop reading (refused p) o s = s
texts_stop reading (given t) o s = unforeseen_halts (document_of reading t) o (λ f. later_book reading f t) s

-- a refusal of the texts stops the document
pub refused_halts : (e : Expect Document) (o : Outcome) → IsRefusedUnlessMemory e o → Halts e o
refused_halts free o r = tt
refused_halts (refused p) (out.ReadFault f) r = inl r
refused_halts (refused p) out.NoMemory r = inr tt
refused_halts (refused p) (out.Done pages passes) r = inl r
refused_halts (refused p) (out.NotRead k) r = inl r
refused_halts (refused p) (out.TooLarge f) r = inl r
refused_halts (refused p) (out.NotUtf8 f at) r = inl r
refused_halts (refused p) (out.BadMetrics line why) r = inl r
refused_halts (refused p) (out.BadPatterns line) r = inl r
refused_halts (refused p) (out.NotSettled target one other) r = inl r
refused_halts (refused p) (out.Limit what) r = inl r
refused_halts (refused p) out.WriteFault r = inl r
refused_halts (given d) out.NoMemory r = tt
refused_halts (given d) (out.ReadFault f) r = absurd r
refused_halts (given d) (out.Done pages passes) r = absurd r
refused_halts (given d) (out.NotRead k) r = absurd r
refused_halts (given d) (out.TooLarge f) r = absurd r
refused_halts (given d) (out.NotUtf8 f at) r = absurd r
refused_halts (given d) (out.BadMetrics line why) r = absurd r
refused_halts (given d) (out.BadPatterns line) r = absurd r
refused_halts (given d) (out.NotSettled target one other) r = absurd r
refused_halts (given d) (out.Limit what) r = absurd r
refused_halts (given d) out.WriteFault r = absurd r

-- what a document of given texts comes to
pub texts_meet : (reading : List ℕ → SheetOf) (e : Expect BookTexts) (t : BookTexts) (old new : Option (List ℕ)) (o : Outcome) → IsGiven e t → Meets (document_of reading t) old new o → Meets (e >>= document_of reading) old new o
texts_meet reading e t old new o g h = after_given e t (document_of reading) (λ z. Meets z old new o) tt g h

-- a refusal of the words is one of theirs, and no read fault
pub words_cause : (e : Expect Task) (told : List ℕ → Told) (before now : ℕ) (last : Option (List ℕ)) (o : Outcome) → IsOfWords o → IsRefusedUnlessMemory e o → e ≢ free → HasReadCause e told before now last o × HasWordsCause e o
words_cause free told before now last o w r n = absurd (n refl)
words_cause (given x) told before now last (out.NotRead k) w r n = absurd r
words_cause (given x) told before now last out.NoMemory w r n = (tt, tt)
words_cause (refused p) told before now last (out.NotRead k) w r n = (tt, ap refused (sym r))
words_cause (refused p) told before now last out.NoMemory w r n = (tt, tt)
words_cause (refused p) told before now last (out.Done pages passes) w r n = absurd w
words_cause (refused p) told before now last (out.ReadFault f) w r n = absurd w
words_cause (refused p) told before now last (out.TooLarge f) w r n = absurd w
words_cause (refused p) told before now last (out.NotUtf8 f at) w r n = absurd w
words_cause (refused p) told before now last (out.BadMetrics line why) w r n = absurd w
words_cause (refused p) told before now last (out.BadPatterns line) w r n = absurd w
words_cause (refused p) told before now last (out.NotSettled target one other) w r n = absurd w
words_cause (refused p) told before now last (out.Limit what) w r n = absurd w
words_cause (refused p) told before now last out.WriteFault w r n = absurd w
words_cause (given x) told before now last (out.Done pages passes) w r n = absurd w
words_cause (given x) told before now last (out.ReadFault f) w r n = absurd w
words_cause (given x) told before now last (out.TooLarge f) w r n = absurd w
words_cause (given x) told before now last (out.NotUtf8 f at) w r n = absurd w
words_cause (given x) told before now last (out.BadMetrics line why) w r n = absurd w
words_cause (given x) told before now last (out.BadPatterns line) w r n = absurd w
words_cause (given x) told before now last (out.NotSettled target one other) w r n = absurd w
words_cause (given x) told before now last (out.Limit what) w r n = absurd w
words_cause (given x) told before now last out.WriteFault w r n = absurd w

-- a refusal of a step is one of the whole, and so is want of memory
refused_bind : {A B : Type 0} (e : Expect A) (k : A → Expect B) (o : Outcome) → IsRefused e o → IsRefused (e >>= k) o
refused_bind free k o r = tt
refused_bind (refused p) k o r = r
refused_bind (given x) k o r = absurd r

pub memory_bind : {A B : Type 0} (e : Expect A) (k : A → Expect B) (o : Outcome) → IsRefusedUnlessMemory e o → IsRefusedUnlessMemory (e >>= k) o
memory_bind e k out.NoMemory r = tt
memory_bind e k (out.ReadFault f) r = refused_bind e k _ r
memory_bind e k (out.Done pages passes) r = refused_bind e k _ r
memory_bind e k (out.NotRead w) r = refused_bind e k _ r
memory_bind e k (out.TooLarge f) r = refused_bind e k _ r
memory_bind e k (out.NotUtf8 f at) r = refused_bind e k _ r
memory_bind e k (out.BadMetrics line why) r = refused_bind e k _ r
memory_bind e k (out.BadPatterns line) r = refused_bind e k _ r
memory_bind e k (out.NotSettled target one other) r = refused_bind e k _ r
memory_bind e k (out.Limit what) r = refused_bind e k _ r
memory_bind e k out.WriteFault r = refused_bind e k _ r

nothing_told : (A : Type 0) (o : Outcome) → IsRefusedUnlessMemory {A = A} free o
nothing_told A out.NoMemory = tt
nothing_told A (out.ReadFault f) = tt
nothing_told A (out.Done pages passes) = tt
nothing_told A (out.NotRead w) = tt
nothing_told A (out.TooLarge f) = tt
nothing_told A (out.NotUtf8 f at) = tt
nothing_told A (out.BadMetrics line why) = tt
nothing_told A (out.BadPatterns line) = tt
nothing_told A (out.NotSettled target one other) = tt
nothing_told A (out.Limit what) = tt
nothing_told A out.WriteFault = tt

-- a refusal after a step that gave a value
pub refused_after : {A B : Type 0} (e : Expect A) (x : A) (k : A → Expect B) (o : Outcome) → IsGiven e x → IsRefusedUnlessMemory (k x) o → IsRefusedUnlessMemory (e >>= k) o
refused_after {A} {B} e x k o g r = after_given e x k (λ z. IsRefusedUnlessMemory z o) (nothing_told B o) g r

-- a document that is laid out is the one that is expected
pub document_meets : (e : Expect Document) (d : Document) (old new : Option (List ℕ)) (o : Outcome) → IsGiven e d → Writes d old new o → Meets e old new o
document_meets free d old new o g h = tt
document_meets (refused p) d old new o g h = absurd g
document_meets (given e) d old new o g h = subst (λ (x : Document). Writes x old new o) g h

-- ---- words

memory_halts : (e : Expect Document) → Halts e out.NoMemory
memory_halts free = tt
memory_halts (refused p) = inr tt
memory_halts (given d) = tt

-- a refusal of the words halts the book that they ask for
pub words_halt : (reading : List ℕ → SheetOf) (e : Expect Task) (told : List ℕ → Told) (o : Outcome) → IsRefusedUnlessMemory e o → Halts ((e >>= λ task. texts_for task told) >>= document_of reading) o
words_halt reading free told o r = tt
words_halt reading (refused p) told o r = refused_halts (refused p) o (memory_bind (refused p) (λ task. texts_for task told >>= document_of reading) o r)
words_halt reading (given x) told out.NoMemory r = memory_halts _
words_halt reading (given x) told (out.NotRead k) r = absurd r
words_halt reading (given x) told (out.Done pages passes) r = absurd r
words_halt reading (given x) told (out.ReadFault f) r = absurd r
words_halt reading (given x) told (out.TooLarge f) r = absurd r
words_halt reading (given x) told (out.NotUtf8 f at) r = absurd r
words_halt reading (given x) told (out.BadMetrics line why) r = absurd r
words_halt reading (given x) told (out.BadPatterns line) r = absurd r
words_halt reading (given x) told (out.NotSettled target one other) r = absurd r
words_halt reading (given x) told (out.Limit what) r = absurd r
words_halt reading (given x) told out.WriteFault r = absurd r

-- what a task comes to is what the words come to that ask for it
pub task_meets : (reading : List ℕ → SheetOf) (e : Expect Task) (task : Task) (told : List ℕ → Told) (old new : Option (List ℕ)) (o : Outcome) → e ≡ given task → Meets (document_for reading task told) old new o → Meets ((e >>= λ x. texts_for x told) >>= document_of reading) old new o
task_meets reading e task told old new o g h = subst (λ (x : Expect Task). Meets ((x >>= λ y. texts_for y told) >>= document_of reading) old new o) (sym g) h
