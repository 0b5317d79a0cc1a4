-- What is expected of files by their texts, or by the first that gives none.
use Rattle.std.proofs.Common.{◌≡◌, ◌≢◌, ℕ, zero, suc, ◌+◌, ◌<◌, List, [], ◌∷◌, length, nat_lt, slice_get, string_bytes, true, false, inl, inr, refl, ap, sym, arith, subst, option_map, Option, None, Some, String}
use Rattle.std.specs.Global.{Global}
use Rattle.std.specs.List.{AllZip}
use Rattle.std.proofs.lemmas.Bool.Decides.{nat_tests}
use Rattle.std.proofs.lemmas.Option.{none-some, same_Some}
use Rattle.bk_num.specs.Limits.{most_file_bytes}
use Rattle.bk_io.specs.Reads.{HasTextFault, IsTextOf}
use Rattle.bk_io.specs.Shelf.{Told, untold, absent, holds, IfHolds}
use Rattle.bk_io.specs.Texts.{unmarked}
use Rattle.bk_io.specs.declared.read_text.TextErr.{TextErr}
use Rattle.bk_io.specs.declared.read_text.TextErr.TheVariants as text
use Rattle.named_files.specs.Names.{IsBefore, name_of}
use Rattle.named_files.specs.Texts.{AreTextsOf, IsFirstFault, IsReadable, IsTextIfNamed}
use Rattle.named_files.specs.declared.fault.FileFault.{FileFault}
use Rattle.named_files.specs.declared.file.FileOf.{FileOf}
use Rattle.named_files.specs.declared.file.FileOf.TheVariants as file
use Rattle.named_files.specs.declared.read.FileTexts.{FileTexts}
use Rattle.sheets.specs.Files.{file_texts}
use Rattle.words.specs.Asked.{FormatWords}
use Rattle.book.specs.Expect.{IsGiven, IsRefused}
use Rattle.book.specs.Document.{grid_of}
use Rattle.book.specs.FilesView.{listed_texts}
use Rattle.book.specs.Refusals.{file_refusal}
use Rattle.book.specs.Run.{IsFaultOf, IsOfFiles, KeepsFaults, Stops, patterns_named, sheets_from, text_of, texts_named}
use Rattle.book.specs.declared.outcome.Outcome.{Outcome}
use Rattle.book.specs.declared.outcome.Outcome.TheVariants as out
use Rattle.book.proofs.Stopping.{StopsAt, after_given, later_bind, later_names, later_text, stops_at, stops_at_html, stops_at_metrics, stops_at_patterns, stops_at_sheets, stops_in, texts_given}

-- a text of a file is the one that is expected
given_text : (f : FileOf) (told : Told) (t : String Global) → IsTextOf told most_file_bytes t → IsGiven (text_of f told) (unmarked (string_bytes t))
given_text f untold t h = tt
given_text f absent t h = absurd (h.present refl)
given_text f (holds bytes) t h =
    let w = h.bytes bytes refl in
    let few = w.few in
    let fits : nat_lt most_file_bytes (length bytes) ≡ false = grind (arith, nat_tests, few) in
    rw (fits, w.utf8) (ap unmarked w.bytes)

-- a text is expected of a file that can be read
readable_given : (f : FileOf) (told : Told) → IfHolds told IsReadable → (x : List ℕ) × IsGiven (text_of f told) x
readable_given f untold h = ([], tt)
readable_given f absent h = absurd (h.present refl)
readable_given f (holds bytes) h =
    let w = h.bytes bytes refl in
    let few = w.few in
    let fits : nat_lt most_file_bytes (length bytes) ≡ false = grind (arith, nat_tests, few) in
    (unmarked bytes, rw (fits, w.utf8) refl)

given_sheets : (told : List ℕ → Told) (k : ℕ) (names : List (List ℕ)) (ts : List (String Global)) → AllZip (λ name t. IsTextOf (told name) most_file_bytes t) names ts → IsGiven (sheets_from k told names) (file_texts ts)
given_sheets told k [] [] h = refl
given_sheets told k [] (t ∷ ts) h = absurd h
given_sheets told k (n ∷ names) [] h = absurd h
given_sheets told k (n ∷ names) (t ∷ ts) h =
    after_given (text_of (file.Sheet k) (told n)) (unmarked (string_bytes t)) _ (λ e. IsGiven e (file_texts (t ∷ ts))) tt (given_text (file.Sheet k) (told n) t h.0) (
    after_given (sheets_from (suc k) told names) (file_texts ts) _ (λ e. IsGiven e (file_texts (t ∷ ts))) tt (given_sheets told (suc k) names ts h.1) refl)

given_patterns : (told : List ℕ → Told) (name : Option (List ℕ)) (t : Option (String Global)) → IsTextIfNamed told name t → IsGiven (patterns_named told name) (option_map (λ p. unmarked (string_bytes p)) t)
given_patterns told None None h = refl
given_patterns told None (Some t) h = absurd h
given_patterns told (Some name) None h = absurd h
given_patterns told (Some name) (Some t) h =
    after_given (text_of file.Patterns (told name)) (unmarked (string_bytes t)) _ (λ e. IsGiven e (Some (unmarked (string_bytes t)))) tt (given_text file.Patterns (told name) t h) refl

-- texts are expected of sheets that can all be read
readable_sheets : (told : List ℕ → Told) (k : ℕ) (names : List (List ℕ)) → ((j : ℕ) (other : List ℕ) → slice_get names j ≡ Some other → IfHolds (told other) IsReadable) → (ss : List (List ℕ)) × IsGiven (sheets_from k told names) ss
readable_sheets told k [] all = ([], refl)
readable_sheets told k (n ∷ names) all =
    let first = readable_given (file.Sheet k) (told n) (all 0 n refl) in
    let rest = readable_sheets told (suc k) names (λ j other is. all (suc j) other is) in (
      first.0 ∷ rest.0,
      after_given (text_of (file.Sheet k) (told n)) first.0 _ (λ e. IsGiven e (first.0 ∷ rest.0)) tt first.1 (
          after_given (sheets_from (suc k) told names) rest.0 _ (λ e. IsGiven e (first.0 ∷ rest.0)) tt rest.1 refl),
    )

-- the texts of the files are those that are expected
pub given_files : (told : List ℕ → Told) (names : FormatWords) (t : FileTexts) → AreTextsOf names told t → IsGiven (texts_named names told) (listed_texts names.passes (grid_of names) t)
given_files told names t h =
    texts_given told names (unmarked (string_bytes t.metrics)) (unmarked (string_bytes t.html)) (file_texts t.sheets.items)
    (option_map (λ p. unmarked (string_bytes p)) t.patterns)
    (given_text file.Metrics (told names.metrics) t.metrics h.metrics)
    (given_text file.Html (told names.html) t.html h.html)
    (given_sheets told 1 names.sheets t.sheets.items h.sheets)
    (given_patterns told names.patterns t.patterns h.patterns)

large_refused : (f : FileOf) (told : Told) → IfHolds told (λ bytes. most_file_bytes < length bytes) → IsRefused (text_of f told) (out.TooLarge f)
large_refused f untold h = tt
large_refused f absent h = absurd (h.present refl)
large_refused f (holds bytes) h =
    let more = h.bytes bytes refl in
    let past : nat_lt most_file_bytes (length bytes) ≡ true = grind (arith, nat_tests, more) in
    rw past refl

broken_refused : (f : FileOf) (told : Told) (name : List ℕ) (before now : ℕ) (last : Option (List ℕ)) (at : ℕ) → HasTextFault told name most_file_bytes before now last (text.NotUtf8 at) → IsRefused (text_of f told) (out.NotUtf8 f at)
broken_refused f untold name before now last at h = tt
broken_refused f absent name before now last at h = absurd (h.present refl)
broken_refused f (holds bytes) name before now last at h =
    let w = h.bytes bytes refl in
    let few = w.few in
    let fits : nat_lt most_file_bytes (length bytes) ≡ false = grind (arith, nat_tests, few) in
    rw (fits, w.broken) (ap (out.NotUtf8 f) w.prefix)

-- a fault of a file stops its read
stops_fault : (f : FileOf) (told : Told) (name : List ℕ) (before now : ℕ) (last : Option (List ℕ)) (why : TextErr) → HasTextFault told name most_file_bytes before now last why → StopsAt f (text_of f told) (file_refusal f why)
stops_fault f told name before now last text.Failed h = inr (inl refl)
stops_fault f told name before now last text.TooLarge h = inl (large_refused f told h)
stops_fault f told name before now last (text.NotUtf8 at) h = inl (broken_refused f told name before now last at h)
stops_fault f told name before now last text.NoMemory h = inr (inr refl)

-- the first sheet that gives no text stops the reads of all
stops_sheets : (told : List ℕ → Told) (k m : ℕ) (names : List (List ℕ)) (place : ℕ) (name : List ℕ) (o : Outcome) → m ≡ k + place → slice_get names place ≡ Some name →
    ((j : ℕ) (other : List ℕ) → j < place → slice_get names j ≡ Some other → IfHolds (told other) IsReadable) → StopsAt (file.Sheet m) (text_of (file.Sheet m) (told name)) o → Stops (sheets_from k told names) o
stops_sheets told k m [] place name o e is first s = absurd (none-some name is)
stops_sheets told k m (n ∷ names) zero name o e is first s =
    let same : n ≡ name = same_Some n name is in
    let number : m ≡ k = omega (arith, e) in
    let here : StopsAt (file.Sheet k) (text_of (file.Sheet k) (told n)) o = subst (λ (j : ℕ). StopsAt (file.Sheet j) (text_of (file.Sheet j) (told n)) o) number (subst (λ (x : List ℕ). StopsAt (file.Sheet m) (text_of (file.Sheet m) (told x)) o) (sym same) s) in
    stops_at (file.Sheet k) (text_of (file.Sheet k) (told n)) o _ (later_text (file.Sheet k) (file.Sheet k) (told n) (omega arith)) (λ t.
    later_bind (file.Sheet k) _ _ (later_names (file.Sheet k) told (suc k) names (λ j low. omega arith)) (λ ts. tt)) here
stops_sheets told k m (n ∷ names) (suc place) name o e is first s =
    let g = readable_given (file.Sheet k) (told n) (first 0 n (omega arith) refl) in
    let next : m ≡ suc k + place = omega (arith, e) in
    after_given (text_of (file.Sheet k) (told n)) g.0 _ (λ x. Stops x o) tt g.1 (
    stops_in (sheets_from (suc k) told names) _ o (λ x u. u) (
    stops_sheets told (suc k) m names place name o next is (λ j other low i. first (suc j) other (omega arith) i) s))

-- the first file that gives no text stops the reads of all
stops_file : (told : List ℕ → Told) (names : FormatWords) (f : FileOf) (why : TextErr) (name : List ℕ) (before now : ℕ) (last : Option (List ℕ)) → name_of names f ≡ Some name →
    ((g : FileOf) (other : List ℕ) → IsBefore g f → name_of names g ≡ Some other → IfHolds (told other) IsReadable) →
    HasTextFault (told name) name most_file_bytes before now last why → Stops (texts_named names told) (file_refusal f why)
stops_file told names file.Metrics why name before now last is first h =
    let same : name ≡ names.metrics = sym (same_Some names.metrics name is) in
    stops_at_metrics told names (file_refusal file.Metrics why)
    (subst (λ (n : List ℕ). StopsAt file.Metrics (text_of file.Metrics (told n)) (file_refusal file.Metrics why)) same (stops_fault file.Metrics (told name) name before now last why h))
stops_file told names file.Html why name before now last is first h =
    let same : name ≡ names.html = sym (same_Some names.html name is) in
    let m = readable_given file.Metrics (told names.metrics) (first file.Metrics names.metrics (λ h. omega (arith, h)) refl) in
    stops_at_html told names (file_refusal file.Html why) m.0 m.1
    (subst (λ (n : List ℕ). StopsAt file.Html (text_of file.Html (told n)) (file_refusal file.Html why)) same (stops_fault file.Html (told name) name before now last why h))
stops_file told names (file.Sheet zero) why name before now last is first h = absurd (none-some name is)
stops_file told names (file.Sheet (suc place)) why name before now last is first h =
    let m = readable_given file.Metrics (told names.metrics) (first file.Metrics names.metrics (λ h. omega (arith, h)) refl) in
    let d = readable_given file.Html (told names.html) (first file.Html names.html (λ h. omega (arith, h)) refl) in
    let number : suc place ≡ 1 + place = omega arith in
    stops_at_sheets told names (file_refusal (file.Sheet (suc place)) why) m.0 d.0 m.1 d.1
    (stops_sheets told 1 (suc place) names.sheets place name (file_refusal (file.Sheet (suc place)) why) number is (λ j other low i. first (file.Sheet (suc j)) other (λ h. omega (arith, h, low)) i)
    (stops_fault (file.Sheet (suc place)) (told name) name before now last why h))
stops_file told names file.Patterns why name before now last is first h =
    let m = readable_given file.Metrics (told names.metrics) (first file.Metrics names.metrics (λ h. h) refl) in
    let d = readable_given file.Html (told names.html) (first file.Html names.html (λ h. h) refl) in
    let ss = readable_sheets told 1 names.sheets (λ j other i. first (file.Sheet (suc j)) other (λ h. h) i) in
    stops_at_patterns told names (file_refusal file.Patterns why) m.0 d.0 m.1 d.1 ss.0 name ss.1 is
    (stops_fault file.Patterns (told name) name before now last why h)

pub stops_files : (told : List ℕ → Told) (names : FormatWords) (before now : ℕ) (last : Option (List ℕ)) (e : FileFault) → IsFirstFault names told before now last e → Stops (texts_named names told) (file_refusal e.file e.why)
stops_files told names before now last e h = stops_file told names e.file e.why h.name before now last h.is h.first h.cause

-- the refusal of a file has its cause
cause_of : (told : List ℕ → Told) (names : FormatWords) (f : FileOf) (why : TextErr) (name : List ℕ) (before now : ℕ) (last : Option (List ℕ)) → name_of names f ≡ Some name → HasTextFault (told name) name most_file_bytes before now last why → IsOfFiles names told before now last (file_refusal f why)
cause_of told names f text.Failed name before now last is h = subst (λ (n : Option (List ℕ)). IsFaultOf n told before now last) (sym is) h
cause_of told names f text.TooLarge name before now last is h = tt
cause_of told names f (text.NotUtf8 at) name before now last is h = tt
cause_of told names f text.NoMemory name before now last is h = tt

pub cause_files : (told : List ℕ → Told) (names : FormatWords) (before now : ℕ) (last : Option (List ℕ)) (e : FileFault) → IsFirstFault names told before now last e → IsOfFiles names told before now last (file_refusal e.file e.why)
cause_files told names before now last e h = cause_of told names e.file e.why h.name before now last h.is h.cause

-- the refusal of a file keeps the count of faults, unless the file can't be read
pub kept_file : (f : FileOf) (why : TextErr) (before now : ℕ) → (why ≢ text.Failed → now ≡ before) → KeepsFaults before now (file_refusal f why)
kept_file f text.Failed before now h = tt
kept_file f text.TooLarge before now h = h (λ e. absurd (cc))
kept_file f (text.NotUtf8 at) before now h = h (λ e. absurd (cc))
kept_file f text.NoMemory before now h = h (λ e. absurd (cc))
