-- Texts of files, one after another, and the first that is none.
use Rattle.std.proofs.Common.{Bor, ◌≡◌, ℕ, zero, suc, ◌+◌, ◌<◌, ◌≤◌, ◌∙◌, List, [], ◌∷◌, ◌++◌, ap, sym, subst, map, take, get_or, length, option_map, slice_get, Option, None, Some, String, arith, inl, inr}
use Rattle.std.specs.Global.{Global}
use Rattle.std.specs.List.{AllZip}
use Rattle.std.proofs.lemmas.List.{map-append, take_more}
use Rattle.std.proofs.lemmas.Option.{none-some, same_Some, slice_get-map, slice_get-get_or}
use Rattle.bk_num.specs.Limits.{most_file_bytes}
use Rattle.bk_num.proofs.ListLemmas.{pairs-more}
use Rattle.bk_io.specs.Reads.{HasTextFault, IsTextOf}
use Rattle.bk_io.specs.Shelf.{Told, IfHolds}
use Rattle.bk_io.specs.declared.read_text.TextErr.{TextErr}
use Rattle.bk_io.specs.declared.read_text.TextErr.TheVariants as err
use Rattle.bk_io.proofs.Reading.{Rose-since}
use Rattle.words.specs.Asked.{FormatWords}
use Rattle.named_files.specs.Names.{IsBefore, name_of}
use Rattle.named_files.specs.Texts.{IsFirstFault, IsPatternsFault, IsReadable, IsSheetFault, IsTextIfNamed}
use Rattle.named_files.specs.declared.fault.FileFault.{FileFault}
use Rattle.named_files.specs.declared.file.FileOf.{FileOf}
use Rattle.named_files.specs.declared.file.FileOf.TheVariants as file

-- one more text
pub next_pair : {B : Type 0} (R : List ℕ → B → Type 0) (names : List (Bor (List ℕ))) (i : ℕ) (d : Bor (List ℕ)) (ts : List B) (t : B) → i < length names →
    AllZip R (map (λ (n : Bor (List ℕ)). n.now) (take i names)) ts → R (get_or names i d).now t → AllZip R (map (λ (n : Bor (List ℕ)). n.now) (take (i + 1) names)) (ts ++ t ∷ [])
next_pair R names i d ts t within before here =
    let more : map (λ (n : Bor (List ℕ)). n.now) (take (i + 1) names) ≡ map (λ (n : Bor (List ℕ)). n.now) (take i names) ++ (get_or names i d).now ∷ [] =
    ap (map (λ (n : Bor (List ℕ)). n.now)) (take_more names i d within) ∙ map-append (λ (n : Bor (List ℕ)). n.now) (take i names) (get_or names i d ∷ []) in
    subst (λ z. AllZip R z (ts ++ t ∷ [])) (sym more) (pairs-more R (map (λ (n : Bor (List ℕ)). n.now) (take i names)) ts (get_or names i d).now t before here)

-- the name at a place
pub name_is : (names : List (Bor (List ℕ))) (i : ℕ) (d : Bor (List ℕ)) → i < length names → slice_get (map (λ (n : Bor (List ℕ)). n.now) names) i ≡ Some (get_or names i d).now
name_is names i d within = slice_get-map (λ (n : Bor (List ℕ)). n.now) names i ∙ ap (option_map (λ (n : Bor (List ℕ)). n.now)) (slice_get-get_or names i d within)

-- a file that gave a text can be read
pub readable : (told : Told) (text : String Global) → IsTextOf told most_file_bytes text → IfHolds told IsReadable
readable told text h = record {
  present = h.present;
  bytes = λ file e. record { utf8 = (h.bytes file e).utf8; few = (h.bytes file e).few };
}

-- each sheet among the first ones, which gave texts, can be read
pub earlier : (told : List ℕ → Told) (names : List (Bor (List ℕ))) (i : ℕ) (ts : List (String Global)) → AllZip (λ name text. IsTextOf (told name) most_file_bytes text) (map (λ (n : Bor (List ℕ)). n.now) (take i names)) ts →
    (k : ℕ) (other : List ℕ) → k < i → slice_get (map (λ (n : Bor (List ℕ)). n.now) names) k ≡ Some other → IfHolds (told other) IsReadable
earlier told [] i ts h k other low e = absurd (none-some other e)
earlier told (n ∷ names) zero ts h k other low e = absurd (omega arith)
earlier told (n ∷ names) (suc i) [] h k other low e = absurd h
earlier told (n ∷ names) (suc i) (t ∷ ts) h zero other low e = subst (λ z. IfHolds (told z) IsReadable) (same_Some n.now other e) (readable (told n.now) t h.0)
earlier told (n ∷ names) (suc i) (t ∷ ts) h (suc k) other low e = earlier told names i ts h.1 k other (omega arith) e

-- each sheet can be read, where all gave texts
pub all_readable : (told : List ℕ → Told) (names : List (List ℕ)) (ts : List (String Global)) → AllZip (λ name text. IsTextOf (told name) most_file_bytes text) names ts →
    (k : ℕ) (other : List ℕ) → slice_get names k ≡ Some other → IfHolds (told other) IsReadable
all_readable told [] ts h k other e = absurd (none-some other e)
all_readable told (n ∷ names) [] h k other e = absurd h
all_readable told (n ∷ names) (t ∷ ts) h zero other e = subst (λ z. IfHolds (told z) IsReadable) (same_Some n other e) (readable (told n) t h.0)
all_readable told (n ∷ names) (t ∷ ts) h (suc k) other e = all_readable told names ts h.1 k other e

-- a cause of later calls is one of all
pub fault_since : (told : Told) (name : List ℕ) (before mid now : ℕ) (last : Option (List ℕ)) (why : TextErr) → before ≤ mid → HasTextFault told name most_file_bytes mid now last why → HasTextFault told name most_file_bytes before now last why
fault_since told name before mid now last err.Failed l h = elim h [ inl a ↦ inl a | inr r ↦ inr (Rose-since before mid now l r.0, r.1) ]
fault_since told name before mid now last err.TooLarge l h = h
fault_since told name before mid now last (err.NotUtf8 at) l h = h
fault_since told name before mid now last err.NoMemory l h = tt

none_first : (f : FileOf) → IsBefore f file.Metrics → ⊥
none_first file.Metrics h = h (omega arith)
none_first file.Html h = h (omega arith)
none_first (file.Sheet n) h = h (omega arith)
none_first file.Patterns h = h tt

less : (a b : ℕ) → (a ≤ b → ⊥) → b < a
less zero b h = absurd (h (omega arith))
less (suc a) zero h = omega arith
less (suc a) (suc b) h =
    let rest = less a b (λ le. h (omega (arith, le))) in
    omega arith

-- the text of patterns that aren't named
pub unnamed : (told : List ℕ → Told) (n : Option (List ℕ)) → n ≡ None → IsTextIfNamed told n None
unnamed told None e = tt
unnamed told (Some x) e = absurd (none-some x (sym e))

-- ---- the first file that gives no text

module _ (names : FormatWords) (told : List ℕ → Told) (before mid now : ℕ) (last : Option (List ℕ)) (e : FileFault) (later : before ≤ mid) where
  pub first_metrics : e.file ≡ file.Metrics → HasTextFault (told names.metrics) names.metrics most_file_bytes mid now last e.why → IsFirstFault names told before now last e
  first_metrics is h = record {
    name = names.metrics;
    is = ap (name_of names) is;
    cause = fault_since (told names.metrics) names.metrics before mid now last e.why later h;
    first = λ f other low m. absurd (none_first f (subst (λ (g : FileOf). IsBefore f g) is low));
  }

  before_html : IfHolds (told names.metrics) IsReadable → (f : FileOf) (other : List ℕ) → IsBefore f file.Html → name_of names f ≡ Some other → IfHolds (told other) IsReadable
  before_html metrics file.Metrics other low m = subst (λ z. IfHolds (told z) IsReadable) (same_Some names.metrics other m) metrics
  before_html metrics file.Html other low m = absurd (low (omega arith))
  before_html metrics (file.Sheet n) other low m = absurd (low (omega arith))
  before_html metrics file.Patterns other low m = absurd (low tt)

  pub first_html : IfHolds (told names.metrics) IsReadable → e.file ≡ file.Html → HasTextFault (told names.html) names.html most_file_bytes mid now last e.why → IsFirstFault names told before now last e
  first_html metrics is h = record {
    name = names.html;
    is = ap (name_of names) is;
    cause = fault_since (told names.html) names.html before mid now last e.why later h;
    first = λ f other low m. before_html metrics f other (subst (λ (g : FileOf). IsBefore f g) is low) m;
  }

  before_sheet : IfHolds (told names.metrics) IsReadable → IfHolds (told names.html) IsReadable → (place : ℕ) →
      ((k : ℕ) (other : List ℕ) → k < place → slice_get names.sheets k ≡ Some other → IfHolds (told other) IsReadable) →
      (f : FileOf) (other : List ℕ) → IsBefore f (file.Sheet (suc place)) → name_of names f ≡ Some other → IfHolds (told other) IsReadable
  before_sheet metrics html place sheets file.Metrics other low m = subst (λ z. IfHolds (told z) IsReadable) (same_Some names.metrics other m) metrics
  before_sheet metrics html place sheets file.Html other low m = subst (λ z. IfHolds (told z) IsReadable) (same_Some names.html other m) html
  before_sheet metrics html place sheets (file.Sheet zero) other low m = absurd (none-some other m)
  before_sheet metrics html place sheets (file.Sheet (suc k)) other low m = sheets k other (less place k (λ h. low (omega (arith, h)))) m
  before_sheet metrics html place sheets file.Patterns other low m = absurd (low tt)

  pub first_sheet : IfHolds (told names.metrics) IsReadable → IfHolds (told names.html) IsReadable → IsSheetFault names.sheets told mid now last e → IsFirstFault names told before now last e
  first_sheet metrics html h = record {
    name = h.first.name;
    is = ap (name_of names) h.is_sheet ∙ h.first.is;
    cause = fault_since (told h.first.name) h.first.name before mid now last e.why later h.first.cause;
    first = λ f other low m. before_sheet metrics html h.place h.first.first f other (subst (λ (g : FileOf). IsBefore f g) h.is_sheet low) m;
  }

  before_patterns : IfHolds (told names.metrics) IsReadable → IfHolds (told names.html) IsReadable →
      ((k : ℕ) (other : List ℕ) → slice_get names.sheets k ≡ Some other → IfHolds (told other) IsReadable) →
      (f : FileOf) (other : List ℕ) → IsBefore f file.Patterns → name_of names f ≡ Some other → IfHolds (told other) IsReadable
  before_patterns metrics html sheets file.Metrics other low m = subst (λ z. IfHolds (told z) IsReadable) (same_Some names.metrics other m) metrics
  before_patterns metrics html sheets file.Html other low m = subst (λ z. IfHolds (told z) IsReadable) (same_Some names.html other m) html
  before_patterns metrics html sheets (file.Sheet zero) other low m = absurd (none-some other m)
  before_patterns metrics html sheets (file.Sheet (suc k)) other low m = sheets k other m
  before_patterns metrics html sheets file.Patterns other low m = absurd (low tt)

  pub first_patterns : IfHolds (told names.metrics) IsReadable → IfHolds (told names.html) IsReadable →
      ((k : ℕ) (other : List ℕ) → slice_get names.sheets k ≡ Some other → IfHolds (told other) IsReadable) →
      IsPatternsFault names.patterns told mid now last e → IsFirstFault names told before now last e
  first_patterns metrics html sheets h = record {
    name = h.name;
    is = ap (name_of names) h.is_patterns ∙ h.is;
    cause = fault_since (told h.name) h.name before mid now last e.why later h.cause;
    first = λ f other low m. before_patterns metrics html sheets f other (subst (λ (g : FileOf). IsBefore f g) h.is_patterns low) m;
  }
