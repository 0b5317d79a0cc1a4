-- A table of winners that grows.
use Rattle.std.proofs.Common.{◌≡◌, ◌<◌, ℕ, suc, List, [], ◌∷◌, ◌++◌, Option, Some, Result, Ok, Err, OnOk, OnErr, length, option_map, get_or, slice_get, refl, sym, ◌∙◌, ap, subst, ◌⊎◌, inl, inr}
use Rattle.std.proofs.lemmas.List.{map-append, length-map}
use Rattle.std.proofs.lemmas.Option.{slice_get-map, slice_get_within, slice_get_read, same_Some}
use Rattle.bk_num.proofs.ListLemmas.{get-push, get-keep, get-before, get-end}
use Rattle.cascade.specs.declared.table.NodeWinners.{NodeWinners}
use Rattle.cascade.specs.declared.table.Shared.{Shared}
use Rattle.cascade.specs.Table.{WinnersOf, AddsLike, with_node}
use Rattle.cascade.specs.TableFields.{winners_in, first_in, numbered, seen, table_of, IsNumber, AreNumbers}

pub below : (shared : List Shared) (numbers : List ℕ) (i : ℕ) → IsNumber shared numbers i → i < length shared
below shared numbers i h = slice_get_within shared i h.entry h.there

pub seen-at : {A : Type 0} (said : Option Shared → A) (shared : List Shared) (numbers : List ℕ) (k i : ℕ) (s : Shared) → slice_get numbers k ≡ Some i → slice_get shared i ≡ Some s → slice_get (seen said shared numbers) k ≡ Some (said (Some s))
seen-at said shared numbers k i s at there = slice_get-map (numbered said shared) numbers k ∙ ap (option_map (numbered said shared)) at ∙ ap (λ o. Some (said o)) there

pub first-same : (shared : List Shared) (numbers : List ℕ) (k i : ℕ) (s : Shared) → AreNumbers shared numbers → slice_get numbers k ≡ Some i → slice_get shared i ≡ Some s → slice_get (seen winners_in shared numbers) s.first.0 ≡ slice_get (seen winners_in shared numbers) k
first-same shared numbers k i s sound at there =
    let h = sound k i at in
    let same : h.entry ≡ s = same_Some _ _ (sym h.there ∙ there) in
    let first : slice_get numbers s.first.0 ≡ Some i = subst (λ (e : Shared). slice_get numbers e.first.0 ≡ Some i) same h.first in
    seen-at winners_in shared numbers s.first.0 i s first there ∙ sym (seen-at winners_in shared numbers k i s at there)

-- ---- a new entry

number-keep : (shared : List Shared) (s : Shared) (numbers : List ℕ) (i : ℕ) → IsNumber shared numbers i → IsNumber (shared ++ s ∷ []) numbers i
number-keep shared s numbers i h = record { entry = h.entry; there = get-keep shared (s ∷ []) i h.entry h.there; first = h.first }

pub entry-keep : (shared more : List Shared) (s : Shared) (numbers : List ℕ) → more ≡ shared ++ s ∷ [] → AreNumbers shared numbers → AreNumbers more numbers
entry-keep shared more s numbers e sound k i at = subst (λ l. IsNumber l numbers i) (sym e) (number-keep shared s numbers i (sound k i at))

number-more : (shared : List Shared) (numbers : List ℕ) (i j : ℕ) → IsNumber shared numbers i → IsNumber shared (numbers ++ j ∷ []) i
number-more shared numbers i j h = record { entry = h.entry; there = h.there; first = get-keep numbers (j ∷ []) h.entry.first.0 i h.first }

views-keep : {A : Type 0} (said : Option Shared → A) (shared : List Shared) (s : Shared) (numbers : List ℕ) → ((k i : ℕ) → slice_get numbers k ≡ Some i → i < length shared) → seen said (shared ++ s ∷ []) numbers ≡ seen said shared numbers
views-keep said shared s [] low = refl
views-keep said shared s (i ∷ is) low = ap (λ o. said o ∷ seen said (shared ++ s ∷ []) is) (get-before shared s i (low 0 i refl)) ∙ ap (λ l. numbered said shared i ∷ l) (views-keep said shared s is (λ k j at. low (suc k) j at))

all-below : (shared : List Shared) (numbers : List ℕ) → AreNumbers shared numbers → (k i : ℕ) → slice_get numbers k ≡ Some i → i < length shared
all-below shared numbers sound k i at = below shared numbers i (sound k i at)

pub view-keep : {A : Type 0} (said : Option Shared → A) (shared more : List Shared) (s : Shared) (numbers : List ℕ) → more ≡ shared ++ s ∷ [] → AreNumbers shared numbers → seen said more numbers ≡ seen said shared numbers
view-keep said shared more s numbers e sound = subst (λ l. seen said l numbers ≡ seen said shared numbers) (sym e) (views-keep said shared s numbers (all-below shared numbers sound))

-- two lists as a table
abbrev pair : List NodeWinners → List ℕ → WinnersOf
pair ws fs = record { winners = ws; firsts = fs }

same-pair : (ws vs : List NodeWinners) (fs gs : List ℕ) → ws ≡ vs → fs ≡ gs → pair ws fs ≡ pair vs gs
same-pair ws vs fs gs e g = ap (λ z. pair z fs) e ∙ ap (λ z. pair vs z) g

-- a number more, of an entry that is there or that was added for it
sound-number : (shared : List Shared) (numbers : List ℕ) (i : ℕ) → AreNumbers shared numbers → IsNumber shared (numbers ++ i ∷ []) i → AreNumbers shared (numbers ++ i ∷ [])
sound-number shared numbers i sound new k j at = by (get-push numbers i j k at)
  where
    by : ((k ≡ length numbers) × (j ≡ i)) ⊎ (slice_get numbers k ≡ Some j) → IsNumber shared (numbers ++ i ∷ []) j
    by (inl (here, same)) = rw same new
    by (inr old) = number-more shared numbers j i (sound k j old)

new-number : (shared : List Shared) (s : Shared) (numbers : List ℕ) → s.first.0 ≡ length numbers → IsNumber (shared ++ s ∷ []) (numbers ++ length shared ∷ []) (length shared)
new-number shared s numbers first = record { entry = s; there = get-end shared s; first = rw first (get-end numbers (length shared)) }

pub sound-push : {A E : Type 0} (res : Result A E) (shared more : List Shared) (s : Shared) (numbers next : List ℕ) (i : ℕ) → more ≡ shared ++ s ∷ [] → i ≡ length shared → s.first.0 ≡ length numbers → AreNumbers shared numbers → OnOk res (next ≡ numbers ++ i ∷ []) → OnErr res (next ≡ numbers) → AreNumbers more next
sound-push (Ok a) shared more s numbers next i e n first sound ok err =
    rw (ok, e, n) (sound-number (shared ++ s ∷ []) numbers (length shared) (entry-keep shared (shared ++ s ∷ []) s numbers refl sound) (new-number shared s numbers first))
sound-push (Err a) shared more s numbers next i e n first sound ok err = rw err (entry-keep shared more s numbers e sound)

seen-push : {A : Type 0} (said : Option Shared → A) (shared more : List Shared) (s : Shared) (numbers next : List ℕ) (i : ℕ) → more ≡ shared ++ s ∷ [] → i ≡ length shared → AreNumbers shared numbers → next ≡ numbers ++ i ∷ [] → seen said more next ≡ seen said shared numbers ++ said (Some s) ∷ []
seen-push said shared more s numbers next i e n sound ok =
    ap (seen said more) ok ∙ map-append (numbered said more) numbers (i ∷ []) ∙ ap (λ l. l ++ numbered said more i ∷ []) (view-keep said shared more s numbers e sound) ∙ ap (λ o. seen said shared numbers ++ said o ∷ []) last
  where
    last : slice_get more i ≡ Some s
    last = rw (e, n) (get-end shared s)

pub view-push : {A E : Type 0} (res : Result A E) (shared more : List Shared) (s : Shared) (numbers next : List ℕ) (i : ℕ) → more ≡ shared ++ s ∷ [] → i ≡ length shared → s.first.0 ≡ length numbers → AreNumbers shared numbers → OnOk res (next ≡ numbers ++ i ∷ []) → OnOk res (table_of more next ≡ with_node (table_of shared numbers) s.winners (length (seen winners_in shared numbers)))
view-push (Ok a) shared more s numbers next i e n first sound ok =
    same-pair _ _ _ _ (seen-push winners_in shared more s numbers next i e n sound ok)
    (seen-push first_in shared more s numbers next i e n sound ok ∙ ap (λ k. seen first_in shared numbers ++ k ∷ []) (first ∙ sym (length-map numbers (numbered winners_in shared))))
view-push (Err a) shared more s numbers next i e n first sound ok = tt

pub view-err : {A E : Type 0} (res : Result A E) (shared more : List Shared) (s : Shared) (numbers next : List ℕ) → more ≡ shared ++ s ∷ [] → AreNumbers shared numbers → OnErr res (next ≡ numbers) → OnErr res (table_of more next ≡ table_of shared numbers)
view-err (Ok a) shared more s numbers next e sound err = tt
view-err (Err a) shared more s numbers next e sound err =
    ap (table_of more) err ∙ same-pair _ _ _ _ (view-keep winners_in shared more s numbers e sound) (view-keep first_in shared more s numbers e sound)

-- ---- a node like an earlier one

pub sound-like : {A E : Type 0} (res : Result A E) (shared : List Shared) (numbers next : List ℕ) (k i : ℕ) → slice_get numbers k ≡ Some i → AreNumbers shared numbers → OnOk res (next ≡ numbers ++ i ∷ []) → OnErr res (next ≡ numbers) → AreNumbers shared next
sound-like (Ok a) shared numbers next k i at sound ok err = rw ok (sound-number shared numbers i sound (number-more shared numbers i i (sound k i at)))
sound-like (Err a) shared numbers next k i at sound ok err = rw err sound

pub view-like : {A E : Type 0} (res : Result A E) (shared : List Shared) (numbers next : List ℕ) (k i : ℕ) → slice_get numbers k ≡ Some i → OnOk res (next ≡ numbers ++ i ∷ []) → OnOk res (AddsLike (table_of shared numbers) k (table_of shared next))
view-like (Ok a) shared numbers next k i at ok = record {
  wins = numbered winners_in shared i;
  there = there winners_in;
  first = numbered first_in shared i;
  first_there = there first_in;
  added = same-pair _ _ _ _ (added winners_in) (added first_in);
}
  where
    there : {B : Type 0} (said : Option Shared → B) → slice_get (seen said shared numbers) k ≡ Some (numbered said shared i)
    there said = slice_get-map (numbered said shared) numbers k ∙ ap (option_map (numbered said shared)) at

    added : {B : Type 0} (said : Option Shared → B) → seen said shared next ≡ seen said shared numbers ++ numbered said shared i ∷ []
    added said = ap (seen said shared) ok ∙ map-append (numbered said shared) numbers (i ∷ [])
view-like (Err a) shared numbers next k i at ok = tt

-- the number of a node, by the list that is seen
pub number-at : (shared : List Shared) (numbers : List ℕ) (all : WinnersOf) (k i : ℕ) → table_of shared numbers ≡ all → k < length all.winners → i ≡ get_or numbers k i → slice_get numbers k ≡ Some i
number-at shared numbers all k i e low read = slice_get_read numbers (length numbers) k i refl (subst (λ n. k < n) (ap (λ (t : WinnersOf). length t.winners) (sym e) ∙ length-map numbers (numbered winners_in shared)) low) read

pub entry-at : (shared : List Shared) (numbers : List ℕ) (i : ℕ) (s : Shared) → IsNumber shared numbers i → s ≡ get_or shared i s → slice_get shared i ≡ Some s
entry-at shared numbers i s h read = slice_get_read shared (length shared) i s refl (below shared numbers i h) read
