-- The pages on which notes begin.
use Rattle.std.proofs.Common.{◌≡◌, ◌<◌, ◌+◌, ◌==◌, ◌||◌, ℕ, Bool, true, false, cond, List, Option, None, Some, length, take, slice_get, get_or, refl, sym, ◌∙◌, ap, arith}
use Rattle.std.specs.List.{list_any}
use Rattle.std.specs.Option.{option_or}
use Rattle.std.proofs.lemmas.List.Folds.{list_any_more}
use Rattle.std.proofs.lemmas.List.FromFn.{fill_by_all, get_or-map-range_with_len, length-map-range_with_len}
use Rattle.std.proofs.lemmas.Option.{slice_get-get_or}
use Rattle.boxes.specs.declared.page.Page.{Page}
use Rattle.boxes.specs.declared.page.Placed.{Placed}
use Rattle.page_seq.specs.Noted.{begins_on, has_note}
use Rattle.page_seq.specs.Places.{first_place}
use Rattle.page_seq.proofs.PlaceLemmas.{first_place_more}
use Rattle.refs.specs.Kept.{begins_of}

-- one more solid of a note
pub notes_more : (n page : ℕ) (old now next : Option ℕ) (notes : List (ℕ × Placed)) (i : ℕ) (d : ℕ × Placed) → i < length notes → now ≡ option_or old (cond (list_any (λ s. s.0 == n) (take i notes)) (Some page) None)
    → next ≡ option_or now (cond ((get_or notes i d).0 == n) (Some page) None) → next ≡ option_or old (cond (list_any (λ s. s.0 == n) (take (i + 1) notes)) (Some page) None)
notes_more n page old now next notes i d h is e =
    e ∙ (ap (λ (o : Option ℕ). option_or o (cond ((get_or notes i d).0 == n) (Some page) None)) is
    ∙ (by old (list_any (λ s. s.0 == n) (take i notes)) ((get_or notes i d).0 == n)
    ∙ ap (λ (b : Bool). option_or old (cond b (Some page) None)) (sym (list_any_more (λ s. s.0 == n) notes i d h))))
  where
    by : (o : Option ℕ) (a b : Bool) → option_or (option_or o (cond a (Some page) None)) (cond b (Some page) None) ≡ option_or o (cond (a || b) (Some page) None)
    by (Some k) a b = refl
    by None true b = refl
    by None false b = refl

-- one more page
pub begins_more : (n : ℕ) (now next : Option ℕ) (pages : List Page) (i : ℕ) (page : Page) → i < length pages → page ≡ get_or pages i page → now ≡ first_place (has_note n) (take i pages) → next ≡ option_or now (cond (has_note n page) (Some i) None) → next ≡ first_place (has_note n) (take (i + 1) pages)
begins_more n now next pages i page h read is e =
    e ∙ (ap (λ (o : Option ℕ). option_or o (cond (has_note n page) (Some i) None)) is
    ∙ (ap (λ (p : Page). option_or (first_place (has_note n) (take i pages)) (cond (has_note n p) (Some i) None)) read
    ∙ sym (first_place_more (has_note n) pages i page h)))

pub all_begin : (pages : List Page) (count : ℕ) (begins : List (Option ℕ)) → length begins ≡ count → ((n : ℕ) (d : Option ℕ) → n < count → get_or begins n d ≡ begins_on pages n) → begins ≡ begins_of pages count
all_begin pages count begins size are = fill_by_all (begins_on pages) begins count None size (λ n l. are n None l)

-- the page of a note among those of all
pub begin_at : (pages : List Page) (count n : ℕ) (begins : List (Option ℕ)) → begins ≡ begins_of pages count → n < count → slice_get begins n ≡ Some (begins_on pages n)
begin_at pages count n begins is h =
    let size : length (begins_of pages count) ≡ count = length-map-range_with_len (begins_on pages) 0 count in
    ap (λ (bs : List (Option ℕ)). slice_get bs n) is ∙ (slice_get-get_or (begins_of pages count) n None (omega arith) ∙ ap (λ (o : Option ℕ). Some o) (get_or-map-range_with_len (begins_on pages) 0 count n n None h (omega arith)))
