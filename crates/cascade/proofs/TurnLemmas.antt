-- One more item of a list in a loop.
use Rattle.std.proofs.Common.{◌≡◌, ℕ, ◌+◌, ◌<◌, ◌≤◌, List, [], ◌∷◌, ◌++◌, Option, None, Some, length, map, drop, get_or, append_assoc, append-nil, refl, sym, ◌∙◌, ap, arith, rules}
use Rattle.std.specs.List.{filter_map, cons_option}
use Rattle.std.specs.Option.{option_to_list}
use Rattle.std.proofs.lemmas.Grind.{common_steps}
use Rattle.bk_num.proofs.ListLemmas.{drop-more}
use Rattle.cascade.specs.declared.sheet.ReadSheet.{ReadSheet}
use Rattle.cascade.specs.Document.{RuleIn, from_origin, rules_of}
use Rattle.cascade.specs.Selected.{SelectedOf, offered, selected_by, selected_from}
use Rattle.cascade.specs.Sharing.{places_in}

pub none_left : {A : Type 0} (xs : List A) (i : ℕ) → length xs ≤ i → drop i xs ≡ []
none_left xs i low = first_of (search rules, grind (arith, common_steps))

-- what a function gives of the items passed and of those left is what it gives of all
pub filter_turn : {A B C : Type 0} (v : A → B) (h : B → Option C) (out : List C) (xs : List A) (i : ℕ) (x : A) → i < length xs → x ≡ get_or xs i x
    → (out ++ option_to_list (h (v x))) ++ filter_map h (map v (drop (i + 1) xs)) ≡ out ++ filter_map h (map v (drop i xs))
filter_turn {C = C} v h out xs i x low is =
    append_assoc out (option_to_list (h (v x))) (filter_map h (map v (drop (i + 1) xs)))
    ∙ ap (λ z. out ++ z) (sym (ap (λ ys. filter_map h (map v ys)) (drop-more xs i x low is) ∙ by (h (v x))))
  where
    by : (o : Option C) → cons_option o (filter_map h (map v (drop (i + 1) xs))) ≡ option_to_list o ++ filter_map h (map v (drop (i + 1) xs))
    by None = refl
    by (Some y) = refl

pub filter_done : {A B C : Type 0} (v : A → B) (h : B → Option C) (out whole : List C) (xs : List A) (i : ℕ) → length xs ≤ i → out ++ filter_map h (map v (drop i xs)) ≡ whole → out ≡ whole
filter_done v h out whole xs i low e = sym (append-nil out) ∙ sym (ap (λ ys. out ++ filter_map h (map v ys)) (none_left xs i low)) ∙ e

pub map_turn : {A B : Type 0} (f : A → B) (out : List B) (xs : List A) (i : ℕ) (x : A) → i < length xs → x ≡ get_or xs i x → (out ++ f x ∷ []) ++ map f (drop (i + 1) xs) ≡ out ++ map f (drop i xs)
map_turn f out xs i x low is =
    append_assoc out (f x ∷ []) (map f (drop (i + 1) xs)) ∙ ap (λ z. out ++ z) (sym (ap (map f) (drop-more xs i x low is)))

pub map_done : {A B : Type 0} (f : A → B) (out whole : List B) (xs : List A) (i : ℕ) → length xs ≤ i → out ++ map f (drop i xs) ≡ whole → out ≡ whole
map_done f out whole xs i low e = sym (append-nil out) ∙ sym (ap (λ ys. out ++ map f ys) (none_left xs i low)) ∙ e

pub step_turn : {A B : Type 0} (h : A → Option B) (out : List B) (xs : List A) (i : ℕ) (x : A) → i < length xs → x ≡ get_or xs i x → (out ++ option_to_list (h x)) ++ filter_map h (drop (i + 1) xs) ≡ out ++ filter_map h (drop i xs)
step_turn {B = B} h out xs i x low is =
    append_assoc out (option_to_list (h x)) (filter_map h (drop (i + 1) xs)) ∙ ap (λ z. out ++ z) (sym (ap (filter_map h) (drop-more xs i x low is) ∙ by (h x)))
  where
    by : (o : Option B) → cons_option o (filter_map h (drop (i + 1) xs)) ≡ option_to_list o ++ filter_map h (drop (i + 1) xs)
    by None = refl
    by (Some y) = refl

pub step_done : {A B : Type 0} (h : A → Option B) (out whole : List B) (xs : List A) (i : ℕ) → length xs ≤ i → out ++ filter_map h (drop i xs) ≡ whole → out ≡ whole
step_done h out whole xs i low e = sym (append-nil out) ∙ sym (ap (λ ys. out ++ filter_map h ys) (none_left xs i low)) ∙ e

pub rules_turn : (out : List RuleIn) (sheets : List ReadSheet) (i : ℕ) (x : ReadSheet) → i < length sheets → x ≡ get_or sheets i x → (out ++ map (from_origin x.origin) x.rules) ++ rules_of (drop (i + 1) sheets) ≡ out ++ rules_of (drop i sheets)
rules_turn out sheets i x low is =
    append_assoc out (map (from_origin x.origin) x.rules) (rules_of (drop (i + 1) sheets)) ∙ ap (λ z. out ++ z) (sym (ap rules_of (drop-more sheets i x low is)))

pub rules_done : (out whole : List RuleIn) (sheets : List ReadSheet) (i : ℕ) → length sheets ≤ i → out ++ rules_of (drop i sheets) ≡ whole → out ≡ whole
rules_done out whole sheets i low e = sym (append-nil out) ∙ sym (ap (λ ys. out ++ rules_of ys) (none_left sheets i low)) ∙ e

pub selected_turn : {A : Type 0} (v : A → RuleIn) (out : List SelectedOf) (xs : List A) (i : ℕ) (x : A) → i < length xs → x ≡ get_or xs i x
    → (out ++ map (selected_by i (v x).origin (v x).read.decls) (offered (v x).read)) ++ selected_from (i + 1) (map v (drop (i + 1) xs)) ≡ out ++ selected_from i (map v (drop i xs))
selected_turn v out xs i x low is =
    append_assoc out (map (selected_by i (v x).origin (v x).read.decls) (offered (v x).read)) (selected_from (i + 1) (map v (drop (i + 1) xs)))
    ∙ ap (λ z. out ++ z) (sym (ap (λ ys. selected_from i (map v ys)) (drop-more xs i x low is)))

pub selected_done : {A : Type 0} (v : A → RuleIn) (out whole : List SelectedOf) (xs : List A) (i : ℕ) → length xs ≤ i → out ++ selected_from i (map v (drop i xs)) ≡ whole → out ≡ whole
selected_done v out whole xs i low e = sym (append-nil out) ∙ sym (ap (λ ys. out ++ selected_from i (map v ys)) (none_left xs i low)) ∙ e

pub places_turn : (out : List ℕ) (groups : List (List ℕ)) (row : List ℕ) (i x : ℕ) → i < length row → x ≡ get_or row i x → (out ++ get_or groups x []) ++ places_in groups (drop (i + 1) row) ≡ out ++ places_in groups (drop i row)
places_turn out groups row i x low is =
    append_assoc out (get_or groups x []) (places_in groups (drop (i + 1) row)) ∙ ap (λ z. out ++ z) (sym (ap (places_in groups) (drop-more row i x low is)))

pub places_done : (out whole : List ℕ) (groups : List (List ℕ)) (row : List ℕ) (i : ℕ) → length row ≤ i → out ++ places_in groups (drop i row) ≡ whole → out ≡ whole
places_done out whole groups row i low e = sym (append-nil out) ∙ sym (ap (λ ys. out ++ places_in groups ys) (none_left row i low)) ∙ e
