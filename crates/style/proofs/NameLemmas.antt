-- Names as texts.
use Rattle.std.proofs.Common.{◌≡◌, ℕ, zero, suc, ◌+◌, ◌-◌, ◌<◌, ◌==◌, Bool, true, false, cond, List, [], ◌∷◌, ◌++◌, Some, length, map, option_map, slice_get, refl, sym, ◌∙◌, ap, arith}
use Rattle.std.proofs.lemmas.List.{map-append}
use Rattle.std.proofs.lemmas.Option.{slice_get-map}
use Rattle.std.proofs.lemmas.Slice.Eq.{bytes_eq-Decides}
use Rattle.std.specs.Str.{bytes_eq}
use Rattle.std.specs.List.{list_any}
use Rattle.std.specs.String.{string_bytes, string_eq}
use Rattle.std.specs.declared.string.String.{String}
use Rattle.bk_num.proofs.ListLemmas.{any-map}
use Rattle.indexmap.specs.IndexSet.{insert_key}
use Rattle.bk_num.specs.Names.{with_name}

-- a text that isn't empty goes among the others as a key does
pub inserted : {Y : Type 0} (ks new : List (String Y)) (k : String Y) (name : List ℕ) → string_bytes k ≡ name → 0 < length name → new ≡ insert_key string_eq ks k → [] ∷ map (λ s. string_bytes s) new ≡ with_name ([] ∷ map (λ s. string_bytes s) ks) name
inserted ks new k [] e h g = absurd (omega arith)
inserted {Y} ks new k (b ∷ bs) e h g = ap (λ l. [] ∷ map (λ s. string_bytes s) l) g ∙ by (list_any (string_eq k) ks) refl
  where
    same : list_any (bytes_eq (b ∷ bs)) (map (λ s. string_bytes s) ks) ≡ list_any (string_eq k) ks
    same = any-map (b ∷ bs) ks ∙ ap (λ cs. list_any (λ q. bytes_eq cs (string_bytes q)) ks) (sym e)

    by : (v : Bool) → list_any (string_eq k) ks ≡ v → [] ∷ map (λ s. string_bytes s) (cond v ks (ks ++ k ∷ [])) ≡ with_name ([] ∷ map (λ s. string_bytes s) ks) (b ∷ bs)
    by true t = rw (same, t) refl
    by false t = rw (same, t, map-append (λ (s : String Y). string_bytes s) ks (k ∷ []), e) refl

pub place-of : {Y : Type 0} (ks : List (String Y)) (i : ℕ) (n : ℕ) → ¬ (n ≡ 0) → slice_get ([] ∷ map (λ s. string_bytes s) ks) n ≡ option_map (λ s. string_bytes s) (slice_get ks (n - 1))
place-of ks i zero h = absurd (h refl)
place-of ks i (suc n) h = slice_get-map (λ s. string_bytes s) ks n ∙ ap (λ m. option_map (λ s. string_bytes s) (slice_get ks m)) (omega arith)

pub empty-named : (names : List (List ℕ)) (name : List ℕ) → name ≡ [] → [] ∷ names ≡ with_name ([] ∷ names) name
empty-named names name e = rw e refl

pub positive : (n : ℕ) → (n == 0) ≡ false → 0 < n
positive zero h = cc
positive (suc n) h = omega arith

pub place-named : {Y : Type 0} (ks : List (String Y)) (i : ℕ) (k t : String Y) → slice_get ks i ≡ Some k → string_eq t k ≡ true → slice_get (map (λ s. string_bytes s) ks) i ≡ Some (string_bytes t)
place-named ks i k t h e = rw (slice_get-map (λ s. string_bytes s) ks i, h) (ap (λ (bs : List ℕ). Some bs) (sym ((bytes_eq-Decides (string_bytes t) (string_bytes k)).0 e)))
