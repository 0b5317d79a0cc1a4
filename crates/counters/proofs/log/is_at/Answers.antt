use Rattle.std.proofs.Common.{◌≡◌, ℕ, zero, suc, Bool, true, false, ◌||◌, List, [], ◌∷◌, Some, map, slice_get, refl, sym, ◌∙◌, ap}
use Rattle.std.specs.Str.{bytes_eq}
use Rattle.std.specs.List.{list_any}
use Rattle.std.specs.String.{string_bytes}
use Rattle.std.specs.declared.string.String.{String}
use Rattle.named_lists.proofs.ListLemmas.{turned}
use Rattle.counters.proofs.log.is_at.Goals as goal

-- a name that stands at a number is among the names
any-at : {Y : Type 0} (ks : List (String Y)) (i : ℕ) (k : String Y) (name : List ℕ) → slice_get ks i ≡ Some k → bytes_eq name (string_bytes k) ≡ true → list_any (bytes_eq name) (map (λ s. string_bytes s) ks) ≡ true
any-at [] i k name g e = cc
any-at (x ∷ ks) zero k name g e = let h : x ≡ k = cc in rw (h, e) refl
any-at (x ∷ ks) (suc i) k name g e = by (bytes_eq name (string_bytes x)) (any-at ks i k name g e)
  where
    by : (b : Bool) → list_any (bytes_eq name) (map (λ s. string_bytes s) ks) ≡ true → (b || list_any (bytes_eq name) (map (λ s. string_bytes s) ks)) ≡ true
    by true h = refl
    by false h = h

pub returns-in-Some : goal.returns-in-Some
returns-in-Some c t = any-at c.args.asked.now.keys c.args.number c.in-Some.own.now c.args.name.now (sym c.in-Some.ensures.key) (turned c.args.name.now (string_bytes c.in-Some.own.now) ∙ ap (λ (v : List ℕ). bytes_eq v c.args.name.now) (sym c.as_str.ensures.value) ∙ sym c.eq.ensures ∙ t)
