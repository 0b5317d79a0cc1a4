-- Nodes that are noted, as a map keeps them and as they are seen.
use Rattle.std.proofs.Common.{Bor, ◌≡◌, ◌∙◌, ℕ, Bool, true, false, ◌&&◌, List, [], ◌∷◌, Option, None, Some, nat_eq, option_map, refl, ap}
use Rattle.std.specs.Cmp.Lexicographic.{pointwise}
use Rattle.std.specs.Map.{lookup}
use Rattle.std.specs.Option.{option_eq}
use Rattle.bk_num.specs.declared.ids.NodeId.{NodeId}
use Rattle.indexmap.specs.IndexMap.{insert_entry}
use Rattle.cascade.specs.Sharing.{is_same, seen_of}

-- the test of the map's keys
abbrev pub key_eq : Bor (List ℕ) × Option (Bor (List ℕ)) → Bor (List ℕ) × Option (Bor (List ℕ)) → Bool
key_eq a b = pointwise nat_eq a.0.now b.0.now && option_eq (λ s t. pointwise nat_eq s.now t.now) a.1 b.1

abbrev seen : Bor (List ℕ) × Option (Bor (List ℕ)) → List ℕ × Option (List ℕ)
seen k = (k.0.now, option_map (λ s. s.now) k.1)

same-text : (s t : Option (Bor (List ℕ))) → option_eq (pointwise nat_eq) (option_map (λ x. x.now) s) (option_map (λ x. x.now) t) ≡ option_eq (λ x y. pointwise nat_eq x.now y.now) s t
same-text None None = refl
same-text None (Some t) = refl
same-text (Some s) None = refl
same-text (Some s) (Some t) = refl

same-key : (a b : Bor (List ℕ) × Option (Bor (List ℕ))) → is_same (seen a) (seen b) ≡ key_eq a b
same-key a b = ap (λ t. pointwise nat_eq a.0.now b.0.now && t) (same-text a.1 b.1)

-- what is found among the entries is what is found among those that are seen
pub seen_lookup : (k : Bor (List ℕ) × Option (Bor (List ℕ))) (es : List ((Bor (List ℕ) × Option (Bor (List ℕ))) × NodeId)) → lookup (is_same (seen k)) (seen_of es) ≡ option_map (λ n. n.0) (lookup (key_eq k) es)
seen_lookup k [] = refl
seen_lookup k (e ∷ es) = by (key_eq k e.0) refl (seen_lookup k es)
  where
    by : (b : Bool) → key_eq k e.0 ≡ b → lookup (is_same (seen k)) (seen_of es) ≡ option_map (λ n. n.0) (lookup (key_eq k) es) → lookup (is_same (seen k)) (seen_of (e ∷ es)) ≡ option_map (λ n. n.0) (lookup (key_eq k) (e ∷ es))
    by true h r = let s : is_same (seen k) (seen e.0) ≡ true = same-key k e.0 ∙ h in rw (s, h) refl
    by false h r = let s : is_same (seen k) (seen e.0) ≡ false = same-key k e.0 ∙ h in rw (s, h) r

-- an entry more is one more that is seen
pub seen_insert : (k : Bor (List ℕ) × Option (Bor (List ℕ))) (n : NodeId) (es : List ((Bor (List ℕ) × Option (Bor (List ℕ))) × NodeId)) → seen_of (insert_entry key_eq es k n) ≡ insert_entry is_same (seen_of es) (seen k) n.0
seen_insert k n [] = refl
seen_insert k n (e ∷ es) = by (key_eq k e.0) refl (seen_insert k n es)
  where
    by : (b : Bool) → key_eq k e.0 ≡ b → seen_of (insert_entry key_eq es k n) ≡ insert_entry is_same (seen_of es) (seen k) n.0 → seen_of (insert_entry key_eq (e ∷ es) k n) ≡ insert_entry is_same (seen_of (e ∷ es)) (seen k) n.0
    by true h r = let s : is_same (seen k) (seen e.0) ≡ true = same-key k e.0 ∙ h in rw (s, h) refl
    by false h r = let s : is_same (seen k) (seen e.0) ≡ false = same-key k e.0 ∙ h in rw (s, h) (ap (λ l. (seen e.0, e.1.0) ∷ l) r)
