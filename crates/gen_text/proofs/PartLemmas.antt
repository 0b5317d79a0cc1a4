-- texts appended one after another
use Rattle.std.proofs.Common.{◌≡◌, ℕ, ◌+◌, ◌<◌, List, ◌++◌, length, get_or, take, sym, ◌∙◌, ap}
use Rattle.std.specs.List.{flat_map}
use Rattle.std.proofs.lemmas.List.{append_assoc, take_more, flat_map_more}

pub appended : (old xs ys mid new : List ℕ) → mid ≡ old ++ xs → new ≡ mid ++ ys → new ≡ old ++ (xs ++ ys)
appended old xs ys mid new f g = g ∙ ap (λ l. l ++ ys) f ∙ append_assoc old xs ys

pub more_turn : {X : Type 0} (f : X → List ℕ) (xs : List X) (i : ℕ) (d : X) (old mid new : List ℕ) → i < length xs → mid ≡ old ++ flat_map f (take i xs) → new ≡ mid ++ f (get_or xs i d) → new ≡ old ++ flat_map f (take (i + 1) xs)
more_turn f xs i d old mid new within g h = h ∙ ap (λ l. l ++ f (get_or xs i d)) g ∙ flat_map_more f old (take i xs) (get_or xs i d) ∙ ap (λ l. old ++ flat_map f l) (sym (take_more xs i d within))
