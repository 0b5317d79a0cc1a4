-- What is known of words: their points.
use Rattle.std.specs.Prelude.{◌≡◌, ℕ, List, Option, option_map, String, Vec, MatchOption}
use Rattle.std.specs.Global.{Global}
use Rattle.std.specs.HashMap.{HashMap, get_by_text}
use Rattle.hyphen.specs.Points as places
use Rattle.soft_hyphens.specs.Words.{least_before, least_after}

-- the points of a word that is given as text, by the values of its places: how many bytes stand before each
abbrev pub word_points : (List ℕ → ℕ → ℕ) → List ℕ → List ℕ
word_points value word = places.points_of value word least_before least_after

-- the points that are known of a word
abbrev pub points_of : {S : Type 0} → HashMap (String Global) (Vec ℕ Global) S → List ℕ → Option (List ℕ)
points_of known word = option_map (λ v. v.items) (get_by_text known word)

-- each word that is known has the points that it has by the values of its places
abbrev pub HavePoints : (List ℕ → ℕ → ℕ) → (List ℕ → Option (List ℕ)) → Type 0
HavePoints value known = (word : List ℕ) →
    MatchOption (known word) (Unit {0}) (λ points. points ≡ word_points value word)
