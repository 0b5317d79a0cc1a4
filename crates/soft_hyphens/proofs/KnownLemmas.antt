-- Words that are known with their points.
use Rattle.std.proofs.Common.{◌≡◌, ◌∙◌, ℕ, Bool, true, false, cond, List, Vec, refl, sym, ap, subst}
use Rattle.std.specs.Prelude.{Option, Some, option_map, MatchOption, String}
use Rattle.std.specs.Global.{Global}
use Rattle.std.specs.HashMap.{HashMap, UpdatesBy, get_by_text}
use Rattle.std.specs.Str.{bytes_eq}
use Rattle.std.specs.String.{string_bytes, string_eq}
use Rattle.std.proofs.lemmas.Map.Text.{hash_map_updates_text}
use Rattle.std.proofs.lemmas.Slice.Eq.{bytes_eq-Decides}
use Rattle.soft_hyphens.specs.Known.{HavePoints, points_of, word_points}

-- what is known of a word are its points
pub known-is : (value : List ℕ → ℕ → ℕ) (known : List ℕ → Option (List ℕ)) (word places : List ℕ) → HavePoints value known → known word ≡ Some places → places ≡ word_points value word
known-is value known word places h e = subst (λ (o : Option (List ℕ)). MatchOption o (Unit {0}) (λ ps. ps ≡ word_points value word)) e (h word)

-- one more word with its points
pub knows-more : {S : Type 0} (value : List ℕ → ℕ → ℕ) (old new : HashMap (String Global) (Vec ℕ Global) S) (bs : List ℕ) (places : Vec ℕ Global) → HavePoints value (points_of old) → UpdatesBy string_eq (λ k. bytes_eq bs (string_bytes k)) old new (Some places) → places.items ≡ word_points value bs → HavePoints value (points_of new)
knows-more value old new bs places h updates is word =
    subst (λ (o : Option (Vec ℕ Global)). MatchOption (option_map (λ (v : Vec ℕ Global). v.items) o) (Unit {0}) (λ ps. ps ≡ word_points value word)) (sym (hash_map_updates_text bs old new (Some places) updates word))
    (by (bytes_eq bs word) refl)
  where
    by : (b : Bool) → bytes_eq bs word ≡ b → MatchOption (option_map (λ (v : Vec ℕ Global). v.items) (cond b (Some places) (get_by_text old word))) (Unit {0}) (λ ps. ps ≡ word_points value word)
    by true e = is ∙ ap (word_points value) ((bytes_eq-Decides bs word).0 e)
    by false e = h word
