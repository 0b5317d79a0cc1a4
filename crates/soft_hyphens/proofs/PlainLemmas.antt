-- Texts of which none is hyphenated stay as they are.
use Rattle.std.proofs.Common.{◌≡◌, ◌∙◌, ℕ, ◌-◌, ◌%◌, Bool, true, false, ◌&&◌, ◌||◌, not, ◌==◌, leb, Some, List, [], ◌∷◌, map, drop, slice_get, refl, sym, ap, ◌⊎◌, inl, inr, true≢false, arith}
use Rattle.std.specs.List.{All, list_any}
use Rattle.std.specs.Str.{IsUtf8, chars}
use Rattle.std.proofs.lemmas.Bool.Decides.{nat_tests}
use Rattle.std.proofs.lemmas.List.Elements.{All-append, All-drop, All-head, All-map, All-nil, All-take}
use Rattle.std.proofs.Math.Bool.{and-false}
use Rattle.hyphen.specs.Points.{is_point}
use Rattle.soft_hyphens.specs.Hyphenated.{hyphenated}
use Rattle.soft_hyphens.specs.Words.{are_auto, codes_of, counts, is_put, is_soft, letters_between, letters_in, most_letters, points_with, word_begin, word_end}
use Rattle.soft_hyphens.specs.declared.letter.Letter.{Letter}
use Rattle.soft_hyphens.proofs.LawLemmas.{nothing-is-put, never-put}
use Rattle.soft_hyphens.proofs.PutLemmas.{put-in-same}

-- no character is one of a text that is hyphenated
abbrev ArePlain : List Letter → Type 0
ArePlain ls = All (λ (l : Letter). l.auto ≡ false) ls

plain-letters : (autos : List Bool) (ts : List (List ℕ)) → list_any (λ auto. auto) autos ≡ false → ArePlain (letters_in autos ts)
plain-letters [] ts e = All-nil (λ (l : Letter). l.auto ≡ false)
plain-letters (auto ∷ autos) [] e = All-nil (λ (l : Letter). l.auto ≡ false)
plain-letters (true ∷ autos) (t ∷ ts) e = absurd (true≢false e)
plain-letters (false ∷ autos) (t ∷ ts) e =
    let letter : ℕ → Letter = λ c. record { code = c; auto = false } in
    All-append (λ (l : Letter). l.auto ≡ false) (map letter (chars t)) (letters_in autos ts)
    (All-map (λ (l : Letter). l.auto ≡ false) letter (chars t) (λ k d h. refl)) (plain-letters autos ts e)

-- a word of such characters has no character, or isn't hyphenated
plain-word : (ls : List Letter) → ArePlain ls → (ls ≡ []) ⊎ (are_auto ls ≡ false)
plain-word [] p = inl refl
plain-word (l ∷ ls) p = inr (ap (λ (b : Bool). b && are_auto ls) (All-head (λ (l : Letter). l.auto ≡ false) l ls p))

-- a word without a character has no point
none-first : (value : List ℕ → ℕ → ℕ) (place : ℕ) → points_with value [] place ≡ false
unfolding is_point
none-first value place = let z : leb 3 (0 - place) ≡ false = grind (arith, nat_tests) in ap (λ (b : Bool). (value [] place % 2 == 1 && (leb 1 place && leb 2 place)) && b) z ∙ and-false (value [] place % 2 == 1 && (leb 1 place && leb 2 place))

uncounted : (a b c : Bool) → (((a && false) && b) && c) ≡ false
uncounted true b c = refl
uncounted false b c = refl

plain-put : (value : List ℕ → ℕ → ℕ) (ls : List Letter) (k : ℕ) → ArePlain ls → is_put (points_with value) ls k ≡ false
unfolding is_put counts
plain-put value ls k p = by (plain-word word (All-take (λ (l : Letter). l.auto ≡ false) (to - from) (drop from ls) (All-drop (λ (l : Letter). l.auto ≡ false) from ls p)))
  where
    from : ℕ
    from = word_begin ls k

    to : ℕ
    to = word_end ls k

    word : List Letter
    word = letters_between ls from to

    by : (word ≡ []) ⊎ (are_auto word ≡ false) → (counts ls from to && points_with value (codes_of word) (k - from)) ≡ false
    by (inl e) = ap (λ (w : List Letter). counts ls from to && points_with value (codes_of w) (k - from)) e ∙ ap (λ (b : Bool). counts ls from to && b) (none-first value (k - from)) ∙ and-false (counts ls from to)
    by (inr e) =
        let begins : Bool = from == 0 || not (is_soft (slice_get ls (from - 1))) in
        let after : Bool = not (is_soft (slice_get ls to)) in
        let none : counts ls from to ≡ false = ap (λ (b : Bool). ((leb (to - from) most_letters && b) && begins) && after) e ∙ uncounted (leb (to - from) most_letters) begins after in
        ap (λ (b : Bool). b && points_with value (codes_of word) (k - from)) none

-- texts of which none is hyphenated stay
pub plain-stays : (value : List ℕ → ℕ → ℕ) (autos : List Bool) (ts : List (List ℕ)) → list_any (λ auto. auto) autos ≡ false → All IsUtf8 ts → hyphenated (Some (points_with value)) autos ts ≡ ts
unfolding hyphenated
plain-stays value autos ts e u =
    let ls : List Letter = letters_in autos ts in
    let p : ArePlain ls = plain-letters autos ts e in
    put-in-same (is_put (points_with value) ls) (is_put (λ word place. false) ls) 0 ts (λ k l. plain-put value ls k p ∙ sym (never-put ls k)) ∙ nothing-is-put autos ts u
