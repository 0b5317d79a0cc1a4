-- Texts that are laid one after the other, and their characters.
use Rattle.std.proofs.Common.{◌≡◌, ◌∙◌, ℕ, suc, ◌+◌, ◌-◌, Bool, List, [], ◌∷◌, ◌++◌, length, map, refl, sym, ap, ap₂, arith, append_assoc, append-nil, length-append}
use Rattle.std.specs.Str.{chars}
use Rattle.std.proofs.lemmas.List.{map-append}
use Rattle.std.proofs.lemmas.Simd.{map-map}
use Rattle.inline_text.specs.Joined.{Laid, ends_from, joined, laid_on, reached, repeated}
use Rattle.soft_hyphens.specs.Pass.{chars_in}
use Rattle.soft_hyphens.specs.Words.{codes_of, letters_in}
use Rattle.soft_hyphens.specs.declared.letter.Letter.{Letter}

abbrev made : List ℕ → List ℕ → Laid
made x y = record { bytes = x; ends = y }

-- ---- what is laid

-- more texts after those that are complete
abbrev pub laid_after : Laid → List (List ℕ) → Laid
laid_after l ts = record { bytes = l.bytes ++ joined ts; ends = l.ends ++ ends_from (length l.bytes) ts }

pub after-one : (l : Laid) (t : List ℕ) (ts : List (List ℕ)) → laid_after (laid_after l (t ∷ [])) ts ≡ laid_after l (t ∷ ts)
after-one l t ts =
    let n : ℕ = length l.bytes + length t in
    let same : l.bytes ++ (t ++ []) ≡ l.bytes ++ t = ap (λ (x : List ℕ). l.bytes ++ x) (append-nil t) in
    let bytes : (l.bytes ++ (t ++ [])) ++ joined ts ≡ l.bytes ++ (t ++ joined ts) = ap (λ (x : List ℕ). x ++ joined ts) same ∙ append_assoc l.bytes t (joined ts) in
    let end : length (l.bytes ++ (t ++ [])) ≡ n = ap (λ (x : List ℕ). length x) same ∙ length-append l.bytes t in
    let ends : (l.ends ++ n ∷ []) ++ ends_from (length (l.bytes ++ (t ++ []))) ts ≡ l.ends ++ (n ∷ ends_from n ts) =
    ap (λ (m : ℕ). (l.ends ++ n ∷ []) ++ ends_from m ts) end ∙ append_assoc l.ends (n ∷ []) (ends_from n ts) in
    ap₂ (λ (x y : List ℕ). made x y) bytes ends

pub after-none : (l : Laid) → laid_after l [] ≡ l
after-none l = ap₂ (λ (x y : List ℕ). made x y) (append-nil l.bytes) (append-nil l.ends)

-- a text whose number is the next is complete once the next number is reached
pub reached-one : (l m : Laid) (t : List ℕ) (n : ℕ) → m.bytes ≡ l.bytes ++ t → m.ends ≡ l.ends → length l.ends ≡ n → reached m (n + 1) ≡ laid_after l (t ∷ [])
reached-one l m t n b e h =
    let k : (n + 1) - length m.ends ≡ 1 = omega (arith, h, ap (λ (x : List ℕ). length x) e) in
    let end : length m.bytes ≡ length l.bytes + length t = ap (λ (x : List ℕ). length x) b ∙ length-append l.bytes t in
    let bytes : m.bytes ≡ l.bytes ++ (t ++ []) = b ∙ ap (λ (x : List ℕ). l.bytes ++ x) (sym (append-nil t)) in
    let ends : m.ends ++ repeated ((n + 1) - length m.ends) (length m.bytes) ≡ l.ends ++ ((length l.bytes + length t) ∷ []) =
    ap₂ (λ (x : List ℕ) (j : ℕ). x ++ repeated j (length m.bytes)) e k ∙ ap (λ (j : ℕ). l.ends ++ j ∷ []) end in
    ap₂ (λ (x y : List ℕ). made x y) bytes ends

-- more of the text with the next number completes none
pub laid-on-ends : (l : Laid) (n : ℕ) (s : List ℕ) → length l.ends ≡ n → (laid_on l n s).ends ≡ l.ends
laid-on-ends l n s h =
    let k : n - length l.ends ≡ 0 = omega (arith, h) in
    ap (λ (j : ℕ). l.ends ++ repeated j (length l.bytes)) k ∙ append-nil l.ends

-- ---- the characters of texts

-- the characters are those of the texts
pub codes-are : (autos : List Bool) (ts : List (List ℕ)) → length ts ≡ length autos → codes_of (letters_in autos ts) ≡ chars_in ts
codes-are [] [] h = refl
codes-are [] (t ∷ ts) h = absurd (omega (arith, h))
codes-are (a ∷ autos) [] h = absurd (omega (arith, h))
codes-are (a ∷ autos) (t ∷ ts) h =
    let letter : ℕ → Letter = λ (c : ℕ). record { code = c; auto = a } in
    let code : Letter → ℕ = λ (l : Letter). l.code in
    map-append code (map letter (chars t)) (letters_in autos ts)
    ∙ ap₂ (λ (x y : List ℕ). x ++ y) (map-map code letter (chars t) ∙ map-id (chars t)) (codes-are autos ts (omega (arith, h)))
  where
    map-id : (cs : List ℕ) → map (λ (c : ℕ). c) cs ≡ cs
    map-id [] = refl
    map-id (c ∷ cs) = ap (λ (l : List ℕ). c ∷ l) (map-id cs)

-- each text has an end
pub ends-length : (at : ℕ) (ts : List (List ℕ)) → length (ends_from at ts) ≡ length ts
ends-length at [] = refl
ends-length at (t ∷ ts) = ap suc (ends-length (at + length t) ts)
