-- The state between paragraphs and between chapters.
use Rattle.std.proofs.Common.{◌≡◌, ◌∙◌, ℕ, ◌+◌, ◌-◌, ◌*◌, List, ◌++◌, codes, sym, ap, arith}
use Rattle.sample.specs.Html.{chapter, chapter_of, heading, note_paragraph, paragraph}
use Rattle.sample.specs.Words.{words, words_end}
use Rattle.sample.proofs.WordLemmas.{words_end-add}

-- a paragraph with a note, by the states between its parts
pub note_paragraph-parts : (x y z : ℕ) → y ≡ words_end 20 x → z ≡ words_end 12 y →
    note_paragraph x ≡ codes "<p>" ++ words 20 x ++ codes "<span class=\"n\">" ++ words 12 y ++ codes "</span> " ++ words 20 z ++ codes ".</p>\n"
unfolding note_paragraph
note_paragraph-parts x y z p q =
    let second : z ≡ words_end 32 x = q ∙ ap (words_end 12) p ∙ words_end-add 20 12 x in
    let parts : ℕ → ℕ → List ℕ =
    λ u v. codes "<p>" ++ words 20 x ++ codes "<span class=\"n\">" ++ words 12 u ++ codes "</span> " ++ words 20 v ++ codes ".</p>\n" in
    ap (λ (v : ℕ). parts (words_end 20 x) v) (sym second) ∙ ap (λ (u : ℕ). parts u z) (sym p)

-- the state after it
pub note_paragraph-end : (x y z e : ℕ) → y ≡ words_end 20 x → z ≡ words_end 12 y → e ≡ words_end 20 z → e ≡ words_end 52 x
note_paragraph-end x y z e p q r =
    r ∙ ap (words_end 20) (q ∙ ap (words_end 12) p ∙ words_end-add 20 12 x) ∙ words_end-add 32 20 x

-- the states between the paragraphs of a chapter
pub record ArePlaces (x second third fourth last : ℕ) : Type 0 where
  pub at_second : second ≡ words_end 40 x
  pub at_third : third ≡ words_end 40 second
  pub at_fourth : fourth ≡ words_end 52 third
  pub at_last : last ≡ words_end 40 fourth

third-is : (x second third fourth last : ℕ) → ArePlaces x second third fourth last → third ≡ words_end 80 x
third-is x second third fourth last p = p.at_third ∙ ap (words_end 40) p.at_second ∙ words_end-add 40 40 x

fourth-is : (x second third fourth last : ℕ) → ArePlaces x second third fourth last → fourth ≡ words_end 132 x
fourth-is x second third fourth last p = p.at_fourth ∙ ap (words_end 52) (third-is x second third fourth last p) ∙ words_end-add 80 52 x

last-is : (x second third fourth last : ℕ) → ArePlaces x second third fourth last → last ≡ words_end 172 x
last-is x second third fourth last p = p.at_last ∙ ap (words_end 40) (fourth-is x second third fourth last p) ∙ words_end-add 132 40 x

-- a chapter, by them
pub chapter-parts : (i x second third fourth last : ℕ) → ArePlaces x second third fourth last →
    chapter i x ≡ heading i ++ paragraph x ++ paragraph second ++ note_paragraph third ++ paragraph fourth ++ paragraph last
unfolding chapter
chapter-parts i x second third fourth last p =
    let parts : ℕ → ℕ → ℕ → ℕ → List ℕ =
    λ a b c d. heading i ++ paragraph x ++ paragraph a ++ note_paragraph b ++ paragraph c ++ paragraph d in
    ap (λ (a : ℕ). parts a (words_end 80 x) (words_end 132 x) (words_end 172 x)) (sym p.at_second) ∙
    ap (λ (b : ℕ). parts second b (words_end 132 x) (words_end 172 x)) (sym (third-is x second third fourth last p)) ∙
    ap (λ (c : ℕ). parts second third c (words_end 172 x)) (sym (fourth-is x second third fourth last p)) ∙
    ap (λ (d : ℕ). parts second third fourth d) (sym (last-is x second third fourth last p))

-- the state after a chapter
pub chapter-state : (x second third fourth last e : ℕ) → ArePlaces x second third fourth last → e ≡ words_end 40 last → e ≡ words_end 212 x
chapter-state x second third fourth last e p q = q ∙ ap (words_end 40) (last-is x second third fourth last p) ∙ words_end-add 172 40 x

-- a chapter begins where those before it end
pub chapter_of-next : (n before : ℕ) → chapter_of n (before + 1) ≡ chapter (before + 1) (words_end (212 * before) n)
unfolding chapter_of
chapter_of-next n before = let e : (before + 1) - 1 ≡ before = omega arith in ap (λ (k : ℕ). chapter (before + 1) (words_end (212 * k) n)) e

-- and ends where the next one begins
pub chapter-end : (n before : ℕ) → words_end 212 (words_end (212 * before) n) ≡ words_end (212 * (before + 1)) n
chapter-end n before = let e : 212 * before + 212 ≡ 212 * (before + 1) = omega arith in words_end-add (212 * before) 212 n ∙ ap (λ (k : ℕ). words_end k n) e
