-- What is laid is never taken back, and parts that are passed one by one.
use Rattle.std.proofs.Common.{◌≡◌, ◌∙◌, ℕ, zero, suc, ◌+◌, ◌-◌, ◌≤◌, List, [], ◌∷◌, ◌++◌, length, refl, sym, ap, subst, arith, append_assoc, append-nil, length-append}
use Rattle.std.specs.List.{All}
use Rattle.std.proofs.lemmas.List.Elements.{All-append, All-cons, All-nil, All-weaker}
use Rattle.inline_text.specs.declared.space.Collapser.{Collapser}
use Rattle.inline_text.specs.declared.space.Gap.TheVariants.{Spaced}
use Rattle.inline_text.specs.declared.space.TextPart.{TextPart}
use Rattle.inline_text.specs.Gaps.{laid, left_from}
use Rattle.inline_text.specs.Joined.{Laid, laid_on, laid_texts, reached, repeated}
use Rattle.inline_text.specs.Passed.{HasPassed}
use Rattle.inline_text.specs.Space.{Char, chars_from, chars_of_part, collapsed, spelled}
use Rattle.inline_text.proofs.JoinedLemmas.{laid-collapsed}

-- the characters of some parts and of more
chars-append : (k : ℕ) (ps qs : List TextPart) → chars_from k (ps ++ qs) ≡ chars_from k ps ++ chars_from (k + length ps) qs
chars-append k [] qs = let e : k ≡ k + 0 = omega arith in ap (λ (n : ℕ). chars_from n qs) e
chars-append k (p ∷ ps) qs =
    let e : (k + 1) + length ps ≡ k + length (p ∷ ps) = omega arith in
    ap (λ (l : List Char). chars_of_part k p ++ l) (chars-append (k + 1) ps qs ∙ ap (λ (n : ℕ). chars_from (k + 1) ps ++ chars_from n qs) e)
    ∙ sym (append_assoc (chars_of_part k p) (chars_from (k + 1) ps) (chars_from (k + length (p ∷ ps)) qs))

-- those of one more
pub chars-more : (ps : List TextPart) (p : TextPart) (rest : List Char) → chars_from 0 (ps ++ p ∷ []) ++ rest ≡ chars_from 0 ps ++ (chars_of_part (length ps) p ++ rest)
chars-more ps p rest =
    let n : ℕ = length ps in
    let e : 0 + n ≡ n = omega arith in
    ap (λ (l : List Char). l ++ rest) (chars-append 0 ps (p ∷ []) ∙ ap (λ (k : ℕ). chars_from 0 ps ++ chars_from k (p ∷ [])) e)
    ∙ append_assoc (chars_from 0 ps) (chars_of_part n p ++ []) rest
    ∙ ap (λ (l : List Char). chars_from 0 ps ++ l) (append_assoc (chars_of_part n p) [] rest)

-- one text begins with another, whose ends it has, and its further ends stand after that
pub record Grows (l m : Laid) : Type 0 where
  pub more : List ℕ
  pub later : List ℕ
  pub bytes : m.bytes ≡ l.bytes ++ more
  pub ends : m.ends ≡ l.ends ++ later
  pub after : All (λ e. length l.bytes ≤ e) later

all-repeated : (P : ℕ → Type 0) (n at : ℕ) → P at → All P (repeated n at)
all-repeated P zero at h = All-nil P
all-repeated P (suc n) at h = All-cons P at (repeated n at) h (all-repeated P n at h)

grows-same : (l : Laid) → Grows l l
grows-same l = record { more = []; later = []; bytes = sym (append-nil l.bytes); ends = sym (append-nil l.ends); after = All-nil (λ e. length l.bytes ≤ e) }

grows-reached : (l : Laid) (n : ℕ) → Grows l (reached l n)
grows-reached l n = record {
  more = [];
  later = repeated (n - length l.ends) (length l.bytes);
  bytes = sym (append-nil l.bytes);
  ends = refl;
  after = all-repeated (λ e. length l.bytes ≤ e) (n - length l.ends) (length l.bytes) (omega arith);
}

grows-on : (l : Laid) (n : ℕ) (s : List ℕ) → Grows l (laid_on l n s)
grows-on l n s = record {
  more = s;
  later = repeated (n - length l.ends) (length l.bytes);
  bytes = refl;
  ends = refl;
  after = all-repeated (λ e. length l.bytes ≤ e) (n - length l.ends) (length l.bytes) (omega arith);
}

grows-then : (l m n : Laid) → Grows l m → Grows m n → Grows l n
grows-then l m n g h =
    let size = ap (λ (x : List ℕ). length x) g.bytes in
    let sum = length-append l.bytes g.more in
    let low : length l.bytes ≤ length m.bytes = omega (arith, size, sum) in
    record {
      more = g.more ++ h.more;
      later = g.later ++ h.later;
      bytes = h.bytes ∙ ap (λ (x : List ℕ). x ++ h.more) g.bytes ∙ append_assoc l.bytes g.more h.more;
      ends = h.ends ∙ ap (λ (x : List ℕ). x ++ h.later) g.ends ∙ append_assoc l.ends g.later h.later;
      after = All-append (λ e. length l.bytes ≤ e) g.later h.later g.after (All-weaker (λ e. length m.bytes ≤ e) (λ e. length l.bytes ≤ e) (λ e a. omega (arith, low, a)) h.later h.after);
    }

grows-laid : (l : Laid) (cs : List Char) → Grows l (laid l cs)
grows-laid l [] = grows-same l
grows-laid l (c ∷ cs) =
    let next : Laid = laid_on l c.part (spelled c.class c.code) in
    grows-then l next (laid next cs) (grows-on l c.part (spelled c.class c.code)) (grows-laid next cs)

-- the texts of all parts begin with what is laid of the first ones
pub passed-grows : (c : Collapser) (ps more : List TextPart) → HasPassed c ps → Grows c.joined (laid_texts (collapsed (ps ++ more)))
passed-grows c ps more h =
    let all : List TextPart = ps ++ more in
    let rest : List Char = chars_from (0 + length ps) more in
    let last : Laid = laid c.joined (left_from c.gap rest) in
    let is : reached last (length all) ≡ laid_texts (collapsed all) =
    ap (λ (x : Laid). reached x (length all)) (sym (ap (λ (l : List Char). laid (laid_texts []) (left_from Spaced l)) (chars-append 0 ps more) ∙ h.goes rest)) ∙ laid-collapsed all in
    subst (Grows c.joined) is (grows-then c.joined last (reached last (length all)) (grows-laid c.joined (left_from c.gap rest)) (grows-reached last (length all)))
