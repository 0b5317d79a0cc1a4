-- Lines of passed tokens.
use Rattle.std.proofs.Common.{◌≡◌, ℕ, ◌+◌, ◌-◌, ◌<◌, ◌∙◌, ◌==◌, cond, List, [], ◌∷◌, ◌++◌, length, length-append, take, refl, ap, sym, arith}
use Rattle.std.specs.Prelude.{Result, Ok, Err, IfOk}
use Rattle.std.proofs.Math.Seq.{take-append_seam}
use Rattle.std.proofs.lemmas.List.Concat.{flat_map-cons}
use Rattle.std.proofs.lemmas.List.Sums.{sum_by-append}
use Rattle.css_tok.specs.Tokens.{Item, tokens_from, tokens_of}
use Rattle.css_rules.specs.Parts.{Passed, joined}
use Rattle.unread_list.specs.Lines.{feeds, feeds_in, Passes}

feeds_append : (bs cs : List ℕ) → feeds (bs ++ cs) ≡ feeds bs + feeds cs
feeds_append bs cs = sum_by-append (λ b. cond (b == 10) 1 0) bs cs

-- the line feeds of tokens are those of the text that they were cut from
pub feeds_joined : (ts : List Item) → feeds_in ts ≡ feeds (joined ts)
unfolding feeds_in
feeds_joined [] = refl
feeds_joined (t ∷ ts) =
    let all : joined (t ∷ ts) ≡ t.slice ++ joined ts = flat_map-cons (λ u. u.slice) t ts in
    ap (λ n. feeds t.slice + n) (feeds_joined ts) ∙ sym (feeds_append t.slice (joined ts)) ∙ ap feeds (sym all)

passed_text : (text rest front : List ℕ) → text ≡ front ++ rest → take (length text - length rest) text ≡ front
passed_text text rest front is =
    let more = length-append front rest in
    let len : length (front ++ rest) - length rest ≡ length front = omega (arith, more) in
    rw is (ap (λ n. take n (front ++ rest)) len ∙ take-append_seam front rest)

none_left : (text rest : List ℕ) → text ≡ rest → (0 < length text → length rest < length text) → tokens_of text ≡ []
unfolding tokens_of tokens_from
none_left [] rest is takes = refl
none_left (b ∷ bs) rest is takes = let less = takes (omega arith) in let same = ap length is in absurd (omega (arith, less, same))

-- a text was passed whose tokens were passed, as many bytes as are no more there
pub passes_text : (text rest : List ℕ) (line after : ℕ) → Passed text rest → (0 < length text → length rest < length text) →
    after ≡ line + feeds (take (length text - length rest) text) → Passes (tokens_of text) (tokens_of rest) line after
passes_text text rest line after p takes lines = record {
  front = p.front;
  is = p.tokens_are;
  some = λ none. none_left text rest (p.text_is ∙ ap (λ ts. joined ts ++ rest) none) takes;
  lines = lines ∙ ap (λ bs. line + feeds bs) (passed_text text rest (joined p.front) p.text_is) ∙ ap (λ n. line + n) (sym (feeds_joined p.front));
}

-- a token was passed, and then others
pub passes_first : (t : Item) (ts us vs : List Item) (line now after : ℕ) → ts ≡ t ∷ us → now ≡ line + feeds t.slice → Passes us vs now after → Passes ts vs line after
unfolding feeds_in
passes_first t ts us vs line now after is here p = record {
  front = t ∷ p.front;
  is = is ∙ ap (λ z. t ∷ z) p.is;
  some = λ none. absurd (cc);
  lines = let e = p.lines in omega (arith, here, e);
}

-- a token was passed
pub passes_one : (t : Item) (ts us : List Item) (line now : ℕ) → ts ≡ t ∷ us → now ≡ line + feeds t.slice → Passes ts us line now
unfolding feeds_in
passes_one t ts us line now is here = record { front = t ∷ []; is = is; some = λ none. absurd (cc); lines = omega (arith, here) }

-- nothing was passed, since nothing was there
pub passes_none : (ts us : List Item) (line now : ℕ) → ts ≡ [] → us ≡ ts → now ≡ line → Passes ts us line now
unfolding feeds_in
passes_none ts us line now none same here = record { front = []; is = sym same; some = λ _. none; lines = omega (arith, here) }

-- what follows from a fact of an answer that is Ok
pub if_ok_then : {A E : Type 0} {P Q : Type 0} (r : Result A E) → (P → Q) → IfOk r (λ _. P) → IfOk r (λ _. Q)
if_ok_then (Ok x) f p = f p
if_ok_then (Err e) f p = tt
