-- the words of a text, character by character
use Rattle.std.proofs.Common.{◌≡◌, ℕ, suc, ◌<◌, ◌≤◌, Bool, true, false, not, cond, ◌==◌, List, [], ◌∷◌, ◌++◌, length, get_or, refl, sym, ◌∙◌, ap, append_assoc, append-nil, ◌⊎◌, inl, inr, arith}
use Rattle.std.proofs.lemmas.Bool.{ne_eqb, cases_lt}
use Rattle.std.proofs.lemmas.List.Splits.{slice_split-cons_yes, slice_split-cons_no}
use Rattle.std.proofs.lemmas.Str.{encode_ascii, inside_one, length-encode, len_utf8_bounds}
use Rattle.std.specs.Char.{encode_utf8}
use Rattle.std.specs.Prelude.{filter}
use Rattle.std.specs.List.{join_with_byte, onto_first, slice_split}
use Rattle.css_tok.specs.Lengths.{is_blank}
use Rattle.css_tok.specs.Words.{words_of}
use Rattle.gen_text.specs.declared.own.Ending.{Ending}
use Rattle.gen_text.specs.declared.own.Ending.TheVariants as ending
use Rattle.gen_text.specs.Own.{trimmed, lead, added_by, added_by_char, ending_by, added, ending_after}

-- a word, where it has characters
abbrev if_some : List ℕ → List (List ℕ)
if_some [] = []
if_some (b ∷ bs) = (b ∷ bs) ∷ []

-- the words of a text that goes on from the beginning of a word
abbrev words_after : List ℕ → List ℕ → List (List ℕ)
words_after word [] = if_some word
words_after word (b ∷ bs) = cond (is_blank b) (if_some word ++ words_after [] bs) (words_after (word ++ b ∷ []) bs)

abbrev has_some : List ℕ → Bool
has_some w = not (length w == 0)

-- parts, of which the first goes on from the beginning of a word
abbrev onto_word : List ℕ → List (List ℕ) → List (List ℕ)
onto_word word [] = word ∷ []
onto_word word (p ∷ ps) = (word ++ p) ∷ ps

onto-none : (ps : List (List ℕ)) → filter has_some (onto_word [] ps) ≡ filter has_some ps
onto-none [] = refl
onto-none (p ∷ ps) = refl

onto-more : (word : List ℕ) (b : ℕ) (ps : List (List ℕ)) → onto_word (word ++ b ∷ []) ps ≡ onto_word word (onto_first b ps)
onto-more word b [] = refl
onto-more word b (p ∷ ps) = ap (λ q. q ∷ ps) (append_assoc word (b ∷ []) p)

kept-first : (word : List ℕ) (ps : List (List ℕ)) → filter has_some (word ∷ ps) ≡ if_some word ++ filter has_some ps
kept-first [] ps = refl
kept-first (x ∷ w) ps = let some : (length (x ∷ w) == 0) ≡ false = ne_eqb (length (x ∷ w)) 0 (λ e. omega arith) in rw some refl

-- they are the parts of the text that have characters
words-after : (word bs : List ℕ) → words_after word bs ≡ filter has_some (onto_word word (slice_split is_blank bs))
words-after word [] = sym (ap (λ w. filter has_some (w ∷ [])) (append-nil word) ∙ kept-first word [] ∙ append-nil (if_some word))
words-after word (b ∷ bs) = by (is_blank b) refl (λ w. words-after w bs)
  where
    by : (t : Bool) → is_blank b ≡ t → ((w : List ℕ) → words_after w bs ≡ filter has_some (onto_word w (slice_split is_blank bs))) → words_after word (b ∷ bs) ≡ filter has_some (onto_word word (slice_split is_blank (b ∷ bs)))
    by true e again =
        ap (λ t. cond t (if_some word ++ words_after [] bs) (words_after (word ++ b ∷ []) bs)) e
        ∙ ap (λ ws. if_some word ++ ws) (again [] ∙ onto-none (slice_split is_blank bs))
        ∙ sym (kept-first word (slice_split is_blank bs))
        ∙ sym (ap (λ w. filter has_some (w ∷ slice_split is_blank bs)) (append-nil word))
        ∙ sym (ap (λ ps. filter has_some (onto_word word ps)) (slice_split-cons_yes is_blank b bs e))
    by false e again =
        ap (λ t. cond t (if_some word ++ words_after [] bs) (words_after (word ++ b ∷ []) bs)) e
        ∙ again (word ++ b ∷ [])
        ∙ ap (filter has_some) (onto-more word b (slice_split is_blank bs))
        ∙ sym (ap (λ ps. filter has_some (onto_word word ps)) (slice_split-cons_no is_blank b bs e))

words-are : (text : List ℕ) → words_after [] text ≡ words_of text
unfolding words_of
words-are text = words-after [] text ∙ onto-none (slice_split is_blank text)

-- a word that has begun stands among the words
some-word : (x : ℕ) (w bs : List ℕ) → (y : List ℕ) × (ys : List (List ℕ)) × (words_after (x ∷ w) bs ≡ y ∷ ys)
some-word x w [] = (x ∷ w, [], refl)
some-word x w (b ∷ bs) = by (is_blank b) refl (some-word x (w ++ b ∷ []) bs)
  where
    by : (t : Bool) → is_blank b ≡ t → (y : List ℕ) × (ys : List (List ℕ)) × (words_after (x ∷ (w ++ b ∷ [])) bs ≡ y ∷ ys) → (y : List ℕ) × (ys : List (List ℕ)) × (words_after (x ∷ w) (b ∷ bs) ≡ y ∷ ys)
    by true e h = (x ∷ w, words_after [] bs, rw e refl)
    by false e h = (h.0, h.1, rw e h.2)

join-more : (first : List ℕ) (ws : List (List ℕ)) (y : List ℕ) (ys : List (List ℕ)) → ws ≡ y ∷ ys → join_with_byte 32 (first ∷ ws) ≡ first ++ 32 ∷ join_with_byte 32 ws
join-more first ws y ys e = rw e refl

-- what a text adds before its first word, inside a word, and after one
record Adds (bs : List ℕ) : Type 0 where
  start : added ending.Nothing bs ≡ join_with_byte 32 (words_after [] bs)
  inside : (x : ℕ) (w : List ℕ) → (x ∷ w) ++ added ending.Word bs ≡ join_with_byte 32 (words_after (x ∷ w) bs)
  after : (first : List ℕ) → first ++ added ending.Space bs ≡ join_with_byte 32 (first ∷ words_after [] bs)

adds-more : (b : ℕ) (bs : List ℕ) (t : Bool) → is_blank b ≡ t → Adds bs → Adds (b ∷ bs)
adds-more b bs true e h = record {
  start = rw e h.start;
  inside = λ x w. rw e (h.after (x ∷ w));
  after = λ first. rw e (h.after first);
}
adds-more b bs false e h = record {
  start = rw e (h.inside b []);
  inside = λ x w. rw e (sym (append_assoc (x ∷ w) (b ∷ []) (added ending.Word bs)) ∙ h.inside x (w ++ b ∷ []));
  after = λ first. rw e (let s = some-word b [] bs in ap (λ l. first ++ 32 ∷ l) (h.inside b []) ∙ sym (join-more first (words_after (b ∷ []) bs) s.0 s.1 s.2));
}

adds : (bs : List ℕ) → Adds bs
adds [] = record { start = refl; inside = λ x w. append-nil (x ∷ w); after = λ first. append-nil first }
adds (b ∷ bs) = adds-more b bs (is_blank b) refl (adds bs)

-- a whole text
pub added-all : (text : List ℕ) → added ending.Nothing text ≡ trimmed text
added-all text = (adds text).start ∙ ap (join_with_byte 32) (words-are text)

pub added-append : (t : Ending) (xs ys : List ℕ) → added t (xs ++ ys) ≡ added t xs ++ added (ending_after t xs) ys
added-append t [] ys = refl
added-append t (x ∷ xs) ys = ap (λ l. added_by t x ++ l) (added-append (ending_by t x) xs ys) ∙ sym (append_assoc (added_by t x) (added (ending_by t x) xs) (added (ending_after (ending_by t x) xs) ys))

pub ending-append : (t : Ending) (xs ys : List ℕ) → ending_after t (xs ++ ys) ≡ ending_after (ending_after t xs) ys
ending-append t [] ys = refl
ending-append t (x ∷ xs) ys = ending-append (ending_by t x) xs ys

-- ---- characters

pub blank_high : (b : ℕ) → 128 ≤ b → is_blank b ≡ false
blank_high b h = rw (ne_eqb b 9 (λ e. omega arith), ne_eqb b 10 (λ e. omega arith), ne_eqb b 12 (λ e. omega arith), ne_eqb b 13 (λ e. omega arith), ne_eqb b 32 (λ e. omega arith)) refl

-- no byte is ASCII
IsHigh : List ℕ → Type 0
IsHigh bs = (i : ℕ) → i < length bs → 128 ≤ get_or bs i 0

high_tail : (b : ℕ) (bs : List ℕ) → IsHigh (b ∷ bs) → IsHigh bs
unfolding IsHigh
high_tail b bs h i l = h (suc i) (omega arith)

high_head : (b : ℕ) (bs : List ℕ) → IsHigh (b ∷ bs) → is_blank b ≡ false
unfolding IsHigh
high_head b bs h = blank_high b (h 0 (omega arith))

word_more : (bs : List ℕ) → IsHigh bs → (added ending.Word bs ≡ bs) × (ending_after ending.Word bs ≡ ending.Word)
word_more [] h = (refl, refl)
word_more (b ∷ bs) h = let (text, end) = word_more bs (high_tail b bs h) in (rw (high_head b bs h) (ap (λ l. b ∷ l) text), rw (high_head b bs h) end)

high_more : (t : Ending) (bs : List ℕ) → 0 < length bs → IsHigh bs → (added t bs ≡ lead t ++ bs) × (ending_after t bs ≡ ending.Word)
high_more t [] some h = absurd (omega arith)
high_more t (b ∷ bs) some h = let (text, end) = word_more bs (high_tail b bs h) in (rw (high_head b bs h) (ap (λ l. (lead t ++ b ∷ []) ++ l) text ∙ append_assoc (lead t) (b ∷ []) bs), rw (high_head b bs h) end)

encode_high : (c : ℕ) → 128 ≤ c → IsHigh (encode_utf8 c)
unfolding IsHigh
encode_high c h i l = by (cases_lt (get_or (encode_utf8 c) i 0) 128)
  where
    by : (get_or (encode_utf8 c) i 0 < 128) ⊎ (128 ≤ get_or (encode_utf8 c) i 0) → 128 ≤ get_or (encode_utf8 c) i 0
    by (inl low) = let same = inside_one c [] (encode_utf8 c) i (sym (append-nil (encode_utf8 c))) l low in absurd (omega arith)
    by (inr high) = high

-- all bytes of a character, or none
pub char_more : (t : Ending) (c : ℕ) → (added t (encode_utf8 c) ≡ added_by_char t c) × (ending_after t (encode_utf8 c) ≡ ending_by t c)
char_more t c = by (cases_lt c 128)
  where
    some : 0 < length (encode_utf8 c)
    some = let len = length-encode c in let bounds = len_utf8_bounds c in let least = bounds.0 in omega (arith, len, least)

    by : (c < 128) ⊎ (128 ≤ c) → (added t (encode_utf8 c) ≡ added_by_char t c) × (ending_after t (encode_utf8 c) ≡ ending_by t c)
    by (inl low) = let e = encode_ascii c low in (ap (added t) e ∙ append-nil (added_by t c) ∙ ap (λ l. cond (is_blank c) [] (lead t ++ l)) (sym e), ap (ending_after t) e)
    by (inr high) = let (text, end) = high_more t (encode_utf8 c) some (encode_high c high) in (rw (blank_high c high) text, rw (blank_high c high) end)

-- one character more
pub chars_turn : (t u v : Ending) (text rest more : List ℕ) (c : ℕ) (old middle new : List ℕ) → middle ++ added u rest ≡ old ++ added t text → rest ≡ encode_utf8 c ++ more → new ≡ middle ++ added_by_char u c → v ≡ ending_by u c → new ++ added v more ≡ old ++ added t text
chars_turn t u v text rest more c old middle new h spell e g =
    let (text, end) = char_more u c in
    ap (λ l. l ++ added v more) (e ∙ ap (λ l. middle ++ l) (sym text)) ∙ append_assoc middle (added u (encode_utf8 c)) (added v more) ∙ ap (λ w. middle ++ (added u (encode_utf8 c) ++ added w more)) (g ∙ sym end) ∙ ap (λ l. middle ++ l) (sym (added-append u (encode_utf8 c) more)) ∙ ap (λ l. middle ++ added u l) (sym spell) ∙ h

pub chars_ending_turn : (t u v : Ending) (text rest more : List ℕ) (c : ℕ) → ending_after u rest ≡ ending_after t text → rest ≡ encode_utf8 c ++ more → v ≡ ending_by u c → ending_after v more ≡ ending_after t text
chars_ending_turn t u v text rest more c h spell g =
    let (text, end) = char_more u c in
    ap (λ w. ending_after w more) (g ∙ sym end) ∙ sym (ending-append u (encode_utf8 c) more) ∙ ap (ending_after u) (sym spell) ∙ h

-- no character is left
pub chars_end : (t u : Ending) (text rest old middle : List ℕ) → middle ++ added u rest ≡ old ++ added t text → length rest ≡ 0 → middle ≡ old ++ added t text
chars_end t u text [] old middle h e = sym (append-nil middle) ∙ h
chars_end t u text (b ∷ rest) old middle h e = absurd (omega arith)

pub chars_ending_end : (t u : Ending) (text rest : List ℕ) → ending_after u rest ≡ ending_after t text → length rest ≡ 0 → u ≡ ending_after t text
chars_ending_end t u text [] h e = h
chars_ending_end t u text (b ∷ rest) h e = absurd (omega arith)
