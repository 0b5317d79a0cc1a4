-- The text of a run is no shorter than what is laid of its first texts, hyphenated or not.
use Rattle.std.proofs.Common.{◌≡◌, ◌∙◌, ℕ, zero, suc, ◌+◌, ◌-◌, ◌≤◌, Bool, true, false, cond, Option, None, Some, List, [], ◌∷◌, ◌++◌, length, take, drop, refl, sym, ap, subst, arith, append_assoc, length-append}
use Rattle.std.specs.Char.{encode_utf8}
use Rattle.std.specs.List.{All}
use Rattle.std.specs.Str.{IsCharBoundary, IsUtf8, chars}
use Rattle.std.proofs.lemmas.List.{take-append-drop, take-append-le}
use Rattle.std.proofs.lemmas.List.Elements.{All-head, All-tail}
use Rattle.std.proofs.lemmas.Str.{IsCharBoundary-start, IsUtf8-between, chars-append, encodes-chars}
use Rattle.bk_num.specs.Chars.{soft_hyphen}
use Rattle.inline_text.specs.declared.space.Collapser.{Collapser}
use Rattle.inline_text.specs.declared.space.TextPart.{TextPart}
use Rattle.inline_text.specs.Joined.{AreTexts, ends_from, joined, laid_texts}
use Rattle.inline_text.specs.Passed.{HasPassed}
use Rattle.inline_text.specs.Space.{collapsed}
use Rattle.inline_text.proofs.GrowLemmas.{Grows, passed-grows}
use Rattle.soft_hyphens.specs.Hyphenated.{encoded, hyphenated, put_from, put_in}
use Rattle.soft_hyphens.specs.Words.{Points, is_put, letters_in}
use Rattle.soft_hyphens.proofs.PutLemmas.{encoded-append, encoded-std}

-- what is put makes nothing shorter
put-longer : (here : ℕ → Bool) (at : ℕ) (cs : List ℕ) → length (encoded cs) ≤ length (encoded (put_from here at cs))
put-longer here at [] = omega arith
put-longer here at (c ∷ cs) = by (here (suc at)) (put-longer here (suc at) cs)
  where
    rest : List ℕ
    rest = put_from here (suc at) cs

    by : (b : Bool) → length (encoded cs) ≤ length (encoded (put_from here (suc at) cs)) → length (encode_utf8 c ++ encoded cs) ≤ length (encoded (c ∷ cond b (soft_hyphen ∷ put_from here (suc at) cs) (put_from here (suc at) cs)))
    by true h =
        let x = length-append (encode_utf8 c) (encoded cs) in
        let y = length-append (encode_utf8 c) (encode_utf8 soft_hyphen ++ encoded (put_from here (suc at) cs)) in
        let z = length-append (encode_utf8 soft_hyphen) (encoded (put_from here (suc at) cs)) in
        omega (arith, h, x, y, z)
    by false h =
        let x = length-append (encode_utf8 c) (encoded cs) in
        let y = length-append (encode_utf8 c) (encoded (put_from here (suc at) cs)) in
        omega (arith, h, x, y)

-- a text that begins with UTF-8
front-longer : (here : ℕ → Bool) (at : ℕ) (t s : List ℕ) → IsUtf8 t → length t ≤ length (encoded (put_from here at (chars (t ++ s))))
front-longer here at t s u =
    let more = put-longer here at (chars (t ++ s)) in
    let is = ap (λ (l : List ℕ). length l) (ap encoded (chars-append t s u) ∙ encoded-append (chars t) (chars s)) in
    let sum = length-append (encoded (chars t)) (encoded (chars s)) in
    let same = ap (λ (l : List ℕ). length l) (encoded-std (chars t) ∙ encodes-chars t u) in
    omega (arith, more, is, sum, same)

-- the same of the first bytes of a text
first-longer : (here : ℕ → Bool) (at : ℕ) (t : List ℕ) (k : ℕ) → IsUtf8 (take k t) → length (take k t) ≤ length (encoded (put_from here at (chars t)))
first-longer here at t k u = subst (λ (l : List ℕ). length (take k t) ≤ length (encoded (put_from here at (chars l)))) (take-append-drop k t) (front-longer here at (take k t) (drop k t) u)

-- the first bytes of a text that stands in a whole
piece : (whole more before t rest : List ℕ) (k : ℕ) → whole ++ more ≡ before ++ (t ++ rest) → length before + k ≤ length whole → k ≤ length t → take k (drop (length before) whole) ≡ take k t
piece whole more [] t rest k e l m =
    sym (take-append-le k whole more (omega (arith, l))) ∙ ap (take k) e ∙ take-append-le k t rest m
piece [] more (b ∷ before) t rest k e l m = absurd (omega (arith, l))
piece (w ∷ whole) more (b ∷ before) t rest k e l m = piece whole more before t rest k (tail e) (omega (arith, l)) m
  where
    tail : w ∷ (whole ++ more) ≡ b ∷ (before ++ (t ++ rest)) → whole ++ more ≡ before ++ (t ++ rest)
    tail f = cc

take-length : (k : ℕ) (t : List ℕ) → k ≤ length t → length (take k t) ≡ k
take-length zero t l = refl
take-length (suc k) [] l = absurd (omega (arith, l))
take-length (suc k) (x ∷ t) l = ap suc (take-length k t (omega (arith, l)))

-- a text has as many bytes as stand in the whole, from a character to another
text-longer : (here : ℕ → Bool) (at : ℕ) (whole more before t rest : List ℕ) (k : ℕ) → whole ++ more ≡ before ++ (t ++ rest) → k ≤ length t → IsUtf8 whole → IsCharBoundary whole (length before) → IsCharBoundary whole (length before + k) →
    k ≤ length (encoded (put_from here at (chars t)))
text-longer here at whole more before t rest k e m u a b =
    let inside = b.0 in
    let size : (length before + k) - length before ≡ k = omega arith in
    let text : IsUtf8 (take k t) = subst IsUtf8 (ap (λ (n : ℕ). take n (drop (length before) whole)) size ∙ piece whole more before t rest k e inside m) (IsUtf8-between whole (length before) (length before + k) u (omega arith) a b) in
    let n = take-length k t m in
    let long = first-longer here at t k text in
    omega (arith, n, long)

-- texts that begin with a whole, in which some of them end at characters, and no other
long-from : (here : ℕ → Bool) (at : ℕ) (whole more before : List ℕ) (ts : List (List ℕ)) (es later : List ℕ) → whole ++ more ≡ before ++ joined ts → ends_from (length before) ts ≡ es ++ later →
    IsUtf8 whole → IsCharBoundary whole (length before) → All (IsCharBoundary whole) es → All (λ e. length whole ≤ e) later → length whole ≤ length before + length (joined (put_in here at ts))
long-from here at whole more before [] es later e f u b stand after =
    let x = ap (λ (l : List ℕ). length l) e in
    let y = length-append whole more in
    let z = length-append before [] in
    omega (arith, x, y, z)
long-from here at whole more before (t ∷ ts) [] later e f u b stand after =
    let to : ℕ = length before + length t in
    let last = All-head (λ (e : ℕ). length whole ≤ e) to (ends_from to ts) (subst (All (λ (e : ℕ). length whole ≤ e)) (sym f) after) in
    let low = b.0 in
    let k : ℕ = length whole - length before in
    let end : length before + k ≡ length whole = omega (arith, low) in
    let stop : IsCharBoundary whole (length before + k) = (omega (arith, end), λ less. absurd (omega (arith, less, end))) in
    let one = text-longer here at whole more before t (joined ts) k e (omega (arith, last, end)) u b stop in
    let sum = length-append (encoded (put_from here at (chars t))) (joined (put_in here (at + length (chars t)) ts)) in
    omega (arith, one, sum, end)
long-from here at whole more before (t ∷ ts) (x ∷ es) later e f u b stand after =
    let to : ℕ = length before + length t in
    let here-is : to ≡ x = cc in
    let rest-is : ends_from to ts ≡ es ++ later = cc in
    let stop : IsCharBoundary whole to = subst (IsCharBoundary whole) (sym here-is) (All-head (IsCharBoundary whole) x es stand) in
    let n : length (before ++ t) ≡ to = length-append before t in
    let one = text-longer here at whole more before t (joined ts) (length t) e (omega arith) u b stop in
    let rest = long-from here (at + length (chars t)) whole more (before ++ t) ts es later (e ∙ sym (append_assoc before t (joined ts))) (ap (λ (k : ℕ). ends_from k ts) n ∙ rest-is) u (subst (IsCharBoundary whole) (sym n) stop) (All-tail (IsCharBoundary whole) x es stand) after in
    let sum = length-append (encoded (put_from here at (chars t))) (joined (put_in here (at + length (chars t)) ts)) in
    omega (arith, one, rest, sum, n)

-- the texts of all parts have no fewer bytes than what is laid of the first ones
pub passed-long : (points : Option Points) (autos : List Bool) (c : Collapser) (ps more : List TextPart) → HasPassed c ps → AreTexts c.joined → length c.joined.bytes ≤ length (joined (hyphenated points autos (collapsed (ps ++ more))))
unfolding hyphenated
passed-long None autos c ps more h u =
    let g : Grows c.joined (laid_texts (collapsed (ps ++ more))) = passed-grows c ps more h in
    let x = ap (λ (l : List ℕ). length l) g.bytes in
    let y = length-append c.joined.bytes g.more in
    omega (arith, x, y)
passed-long (Some points) autos c ps more h u =
    let ts : List (List ℕ) = collapsed (ps ++ more) in
    let g : Grows c.joined (laid_texts ts) = passed-grows c ps more h in
    let l = long-from (is_put points (letters_in autos ts)) 0 c.joined.bytes g.more [] ts c.joined.ends g.later (sym g.bytes) g.ends u.utf8 (IsCharBoundary-start c.joined.bytes u.utf8) u.stand g.after in
    omega (arith, l)
