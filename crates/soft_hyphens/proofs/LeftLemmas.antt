-- What is left to put of some texts.
use Rattle.std.proofs.Common.{◌≡◌, ◌∙◌, ℕ, ◌+◌, Bool, false, leb, List, [], ◌∷◌, ◌++◌, length, take, drop, get_or, sym, ap, arith}
use Rattle.std.specs.List.{prefix_len, slice_range}
use Rattle.std.specs.Str.{chars, IsCharBoundary, IsUtf8}
use Rattle.std.proofs.lemmas.Str.{IsUtf8-between}
use Rattle.inline_text.specs.Joined.{Laid, joined, laid_texts}
use Rattle.soft_hyphens.specs.Hyphenated.{encoded, put_from, put_in}
use Rattle.soft_hyphens.specs.Pass.{chars_in, offsets_in, softened}
use Rattle.soft_hyphens.proofs.OffsetLemmas.{spelled}
use Rattle.soft_hyphens.proofs.SliceLemmas.{BeginAt, IsNext}
use Rattle.soft_hyphens.proofs.SoftLemmas.{IsCut, all-offsets, cut-is, soft_offsets, softened-is}
use Rattle.soft_hyphens.proofs.TextLemmas.{after-none, after-one, laid_after}

-- the texts from a number on, which begin at an offset, with the offsets that are left
pub record IsLeft (here : ℕ → Bool) (ts : List (List ℕ)) (made : Laid) (i at : ℕ) (rest : List ℕ) : Type 0 where
  pub place : ℕ
  pub offsets : rest ≡ soft_offsets here place at (chars_in (drop i ts))
  pub goes : laid_after made (put_in here place (drop i ts)) ≡ laid_texts (put_in here 0 ts)

pub left-first : (here : ℕ → Bool) (ts : List (List ℕ)) (made : Laid) (offsets : List ℕ) → made ≡ laid_texts [] → here 0 ≡ false → offsets ≡ offsets_in here (chars_in ts) → IsLeft here ts made 0 0 offsets
left-first here ts made offsets is none all = record {
  place = 0;
  offsets = all ∙ all-offsets here (chars_in ts) none;
  goes = ap (λ (l : Laid). laid_after l (put_in here 0 ts)) is;
}

-- how many offsets stand up to the end of the text with a number
abbrev pub count_at : Laid → ℕ → List ℕ → ℕ
count_at l i rest = prefix_len (λ (o : ℕ). leb o (get_or l.ends i 0)) rest

-- one more text is put
pub left-next : (here : ℕ → Bool) (ts : List (List ℕ)) (l made new : Laid) (i at : ℕ) (rest : List ℕ) → IsUtf8 l.bytes → IsCharBoundary l.bytes at → IsCharBoundary l.bytes (get_or l.ends i 0) → IsNext l ts i at (slice_range l.bytes at (get_or l.ends i 0)) → BeginAt l ts i at → new ≡ laid_after made (softened l.bytes at (take (count_at l i rest) rest) (get_or l.ends i 0) ∷ []) → IsLeft here ts made i at rest → IsLeft here ts new (i + 1) (get_or l.ends i 0) (drop (count_at l i rest) rest)
left-next here ts l made new i at rest u b e next begin is left =
    let end : ℕ = get_or l.ends i 0 in
    let t : List ℕ = slice_range l.bytes at end in
    let more : List (List ℕ) = drop (i + 1) ts in
    let place : ℕ = left.place in
    let to : end ≡ at + length t = next.end in
    let spell : encoded (chars t) ≡ t = spelled t (IsUtf8-between l.bytes at end u (omega (arith, to)) b e) in
    let stop : end ≡ at + length (encoded (chars t)) = to ∙ ap (λ (x : List ℕ). at + length x) (sym spell) in
    let cut : IsCut rest (count_at l i rest) (soft_offsets here place at (chars t)) (soft_offsets here (place + length (chars t)) end (chars_in more)) =
    cut-is here place at end (chars t) (chars_in more) rest stop (left.offsets ∙ ap (λ (x : List (List ℕ)). soft_offsets here place at (chars_in x)) next.first) in
    let stands : drop at l.bytes ≡ encoded (chars t) ++ joined more = begin.bytes ∙ ap joined next.first ∙ ap (λ (x : List ℕ). x ++ joined more) (sym spell) in
    let put : softened l.bytes at (take (count_at l i rest) rest) end ≡ encoded (put_from here place (chars t)) =
    ap (λ (os : List ℕ). softened l.bytes at os end) cut.front ∙ softened-is here l.bytes place at end (chars t) (joined more) stands stop in
    record {
      place = place + length (chars t);
      offsets = cut.back;
      goes = ap (λ (x : Laid). laid_after x (put_in here (place + length (chars t)) more)) (is ∙ ap (λ (x : List ℕ). laid_after made (x ∷ [])) put)
          ∙ after-one made (encoded (put_from here place (chars t))) (put_in here (place + length (chars t)) more)
          ∙ ap (λ (x : List (List ℕ)). laid_after made (put_in here place x)) (sym next.first)
          ∙ left.goes;
    }

-- after the last text none is left
pub left-none : (here : ℕ → Bool) (ts : List (List ℕ)) (made : Laid) (i at : ℕ) (rest : List ℕ) → drop i ts ≡ [] → IsLeft here ts made i at rest → made ≡ laid_texts (put_in here 0 ts)
left-none here ts made i at rest none left =
    sym (after-none made) ∙ ap (λ (x : List (List ℕ)). laid_after made (put_in here left.place x)) (sym none) ∙ left.goes
