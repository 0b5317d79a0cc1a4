-- Each piece of a text has at least a byte, lies within it, and ends where the text may be cut.
use Rattle.std.proofs.Common.{◌≡◌, ℕ, zero, suc, ◌+◌, ◌-◌, ◌<◌, ◌≤◌, Bool, true, false, not, cond, List, [], ◌∷◌, Option, None, Some, option_map, length, drop, get_or, eqb, nat_eq, ◌&&◌, ◌||◌, ◌==◌, refl, ap, sym, ◌∙◌, arith, subst, length-drop, codes, slice_index, lit<}
use Rattle.std.proofs.lemmas.List.{get_or-drop, length-take-le}
use Rattle.std.specs.List.{position_or_len, before_first, starts_with}
use Rattle.std.specs.Str.{IsCharBoundary, IsUtf8}
use Rattle.std.specs.Char.{is_ascii_alphabetic}
use Rattle.std.proofs.lemmas.Str.{IsCharBoundary-after_ascii}
use Rattle.std.proofs.lemmas.Bool.{eqb-true, and_parts}
use Rattle.html_tok.specs.Classes.{ends_name, from_first, is_between}
use Rattle.html_tok.specs.Tags.{end_after, tag_end, attribute_len}
use Rattle.html_tok.specs.Pieces.{opening_of, is_start, is_end, is_text, text_len, start_piece, close_piece, start_at, close_at, piece_of, raw_piece, piece_at, Opening, opens_comment, opens_bogus, opens_end, opens_start, opens_text, by_markup, by_end_of}
use Rattle.html_tok.proofs.Places.{place-le}
use Rattle.html_tok.proofs.Ends.{through_le, through_some}
use Rattle.html_tok.proofs.TextLen.{text_boundary, text_len_more}

-- what an opening begins with
pub record Begins (bs : List ℕ) (a b : ℕ) : Type 0 where
  pub first : get_or bs 0 0 ≡ a
  pub second : get_or bs 1 0 ≡ b

start-test : (a b c d e : Bool) → is_start (cond a opens_comment (cond b opens_bogus (cond c (cond d opens_end opens_bogus) (cond e opens_start opens_text)))) ≡ true → e ≡ true
start-test true b c d e h = cc
start-test false true c d e h = cc
start-test false false true true e h = cc
start-test false false true false e h = cc
start-test false false false d true h = refl
start-test false false false d false h = cc

end-test : (a b c d e : Bool) → is_end (cond a opens_comment (cond b opens_bogus (cond c (cond d opens_end opens_bogus) (cond e opens_start opens_text)))) ≡ true → c ≡ true
end-test true b c d e h = cc
end-test false true c d e h = cc
end-test false false true d e h = refl
end-test false false false d true h = cc
end-test false false false d false h = cc

pub start-begins : (bs : List ℕ) → is_start (opening_of bs) ≡ true → get_or bs 0 0 ≡ 60
unfolding opening_of
start-begins bs h = eqb-true _ _ (and_parts (slice_index bs 0 == 60) (is_ascii_alphabetic (slice_index bs 1)) (start-test (starts_with nat_eq bs (codes "<!--")) (slice_index bs 0 == 60 && (slice_index bs 1 == 33 || slice_index bs 1 == 63)) (slice_index bs 0 == 60 && slice_index bs 1 == 47) (is_ascii_alphabetic (slice_index bs 2)) (slice_index bs 0 == 60 && is_ascii_alphabetic (slice_index bs 1)) h)).0

pub end-begins : (bs : List ℕ) → is_end (opening_of bs) ≡ true → Begins bs 60 47
unfolding opening_of
end-begins bs h = let p = and_parts (slice_index bs 0 == 60) (slice_index bs 1 == 47) (end-test (starts_with nat_eq bs (codes "<!--")) (slice_index bs 0 == 60 && (slice_index bs 1 == 33 || slice_index bs 1 == 63)) (slice_index bs 0 == 60 && slice_index bs 1 == 47) (is_ascii_alphabetic (slice_index bs 2)) (slice_index bs 0 == 60 && is_ascii_alphabetic (slice_index bs 1)) h) in record { first = eqb-true _ _ p.0; second = eqb-true _ _ p.1 }

pub some-first : (bs : List ℕ) (b : ℕ) → get_or bs 0 0 ≡ b → 0 < b → 0 < length bs
some-first [] b h l = absurd (omega arith)
some-first (a ∷ bs) b h l = omega arith

pub some-second : (bs : List ℕ) (b : ℕ) → get_or bs 1 0 ≡ b → 0 < b → 1 < length bs
some-second [] b h l = absurd (omega arith)
some-second (a ∷ []) b h l = absurd (omega arith)
some-second (a ∷ c ∷ bs) b h l = omega arith

-- ---- comments

comment-reads : (bs : List ℕ) → starts_with nat_eq bs (codes "<!--") ≡ true → (3 < length bs) × (get_or bs 3 0 ≡ 45)
comment-reads [] h = absurd (cc)
comment-reads (a ∷ []) h = grind arith
comment-reads (a ∷ b ∷ []) h = grind arith
comment-reads (a ∷ b ∷ c ∷ []) h = grind arith
comment-reads (a ∷ b ∷ c ∷ d ∷ bs) h = grind arith

comment-test : (a b c d e : Bool) → cond a opens_comment (cond b opens_bogus (cond c (cond d opens_end opens_bogus) (cond e opens_start opens_text))) ≡ opens_comment → a ≡ true
comment-test true b c d e h = refl
comment-test false true c d e h = cc
comment-test false false true true e h = cc
comment-test false false true false e h = cc
comment-test false false false d true h = cc
comment-test false false false d false h = cc

comment-begins : (bs : List ℕ) → opening_of bs ≡ opens_comment → (3 < length bs) × (get_or bs 3 0 ≡ 45)
unfolding opening_of
comment-begins bs e = comment-reads bs (comment-test (starts_with nat_eq bs (codes "<!--")) (slice_index bs 0 == 60 && (slice_index bs 1 == 33 || slice_index bs 1 == 63)) (slice_index bs 0 == 60 && slice_index bs 1 == 47) (is_ascii_alphabetic (slice_index bs 2)) (slice_index bs 0 == 60 && is_ascii_alphabetic (slice_index bs 1)) e)

pub comment-boundary : (bs : List ℕ) → IsUtf8 bs → opening_of bs ≡ opens_comment → IsCharBoundary bs 4
comment-boundary bs u e = let r = comment-begins bs e in IsCharBoundary-after_ascii bs 3 u r.0 (rw r.1 (omega arith))

-- ---- tags

one-on : (b : ℕ) (bs : List ℕ) (k : ℕ) (o : Option ℕ) → option_map (λ k. k + 1) o ≡ Some k → ((k : ℕ) → o ≡ Some k → (k < length bs) × (get_or bs k 0 ≡ 62)) → (k < length {A = ℕ} (b ∷ bs)) × (get_or (b ∷ bs) k 0 ≡ 62)
one-on b bs k None h f = cc
one-on b bs k (Some j) h f = let s : suc j ≡ k = (let e : j + 1 ≡ k = cc in omega arith) in subst (λ i. (i < length {A = ℕ} (b ∷ bs)) × (get_or (b ∷ bs) i 0 ≡ 62)) s (let g = f j refl in (omega (arith, g.0), g.1))

-- the `>` that ends a tag stands there
pub end-is : (n : ℕ) (bs : List ℕ) (k : ℕ) → end_after n bs ≡ Some k → (k < length bs) × (get_or bs k 0 ≡ 62)
unfolding end_after
end-is n [] k h = cc
end-is (suc n) (b ∷ bs) k h = one-on b bs k (end_after n bs) h (end-is n bs)
end-is zero (b ∷ bs) k h = by (is_between b) (eqb b 62) refl h (end-is 0 bs) (end-is (attribute_len (b ∷ bs) - 1) bs)
  where
    by : (c d : Bool) → eqb b 62 ≡ d → cond c (option_map (λ k. k + 1) (end_after 0 bs)) (cond d (Some 0) (option_map (λ k. k + 1) (end_after (attribute_len (b ∷ bs) - 1) bs))) ≡ Some k → ((k : ℕ) → end_after 0 bs ≡ Some k → (k < length bs) × (get_or bs k 0 ≡ 62)) → ((k : ℕ) → end_after (attribute_len (b ∷ bs) - 1) bs ≡ Some k → (k < length bs) × (get_or bs k 0 ≡ 62)) → (k < length {A = ℕ} (b ∷ bs)) × (get_or (b ∷ bs) k 0 ≡ 62)
    by true d e h f g = one-on b bs k (end_after 0 bs) h f
    by false true e h f g = let z : 0 ≡ k = cc in subst (λ j. (j < length {A = ℕ} (b ∷ bs)) × (get_or (b ∷ bs) j 0 ≡ 62)) z (omega arith, eqb-true _ _ e)
    by false false e h f g = one-on b bs k (end_after (attribute_len (b ∷ bs) - 1) bs) h g

pub name-length : (p : ℕ → Bool) (bs : List ℕ) → length (before_first p bs) ≡ position_or_len p bs
name-length p bs = length-take-le (position_or_len p bs) bs (place-le p bs)

-- where the `>` that ends a tag stands: after `open` bytes and k bytes and n bytes
pub record IsTagEnd (bs : List ℕ) (at : ℕ) : Type 0 where
  pub within : at < length bs
  pub is : get_or bs at 0 ≡ 62

pub tag-end-at : (bs : List ℕ) (lead k n : ℕ) → tag_end (drop k (drop lead bs)) ≡ Some n → IsTagEnd bs (lead + k + n)
tag-end-at bs lead k n h =
    let e = end-is 0 (drop k (drop lead bs)) n h in
    let l : length (drop k (drop lead bs)) ≡ (length bs - lead) - k = length-drop k (drop lead bs) ∙ ap (λ m. m - k) (length-drop lead bs) in
    let g : get_or (drop k (drop lead bs)) n 0 ≡ get_or bs (lead + (k + n)) 0 = get_or-drop k (drop lead bs) n 0 ∙ get_or-drop lead bs (k + n) 0 in
    let s : lead + (k + n) ≡ lead + k + n = omega arith in
    record { within = omega (arith, e.0); is = ap (λ i. get_or bs i 0) (sym s) ∙ sym g ∙ e.1 }

pub tag-boundary : (bs : List ℕ) (at : ℕ) → IsUtf8 bs → IsTagEnd bs at → IsCharBoundary bs (at + 1)
tag-boundary bs at u h = IsCharBoundary-after_ascii bs at u h.within (rw h.is (omega arith))

-- ---- each piece

-- a number of bytes, at least one and at most all
pub record IsCut (bs : List ℕ) (n : ℕ) : Type 0 where
  pub some : 0 < n
  pub within : n ≤ length bs

start-cut : (bs : List ℕ) → 0 < length bs → IsCut bs (start_at bs).len
unfolding start_at
start-cut bs l = by (tag_end (from_first ends_name (drop 1 bs))) refl
  where
    by : (o : Option ℕ) → tag_end (from_first ends_name (drop 1 bs)) ≡ o → IsCut bs (start_piece (before_first ends_name (drop 1 bs)) (from_first ends_name (drop 1 bs)) (length bs) o).len
    by None e = record { some = l; within = omega arith }
    by (Some n) e = let t = tag-end-at bs 1 (position_or_len ends_name (drop 1 bs)) n e in let m = name-length ends_name (drop 1 bs) in record { some = omega arith; within = omega (arith, t.within, m) }

close-cut : (bs : List ℕ) → 0 < length bs → IsCut bs (close_at bs).len
unfolding close_at
close-cut bs l = by (tag_end (from_first ends_name (drop 2 bs))) refl
  where
    by : (o : Option ℕ) → tag_end (from_first ends_name (drop 2 bs)) ≡ o → IsCut bs (close_piece (before_first ends_name (drop 2 bs)) (length bs) o).len
    by None e = record { some = l; within = omega arith }
    by (Some n) e = let t = tag-end-at bs 2 (position_or_len ends_name (drop 2 bs)) n e in let m = name-length ends_name (drop 2 bs) in record { some = omega arith; within = omega (arith, t.within, m) }

pub text-some : (bs : List ℕ) → 0 < length bs → opening_of bs ≡ opens_text → 0 < text_len by_markup bs
text-some bs l e = rw (text_len_more by_markup bs l (ap (λ o. not (is_text o)) e)) (omega arith)

of-cut : (o : Opening) (bs : List ℕ) → 0 < length bs → opening_of bs ≡ o → IsCut bs (piece_of o bs).len
unfolding piece_of
of-cut opens_comment bs l e =
    let r = comment-begins bs e in
    let t = through_le (codes "-->") (lit< tt) (drop 4 bs) in
    let d : length (drop 4 bs) ≡ length bs - 4 = length-drop 4 bs in
    record { some = omega arith; within = omega (arith, r.0, t, d) }
of-cut opens_bogus bs l e = record { some = through_some (codes ">") bs (lit< tt) l; within = through_le (codes ">") (lit< tt) bs }
of-cut opens_end bs l e = close-cut bs l
of-cut opens_start bs l e = start-cut bs l
of-cut opens_text bs l e = record { some = text-some bs l e; within = (text_boundary by_markup bs).0 }

raw-cut : (bs : List ℕ) (n : ℕ) → 0 < length bs → n ≤ length bs → IsCut bs (raw_piece bs n).len
raw-cut bs zero l h = of-cut (opening_of bs) bs l refl
raw-cut bs (suc n) l h = record { some = omega arith; within = h }

pub piece-cut : (awaited : Option (List ℕ)) (bs : List ℕ) → 0 < length bs → IsCut bs (piece_at awaited bs).len
unfolding piece_at
piece-cut None bs l = of-cut (opening_of bs) bs l refl
piece-cut (Some e) bs l = raw-cut bs (text_len (by_end_of e) bs) l (text_boundary (by_end_of e) bs).0
