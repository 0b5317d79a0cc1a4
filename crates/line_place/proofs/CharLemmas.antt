-- The pieces of a line stand at characters.
use Rattle.std.proofs.Common.{◌≡◌, ◌<◌, ◌≤◌, ℕ, zero, suc, ◌+◌, ◌-◌, min, max, List, [], ◌∷◌, Bool, true, false, ◌&&◌, ◌==◌, nat_lt, slice_index, cond, length, map, refl, sym, subst, arith, ◌⊎◌, inl, inr}
use Rattle.std.specs.List.{All}
use Rattle.std.specs.Str.{IsCharBoundary, IsUtf8}
use Rattle.std.proofs.lemmas.Bool.{cases_lt, eqb-true}
use Rattle.std.proofs.lemmas.Str.{IsCharBoundary-after_ascii, IsCharBoundary-start}
use Rattle.std.proofs.lemmas.List.Elements.{All-nil, All-cons, All-append, All-head, All-tail}
use Rattle.metrics.specs.Face.{FontFace}
use Rattle.boxes.specs.Contents.{AreSpans}
use Rattle.boxes.specs.declared.leaf.Leaf.{Leaf}
use Rattle.boxes.specs.declared.leaf.Span.{Span}
use Rattle.line_place.specs.declared.pieces.Piece.{Piece}
use Rattle.line_place.specs.declared.place.Setting.{Setting}
use Rattle.line_place.specs.Placing.{IsNearRun, IsRunIn}
use Rattle.line_place.specs.Sums.{IsInside, run_of}
use Rattle.line_place.specs.Runs.{IsPieceOf, is_free, cut_pieces, part_pieces, line_pieces}
use Rattle.line_place.proofs.CoverLemmas.{no_part}

-- after a space there is a character
after_space : (text : List ℕ) (end k : ℕ) → IsUtf8 text → k < length text → is_free text end k ≡ true → IsCharBoundary text (suc k)
after_space text end k utf8 within free =
    let e : slice_index text k ≡ 32 = eqb-true (slice_index text k) 32 (right (nat_lt k end) free) in
    let next : k + 1 ≡ suc k = omega arith in
    subst (IsCharBoundary text) next (IsCharBoundary-after_ascii text k utf8 within (omega (arith, e)))
  where
    right : (a : Bool) → (a && (slice_index text k == 32)) ≡ true → (slice_index text k == 32) ≡ true
    right true h = h
    right false h = absurd (cc)

cut_chars : (text : List ℕ) (end span start at n : ℕ) → IsUtf8 text → start ≤ at → at + n ≤ length text → IsCharBoundary text start → IsCharBoundary text (at + n) →
    All (IsPieceOf text) (cut_pieces (is_free text end) span start at n)
cut_chars text end span start at zero utf8 low within begins ends = by (start == at)
  where
    same : IsCharBoundary text at
    same = let e : at + 0 ≡ at = omega arith in subst (IsCharBoundary text) e ends

    by : (b : Bool) → All (IsPieceOf text) (cond b [] (record { span = span; from = start; to = at } ∷ []))
    by true = All-nil (IsPieceOf text)
    by false = All-cons (IsPieceOf text) (record { span = span; from = start; to = at }) [] (record { order = low; begins = begins; ends = same }) (All-nil (IsPieceOf text))
cut_chars text end span start at (suc n) utf8 low within begins ends =
    by (is_free text end at) refl
    (λ here. cut_chars text end span (suc at) (suc at) n utf8 (omega arith) (omega arith) here last)
    (cut_chars text end span start (suc at) n utf8 (omega arith) (omega arith) begins last)
  where
    last : IsCharBoundary text (suc at + n)
    last = let e : at + suc n ≡ suc at + n = omega arith in subst (IsCharBoundary text) e ends

    by : (b : Bool) → is_free text end at ≡ b → (IsCharBoundary text (suc at) → All (IsPieceOf text) (cut_pieces (is_free text end) span (suc at) (suc at) n)) → All (IsPieceOf text) (cut_pieces (is_free text end) span start (suc at) n) →
        All (IsPieceOf text) (cond b (record { span = span; from = start; to = suc at } ∷ cut_pieces (is_free text end) span (suc at) (suc at) n) (cut_pieces (is_free text end) span start (suc at) n))
    by true e cut on =
        let here : IsCharBoundary text (suc at) = after_space text end at utf8 (omega arith) e in
        All-cons (IsPieceOf text) (record { span = span; from = start; to = suc at }) (cut_pieces (is_free text end) span (suc at) (suc at) n) (record { order = omega arith; begins = begins; ends = here }) (cut here)
    by false e cut on = on

least : (text : List ℕ) (a b : ℕ) → IsCharBoundary text a → IsCharBoundary text b → IsCharBoundary text (min a b)
least text a b x y = by (cases_lt a b)
  where
    by : (a < b) ⊎ (b ≤ a) → IsCharBoundary text (min a b)
    by (inl l) = let e : a ≡ min a b = omega arith in subst (IsCharBoundary text) e x
    by (inr l) = let e : b ≡ min a b = omega arith in subst (IsCharBoundary text) e y

greatest : (text : List ℕ) (a b : ℕ) → IsCharBoundary text a → IsCharBoundary text b → IsCharBoundary text (max a b)
greatest text a b x y = by (cases_lt a b)
  where
    by : (a < b) ⊎ (b ≤ a) → IsCharBoundary text (max a b)
    by (inl l) = let e : b ≡ max a b = omega arith in subst (IsCharBoundary text) e y
    by (inr l) = let e : a ≡ max a b = omega arith in subst (IsCharBoundary text) e x

part_chars : (text : List ℕ) (end from to i : ℕ) (s : Span) → IsUtf8 text → IsCharBoundary text from → IsCharBoundary text to → IsCharBoundary text s.from → IsCharBoundary text s.to →
    All (IsPieceOf text) (part_pieces (is_free text end) from to i s)
part_chars text end from to i s utf8 begins ends first last = by (cases_lt (min to s.to) (max from s.from))
  where
    by : (min to s.to < max from s.from) ⊎ (max from s.from ≤ min to s.to) → All (IsPieceOf text) (part_pieces (is_free text end) from to i s)
    by (inl down) = subst (All (IsPieceOf text)) (sym (no_part (is_free text end) from to i s (omega (arith, down)))) (All-nil (IsPieceOf text))
    by (inr up) =
        let e : min to s.to ≡ max from s.from + (min to s.to - max from s.from) = omega arith in
        let high = (least text to s.to ends last) in
        let within = high.0 in
        cut_chars text end i (max from s.from) (max from s.from) (min to s.to - max from s.from) utf8 (omega arith) (omega arith) (greatest text from s.from begins first) (subst (IsCharBoundary text) e high)

line_chars : (text : List ℕ) (end from to i k : ℕ) (spans : List Span) → IsUtf8 text → IsCharBoundary text from → IsCharBoundary text to → IsCharBoundary text k → AreSpans text k spans → All (IsPieceOf text) (line_pieces (is_free text end) from to i spans)
line_chars text end from to i k [] utf8 begins ends here are = All-nil (IsPieceOf text)
line_chars text end from to i k (s ∷ spans) utf8 begins ends here are =
    All-append (IsPieceOf text) (part_pieces (is_free text end) from to i s) (line_pieces (is_free text end) from to (suc i) spans)
    (part_chars text end from to i s utf8 begins ends (subst (IsCharBoundary text) (sym are.0) here) are.2)
    (line_chars text end from to (suc i) s.to spans utf8 begins ends are.2 are.3)

pub pieces_chars : (text : List ℕ) → IsUtf8 text → (end from to : ℕ) (spans : List Span) → AreSpans text 0 spans → IsCharBoundary text from → IsCharBoundary text to → All (IsPieceOf text) (line_pieces (is_free text end) from to 0 spans)
pieces_chars text utf8 end from to spans are begins ends = line_chars text end from to 0 0 spans utf8 begins ends (IsCharBoundary-start text utf8) are

-- so do the runs that are made of them
pub runs_in : (faces : List FontFace) (leaf : Leaf) (end from : ℕ) (s : Setting) (pieces : List Piece) → All (IsInside leaf.spans) pieces → All (IsPieceOf leaf.text) pieces → All IsNearRun (map (run_of faces leaf end from s) pieces) → All (IsRunIn leaf) (map (run_of faces leaf end from s) pieces)
runs_in faces leaf end from s [] inside chars near = All-nil (IsRunIn leaf)
runs_in faces leaf end from s (p ∷ pieces) inside chars near =
    let i : IsInside leaf.spans p = All-head (IsInside leaf.spans) p pieces inside in
    let h : IsPieceOf leaf.text p = All-head (IsPieceOf leaf.text) p pieces chars in
    All-cons (IsRunIn leaf) (run_of faces leaf end from s p) (map (run_of faces leaf end from s) pieces) (record { near = All-head IsNearRun (run_of faces leaf end from s p) (map (run_of faces leaf end from s) pieces) near; there = i.there; order = h.order; begins = h.begins; ends = h.ends })
    (runs_in faces leaf end from s pieces (All-tail (IsInside leaf.spans) p pieces inside) (All-tail (IsPieceOf leaf.text) p pieces chars) (All-tail IsNearRun (run_of faces leaf end from s p) (map (run_of faces leaf end from s) pieces) near))
