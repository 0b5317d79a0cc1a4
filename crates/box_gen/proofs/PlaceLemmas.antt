-- Places of elements and notes, one after the other.
use Rattle.std.proofs.Common.{◌≡◌, ◌∙◌, ◌<◌, ◌+◌, ℕ, suc, Bool, true, false, cond, not, List, [], ◌∷◌, ◌++◌, append_assoc, drop, filter, get_or, length, map, refl, ap, arith}
use Rattle.bk_num.proofs.ListLemmas.{drop-more}
use Rattle.boxes.specs.declared.flow.Start.{Start}
use Rattle.boxes.specs.declared.place.Position.{Position}
use Rattle.box_gen.specs.Flow.{Built, calls_of, note_starts, notes_by, own_starts, starts_in_note}
use Rattle.box_gen.specs.Trees.{Source, is_note_element}

pub calls-cons : (src : Source) (a : Start) (rest : List Start) → calls_of src (a ∷ rest) ≡ calls_of src (a ∷ []) ++ calls_of src rest
calls-cons src a rest = by (is_note_element src a.node.0)
  where
    by : (b : Bool) → map (λ (x : Start). x.at) (cond b (a ∷ filter (λ x. is_note_element src x.node.0) rest) (filter (λ x. is_note_element src x.node.0) rest)) ≡ map (λ (x : Start). x.at) (cond b (a ∷ []) []) ++ calls_of src rest
    by true = refl
    by false = refl

pub own-cons : (src : Source) (a : Start) (rest : List Start) → own_starts src (a ∷ rest) ≡ own_starts src (a ∷ []) ++ own_starts src rest
own-cons src a rest = by (not (is_note_element src a.node.0))
  where
    by : (b : Bool) → cond b (a ∷ own_starts src rest) (own_starts src rest) ≡ cond b (a ∷ []) [] ++ own_starts src rest
    by true = refl
    by false = refl

-- a list that is longer by what its first element adds
pub goes-on : {A : Type 0} (old now one more all : List A) → now ≡ old ++ one → old ++ (one ++ more) ≡ all → now ++ more ≡ all
goes-on old now one more all e g = ap (λ l. l ++ more) e ∙ append_assoc old one more ∙ g

-- the notes from one on
pub notes-step : (calls : List Position) (k : ℕ) (c : Position) (b : Built) (bodies : List Built) → k < length calls → c ≡ get_or calls k c → notes_by (drop k calls) (b ∷ bodies) ≡ notes_by (c ∷ []) (b ∷ []) ++ notes_by (drop (k + 1) calls) bodies
notes-step calls k c b bodies l e = ap (λ (x : List Position). notes_by x (b ∷ bodies)) (drop-more calls k c l e)

pub starts-step : (k : ℕ) (b : Built) (bodies : List Built) → note_starts k (b ∷ bodies) ≡ starts_in_note k b.starts ++ note_starts (k + 1) bodies
starts-step k b bodies = let e : suc k ≡ k + 1 = omega arith in ap (λ (n : ℕ). starts_in_note k b.starts ++ note_starts n bodies) e
