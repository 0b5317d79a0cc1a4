-- Which notes there are, and their sizes, added up.
use Rattle.std.proofs.Common.{◌≡◌, ◌∙◌, ℕ, ◌+◌, ◌<◌, ◌≤◌, List, [], ◌∷◌, length, map, refl, sym, ap, arith}
use Rattle.std.specs.List.{All, sum_by}
use Rattle.std.proofs.lemmas.List.Elements.{All-nil, All-cons, All-head, All-tail}
use Rattle.std.proofs.lemmas.List.Sums.{sum_by-cons}
use Rattle.boxes.specs.declared.flow.Note.{Note}
use Rattle.boxes.specs.declared.place.Position.{Position}
use Rattle.boxes.specs.Tree.{Tree}
use Rattle.box_gen.specs.declared.put.Site.{Site}
use Rattle.box_gen.specs.Flow.{Built, bodies_of, built_of, calls_of, flow_of, notes_by}
use Rattle.box_gen.specs.Notes.{AreNotesOf, NoteElement, note_built, note_elements, note_tree}
use Rattle.box_gen.specs.Sites.{built_in}
use Rattle.box_gen.specs.Trees.{Source}
use Rattle.box_gen.proofs.ElementLemmas.{bodies-are, calls-bodies, places-are}

abbrev one_note : Position → Built → Note
one_note c b = record { call = c; body = b.tree }

-- a sum over notes is one over their bodies
pub notes-sum : (f : Tree → ℕ) (calls : List Position) (bodies : List Built) → length calls ≡ length bodies → sum_by (λ (n : Note). f n.body) (notes_by calls bodies) ≡ sum_by (λ (b : Built). f b.tree) bodies
notes-sum f [] [] e = refl
notes-sum f [] (b ∷ bodies) e = absurd (omega (arith, e))
notes-sum f (c ∷ calls) [] e = absurd (omega (arith, e))
notes-sum f (c ∷ calls) (b ∷ bodies) e =
    let l = sum_by-cons (λ (n : Note). f n.body) (one_note c b) (notes_by calls bodies) in
    let r = sum_by-cons (λ (b : Built). f b.tree) b bodies in
    let more = notes-sum f calls bodies (omega (arith, e)) in
    l ∙ ap (λ (k : ℕ). f b.tree + k) more ∙ sym r

-- a sum over sites is one over what is built in them
pub sites-sum : (f : Tree → ℕ) (sites : List Site) → sum_by (λ (s : Site). f s.tree) sites ≡ sum_by (λ (b : Built). f b.tree) (map built_in sites)
sites-sum f [] = refl
sites-sum f (s ∷ sites) =
    let l = sum_by-cons (λ (s : Site). f s.tree) s sites in
    let r = sum_by-cons (λ (b : Built). f b.tree) (built_in s) (map built_in sites) in
    l ∙ ap (λ (k : ℕ). f s.tree + k) (sites-sum f sites) ∙ sym r

pub notes-all : (P : Tree → Type 0) (calls : List Position) (bodies : List Built) → All (λ (b : Built). P b.tree) bodies → All (λ (n : Note). P n.body) (notes_by calls bodies)
notes-all P [] bodies a = All-nil (λ (n : Note). P n.body)
notes-all P (c ∷ calls) [] a = All-nil (λ (n : Note). P n.body)
notes-all P (c ∷ calls) (b ∷ bodies) a = All-cons (λ (n : Note). P n.body) (one_note c b) (notes_by calls bodies) (All-head (λ (b : Built). P b.tree) b bodies a) (notes-all P calls bodies (All-tail (λ (b : Built). P b.tree) b bodies a))

pub sites-all : (P : Tree → Type 0) (sites : List Site) → All (λ (s : Site). P s.tree) sites → All (λ (b : Built). P b.tree) (map built_in sites)
sites-all P [] a = All-nil (λ (b : Built). P b.tree)
sites-all P (s ∷ sites) a = All-cons (λ (b : Built). P b.tree) (built_in s) (map built_in sites) (All-head (λ (s : Site). P s.tree) s sites a) (sites-all P sites (All-tail (λ (s : Site). P s.tree) s sites a))

-- as many notes as have an event
pub few-notes : (bodies : List Built) → All (λ (b : Built). 0 < length b.tree.events) bodies → length bodies ≤ sum_by (λ (b : Built). length b.tree.events) bodies
few-notes [] a = omega arith
few-notes (b ∷ bodies) a =
    let r = sum_by-cons (λ (b : Built). length b.tree.events) b bodies in
    let some = All-head (λ (b : Built). 0 < length b.tree.events) b bodies a in
    let more = few-notes bodies (All-tail (λ (b : Built). 0 < length b.tree.events) b bodies a) in
    omega (arith, r, some, more)

pub notes-few : (calls : List Position) (bodies : List Built) → length (notes_by calls bodies) ≤ length bodies
notes-few [] bodies = omega arith
notes-few (c ∷ calls) [] = omega arith
notes-few (c ∷ calls) (b ∷ bodies) = let r = notes-few calls bodies in omega (arith, r)

-- ---- which notes there are

-- the notes of calls that have a body each are called there
notes-calls : (calls : List Position) (bodies : List Built) → length calls ≡ length bodies → map (λ (n : Note). n.call) (notes_by calls bodies) ≡ calls
notes-calls [] [] e = refl
notes-calls [] (b ∷ bodies) e = absurd (omega (arith, e))
notes-calls (c ∷ calls) [] e = absurd (omega (arith, e))
notes-calls (c ∷ calls) (b ∷ bodies) e = ap (λ (l : List Position). c ∷ l) (notes-calls calls bodies (omega (arith, e)))

-- and have those bodies
notes-trees : (calls : List Position) (bodies : List Built) → length calls ≡ length bodies → map (λ (n : Note). n.body) (notes_by calls bodies) ≡ map (λ (b : Built). b.tree) bodies
notes-trees [] [] e = refl
notes-trees [] (b ∷ bodies) e = absurd (omega (arith, e))
notes-trees (c ∷ calls) [] e = absurd (omega (arith, e))
notes-trees (c ∷ calls) (b ∷ bodies) e = ap (λ (l : List Tree). b.tree ∷ l) (notes-trees calls bodies (omega (arith, e)))

trees-of : (src : Source) (es : List NoteElement) → map (λ (b : Built). b.tree) (map (note_built src) es) ≡ map (note_tree src) es
trees-of src [] = refl
trees-of src (e ∷ es) = ap (λ (l : List Tree). note_tree src e ∷ l) (trees-of src es)

pub notes-are : (src : Source) → AreNotesOf src (flow_of src).notes
notes-are src = record {
  elements = places-are src;
  calls = notes-calls (calls_of src (built_of src).starts) (bodies_of src) (calls-bodies src);
  bodies = notes-trees (calls_of src (built_of src).starts) (bodies_of src) (calls-bodies src) ∙ ap (λ (l : List Built). map (λ (b : Built). b.tree) l) (bodies-are src) ∙ trees-of src (note_elements src);
}
