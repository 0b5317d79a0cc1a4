-- What holds of a whole flow, from what is built of its trees.
use Rattle.std.proofs.Common.{◌≡◌, ◌∙◌, ◌<◌, ◌≤◌, ◌+◌, ◌++◌, List, None, length, map, ap, ap₂, sym, subst, arith}
use Rattle.std.specs.List.{All, sum_by}
use Rattle.std.proofs.lemmas.List.{length-map}
use Rattle.std.proofs.lemmas.List.Elements.{All-weaker}
use Rattle.bk_num.specs.Limits.{most_entries, most_events, most_text_bytes}
use Rattle.boxes.specs.declared.flow.Assign.{Assign}
use Rattle.boxes.specs.declared.flow.Flow.{Flow}
use Rattle.boxes.specs.declared.flow.Note.{Note}
use Rattle.boxes.specs.declared.flow.Reset.{Reset}
use Rattle.boxes.specs.declared.flow.Start.{Start}
use Rattle.boxes.specs.declared.place.Position.{Position}
use Rattle.boxes.specs.Clones.{AreSliced}
use Rattle.boxes.specs.Tree.{IsTree, IsWhole, Tree, depth_of}
use Rattle.dom.specs.Nodes.{IsTree as IsDom}
use Rattle.metrics.specs.Face.{FontFace}
use Rattle.box_gen.specs.declared.put.Site.{Site}
use Rattle.box_gen.specs.Bodies.{Noted, Walks, all_walked, noted, walks}
use Rattle.box_gen.specs.Faces.{AreFaced}
use Rattle.box_gen.specs.Flow.{Built, bodies_of, built_of, calls_of, flow_of, note_starts, notes_by, own_starts, resets_of, strings_of}
use Rattle.box_gen.specs.Notes.{IsGoodBody, bytes_in, events_in}
use Rattle.box_gen.specs.Sites.{built_in, leaf_bytes}
use Rattle.box_gen.specs.Sources.{AreInRange}
use Rattle.box_gen.specs.Trees.{Source}
use Rattle.box_gen.specs.Walk.{Walk, walked}
use Rattle.box_gen.specs.Walkers.{AreShared, all_bytes, bodies_bytes}
use Rattle.box_gen.proofs.BodyLemmas.{walk-builds}
use Rattle.box_gen.proofs.ElementLemmas.{calls-bodies}
use Rattle.box_gen.proofs.FacedLemmas.{HasStyleFaces}
use Rattle.box_gen.proofs.NoteFacts.{IsGoodNote, good-notes}
use Rattle.box_gen.proofs.NoteSums.{few-notes, notes-all, notes-few, notes-sum, sites-all, sites-sum}
use Rattle.box_gen.proofs.SoundLemmas.{built-is}

-- the walks over a document end outside notes
pub all-is : (src : Source) → IsDom src.nodes → all_walked src ≡ walks (walked src) (noted None (bodies_of src))
all-is src t = ap (λ (w : Walk). walks w (all_walked src).notes) (walk-builds src t).same ∙ ap (λ (n : Noted). walks (walked src) n) (walk-builds src t).notes

pub all-bytes : (src : Source) → AreInRange src.styles → IsDom src.nodes → all_bytes (all_walked src) ≡ leaf_bytes (built_of src).tree.leaves + bodies_bytes (bodies_of src)
all-bytes src all t =
    let e : all_bytes (all_walked src) ≡ all_bytes (walks (walked src) (noted None (bodies_of src))) = ap (λ (v : Walks). all_bytes v) (all-is src t) in
    let b = ap (λ (b : Built). leaf_bytes b.tree.leaves) (built-is src all t) in
    omega (arith, e, b)

notes-bytes : (src : Source) → sum_by (λ (n : Note). leaf_bytes n.body.leaves) (flow_of src).notes ≡ bodies_bytes (bodies_of src)
notes-bytes src = notes-sum (λ t. leaf_bytes t.leaves) (calls_of src (built_of src).starts) (bodies_of src) (calls-bodies src)

notes-events : (src : Source) → sum_by (λ (n : Note). length n.body.events) (flow_of src).notes ≡ sum_by (λ (b : Built). length b.tree.events) (bodies_of src)
notes-events src = notes-sum (λ t. length t.events) (calls_of src (built_of src).starts) (bodies_of src) (calls-bodies src)

pub flow-cause : (src : Source) → most_text_bytes < leaf_bytes (built_of src).tree.leaves + bodies_bytes (bodies_of src) → most_text_bytes < bytes_in (flow_of src)
flow-cause src l = let n = notes-bytes src in omega (arith, n, l)

pub flow-bytes : (src : Source) (site : Site) (sites : List Site) → built_of src ≡ built_in site → map built_in sites ≡ bodies_of src → AreShared site sites → bytes_in (flow_of src) ≤ most_text_bytes
flow-bytes src site sites b m s =
    let n = notes-bytes src in
    let main = ap (λ (b : Built). leaf_bytes b.tree.leaves) b in
    let count = s.within.bytes.count in
    let few = s.within.bytes.few in
    let sum = s.bytes in
    let a = sites-sum (λ t. leaf_bytes t.leaves) sites in
    let c = ap (λ (l : List Built). bodies_bytes l) m in
    omega (arith, n, main, count, few, sum, a, c)

pub flow-events : (src : Source) (site : Site) (sites : List Site) → built_of src ≡ built_in site → map built_in sites ≡ bodies_of src → AreShared site sites → events_in (flow_of src) ≤ most_events
flow-events src site sites b m s =
    let n = notes-events src in
    let main = ap (λ (b : Built). length b.tree.events) b in
    let few = s.within.events in
    let sum = s.events in
    let a = sites-sum (λ t. length t.events) sites in
    let c = ap (λ (l : List Built). sum_by (λ (b : Built). length b.tree.events) l) m in
    omega (arith, n, main, few, sum, a, c)

bodies-few : (faces : List FontFace) (src : Source) → HasStyleFaces faces src → IsDom src.nodes → length (bodies_of src) ≤ sum_by (λ (b : Built). length b.tree.events) (bodies_of src)
bodies-few faces src there t = few-notes (bodies_of src) (All-weaker (IsGoodNote faces) (λ (b : Built). 0 < length b.tree.events) (λ b g. g.whole.some) (bodies_of src) (good-notes faces src there t))

pub sites-few : (faces : List FontFace) (src : Source) (site : Site) (sites : List Site) → HasStyleFaces faces src → IsDom src.nodes → map built_in sites ≡ bodies_of src → AreShared site sites → length sites ≤ most_events
sites-few faces src site sites there t m s =
    let few = bodies-few faces src there t in
    let a = sites-sum (λ t. length t.events) sites in
    let c = ap (λ (l : List Built). sum_by (λ (b : Built). length b.tree.events) l) m in
    let d = ap (λ (l : List Built). length l) m in
    let e = length-map sites built_in in
    let sum = s.events in
    omega (arith, few, a, c, d, e, sum)

pub flow-count : (faces : List FontFace) (src : Source) (site : Site) (sites : List Site) → HasStyleFaces faces src → IsDom src.nodes → map built_in sites ≡ bodies_of src → AreShared site sites → length (flow_of src).notes ≤ most_entries
flow-count faces src site sites there t m s =
    let few = sites-few faces src site sites there t m s in
    let d = ap (λ (l : List Built). length l) m in
    let e = length-map sites built_in in
    let n = notes-few (calls_of src (built_of src).starts) (bodies_of src) in
    omega (arith, few, d, e, n)

record IsGoodTree (faces : List FontFace) (t : Tree) : Type 0 where
  pub tree : IsTree t
  pub whole : IsWhole t.events
  pub depth : depth_of t.events ≤ 2048
  pub faced : AreFaced faces t.leaves
  pub sliced : AreSliced t.boxes

pub flow-bodies : (faces : List FontFace) (src : Source) (site : Site) (sites : List Site) → HasStyleFaces faces src → IsDom src.nodes → map built_in sites ≡ bodies_of src → AreShared site sites → All (IsGoodBody faces) (flow_of src).notes
flow-bodies faces src site sites there t m s = All-weaker (λ (n : Note). IsGoodTree faces n.body) (IsGoodBody faces) (λ n g. record { tree = g.tree; whole = g.whole; depth = g.depth; faced = g.faced; sliced = g.sliced }) (flow_of src).notes
    (notes-all (IsGoodTree faces) (calls_of src (built_of src).starts) (bodies_of src) all)
  where
    trees : All (λ (b : Built). IsTree b.tree) (bodies_of src)
    trees = subst (λ (l : List Built). All (λ (b : Built). IsTree b.tree) l) m (sites-all IsTree sites s.trees)

    good : All (IsGoodNote faces) (bodies_of src)
    good = good-notes faces src there t

    all : All (λ (b : Built). IsGoodTree faces b.tree) (bodies_of src)
    all i d l = record { tree = trees i d l; whole = (good i d l).whole; depth = (good i d l).depth; faced = (good i d l).faced; sliced = (good i d l).sliced }

-- ---- the flow of what is built

-- each body has its call
pub calls-each : (src : Source) (site : Site) (sites : List Site) (calls : List Position) → built_of src ≡ built_in site → map built_in sites ≡ bodies_of src → calls ≡ calls_of src site.starts.items → length sites ≡ length calls
calls-each src site sites calls b m e =
    let n = length-map sites built_in in
    let d = ap (λ (l : List Built). length l) m in
    let k = calls-bodies src in
    let s = ap (λ (b : Built). length (calls_of src b.starts)) b in
    let l = ap (λ (l : List Position). length l) e in
    omega (arith, n, d, k, s, l)

flow_in : Source → Built → List Built → Flow
flow_in src b bodies = record {
  main = b.tree;
  notes = notes_by (calls_of src b.starts) bodies;
  starts = own_starts src b.starts ++ note_starts 0 bodies;
  strings = strings_of src (own_starts src b.starts);
  resets = resets_of src (own_starts src b.starts);
}

-- the flow from its parts
pub finished : (src : Source) (site : Site) (sites : List Site) (notes : List Note) (starts : List Start) (strings : List Assign) (resets : List Reset) → built_of src ≡ built_in site → map built_in sites ≡ bodies_of src →
    notes ≡ notes_by (calls_of src site.starts.items) (map built_in sites) → starts ≡ own_starts src site.starts.items ++ note_starts 0 (map built_in sites) →
    strings ≡ strings_of src (own_starts src site.starts.items) → resets ≡ resets_of src (own_starts src site.starts.items) →
    ◌≡◌ {A = Flow} (record { main = site.tree; notes = notes; starts = starts; strings = strings; resets = resets }) (flow_of src)
unfolding flow_in
finished src site sites notes starts strings resets b m n s t r = rw (n, s, t, r) (ap₂ (flow_in src) (sym b) m)
