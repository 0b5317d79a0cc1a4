-- The bodies of notes are whole, their depth is small, their faces are there, and no edge stands again in them.
use Rattle.std.proofs.Common.{◌≡◌, ◌∙◌, ℕ, zero, suc, ◌-◌, ◌≤◌, not, None, List, [], ◌∷◌, length, refl, sym, ap, subst, arith}
use Rattle.std.specs.List.{All}
use Rattle.std.proofs.lemmas.List.Elements.{All-nil, All-cons}
use Rattle.std.proofs.lemmas.Option.{get_or_from_slice_get, slice_get_within}
use Rattle.bk_num.specs.declared.values.Pseudo.TheVariants as pseudo
use Rattle.boxes.specs.declared.place.Event.TheVariants.{Closes}
use Rattle.boxes.specs.Clones.{AreSliced}
use Rattle.boxes.specs.Tree.{IsWhole, depth_of, takes_leaf}
use Rattle.dom.specs.Nodes.{IsTree, parents_of}
use Rattle.dom.specs.Walk.{children_of}
use Rattle.metrics.specs.Face.{FontFace}
use Rattle.style.specs.declared.style.Style.{Style}
use Rattle.box_gen.specs.Faces.{AreFaced}
use Rattle.box_gen.specs.Flow.{Built, bodies_in, bodies_of, body_in, first_items, generated_items, last_items, node_bodies, shut, with_run}
use Rattle.box_gen.specs.Gather.{Gathered}
use Rattle.box_gen.specs.Trees.{Source, Forest, none, side_by_side, below, in_note, Role, text, hidden, inline, block, note, role_of}
use Rattle.box_gen.specs.Walk.{Walk, walk}
use Rattle.box_gen.proofs.BodyLemmas.{body-is, note_full, note_start}
use Rattle.box_gen.proofs.DepthLemmas.{Low, depth-gathered, depth-run, depth-shut, low-below}
use Rattle.box_gen.proofs.FacedLemmas.{Faced, HasStyleFaces, IsLeadFaced, IsLeafFaced, faced-adds, faced-ended, faced-steps, first-faced, generated-faced, texts-append}
use Rattle.box_gen.proofs.FlowLemmas.{opens-gathered}
use Rattle.box_gen.proofs.OwnerLemmas.{all-append}
use Rattle.box_gen.proofs.SlicedLemmas.{body-sliced}
use Rattle.box_gen.proofs.TreeLemmas.{opens, opens-run, opens-shut, shut-ends}
use Rattle.box_gen.proofs.WalkLemmas.{Placed, own-note, placed-kids, steps_in, walks-in}
use Rattle.box_gen.proofs.Gathering.{gathered}

-- what holds of the body of a note, but that it is a tree
pub record IsGoodNote (faces : List FontFace) (b : Built) : Type 0 where
  pub whole : IsWhole b.tree.events
  pub depth : depth_of b.tree.events ≤ 2048
  pub faced : AreFaced faces b.tree.leaves
  pub sliced : AreSliced b.tree.boxes

-- ---- one note

-- what is built when the content of a note is put
put_in : Source → ℕ → Style → Forest → Built
put_in src n u kids = with_run src u (not (takes_leaf (note_full src n u kids).built.tree.events)) (note_full src n u kids).built (note_full src n u kids).run

alone : (src : Source) (n : ℕ) (u : Style) (kids : Forest) → opens (put_in src n u kids).tree ≡ 0 ∷ []
unfolding put_in
alone src n u kids = opens-run src u (not (takes_leaf (note_full src n u kids).built.tree.events)) (note_full src n u kids).built (note_full src n u kids).run ∙ opens-gathered src u u kids (note_start src n u)

body-whole : (src : Source) (n : ℕ) (u : Style) (kids : Forest) → IsWhole (body_in src u n kids).tree.events
unfolding put_in
body-whole src n u kids = subst (λ (b : Built). IsWhole b.tree.events) (sym (body-is src n u kids)) (record {
  some = (let last = shut-ends (put_in src n u kids).tree 0 [] (alone src n u kids) in let w = slice_get_within (shut (put_in src n u kids).tree).events (length (shut (put_in src n u kids).tree).events - 1) (Closes last.0) last.1 in omega (arith, w));
  closed = opens-shut (put_in src n u kids).tree 0 [] (alone src n u kids);
})

body-depth : (src : Source) (n : ℕ) (u : Style) (kids : Forest) → Low src kids 200 → depth_of (body_in src u n kids).tree.events ≤ 2048
unfolding put_in
body-depth src n u kids low =
    let g : Gathered = note_full src n u kids in
    let d : depth_of g.built.tree.events ≤ 2048 = depth-gathered src u u kids 200 (note_start src n u) 2048 low (omega arith) (omega arith) in
    let o = ap (λ (l : List ℕ). length l) (opens-gathered src u u kids (note_start src n u)) in
    subst (λ (b : Built). depth_of b.tree.events ≤ 2048) (sym (body-is src n u kids))
    (depth-shut (put_in src n u kids).tree 2048 (depth-run src u (not (takes_leaf g.built.tree.events)) g.built g.run 2048 d (omega (arith, o))))

body-faced : (faces : List FontFace) (src : Source) (n : ℕ) (u : Style) (kids : Forest) → HasStyleFaces faces src → Placed src u kids → AreFaced faces (body_in src u n kids).tree.leaves
body-faced faces src n u kids there p =
    let start : Walk = walk (note_start src n u) (u ∷ []) None in
    let first : Faced faces (note_start src n u) = record { leaves = All-nil (IsLeafFaced faces); leads = All-nil (IsLeadFaced faces); texts = texts-append faces (generated_items src n pseudo.Marker) (first_items src u n) (generated-faced faces src n pseudo.Marker there) (first-faced faces src u n there) } in
    let inside : Faced faces (gathered src u u kids (note_start src n u)) = subst (λ (w : Walk). Faced faces w.gathered) (walks-in src u kids (note_start src n u) (u ∷ []) p) (faced-steps faces src start (steps_in kids) there first) in
    let full : Faced faces (note_full src n u kids) = faced-adds faces (gathered src u u kids (note_start src n u)) (last_items src n) (generated-faced faces src n pseudo.After there) inside in
    let all : All (IsLeafFaced faces) (body_in src u n kids).tree.leaves = subst (λ (b : Built). All (IsLeafFaced faces) b.tree.leaves) (sym (body-is src n u kids)) (faced-ended faces src u (note_full src n u kids) there full).leaves in
    λ l leaf is. subst (IsLeafFaced faces) (get_or_from_slice_get (body_in src u n kids).tree.leaves l leaf leaf is) (all l leaf (slice_get_within (body_in src u n kids).tree.leaves l leaf is))

-- ---- all notes

-- what holds of each note holds of all
each-note : (src : Source) (P : Built → Type 0) → ((d n : ℕ) (u : Style) → role_of src n ≡ note u → P (body_in (in_note src) u n (below (parents_of src.nodes) d n))) → (d : ℕ) (ns : List ℕ) → All P (bodies_in src (side_by_side (below (parents_of src.nodes) d) ns))
unfolding bodies_in
each-note src P each d [] = All-nil P
each-note src P each zero (n ∷ ns) = all-append P (node_bodies src n (role_of src n) none []) (bodies_in src (side_by_side (below (parents_of src.nodes) zero) ns)) (by (role_of src n) refl) (each-note src P each zero ns)
  where
    by : (r : Role) → role_of src n ≡ r → All P (node_bodies src n r none [])
    by hidden e = All-nil P
    by (text t) e = All-nil P
    by (inline u) e = All-nil P
    by (block u) e = All-nil P
    by (note u) e = All-cons P (body_in (in_note src) u n none) [] (each zero n u e) (All-nil P)
each-note src P each (suc d) (n ∷ ns) = all-append P (node_bodies src n (role_of src n) kids (bodies_in src kids)) (bodies_in src (side_by_side (below (parents_of src.nodes) (suc d)) ns)) (by (role_of src n) refl (each-note src P each d (children_of (parents_of src.nodes) n))) (each-note src P each (suc d) ns)
  where
    kids : Forest
    kids = below (parents_of src.nodes) (suc d) n

    by : (r : Role) → role_of src n ≡ r → All P (bodies_in src kids) → All P (node_bodies src n r kids (bodies_in src kids))
    by hidden e k = All-nil P
    by (text t) e k = All-nil P
    by (inline u) e k = k
    by (block u) e k = k
    by (note u) e k = All-cons P (body_in (in_note src) u n kids) [] (each (suc d) n u e) (All-nil P)

pub good-notes : (faces : List FontFace) (src : Source) → HasStyleFaces faces src → IsTree src.nodes → All (IsGoodNote faces) (bodies_of src)
good-notes faces src there t = each-note src (IsGoodNote faces) one (length src.nodes - 1) (0 ∷ [])
  where
    one : (d n : ℕ) (u : Style) → role_of src n ≡ note u → IsGoodNote faces (body_in (in_note src) u n (below (parents_of src.nodes) d n))
    one d n u e = record {
      whole = body-whole (in_note src) n u (below (parents_of src.nodes) d n);
      depth = body-depth (in_note src) n u (below (parents_of src.nodes) d n) (low-below (in_note src) t d n 200 (omega arith));
      faced = body-faced faces (in_note src) n u (below (parents_of src.nodes) d n) there (placed-kids (in_note src) t d n u (own-note src n u e));
      sliced = body-sliced (in_note src) n u (below (parents_of src.nodes) d n) refl;
    }
