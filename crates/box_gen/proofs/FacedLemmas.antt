-- The faces of a flow's leaves and of their markers are there.
use Rattle.std.proofs.Common.{◌≡◌, ℕ, ◌+◌, ◌<◌, ◌==◌, Bool, true, false, cond, ltb, not, List, [], ◌∷◌, ◌++◌, Option, None, Some, length, refl, sym, ap, subst}
use Rattle.std.specs.List.{All}
use Rattle.std.proofs.lemmas.List.Elements.{All-nil, All-cons, All-head, All-tail}
use Rattle.std.proofs.lemmas.Option.{get_or_from_slice_get, slice_get_within}
use Rattle.bk_num.specs.declared.values.Pseudo.{Pseudo}
use Rattle.bk_num.specs.declared.values.Pseudo.TheVariants as pseudo
use Rattle.boxes.specs.declared.leaf.Leaf.{Leaf as LeafData}
use Rattle.boxes.specs.declared.leaf.Lead.{Lead}
use Rattle.boxes.specs.declared.leaf.Span.{Span}
use Rattle.boxes.specs.Tree.{innermost_of, takes_leaf, with_box, with_leaf}
use Rattle.dom.specs.Nodes.{IsTree}
use Rattle.dom.specs.Walk.{steps_of}
use Rattle.dom.specs.declared.walk.Step.{Step}
use Rattle.dom.specs.declared.walk.Step.TheVariants.{Enter, Leave}
use Rattle.inline_text.specs.declared.space.TextPart.{TextPart}
use Rattle.line_place.specs.Conditions.{HasFaces}
use Rattle.metrics.specs.Face.{FontFace}
use Rattle.style.specs.declared.style.Style.{Style}
use Rattle.style.specs.Nodes.{style_at}
use Rattle.style.specs.Styles.{initial_style}
use Rattle.box_gen.specs.Items.{InlineItem}
use Rattle.box_gen.specs.Items as item
use Rattle.box_gen.specs.declared.text_style.TextStyle.{TextStyle}
use Rattle.box_gen.specs.Faces.{AreFaced}
use Rattle.box_gen.specs.Flow.{Built, built_of, nothing, without, with_run, put_by, leads_of, first_items, last_items, generated_by, generated_items, represented_items, styled, text_item}
use Rattle.box_gen.specs.Gather.{Gathered, make, adds, begun, ended}
use Rattle.box_gen.specs.Leaves.{leaf_by, leaf_style_of}
use Rattle.box_gen.specs.Props.{anonymous_props}
use Rattle.box_gen.specs.Represented.{represented_text}
use Rattle.box_gen.specs.Runs.{marks_in, printed_in, spans_from, spans_of, styles_in, text_of}
use Rattle.box_gen.specs.TextStyles.{span_by, text_style_of}
use Rattle.box_gen.specs.Trees.{Source, Role, text, hidden, inline, block, note, role_of}
use Rattle.box_gen.specs.Walk.{Walk, after_step, after_steps, enter_by, enter_node, innermost, leave_by, leave_node, style_around, walk, walked}
use Rattle.box_gen.proofs.ByteLemmas.{leaves-shut}
use Rattle.box_gen.proofs.OwnerLemmas.{all-append, all-shut}
use Rattle.box_gen.proofs.SoundLemmas.{leads-all, pending-run}
use Rattle.box_gen.proofs.WalkLemmas.{walk-main}

abbrev pub IsStyleFaced : List FontFace → TextStyle → Type 0
IsStyleFaced faces t = t.face.0 < length faces

abbrev pub IsSpanFaced : List FontFace → Span → Type 0
IsSpanFaced faces s = s.face.0 < length faces

abbrev pub IsLeadFaced : List FontFace → Lead → Type 0
IsLeadFaced faces l = l.span.face.0 < length faces

abbrev pub IsLeafFaced : List FontFace → LeafData → Type 0
IsLeafFaced faces l = HasFaces faces l × All (IsLeadFaced faces) l.leads

abbrev pub AreTextsFaced : List FontFace → List InlineItem → Type 0
AreTextsFaced faces items = All (IsStyleFaced faces) (styles_in (marks_in items))

-- the face of each style is there
abbrev pub HasStyleFaces : List FontFace → Source → Type 0
HasStyleFaces faces src = (s : Style) → (src.face s).0 < length faces

-- what is gathered has faces that are there
pub record Faced (faces : List FontFace) (g : Gathered) : Type 0 where
  pub leaves : All (IsLeafFaced faces) g.built.tree.leaves
  pub leads : All (IsLeadFaced faces) g.built.pending
  pub texts : AreTextsFaced faces g.run

-- ---- texts

pub texts-append : (faces : List FontFace) (xs ys : List InlineItem) → AreTextsFaced faces xs → AreTextsFaced faces ys → AreTextsFaced faces (xs ++ ys)
texts-append faces xs ys a b = subst (All (IsStyleFaced faces)) (sym (styles-append xs ys)) (all-append (IsStyleFaced faces) (styles_in (marks_in xs)) (styles_in (marks_in ys)) a b)
  where
    styles-append : (xs ys : List InlineItem) → styles_in (marks_in (xs ++ ys)) ≡ styles_in (marks_in xs) ++ styles_in (marks_in ys)
    styles-append [] ys = refl
    styles-append (item.Text t ∷ xs) ys = ap (λ (l : List TextStyle). t.style ∷ l) (styles-append xs ys)
    styles-append (item.Start n ∷ xs) ys = styles-append xs ys

styled-faced : (faces : List FontFace) (src : Source) (s : Style) (p : TextPart) → HasStyleFaces faces src → AreTextsFaced faces (styled src s p ∷ [])
styled-faced faces src s p there = All-cons (IsStyleFaced faces) (text_style_of s p.space (src.face s)) [] (there s) (All-nil (IsStyleFaced faces))

pub generated-faced : (faces : List FontFace) (src : Source) (n : ℕ) (p : Pseudo) → HasStyleFaces faces src → AreTextsFaced faces (generated_items src n p)
generated-faced faces src n p there = by (style_at src.styles n p)
  where
    by : (o : Option Style) → AreTextsFaced faces (generated_by src n p o)
    by None = All-nil (IsStyleFaced faces)
    by (Some s) = styled-faced faces src s (record { text = src.generated n p; space = s.white_space }) there

pub first-faced : (faces : List FontFace) (src : Source) (s : Style) (n : ℕ) → HasStyleFaces faces src → AreTextsFaced faces (first_items src s n)
first-faced faces src s n there = texts-append faces (generated_items src n pseudo.Before) (represented_items src s (represented_text src.nodes n s.white_space)) (generated-faced faces src n pseudo.Before there) (by (represented_text src.nodes n s.white_space))
  where
    by : (o : Option TextPart) → AreTextsFaced faces (represented_items src s o)
    by None = All-nil (IsStyleFaced faces)
    by (Some p) = styled-faced faces src s p there

spans-faced : (faces : List FontFace) (at : ℕ) (ss : List TextStyle) (ts : List (List ℕ)) → All (IsStyleFaced faces) ss → All (IsSpanFaced faces) (spans_from at ss ts)
spans-faced faces at [] ts a = All-nil (IsSpanFaced faces)
spans-faced faces at (s ∷ ss) [] a = All-nil (IsSpanFaced faces)
spans-faced faces at (s ∷ ss) (t ∷ ts) a = by (ltb at (at + length t)) (All-head (IsStyleFaced faces) s ss a) (spans-faced faces (at + length t) ss ts (All-tail (IsStyleFaced faces) s ss a))
  where
    by : (b : Bool) → IsStyleFaced faces s → All (IsSpanFaced faces) (spans_from (at + length t) ss ts) → All (IsSpanFaced faces) (cond b (span_by s at (at + length t) ∷ []) [] ++ spans_from (at + length t) ss ts)
    by true g more = All-cons (IsSpanFaced faces) (span_by s at (at + length t)) (spans_from (at + length t) ss ts) g more
    by false g more = more

-- ---- leaves

leaf-faced : (faces : List FontFace) (src : Source) (s : Style) (items : List InlineItem) (leads : List Lead) → HasStyleFaces faces src → All (IsLeadFaced faces) leads → AreTextsFaced faces items → IsLeafFaced faces (leaf_by (text_of src.points items) (spans_of src.points items) (leaf_style_of s (src.face s)) leads)
unfolding leaf_by spans_of
leaf-faced faces src s items leads there l t = (record { strut = there s; spans = spans-faced faces 0 (styles_in (marks_in items)) (printed_in src.points items) t }, l)

run-leaves : (faces : List FontFace) (src : Source) (s : Style) (wrap : Bool) (b : Built) (items : List InlineItem) → HasStyleFaces faces src → All (IsLeafFaced faces) b.tree.leaves → All (IsLeadFaced faces) b.pending → AreTextsFaced faces items → All (IsLeafFaced faces) (with_run src s wrap b items).tree.leaves
run-leaves faces src s wrap b items there ls ds ts = by (length (text_of src.points items) == 0) wrap
  where
    leaf : LeafData
    leaf = leaf_by (text_of src.points items) (spans_of src.points items) (leaf_style_of s (src.face s)) b.pending

    more : All (IsLeafFaced faces) (b.tree.leaves ++ leaf ∷ [])
    more = all-append (IsLeafFaced faces) b.tree.leaves (leaf ∷ []) ls (All-cons (IsLeafFaced faces) leaf [] (leaf-faced faces src s items b.pending there ds ts) (All-nil (IsLeafFaced faces)))

    by : (e w : Bool) → All (IsLeafFaced faces) (put_by e w src.points (leaf_style_of s (src.face s)) (anonymous_props s) b items).tree.leaves
    by true w = ls
    by false true = subst (All (IsLeafFaced faces)) (sym (leaves-shut (with_leaf (with_box b.tree (anonymous_props s)) leaf))) more
    by false false = more

-- ---- steps

pub faced-adds : (faces : List FontFace) (g : Gathered) (items : List InlineItem) → AreTextsFaced faces items → Faced faces g → Faced faces (adds items g)
faced-adds faces g items t f = record { leaves = f.leaves; leads = f.leads; texts = texts-append faces g.run items f.texts t }

faced-begun : (faces : List FontFace) (src : Source) (b : Style) (n : ℕ) (u : Style) (g : Gathered) → HasStyleFaces faces src → Faced faces g → Faced faces (begun src b n u g)
faced-begun faces src b n u g there f = record {
  leaves = run-leaves faces src b true g.built g.run there f.leaves f.leads f.texts;
  leads = all-append (IsLeadFaced faces) before.pending (leads_of src n u (length before.tree.boxes)) (pending-run (IsLeadFaced faces) src b true g.built g.run f.leads) (leads-all (IsLeadFaced faces) src n u (length before.tree.boxes) (λ t. there u));
  texts = first-faced faces src u n there;
}
  where
    before : Built
    before = with_run src b true g.built g.run

pub faced-ended : (faces : List FontFace) (src : Source) (u : Style) (g : Gathered) → HasStyleFaces faces src → Faced faces g → Faced faces (ended src u g)
faced-ended faces src u g there f = record {
  leaves = subst (All (IsLeafFaced faces)) (sym (leaves-shut put.tree)) (run-leaves faces src u w g.built g.run there f.leaves f.leads f.texts);
  leads = by (innermost_of put.tree.events) (pending-run (IsLeadFaced faces) src u w g.built g.run f.leads);
  texts = All-nil (IsStyleFaced faces);
}
  where
    w : Bool
    w = not (takes_leaf g.built.tree.events)

    put : Built
    put = with_run src u w g.built g.run

    by : (o : Option ℕ) → All (IsLeadFaced faces) put.pending → All (IsLeadFaced faces) (without o put.pending)
    by None h = h
    by (Some b) h = all-shut (IsLeadFaced faces) b put.pending h

faced-step : (faces : List FontFace) (src : Source) (w : Walk) (s : Step) → HasStyleFaces faces src → Faced faces w.gathered → Faced faces (after_step src w s).gathered
faced-step faces src w (Enter n) there f = by w.unshown
  where
    enters : (r : Role) → Faced faces (enter_node src n.0 r w).gathered
    enters hidden = f
    enters (text t) = faced-adds faces w.gathered (text_item src (style_around src n.0) t ∷ []) (styled-faced faces src (style_around src n.0) (record { text = t; space = (style_around src n.0).white_space }) there) f
    enters (inline u) = faced-adds faces (adds (item.Start (record { 0 = n.0 }) ∷ []) w.gathered) (first_items src u n.0) (first-faced faces src u n.0 there) (faced-adds faces w.gathered (item.Start (record { 0 = n.0 }) ∷ []) (All-nil (IsStyleFaced faces)) f)
    enters (note u) = faced-adds faces (adds (item.Start (record { 0 = n.0 }) ∷ []) w.gathered) (generated_items src n.0 pseudo.Call) (generated-faced faces src n.0 pseudo.Call there) (faced-adds faces w.gathered (item.Start (record { 0 = n.0 }) ∷ []) (All-nil (IsStyleFaced faces)) f)
    enters (block u) = faced-begun faces src (innermost w.blocks) n.0 u w.gathered there f

    by : (o : Option ℕ) → Faced faces (enter_by src n.0 o w).gathered
    by None = enters (role_of src n.0)
    by (Some h) = f
faced-step faces src w (Leave n) there f = by w.unshown
  where
    last : Faced faces (adds (last_items src n.0) w.gathered)
    last = faced-adds faces w.gathered (last_items src n.0) (generated-faced faces src n.0 pseudo.After there) f

    leaves : (r : Role) → Faced faces (leave_node src n.0 r w).gathered
    leaves hidden = f
    leaves (text t) = f
    leaves (note u) = f
    leaves (inline u) = last
    leaves (block u) = faced-ended faces src u (adds (last_items src n.0) w.gathered) there last

    out : (b : Bool) → Faced faces (cond b (walk w.gathered w.blocks None) w).gathered
    out true = f
    out false = f

    by : (o : Option ℕ) → Faced faces (leave_by src n.0 o w).gathered
    by None = leaves (role_of src n.0)
    by (Some h) = out (h == n.0)

pub faced-steps : (faces : List FontFace) (src : Source) (w : Walk) (steps : List Step) → HasStyleFaces faces src → Faced faces w.gathered → Faced faces (after_steps src w steps).gathered
faced-steps faces src w [] there f = f
faced-steps faces src w (s ∷ steps) there f = faced-steps faces src (after_step src w s) steps there (faced-step faces src w s there f)

-- the faces of all leaves are there
pub all-faced : (faces : List FontFace) (src : Source) → HasStyleFaces faces src → IsTree src.nodes → AreFaced faces (built_of src).tree.leaves
all-faced faces src there t =
    let start : Walk = walk (make nothing []) [] None in
    let f : Faced faces (walked src).gathered = faced-steps faces src start (steps_of src.nodes) there (record { leaves = All-nil (IsLeafFaced faces); leads = All-nil (IsLeadFaced faces); texts = All-nil (IsStyleFaced faces) }) in
    let all : All (IsLeafFaced faces) (built_of src).tree.leaves = subst (λ (b : Built). All (IsLeafFaced faces) b.tree.leaves) (sym (walk-main src t)) (run-leaves faces src initial_style true (walked src).gathered.built (walked src).gathered.run there f.leaves f.leads f.texts) in
    λ l leaf is. subst (IsLeafFaced faces) (get_or_from_slice_get (built_of src).tree.leaves l leaf leaf is) (all l leaf (slice_get_within (built_of src).tree.leaves l leaf is))
