-- What is put into the tree: the leaf of a run, and what closes.
use Rattle.std.proofs.Common.{◌≡◌, ◌∙◌, ℕ, suc, Bool, true, false, cond, List, [], ◌∷◌, ◌++◌, ◌==◌, length, refl, sym, ap, subst, arith, Option}
use Rattle.std.specs.Option.{ForSome}
use Rattle.std.specs.List.{All, Contains}
use Rattle.std.proofs.lemmas.List.Elements.{All-weaker}
use Rattle.boxes.specs.declared.leaf.Leaf.{Leaf as LeafData}
use Rattle.boxes.specs.declared.leaf.Lead.{Lead}
use Rattle.boxes.specs.declared.props.BoxProps.{BoxProps}
use Rattle.boxes.specs.Tree.{Tree, HaveOwners, with_box, with_leaf, with_close, innermost_of, first_of}
use Rattle.soft_hyphens.specs.Words.{Points}
use Rattle.box_gen.specs.Items.{InlineItem}
use Rattle.box_gen.specs.declared.leaf.LeafStyle.{LeafStyle}
use Rattle.boxes.specs.declared.leaf.Span.{Span}
use Rattle.boxes.specs.declared.flow.Start.{Start}
use Rattle.box_gen.specs.declared.inline.InlineStart.{InlineStart}
use Rattle.box_gen.specs.Leaves.{leaf_by}
use Rattle.box_gen.specs.Flow.{Built, built, put, put_by, shut, starts_by}
use Rattle.box_gen.specs.Runs.{spans_of, starts_of, text_of}
use Rattle.box_gen.specs.Sites.{with_any, with_text}
use Rattle.box_gen.proofs.TreeLemmas.{opens, opens-box, opens-leaf, shut-is}

-- a run is put by its text, its spans and its starts
pub put-any : (points : Option Points) (wrap : Bool) (look : LeafStyle) (anonymous : BoxProps) (b : Built) (items : List InlineItem) → with_any wrap look anonymous b (text_of points items) (spans_of points items) (starts_of points items) ≡ put points look anonymous wrap b items
put-any points wrap look anonymous b items = by (length (text_of points items) == 0) wrap
  where
    by : (e w : Bool) → cond e (put_by true w points look anonymous b items) (with_text w look anonymous b (text_of points items) (spans_of points items) (starts_of points items)) ≡ put_by e w points look anonymous b items
    by true w = refl
    by false true = refl
    by false false = refl

pub filled : (t : Tree) (p : BoxProps) (l : LeafData) → opens (with_leaf (with_box t p) l) ≡ length t.boxes ∷ opens t
filled t p l = opens-leaf (with_box t p) l ∙ opens-box t p

-- what is closed is the innermost box
pub close-is : (t u : Tree) (b : ℕ) (bs : List ℕ) → opens t ≡ b ∷ bs → ForSome (innermost_of t.events) (λ b. u ≡ with_close t b) → u ≡ shut t
close-is t u b bs e h = h b (ap first_of e) ∙ sym (shut-is t b bs e)

-- a new box is around what comes
pub owned_in_box : (t : Tree) (p : BoxProps) (ls : List Lead) → HaveOwners t.events ls → HaveOwners (with_box t p).events ls
owned_in_box t p ls h = subst (λ os. All (λ (l : Lead). Contains os l.owner) ls) (sym (opens-box t p)) (All-weaker (λ (l : Lead). Contains (opens t) l.owner) (λ (l : Lead). Contains (length t.boxes ∷ opens t) l.owner) (λ l c. more l.owner c) ls h)
  where
    more : (x : ℕ) → Contains (opens t) x → Contains (length t.boxes ∷ opens t) x
    more x (k, l, e) = (suc k, omega arith, e)

pub leads-of : (text : List ℕ) (spans : List Span) (look : LeafStyle) (leads : List Lead) → (leaf_by text spans look leads).leads ≡ leads
unfolding leaf_by
leads-of text spans look leads = refl

-- a text is put by its leaf and its starts
pub text-put : (wrap : Bool) (look : LeafStyle) (anonymous : BoxProps) (b : Built) (text : List ℕ) (spans : List Span) (starts : List InlineStart) (tree : Tree) (leaf : LeafData) (leads pending : List Lead) (event : ℕ) (ss : List Start) →
    tree ≡ cond wrap (shut (with_leaf (with_box b.tree anonymous) leaf)) (with_leaf b.tree leaf) → leaf ≡ leaf_by text spans look leads → leads ≡ b.pending →
    event ≡ cond wrap (suc (length b.tree.events)) (length b.tree.events) → ss ≡ b.starts ++ starts_by event starts → pending ≡ [] → built tree ss pending ≡ with_text wrap look anonymous b text spans starts
text-put true look anonymous b text spans starts tree leaf leads pending event ss t l p e s q =
    let own : LeafData = leaf_by text spans look b.pending in
    let all : Tree = shut (with_leaf (with_box b.tree anonymous) own) in
    let begin : List Start = b.starts ++ starts_by (suc (length b.tree.events)) starts in
    ap (λ (x : Tree). built x ss pending) (t ∙ ap (λ (x : LeafData). shut (with_leaf (with_box b.tree anonymous) x)) (l ∙ ap (λ (x : List Lead). leaf_by text spans look x) p))
    ∙ ap (λ (x : List Start). built all x pending) (s ∙ ap (λ (k : ℕ). b.starts ++ starts_by k starts) e) ∙ ap (λ (x : List Lead). built all begin x) q
text-put false look anonymous b text spans starts tree leaf leads pending event ss t l p e s q =
    let own : LeafData = leaf_by text spans look b.pending in
    let all : Tree = with_leaf b.tree own in
    let begin : List Start = b.starts ++ starts_by (length b.tree.events) starts in
    ap (λ (x : Tree). built x ss pending) (t ∙ ap (λ (x : LeafData). with_leaf b.tree x) (l ∙ ap (λ (x : List Lead). leaf_by text spans look x) p))
    ∙ ap (λ (x : List Start). built all x pending) (s ∙ ap (λ (k : ℕ). b.starts ++ starts_by k starts) e) ∙ ap (λ (x : List Lead). built all begin x) q
