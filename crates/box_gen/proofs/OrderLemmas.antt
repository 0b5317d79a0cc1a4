-- The places at which elements begin never fall, and so don't those of their strings and resets.
use Rattle.std.proofs.Common.{◌≡◌, ℕ, zero, suc, ◌+◌, ◌<◌, ◌≤◌, ◌==◌, Bool, true, false, List, [], ◌∷◌, ◌++◌, Option, None, Some, cond, not, filter, length, map, ltb, ℤ, refl, sym, subst, arith, length-append}
use Rattle.std.specs.List.{flat_map}
use Rattle.std.proofs.lemmas.Bool.Decides.{nat_tests}
use Rattle.std.proofs.lemmas.List.{map-append}
use Rattle.std.proofs.lemmas.Option.{same_Some}
use Rattle.bk_num.specs.declared.values.Pseudo.TheVariants as pseudo
use Rattle.boxes.specs.declared.flow.Assign.{Assign}
use Rattle.boxes.specs.declared.flow.Note.{Note}
use Rattle.boxes.specs.declared.flow.Reset.{Reset}
use Rattle.boxes.specs.declared.flow.Start.{Start}
use Rattle.boxes.specs.declared.leaf.Leaf.{Leaf as LeafData}
use Rattle.boxes.specs.declared.place.Event.TheVariants.{Opens, Leaf}
use Rattle.boxes.specs.declared.place.Position.{Position}
use Rattle.boxes.specs.declared.props.BoxProps.{BoxProps}
use Rattle.boxes.specs.Tree.{Tree, innermost_of, with_box, with_leaf}
use Rattle.page_seq.specs.Places.{NeverFall, is_before}
use Rattle.style.specs.declared.style.Style.{Style}
use Rattle.style.specs.Nodes.{style_at}
use Rattle.style.specs.Styles.{initial_style}
use Rattle.soft_hyphens.specs.Words.{Points}
use Rattle.box_gen.specs.Items.{InlineItem}
use Rattle.box_gen.specs.declared.inline.ItemMark.{ItemMark}
use Rattle.box_gen.specs.declared.inline.ItemMark.TheVariants as mark
use Rattle.box_gen.specs.declared.leaf.LeafStyle.{LeafStyle}
use Rattle.box_gen.specs.Flow.{Built, Content, end, run, box, assigns_at, built_of, calls_of, close_by, closed, content_of, grown, has_block, nothing, notes_by, opened, own_starts, page_resets, put, put_by, resets_at, resets_of, shut, start_at, starts_by, strings_of, with_run}
use Rattle.box_gen.specs.Leaves.{leaf_by, leaf_style_of}
use Rattle.box_gen.specs.Order.{StartsNeverFall}
use Rattle.box_gen.specs.Props.{anonymous_props}
use Rattle.inline_text.specs.Joined.{joined}
use Rattle.box_gen.specs.Runs.{marks_in, printed_in, spans_of, starts_from, starts_of, text_of}
use Rattle.box_gen.specs.Trees.{Source, forest_of, is_note_element}

-- ---- the order of places

-- a place stands no later than another
pub data NoLater (a b : Position) : Type 0 where
  earlier : a.event < b.event → NoLater a b
  along : a.event ≡ b.event → a.offset ≤ b.offset → NoLater a b

no-later : (a b : Position) → NoLater a b → is_before b a ≡ false
no-later a b (earlier l) = grind (arith, nat_tests)
no-later a b (along e l) = grind (arith, nat_tests)

after : {a b c : Position} → NoLater a b → NoLater b c → NoLater a c
after (earlier l) (earlier m) = earlier (omega arith)
after (earlier l) (along e m) = earlier (omega arith)
after (along e l) (earlier m) = earlier (omega arith)
after (along e l) (along f m) = along (omega arith) (omega arith)

here : (a : Position) → NoLater a a
here a = along refl (omega arith)

-- places that never fall, from one place to another
abbrev Rise : Position → List Position → Position → Type 0
Rise low [] high = NoLater low high
Rise low (p ∷ ps) high = NoLater low p × Rise p ps high

rise-from : (a b : Position) (ps : List Position) (c : Position) → NoLater a b → Rise b ps c → Rise a ps c
rise-from a b [] c l r = after l r
rise-from a b (p ∷ ps) c l r = (after l r.0, r.1)

rise-to : (a : Position) (ps : List Position) (b c : Position) → Rise a ps b → NoLater b c → Rise a ps c
rise-to a [] b c r l = after r l
rise-to a (p ∷ ps) b c r l = (r.0, rise-to p ps b c r.1 l)

rise-append : (a : Position) (ps : List Position) (b : Position) (qs : List Position) (c : Position) → Rise a ps b → Rise b qs c → Rise a (ps ++ qs) c
rise-append a [] b qs c r s = rise-from a b qs c r s
rise-append a (p ∷ ps) b qs c r s = (r.0, rise-append p ps b qs c r.1 s)

never-falls : (low : Position) (ps : List Position) (high : Position) → Rise low ps high → NeverFall ps
never-falls low [] high r k a b e f = cc
never-falls low (p ∷ []) high r k a b e f = cc
never-falls low (p ∷ q ∷ ps) high r zero a b e f = subst (λ x. is_before b x ≡ false) (same_Some p a e) (subst (λ x. is_before x p ≡ false) (same_Some q b f) (no-later p q r.1.0))
never-falls low (p ∷ q ∷ ps) high r (suc k) a b e f = never-falls p (q ∷ ps) high r.1 k a b e f

-- ---- where the elements of a run begin

abbrev place : ℕ → ℕ → Position
place event offset = record { event = event; offset = offset }

abbrev places : List Start → List Position
places starts = map (λ (a : Start). a.at) starts

starts-rise : (event at : ℕ) (marks : List ItemMark) (ts : List (List ℕ)) → Rise (place event at) (places (starts_by event (starts_from at marks ts))) (place event (at + length (joined ts)))
starts-rise event at [] ts = along refl (omega arith)
starts-rise event at (mark.Text s ∷ marks) [] = starts-rise event at marks []
starts-rise event at (mark.Text s ∷ marks) (t ∷ ts) =
    let rest : Rise (place event (at + length t)) (places (starts_by event (starts_from (at + length t) marks ts))) (place event ((at + length t) + length (joined ts))) = starts-rise event (at + length t) marks ts in
    let sum : (at + length t) + length (joined ts) ≡ at + length (t ++ joined ts) = omega (arith, length-append t (joined ts)) in
    let more : Rise (place event at) (places (starts_by event (starts_from (at + length t) marks ts))) (place event ((at + length t) + length (joined ts))) =
    rise-from (place event at) (place event (at + length t)) (places (starts_by event (starts_from (at + length t) marks ts))) (place event ((at + length t) + length (joined ts))) (along refl (omega arith)) rest in
    subst (λ n. Rise (place event at) (places (starts_by event (starts_from (at + length t) marks ts))) (place event n)) sum more
starts-rise event at (mark.Start n ∷ marks) ts = (here (place event at), starts-rise event at marks ts)

run-rises : (points : Option Points) (event : ℕ) (items : List InlineItem) → Rise (place event 0) (places (starts_by event (starts_of points items))) (place event (length (text_of points items)))
unfolding starts_of text_of
run-rises points event items =
    let size : 0 + length (joined (printed_in points items)) ≡ length (joined (printed_in points items)) = omega arith in
    subst (λ n. Rise (place event 0) (places (starts_by event (starts_from 0 (marks_in items) (printed_in points items)))) (place event n)) size (starts-rise event 0 (marks_in items) (printed_in points items))

-- ---- what is built

-- the next event of a tree
abbrev next : Tree → Position
next t = place (length t.events) 0

-- the places at which elements begin stand in order, none after the next event
abbrev InOrder : Built → Type 0
InOrder b = Rise (place 0 0) (places b.starts) (next b.tree)

-- more starts, and a tree that goes on
more-starts : (starts : List Start) (more : List Start) (t u : Tree) → Rise (place 0 0) (places starts) (next t) → Rise (next t) (places more) (next u) → Rise (place 0 0) (places (starts ++ more)) (next u)
more-starts starts more t u r s = subst (λ ps. Rise (place 0 0) ps (next u)) (sym (map-append (λ (a : Start). a.at) starts more)) (rise-append (place 0 0) (places starts) (next t) (places more) (next u) r s)

longer : (t u : Tree) → length t.events ≤ length u.events → NoLater (next t) (next u)
longer t u l = by (ltb (length t.events) (length u.events)) refl
  where
    by : (b : Bool) → ltb (length t.events) (length u.events) ≡ b → NoLater (next t) (next u)
    by true e = earlier (grind (arith, nat_tests))
    by false e = along (grind (arith, nat_tests)) (omega arith)

shut-longer : (t : Tree) → length t.events ≤ length (shut t).events
shut-longer t = by (innermost_of t.events)
  where
    by : (o : Option ℕ) → length t.events ≤ length (close_by t o).events
    by None = omega arith
    by (Some b) = grind (arith, length-append)

opened-in-order : (src : Source) (n : ℕ) (s : Style) (b : Built) → InOrder b → InOrder (opened src n s b)
opened-in-order src n s b h = more-starts b.starts (start_at n (length b.tree.events) 0 ∷ []) b.tree (opened src n s b).tree h (here (next b.tree), longer b.tree (opened src n s b).tree (grind (arith, length-append)))

closed-in-order : (b : Built) → InOrder b → InOrder (closed b)
closed-in-order b h = rise-to (place 0 0) (places b.starts) (next b.tree) (next (shut b.tree)) h (longer b.tree (shut b.tree) (shut-longer b.tree))

put-in-order : (points : Option Points) (look : LeafStyle) (anonymous : BoxProps) (wrap : Bool) (b : Built) (items : List InlineItem) → InOrder b → InOrder (put points look anonymous wrap b items)
put-in-order points look anonymous wrap b items h = by (length (text_of points items) == 0) wrap refl
  where
    leaf : LeafData
    leaf = leaf_by (text_of points items) (spans_of points items) look b.pending

    begin : ℕ
    begin = length b.tree.events

    at : ℕ → List Position
    at event = places (starts_by event (starts_of points items))

    by : (e w : Bool) → (length (text_of points items) == 0) ≡ e → InOrder (put_by e w points look anonymous b items)
    by true w e =
        let none : length (text_of points items) ≡ 0 = grind (arith, nat_tests) in
        more-starts b.starts (starts_by begin (starts_of points items)) b.tree b.tree h (subst (λ k. Rise (next b.tree) (at begin) (place begin k)) none (run-rises points begin items))
    by false true e =
        let boxed : Tree = with_leaf (with_box b.tree anonymous) leaf in
        let one : length (with_box b.tree anonymous).events ≡ begin + 1 = length-append b.tree.events (Opens (length b.tree.boxes) ∷ []) in
        let two : length boxed.events ≡ length (with_box b.tree anonymous).events + 1 = length-append (with_box b.tree anonymous).events (Leaf (length b.tree.leaves) ∷ []) in
        let all : length boxed.events ≤ length (shut boxed).events = shut-longer boxed in
        more-starts b.starts (starts_by (suc begin) (starts_of points items)) b.tree (shut boxed) h
        (rise-from (next b.tree) (place (suc begin) 0) (at (suc begin)) (next (shut boxed)) (earlier (omega arith))
        (rise-to (place (suc begin) 0) (at (suc begin)) (place (suc begin) (length (text_of points items))) (next (shut boxed)) (run-rises points (suc begin) items) (earlier (omega arith))))
    by false false e =
        let one : length (with_leaf b.tree leaf).events ≡ begin + 1 = length-append b.tree.events (Leaf (length b.tree.leaves) ∷ []) in
        more-starts b.starts (starts_by begin (starts_of points items)) b.tree (with_leaf b.tree leaf) h
        (rise-to (next b.tree) (at begin) (place begin (length (text_of points items))) (next (with_leaf b.tree leaf)) (run-rises points begin items) (earlier (omega arith)))

run-in-order : (src : Source) (s : Style) (wrap : Bool) (b : Built) (items : List InlineItem) → InOrder b → InOrder (with_run src s wrap b items)
run-in-order src s wrap b items h = put-in-order src.points (leaf_style_of s (src.face s)) (anonymous_props s) wrap b items h

grown-in-order : (src : Source) (s : Style) (wrap : Bool) (b : Built) (c : Content) → InOrder b → InOrder (grown src s wrap b c)
grown-in-order src s wrap b end h = h
grown-in-order src s wrap b (run items rest) h = grown-in-order src s wrap (with_run src s wrap b items) rest (run-in-order src s wrap b items h)
grown-in-order src s wrap b (box n u inside rest) h =
    let first : InOrder (opened src n u b) = opened-in-order src n u b h in
    let full : InOrder (grown src u (has_block inside) (opened src n u b) inside) = grown-in-order src u (has_block inside) (opened src n u b) inside first in
    grown-in-order src s wrap (closed (grown src u (has_block inside) (opened src n u b) inside)) rest (closed-in-order (grown src u (has_block inside) (opened src n u b) inside) full)

built-in-order : (src : Source) → InOrder (built_of src)
built-in-order src = grown-in-order src initial_style true nothing (content_of src initial_style (forest_of src.nodes) end) (here (place 0 0))

pub starts-never-fall : StartsNeverFall
starts-never-fall src = never-falls (place 0 0) (places (built_of src).starts) (next (built_of src).tree) (built-in-order src)

-- ---- what stands where elements begin

-- lists of things that stand where each of some elements begins
all-rise : {X : Type 0} (where_is : X → Position) (things : Start → List X) → ((a : Start) → Rise a.at (map where_is (things a)) a.at) →
    (starts : List Start) (low high : Position) → Rise low (places starts) high → Rise low (map where_is (flat_map things starts)) high
all-rise where_is things each [] low high r = r
all-rise where_is things each (a ∷ starts) low high r =
    subst (λ ps. Rise low ps high) (sym (map-append where_is (things a) (flat_map things starts)))
    (rise-append low (map where_is (things a)) a.at (map where_is (flat_map things starts)) high
    (rise-from low a.at (map where_is (things a)) a.at r.0 (each a))
    (all-rise where_is things each starts a.at high r.1))

assigns-rise : (at : Position) (xs : List (List ℕ × List ℕ)) → Rise at (map (λ (s : Assign). s.at) (assigns_at at xs)) at
assigns-rise at [] = here at
assigns-rise at (x ∷ xs) = (here at, assigns-rise at xs)

resets-rise : (at : Position) (values : List ℤ) → Rise at (map (λ (r : Reset). r.at) (resets_at at values)) at
resets-rise at [] = here at
resets-rise at (v ∷ values) = (here at, resets-rise at values)

-- ---- main starts and calls

rise-filter : (keep : Start → Bool) (starts : List Start) (low high : Position) → Rise low (places starts) high → Rise low (places (filter keep starts)) high
rise-filter keep [] low high r = r
rise-filter keep (a ∷ starts) low high r = by (keep a) (rise-filter keep starts a.at high r.1)
  where
    by : (b : Bool) → Rise a.at (places (filter keep starts)) high → Rise low (places (cond b (a ∷ filter keep starts) (filter keep starts))) high
    by true s = (r.0, s)
    by false s = rise-from low a.at (places (filter keep starts)) high r.0 s

rise-whole : (low : Position) (ps : List Position) (high : Position) → Rise low ps high → NoLater low high
rise-whole low [] high r = r
rise-whole low (p ∷ ps) high r = after r.0 (rise-whole p ps high r.1)

-- the calls of notes are those of their bodies that there are
notes-rise : (low : Position) (calls : List Position) (bodies : List Built) (high : Position) → Rise low calls high → Rise low (map (λ (n : Note). n.call) (notes_by calls bodies)) high
notes-rise low [] bodies high r = r
notes-rise low (c ∷ calls) [] high r = rise-whole low (c ∷ calls) high r
notes-rise low (c ∷ calls) (b ∷ bodies) high r = (r.0, notes-rise c calls bodies high r.1)

pub calls-never-fall : (src : Source) (bodies : List Built) → NeverFall (map (λ (n : Note). n.call) (notes_by (calls_of src (built_of src).starts) bodies))
calls-never-fall src bodies = never-falls (place 0 0) (map (λ (n : Note). n.call) (notes_by (calls_of src (built_of src).starts) bodies)) (next (built_of src).tree)
    (notes-rise (place 0 0) (calls_of src (built_of src).starts) bodies (next (built_of src).tree)
    (rise-filter (λ (a : Start). is_note_element src a.node.0) (built_of src).starts (place 0 0) (next (built_of src).tree) (built-in-order src)))

own-rise : (src : Source) → Rise (place 0 0) (places (own_starts src (built_of src).starts)) (next (built_of src).tree)
own-rise src = rise-filter (λ (a : Start). not (is_note_element src a.node.0)) (built_of src).starts (place 0 0) (next (built_of src).tree) (built-in-order src)

pub strings-never-fall : (src : Source) → NeverFall (map (λ (s : Assign). s.at) (strings_of src (own_starts src (built_of src).starts)))
strings-never-fall src = never-falls (place 0 0) (map (λ (s : Assign). s.at) (strings_of src (own_starts src (built_of src).starts))) (next (built_of src).tree)
    (all-rise (λ (s : Assign). s.at) (λ (a : Start). assigns_at a.at (src.assigned a.node.0)) (λ a. assigns-rise a.at (src.assigned a.node.0)) (own_starts src (built_of src).starts) (place 0 0) (next (built_of src).tree) (own-rise src))

pub resets-never-fall : (src : Source) → NeverFall (map (λ (r : Reset). r.at) (resets_of src (own_starts src (built_of src).starts)))
resets-never-fall src = never-falls (place 0 0) (map (λ (r : Reset). r.at) (resets_of src (own_starts src (built_of src).starts))) (next (built_of src).tree)
    (all-rise (λ (r : Reset). r.at) (λ (a : Start). resets_at a.at (page_resets (style_at src.styles a.node.0 pseudo.Element))) (λ a. resets-rise a.at (page_resets (style_at src.styles a.node.0 pseudo.Element))) (own_starts src (built_of src).starts) (place 0 0) (next (built_of src).tree) (own-rise src))
