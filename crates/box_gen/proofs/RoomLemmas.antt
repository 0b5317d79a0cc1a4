-- Steps of the walks take no bytes away, and add few events.
use Rattle.std.proofs.Common.{◌≡◌, ℕ, ◌+◌, ◌<◌, ◌≤◌, ◌==◌, Bool, true, false, cond, not, List, [], ◌∷◌, ◌++◌, Option, None, Some, length, ap, arith, length-append}
use Rattle.std.proofs.lemmas.List.Elements.{All-nil, All-cons}
use Rattle.std.proofs.lemmas.List.Sums.{sum_by_push}
use Rattle.box_gen.proofs.OwnerLemmas.{all-append}
use Rattle.bk_num.specs.Limits.{most_text_bytes}
use Rattle.boxes.specs.declared.leaf.Leaf.{Leaf as LeafData}
use Rattle.boxes.specs.declared.place.Event.TheVariants.{Opens, Closes, Leaf}
use Rattle.boxes.specs.Tree.{IsTree, Tree, innermost_of, takes_leaf, with_box, with_leaf}
use Rattle.dom.specs.Walk.{node_of}
use Rattle.dom.specs.declared.walk.Step.{Step}
use Rattle.style.specs.declared.style.Style.{Style}
use Rattle.box_gen.specs.Items.{InlineItem}
use Rattle.box_gen.specs.declared.put.TreeRoom.{TreeRoom}
use Rattle.box_gen.specs.declared.put.Site.{Site}
use Rattle.box_gen.specs.Bodies.{Walks, walks, after_all, after_both, is_end, note_ended, noted, notes_after}
use Rattle.box_gen.specs.Flow.{Built, close_by, last_items, put_by, shut, with_run}
use Rattle.box_gen.specs.Gather.{Gathered, adds}
use Rattle.box_gen.specs.Leaves.{leaf_by, leaf_style_of}
use Rattle.box_gen.specs.Props.{anonymous_props}
use Rattle.box_gen.specs.Runs.{spans_of, text_of}
use Rattle.box_gen.specs.Sites.{IsCounted, IsWithinRoom, leaf_bytes}
use Rattle.box_gen.specs.Trees.{Source, in_note}
use Rattle.box_gen.specs.Walk.{Walk, after_step, innermost}
use Rattle.box_gen.specs.Walkers.{AreShared, all_bytes, bodies_bytes, body_bytes, body_bytes_after}
use Rattle.box_gen.proofs.ByteLemmas.{bytes-ended, bytes-run, more-steps}

-- ---- bytes

-- the body of a note that ends has no fewer bytes than before
ended-more : (src : Source) (n : ℕ) (b : Walk) → leaf_bytes b.gathered.built.tree.leaves ≤ leaf_bytes (note_ended src n b).tree.leaves
ended-more src n b =
    let g : Gathered = adds (last_items src n) b.gathered in
    let u : Style = innermost b.blocks in
    let a = bytes-ended src u g in
    let e = bytes-run src u (not (takes_leaf g.built.tree.events)) g.built g.run in
    omega (arith, a, e)

more-both : (src : Source) (v : Walks) (s : Step) → all_bytes v ≤ all_bytes (after_both src v s)
more-both src v s = by v.notes.body
  where
    main : leaf_bytes v.main.gathered.built.tree.leaves ≤ leaf_bytes (after_step src v.main s).gathered.built.tree.leaves
    main = more-steps src v.main (s ∷ [])

    inside : (b : Walk) (e : Bool) → (leaf_bytes v.main.gathered.built.tree.leaves + leaf_bytes b.gathered.built.tree.leaves) + bodies_bytes v.notes.bodies ≤ all_bytes (walks (after_step src v.main s) (cond e (noted None (v.notes.bodies ++ note_ended (in_note src) (node_of s) b ∷ [])) (noted (Some (after_step (in_note src) b s)) v.notes.bodies)))
    inside b true =
        let p = sum_by_push (λ (x : Built). leaf_bytes x.tree.leaves) v.notes.bodies (note_ended (in_note src) (node_of s) b) in
        let m = ended-more (in_note src) (node_of s) b in
        let k = main in
        omega (arith, p, m, k)
    inside b false = let m = more-steps (in_note src) b (s ∷ []) in let k = main in omega (arith, m, k)

    by : (o : Option Walk) → (leaf_bytes v.main.gathered.built.tree.leaves + body_bytes o) + bodies_bytes v.notes.bodies ≤ all_bytes (walks (after_step src v.main s) (notes_after src v.main.unshown o v.notes.bodies s))
    by None = let k = main in omega (arith, k)
    by (Some b) = inside b (is_end v.main.unshown s)

pub more-all : (src : Source) (v : Walks) (steps : List Step) → all_bytes v ≤ all_bytes (after_all src v steps)
more-all src v [] = omega arith
more-all src v (s ∷ steps) = let a = more-both src v s in let b = more-all src (after_both src v s) steps in omega (arith, a, b)

-- ---- events

pub shut-more : (t : Tree) → length (shut t).events ≤ length t.events + 1
shut-more t = by (innermost_of t.events)
  where
    by : (o : Option ℕ) → length (close_by t o).events ≤ length t.events + 1
    by None = omega arith
    by (Some b) = let n = length-append t.events (Closes b ∷ []) in omega (arith, n)

pub events-run : (src : Source) (s : Style) (wrap : Bool) (b : Built) (items : List InlineItem) → length (with_run src s wrap b items).tree.events ≤ length b.tree.events + 3
events-run src s wrap b items = by (length (text_of src.points items) == 0) wrap
  where
    leaf : LeafData
    leaf = leaf_by (text_of src.points items) (spans_of src.points items) (leaf_style_of s (src.face s)) b.pending

    boxed : Tree
    boxed = with_box b.tree (anonymous_props s)

    by : (e w : Bool) → length (put_by e w src.points (leaf_style_of s (src.face s)) (anonymous_props s) b items).tree.events ≤ length b.tree.events + 3
    by true w = omega arith
    by false true =
        let one : length boxed.events ≡ length b.tree.events + 1 = length-append b.tree.events (Opens (length b.tree.boxes) ∷ []) in
        let two : length (with_leaf boxed leaf).events ≡ length boxed.events + 1 = length-append boxed.events (Leaf (length b.tree.leaves) ∷ []) in
        let all = shut-more (with_leaf boxed leaf) in
        omega (arith, one, two, all)
    by false false = let one = length-append b.tree.events (Leaf (length b.tree.leaves) ∷ []) in omega (arith, one)

-- a tree to which a run was put, and then an event, is within its room
pub within-step : (old put new : Site) → IsWithinRoom old → length old.tree.events + 10 < old.room.events → IsCounted put → put.room ≡ old.room → length put.tree.events ≤ length old.tree.events + 3 →
    new.room ≡ put.room → new.bytes ≡ put.bytes → leaf_bytes new.tree.leaves ≡ leaf_bytes put.tree.leaves → length new.tree.events ≤ length put.tree.events + 1 → IsWithinRoom new
within-step old put new w left counted room few same bytes leaves more =
    let p = ap (λ (r : TreeRoom). r.events) room in
    let e = ap (λ (r : TreeRoom). r.events) same in
    let b = ap (λ (r : TreeRoom). r.bytes) same in
    let n = counted.count in
    let f = counted.few in
    let m = counted.most in
    let most = w.most in
    record {
      bytes = record { count = omega (arith, n, bytes, leaves); few = omega (arith, f, bytes, b); most = omega (arith, m, b) };
      events = omega (arith, p, e, left, few, more);
      most = omega (arith, p, e, most);
    }

-- the main tree's room is less by the body of a note that has ended
pub kept-shared : (main new site : Site) (sites : List Site) → AreShared main sites → IsWithinRoom site → IsTree site.tree → site.room.bytes + main.bytes ≡ main.room.bytes → site.room.events + length main.tree.events ≡ main.room.events →
    new.tree ≡ main.tree → new.bytes ≡ main.bytes → new.room.bytes + site.bytes ≡ main.room.bytes → new.room.events + length site.tree.events ≡ main.room.events → AreShared new (sites ++ site ∷ [])
kept-shared main new site sites s w tree bytes events t b rb re =
    let l = ap (λ (t : Tree). leaf_bytes t.leaves) t in
    let n = ap (λ (t : Tree). length t.events) t in
    let count = s.within.bytes.count in
    let most = s.within.bytes.most in
    let most_of = s.within.most in
    let own = w.bytes.count in
    let few = w.bytes.few in
    let there = w.events in
    let p = sum_by_push (λ (s : Site). leaf_bytes s.tree.leaves) sites site in
    let q = sum_by_push (λ (s : Site). length s.tree.events) sites site in
    let all = s.bytes in
    let every = s.events in
    record {
      within = record {
        bytes = record { count = omega (arith, b, l, count); few = omega (arith, b, bytes, rb, few); most = omega (arith, rb, most) };
        events = omega (arith, n, events, re, there);
        most = omega (arith, re, most_of);
      };
      bytes = omega (arith, p, all, rb, own);
      events = omega (arith, q, every, re);
      trees = all-append (λ (s : Site). IsTree s.tree) sites (site ∷ []) s.trees (All-cons (λ (s : Site). IsTree s.tree) site [] tree (All-nil (λ (s : Site). IsTree s.tree)));
    }

-- the main tree goes on in its room
pub same-shared : (main new : Site) (sites : List Site) → AreShared main sites → IsWithinRoom new → new.room ≡ main.room → AreShared new sites
same-shared main new sites s w same =
    let b = ap (λ (r : TreeRoom). r.bytes) same in
    let e = ap (λ (r : TreeRoom). r.events) same in
    let all = s.bytes in
    let every = s.events in
    record { within = w; bytes = omega (arith, b, all); events = omega (arith, e, every); trees = s.trees }

-- a tree that has more bytes than it has room for makes the whole too long
pub outside-cause : (src : Source) (main : Walk) (bodies : List Built) (s : Step) (room : ℕ) → room + bodies_bytes bodies ≡ most_text_bytes → room < leaf_bytes (after_step src main s).gathered.built.tree.leaves →
    most_text_bytes < all_bytes (after_both src (walks main (noted None bodies)) s)
outside-cause src main bodies s room all long = omega (arith, all, long)

pub inside-cause : (src : Source) (main b : Walk) (bodies : List Built) (s : Step) (room : ℕ) → (room + leaf_bytes main.gathered.built.tree.leaves) + bodies_bytes bodies ≡ most_text_bytes → room < body_bytes_after src main.unshown b s →
    most_text_bytes < all_bytes (after_both src (walks main (noted (Some b) bodies)) s)
inside-cause src main b bodies s room all long = by (is_end main.unshown s) long
  where
    ended : Built
    ended = note_ended (in_note src) (node_of s) b

    next : Walk
    next = after_step (in_note src) b s

    more : leaf_bytes main.gathered.built.tree.leaves ≤ leaf_bytes (after_step src main s).gathered.built.tree.leaves
    more = more-steps src main (s ∷ [])

    by : (e : Bool) → room < cond e (leaf_bytes ended.tree.leaves) (leaf_bytes next.gathered.built.tree.leaves) → most_text_bytes < all_bytes (walks (after_step src main s) (cond e (noted None (bodies ++ ended ∷ [])) (noted (Some next) bodies)))
    by true l = let p = sum_by_push (λ (x : Built). leaf_bytes x.tree.leaves) bodies ended in let m = more in omega (arith, p, m, all, l)
    by false l = let m = more in omega (arith, m, all, l)
