-- What holds of all tables.
use Rattle.std.proofs.Common.{◌≡◌, ◌<◌, ◌≤◌, ◌+◌, ◌-◌, ◌==◌, ℕ, zero, suc, ℤ, pos, Bool, true, false, List, [], ◌∷◌, Option, None, Some, length, map, slice_get, get_or, take, unwrap_or, refl, sym, ◌∙◌, ap, subst, inl, inr, ◌⊎◌, arith}
use Rattle.std.specs.List.Sorted.{IsStrictlyIncreasing}
use Rattle.std.proofs.lemmas.Bool.{cases_order, eq-eqb}
use Rattle.std.proofs.lemmas.Bool.Decides.{nat_tests}
use Rattle.std.proofs.lemmas.List.{get_or-map, length-map}
use Rattle.std.proofs.lemmas.List.Sorted.{IsNonDecreasingBy-from_default}
use Rattle.std.proofs.lemmas.Option.{slice_get-get_or}
use Rattle.bk_num.specs.declared.ids.NodeId.{NodeId}
use Rattle.boxes.specs.declared.flow.Flow.{Flow}
use Rattle.boxes.specs.declared.flow.Note.{Note}
use Rattle.boxes.specs.declared.flow.Start.{Start}
use Rattle.boxes.specs.declared.page.Page.{Page}
use Rattle.boxes.specs.declared.place.Position.{Position}
use Rattle.boxes.specs.Tree.{Tree}
use Rattle.gen_text.specs.Table.{number_in}
use Rattle.gen_text.specs.declared.table.Entry.{Entry}
use Rattle.page_seq.specs.Noted.{begins_on, has_note}
use Rattle.page_seq.specs.Numbers.{numbers_of}
use Rattle.page_seq.specs.Places.{anchor_of, has_solid, last_page, last_place, page_of}
use Rattle.page_seq.proofs.PlaceLemmas.{first_place_some, last_place_within, no_page, page_at_within}
use Rattle.page_seq.proofs.NumberLemmas.{numbers-many}
use Rattle.refs.specs.Begins.{page_in_note, page_of_note, page_of_start, page_within}
use Rattle.refs.specs.Differences.{AreDifferences, IsFirstDifference}
use Rattle.refs.specs.Tables.{ElementsHavePages, ReferencesFindNumbers, TablesHaveNodes, TargetsAscend, entry_of, number_from, start_of}

-- ---- differences

get_take : (a : List Entry) (i j : ℕ) → i < j → slice_get (take j a) i ≡ slice_get a i
get_take a i zero low = absurd (omega arith)
get_take [] i (suc j) low = refl
get_take (x ∷ a) zero (suc j) low = refl
get_take (x ∷ a) (suc i) (suc j) low = get_take a i j (omega arith)

get_same : (a b : List Entry) (i j : ℕ) → i < j → take j a ≡ take j b → slice_get a i ≡ slice_get b i
get_same a b i j low e = sym (get_take a i j low) ∙ (ap (λ (x : List Entry). slice_get x i) e ∙ get_take b i j low)

one_place : (a b : List Entry) (i j : ℕ) → IsFirstDifference a b i → IsFirstDifference a b j → i ≡ j
one_place a b i j p q = by (cases_order i j)
  where
    by : (i ≡ j) ⊎ ((i < j) ⊎ (j < i)) → i ≡ j
    by (inl e) = e
    by (inr (inl l)) = absurd (p.differ (get_same a b i j l q.same))
    by (inr (inr l)) = absurd (q.differ (get_same a b j i l p.same))

pub differences : AreDifferences
differences =
    record {
      one = one_place;
      apart = λ a b k d e. d.differ (ap (λ (x : List Entry). slice_get x k) e);
    }

-- ---- nodes

nodes_back : (f : NodeId → Entry) (nodes : List NodeId) → ((n : NodeId) → (f n).node ≡ n) → map (λ (e : Entry). e.node) (map f nodes) ≡ nodes
nodes_back f [] same = refl
nodes_back f (n ∷ nodes) same = rw (same n, nodes_back f nodes same) refl

pub have_nodes : TablesHaveNodes
have_nodes =
    record {
      shown = λ flow pages nodes. nodes_back (entry_of flow pages) nodes (λ n. refl);
      opening = λ nodes. nodes_back (λ (n : NodeId). record { node = n; number = pos 0 }) nodes (λ n. refl);
    }

-- the number of an entry that is made by its node's number
found_in : (f : NodeId → ℤ) (nodes : List NodeId) (k : ℕ) (node : NodeId) → slice_get nodes k ≡ Some node → number_in (map (λ (n : NodeId). record { node = n; number = f n }) nodes) node.0 ≡ Some (f node)
found_in f [] k node e = absurd (cc)
found_in f (n ∷ nodes) zero node e =
    let same : n ≡ node = cc in
    rw (eq-eqb n.0 node.0 (ap (λ (m : NodeId). m.0) same)) (ap (λ (m : NodeId). Some (f m)) same)
found_in f (n ∷ nodes) (suc k) node e = by (n.0 == node.0) refl (found_in f nodes k node e)
  where
    by : (b : Bool) → (n.0 == node.0) ≡ b → number_in (map (λ (m : NodeId). record { node = m; number = f m }) nodes) node.0 ≡ Some (f node) → number_in (map (λ (m : NodeId). record { node = m; number = f m }) (n ∷ nodes)) node.0 ≡ Some (f node)
    by true is rest =
        let number : n.0 ≡ node.0 = grind (arith, nat_tests) in
        let same : n ≡ node = ap (λ (m : ℕ). record { 0 = m }) number in
        rw is (ap (λ (m : NodeId). Some (f m)) same)
    by false is rest = rw is rest

pub find_numbers : ReferencesFindNumbers
find_numbers = λ flow pages nodes k node e. found_in (λ n. number_from flow pages (start_of flow.starts n)) nodes k node e

-- ---- pages

last_there : (pages : List Page) → 0 < length pages → last_page pages < length pages
last_there pages some = by (last_place has_solid pages) refl
  where
    by : (o : Option ℕ) → last_place has_solid pages ≡ o → unwrap_or (last_place has_solid pages) 0 < length pages
    by None e = rw e some
    by (Some k) e = rw e (last_place_within has_solid pages k e)

page_there : (t : Tree) (pages : List Page) (at : Position) → 0 < length pages → page_of t pages at < length pages
page_there t pages at some =
    let low = page_at_within pages (anchor_of t at) no_page in
    let last = last_there pages some in
    omega arith

note_there : (flow : Flow) (pages : List Page) (n : ℕ) (note : Note) → 0 < length pages → page_of_note flow pages n note < length pages
note_there flow pages n note some = by (begins_on pages n) refl
  where
    by : (o : Option ℕ) → begins_on pages n ≡ o → unwrap_or (begins_on pages n) (page_of flow.main pages note.call) < length pages
    by None e = rw e (page_there flow.main pages note.call some)
    by (Some k) e = rw e (first_place_some (has_note n) pages no_page k e).within

in_note_there : (flow : Flow) (pages : List Page) (s : Start) (n : ℕ) (note : Option Note) → 0 < length pages → page_in_note flow pages s n note < length pages
in_note_there flow pages s n None some = page_there flow.main pages s.at some
in_note_there flow pages s n (Some note) some = note_there flow pages n note some

within_there : (flow : Flow) (pages : List Page) (s : Start) (note : Option ℕ) → 0 < length pages → page_within flow pages s note < length pages
within_there flow pages s None some = page_there flow.main pages s.at some
within_there flow pages s (Some n) some = in_note_there flow pages s n (slice_get flow.notes n) some

get-unwrap : (numbers : List ℤ) (k : ℕ) → k < length numbers → slice_get numbers k ≡ Some (unwrap_or (slice_get numbers k) (pos 0))
get-unwrap numbers k h = let e = slice_get-get_or numbers k (pos 0) h in e ∙ sym (ap (λ (o : Option ℤ). Some (unwrap_or o (pos 0))) e)

pub have_pages : ElementsHavePages
have_pages = λ flow pages s some.
    let there = within_there flow pages s s.note some in
    let size = numbers-many flow.main pages flow.resets in
    let within : page_of_start flow pages s < length (numbers_of flow.main pages flow.resets) = omega arith in
    get-unwrap (numbers_of flow.main pages flow.resets) (page_of_start flow pages s) within

-- ---- nodes that rise

rise_far : (xs : List ℕ) → IsStrictlyIncreasing xs → (n i : ℕ) → i + n < length xs → get_or xs i 0 ≤ get_or xs (i + n) 0
rise_far xs up zero i h = let e : i + 0 ≡ i = omega arith in rw e (omega arith)
rise_far xs up (suc n) i h =
    let e : i + suc n ≡ (i + n) + 1 = omega arith in
    let l : i + n < length xs = omega arith in
    let far = rise_far xs up n i l in
    let next = up (i + n) (omega arith) in
    rw e (omega arith)

pub ascend : TargetsAscend
ascend = λ nodes up.
    let none : NodeId = record { 0 = 0 } in
    let numbers : List ℕ = map (λ (n : NodeId). n.0) nodes in
    let size : length numbers ≡ length nodes = length-map nodes (λ n. n.0) in
    IsNonDecreasingBy-from_default (λ (n : NodeId). n.0) nodes none (λ i j low h.
    let e : i + (j - i) ≡ j = omega arith in
    let l : i + (j - i) < length numbers = omega arith in
    let far : get_or numbers i 0 ≤ get_or numbers j 0 = subst (λ k. get_or numbers i 0 ≤ get_or numbers k 0) e (rise_far numbers up (j - i) i l) in
    let a : get_or numbers i 0 ≡ (get_or nodes i none).0 = get_or-map (λ (n : NodeId). n.0) nodes i none 0 (omega arith) in
    let b : get_or numbers j 0 ≡ (get_or nodes j none).0 = get_or-map (λ (n : NodeId). n.0) nodes j none 0 h in
    omega arith)
