-- Each shown element has exactly one start.
use Rattle.std.proofs.Common.{◌≡◌, ◌∙◌, ◌≤◌, ◌<◌, ℕ, zero, suc, ◌+◌, ◌-◌, ◌==◌, ◌&&◌, Bool, true, false, cond, not, List, [], ◌∷◌, ◌++◌, append-nil, append_assoc, Option, None, Some, filter, length, refl, sym, ap, arith}
use Rattle.std.specs.Prelude.{slice_get}
use Rattle.std.proofs.lemmas.Bool.{eq-eqb}
use Rattle.std.proofs.lemmas.Bool.Decides.{nat_tests}
use Rattle.std.proofs.lemmas.List.{map-append}
use Rattle.std.proofs.lemmas.Map.Views.{exact_unsigned_eq}
use Rattle.bk_num.specs.declared.values.Pseudo.TheVariants as pseudo
use Rattle.boxes.specs.declared.flow.Start.{Start}
use Rattle.boxes.specs.Tree.{takes_leaf}
use Rattle.dom.specs.Nodes.{IsTree, is_at, parent_at, parents_of, text_at}
use Rattle.dom.specs.Walk.{children_from, children_of}
use Rattle.dom.proofs.WalkLemmas.{AreFalling, falling, parent-child}
use Rattle.style.specs.declared.style.Style.{Style}
use Rattle.style.specs.Nodes.{NodeStyles}
use Rattle.box_gen.specs.Elements.{ElementsHaveStarts, node_shown, shown_in, shown_of, times}
use Rattle.box_gen.specs.Flow.{Built, bodies_in, bodies_of, body_in, built_of, first_items, flow_of, generated_items, last_items, node_bodies, note_first_items, note_starts, own_starts, starts_in_note}
use Rattle.box_gen.specs.Gather.{Gathered}
use Rattle.box_gen.specs.Trees.{Source, Forest, none, node, side_by_side, below, forest_of, in_note, is_block, is_note_element, Role, text, hidden, inline, block, note, role_by, role_of, shown_role}
use Rattle.box_gen.proofs.BodyLemmas.{body-is, note_full, note_start}
use Rattle.box_gen.proofs.ElementLemmas.{IsFloat, elements_in, known-gathered, known-texts, main-elements, no-first, no-generated, node_elements, nodes-append, nodes_in, role-floats, run-nodes, run_nodes}
use Rattle.box_gen.proofs.WalkLemmas.{Greater, Under, below-greater, under}
use Rattle.box_gen.proofs.Gathering.{gathered}

abbrev one : Bool → ℕ
one b = cond b 1 0

times-append : (n : ℕ) (xs ys : List ℕ) → times n (xs ++ ys) ≡ times n xs + times n ys
times-append n [] ys = omega arith
times-append n (x ∷ xs) ys = let r = times-append n xs ys in omega (arith, r)

-- ---- the elements of a note

body-nodes : (src : Source) (n : ℕ) (u : Style) (kids : Forest) → nodes_in (body_in src u n kids).starts ≡ n ∷ elements_in src kids
body-nodes src n u kids =
    let full : Gathered = note_full src n u kids in
    let first : run_nodes (note_first_items src u n) ≡ [] = nodes-append (generated_items src n pseudo.Marker) (first_items src u n) ∙ ap (λ (l : List ℕ). l ++ run_nodes (first_items src u n)) (no-generated src n pseudo.Marker) ∙ no-first src u n in
    ap (λ (b : Built). nodes_in b.starts) (body-is src n u kids) ∙ run-nodes src u (not (takes_leaf full.built.tree.events)) full.built full.run
    ∙ known-texts (gathered src u u kids (note_start src n u)) (last_items src n) (no-generated src n pseudo.After) ∙ known-gathered src u u kids (note_start src n u)
    ∙ ap (λ (l : List ℕ). (n ∷ l) ++ elements_in src kids) first

-- in a note each shown element is one of its body
inner-elements : (src : Source) (f : Forest) → elements_in (in_note src) f ≡ shown_in src f
unfolding elements_in shown_in
inner-elements src none = refl
inner-elements src (node n kids more) =
    ap (λ (l : List ℕ). l ++ elements_in (in_note src) more) (by (text_at src.nodes n) (slice_get src.styles n) (elements_in (in_note src) kids))
    ∙ ap (λ (l : List ℕ). node_shown n (role_of src n) l ++ elements_in (in_note src) more) (inner-elements src kids)
    ∙ ap (λ (l : List ℕ). node_shown n (role_of src n) (shown_in src kids) ++ l) (inner-elements src more)
  where
    never : (a : Bool) → (a && false) ≡ false
    never true = refl
    never false = refl

    has : (s : Style) (b : Bool) (l : List ℕ) → node_elements n (cond b (block s) (inline s)) l ≡ n ∷ l
    has s true l = refl
    has s false l = refl

    -- a role in the note, where nothing floats, and the same outside
    shows : (e f b : Bool) (o : Option Style) (l : List ℕ) → e ≡ false → node_elements n (cond b (shown_role e (n == 0) o) hidden) l ≡ node_shown n (cond b (shown_role f (n == 0) o) hidden) l
    shows e f false o l q = refl
    shows e f true None l q = refl
    shows true f true (Some s) l q = cc
    shows false true true (Some s) l q = has s (is_block (n == 0) s) l
    shows false false true (Some s) l q = has s (is_block (n == 0) s) l ∙ sym (shown s (is_block (n == 0) s) l)
      where
        shown : (s : Style) (b : Bool) (l : List ℕ) → node_shown n (cond b (block s) (inline s)) l ≡ n ∷ l
        shown s true l = refl
        shown s false l = refl

    by : (t : Option (List ℕ)) (o : Option NodeStyles) (l : List ℕ) → node_elements n (role_by (is_note_element (in_note src) n) (n == 0) o t) l ≡ node_shown n (role_by (is_note_element src n) (n == 0) o t) l
    by (Some t) o l = refl
    by None None l = refl
    by None (Some r) l = shows (is_note_element (in_note src) n) (is_note_element src n) r.shown r.own l (never (not (n == 0)))

-- ---- starts of the main tree, and of the notes

plain_in : Source → List ℕ → List ℕ
plain_in src ns = filter (λ n. not (is_note_element src n)) ns

own-nodes : (src : Source) (starts : List Start) → nodes_in (own_starts src starts) ≡ plain_in src (nodes_in starts)
unfolding plain_in
own-nodes src [] = refl
own-nodes src (a ∷ starts) = by (not (is_note_element src a.node.0)) (own-nodes src starts)
  where
    by : (b : Bool) → nodes_in (own_starts src starts) ≡ plain_in src (nodes_in starts) → nodes_in (cond b (a ∷ own_starts src starts) (own_starts src starts)) ≡ cond b (a.node.0 ∷ plain_in src (nodes_in starts)) (plain_in src (nodes_in starts))
    by true e = ap (λ (l : List ℕ). a.node.0 ∷ l) e
    by false e = e

plain-append : (src : Source) (xs ys : List ℕ) → plain_in src (xs ++ ys) ≡ plain_in src xs ++ plain_in src ys
unfolding plain_in
plain-append src [] ys = refl
plain-append src (x ∷ xs) ys = by (not (is_note_element src x)) (plain-append src xs ys)
  where
    by : (b : Bool) → plain_in src (xs ++ ys) ≡ plain_in src xs ++ plain_in src ys → cond b (x ∷ plain_in src (xs ++ ys)) (plain_in src (xs ++ ys)) ≡ cond b (x ∷ plain_in src xs) (plain_in src xs) ++ plain_in src ys
    by true e = ap (λ (l : List ℕ). x ∷ l) e
    by false e = e

inner_nodes : List Built → List ℕ
inner_nodes [] = []
inner_nodes (b ∷ bodies) = nodes_in b.starts ++ inner_nodes bodies

inner-append : (xs ys : List Built) → inner_nodes (xs ++ ys) ≡ inner_nodes xs ++ inner_nodes ys
unfolding inner_nodes
inner-append [] ys = refl
inner-append (b ∷ xs) ys = ap (λ (l : List ℕ). nodes_in b.starts ++ l) (inner-append xs ys) ∙ sym (append_assoc (nodes_in b.starts) (inner_nodes xs) (inner_nodes ys))

numbered-nodes : (k : ℕ) (starts : List Start) → nodes_in (starts_in_note k starts) ≡ nodes_in starts
numbered-nodes k [] = refl
numbered-nodes k (a ∷ starts) = ap (λ (l : List ℕ). a.node.0 ∷ l) (numbered-nodes k starts)

note-nodes : (k : ℕ) (bodies : List Built) → nodes_in (note_starts k bodies) ≡ inner_nodes bodies
unfolding inner_nodes
note-nodes k [] = refl
note-nodes k (b ∷ bodies) =
    map-append (λ (a : Start). a.node.0) (starts_in_note k b.starts) (note_starts (suc k) bodies)
    ∙ ap (λ (l : List ℕ). l ++ nodes_in (note_starts (suc k) bodies)) (numbered-nodes k b.starts) ∙ ap (λ (l : List ℕ). nodes_in b.starts ++ l) (note-nodes (suc k) bodies)

-- each shown element begins in the main tree or in a note, as often as it is there
counts : (src : Source) (m : ℕ) (f : Forest) → times m (plain_in src (elements_in src f)) + times m (inner_nodes (bodies_in src f)) ≡ times m (shown_in src f)
unfolding elements_in bodies_in shown_in plain_in inner_nodes
counts src m none = refl
counts src m (node n kids more) =
    let here : List ℕ = node_elements n (role_of src n) (elements_in src kids) in
    let notes : List Built = node_bodies src n (role_of src n) kids (bodies_in src kids) in
    let a = ap (times m) (plain-append src here (elements_in src more)) in
    let b = times-append m (plain_in src here) (plain_in src (elements_in src more)) in
    let c = ap (times m) (inner-append notes (bodies_in src more)) in
    let d = times-append m (inner_nodes notes) (inner_nodes (bodies_in src more)) in
    let e = times-append m (node_shown n (role_of src n) (shown_in src kids)) (shown_in src more) in
    let h = by (role_of src n) (role-floats src n) (counts src m kids) in
    let i = counts src m more in
    omega (arith, a, b, c, d, e, h, i)
  where
    keeps : (b : Bool) (xs : List ℕ) → b ≡ false → times m (cond (not b) (n ∷ xs) xs) ≡ times m (n ∷ xs)
    keeps true xs e = cc
    keeps false xs e = refl

    drops : (b : Bool) → b ≡ true → times m (cond (not b) (n ∷ []) []) ≡ 0
    drops true e = refl
    drops false e = cc

    kept : is_note_element src n ≡ false → times m (plain_in src (elements_in src kids)) + times m (inner_nodes (bodies_in src kids)) ≡ times m (shown_in src kids) →
        times m (plain_in src (n ∷ elements_in src kids)) + times m (inner_nodes (bodies_in src kids)) ≡ times m (n ∷ shown_in src kids)
    kept f k = let q = keeps (is_note_element src n) (plain_in src (elements_in src kids)) f in omega (arith, q, k)

    by : (r : Role) → IsFloat (is_note_element src n) r → times m (plain_in src (elements_in src kids)) + times m (inner_nodes (bodies_in src kids)) ≡ times m (shown_in src kids) →
        times m (plain_in src (node_elements n r (elements_in src kids))) + times m (inner_nodes (node_bodies src n r kids (bodies_in src kids))) ≡ times m (node_shown n r (shown_in src kids))
    by hidden f k = refl
    by (text t) f k = refl
    by (inline u) f k = kept f k
    by (block u) f k = kept f k
    by (note u) f k =
        let q = drops (is_note_element src n) f in
        let w = ap (times m) (append-nil (nodes_in (body_in (in_note src) u n kids).starts) ∙ body-nodes (in_note src) n u kids ∙ ap (λ (l : List ℕ). n ∷ l) (inner-elements src kids)) in
        omega (arith, q, w)

each-start : (src : Source) (m : ℕ) → times m (nodes_in (flow_of src).starts) ≡ times m (shown_of src)
each-start src m =
    let a = ap (times m) (map-append (λ (a : Start). a.node.0) (own_starts src (built_of src).starts) (note_starts 0 (bodies_of src))) in
    let b = times-append m (nodes_in (own_starts src (built_of src).starts)) (nodes_in (note_starts 0 (bodies_of src))) in
    let c = ap (times m) (own-nodes src (built_of src).starts ∙ ap (plain_in src) (main-elements src)) in
    let d = ap (times m) (note-nodes 0 (bodies_of src)) in
    let e = counts src m (forest_of src.nodes) in
    omega (arith, a, b, c, d, e)

-- ---- each node once

-- the numbers of nodes and of all below them
unfoldable numbers : Forest → List ℕ
numbers none = []
numbers (node n kids more) = n ∷ numbers kids ++ numbers more

few-shown : (src : Source) (m : ℕ) (f : Forest) → times m (shown_in src f) ≤ times m (numbers f)
unfolding shown_in numbers
few-shown src m none = omega arith
few-shown src m (node n kids more) =
    let a = times-append m (node_shown n (role_of src n) (shown_in src kids)) (shown_in src more) in
    let b = times-append m (numbers kids) (numbers more) in
    let c = by (role_of src n) (few-shown src m kids) in
    let d = few-shown src m more in
    omega (arith, a, b, c, d)
  where
    by : (r : Role) → times m (shown_in src kids) ≤ times m (numbers kids) → times m (node_shown n r (shown_in src kids)) ≤ times m (n ∷ numbers kids)
    by hidden k = omega arith
    by (text t) k = omega arith
    by (inline u) k = omega (arith, k)
    by (block u) k = omega (arith, k)
    by (note u) k = omega (arith, k)

-- numbers after one aren't up to it
greater-times : (h m : ℕ) (f : Forest) → Greater h f → m ≤ h → times m (numbers f) ≡ 0
unfolding Greater numbers
greater-times h m none g l = refl
greater-times h m (node n kids more) g l =
    let a = times-append m (numbers kids) (numbers more) in
    let b = greater-times h m kids g.1 l in
    let c = greater-times h m more g.2 l in
    let d : times m (n ∷ []) ≡ 0 = (let far = g.0 in by (n == m) refl far) in
    omega (arith, a, b, c, d)
  where
    by : (x : Bool) → (n == m) ≡ x → h < n → one x + 0 ≡ 0
    by true e far = let same : n ≡ m = exact_unsigned_eq n m e in absurd (omega (arith, same, far, l))
    by false e far = refl

-- a node stands once among the children of its parent, and among no others
kids-before : (m n : ℕ) (qs : List (Option ℕ)) (k : ℕ) → m < k → times m (children_from n qs k) ≡ 0
kids-before m n [] k l = refl
kids-before m n (q ∷ qs) k l = by (is_at n q) (kids-before m n qs (k + 1) (omega (arith, l)))
  where
    other : (x : Bool) → (k == m) ≡ x → one x ≡ 0
    other true e = let same : k ≡ m = exact_unsigned_eq k m e in absurd (omega (arith, same, l))
    other false e = refl

    by : (b : Bool) → times m (children_from n qs (k + 1)) ≡ 0 → times m (cond b (k ∷ children_from n qs (k + 1)) (children_from n qs (k + 1))) ≡ 0
    by true e = let o = other (k == m) refl in omega (arith, o, e)
    by false e = e

kids-at : (m p n : ℕ) (qs : List (Option ℕ)) (k j : ℕ) → m ≡ k + j → slice_get qs j ≡ Some (Some p) → times m (children_from n qs k) ≡ times p (n ∷ [])
kids-at m p n [] k j e g = absurd (cc)
kids-at m p n (q ∷ qs) k zero e g =
    ap (λ (o : Option ℕ). times m (cond (is_at n o) (k ∷ children_from n qs (k + 1)) (children_from n qs (k + 1)))) is ∙ by (p == n) refl (n == p) refl
  where
    is : q ≡ Some p
    is = cc

    rest : times m (children_from n qs (k + 1)) ≡ 0
    rest = kids-before m n qs (k + 1) (omega (arith, e))

    here : times m (k ∷ []) ≡ 1
    here = let same : k ≡ m = omega (arith, e) in ap (λ (b : Bool). one b + 0) (eq-eqb k m same)

    by : (b : Bool) → (p == n) ≡ b → (c : Bool) → (n == p) ≡ c → times m (cond b (k ∷ children_from n qs (k + 1)) (children_from n qs (k + 1))) ≡ one c + 0
    by true x true y = let r = rest in let h = here in omega (arith, r, h)
    by false x false y = rest
    by true x false y = absurd (grind (arith, nat_tests))
    by false x true y = absurd (grind (arith, nat_tests))
kids-at m p n (q ∷ qs) k (suc j) e g = by (is_at n q) (kids-at m p n qs (k + 1) j (omega (arith, e)) g)
  where
    other : (x : Bool) → (k == m) ≡ x → one x ≡ 0
    other true h = let same : k ≡ m = exact_unsigned_eq k m h in absurd (omega (arith, same, e))
    other false h = refl

    by : (b : Bool) → times m (children_from n qs (k + 1)) ≡ times p (n ∷ []) → times m (cond b (k ∷ children_from n qs (k + 1)) (children_from n qs (k + 1))) ≡ times p (n ∷ [])
    by true h = let o = other (k == m) refl in omega (arith, o, h)
    by false h = h

-- nothing stands below a text, or past the depth
flat-times : (ps : List (Option ℕ)) (m : ℕ) (cs : List ℕ) → times m (numbers (side_by_side (below ps zero) cs)) ≡ times m cs
unfolding numbers
flat-times ps m [] = refl
flat-times ps m (c ∷ cs) = let r = flat-times ps m cs in omega (arith, r)

-- a node stands one deeper than its parent
side-times : (ps : List (Option ℕ)) (m p d : ℕ) → ((c : ℕ) → times m (numbers (below ps (suc d) c)) ≡ times p (c ∷ []) + times p (numbers (below ps d c))) → (cs : List ℕ) → times m (numbers (side_by_side (below ps (suc d)) cs)) ≡ times m cs + times p (numbers (side_by_side (below ps d) cs))
unfolding numbers
side-times ps m p d t [] = refl
side-times ps m p d t (c ∷ cs) =
    let r = side-times ps m p d t cs in
    let a = times-append m (numbers (below ps (suc d) c)) (numbers (side_by_side (below ps (suc d)) cs)) in
    let b = times-append p (numbers (below ps d c)) (numbers (side_by_side (below ps d) cs)) in
    let o = t c in
    omega (arith, r, a, b, o)

below-times : (ps : List (Option ℕ)) (m p : ℕ) → slice_get ps m ≡ Some (Some p) → (d n : ℕ) → times m (numbers (below ps (suc d) n)) ≡ times p (n ∷ []) + times p (numbers (below ps d n))
unfolding numbers
below-times ps m p g zero n = let a = flat-times ps m (children_of ps n) in let b = kids-at m p n ps 0 m (omega arith) g in omega (arith, a, b)
below-times ps m p g (suc d) n = let a = side-times ps m p d (λ c. below-times ps m p g d c) (children_of ps n) in let b = kids-at m p n ps 0 m (omega arith) g in omega (arith, a, b)

-- what has no parent stands below nothing
none-times : (ps : List (Option ℕ)) (m : ℕ) → AreFalling ps → parent_at ps m ≡ None → (d n : ℕ) → times m (numbers (below ps d n)) ≡ 0
unfolding numbers Under
none-times ps m falls e zero n = refl
none-times ps m falls e (suc d) n = all (λ c. none-times ps m falls e d c) (children_of ps n) (under ps n falls)
  where
    other : (c : ℕ) → parent_at ps c ≡ Some n → (x : Bool) → (c == m) ≡ x → one x ≡ 0
    other c h true q = let same : c ≡ m = exact_unsigned_eq c m q in let no : Some n ≡ None = sym h ∙ ap (parent_at ps) same ∙ e in absurd (cc)
    other c h false q = refl

    all : ((c : ℕ) → times m (numbers (below ps d c)) ≡ 0) → (cs : List ℕ) → Under ps n cs → times m (numbers (side_by_side (below ps d) cs)) ≡ 0
    all k [] u = refl
    all k (c ∷ cs) u =
        let a = times-append m (numbers (below ps d c)) (numbers (side_by_side (below ps d) cs)) in
        let b = k c in
        let r = all k cs u.2 in
        let o = other c u.0 (c == m) refl in
        omega (arith, a, b, r, o)

once-below : (ps : List (Option ℕ)) → AreFalling ps → (k m d n : ℕ) → m < k → times m (numbers (below ps d n)) ≤ 1
unfolding numbers
once-below ps falls zero m d n l = absurd (omega (arith, l))
once-below ps falls (suc k) m zero n l = omega arith
once-below ps falls (suc k) m (suc d) n l = by (λ p less. once-below ps falls k p d n less) (parent_at ps m) refl
  where
    by : ((p : ℕ) → p < k → times p (numbers (below ps d n)) ≤ 1) → (o : Option ℕ) → parent_at ps m ≡ o → times m (numbers (below ps (suc d) n)) ≤ 1
    by rec None e = let z = none-times ps m falls e (suc d) n in omega (arith, z)
    by rec (Some p) e = here (n == p) refl
      where
        t : times m (numbers (below ps (suc d) n)) ≡ times p (n ∷ []) + times p (numbers (below ps d n))
        t = below-times ps m p (parent-child ps m p e) d n

        here : (x : Bool) → (n == p) ≡ x → times m (numbers (below ps (suc d) n)) ≤ 1
        here true q =
            let same : n ≡ p = exact_unsigned_eq n p q in
            let z = greater-times n p (below ps d n) (below-greater ps d n falls) (omega (arith, same)) in
            let o : times p (n ∷ []) ≡ 1 = ap (λ (b : Bool). one b + 0) q in
            let s = t in
            omega (arith, z, o, s)
        here false q =
            let o : times p (n ∷ []) ≡ 0 = ap (λ (b : Bool). one b + 0) q in
            let less = falls m p (parent-child ps m p e) in
            let r = rec p (omega (arith, less, l)) in
            let s = t in
            omega (arith, o, r, s)

once-all : (src : Source) → IsTree src.nodes → (m : ℕ) → times m (shown_of src) ≤ 1
unfolding numbers
once-all src tree m = by (0 == m) refl
  where
    ps : List (Option ℕ)
    ps = parents_of src.nodes

    d : ℕ
    d = length src.nodes - 1

    few : times m (shown_of src) ≤ times m (0 ∷ []) + times m (numbers (below ps d 0))
    few = let a = few-shown src m (forest_of src.nodes) in let b = times-append m (numbers (below ps d 0)) [] in omega (arith, a, b)

    by : (x : Bool) → (0 == m) ≡ x → times m (shown_of src) ≤ 1
    by true q =
        let same : 0 ≡ m = exact_unsigned_eq 0 m q in
        let z = greater-times 0 m (below ps d 0) (below-greater ps d 0 (falling src.nodes tree)) (omega (arith, same)) in
        let o : times m (0 ∷ []) ≡ 1 = ap (λ (b : Bool). one b + 0) q in
        let f = few in
        omega (arith, z, o, f)
    by false q =
        let o : times m (0 ∷ []) ≡ 0 = ap (λ (b : Bool). one b + 0) q in
        let r = once-below ps (falling src.nodes tree) (suc m) m d 0 (omega arith) in
        let f = few in
        omega (arith, o, r, f)

pub elements-have-starts : ElementsHaveStarts
elements-have-starts src tree = record { each = λ n. each-start src n; once = λ n. once-all src tree n }
