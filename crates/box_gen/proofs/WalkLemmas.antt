-- The walk over the steps gathers what the nodes do.
use Rattle.std.proofs.Common.{◌≡◌, ◌∙◌, ℕ, zero, suc, ◌+◌, ◌-◌, ◌<◌, ◌==◌, Bool, true, false, cond, List, [], ◌∷◌, ◌++◌, Option, None, Some, length, option_map, slice_get, refl, sym, ap, subst, arith, append_assoc, ◌⊎◌, inl, inr}
use Rattle.std.proofs.lemmas.Bool.{eq-eqb}
use Rattle.std.proofs.lemmas.Map.Views.{exact_unsigned_eq}
use Rattle.std.proofs.lemmas.Option.{slice_get-map}
use Rattle.std.specs.List.{flat_map}
use Rattle.bk_num.specs.declared.values.Pseudo.TheVariants as pseudo
use Rattle.dom.specs.Nodes.{Node, NodeData, Element, Text, HasPlace, is_at, is_element, is_element_at, is_element_node, parents_of, parent_at, part_of, text_at, text_in, IsTree}
use Rattle.dom.specs.Walk.{children_from, children_of, tour, steps_of}
use Rattle.dom.specs.declared.walk.Step.{Step}
use Rattle.dom.specs.declared.walk.Step.TheVariants.{Enter, Leave}
use Rattle.dom.proofs.WalkLemmas.{AreFalling, falling, root-parent, parent-child}
use Rattle.style.specs.declared.style.Style.{Style}
use Rattle.style.specs.Nodes.{NodeStyles, style_at, style_of}
use Rattle.box_gen.specs.Items as item
use Rattle.box_gen.specs.Trees.{Source, Forest, none, node, side_by_side, below, forest_of, Role, text, hidden, inline, block, note, is_block, is_note_element, shown_role, element_role, role_by, role_of}
use Rattle.style.specs.Styles.{initial_style}
use Rattle.box_gen.specs.Flow.{built_of, end, nothing, with_run, first_items, text_item}
use Rattle.box_gen.specs.Gather.{Gathered, make, adds, begun, called}
use Rattle.box_gen.specs.Walk.{Walk, walk, walked, element_style, style_or_initial, style_around, innermost, enter_node, leave_node, leave_by, after_step, after_steps}
use Rattle.box_gen.proofs.FlowLemmas.{grows, grown-end}
use Rattle.box_gen.proofs.Gathering.{gather_node, gathered}

-- the steps through nodes
unfoldable pub steps_in : Forest → List Step
steps_in none = []
steps_in (node n kids more) = Enter (record { 0 = n }) ∷ steps_in kids ++ Leave (record { 0 = n }) ∷ steps_in more

after-append : (src : Source) (w : Walk) (xs ys : List Step) → after_steps src w (xs ++ ys) ≡ after_steps src (after_steps src w xs) ys
after-append src w [] ys = refl
after-append src w (x ∷ xs) ys = after-append src (after_step src w x) xs ys

-- numbers of nodes that are all greater than one
unfoldable pub Greater : ℕ → Forest → Type 0
Greater h none = Unit {0}
Greater h (node n kids more) = (h < n) × Greater h kids × Greater h more

-- nothing happens in an element that isn't shown
skips : (src : Source) (h : ℕ) (f : Forest) (g : Gathered) (bs : List Style) → Greater h f → after_steps src (walk g bs (Some h)) (steps_in f) ≡ walk g bs (Some h)
unfolding steps_in Greater
skips src h none g bs far = refl
skips src h (node n kids more) g bs far =
    let w : Walk = walk g bs (Some h) in
    after-append src w (steps_in kids) (Leave (record { 0 = n }) ∷ steps_in more)
    ∙ ap (λ (v : Walk). after_steps src v (Leave (record { 0 = n }) ∷ steps_in more)) (skips src h kids g bs far.1)
    ∙ ap (λ (v : Walk). after_steps src v (steps_in more)) (by (h == n) refl) ∙ skips src h more g bs far.2
  where
    by : (b : Bool) → (h == n) ≡ b → cond b (walk g bs None) (walk g bs (Some h)) ≡ walk g bs (Some h)
    by true e = let same : h ≡ n = exact_unsigned_eq h n e in let less = far.0 in absurd (omega (arith, same, less))
    by false e = refl

-- how the children of a node stand: none is in a text, and those of an element in its style
abbrev pub PlacedIn : ℕ → Role → Forest → (Style → Type 0) → Type 0
PlacedIn n hidden kids in_style = Greater n kids
PlacedIn n (text t) kids in_style = kids ≡ none
PlacedIn n (inline u) kids in_style = in_style u
PlacedIn n (block u) kids in_style = in_style u
PlacedIn n (note u) kids in_style = Greater n kids

-- nodes in an element of a style
unfoldable pub Placed : Source → Style → Forest → Type 0
Placed src s none = Unit {0}
Placed src s (node n kids more) = (style_around src n ≡ s) × PlacedIn n (role_of src n) kids (λ u. Placed src u kids) × Placed src s more

pub walks-in : (src : Source) (s : Style) (f : Forest) (g : Gathered) (bs : List Style) → Placed src s f → after_steps src (walk g bs None) (steps_in f) ≡ walk (gathered src s (innermost bs) f g) bs None
unfolding steps_in Placed gathered
walks-in src s none g bs p = refl
walks-in src s (node n kids more) g bs p = by (role_of src n) refl p.1 (λ u h cs q. walks-in src u kids h cs q) ∙ walks-in src s more (gather_node src s (innermost bs) n (role_of src n) (λ u c h. gathered src u c kids h) g) bs p.2
  where
    rest : List Step
    rest = Leave (record { 0 = n }) ∷ steps_in more

    -- the children's steps, and the step out
    goes : (r : Role) → role_of src n ≡ r → (v x : Walk) → after_steps src v (steps_in kids) ≡ x → x.unshown ≡ None → after_steps src v (steps_in kids ++ rest) ≡ after_steps src (leave_node src n r x) (steps_in more)
    goes r e v x k o = after-append src v (steps_in kids) rest ∙ ap (λ (y : Walk). after_steps src y rest) k ∙ ap (λ (q : Option ℕ). after_steps src (leave_by src n q x) (steps_in more)) o ∙ ap (λ (q : Role). after_steps src (leave_node src n q x) (steps_in more)) e

    by : (r : Role) → role_of src n ≡ r → PlacedIn n r kids (λ u. Placed src u kids) →
        ((u : Style) (h : Gathered) (cs : List Style) → Placed src u kids → after_steps src (walk h cs None) (steps_in kids) ≡ walk (gathered src u (innermost cs) kids h) cs None) →
        after_steps src (enter_node src n r (walk g bs None)) (steps_in kids ++ rest) ≡ after_steps src (walk (gather_node src s (innermost bs) n r (λ u c h. gathered src u c kids h) g) bs None) (steps_in more)
    by hidden e q k =
        let w : Walk = walk g bs (Some n) in
        after-append src w (steps_in kids) rest ∙ ap (λ (y : Walk). after_steps src y rest) (skips src n kids g bs q)
        ∙ ap (λ (x : Bool). after_steps src (cond x (walk g bs None) w) (steps_in more)) (eq-eqb n n refl)
    by (text t) e q k =
        let v : Walk = walk (adds (text_item src (style_around src n) t ∷ []) g) bs None in
        goes (text t) e v v (ap (λ (f : Forest). after_steps src v (steps_in f)) q) refl
        ∙ ap (λ (u : Style). after_steps src (walk (adds (text_item src u t ∷ []) g) bs None) (steps_in more)) p.0
    by (inline u) e q k =
        let h : Gathered = adds (first_items src u n) (adds (item.Start (record { 0 = n }) ∷ []) g) in
        goes (inline u) e (walk h bs None) (walk (gathered src u (innermost bs) kids h) bs None) (k u h bs q) refl
    by (block u) e q k =
        let h : Gathered = begun src (innermost bs) n u g in
        goes (block u) e (walk h (u ∷ bs) None) (walk (gathered src u u kids h) (u ∷ bs) None) (k u h (u ∷ bs) q) refl
    by (note u) e q k =
        let h : Gathered = called src n g in
        let w : Walk = walk h bs (Some n) in
        after-append src w (steps_in kids) rest ∙ ap (λ (y : Walk). after_steps src y rest) (skips src n kids h bs q)
        ∙ ap (λ (x : Bool). after_steps src (cond x (walk h bs None) w) (steps_in more)) (eq-eqb n n refl)

-- ---- the steps of a document

no-tours : (ps : List (Option ℕ)) (ns : List ℕ) → flat_map (tour ps zero) ns ≡ []
unfolding tour
no-tours ps [] = refl
no-tours ps (n ∷ ns) = no-tours ps ns

IsToured : List (Option ℕ) → ℕ → Type 0
IsToured ps d = (n : ℕ) → tour ps (suc d) n ≡ Enter (record { 0 = n }) ∷ steps_in (below ps d n) ++ Leave (record { 0 = n }) ∷ []

tours : (ps : List (Option ℕ)) (d : ℕ) (ns : List ℕ) → IsToured ps d → flat_map (tour ps (suc d)) ns ≡ steps_in (side_by_side (below ps d) ns)
unfolding steps_in IsToured
tours ps d [] h = refl
tours ps d (n ∷ ns) h =
    let out : Step = Leave (record { 0 = n }) in
    let kids : List Step = steps_in (below ps d n) in
    ap (λ (l : List Step). l ++ flat_map (tour ps (suc d)) ns) (h n) ∙ ap (λ (l : List Step). Enter (record { 0 = n }) ∷ l) (append_assoc kids (out ∷ []) (flat_map (tour ps (suc d)) ns)) ∙ ap (λ (l : List Step). Enter (record { 0 = n }) ∷ kids ++ out ∷ l) (tours ps d ns h)

toured : (ps : List (Option ℕ)) (d : ℕ) → IsToured ps d
unfolding steps_in IsToured tour
toured ps zero = λ n. ap (λ (l : List Step). Enter (record { 0 = n }) ∷ l ++ Leave (record { 0 = n }) ∷ []) (no-tours ps (children_of ps n))
toured ps (suc d) = λ n. ap (λ (l : List Step). Enter (record { 0 = n }) ∷ l ++ Leave (record { 0 = n }) ∷ []) (tours ps d (children_of ps n) (toured ps d))

pub all-steps : (nodes : List Node) → 0 < length nodes → steps_of nodes ≡ steps_in (forest_of nodes)
unfolding steps_in IsToured
all-steps nodes some = by (length nodes) refl
  where
    by : (k : ℕ) → length nodes ≡ k → tour (parents_of nodes) k 0 ≡ steps_in (node 0 (below (parents_of nodes) (k - 1) 0) none)
    by zero e = absurd (omega (arith, e, some))
    by (suc d) e = let m : suc d - 1 ≡ d = omega arith in toured (parents_of nodes) d 0 ∙ ap (λ (j : ℕ). Enter (record { 0 = 0 }) ∷ steps_in (below (parents_of nodes) j 0) ++ Leave (record { 0 = 0 }) ∷ []) (sym m)

-- ---- how the nodes of a document stand

abbrev role_style : Role → Option Style
role_style hidden = None
role_style (text t) = None
role_style (inline u) = Some u
role_style (block u) = Some u
role_style (note u) = Some u

own-by : (src : Source) (n : ℕ) (u : Style) → role_style (role_of src n) ≡ Some u → style_at src.styles n pseudo.Element ≡ Some u
own-by src n u h = by (text_at src.nodes n) (slice_get src.styles n) h
  where
    has : (s : Style) (b : Bool) → role_style (cond b (block s) (inline s)) ≡ Some u → Some s ≡ Some u
    has s true e = e
    has s false e = e

    shows : (f b : Bool) (o : Option Style) → role_style (cond b (shown_role f (n == 0) o) hidden) ≡ Some u → o ≡ Some u
    shows f false o e = cc
    shows f true None e = cc
    shows true true (Some s) e = e
    shows false true (Some s) e = has s (is_block (n == 0) s) e

    by : (t : Option (List ℕ)) (o : Option NodeStyles) → role_style (role_by (is_note_element src n) (n == 0) o t) ≡ Some u → style_of o pseudo.Element ≡ Some u
    by (Some t) o e = cc
    by None None e = cc
    by None (Some r) e = shows (is_note_element src n) r.shown r.own e

pub own-of : (src : Source) (n : ℕ) (u : Style) → (role_of src n ≡ inline u) ⊎ (role_of src n ≡ block u) → style_at src.styles n pseudo.Element ≡ Some u
own-of src n u (inl e) = own-by src n u (ap role_style e)
own-of src n u (inr e) = own-by src n u (ap role_style e)

pub own-note : (src : Source) (n : ℕ) (u : Style) → role_of src n ≡ note u → style_at src.styles n pseudo.Element ≡ Some u
own-note src n u e = own-by src n u (ap role_style e)

-- the children of a node, which have it as their parent and come after it
unfoldable pub Under : List (Option ℕ) → ℕ → List ℕ → Type 0
Under ps n [] = Unit {0}
Under ps n (c ∷ cs) = (parent_at ps c ≡ Some n) × (n < c) × Under ps n cs

under-from : (ps : List (Option ℕ)) (n : ℕ) (qs : List (Option ℕ)) (k : ℕ) → AreFalling ps → ((j : ℕ) → parent_at qs j ≡ parent_at ps (k + j)) → Under ps n (children_from n qs k)
unfolding Under
under-from ps n [] k falls h = tt
under-from ps n (q ∷ qs) k falls h = by (is_at n q) refl (under-from ps n qs (k + 1) falls (λ j. let e : k + suc j ≡ k + 1 + j = omega arith in h (suc j) ∙ ap (parent_at ps) e))
  where
    is-q : (o : Option ℕ) → is_at n o ≡ true → o ≡ Some n
    is-q None e = cc
    is-q (Some r) e = ap (λ (x : ℕ). Some x) (exact_unsigned_eq r n e)

    by : (b : Bool) → is_at n q ≡ b → Under ps n (children_from n qs (k + 1)) → Under ps n (cond b (k ∷ children_from n qs (k + 1)) (children_from n qs (k + 1)))
    by true e r = let z : k + 0 ≡ k = omega arith in let p : parent_at ps k ≡ Some n = sym (h 0 ∙ ap (parent_at ps) z) ∙ is-q q e in (p, falls k n (parent-child ps k n p), r)
    by false e r = r

pub under : (ps : List (Option ℕ)) (n : ℕ) → AreFalling ps → Under ps n (children_of ps n)
under ps n falls = under-from ps n ps 0 falls (λ j. let e : j ≡ 0 + j = omega arith in ap (parent_at ps) e)

greater : (ps : List (Option ℕ)) (h d n : ℕ) → AreFalling ps → h < n → Greater h (below ps d n)
unfolding Greater Under
greater ps h zero n falls l = tt
greater ps h (suc d) n falls l = all (λ c k. greater ps h d c falls k) (children_of ps n) (under ps n falls)
  where
    all : ((c : ℕ) → h < c → Greater h (below ps d c)) → (cs : List ℕ) → Under ps n cs → Greater h (side_by_side (below ps d) cs)
    all k [] u = tt
    all k (c ∷ cs) u = let after = u.1 in let far : h < c = omega (arith, l, after) in (far, k c far, all k cs u.2)

-- below a node stand greater numbers
pub below-greater : (ps : List (Option ℕ)) (d n : ℕ) → AreFalling ps → Greater n (below ps d n)
unfolding Greater Under
below-greater ps zero n falls = tt
below-greater ps (suc d) n falls = all (children_of ps n) (under ps n falls)
  where
    all : (cs : List ℕ) → Under ps n cs → Greater n (side_by_side (below ps d) cs)
    all [] u = tt
    all (c ∷ cs) u = (u.1, greater ps n d c falls u.1, all cs u.2)

-- a parent is an element
element-parent : (nodes : List Node) → IsTree nodes → (k p : ℕ) → slice_get (parents_of nodes) k ≡ Some (Some p) → is_element_at nodes p ≡ true
element-parent nodes t k p g = by (slice_get nodes k) refl (sym (slice_get-map (λ (n : Node). n.parent) nodes k) ∙ g)
  where
    by : (o : Option Node) → slice_get nodes k ≡ o → option_map (λ (n : Node). n.parent) o ≡ Some (Some p) → is_element_at nodes p ≡ true
    by None e h = cc
    by (Some n) e h = let q : n.parent ≡ Some p = cc in (subst (λ o. HasPlace nodes k n o) q (t.placed k n e)).1

-- a text is no element
pub text-only : (src : Source) (n : ℕ) (x : List ℕ) → role_of src n ≡ text x → is_element_at src.nodes n ≡ false
text-only src n x h = by (slice_get src.nodes n) h
  where
    f : Bool
    f = is_note_element src n

    has : (s : Style) (b : Bool) → cond b (block s) (inline s) ≡ text x → ⊥
    has s true q = cc
    has s false q = cc

    shows : (f b : Bool) (o : Option Style) → cond b (shown_role f (n == 0) o) hidden ≡ text x → ⊥
    shows f false o e = cc
    shows f true None e = cc
    shows true true (Some s) e = cc
    shows false true (Some s) e = has s (is_block (n == 0) s) e

    never : (o : Option NodeStyles) → element_role f (n == 0) o ≡ text x → ⊥
    never None e = cc
    never (Some r) e = shows f r.shown r.own e

    by : (o : Option Node) → role_by f (n == 0) (slice_get src.styles n) (part_of text_in o) ≡ text x → is_element_node o ≡ false
    by None e = absurd (never (slice_get src.styles n) e)
    by (Some m) e = of m.what e
      where
        of : (what : NodeData) → role_by f (n == 0) (slice_get src.styles n) (text_in what) ≡ text x → is_element what ≡ false
        of (Element name attrs) q = absurd (never (slice_get src.styles n) q)
        of (Text y) q = refl

-- the nodes below a node stand in its style
pub placed-in : (src : Source) → IsTree src.nodes → (d n : ℕ) → PlacedIn n (role_of src n) (below (parents_of src.nodes) d n) (λ u. Placed src u (below (parents_of src.nodes) d n))
unfolding Placed Under Greater
placed-in src t zero n = by (role_of src n)
  where
    by : (r : Role) → PlacedIn n r none (λ u. Placed src u none)
    by hidden = tt
    by (text x) = refl
    by (inline u) = tt
    by (block u) = tt
    by (note u) = tt
placed-in src t (suc d) n = by (λ c. placed-in src t d c) (role_of src n) refl
  where
    ps : List (Option ℕ)
    ps = parents_of src.nodes

    kids : Forest
    kids = side_by_side (below ps d) (children_of ps n)

    all : ((c : ℕ) → PlacedIn c (role_of src c) (below ps d c) (λ u. Placed src u (below ps d c))) → (u : Style) → style_at src.styles n pseudo.Element ≡ Some u → (cs : List ℕ) → Under ps n cs → Placed src u (side_by_side (below ps d) cs)
    all k u own [] h = tt
    all k u own (c ∷ cs) h = (ap (element_style src) h.0 ∙ ap style_or_initial own, k c, all k u own cs h.2)

    no-kids : is_element_at src.nodes n ≡ false → (cs : List ℕ) → Under ps n cs → side_by_side (below ps d) cs ≡ none
    no-kids f [] h = refl
    no-kids f (c ∷ cs) h = let e = element-parent src.nodes t c n (parent-child ps c n h.0) in absurd (cc)

    by : ((c : ℕ) → PlacedIn c (role_of src c) (below ps d c) (λ u. Placed src u (below ps d c))) → (r : Role) → role_of src n ≡ r → PlacedIn n r kids (λ u. Placed src u kids)
    by k hidden e = below-greater ps (suc d) n (falling src.nodes t)
    by k (text x) e = no-kids (text-only src n x e) (children_of ps n) (under ps n (falling src.nodes t))
    by k (inline u) e = all k u (own-of src n u (inl e)) (children_of ps n) (under ps n (falling src.nodes t))
    by k (block u) e = all k u (own-of src n u (inr e)) (children_of ps n) (under ps n (falling src.nodes t))
    by k (note u) e = below-greater ps (suc d) n (falling src.nodes t)

-- the nodes below an element stand in its style
pub placed-kids : (src : Source) → IsTree src.nodes → (d n : ℕ) (u : Style) → style_at src.styles n pseudo.Element ≡ Some u → Placed src u (below (parents_of src.nodes) d n)
unfolding Placed Under
placed-kids src t zero n u own = tt
placed-kids src t (suc d) n u own = all (children_of ps n) (under ps n (falling src.nodes t))
  where
    ps : List (Option ℕ)
    ps = parents_of src.nodes

    all : (cs : List ℕ) → Under ps n cs → Placed src u (side_by_side (below ps d) cs)
    all [] h = tt
    all (c ∷ cs) h = (ap (element_style src) h.0 ∙ ap style_or_initial own, placed-in src t d c, all cs h.2)

-- the walk over a document builds its main tree
pub walk-main : (src : Source) → IsTree src.nodes → built_of src ≡ with_run src initial_style true (walked src).gathered.built (walked src).gathered.run
unfolding Placed
walk-main src t =
    let kids : Forest = below (parents_of src.nodes) (length src.nodes - 1) 0 in
    let f : Forest = node 0 kids none in
    let place : Placed src initial_style f = (ap (element_style src) (root-parent src.nodes t), placed-in src t (length src.nodes - 1) 0, tt) in
    let g : Gathered = gathered src initial_style initial_style f (make nothing []) in
    let all : after_steps src (walk (make nothing []) [] None) (steps_of src.nodes) ≡ walk g [] None = ap (after_steps src (walk (make nothing []) [] None)) (all-steps src.nodes t.some) ∙ walks-in src initial_style f (make nothing []) [] place in
    grows src initial_style initial_style f true nothing [] end (λ e. refl) ∙ grown-end src initial_style true g.built g.run ∙ sym (ap (λ (w : Walk). with_run src initial_style true w.gathered.built w.gathered.run) all)
