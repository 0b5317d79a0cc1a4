-- the walk below an element, past what is left out
use Rattle.std.proofs.Common.{◌≡◌, ℕ, zero, suc, ◌+◌, ◌-◌, ◌<◌, ◌≤◌, ◌==◌, Bool, true, false, not, cond, ◌&&◌, List, [], ◌∷◌, ◌++◌, Option, None, Some, drop, length, slice_get, option_map, refl, sym, ◌∙◌, ap, subst, arith, append_assoc, append-nil, length-append}
use Rattle.std.proofs.lemmas.Bool.{eq-eqb, and_parts}
use Rattle.std.proofs.lemmas.Map.Views.{exact_unsigned_eq}
use Rattle.std.proofs.lemmas.Option.{slice_get-map, slice_get_within}
use Rattle.std.proofs.lemmas.List.{drop-drop}
use Rattle.std.proofs.lemmas.List.Folds.{list_all-append}
use Rattle.std.proofs.lemmas.Grind.{flat_map-append}
use Rattle.std.specs.List.{flat_map, list_all}
use Rattle.counters.specs.Document.{leaves}
use Rattle.bk_num.specs.declared.ids.NodeId.{NodeId}
use Rattle.bk_num.proofs.ListLemmas.{get-drop}
use Rattle.dom.specs.Nodes.{Node, NodeData, Element, Text, is_at, flat, first_from, next_under, next_of, first_child_of, parents_of, parent_at, depth_of, depth_at, is_element, is_element_node, is_element_at, text_in, part_of, text_at, IsTree, HasPlace}
use Rattle.dom.specs.Order.{way}
use Rattle.dom.specs.Walk.{children_from, children_of, tour, node_of}
use Rattle.dom.specs.WalkFields.{tour_at, tours_of, steps_from}
use Rattle.dom.specs.declared.walk.Step.{Step}
use Rattle.dom.specs.declared.walk.Step.TheVariants.{Enter, Leave}
use Rattle.dom.proofs.WalkLemmas.{first-child, no-children, falling, tour-unfold, enter-child, enter-leaf, after-sibling, after-last, parent-child, parent-below}
use Rattle.dom.proofs.IdLemmas.{length-parents}
use Rattle.style.specs.Nodes.{NodeStyles}
use Rattle.gen_text.specs.declared.own.Ending.{Ending}
use Rattle.gen_text.specs.declared.own.Ending.TheVariants as ending
use Rattle.gen_text.specs.Own.{is_left_out, way_below, is_kept, kept_text, texts_below, own_text, added, ending_after, text_of_step, step_to, step_inside, step_out, step_on, step_beyond, step_after}
use Rattle.gen_text.specs.Parts.{attribute_text}
use Rattle.gen_text.proofs.WordLemmas.{added-all, added-append}

-- ---- parents and depths

-- a node is one deeper than its parent
depth-child : (nodes : List Node) → IsTree nodes → (n p : ℕ) → parent_at (parents_of nodes) n ≡ Some p → depth_at nodes n ≡ depth_at nodes p + 1
depth-child nodes tree n p h = by (slice_get nodes n) refl (sym (slice_get-map (λ (k : Node). k.parent) nodes n) ∙ parent-child (parents_of nodes) n p h)
  where
    placed : (k : Node) → k.parent ≡ Some p → HasPlace nodes n k k.parent → k.depth ≡ depth_at nodes p + 1
    placed k e g = (subst (λ o. HasPlace nodes n k o) e g).2

    by : (o : Option Node) → slice_get nodes n ≡ o → option_map (λ (k : Node). k.parent) o ≡ Some (Some p) → depth_at nodes n ≡ depth_at nodes p + 1
    by None e g = cc
    by (Some k) e g = let q : k.parent ≡ Some p = cc in ap depth_of e ∙ placed k q (tree.placed n k e)

-- an element has no text
no-text : (nodes : List Node) (n : ℕ) → is_element_at nodes n ≡ true → text_at nodes n ≡ None
no-text nodes n h = by (slice_get nodes n) refl h
  where
    of : (d : NodeData) → is_element d ≡ true → text_in d ≡ None
    of (Element name attrs) h = refl
    of (Text t) h = cc

    by : (o : Option Node) → slice_get nodes n ≡ o → is_element_node o ≡ true → part_of text_in o ≡ None
    by None e h = refl
    by (Some k) e h = of k.what h

left-out-element : (nodes : List Node) (styles : List NodeStyles) (n : ℕ) → is_left_out nodes styles n ≡ true → is_element_at nodes n ≡ true
left-out-element nodes styles n h = (and_parts (is_element_at nodes n) _ h).0

-- ---- what is kept

-- the element itself is
kept-self : (nodes : List Node) (styles : List NodeStyles) (e : ℕ) → is_kept nodes styles e e ≡ true
kept-self nodes styles e = let z : depth_at nodes e - depth_at nodes e ≡ 0 = omega arith in rw z refl

-- a child is kept where its parent is, and it isn't left out
kept-child : (nodes : List Node) (styles : List NodeStyles) → IsTree nodes → (e p n : ℕ) → parent_at (parents_of nodes) n ≡ Some p → depth_at nodes e ≤ depth_at nodes p → is_kept nodes styles e n ≡ (is_kept nodes styles e p && (not (is_left_out nodes styles n) && true))
kept-child nodes styles tree e p n h l =
    let deeper = depth-child nodes tree n p h in
    let d : depth_at nodes n - depth_at nodes e ≡ suc (depth_at nodes p - depth_at nodes e) = omega arith in
    let whole : way_below nodes e n ≡ way_below nodes e p ++ n ∷ [] = ap (λ k. way (parents_of nodes) k (Some n)) d ∙ ap (λ q. way (parents_of nodes) (depth_at nodes p - depth_at nodes e) q ++ n ∷ []) h in
    ap (list_all (λ a. not (is_left_out nodes styles a))) whole ∙ list_all-append (λ a. not (is_left_out nodes styles a)) (way_below nodes e p) (n ∷ [])

and-false : (a : Bool) → (a && (false && true)) ≡ false
and-false true = refl
and-false false = refl

-- tours that add nothing at each child
nothing-from : (f : Step → List ℕ) (g : ℕ → List Step) (p : ℕ) (qs : List (Option ℕ)) (k : ℕ) → ((m : ℕ) → slice_get qs m ≡ Some (Some p) → flat_map f (g (k + m)) ≡ []) → flat_map f (flat_map g (children_from p qs k)) ≡ []
nothing-from f g p [] k none = refl
nothing-from f g p (q ∷ qs) k none = by q refl (nothing-from f g p qs (k + 1) (λ m h. let e : k + 1 + m ≡ k + suc m = omega arith in rw e (none (suc m) h)))
  where
    by : (o : Option ℕ) → q ≡ o → flat_map f (flat_map g (children_from p qs (k + 1))) ≡ [] → flat_map f (flat_map g (cond (is_at p o) (k ∷ children_from p qs (k + 1)) (children_from p qs (k + 1)))) ≡ []
    by None e h = h
    by (Some s) e h = of (s == p) refl
      where
        of : (b : Bool) → (s == p) ≡ b → flat_map f (flat_map g (cond b (k ∷ children_from p qs (k + 1)) (children_from p qs (k + 1)))) ≡ []
        of true t =
            let z : k + 0 ≡ k = omega arith in
            let here : flat_map f (g k) ≡ [] = subst (λ n. flat_map f (g n) ≡ []) z (none 0 (rw (e, exact_unsigned_eq s p t) refl)) in
            flat_map-append f (g k) (flat_map g (children_from p qs (k + 1))) ∙ ap (λ l. l ++ flat_map f (flat_map g (children_from p qs (k + 1)))) here ∙ h
        of false t = h

-- nothing below a node that isn't kept is kept
nothing-below : (nodes : List Node) (styles : List NodeStyles) → IsTree nodes → (e d n : ℕ) → depth_at nodes e ≤ depth_at nodes n → is_kept nodes styles e n ≡ false → flat_map (kept_text nodes styles e) (tour (parents_of nodes) d n) ≡ []
unfolding tour
nothing-below nodes styles tree e zero n l h = refl
nothing-below nodes styles tree e (suc d) n l h = rw h (flat_map-append (kept_text nodes styles e) (flat_map (tour (parents_of nodes) d) (children_of (parents_of nodes) n)) (Leave (record { 0 = n }) ∷ []) ∙ rw (nothing-from (kept_text nodes styles e) (tour (parents_of nodes) d) n (parents_of nodes) 0 (child (λ m deep out. nothing-below nodes styles tree e d m deep out))) refl)
  where
    child : ((m : ℕ) → depth_at nodes e ≤ depth_at nodes m → is_kept nodes styles e m ≡ false → flat_map (kept_text nodes styles e) (tour (parents_of nodes) d m) ≡ []) → (m : ℕ) → slice_get (parents_of nodes) m ≡ Some (Some n) → flat_map (kept_text nodes styles e) (tour (parents_of nodes) d (0 + m)) ≡ []
    child rec m g =
        let z : 0 + m ≡ m = omega arith in
        let up : parent_at (parents_of nodes) m ≡ Some n = ap flat g in
        let deeper = depth-child nodes tree m n up in
        let out : is_kept nodes styles e m ≡ false = kept-child nodes styles tree e n m up l ∙ ap (λ b. b && (not (is_left_out nodes styles m) && true)) h in
        rw z (rec m (omega (arith, deeper, l)) out)

-- ---- what is left below an element

-- a node's later siblings
abbrev pub later : List (Option ℕ) → ℕ → ℕ → List ℕ
later ps p n = children_from p (drop (n + 1) ps) (n + 1)

-- the next sibling, and those after it
later-step : (ps : List (Option ℕ)) (p n s : ℕ) → first_from p (drop (n + 1) ps) (n + 1) ≡ Some s → (slice_get ps s ≡ Some (Some p)) × (later ps p n ≡ s ∷ later ps p s)
later-step ps p n s h =
    let first = first-child p (drop (n + 1) ps) (n + 1) s h in
    let at = first.at in
    let past : n + 1 + (first.place + 1) ≡ s + 1 = omega arith in
    (rw at (sym (get-drop ps (n + 1) first.place) ∙ first.child), first.all ∙ ap (λ d. s ∷ children_from p d (s + 1)) (drop-drop (first.place + 1) (n + 1) ps ∙ ap (λ m. drop m ps) past))

-- a node's children, from the first one
children-step : (ps : List (Option ℕ)) (n c : ℕ) → first_child_of ps n ≡ Some c → (slice_get ps c ≡ Some (Some n)) × (children_of ps n ≡ c ∷ later ps n c)
children-step ps n c h =
    let first = first-child n ps 0 c h in
    let place : first.place ≡ c = (let a = first.at in omega arith) in
    (subst (λ m. slice_get ps m ≡ Some (Some n)) place first.child, subst (λ m. children_of ps n ≡ c ∷ children_from n (drop (m + 1) ps) (c + 1)) place first.all)

-- what is left below an element after a node below it is left, whose parent is kept
pub data Rest (nodes : List Node) (styles : List NodeStyles) (e : ℕ) : ℕ → List Step → Type 0 where
  top : (n : ℕ) (r : List Step) → parent_at (parents_of nodes) n ≡ Some e → r ≡ tours_of (parents_of nodes) (later (parents_of nodes) e n) → Rest nodes styles e n r
  up : (n : ℕ) (r : List Step) (p : ℕ) (s : List Step) → parent_at (parents_of nodes) n ≡ Some p → is_kept nodes styles e p ≡ true → depth_at nodes e ≤ depth_at nodes p → Rest nodes styles e p s → r ≡ tours_of (parents_of nodes) (later (parents_of nodes) p n) ++ Leave (record { 0 = p }) ∷ s → Rest nodes styles e n r

-- from a step on
pub data Left (nodes : List Node) (styles : List NodeStyles) (e : ℕ) : Step → List Step → Type 0 where
  entering : (n : NodeId) (todo r : List Step) → Rest nodes styles e n.0 r → todo ≡ tour_at (parents_of nodes) n.0 ++ r → Left nodes styles e (Enter n) todo
  leaving : (n : NodeId) (todo : List Step) → Rest nodes styles e n.0 todo → Left nodes styles e (Leave n) todo
  ended : (n : NodeId) (todo : List Step) → n.0 ≡ e → todo ≡ [] → Left nodes styles e (Leave n) todo

-- a node below an element comes after it in number
rest-above : (nodes : List Node) (styles : List NodeStyles) → IsTree nodes → (e n : ℕ) (r : List Step) → Rest nodes styles e n r → e < n
rest-above nodes styles tree e n r (top _ _ h q) = parent-below nodes tree n e h
rest-above nodes styles tree e n r (up _ _ p s h k l rest q) = let a = rest-above nodes styles tree e p s rest in let b = parent-below nodes tree n p h in omega (arith, a, b)

record HasKeptParent (nodes : List Node) (styles : List NodeStyles) (e n : ℕ) : Type 0 where
  parent : ℕ
  is : parent_at (parents_of nodes) n ≡ Some parent
  kept : is_kept nodes styles e parent ≡ true
  deep : depth_at nodes e ≤ depth_at nodes parent

rest-parent : (nodes : List Node) (styles : List NodeStyles) (e n : ℕ) (r : List Step) → Rest nodes styles e n r → HasKeptParent nodes styles e n
rest-parent nodes styles e n r (top _ _ h q) = record { parent = e; is = h; kept = kept-self nodes styles e; deep = (omega arith) }
rest-parent nodes styles e n r (up _ _ p s h k l rest q) = record { parent = p; is = h; kept = k; deep = l }

rest-kept : (nodes : List Node) (styles : List NodeStyles) → IsTree nodes → (e n : ℕ) (r : List Step) → Rest nodes styles e n r → is_kept nodes styles e n ≡ (not (is_left_out nodes styles n) && true)
rest-kept nodes styles tree e n r rest = let p = rest-parent nodes styles e n r rest in kept-child nodes styles tree e p.parent n p.is p.deep ∙ ap (λ b. b && (not (is_left_out nodes styles n) && true)) p.kept

rest-deep : (nodes : List Node) (styles : List NodeStyles) → IsTree nodes → (e n : ℕ) (r : List Step) → Rest nodes styles e n r → depth_at nodes e ≤ depth_at nodes n
rest-deep nodes styles tree e n r rest = let p = rest-parent nodes styles e n r rest in let d = depth-child nodes tree n p.parent p.is in let l = p.deep in omega (arith, d, l)

-- ---- one step after another

-- after a step: what is left, what the step adds, and that fewer steps are left in the document
record Turn (nodes : List Node) (styles : List NodeStyles) (e : ℕ) (s next : Step) (todo : List Step) : Type 0 where
  more : List Step
  left : Left nodes styles e next more
  texts : flat_map (kept_text nodes styles e) todo ≡ text_of_step nodes s ++ flat_map (kept_text nodes styles e) more
  within : node_of next < length nodes
  fewer : length (steps_from (parents_of nodes) (Some next)) < length (steps_from (parents_of nodes) (Some s))

-- past an element that is left out
turn-out : (nodes : List Node) (styles : List NodeStyles) → IsTree nodes → (e : ℕ) (n : NodeId) (todo r : List Step) → Rest nodes styles e n.0 r → todo ≡ tour_at (parents_of nodes) n.0 ++ r → n.0 < length nodes → is_left_out nodes styles n.0 ≡ true → Turn nodes styles e (Enter n) (Leave n) todo
turn-out nodes styles tree e n todo r rest is within out = record {
  more = r;
  left = leaving n r rest;
  texts = ap (flat_map f) is ∙ flat_map-append f (tour_at ps n.0) r ∙ ap (λ l. l ++ flat_map f r) none ∙ ap (λ o. attribute_text o ++ flat_map f r) (sym text);
  within = within;
  fewer = (let u = ap length (tour-unfold ps n.0 (falling nodes tree) size) in simp length-append (let v = simp length-append at u in omega (arith, v)));
}
  where
    ps : List (Option ℕ)
    ps = parents_of nodes

    f : Step → List ℕ
    f = kept_text nodes styles e

    size : n.0 < length (parents_of nodes)
    size = let z = length-parents nodes in omega (arith, z, within)

    text : text_at nodes n.0 ≡ None
    text = no-text nodes n.0 (left-out-element nodes styles n.0 out)

    unkept : is_kept nodes styles e n.0 ≡ false
    unkept = rest-kept nodes styles tree e n.0 r rest ∙ ap (λ b. not b && true) out

    none : flat_map f (tour_at ps n.0) ≡ []
    none = nothing-below nodes styles tree e (length ps - n.0) n.0 (rest-deep nodes styles tree e n.0 r rest) unkept

tour-child : (n : NodeId) (a b r : List Step) → (Enter n ∷ ((a ++ b) ++ Leave n ∷ [])) ++ r ≡ Enter n ∷ (a ++ (b ++ Leave n ∷ r))
tour-child n a b r = ap (λ l. Enter n ∷ l) (append_assoc (a ++ b) (Leave n ∷ []) r ∙ append_assoc a b (Leave n ∷ r))

-- into the first child
turn-child : (nodes : List Node) (styles : List NodeStyles) → IsTree nodes → (e : ℕ) (n : NodeId) (todo r : List Step) (c : ℕ) → Rest nodes styles e n.0 r → todo ≡ tour_at (parents_of nodes) n.0 ++ r → n.0 < length nodes → is_left_out nodes styles n.0 ≡ false → first_child_of (parents_of nodes) n.0 ≡ Some c → Turn nodes styles e (Enter n) (Enter (record { 0 = c })) todo
turn-child nodes styles tree e n todo r c rest is within out first = record {
  more = tour_at ps c ++ (tours_of ps (later ps n.0 c) ++ Leave n ∷ r);
  left = entering (record { 0 = c }) _ (tours_of ps (later ps n.0 c) ++ Leave n ∷ r) (up c _ n.0 r (ap flat child.0) kept (rest-deep nodes styles tree e n.0 r rest) rest refl) refl;
  texts = ap (flat_map f) (is ∙ whole) ∙ ap (λ b. cond b (attribute_text (text_at nodes n.0)) [] ++ flat_map f (tour_at ps c ++ (tours_of ps (later ps n.0 c) ++ Leave n ∷ r))) kept;
  within = (let w = slice_get_within ps c (Some n.0) child.0 in let z = length-parents nodes in omega (arith, w, z));
  fewer = (let u = ap length (enter-child ps n.0 c (falling nodes tree) size first).1 in omega (arith, u));
}
  where
    ps : List (Option ℕ)
    ps = parents_of nodes

    f : Step → List ℕ
    f = kept_text nodes styles e

    size : n.0 < length (parents_of nodes)
    size = let z = length-parents nodes in omega (arith, z, within)

    child : (slice_get (parents_of nodes) c ≡ Some (Some n.0)) × (children_of (parents_of nodes) n.0 ≡ c ∷ later (parents_of nodes) n.0 c)
    child = children-step (parents_of nodes) n.0 c first

    kept : is_kept nodes styles e n.0 ≡ true
    kept = rest-kept nodes styles tree e n.0 r rest ∙ ap (λ b. not b && true) out

    whole : tour_at (parents_of nodes) n.0 ++ r ≡ Enter n ∷ (tour_at (parents_of nodes) c ++ (tours_of (parents_of nodes) (later (parents_of nodes) n.0 c) ++ Leave n ∷ r))
    whole = ap (λ t. t ++ r) (tour-unfold (parents_of nodes) n.0 (falling nodes tree) size ∙ ap (λ l. Enter n ∷ (tours_of (parents_of nodes) l ++ Leave n ∷ [])) child.1) ∙ tour-child n (tour_at (parents_of nodes) c) (tours_of (parents_of nodes) (later (parents_of nodes) n.0 c)) r

-- out of a node without children
turn-leaf : (nodes : List Node) (styles : List NodeStyles) → IsTree nodes → (e : ℕ) (n : NodeId) (todo r : List Step) → Rest nodes styles e n.0 r → todo ≡ tour_at (parents_of nodes) n.0 ++ r → n.0 < length nodes → is_left_out nodes styles n.0 ≡ false → first_child_of (parents_of nodes) n.0 ≡ None → Turn nodes styles e (Enter n) (Leave n) todo
turn-leaf nodes styles tree e n todo r rest is within out none = record {
  more = r;
  left = leaving n r rest;
  texts = ap (flat_map f) (is ∙ whole) ∙ ap (λ b. cond b (attribute_text (text_at nodes n.0)) [] ++ flat_map f r) kept;
  within = within;
  fewer = (let u = ap length (enter-leaf ps n.0 (falling nodes tree) size none) in omega (arith, u));
}
  where
    ps : List (Option ℕ)
    ps = parents_of nodes

    f : Step → List ℕ
    f = kept_text nodes styles e

    size : n.0 < length (parents_of nodes)
    size = let z = length-parents nodes in omega (arith, z, within)

    kept : is_kept nodes styles e n.0 ≡ true
    kept = rest-kept nodes styles tree e n.0 r rest ∙ ap (λ b. not b && true) out

    whole : tour_at (parents_of nodes) n.0 ++ r ≡ Enter n ∷ (Leave n ∷ r)
    whole = ap (λ t. t ++ r) (tour-unfold (parents_of nodes) n.0 (falling nodes tree) size ∙ ap (λ l. Enter n ∷ (tours_of (parents_of nodes) l ++ Leave n ∷ [])) (no-children n.0 (parents_of nodes) 0 none))

turn-enter : (nodes : List Node) (styles : List NodeStyles) → IsTree nodes → (e : ℕ) (n : NodeId) (todo r : List Step) → Rest nodes styles e n.0 r → todo ≡ tour_at (parents_of nodes) n.0 ++ r → n.0 < length nodes → Turn nodes styles e (Enter n) (step_after nodes styles (Enter n)) todo
turn-enter nodes styles tree e n todo r rest is within = by (is_left_out nodes styles n.0) refl (first_child_of (parents_of nodes) n.0) refl
  where
    by : (b : Bool) → is_left_out nodes styles n.0 ≡ b → (o : Option ℕ) → first_child_of (parents_of nodes) n.0 ≡ o → Turn nodes styles e (Enter n) (cond b (Leave n) (step_to n.0 o)) todo
    by true out o h = turn-out nodes styles tree e n todo r rest is within out
    by false out (Some c) h = turn-child nodes styles tree e n todo r c rest is within out h
    by false out None h = turn-leaf nodes styles tree e n todo r rest is within out h

-- into the next sibling
sibling-left : (nodes : List Node) (styles : List NodeStyles) (e n s : ℕ) (todo : List Step) → Rest nodes styles e n todo → next_of (parents_of nodes) n ≡ Some s → Left nodes styles e (Enter (record { 0 = s })) todo
sibling-left nodes styles e n s todo (top _ _ h is) next =
    let later = later-step (parents_of nodes) e n s (subst (λ o. next_under (parents_of nodes) n o ≡ Some s) h next) in
    entering (record { 0 = s }) todo _ (top s _ (ap flat later.0) refl) (is ∙ ap (tours_of (parents_of nodes)) later.1)
sibling-left nodes styles e n s todo (up _ _ p r h k l rest is) next =
    let ps : List (Option ℕ) = parents_of nodes in
    let after = later-step (parents_of nodes) p n s (subst (λ o. next_under (parents_of nodes) n o ≡ Some s) h next) in
    entering (record { 0 = s }) todo _ (up s _ p r (ap flat after.0) k l rest refl) (is ∙ ap (λ c. tours_of (parents_of nodes) c ++ Leave (record { 0 = p }) ∷ r) after.1 ∙ append_assoc (tour_at (parents_of nodes) s) (tours_of (parents_of nodes) (later (parents_of nodes) p s)) (Leave (record { 0 = p }) ∷ r))

-- out of the parent
parent-turn : (nodes : List Node) (styles : List NodeStyles) → IsTree nodes → (e : ℕ) (n : NodeId) (todo : List Step) → n.0 < length nodes → Rest nodes styles e n.0 todo → next_of (parents_of nodes) n.0 ≡ None → Turn nodes styles e (Leave n) (step_out n.0 (parent_at (parents_of nodes) n.0)) todo
parent-turn nodes styles tree e n todo within (top _ _ h is) none =
    let ps : List (Option ℕ) = parents_of nodes in
    let last = after-last nodes n.0 e tree within none h in
    subst (λ o. Turn nodes styles e (Leave n) (step_out n.0 o) todo) (sym h) (record {
      more = [];
      left = ended (record { 0 = e }) [] refl refl;
      texts = ap (flat_map (kept_text nodes styles e)) (is ∙ ap (tours_of (parents_of nodes)) (no-children e (drop (n.0 + 1) (parents_of nodes)) (n.0 + 1) (subst (λ o. next_under (parents_of nodes) n.0 o ≡ None) h none)));
      within = last.0;
      fewer = (let u = ap length last.1 in omega (arith, u));
    })
parent-turn nodes styles tree e n todo within (up _ _ p r h k l rest is) none =
    let last = after-last nodes n.0 p tree within none h in
    subst (λ o. Turn nodes styles e (Leave n) (step_out n.0 o) todo) (sym h) (record {
      more = r;
      left = leaving (record { 0 = p }) r rest;
      texts = ap (flat_map (kept_text nodes styles e)) (is ∙ ap (λ c. tours_of (parents_of nodes) c ++ Leave (record { 0 = p }) ∷ r) (no-children p (drop (n.0 + 1) (parents_of nodes)) (n.0 + 1) (subst (λ o. next_under (parents_of nodes) n.0 o ≡ None) h none)));
      within = last.0;
      fewer = (let u = ap length last.1 in omega (arith, u));
    })

turn-leave : (nodes : List Node) (styles : List NodeStyles) → IsTree nodes → (e : ℕ) (n : NodeId) (todo : List Step) → n.0 < length nodes → Rest nodes styles e n.0 todo → Turn nodes styles e (Leave n) (step_beyond nodes n.0) todo
turn-leave nodes styles tree e n todo within rest = by (next_of (parents_of nodes) n.0) refl
  where
    by : (o : Option ℕ) → next_of (parents_of nodes) n.0 ≡ o → Turn nodes styles e (Leave n) (step_on n.0 o (parent_at (parents_of nodes) n.0)) todo
    by (Some s) h =
        let after = after-sibling nodes n.0 s tree h in
        record {
          more = todo;
          left = sibling-left nodes styles e n.0 s todo rest h;
          texts = refl;
          within = after.0;
          fewer = (let u = ap length after.1 in omega (arith, u));
        }
    by None h = parent-turn nodes styles tree e n todo within rest h

turn : (nodes : List Node) (styles : List NodeStyles) → IsTree nodes → (e : ℕ) (s : Step) (todo : List Step) → Left nodes styles e s todo → leaves e s ≡ false → node_of s < length nodes → Turn nodes styles e s (step_after nodes styles s) todo
turn nodes styles tree e s todo (entering n _ r rest is) going within = turn-enter nodes styles tree e n todo r rest is within
turn nodes styles tree e s todo (leaving n _ rest) going within = turn-leave nodes styles tree e n todo within rest
turn nodes styles tree e s todo (ended n _ same is) going within = (let w = eq-eqb n.0 e same in cc)

-- ---- the whole walk

-- the walk below an element at a step: what was appended, and what the rest adds to that
pub record Going (nodes : List Node) (styles : List NodeStyles) (e : ℕ) (s : Step) (t : Ending) (old new : List ℕ) : Type 0 where
  pub todo : List Step
  pub left : Left nodes styles e s todo
  pub within : node_of s < length nodes
  pub text : new ++ added t (flat_map (kept_text nodes styles e) todo) ≡ old ++ own_text nodes styles e

start-left : (nodes : List Node) (styles : List NodeStyles) (e : ℕ) → Left nodes styles e (step_inside nodes e) (tours_of (parents_of nodes) (children_of (parents_of nodes) e))
start-left nodes styles e = by (first_child_of (parents_of nodes) e) refl
  where
    by : (o : Option ℕ) → first_child_of (parents_of nodes) e ≡ o → Left nodes styles e (step_to e o) (tours_of (parents_of nodes) (children_of (parents_of nodes) e))
    by None h = ended (record { 0 = e }) _ refl (ap (tours_of (parents_of nodes)) (no-children e (parents_of nodes) 0 h))
    by (Some c) h = let child = children-step (parents_of nodes) e c h in entering (record { 0 = c }) _ _ (top c _ (ap flat child.0) refl) (ap (tours_of (parents_of nodes)) child.1)

start-within : (nodes : List Node) (e : ℕ) → e < length nodes → node_of (step_inside nodes e) < length nodes
start-within nodes e l = by (first_child_of (parents_of nodes) e) refl
  where
    by : (o : Option ℕ) → first_child_of (parents_of nodes) e ≡ o → node_of (step_to e o) < length nodes
    by None h = l
    by (Some c) h = let child = children-step (parents_of nodes) e c h in let w = slice_get_within (parents_of nodes) c (Some e) child.0 in let z = length-parents nodes in omega (arith, w, z)

pub going_start : (nodes : List Node) (styles : List NodeStyles) (e : ℕ) (s : Step) (old : List ℕ) → e < length nodes → s ≡ step_inside nodes e → Going nodes styles e s ending.Nothing old old
going_start nodes styles e s old l is = record {
  todo = tours_of (parents_of nodes) (children_of (parents_of nodes) e);
  left = rw is (start-left nodes styles e);
  within = rw is (start-within nodes e l);
  text = ap (λ t. old ++ t) (added-all (texts_below nodes styles e));
}

pub going_turn : (nodes : List Node) (styles : List NodeStyles) → IsTree nodes → (e : ℕ) (s next : Step) (t u : Ending) (old new more : List ℕ) → Going nodes styles e s t old new → leaves e s ≡ false → next ≡ step_after nodes styles s → more ≡ new ++ added t (text_of_step nodes s) → u ≡ ending_after t (text_of_step nodes s) → Going nodes styles e next u old more × (length (steps_from (parents_of nodes) (Some next)) < length (steps_from (parents_of nodes) (Some s)))
going_turn nodes styles tree e s next t u old new more going on is grown ends =
    let w = turn nodes styles tree e s going.todo going.left on going.within in
    let x : List ℕ = text_of_step nodes s in
    let y : List ℕ = flat_map (kept_text nodes styles e) w.more in (
      record {
        todo = w.more;
        left = rw is w.left;
        within = rw is w.within;
        text = rw (grown, ends) (append_assoc new (added t x) (added (ending_after t x) y) ∙ ap (λ l. new ++ l) (sym (added-append t x y)) ∙ ap (λ l. new ++ added t l) (sym w.texts) ∙ going.text);
      },
      rw is w.fewer,
    )

pub going_end : (nodes : List Node) (styles : List NodeStyles) → IsTree nodes → (e : ℕ) (s : Step) (t : Ending) (old new : List ℕ) → Going nodes styles e s t old new → leaves e s ≡ true → new ≡ old ++ own_text nodes styles e
going_end nodes styles tree e s t old new going is = sym (append-nil new) ∙ ap (λ l. new ++ added t (flat_map (kept_text nodes styles e) l)) (sym (by s going.todo going.left is)) ∙ going.text
  where
    by : (s : Step) (todo : List Step) → Left nodes styles e s todo → leaves e s ≡ true → todo ≡ []
    by s todo (entering n _ r rest q) h = cc
    by s todo (leaving n _ rest) h = let a = rest-above nodes styles tree e n.0 todo rest in let b = exact_unsigned_eq n.0 e h in absurd (omega (arith, a, b))
    by s todo (ended n _ same q) h = q
