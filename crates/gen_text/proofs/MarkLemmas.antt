-- marks of nodes, and the list of the marked ones
use Rattle.std.proofs.Common.{◌≡◌, ◌≢◌, ◌↔◌, ◌⊎◌, inl, inr, ℕ, zero, suc, ◌+◌, ◌<◌, ◌≤◌, Bool, true, false, List, [], ◌∷◌, ◌++◌, Option, None, Some, length, map, get_or, set, replicate, sym, ◌∙◌, ap, subst, arith}
use Rattle.std.specs.List.{Contains}
use Rattle.std.proofs.lemmas.Bool.{cases_lt, cases_eq}
use Rattle.std.proofs.lemmas.List.{get_or-set_same, get_or-set_other}
use Rattle.std.proofs.lemmas.List.Elements.{Contains-push, Contains-push_cases, Contains-append_left, Contains-append_right, Contains-append_cases}
use Rattle.dom.specs.Nodes.{Node, IsTree}
use Rattle.dom.proofs.OrderLemmas.{first-one}
use Rattle.style.specs.declared.content.Link.{Link}
use Rattle.style.specs.Nodes.{NodeStyles}
use Rattle.style.specs.declared.content.Part.{Part}
use Rattle.std.specs.Prelude.{take}
use Rattle.std.specs.List.{flat_map}
use Rattle.std.proofs.lemmas.List.{take_more, flat_map_more}
use Rattle.gen_text.specs.References.{links_by}
use Rattle.gen_text.specs.Target.{IsTarget, IsOfId, address_of, id_in}
use Rattle.gen_text.specs.References.{page_links, LeadTo, IsNamedBelow, IsMarked, Marks, MarkedBelow, AreMarked, AreTargets}
use Rattle.bk_num.specs.declared.ids.NodeId.{NodeId}
use Rattle.bk_num.proofs.ListLemmas.{contains-none, contains-one}
use Rattle.std.specs.List.Sorted.{IsStrictlyIncreasing}
use Rattle.std.proofs.lemmas.List.{get_or_append_left, map-append, length-append}
use Rattle.std.proofs.lemmas.List.Elements.{Contains-get_or}
use Rattle.std.proofs.Math.Seq.{get_or-append_seam}

-- an id leads to one element at most
pub of_id_one : (nodes : List Node) (styles : List NodeStyles) (id : Option (List ℕ)) (a b : Option ℕ) → IsTree nodes → IsOfId nodes styles id a → IsOfId nodes styles id b → a ≡ b
of_id_one nodes styles None a b tree h g = h ∙ sym g
of_id_one nodes styles (Some id) a b tree h g = let same = first-one nodes id h.0 g.0 tree h.1 g.1 in h.2 ∙ rw same (sym g.2)

pub target_one : (nodes : List Node) (styles : List NodeStyles) (n : ℕ) (l : Link) (a b : Option ℕ) → IsTree nodes → IsTarget nodes styles n l a → IsTarget nodes styles n l b → a ≡ b
target_one nodes styles n l a b = of_id_one nodes styles (id_in (address_of nodes n l)) a b

-- ---- marks

pub marks_none : (nodes : List Node) (styles : List NodeStyles) (n : ℕ) (m : List Bool) → Marks nodes styles n [] m m
marks_none nodes styles n m t = (λ h. inl h, to)
  where
    to : IsMarked m t ⊎ LeadTo nodes styles n [] t → IsMarked m t
    to (inl h) = h
    to (inr h) = absurd (contains-none h.0 h.1)

pub marks_append : (nodes : List Node) (styles : List NodeStyles) (n : ℕ) (ks ls : List Link) (a b c : List Bool) → Marks nodes styles n ks a b → Marks nodes styles n ls b c → Marks nodes styles n (ks ++ ls) a c
marks_append nodes styles n ks ls a b c f g t = (λ h. to ((g t).0 h), from)
  where
    deep : IsMarked a t ⊎ LeadTo nodes styles n ks t → IsMarked a t ⊎ LeadTo nodes styles n (ks ++ ls) t
    deep (inl h) = inl h
    deep (inr h) = inr (h.0, Contains-append_left ks ls h.0 h.1, h.2)

    to : IsMarked b t ⊎ LeadTo nodes styles n ls t → IsMarked a t ⊎ LeadTo nodes styles n (ks ++ ls) t
    to (inl h) = deep ((f t).0 h)
    to (inr h) = inr (h.0, Contains-append_right ks ls h.0 h.1, h.2)

    by : (l : Link) → IsTarget nodes styles n l (Some t) → Contains ks l ⊎ Contains ls l → IsMarked c t
    by l is (inl h) = (g t).1 (inl ((f t).1 (inr (l, h, is))))
    by l is (inr h) = (g t).1 (inr (l, h, is))

    from : IsMarked a t ⊎ LeadTo nodes styles n (ks ++ ls) t → IsMarked c t
    from (inl h) = (g t).1 (inl ((f t).1 (inl h)))
    from (inr h) = by h.0 h.2 (Contains-append_cases ks ls h.0 h.1)

pub marks_four : (nodes : List Node) (styles : List NodeStyles) (n : ℕ) (ks ls ms ns : List Link) (a b c d e : List Bool) → Marks nodes styles n ks a b → Marks nodes styles n ls b c → Marks nodes styles n ms c d → Marks nodes styles n ns d e → Marks nodes styles n (ks ++ (ls ++ (ms ++ ns))) a e
marks_four nodes styles n ks ls ms ns a b c d e f g h i = marks_append nodes styles n ks (ls ++ (ms ++ ns)) a b e f (marks_append nodes styles n ls (ms ++ ns) b c e g (marks_append nodes styles n ms ns c d e h i))

-- a link without a target marks nothing
pub marks_missing : (nodes : List Node) (styles : List NodeStyles) (n : ℕ) (l : Link) (m : List Bool) → IsTree nodes → IsTarget nodes styles n l None → Marks nodes styles n (l ∷ []) m m
marks_missing nodes styles n l m tree is t = (λ h. inl h, to)
  where
    to : IsMarked m t ⊎ LeadTo nodes styles n (l ∷ []) t → IsMarked m t
    to (inl h) = h
    to (inr h) = let same : l ≡ h.0 = contains-one l h.0 h.1 in let bad : None ≡ Some t = target_one nodes styles n l None (Some t) tree is (subst (λ (k : Link). IsTarget nodes styles n k (Some t)) (sym same) h.2) in cc

pub marks_one : (nodes : List Node) (styles : List NodeStyles) (n : ℕ) (l : Link) (m : List Bool) (u : ℕ) → IsTree nodes → u < length m → IsTarget nodes styles n l (Some u) → Marks nodes styles n (l ∷ []) m (set m u true)
marks_one nodes styles n l m u tree within is t = (λ h. to h (cases_eq t u), from)
  where
    to : IsMarked (set m u true) t → (t ≡ u) ⊎ (t ≢ u) → IsMarked m t ⊎ LeadTo nodes styles n (l ∷ []) t
    to h (inl same) = inr (l, Contains-push [] l, subst (λ (k : ℕ). IsTarget nodes styles n l (Some k)) (sym same) is)
    to h (inr other) = inl (sym (get_or-set_other m u t true false other) ∙ h)

    here : t ≡ u → IsMarked (set m u true) t
    here same = rw same (get_or-set_same m u true false within)

    kept : IsMarked m t → (t ≡ u) ⊎ (t ≢ u) → IsMarked (set m u true) t
    kept h (inl same) = here same
    kept h (inr other) = get_or-set_other m u t true false other ∙ h

    from : IsMarked m t ⊎ LeadTo nodes styles n (l ∷ []) t → IsMarked (set m u true) t
    from (inl h) = kept h (cases_eq t u)
    from (inr h) = let same : l ≡ h.0 = contains-one l h.0 h.1 in let one : Some u ≡ Some t = target_one nodes styles n l (Some u) (Some t) tree is (subst (λ (k : Link). IsTarget nodes styles n k (Some t)) (sym same) h.2) in here cc

-- ---- one node after another

pub marked_none : (nodes : List Node) (styles : List NodeStyles) (k : ℕ) → MarkedBelow nodes styles 0 (replicate k false)
marked_none nodes styles k t = (λ h. absurd (unmarked k t h), unnamed)
  where
    unnamed : IsNamedBelow nodes styles 0 t → IsMarked (replicate k false) t
    unnamed (n, less, leads) = absurd (omega (arith, less))

    unmarked : (k t : ℕ) → IsMarked (replicate k false) t → ⊥
    unmarked zero t h = cc
    unmarked (suc k) zero h = cc
    unmarked (suc k) (suc t) h = unmarked k t h

pub marked_turn : (nodes : List Node) (styles : List NodeStyles) (i : ℕ) (a b : List Bool) → MarkedBelow nodes styles i a → Marks nodes styles i (page_links styles i) a b → MarkedBelow nodes styles (i + 1) b
marked_turn nodes styles i a b f g t = (λ h. to ((g t).0 h), back)
  where
    older : IsNamedBelow nodes styles i t → IsNamedBelow nodes styles (i + 1) t
    older (n, less, leads) = (n, omega (arith, less), leads)

    to : IsMarked a t ⊎ LeadTo nodes styles i (page_links styles i) t → IsNamedBelow nodes styles (i + 1) t
    to (inl h) = older ((f t).0 h)
    to (inr h) = (i, omega arith, h)

    from : (n : ℕ) → n < i + 1 → LeadTo nodes styles n (page_links styles n) t → (n < i) ⊎ (i ≤ n) → IsMarked b t
    from n below leads (inl less) = (g t).1 (inl ((f t).1 (n, less, leads)))
    from n below leads (inr over) = let same : n ≡ i = omega (arith, below, over) in (g t).1 (inr (subst (λ (k : ℕ). LeadTo nodes styles k (page_links styles k) t) same leads))

    back : IsNamedBelow nodes styles (i + 1) t → IsMarked b t
    back (n, less, leads) = from n less leads (cases_lt n i)

-- ---- parts

pub parts_turn : (nodes : List Node) (styles : List NodeStyles) (n : ℕ) (parts : List Part) (i : ℕ) (p : Part) (a b c : List Bool) → i < length parts → p ≡ get_or parts i p → Marks nodes styles n (flat_map links_by (take i parts)) a b → Marks nodes styles n (links_by p) b c → Marks nodes styles n (flat_map links_by (take (i + 1) parts)) a c
parts_turn nodes styles n parts i p a b c within is f g = rw next (marks_append nodes styles n (flat_map links_by (take i parts)) (links_by p) a b c f g)
  where
    next : flat_map links_by (take (i + 1) parts) ≡ flat_map links_by (take i parts) ++ links_by p
    next = ap (flat_map links_by) (take_more parts i p within ∙ ap (λ q. take i parts ++ q ∷ []) (sym is)) ∙ sym (flat_map_more links_by [] (take i parts) p)

-- ---- the list of the marked nodes

-- those of the first i nodes
pub record ListedBelow (marks : List Bool) (i : ℕ) (list : List NodeId) : Type 0 where
  pub rises : IsStrictlyIncreasing (map (λ n. n.0) list)
  pub listed : (t : ℕ) → Contains (map (λ n. n.0) list) t ↔ ((t < i) × IsMarked marks t)

increasing_none : IsStrictlyIncreasing []
increasing_none k less = absurd (omega (arith, less))

increasing_push : (xs : List ℕ) (y : ℕ) → IsStrictlyIncreasing xs → ((x : ℕ) → Contains xs x → x < y) → IsStrictlyIncreasing (xs ++ y ∷ [])
increasing_push xs y up below k less = by (cases_lt (k + 1) (length xs))
  where
    len : length (xs ++ y ∷ []) ≡ length xs + 1
    len = length-append xs (y ∷ [])

    last : k + 1 ≡ length xs → get_or (xs ++ y ∷ []) (k + 1) 0 ≡ y
    last e = ap (λ (j : ℕ). get_or (xs ++ y ∷ []) j 0) e ∙ get_or-append_seam xs y [] 0

    by : (k + 1 < length xs) ⊎ (length xs ≤ k + 1) → get_or (xs ++ y ∷ []) k 0 < get_or (xs ++ y ∷ []) (k + 1) 0
    by (inl b) = rw (get_or_append_left xs (y ∷ []) 0 k (omega (arith, b))) (rw (get_or_append_left xs (y ∷ []) 0 (k + 1) b) (up k b))
    by (inr o) = let e : k + 1 ≡ length xs = omega (arith, less, o, len) in rw (get_or_append_left xs (y ∷ []) 0 k (omega (arith, e))) (rw (last e) (below (get_or xs k 0) (Contains-get_or xs k 0 (omega (arith, e)))))

pub listed_none : (marks : List Bool) → ListedBelow marks 0 []
listed_none marks = record { rises = increasing_none; listed = λ t. (λ h. absurd (contains-none t h), λ h. absurd (omega (arith, h.0))) }

pub listed_skip : (marks : List Bool) (i : ℕ) (list : List NodeId) → get_or marks i false ≡ false → ListedBelow marks i list → ListedBelow marks (i + 1) list
listed_skip marks i list off h = record { rises = h.rises; listed = λ t. (λ c. let b = (h.listed t).0 c in let less = b.0 in (omega (arith, less), b.1), λ c. from t c (cases_lt t i)) }
  where
    from : (t : ℕ) → (t < i + 1) × IsMarked marks t → (t < i) ⊎ (i ≤ t) → Contains (map (λ n. n.0) list) t
    from t c (inl less) = (h.listed t).1 (less, c.1)
    from t c (inr over) = let below = c.0 in let same : t ≡ i = omega (arith, below, over) in let on : get_or marks i false ≡ true = subst (λ (k : ℕ). get_or marks k false ≡ true) same c.1 in cc

pub listed_push : (marks : List Bool) (i : ℕ) (list : List NodeId) (n : NodeId) → n.0 ≡ i → get_or marks i false ≡ true → ListedBelow marks i list → ListedBelow marks (i + 1) (list ++ n ∷ [])
listed_push marks i list n is on h = record {
  rises = rw (more) (increasing_push (map (λ n. n.0) list) i h.rises (λ x c. ((h.listed x).0 c).0));
  listed = λ t. (λ c. to t (Contains-push_cases (map (λ n. n.0) list) i t (subst (λ l. Contains l t) more c)), λ c. rw more (from t c (cases_lt t i)));
}
  where
    more : map (λ (n : NodeId). n.0) (list ++ n ∷ []) ≡ map (λ (n : NodeId). n.0) list ++ i ∷ []
    more = map-append (λ (n : NodeId). n.0) list (n ∷ []) ∙ ap (λ k. map (λ (n : NodeId). n.0) list ++ k ∷ []) is

    to : (t : ℕ) → Contains (map (λ n. n.0) list) t ⊎ (i ≡ t) → (t < i + 1) × IsMarked marks t
    to t (inl old) = let b = (h.listed t).0 old in let less = b.0 in (omega (arith, less), b.1)
    to t (inr same) = (omega (arith, same), subst (IsMarked marks) same on)

    from : (t : ℕ) → (t < i + 1) × IsMarked marks t → (t < i) ⊎ (i ≤ t) → Contains (map (λ n. n.0) list ++ i ∷ []) t
    from t c (inl less) = Contains-append_left (map (λ n. n.0) list) (i ∷ []) t ((h.listed t).1 (less, c.1))
    from t c (inr over) = let below = c.0 in let same : i ≡ t = omega (arith, below, over) in subst (λ j. Contains (map (λ n. n.0) list ++ i ∷ []) j) same (Contains-push (map (λ n. n.0) list) i)

-- a mark stands at a node
pub mark_within : (marks : List Bool) (t : ℕ) → IsMarked marks t → t < length marks
mark_within [] t h = absurd (past t h)
  where
    past : (t : ℕ) → IsMarked [] t → ⊥
    past zero h = cc
    past (suc t) h = cc
mark_within (m ∷ marks) zero h = omega arith
mark_within (m ∷ marks) (suc t) h = let b = mark_within marks t h in omega (arith, b)

pub listed_all : (marks : List Bool) (list : List NodeId) → ListedBelow marks (length marks) list → AreMarked marks list
listed_all marks list h = record { rises = h.rises; marked = λ t. (λ c. ((h.listed t).0 c).1, λ m. (h.listed t).1 (mark_within marks t m, m)) }

pub marked_all : (nodes : List Node) (styles : List NodeStyles) (marks : List Bool) (list : List NodeId) → MarkedBelow nodes styles (length nodes) marks → AreMarked marks list → AreTargets nodes styles list
marked_all nodes styles marks list f g = record { rises = g.rises; named = λ t. (λ c. (f t).0 ((g.marked t).0 c), λ m. (g.marked t).1 ((f t).1 m)) }
