-- The values of a tree of letters: those of a letter's node, and what changes.
use Rattle.std.proofs.Common.{◌≡◌, ℕ, Ordering, Less, Equal, Greater, suc, ◌+◌, ◌-◌, ◌<◌, ◌≤◌, Bool, true, false, cond, eqb, leb, List, [], ◌∷◌, ◌++◌, length, get_or, take, drop, drop-cons, max, Some, None, Option, refl, sym, ap, ◌∙◌, ◌&&◌, arith, append_assoc, subst, if◌then◌else◌}
use Rattle.std.specs.Prelude.{Box, MatchOption, Vec}
use Rattle.std.specs.Global.{Global}
use Rattle.std.specs.Borrow.{Bor}
use Rattle.std.specs.Bool.{beq}
use Rattle.std.specs.Option.{option_copied, option_map_or}
use Rattle.std.specs.Ordering.{is_eq, nat_cmp}
use Rattle.std.specs.Str.{bytes_eq}
use Rattle.std.specs.BTreeMap.{get_by}
use Rattle.std.proofs.Math.Seq.{take-add}
use Rattle.std.proofs.lemmas.Bool.{eqb-false, eqb-true}
use Rattle.std.proofs.lemmas.List.{append-nil, drop-drop, get_or_default}
use Rattle.std.proofs.lemmas.Map.Lookups.{exact_unsigned}
use Rattle.hyphen.specs.declared.tree.Node.{Node, out-Node}
use Rattle.hyphen.specs.Pattern.{most}
use Rattle.hyphen.specs.Pieces.{branch_from, branch_value}
use Rattle.hyphen.specs.Tree.{node_values, own_values, values_in}
use Rattle.hyphen.proofs.MostLemmas.{most_more, most_next}

-- the node that a letter leads to
pub child_is : (n : Node) (c : ℕ) (r : Option (Bor (Box Node Global))) → option_copied r ≡ get_by (nat_cmp c) (out-Node n).next → MatchOption r ((e : Bool) (q : List ℕ) (k : ℕ) → values_in n e (c ∷ q) k ≡ 0) (λ node. (e : Bool) (q : List ℕ) (k : ℕ) → values_in node.now.value e q k ≡ values_in n e (c ∷ q) k)
unfolding values_in
child_is n c None is = λ e q k. rw (← is) refl
child_is n c (Some b) is = λ e q k. rw (← is) refl

pub node_given : (n : Node) (child : Box Node Global) (c : ℕ) → Some child ≡ get_by (nat_cmp c) (out-Node n).next → (e : Bool) (q : List ℕ) (k : ℕ) → values_in n e (c ∷ q) k ≡ values_in child.value e q k
unfolding values_in
node_given n child c is e q k = rw (← is) refl

pub node_absent : (n : Node) (c : ℕ) → None ≡ get_by (nat_cmp c) (out-Node n).next → (e : Bool) (q : List ℕ) (k : ℕ) → values_in n e (c ∷ q) k ≡ 0
unfolding values_in
node_absent n c is e q k = rw (← is) refl

-- a letter's node that stayed
pub node_kept : (m n : Node) (d : ℕ) → get_by (nat_cmp d) (out-Node n).next ≡ get_by (nat_cmp d) (out-Node m).next → (e : Bool) (q : List ℕ) (k : ℕ) → values_in n e (d ∷ q) k ≡ values_in m e (d ∷ q) k
unfolding values_in
node_kept m n d is e q k = ap (λ (o : Option (Box Node Global)). option_map_or (λ (child : Box Node Global). values_in child.value e q k) o 0) is

-- the values of a node itself that stayed
pub own_kept : (m n : Node) → (out-Node n).anywhere ≡ (out-Node m).anywhere → (out-Node n).at_end ≡ (out-Node m).at_end → (e : Bool) (k : ℕ) → values_in n e [] k ≡ values_in m e [] k
unfolding values_in own_values
own_kept m n a b true k = rw b refl
own_kept m n a b false k = rw a refl

-- a node with nothing
pub nothing_in : (n : Node) → (out-Node n).anywhere.items ≡ [] → (out-Node n).at_end.items ≡ [] → (out-Node n).next.entries ≡ [] → (e : Bool) (q : List ℕ) (k : ℕ) → values_in n e q k ≡ 0
unfolding values_in own_values
nothing_in n a b none true [] k = rw b refl
nothing_in n a b none false [] k = rw a refl
nothing_in n a b none e (c ∷ q) k = rw none refl

-- letters that differ, as keys
pub apart_keys : (c d : ℕ) → eqb c d ≡ false → is_eq (nat_cmp c d) ≡ false
apart_keys c d h = by (nat_cmp c d) refl
  where
    by : (o : Ordering) → nat_cmp c d ≡ o → is_eq o ≡ false
    by Less e = refl
    by Equal e = absurd (eqb-false c d h (exact_unsigned c d e))
    by Greater e = refl

-- a change that is not made
off : (b : Bool) (x y : ℕ) → (if b && false then x else y) ≡ y
off true x y = refl
off false x y = refl

-- values that were put at a node itself
pub put_at_end : (m n : Node) (values : List ℕ) → (out-Node n).next ≡ (out-Node m).next → (out-Node n).anywhere ≡ (out-Node m).anywhere → ((k : ℕ) → get_or (out-Node n).at_end.items k 0 ≡ max (get_or (out-Node m).at_end.items k 0) (get_or values k 0)) → (e : Bool) (q : List ℕ) (k : ℕ) → values_in n e q k ≡ (if beq true e && bytes_eq [] q then max (values_in m e q k) (get_or values k 0) else values_in m e q k)
unfolding values_in own_values
put_at_end m n values same other raised true [] k = raised k
put_at_end m n values same other raised false [] k = ap (λ (v : Vec ℕ Global). get_or v.items k 0) other
put_at_end m n values same other raised e (c ∷ q) k = node_kept m n c (ap (get_by (nat_cmp c)) same) e q k ∙ sym (off (beq true e) (max (values_in m e (c ∷ q) k) (get_or values k 0)) (values_in m e (c ∷ q) k))

pub put_anywhere : (m n : Node) (values : List ℕ) → (out-Node n).next ≡ (out-Node m).next → (out-Node n).at_end ≡ (out-Node m).at_end → ((k : ℕ) → get_or (out-Node n).anywhere.items k 0 ≡ max (get_or (out-Node m).anywhere.items k 0) (get_or values k 0)) → (e : Bool) (q : List ℕ) (k : ℕ) → values_in n e q k ≡ (if beq false e && bytes_eq [] q then max (values_in m e q k) (get_or values k 0) else values_in m e q k)
unfolding values_in own_values
put_anywhere m n values same other raised false [] k = raised k
put_anywhere m n values same other raised true [] k = ap (λ (v : Vec ℕ Global). get_or v.items k 0) other
put_anywhere m n values same other raised e (c ∷ q) k = node_kept m n c (ap (get_by (nat_cmp c)) same) e q k ∙ sym (off (beq false e) (max (values_in m e (c ∷ q) k) (get_or values k 0)) (values_in m e (c ∷ q) k))

-- values that were put into a letter's node, which was taken out and given back
pub put_further : (old taken new : Node) (before after : Node) (c : ℕ) (rest values : List ℕ) (ends : Bool) →
    ((e : Bool) (k : ℕ) → values_in taken e [] k ≡ values_in old e [] k) →
    ((d : ℕ) (e : Bool) (q : List ℕ) (k : ℕ) → eqb c d ≡ false → values_in taken e (d ∷ q) k ≡ values_in old e (d ∷ q) k) →
    ((e : Bool) (q : List ℕ) (k : ℕ) → values_in before e q k ≡ values_in old e (c ∷ q) k) →
    ((e : Bool) (q : List ℕ) (k : ℕ) → values_in after e q k ≡ (if beq ends e && bytes_eq rest q then max (values_in before e q k) (get_or values k 0) else values_in before e q k)) →
    ((e : Bool) (k : ℕ) → values_in new e [] k ≡ values_in taken e [] k) →
    ((d : ℕ) (e : Bool) (q : List ℕ) (k : ℕ) → eqb c d ≡ false → values_in new e (d ∷ q) k ≡ values_in taken e (d ∷ q) k) →
    ((e : Bool) (q : List ℕ) (k : ℕ) → values_in new e (c ∷ q) k ≡ values_in after e q k) →
    (e : Bool) (q : List ℕ) (k : ℕ) → values_in new e q k ≡ (if beq ends e && bytes_eq (c ∷ rest) q then max (values_in old e q k) (get_or values k 0) else values_in old e q k)
put_further old taken new before after c rest values ends own others node put own_back others_back node_back e [] k = own_back e k ∙ own e k ∙ sym (off (beq ends e) (max (values_in old e [] k) (get_or values k 0)) (values_in old e [] k))
put_further old taken new before after c rest values ends own others node put own_back others_back node_back e (d ∷ q) k = by (eqb c d) refl
  where
    raised : ℕ → ℕ
    raised x = if beq ends e && bytes_eq rest q then max x (get_or values k 0) else x

    by : (b : Bool) → eqb c d ≡ b → values_in new e (d ∷ q) k ≡ (if beq ends e && (b && bytes_eq rest q) then max (values_in old e (d ∷ q) k) (get_or values k 0) else values_in old e (d ∷ q) k)
    by true is =
        let here : values_in new e (c ∷ q) k ≡ raised (values_in old e (c ∷ q) k) = node_back e q k ∙ put e q k ∙ ap raised (node e q k) in
        subst (λ (x : ℕ). values_in new e (x ∷ q) k ≡ raised (values_in old e (x ∷ q) k)) (eqb-true c d is) here
    by false is = others_back d e q k is ∙ others d e q k is ∙ sym (off (beq ends e) (max (values_in old e (d ∷ q) k) (get_or values k 0)) (values_in old e (d ∷ q) k))

-- what a node has for a word that ends there, and for one that goes on
both_is : (n : Node) (k : ℕ) → node_values n true k ≡ max (get_or (out-Node n).anywhere.items k 0) (get_or (out-Node n).at_end.items k 0)
unfolding node_values values_in own_values
both_is n k = refl

one_is : (n : Node) (k : ℕ) → node_values n false k ≡ max (get_or (out-Node n).anywhere.items k 0) 0
unfolding node_values values_in own_values
one_is n k = refl

-- values that are raised by those of a node, in two steps or in one
pub raised_twice : (n : Node) (b : Bool) (anywhere at_end : List ℕ) (k v0 v1 v2 : ℕ) → anywhere ≡ (out-Node n).anywhere.items → at_end ≡ (out-Node n).at_end.items → v1 ≡ max v0 (if b then get_or anywhere k 0 else 0) → v2 ≡ max v1 (if b then get_or at_end k 0 else 0) → v2 ≡ max v0 (if b then node_values n true k else 0)
raised_twice n true anywhere at_end k v0 v1 v2 is_a is_e h1 h2 = omega (arith, both_is n k, ap (λ (l : List ℕ). get_or l k 0) is_a, ap (λ (l : List ℕ). get_or l k 0) is_e)
raised_twice n false anywhere at_end k v0 v1 v2 is_a is_e h1 h2 = omega arith

pub raised_once : (n : Node) (b : Bool) (anywhere : List ℕ) (k v0 v1 : ℕ) → anywhere ≡ (out-Node n).anywhere.items → v1 ≡ max v0 (if b then get_or anywhere k 0 else 0) → v1 ≡ max v0 (if b then node_values n false k else 0)
raised_once n true anywhere k v0 v1 is h1 = omega (arith, one_is n k, ap (λ (l : List ℕ). get_or l k 0) is)
raised_once n false anywhere k v0 v1 is h1 = omega arith

-- letters from a place on, past the first m
pub front_more : (word : List ℕ) (at m j c : ℕ) → at + m < length word → c ≡ get_or word (at + m) c → take (m + suc j) (drop at word) ≡ take m (drop at word) ++ c ∷ take j (drop (suc (at + m)) word)
front_more word at m j c h is =
    let rest : drop m (drop at word) ≡ c ∷ drop (suc (at + m)) word = drop-drop m at word ∙ drop-cons word (at + m) c h ∙ ap (λ (x : ℕ). x ∷ drop (suc (at + m)) word) (sym is) in
    take-add m (suc j) (drop at word) ∙ ap (λ (l : List ℕ). take m (drop at word) ++ take (suc j) l) rest

-- one letter more
pub front_next : (word : List ℕ) (at m c : ℕ) → at + m < length word → c ≡ get_or word (at + m) c → take (m + 1) (drop at word) ≡ take m (drop at word) ++ c ∷ []
front_next word at m c h is = front_more word at m 0 c h is

-- the node that one letter more leads to
pub walk_next : (root node child : Node) (word : List ℕ) (at m c : ℕ) → at + m < length word → c ≡ get_or word (at + m) c → ((e : Bool) (q : List ℕ) (k : ℕ) → values_in node e q k ≡ values_in root e (take m (drop at word) ++ q) k) → ((e : Bool) (q : List ℕ) (k : ℕ) → values_in child e q k ≡ values_in node e (c ∷ q) k) → (e : Bool) (q : List ℕ) (k : ℕ) → values_in child e q k ≡ values_in root e (take (m + 1) (drop at word) ++ q) k
walk_next root node child word at m c h is so_far next e q k =
    let letters : take (m + 1) (drop at word) ++ q ≡ take m (drop at word) ++ c ∷ q = ap (λ (l : List ℕ). l ++ q) (front_next word at m c h is) ∙ append_assoc (take m (drop at word)) (c ∷ []) q in
    next e q k ∙ so_far e (c ∷ q) k ∙ ap (λ (l : List ℕ). values_in root e l k) (sym letters)

guarded : (b : Bool) {x y : ℕ} → x ≡ y → (if b then x else 0) ≡ (if b then y else 0)
guarded true h = h
guarded false h = refl

-- what the node of the piece of m + 1 letters puts is what the piece puts
pub branch_is : (root child : Node) (word : List ℕ) (q at m : ℕ) (ends : Bool) → ((e : Bool) (l : List ℕ) (k : ℕ) → values_in child e l k ≡ values_in root e (take (m + 1) (drop at word) ++ l) k) → ends ≡ eqb (at + (m + 1)) (length word) → (if leb at q then node_values child ends (q - at) else 0) ≡ branch_from (values_in root) word q at m
unfolding branch_from branch_value node_values
branch_is root child word q at m ends walk is =
    let whole : (e : Bool) (k : ℕ) → values_in child e [] k ≡ values_in root e (take (m + 1) (drop at word)) k = λ e k. walk e [] k ∙ ap (λ (l : List ℕ). values_in root e l k) (append-nil (take (m + 1) (drop at word))) in
    rw (whole false (q - at), whole true (q - at), is) refl

-- one more piece raises a value
pub branch_step : (root child : Node) (word : List ℕ) (q at m v old new : ℕ) (ends : Bool) → ((e : Bool) (l : List ℕ) (k : ℕ) → values_in child e l k ≡ values_in root e (take (m + 1) (drop at word) ++ l) k) → ends ≡ eqb (at + (m + 1)) (length word) → v ≡ max old (most m (branch_from (values_in root) word q at)) → new ≡ max v (if leb at q then node_values child ends (q - at) else 0) → new ≡ max old (most (m + 1) (branch_from (values_in root) word q at))
branch_step root child word q at m v old new ends walk is before raised =
    let here = branch_is root child word q at m ends walk is in
    let next = most_next m (branch_from (values_in root) word q at) in
    omega (arith, here, next, before, raised)

-- where no node goes on, no longer piece puts anything
pub branch_stops : (root node : Node) (word : List ℕ) (q at m c : ℕ) → at + m < length word → c ≡ get_or word (at + m) c → ((e : Bool) (l : List ℕ) (k : ℕ) → values_in node e l k ≡ values_in root e (take m (drop at word) ++ l) k) → ((e : Bool) (l : List ℕ) (k : ℕ) → values_in node e (c ∷ l) k ≡ 0) → most (length word - at) (branch_from (values_in root) word q at) ≡ most m (branch_from (values_in root) word q at)
unfolding branch_from branch_value
branch_stops root node word q at m c h is walk stops = most_more m (length word - at) (branch_from (values_in root) word q at) (omega arith) (λ j from to. none j from)
  where
    nothing : (e : Bool) (j k : ℕ) → m ≤ j → values_in root e (take (j + 1) (drop at word)) k ≡ 0
    nothing e j k from =
        let far : j + 1 ≡ m + suc (j - m) = omega arith in
        let letters : take (j + 1) (drop at word) ≡ take m (drop at word) ++ c ∷ take (j - m) (drop (suc (at + m)) word) = ap (λ (n : ℕ). take n (drop at word)) far ∙ front_more word at m (j - m) c h is in
        ap (λ (l : List ℕ). values_in root e l k) letters ∙ sym (walk e (c ∷ take (j - m) (drop (suc (at + m)) word)) k) ∙ stops e (take (j - m) (drop (suc (at + m)) word)) k

    zeros : (a b : Bool) → (if a then max 0 (cond {A = ℕ} b 0 0) else 0) ≡ 0
    zeros true true = refl
    zeros true false = refl
    zeros false b = refl

    none : (j : ℕ) → m ≤ j → branch_from (values_in root) word q at j ≡ 0
    none j from = rw (nothing false j (q - at) from, nothing true j (q - at) from) (zeros (leb at q) (eqb (at + (j + 1)) (length word)))

-- a walk down from a place of a word, by the place after the last letter: at its beginning
pub walk_none : (root : Node) (word : List ℕ) (at : ℕ) (e : Bool) (q : List ℕ) (k : ℕ) → values_in root e q k ≡ values_in root e (take (at - at) (drop at word) ++ q) k
walk_none root word at e q k = let none : at - at ≡ 0 = omega arith in rw none refl

pub raised_none : (f : ℕ → ℕ) (at v : ℕ) → v ≡ max v (most (at - at) f)
unfolding most
raised_none f at v = let none : at - at ≡ 0 = omega arith in rw none (omega arith)

-- one letter more
pub walk_more : (root node child : Node) (word : List ℕ) (at end : ℕ) → at ≤ end → end < length word → ((e : Bool) (q : List ℕ) (k : ℕ) → values_in node e q k ≡ values_in root e (take (end - at) (drop at word) ++ q) k) → ((e : Bool) (q : List ℕ) (k : ℕ) → values_in child e q k ≡ values_in node e (get_or word end 0 ∷ q) k) → (e : Bool) (q : List ℕ) (k : ℕ) → values_in child e q k ≡ values_in root e (take (end + 1 - at) (drop at word) ++ q) k
walk_more root node child word at end low inside so_far next e q k =
    let place : at + (end - at) ≡ end = omega arith in
    let more : end + 1 - at ≡ (end - at) + 1 = omega arith in
    let letter : get_or word end 0 ≡ get_or word (at + (end - at)) (get_or word end 0) = rw place (get_or_default word end 0 (get_or word end 0) inside) in
    rw more (walk_next root node child word at (end - at) (get_or word end 0) (omega arith) letter so_far next e q k)

pub raise_more : (root child : Node) (word : List ℕ) (q at end v old new : ℕ) → at ≤ end → ((e : Bool) (l : List ℕ) (k : ℕ) → values_in child e l k ≡ values_in root e (take (end + 1 - at) (drop at word) ++ l) k) → v ≡ max old (most (end - at) (branch_from (values_in root) word q at)) → new ≡ max v (if leb at q then node_values child (eqb (end + 1) (length word)) (q - at) else 0) → new ≡ max old (most (end + 1 - at) (branch_from (values_in root) word q at))
raise_more root child word q at end v old new low walk before raised =
    let more : end + 1 - at ≡ (end - at) + 1 = omega arith in
    let place : end + 1 ≡ at + ((end - at) + 1) = omega arith in
    rw more (branch_step root child word q at (end - at) v old new (eqb (end + 1) (length word)) (λ e l k. walk e l k ∙ ap (λ (n : ℕ). values_in root e (take n (drop at word) ++ l) k) more) (ap (λ (n : ℕ). eqb n (length word)) place) before raised)

-- where no node goes on
pub raise_done : (root node : Node) (word : List ℕ) (q at end v old : ℕ) → at ≤ end → end < length word → ((e : Bool) (l : List ℕ) (k : ℕ) → values_in node e l k ≡ values_in root e (take (end - at) (drop at word) ++ l) k) → ((e : Bool) (l : List ℕ) (k : ℕ) → values_in node e (get_or word end 0 ∷ l) k ≡ 0) → v ≡ max old (most (end - at) (branch_from (values_in root) word q at)) → v ≡ max old (most (length word - at) (branch_from (values_in root) word q at))
raise_done root node word q at end v old low inside walk stops before =
    let place : at + (end - at) ≡ end = omega arith in
    let letter : get_or word end 0 ≡ get_or word (at + (end - at)) (get_or word end 0) = rw place (get_or_default word end 0 (get_or word end 0) inside) in
    before ∙ ap (λ (x : ℕ). max old x) (sym (branch_stops root node word q at (end - at) (get_or word end 0) (omega arith) letter walk stops))
