-- The values of a node by its fields.
use Rattle.std.proofs.Common.{◌≡◌, ℕ, Bool, true, false, ◌&&◌, List, [], ◌∷◌, get_or, max, Some, sym, ap, ◌∙◌, if◌then◌else◌}
use Rattle.std.specs.Prelude.{Box, Vec}
use Rattle.std.specs.Global.{Global}
use Rattle.std.specs.Bool.{beq}
use Rattle.std.specs.Ordering.{nat_cmp}
use Rattle.std.specs.Str.{bytes_eq}
use Rattle.std.specs.BTreeMap.{BTreeMap, get, get_by}
use Rattle.hyphen.specs.declared.tree.Node.{Node}
use Rattle.hyphen.specs.declared.tree.Node.TheOpen.{Node-F}
use Rattle.hyphen.specs.declared.tree.Node.TheViews.{out-Node, out-roll-Node, roll-Node}
use Rattle.hyphen.specs.Tree.{values_in}
use Rattle.hyphen.proofs.TreeLemmas.{node_given, node_kept, nothing_in, own_kept, put_anywhere, put_at_end}

abbrev layer : Vec ℕ Global → Vec ℕ Global → BTreeMap ℕ (Box Node Global) → Node-F Node
layer a e t = record { anywhere = a; at_end = e; next = t }

pub rolled_own : (m : Node) (t : BTreeMap ℕ (Box Node Global)) (e : Bool) (k : ℕ) → values_in (roll-Node (record { anywhere = (out-Node m).anywhere; at_end = (out-Node m).at_end; next = t })) e [] k ≡ values_in m e [] k
rolled_own m t e k =
    let x : Node-F Node = layer (out-Node m).anywhere (out-Node m).at_end t in
    own_kept m (roll-Node x) (ap (λ (y : Node-F Node). y.anywhere) (out-roll-Node x)) (ap (λ (y : Node-F Node). y.at_end) (out-roll-Node x)) e k

pub rolled_others : (m : Node) (t : BTreeMap ℕ (Box Node Global)) (d : ℕ) → get nat_cmp t d ≡ get nat_cmp (out-Node m).next d → (e : Bool) (q : List ℕ) (k : ℕ) → values_in (roll-Node (record { anywhere = (out-Node m).anywhere; at_end = (out-Node m).at_end; next = t })) e (d ∷ q) k ≡ values_in m e (d ∷ q) k
rolled_others m t d same e q k =
    let x : Node-F Node = layer (out-Node m).anywhere (out-Node m).at_end t in
    node_kept m (roll-Node x) d (ap (λ (y : Node-F Node). get_by (nat_cmp d) y.next) (out-roll-Node x) ∙ same) e q k

pub rolled_given : (m : Node) (t : BTreeMap ℕ (Box Node Global)) (child : Box Node Global) (c : ℕ) → get_by (nat_cmp c) t ≡ Some child → (e : Bool) (q : List ℕ) (k : ℕ) → values_in (roll-Node (record { anywhere = (out-Node m).anywhere; at_end = (out-Node m).at_end; next = t })) e (c ∷ q) k ≡ values_in child.value e q k
rolled_given m t child c is e q k =
    let x : Node-F Node = layer (out-Node m).anywhere (out-Node m).at_end t in
    node_given (roll-Node x) child c (sym (ap (λ (y : Node-F Node). get_by (nat_cmp c) y.next) (out-roll-Node x) ∙ is)) e q k

pub rolled_empty : (a b : Vec ℕ Global) (t : BTreeMap ℕ (Box Node Global)) → a.items ≡ [] → b.items ≡ [] → t.entries ≡ [] → (e : Bool) (q : List ℕ) (k : ℕ) → values_in (roll-Node (record { anywhere = a; at_end = b; next = t })) e q k ≡ 0
rolled_empty a b t none_a none_b none_t =
    let x : Node-F Node = layer a b t in
    nothing_in (roll-Node x) (ap (λ (y : Node-F Node). y.anywhere.items) (out-roll-Node x) ∙ none_a) (ap (λ (y : Node-F Node). y.at_end.items) (out-roll-Node x) ∙ none_b) (ap (λ (y : Node-F Node). y.next.entries) (out-roll-Node x) ∙ none_t)

pub rolled_at_end : (m : Node) (v : Vec ℕ Global) (values : List ℕ) → ((k : ℕ) → get_or v.items k 0 ≡ max (get_or (out-Node m).at_end.items k 0) (get_or values k 0)) → (e : Bool) (q : List ℕ) (k : ℕ) → values_in (roll-Node (record { anywhere = (out-Node m).anywhere; at_end = v; next = (out-Node m).next })) e q k ≡ (if beq true e && bytes_eq [] q then max (values_in m e q k) (get_or values k 0) else values_in m e q k)
rolled_at_end m v values raised =
    let x : Node-F Node = layer (out-Node m).anywhere v (out-Node m).next in
    put_at_end m (roll-Node x) values (ap (λ (y : Node-F Node). y.next) (out-roll-Node x)) (ap (λ (y : Node-F Node). y.anywhere) (out-roll-Node x)) (λ k. ap (λ (y : Node-F Node). get_or y.at_end.items k 0) (out-roll-Node x) ∙ raised k)

pub rolled_anywhere : (m : Node) (v : Vec ℕ Global) (values : List ℕ) → ((k : ℕ) → get_or v.items k 0 ≡ max (get_or (out-Node m).anywhere.items k 0) (get_or values k 0)) → (e : Bool) (q : List ℕ) (k : ℕ) → values_in (roll-Node (record { anywhere = v; at_end = (out-Node m).at_end; next = (out-Node m).next })) e q k ≡ (if beq false e && bytes_eq [] q then max (values_in m e q k) (get_or values k 0) else values_in m e q k)
rolled_anywhere m v values raised =
    let x : Node-F Node = layer v (out-Node m).at_end (out-Node m).next in
    put_anywhere m (roll-Node x) values (ap (λ (y : Node-F Node). y.next) (out-roll-Node x)) (ap (λ (y : Node-F Node). y.at_end) (out-roll-Node x)) (λ k. ap (λ (y : Node-F Node). get_or y.anywhere.items k 0) (out-roll-Node x) ∙ raised k)
