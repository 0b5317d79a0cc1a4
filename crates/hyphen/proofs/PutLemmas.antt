-- Values that are put into the node of a first letter, unless memory runs out.
use Rattle.std.proofs.Common.{◌≡◌, ◌∙◌, ap, ℕ, Bool, false, ◌&&◌, eqb, List, [], ◌∷◌, get_or, length, max, arith, refl, subst, sym, Result, Ok, Err, Some, if◌then◌else◌}
use Rattle.std.specs.Prelude.{Box, OnOk}
use Rattle.std.specs.Box.{with_value}
use Rattle.std.specs.Global.{Global}
use Rattle.std.specs.Option.{IsSome}
use Rattle.std.specs.Ordering.{nat_cmp}
use Rattle.std.specs.BTreeMap.{BTreeMap, UpdatesBy, get_by}
use Rattle.std.specs.Bool.{beq}
use Rattle.std.specs.Str.{bytes_eq}
use Rattle.hyphen.specs.declared.tree.Node.{Node}
use Rattle.hyphen.specs.declared.tree.Node.TheViews.{out-Node, roll-Node}
use Rattle.hyphen.specs.Tree.{values_in}
use Rattle.hyphen.proofs.RollLemmas.{rolled_given, rolled_others, rolled_own}
use Rattle.hyphen.proofs.TreeLemmas.{apart_keys, node_given, put_further}

pub put_given : {T E : Type 0} (r : Result T E) (old taken new before after : Node) (c : ℕ) (letters rest values : List ℕ) (ends : Bool) → letters ≡ c ∷ rest →
    ((e : Bool) (k : ℕ) → values_in taken e [] k ≡ values_in old e [] k) →
    ((d : ℕ) (e : Bool) (q : List ℕ) (k : ℕ) → eqb c d ≡ false → values_in taken e (d ∷ q) k ≡ values_in old e (d ∷ q) k) →
    ((e : Bool) (q : List ℕ) (k : ℕ) → values_in before e q k ≡ values_in old e (c ∷ q) k) →
    ((e : Bool) (q : List ℕ) (k : ℕ) → values_in after e q k ≡ (if beq ends e && bytes_eq rest q then max (values_in before e q k) (get_or values k 0) else values_in before e q k)) →
    OnOk r ((e : Bool) (k : ℕ) → values_in new e [] k ≡ values_in taken e [] k) →
    OnOk r ((d : ℕ) (e : Bool) (q : List ℕ) (k : ℕ) → eqb c d ≡ false → values_in new e (d ∷ q) k ≡ values_in taken e (d ∷ q) k) →
    OnOk r ((e : Bool) (q : List ℕ) (k : ℕ) → values_in new e (c ∷ q) k ≡ values_in after e q k) →
    OnOk r ((e : Bool) (q : List ℕ) (k : ℕ) → values_in new e q k ≡ (if beq ends e && bytes_eq letters q then max (values_in old e q k) (get_or values k 0) else values_in old e q k))
put_given (Err x) old taken new before after c letters rest values ends is own others node put own_back others_back node_back = tt
put_given (Ok x) old taken new before after c letters rest values ends is own others node put own_back others_back node_back = λ e q k. rw is (put_further old taken new before after c rest values ends own others node put own_back others_back node_back e q k)

-- the same where the letter's node is there, and is written
pub put_child : {T E : Type 0} (r : Result T E) (old : Node) (boxed : Box Node Global) (before after : Node) (t : BTreeMap ℕ (Box Node Global)) (c : ℕ) (letters rest values : List ℕ) (ends : Bool) → letters ≡ c ∷ rest → Some boxed ≡ get_by (nat_cmp c) (out-Node old).next → before ≡ boxed.value → (IsSome (get_by (nat_cmp c) (out-Node old).next) → UpdatesBy nat_cmp (nat_cmp c) (out-Node old).next t (Some (with_value boxed after))) →
    OnOk r ((e : Bool) (q : List ℕ) (k : ℕ) → values_in after e q k ≡ (if beq ends e && bytes_eq rest q then max (values_in before e q k) (get_or values k 0) else values_in before e q k)) →
    OnOk r ((e : Bool) (q : List ℕ) (k : ℕ) → values_in (roll-Node (record { anywhere = (out-Node old).anywhere; at_end = (out-Node old).at_end; next = t })) e q k ≡ (if beq ends e && bytes_eq letters q then max (values_in old e q k) (get_or values k 0) else values_in old e q k))
put_child (Err x) old boxed before after t c letters rest values ends is there inside writes put = tt
put_child (Ok x) old boxed before after t c letters rest values ends is there inside writes put =
    let written : UpdatesBy nat_cmp (nat_cmp c) (out-Node old).next t (Some (with_value boxed after)) = writes (subst IsSome there refl) in
    λ e q k. rw is (put_further old old (roll-Node (record { anywhere = (out-Node old).anywhere; at_end = (out-Node old).at_end; next = t })) before after c rest values ends
    (λ e k. refl)
    (λ d e q k apart. refl)
    (λ e q k. ap (λ (n : Node). values_in n e q k) inside ∙ sym (node_given old boxed c there e q k))
    put
    (rolled_own old t)
    (λ d e q k apart. rolled_others old t d (written.2 d (apart_keys c d apart)) e q k)
    (rolled_given old t (with_value boxed after) c written.1)
    e q k)

-- values that are put where no letters are left
pub put_here : (old new : Node) (letters values : List ℕ) (ends : Bool) → length letters ≡ 0 → ((e : Bool) (q : List ℕ) (k : ℕ) → values_in new e q k ≡ (if beq ends e && bytes_eq [] q then max (values_in old e q k) (get_or values k 0) else values_in old e q k)) → (e : Bool) (q : List ℕ) (k : ℕ) → values_in new e q k ≡ (if beq ends e && bytes_eq letters q then max (values_in old e q k) (get_or values k 0) else values_in old e q k)
put_here old new [] values ends none put = put
put_here old new (x ∷ letters) values ends none put = absurd (omega arith)
