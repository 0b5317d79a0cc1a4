-- Whether an element has an id.
use Rattle.std.proofs.Common.{◌≡◌, ℕ, suc, Bool, true, false, List, [], ◌∷◌, refl, sym}
use Rattle.std.specs.Prelude.{Option, Some, None, is_some, slice_get}
use Rattle.std.specs.List.{list_any}
use Rattle.std.proofs.lemmas.List.Folds.{list_any_at}
use Rattle.std.proofs.lemmas.Option.{slice_get_within, get_or_from_slice_get}
use Rattle.dom.specs.Nodes.{Node}
use Rattle.dom.specs.Order.{IsFirstOf, has_id}
use Rattle.unread_list.specs.Elements.{is_of_id, has_some}

none_passes : (p : Node → Bool) (nodes : List Node) → ((m : ℕ) (x : Node) → slice_get nodes m ≡ Some x → p x ≡ false) → list_any p nodes ≡ false
none_passes p [] h = refl
none_passes p (n ∷ ns) h = rw (h 0 n refl) (none_passes p ns (λ m x e. h (suc m) x e))

by_place : (nodes : List Node) (id : List ℕ) (m : ℕ) (o : Option Node) → slice_get nodes m ≡ o → has_id nodes id m ≡ true → has_some nodes id ≡ true
by_place nodes id m None e h = let z : false ≡ true = rw e at h in absurd (cc)
by_place nodes id m (Some x) e h =
    let here : is_of_id id x ≡ true = rw e at h in
    list_any_at (is_of_id id) nodes m x (slice_get_within nodes m x e) (rw (get_or_from_slice_get nodes m x x e) here)

pub there_is : (nodes : List Node) (id : List ℕ) (r : Option ℕ) → IsFirstOf nodes id r → is_some r ≡ has_some nodes id
there_is nodes id None h = sym (none_passes (is_of_id id) nodes (λ m x e. rw e at (h m)))
there_is nodes id (Some n) h = sym (by_place nodes id n (slice_get nodes n) refl h.0)
