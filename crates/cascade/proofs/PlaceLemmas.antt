-- The places of the selectors that match a node, and the winners of one node after another.
use Rattle.std.proofs.Common.{◌≡◌, ◌↔◌, ℕ, zero, suc, ◌+◌, ◌<◌, ◌≤◌, Bool, true, false, List, [], ◌∷◌, ◌++◌, Option, None, Some, length, map, option_map, get_or, slice_get, refl, sym, ◌∙◌, ap, subst, arith, ◌⊎◌, inl, inr}
use Rattle.bk_num.proofs.ListLemmas.{contains-none}
use Rattle.std.specs.Prelude.{IsTrue, IfSome, MatchOption}
use Rattle.std.specs.List.{Contains}
use Rattle.std.proofs.lemmas.Bool.{cases_lt}
use Rattle.std.proofs.lemmas.List.{length-map}
use Rattle.std.proofs.lemmas.List.Elements.{Contains-push, Contains-push_cases, Contains-append_cases, Contains-append_left, Contains-append_right}
use Rattle.std.proofs.lemmas.Option.{slice_get_within, slice_get_past, slice_get-map, slice_get_read, slice_get-get_or}
use Rattle.bk_num.specs.declared.values.Pseudo.TheVariants as pseudo
use Rattle.selectors.specs.Selectors.{SelectorView}
use Rattle.selectors.specs.Match.{Tree, Matches}
use Rattle.match_table.specs.All.{MatchesAt, IsMatchList, IsPlaceIn}
use Rattle.cascade.specs.declared.decl.ReadDecl.{ReadDecl}
use Rattle.cascade.specs.declared.sheet.ReadSheet.{ReadSheet}
use Rattle.cascade.specs.declared.table.NodeWinners.{NodeWinners}
use Rattle.cascade.specs.Document.{rules_of, style_decls, AreNodeWinners}
use Rattle.cascade.specs.declared.selected.Selected.{Selected}
use Rattle.cascade.specs.Selected.{SelectedOf, selected_in, selected_from, selectors_of, pushed_if, ArePlaces, AreChosen}
use Rattle.cascade.specs.Sharing.{places_in}
use Rattle.cascade.proofs.AppliesLemmas.{at_node}

-- ---- places

-- those of the selectors before a place
abbrev pub ArePassed : (ℕ → Type 0) → ℕ → List ℕ → Type 0
ArePassed M i places = (k : ℕ) → Contains places k ↔ ((k < i) × M k)

pub none_passed : (M : ℕ → Type 0) (places : List ℕ) → places ≡ [] → ArePassed M 0 places
none_passed M places e k = (λ h. absurd (contains-none k (subst (λ l. Contains l k) e h)), λ h. absurd (omega (arith, h.0)))

pub passed_turn : (M : ℕ → Type 0) (i : ℕ) (places new : List ℕ) (hit : Bool) → ArePassed M i places → (IsTrue hit ↔ M i) → new ≡ pushed_if hit places i → ArePassed M (i + 1) new
passed_turn M i places new true before is e k = (λ h. to (Contains-push_cases places i k (subst (λ l. Contains l k) e h)), λ h. subst (λ l. Contains l k) (sym e) (from h (cases_lt k i)))
  where
    to : Contains places k ⊎ (i ≡ k) → (k < i + 1) × M k
    to (inl old) = let b = (before k).0 old in let less = b.0 in (omega (arith, less), b.1)
    to (inr same) = (omega (arith, same), subst M same (is.0 refl))

    from : (k < i + 1) × M k → (k < i) ⊎ (i ≤ k) → Contains (places ++ i ∷ []) k
    from h (inl less) = Contains-append_left places (i ∷ []) k ((before k).1 (less, h.1))
    from h (inr over) = let less = h.0 in let same : i ≡ k = omega (arith, less, over) in subst (λ j. Contains (places ++ i ∷ []) j) same (Contains-push places i)
passed_turn M i places new false before is e k = (λ h. to ((before k).0 (subst (λ l. Contains l k) e h)), λ h. subst (λ l. Contains l k) (sym e) (from h (cases_lt k i)))
  where
    to : (k < i) × M k → (k < i + 1) × M k
    to b = let less = b.0 in (omega (arith, less), b.1)

    from : (k < i + 1) × M k → (k < i) ⊎ (i ≤ k) → Contains places k
    from h (inl less) = (before k).1 (less, h.1)
    from h (inr over) =
        let less = h.0 in
        let same : k ≡ i = omega (arith, less, over) in
        let z : false ≡ true = is.1 (subst M same h.1) in cc

pub match_at : (dom : Tree) (views : List SelectorView) (i n : ℕ) (v : SelectorView) (hit : Bool) → slice_get views i ≡ Some v → (IsTrue hit ↔ Matches dom v n) → IsTrue hit ↔ MatchesAt dom views i n
match_at dom views i n v hit at is = (λ t. (v, at, is.0 t), λ m. is.1 (same m))
  where
    same : MatchesAt dom views i n → Matches dom v n
    same m = let e : m.0 ≡ v = (let f : Some m.0 ≡ Some v = sym m.1 ∙ at in cc) in subst (λ w. Matches dom w n) e m.2

pub all_passed : (dom : Tree) (ss : List SelectedOf) (n i : ℕ) (places : List ℕ) → length ss ≤ i → ArePassed (λ k. MatchesAt dom (selectors_of ss) k n) i places → ArePlaces dom ss n places
all_passed dom ss n i places low passed k = (λ h. ((passed k).0 h).1, λ m. (passed k).1 (within m, m))
  where
    within : MatchesAt dom (selectors_of ss) k n → k < i
    within m = let less = slice_get_within (selectors_of ss) k m.0 m.1 in let len = length-map ss (λ (s : SelectedOf). s.selector) in omega (arith, less, len, low)

pub in_head : {A : Type 0} (x y : A) (xs : List A) → Contains (x ∷ xs) y → (x ≡ y) ⊎ Contains xs y
in_head x y xs (zero, less, same) = inl same
in_head x y xs (suc i, less, same) = inr (i, omega (arith, less), same)

-- a place is among those of some groups where it is in one of them
from_groups : (groups : List (List ℕ)) (row : List ℕ) (k : ℕ) → Contains (places_in groups row) k → IsPlaceIn groups row k
from_groups groups [] k has = absurd (contains-none k has)
from_groups groups (g ∷ gs) k has = by (Contains-append_cases (get_or groups g []) (places_in groups gs) k has) (from_groups groups gs k)
  where
    by : Contains (get_or groups g []) k ⊎ Contains (places_in groups gs) k → (Contains (places_in groups gs) k → IsPlaceIn groups gs k) → IsPlaceIn groups (g ∷ gs) k
    by (inl here) later = (g, Contains-append_left (g ∷ []) gs g (Contains-push [] g), here)
    by (inr more) later = (let at = later more in (at.0, Contains-append_right (g ∷ []) gs at.0 at.1, at.2))

to_groups : (groups : List (List ℕ)) (row : List ℕ) (h k : ℕ) → Contains row h → Contains (get_or groups h []) k → Contains (places_in groups row) k
to_groups groups [] h k among has = absurd (contains-none h among)
to_groups groups (g ∷ gs) h k among has = by (in_head g h gs among) (λ more. to_groups groups gs h k more has)
  where
    by : (g ≡ h) ⊎ Contains gs h → (Contains gs h → Contains (places_in groups gs) k) → Contains (places_in groups (g ∷ gs)) k
    by (inl same) later = Contains-append_left (get_or groups g []) (places_in groups gs) k (subst (λ i. Contains (get_or groups i []) k) (sym same) has)
    by (inr more) later = Contains-append_right (get_or groups g []) (places_in groups gs) k (later more)

pub listed_places : (dom : Tree) (ss : List SelectedOf) (groups : List (List ℕ)) (n : ℕ) (row : List ℕ) → IsMatchList dom (selectors_of ss) groups n row → ArePlaces dom ss n (places_in groups row)
listed_places dom ss groups n row h k = (λ has. (h.each k).0 (from_groups groups row k has), λ m. (let at = (h.each k).1 m in to_groups groups row at.0 k at.1 at.2))

pub selector_at : (ss : List Selected) (i : ℕ) (x : Selected) → i < length ss → x ≡ get_or ss i x → slice_get (selectors_of (map selected_in ss)) i ≡ Some x.selector.now
selector_at ss i x low is =
    slice_get-map (λ (s : SelectedOf). s.selector) (map selected_in ss) i ∙ ap (option_map (λ (s : SelectedOf). s.selector)) (slice_get-map selected_in ss i ∙ ap (option_map selected_in) (slice_get_read ss (length ss) i x refl low is))

pub through : {A B C : Type 0} (g : A → B) (f : B → C) (o : Option A) → option_map (λ s. f (g s)) o ≡ option_map f (option_map g o)
through g f None = refl
through g f (Some x) = refl

pub from_get : {A B : Type 0} (g : B → A) (xs : List A) (k : ℕ) (R : B → Type 0) (o : Option B) → MatchOption o (length xs ≤ k) (λ x. (k < length xs) × R x) → IfSome o (λ x. g x ≡ get_or xs k (g x)) → option_map g o ≡ slice_get xs k
from_get g xs k R None m e = sym (slice_get_past xs k m)
from_get g xs k R (Some x) m e = let low = m.0 in ap (λ y. Some y) e ∙ sym (slice_get-get_or xs k (g x) low)

-- ---- what is chosen for a node wins

pub of_chosen : (dom : Tree) (sheets : List ReadSheet) (ss : List SelectedOf) (n : ℕ) (places : List ℕ) (styled : List ReadDecl) (w : NodeWinners) → ss ≡ selected_from 0 (rules_of sheets) → ArePlaces dom ss n places → styled ≡ style_decls dom n
    → AreChosen ss places styled w → AreNodeWinners dom sheets n w
of_chosen dom sheets ss n places styled w all found same c = record {
  own = at_node dom sheets ss n places styled pseudo.Element w.own all found same c.own;
  before = at_node dom sheets ss n places styled pseudo.Before w.before all found same c.before;
  after = at_node dom sheets ss n places styled pseudo.After w.after all found same c.after;
  call = at_node dom sheets ss n places styled pseudo.Call w.call all found same c.call;
  marker = at_node dom sheets ss n places styled pseudo.Marker w.marker all found same c.marker;
}
