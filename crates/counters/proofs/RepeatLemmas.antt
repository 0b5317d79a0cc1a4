-- uses that repeat the change before them
use Rattle.std.proofs.Common.{◌≡◌, ℕ, zero, suc, ◌-◌, ◌+◌, ◌<◌, Bool, true, false, cond, ◌&&◌, List, [], ◌∷◌, ◌++◌, Option, Some, drop, get_or, length, length-append, slice_get, refl, sym, ◌∙◌, ap, subst, arith}
use Rattle.std.proofs.lemmas.Bool.{and_parts}
use Rattle.std.proofs.lemmas.Option.{same_Some}
use Rattle.bk_num.specs.Names.{has_name}
use Rattle.bk_num.proofs.ListLemmas.{bytes_self, get-end}
use Rattle.named_lists.specs.Lists.{ListsOf, items_of, with_item}
use Rattle.named_lists.proofs.ListLemmas.{items-more, len-more}
use Rattle.dom.proofs.DomLemmas.{eqb-self}
use Rattle.style.proofs.NodeLemmas.{get-last}
use Rattle.counters.specs.declared.scopes.CounterEvent.{CounterEvent}
use Rattle.counters.specs.Gather.{adds_nothing, is_at, is_use, with_change, with_changes}
use Rattle.counters.specs.declared.scopes.Act.{Act}
use Rattle.counters.specs.Document.{named}
use Rattle.counters.specs.Log.{of_asked}

-- whether the last event stands at a place
abbrev StandsAt : ℕ → List CounterEvent → Type 0
StandsAt k events = is_at k (slice_get events (length events - 1)) ≡ true

end-stands : (events : List CounterEvent) (e : CounterEvent) → StandsAt e.at (events ++ e ∷ [])
end-stands events e =
    let n : length (events ++ e ∷ []) - 1 ≡ length events = (let z = length-append events (e ∷ []) in omega arith) in
    ap (λ i. is_at e.at (slice_get (events ++ e ∷ []) i)) n ∙ ap (is_at e.at) (get-end events e) ∙ eqb-self e.at

change-len : (l : ListsOf CounterEvent) (p : List ℕ × CounterEvent) → length l.names ≡ length l.lists → length (with_change l p).names ≡ length (with_change l p).lists
change-len l p h = by (adds_nothing (items_of l p.0) p.1)
  where
    by : (b : Bool) → length (cond b l (with_item l p)).names ≡ length (cond b l (with_item l p)).lists
    by true = h
    by false = len-more l.names l.lists p.0 p.1 h

change-stands : (l : ListsOf CounterEvent) (p : List ℕ × CounterEvent) → length l.names ≡ length l.lists → StandsAt p.1.at (items_of (with_change l p) p.0)
change-stands l p h = by (adds_nothing (items_of l p.0) p.1) refl
  where
    more : items_of (with_item l p) p.0 ≡ items_of l p.0 ++ p.1 ∷ []
    more = items-more l p.0 p.0 p.1 h ∙ ap (λ b. items_of l p.0 ++ cond b (p.1 ∷ []) []) (bytes_self p.0)

    by : (b : Bool) → adds_nothing (items_of l p.0) p.1 ≡ b → StandsAt p.1.at (items_of (cond b l (with_item l p)) p.0)
    by true e = (and_parts _ _ e).0
    by false e = ap (λ v. is_at p.1.at (slice_get v (length v - 1))) more ∙ end-stands (items_of l p.0) p.1

asked-len : (asked : List (List ℕ)) (l : ListsOf CounterEvent) (p : List ℕ × CounterEvent) → length l.names ≡ length l.lists → length (with_changes l (of_asked asked (p ∷ []))).names ≡ length (with_changes l (of_asked asked (p ∷ []))).lists
asked-len asked l p h = by (has_name asked p.0)
  where
    by : (b : Bool) → length (with_changes l (cond b (p ∷ []) [])).names ≡ length (with_changes l (cond b (p ∷ []) [])).lists
    by true = change-len l p h
    by false = h

asked-stands : (asked : List (List ℕ)) (l : ListsOf CounterEvent) (p : List ℕ × CounterEvent) → length l.names ≡ length l.lists → has_name asked p.0 ≡ true → StandsAt p.1.at (items_of (with_changes l (of_asked asked (p ∷ []))) p.0)
asked-stands asked l p h t = ap (λ b. is_at p.1.at (slice_get (items_of (with_changes l (cond b (p ∷ []) [])) p.0) (length (items_of (with_changes l (cond b (p ∷ []) [])) p.0) - 1))) t ∙ change-stands l p h

-- a use that repeats a change at its place changes nothing
repeated : (asked : List (List ℕ)) (l : ListsOf CounterEvent) (p : List ℕ × CounterEvent) (more : List (List ℕ × CounterEvent)) → (has_name asked p.0 ≡ true → StandsAt p.1.at (items_of l p.0)) → is_use p.1.act ≡ true → with_changes l (of_asked asked (p ∷ more)) ≡ with_changes l (of_asked asked more)
repeated asked l p more stands use_is = by (has_name asked p.0) refl
  where
    none : has_name asked p.0 ≡ true → with_change l p ≡ l
    none t = ap (λ b. cond (b && is_use p.1.act) l (with_item l p)) (stands t) ∙ ap (λ b. cond b l (with_item l p)) use_is

    by : (b : Bool) → has_name asked p.0 ≡ b → with_changes l (cond b (p ∷ of_asked asked more) (of_asked asked more)) ≡ with_changes l (of_asked asked more)
    by true t = ap (λ m. with_changes m (of_asked asked more)) (none t)
    by false t = refl

-- ---- along the changes of a row

drop-more : {A : Type 0} (xs : List A) (i : ℕ) (x : A) → slice_get xs i ≡ Some x → drop i xs ≡ x ∷ drop (i + 1) xs
drop-more [] i x g = cc
drop-more (y ∷ ys) zero x g = let h : y ≡ x = cc in ap (λ z. z ∷ ys) h
drop-more (y ∷ ys) (suc i) x g = drop-more ys i x g ∙ (let z : suc (i + 1) ≡ suc i + 1 = omega arith in ap (λ n. x ∷ drop n (y ∷ ys)) z)

-- the event of a change
abbrev pub event_of : ℕ → ℕ → List ℕ × Act → List ℕ × CounterEvent
event_of at end x = (x.0, record { at = at; end = end; act = x.1 })

row-step : (asked : List (List ℕ)) (at end : ℕ) (items : List (List ℕ × Act)) (i : ℕ) (x : List ℕ × Act) (l : ListsOf CounterEvent) → i < length items → x ≡ get_or items i x → with_changes l (of_asked asked (named at end (drop i items))) ≡ with_changes l (of_asked asked (event_of at end x ∷ named at end (drop (i + 1) items)))
row-step asked at end items i x l h e = ap (λ d. with_changes l (of_asked asked (named at end d))) (drop-more items i x (get-last items i x h e))

one-first : (asked : List (List ℕ)) (l : ListsOf CounterEvent) (p : List ℕ × CounterEvent) (more : List (List ℕ × CounterEvent)) → with_changes l (of_asked asked (p ∷ more)) ≡ with_changes (with_changes l (of_asked asked (p ∷ []))) (of_asked asked more)
one-first asked l p more = by (has_name asked p.0)
  where
    by : (b : Bool) → with_changes l (cond b (p ∷ of_asked asked more) (of_asked asked more)) ≡ with_changes (with_changes l (cond b (p ∷ []) [])) (of_asked asked more)
    by true = refl
    by false = refl

-- the last event of the counter that was changed last stands at the place
abbrev pub Stand : List (List ℕ) → ℕ → ListsOf CounterEvent → Option (List ℕ) → Type 0
Stand asked at l before = (x : List ℕ) → before ≡ Some x → has_name asked x ≡ true → is_at at (slice_get (items_of l x) (length (items_of l x) - 1)) ≡ true

pub row-pushed : (asked : List (List ℕ)) (at end : ℕ) (items : List (List ℕ × Act)) (i : ℕ) (x : List ℕ × Act) (l new : ListsOf CounterEvent) → i < length items → x ≡ get_or items i x → new ≡ with_changes l (of_asked asked (event_of at end x ∷ [])) → with_changes new (of_asked asked (named at end (drop (i + 1) items))) ≡ with_changes l (of_asked asked (named at end (drop i items)))
row-pushed asked at end items i x l new h e n = ap (λ m. with_changes m (of_asked asked (named at end (drop (i + 1) items)))) n ∙ sym (one-first asked l (event_of at end x) (named at end (drop (i + 1) items))) ∙ sym (row-step asked at end items i x l h e)

pub pushed-len : (asked : List (List ℕ)) (p : List ℕ × CounterEvent) (l new : ListsOf CounterEvent) → length l.names ≡ length l.lists → new ≡ with_changes l (of_asked asked (p ∷ [])) → length new.names ≡ length new.lists
pushed-len asked p l new h n = subst (λ (m : ListsOf CounterEvent). length m.names ≡ length m.lists) (sym n) (asked-len asked l p h)

pub pushed-stand : (asked : List (List ℕ)) (p : List ℕ × CounterEvent) (l new : ListsOf CounterEvent) (before : Option (List ℕ)) → length l.names ≡ length l.lists → new ≡ with_changes l (of_asked asked (p ∷ [])) → before ≡ Some p.0 → Stand asked p.1.at new before
pushed-stand asked p l new before h n e x f t =
    let same : p.0 ≡ x = same_Some p.0 x (sym e ∙ f) in
    let here : StandsAt p.1.at (items_of new p.0) = subst (λ (m : ListsOf CounterEvent). StandsAt p.1.at (items_of m p.0)) (sym n) (asked-stands asked l p h (ap (has_name asked) same ∙ t)) in
    subst (λ (y : List ℕ). StandsAt p.1.at (items_of new y)) same here

pub row-repeated : (asked : List (List ℕ)) (at end : ℕ) (items : List (List ℕ × Act)) (i : ℕ) (x : List ℕ × Act) (l : ListsOf CounterEvent) (before : Option (List ℕ)) → i < length items → x ≡ get_or items i x → Stand asked at l before → before ≡ Some x.0 → is_use x.1 ≡ true → with_changes l (of_asked asked (named at end (drop (i + 1) items))) ≡ with_changes l (of_asked asked (named at end (drop i items)))
row-repeated asked at end items i x l before h e stand same use_is = sym (row-step asked at end items i x l h e ∙ repeated asked l (event_of at end x) (named at end (drop (i + 1) items)) (stand x.0 same) use_is)
