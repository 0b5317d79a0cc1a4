-- Rows and styles that grow.
use Rattle.std.proofs.Common.{◌≡◌, ℕ, Bool, get_or, zero, suc, ◌+◌, ◌<◌, ◌≤◌, List, [], ◌∷◌, ◌++◌, Option, None, Some, Result, Ok, Err, OnOk, OnErr, length, length-append, map, option_map, slice_get, slice_set, refl, sym, ◌∙◌, ap, subst, arith, ◌⊎◌, inl, inr}
use Rattle.std.proofs.lemmas.List.{map-append}
use Rattle.std.proofs.lemmas.Option.{slice_get-map, slice_get_read, same_Some}
use Rattle.bk_num.specs.declared.values.Pseudo.{Pseudo}
use Rattle.bk_num.specs.declared.values.Pseudo.TheVariants as pseudo
use Rattle.bk_num.proofs.ListLemmas.{get-push, get-before, get-end}
use Rattle.style.specs.declared.style.Style.{Style}
use Rattle.style.specs.declared.styles.NodeRow.{NodeRow}
use Rattle.style.specs.Nodes.{NodeStyles, AddsLike, AreNumberedBy, IsNumber, change_last, number_at, number_in, number_of, numbered, own_style, style_in, style_of, with_style}
use Rattle.style.specs.NodeFields.{node_of, numbers_of, with_number, HasNumbers, AreNumbered}

is-more : (n m : ℕ) → n ≤ m → (o : Option ℕ) → IsNumber n o → IsNumber m o
is-more n m le None h = tt
is-more n m le (Some i) h = omega arith

has-more : (n m : ℕ) → n ≤ m → (r : NodeRow) → HasNumbers n r → HasNumbers m r
has-more n m le r h = record { own = is-more n m le r.own h.own; before = is-more n m le r.before h.before; after = is-more n m le r.after h.after; call = is-more n m le r.call h.call; marker = is-more n m le r.marker h.marker }

numbered-same : (styles : List Style) (s : Style) (o : Option ℕ) → IsNumber (length styles) o → numbered (styles ++ s ∷ []) o ≡ numbered styles o
numbered-same styles s None h = refl
numbered-same styles s (Some i) h = get-before styles s i h

node-same : (styles : List Style) (s : Style) (r : NodeRow) → HasNumbers (length styles) r → node_of (styles ++ s ∷ []) r ≡ node_of styles r
node-same styles s r h = rw (numbered-same styles s r.own h.own, numbered-same styles s r.before h.before, numbered-same styles s r.after h.after, numbered-same styles s r.call h.call, numbered-same styles s r.marker h.marker) refl

nodes-same : (styles : List Style) (s : Style) (rows : List NodeRow) → AreNumbered (length styles) rows → map (node_of (styles ++ s ∷ [])) rows ≡ map (node_of styles) rows
nodes-same styles s [] h = refl
nodes-same styles s (r ∷ rows) h = rw (node-same styles s r (h 0 r refl), nodes-same styles s rows (λ k q g. h (suc k) q g)) refl

longer : (styles : List Style) (s : Style) → length (styles ++ s ∷ []) ≡ length styles + 1
longer styles s = length-append styles (s ∷ [])

all-more : (styles : List Style) (s : Style) (rows : List NodeRow) → AreNumbered (length styles) rows → AreNumbered (length (styles ++ s ∷ [])) rows
all-more styles s rows h k r g = let e = longer styles s in has-more (length styles) (length (styles ++ s ∷ [])) (omega arith) r (h k r g)

pub all-push : (n : ℕ) (rows : List NodeRow) (row : NodeRow) → AreNumbered n rows → HasNumbers n row → AreNumbered n (rows ++ row ∷ [])
all-push n rows row h g k r e = by (get-push rows row r k e)
  where
    by : ((k ≡ length rows) × (r ≡ row)) ⊎ (slice_get rows k ≡ Some r) → HasNumbers n r
    by (inl (at, same)) = rw same g
    by (inr old) = h k r old

-- an element more
pub sound-add : {A E : Type 0} (res : Result A E) (styles more : List Style) (s : Style) (rows next : List NodeRow) (row : NodeRow) → more ≡ styles ++ s ∷ [] → OnOk res (next ≡ rows ++ row ∷ []) → OnErr res (next ≡ rows) → AreNumbered (length styles) rows → HasNumbers (length styles + 1) row → AreNumbered (length more) next
sound-add (Ok a) styles more s rows next row e ok err h g = rw (e, ok) (all-push (length (styles ++ s ∷ [])) rows row (all-more styles s rows h) (rw (longer styles s) g))
sound-add (Err a) styles more s rows next row e ok err h g = rw (e, err) (all-more styles s rows h)

pub view-ok : {A E : Type 0} (res : Result A E) (styles more : List Style) (s : Style) (rows next : List NodeRow) (row : NodeRow) (node : NodeStyles) → more ≡ styles ++ s ∷ [] → OnOk res (next ≡ rows ++ row ∷ []) → AreNumbered (length styles) rows → node_of (styles ++ s ∷ []) row ≡ node → OnOk res (map (node_of more) next ≡ map (node_of styles) rows ++ node ∷ [])
view-ok (Ok a) styles more s rows next row node e ok h g = rw (e, ok, map-append (node_of (styles ++ s ∷ [])) rows (row ∷ []), nodes-same styles s rows h, g) refl
view-ok (Err a) styles more s rows next row node e ok h g = tt

pub view-err : {A E : Type 0} (res : Result A E) (styles more : List Style) (s : Style) (rows next : List NodeRow) → more ≡ styles ++ s ∷ [] → OnErr res (next ≡ rows) → AreNumbered (length styles) rows → OnErr res (map (node_of more) next ≡ map (node_of styles) rows)
view-err (Ok a) styles more s rows next e err h = tt
view-err (Err a) styles more s rows next e err h = rw (e, err) (nodes-same styles s rows h)

-- the last entry changed
pub change-set : {A : Type 0} (f : A → A) (xs : List A) (k : ℕ) (x : A) → k + 1 ≡ length xs → slice_get xs k ≡ Some x → slice_set xs k (f x) ≡ change_last f xs
change-set f [] k x n h = cc
change-set f (y ∷ []) zero x n h = ap (λ z. f z ∷ []) (sym (same_Some _ _ h))
change-set f (y ∷ []) (suc k) x n h = absurd (omega arith)
change-set f (y ∷ (z ∷ zs)) zero x n h = absurd (omega arith)
change-set f (y ∷ (z ∷ zs)) (suc k) x n h = ap (λ ys. y ∷ ys) (change-set f (z ∷ zs) k x (omega arith) h)

with-number : (p : Pseudo) (i n : ℕ) (r : NodeRow) → i < n → HasNumbers n r → HasNumbers n (with_number p i r)
with-number pseudo.Element i n r l h = record { own = l; before = h.before; after = h.after; call = h.call; marker = h.marker }
with-number pseudo.Before i n r l h = record { own = h.own; before = l; after = h.after; call = h.call; marker = h.marker }
with-number pseudo.After i n r l h = record { own = h.own; before = h.before; after = l; call = h.call; marker = h.marker }
with-number pseudo.Call i n r l h = record { own = h.own; before = h.before; after = h.after; call = l; marker = h.marker }
with-number pseudo.Marker i n r l h = record { own = h.own; before = h.before; after = h.after; call = h.call; marker = l }

pub sound-put : (n i : ℕ) (p : Pseudo) (rows : List NodeRow) → i < n → AreNumbered n rows → AreNumbered n (change_last (with_number p i) rows)
sound-put n i p [] l h k r g = cc
sound-put n i p (q ∷ []) l h zero r g = subst (λ o. HasNumbers n o) (same_Some _ _ g) (with-number p i n q l (h 0 q refl))
sound-put n i p (q ∷ []) l h (suc k) r g = cc
sound-put n i p (q ∷ (q' ∷ rows)) l h zero r g = h 0 r g
sound-put n i p (q ∷ (q' ∷ rows)) l h (suc k) r g = sound-put n i p (q' ∷ rows) l (λ j o e. h (suc j) o e) k r g

put-same : (styles : List Style) (s : Style) (p : Pseudo) (r : NodeRow) → HasNumbers (length styles) r → node_of (styles ++ s ∷ []) (with_number p (length styles) r) ≡ with_style p s (node_of styles r)
put-same styles s pseudo.Element r h = rw (get-end styles s, numbered-same styles s r.before h.before, numbered-same styles s r.after h.after, numbered-same styles s r.call h.call, numbered-same styles s r.marker h.marker) refl
put-same styles s pseudo.Before r h = rw (get-end styles s, numbered-same styles s r.own h.own, numbered-same styles s r.after h.after, numbered-same styles s r.call h.call, numbered-same styles s r.marker h.marker) refl
put-same styles s pseudo.After r h = rw (get-end styles s, numbered-same styles s r.own h.own, numbered-same styles s r.before h.before, numbered-same styles s r.call h.call, numbered-same styles s r.marker h.marker) refl
put-same styles s pseudo.Call r h = rw (get-end styles s, numbered-same styles s r.own h.own, numbered-same styles s r.before h.before, numbered-same styles s r.after h.after, numbered-same styles s r.marker h.marker) refl
put-same styles s pseudo.Marker r h = rw (get-end styles s, numbered-same styles s r.own h.own, numbered-same styles s r.before h.before, numbered-same styles s r.after h.after, numbered-same styles s r.call h.call) refl

pub view-put : (styles more : List Style) (s : Style) (p : Pseudo) (rows : List NodeRow) → more ≡ styles ++ s ∷ [] → AreNumbered (length styles) rows → map (node_of more) (change_last (with_number p (length styles)) rows) ≡ change_last (with_style p s) (map (node_of styles) rows)
view-put styles more s p [] e h = refl
view-put styles more s p (q ∷ []) e h = rw (e, put-same styles s p q (h 0 q refl)) refl
view-put styles more s p (q ∷ (q' ∷ rows)) e h = rw (view-put styles more s p (q' ∷ rows) e (λ k r g. h (suc k) r g), e, node-same styles s q (h 0 q refl)) refl

-- a text more
pub sound-text : {A E : Type 0} (res : Result A E) (n : ℕ) (rows next : List NodeRow) (row : NodeRow) → OnOk res (next ≡ rows ++ row ∷ []) → OnErr res (next ≡ rows) → AreNumbered n rows → HasNumbers n row → AreNumbered n next
sound-text (Ok a) n rows next row ok err h g = rw ok (all-push n rows row h g)
sound-text (Err a) n rows next row ok err h g = rw err h

pub own-row : (styles : List Style) (s : Style) (i : ℕ) (shown note in_note : Bool) → i ≡ length styles → node_of (styles ++ s ∷ []) (record { own = Some i; before = None; after = None; call = None; marker = None; shown = shown; note = note; in_note = in_note }) ≡ own_style s shown note in_note
own-row styles s i shown note in_note e = rw (e, get-end styles s) refl

pub one-more : (styles more : List Style) (s : Style) → more ≡ styles ++ s ∷ [] → length more ≡ length styles + 1
one-more styles more s e = rw e (longer styles s)

pub sound-more : (styles more : List Style) (s : Style) (rows : List NodeRow) → more ≡ styles ++ s ∷ [] → AreNumbered (length styles) rows → AreNumbered (length more) rows
sound-more styles more s rows e h = rw e (all-more styles s rows h)

pub get-last : {A : Type 0} (xs : List A) (k : ℕ) (x : A) → k < length xs → x ≡ get_or xs k x → slice_get xs k ≡ Some x
get-last xs k x l e = slice_get_read xs (length xs) k x refl l e

-- a row more that is there already
pub like-added : {A E : Type 0} (res : Result A E) (styles : List Style) (rows next : List NodeRow) (k : ℕ) (row : NodeRow) → slice_get rows k ≡ Some row → OnOk res (next ≡ rows ++ row ∷ []) → OnOk res (AddsLike (map (node_of styles) rows) k (map (node_of styles) next))
like-added (Ok a) styles rows next k row at ok = record { row = node_of styles row; there = slice_get-map (node_of styles) rows k ∙ ap (option_map (node_of styles)) at; added = ap (map (node_of styles)) ok ∙ map-append (node_of styles) rows (row ∷ []) }
like-added (Err a) styles rows next k row at ok = tt

-- a table
style-by-number : (styles : List Style) (r : NodeRow) (p : Pseudo) → style_in (node_of styles r) p ≡ numbered styles (number_in (numbers_of r) p)
style-by-number styles r pseudo.Element = refl
style-by-number styles r pseudo.Before = refl
style-by-number styles r pseudo.After = refl
style-by-number styles r pseudo.Call = refl
style-by-number styles r pseudo.Marker = refl

of-number : (styles : List Style) (o : Option NodeRow) (p : Pseudo) → style_of (option_map (node_of styles) o) p ≡ numbered styles (number_of (option_map numbers_of o) p)
of-number styles None p = refl
of-number styles (Some r) p = style-by-number styles r p

number-below : (count : ℕ) (r : NodeRow) (p : Pseudo) → HasNumbers count r → IsNumber count (number_in (numbers_of r) p)
number-below count r pseudo.Element h = h.own
number-below count r pseudo.Before h = h.before
number-below count r pseudo.After h = h.after
number-below count r pseudo.Call h = h.call
number-below count r pseudo.Marker h = h.marker

at-below : (count : ℕ) (rows : List NodeRow) (n : ℕ) (p : Pseudo) → AreNumbered count rows → IsNumber count (number_at (map numbers_of rows) n p)
at-below count rows n p h = subst (λ o. IsNumber count (number_of o p)) (sym (slice_get-map numbers_of rows n)) (by (slice_get rows n) refl)
  where
    by : (o : Option NodeRow) → slice_get rows n ≡ o → IsNumber count (number_of (option_map numbers_of o) p)
    by None e = tt
    by (Some r) e = number-below count r p (h n r e)

pub numbered-by : (styles : List Style) (rows : List NodeRow) → AreNumbered (length styles) rows → AreNumberedBy (record { styles = styles; nodes = map numbers_of rows }) (map (node_of styles) rows)
numbered-by styles rows h = record { styles = λ n p. rw (slice_get-map (node_of styles) rows n, slice_get-map numbers_of rows n) (of-number styles (slice_get rows n) p); below = λ n p. at-below (length styles) rows n p h }
