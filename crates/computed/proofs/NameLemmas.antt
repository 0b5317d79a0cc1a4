-- Names of pages, as they are given and numbered.
use Rattle.std.proofs.Common.{◌≡◌, ◌∙◌, ℕ, ℤ, zero, suc, Bool, true, ◌||◌, cond, List, [], ◌∷◌, ◌++◌, append_assoc, append-nil, Option, None, Some, length, slice_get, refl, sym, ap}
use Rattle.std.proofs.lemmas.List.Sums.{fold-append}
use Rattle.std.proofs.lemmas.Slice.Eq.{bytes_eq-Decides}
use Rattle.std.specs.List.{list_any}
use Rattle.std.specs.Option.{option_to_list}
use Rattle.std.specs.Str.{bytes_eq}
use Rattle.std.proofs.Math.Bool.{or-true}
use Rattle.dom.specs.NameLists.{AreOnce}
use Rattle.dom.proofs.NameLemmas.{once-with}
use Rattle.style.specs.Nodes.{NodeStyles}
use Rattle.bk_num.specs.Names.{with_name}
use Rattle.style.specs.declared.style.Style.{Style}
use Rattle.style.specs.declared.long.Long.{Long}
use Rattle.cascade.specs.declared.table.NodeWinners.{NodeWinners}
use Rattle.computed.specs.Names.{page_in, given_names, node_names, page_names, with_names, names_of}
use Rattle.computed.specs.Walk.{IsPage, IsStyle, HasPseudo, IsElement, style_above, root_above, parent_row}

-- ---- names that are there already

listed : (names : List (List ℕ)) (name : List ℕ) (n : ℕ) → slice_get names n ≡ Some name → list_any (bytes_eq name) names ≡ true
listed [] name n h = cc
listed (x ∷ xs) name zero h =
    let e : name ≡ x = cc in
    ap (λ b. b || list_any (bytes_eq name) xs) ((bytes_eq-Decides name x).1 e)
listed (x ∷ xs) name (suc n) h = ap (λ b. bytes_eq name x || b) (listed xs name n h) ∙ or-true (bytes_eq name x)

-- a name that has a number adds none
known : (names : List (List ℕ)) (name : List ℕ) (n : ℕ) → slice_get names n ≡ Some name → with_name names name ≡ names
known names name n h = ap (λ b. cond b names (names ++ name ∷ [])) (listed names name n h)

page-known : (names : List (List ℕ)) (p : ℕ) (o : Option (List ℕ)) (n : ℕ) → IsPage names p o n → with_names names (option_to_list o) ≡ names
page-known names p None n h = refl
page-known names p (Some name) n h = known names name n h

own-known : (names : List (List ℕ)) (p : Style) (root : Option ℤ) (w : List Long) (s : Style) (o : Option Style) → o ≡ Some s → IsStyle names p root w s → with_names names (given_names w o) ≡ names
own-known names p root w s o e h = ap (λ x. with_names names (given_names w x)) e ∙ page-known names p.page.0 (page_in w) s.page.0 h.page

pseudo-known : (names : List (List ℕ)) (own : Style) (root : ℤ) (allowed : Bool) (w : List Long) (o : Option Style) → HasPseudo names own root allowed w o → with_names names (given_names w o) ≡ names
pseudo-known names own root allowed w None h = refl
pseudo-known names own root allowed w (Some s) h = page-known names own.page.0 (page_in w) s.page.0 h.1.page

both-known : (names xs ys : List (List ℕ)) → with_names names xs ≡ names → with_names names ys ≡ names → with_names names (xs ++ ys) ≡ names
both-known names xs ys h g = fold-append with_name names xs ys ∙ ap (λ l. with_names l ys) h ∙ g

-- an element whose styles have their numbers adds no name
pub element-known : (names : List (List ℕ)) (rows : List NodeStyles) (parent : Option ℕ) (w : NodeWinners) (r : NodeStyles) → IsElement names rows parent w r → with_names names (node_names w r) ≡ names
element-known names rows parent w r h =
    let own = own-known names (style_above (parent_row rows parent)) (root_above rows parent) w.own h.style r.own h.own h.values in
    let before = pseudo-known names h.style _ r.shown w.before r.before h.before in
    let after = pseudo-known names h.style _ r.shown w.after r.after h.after in
    let call = pseudo-known names h.style _ r.note w.call r.call h.call in
    let marker = pseudo-known names h.style _ r.note w.marker r.marker h.marker in
    let on_note = both-known names (given_names w.call r.call) (given_names w.marker r.marker) call marker in
    let below = both-known names (given_names w.after r.after) (given_names w.call r.call ++ given_names w.marker r.marker) after on_note in
    let all = both-known names (given_names w.before r.before) (given_names w.after r.after ++ (given_names w.call r.call ++ given_names w.marker r.marker)) before below in
    both-known names (given_names w.own r.own) (given_names w.before r.before ++ (given_names w.after r.after ++ (given_names w.call r.call ++ given_names w.marker r.marker))) own all

-- ---- names that are added

pub then-names : (a b c xs ys : List (List ℕ)) → b ≡ with_names a xs → c ≡ with_names b ys → c ≡ with_names a (xs ++ ys)
then-names a b c xs ys h g = g ∙ ap (λ l. with_names l ys) h ∙ sym (fold-append with_name a xs ys)

none-given : (winners : List NodeWinners) → page_names winners [] ≡ []
none-given [] = refl
none-given (w ∷ ws) = refl

more-given : (winners : List NodeWinners) (rows : List NodeStyles) (w : NodeWinners) (r : NodeStyles) → slice_get winners (length rows) ≡ Some w → page_names winners (rows ++ r ∷ []) ≡ page_names winners rows ++ node_names w r
more-given [] rows w r at = cc
more-given (v ∷ ws) [] w r at =
    let e : v ≡ w = cc in
    ap (λ l. node_names v r ++ l) (none-given ws) ∙ append-nil (node_names v r) ∙ ap (λ x. node_names x r) e
more-given (v ∷ ws) (q ∷ rows) w r at = ap (λ l. node_names v q ++ l) (more-given ws rows w r at) ∙ sym (append_assoc (node_names v q) (page_names ws rows) (node_names w r))

pub no-names : (names : List (List ℕ)) (winners : List NodeWinners) (rows : List NodeStyles) → names ≡ [] ∷ [] → rows ≡ [] → names ≡ names_of winners rows
no-names names winners rows h e = h ∙ ap (with_names ([] ∷ [])) (sym (ap (page_names winners) e ∙ none-given winners))

pub names-turn : (names more : List (List ℕ)) (winners : List NodeWinners) (i : ℕ) (w : NodeWinners) (rows next : List NodeStyles) (r : NodeStyles) → length rows ≡ i → slice_get winners i ≡ Some w → next ≡ rows ++ r ∷ [] → names ≡ names_of winners rows → more ≡ with_names names (node_names w r) → more ≡ names_of winners next
names-turn names more winners i w rows next r len at added h g =
    let here : slice_get winners (length rows) ≡ Some w = ap (slice_get winners) len ∙ at in
    then-names ([] ∷ []) names more (page_names winners rows) (node_names w r) h g ∙ ap (with_names ([] ∷ [])) (sym (ap (page_names winners) added ∙ more-given winners rows w r here))

-- ---- each name has one number

once-all : (names more : List (List ℕ)) → AreOnce names → AreOnce (with_names names more)
once-all names [] once = once
once-all names (name ∷ more) once = once-all (with_name names name) more (once-with names name once)

first-once : AreOnce ([] ∷ [])
first-once zero zero name h g = refl
first-once zero (suc j) name h g = cc
first-once (suc i) j name h g = cc

pub are-once : (winners : List NodeWinners) (rows : List NodeStyles) → AreOnce (names_of winners rows)
are-once winners rows = once-all ([] ∷ []) (page_names winners rows) first-once

pub one-number : (names : List (List ℕ)) → AreOnce names → (p q : ℕ) (o : Option (List ℕ)) (n m : ℕ) → p ≡ q → IsPage names p o n → IsPage names q o m → n ≡ m
one-number names once p q None n m e h g = h ∙ e ∙ sym g
one-number names once p q (Some name) n m e h g = once n m name h g
