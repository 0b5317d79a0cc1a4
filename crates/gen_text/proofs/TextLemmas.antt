-- the text of a list of content as a function
use Rattle.std.proofs.Common.{◌≡◌, ℕ, zero, suc, ◌+◌, ◌<◌, Bool, true, false, not, ◌&&◌, List, [], ◌∷◌, ◌++◌, Option, None, Some, length, map, filter, get_or, take, slice_get, refl, sym, ◌∙◌, ap, subst, arith}
use Rattle.std.specs.List.{flat_map}
use Rattle.std.proofs.lemmas.List.{append-nil, append_assoc, take_more, map-append}
use Rattle.std.proofs.lemmas.List.Folds.{list_any_at, list_any_none}
use Rattle.std.proofs.lemmas.List.FromFn.{length-range_with_len, get_or-range_with_len}
use Rattle.std.proofs.lemmas.Option.{slice_get_within}
use Rattle.std.proofs.lemmas.List.Elements.{filter-append}
use Rattle.std.proofs.lemmas.Bool.{and_parts, not-true}
use Rattle.bk_num.specs.Names.{has_name}
use Rattle.bk_num.specs.declared.values.Pseudo.TheVariants as pseudo
use Rattle.bk_num.proofs.ListLemmas.{filter-none}
use Rattle.dom.specs.Nodes.{Node, IsTree}
use Rattle.dom.specs.Order.{IsFirstOf, has_id, comes_after}
use Rattle.dom.proofs.OrderLemmas.{first-one}
use Rattle.style.specs.declared.content.Part.{Part}
use Rattle.style.specs.declared.content.Part.TheVariants as part
use Rattle.style.specs.Nodes.{NodeStyles}
use Rattle.gen_text.specs.Content.{Place, PrintsPart, PrintsParts, printed_by, text_of, TextIsThat}
use Rattle.gen_text.specs.Parts.{reference_text}
use Rattle.gen_text.specs.Texts.{TextSource, assigned_by, assigned_of, place_at}
use Rattle.gen_text.specs.Target.{IsOfId, TargetIsThat, address_of, id_in, shown_only, numbers_of, is_preceded, is_first, first_of, shown_of}

-- ---- the first that passes a test

abbrev Heads : (ℕ → Bool) → List ℕ → Type 0
Heads p xs = (y : ℕ) × (slice_get (filter p xs) 0 ≡ Some y) × (p y ≡ true)

one_passes : (p : ℕ → Bool) (xs : List ℕ) (i n : ℕ) → i < length xs → get_or xs i 0 ≡ n → p n ≡ true → Heads p xs
one_passes p [] i n less at passes = absurd (omega (arith, less))
one_passes p (x ∷ xs) zero n less at passes = let e : p x ≡ true = subst (λ (k : ℕ). p k ≡ true) (sym at) passes in (x, rw e refl, e)
one_passes p (x ∷ xs) (suc i) n less at passes = by (p x) refl (one_passes p xs i n (omega (arith, less)) at passes)
  where
    by : (b : Bool) → p x ≡ b → Heads p xs → Heads p (x ∷ xs)
    by true e later = (x, rw e refl, e)
    by false e later = (later.0, rw e later.1, later.2)

-- ---- the first of an id

-- an element of an id is a node of the document
pub has_within : (nodes : List Node) (id : List ℕ) (n : ℕ) → has_id nodes id n ≡ true → n < length nodes
has_within nodes id n has = by (slice_get nodes n) refl
  where
    by : (o : Option Node) → slice_get nodes n ≡ o → n < length nodes
    by None e = let bad : has_id nodes id n ≡ false = rw e refl in cc
    by (Some x) e = slice_get_within nodes n x e

number_at : (nodes : List Node) (n : ℕ) → n < length nodes → (n < length (numbers_of nodes)) × (get_or (numbers_of nodes) n 0 ≡ n)
number_at nodes n less = let len = length-range_with_len 0 (length nodes) in let at = get_or-range_with_len 0 (length nodes) n 0 less in (omega (arith, len, less), omega (arith, at))

is-first : (nodes : List Node) (id : List ℕ) (n : ℕ) → IsFirstOf nodes id (Some n) → is_first nodes id n ≡ true
is-first nodes id n h = rw (h.0, list_any_none (λ m. has_id nodes id m && comes_after nodes n m) (numbers_of nodes) (λ k d less. each (get_or (numbers_of nodes) k d))) refl
  where
    each : (m : ℕ) → (has_id nodes id m && comes_after nodes n m) ≡ false
    each m = by (has_id nodes id m) refl
      where
        by : (b : Bool) → has_id nodes id m ≡ b → (b && comes_after nodes n m) ≡ false
        by true e = h.1 m e
        by false e = refl

first-is : (nodes : List Node) (id : List ℕ) (n : ℕ) → is_first nodes id n ≡ true → IsFirstOf nodes id (Some n)
first-is nodes id n e = (parts.0, λ m has. by m has (comes_after nodes n m) refl)
  where
    parts : (has_id nodes id n ≡ true) × (not (is_preceded nodes id n) ≡ true)
    parts = and_parts (has_id nodes id n) (not (is_preceded nodes id n)) e

    by : (m : ℕ) → has_id nodes id m ≡ true → (b : Bool) → comes_after nodes n m ≡ b → comes_after nodes n m ≡ false
    by m has false after = after
    by m has true after =
        let (less, at) = number_at nodes m (has_within nodes id m has) in
        let test = λ (k : ℕ). has_id nodes id k && comes_after nodes n k in
        let holds : test m ≡ true = rw (has, after) refl in
        let some = list_any_at test (numbers_of nodes) m 0 less (subst (λ (k : ℕ). test k ≡ true) (sym at) holds) in
        let none = not-true (is_preceded nodes id n) parts.1 in
        cc

pub first-that : (nodes : List Node) (id : List ℕ) (r : Option ℕ) → IsTree nodes → IsFirstOf nodes id r → r ≡ first_of nodes id
first-that nodes id None tree h = rw (filter-none (is_first nodes id) (numbers_of nodes) (λ n. let e = h n in rw e refl)) refl
first-that nodes id (Some n) tree h =
    let (less, at) = number_at nodes n (has_within nodes id n h.0) in
    let heads = one_passes (is_first nodes id) (numbers_of nodes) n n less at (is-first nodes id n h) in
    first-one nodes id (Some n) (Some heads.0) tree h (first-is nodes id heads.0 heads.2) ∙ sym heads.1

of_id_that : (nodes : List Node) (styles : List NodeStyles) (id : Option (List ℕ)) (r : Option ℕ) → IsTree nodes → IsOfId nodes styles id r → r ≡ shown_of nodes styles id
of_id_that nodes styles None r tree h = h
of_id_that nodes styles (Some id) r tree h = h.2 ∙ ap (shown_only styles) (first-that nodes id h.0 tree h.1)

pub target-that : TargetIsThat
target-that nodes styles n l r tree h = of_id_that nodes styles (id_in (address_of nodes n l)) r tree h

-- ---- the text of a list of content

part-that : (p : Place) (x : Part) (old new : List ℕ) → IsTree p.nodes → PrintsPart p x old new → new ≡ old ++ printed_by p x
part-that p (part.Text text) old new tree h = h
part-that p (part.Attr name) old new tree h = h
part-that p (part.Counter name style) old new tree h = h
part-that p (part.Counters name between style) old new tree h = h
part-that p (part.Target link name style) old new tree h = h.2 ∙ ap (λ t. old ++ reference_text p.values p.table name style t) (target-that p.nodes p.styles p.node link h.0 tree h.1)
part-that p part.Own old new tree h = h
part-that p (part.Running name keyword) old new tree h = h ∙ sym (append-nil old)
part-that p (part.Page style) old new tree h = h ∙ sym (append-nil old)
part-that p (part.Pages style) old new tree h = h ∙ sym (append-nil old)

parts-that : (p : Place) (xs : List Part) (old new : List ℕ) → IsTree p.nodes → PrintsParts p xs old new → new ≡ old ++ flat_map (printed_by p) xs
parts-that p [] old new tree h = h ∙ sym (append-nil old)
parts-that p (x ∷ xs) old new tree h = parts-that p xs h.0 new tree h.2 ∙ ap (λ m. m ++ flat_map (printed_by p) xs) (part-that p x old h.0 tree h.1) ∙ append_assoc old (printed_by p x) (flat_map (printed_by p) xs)

pub text-that : TextIsThat
text-that p content text tree h = parts-that p content [] text tree h

-- ---- strings

assigned-append : (s : TextSource) (n : ℕ) (xs ys : List (List ℕ × List Part)) → assigned_of s n (xs ++ ys) ≡ assigned_of s n xs ++ assigned_of s n ys
assigned-append s n xs ys = ap (map (assigned_by (place_at s n pseudo.Element))) (filter-append (λ (set : List ℕ × List Part). has_name s.asked set.0) xs ys) ∙ map-append (assigned_by (place_at s n pseudo.Element)) (filter (λ set. has_name s.asked set.0) xs) (filter (λ set. has_name s.asked set.0) ys)

pub assigned_turn : (s : TextSource) (n : ℕ) (sets : List (List ℕ × List Part)) (i : ℕ) (x : List ℕ × List Part) (old new : List (List ℕ × List ℕ)) → i < length sets → x ≡ get_or sets i x → old ≡ assigned_of s n (take i sets) → new ≡ old ++ assigned_of s n (x ∷ []) → new ≡ assigned_of s n (take (i + 1) sets)
assigned_turn s n sets i x old new within is h g = g ∙ ap (λ l. l ++ assigned_of s n (x ∷ [])) h ∙ sym (assigned-append s n (take i sets) (x ∷ [])) ∙ ap (λ l. assigned_of s n l) (ap (λ y. take i sets ++ y ∷ []) is ∙ sym (take_more sets i x within))

pub assigned_none : (s : TextSource) (n : ℕ) (x : List ℕ × List Part) → has_name s.asked x.0 ≡ false → assigned_of s n (x ∷ []) ≡ []
assigned_none s n x e = rw e refl

pub assigned_one : (s : TextSource) (n : ℕ) (x : List ℕ × List Part) → has_name s.asked x.0 ≡ true → assigned_of s n (x ∷ []) ≡ (x.0, text_of (place_at s n pseudo.Element) x.1) ∷ []
assigned_one s n x e = rw e refl
