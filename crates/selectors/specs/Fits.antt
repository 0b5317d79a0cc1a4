-- Whether an element fits a compound (Selectors 3, 6).
use Rattle.std.specs.Prelude.{ℕ, ◌+◌, Bool, true, false, not, ◌&&◌, ◌||◌, if◌then◌else◌, ◌==◌, ℤ, pos, ◌-ℤ◌, int_lt}
use Rattle.std.specs.Prelude.{List, [], ◌∷◌, Option, None, Some, length, slice_index, nat_eq, codes, is_some}
use Rattle.std.specs.Ordering.{int_eq}
use Rattle.std.specs.Int.{int_rem_euclid}
use Rattle.std.specs.List.{list_any, list_all, starts_with, ends_with}
use Rattle.std.specs.Str.{bytes_eq}
use Rattle.css_tok.specs.Lengths.{is_blank}
use Rattle.dom.specs.Nodes.{Node, parents_of, element_parents_of, parent_at, is_element_at, element_count}
use Rattle.dom.specs.Nodes.{elements_before_of, name_at, attribute_at}
use Rattle.selectors.specs.Walk.{first_such, siblings_before, siblings_after, children, name_is, same_type, is_content, has_text}
use Rattle.selectors.specs.declared.types.AttrTest.{AttrTest}
use Rattle.selectors.specs.declared.types.AttrTest.TheVariants as by
use Rattle.selectors.specs.declared.types.Test.{Test}
use Rattle.selectors.specs.declared.types.Test.TheVariants as test
use Rattle.selectors.specs.declared.types.Plain.{Plain}
use Rattle.selectors.specs.declared.types.Compound.{Compound}

-- ---- texts

-- a text begins with a word that white space or the end follows
unfoldable pub begins_word : List ℕ → List ℕ → Bool
begins_word v x = starts_with nat_eq x v && (length v == length x || is_blank (slice_index x (length v)))

-- a word stands in a text; the test tells whether a word may begin at its start
unfoldable pub has_word_from : Bool → List ℕ → List ℕ → Bool
has_word_from start v [] = false
has_word_from start v (b ∷ bs) = (start && begins_word v (b ∷ bs)) || has_word_from (is_blank b) v bs

-- one of the words of a text, parted by white space
unfoldable pub has_word : List ℕ → List ℕ → Bool
has_word v x = has_text v && not (list_any is_blank v) && has_word_from true v x

-- a text stands somewhere in another
unfoldable pub occurs : List ℕ → List ℕ → Bool
occurs v [] = false
occurs v (b ∷ bs) = starts_with nat_eq (b ∷ bs) v || occurs v bs

-- the value x of an attribute passes a test with the value v
abbrev pub passes : AttrTest → List ℕ → List ℕ → Bool
passes by.Has v x = true
passes by.Equals v x = bytes_eq x v
passes by.Word v x = has_word v x
passes by.Dash v x = starts_with nat_eq x v && (length v == length x || slice_index x (length v) == 45)
passes by.Starts v x = has_text v && starts_with nat_eq x v
passes by.Ends v x = has_text v && ends_with nat_eq x v
passes by.Holds v x = has_text v && occurs v x

-- an attribute is there and passes a test
abbrev pub value_passes : AttrTest → List ℕ → Option (List ℕ) → Bool
value_passes t v None = false
value_passes t v (Some x) = passes t v x

-- ---- siblings

-- the place of an element among its element siblings, from 1; the root has none and stands first and last
abbrev pub place : List Node → ℕ → ℕ
place nodes n = elements_before_of nodes n + 1

-- an element is the last element of its parent; the root, which has none, is
abbrev pub is_last_of : List Node → ℕ → Option ℕ → Bool
is_last_of nodes n None = true
is_last_of nodes n (Some p) = place nodes n == element_count (element_parents_of nodes) p

-- `:last-child` (Selectors 3, 6.6.5.7)
abbrev pub is_last : List Node → ℕ → Bool
is_last nodes n = is_last_of nodes n (parent_at (parents_of nodes) n)

-- the place is a times a number from 0 on, plus b: the rest p - b is 0, or a multiple of a with the sign of a
abbrev pub is_zero : ℤ → Bool
is_zero z = int_eq z (pos 0)

-- a place less b is a times a number from 0 on
abbrev pub is_place : ℤ → ℤ → Bool
is_place a rest =
    if is_zero a || is_zero rest then is_zero rest
    else (is_zero (int_rem_euclid rest a) && (if int_lt rest (pos 0) then int_lt a (pos 0) else not (int_lt a (pos 0))))

-- `:nth-child(an+b)` takes the place p (Selectors 3, 6.6.5.2)
unfoldable pub nth_is : ℤ → ℤ → ℕ → Bool
nth_is a b p = is_place a (pos p -ℤ b)

-- no sibling of its type stands before it, and none after it
abbrev pub is_first_of_type : List Node → ℕ → Bool
is_first_of_type nodes n = not (is_some (first_such (same_type nodes n) (siblings_before nodes n)))

-- `:last-of-type` (Selectors 3, 6.6.5.9)
abbrev pub is_last_of_type : List Node → ℕ → Bool
is_last_of_type nodes n = not (is_some (first_such (same_type nodes n) (siblings_after nodes n)))

-- ---- simple selectors

-- an element passes a simple selector other than a type (Selectors 3, 6.3 to 6.6)
unfoldable pub passes_test : List Node → ℕ → Test → Bool
passes_test nodes n (test.Id v) = value_passes by.Equals v (attribute_at nodes n (codes "id"))
passes_test nodes n (test.Class v) = value_passes by.Word v (attribute_at nodes n (codes "class"))
passes_test nodes n (test.Attr key t v) = value_passes t v (attribute_at nodes n key)
passes_test nodes n (test.Nth a b) = nth_is a b (place nodes n)
passes_test nodes n test.Root = not (is_some (parent_at (parents_of nodes) n))
passes_test nodes n test.FirstChild = elements_before_of nodes n == 0
passes_test nodes n test.LastChild = is_last nodes n
passes_test nodes n test.OnlyChild = elements_before_of nodes n == 0 && is_last nodes n
passes_test nodes n test.FirstOfType = is_first_of_type nodes n
passes_test nodes n test.LastOfType = is_last_of_type nodes n
passes_test nodes n test.Empty = not (is_some (first_such (is_content nodes) (children nodes n)))
passes_test nodes n test.Link =
    name_is (Some (codes "a")) (name_at nodes n) && is_some (attribute_at nodes n (codes "href"))

-- an element has the type that is asked for, if one is (Selectors 3, 6.1)
abbrev pub has_type : Option (List ℕ) → Option (List ℕ) → Bool
has_type None o = true
has_type (Some a) o = name_is (Some a) o

-- an element has the type and passes the tests (Selectors 3, 6)
unfoldable pub fits_plain : List Node → ℕ → Plain → Bool
fits_plain nodes n p = has_type p.name (name_at nodes n) && list_all (passes_test nodes n) p.tests

-- an element that fits what a compound asks for and nothing that it excludes
unfoldable pub fits_compound : List Node → ℕ → Compound → Bool
fits_compound nodes n c =
    is_element_at nodes n && fits_plain nodes n c.plain && not (list_any (fits_plain nodes n) c.nots)
