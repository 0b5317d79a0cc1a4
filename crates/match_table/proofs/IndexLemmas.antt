-- The index loses no node.
use Rattle.std.proofs.Common.{◌≡◌, ◌⊎◌, ℕ, zero, suc, ◌+◌, ◌<◌, ◌≤◌, Bool, true, false, not, ◌==◌, inl, inr, List, [], ◌∷◌, ◌++◌, Option, None, Some, get_or, length, take, map, cond, if◌then◌else◌, nat_lt, position, refl, sym, ◌∙◌, ap, subst, arith, rules}
use Rattle.std.specs.Prelude.{slice_get, slice_set, codes, IfSome}
use Rattle.std.proofs.lemmas.Option.{same_Some}
use Rattle.bk_num.proofs.ListLemmas.{bytes_same, get-push, take-next, contains-filter}
use Rattle.std.specs.List.{Contains, list_all, list_any, slice_split}
use Rattle.std.specs.Option.{option_to_list}
use Rattle.std.specs.Str.{bytes_eq}
use Rattle.std.proofs.lemmas.Bool.{and_parts, cases_eq, or_cases, ltb-true, ltb-false}
use Rattle.std.proofs.lemmas.List.{take_more, map-append, get_or-set_same, get_or-set_other, get_or_default}
use Rattle.std.proofs.lemmas.List.Elements.{Contains-push_cases, Contains-append_left, Contains-append_right, Contains-push}
use Rattle.std.proofs.lemmas.List.Folds.{list_all_at}
use Rattle.css_tok.specs.Lengths.{is_blank}
use Rattle.css_tok.specs.Words.{words_of}
use Rattle.dom.specs.Nodes.{name_at, attribute_at}
use Rattle.selectors.specs.declared.types.Test.{Test}
use Rattle.selectors.specs.declared.types.Test.TheVariants as test
use Rattle.selectors.specs.declared.types.AttrTest.TheVariants as by
use Rattle.selectors.specs.declared.types.Compound.{Compound}
use Rattle.selectors.specs.Selectors.{SelectorView}
use Rattle.selectors.specs.Fits.{fits_compound, fits_plain, passes_test, value_passes, has_type}
use Rattle.selectors.specs.Match.{Tree, Matches, Reaches, fits, fits_part}
use Rattle.match_table.proofs.WordLemmas.{word-among-parts, word-some}
use Rattle.match_table.specs.Index.{words_at, words_in, IsWordNoted, IsKeyBy, by_id, by_class, by_type, IsKey, last_part, word_of, number_of, rarer, IsRarest, KeepsWords, HasWord, HaveWords, HasKeys, HaveKeys, IsNumberIn, IsNumberFor, IsKeyNumber, IsNoted, AreNoted, Keeps}

-- ---- noting the words of a node

pub noted-none : (words lists : List (List ℕ)) (n : ℕ) → IsNoted words lists [] n
noted-none words lists n w has i at = absurd (omega (arith, has.1))

pub noted-more : (words old new found : List (List ℕ)) (i n : ℕ) → i < length found → IsNoted words old (take i found) n → Keeps old new
    → ((j : ℕ) → position (bytes_eq (get_or found i [])) words ≡ Some j → Contains (get_or new j []) n) → IsNoted words new (take (i + 1) found) n
noted-more words old new found i n within noted keeps here w has j at =
    elim (Contains-push_cases (take i found) (get_or found i []) w (subst (λ l. Contains l w) (take_more found i [] within) has)) [
      | inl h ↦ keeps j n (noted w h j at)
      | inr e ↦ here j (subst (λ z. position (bytes_eq z) words ≡ Some j) (sym e) at)
    ]

pub noted-keeps : (words old new found : List (List ℕ)) (n : ℕ) → IsNoted words old found n → Keeps old new → IsNoted words new found n
noted-keeps words old new found n noted keeps w has j at = keeps j n (noted w has j at)

pub are-noted-more : (dom : Tree) (words old new : List (List ℕ)) (count : ℕ) → AreNoted dom words old count → Keeps old new → IsNoted words new (words_at dom count) count → AreNoted dom words new (count + 1)
are-noted-more dom words old new count noted keeps last n within =
    elim (cases_eq n count) [
      | inl same ↦ subst (λ z. IsNoted words new (words_at dom z) z) (sym same) last
      | inr other ↦ noted-keeps words old new (words_at dom n) n (noted n (omega (arith, within, other))) keeps
    ]

-- ---- a node that fits has the word

all-pass : {A : Type 0} (p : A → Bool) (xs : List A) (x : A) → list_all p xs ≡ true → Contains xs x → p x ≡ true
all-pass p xs x all has = subst (λ z. p z ≡ true) has.2 (by (p (get_or xs has.0 x)) refl)
  where
    by : (b : Bool) → p (get_or xs has.0 x) ≡ b → p (get_or xs has.0 x) ≡ true
    by true e = e
    by false e = let no : list_all p xs ≡ false = list_all_at p xs has.0 x has.1 e in absurd (cc)

plain-has : (dom : Tree) (n : ℕ) (c : Compound) → fits_compound dom n c ≡ true → fits_plain dom n c.plain ≡ true
unfolding fits_compound
plain-has dom n c f = search (rules, and_parts)

word-equal : (v : List ℕ) (o : Option (List ℕ)) → value_passes by.Equals v o ≡ true → o ≡ Some v
word-equal v None e = cc
word-equal v (Some x) e = ap (λ z. Some z) (bytes_same x v e)

word-among : (v : List ℕ) (o : Option (List ℕ)) → value_passes by.Word v o ≡ true → Contains (words_in o) v
unfolding words_of
word-among v None e = cc
word-among v (Some x) e = contains-filter (λ w. not (length w == 0)) (slice_split is_blank x) v (word-some v x e) (word-among-parts v x e)

type-named : (v : List ℕ) (o : Option (List ℕ)) → has_type (Some v) o ≡ true → o ≡ Some v
type-named v None e = cc
type-named v (Some x) e = ap (λ z. Some z) (sym (bytes_same v x e))

listed-has : (o : Option (List ℕ)) (v : List ℕ) → o ≡ Some v → Contains (option_to_list o) v
listed-has o v e = subst (λ z. Contains (option_to_list z) v) (sym e) (Contains-push [] v)

id-test : (dom : Tree) (n : ℕ) (w : List ℕ) → passes_test dom n (test.Id w) ≡ true → attribute_at dom n (codes "id") ≡ Some w
unfolding passes_test
id-test dom n w e = word-equal w _ e

class-test : (dom : Tree) (n : ℕ) (w : List ℕ) → passes_test dom n (test.Class w) ≡ true → Contains (words_in (attribute_at dom n (codes "class"))) w
unfolding passes_test
class-test dom n w e = word-among w _ e

plain-parts : (dom : Tree) (n : ℕ) (c : Compound) → fits_plain dom n c.plain ≡ true → (has_type c.plain.name (name_at dom n) ≡ true) × (list_all (passes_test dom n) c.plain.tests ≡ true)
unfolding fits_plain
plain-parts dom n c f = and_parts (has_type c.plain.name (name_at dom n)) (list_all (passes_test dom n) c.plain.tests) f

key-word : (dom : Tree) (n : ℕ) (c : Compound) (w : List ℕ) → fits_compound dom n c ≡ true → IsKeyBy c w → Contains (words_at dom n) w
unfolding words_at
key-word dom n c w f (by_id has) =
    let t = all-pass (passes_test dom n) c.plain.tests (test.Id w) (plain-parts dom n c (plain-has dom n c f)).1 has in
    Contains-append_right (words_in (attribute_at dom n (codes "class")) ++ option_to_list (name_at dom n)) (option_to_list (attribute_at dom n (codes "id"))) w (listed-has _ w (id-test dom n w t))
key-word dom n c w f (by_class has) =
    let t = all-pass (passes_test dom n) c.plain.tests (test.Class w) (plain-parts dom n c (plain-has dom n c f)).1 has in
    Contains-append_left (words_in (attribute_at dom n (codes "class")) ++ option_to_list (name_at dom n)) (option_to_list (attribute_at dom n (codes "id"))) w
    (Contains-append_left (words_in (attribute_at dom n (codes "class"))) (option_to_list (name_at dom n)) w (class-test dom n w t))
key-word dom n c w f (by_type is) =
    let t = type-named w (name_at dom n) (subst (λ z. has_type z (name_at dom n) ≡ true) is (plain-parts dom n c (plain-has dom n c f)).0) in
    Contains-append_left (words_in (attribute_at dom n (codes "class")) ++ option_to_list (name_at dom n)) (option_to_list (attribute_at dom n (codes "id"))) w
    (Contains-append_right (words_in (attribute_at dom n (codes "class"))) (option_to_list (name_at dom n)) w (listed-has _ w t))

reaches-fits : (dom : Tree) (s : SelectorView) (k n : ℕ) → Reaches dom s k n → fits dom s k n ≡ true
reaches-fits dom s zero n r = r
reaches-fits dom s (suc k) n r = r.0

part-word : (dom : Tree) (n : ℕ) (o : Option Compound) (w : List ℕ) → fits_part dom n o ≡ true → IsKey o w → Contains (words_at dom n) w
part-word dom n None w f key = absurd key
part-word dom n (Some c) w f key = key-word dom n c w f key

fits-word : (dom : Tree) (s : SelectorView) (k n : ℕ) (w : List ℕ) → fits dom s k n ≡ true → IsKey (slice_get s.parts k) w → Contains (words_at dom n) w
unfolding fits
fits-word dom s k n w f key = part-word dom n (slice_get s.parts k) w f key

-- a node that a selector matches stands in the list of the selector's key
pub candidates : (dom : Tree) (words lists : List (List ℕ)) (count i n : ℕ) (s : SelectorView) → AreNoted dom words lists count → IsKeyNumber s words i → n < count → Matches dom s n → Contains (get_or lists i []) n
candidates dom words lists count i n s noted key within m =
    noted n within key.0 (fits-word dom s (length s.joins) n key.0 (reaches-fits dom s (length s.joins) n m) key.1) i key.2

-- ---- the word that a selector is looked up by

-- one of two is taken, and what holds of both holds of it
pub rarer-one : (lists : List (List ℕ)) (a b : Option ℕ) → (rarer lists a b ≡ a) ⊎ (rarer lists a b ≡ b)
rarer-one lists None b = inr refl
rarer-one lists (Some i) None = inl refl
rarer-one lists (Some i) (Some k) = by (nat_lt (length (get_or lists k [])) (length (get_or lists i [])))
  where
    by : (v : Bool) → (cond v (Some k) (Some i) ≡ Some i) ⊎ (cond v (Some k) (Some i) ≡ Some k)
    by true = inr refl
    by false = inl refl

pub one-of : (P : ℕ → Type 0) (r a b : Option ℕ) → (r ≡ a) ⊎ (r ≡ b) → IfSome a P → IfSome b P → IfSome r P
one-of P r a b (inl e) f g = subst (λ o. IfSome o P) (sym e) f
one-of P r a b (inr e) f g = subst (λ o. IfSome o P) (sym e) g

-- one word
pub one-rarest : (lists : List (List ℕ)) (o : Option ℕ) → IsRarest lists (λ i. o ≡ Some i) o
one-rarest lists None = λ i e. let z : ◌≡◌ {A = Option ℕ} None (Some i) = e in absurd (cc)
one-rarest lists (Some i) = (refl, λ k e. let s : i ≡ k = same_Some i k e in subst (λ z. length (get_or lists i []) ≤ length (get_or lists z [])) s (omega arith))

-- the same words, told otherwise
pub rarest-told : (lists : List (List ℕ)) (P Q : ℕ → Type 0) (o : Option ℕ) → ((i : ℕ) → P i → Q i) → ((i : ℕ) → Q i → P i) → IsRarest lists P o → IsRarest lists Q o
rarest-told lists P Q None to from h = λ i q. h i (from i q)
rarest-told lists P Q (Some i) to from h = (to i h.0, λ k q. h.1 k (from k q))

-- the rarer one of two is the rarest of all
pub rarest-both : (lists : List (List ℕ)) (P Q R : ℕ → Type 0) (a b : Option ℕ) → ((i : ℕ) → P i → R i) → ((i : ℕ) → Q i → R i) → ((i : ℕ) → R i → P i ⊎ Q i)
    → IsRarest lists P a → IsRarest lists Q b → IsRarest lists R (rarer lists a b)
rarest-both lists P Q R None None p q r f g = λ i h. elim (r i h) [
  | inl x ↦ f i x
  | inr y ↦ g i y
]
rarest-both lists P Q R None (Some k) p q r f g = (
  q k g.0,
  λ j h. elim (r j h) [
    | inl x ↦ absurd (f j x)
    | inr y ↦ g.1 j y
  ],
)
rarest-both lists P Q R (Some i) None p q r f g = (
  p i f.0,
  λ j h. elim (r j h) [
    | inl x ↦ f.1 j x
    | inr y ↦ absurd (g j y)
  ],
)
rarest-both lists P Q R (Some i) (Some k) p q r f g = by (nat_lt (length (get_or lists k [])) (length (get_or lists i []))) refl
  where
    by : (v : Bool) → nat_lt (length (get_or lists k [])) (length (get_or lists i [])) ≡ v → IsRarest lists R (cond v (Some k) (Some i))
    by true e = let low = ltb-true (length (get_or lists k [])) (length (get_or lists i [])) e in (
      q k g.0,
      λ j h. elim (r j h) [
        | inl x ↦ let m = f.1 j x in omega (arith, low, m)
        | inr y ↦ g.1 j y
      ],
    )
    by false e = let low = ltb-false (length (get_or lists k [])) (length (get_or lists i [])) e in (
      p i f.0,
      λ j h. elim (r j h) [
        | inl x ↦ f.1 j x
        | inr y ↦ let m = g.1 j y in omega (arith, low, m)
      ],
    )

-- one more test
pub rarest-none : (lists words : List (List ℕ)) (tests : List Test) → IsRarest lists (IsNumberIn (take 0 tests) words) None
rarest-none lists words [] i n = let h = n.among.1 in absurd (omega (arith, h))
rarest-none lists words (t ∷ ts) i n = let h = n.among.1 in absurd (omega (arith, h))

pub rarest-more : (lists words : List (List ℕ)) (tests : List Test) (k : ℕ) (t : Test) (best : Option ℕ) → k < length tests → t ≡ get_or tests k t
    → IsRarest lists (IsNumberIn (take k tests) words) best → IsRarest lists (IsNumberIn (take (k + 1) tests) words) (rarer lists best (number_of words (word_of t)))
rarest-more lists words tests k t best within is h =
    let whole : take (k + 1) tests ≡ take k tests ++ t ∷ [] = take_more tests k t within ∙ ap (λ x. take k tests ++ x ∷ []) (sym is) in
    rarest-both lists (IsNumberIn (take k tests) words) (λ i. number_of words (word_of t) ≡ Some i) (IsNumberIn (take (k + 1) tests) words) best (number_of words (word_of t))
    (λ i n. record { one = n.one; among = subst (λ l. Contains l n.one) (sym whole) (Contains-append_left (take k tests) (t ∷ []) n.one n.among); numbered = n.numbered })
    (λ i e. record { one = t; among = subst (λ l. Contains l t) (sym whole) (Contains-push (take k tests) t); numbered = e })
    (λ i n. elim (Contains-push_cases (take k tests) t n.one (subst (λ l. Contains l n.one) whole n.among)) [
      | inl has ↦ inl (record { one = n.one; among = has; numbered = n.numbered })
      | inr e ↦ inr (subst (λ (x : Test). number_of words (word_of x) ≡ Some i) (sym e) n.numbered)
    ])
    h (one-rarest lists (number_of words (word_of t)))

-- the id or class that a test asks for is a key of its compound
number-by-test : (c : Compound) (words : List (List ℕ)) (i : ℕ) (t : Test) → Contains c.plain.tests t → number_of words (word_of t) ≡ Some i → IsNumberFor c words i
number-by-test c words i (test.Id w) has e = record { word = w; key = by_id has; number = e }
number-by-test c words i (test.Class w) has e = record { word = w; key = by_class has; number = e }
number-by-test c words i t has e = absurd (cc)

number-by-type : (c : Compound) (words : List (List ℕ)) (i : ℕ) (o : Option (List ℕ)) → c.plain.name ≡ o → number_of words o ≡ Some i → IsNumberFor c words i
number-by-type c words i None is e = absurd (cc)
number-by-type c words i (Some w) is e = record { word = w; key = by_type is; number = e }

number-back : (c : Compound) (words : List (List ℕ)) (i : ℕ) (w : List ℕ) → IsKeyBy c w → position (bytes_eq w) words ≡ Some i → IsNumberIn c.plain.tests words i ⊎ (number_of words c.plain.name ≡ Some i)
number-back c words i w (by_id has) e = inl (record { one = test.Id w; among = has; numbered = e })
number-back c words i w (by_class has) e = inl (record { one = test.Class w; among = has; numbered = e })
number-back c words i w (by_type is) e = inr (subst (λ o. number_of words o ≡ Some i) (sym is) e)

-- the rarest of a compound's tests, and its type
pub rarest-for : (lists words : List (List ℕ)) (c : Compound) (a : Option ℕ) → IsRarest lists (IsNumberIn c.plain.tests words) a → IsRarest lists (IsNumberFor c words) (rarer lists a (number_of words c.plain.name))
rarest-for lists words c a h =
    rarest-both lists (IsNumberIn c.plain.tests words) (λ i. number_of words c.plain.name ≡ Some i) (IsNumberFor c words) a (number_of words c.plain.name)
    (λ i n. number-by-test c words i n.one n.among n.numbered) (λ i e. number-by-type c words i c.plain.name refl e) (λ i n. number-back c words i n.word n.key n.number)
    h (one-rarest lists (number_of words c.plain.name))

pub key-number : (s : SelectorView) (c : Compound) (words : List (List ℕ)) (i : ℕ) → Some c ≡ last_part s → IsNumberFor c words i → IsKeyNumber s words i
key-number s c words i is n = (n.word, subst (λ o. IsKey o n.word) is n.key, n.number)

pub key-for : (s : SelectorView) (c : Compound) (words : List (List ℕ)) (i : ℕ) → Some c ≡ last_part s → IsKeyNumber s words i → IsNumberFor c words i
key-for s c words i is n = record { word = n.0; key = subst (λ o. IsKey o n.0) (sym is) n.1; number = n.2 }

pub no-key : (lists words : List (List ℕ)) (s : SelectorView) → None ≡ last_part s → IsRarest lists (IsKeyNumber s words) None
no-key lists words s is i n = absurd (subst (λ o. IsKey o n.0) (sym is) n.1)

-- ---- the words of keys

any-has : {K : Type 0} (f : K → List ℕ) (w : List ℕ) (keys : List K) → list_any (λ k. bytes_eq w (f k)) keys ≡ true → Contains (map f keys) w
any-has f w [] e = absurd (cc)
any-has f w (k ∷ ks) e = elim (or_cases (bytes_eq w (f k)) (list_any (λ j. bytes_eq w (f j)) ks) e) [
  | inl h ↦ (0, omega arith, sym (bytes_same w (f k) h))
  | inr h ↦ let r = any-has f w ks h in let low = r.1 in (suc r.0, omega (arith, low), r.2)
]

-- a word is added where it isn't there
pub word-added : {K : Type 0} (f : K → List ℕ) (keys new : List K) (v : K) → new ≡ (if list_any (λ k. bytes_eq (f v) (f k)) keys then keys else keys ++ v ∷ []) → Contains (map f new) (f v) × KeepsWords (map f keys) (map f new)
word-added f keys new v is = by (list_any (λ k. bytes_eq (f v) (f k)) keys) refl
  where
    by : (b : Bool) → list_any (λ k. bytes_eq (f v) (f k)) keys ≡ b → Contains (map f new) (f v) × KeepsWords (map f keys) (map f new)
    by true e =
        let same : new ≡ keys = rw e at is in
        (subst (λ l. Contains (map f l) (f v)) (sym same) (any-has f (f v) keys e), λ w h. subst (λ l. Contains (map f l) w) (sym same) h)
    by false e =
        let put : new ≡ keys ++ v ∷ [] = rw e at is in
        let more : map f new ≡ map f keys ++ f v ∷ [] = ap (map f) put ∙ map-append f keys (v ∷ []) in
        (subst (λ l. Contains l (f v)) (sym more) (Contains-push (map f keys) (f v)), λ w h. subst (λ l. Contains l w) (sym more) (Contains-append_left (map f keys) (f v ∷ []) w h))

pub keeps-words : (a b c : List (List ℕ)) → KeepsWords a b → KeepsWords b c → KeepsWords a c
keeps-words a b c f g w h = g w (f w h)

pub words-none : (words : List (List ℕ)) (tests : List Test) → HaveWords words (take 0 tests)
words-none words [] t has = let h = has.1 in absurd (omega (arith, h))
words-none words (x ∷ xs) t has = let h = has.1 in absurd (omega (arith, h))

pub words-more : (old new : List (List ℕ)) (tests : List Test) (k : ℕ) (x : Test) → k < length tests → x ≡ get_or tests k x → HaveWords old (take k tests) → KeepsWords old new → HasWord new (word_of x) → HaveWords new (take (k + 1) tests)
words-more old new tests k x within is have keeps here t has w e =
    let whole : take (k + 1) tests ≡ take k tests ++ x ∷ [] = take_more tests k x within ∙ ap (λ y. take k tests ++ y ∷ []) (sym is) in
    elim (Contains-push_cases (take k tests) x t (subst (λ l. Contains l t) whole has)) [
      | inl h ↦ keeps w (have t h w e)
      | inr s ↦ here w (subst (λ (y : Test). word_of y ≡ Some w) (sym s) e)
    ]

pub compound-keys : (old new : List (List ℕ)) (c : Compound) → HaveWords old c.plain.tests → KeepsWords old new → HasWord new c.plain.name → HasKeys new (Some c)
compound-keys old new c have keeps named w (by_id has) = keeps w (have (test.Id w) has w refl)
compound-keys old new c have keeps named w (by_class has) = keeps w (have (test.Class w) has w refl)
compound-keys old new c have keeps named w (by_type is) = named w is

pub keys-none : (words : List (List ℕ)) (ss : List SelectorView) → HaveKeys words (take 0 ss)
keys-none words [] k s h = absurd (cc)
keys-none words (x ∷ xs) k s h = absurd (cc)

pub keys-more : (old new : List (List ℕ)) (ss : List SelectorView) (k : ℕ) (x : SelectorView) → slice_get ss k ≡ Some x → HaveKeys old (take k ss) → KeepsWords old new → HasKeys new (last_part x) → HaveKeys new (take (k + 1) ss)
keys-more old new ss k x at have keeps here j s h w key =
    let n : suc k ≡ k + 1 = omega arith in
    elim (get-push (take k ss) x s j (subst (λ l. slice_get l j ≡ Some s) (ap (λ i. take i ss) (sym n) ∙ take-next ss k x at) h)) [
      | inl e ↦ here w (subst (λ (y : SelectorView). IsKey (last_part y) w) e.1 key)
      | inr before ↦ keeps w (have j s before w key)
    ]

-- ---- the number of a word

pub word-put : (words lists : List (List ℕ)) (w : List ℕ) (place n : ℕ) → Some place ≡ position (bytes_eq w) words → Contains (get_or lists place []) n → IsWordNoted words lists w n
word-put words lists w place n is has i at = subst (λ z. Contains (get_or lists z []) n) (same_Some place i (is ∙ at)) has

pub word-none : (words lists : List (List ℕ)) (w : List ℕ) (n : ℕ) → None ≡ position (bytes_eq w) words → IsWordNoted words lists w n
word-none words lists w n is i at = absurd (let e : ◌≡◌ {A = Option ℕ} None (Some i) = is ∙ at in cc)

pub keeps-same : (lists : List (List ℕ)) → Keeps lists lists
keeps-same lists i n h = h

pub keeps-both : (a b c : List (List ℕ)) → Keeps a b → Keeps b c → Keeps a c
keeps-both a b c f g i n h = g i n (f i n h)

pub keeps-put : (lists : List (List ℕ)) (place n : ℕ) → place < length lists → Keeps lists (slice_set lists place (get_or lists place [] ++ n ∷ []))
keeps-put lists place n within i m h = elim (cases_eq i place) [
  | inl e ↦ subst (λ z. Contains (get_or (slice_set lists place (get_or lists place [] ++ n ∷ [])) z []) m) (sym e)
      (subst (λ z. Contains z m) (sym (get_or-set_same lists place (get_or lists place [] ++ n ∷ []) [] within))
      (Contains-append_left (get_or lists place []) (n ∷ []) m (subst (λ z. Contains (get_or lists z []) m) e h)))
  | inr other ↦ subst (λ z. Contains z m) (sym (get_or-set_other lists place i (get_or lists place [] ++ n ∷ []) [] other)) h
]

pub has-put : (lists : List (List ℕ)) (place n : ℕ) → place < length lists → Contains (get_or (slice_set lists place (get_or lists place [] ++ n ∷ [])) place []) n
has-put lists place n within = subst (λ z. Contains z n) (sym (get_or-set_same lists place (get_or lists place [] ++ n ∷ []) [] within)) (Contains-push (get_or lists place []) n)

-- ---- empty lists

pub empty-push : (rows : List (List ℕ)) → ((i : ℕ) → get_or rows i [] ≡ []) → (i : ℕ) → get_or (rows ++ [] ∷ []) i [] ≡ []
empty-push [] empty zero = refl
empty-push [] empty (suc i) = refl
empty-push (r ∷ rows) empty zero = empty 0
empty-push (r ∷ rows) empty (suc i) = empty-push rows (λ j. empty (suc j)) i

-- ---- lists taken whole

pub taken-all : {A : Type 0} (i : ℕ) (xs : List A) → length xs ≤ i → take i xs ≡ xs
taken-all zero [] h = refl
taken-all (suc i) [] h = refl
taken-all zero (x ∷ xs) h = absurd (omega arith)
taken-all (suc i) (x ∷ xs) h = ap (λ z. x ∷ z) (taken-all i xs (omega arith))

pub slice-map : {A B : Type 0} (f : A → B) (xs : List A) (i : ℕ) (x : A) → i < length xs → x ≡ get_or xs i x → slice_get (map f xs) i ≡ Some (f x)
slice-map f [] i x within is = absurd (omega arith)
slice-map f (y ∷ ys) zero x within is = ap (λ z. Some (f z)) (sym is)
slice-map f (y ∷ ys) (suc i) x within is = slice-map f ys i x (omega arith) is

pub item-is : (xs : List (List ℕ)) (i : ℕ) (x : List ℕ) → i < length xs → x ≡ get_or xs i x → x ≡ get_or xs i []
item-is xs i x within is = is ∙ get_or_default xs i x [] within

pub get-mapped : {A B : Type 0} (f : A → B) (xs : List A) (i : ℕ) (d : A) (e : B) → i < length xs → get_or (map f xs) i e ≡ f (get_or xs i d)
get-mapped f [] i d e within = absurd (omega arith)
get-mapped f (x ∷ xs) zero d e within = refl
get-mapped f (x ∷ xs) (suc i) d e within = get-mapped f xs i d e (omega arith)
