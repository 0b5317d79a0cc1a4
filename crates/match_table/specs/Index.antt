-- The index of nodes by their words, in which selectors find the nodes that they may match.
use Rattle.std.specs.Prelude.{◌≡◌, ◌<◌, ◌≤◌, nat_lt, if◌then◌else◌, ℕ, List, [], ◌++◌, Option, Some, None, get_or, position, slice_get, length, codes}
use Rattle.std.specs.List.{Contains}
use Rattle.std.specs.Option.{option_and_then, option_to_list}
use Rattle.std.specs.Str.{bytes_eq}
use Rattle.dom.specs.Nodes.{name_at, attribute_at}
use Rattle.selectors.specs.Match.{Tree}
use Rattle.selectors.specs.Selectors.{SelectorView}
use Rattle.css_tok.specs.Words.{words_of}
use Rattle.selectors.specs.declared.types.Test.{Test}
use Rattle.selectors.specs.declared.types.Test.TheVariants as test
use Rattle.selectors.specs.declared.types.Compound.{Compound}

-- the words of a text, if it is there
abbrev pub words_in : Option (List ℕ) → List (List ℕ)
words_in None = []
words_in (Some x) = words_of x

-- the words that a node can be found by: its classes, its type and its id
unfoldable pub words_at : Tree → ℕ → List (List ℕ)
words_at dom n =
    (words_in (attribute_at dom n (codes "class")) ++ option_to_list (name_at dom n)) ++
    option_to_list (attribute_at dom n (codes "id"))

-- a word that each node has which fits a compound: an id, a class or the type that it asks for
pub data IsKeyBy (c : Compound) (w : List ℕ) : Type 0 where
  by_id : Contains c.plain.tests (test.Id w) → IsKeyBy c w
  by_class : Contains c.plain.tests (test.Class w) → IsKeyBy c w
  by_type : c.plain.name ≡ Some w → IsKeyBy c w

-- a word that each node has which passes a test: the id or the class that it asks for
abbrev pub word_of : Test → Option (List ℕ)
word_of (test.Id w) = Some w
word_of (test.Class w) = Some w
word_of _ = None

-- the number of a word among those that are looked for
abbrev pub number_of : List (List ℕ) → Option (List ℕ) → Option ℕ
number_of words o = option_and_then (λ w. position (bytes_eq w) words) o

-- the same of a compound that may be missing
abbrev pub IsKey : Option Compound → List ℕ → Type 0
IsKey None w = ⊥
IsKey (Some c) w = IsKeyBy c w

-- the last compound of a selector, which the node that it matches fits
abbrev pub last_part : SelectorView → Option Compound
last_part s = slice_get s.parts (length s.joins)

-- what stood among words stands there
abbrev pub KeepsWords : List (List ℕ) → List (List ℕ) → Type 0
KeepsWords old new = (w : List ℕ) → Contains old w → Contains new w

-- a word, if there is one, is among these
abbrev pub HasWord : List (List ℕ) → Option (List ℕ) → Type 0
HasWord words o = (w : List ℕ) → o ≡ Some w → Contains words w

-- so are the ids and classes that tests ask for
abbrev pub HaveWords : List (List ℕ) → List Test → Type 0
HaveWords words tests = (t : Test) → Contains tests t → HasWord words (word_of t)

-- so is each word that each node has which fits a compound
abbrev pub HasKeys : List (List ℕ) → Option Compound → Type 0
HasKeys words o = (w : List ℕ) → IsKey o w → Contains words w

-- so is each word that each node has which one of these selectors matches
abbrev pub HaveKeys : List (List ℕ) → List SelectorView → Type 0
HaveKeys words ss = (k : ℕ) (s : SelectorView) → slice_get ss k ≡ Some s → HasKeys words (last_part s)

-- a node stands in the list of each of these words that is looked for
abbrev pub IsWordNoted : List (List ℕ) → List (List ℕ) → List ℕ → ℕ → Type 0
IsWordNoted words lists w n = (i : ℕ) → position (bytes_eq w) words ≡ Some i → Contains (get_or lists i []) n

-- a node stands in the list of each of some words
abbrev pub IsNoted : List (List ℕ) → List (List ℕ) → List (List ℕ) → ℕ → Type 0
IsNoted words lists found n = (w : List ℕ) → Contains found w → IsWordNoted words lists w n

-- the index loses no node of the first ones
abbrev pub AreNoted : Tree → List (List ℕ) → List (List ℕ) → ℕ → Type 0
AreNoted dom words lists count = (n : ℕ) → n < count → IsNoted words lists (words_at dom n) n

-- what stood in the lists stands there
abbrev pub Keeps : List (List ℕ) → List (List ℕ) → Type 0
Keeps old new = (i n : ℕ) → Contains (get_or old i []) n → Contains (get_or new i []) n

-- the word that one of these tests asks for has this number
pub record IsNumberIn (tests : List Test) (words : List (List ℕ)) (i : ℕ) : Type 0 where
  pub one : Test
  pub among : Contains tests one
  pub numbered : number_of words (word_of one) ≡ Some i

-- the number of a word that each node has which fits a compound
pub record IsNumberFor (c : Compound) (words : List (List ℕ)) (i : ℕ) : Type 0 where
  pub word : List ℕ
  pub key : IsKeyBy c word
  pub number : position (bytes_eq word) words ≡ Some i

-- the number of a word that each node has which a selector matches
abbrev pub IsKeyNumber : SelectorView → List (List ℕ) → ℕ → Type 0
IsKeyNumber s words i = (w : List ℕ) × IsKey (last_part s) w × (position (bytes_eq w) words ≡ Some i)

-- of two words the one that fewer nodes have, and of equal ones the first; a word where the other is missing
abbrev pub rarer : List (List ℕ) → Option ℕ → Option ℕ → Option ℕ
rarer lists None b = b
rarer lists (Some i) None = Some i
rarer lists (Some i) (Some k) =
    if nat_lt (length (get_or lists k [])) (length (get_or lists i [])) then Some k else Some i

-- of these words none that fewer nodes have, and none exactly where there are none
abbrev pub IsRarest : List (List ℕ) → (ℕ → Type 0) → Option ℕ → Type 0
IsRarest lists IsThere None = (i : ℕ) → IsThere i → ⊥
IsRarest lists IsThere (Some i) =
    IsThere i × ((k : ℕ) → IsThere k → length (get_or lists i []) ≤ length (get_or lists k []))
