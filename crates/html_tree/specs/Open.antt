-- Which elements are open at a token, told by what tokens open and close (HTML, 13.2.4.2 "The stack of open elements"),
-- and the laws that join this to the tree's definition.
use Rattle.std.specs.Prelude.{◌≡◌, ◌↔◌, ◌⊎◌, ℕ, zero, suc, ◌+◌, ◌<◌, ◌≤◌, Bool, true, false, List, [], ◌∷◌, None, Some, Ok, Contains, fold, length, take, slice_get, codes}
use Rattle.std.specs.Str.{bytes_eq}
use Rattle.bk_num.specs.Names.{has_name}
use Rattle.bk_num.specs.declared.ids.NodeId.{NodeId}
use Rattle.dom.specs.Nodes.{Node, parents_of, parent_at}
use Rattle.html_tok.specs.Listed.{TokenView, tokens_of}
use Rattle.html_tok.specs.Pieces.{KindView, text, raw, start, close, skip}
use Rattle.html_tree.specs.Texts.{text_of, name_of}
use Rattle.html_tree.specs.Rules.{Rule, rules, void_names, names_tag}
use Rattle.html_tree.specs.Tree.{State, number_of, name_in, kept, after_rule, is_blank, after_tokens, begun, tree_of}

-- ---- what closes among the open elements

-- the open element at place k is of `closes` and has none of `scope` inside it, among the first n (HTML, 13.2.4.2 "have
-- a particular element in a specific scope")
pub record IsInScope (closes scope : List ℕ → Bool) (nodes : List Node) (opened : List NodeId) (n k : ℕ) : Type 0 where
  pub within : k < n
  pub closed : closes (name_in nodes (slice_get opened k)) ≡ true
  pub free : (j : ℕ) → k < j → j < n → scope (name_in nodes (slice_get opened j)) ≡ false

-- the innermost of them
pub record IsInnermost (closes scope : List ℕ → Bool) (nodes : List Node) (opened : List NodeId)
    (n k : ℕ) : Type 0 where
  pub in_scope : IsInScope closes scope nodes opened n k
  pub last : (j : ℕ) → IsInScope closes scope nodes opened n j → j ≤ k

-- an open element closes where it is that one or stands inside it
pub record ClosesInnermost (closes scope : List ℕ → Bool) (nodes : List Node) (opened : List NodeId)
    (o : NodeId) : Type 0 where
  pub innermost : ℕ
  pub place : ℕ
  pub found : IsInnermost closes scope nodes opened (length opened) innermost
  pub inside : innermost ≤ place
  pub here : slice_get opened place ≡ Some o

-- the rows of a table that name a start tag close in their order, each among the elements that the rows before it leave
-- open
pub record ClosesByRow (table : List Rule) (name : List ℕ) (nodes : List Node) (opened : List NodeId)
    (o : NodeId) : Type 0 where
  pub number : ℕ
  pub row : Rule
  pub listed : slice_get table number ≡ Some row
  pub named : names_tag row name ≡ true
  pub closes : ClosesInnermost (has_name row.closes) (has_name row.scope) nodes
      (fold (after_rule name nodes) opened (take number table)) o

-- ---- what a token closes and opens

-- an end tag closes by its name, a start tag other than `html` by the table, and a text that isn't blank closes `head`
abbrev pub KindCloses : KindView → List ℕ → State → NodeId → Type 0
KindCloses text bytes s o = (is_blank (text_of true bytes) ≡ false) ×
    ClosesInnermost (has_name (codes "head" ∷ [])) (has_name []) s.nodes s.opened o
KindCloses raw bytes s o = ⊥
KindCloses (start name attrs) bytes s o = (bytes_eq (name_of name) (codes "html") ≡ false) ×
    ClosesByRow rules (name_of name) s.nodes s.opened o
KindCloses (close name) bytes s o = ClosesInnermost (has_name (name_of name ∷ [])) (has_name []) s.nodes s.opened o
KindCloses skip bytes s o = ⊥

-- a start tag other than `html` opens the element that it adds, unless that is void
pub record StartOpens (name : List ℕ) (s : State) (o : NodeId) : Type 0 where
  pub other : bytes_eq name (codes "html") ≡ false
  pub filled : has_name void_names name ≡ false
  pub next : o.0 ≡ length s.nodes

-- only start tags open elements
abbrev pub KindOpens : KindView → State → NodeId → Type 0
KindOpens text s o = ⊥
KindOpens raw s o = ⊥
KindOpens (start name attrs) s o = StartOpens (name_of name) s o
KindOpens (close name) s o = ⊥
KindOpens skip s o = ⊥

-- the state before the t-th token, where the tokens before it find room
abbrev pub IsStateAt : List TokenView → ℕ → State → Type 0
IsStateAt tokens t s = after_tokens (take t tokens) begun ≡ Ok s

-- the t-th token closes an element
pub record Closes (tokens : List TokenView) (t : ℕ) (o : NodeId) : Type 0 where
  pub token : TokenView
  pub state : State
  pub here : slice_get tokens t ≡ Some token
  pub before : IsStateAt tokens t state
  pub closes : KindCloses token.kind token.slice state o

-- the t-th token opens an element
pub record Opens (tokens : List TokenView) (t : ℕ) (o : NodeId) : Type 0 where
  pub token : TokenView
  pub state : State
  pub here : slice_get tokens t ≡ Some token
  pub before : IsStateAt tokens t state
  pub opens : KindOpens token.kind state o

-- the t-th token adds a node: its number is new
pub record Adds (tokens : List TokenView) (t k : ℕ) : Type 0 where
  pub before : State
  pub after : State
  pub begins : IsStateAt tokens t before
  pub ends : IsStateAt tokens (t + 1) after
  pub new : length before.nodes ≤ k
  pub there : k < length after.nodes

-- ---- what is open

-- an element is open at the t-th token since the u-th, which opened it: none between closes it
pub record IsOpenSince (tokens : List TokenView) (u t : ℕ) (o : NodeId) : Type 0 where
  pub earlier : u < t
  pub opens : Opens tokens u o
  pub unclosed : (w : ℕ) → u < w → w < t → Closes tokens w o → ⊥

-- it stays open where the t-th token doesn't close it either
pub record StaysSince (tokens : List TokenView) (u t : ℕ) (o : NodeId) : Type 0 where
  pub since : IsOpenSince tokens u t o
  pub stays : Closes tokens t o → ⊥

-- the element right outside of the open one at a place, or node 0
abbrev pub outside : List NodeId → ℕ → ℕ
outside opened zero = 0
outside opened (suc i) = number_of (slice_get opened i)

-- of those that stay open it is the last that was opened
pub record IsLastOpened (tokens : List TokenView) (t : ℕ) (o : NodeId) : Type 0 where
  pub opener : ℕ
  pub stays : StaysSince tokens opener t o
  pub last : (u : ℕ) (q : NodeId) → StaysSince tokens u t q → u ≤ opener

-- the parent of what the t-th token adds: that element, or node 0 where none stays open
abbrev pub IsParentAt : List TokenView → ℕ → ℕ → Type 0
IsParentAt tokens t p =
    IsLastOpened tokens t (record { 0 = p }) ⊎ ((p ≡ 0) × ((u : ℕ) (q : NodeId) → StaysSince tokens u t q → ⊥))

-- ---- laws

-- what is kept ends at the innermost element of `closes` with none of `scope` inside it
abbrev pub KeptIsInnermost : Type 0
KeptIsInnermost = (closes scope : List ℕ → Bool) (nodes : List Node) (opened : List NodeId) (n k : ℕ) →
    (kept closes scope nodes opened n ≡ Some k) ↔ IsInnermost closes scope nodes opened n k

-- all is kept exactly where there is no such element
abbrev pub AllIsKept : Type 0
AllIsKept = (closes scope : List ℕ → Bool) (nodes : List Node) (opened : List NodeId) (n : ℕ) →
    (kept closes scope nodes opened n ≡ None) ↔ ((k : ℕ) → IsInScope closes scope nodes opened n k → ⊥)

-- the open elements at a token are those that an earlier token opened and none between closes
abbrev pub OpenIsOpened : Type 0
OpenIsOpened = (tokens : List TokenView) (t : ℕ) (s : State) (o : NodeId) → IsStateAt tokens t s →
    Contains s.opened o ↔ ((u : ℕ) × IsOpenSince tokens u t o)

-- each open element is a child of the one outside of it: what stands further in lies inside it
abbrev pub OpenIsPath : Type 0
OpenIsPath = (tokens : List TokenView) (t : ℕ) (s : State) (i : ℕ) (o : NodeId) → IsStateAt tokens t s →
    slice_get s.opened i ≡ Some o →
    parent_at (parents_of s.nodes) o.0 ≡ Some (outside s.opened i)

-- each node but node 0 was added by an earlier token
abbrev pub NodesAreAdded : Type 0
NodesAreAdded =
    (tokens : List TokenView) (t : ℕ) (s : State) (k : ℕ) → IsStateAt tokens t s → 0 < k → k < length s.nodes →
    (u : ℕ) × (u < t) × Adds tokens u k

-- the parent of a node that a token added is the last opened element that is open after that token's closings
abbrev pub ParentIsLastOpened : Type 0
ParentIsLastOpened = (tokens : List TokenView) (u t : ℕ) (s : State) (k : ℕ) (n : Node) → IsStateAt tokens t s → u < t →
    Adds tokens u k →
    slice_get s.nodes k ≡ Some n →
    (p : ℕ) × (n.parent ≡ Some p) × IsParentAt tokens u p

-- the nodes of a tree are those after the last token
abbrev pub TreeIsLastState : Type 0
TreeIsLastState = (bytes : List ℕ) (nodes : List Node) → tree_of bytes ≡ Ok nodes →
    (s : State) × IsStateAt (tokens_of bytes) (length (tokens_of bytes)) s × (s.nodes ≡ nodes)
