-- The tree of a text (HTML, 13.2.6 "Tree construction", in part): what each token closes and adds.
use Rattle.std.specs.Prelude.{ℕ, suc, zero, ◌-◌, Bool, true, false, not, List, [], ◌∷◌, ◌++◌, Option, None, Some, Result, Ok, Err, if◌then◌else◌, fold, ◌&&◌, ◌||◌, nat_le, is_some, length, take, slice_get, unwrap_or, codes}
use Rattle.std.specs.List.{list_all}
use Rattle.std.specs.Str.{bytes_eq}
use Rattle.std.specs.Char.{is_ascii_whitespace}
use Rattle.bk_num.specs.Names.{has_name}
use Rattle.bk_num.specs.Limits.{most_nodes}
use Rattle.bk_num.specs.declared.ids.NodeId.{NodeId}
use Rattle.dom.specs.Nodes.{Node, NodeData, Element, Text, root, child_of, depth_at, name_at, attribute_at, with_attribute, is_element, is_at, changed_at}
use Rattle.dom.specs.Answers.{is_below_all}
use Rattle.dom.specs.declared.dom.DomErr.{DomErr}
use Rattle.dom.specs.declared.dom.DomErr.TheVariants.{Nodes, Depth}
use Rattle.html_tok.specs.Listed.{TokenView, tokens_of}
use Rattle.html_tok.specs.Pieces.{KindView, text, raw, start, close, skip}
use Rattle.html_tok.specs.Tags.{attributes_of}
use Rattle.html_tree.specs.Texts.{text_of, name_of}
use Rattle.html_tree.specs.Rules.{Rule, rules, void_names, names_tag}

-- the nodes so far, and the open elements other than node 0, outermost first
pub record State : Type 0 where
  pub nodes : List Node
  pub opened : List NodeId

-- ---- what a token closes

-- an open element's name; empty, where none is open
abbrev pub name_in : List Node → Option NodeId → List ℕ
name_in nodes None = []
name_in nodes (Some o) = unwrap_or (name_at nodes o.0) []

-- how many of the first n open elements stay where the innermost of `closes` closes that has none of `scope` inside it,
-- if there is one
abbrev pub kept : (List ℕ → Bool) → (List ℕ → Bool) → List Node → List NodeId → ℕ → Option ℕ
kept closes scope nodes opened zero = None
kept closes scope nodes opened (suc n) = if closes (name_in nodes (slice_get opened n)) then Some n else
    if scope (name_in nodes (slice_get opened n)) then None else kept closes scope nodes opened n

-- the open elements that stay: those outside of the innermost that closes, or all
abbrev pub closed_by : (List ℕ → Bool) → (List ℕ → Bool) → List Node → List NodeId → List NodeId
closed_by closes scope nodes opened =
    take (unwrap_or (kept closes scope nodes opened (length opened)) (length opened)) opened

-- what is open after a row of the table
abbrev pub after_rule : List ℕ → List Node → List NodeId → Rule → List NodeId
after_rule name nodes opened rule =
    if names_tag rule name then closed_by (has_name rule.closes) (has_name rule.scope) nodes opened else
    opened

-- and after the innermost element of a name is closed, where there is one
abbrev pub without : List ℕ → List Node → List NodeId → List NodeId
without name nodes opened = closed_by (has_name (name ∷ [])) (has_name []) nodes opened

-- whether a text is white space alone
abbrev pub is_blank : List ℕ → Bool
is_blank bs = list_all is_ascii_whitespace bs

-- ---- what it adds

-- the current element: the last that is open, and else node 0
abbrev pub number_of : Option NodeId → ℕ
number_of None = 0
number_of (Some o) = o.0

-- the current node: the innermost open element, or node 0
abbrev pub current : List NodeId → ℕ
current opened = number_of (slice_get opened (length opened - 1))

-- whether a node is a text whose parent this is
abbrev pub is_text_under : ℕ → Option Node → Bool
is_text_under parent None = false
is_text_under parent (Some n) = not (is_element n.what) && is_at parent n.parent

-- the last node
abbrev pub last_of : List Node → Option Node
last_of nodes = slice_get nodes (length nodes - 1)

-- a text with more bytes at its end
abbrev pub longer : List ℕ → NodeData → NodeData
longer more (Element name attrs) = Element name attrs
longer more (Text bytes) = Text (bytes ++ more)

-- the nodes, with more bytes at the end of the last one's text
abbrev pub appended : List Node → List ℕ → List Node
appended nodes more = changed_at (λ n. record n { what = longer more n.what }) nodes (length nodes - 1) (last_of nodes)

-- a new text, where there is room for one more node
abbrev pub new_text : ℕ → List ℕ → State → Result State DomErr
new_text parent bytes s = if nat_le most_nodes (length s.nodes) then Err Nodes else
    Ok (record s { nodes = s.nodes ++ child_of s.nodes parent (Text bytes) ∷ [] })

-- a text that isn't empty goes to the last node where that is a text child of the current element, and is a new node
-- else
abbrev pub add_text : List ℕ → State → Result State DomErr
add_text [] s = Ok s
add_text (b ∷ bs) s =
    if is_text_under (current s.opened) (last_of s.nodes) then Ok (record s { nodes = appended s.nodes (b ∷ bs) }) else
    new_text (current s.opened) (b ∷ bs) s

-- an attribute, unless the node has one of the name
abbrev pub put : ℕ → List Node → List ℕ × List ℕ → List Node
put n nodes a = if is_some (attribute_at nodes n (name_of a.0)) then nodes
    else with_attribute nodes n (name_of a.0) (text_of true a.1)

-- an element with attributes put to it in order; those that it has stay
abbrev pub put_all : ℕ → List (List ℕ × List ℕ) → List Node → List Node
put_all n [] nodes = nodes
put_all n (a ∷ rest) nodes = put_all n rest (put n nodes a)

-- the open elements after a start tag: the new one is the innermost, unless it is void
abbrev pub opened_after : List ℕ → ℕ → List NodeId → List NodeId
opened_after name n opened = if has_name void_names name then opened else opened ++ record { 0 = n } ∷ []

-- a new element under the current one, which stays open unless it is void
abbrev pub add_element : List ℕ → List ℕ → State → Result State DomErr
add_element name attrs s = if nat_le most_nodes (length s.nodes) then Err Nodes else
    if is_below_all true (depth_at s.nodes (current s.opened)) then Err Depth else
    Ok (record {
      nodes = put_all (length s.nodes) (attributes_of attrs)
          (s.nodes ++ child_of s.nodes (current s.opened) (Element name []) ∷ []);
      opened = opened_after name (length s.nodes) s.opened;
    })

-- ---- tokens

-- what a start tag adds: attributes to node 0 where it is `html`, a new element else
abbrev pub after_start : List ℕ → List ℕ → State → Result State DomErr
after_start name attrs s =
    if bytes_eq name (codes "html") then Ok (record s { nodes = put_all 0 (attributes_of attrs) s.nodes }) else
    add_element name attrs (record s { opened = fold (after_rule name s.nodes) s.opened rules })

-- the text of a text token closes an open `head` where it isn't white space alone
abbrev pub after_text : List ℕ → State → Result State DomErr
after_text bytes s =
    add_text bytes (if is_blank bytes then s else record s { opened = without (codes "head") s.nodes s.opened })

-- whether references are read in the raw text of an element
abbrev pub is_escapable : List ℕ → Bool
is_escapable name = bytes_eq name (codes "title") || bytes_eq name (codes "textarea")

-- the name of the innermost open element
abbrev pub current_name : State → List ℕ
current_name s = name_in s.nodes (slice_get s.opened (length s.opened - 1))

-- what a token adds, by its kind
unfoldable pub after_kind : KindView → List ℕ → State → Result State DomErr
after_kind text bytes s = after_text (text_of true bytes) s
after_kind raw bytes s = add_text (text_of (is_escapable (current_name s)) bytes) s
after_kind (start name attrs) bytes s = after_start (name_of name) attrs s
after_kind (close name) bytes s = Ok (record s { opened = without (name_of name) s.nodes s.opened })
after_kind skip bytes s = Ok s

-- the first token that finds no room ends the reading
abbrev pub after_result : Result State DomErr → (State → Result State DomErr) → Result State DomErr
after_result (Ok s) rest = rest s
after_result (Err e) rest = Err e

-- what tokens add, one after another
unfoldable pub after_tokens : List TokenView → State → Result State DomErr
after_tokens [] s = Ok s
after_tokens (t ∷ ts) s = after_result (after_kind t.kind t.slice s) (after_tokens ts)

-- before the first token: node 0 alone, and nothing open
abbrev pub begun : State
begun = record { nodes = root ∷ []; opened = [] }

-- the nodes that are built
abbrev pub nodes_in : Result State DomErr → Result (List Node) DomErr
nodes_in (Ok s) = Ok s.nodes
nodes_in (Err e) = Err e

-- the tree of a text, or why it has none
unfoldable pub tree_of : List ℕ → Result (List Node) DomErr
tree_of bytes = nodes_in (after_tokens (tokens_of bytes) begun)
