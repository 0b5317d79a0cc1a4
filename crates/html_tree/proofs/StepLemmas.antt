-- What each token keeps of a state holds of the nodes of a text.
use Rattle.std.proofs.Common.{◌≡◌, ℕ, Bool, true, false, List, [], ◌∷◌, Result, Ok, Err, IfOk, fold, take, if◌then◌else◌, codes}
use Rattle.std.specs.Str.{bytes_eq}
use Rattle.bk_num.specs.Names.{has_name}
use Rattle.dom.specs.Nodes.{Node}
use Rattle.dom.specs.declared.dom.DomErr.{DomErr}
use Rattle.html_tok.specs.Listed.{TokenView, tokens_of}
use Rattle.html_tok.specs.Pieces.{KindView, text, raw, start, close, skip}
use Rattle.html_tok.specs.Tags.{attributes_of}
use Rattle.html_tree.specs.Rules.{Rule, rules, names_tag}
use Rattle.html_tree.specs.Texts.{name_of, text_of}
use Rattle.html_tree.specs.Tree.{State, closed_by, after_rule, without, add_text, put_all, add_element, after_start, after_text, after_kind, after_result, after_tokens, nodes_in, begun, tree_of, is_blank, is_escapable, current_name}

-- it is kept where elements close, where attributes are put to node 0, where a text comes, and where an element does
module _ (P : State → Type 0) (taken : (s : State) (n : ℕ) → P s → P (record s { opened = take n s.opened })) (named : (attrs : List (List ℕ × List ℕ)) (s : State) → P s → P (record s { nodes = put_all 0 attrs s.nodes })) (texts : (bytes : List ℕ) (s : State) → P s → IfOk (add_text bytes s) P) (elements : (name attrs : List ℕ) (s : State) → P s → IfOk (add_element name attrs s) P) where
  keeps-rules : (name : List ℕ) (table : List Rule) (s : State) → P s → P (record s { opened = fold (after_rule name s.nodes) s.opened table })
  keeps-rules name [] s h = h
  keeps-rules name (r ∷ table) s h = keeps-rules name table (record s { opened = after_rule name s.nodes s.opened r }) (by (names_tag r name))
    where
      by : (b : Bool) → P (record s { opened = if b then closed_by (has_name r.closes) (has_name r.scope) s.nodes s.opened else s.opened })
      by true = taken s _ h
      by false = h

  keeps-start : (name attrs : List ℕ) (s : State) → P s → IfOk (after_start name attrs s) P
  keeps-start name attrs s h = by (bytes_eq name (codes "html"))
    where
      by : (b : Bool) → IfOk (if b then Ok (record s { nodes = put_all 0 (attributes_of attrs) s.nodes }) else add_element name attrs (record s { opened = fold (after_rule name s.nodes) s.opened rules })) P
      by true = named (attributes_of attrs) s h
      by false = elements name attrs (record s { opened = fold (after_rule name s.nodes) s.opened rules }) (keeps-rules name rules s h)

  keeps-text : (bytes : List ℕ) (s : State) → P s → IfOk (after_text bytes s) P
  keeps-text bytes s h = texts bytes (if is_blank bytes then s else record s { opened = without (codes "head") s.nodes s.opened }) (by (is_blank bytes))
    where
      by : (b : Bool) → P (if b then s else record s { opened = without (codes "head") s.nodes s.opened })
      by true = h
      by false = taken s _ h

  keeps-kind : (k : KindView) (bytes : List ℕ) (s : State) → P s → IfOk (after_kind k bytes s) P
  unfolding after_kind
  keeps-kind text bytes s h = keeps-text (text_of true bytes) s h
  keeps-kind raw bytes s h = texts (text_of (is_escapable (current_name s)) bytes) s h
  keeps-kind (start name attrs) bytes s h = keeps-start (name_of name) attrs s h
  keeps-kind (close name) bytes s h = taken s _ h
  keeps-kind skip bytes s h = h

  pub keeps-tokens : (tokens : List TokenView) (s : State) → P s → IfOk (after_tokens tokens s) P
  unfolding after_tokens
  keeps-tokens [] s h = h
  keeps-tokens (t ∷ ts) s h = by (after_kind t.kind t.slice s) (keeps-kind t.kind t.slice s h) (keeps-tokens ts)
    where
      by : (r : Result State DomErr) → IfOk r P → ((x : State) → P x → IfOk (after_tokens ts x) P) → IfOk (after_result r (after_tokens ts)) P
      by (Ok x) k rest = rest x k
      by (Err e) k rest = tt

  -- the nodes of a text are those of a state of which it holds
  pub keeps-tree : P begun → (bytes : List ℕ) (nodes : List Node) → tree_of bytes ≡ Ok nodes → (s : State) × (s.nodes ≡ nodes) × P s
  unfolding tree_of
  keeps-tree first bytes nodes h = by (after_tokens (tokens_of bytes) begun) (keeps-tokens (tokens_of bytes) begun first) h
    where
      by : (r : Result State DomErr) → IfOk r P → nodes_in r ≡ Ok nodes → (s : State) × (s.nodes ≡ nodes) × P s
      by (Ok s) k e = let same : s.nodes ≡ nodes = cc in (s, same, k)
      by (Err x) k e = cc
