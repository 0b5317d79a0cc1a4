-- One more token of a text, and its end.
use Rattle.std.proofs.Common.{◌≡◌, ℕ, List, [], ◌∷◌, Result, Ok, Err, IfOk, IfErr, refl, sym, ◌∙◌, ap}
use Rattle.dom.specs.Nodes.{Node}
use Rattle.dom.specs.declared.dom.DomErr.{DomErr}
use Rattle.dom.specs.declared.dom.DomErr.TheVariants.{Nodes, Depth, NoMemory}
use Rattle.html_tok.specs.Listed.{TokenView, tokens_of}
use Rattle.html_tree.specs.Tree.{State, after_kind, after_result, after_tokens, nodes_in, begun, tree_of}
use Rattle.html_tree.specs.Built.{Answers}

step : (tokens rest : List TokenView) (t : TokenView) (s : State) → tokens ≡ t ∷ rest → after_tokens tokens s ≡ after_result (after_kind t.kind t.slice s) (after_tokens rest)
unfolding after_tokens
step tokens rest t s e = rw e refl

tree-is : (text : List ℕ) (r : Result State DomErr) → r ≡ after_tokens (tokens_of text) begun → tree_of text ≡ nodes_in r
unfolding tree_of
tree-is text r e = ap nodes_in (sym e)

-- a token that finds no room ends the reading
pub read-ends : {B : Type 0} (text : List ℕ) (tokens rest : List TokenView) (t : TokenView) (s : State) (e : DomErr) (f : B → State) → Answers {B = B} (after_kind t.kind t.slice s) (Err e) f → tokens ≡ t ∷ rest → after_tokens tokens s ≡ after_tokens (tokens_of text) begun → Answers {A = List Node} {B = List Node} (tree_of text) (Err e) (λ dom. dom)
read-ends text tokens rest t s Nodes f h e left = tree-is text (Err Nodes) (sym (step tokens rest t s e ∙ ap (λ r. after_result r (after_tokens rest)) h) ∙ left)
read-ends text tokens rest t s Depth f h e left = tree-is text (Err Depth) (sym (step tokens rest t s e ∙ ap (λ r. after_result r (after_tokens rest)) h) ∙ left)
read-ends text tokens rest t s NoMemory f h e left = tt

pub read-on : (text : List ℕ) (tokens rest : List TokenView) (t : TokenView) (s next : State) → after_kind t.kind t.slice s ≡ Ok next → tokens ≡ t ∷ rest → after_tokens tokens s ≡ after_tokens (tokens_of text) begun → after_tokens rest next ≡ after_tokens (tokens_of text) begun
read-on text tokens rest t s next h e left = sym (step tokens rest t s e ∙ ap (λ r. after_result r (after_tokens rest)) h) ∙ left

none-left : (s : State) → after_tokens [] s ≡ Ok s
unfolding after_tokens
none-left s = refl

pub read-all : (text : List ℕ) (tokens : List TokenView) (s : State) (result : Result (List Node) DomErr) → IfOk result (λ dom. dom ≡ s.nodes) → IfErr result (λ e. e ≡ NoMemory) → tokens ≡ [] → after_tokens tokens s ≡ after_tokens (tokens_of text) begun → Answers (tree_of text) result (λ dom. dom)
read-all text tokens s (Ok dom) ok err none left = tree-is text (Ok s) (sym (ap (λ ts. after_tokens ts s) none ∙ none-left s) ∙ left) ∙ ap Ok (sym ok)
read-all text tokens s (Err Nodes) ok err none left = cc
read-all text tokens s (Err Depth) ok err none left = cc
read-all text tokens s (Err NoMemory) ok err none left = tt
