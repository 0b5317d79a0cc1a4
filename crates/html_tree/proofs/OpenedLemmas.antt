-- What a row closes among the open elements.
use Rattle.std.proofs.Common.{◌≡◌, ℕ, suc, zero, ◌-◌, ◌<◌, ◌≤◌, Bool, true, List, [], ◌∷◌, None, Some, unwrap_or, length, map, option_map, take, slice_get, get_or, if◌then◌else◌, refl, sym, ◌∙◌, ap, arith, ◌||◌}
use Rattle.std.proofs.lemmas.Option.{slice_get_read, slice_get-map}
use Rattle.std.specs.Borrow.{Bor}
use Rattle.std.specs.List.{list_any}
use Rattle.std.specs.Str.{bytes_eq}
use Rattle.std.proofs.Math.Seq.{take-length}
use Rattle.bk_num.specs.Names.{has_name}
use Rattle.bk_num.specs.declared.ids.NodeId.{NodeId}
use Rattle.bk_num.proofs.ListLemmas.{get-take}
use Rattle.dom.specs.Nodes.{Node, name_at, is_element_at}
use Rattle.html_tree.specs.Rules.{texts, rule_of}
use Rattle.html_tree.specs.Tree.{kept, closed_by}
use Rattle.html_tree.specs.Built.{AreElements}

pub any-texts : (names : List (Bor (List ℕ))) (name : List ℕ) → has_name (texts names) name ≡ list_any (λ n. bytes_eq name n.now) names
any-texts [] name = refl
any-texts (n ∷ names) name = ap (λ b. bytes_eq name n.now || b) (any-texts names name)

module _ (closes scope : List ℕ → Bool) (nodes : List Node) (opened : List NodeId) where
  -- one element further in
  pub kept-at : (at : ℕ) (o : NodeId) → 0 < at → at ≤ length opened → o ≡ get_or opened (at - 1) o → kept closes scope nodes opened at ≡ (if closes (unwrap_or (name_at nodes o.0) []) then Some (at - 1) else if scope (unwrap_or (name_at nodes o.0) []) then None else kept closes scope nodes opened (at - 1))
  kept-at zero o some within e = absurd (omega arith)
  kept-at (suc n) o some within e =
      let s : suc n - 1 ≡ n = omega arith in
      let g : slice_get opened n ≡ Some o = slice_get_read opened (length opened) n o refl (omega arith) (rw s at e) in
      rw (s, g) refl

  pub closed-take : (n : ℕ) → kept closes scope nodes opened (length opened) ≡ Some n → take n opened ≡ closed_by closes scope nodes opened
  closed-take n e = rw e refl

  pub closed-none : kept closes scope nodes opened (length opened) ≡ None → opened ≡ closed_by closes scope nodes opened
  closed-none e = rw e (sym (take-length opened))

pub elements-take : (nodes : List Node) (opened : List NodeId) (n : ℕ) → AreElements nodes opened → AreElements nodes (take n opened)
elements-take nodes opened n h k o g = h k o (get-take opened n k o g).1

pub element-at : (nodes : List Node) (opened : List NodeId) (at : ℕ) (o : NodeId) → AreElements nodes opened → 0 < at → at ≤ length opened → o ≡ get_or opened (at - 1) o → is_element_at nodes o.0 ≡ true
element-at nodes opened at o h some within e = h (at - 1) o (slice_get_read opened (length opened) (at - 1) o refl (omega arith) e)

-- a row of the code is one of the table
pub row-get : (rows : List (Bool × Bor (List (Bor (List ℕ))) × Bor (List (Bor (List ℕ))) × Bor (List (Bor (List ℕ))))) (i : ℕ) (d : Bool × Bor (List (Bor (List ℕ))) × Bor (List (Bor (List ℕ))) × Bor (List (Bor (List ℕ)))) → i < length rows → slice_get (map rule_of rows) i ≡ Some (rule_of (get_or rows i d))
row-get rows i d l = slice_get-map rule_of rows i ∙ ap (option_map rule_of) (slice_get_read rows (length rows) i (get_or rows i d) refl l (again rows i d l))
  where
    again : {A : Type 0} (xs : List A) (i : ℕ) (d : A) → i < length xs → get_or xs i d ≡ get_or xs i (get_or xs i d)
    again [] i d h = absurd (omega arith)
    again (x ∷ xs) zero d h = refl
    again (x ∷ xs) (suc i) d h = again xs i d (omega arith)
