-- Each list of tokens has a reading as the block of a page rule, and one as a sheet.
use Rattle.std.proofs.Common.{◌≡◌, ℕ, zero, suc, ◌≤◌, Bool, true, false, List, [], ◌∷◌, ◌++◌, length, refl, arith, inl, inr, eqb}
use Rattle.std.specs.Prelude.{option_to_list, ◌==◌}
use Rattle.std.proofs.lemmas.Bool.{cases_Bool}
use Rattle.css_tok.specs.Tokens.{Item}
use Rattle.css_tok.specs.Marks.{mark, first_mark, rest_of}
use Rattle.css_words.proofs.ReadLemmas.{rest_within}
use Rattle.css_rules.specs.Decls.{Decl, decl_of}
use Rattle.css_rules.specs.Brackets.{open_after}
use Rattle.css_rules.specs.Parts.{joined, ends, after_from, past_from, separator}
use Rattle.css_rules.specs.Pages.{BoxOf, PageOf, IsPageBlock, cut, margin_box, at_rule, at_closer, piece, last, page_lead, is_margin_box, box_of, at_end, past_end, piece_at, piece_end}
use Rattle.css_rules.specs.Pages as pages
use Rattle.css_rules.specs.Sheet.{RuleOf, AreRules, none, media, page, other, styled, headless, rule_at, lead_of, at_kind, at_front, at_after, at_stop, stays, prelude_end, prelude_stop}
use Rattle.css_rules.specs.Sheet as sheet
use Rattle.css_rules.specs.declared.parts.Stop.{Stop}
use Rattle.css_rules.specs.declared.parts.Stop.TheVariants as stop
use Rattle.css_rules.specs.declared.pages.Lead.{Lead}
use Rattle.css_rules.specs.declared.pages.Lead.TheVariants as lead
use Rattle.css_rules.specs.declared.sheet.AtKind.{AtKind}
use Rattle.css_rules.specs.declared.sheet.AtKind.TheVariants as at

after_le : (s : Stop) (open' : List ℕ) (ts : List Item) → length (after_from s open' ts) ≤ length ts
unfolding after_from
after_le s open' [] = omega arith
after_le s open' (t ∷ ts) = elim (cases_Bool (ends s open' t)) [ inl stops ↦ rw stops (omega arith) | inr goes ↦ rw goes (omega (arith, after_le s (open_after open' t) ts)) ]

past_le : (s : Stop) (open' : List ℕ) (ts : List Item) → length (past_from s open' ts) ≤ length ts
unfolding past_from
past_le s open' [] = omega arith
past_le s open' (t ∷ ts) = elim (cases_Bool (ends s open' t)) [
  | inl stops ↦ rw stops (elim (cases_Bool (eqb (mark t) (separator s))) [ inl more ↦ rw more (omega (arith, past_le s [] ts)) | inr over ↦ rw over (omega arith) ])
  | inr goes ↦ rw goes (omega (arith, past_le s (open_after open' t) ts))
]

rest_lt : (ts : List Item) (n : ℕ) → length ts ≤ suc n → length (rest_of ts) ≤ n
unfolding rest_of
rest_lt [] n h = omega arith
rest_lt (t ∷ ts) n h = omega arith

past_end_le : (ts : List Item) → length (past_end ts) ≤ length ts
unfolding past_end
past_end_le ts = elim (cases_Bool (first_mark ts == 123)) [
  | inl block ↦ rw block (omega (arith, past_le stop.BlockPiece [] (rest_of ts), rest_within ts))
  | inr differs ↦ rw differs (rest_within ts)
]

at_end_le : (ts : List Item) → length (at_end ts) ≤ length ts
unfolding at_end
at_end_le ts = after_le stop.InnerAtRule [] ts

piece_end_le : (ts : List Item) → length (piece_end ts) ≤ length ts
unfolding piece_end
piece_end_le ts = after_le stop.BlockPiece [] ts

at_after_le : (m : Bool) (ts : List Item) → length (at_after m ts) ≤ length ts
unfolding at_after
at_after_le m ts = after_le (at_stop m) [] ts

prelude_end_le : (m : Bool) (ts : List Item) → length (prelude_end m ts) ≤ length ts
unfolding prelude_end
prelude_end_le m ts = after_le (prelude_stop m) [] ts

abbrev HasPage : List Item → Type 0
HasPage ts = (ds : List Decl) × (bs : List BoxOf) × (rest : List Item) × IsPageBlock ts ds bs rest × (length rest ≤ length ts)

page_case : (n : ℕ) (t : Item) (ts : List Item) → length ts ≤ n → ((us : List Item) → length us ≤ n → HasPage us) → (l : Lead) → page_lead t ≡ l → HasPage (t ∷ ts)
page_case n t ts h more lead.Closer here = ([], [], ts, pages.closer t ts here, omega arith)
page_case n t ts h more lead.Between here = let p = more ts h in (p.0, p.1, p.2, pages.between t ts p.0 p.1 p.2 here p.3, omega (arith, p.4))
page_case n t ts h more lead.At here =
    elim (cases_Bool (is_margin_box t ts)) [
      | inl box ↦ (let p = more (past_end (at_end ts)) (omega (arith, past_end_le (at_end ts), at_end_le ts)) in (p.0, box_of t (at_end ts) ∷ p.1, p.2, margin_box t ts p.0 p.1 p.2 here box p.3, omega (arith, p.4, past_end_le (at_end ts), at_end_le ts)))
      | inr lacks ↦ elim (cases_Bool (first_mark (at_end ts) == 125)) [
        | inl over ↦ ([], [], past_end (at_end ts), at_closer t ts here lacks over, omega (arith, past_end_le (at_end ts), at_end_le ts))
        | inr goes ↦ (let p = more (past_end (at_end ts)) (omega (arith, past_end_le (at_end ts), at_end_le ts)) in (p.0, p.1, p.2, at_rule t ts p.0 p.1 p.2 here lacks goes p.3, omega (arith, p.4, past_end_le (at_end ts), at_end_le ts)))
      ]
    ]
page_case n t ts h more lead.Content here =
    let less : length (rest_of (piece_end (t ∷ ts))) ≤ n = rest_lt (piece_end (t ∷ ts)) n (omega (arith, piece_end_le (t ∷ ts))) in
    let within : length (rest_of (piece_end (t ∷ ts))) ≤ length (t ∷ ts) = omega (arith, rest_within (piece_end (t ∷ ts)), piece_end_le (t ∷ ts)) in
    elim (cases_Bool (first_mark (piece_end (t ∷ ts)) == 59)) [
      | inl goes ↦ (let p = more (rest_of (piece_end (t ∷ ts))) less in (option_to_list (decl_of (piece_at (t ∷ ts))) ++ p.0, p.1, p.2, piece t ts p.0 p.1 p.2 here goes p.3, omega (arith, p.4, within)))
      | inr over ↦ (option_to_list (decl_of (piece_at (t ∷ ts))), [], rest_of (piece_end (t ∷ ts)), last t ts here over, within)
    ]

page_within : (n : ℕ) (ts : List Item) → length ts ≤ n → HasPage ts
page_within n [] h = ([], [], [], cut, omega arith)
page_within zero (t ∷ ts) h = absurd (omega arith)
page_within (suc n) (t ∷ ts) h = page_case n t ts (omega arith) (λ us k. page_within n us k) (page_lead t) refl

abbrev HasRules : Bool → List Item → Type 0
HasRules m ts = (rs : List RuleOf) × (ps : List PageOf) × AreRules m ts rs ps

at_case : (n : ℕ) (m : Bool) (t : Item) (ts : List Item) → length ts ≤ n → ((m : Bool) (us : List Item) → length us ≤ n → HasRules m us) → lead_of m t ≡ lead.At → (k : AtKind) → at_kind m t ts ≡ k → HasRules m (t ∷ ts)
at_case n m t ts h more here at.Media kind = let r = more true (rest_of (at_after m ts)) (omega (arith, rest_within (at_after m ts), at_after_le m ts)) in (r.0, r.1, media m t ts r.0 r.1 here kind r.2)
at_case n m t ts h more here at.Page kind =
    let p = page_within (length (rest_of (at_after m ts))) (rest_of (at_after m ts)) (omega arith) in
    let r = more m p.2 (omega (arith, p.4, rest_within (at_after m ts), at_after_le m ts)) in
    (r.0, record { selectors = joined (at_front m ts); decls = p.0; boxes = p.1 } ∷ r.1, page m t ts p.0 p.1 p.2 r.0 r.1 here kind p.3 r.2)
at_case n m t ts h more here at.Other kind = let r = more (stays m (at_after m ts)) (past_end (at_after m ts)) (omega (arith, past_end_le (at_after m ts), at_after_le m ts)) in (r.0, r.1, other m t ts r.0 r.1 here kind r.2)

rules_case : (n : ℕ) (m : Bool) (t : Item) (ts : List Item) → length ts ≤ n → ((m : Bool) (us : List Item) → length us ≤ n → HasRules m us) → (l : Lead) → lead_of m t ≡ l → HasRules m (t ∷ ts)
rules_case n m t ts h more lead.Between here = let r = more m ts h in (r.0, r.1, sheet.between m t ts r.0 r.1 here r.2)
rules_case n m t ts h more lead.Closer here = let r = more false ts h in (r.0, r.1, sheet.closer m t ts r.0 r.1 here r.2)
rules_case n m t ts h more lead.At here = at_case n m t ts h more here (at_kind m t ts) refl
rules_case n m t ts h more lead.Content here =
    let less : length (rest_of (prelude_end m (t ∷ ts))) ≤ n = rest_lt (prelude_end m (t ∷ ts)) n (omega (arith, prelude_end_le m (t ∷ ts))) in
    elim (cases_Bool (first_mark (prelude_end m (t ∷ ts)) == 123)) [
      | inl block ↦ (let r = more m (past_from stop.BlockPiece [] (rest_of (prelude_end m (t ∷ ts)))) (omega (arith, less, past_le stop.BlockPiece [] (rest_of (prelude_end m (t ∷ ts))))) in (rule_at m (t ∷ ts) ∷ r.0, r.1, styled m t ts r.0 r.1 here block r.2))
      | inr lacks ↦ (let r = more (stays m (prelude_end m (t ∷ ts))) (rest_of (prelude_end m (t ∷ ts))) less in (r.0, r.1, headless m t ts r.0 r.1 here lacks r.2))
    ]

rules_within : (n : ℕ) (m : Bool) (ts : List Item) → length ts ≤ n → HasRules m ts
rules_within n m [] h = ([], [], none m)
rules_within zero m (t ∷ ts) h = absurd (omega arith)
rules_within (suc n) m (t ∷ ts) h = rules_case n m t ts (omega arith) (λ k us w. rules_within n k us w) (lead_of m t) refl

pub has_rules : (m : Bool) (ts : List Item) → HasRules m ts
has_rules m ts = rules_within (length ts) m ts (omega arith)
