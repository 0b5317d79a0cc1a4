-- A media list, read a token at a time.
use Rattle.std.proofs.Common.{get_or, drop, take, ◌+◌, ◌≡◌, ℕ, suc, ◌<◌, ◌≤◌, max, Bool, true, false, not, ◌&&◌, ◌||◌, eqb, leb, List, [], ◌∷◌, length, refl, ap, sym, ◌∙◌, inl, inr, arith, subst}
use Rattle.std.specs.Prelude.{Option, None, Some, MatchBool, MatchOption, ◌-◌}
use Rattle.std.proofs.Common.{length-take}
use Rattle.std.specs.List.{list_any, list_all, filter, prefix_len}
use Rattle.std.proofs.lemmas.Bool.{cases_Bool, and_parts, eqb-true}
use Rattle.std.proofs.lemmas.Bool.Decides.{nat_tests}
use Rattle.std.proofs.Math.Bool.{and-false, or-false}
use Rattle.css_tok.specs.Tokens.{Item, item_in}
use Rattle.css_tok.specs.declared.tokens.CssToken.{CssToken}
use Rattle.css_rules.specs.Views.{items_in}
use Rattle.css_tok.specs.declared.kind.CssKind.{CssKind}
use Rattle.css_tok.specs.declared.kind.CssKind.TheVariants as kind
use Rattle.css_tok.specs.Marks.{mark, mark_in, closer_of, closer_in, is_gap, is_gap_kind}
use Rattle.css_tok.proofs.WordLemmas.{and_assoc}
use Rattle.css_rules.specs.Brackets.{open_after, closes, is_outside}
use Rattle.css_rules.specs.Parts.{Piece, ends, parts_from, with_tokens}
use Rattle.css_rules.specs.Media.{is_medium, is_one_medium, is_medium_part, deepest, is_shallow, shallow_parts, is_media_list}
use Rattle.css_rules.specs.MediaSteps.{MediaState, part_with, parts_with, seen_after, seen_first, is_medium_seen, next_part, reads, GoesOn, IsSettled}
use Rattle.css_rules.specs.declared.parts.Stop.TheVariants as stop
use Rattle.css_rules.specs.declared.media.Seen.{Seen}
use Rattle.css_rules.specs.declared.media.Seen.TheVariants as seen

taken_first : (p : Piece) (ps : List Piece) (n : ℕ) → list_any is_medium_part (take (1 + n) (p ∷ ps)) ≡ (is_medium_part p || list_any is_medium_part (take n ps))
taken_first p ps n = let e : 1 + n ≡ suc n = omega arith in rw e refl

-- a part, and those after it
shallow_first : (p : Piece) (ps : List Piece) → list_any is_medium_part (shallow_parts (p ∷ ps)) ≡ (leb (deepest [] p) 1024 && (is_medium_part p || list_any is_medium_part (shallow_parts ps)))
shallow_first p ps = elim (cases_Bool (leb (deepest [] p) 1024)) [ inl few ↦ rw few (taken_first p ps (prefix_len is_shallow ps)) | inr many ↦ rw many refl ]

with_nothing : (ps : List Piece) → parts_with seen.Nothing [] ps ≡ list_any is_medium_part (shallow_parts ps)
unfolding is_medium_part deepest
with_nothing [] = refl
with_nothing (p ∷ ps) = sym (shallow_first p ps)

pub reads_all : (ts : List Item) → reads (record { brackets = []; seen = seen.Nothing; blank = true }) ts ≡ is_media_list ts
unfolding reads is_media_list
reads_all ts = ap (λ z. list_all is_gap ts || z) (with_nothing (parts_from stop.Comma [] ts))

one_medium : (t : Item) (p : Piece) → is_one_medium (t ∷ filter (λ u. not (is_gap u)) p) ≡ (is_medium t && list_all is_gap p)
one_medium t [] = and_true (is_medium t)
  where
    and_true : (a : Bool) → a ≡ (a && true)
    and_true true = refl
    and_true false = refl
one_medium t (u ∷ us) = elim (cases_Bool (is_gap u)) [ inl gap ↦ rw gap (one_medium t us) | inr other ↦ rw other (sym (and-false (is_medium t))) ]

first_medium : (t : Item) (p : Piece) → (is_medium t && list_all is_gap p) ≡ part_with (seen_first seen.Nothing (is_medium t)) p
first_medium t p = elim (cases_Bool (is_medium t)) [ inl medium ↦ rw medium | inr other ↦ rw other ]

part_step : (s : Seen) (t : Item) (p : Piece) → part_with s (t ∷ p) ≡ part_with (seen_after s t) p
unfolding seen_after is_medium_part
part_step seen.Nothing t p = elim (cases_Bool (is_gap t)) [ inl gap ↦ rw gap | inr other ↦ rw other (one_medium t p ∙ first_medium t p) ]
part_step seen.Medium t p = elim (cases_Bool (is_gap t)) [ inl gap ↦ rw gap | inr other ↦ rw other ]
part_step seen.Other t p = elim (cases_Bool (is_gap t)) [ inl gap ↦ rw gap | inr other ↦ rw other ]

shallow : (a d : ℕ) → a ≤ 1024 → leb (max a d) 1024 ≡ leb d 1024
shallow a d h = grind (arith, nat_tests)

parts_step : (s : Seen) (b : List ℕ) (t : Item) (ps : List Piece) → length b ≤ 1024 → parts_with s b (with_tokens (t ∷ []) ps) ≡ parts_with (seen_after s t) (open_after b t) ps
unfolding deepest
parts_step s b t [] few = rw (shallow (length b) (length (open_after b t)) few, or-false (part_with s (t ∷ [])), part_step s t []) refl
parts_step s b t (p ∷ ps) few = rw (shallow (length b) (deepest (open_after b t) p) few, part_step s t p) refl

pub other_step : (b : List ℕ) (s : Seen) (blank : Bool) (t : Item) (ts : List Item) → ends stop.Comma b t ≡ false → length b ≤ 1024
    → reads (record { brackets = b; seen = s; blank = blank }) (t ∷ ts) ≡ reads (record { brackets = open_after b t; seen = seen_after s t; blank = blank && is_gap t }) ts
unfolding reads parts_from
other_step b s blank t ts inside few =
    rw (inside, and_assoc blank (is_gap t) (list_all is_gap ts), parts_step s b t (parts_from stop.Comma (open_after b t) ts) few)

-- white space and comments open no bracket
gap_closer : (k : CssKind) (bs : List ℕ) → is_gap_kind k ≡ true → closer_in k (mark_in k bs) ≡ None
gap_closer kind.Space bs is = refl
gap_closer kind.Comment bs is = refl
gap_closer kind.Delim bs is = cc
gap_closer kind.Str bs is = cc
gap_closer kind.BadStr bs is = cc
gap_closer kind.Ident bs is = cc
gap_closer kind.Func bs is = cc
gap_closer kind.Url bs is = cc
gap_closer kind.At bs is = cc
gap_closer kind.Hash bs is = cc
gap_closer kind.Number bs is = cc
gap_closer kind.Percent bs is = cc
gap_closer kind.Dimension bs is = cc
gap_closer kind.Cdo bs is = cc
gap_closer kind.Cdc bs is = cc

gap_opens : (b : List ℕ) (t : Item) → is_gap t ≡ true → length (open_after b t) ≤ length b
unfolding open_after closer_of mark
gap_opens b t is = rw (gap_closer t.kind t.slice is) (elim (cases_Bool (closes b t)) [ inl closed ↦ rw closed (let l = length-take (length b - 1) b in omega (arith, l)) | inr other ↦ rw other (omega arith) ])

deep : (a d : ℕ) (x : Bool) → 1024 < d → (leb (max a d) 1024 && x) ≡ false
deep a d x h = grind (arith, nat_tests)

deepest_first : (b : List ℕ) (ts : List Item) → length b ≤ deepest b ts
unfolding deepest
deepest_first b [] = omega arith
deepest_first b (t ∷ ts) = omega arith

deep_parts : (s : Seen) (b : List ℕ) (t : Item) (ps : List Piece) → 1024 < length (open_after b t) → parts_with s b (with_tokens (t ∷ []) ps) ≡ false
unfolding deepest
deep_parts s b t [] far = deep (length b) (length (open_after b t)) _ far
deep_parts s b t (p ∷ ps) far = deep (length b) (deepest (open_after b t) p) _ (omega (arith, deepest_first (open_after b t) p))

pub deep_step : (b : List ℕ) (s : Seen) (blank : Bool) (t : Item) (ts : List Item) → ends stop.Comma b t ≡ false → length b ≤ 1024 → 1024 < length (open_after b t) → reads (record { brackets = b; seen = s; blank = blank }) (t ∷ ts) ≡ false
unfolding reads parts_from
deep_step b s blank t ts inside few far =
    elim (cases_Bool (is_gap t)) [
      | inl gap ↦ absurd (let l = gap_opens b t gap in omega (arith, l))
      | inr other ↦ rw (inside, other, deep_parts s b t (parts_from stop.Comma (open_after b t) ts) far) (none_of blank)
    ]
  where
    none_of : (a : Bool) → ((a && false) || false) ≡ false
    none_of true = refl
    none_of false = refl

-- a comma is a token of its own
comma_gap : (k : CssKind) (bs : List ℕ) → mark_in k bs ≡ 44 → is_gap_kind k ≡ false
comma_gap kind.Delim bs is = refl
comma_gap kind.Space bs is = cc
comma_gap kind.Comment bs is = cc
comma_gap kind.Str bs is = refl
comma_gap kind.BadStr bs is = refl
comma_gap kind.Ident bs is = refl
comma_gap kind.Func bs is = refl
comma_gap kind.Url bs is = refl
comma_gap kind.At bs is = refl
comma_gap kind.Hash bs is = refl
comma_gap kind.Number bs is = refl
comma_gap kind.Percent bs is = refl
comma_gap kind.Dimension bs is = refl
comma_gap kind.Cdo bs is = refl
comma_gap kind.Cdc bs is = refl

comma_none : (k : CssKind) (bs : List ℕ) → mark_in k bs ≡ 44 → closer_in k (mark_in k bs) ≡ None
comma_none kind.Delim bs is = rw is
comma_none kind.Func bs is = cc
comma_none _ bs is = refl

comma_closer : (t : Item) → mark t ≡ 44 → open_after [] t ≡ []
unfolding open_after closer_of closes mark
comma_closer t is = rw (comma_none t.kind t.slice is)

part_nothing : (s : Seen) → part_with s [] ≡ is_medium_seen s
unfolding is_medium_part
part_nothing seen.Nothing = refl
part_nothing seen.Medium = refl
part_nothing seen.Other = refl

none : (b : List ℕ) → eqb (length b) 0 ≡ true → b ≡ []
none [] is = refl
none (x ∷ xs) is = absurd (let e : suc (length xs) ≡ 0 = eqb-true (suc (length xs)) 0 is in omega arith)

-- a comma outside brackets: the answer, where the part was a medium alone, and else the next part
comma_at : (s : Seen) (blank : Bool) (t : Item) (ts : List Item) → ends stop.Comma [] t ≡ true → is_gap t ≡ false → mark t ≡ 44
    → reads (record { brackets = []; seen = s; blank = blank }) (t ∷ ts) ≡ (is_medium_seen s || reads (record { brackets = []; seen = seen.Nothing; blank = false }) ts)
unfolding reads deepest parts_from
comma_at s blank t ts stops gap is = rw (stops, is, gap, with_nothing (parts_from stop.Comma [] ts), part_nothing s) (none_first blank _)
  where
    none_first : (a x : Bool) → ((a && false) || x) ≡ x
    none_first true x = refl
    none_first false x = refl

is_comma : (b : List ℕ) (t : Item) → ends stop.Comma b t ≡ true → (b ≡ []) × (mark t ≡ 44)
unfolding ends is_outside
is_comma b t stops = let h = and_parts (eqb (length b) 0) (eqb (mark t) 44) stops in (none b h.0, eqb-true (mark t) 44 h.1)

comma_is_no_gap : (t : Item) → mark t ≡ 44 → is_gap t ≡ false
unfolding mark
comma_is_no_gap t is = comma_gap t.kind t.slice is

comma_step : (b : List ℕ) (s : Seen) (blank : Bool) (t : Item) (ts : List Item) → ends stop.Comma b t ≡ true
    → reads (record { brackets = b; seen = s; blank = blank }) (t ∷ ts) ≡ (is_medium_seen s || reads (record { brackets = b; seen = seen.Nothing; blank = false }) ts)
comma_step b s blank t ts stops =
    let h = is_comma b t stops in
    subst (λ z. reads (record { brackets = z; seen = s; blank = blank }) (t ∷ ts) ≡ (is_medium_seen s || reads (record { brackets = z; seen = seen.Nothing; blank = false }) ts)) (sym h.0)
    (comma_at s blank t ts (subst (λ z. ends stop.Comma z t ≡ true) h.0 stops) (comma_is_no_gap t h.1) h.1)

pub reads_none : (b : List ℕ) (s : Seen) (blank : Bool) → length b ≤ 1024 → (blank || is_medium_seen s) ≡ reads (record { brackets = b; seen = s; blank = blank }) []
unfolding reads deepest parts_from
reads_none b s blank few = let e : leb (length b) 1024 ≡ true = grind (arith, nat_tests) in rw (e, or-false (part_with s []), part_nothing s) (ends_sum blank (is_medium_seen s))
  where
    ends_sum : (a c : Bool) → (a || c) ≡ ((a && true) || c)
    ends_sum true c = refl
    ends_sum false c = refl

-- one token passed outside a comma, or too many brackets open
pub pass_answer : (r : Bool) (b b' : List ℕ) (s s' : Seen) (blank blank' : Bool) (t : Item) → MatchBool r (b' ≡ open_after b t) (1024 < length (open_after b t)) → ends stop.Comma b t ≡ false → length b ≤ 1024 → s' ≡ seen_after s t → blank' ≡ (blank && is_gap t)
    → MatchBool r (GoesOn (record { brackets = b; seen = s; blank = blank }) t (record { brackets = b'; seen = s'; blank = blank' })) (IsSettled (record { brackets = b; seen = s; blank = blank }) t false)
pass_answer true b b' s s' blank blank' t is inside few seen' gap = λ ts. rw (is, seen', gap) (other_step b s blank t ts inside few)
pass_answer false b b' s s' blank blank' t far inside few seen' gap = λ ts. deep_step b s blank t ts inside few far

pub pass_true : (r : Bool) (P Q : Type 0) → MatchBool r P Q → r ≡ true → P
pass_true true P Q h e = h
pass_true false P Q h e = absurd (cc)

pub pass_false : (r : Bool) (P Q : Type 0) → MatchBool r P Q → r ≡ false → Q
pass_false true P Q h e = absurd (cc)
pass_false false P Q h e = h

-- a comma passed
pub comma_answer : (o : Option Bool) (b : List ℕ) (s : Seen) (blank : Bool) (n : MediaState) (t : Item) → ends stop.Comma b t ≡ true
    → MatchOption o ((is_medium_seen s ≡ false) × (n ≡ next_part (record { brackets = b; seen = s; blank = blank }))) (λ answer. (is_medium_seen s ≡ true) × (answer ≡ true))
    → MatchOption o (GoesOn (record { brackets = b; seen = s; blank = blank }) t n) (λ answer. IsSettled (record { brackets = b; seen = s; blank = blank }) t answer)
comma_answer None b s blank n t stops h = λ ts. comma_step b s blank t ts stops ∙ rw h.0 (ap (λ m. reads m ts) (sym h.1))
comma_answer (Some x) b s blank n t stops h = λ ts. comma_step b s blank t ts stops ∙ rw h.0 (sym h.1)

pub first_item : (ts : List CssToken) (d : CssToken) → 1 ≤ length ts → items_in ts ≡ item_in (get_or ts 0 d) ∷ items_in (drop 1 ts)
first_item [] d some = absurd (omega arith)
first_item (t ∷ ts) d some = refl
