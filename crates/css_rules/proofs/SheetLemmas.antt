-- A sheet, a step at a time.
use Rattle.std.proofs.Common.{◌≡◌, ℕ, Bool, true, false, not, ◌&&◌, List, [], ◌∷◌, ap, sym, ◌∙◌, subst}
use Rattle.std.specs.Prelude.{◌==◌, if◌then◌else◌}
use Rattle.css_tok.specs.Tokens.{Item}
use Rattle.css_tok.specs.Marks.{first_mark, rest_of}
use Rattle.css_rules.specs.Decls.{decls_of}
use Rattle.css_rules.specs.Parts.{joined, front_from, after_from, past_block}
use Rattle.css_rules.specs.Pages.{PageOf, IsPageBlock, past_end}
use Rattle.css_rules.specs.declared.parts.Stop.TheVariants as stop
use Rattle.css_rules.specs.declared.pages.Lead.TheVariants as lead
use Rattle.css_rules.specs.declared.sheet.AtKind.{AtKind}
use Rattle.css_rules.specs.declared.sheet.AtKind.TheVariants as at
use Rattle.css_rules.specs.Sheet.{RuleOf, AreRules, none, between, closer, media, page, other, styled, headless, lead_of, at_kind, kind_of_at, at_front, at_after, at_stop, stays, prelude_at, prelude_end, prelude_stop, rule_at}

-- the kind of an at-rule, from what the reader took
pub kind_is : (m : Bool) (t : Item) (ts front : List Item) (end : ℕ) (k : AtKind) → k ≡ kind_of_at m t front end → front ≡ front_from (at_stop m) [] ts → end ≡ first_mark (after_from (at_stop m) [] ts) → at_kind m t ts ≡ k
unfolding at_kind at_front at_after
kind_is m t ts front end k is fronts ends = sym (is ∙ ap (λ z. kind_of_at m t z end) fronts ∙ ap (kind_of_at m t (front_from (at_stop m) [] ts)) ends)

pub at_media : (m : Bool) (t : Item) (ts us : List Item) → at_kind m t ts ≡ at.Media → us ≡ rest_of (after_from (at_stop m) [] ts) → lead_of m t ≡ lead.At → (rs : List RuleOf) (ps : List PageOf) → AreRules true us rs ps → AreRules m (t ∷ ts) rs ps
unfolding at_after
at_media m t ts us kind rest here rs ps rules = media m t ts rs ps here kind (subst (λ z. AreRules true z rs ps) rest rules)

pub at_page : (m : Bool) (t : Item) (ts us vs : List Item) (selectors : List ℕ) (p : PageOf) → at_kind m t ts ≡ at.Page → us ≡ rest_of (after_from (at_stop m) [] ts) → p.selectors ≡ joined (front_from (at_stop m) [] ts) → IsPageBlock us p.decls p.boxes vs → lead_of m t ≡ lead.At
    → (rs : List RuleOf) (ps : List PageOf) → AreRules m vs rs ps → AreRules m (t ∷ ts) rs (p ∷ ps)
unfolding at_after at_front
at_page m t ts us vs selectors p kind rest prelude block here rs ps rules =
    subst (λ z. AreRules m (t ∷ ts) rs (record { selectors = z; decls = p.decls; boxes = p.boxes } ∷ ps)) (sym prelude) (page m t ts p.decls p.boxes vs rs ps here kind (subst (λ z. IsPageBlock z p.decls p.boxes vs) rest block) rules)

other_past : (m : Bool) (ts us vs : List Item) (end : ℕ) → end ≡ first_mark (after_from (at_stop m) [] ts) → us ≡ rest_of (after_from (at_stop m) [] ts) → vs ≡ (if end == 123 then past_block us else us) → vs ≡ past_end (at_after m ts)
unfolding past_end at_after
other_past m ts us vs end ends rest past = past ∙ ap (λ z. if end == 123 then past_block z else z) rest ∙ ap (λ z. if z == 123 then past_block (rest_of (after_from (at_stop m) [] ts)) else rest_of (after_from (at_stop m) [] ts)) ends

other_stays : (m behind : Bool) (ts : List Item) (end : ℕ) → end ≡ first_mark (after_from (at_stop m) [] ts) → behind ≡ (m && not (end == 125)) → behind ≡ stays m (at_after m ts)
unfolding stays at_after
other_stays m behind ts end ends left = left ∙ ap (λ z. m && not (z == 125)) ends

pub at_other : (m behind : Bool) (t : Item) (ts us vs : List Item) (end : ℕ) → at_kind m t ts ≡ at.Other → end ≡ first_mark (after_from (at_stop m) [] ts) → us ≡ rest_of (after_from (at_stop m) [] ts) → vs ≡ (if end == 123 then past_block us else us) → behind ≡ (m && not (end == 125)) → lead_of m t ≡ lead.At
    → (rs : List RuleOf) (ps : List PageOf) → AreRules behind vs rs ps → AreRules m (t ∷ ts) rs ps
at_other m behind t ts us vs end kind ends rest past left here rs ps rules =
    let p : vs ≡ past_end (at_after m ts) = other_past m ts us vs end ends rest past in
    let s : behind ≡ stays m (at_after m ts) = other_stays m behind ts end ends left in
    other m t ts rs ps here kind (subst (λ z. AreRules z (past_end (at_after m ts)) rs ps) s (subst (λ z. AreRules behind z rs ps) p rules))

-- a ruleset, or a prelude without a block
pub ruleset_goes : (m : Bool) (ts us vs : List Item) (r : RuleOf) (t : Item) (ws : List Item) → (first_mark (after_from (prelude_stop m) [] ts) == 123) ≡ true → r.selectors ≡ joined (front_from (prelude_stop m) [] ts) → us ≡ rest_of (after_from (prelude_stop m) [] ts) → r.decls ≡ decls_of stop.BlockPiece us → vs ≡ past_block us
    → ts ≡ t ∷ ws → lead_of m t ≡ lead.Content → (rs : List RuleOf) (ps : List PageOf) → AreRules m vs rs ps → AreRules m ts (r ∷ rs) ps
unfolding prelude_at prelude_end
ruleset_goes m ts us vs r t ws mark prelude rest decls past is here rs ps rules =
    let e : r ≡ rule_at m ts = ap (λ z. record { selectors = z; decls = r.decls }) prelude ∙ ap (λ z. record { selectors = joined (front_from (prelude_stop m) [] ts); decls = z }) (decls ∙ ap (decls_of stop.BlockPiece) rest) in
    subst (λ z. AreRules m ts (z ∷ rs) ps) (sym e) (subst (λ z. AreRules m z (rule_at m z ∷ rs) ps) (sym is)
    (styled m t ws rs ps here (sym (ap (λ z. first_mark (after_from (prelude_stop m) [] z) == 123) is) ∙ mark) (subst (λ z. AreRules m z rs ps) (past ∙ ap past_block rest ∙ ap (λ z. past_block (rest_of (after_from (prelude_stop m) [] z))) is) rules)))

pub headless_goes : (m behind : Bool) (ts us : List Item) (end : ℕ) (t : Item) (ws : List Item) → (end == 123) ≡ false → end ≡ first_mark (after_from (prelude_stop m) [] ts) → us ≡ rest_of (after_from (prelude_stop m) [] ts) → behind ≡ (m && not (end == 125))
    → ts ≡ t ∷ ws → lead_of m t ≡ lead.Content → (rs : List RuleOf) (ps : List PageOf) → AreRules behind us rs ps → AreRules m ts rs ps
unfolding prelude_end stays
headless_goes m behind ts us end t ws mark ends rest left is here rs ps rules =
    let e : end ≡ first_mark (after_from (prelude_stop m) [] (t ∷ ws)) = ends ∙ ap (λ z. first_mark (after_from (prelude_stop m) [] z)) is in
    subst (λ z. AreRules m z rs ps) (sym is)
    (headless m t ws rs ps here (sym (ap (λ z. z == 123) e) ∙ mark) (subst (λ z. AreRules z (rest_of (after_from (prelude_stop m) [] (t ∷ ws))) rs ps) (left ∙ ap (λ z. m && not (z == 125)) e) (subst (λ z. AreRules behind z rs ps) (rest ∙ ap (λ z. rest_of (after_from (prelude_stop m) [] z)) is) rules)))

pub goes_between : (m : Bool) (ts us : List Item) (t : Item) → ts ≡ t ∷ us → lead_of m t ≡ lead.Between → (rs : List RuleOf) (ps : List PageOf) → AreRules m us rs ps → AreRules m ts rs ps
goes_between m ts us t is here rs ps rules = subst (λ z. AreRules m z rs ps) (sym is) (between m t us rs ps here rules)

pub goes_closer : (m : Bool) (ts us : List Item) (t : Item) → ts ≡ t ∷ us → lead_of m t ≡ lead.Closer → (rs : List RuleOf) (ps : List PageOf) → AreRules false us rs ps → AreRules m ts rs ps
goes_closer m ts us t is here rs ps rules = subst (λ z. AreRules m z rs ps) (sym is) (closer m t us rs ps here rules)

pub ends_rules : (m : Bool) (ts : List Item) → ts ≡ [] → AreRules m ts [] []
ends_rules m ts is = subst (λ z. AreRules m z [] []) (sym is) (none m)
