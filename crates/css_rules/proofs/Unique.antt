-- A list of tokens has one reading as a sheet.
use Rattle.std.proofs.Common.{◌≡◌, ℕ, Bool, List, ◌∷◌, refl, ap, sym, ◌∙◌, subst}
use Rattle.std.proofs.lemmas.Bool.{both_ways}
use Rattle.css_tok.specs.Tokens.{Item}
use Rattle.css_rules.specs.Decls.{Decl}
use Rattle.css_rules.specs.Parts.{joined}
use Rattle.css_rules.specs.Pages.{BoxOf, PageOf}
use Rattle.css_rules.proofs.PageUnique.{page_unique}
use Rattle.css_rules.specs.Sheet.{RuleOf, AreRules, none, between, closer, media, page, other, styled, headless, rule_at, at_front}
use Rattle.css_rules.specs.declared.pages.Lead.TheVariants as lead
use Rattle.css_rules.specs.declared.sheet.AtKind.TheVariants as at

page_same : (selectors : List ℕ) {ds es : List Decl} {bs cs : List BoxOf} {ps os : List PageOf} → ds ≡ es → bs ≡ cs → ps ≡ os → record { selectors = selectors; decls = ds; boxes = bs } ∷ ps ≡ record { selectors = selectors; decls = es; boxes = cs } ∷ os
page_same selectors d b p = cc

pub rules_unique : {m : Bool} {ts : List Item} {rs qs : List RuleOf} {ps os : List PageOf} → AreRules m ts rs ps → AreRules m ts qs os → (rs ≡ qs) × (ps ≡ os)
rules_unique (none m) (none m') = (refl, refl)
rules_unique (between m t ts rs ps here a) (between m' t' ts' rs' ps' here' a') = rules_unique a a'
rules_unique (between m t ts rs ps here a) (closer m' t' ts' rs' ps' here' a') = absurd (let e : lead.Between ≡ lead.Closer = sym here ∙ here' in cc)
rules_unique (between m t ts rs ps here a) (media m' t' ts' rs' ps' here' kind' a') = absurd (let e : lead.Between ≡ lead.At = sym here ∙ here' in cc)
rules_unique (between m t ts rs ps here a) (page m' t' ts' ds' bs' rest' rs' ps' here' kind' block' a') = absurd (let e : lead.Between ≡ lead.At = sym here ∙ here' in cc)
rules_unique (between m t ts rs ps here a) (other m' t' ts' rs' ps' here' kind' a') = absurd (let e : lead.Between ≡ lead.At = sym here ∙ here' in cc)
rules_unique (between m t ts rs ps here a) (styled m' t' ts' rs' ps' here' mark' a') = absurd (let e : lead.Between ≡ lead.Content = sym here ∙ here' in cc)
rules_unique (between m t ts rs ps here a) (headless m' t' ts' rs' ps' here' mark' a') = absurd (let e : lead.Between ≡ lead.Content = sym here ∙ here' in cc)
rules_unique (closer m t ts rs ps here a) (between m' t' ts' rs' ps' here' a') = absurd (let e : lead.Closer ≡ lead.Between = sym here ∙ here' in cc)
rules_unique (closer m t ts rs ps here a) (closer m' t' ts' rs' ps' here' a') = rules_unique a a'
rules_unique (closer m t ts rs ps here a) (media m' t' ts' rs' ps' here' kind' a') = absurd (let e : lead.Closer ≡ lead.At = sym here ∙ here' in cc)
rules_unique (closer m t ts rs ps here a) (page m' t' ts' ds' bs' rest' rs' ps' here' kind' block' a') = absurd (let e : lead.Closer ≡ lead.At = sym here ∙ here' in cc)
rules_unique (closer m t ts rs ps here a) (other m' t' ts' rs' ps' here' kind' a') = absurd (let e : lead.Closer ≡ lead.At = sym here ∙ here' in cc)
rules_unique (closer m t ts rs ps here a) (styled m' t' ts' rs' ps' here' mark' a') = absurd (let e : lead.Closer ≡ lead.Content = sym here ∙ here' in cc)
rules_unique (closer m t ts rs ps here a) (headless m' t' ts' rs' ps' here' mark' a') = absurd (let e : lead.Closer ≡ lead.Content = sym here ∙ here' in cc)
rules_unique (media m t ts rs ps here kind a) (between m' t' ts' rs' ps' here' a') = absurd (let e : lead.At ≡ lead.Between = sym here ∙ here' in cc)
rules_unique (media m t ts rs ps here kind a) (closer m' t' ts' rs' ps' here' a') = absurd (let e : lead.At ≡ lead.Closer = sym here ∙ here' in cc)
rules_unique (media m t ts rs ps here kind a) (media m' t' ts' rs' ps' here' kind' a') = rules_unique a a'
rules_unique (media m t ts rs ps here kind a) (page m' t' ts' ds' bs' rest' rs' ps' here' kind' block' a') = absurd (let e : at.Media ≡ at.Page = sym kind ∙ kind' in cc)
rules_unique (media m t ts rs ps here kind a) (other m' t' ts' rs' ps' here' kind' a') = absurd (let e : at.Media ≡ at.Other = sym kind ∙ kind' in cc)
rules_unique (media m t ts rs ps here kind a) (styled m' t' ts' rs' ps' here' mark' a') = absurd (let e : lead.At ≡ lead.Content = sym here ∙ here' in cc)
rules_unique (media m t ts rs ps here kind a) (headless m' t' ts' rs' ps' here' mark' a') = absurd (let e : lead.At ≡ lead.Content = sym here ∙ here' in cc)
rules_unique (page m t ts ds bs rest rs ps here kind block a) (between m' t' ts' rs' ps' here' a') = absurd (let e : lead.At ≡ lead.Between = sym here ∙ here' in cc)
rules_unique (page m t ts ds bs rest rs ps here kind block a) (closer m' t' ts' rs' ps' here' a') = absurd (let e : lead.At ≡ lead.Closer = sym here ∙ here' in cc)
rules_unique (page m t ts ds bs rest rs ps here kind block a) (media m' t' ts' rs' ps' here' kind' a') = absurd (let e : at.Page ≡ at.Media = sym kind ∙ kind' in cc)
rules_unique (page m t ts ds bs rest rs ps here kind block a) (page m' t' ts' ds' bs' rest' rs' ps' here' kind' block' a') = (let p = page_unique block block' in let u = rules_unique a (subst (λ z. AreRules m z rs' ps') (sym p.2) a') in (u.0, page_same (joined (at_front m ts)) p.0 p.1 u.1))
rules_unique (page m t ts ds bs rest rs ps here kind block a) (other m' t' ts' rs' ps' here' kind' a') = absurd (let e : at.Page ≡ at.Other = sym kind ∙ kind' in cc)
rules_unique (page m t ts ds bs rest rs ps here kind block a) (styled m' t' ts' rs' ps' here' mark' a') = absurd (let e : lead.At ≡ lead.Content = sym here ∙ here' in cc)
rules_unique (page m t ts ds bs rest rs ps here kind block a) (headless m' t' ts' rs' ps' here' mark' a') = absurd (let e : lead.At ≡ lead.Content = sym here ∙ here' in cc)
rules_unique (other m t ts rs ps here kind a) (between m' t' ts' rs' ps' here' a') = absurd (let e : lead.At ≡ lead.Between = sym here ∙ here' in cc)
rules_unique (other m t ts rs ps here kind a) (closer m' t' ts' rs' ps' here' a') = absurd (let e : lead.At ≡ lead.Closer = sym here ∙ here' in cc)
rules_unique (other m t ts rs ps here kind a) (media m' t' ts' rs' ps' here' kind' a') = absurd (let e : at.Other ≡ at.Media = sym kind ∙ kind' in cc)
rules_unique (other m t ts rs ps here kind a) (page m' t' ts' ds' bs' rest' rs' ps' here' kind' block' a') = absurd (let e : at.Other ≡ at.Page = sym kind ∙ kind' in cc)
rules_unique (other m t ts rs ps here kind a) (other m' t' ts' rs' ps' here' kind' a') = rules_unique a a'
rules_unique (other m t ts rs ps here kind a) (styled m' t' ts' rs' ps' here' mark' a') = absurd (let e : lead.At ≡ lead.Content = sym here ∙ here' in cc)
rules_unique (other m t ts rs ps here kind a) (headless m' t' ts' rs' ps' here' mark' a') = absurd (let e : lead.At ≡ lead.Content = sym here ∙ here' in cc)
rules_unique (styled m t ts rs ps here mark a) (between m' t' ts' rs' ps' here' a') = absurd (let e : lead.Content ≡ lead.Between = sym here ∙ here' in cc)
rules_unique (styled m t ts rs ps here mark a) (closer m' t' ts' rs' ps' here' a') = absurd (let e : lead.Content ≡ lead.Closer = sym here ∙ here' in cc)
rules_unique (styled m t ts rs ps here mark a) (media m' t' ts' rs' ps' here' kind' a') = absurd (let e : lead.Content ≡ lead.At = sym here ∙ here' in cc)
rules_unique (styled m t ts rs ps here mark a) (page m' t' ts' ds' bs' rest' rs' ps' here' kind' block' a') = absurd (let e : lead.Content ≡ lead.At = sym here ∙ here' in cc)
rules_unique (styled m t ts rs ps here mark a) (other m' t' ts' rs' ps' here' kind' a') = absurd (let e : lead.Content ≡ lead.At = sym here ∙ here' in cc)
rules_unique (styled m t ts rs ps here mark a) (styled m' t' ts' rs' ps' here' mark' a') = (let u = rules_unique a a' in (ap (λ z. rule_at m (t ∷ ts) ∷ z) u.0, u.1))
rules_unique (styled m t ts rs ps here mark a) (headless m' t' ts' rs' ps' here' mark' a') = absurd (both_ways _ mark' mark)
rules_unique (headless m t ts rs ps here mark a) (between m' t' ts' rs' ps' here' a') = absurd (let e : lead.Content ≡ lead.Between = sym here ∙ here' in cc)
rules_unique (headless m t ts rs ps here mark a) (closer m' t' ts' rs' ps' here' a') = absurd (let e : lead.Content ≡ lead.Closer = sym here ∙ here' in cc)
rules_unique (headless m t ts rs ps here mark a) (media m' t' ts' rs' ps' here' kind' a') = absurd (let e : lead.Content ≡ lead.At = sym here ∙ here' in cc)
rules_unique (headless m t ts rs ps here mark a) (page m' t' ts' ds' bs' rest' rs' ps' here' kind' block' a') = absurd (let e : lead.Content ≡ lead.At = sym here ∙ here' in cc)
rules_unique (headless m t ts rs ps here mark a) (other m' t' ts' rs' ps' here' kind' a') = absurd (let e : lead.Content ≡ lead.At = sym here ∙ here' in cc)
rules_unique (headless m t ts rs ps here mark a) (styled m' t' ts' rs' ps' here' mark' a') = absurd (both_ways _ mark mark')
rules_unique (headless m t ts rs ps here mark a) (headless m' t' ts' rs' ps' here' mark' a') = rules_unique a a'
