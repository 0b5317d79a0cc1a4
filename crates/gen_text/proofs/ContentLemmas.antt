-- what lists of content print
use Rattle.std.proofs.Common.{◌≡◌, ℕ, ◌+◌, ◌<◌, List, [], ◌∷◌, ◌++◌, length, get_or, take, refl, sym, ◌∙◌, ap, subst}
use Rattle.std.proofs.lemmas.List.{take_more}
use Rattle.dom.specs.Nodes.{IsTree}
use Rattle.style.specs.declared.content.Part.{Part}
use Rattle.style.specs.declared.content.Part.TheVariants as part
use Rattle.gen_text.specs.Content.{Place, PrintsPart, PrintsParts, TextIsOne}
use Rattle.gen_text.specs.Parts.{reference_text}
use Rattle.gen_text.proofs.MarkLemmas.{target_one}

-- one part more
parts-push : (p : Place) (xs : List Part) (x : Part) (old middle new : List ℕ) → PrintsParts p xs old middle → PrintsPart p x middle new → PrintsParts p (xs ++ x ∷ []) old new
parts-push p [] x old middle new h g = (new, subst (λ m. PrintsPart p x m new) h g, refl)
parts-push p (y ∷ ys) x old middle new h g = (h.0, h.1, parts-push p ys x h.0 middle new h.2 g)

pub content_turn : (p : Place) (parts : List Part) (i : ℕ) (x : Part) (old middle new : List ℕ) → i < length parts → x ≡ get_or parts i x → PrintsParts p (take i parts) old middle → PrintsPart p x middle new → PrintsParts p (take (i + 1) parts) old new
content_turn p parts i x old middle new within is h g = subst (λ xs. PrintsParts p xs old new) (ap (λ y. take i parts ++ y ∷ []) is ∙ sym (take_more parts i x within)) (parts-push p (take i parts) x old middle new h g)

-- a part prints one text
part-one : (p : Place) (x : Part) (old a b : List ℕ) → IsTree p.nodes → PrintsPart p x old a → PrintsPart p x old b → a ≡ b
part-one p (part.Text text) old a b tree h g = h ∙ sym g
part-one p (part.Attr name) old a b tree h g = h ∙ sym g
part-one p (part.Counter name style) old a b tree h g = h ∙ sym g
part-one p (part.Counters name between style) old a b tree h g = h ∙ sym g
part-one p (part.Target link name style) old a b tree h g = h.2 ∙ ap (λ t. old ++ reference_text p.values p.table name style t) (target_one p.nodes p.styles p.node link h.0 g.0 tree h.1 g.1) ∙ sym g.2
part-one p part.Own old a b tree h g = h ∙ sym g
part-one p (part.Running name keyword) old a b tree h g = h ∙ sym g
part-one p (part.Page style) old a b tree h g = h ∙ sym g
part-one p (part.Pages style) old a b tree h g = h ∙ sym g

parts-one : (p : Place) (xs : List Part) (old a b : List ℕ) → IsTree p.nodes → PrintsParts p xs old a → PrintsParts p xs old b → a ≡ b
parts-one p [] old a b tree h g = h ∙ sym g
parts-one p (x ∷ xs) old a b tree h g = let same = part-one p x old h.0 g.0 tree h.1 g.1 in parts-one p xs h.0 a b tree h.2 (subst (λ m. PrintsParts p xs m b) (sym same) g.2)

pub text-one : TextIsOne
text-one p content a b tree h g = parts-one p content [] a b tree h g
