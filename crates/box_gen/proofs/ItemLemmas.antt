-- Runs of several items, and what is passed of a run.
use Rattle.std.proofs.Common.{◌≡◌, ◌∙◌, ◌+◌, ◌≤◌, ℕ, List, [], ◌∷◌, ◌++◌, Option, Some, All, length, slice_get, refl, sym, ap, ap₂, subst, arith}
use Rattle.std.specs.Prelude.{option_map}
use Rattle.std.specs.List.{cons_option}
use Rattle.std.proofs.lemmas.List.{map-append}
use Rattle.std.proofs.lemmas.List.Elements.{All-cons, All-head, All-nil, All-tail, filter_map-append}
use Rattle.bk_num.proofs.ListLemmas.{get-append}
use Rattle.inline_text.specs.Joined.{AreTexts}
use Rattle.inline_text.specs.Passed.{HasPassed}
use Rattle.inline_text.specs.Space.{collapsed}
use Rattle.inline_text.specs.declared.space.TextPart.{TextPart}
use Rattle.soft_hyphens.specs.Hyphenated.{hyphenated}
use Rattle.soft_hyphens.specs.Words.{Points}
use Rattle.box_gen.specs.declared.inline.StyledText.{StyledText}
use Rattle.box_gen.specs.declared.leaf.RunPass.{RunPass}
use Rattle.box_gen.specs.declared.run.RunEntry.{RunEntry}
use Rattle.box_gen.specs.declared.run.RunEntry.TheVariants as entry
use Rattle.box_gen.specs.Items.{InlineItem, IsTextOf, item_in, items_in}
use Rattle.box_gen.specs.Items as item
use Rattle.box_gen.specs.Leaves.{HasRun}
use Rattle.box_gen.specs.Runs.{autos_in, mark_of, marks_in, parts_in, text_of}
use Rattle.box_gen.proofs.LengthLemmas.{passed-long}

pub entries-append : (texts : List StyledText) (xs ys : List RunEntry) → items_in texts (xs ++ ys) ≡ items_in texts xs ++ items_in texts ys
entries-append texts xs ys = filter_map-append (item_in texts) xs ys

-- what comes next where that is a text
pub entry-text : (texts : List StyledText) (k : ℕ) (t : StyledText) → slice_get texts k ≡ Some t → items_in texts (entry.Text k ∷ []) ≡ item.Text t ∷ []
entry-text texts k t there = rw there refl

-- a further text changes nothing before it
pub entries-more : (texts : List StyledText) (t : StyledText) (es : List RunEntry) → All (IsTextOf (length texts)) es → items_in (texts ++ t ∷ []) es ≡ items_in texts es
entries-more texts t [] h = refl
entries-more texts t (e ∷ es) h = ap₂ (λ (o : Option InlineItem) (l : List InlineItem). cons_option o l) (entry-more e (All-head (IsTextOf (length texts)) e es h)) (entries-more texts t es (All-tail (IsTextOf (length texts)) e es h))
  where
    entry-more : (e : RunEntry) → IsTextOf (length texts) e → item_in (texts ++ t ∷ []) e ≡ item_in texts e
    entry-more (entry.Text k) h = ap (λ (o : Option StyledText). option_map item.Text o) (get-append texts (t ∷ []) k h)
    entry-more (entry.Start n) h = refl

pub texts-more : (n : ℕ) (es : List RunEntry) → All (IsTextOf n) es → All (IsTextOf (n + 1)) es
texts-more n [] h = All-nil (IsTextOf (n + 1))
texts-more n (e ∷ es) h = All-cons (IsTextOf (n + 1)) e es (text-more e (All-head (IsTextOf n) e es h)) (texts-more n es (All-tail (IsTextOf n) e es h))
  where
    text-more : (e : RunEntry) → IsTextOf n e → IsTextOf (n + 1) e
    text-more (entry.Text k) h = omega (arith, h)
    text-more (entry.Start m) h = tt

pub parts-append : (xs ys : List InlineItem) → parts_in (xs ++ ys) ≡ parts_in xs ++ parts_in ys
parts-append [] ys = refl
parts-append (item.Text t ∷ xs) ys = ap (λ (l : List TextPart). t.part ∷ l) (parts-append xs ys)
parts-append (item.Start n ∷ xs) ys = parts-append xs ys

pub marks-append : (xs ys : List InlineItem) → marks_in (xs ++ ys) ≡ marks_in xs ++ marks_in ys
marks-append xs ys = map-append mark_of xs ys

-- what is passed of one more item
pub run-more : (p : RunPass) (items : List InlineItem) (x : InlineItem) → HasPassed p.collapser (parts_in items ++ parts_in (x ∷ [])) → p.marks.items ≡ marks_in items ++ mark_of x ∷ [] → HasRun p (items ++ x ∷ [])
run-more p items x h m = record {
  parts = subst (HasPassed p.collapser) (sym (parts-append items (x ∷ []))) h;
  marks = m ∙ sym (marks-append items (x ∷ []));
}

-- the text of a whole run is no shorter than what is laid of its first items
pub run-long : (points : Option Points) (p : RunPass) (items more : List InlineItem) → HasRun p items → AreTexts p.collapser.joined → length p.collapser.joined.bytes ≤ length (text_of points (items ++ more))
unfolding text_of
run-long points p items more h u =
    subst (λ (ps : List TextPart). length p.collapser.joined.bytes ≤ length (Rattle.inline_text.specs.Joined.joined (hyphenated points (autos_in (items ++ more)) (collapsed ps)))) (sym (parts-append items more))
    (passed-long points (autos_in (items ++ more)) p.collapser (parts_in items) (parts_in more) h.parts u)
