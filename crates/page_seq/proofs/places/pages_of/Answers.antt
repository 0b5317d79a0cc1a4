use Rattle.std.proofs.Common.{◌≡◌, ◌++◌, ◌∷◌, [], ℕ, List, get_or, map, take, sym, ap, ◌∙◌}
use Rattle.boxes.specs.declared.place.Position.{Position}
use Rattle.page_seq.specs.Places.{page_at, page_of}
use Rattle.page_seq.proofs.PlaceLemmas.{pages_more, next_lower}
use Rattle.page_seq.proofs.places.pages_of.Goals as goal

pub loop-place-preserved : goal.loop-place-preserved
loop-place-preserved c =
    let t = c.args.tree.now in
    let pages = c.as_slice-pages.result.now in
    let none : Position = record { event = 0; offset = 0 } in
    let at = get_or c.args.places.now c.loop-place.place-index none in
    let is : c.page_from-number.result ≡ page_of t pages at = c.page_from-number.ensures ∙ ap (λ a. page_at pages a) c.anchor_of.ensures in
    let pushed : c.push.new.self.items ≡ c.loop-place.numbers.items ++ c.page_from-number.result ∷ [] = c.in_ok-push.ensures.items in
    record {
      numbers = pushed ∙ (ap (λ (ns : List ℕ). ns ++ c.page_from-number.result ∷ []) c.loop-place.invariant.numbers ∙ (ap (λ n. map (page_of t pages) (take c.loop-place.place-index c.args.places.now) ++ n ∷ []) is ∙ sym (pages_more t pages c.args.places.now c.loop-place.place-index none c.loop-place-test.true)));
      low = λ next e. rw is (next_lower t pages c.args.places.now c.loop-place.place-index none next c.requires c.loop-place-test.true e);
    }
