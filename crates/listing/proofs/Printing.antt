-- What is written for pages is what those of the list print.
use Rattle.std.proofs.Common.{◌≡◌, ◌∙◌, ◌+◌, ℕ, List, [], ◌++◌, IsOk, OnOk, Some, Result, Ok, Err, length, slice_get, sym, ap, append_assoc}
use Rattle.std.specs.List.{flat_map, range_with_len}
use Rattle.bk_io.specs.Sink.{AppendsAllOrPrefix}
use Rattle.bk_io.specs.declared.sink.Failed.{Failed}
use Rattle.bk_num.specs.declared.name.NoMem.{NoMem}
use Rattle.bk_num.proofs.ListLemmas.{flat-next}
use Rattle.boxes.specs.declared.page.Page.{Page}
use Rattle.listing.specs.Pages.{head_record, page_records}
use Rattle.listing.specs.Records.{book_record, end_record, item_record}
use Rattle.listing.specs.declared.records.PageHead.{PageHead}
use Rattle.margin_box.specs.Margins.{items_of as texts_of, margin_items}
use Rattle.margin_box.specs.declared.items.MarginText.{MarginText}
use Rattle.paint.specs.Views.{items_in}
use Rattle.paint.specs.declared.item.ItemRef.{ItemRef}
use Rattle.listing.specs.Printed.{Print, head_at, items_at, listing_of, margins_of, page_bytes}
use Rattle.listing.proofs.Numbers.{page_is}

pub printed_is : (p : Print) (pages : List Page) (place : ℕ) (page : Page) (head : PageHead) (items : List ItemRef) (texts : List MarginText) →
    slice_get pages place ≡ Some page → head_record head ≡ head_at p pages place page → items_in p.faces items ≡ items_at p place →
    texts_of p.faces texts ≡ margin_items (margins_of p pages) place → page_records p.faces head items texts ≡ page_bytes p pages place
unfolding page_records
printed_is p pages place page head items texts stands h i t =
    ap (λ (z : List ℕ). z ++ flat_map item_record (items_in p.faces items) ++ flat_map item_record (texts_of p.faces texts)) h ∙
    ap (λ z. head_at p pages place page ++ flat_map item_record z ++ flat_map item_record (texts_of p.faces texts)) i ∙
    ap (λ z. head_at p pages place page ++ flat_map item_record (items_at p place) ++ flat_map item_record z) t ∙
    sym (page_is p pages place page stands)

-- what was appended where all was
pub kept_whole : (w : Result Unit Failed) (a b x : List ℕ) → IsOk w → AppendsAllOrPrefix (Some a) (Some b) x w → b ≡ a ++ x
kept_whole (Ok put) a b x whole all = all
kept_whole (Err e) a b x whole all = absurd (cc)

pub kept_page : (r : Result Unit NoMem) (w : Result Unit Failed) (a b x y : List ℕ) → OnOk r (IsOk w) → AppendsAllOrPrefix (Some a) (Some b) x w → x ≡ y → OnOk r (b ≡ a ++ y)
kept_page (Ok done) w a b x y whole all same = kept_whole w a b x whole all ∙ ap (λ (z : List ℕ). a ++ z) same
kept_page (Err e) w a b x y whole all same = tt

-- one page more
pub pages_more : (f : ℕ → List ℕ) (a b c : List ℕ) (place : ℕ) → b ≡ a ++ flat_map f (range_with_len 0 place) → c ≡ b ++ f place →
    c ≡ a ++ flat_map f (range_with_len 0 (place + 1))
pages_more f a b c place before here =
    here ∙ ap (λ (z : List ℕ). z ++ f place) before ∙ append_assoc a (flat_map f (range_with_len 0 place)) (f place) ∙ ap (λ (z : List ℕ). a ++ z) (sym (flat-next f place))

-- the listing by its parts
pub listing_parts : (p : Print) (pages : List Page) (count : ℕ) (none head body whole : List ℕ) → count ≡ length pages → none ≡ [] →
    head ≡ none ++ book_record count p.passes → body ≡ head ++ flat_map (page_bytes p pages) (range_with_len 0 (length pages)) → whole ≡ body ++ end_record →
    whole ≡ listing_of p pages
unfolding listing_of
listing_parts p pages count none head body whole same n h b w =
    let rest : List ℕ = flat_map (page_bytes p pages) (range_with_len 0 (length pages)) in
    w ∙ ap (λ (z : List ℕ). z ++ end_record) (b ∙ ap (λ (z : List ℕ). z ++ rest) (h ∙ ap (λ (z : List ℕ). z ++ book_record count p.passes) n ∙ ap (λ (k : ℕ). book_record k p.passes) same))
