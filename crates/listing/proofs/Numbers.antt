-- Each page has a number, and pages by their places.
use Rattle.std.proofs.Common.{◌≡◌, ℕ, List, Some, slice_get, ap}
use Rattle.boxes.specs.declared.page.Page.{Page}
use Rattle.listing.specs.Printed.{Print, bytes_of, bytes_on, page_bytes}

-- the bytes of the page that stands at a place
pub page_is : (p : Print) (pages : List Page) (place : ℕ) (page : Page) → slice_get pages place ≡ Some page → page_bytes p pages place ≡ bytes_on p pages place page
unfolding page_bytes
page_is p pages place page e = ap (bytes_of p pages place) e
