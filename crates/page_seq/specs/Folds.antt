-- Pages of several frames: a list of frames, so many of which stand side by side on each page, folded to its pages.
use Rattle.std.specs.Prelude.{ℕ, suc, ◌*◌, List, [], ◌∷◌, length, max, take, drop}
use Rattle.std.specs.List.{flat_map, range_with_len}
use Rattle.boxes.specs.Frames.{page_at}
use Rattle.boxes.specs.declared.page.Page.{Page}

-- the greatest level of some frames, and 0 of none
abbrev pub greatest_level : List Page → ℕ
greatest_level [] = 0
greatest_level (f ∷ frames) = max f.level (greatest_level frames)

-- the page of an index that holds some frames: their solids and notes in order, the name, kind and frame of the first
-- of them, and the greatest of their levels
abbrev pub joined_at : ℕ → Page → List Page → Page
joined_at index first frames = record {
  index = index;
  kind = first.kind;
  name = first.name;
  frame = first.frame;
  solids = flat_map (λ f. f.solids) frames;
  notes = flat_map (λ f. f.notes) frames;
  level = greatest_level frames;
}

-- the page of an index that holds some frames. No frames make no page
abbrev pub page_of_frames : ℕ → List Page → List Page
page_of_frames index [] = []
page_of_frames index (first ∷ frames) = joined_at index first (first ∷ frames) ∷ []

-- the frames on a page, by its place among the pages, from 0
abbrev pub frames_on : ℕ → List Page → ℕ → List Page
frames_on per frames place = take per (drop (per * place) frames)

-- the pages of a list of frames, `per` on each and on the last one as many as are left
abbrev pub fold_of : ℕ → List Page → List Page
fold_of per frames = flat_map
    (λ place. page_of_frames (suc place) (frames_on per frames place)) (range_with_len 0 (page_at per (length frames)))
