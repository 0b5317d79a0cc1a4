-- Lists of frames, page by page.
use Rattle.std.proofs.Common.{◌≡◌, ◌<◌, ◌+◌, ℕ, List, [], ◌∷◌, ◌++◌, length, get_or, take, max, sym, ap, ◌∙◌, arith}
use Rattle.std.specs.List.{flat_map, range_with_len}
use Rattle.std.proofs.lemmas.List.{take_more}
use Rattle.bk_num.proofs.ListLemmas.{flat-next}
use Rattle.boxes.specs.declared.page.Page.{Page}
use Rattle.page_seq.specs.Folds.{greatest_level}

level_push : (frames : List Page) (f : Page) → greatest_level (frames ++ f ∷ []) ≡ max (greatest_level frames) f.level
level_push [] f = grind arith
level_push (x ∷ frames) f = let e = level_push frames f in grind arith

-- the greatest level with one more
pub level_more : (frames : List Page) (i : ℕ) (d frame : Page) (level : ℕ) → i < length frames → frame ≡ get_or frames i d → level ≡ greatest_level (take i frames) → max frame.level level ≡ greatest_level (take (i + 1) frames)
level_more frames i d frame level h at is = let l = ap (λ (p : Page). p.level) at in let e = ap greatest_level (take_more frames i d h) ∙ level_push (take i frames) (get_or frames i d) in grind arith

-- a page more
pub page_more : (f : ℕ → List Page) (n : ℕ) (old new : List Page) (page : Page) → old ≡ flat_map f (range_with_len 0 n) → new ≡ old ++ page ∷ [] → page ∷ [] ≡ f n → new ≡ flat_map f (range_with_len 0 (n + 1))
page_more f n old new page is pushed same = pushed ∙ ap (λ (ps : List Page). old ++ ps) same ∙ ap (λ (ps : List Page). ps ++ f n) is ∙ sym (flat-next f n)
