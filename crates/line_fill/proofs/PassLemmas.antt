-- What is held after a pass.
use Rattle.std.proofs.Common.{◌≡◌, ◌⊎◌, inl, inr, ⊎_elim, ℕ, zero, suc, List, [], ◌∷◌, Some, slice_get, sym, ap, subst, ◌∙◌}
use Rattle.std.specs.List.{Contains}
use Rattle.std.proofs.lemmas.Option.{same_Some, none-some}
use Rattle.bk_num.proofs.ListLemmas.{contains-get, get-contains}
use Rattle.line_fill.specs.Kept.{AreAsked, Asked, HoldsNow, KeepWhatWasAsked, LeavesAreApart, Stands, asked_of}
use Rattle.line_fill.specs.declared.kept.KeptLeaf.{KeptLeaf}
use Rattle.line_fill.specs.declared.lines.KeptLine.{KeptLine}
use Rattle.line_fill.proofs.AskLemmas.{had_line}

-- what was asked for in a pass stays so
now_kept : (asks : List Asked) (old new : List KeptLeaf) (b : Asked) → AreAsked asks old new → HoldsNow old b → HoldsNow new b
now_kept [] old new b s h = (h.0, s.keeps b h.0 h.1, h.2)
now_kept (a ∷ asks) old new b r h = now_kept asks r.0 new b r.2 (r.1.keeps_now b h)

-- each triple of the list is asked for
now_asked : (asks : List Asked) (old new : List KeptLeaf) → AreAsked asks old new → (k : ℕ) (b : Asked) → slice_get asks k ≡ Some b → HoldsNow new b
now_asked [] old new r k b e = absurd (none-some _ e)
now_asked (a ∷ asks) old new r zero b e = now_kept asks r.0 new b r.2 (subst (HoldsNow r.0) (same_Some _ _ e) r.1.asked)
now_asked (a ∷ asks) old new r (suc k) b e = now_asked asks r.0 new r.2 k b e

-- and nothing else
was_asked : (asks : List Asked) (old new : List KeptLeaf) (b : Asked) → AreAsked asks old new → HoldsNow new b → HoldsNow old b ⊎ ((k : ℕ) × (slice_get asks k ≡ Some b))
was_asked [] old new b s h = inl (h.0, had_line old new s b h.0 h.1, h.2)
was_asked (a ∷ asks) old new b r h = by (was_asked asks r.0 new b r.2 h)
  where
    first : HoldsNow old b ⊎ (b ≡ a) → HoldsNow old b ⊎ ((k : ℕ) × (slice_get (a ∷ asks) k ≡ Some b))
    first (inl o) = inl o
    first (inr e) = inr (zero, ap (λ (x : Asked). Some x) (sym e))

    by : HoldsNow r.0 b ⊎ ((k : ℕ) × (slice_get asks k ≡ Some b)) → HoldsNow old b ⊎ ((k : ℕ) × (slice_get (a ∷ asks) k ≡ Some b))
    by (inl m) = first (r.1.only_now b m)
    by (inr k) = inr (suc k.0, k.1)

pub keep_what_was_asked : KeepWhatWasAsked
keep_what_was_asked asks old now new none asked turned b = (
  λ h. by (was_asked asks old now b asked (turned.only b h)),
  λ c. let g = contains-get asks b c in turned.keeps b (now_asked asks old now asked g.0 b g.1),
)
  where
    by : HoldsNow old b ⊎ ((k : ℕ) × (slice_get asks k ≡ Some b)) → Contains asks b
    by (inl o) = absurd (none b o)
    by (inr k) = get-contains asks k.0 b k.1

pub leaves_are_apart : LeavesAreApart
leaves_are_apart leaf other from at measure wide old new apart asked none h = ⊎_elim none (λ (e : asked_of other at wide ≡ asked_of leaf from measure). apart (ap (λ (a : Asked). a.leaf.text) (sym e))) (asked.only (asked_of other at wide) h)

-- where no leaf is, no line stands
pub none_stands : (kept : List KeptLeaf) → kept ≡ [] → (a : Asked) (line : KeptLine) → Stands kept a line → ⊥
none_stands kept e a line h = none-some _ (ap (λ (xs : List KeptLeaf). slice_get xs h.at) (sym e) ∙ h.has)
