-- Lines that are put ahead.
use Rattle.std.proofs.Common.{◌≡◌, ◌≢◌, ℕ, ◌⊎◌, inl, inr, ⊎_elim, List, Some, false, slice_get, refl, ap}
use Rattle.std.specs.List.{insert}
use Rattle.boxes.specs.Lines.{LineView}
use Rattle.line_fill.specs.KeptLines.{AreRising, IsPlace, PutsAhead, is_asked}
use Rattle.line_fill.specs.declared.lines.KeptLine.{KeptLine}
use Rattle.line_fill.specs.declared.lines.Pass.TheVariants.{Ahead}
use Rattle.line_fill.proofs.InsertLemmas.{Came, get-insert, insert-keep, rising-insert}
use Rattle.line_fill.proofs.InsertLemmas.Came.{here, low, high}

-- a line that no pass asked for yet
abbrev pub line_ahead : LineView → KeptLine
line_ahead line = record { line = line; pass = Ahead }

-- none are put
pub puts-none : (Chosen : LineView → Type 0) (lines : List KeptLine) → AreRising lines → PutsAhead Chosen lines lines
puts-none Chosen lines up = record {
  rising = up;
  stays = λ k l e. (k, e);
  comes = λ k l e. inl (k, e);
}

-- one is put
pub put-one : (lines : List KeptLine) (place : ℕ) (line : LineView) → AreRising lines → IsPlace lines line.from place →
    ((a : KeptLine) → slice_get lines place ≡ Some a → a.line.from ≢ line.from) →
    PutsAhead (λ l. l ≡ line) lines (insert lines place (line_ahead line))
put-one lines place line up is none = record {
  rising = rising-insert lines line.from place (line_ahead line) up is none refl;
  stays = λ k l e. insert-keep lines place k (line_ahead line) l is.within e;
  comes = λ k l e. by k l (get-insert lines place k (line_ahead line) l is.within e);
}
  where
    by : (k : ℕ) (l : KeptLine) → Came lines place k (line_ahead line) l → ((j : ℕ) × (slice_get lines j ≡ Some l)) ⊎ ((is_asked l ≡ false) × (l.line ≡ line))
    by k l (here p q) = inr (ap is_asked q, ap (λ (v : KeptLine). v.line) q)
    by k l (low p e) = inl (k, e)
    by k l (high j p q e) = inl (j, e)

-- some are put, and then others
pub puts-more : (Chosen More : LineView → Type 0) (old mid new : List KeptLine) → ((l : LineView) → More l → Chosen l) → PutsAhead Chosen old mid → PutsAhead More mid new → PutsAhead Chosen old new
puts-more Chosen More old mid new on p q = record {
  rising = q.rising;
  stays = λ k l e. let r = p.stays k l e in q.stays r.0 l r.1;
  comes = λ k l e. ⊎_elim
      (λ (w : (j : ℕ) × (slice_get mid j ≡ Some l)). p.comes w.0 l w.1)
      (λ (w : (is_asked l ≡ false) × More l.line). inr (w.0, on l.line w.1))
      (q.comes k l e);
}

-- those that are put have another property too
pub puts-on : (Chosen Others : LineView → Type 0) (old new : List KeptLine) → ((l : LineView) → Chosen l → Others l) → PutsAhead Chosen old new → PutsAhead Others old new
puts-on Chosen Others old new on p = record {
  rising = p.rising;
  stays = p.stays;
  comes = λ k l e. ⊎_elim (λ (w : (j : ℕ) × (slice_get old j ≡ Some l)). inl w) (λ (w : (is_asked l ≡ false) × Chosen l.line). inr (w.0, on l.line w.1)) (p.comes k l e);
}
