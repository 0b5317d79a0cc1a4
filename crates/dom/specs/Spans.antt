-- Texts among others.
use Rattle.std.specs.Prelude.{ℕ, ◌≤◌, ◌-◌, List, take, drop}
use Rattle.std.specs.Str.{IsCharBoundary}
use Rattle.dom.specs.declared.texts.Span.{Span}

-- the bytes from one place to another
abbrev pub between : List ℕ → Span → List ℕ
between bs s = take (s.to - s.from) (drop s.from bs)

-- a text may be cut there
pub record Fits (bs : List ℕ) (s : Span) : Type 0 where
  pub order : s.from ≤ s.to
  pub start : IsCharBoundary bs s.from
  pub end : IsCharBoundary bs s.to
