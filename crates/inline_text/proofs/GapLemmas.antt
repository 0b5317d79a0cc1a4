-- How one character changes what is kept.
use Rattle.std.proofs.Common.{◌≡◌, ℕ, Bool, true, false, cond, List, [], ◌∷◌, refl, ap}
use Rattle.inline_text.specs.Joined.{Laid}
use Rattle.inline_text.specs.Space.{Char, mark, meets_newline, trimmed, squeezed, is_blank}
use Rattle.inline_text.specs.Gaps.{laid, left_from, next_gap, put_of, settled}
use Rattle.inline_text.specs.declared.space.CharClass.{CharClass}
use Rattle.inline_text.specs.declared.space.CharClass.TheVariants.{Blank, SoftBreak, HardBreak, Tab, Plain}
use Rattle.inline_text.specs.declared.space.Gap.{Gap}
use Rattle.inline_text.specs.declared.space.Gap.TheVariants.{Spaced, Pending, Open}

-- blanks after a newline go anyway
after_newline : (cs : List Char) → squeezed true (trimmed true cs) ≡ squeezed true (trimmed false cs)
after_newline [] = refl
after_newline (c ∷ cs) = by c.class (meets_newline cs) (after_newline cs)
  where
    by : (k : CharClass) (m : Bool) → squeezed true (trimmed true cs) ≡ squeezed true (trimmed false cs) →
        squeezed true (trimmed true (mark k c.code c.part ∷ cs)) ≡ squeezed true (cond (is_blank k) (cond m (trimmed false cs) (mark k c.code c.part ∷ trimmed false cs)) (mark k c.code c.part ∷ trimmed (Rattle.inline_text.specs.Space.is_newline k) cs))
    by Blank true h = h
    by Blank false h = h
    by SoftBreak m h = refl
    by HardBreak m h = refl
    by Tab m h = refl
    by Plain m h = refl

-- a blank
blank-spaced : (l : Laid) (x part : ℕ) (m : Bool) (cs : List Char) → laid l (squeezed true (cond m (trimmed false cs) (mark Blank x part ∷ trimmed false cs))) ≡ laid l (squeezed true (trimmed false cs))
blank-spaced l x part true cs = refl
blank-spaced l x part false cs = refl

blank-open : (l : Laid) (x y part : ℕ) (m : Bool) (cs : List Char) → laid l (squeezed false (cond m (trimmed false cs) (mark Blank x part ∷ trimmed false cs))) ≡ laid l (squeezed false (cond m (trimmed false cs) (mark Blank y part ∷ trimmed false cs)))
blank-open l x y part true cs = refl
blank-open l x y part false cs = refl

blank-pending : (l : Laid) (x part q : ℕ) (m : Bool) (cs : List Char) →
    laid l (squeezed false (cond m (cond m (trimmed false cs) (mark Blank x part ∷ trimmed false cs)) (mark Blank 32 q ∷ cond m (trimmed false cs) (mark Blank x part ∷ trimmed false cs))))
    ≡ laid l (squeezed false (cond m (trimmed false cs) (mark Blank 32 q ∷ trimmed false cs)))
blank-pending l x part q true cs = refl
blank-pending l x part q false cs = refl

-- one more character
pub goes : (l : Laid) (gap : Gap) (k : CharClass) (x part : ℕ) (cs : List Char) → laid l (left_from gap (mark k x part ∷ cs)) ≡ laid (put_of l gap k x part) (left_from (next_gap gap k part) cs)
goes l Spaced Blank x part cs = blank-spaced l x part (meets_newline cs) cs
goes l (Pending q) Blank x part cs = blank-pending l x part q (meets_newline cs) cs
goes l Open Blank x part cs = blank-open l x 32 part (meets_newline cs) cs
goes l Spaced SoftBreak x part cs = ap (laid l) (after_newline cs)
goes l (Pending q) SoftBreak x part cs = ap (laid (put_of l (Pending q) SoftBreak x part)) (after_newline cs)
goes l Open SoftBreak x part cs = ap (laid (put_of l Open SoftBreak x part)) (after_newline cs)
goes l Spaced HardBreak x part cs = ap (laid (put_of l Spaced HardBreak x part)) (after_newline cs)
goes l (Pending q) HardBreak x part cs = ap (laid (put_of l (Pending q) HardBreak x part)) (after_newline cs)
goes l Open HardBreak x part cs = ap (laid (put_of l Open HardBreak x part)) (after_newline cs)
goes l Spaced Tab x part cs = refl
goes l (Pending q) Tab x part cs = refl
goes l Open Tab x part cs = refl
goes l Spaced Plain x part cs = refl
goes l (Pending q) Plain x part cs = refl
goes l Open Plain x part cs = refl

-- the end
pub ends : (l : Laid) (gap : Gap) → laid l (left_from gap []) ≡ settled l gap
ends l Spaced = refl
ends l (Pending q) = refl
ends l Open = refl
