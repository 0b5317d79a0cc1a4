-- What is answered where a line is asked of the leaf at a place.
use Rattle.std.proofs.Common.{◌≡◌, ℕ, ◌+◌, ℤ, inl, inr, ⊎_elim, List, Option, Some, Result, Ok, Err, get_or, length, slice_get, refl, sym, ◌∙◌, ap, subst}
use Rattle.std.specs.Prelude.{slice_set, IfOk, OnOk, OnErr}
use Rattle.std.proofs.lemmas.Option.{slice_get_within, slice_get_read, same_Some}
use Rattle.metrics.specs.Face.{FontFace}
use Rattle.boxes.specs.Lines.{LineView}
use Rattle.boxes.specs.declared.leaf.Leaf.{Leaf}
use Rattle.line_fill.specs.LineEnd.{IsLine}
use Rattle.line_fill.specs.Kept.{AreKept, Asked, HasAsked, HasLine, Holds, HoldsNow, HoldsSame, IsLeafAt, KeepsPlaces, asked_of}
use Rattle.line_fill.specs.KeptLines.{AreRising}
use Rattle.line_fill.specs.KeptSound.{IsSoundBy}
use Rattle.line_fill.specs.KeptSteps.{AsksLine, IsSameLeaf}
use Rattle.line_fill.specs.declared.kept.KeptLeaf.{KeptLeaf}
use Rattle.line_fill.specs.declared.lines.KeptLine.{KeptLine}
use Rattle.line_fill.proofs.SetLemmas.{Goes, IsOwnLine, goes_on, sound_set, places_set, same_lines, has_asked, are_kept, line_is, held, filled}
use Rattle.line_fill.specs.Keys.{key_in, key_of}

pub if_ok : {T E : Type 0} {P Q : T → Type 0} → ((x : T) → P x → Q x) → (r : Result T E) → IfOk r P → IfOk r Q
if_ok f (Ok x) p = f x p
if_ok f (Err e) p = p

pub on_err : {T E : Type 0} {P Q : Type 0} → (P → Q) → (r : Result T E) → OnErr r P → OnErr r Q
on_err f (Ok x) p = p
on_err f (Err e) p = f p

either : {T E : Type 0} {P : T → Type 0} {Q R : Type 0} → ((x : T) → P x → R) → (Q → R) → (r : Result T E) → IfOk r P → OnErr r Q → R
either f g (Ok x) p q = f x p
either f g (Err e) p q = g q

-- the same lines are those of what was asked
pub kept_same : (faces : List FontFace) (old new : List KeptLeaf) → HoldsSame old new → AreKept faces old → AreKept faces new
kept_same faces old new s k = λ a l leaf h e. k a l leaf (s.only a l h) e

pub record IsAnswered {E : Type 0} (faces : List FontFace) (leaf : Leaf) (from : ℕ) (measure : ℤ) (old new : List KeptLeaf) (last : ℕ → Option ℕ) (steps steps' : ℕ) (r : Result LineView E) : Type 0 where
  pub sound : IsSoundBy new last
  pub line : IfOk r (λ line. IsLine faces leaf from measure line)
  pub kept : AreKept faces new
  pub asked : OnOk r (HasAsked (asked_of leaf from measure) old new)
  pub held_is : OnOk r (Holds old (asked_of leaf from measure) → steps' ≡ steps)
  pub fresh_is : OnOk r ((Holds old (asked_of leaf from measure) → ⊥) → steps' ≡ steps + 1)
  pub same : OnErr r (HoldsSame old new)
  pub places : KeepsPlaces old new

pub answered : {E : Type 0} (faces : List FontFace) (leaf : Leaf) (from : ℕ) (measure : ℤ) (old : List KeptLeaf) (last : ℕ → Option ℕ) (at : ℕ) (x y : KeptLeaf) (steps steps' : ℕ) (r : Result LineView E) → IsSoundBy old last → AreKept faces old → IsLeafAt old at (key_of leaf) measure → x ≡ get_or old at x → IsSameLeaf x y → IfOk r (λ line. AsksLine faces leaf from measure x.lines.items line y.lines.items steps steps') → OnErr r (y.lines.items ≡ x.lines.items) → IsAnswered faces leaf from measure old (slice_set old at y) last steps steps' r
answered {E = E} faces leaf from measure old last at x y steps steps' r sound kept l value same ok err = record {
  sound = sound_set old at x y has same last sound (either (λ line a. (on line a).rising) (λ e. subst (λ (ls : List KeptLine). AreRising ls) (sym e) up) r ok err);
  line = if_ok (λ line a. line_is old at x y has same faces leaf from measure line steps steps' key wide kept a) r ok;
  kept = either (λ line a. are_kept old at x y has same leaf from measure line key wide (IsOwnLine faces leaf measure) (on line a) faces kept (line_is old at x y has same faces leaf from measure line steps steps' key wide kept a) (λ l is. is)) (λ e. kept_same faces old (slice_set old at y) (same_lines old at x y has same e) kept) r ok err;
  asked = if_ok (λ line a. has_asked old at x y has same leaf from measure line key wide (IsOwnLine faces leaf measure) (on line a)) r ok;
  held_is = if_ok (λ line a. held old at x y has same faces leaf from measure line steps steps' key wide last sound a) r ok;
  fresh_is = if_ok (λ line a. filled old at x y has same faces leaf from measure line steps steps' key wide a) r ok;
  same = on_err (λ e. same_lines old at x y has same e) r err;
  places = places_set old at x y has same;
}
  where
    has : slice_get old at ≡ Some x
    has = slice_get_read old (length old) at x refl (slice_get_within old at l.leaf l.has) value

    same_x : x ≡ l.leaf
    same_x = same_Some _ _ (sym has ∙ l.has)

    key : key_in x ≡ key_of leaf
    key = ap key_in same_x ∙ l.key_is

    wide : x.measure ≡ measure
    wide = ap (λ (v : KeptLeaf). v.measure) same_x ∙ l.measure_is

    up : AreRising x.lines.items
    up = sound.rising at x has

    on : (line : LineView) → AsksLine faces leaf from measure x.lines.items line y.lines.items steps steps' → Goes from (IsOwnLine faces leaf measure) line x.lines.items y.lines.items
    on line a = goes_on faces leaf from measure x.lines.items line y.lines.items steps steps' up a

-- a line that is held was held
pub had_line : (old new : List KeptLeaf) → HoldsSame old new → (a : Asked) (l : KeptLine) → HasLine new a l → HasLine old a l
had_line old new s a l h = record { stands = s.only a l h.stands; asked = h.asked }

-- what is asked of kept lines that hold the same
pub asked_through : (a : Asked) (old mid new : List KeptLeaf) → HoldsSame old mid → HasAsked a mid new → HasAsked a old new
asked_through a old mid new s h = record {
  asked = h.asked;
  keeps = λ b w. h.keeps b (w.0, s.keeps b w.0 w.1);
  keeps_now = λ b w. h.keeps_now b (w.0, s.keeps b w.0 w.1, w.2);
  only = λ b w. ⊎_elim (λ (v : Holds mid b). inl (holds_back b v)) (λ e. inr e) (h.only b w);
  only_now = λ b w. ⊎_elim (λ (v : HoldsNow mid b). inl (now_back b v)) (λ e. inr e) (h.only_now b w);
}
  where
    holds_back : (b : Asked) → Holds mid b → Holds old b
    holds_back b v = (v.0, had_line old mid s b v.0 v.1)

    now_back : (b : Asked) → HoldsNow mid b → HoldsNow old b
    now_back b v = (v.0, had_line old mid s b v.0 v.1, v.2)

pub holds_on : (a : Asked) (old mid : List KeptLeaf) → HoldsSame old mid → Holds old a → Holds mid a
holds_on a old mid s h = (h.0, s.keeps a h.0 h.1)

pub holds_off : (a : Asked) (old mid : List KeptLeaf) → HoldsSame old mid → Holds mid a → Holds old a
holds_off a old mid s h = (h.0, had_line old mid s a h.0 h.1)
