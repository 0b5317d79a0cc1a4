use Rattle.std.proofs.Common.{◌≡◌, ◌∙◌, ◌+◌, ◌≤◌, ◌<◌, ◌++◌, ◌∷◌, [], ℕ, Bool, false, List, length, get_or, drop, refl, ap, ap₂, sym, subst, arith}
use Rattle.std.specs.List.{slice_range}
use Rattle.std.specs.Str.{chars}
use Rattle.std.proofs.lemmas.List.{drop_all, drop_more, length-drop}
use Rattle.hyphen.specs.Meaning.{value_in}
use Rattle.inline_text.specs.Joined.{Laid}
use Rattle.soft_hyphens.specs.Pass.{letters_with}
use Rattle.soft_hyphens.specs.Words.{letters_in, points_with}
use Rattle.soft_hyphens.specs.declared.letter.Letter.{Letter}
use Rattle.soft_hyphens.proofs.SliceLemmas.{BeginAt, begin-first, IsNext, next-is, piece-first}
use Rattle.soft_hyphens.proofs.WalkLemmas.{begin-in, begin-over}
use Rattle.soft_hyphens.proofs.walk.walk_over.Goals as goal

pub loop-index-init : goal.loop-index-init
loop-index-init c = record {
  walk = begin-in c.args.text.now c.args.offsets.now.items c.requires.none c.utf8.text;
  begin = λ ts t e. begin-first c.args.text.now c.args.ends.now ts t e;
  over = λ ts t e. (begin-over (points_with (value_in c.args.hyphenator.now)) (letters_in c.args.autos.now ts) c.args.text.now c.args.offsets.now.items c.requires.none, refl);
}

pub pass_piece-requires-clause-next : goal.pass_piece-requires-clause-next
pass_piece-requires-clause-next c =
    let text : List ℕ = c.args.text.now in
    let at : ℕ = c.loop-index.walk.at in
    piece-first text at (get_or c.args.ends.now c.loop-index.index 0) ∙ ap (λ (l : List ℕ). l ++ drop (at + length l) text) (sym c.piece-piece.ensures)

pub loop-index-preserved : goal.loop-index-preserved
loop-index-preserved c =
    let inv = c.loop-index.invariant in
    let i : ℕ = c.loop-index.index in
    let at : ℕ = c.loop-index.walk.at in
    let l : Laid = record { bytes = c.args.text.now; ends = c.args.ends.now } in
    let autos : List Bool = c.args.autos.now in
    let t : List ℕ = c.piece-piece.result.now in
    let inside : i < length c.args.ends.now = omega (arith, c.loop-index-test.true, c.requires.each) in
    let is : t ≡ slice_range c.args.text.now at (get_or c.args.ends.now i 0) = c.piece-piece.ensures in
    let to : c.in_ok-walk.walk.at ≡ at + length (slice_range c.args.text.now at (get_or c.args.ends.now i 0)) = c.in_ok-walk.ensures.at ∙ ap (λ (x : List ℕ). at + length x) is in
    let next : (ts : List (List ℕ)) → BeginAt l ts i at → IsNext l ts i at (slice_range l.bytes at (get_or l.ends i 0)) = λ ts b. next-is l ts i at b inside in
    record {
      walk = c.in_ok-walk.ensures.walk;
      begin = λ ts x e. subst (BeginAt l ts (i + 1)) (sym to) ((next ts (inv.begin ts x e)).others);
      over = λ ts x e.
          let old = inv.over ts x e in
          let more : List Letter = letters_in (drop (i + 1) autos) (drop (i + 1) ts) in
          let first : drop i ts ≡ t ∷ drop (i + 1) ts = (next ts (inv.begin ts x e)).first ∙ ap (λ (y : List ℕ). y ∷ drop (i + 1) ts) (sym is) in
          let here : letters_in (drop i autos) (drop i ts) ≡ letters_with (get_or autos i false) (chars t) ++ more = ap₂ letters_in (drop_more autos i false c.loop-index-test.true) first in
          c.in_ok-walk.ensures.over (letters_in autos ts) more old.0 (old.1 ∙ here);
    }

pub returns-clause-over : goal.returns-clause-over
returns-clause-over c = λ ts t e.
    let i : ℕ = c.loop-index.index in
    let ls : List Letter = letters_in c.args.autos.now ts in
    let p : ℕ = c.loop-index.walk.place in
    let old = c.loop-index.invariant.over ts t e in
    let all : drop i c.args.autos.now ≡ [] = drop_all i c.args.autos.now (omega (arith, c.loop-index-test.false)) in
    let none : drop p ls ≡ [] = old.1 ∙ ap (λ (a : List Bool). letters_in a (drop i ts)) all in
    let within : p ≤ length ls = old.0.within in
    let end : p ≡ length ls = omega (arith, within, length-drop p ls, ap (λ (x : List Letter). length x) none) in
    (old.0, end)
