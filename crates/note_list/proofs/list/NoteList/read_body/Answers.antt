use Rattle.std.proofs.Common.{◌≡◌, ℕ, ◌+◌, ℤ, List, Some, slice_get, [], ◌∷◌, ◌++◌, refl, sym, ap, ◌∙◌, subst, arith}
use Rattle.std.proofs.lemmas.Int.{ints, to_z-of_z}
use mir.Val.{SFits}
use mir.Syntax.{w64}
use Rattle.boxes.specs.Tree.{Tree}
use Rattle.boxes.specs.declared.flow.Note.{Note}
use Rattle.cursor.proofs.AskLemmas.{keeps_all, keeps_twice}
use Rattle.cursor.proofs.PlaceLemmas.{placed_twice}
use Rattle.cursor.proofs.StepLemmas.{takes_none, takes_twice}
use Rattle.cursor.specs.Asks.{AsksBy, IsHeldNow, KeepsHeld, TakesSteps}
use Rattle.cursor.specs.Fields.{solid_view}
use Rattle.cursor.specs.KeptLines.{StayPlaced}
use Rattle.cursor.specs.Remainder.{IsSolid, SolidView}
use Rattle.cursor.proofs.RemLemmas.{solid_falls, stands}
use Rattle.seams.specs.Widths.{widths_at}
use Rattle.seams.proofs.RunLemmas.{after_solid}
use Rattle.note_list.specs.Kept.{AreHeldNow}
use Rattle.note_list.specs.Known.{StepsForNotes}
use Rattle.note_list.specs.Lists.{NotePart, noted}
use Rattle.note_list.specs.Short.{IsShortList}
use Rattle.note_list.specs.declared.solid.NotedSolid.{NotedSolid}
use Rattle.note_list.proofs.BodyLemmas.{Reads, ends_next, reads_all, reads_next, reads_over, reads_start}
use Rattle.note_list.proofs.KeptLemmas.{held_more, held_next}
use Rattle.note_list.proofs.KnownLemmas.{noted_steps}
use Rattle.note_list.proofs.list.NoteList.read_body.Given as given
use Rattle.note_list.proofs.list.NoteList.read_body.Goals as goal
use Rattle.note_list.proofs.list.NoteList.read_body.Goals.{In_ok-add}

pub solids-init : goal.solids-init
solids-init g c =
    let wide : SFits w64 c.args.frame.width = (let low = c.requires.frame.width_low in let high = c.requires.frame.width_high in omega (arith, ints)) in
    record {
      ready = c.requires.list.ready;
      room = c.requires.list.room;
      holds = c.requires.holds;
      widths = c.widths_at.ensures ∙ ap (λ (w : ℤ). widths_at c.args.body.now w c.args.part.at) (to_z-of_z w64 c.args.frame.width wide);
      begun = refl;
      own = refl;
      ends = λ notes note has same h. h;
      reads = reads_start c.args.faces.now c.args.body.now c.args.frame.width _ c.args.self.now.solids.items;
      short = λ s. s;
      lines = λ notes note has same known are. omega arith;
      kept = c.requires.lines.kept;
      placed = λ other tree same was. was;
      keeps = keeps_all c.args.lines.now.kept;
      takes = takes_none c.args.lines.now.kept c.args.lines.now.kept c.args.steps.now;
      now = λ notes note has same h. h;
    }

pub solids-smaller : goal.solids-smaller
solids-smaller g c =
    let wide : SFits w64 c.args.frame.width = (let low = c.requires.frame.width_low in let high = c.requires.frame.width_high in omega (arith, ints)) in
    let is : IsSolid c.args.faces.now c.args.body.now c.args.frame.width c.solids.at (solid_view c.in-Some.solid) = subst (λ (w : ℤ). IsSolid c.args.faces.now c.args.body.now w c.solids.at (solid_view c.in-Some.solid)) (to_z-of_z w64 c.args.frame.width wide) (rw c.in-Some.is at c.in-Ok.ensures.solid) in
    solid_falls c.args.faces.now c.args.body.now c.args.frame.width c.solids.at (solid_view c.in-Some.solid) c.requires.body.is (stands c.args.body.now c.solids.at c.solids.invariant.holds) is

-- what is held once a solid is added
abbrev number : (g : given.Over) (c : In_ok-add g) → ℕ
number g c = c.args.part.note + 1

stays_on : (g : given.Over) (c : In_ok-add g) → StayPlaced (number g c) c.args.body.now c.args.lines.now c.next_solid_kept.new.lines
stays_on g c = placed_twice c.args.body.now (number g c) c.args.lines.now.kept c.solids.lines.kept c.next_solid_kept.new.lines.kept c.args.lines.now.places c.solids.lines.places c.next_solid_kept.new.lines.places c.solids.invariant.placed c.next_solid_kept.ensures.places

keeps_on : (g : given.Over) (c : In_ok-add g) → KeepsHeld c.args.lines.now.kept c.next_solid_kept.new.lines.kept
keeps_on g c = keeps_twice c.args.lines.now.kept c.solids.lines.kept c.next_solid_kept.new.lines.kept c.solids.invariant.keeps c.next_solid_kept.ensures.keeps

takes_on : (g : given.Over) (c : In_ok-add g) → TakesSteps c.args.lines.now.kept c.next_solid_kept.new.lines.kept c.args.steps.now c.next_solid_kept.new.steps
takes_on g c = takes_twice c.args.lines.now.kept c.solids.lines.kept c.next_solid_kept.new.lines.kept c.args.steps.now c.solids.steps c.next_solid_kept.new.steps c.solids.invariant.keeps c.next_solid_kept.ensures.keeps c.solids.invariant.takes c.in-Ok.ensures.takes

held_now : (g : given.Over) (c : In_ok-add g) (notes : List Note) (note : Note) → slice_get notes c.args.part.note ≡ Some note → note.body ≡ c.args.body.now → AreHeldNow notes c.args.frame.width c.args.lines.now.kept c.args.self.now.solids.items → AreHeldNow notes c.args.frame.width c.next_solid_kept.new.lines.kept c.add.new.self.solids.items
held_now g c notes note has same h =
    let wide : SFits w64 c.args.frame.width = (let low = c.requires.frame.width_low in let high = c.requires.frame.width_high in omega (arith, ints)) in
    let body : Tree = c.args.body.now in
    let s : SolidView = solid_view c.in-Some.solid in
    let is : IsSolid c.args.faces.now body c.args.frame.width c.solids.at s = subst (λ (w : ℤ). IsSolid c.args.faces.now body w c.solids.at s) (to_z-of_z w64 c.args.frame.width wide) (rw c.in-Some.is at c.in-Ok.ensures.solid) in
    let p : NotePart = record { note = c.args.part.note; at = c.args.part.at; called = c.args.called } in
    let first = c.is_first-is_first.ensures body c.solid_after-first.ensures.value (after_solid body c.solids.at.event s.placed_at.event is.found).1 in
    let items : c.add.new.self.solids.items ≡ c.solids.self.solids.items ++ noted body p s ∷ [] = c.in_ok-add.ensures.solids ∙ ap (λ (x : NotedSolid). c.solids.self.solids.items ++ x ∷ []) (c.noted.ensures.solid body first) in
    let kept = c.next_solid_kept.new.lines.kept in
    let now : IsHeldNow body c.args.frame.width kept c.in-Some.solid.placed_at = subst (λ (w : ℤ). IsHeldNow body w kept c.in-Some.solid.placed_at) (to_z-of_z w64 c.args.frame.width wide) (rw c.in-Some.is at c.in-Ok.ensures.now) in
    held_next notes note body c.args.frame.width c.solids.lines.kept kept c.solids.self.solids.items c.add.new.self.solids.items (noted body p s) has same c.next_solid_kept.ensures.keeps now items (c.solids.invariant.now notes note has same h)

lines_on : (g : given.Over) (c : In_ok-add g) (notes : List Note) (note : Note) → slice_get notes c.args.part.note ≡ Some note → note.body ≡ c.args.body.now → StepsForNotes notes c.args.frame.width c.args.lines.now.kept c.args.self.now.solids.items c.add.new.self.solids.items c.args.steps.now c.next_solid_kept.new.steps
lines_on g c notes note has same = λ known are.
    let wide : SFits w64 c.args.frame.width = (let low = c.requires.frame.width_low in let high = c.requires.frame.width_high in omega (arith, ints)) in
    let body : Tree = c.args.body.now in
    let s : SolidView = solid_view c.in-Some.solid in
    let is : IsSolid c.args.faces.now body c.args.frame.width c.solids.at s = subst (λ (w : ℤ). IsSolid c.args.faces.now body w c.solids.at s) (to_z-of_z w64 c.args.frame.width wide) (rw c.in-Some.is at c.in-Ok.ensures.solid) in
    let p : NotePart = record { note = c.args.part.note; at = c.args.part.at; called = c.args.called } in
    let first = c.is_first-is_first.ensures body c.solid_after-first.ensures.value (after_solid body c.solids.at.event s.placed_at.event is.found).1 in
    let items : c.add.new.self.solids.items ≡ c.solids.self.solids.items ++ noted body p s ∷ [] = c.in_ok-add.ensures.solids ∙ ap (λ (x : NotedSolid). c.solids.self.solids.items ++ x ∷ []) (c.noted.ensures.solid body first) in
    let asks : AsksBy s.kind body c.args.frame.width s c.solids.lines.kept c.next_solid_kept.new.lines.kept c.solids.steps c.next_solid_kept.new.steps =
    subst (λ (w : ℤ). AsksBy s.kind body w s c.solids.lines.kept c.next_solid_kept.new.lines.kept c.solids.steps c.next_solid_kept.new.steps) (to_z-of_z w64 c.args.frame.width wide) (rw c.in-Some.is at c.in-Ok.ensures.asks) in
    noted_steps known notes c.args.frame.width note body p s c.args.lines.now.kept c.solids.lines.kept c.next_solid_kept.new.lines.kept c.args.self.now.solids.items c.solids.self.solids.items c.add.new.self.solids.items c.args.steps.now c.solids.steps c.next_solid_kept.new.steps has same are c.solids.invariant.keeps asks
    (rw c.in-Some.is at c.in-Ok.ensures.step) items (c.solids.invariant.lines notes note has same known are)

pub next_solid_kept-requires-clause-lines : goal.next_solid_kept-requires-clause-lines
next_solid_kept-requires-clause-lines g c = record {
  kept = c.solids.invariant.kept;
  placed = c.solids.invariant.placed (c.args.part.note + 1) c.args.body.now (λ e. refl) c.requires.lines.placed;
}

pub solids-preserved : goal.solids-preserved
solids-preserved g c =
    let d = (goal.at.solids-preserved g c).In_ok-add in
    let wide : SFits w64 c.args.frame.width = (let low = c.requires.frame.width_low in let high = c.requires.frame.width_high in omega (arith, ints)) in
    let body : Tree = c.args.body.now in
    let s : SolidView = solid_view c.in-Some.solid in
    let is : IsSolid c.args.faces.now body c.args.frame.width c.solids.at s = subst (λ (w : ℤ). IsSolid c.args.faces.now body w c.solids.at s) (to_z-of_z w64 c.args.frame.width wide) (rw c.in-Some.is at c.in-Ok.ensures.solid) in
    let p : NotePart = record { note = c.args.part.note; at = c.args.part.at; called = c.args.called } in
    let first = c.is_first-is_first.ensures body c.solid_after-first.ensures.value (after_solid body c.solids.at.event s.placed_at.event is.found).1 in
    let items : c.add.new.self.solids.items ≡ c.solids.self.solids.items ++ noted body p s ∷ [] = c.in_ok-add.ensures.solids ∙ ap (λ (x : NotedSolid). c.solids.self.solids.items ++ x ∷ []) (c.noted.ensures.solid body first) in
    let reads : Reads c.args.faces.now body c.args.frame.width p s.end c.args.self.now.solids.items c.add.new.self.solids.items = reads_next c.args.faces.now body c.args.frame.width p c.solids.at s c.args.self.now.solids.items c.solids.self.solids.items c.add.new.self.solids.items c.solids.invariant.reads is items in
    let height : SFits w64 c.args.frame.height = (let low = c.requires.frame.height_low in let high = c.requires.frame.height_high in omega (arith, ints)) in
    record {
      ready = c.in_ok-add.ensures.ready;
      room = c.if-self.false;
      holds = (rw c.in-Some.is at c.in-Ok.ensures.holds);
      widths = (rw c.in-Some.is at c.in-Ok.ensures.widths) ∙ ap (λ (w : ℤ). widths_at body w c.in-Some.solid.end) (to_z-of_z w64 c.args.frame.width wide);
      begun = c.in_ok-add.ensures.begun ∙ c.solids.invariant.begun;
      own = c.in_ok-add.ensures.own ∙ c.solids.invariant.own;
      ends = λ notes note has same h. ends_next notes c.solids.self.solids.items c.add.new.self.solids.items c.noted.result c.args.part.note c.in-Some.solid.end c.args.body.now note has same c.noted.ensures.note c.noted.ensures.end (rw c.in-Some.is at c.in-Ok.ensures.holds) c.in_ok-add.ensures.solids (c.solids.invariant.ends notes note has same h);
      reads = reads;
      short = λ h.
          subst (λ (z : ℤ). IsShortList z c.add.new.self) (to_z-of_z w64 c.args.frame.height height)
          (c.in_ok-add.ensures.short c.solids.invariant.room (subst (λ (z : ℤ). IsShortList z c.solids.self) (sym (to_z-of_z w64 c.args.frame.height height)) (c.solids.invariant.short h)));
      lines = λ notes note has same. lines_on g d notes note has same;
      kept = c.next_solid_kept.ensures.kept;
      placed = stays_on g d;
      keeps = keeps_on g d;
      takes = takes_on g d;
      now = λ notes note has same h. held_now g d notes note has same h;
    }

pub returns-then-self-clause-read : goal.returns-then-self-clause-read
returns-then-self-clause-read g c =
    let wide : SFits w64 c.args.frame.width = (let low = c.requires.frame.width_low in let high = c.requires.frame.width_high in omega (arith, ints)) in
    let body : Tree = c.args.body.now in
    let s : SolidView = solid_view c.in-Some.solid in
    let is : IsSolid c.args.faces.now body c.args.frame.width c.solids.at s = subst (λ (w : ℤ). IsSolid c.args.faces.now body w c.solids.at s) (to_z-of_z w64 c.args.frame.width wide) (rw c.in-Some.is at c.in-Ok.ensures.solid) in
    let p : NotePart = record { note = c.args.part.note; at = c.args.part.at; called = c.args.called } in
    let first = c.is_first-is_first.ensures body c.solid_after-first.ensures.value (after_solid body c.solids.at.event s.placed_at.event is.found).1 in
    let items : c.add.new.self.solids.items ≡ c.solids.self.solids.items ++ noted body p s ∷ [] = c.in_ok-add.ensures.solids ∙ ap (λ (x : NotedSolid). c.solids.self.solids.items ++ x ∷ []) (c.noted.ensures.solid body first) in
    let reads : Reads c.args.faces.now body c.args.frame.width p s.end c.args.self.now.solids.items c.add.new.self.solids.items = reads_next c.args.faces.now body c.args.frame.width p c.solids.at s c.args.self.now.solids.items c.solids.self.solids.items c.add.new.self.solids.items c.solids.invariant.reads is items in
    let height : SFits w64 c.args.frame.height = (let low = c.requires.frame.height_low in let high = c.requires.frame.height_high in omega (arith, ints)) in
    reads_over c.args.faces.now body c.args.frame.width c.args.frame.height p c.solids.at s c.args.self.now c.add.new.self c.requires.body.is (stands body c.solids.at c.solids.invariant.holds) is reads c.if-self.true (simp to_z-of_z at (c.in_ok-add.ensures.over c.if-self.true))

pub returns-then-self-clause-ends : goal.returns-then-self-clause-ends
returns-then-self-clause-ends g c = λ notes note has same h. ends_next notes c.solids.self.solids.items c.add.new.self.solids.items c.noted.result c.args.part.note c.in-Some.solid.end c.args.body.now note has same c.noted.ensures.note c.noted.ensures.end (rw c.in-Some.is at c.in-Ok.ensures.holds) c.in_ok-add.ensures.solids (c.solids.invariant.ends notes note has same h)

pub returns-then-self-clause-short : goal.returns-then-self-clause-short
returns-then-self-clause-short g c = λ h.
    let height : SFits w64 c.args.frame.height = (let low = c.requires.frame.height_low in let high = c.requires.frame.height_high in omega (arith, ints)) in
    subst (λ (z : ℤ). IsShortList z c.add.new.self) (to_z-of_z w64 c.args.frame.height height)
    (c.in_ok-add.ensures.short c.solids.invariant.room (subst (λ (z : ℤ). IsShortList z c.solids.self) (sym (to_z-of_z w64 c.args.frame.height height)) (c.solids.invariant.short h)))

pub returns-then-self-clause-lines : goal.returns-then-self-clause-lines
returns-then-self-clause-lines g c = λ notes note has same. lines_on g (goal.at.returns-then-self-clause-lines g c).In_ok-add notes note has same

pub returns-in_default-next-clause-lines : goal.returns-in_default-next-clause-lines
returns-in_default-next-clause-lines g c = λ notes note has same known are.
    let step = (rw c.in_default-next.is at c.in-Ok.ensures.step) in
    let count = c.solids.invariant.lines notes note has same known are in
    omega (arith, step, count)

pub returns-in_default-next-clause-read : goal.returns-in_default-next-clause-read
returns-in_default-next-clause-read g c = reads_all c.args.faces.now c.args.body.now c.args.frame.width c.args.frame.height _ c.solids.at c.args.self.now c.solids.self c.solids.invariant.reads (rw c.in_default-next.is at c.in-Ok.ensures.solid) c.solids.invariant.room

pub returns-then-self-clause-placed : goal.returns-then-self-clause-placed
returns-then-self-clause-placed g c = stays_on g (goal.at.returns-then-self-clause-placed g c).In_ok-add

pub returns-then-self-clause-keeps : goal.returns-then-self-clause-keeps
returns-then-self-clause-keeps g c = keeps_on g (goal.at.returns-then-self-clause-keeps g c).In_ok-add

pub returns-then-self-clause-takes : goal.returns-then-self-clause-takes
returns-then-self-clause-takes g c = takes_on g (goal.at.returns-then-self-clause-takes g c).In_ok-add

pub returns-then-self-clause-now : goal.returns-then-self-clause-now
returns-then-self-clause-now g c = held_now g (goal.at.returns-then-self-clause-now g c).In_ok-add

pub returns-in_default-clause-placed : goal.returns-in_default-clause-placed
returns-in_default-clause-placed g c = placed_twice c.args.body.now (c.args.part.note + 1) c.args.lines.now.kept c.solids.lines.kept c.next_solid_kept.new.lines.kept c.args.lines.now.places c.solids.lines.places c.next_solid_kept.new.lines.places c.solids.invariant.placed c.next_solid_kept.ensures.places

pub returns-in_default-clause-keeps : goal.returns-in_default-clause-keeps
returns-in_default-clause-keeps g c = keeps_twice c.args.lines.now.kept c.solids.lines.kept c.next_solid_kept.new.lines.kept c.solids.invariant.keeps c.next_solid_kept.ensures.keeps

pub returns-in_err-add-clause-placed : goal.returns-in_err-add-clause-placed
returns-in_err-add-clause-placed g c = placed_twice c.args.body.now (c.args.part.note + 1) c.args.lines.now.kept c.solids.lines.kept c.next_solid_kept.new.lines.kept c.args.lines.now.places c.solids.lines.places c.next_solid_kept.new.lines.places c.solids.invariant.placed c.next_solid_kept.ensures.places

pub returns-in_err-add-clause-keeps : goal.returns-in_err-add-clause-keeps
returns-in_err-add-clause-keeps g c = keeps_twice c.args.lines.now.kept c.solids.lines.kept c.next_solid_kept.new.lines.kept c.solids.invariant.keeps c.next_solid_kept.ensures.keeps

pub returns-in_default-next-clause-placed : goal.returns-in_default-next-clause-placed
returns-in_default-next-clause-placed g c = placed_twice c.args.body.now (c.args.part.note + 1) c.args.lines.now.kept c.solids.lines.kept c.next_solid_kept.new.lines.kept c.args.lines.now.places c.solids.lines.places c.next_solid_kept.new.lines.places c.solids.invariant.placed c.next_solid_kept.ensures.places

pub returns-in_default-next-clause-keeps : goal.returns-in_default-next-clause-keeps
returns-in_default-next-clause-keeps g c = keeps_twice c.args.lines.now.kept c.solids.lines.kept c.next_solid_kept.new.lines.kept c.solids.invariant.keeps c.next_solid_kept.ensures.keeps

pub returns-in_default-next-clause-takes : goal.returns-in_default-next-clause-takes
returns-in_default-next-clause-takes g c = takes_twice c.args.lines.now.kept c.solids.lines.kept c.next_solid_kept.new.lines.kept c.args.steps.now c.solids.steps c.next_solid_kept.new.steps c.solids.invariant.keeps c.next_solid_kept.ensures.keeps c.solids.invariant.takes c.in-Ok.ensures.takes

pub returns-in_default-next-clause-now : goal.returns-in_default-next-clause-now
returns-in_default-next-clause-now g c = λ notes note has same h. held_more notes c.args.frame.width c.solids.lines.kept c.next_solid_kept.new.lines.kept c.solids.self.solids.items c.next_solid_kept.ensures.keeps (c.solids.invariant.now notes note has same h)
