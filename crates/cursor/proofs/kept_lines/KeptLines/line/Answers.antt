use Rattle.std.proofs.Common.{◌≡◌, ◌+◌, List, refl, sym, subst, FitsSigned, w64}
use Rattle.std.specs.Prelude.{OnOk, OnErr}
use Rattle.std.proofs.lemmas.Int.{to_z-of_z}
use Rattle.std.proofs.lemmas.Option.{slice_get_within}
use Rattle.line_fill.specs.Kept.{AreKept, Asked, HasAsked, Holds, HoldsSame, asked_of}
use Rattle.line_fill.specs.declared.kept.KeptLeaf.{KeptLeaf}
use Rattle.line_fill.proofs.AskLemmas.{if_ok, kept_same, asked_through, holds_on, holds_off, on_err}
use Rattle.cursor.specs.KeptLines.{ArePlaced, KeptLinesView, StayPlaced, lines_with}
use Rattle.cursor.proofs.PlaceLemmas.{placed_grown, placed_twice}
use Rattle.cursor.proofs.kept_lines.KeptLines.line.Goals as goal

pub place-requires-clause-leaf : goal.place-requires-clause-leaf
place-requires-clause-leaf g c = slice_get_within c.args.tree.now.leaves c.args.number.leaf c.args.leaf.now c.requires.leaf

pub place-requires-clause-placed : goal.place-requires-clause-placed
place-requires-clause-placed g c = subst (ArePlaced c.args.number.tree c.args.tree.now) (sym c.self.view_is) c.requires.lines.placed

pub returns-in_err-at-clause-kept : goal.returns-in_err-at-clause-kept
returns-in_err-at-clause-kept g c =
    kept_same c.args.faces.now c.self.inside.kept c.place.new.kept c.place.ensures.same (subst (λ (v : KeptLinesView). AreKept c.args.faces.now v.kept) (sym c.self.view_is) c.requires.lines.kept)

pub returns-in_err-at-clause-placed : goal.returns-in_err-at-clause-placed
returns-in_err-at-clause-placed g c =
    subst (λ (v : KeptLinesView). StayPlaced c.args.number.tree c.args.tree.now v (lines_with c.place.new.kept c.place.new.places)) c.self.view_is c.place.ensures.placed

pub line_in-requires-clause-kept : goal.line_in-requires-clause-kept
line_in-requires-clause-kept g c =
    kept_same c.args.faces.now c.self.inside.kept c.place.new.kept c.place.ensures.same (subst (λ (v : KeptLinesView). AreKept c.args.faces.now v.kept) (sym c.self.view_is) c.requires.lines.kept)

pub returns-clause-asked : goal.returns-clause-asked
returns-clause-asked g c =
    let fits : FitsSigned w64 c.args.measure = c.ranges.measure in
    let a = rw (to_z-of_z w64 c.args.measure fits) at c.line_in.ensures.asked in
    let asked : Asked = asked_of c.args.leaf.now c.args.from c.args.measure in
    subst (λ (v : KeptLinesView). OnOk c.line_in.result (HasAsked asked v.kept c.line_in.new.self)) c.self.view_is
    (if_ok (λ line h. asked_through asked c.self.inside.kept c.place.new.kept c.line_in.new.self c.place.ensures.same h) c.line_in.result a)

pub returns-clause-held : goal.returns-clause-held
returns-clause-held g c =
    let fits : FitsSigned w64 c.args.measure = c.ranges.measure in
    let a = rw (to_z-of_z w64 c.args.measure fits) at c.line_in.ensures.held in
    let asked : Asked = asked_of c.args.leaf.now c.args.from c.args.measure in
    subst (λ (v : KeptLinesView). OnOk c.line_in.result (Holds v.kept asked → c.line_in.new.steps ≡ c.args.steps.now)) c.self.view_is
    (if_ok (λ line f h. f (holds_on asked c.self.inside.kept c.place.new.kept c.place.ensures.same h)) c.line_in.result a)

pub returns-clause-fresh : goal.returns-clause-fresh
returns-clause-fresh g c =
    let fits : FitsSigned w64 c.args.measure = c.ranges.measure in
    let a = rw (to_z-of_z w64 c.args.measure fits) at c.line_in.ensures.fresh in
    let asked : Asked = asked_of c.args.leaf.now c.args.from c.args.measure in
    subst (λ (v : KeptLinesView). OnOk c.line_in.result ((Holds v.kept asked → ⊥) → c.line_in.new.steps ≡ c.args.steps.now + 1)) c.self.view_is
    (if_ok (λ line f n. f (λ h. n (holds_off asked c.self.inside.kept c.place.new.kept c.place.ensures.same h))) c.line_in.result a)

pub returns-clause-placed : goal.returns-clause-placed
returns-clause-placed g c =
    subst (λ (v : KeptLinesView). StayPlaced c.args.number.tree c.args.tree.now v (lines_with c.line_in.new.self c.place.new.places)) c.self.view_is
    (placed_twice c.args.tree.now c.args.number.tree c.self.inside.kept c.place.new.kept c.line_in.new.self c.self.inside.places c.place.new.places c.place.new.places c.place.ensures.placed
    (placed_grown c.args.tree.now c.args.number.tree c.place.new.kept c.line_in.new.self c.place.new.places c.place.new.places c.line_in.ensures.places refl))

same_twice : (old mid new : List KeptLeaf) → HoldsSame old mid → HoldsSame mid new → HoldsSame old new
same_twice old mid new f g = record { keeps = λ b line h. g.keeps b line (f.keeps b line h); only = λ b line h. f.only b line (g.only b line h) }

pub returns-clause-same : goal.returns-clause-same
returns-clause-same g c =
    subst (λ (v : KeptLinesView). OnErr c.line_in.result (HoldsSame v.kept c.line_in.new.self)) c.self.view_is
    (on_err (same_twice c.self.inside.kept c.place.new.kept c.line_in.new.self c.place.ensures.same) c.line_in.result c.line_in.ensures.same)
