use Rattle.std.proofs.Common.{Bool, pos, ◌≡◌, ◌<◌, ◌≤◌, ◌+◌, ◌==◌, ◌^◌, ℕ, ℤ, true, false, List, [], ◌∷◌, ◌++◌, Option, is_some, MatchOption, take, length, length-append, append-nil, ◌≤ℤ◌, ◌<ℤ◌, ◌⊎◌, ⊎_elim, inl, inr, suc, rules, refl, sym, ap, ◌∙◌, subst, arith, to_z, of_z}
use Rattle.std.proofs.lemmas.Bool.Decides.{nat_tests}
use Rattle.std.proofs.lemmas.Int.{to_z-of_z}
use Rattle.std.proofs.lemmas.List.{length-map, length-take-le, map-append}
use Rattle.std.proofs.lemmas.List.Sums.{sum_by-append, sum_by_push}
use mir.Val.{SFits}
use mir.Syntax.{w64}
use Rattle.boxes.specs.Tree.{Tree, Holds}
use Rattle.boxes.specs.declared.place.Position.{Position}
use Rattle.cursor.proofs.AskLemmas.{keeps_all, keeps_twice}
use Rattle.cursor.proofs.StepLemmas.{takes_none, takes_twice}
use Rattle.cursor.specs.Asks.{AsksBy, AsksNext, KeepsHeld, TakesSteps}
use Rattle.cursor.specs.Remainder.{SolidView, IsRemainder, steps_of}
use Rattle.cursor.proofs.RemLemmas.{left_from, solid_falls, stands}
use Rattle.seams.specs.Widths.{widths_at}
use Rattle.bk_num.specs.Limits.{most_entries}
use Rattle.cuts.specs.declared.row.SolidRow.{SolidRow}
use Rattle.cuts.specs.Areas.{AreTold, area_after}
use Rattle.cuts.specs.Cuts.{NoteLists}
use Rattle.cuts.specs.Rows.{AreForcedBetween, IsSmallRow, rows_extent}
use Rattle.cuts.specs.Prefixes.{AreFree, HasForced, HasPlaced, IsLook, IsStacked}
use Rattle.cuts.specs.Short.{IsShort}
use Rattle.cuts.proofs.ReachLemmas.{reached_low}
use Rattle.note_list.proofs.KnownLemmas.{asks_new, known_more}
use Rattle.note_list.proofs.KeptLemmas.{held_more, main_lines}
use Rattle.note_list.specs.Kept.{AreHeldNow}
use Rattle.note_list.specs.Known.{new_in, new_of}
use Rattle.note_list.specs.declared.carried.Carried.{Carried}
use Rattle.page_list.specs.Cuts.{row_of, rows_of}
use Rattle.page_list.specs.Looked.{AreFewLines, most_widows}
use Rattle.page_list.proofs.FewLemmas.{few_lines, row_widows}
use Rattle.fragment.specs.declared.ahead.Ahead.{Ahead}
use Rattle.fragment.specs.Ahead.{IsPageAhead, end_of, page_of, page_views}
use Rattle.fragment.specs.Reads.{AreRead, AreReadInside, IsPagePrefix, StepsForPage, called_by}
use Rattle.fragment.proofs.AheadLemmas.{IsPassed, IsStep, step_is, calls_along, ends_hold, falls_along, goes_from, page_on, page_row, page_size, passed_is, rows_size}
use Rattle.fragment.proofs.FlowLemmas.{LooksOn, between, free_past, look_on, look_past, read_few, read_missed, read_forced, read_all, rows_append, views_free, views_forced}
use Rattle.fragment.proofs.InsideLemmas.{areas_on, inside_last, inside_on, inside_past, inside_start}
use Rattle.fragment.proofs.PlaceLemmas.{called_grows, called_on}
use Rattle.cursor.proofs.RemLemmas.{remainder_exists}
use Rattle.fragment.proofs.prefix.prefix.Given as given
use Rattle.fragment.proofs.prefix.prefix.Goals as goal
use Rattle.fragment.proofs.prefix.prefix.Goals.{After-pass-count, After-row, In_ok-take_inside, Then-ended}

-- ---- what each path knows once a solid is read
ahead_read : (g : given.Over) (c : After-row g) → IsPageAhead c.args.faces.now c.args.flow.now.main c.args.frame.width c.read.new.lines.kept c.args.from.at c.read.new.self
ahead_read g c = subst (λ (w : ℤ). IsPageAhead c.args.faces.now c.args.flow.now.main w c.read.new.lines.kept c.args.from.at c.read.new.self) c.loop-ended.invariant.ahead.wide c.in-Ok.ensures.ahead

first_step : (g : given.Over) (c : After-row g) → IsStep c.args.faces.now c.args.flow.now.main c.args.frame.width c.read.new.lines.kept c.args.from.at c.loop-ended.ahead c.read.new.self c.loop-ended.count
first_step g c = step_is c.args.faces.now c.args.flow.now.main c.args.frame.width c.read.new.lines.kept c.args.from.at c.loop-ended.ahead c.read.new.self c.loop-ended.count c.in-Ok.ensures.more.0 (ahead_read g c).are c.in-Ok.ensures.more.1 c.loop-ended.invariant.within (c.in-Ok.ensures.there c.if-ended.false)

first_row : (g : given.Over) (c : After-row g) → c.row.result.now ≡ row_of c.args.flow.now.main (first_step g c).solid
first_row g c = page_row c.args.faces.now c.args.flow.now.main c.args.frame.width c.read.new.lines.kept c.args.from.at c.read.new.self (ahead_read g c) c.loop-ended.count (first_step g c).solid c.row.result.now (first_step g c).at c.row.ensures

few : (g : given.Over) (c : After-row g) → c.loop-ended.count ≤ 2 ^ 26
few g c =
    let t : Tree = c.args.flow.now.main in
    let xs : List SolidView = page_of c.loop-ended.ahead in
    let is = c.loop-ended.invariant.ahead.are in
    let low = c.loop-ended.invariant.within in
    let size : length (take c.loop-ended.count xs) ≡ c.loop-ended.count = length-take-le c.loop-ended.count xs low in
    subst (λ (n : ℕ). n ≤ 2 ^ 26) size
    (read_few c.args.faces.now t c.args.frame c.args.from.at c.args.from.kept 0 [] (pos 0) c.count-count.ensures.tree c.requires.holds (take c.loop-ended.count xs) (end_of c.args.from.at xs c.loop-ended.count)
    (ends_hold c.args.faces.now t c.args.frame.width c.loop-ended.lines.kept c.args.from.at xs c.loop-ended.count c.requires.holds is low)
    (λ rest r. goes_from c.args.faces.now t c.args.frame.width c.loop-ended.lines.kept c.args.from.at xs c.loop-ended.count rest is low r) c.requires.flow.main.bytes)

first_read : (g : given.Over) (c : After-row g) → AreReadInside c.args.faces.now c.args.flow.now c.args.frame c.args.from c.requires.read.0 (page_views c.loop-ended.ahead c.loop-ended.count) c.loop-ended.notes
first_read g c = c.loop-ended.invariant.are c.requires.read.0 c.requires.read.1

-- ---- and once its notes are
ahead_now : (g : given.Over) (c : In_ok-take_inside g) → IsPageAhead c.args.faces.now c.args.flow.now.main c.args.frame.width c.take_inside.new.lines.kept c.args.from.at c.read.new.self
ahead_now g c =
    page_on c.args.faces.now c.args.flow.now.main c.args.frame.width c.read.new.lines.kept c.take_inside.new.lines.kept c.args.from.at c.read.new.self c.take_inside.ensures.keeps
    (subst (λ (w : ℤ). IsPageAhead c.args.faces.now c.args.flow.now.main w c.read.new.lines.kept c.args.from.at c.read.new.self) c.loop-ended.invariant.ahead.wide c.in-Ok.ensures.ahead)

step : (g : given.Over) (c : In_ok-take_inside g) → IsStep c.args.faces.now c.args.flow.now.main c.args.frame.width c.take_inside.new.lines.kept c.args.from.at c.loop-ended.ahead c.read.new.self c.loop-ended.count
step g c = step_is c.args.faces.now c.args.flow.now.main c.args.frame.width c.take_inside.new.lines.kept c.args.from.at c.loop-ended.ahead c.read.new.self c.loop-ended.count c.in-Ok.ensures.more.0 (ahead_now g c).are c.in-Ok.ensures.more.1 c.loop-ended.invariant.within (c.in-Ok.ensures.there c.if-ended.false)

row_is : (g : given.Over) (c : In_ok-take_inside g) → c.row.result.now ≡ row_of c.args.flow.now.main (step g c).solid
row_is g c = page_row c.args.faces.now c.args.flow.now.main c.args.frame.width c.take_inside.new.lines.kept c.args.from.at c.read.new.self (ahead_now g c) c.loop-ended.count (step g c).solid c.row.result.now (step g c).at c.row.ensures

views_now : (g : given.Over) (c : In_ok-take_inside g) → page_views c.read.new.self (c.loop-ended.count + 1) ≡ page_views c.loop-ended.ahead c.loop-ended.count ++ (step g c).solid ∷ []
views_now g c = (step g c).now

old_size : (g : given.Over) (c : In_ok-take_inside g) → length (page_views c.loop-ended.ahead c.loop-ended.count) ≡ c.loop-ended.count
old_size g c = length-take-le c.loop-ended.count (page_of c.loop-ended.ahead) c.loop-ended.invariant.within

now_within : (g : given.Over) (c : In_ok-take_inside g) → c.loop-ended.count + 1 ≤ length (page_of c.read.new.self)
now_within g c = let there = c.in-Ok.ensures.there c.if-ended.false in omega (arith, there)

end_now : (g : given.Over) (c : In_ok-take_inside g) → c.end_of-end.result ≡ (step g c).solid.end
end_now g c = c.end_of-end.ensures ∙ (step g c).ends

-- the solids after the first ones are left from there on
goes_on : (g : given.Over) (c : In_ok-take_inside g) (k : ℕ) → k ≤ length (page_of c.read.new.self) → (rest : List SolidView) → IsRemainder c.args.faces.now c.args.flow.now.main c.args.frame.width (end_of c.args.from.at (page_of c.read.new.self) k) rest → IsRemainder c.args.faces.now c.args.flow.now.main c.args.frame.width c.args.from.at (page_views c.read.new.self k ++ rest)
goes_on g c k low rest r = goes_from c.args.faces.now c.args.flow.now.main c.args.frame.width c.take_inside.new.lines.kept c.args.from.at (page_of c.read.new.self) k rest (ahead_now g c).are low r

holds_on : (g : given.Over) (c : In_ok-take_inside g) (k : ℕ) → k ≤ length (page_of c.read.new.self) → Holds c.args.flow.now.main (end_of c.args.from.at (page_of c.read.new.self) k)
holds_on g c k low = ends_hold c.args.faces.now c.args.flow.now.main c.args.frame.width c.take_inside.new.lines.kept c.args.from.at (page_of c.read.new.self) k c.requires.holds (ahead_now g c).are low

some_read : (n : ℕ) → 0 < n → (n == 0) ≡ false
some_read n h = grind (arith, nat_tests)

none_again : (n : ℕ) → (n == 0) ≡ false → 0 < n
none_again n h = grind (arith, nat_tests)

-- how far the solids reach, this one included
views_next_rows : (g : given.Over) (c : In_ok-take_inside g) → rows_of c.args.flow.now.main (page_views c.loop-ended.ahead c.loop-ended.count) ++ c.row.result.now ∷ [] ≡ rows_of c.args.flow.now.main (page_views c.loop-ended.ahead c.loop-ended.count ++ (step g c).solid ∷ [])
views_next_rows g c =
    let t : Tree = c.args.flow.now.main in
    let old : List SolidView = page_views c.loop-ended.ahead c.loop-ended.count in
    ap (λ (r : SolidRow). rows_of t old ++ r ∷ []) (row_is g c) ∙ sym (map-append (row_of t) old ((step g c).solid ∷ []))

height_is : (g : given.Over) (c : In_ok-take_inside g) → to_z w64 (of_z w64 c.args.room.now.height) ≡ c.args.frame.height
height_is g c = let tall : SFits w64 c.args.room.now.height = search rules in to_z-of_z w64 c.args.room.now.height tall ∙ c.requires.height

stacked_on : (g : given.Over) (c : In_ok-take_inside g) → IsStacked c.args.from.kept c.args.frame.height (rows_of c.args.flow.now.main (page_views c.loop-ended.ahead c.loop-ended.count ++ (step g c).solid ∷ [])) c.take.new.self
stacked_on g c =
    let rows : List SolidRow = rows_of c.args.flow.now.main (page_views c.loop-ended.ahead c.loop-ended.count) in
    let took : (z : ℤ) (k : Bool) → c.args.room.now.height ≡ z → c.args.room.now.kept ≡ k → IsStacked k z rows c.loop-ended.look → IsStacked k z (rows ++ c.row.result.now ∷ []) c.take.new.self =
    λ z k same is. subst (λ (x : ℤ). IsStacked k x rows c.loop-ended.look → IsStacked k x (rows ++ c.row.result.now ∷ []) c.take.new.self) same
    (subst (λ (b : Bool). IsStacked b c.args.room.now.height rows c.loop-ended.look → IsStacked b c.args.room.now.height (rows ++ c.row.result.now ∷ []) c.take.new.self) is (c.take.ensures.stacked rows)) in
    subst (λ (rs : List SolidRow). IsStacked c.args.from.kept c.args.frame.height rs c.take.new.self) (views_next_rows g c)
    (took c.args.frame.height c.args.from.kept c.requires.height c.requires.kept c.loop-ended.invariant.stacked)

rows_count : (t : Tree) (old : List SolidView) (s : SolidView) → length (rows_of t (old ++ s ∷ [])) ≡ suc (length old)
rows_count t old s = let n = length-append old (s ∷ []) in length-map (old ++ s ∷ []) (row_of t) ∙ (let m : length (old ++ s ∷ []) ≡ suc (length old) = omega (arith, n) in m)

frees_next : (g : given.Over) (c : In_ok-take_inside g) → c.ends_page-ends.result ≡ false → AreFree (rows_of c.args.flow.now.main (page_views c.loop-ended.ahead c.loop-ended.count ++ (step g c).solid ∷ []))
frees_next g c on =
    let size = old_size g c in
    views_free c.args.flow.now.main (page_views c.loop-ended.ahead c.loop-ended.count) (step g c).solid c.loop-ended.invariant.free
    (λ h. ap (λ (r : SolidRow). r.seam.forced) (sym (row_is g c)) ∙ c.ends_page-ends.ensures.free on (some_read c.loop-ended.count (omega (arith, h, size))))

frees : (g : given.Over) (c : In_ok-take_inside g) → c.ends_page-ends.result ≡ false → AreFree (rows_of c.args.flow.now.main (page_views c.read.new.self (c.loop-ended.count + 1)))
frees g c on = subst (λ (vs : List SolidView). AreFree (rows_of c.args.flow.now.main vs)) (sym (views_now g c)) (frees_next g c on)

forced_next : (g : given.Over) (c : In_ok-take_inside g) → c.ends_page-ends.result ≡ true → HasForced (rows_of c.args.flow.now.main (page_views c.loop-ended.ahead c.loop-ended.count ++ (step g c).solid ∷ []))
forced_next g c e =
    let size = old_size g c in
    let ends = c.ends_page-ends.ensures.forced e in
    let before = none_again c.loop-ended.count ends.0 in
    views_forced c.args.flow.now.main (page_views c.loop-ended.ahead c.loop-ended.count) (step g c).solid (omega (arith, size, before)) (ap (λ (r : SolidRow). is_some r.seam.forced) (sym (row_is g c)) ∙ ends.1)

stacked_z : (g : given.Over) (c : In_ok-take_inside g) → IsStacked c.args.from.kept (to_z w64 (of_z w64 c.args.room.now.height)) (rows_of c.args.flow.now.main (page_views c.loop-ended.ahead c.loop-ended.count ++ (step g c).solid ∷ [])) c.take.new.self
stacked_z g c = subst (λ (z : ℤ). IsStacked c.args.from.kept z (rows_of c.args.flow.now.main (page_views c.loop-ended.ahead c.loop-ended.count ++ (step g c).solid ∷ [])) c.take.new.self) (sym (height_is g c)) (stacked_on g c)

reads_end : (g : given.Over) (c : In_ok-take_inside g) → c.reads_notes-inside.result ≡ true → (at : Position) (parts : List Carried) (ends : List Position) → AreRead c.args.faces.now c.args.flow.now c.args.frame at parts ends c.loop-ended.notes → AreRead c.args.faces.now c.args.flow.now c.args.frame at parts (ends ++ (step g c).solid.end ∷ []) c.take_inside.new.self
reads_end g c inside at parts ends r = subst (λ (p : Position). AreRead c.args.faces.now c.args.flow.now c.args.frame at parts (ends ++ p ∷ []) c.take_inside.new.self) (end_now g c) (c.in_ok-take_inside.ensures.read inside at parts ends r)

abbrev extent_next : (g : given.Over) → In_ok-take_inside g → ℤ
extent_next g c = rows_extent c.args.from.kept (rows_of c.args.flow.now.main (page_views c.loop-ended.ahead c.loop-ended.count ++ (step g c).solid ∷ [])) (suc (length (page_views c.loop-ended.ahead c.loop-ended.count)))

inside_yes : (g : given.Over) (c : In_ok-take_inside g) → c.reads_notes-inside.result ≡ true → AreFree (rows_of c.args.flow.now.main (page_views c.loop-ended.ahead c.loop-ended.count ++ (step g c).solid ∷ [])) × (extent_next g c ≤ℤ c.args.frame.height)
inside_yes g c e =
    let kept : Bool = c.args.from.kept in
    let old : List SolidView = page_views c.loop-ended.ahead c.loop-ended.count in
    let rows : List SolidRow = rows_of c.args.flow.now.main (old ++ (step g c).solid ∷ []) in
    let h = c.reads_notes-inside.ensures.inside e in (
      frees_next g c h.0,
      subst (λ (n : ℕ). rows_extent kept rows n ≤ℤ c.args.frame.height) (rows_count c.args.flow.now.main old ((step g c).solid))
          (subst (λ (z : ℤ). rows_extent kept rows (length rows) ≤ℤ z) (height_is g c) (h.1 kept rows (stacked_z g c))),
    )

inside_no : (g : given.Over) (c : In_ok-take_inside g) → c.reads_notes-inside.result ≡ false → HasForced (rows_of c.args.flow.now.main (page_views c.loop-ended.ahead c.loop-ended.count ++ (step g c).solid ∷ [])) ⊎ (c.args.frame.height <ℤ extent_next g c)
inside_no g c e =
    let kept : Bool = c.args.from.kept in
    let old : List SolidView = page_views c.loop-ended.ahead c.loop-ended.count in
    let rows : List SolidRow = rows_of c.args.flow.now.main (old ++ (step g c).solid ∷ []) in
    ⊎_elim
    (λ (ends : c.ends_page-ends.result ≡ true). inl (forced_next g c ends))
    (λ (over : (k : Bool) (rs : List SolidRow) → IsStacked k (to_z w64 (of_z w64 c.args.room.now.height)) rs c.take.new.self → to_z w64 (of_z w64 c.args.room.now.height) <ℤ rows_extent k rs (length rs)). inr
    (subst (λ (n : ℕ). c.args.frame.height <ℤ rows_extent kept rows n) (rows_count c.args.flow.now.main old ((step g c).solid))
    (subst (λ (z : ℤ). z <ℤ rows_extent kept rows (length rows)) (height_is g c) (over kept rows (stacked_z g c)))))
    (c.reads_notes-inside.ensures.past e)

reads : (g : given.Over) (c : In_ok-take_inside g) → (carried : List Carried) → AreRead c.args.faces.now c.args.flow.now c.args.frame c.args.from.at carried [] c.args.notes.now →
    AreReadInside c.args.faces.now c.args.flow.now c.args.frame c.args.from carried (page_views c.read.new.self (c.loop-ended.count + 1)) c.take_inside.new.self
reads g c carried r =
    subst (λ (vs : List SolidView). AreReadInside c.args.faces.now c.args.flow.now c.args.frame c.args.from carried vs c.take_inside.new.self) (sym (views_now g c))
    (inside_on c.args.faces.now c.args.flow.now c.args.frame c.args.from carried (page_views c.loop-ended.ahead c.loop-ended.count) c.loop-ended.notes (c.loop-ended.invariant.are carried r) c.loop-ended.invariant.free ((step g c).solid) c.take_inside.new.self c.reads_notes-inside.result (inside_yes g c) (inside_no g c) (reads_end g c) c.in_ok-take_inside.ensures.same)

owns : (g : given.Over) (c : In_ok-take_inside g) → c.take_inside.new.self.list.own ≡ c.args.notes.now.list.own
owns g c = c.in_ok-take_inside.ensures.own ∙ c.loop-ended.invariant.own

looks : (g : given.Over) (c : In_ok-take_inside g) → LooksOn c.args.from.kept c.args.frame.height c.args.notes.now.list.own c.take_inside.new.self.areas.items c.args.room.now.carried c.args.flow.now.main (page_views c.read.new.self (c.loop-ended.count + 1)) c.take.new.self
looks g c =
    let t : Tree = c.args.flow.now.main in
    let kept : Bool = c.args.from.kept in
    let own : ℕ = c.args.notes.now.list.own in
    let carried : ℤ = c.args.room.now.carried in
    let old : List SolidView = page_views c.loop-ended.ahead c.loop-ended.count in
    let read = c.loop-ended.invariant.are c.requires.read.0 c.requires.read.1 in
    let fits : SFits w64 c.area.result = search rules in
    let area : ℤ = to_z w64 (of_z w64 c.area.result) in
    let area_is : area ≡ area_after c.loop-ended.notes.areas.items (length c.loop-ended.notes.areas.items) = to_z-of_z w64 c.area.result fits ∙ c.area.ensures.area in
    let took : (rows : List SolidRow) (list : NoteLists) (n : ℕ) → (0 < length rows → rows_extent kept rows (length rows) ≤ℤ c.args.frame.height → AreTold c.args.frame.height list n (length rows) area carried) → IsLook kept c.args.frame.height list n rows c.loop-ended.look → IsLook kept c.args.frame.height list n (rows ++ c.row.result.now ∷ []) c.take.new.self =
    subst (λ (z : ℤ). (rows : List SolidRow) (list : NoteLists) (n : ℕ) → (0 < length rows → rows_extent kept rows (length rows) ≤ℤ z → AreTold z list n (length rows) area carried) → IsLook kept z list n rows c.loop-ended.look → IsLook kept z list n (rows ++ c.row.result.now ∷ []) c.take.new.self) c.requires.height
    (subst (λ (k : Bool). (rows : List SolidRow) (list : NoteLists) (n : ℕ) → (0 < length rows → rows_extent k rows (length rows) ≤ℤ c.args.room.now.height → AreTold c.args.room.now.height list n (length rows) area carried) → IsLook k c.args.room.now.height list n rows c.loop-ended.look → IsLook k c.args.room.now.height list n (rows ++ c.row.result.now ∷ []) c.take.new.self) c.requires.kept c.take.ensures.look) in
    let same = areas_on c.args.faces.now c.args.flow.now c.args.frame c.args.from c.requires.read.0 old c.loop-ended.notes read c.loop-ended.invariant.free ((step g c).solid) c.take_inside.new.self c.reads_notes-inside.result (inside_yes g c) c.in_ok-take_inside.ensures.areas c.in_ok-take_inside.ensures.same in
    let more : LooksOn kept c.args.frame.height own c.take_inside.new.self.areas.items carried t (old ++ (step g c).solid ∷ []) c.take.new.self =
    look_on t kept c.args.frame.height own c.loop-ended.notes.areas.items c.take_inside.new.self.areas.items area carried old ((step g c).solid) c.loop-ended.look c.take.new.self c.row.result.now (row_is g c) c.loop-ended.invariant.free same (λ inside. area_is ∙ inside_last c.args.faces.now c.args.flow.now c.args.frame c.args.from c.requires.read.0 old c.loop-ended.notes read c.loop-ended.invariant.free inside) took c.loop-ended.invariant.look in
    subst (λ (vs : List SolidView). LooksOn kept c.args.frame.height own c.take_inside.new.self.areas.items carried t vs c.take.new.self) (sym (views_now g c)) more

-- no more is read than may be
shorts : (g : given.Over) (c : In_ok-take_inside g) → IsShort c.args.from.kept c.args.frame.height (most_widows c.args.flow.now.main) (rows_of c.args.flow.now.main (page_views c.read.new.self (c.loop-ended.count + 1))) c.take.new.self
shorts g c =
    let t : Tree = c.args.flow.now.main in
    let widest : ℕ = most_widows t in
    let old : List SolidView = page_views c.loop-ended.ahead c.loop-ended.count in
    let rows : List SolidRow = rows_of t old in
    let few : c.row.result.now.widows ≤ widest = subst (λ (q : SolidRow). q.widows ≤ widest) (sym (row_is g c)) (row_widows t ((step g c).solid)) in
    let took : (z : ℤ) (k : Bool) → c.args.room.now.height ≡ z → c.args.room.now.kept ≡ k → IsStacked k z rows c.loop-ended.look → IsShort k z widest rows c.loop-ended.look → IsShort k z widest (rows ++ c.row.result.now ∷ []) c.take.new.self =
    λ z k same is. subst (λ (x : ℤ). IsStacked k x rows c.loop-ended.look → IsShort k x widest rows c.loop-ended.look → IsShort k x widest (rows ++ c.row.result.now ∷ []) c.take.new.self) same
    (subst (λ (b : Bool). IsStacked b c.args.room.now.height rows c.loop-ended.look → IsShort b c.args.room.now.height widest rows c.loop-ended.look → IsShort b c.args.room.now.height widest (rows ++ c.row.result.now ∷ []) c.take.new.self) is (λ p q. c.take.ensures.short rows widest p few c.loop-ended.invariant.more q)) in
    subst (λ (vs : List SolidView). IsShort c.args.from.kept c.args.frame.height widest (rows_of t vs) c.take.new.self) (sym (views_now g c))
    (subst (λ (rs : List SolidRow). IsShort c.args.from.kept c.args.frame.height widest rs c.take.new.self) (views_next_rows g c)
    (took c.args.frame.height c.args.from.kept c.requires.height c.requires.kept c.loop-ended.invariant.stacked c.loop-ended.invariant.short))

-- what is held once the solid and its notes are read
solid_keeps : (g : given.Over) (c : In_ok-take_inside g) → KeepsHeld c.args.lines.now.kept c.read.new.lines.kept
solid_keeps g c = keeps_twice c.args.lines.now.kept c.loop-ended.lines.kept c.read.new.lines.kept c.loop-ended.invariant.keeps c.read.ensures.keeps

lines_on : (g : given.Over) (c : In_ok-take_inside g) → StepsForPage c.args.flow.now c.args.frame.width c.args.lines.now.kept (page_views c.read.new.self (c.loop-ended.count + 1)) c.args.notes.now.list.solids.items c.take_inside.new.self.list.solids.items c.args.steps.now c.take_inside.new.steps
lines_on g c known held =
    let t : Tree = c.args.flow.now.main in
    let width : ℤ = c.args.frame.width in
    let old : List SolidView = page_views c.loop-ended.ahead c.loop-ended.count in
    let s : SolidView = (step g c).solid in
    let asks : AsksBy s.kind t width s c.loop-ended.lines.kept c.read.new.lines.kept c.loop-ended.steps c.read.new.steps =
    subst (λ (w : ℤ). AsksBy s.kind t w s c.loop-ended.lines.kept c.read.new.lines.kept c.loop-ended.steps c.read.new.steps) c.loop-ended.invariant.ahead.wide
    (subst (λ (o : Option SolidView). AsksNext t c.loop-ended.ahead.width o c.loop-ended.lines.kept c.read.new.lines.kept c.loop-ended.steps c.read.new.steps) (step g c).at c.in-Ok.ensures.asks) in
    let taken : c.read.new.steps ≤ c.loop-ended.steps + steps_of s = subst (λ (o : Option SolidView). MatchOption o (c.read.new.steps ≡ c.loop-ended.steps) (λ x. c.read.new.steps ≤ c.loop-ended.steps + steps_of x)) (step g c).at c.in-Ok.ensures.step in
    let was = c.loop-ended.invariant.lines known held in
    let step = asks_new known t width s c.args.lines.now.kept c.loop-ended.lines.kept c.read.new.lines.kept c.loop-ended.steps c.read.new.steps held c.loop-ended.invariant.keeps asks taken in
    let noted = c.in_ok-take_inside.ensures.lines known (known_more known c.args.lines.now.kept c.read.new.lines.kept held (solid_keeps g c)) in
    let next : new_in known t width (page_views c.read.new.self (c.loop-ended.count + 1)) ≡ new_in known t width old + new_of known t width s = ap (new_in known t width) (views_now g c) ∙ sum_by_push (new_of known t width) old s in
    omega (arith, was, step, noted, next)

keeps_on : (g : given.Over) (c : In_ok-take_inside g) → KeepsHeld c.args.lines.now.kept c.take_inside.new.lines.kept
keeps_on g c = keeps_twice c.args.lines.now.kept c.read.new.lines.kept c.take_inside.new.lines.kept (solid_keeps g c) c.take_inside.ensures.keeps

takes_on : (g : given.Over) (c : In_ok-take_inside g) → TakesSteps c.args.lines.now.kept c.take_inside.new.lines.kept c.args.steps.now c.take_inside.new.steps
takes_on g c =
    let old = c.args.lines.now.kept in
    let at = c.loop-ended.lines.kept in
    let mid = c.read.new.lines.kept in
    takes_twice old mid c.take_inside.new.lines.kept c.args.steps.now c.read.new.steps c.take_inside.new.steps (solid_keeps g c) c.take_inside.ensures.keeps
    (takes_twice old at mid c.args.steps.now c.loop-ended.steps c.read.new.steps c.loop-ended.invariant.keeps c.read.ensures.keeps c.loop-ended.invariant.takes c.in-Ok.ensures.takes)
    c.in_ok-take_inside.ensures.takes

noted_on : (g : given.Over) (c : In_ok-take_inside g) → AreHeldNow c.args.flow.now.notes c.args.frame.width c.args.lines.now.kept c.args.notes.now.list.solids.items → AreHeldNow c.args.flow.now.notes c.args.frame.width c.take_inside.new.lines.kept c.take_inside.new.self.list.solids.items
noted_on g c h = c.in_ok-take_inside.ensures.now (held_more c.args.flow.now.notes c.args.frame.width c.loop-ended.lines.kept c.read.new.lines.kept c.loop-ended.notes.list.solids.items c.read.ensures.keeps (c.loop-ended.invariant.noted h))

-- ---- lines that are passed
passed : (g : given.Over) (c : After-pass-count g) → IsPassed c.args.flow.now.main c.read.new.self (c.loop-ended.count + 1) c.pass-count.result
passed g c =
    passed_is c.args.faces.now c.args.flow.now.main c.args.frame.width c.take_inside.new.lines.kept c.args.from.at c.read.new.self (ahead_pass g c) (c.loop-ended.count + 1) c.joined_at.result c.pass-count.result c.joined_at.ensures.within c.pass-count.ensures.few c.joined_at.ensures.joined
  where
    ahead_pass : (g : given.Over) (c : After-pass-count g) → IsPageAhead c.args.faces.now c.args.flow.now.main c.args.frame.width c.take_inside.new.lines.kept c.args.from.at c.read.new.self
    ahead_pass g c =
        page_on c.args.faces.now c.args.flow.now.main c.args.frame.width c.read.new.lines.kept c.take_inside.new.lines.kept c.args.from.at c.read.new.self c.take_inside.ensures.keeps
        (subst (λ (w : ℤ). IsPageAhead c.args.faces.now c.args.flow.now.main w c.read.new.lines.kept c.args.from.at c.read.new.self) c.loop-ended.invariant.ahead.wide c.in-Ok.ensures.ahead)

rows_passed : (g : given.Over) (c : After-pass-count g) → rows_of c.args.flow.now.main (page_views c.read.new.self (c.loop-ended.count + 1 + c.pass-count.result)) ≡ rows_of c.args.flow.now.main (page_views c.read.new.self (c.loop-ended.count + 1)) ++ rows_of c.args.flow.now.main (passed g c).more
rows_passed g c = ap (rows_of c.args.flow.now.main) (passed g c).split ∙ rows_append c.args.flow.now.main (page_views c.read.new.self (c.loop-ended.count + 1)) (passed g c).more

more_size : (g : given.Over) (c : After-pass-count g) → length (rows_of c.args.flow.now.main (passed g c).more) ≡ c.pass-count.result
more_size g c = length-map (passed g c).more (row_of c.args.flow.now.main) ∙ (passed g c).size

looks_past : (g : given.Over) (c : After-pass-count g) → LooksOn c.args.from.kept c.args.frame.height c.args.notes.now.list.own c.take_inside.new.self.areas.items c.args.room.now.carried c.args.flow.now.main (page_views c.read.new.self (c.loop-ended.count + 1)) c.take.new.self → LooksOn c.args.from.kept c.args.frame.height c.args.notes.now.list.own c.take_inside.new.self.areas.items c.args.room.now.carried c.args.flow.now.main (page_views c.read.new.self (c.loop-ended.count + 1 + c.pass-count.result)) c.pass-count.new.self
looks_past g c look =
    let t : Tree = c.args.flow.now.main in
    let old : List SolidView = page_views c.read.new.self (c.loop-ended.count + 1) in
    let p = passed g c in
    subst (λ (vs : List SolidView). LooksOn c.args.from.kept c.args.frame.height c.args.notes.now.list.own c.take_inside.new.self.areas.items c.args.room.now.carried t vs c.pass-count.new.self) (sym p.split)
    (look_past t c.args.from.kept c.args.frame.height c.args.notes.now.list.own c.take_inside.new.self.areas.items c.args.room.now.carried old p.more c.take.new.self c.pass-count.new.self
    (λ list is. c.pass-count.ensures.look c.args.from.kept c.args.frame.height list c.args.notes.now.list.own (rows_of t old) (rows_of t p.more) (more_size g c) p.joined is) look)

short_past : (g : given.Over) (c : After-pass-count g) → IsShort c.args.from.kept c.args.frame.height (most_widows c.args.flow.now.main) (rows_of c.args.flow.now.main (page_views c.read.new.self (c.loop-ended.count + 1))) c.take.new.self → IsShort c.args.from.kept c.args.frame.height (most_widows c.args.flow.now.main) (rows_of c.args.flow.now.main (page_views c.read.new.self (c.loop-ended.count + 1 + c.pass-count.result))) c.pass-count.new.self
short_past g c short =
    let t : Tree = c.args.flow.now.main in
    subst (λ (rs : List SolidRow). IsShort c.args.from.kept c.args.frame.height (most_widows t) rs c.pass-count.new.self) (sym (rows_passed g c))
    (c.pass-count.ensures.short c.args.from.kept c.args.frame.height (most_widows t) (rows_of t (page_views c.read.new.self (c.loop-ended.count + 1))) (rows_of t (passed g c).more) (more_size g c) short)

stacked_past : (g : given.Over) (c : After-pass-count g) → IsStacked c.args.from.kept (to_z w64 (of_z w64 c.args.room.now.height)) (rows_of c.args.flow.now.main (page_views c.read.new.self (c.loop-ended.count + 1))) c.take.new.self → IsStacked c.args.from.kept (to_z w64 (of_z w64 c.args.room.now.height)) (rows_of c.args.flow.now.main (page_views c.read.new.self (c.loop-ended.count + 1 + c.pass-count.result))) c.pass-count.new.self
stacked_past g c stacked =
    let t : Tree = c.args.flow.now.main in
    subst (λ (rs : List SolidRow). IsStacked c.args.from.kept (to_z w64 (of_z w64 c.args.room.now.height)) rs c.pass-count.new.self) (sym (rows_passed g c))
    (c.pass-count.ensures.stacked c.args.from.kept (rows_of t (page_views c.read.new.self (c.loop-ended.count + 1))) (rows_of t (passed g c).more) (more_size g c) stacked)

lines_past : (g : given.Over) (c : After-pass-count g) → StepsForPage c.args.flow.now c.args.frame.width c.args.lines.now.kept (page_views c.read.new.self (c.loop-ended.count + 1)) c.args.notes.now.list.solids.items c.take_inside.new.self.list.solids.items c.args.steps.now c.take_inside.new.steps → StepsForPage c.args.flow.now c.args.frame.width c.args.lines.now.kept (page_views c.read.new.self (c.loop-ended.count + 1 + c.pass-count.result)) c.args.notes.now.list.solids.items c.take_inside.new.self.list.solids.items c.args.steps.now c.take_inside.new.steps
lines_past g c lines known held =
    let t : Tree = c.args.flow.now.main in
    let was = lines known held in
    let more : new_in known t c.args.frame.width (page_views c.read.new.self (c.loop-ended.count + 1 + c.pass-count.result)) ≡ new_in known t c.args.frame.width (page_views c.read.new.self (c.loop-ended.count + 1)) + new_in known t c.args.frame.width (passed g c).more = ap (new_in known t c.args.frame.width) (passed g c).split ∙ sum_by-append (new_of known t c.args.frame.width) (page_views c.read.new.self (c.loop-ended.count + 1)) (passed g c).more in
    omega (arith, was, more)

-- where nothing is passed all stays; else the solids end below the frame
reads_past : (g : given.Over) (c : After-pass-count g) (carried : List Carried) → AreFree (rows_of c.args.flow.now.main (page_views c.read.new.self (c.loop-ended.count + 1))) → IsStacked c.args.from.kept (to_z w64 (of_z w64 c.args.room.now.height)) (rows_of c.args.flow.now.main (page_views c.read.new.self (c.loop-ended.count + 1))) c.take.new.self →
    AreReadInside c.args.faces.now c.args.flow.now c.args.frame c.args.from carried (page_views c.read.new.self (c.loop-ended.count + 1)) c.take_inside.new.self → AreReadInside c.args.faces.now c.args.flow.now c.args.frame c.args.from carried (page_views c.read.new.self (c.loop-ended.count + 1 + c.pass-count.result)) c.take_inside.new.self
reads_past g c carried free stacked r =
    subst (λ (vs : List SolidView). AreReadInside c.args.faces.now c.args.flow.now c.args.frame c.args.from carried vs c.take_inside.new.self) (sym (passed g c).split) (by (passed g c).more (passed g c).size)
  where
    old : List SolidView
    old = page_views c.read.new.self (c.loop-ended.count + 1)

    by : (more : List SolidView) → length more ≡ c.pass-count.result → AreReadInside c.args.faces.now c.args.flow.now c.args.frame c.args.from carried (old ++ more) c.take_inside.new.self
    by [] size = subst (λ (vs : List SolidView). AreReadInside c.args.faces.now c.args.flow.now c.args.frame c.args.from carried vs c.take_inside.new.self) (sym (append-nil old)) r
    by (v ∷ vs) size =
        let tall : SFits w64 c.args.room.now.height = search rules in
        let height : to_z w64 (of_z w64 c.args.room.now.height) ≡ c.args.frame.height = to_z-of_z w64 c.args.room.now.height tall ∙ c.requires.height in
        let over = c.pass-count.ensures.below (omega (arith, size)) c.args.from.kept (rows_of c.args.flow.now.main old) stacked in
        let rows : length (rows_of c.args.flow.now.main old) ≡ length old = length-map old (row_of c.args.flow.now.main) in
        inside_past c.args.faces.now c.args.flow.now c.args.frame c.args.from carried old c.take_inside.new.self r free (v ∷ vs)
        (subst (λ (n : ℕ). c.args.frame.height <ℤ rows_extent c.args.from.kept (rows_of c.args.flow.now.main old) n) rows (subst (λ (z : ℤ). z <ℤ rows_extent c.args.from.kept (rows_of c.args.flow.now.main old) (length (rows_of c.args.flow.now.main old))) height over))

-- ---- requires
pub settle-requires-clause-holds : goal.settle-requires-clause-holds
settle-requires-clause-holds g c = ends_hold c.args.faces.now c.args.flow.now.main c.args.frame.width c.args.lines.now.kept c.args.from.at (page_of c.args.ahead.now) (length (page_of c.args.ahead.now)) c.requires.holds c.requires.ahead_is.are (omega arith)

pub read-requires-clause-page : goal.read-requires-clause-page
read-requires-clause-page g c =
    let t : Tree = c.args.flow.now.main in
    let a : Ahead = c.loop-ended.ahead in
    let is = c.loop-ended.invariant.ahead in
    record {
      low = subst (λ (w : ℤ). pos 0 ≤ℤ w) (sym is.wide) c.requires.frame.width_low;
      high = subst (λ (w : ℤ). w ≤ℤ pos (2 ^ 30)) (sym is.wide) c.requires.frame.width_high;
      are = subst (λ (w : ℤ). IsPageAhead c.args.faces.now t w c.loop-ended.lines.kept c.args.from.at a) (sym is.wide) is;
      widths_is = c.loop-ended.invariant.widths ∙ ap (λ (w : ℤ). widths_at t w (end_of c.args.from.at (page_of a) (length (page_of a)))) (sym is.wide);
    }

pub read-requires-clause-lines : goal.read-requires-clause-lines
read-requires-clause-lines g c = record { kept = c.loop-ended.invariant.kept.kept; placed = c.loop-ended.invariant.kept.main }

pub area-requires : goal.area-requires
area-requires g c = (first_read g (goal.at.area-requires g c).After-row).read.small

pub take_inside-requires-clause-list : goal.take_inside-requires-clause-list
take_inside-requires-clause-list g c =
    let all = (first_read g (goal.at.take_inside-requires-clause-list g c).After-row).read in
    record { ready = all.ready; ends = all.held }

pub take_inside-requires-clause-kept : goal.take_inside-requires-clause-kept
take_inside-requires-clause-kept g c = main_lines c.args.faces.now c.args.flow.now c.loop-ended.lines c.read.new.lines c.loop-ended.invariant.kept c.read.ensures.kept c.read.ensures.places

pub take_inside-requires-clause-holds : goal.take_inside-requires-clause-holds
take_inside-requires-clause-holds g c =
    let s = first_step g (goal.at.take_inside-requires-clause-holds g c).After-row in
    subst (Holds c.args.flow.now.main) (sym (c.end_of-end.ensures ∙ s.ends)) s.read.ends

pub take_inside-requires-clause-called : goal.take_inside-requires-clause-called
take_inside-requires-clause-called g c =
    let s = first_step g (goal.at.take_inside-requires-clause-called g c).After-row in
    subst (λ (p : Position). c.loop-ended.notes.called ≤ called_by c.args.flow.now.main c.args.flow.now.notes p) (sym (c.end_of-end.ensures ∙ s.ends)) (c.loop-ended.invariant.calls s.solid s.is)

pub take-requires-clause-read : goal.take-requires-clause-read
take-requires-clause-read g c =
    let n = few g (goal.at.take-requires-clause-read g c).After-row in
    (reached_low c.loop-ended.count most_entries c.loop-ended.look.reach n c.loop-ended.invariant.read.0, c.loop-ended.invariant.read.1)

pub take-requires-clause-small : goal.take-requires-clause-small
take-requires-clause-small g c =
    let d = (goal.at.take-requires-clause-small g c).After-row in
    let s = (first_step g d).read.small in
    subst IsSmallRow (sym (first_row g d)) (record { kept = s.kept; whole = s.whole; head = s.head; tail = s.tail; height = s.height; some = s.some })

pub loop-ended-init : goal.loop-ended-init
loop-ended-init g c =
    let read = c.requires.read.1 in
    record {
      ahead = c.requires.ahead_is;
      within = omega arith;
      widths = c.settle.ensures ∙ ap (λ (w : ℤ). widths_at c.args.flow.now.main w (end_of c.args.from.at (page_of c.args.ahead.now) (length (page_of c.args.ahead.now)))) c.requires.ahead_is.wide;
      own = refl;
      are = λ carried r. subst (λ (vs : List SolidView). AreReadInside c.args.faces.now c.args.flow.now c.args.frame c.args.from carried vs c.args.notes.now) (sym (none_first (page_of c.args.ahead.now))) (inside_start c.args.faces.now c.args.flow.now c.args.frame c.args.from carried c.args.notes.now c.requires.frame.height_low r);
      calls = λ s is. let low = called_grows c.args.faces.now c.args.flow.now.main c.args.frame.width c.args.from.at s c.count-count.ensures.tree (stands c.args.flow.now.main c.args.from.at c.requires.holds) is c.args.flow.now.notes in let here = read.called in omega arith;
      look = λ list told. subst (λ (vs : List SolidView). IsLook c.args.from.kept c.args.frame.height list c.args.notes.now.list.own (rows_of c.args.flow.now.main vs) c.start-look.result) (sym (none_first (page_of c.args.ahead.now))) (c.start-look.ensures.look c.args.from.kept c.args.frame.height list c.args.notes.now.list.own);
      stacked = inl (subst (λ (vs : List SolidView). HasPlaced c.args.from.kept (rows_of c.args.flow.now.main vs) c.start-look.result) (sym (none_first (page_of c.args.ahead.now))) (c.start-look.ensures.placed c.args.from.kept));
      short = subst (λ (vs : List SolidView). IsShort c.args.from.kept c.args.frame.height (most_widows c.args.flow.now.main) (rows_of c.args.flow.now.main vs) c.start-look.result) (sym (none_first (page_of c.args.ahead.now))) (c.start-look.ensures.short c.args.from.kept c.args.frame.height (most_widows c.args.flow.now.main));
      more = c.start-look.ensures.more;
      listed = λ h. h;
      lines = λ known held. omega arith;
      free = subst (λ (vs : List SolidView). AreFree (rows_of c.args.flow.now.main vs)) (sym (none_first (page_of c.args.ahead.now))) (λ k r e. absurd (cc));
      read = c.start-look.ensures.read;
      kept = c.requires.lines_are;
      keeps = keeps_all c.args.lines.now.kept;
      takes = takes_none c.args.lines.now.kept c.args.lines.now.kept c.args.steps.now;
      noted = λ h. h;
    }
  where
    none_first : (vs : List SolidView) → take 0 vs ≡ []
    none_first [] = refl
    none_first (v ∷ vs) = refl

free_more : (g : given.Over) (c : In_ok-take_inside g) (m : ℕ) → c.ends_page-ends.result ≡ false → IsPassed c.args.flow.now.main c.read.new.self (c.loop-ended.count + 1) m → AreFree (rows_of c.args.flow.now.main (page_views c.read.new.self (c.loop-ended.count + 1 + m)))
free_more g c m on p =
    let t : Tree = c.args.flow.now.main in
    let rest = remainder_exists c.args.faces.now t c.args.frame.width (end_of c.args.from.at (page_of c.read.new.self) (c.loop-ended.count + 1 + m)) c.count-count.ensures.tree (holds_on g c (c.loop-ended.count + 1 + m) p.within) in
    subst (λ (vs : List SolidView). AreFree (rows_of t vs)) (sym p.split)
    (free_past t (page_views c.read.new.self (c.loop-ended.count + 1)) p.more
    (subst (λ (vs : List SolidView). AreForcedBetween (rows_of t vs)) p.split (between c.args.faces.now t c.args.frame c.args.from.at c.args.from.kept 0 [] (pos 0) c.count-count.ensures.tree c.requires.holds (page_views c.read.new.self (c.loop-ended.count + 1 + m)) rest.0 (goes_on g c (c.loop-ended.count + 1 + m) p.within rest.0 rest.1))) p.joined (frees g c on))

-- ---- behind what is passed
pub loop-ended-smaller : goal.loop-ended-smaller
loop-ended-smaller g c =
    let d = (goal.at.loop-ended-smaller g c).In_ok-take_inside in
    let p = passed g (goal.at.loop-ended-smaller g c).After-pass-count in
    let t : Tree = c.args.flow.now.main in
    let s = step g d in
    let was = c.loop-ended.invariant.ahead.are in
    let first = solid_falls c.args.faces.now t c.args.frame.width (end_of c.args.from.at (page_of c.loop-ended.ahead) c.loop-ended.count) s.solid c.count-count.ensures.tree (stands t (end_of c.args.from.at (page_of c.loop-ended.ahead) c.loop-ended.count) (ends_hold c.args.faces.now t c.args.frame.width c.loop-ended.lines.kept c.args.from.at (page_of c.loop-ended.ahead) c.loop-ended.count c.requires.holds was c.loop-ended.invariant.within)) s.is in
    let next : left_from t (end_of c.args.from.at (page_of c.read.new.self) (c.loop-ended.count + 1)) ≡ left_from t s.solid.end = ap (left_from t) s.ends in
    let on = falls_along c.args.faces.now t c.args.frame.width c.take_inside.new.lines.kept c.args.from.at (page_of c.read.new.self) (c.loop-ended.count + 1) (c.loop-ended.count + 1 + c.pass-count.result) c.count-count.ensures.tree c.requires.holds (ahead_now g d).are (omega arith) p.within in
    omega (arith, first, next, on)

pub loop-ended-preserved : goal.loop-ended-preserved
loop-ended-preserved g c =
    let d = (goal.at.loop-ended-preserved g c).In_ok-take_inside in
    let e = (goal.at.loop-ended-preserved g c).After-pass-count in
    let p = passed g e in
    let t : Tree = c.args.flow.now.main in
    let stacked = subst (λ (vs : List SolidView). IsStacked c.args.from.kept (to_z w64 (of_z w64 c.args.room.now.height)) (rows_of t vs) c.take.new.self) (sym (views_now g d)) (stacked_z g d) in
    record {
      ahead = ahead_now g d;
      within = p.within;
      widths = c.in-Ok.ensures.widths ∙ ap (λ (w : ℤ). widths_at t w (end_of c.args.from.at (page_of c.read.new.self) (length (page_of c.read.new.self)))) c.loop-ended.invariant.ahead.wide;
      own = owns g d;
      are = λ carried r. reads_past g e carried (frees g d c.if-ends.false) stacked (reads g d carried r);
      calls = λ s is.
          let here = c.in_ok-take_inside.ensures.called in
          let end = end_now g d in
          let at : c.take_inside.new.self.called ≤ called_by t c.args.flow.now.notes (end_of c.args.from.at (page_of c.read.new.self) (c.loop-ended.count + 1)) = subst (λ (q : Position). c.take_inside.new.self.called ≤ called_by t c.args.flow.now.notes q) c.end_of-end.ensures here in
          let along = calls_along c.args.faces.now t c.args.frame.width c.take_inside.new.lines.kept c.args.from.at (page_of c.read.new.self) (c.loop-ended.count + 1) (c.loop-ended.count + 1 + c.pass-count.result) c.take_inside.new.self.called c.args.flow.now.notes c.count-count.ensures.tree c.requires.holds (ahead_now g d).are (omega arith) p.within at in
          let last = called_on c.args.faces.now t c.args.frame.width (end_of c.args.from.at (page_of c.read.new.self) (c.loop-ended.count + 1 + c.pass-count.result)) s c.count-count.ensures.tree (stands t (end_of c.args.from.at (page_of c.read.new.self) (c.loop-ended.count + 1 + c.pass-count.result)) (holds_on g d (c.loop-ended.count + 1 + c.pass-count.result) p.within)) is c.args.flow.now.notes in
          omega (arith, along, last);
      look = looks_past g e (looks g d);
      stacked = subst (λ (z : ℤ). IsStacked c.args.from.kept z (rows_of t (page_views c.read.new.self (c.loop-ended.count + 1 + c.pass-count.result))) c.pass-count.new.self) (height_is g d) (stacked_past g e stacked);
      short = short_past g e (shorts g d);
      more = c.is_enough.ensures.more c.if-is_enough.false;
      listed = λ h. c.in_ok-take_inside.ensures.short (c.loop-ended.invariant.listed h);
      lines = lines_past g e (lines_on g d);
      free = free_more g d c.pass-count.result c.if-ends.false p;
      read =
          let now = c.pass-count.ensures.read (c.loop-ended.count + 1) (c.take.ensures.read c.loop-ended.count c.loop-ended.invariant.read) in
          (reached_low (c.loop-ended.count + 1) (c.loop-ended.count + 1 + c.pass-count.result) c.pass-count.new.self.reach (omega arith) now.0, now.1);
      kept = c.take_inside.ensures.kept;
      keeps = keeps_on g d;
      takes = takes_on g d;
      noted = noted_on g d;
    }

-- ---- the flow ends
same_end : (g : given.Over) (c : Then-ended g) → c.read.new.self ≡ c.loop-ended.ahead
same_end g c = (c.in-Ok.ensures.none c.if-ended.true).0

pub returns-then-ended-clause-ahead : goal.returns-then-ended-clause-ahead
returns-then-ended-clause-ahead g c = subst (λ (w : ℤ). IsPageAhead c.args.faces.now c.args.flow.now.main w c.read.new.lines.kept c.args.from.at c.read.new.self) c.loop-ended.invariant.ahead.wide c.in-Ok.ensures.ahead

pub returns-then-ended-clause-within : goal.returns-then-ended-clause-within
returns-then-ended-clause-within g c = subst (λ (a : Ahead). c.loop-ended.count ≤ length (page_of a)) (sym (same_end g (goal.at.returns-then-ended-clause-within g c).Then-ended)) c.loop-ended.invariant.within

pub returns-then-ended-clause-read : goal.returns-then-ended-clause-read
returns-then-ended-clause-read g c = λ carried r. subst (λ (a : Ahead). AreReadInside c.args.faces.now c.args.flow.now c.args.frame c.args.from carried (page_views a c.loop-ended.count) c.loop-ended.notes) (sym (same_end g (goal.at.returns-then-ended-clause-read g c).Then-ended)) (c.loop-ended.invariant.are carried r)

pub returns-then-ended-clause-prefix : goal.returns-then-ended-clause-prefix
returns-then-ended-clause-prefix g c =
    let t : Tree = c.args.flow.now.main in
    let xs : List SolidView = page_of c.loop-ended.ahead in
    let end = c.in-Ok.ensures.none c.if-ended.true in
    subst (λ (a : Ahead). IsPagePrefix c.args.faces.now t c.args.frame c.args.from.at c.args.from.kept c.args.notes.now.list.own c.loop-ended.notes.areas.items c.args.room.now.carried (page_views a c.loop-ended.count)) (sym end.0)
    (read_all c.args.faces.now t c.args.frame c.args.from.at c.args.from.kept c.args.notes.now.list.own c.loop-ended.notes.areas.items c.args.room.now.carried c.count-count.ensures.tree c.requires.holds (take c.loop-ended.count xs) (end_of c.args.from.at xs c.loop-ended.count)
    (λ rest r. goes_from c.args.faces.now t c.args.frame.width c.loop-ended.lines.kept c.args.from.at xs c.loop-ended.count rest c.loop-ended.invariant.ahead.are c.loop-ended.invariant.within r) end.1)

pub returns-then-ended-clause-few : goal.returns-then-ended-clause-few
returns-then-ended-clause-few g c =
    let views : List SolidView = page_views c.loop-ended.ahead c.loop-ended.count in
    subst (λ (a : Ahead). AreFewLines c.args.faces.now c.args.flow.now.main c.args.frame c.args.from (page_views a c.loop-ended.count)) (sym (same_end g (goal.at.returns-then-ended-clause-few g c).Then-ended))
    (few_lines c.args.faces.now c.args.flow.now.main c.args.frame c.args.from c.count-count.ensures.tree c.requires.holds views views [] c.loop-ended.look (sym (append-nil views)) (omega arith) c.loop-ended.invariant.free c.loop-ended.invariant.short)

pub returns-then-ended-clause-short : goal.returns-then-ended-clause-short
returns-then-ended-clause-short g c = λ h. c.loop-ended.invariant.listed h

pub returns-then-ended-clause-own : goal.returns-then-ended-clause-own
returns-then-ended-clause-own g c = c.loop-ended.invariant.own

pub returns-then-ended-clause-lines : goal.returns-then-ended-clause-lines
returns-then-ended-clause-lines g c = λ known held.
    let was = c.loop-ended.invariant.lines known held in
    let same : new_in known c.args.flow.now.main c.args.frame.width (page_views c.read.new.self c.loop-ended.count) ≡ new_in known c.args.flow.now.main c.args.frame.width (page_views c.loop-ended.ahead c.loop-ended.count) = ap (λ (a : Ahead). new_in known c.args.flow.now.main c.args.frame.width (page_views a c.loop-ended.count)) (same_end g (goal.at.returns-then-ended-clause-lines g c).Then-ended) in
    let step = c.in-Ok.ensures.last c.if-ended.true in
    omega (arith, was, step, same)

pub returns-then-ended-clause-kept : goal.returns-then-ended-clause-kept
returns-then-ended-clause-kept g c = main_lines c.args.faces.now c.args.flow.now c.loop-ended.lines c.read.new.lines c.loop-ended.invariant.kept c.read.ensures.kept c.read.ensures.places

pub returns-then-ended-clause-keeps : goal.returns-then-ended-clause-keeps
returns-then-ended-clause-keeps g c = keeps_twice c.args.lines.now.kept c.loop-ended.lines.kept c.read.new.lines.kept c.loop-ended.invariant.keeps c.read.ensures.keeps

pub returns-then-ended-clause-takes : goal.returns-then-ended-clause-takes
returns-then-ended-clause-takes g c = takes_twice c.args.lines.now.kept c.loop-ended.lines.kept c.read.new.lines.kept c.args.steps.now c.loop-ended.steps c.read.new.steps c.loop-ended.invariant.keeps c.read.ensures.keeps c.loop-ended.invariant.takes c.in-Ok.ensures.takes

pub returns-then-ended-clause-noted : goal.returns-then-ended-clause-noted
returns-then-ended-clause-noted g c h = held_more c.args.flow.now.notes c.args.frame.width c.loop-ended.lines.kept c.read.new.lines.kept c.loop-ended.notes.list.solids.items c.read.ensures.keeps (c.loop-ended.invariant.noted h)

-- ---- a forced seam ends the page
pub returns-then-ends-clause-ahead : goal.returns-then-ends-clause-ahead
returns-then-ends-clause-ahead g c = ahead_now g (goal.at.returns-then-ends-clause-ahead g c).In_ok-take_inside

pub returns-then-ends-clause-keeps : goal.returns-then-ends-clause-keeps
returns-then-ends-clause-keeps g c = keeps_on g (goal.at.returns-then-ends-clause-keeps g c).In_ok-take_inside

pub returns-then-ends-clause-takes : goal.returns-then-ends-clause-takes
returns-then-ends-clause-takes g c = takes_on g (goal.at.returns-then-ends-clause-takes g c).In_ok-take_inside

pub returns-then-ends-clause-noted : goal.returns-then-ends-clause-noted
returns-then-ends-clause-noted g c = noted_on g (goal.at.returns-then-ends-clause-noted g c).In_ok-take_inside

pub returns-then-ends-clause-own : goal.returns-then-ends-clause-own
returns-then-ends-clause-own g c = owns g (goal.at.returns-then-ends-clause-own g c).In_ok-take_inside

pub returns-then-ends-clause-short : goal.returns-then-ends-clause-short
returns-then-ends-clause-short g c = λ h. c.in_ok-take_inside.ensures.short (c.loop-ended.invariant.listed h)

pub returns-then-ends-clause-within : goal.returns-then-ends-clause-within
returns-then-ends-clause-within g c = now_within g (goal.at.returns-then-ends-clause-within g c).In_ok-take_inside

pub returns-then-ends-clause-read : goal.returns-then-ends-clause-read
returns-then-ends-clause-read g c = reads g (goal.at.returns-then-ends-clause-read g c).In_ok-take_inside

pub returns-then-ends-clause-lines : goal.returns-then-ends-clause-lines
returns-then-ends-clause-lines g c = lines_on g (goal.at.returns-then-ends-clause-lines g c).In_ok-take_inside

pub returns-then-ends-clause-few : goal.returns-then-ends-clause-few
returns-then-ends-clause-few g c =
    let d = (goal.at.returns-then-ends-clause-few g c).In_ok-take_inside in
    few_lines c.args.faces.now c.args.flow.now.main c.args.frame c.args.from c.count-count.ensures.tree c.requires.holds (page_views c.read.new.self (c.loop-ended.count + 1)) (page_views c.loop-ended.ahead c.loop-ended.count) ((step g d).solid ∷ []) c.take.new.self (views_now g d) (omega arith) c.loop-ended.invariant.free (shorts g d)

pub returns-then-ends-clause-prefix : goal.returns-then-ends-clause-prefix
returns-then-ends-clause-prefix g c =
    let d = (goal.at.returns-then-ends-clause-prefix g c).In_ok-take_inside in
    let t : Tree = c.args.flow.now.main in
    let views : List SolidView = page_views c.read.new.self (c.loop-ended.count + 1) in
    let some : 0 < length views = rw (views_now g d, length-append) (omega arith) in
    read_forced c.args.faces.now t c.args.frame c.args.from.at c.args.from.kept c.args.notes.now.list.own c.take_inside.new.self.areas.items c.args.room.now.carried c.count-count.ensures.tree c.requires.holds views (end_of c.args.from.at (page_of c.read.new.self) (c.loop-ended.count + 1)) (holds_on g d (c.loop-ended.count + 1) (now_within g d)) (goes_on g d (c.loop-ended.count + 1) (now_within g d)) some
    (subst (λ (vs : List SolidView). HasForced (rows_of t vs)) (sym (views_now g d)) (forced_next g d c.if-ends.true))

-- ---- enough is read
pub returns-then-is_enough-clause-ahead : goal.returns-then-is_enough-clause-ahead
returns-then-is_enough-clause-ahead g c = ahead_now g (goal.at.returns-then-is_enough-clause-ahead g c).In_ok-take_inside

pub returns-then-is_enough-clause-keeps : goal.returns-then-is_enough-clause-keeps
returns-then-is_enough-clause-keeps g c = keeps_on g (goal.at.returns-then-is_enough-clause-keeps g c).In_ok-take_inside

pub returns-then-is_enough-clause-takes : goal.returns-then-is_enough-clause-takes
returns-then-is_enough-clause-takes g c = takes_on g (goal.at.returns-then-is_enough-clause-takes g c).In_ok-take_inside

pub returns-then-is_enough-clause-noted : goal.returns-then-is_enough-clause-noted
returns-then-is_enough-clause-noted g c = noted_on g (goal.at.returns-then-is_enough-clause-noted g c).In_ok-take_inside

pub returns-then-is_enough-clause-own : goal.returns-then-is_enough-clause-own
returns-then-is_enough-clause-own g c = owns g (goal.at.returns-then-is_enough-clause-own g c).In_ok-take_inside

pub returns-then-is_enough-clause-short : goal.returns-then-is_enough-clause-short
returns-then-is_enough-clause-short g c = λ h. c.in_ok-take_inside.ensures.short (c.loop-ended.invariant.listed h)

pub returns-then-is_enough-clause-within : goal.returns-then-is_enough-clause-within
returns-then-is_enough-clause-within g c = (passed g (goal.at.returns-then-is_enough-clause-within g c).After-pass-count).within

pub returns-then-is_enough-clause-read : goal.returns-then-is_enough-clause-read
returns-then-is_enough-clause-read g c = λ carried r.
    let d = (goal.at.returns-then-is_enough-clause-read g c).In_ok-take_inside in
    reads_past g (goal.at.returns-then-is_enough-clause-read g c).After-pass-count carried (frees g d c.if-ends.false) (subst (λ (vs : List SolidView). IsStacked c.args.from.kept (to_z w64 (of_z w64 c.args.room.now.height)) (rows_of c.args.flow.now.main vs) c.take.new.self) (sym (views_now g d)) (stacked_z g d)) (reads g d carried r)

pub returns-then-is_enough-clause-lines : goal.returns-then-is_enough-clause-lines
returns-then-is_enough-clause-lines g c = lines_past g (goal.at.returns-then-is_enough-clause-lines g c).After-pass-count (lines_on g (goal.at.returns-then-is_enough-clause-lines g c).In_ok-take_inside)

pub returns-then-is_enough-clause-few : goal.returns-then-is_enough-clause-few
returns-then-is_enough-clause-few g c =
    let d = (goal.at.returns-then-is_enough-clause-few g c).In_ok-take_inside in
    let e = (goal.at.returns-then-is_enough-clause-few g c).After-pass-count in
    let views : List SolidView = page_views c.read.new.self (c.loop-ended.count + 1 + c.pass-count.result) in
    few_lines c.args.faces.now c.args.flow.now.main c.args.frame c.args.from c.count-count.ensures.tree c.requires.holds views views [] c.pass-count.new.self (sym (append-nil views)) (omega arith) (free_more g d c.pass-count.result c.if-ends.false (passed g e)) (short_past g e (shorts g d))

pub returns-then-is_enough-clause-prefix : goal.returns-then-is_enough-clause-prefix
returns-then-is_enough-clause-prefix g c =
    let d = (goal.at.returns-then-is_enough-clause-prefix g c).In_ok-take_inside in
    let e = (goal.at.returns-then-is_enough-clause-prefix g c).After-pass-count in
    let t : Tree = c.args.flow.now.main in
    let k : ℕ = c.loop-ended.count + 1 + c.pass-count.result in
    let views : List SolidView = page_views c.read.new.self k in
    let p = passed g e in
    let size : length views ≡ k = length-take-le k (page_of c.read.new.self) p.within in
    read_missed c.args.faces.now t c.args.frame c.args.from.at c.args.from.kept c.args.notes.now.list.own c.take_inside.new.self.areas.items c.args.room.now.carried c.count-count.ensures.tree c.requires.holds c.requires.frame.width_low views (end_of c.args.from.at (page_of c.read.new.self) k) (holds_on g d k p.within) (goes_on g d k p.within) (omega (arith, size)) (free_more g d c.pass-count.result c.if-ends.false p)
    (λ list told. c.is_enough.ensures.enough c.if-is_enough.true c.args.from.kept c.args.frame.height list c.args.notes.now.list.own (rows_of t views) (looks_past g e (looks g d) list told))

-- ---- where memory is wanting
pub returns-in_default-clause-kept : goal.returns-in_default-clause-kept
returns-in_default-clause-kept g c = main_lines c.args.faces.now c.args.flow.now c.loop-ended.lines c.read.new.lines c.loop-ended.invariant.kept c.read.ensures.kept c.read.ensures.places

pub returns-in_default-clause-keeps : goal.returns-in_default-clause-keeps
returns-in_default-clause-keeps g c = keeps_twice c.args.lines.now.kept c.loop-ended.lines.kept c.read.new.lines.kept c.loop-ended.invariant.keeps c.read.ensures.keeps

pub returns-in_err-take_inside-clause-keeps : goal.returns-in_err-take_inside-clause-keeps
returns-in_err-take_inside-clause-keeps g c = keeps_twice c.args.lines.now.kept c.read.new.lines.kept c.take_inside.new.lines.kept (keeps_twice c.args.lines.now.kept c.loop-ended.lines.kept c.read.new.lines.kept c.loop-ended.invariant.keeps c.read.ensures.keeps) c.take_inside.ensures.keeps

-- ---- each place is one of those that are read
pub row-requires : goal.row-requires
row-requires g c =
    let there = c.in-Ok.ensures.there c.if-ended.false in
    let size = page_size c.read.new.self in
    let same = rows_size c.args.faces.now c.args.flow.now.main c.loop-ended.ahead.width c.read.new.lines.kept c.args.from.at c.read.new.self c.in-Ok.ensures.ahead in
    omega (arith, there, size, same)

pub end_of-end-requires : goal.end_of-end-requires
end_of-end-requires g c =
    let there = c.in-Ok.ensures.there c.if-ended.false in
    let size = page_size c.read.new.self in
    omega (arith, there, size)

pub joined_at-requires-clause-within : goal.joined_at-requires-clause-within
joined_at-requires-clause-within g c =
    let there = c.in-Ok.ensures.there c.if-ended.false in
    let size = page_size c.read.new.self in
    let same = rows_size c.args.faces.now c.args.flow.now.main c.loop-ended.ahead.width c.read.new.lines.kept c.args.from.at c.read.new.self c.in-Ok.ensures.ahead in
    omega (arith, there, size, same)
