use Rattle.std.proofs.Common.{◌≡◌, ◌<◌, zero, suc, drop, take, ◌+◌, ◌≤◌, ◌++◌, ◌∷◌, [], ℕ, ℤ, true, false, None, List, All, length, map, slice_get, rules, refl, sym, ap, ◌∙◌, subst, arith, to_z, of_z}
use Rattle.std.proofs.lemmas.Int.{ints, to_z-of_z}
use Rattle.std.proofs.lemmas.List.{length-map, length-take-le}
use Rattle.std.proofs.lemmas.List.Elements.{All-nil, All-take}
use mir.Val.{SFits}
use mir.Syntax.{w64}
use Rattle.boxes.specs.Tree.{Holds, Tree}
use Rattle.boxes.specs.declared.flow.Flow.{Flow}
use Rattle.boxes.specs.declared.frames.Frame.{Frame}
use Rattle.boxes.specs.declared.place.Position.{Position}
use Rattle.metrics.specs.Face.{FontFace}
use Rattle.note_list.specs.declared.carried.Carried.{Carried}
use Rattle.note_list.specs.declared.solid.NotedSolid.{NotedSolid}
use Rattle.fragment.specs.declared.page_notes.PageNotes.{PageNotes}
use Rattle.cursor.proofs.AskLemmas.{keeps_twice}
use Rattle.cursor.proofs.StepLemmas.{takes_twice}
use Rattle.cursor.specs.Asks.{IsHeldNow, KeepsHeld, TakesSteps}
use Rattle.cursor.specs.declared.solid.Solid.{Solid}
use Rattle.cursor.specs.Fields.{solid_view}
use Rattle.cursor.specs.Remainder.{SolidView, IsSmallSolid}
use Rattle.cuts.specs.Areas.{AreAreas, AreTold, area_after}
use Rattle.seams.specs.Runs.{solid_after}
use Rattle.notes.specs.Notes.{area_of}
use Rattle.note_list.proofs.KnownLemmas.{known_more}
use Rattle.note_list.specs.Calls.{called_before}
use Rattle.note_list.specs.Known.{StepsForNotes, new_in}
use Rattle.note_list.specs.Lists.{note_rows}
use Rattle.fragment.specs.Ahead.{IsPageAhead, IsReadSolid, page_of, page_views}
use Rattle.fragment.specs.CutsAt.{CutsAt}
use Rattle.fragment.specs.Reads.{AreRead, AreReadInside, IsPagePrefix, StepsForPage, called_by, called_in}
use Rattle.cuts.specs.Prefixes.{AreJoined}
use Rattle.cuts.specs.Rows.{AreForcedBetween}
use Rattle.cuts.specs.declared.row.SolidRow.{SolidRow}
use Rattle.page_list.specs.Cuts.{first_gap, place_after, placed_from, rows_of}
use Rattle.page_list.specs.declared.cut.CutFrom.{CutFrom}
use Rattle.page_list.proofs.InsideLemmas.{flow_inside}
use Rattle.page_list.proofs.ExistLemmas.{called_within}
use Rattle.fragment.proofs.AheadLemmas.{page_on, page_rows_are, page_size, page_views_are, rows_size, stays_ahead}
use Rattle.fragment.proofs.CutLemmas.{called_low, end_cut, flow_cut, none_left, room_is}
use Rattle.fragment.proofs.FlowLemmas.{prefix_between, prefix_few}
use Rattle.fragment.proofs.KeptLemmas.{cut_held}
use Rattle.fragment.proofs.LooksLemmas.{looks_at, looks_end}
use Rattle.fragment.proofs.PlaceLemmas.{by_all}
use Rattle.fragment.proofs.SolidLemmas.{all_views, if_ok, both_ok}
use Rattle.fragment.proofs.next_cut.cut_page.Given as given
use Rattle.fragment.proofs.next_cut.cut_page.Goals as goal
use Rattle.fragment.proofs.next_cut.cut_page.Goals.{In_ok-count, In_ok-cut}

-- the notes that are read with the solids
read : (g : given.Over) (c : In_ok-count g) → AreReadInside c.args.faces.now c.args.flow.now c.args.frame c.args.from c.args.carried (page_views c.prefix.new.ahead c.in_ok-count.count) c.prefix.new.notes
read g c = c.in_ok-count.ensures.read c.args.carried c.in_ok-notes.ensures.read

abbrev room : (g : given.Over) (c : In_ok-count g) → ℤ
room g c = to_z w64 (of_z w64 c.own_area.result)

tells : (g : given.Over) (c : In_ok-count g) → IsPagePrefix c.args.faces.now c.args.flow.now.main c.args.frame c.args.from.at c.args.from.kept c.prefix.new.notes.list.own c.prefix.new.notes.areas.items (room g c) (page_views c.prefix.new.ahead c.in_ok-count.count)
tells g c = subst (λ (n : ℕ). IsPagePrefix c.args.faces.now c.args.flow.now.main c.args.frame c.args.from.at c.args.from.kept n c.prefix.new.notes.areas.items (room g c) (page_views c.prefix.new.ahead c.in_ok-count.count)) (sym c.in_ok-count.ensures.own) c.in_ok-count.ensures.prefix

room_was : (g : given.Over) (c : In_ok-count g) → room g c ≡ area_of (note_rows (read g c).read.own) c.prefix.new.notes.list.own
room_was g c =
    let fits : SFits w64 c.own_area.result = search rules in
    room_is c.args.faces.now c.args.flow.now c.args.frame c.args.from.at c.args.carried [] (map (λ (s : SolidView). s.end) (take (read g c).count (page_views c.prefix.new.ahead c.in_ok-count.count))) c.in_ok-notes.notes c.prefix.new.notes (room g c) c.in_ok-notes.ensures.read (read g c).read c.in_ok-count.ensures.own
    (λ height list is. to_z-of_z w64 c.own_area.result fits ∙ c.own_area.ensures.area height list is)

-- ---- where no solid is left
pub take-requires-clause-list : goal.take-requires-clause-list
take-requires-clause-list g c =
    let all = (read g (goal.at.take-requires-clause-list g c).In_ok-count).read in
    record { ready = all.ready; ends = all.held }

-- nothing is read where nothing is left
empty : (g : given.Over) (c : In_ok-count g) → c.in_ok-count.count ≡ 0 → page_views c.prefix.new.ahead c.in_ok-count.count ≡ []
empty g c e = ap (page_views c.prefix.new.ahead) e ∙ none_first (page_of c.prefix.new.ahead)
  where
    none_first : (vs : List SolidView) → take 0 vs ≡ []
    none_first [] = refl
    none_first (v ∷ vs) = refl

ended : (g : given.Over) (c : In_ok-count g) → c.in_ok-count.count ≡ 0 → solid_after c.args.flow.now.main c.args.from.at.event ≡ None
ended g c e =
    none_left c.args.faces.now c.args.flow.now.main c.args.frame c.args.from.at c.args.from.kept c.prefix.new.notes.list.own c.prefix.new.notes.areas.items (room g c)
    (subst (IsPagePrefix c.args.faces.now c.args.flow.now.main c.args.frame c.args.from.at c.args.from.kept c.prefix.new.notes.list.own c.prefix.new.notes.areas.items (room g c)) (empty g c e) (tells g c))

all_called : (g : given.Over) (c : In_ok-count g) → c.in_ok-count.count ≡ 0 → called_by c.args.flow.now.main c.args.flow.now.notes c.args.from.at ≡ length c.args.flow.now.notes
all_called g c e = by_all c.args.flow.now.main c.args.flow.now.notes c.args.from.at (ended g c e)

none_taken : (vs : List SolidView) (n : ℕ) → vs ≡ [] → take n vs ≡ []
none_taken [] zero e = refl
none_taken [] (suc n) e = refl
none_taken (v ∷ vs) n e = absurd (cc)

-- the notes that are read once all are called
all_read : (faces : List FontFace) (flow : Flow) (frame : Frame) (from : CutFrom) (carried : List Carried) (solids : List SolidView) (p q : PageNotes) → solids ≡ [] →
    ((at : Position) (carried : List Carried) (ends : List Position) → AreRead faces flow frame at carried ends p → AreRead faces flow frame at carried (ends ++ from.at ∷ []) q) → AreReadInside faces flow frame from carried solids p → AreRead faces flow frame from.at carried (from.at ∷ []) q
all_read faces flow frame from carried solids p q e more r =
    subst (λ (vs : List SolidView). AreRead faces flow frame from.at carried (map (λ (s : SolidView). s.end) vs ++ from.at ∷ []) q) (none_taken solids r.count e) (more from.at carried (map (λ (s : SolidView). s.end) (take r.count solids)) r.read)

pub take-requires-clause-called : goal.take-requires-clause-called
take-requires-clause-called g c =
    let d = (goal.at.take-requires-clause-called g c).In_ok-count in
    let all = all_called g d c.if-count-eq0.true in
    let here : c.prefix.new.notes.called ≡ called_before c.args.flow.now.main c.args.flow.now.notes c.args.from.at =
    (read g d).read.called ∙ ap (λ (vs : List SolidView). called_in c.args.flow.now c.args.from.at (map (λ (s : SolidView). s.end) vs) (length (map (λ (s : SolidView). s.end) vs))) (none_taken (page_views c.prefix.new.ahead c.in_ok-count.count) (read g d).count (empty g d c.if-count-eq0.true)) in
    let most = called_within c.args.flow.now.main c.args.flow.now.notes c.args.from.at in
    omega arith

pub cut_end-requires-clause-all : goal.cut_end-requires-clause-all
cut_end-requires-clause-all g c = c.in_ok-take.ensures.called ∙ all_called g (goal.at.cut_end-requires-clause-all g c).In_ok-count c.if-count-eq0.true

pub cut_end-requires-clause-cut : goal.cut_end-requires-clause-cut
cut_end-requires-clause-cut g c =
    let d = (goal.at.cut_end-requires-clause-cut g c).In_ok-count in
    let all = all_read c.args.faces.now c.args.flow.now c.args.frame c.args.from c.args.carried (page_views c.prefix.new.ahead c.in_ok-count.count) c.prefix.new.notes c.take.new.self (empty g d c.if-count-eq0.true) c.in_ok-take.ensures.read (read g d) in
    let low = c.requires.page.frame.height_low in
    let high = c.requires.page.frame.height_high in
    record {
      areas = all.small;
      ready = all.ready;
      ends = all.held;
      carried = c.requires.page.carried.held;
      stands = c.requires.page.stands;
      order = c.requires.page.carried.order;
      before = subst (λ (n : ℕ). All (λ p. p.note < n) c.args.carried) (sym c.in_ok-notes.ensures.read.called) c.requires.page.carried.called;
      count = c.requires.flow.count;
      low = omega (arith, ints);
      high = omega (arith, ints);
    }

pub cut_end-requires-clause-called : goal.cut_end-requires-clause-called
cut_end-requires-clause-called g c =
    let here = c.in_ok-notes.ensures.read.called in
    let most = called_within c.args.flow.now.main c.args.flow.now.notes c.args.from.at in
    omega arith

pub returns-then-count-eq0-clause-cut : goal.returns-then-count-eq0-clause-cut
returns-then-count-eq0-clause-cut g c =
    let d = (goal.at.returns-then-count-eq0-clause-cut g c).In_ok-count in
    let fits : SFits w64 c.own_area.result = search rules in
    let tall : SFits w64 c.args.frame.height = search rules in
    let all = all_read c.args.faces.now c.args.flow.now c.args.frame c.args.from c.args.carried (page_views c.prefix.new.ahead c.in_ok-count.count) c.prefix.new.notes c.take.new.self (empty g d c.if-count-eq0.true) c.in_ok-take.ensures.read (read g d) in
    let was : room g d ≡ area_of (note_rows all.own) c.take.new.self.list.own =
    room_is c.args.faces.now c.args.flow.now c.args.frame c.args.from.at c.args.carried [] (c.args.from.at ∷ []) c.in_ok-notes.notes c.take.new.self (room g d) c.in_ok-notes.ensures.read all (c.in_ok-take.ensures.own ∙ c.in_ok-count.ensures.own)
    (λ height list is. to_z-of_z w64 c.own_area.result fits ∙ c.own_area.ensures.area height list is) in
    let first : c.in_ok-notes.notes.called ≡ called_before c.args.flow.now.main c.args.flow.now.notes c.args.from.at = c.in_ok-notes.ensures.read.called in
    if_ok _ _ c.cut_end.result
    (λ cut is. end_cut c.args.faces.now c.args.flow.now c.args.frame c.args.from c.args.carried c.requires.flow c.requires.page.holds c.requires.page.carried (ended g d c.if-count-eq0.true) c.take.new.self (room g d) all was cut
    (subst (λ (n : ℕ). CutsAt c.args.flow.now c.args.from.kept c.args.frame.height c.args.carried n (λ list. AreTold c.args.frame.height list c.take.new.self.list.own 0 (area_after c.take.new.self.areas.items (length c.take.new.self.areas.items)) (room g d)) c.take.new.self.list [] cut) first
    (subst (λ (z : ℤ). CutsAt c.args.flow.now c.args.from.kept z c.args.carried c.in_ok-notes.notes.called (λ list. AreTold z list c.take.new.self.list.own 0 (area_after c.take.new.self.areas.items (length c.take.new.self.areas.items)) (room g d)) c.take.new.self.list [] cut) (to_z-of_z w64 c.args.frame.height tall) is))) c.cut_end.ensures.cut

pub returns-then-count-eq0-clause-inside : goal.returns-then-count-eq0-clause-inside
returns-then-count-eq0-clause-inside g c = if_ok _ _ c.cut_end.result (λ cut is. flow_inside c.args.faces.now c.args.flow.now c.args.frame c.args.from c.args.carried cut c.requires.flow.main.is c.requires.page.frame.width_low is) (returns-then-count-eq0-clause-cut g c)

-- ---- where some are read
views_size : (g : given.Over) (c : In_ok-count g) → length (page_views c.prefix.new.ahead c.in_ok-count.count) ≡ c.in_ok-count.count
views_size g c = length-take-le c.in_ok-count.count (page_of c.prefix.new.ahead) c.in_ok-count.ensures.within

some_read : (g : given.Over) (c : In_ok-count g) → (c.in_ok-count.count ≡ 0 → ⊥) → 0 < length (page_views c.prefix.new.ahead c.in_ok-count.count)
some_read g c f = by c.in_ok-count.count (views_size g c) f
  where
    by : (n : ℕ) → length (page_views c.prefix.new.ahead c.in_ok-count.count) ≡ n → (n ≡ 0 → ⊥) → 0 < length (page_views c.prefix.new.ahead c.in_ok-count.count)
    by zero size f = absurd (f refl)
    by (suc n) size f = omega (arith, size)

-- what is read of each
reads_are : (g : given.Over) (c : In_ok-count g) → All (IsReadSolid c.args.flow.now.main c.args.frame.width c.prefix.new.lines.kept) (page_views c.prefix.new.ahead c.in_ok-count.count)
reads_are g c = All-take (IsReadSolid c.args.flow.now.main c.args.frame.width c.prefix.new.lines.kept) c.in_ok-count.count (page_of c.prefix.new.ahead) c.in_ok-count.ensures.ahead.are.are

page_fits : (g : given.Over) (c : In_ok-count g) → c.prefix.new.ahead.first + c.in_ok-count.count ≤ length c.prefix.new.ahead.solids.items
page_fits g c =
    let size = page_size c.prefix.new.ahead in
    let low = c.in_ok-count.ensures.within in
    let within = c.in_ok-count.ensures.ahead.within in
    omega (arith, size, low, within)

pub page-solids-requires : goal.page-solids-requires
page-solids-requires g c = page_fits g (goal.at.page-solids-requires g c).In_ok-count

pub page_rows-rows-requires : goal.page_rows-rows-requires
page_rows-rows-requires g c =
    let d = (goal.at.page_rows-rows-requires g c).In_ok-count in
    let size = rows_size c.args.faces.now c.args.flow.now.main c.args.frame.width c.prefix.new.lines.kept c.args.from.at c.prefix.new.ahead c.in_ok-count.ensures.ahead in
    let fits = page_fits g d in
    omega (arith, size, fits)

pub cut_solids-requires-clause-solids : goal.cut_solids-requires-clause-solids
cut_solids-requires-clause-solids g c =
    let d = (goal.at.cut_solids-requires-clause-solids g c).In_ok-count in
    let t : Tree = c.args.flow.now.main in
    let views : List SolidView = page_views c.prefix.new.ahead c.in_ok-count.count in
    let items : List Solid = c.page-solids.result.now in
    let same : map solid_view items ≡ views = ap (λ (xs : List Solid). map solid_view xs) c.page-solids.ensures ∙ page_views_are c.prefix.new.ahead c.in_ok-count.count in
    let size : length (map solid_view items) ≡ length items = length-map items solid_view in
    let all : length (map solid_view items) ≡ length views = ap (λ (vs : List SolidView). length vs) same in
    let some = some_read g d c.if-count-eq0.false in
    let few = prefix_few c.args.faces.now t c.args.frame c.args.from.at c.args.from.kept c.prefix.new.notes.list.own c.prefix.new.notes.areas.items (room g d) c.requires.flow.main.is c.requires.page.holds views (tells g d) c.requires.flow.main.bytes in
    let are = reads_are g d in
    record {
      some = omega (arith, some, size, all);
      few = omega (arith, few, size, all);
      placed = all_views (λ v. Holds t v.placed_at) items (subst (All (λ (v : SolidView). Holds t v.placed_at)) (sym same) (λ k x h. (are k x h).placed));
      small = all_views IsSmallSolid items (subst (All IsSmallSolid) (sym same) (λ k x h. (are k x h).small));
      between = subst (λ (vs : List SolidView). AreForcedBetween (rows_of t vs)) (sym same) (prefix_between c.args.faces.now t c.args.frame c.args.from.at c.args.from.kept c.prefix.new.notes.list.own c.prefix.new.notes.areas.items (room g d) c.requires.flow.main.is c.requires.page.holds views (tells g d));
      rows_are = c.page_rows-rows.ensures ∙ page_rows_are c.args.faces.now t c.args.frame.width c.prefix.new.lines.kept c.args.from.at c.prefix.new.ahead c.in_ok-count.ensures.ahead c.in_ok-count.count ∙ ap (rows_of t) (sym same);
    }

pub cut_solids-requires-clause-cut : goal.cut_solids-requires-clause-cut
cut_solids-requires-clause-cut g c =
    let all = (read g (goal.at.cut_solids-requires-clause-cut g c).In_ok-count).read in
    let low = c.requires.page.frame.height_low in
    let high = c.requires.page.frame.height_high in
    record {
      areas = all.small;
      ready = all.ready;
      ends = all.held;
      carried = c.requires.page.carried.held;
      stands = c.requires.page.stands;
      order = c.requires.page.carried.order;
      before = subst (λ (n : ℕ). All (λ p. p.note < n) c.args.carried) (sym c.in_ok-notes.ensures.read.called) c.requires.page.carried.called;
      count = c.requires.flow.count;
      low = omega (arith, ints);
      high = omega (arith, ints);
    }

pub cut_solids-requires-clause-called : goal.cut_solids-requires-clause-called
cut_solids-requires-clause-called g c j some =
    let d = (goal.at.cut_solids-requires-clause-called g c).In_ok-count in
    let t : Tree = c.args.flow.now.main in
    let views : List SolidView = page_views c.prefix.new.ahead c.in_ok-count.count in
    let same : map solid_view c.page-solids.result.now ≡ views = ap (λ (xs : List Solid). map solid_view xs) c.page-solids.ensures ∙ page_views_are c.prefix.new.ahead c.in_ok-count.count in
    let first : c.in_ok-notes.notes.called ≡ called_before t c.args.flow.now.notes c.args.from.at = c.in_ok-notes.ensures.read.called in
    let low = called_low c.args.faces.now c.args.flow.now c.args.frame c.args.from c.args.carried c.requires.flow c.requires.page.holds c.requires.page.carried views c.prefix.new.notes (room g d) (tells g d) (read g d) (room_was g d) j some in
    subst (λ (vs : List SolidView). c.in_ok-notes.notes.called ≤ called_before t c.args.flow.now.notes (place_after t (slice_get vs j))) (sym same) (omega (arith, first, low))

pub begin-requires : goal.begin-requires
begin-requires g c = rows_size c.args.faces.now c.args.flow.now.main c.args.ahead.now.width c.args.lines.now.kept c.requires.ahead.0 c.args.ahead.now c.requires.ahead.1

pub prefix-requires : goal.prefix-requires
prefix-requires g c =
    let low = c.requires.page.frame.height_low in
    let high = c.requires.page.frame.height_high in
    let tall : SFits w64 c.args.frame.height = omega (arith, ints) in
    let least = c.own_area.ensures.small.low in
    let most = c.own_area.ensures.small.high in
    record {
      flow = c.requires.flow;
      holds = c.requires.page.holds;
      frame = c.requires.page.frame;
      kept = refl;
      height = to_z-of_z w64 c.args.frame.height tall;
      carried = record { low = omega (arith, ints); high = omega (arith, ints) };
      lines_are = c.start.ensures.kept;
      ahead_is = subst (λ (w : ℤ). IsPageAhead c.args.faces.now c.args.flow.now.main w c.start.new.lines.kept c.args.from.at c.begin.new.self) (let wide : SFits w64 c.args.frame.width = search rules in to_z-of_z w64 c.args.frame.width wide)
          (c.begin.ensures c.args.faces.now c.args.flow.now.main c.start.new.lines.kept (stays_ahead c.args.faces.now c.args.flow.now.main c.args.lines.now.kept c.start.new.lines.kept c.args.ahead.now c.start.ensures.keeps c.requires.ahead));
      read = (c.args.carried, c.in_ok-notes.ensures.read);
    }

-- the cut, by the page's solids
views_are : (g : given.Over) (c : In_ok-cut g) → map solid_view c.page-solids.result.now ≡ page_views c.prefix.new.ahead c.in_ok-count.count
views_are g c = ap (λ (xs : List Solid). map solid_view xs) c.page-solids.ensures ∙ page_views_are c.prefix.new.ahead c.in_ok-count.count

pub returns-clause-cut : goal.returns-clause-cut
returns-clause-cut g c =
    let d = (goal.at.returns-clause-cut g c).In_ok-count in
    let tall : SFits w64 c.args.frame.height = search rules in
    let views : List SolidView = page_views c.prefix.new.ahead c.in_ok-count.count in
    let first : c.in_ok-notes.notes.called ≡ called_before c.args.flow.now.main c.args.flow.now.notes c.args.from.at = c.in_ok-notes.ensures.read.called in
    let own = c.prefix.new.notes.list.own in
    let areas = c.prefix.new.notes.areas.items in
    let t : Tree = c.args.flow.now.main in
    flow_cut c.args.faces.now c.args.flow.now c.args.frame c.args.from c.args.carried c.requires.flow c.requires.page.holds c.requires.page.carried views c.prefix.new.notes (room g d) (tells g d) (read g d) (room_was g d) c.requires.page.frame.width_low c.in_ok-cut.cut (some_read g d c.if-count-eq0.false)
    (subst (λ (n : ℕ). CutsAt c.args.flow.now c.args.from.kept c.args.frame.height c.args.carried n (λ list. AreAreas c.args.from.kept (rows_of t views) c.args.frame.height list own areas (room g d)) c.prefix.new.notes.list views c.in_ok-cut.cut) first
    (subst (λ (z : ℤ). CutsAt c.args.flow.now c.args.from.kept z c.args.carried c.in_ok-notes.notes.called (λ list. AreAreas c.args.from.kept (rows_of t views) z list own areas (room g d)) c.prefix.new.notes.list views c.in_ok-cut.cut) (to_z-of_z w64 c.args.frame.height tall)
    (subst (λ (vs : List SolidView). CutsAt c.args.flow.now c.args.from.kept (to_z w64 (of_z w64 c.args.frame.height)) c.args.carried c.in_ok-notes.notes.called (λ list. AreAreas c.args.from.kept (rows_of t vs) (to_z w64 (of_z w64 c.args.frame.height)) list own areas (room g d)) c.prefix.new.notes.list vs c.in_ok-cut.cut) (views_are g (goal.at.returns-clause-cut g c).In_ok-cut) c.in_ok-cut.ensures.cut)))

pub returns-clause-inside : goal.returns-clause-inside
returns-clause-inside g c = flow_inside c.args.faces.now c.args.flow.now c.args.frame c.args.from c.args.carried c.in_ok-cut.cut c.requires.flow.main.is c.requires.page.frame.width_low (returns-clause-cut g c)

-- what is held once the page is read
read_keeps : (g : given.Over) (c : In_ok-count g) → KeepsHeld c.args.lines.now.kept c.prefix.new.lines.kept
read_keeps g c = keeps_twice c.args.lines.now.kept c.start.new.lines.kept c.prefix.new.lines.kept c.start.ensures.keeps c.prefix.ensures.keeps

read_takes : (g : given.Over) (c : In_ok-count g) → TakesSteps c.args.lines.now.kept c.prefix.new.lines.kept c.args.steps.now c.prefix.new.steps
read_takes g c = takes_twice c.args.lines.now.kept c.start.new.lines.kept c.prefix.new.lines.kept c.args.steps.now c.start.new.steps c.prefix.new.steps c.start.ensures.keeps c.prefix.ensures.keeps c.in_ok-notes.ensures.takes c.in_ok-count.ensures.takes

pub returns-clause-keeps : goal.returns-clause-keeps
returns-clause-keeps g c = read_keeps g (goal.at.returns-clause-keeps g c).In_ok-count

pub returns-clause-takes : goal.returns-clause-takes
returns-clause-takes g c = read_takes g (goal.at.returns-clause-takes g c).In_ok-count

pub returns-clause-now : goal.returns-clause-now
returns-clause-now g c =
    let views : List SolidView = page_views c.prefix.new.ahead c.in_ok-count.count in
    let are = reads_are g (goal.at.returns-clause-now g c).In_ok-count in
    let same = views_are g (goal.at.returns-clause-now g c).In_ok-cut in
    let is = c.in_ok-cut.ensures.cut in
    cut_held c.args.flow.now c.args.frame.width c.prefix.new.lines.kept (first_gap c.args.from.kept views) views is.count c.prefix.new.notes.list.solids.items c.in_ok-cut.cut.solids c.in_ok-cut.cut.notes (λ k x h. (are k x h).held)
    (is.solids_is ∙ ap (λ (vs : List SolidView). placed_from (first_gap c.args.from.kept vs) (take is.count vs)) same) (c.in_ok-count.ensures.noted c.in_ok-notes.ensures.now) c.in_ok-cut.ensures.front

pub returns-in_err-cut-clause-keeps : goal.returns-in_err-cut-clause-keeps
returns-in_err-cut-clause-keeps g c = keeps_twice c.args.lines.now.kept c.start.new.lines.kept c.prefix.new.lines.kept c.start.ensures.keeps c.prefix.ensures.keeps

pub returns-then-count-eq0-clause-keeps : goal.returns-then-count-eq0-clause-keeps
returns-then-count-eq0-clause-keeps g c =
    keeps_twice c.args.lines.now.kept c.prefix.new.lines.kept c.take.new.lines.kept (read_keeps g (goal.at.returns-then-count-eq0-clause-keeps g c).In_ok-count) c.take.ensures.keeps

pub returns-then-count-eq0-clause-takes : goal.returns-then-count-eq0-clause-takes
returns-then-count-eq0-clause-takes g c =
    let d = (goal.at.returns-then-count-eq0-clause-takes g c).In_ok-count in
    if_ok _ _ c.cut_end.result
    (λ cut near. takes_twice c.args.lines.now.kept c.prefix.new.lines.kept c.take.new.lines.kept c.args.steps.now c.prefix.new.steps c.take.new.steps (read_keeps g d) c.take.ensures.keeps (read_takes g d) c.in_ok-take.ensures.takes)
    c.cut_end.ensures.near

pub returns-then-count-eq0-clause-now : goal.returns-then-count-eq0-clause-now
returns-then-count-eq0-clause-now g c =
    if_ok _ _ c.cut_end.result
    (λ cut is. cut_held c.args.flow.now c.args.frame.width c.take.new.lines.kept _ [] is.0.count c.take.new.self.list.solids.items cut.solids cut.notes (All-nil (λ (v : SolidView). IsHeldNow c.args.flow.now.main c.args.frame.width c.take.new.lines.kept v.placed_at)) is.0.solids_is (c.in_ok-take.ensures.now (c.in_ok-count.ensures.noted c.in_ok-notes.ensures.now)) is.1)
    (both_ok _ _ c.cut_end.result c.cut_end.ensures.cut c.cut_end.ensures.front)

-- where memory is wanting
pub returns-in_err-count-clause-keeps : goal.returns-in_err-count-clause-keeps
returns-in_err-count-clause-keeps g c = keeps_twice c.args.lines.now.kept c.start.new.lines.kept c.prefix.new.lines.kept c.start.ensures.keeps c.prefix.ensures.keeps

pub returns-in_err-take-clause-keeps : goal.returns-in_err-take-clause-keeps
returns-in_err-take-clause-keeps g c = keeps_twice c.args.lines.now.kept c.prefix.new.lines.kept c.take.new.lines.kept (keeps_twice c.args.lines.now.kept c.start.new.lines.kept c.prefix.new.lines.kept c.start.ensures.keeps c.prefix.ensures.keeps) c.take.ensures.keeps

-- ---- how many lines are looked at
read_steps : (g : given.Over) (c : In_ok-count g) → StepsForPage c.args.flow.now c.args.frame.width c.args.lines.now.kept (page_views c.prefix.new.ahead c.in_ok-count.count) [] c.prefix.new.notes.list.solids.items c.args.steps.now c.prefix.new.steps
read_steps g c known held =
    let start = c.in_ok-notes.ensures.lines known held in
    let more = c.in_ok-count.ensures.lines known (known_more known c.args.lines.now.kept c.start.new.lines.kept held c.start.ensures.keeps) in
    omega (arith, start, more)

pub returns-clause-lines : goal.returns-clause-lines
returns-clause-lines g c =
    let d = (goal.at.returns-clause-lines g c).In_ok-count in
    looks_at c.args.faces.now c.args.flow.now c.args.frame c.args.from c.args.carried c.requires.flow c.requires.page.holds c.requires.page.carried c.requires.page.frame.height_low (page_views c.prefix.new.ahead c.in_ok-count.count) c.prefix.new.notes (room g d) (tells g d) (read g d) (room_was g d)
    c.args.lines.now.kept c.args.steps.now c.prefix.new.steps c.in_ok-count.ensures.few (c.in_ok-count.ensures.short c.in_ok-notes.ensures.short) (read_steps g d)

end_steps : (g : given.Over) (c : In_ok-count g) (list : List NotedSolid) (steps : ℕ) → c.in_ok-count.count ≡ 0 → StepsForNotes c.args.flow.now.notes c.args.frame.width c.prefix.new.lines.kept c.prefix.new.notes.list.solids.items list c.prefix.new.steps steps →
    StepsForPage c.args.flow.now c.args.frame.width c.args.lines.now.kept [] [] list c.args.steps.now steps
end_steps g c list steps none last known held =
    let read = read_steps g c known held in
    let more = last known (known_more known c.args.lines.now.kept c.prefix.new.lines.kept held (read_keeps g c)) in
    let no : new_in known c.args.flow.now.main c.args.frame.width (page_views c.prefix.new.ahead c.in_ok-count.count) ≡ 0 = ap (new_in known c.args.flow.now.main c.args.frame.width) (empty g c none) in
    omega (arith, read, more, no)

pub returns-then-count-eq0-clause-lines : goal.returns-then-count-eq0-clause-lines
returns-then-count-eq0-clause-lines g c =
    let d = (goal.at.returns-then-count-eq0-clause-lines g c).In_ok-count in
    let all = all_read c.args.faces.now c.args.flow.now c.args.frame c.args.from c.args.carried (page_views c.prefix.new.ahead c.in_ok-count.count) c.prefix.new.notes c.take.new.self (empty g d c.if-count-eq0.true) c.in_ok-take.ensures.read (read g d) in
    if_ok _ _ c.cut_end.result
    (λ cut near. looks_end c.args.faces.now c.args.flow.now c.args.frame c.args.from c.args.carried c.requires.flow c.requires.page.holds c.requires.page.carried c.requires.page.frame.height_low (ended g d c.if-count-eq0.true) c.take.new.self all
    c.args.lines.now.kept c.args.steps.now c.take.new.steps (c.in_ok-take.ensures.short (c.in_ok-count.ensures.short c.in_ok-notes.ensures.short)) (end_steps g d c.take.new.self.list.solids.items c.take.new.steps c.if-count-eq0.true c.in_ok-take.ensures.lines))
    c.cut_end.ensures.near

-- ---- what is read ahead of the next page
pub returns-clause-ahead : goal.returns-clause-ahead
returns-clause-ahead g c = c.end.ensures c.args.faces.now c.args.flow.now.main c.args.frame.width c.prefix.new.lines.kept c.args.from.at c.in_ok-count.ensures.ahead

pub returns-then-count-eq0-clause-ahead : goal.returns-then-count-eq0-clause-ahead
returns-then-count-eq0-clause-ahead g c =
    let is = c.in_ok-count.ensures.ahead in
    if_ok _ _ c.cut_end.result
    (λ cut near. (c.args.from.at, subst (λ (w : ℤ). IsPageAhead c.args.faces.now c.args.flow.now.main w c.take.new.lines.kept c.args.from.at c.prefix.new.ahead) (sym is.wide) (page_on c.args.faces.now c.args.flow.now.main c.args.frame.width c.prefix.new.lines.kept c.take.new.lines.kept c.args.from.at c.prefix.new.ahead c.take.ensures.keeps is)))
    c.cut_end.ensures.near

pub cut_solids-requires-clause-joined : goal.cut_solids-requires-clause-joined
cut_solids-requires-clause-joined g c = subst (λ (rs : List SolidRow). AreJoined (drop c.joined_from-joined.result rs)) (sym c.page_rows-rows.ensures) c.joined_from-joined.ensures
