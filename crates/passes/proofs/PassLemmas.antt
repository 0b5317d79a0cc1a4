-- What a pass answers, and what the passes answer after it.
use Rattle.std.proofs.Common.{◌≡◌, ◌≢◌, ◌∙◌, ℕ, zero, suc, ◌+◌, ◌-◌, ◌/◌, ◌<◌, ◌≤◌, List, Some, Err, length, map, option_map, get_or, slice_get, refl, sym, ap, subst, arith, div-le_self}
use Rattle.std.proofs.lemmas.List.{length-map}
use Rattle.std.proofs.lemmas.Option.{slice_get-get_or, slice_get-map}
use Rattle.bk_num.specs.Limits.{most_entries, most_pages, most_text_bytes}
use Rattle.bk_num.specs.declared.ids.NodeId.{NodeId}
use Rattle.boxes.specs.declared.flow.Flow.{Flow}
use Rattle.box_gen.specs.Notes.{bytes_in}
use Rattle.box_gen.specs.declared.inline.BuildErr.{BuildErr}
use Rattle.box_gen.specs.declared.inline.BuildErr.TheVariants as by_build
use Rattle.fragment.specs.declared.paginate.PageErr.{PageErr}
use Rattle.fragment.specs.declared.paginate.PageErr.TheVariants as by_pages
use Rattle.gen_text.specs.References.{AreTargets}
use Rattle.gen_text.specs.declared.table.Entry.{Entry}
use Rattle.boxes.specs.Frames.{IsPerPage, PageFrames}
use Rattle.boxes.specs.declared.page.Page.{Page}
use Rattle.refs.proofs.LawLemmas.{differences, have_nodes}
use Rattle.refs.specs.Differences.{IsFirstDifference}
use Rattle.page_list.specs.Pages.{LeavesSome}
use Rattle.page_seq.specs.FoldLaws.{FoldsKeepAll}
use Rattle.page_seq.specs.Folds.{fold_of}
use Rattle.passes.proofs.TargetLemmas.{targets_within}
use Rattle.passes.specs.declared.pass.Pass.{Pass}
use Rattle.passes.specs.declared.settle.Input.{Input}
use Rattle.passes.specs.declared.settle.PassErr.{PassErr}
use Rattle.passes.specs.declared.settle.PassErr.TheVariants as err
use Rattle.passes.specs.Passes.{IsPass, Shows, IsOpenAfter, settled, settles, differs, too_long, too_many, EndsIn}
use Rattle.passes.specs.Settles.{HasEnd, Settles, work_of}
use Rattle.passes.specs.Stops.{IsNotSettled, Stops, of_build, of_pages}
use Rattle.passes.specs.Work.{Work, IsFlowUnder}

-- ---- the nodes of tables

abbrev pub node_of : Entry → NodeId
node_of e = e.node

shown_nodes : (w : Work) (t u : List Entry) → Shows w t u → map node_of u ≡ w.targets
shown_nodes w t u (flow, pages, is) = ap (map node_of) is.shown ∙ have_nodes.shown flow (fold_of w.per pages) w.targets

-- each table has an entry for each target
pub open_nodes : (w : Work) (k : ℕ) (t : List Entry) → IsOpenAfter w k t → map node_of t ≡ w.targets
open_nodes w zero t is = ap (map node_of) is ∙ have_nodes.opening w.targets
open_nodes w (suc k) t (s, o, shows, other) = shown_nodes w s t shows

pub one_length : (w : Work) (k : ℕ) (t u : List Entry) → IsOpenAfter w k t → Shows w t u → length t ≡ length u
one_length w k t u o shows = sym (length-map t node_of) ∙ ap length (open_nodes w k t o ∙ sym (shown_nodes w t u shows)) ∙ length-map u node_of

-- an entry is of an element of the document
pub entry_within : (input : Input) (frames : PageFrames) (per : ℕ) (targets : List NodeId) (k : ℕ) (t : List Entry) (place : ℕ) (a : Entry) → AreTargets input.dom.now input.styles.now targets → IsOpenAfter (work_of input frames per targets) k t → slice_get t place ≡ Some a → a.node.0 < length input.dom.now
entry_within input frames per targets k t place a are o at =
    let nodes = open_nodes (work_of input frames per targets) k t o in
    let here : slice_get targets place ≡ Some a.node = ap (λ (ns : List NodeId). slice_get ns place) (sym nodes) ∙ slice_get-map node_of t place ∙ ap (option_map node_of) at in
    targets_within input.dom.now input.styles.now targets place a.node are here

-- ---- what a pass answers

-- pages are no more than their frames and some
pub pages_few : (per : ℕ) (frames pages : List Page) → IsPerPage per → FoldsKeepAll → pages ≡ fold_of per frames → length frames ≤ most_pages → length pages ≤ most_entries
pages_few per frames pages is keep same few =
    let low = is.low in
    let high = is.high in
    let count : length pages ≡ (length frames + (per - 1)) / per = ap (λ (ps : List Page). length ps) same ∙ (keep per frames is).count in
    let least = div-le_self (length frames + (per - 1)) per in
    omega arith

pub build_stops : (w : Work) (t : List Entry) (flow : Flow) (e : BuildErr) → IsFlowUnder w t flow → (e ≡ by_build.Text → most_text_bytes < bytes_in flow) → Stops w t (of_build e)
build_stops w t flow by_build.Text is much = record { flow = flow; is = is; much = much refl }
build_stops w t flow by_build.NoMemory is much = tt

pub pages_stop : (w : Work) (t : List Entry) (flow : Flow) (e : PageErr) → IsFlowUnder w t flow → bytes_in flow ≤ most_text_bytes → (e ≡ by_pages.Pages → LeavesSome w.faces flow w.frames most_pages) → Stops w t (of_pages e)
pages_stop w t flow by_pages.Pages is fits left = record { flow = flow; is = is; fits = fits; left = left refl }
pages_stop w t flow by_pages.NoMemory is fits left = tt

-- ---- what the passes answer

module _ (input : Input) (frames : PageFrames) (per limit passes : ℕ) (listed targets : List NodeId) (t : List Entry) (of : AreTargets input.dom.now input.styles.now listed) (same_list : targets ≡ listed) (now : (0 < passes) × (passes ≤ limit) × IsOpenAfter (work_of input frames per targets) (passes - 1) t) where
  are : AreTargets input.dom.now input.styles.now targets
  are = subst (AreTargets input.dom.now input.styles.now) (sym same_list) of

  before : passes - 1 < limit
  before = let (some, few, o) = now in omega arith

  pub pass_stops : (e : PassErr) → Stops (work_of input frames per targets) t e → Settles input frames per limit (Err e)
  pass_stops err.Text is = let (some, few, o) = now in record { targets = targets; are = are; ends = (passes - 1, before, t, o, too_long is.flow is.is is.much) }
  pass_stops err.Pages is = let (some, few, o) = now in record { targets = targets; are = are; ends = (passes - 1, before, t, o, too_many is.flow is.is is.fits is.left) }
  pass_stops err.NoMemory is = tt
  pass_stops (err.NotSettled target a b) is = absurd is

  module _ (p : Pass) (is : IsPass (work_of input frames per targets) t p.flow p.pages.pages p.shown) where
    pub pass_settles : t ≡ p.shown → HasEnd input frames per limit (settled passes p.flow p.pages.pages p.shown)
    pass_settles same =
        let (some, few, o) = now in
        let w = work_of input frames per targets in
        let n : suc (passes - 1) ≡ passes = omega arith in
        record {
          targets = targets;
          are = are;
          ends = subst (λ (k : ℕ). EndsIn w limit (settled k p.flow p.pages.pages p.shown)) n (passes - 1, before, p.shown, subst (λ (x : List Entry). IsOpenAfter w (passes - 1) x) same o, settles p.flow p.pages.pages (subst (λ (x : List Entry). IsPass w x p.flow p.pages.pages p.shown) same is));
        }

    module _ (place : ℕ) (first : IsFirstDifference t p.shown place) (within : length t ≡ length p.shown → place < length t) where
      same_length : length t ≡ length p.shown
      same_length = let (some, few, o) = now in one_length (work_of input frames per targets) (passes - 1) t p.shown o (p.flow, p.pages.pages, is)

      pub low : place < length t
      low = within same_length

      pub low_after : place < length p.shown
      low_after = subst (λ (n : ℕ). place < n) same_length low

      pub low_node : (d : Entry) → (get_or t place d).node.0 < length input.dom.now
      low_node d = let (some, few, o) = now in entry_within input frames per targets (passes - 1) t place (get_or t place d) are o (slice_get-get_or t place d low)

      pub pass_goes_on : passes ≢ limit → (0 < passes + 1) × (passes + 1 ≤ limit) × IsOpenAfter (work_of input frames per targets) (passes + 1 - 1) p.shown
      pass_goes_on more =
          let (some, few, o) = now in
          let w = work_of input frames per targets in
          let n : suc (passes - 1) ≡ passes + 1 - 1 = omega arith in
          let other : t ≢ p.shown = differences.apart t p.shown place first in
          (omega arith, omega arith, subst (λ (k : ℕ). IsOpenAfter w k p.shown) n (t, o, (p.flow, p.pages.pages, is), other))

      pub pass_differs : (d : Entry) (e : PassErr) → passes ≡ limit → IsNotSettled input.dom.now (get_or t place d) (get_or p.shown place d) e → Settles input frames per limit (Err e)
      pass_differs d err.Text last bad = absurd bad
      pass_differs d err.Pages last bad = absurd bad
      pass_differs d err.NoMemory last so = tt
      pass_differs d (err.NotSettled target a b) last (id, one, two) =
          let (some, few, o) = now in
          let n : suc (passes - 1) ≡ limit = omega arith in
          let x = slice_get-get_or t place d low in
          let y = slice_get-get_or p.shown place d low_after in
          rw (id, one, two) (record { targets = targets; are = are; ends = (passes - 1, before, t, o, differs (get_or t place d) (get_or p.shown place d) p.shown n (p.flow, p.pages.pages, is) place first x y) })
