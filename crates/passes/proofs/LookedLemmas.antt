-- What passes look at: lines that the pass before placed are held.
use Rattle.std.proofs.Common.{◌≡◌, ℕ, suc, ◌+◌, ◌≤◌, ℤ, List, Bool, false, Err, refl, sym, subst, arith}
use Rattle.bk_num.proofs.ListLemmas.{all-get}
use Rattle.bk_num.specs.declared.ids.NodeId.{NodeId}
use Rattle.boxes.specs.Frames.{PageFrames}
use Rattle.boxes.specs.Tree.{Tree}
use Rattle.boxes.specs.declared.flow.Flow.{Flow}
use Rattle.boxes.specs.declared.page.Page.{Page}
use Rattle.boxes.specs.declared.page.Placed.{Placed}
use Rattle.boxes.specs.declared.place.Position.{Position}
use Rattle.cursor.specs.Asks.{IsHeldNow}
use Rattle.fragment.specs.Kept.{ArePagesHeld, IsPageHeld}
use Rattle.gen_text.specs.References.{AreTargets}
use Rattle.gen_text.specs.declared.table.Entry.{Entry}
use Rattle.line_fill.specs.Kept.{Asked, HasTurned, HoldsNow}
use Rattle.line_fill.specs.declared.kept.KeptLeaf.{KeptLeaf}
use Rattle.note_list.specs.Kept.{IsHeldIn}
use Rattle.note_list.specs.Known.{AreKnown}
use Rattle.page_list.specs.LookedPages.{LooksAtPages}
use Rattle.passes.specs.Looked.{ArePlacedLines, HaveLooked, IsLineAt, LookIn, LookWithin, PlaceLine, PlacesLine, of_flow, of_note}
use Rattle.passes.specs.Passes.{IsPass}
use Rattle.passes.specs.Settles.{work_of}
use Rattle.passes.specs.Stops.{Stops}
use Rattle.passes.specs.Work.{Work}
use Rattle.passes.specs.declared.settle.Input.{Input}
use Rattle.passes.specs.declared.settle.PassErr.{PassErr}
use Rattle.passes.specs.declared.settle.PassErr.TheVariants as err
use Rattle.refs.specs.Tables.{opening_of}

-- ---- what pages place is held
line_held : (t : Tree) (width : ℤ) (kept : List KeptLeaf) (at : Position) (a : Asked) → IsHeldNow t width kept at → IsLineAt t width at a → HoldsNow kept a
line_held t width kept at a held x = subst (HoldsNow kept) (sym x.is) (held x.number x.leaf x.names x.has)

page_held : (flow : Flow) (kept : List KeptLeaf) (q : Page) (a : Asked) → IsPageHeld flow q.frame.width kept q.solids q.notes → PlacesLine flow q a → HoldsNow kept a
page_held flow kept q a held (of_flow k p has line) =
    line_held flow.main q.frame.width kept p.at a (all-get (λ (x : Placed). IsHeldNow flow.main q.frame.width kept x.at) q.solids k p held.solids has) line
page_held flow kept q a held (of_note k n p note has names line) =
    line_held note.body q.frame.width kept p.at a (all-get (λ (x : ℕ × Placed). IsHeldIn flow.notes q.frame.width kept x.0 x.1.at) q.notes k (n, p) held.notes has note names) line

placed_held : (flow : Flow) (kept : List KeptLeaf) (pages : List Page) (a : Asked) → ArePagesHeld flow kept pages → PlaceLine flow pages a → HoldsNow kept a
placed_held flow kept pages a held x =
    page_held flow kept x.page a (all-get (λ (q : Page). IsPageHeld flow q.frame.width kept q.solids q.notes) pages x.place x.page held x.has) x.line

-- and so it is in the next pass
pub known_next : (placed : Flow → List Page → Asked → Bool) → ArePlacedLines placed → (flow : Flow) (pages : List Page) (old new : List KeptLeaf) → ArePagesHeld flow old pages → HasTurned old new → AreKnown (placed flow pages) new
known_next placed are flow pages old new held turned a is = turned.keeps a (placed_held flow old pages a held (are flow pages a is))

-- ---- one pass more
pub look_start : (w : Work) (placed : Flow → List Page → Asked → Bool) (table : List Entry) → table ≡ opening_of w.targets → LookIn w placed 0 table (λ a. false) 0
look_start w placed table is = (is, refl, refl)

module _ (input : Input) (frames : PageFrames) (per : ℕ) (targets : List NodeId) (table next : List Entry) (flow : Flow) (pages : List Page) (is : IsPass (work_of input frames per targets) table flow pages next) (kept : List KeptLeaf) (start steps steps' k : ℕ)
    (was : (placed : Flow → List Page → Asked → Bool) → ArePlacedLines placed → (before : Asked → Bool) × (lines : ℕ) × LookIn (work_of input frames per targets) placed k table before lines × AreKnown before kept × (steps ≤ start + lines))
    (looks : LooksAtPages input.faces.now flow frames kept pages steps steps') where
  pub look_next : (placed : Flow → List Page → Asked → Bool) → ArePlacedLines placed → (lines : ℕ) × LookIn (work_of input frames per targets) placed (suc k) next (placed flow pages) lines × (steps' ≤ start + lines)
  look_next placed are =
      let (before, lines, look, known, few) = was placed are in
      let (more, listed, up) = looks before known in
      (lines + more, (table, before, lines, look, flow, pages, is, more, listed, refl, refl), omega (arith, few, up))

  pub have_looked : AreTargets input.dom.now input.styles.now targets → (passes : ℕ) → suc k ≡ passes → HaveLooked input frames per passes start steps'
  have_looked of passes n = subst (λ (m : ℕ). HaveLooked input frames per m start steps') n (record {
    targets = targets;
    are = of;
    looks = λ placed are. let (lines, look, few) = look_next placed are in (next, placed flow pages, lines, look, few);
  })

-- ---- answers of passes that are none of a number
pub looked_none : (input : Input) (frames : PageFrames) (per limit : ℕ) (w : Work) (table : List Entry) (e : PassErr) (old new : ℕ) → Stops w table e → LookWithin input frames per limit (Err e) old new
looked_none input frames per limit w table err.Text old new is = tt
looked_none input frames per limit w table err.Pages old new is = tt
looked_none input frames per limit w table err.NoMemory old new is = tt
looked_none input frames per limit w table (err.NotSettled target a b) old new is = absurd is

pub looked_last : (input : Input) (frames : PageFrames) (per limit : ℕ) (e : PassErr) (old new : ℕ) → HaveLooked input frames per limit old new → LookWithin input frames per limit (Err e) old new
looked_last input frames per limit err.Text old new have = tt
looked_last input frames per limit err.Pages old new have = tt
looked_last input frames per limit err.NoMemory old new have = tt
looked_last input frames per limit (err.NotSettled target x y) old new have = have
