-- The passes over a document end in one way, and it has one book.
use Rattle.std.proofs.Common.{◌≡◌, ◌∙◌, ℕ, List, [], ◌∷◌, length, refl, sym, ap, subst}
use Rattle.std.specs.List.{AllZip}
use Rattle.boxes.specs.declared.flow.Flow.{Flow}
use Rattle.boxes.specs.declared.page.Page.{Page}
use Rattle.cascade.specs.Sheets.{sheet_of}
use Rattle.cascade.specs.declared.sheet.ReadSheet.{ReadSheet}
use Rattle.computed.specs.Document.{AreDocumentStyles}
use Rattle.computed.specs.Laws.{StylesAreOne}
use Rattle.css_page.specs.declared.rules.PageRule.{PageRule}
use Rattle.css_rules.specs.Sheet.{HaveOneReading}
use Rattle.css_tok.specs.Tokens.{tokens_of}
use Rattle.dom.specs.Nodes.{IsTree}
use Rattle.gen_text.specs.References.{AreTargets, TargetsAreOne}
use Rattle.gen_text.specs.declared.table.Entry.{Entry}
use Rattle.page_seq.specs.Folds.{fold_of}
use Rattle.passes.specs.Passes.{End, EndsIn, HaveOneEnd, settled, unsettled, long, many}
use Rattle.passes.specs.Work.{Work}
use Rattle.style.specs.Nodes.{NodeStyles}
use Rattle.sheets.specs.Laws.{PageRulesAreOne}
use Rattle.sheets.specs.Sources.{Source as SheetSource, authors_of, sources_of, IsReadFrom}
use Rattle.book.specs.Answer.{output_of, print_of}
use Rattle.book.specs.Document.{Document}
use Rattle.book.specs.Flow.{AreStylesBy, IsWorkOf, texts_of, work_by}
use Rattle.listing.specs.Printed.{Print}
use Rattle.book.specs.Laws.{HasOneBook, HasOneEnd}

-- what two lists are paired with is one list, where each is paired with one
pairs_one : {A B : Type 0} (P : A → B → Type 0) → ((x : A) (y z : B) → P x y → P x z → y ≡ z) → (xs : List A) (ys zs : List B) → AllZip P xs ys → AllZip P xs zs → ys ≡ zs
pairs_one P one [] [] [] h g = refl
pairs_one P one [] [] (z ∷ zs) h g = absurd g
pairs_one P one [] (y ∷ ys) zs h g = absurd h
pairs_one P one (x ∷ xs) [] zs h g = absurd h
pairs_one P one (x ∷ xs) (y ∷ ys) [] h g = absurd g
pairs_one P one (x ∷ xs) (y ∷ ys) (z ∷ zs) h g = ap (λ a. a ∷ ys) (one x y z h.0 g.0) ∙ ap (λ r. z ∷ r) (pairs_one P one xs ys zs h.1 g.1)

-- a text is read as one sheet
one_sheet : HaveOneReading → (source : SheetSource) (s t : ReadSheet) → IsReadFrom source s → IsReadFrom source t → s ≡ t
one_sheet one source s t h g =
    let readings = one (tokens_of source.text) in
    let same = readings.1 h.rules g.rules h.pages g.pages h.is_sheet g.is_sheet in
    h.is ∙ ap (sheet_of source.origin) same.0 ∙ sym g.is

-- what passes settle with, where they do
abbrev passes_of : End → ℕ
passes_of (settled passes flow pages table) = passes
passes_of (unsettled target before after) = 0
passes_of long = 0
passes_of many = 0

abbrev flow_or : Flow → End → Flow
flow_or other (settled passes flow pages table) = flow
flow_or other (unsettled target before after) = other
flow_or other long = other
flow_or other many = other

abbrev pages_of : End → List Page
pages_of (settled passes flow pages table) = pages
pages_of (unsettled target before after) = []
pages_of long = []
pages_of many = []

abbrev table_of : End → List Entry
table_of (settled passes flow pages table) = table
table_of (unsettled target before after) = []
table_of long = []
table_of many = []

module _ (reading : HaveOneReading) (styles : StylesAreOne) (one_targets : TargetsAreOne) (one_list : PageRulesAreOne) (one_end : HaveOneEnd) where
  one_styles : (d : Document) (names others : List (List ℕ)) (rows more : List NodeStyles) → IsTree d.nodes → AreStylesBy d names rows → AreStylesBy d others more → (names ≡ others) × (rows ≡ more)
  one_styles d names others rows more tree x y =
      let sheets : x.sheets ≡ y.sheets = pairs_one IsReadFrom (one_sheet reading) (sources_of (texts_of d)) x.sheets y.sheets x.read y.read in
      styles d.nodes y.sheets names others rows more tree (subst (λ (ss : List ReadSheet). AreDocumentStyles names d.nodes ss rows) sheets x.styles) y.styles

  one_rules : (d : Document) (rules others : List PageRule) (names more : List (List ℕ)) (v w : Work) → IsWorkOf d rules names v → IsWorkOf d others more w → rules ≡ others
  one_rules d rules others names more v w x y = one_list (authors_of (texts_of d)) rules others x.by y.by

  one_names : (d : Document) (rules others : List PageRule) (names more : List (List ℕ)) (v w : Work) → IsTree d.nodes → IsWorkOf d rules names v → IsWorkOf d others more w → names ≡ more
  one_names d rules others names more v w tree x y = (one_styles d names more x.rows y.rows tree x.styles y.styles).0

  one_work : (d : Document) (rules others : List PageRule) (names more : List (List ℕ)) (v w : Work) → IsTree d.nodes → IsWorkOf d rules names v → IsWorkOf d others more w → v ≡ w
  one_work d rules others names more v w tree x y =
      let list = one_rules d rules others names more v w x y in
      let same = one_styles d names more x.rows y.rows tree x.styles y.styles in
      let rows : x.rows ≡ y.rows = same.1 in
      let targets : x.targets ≡ y.targets = one_targets d.nodes y.rows x.targets y.targets (subst (λ (rs : List NodeStyles). AreTargets d.nodes rs x.targets) rows x.are) y.are in
      let work : work_by d rules names x.rows x.targets ≡ work_by d others more y.rows y.targets = λ i. work_by d (list i) (same.0 i) (rows i) (targets i) in
      x.is ∙ work ∙ sym y.is

  pub one_end_of : HasOneEnd
  one_end_of d a b tree x y =
      let work = one_work d x.rules y.rules x.names y.names x.work y.work tree x.of y.of in
      one_end y.work d.passes a b (subst (λ (w : Work). EndsIn w d.passes a) work x.ends) y.ends

  pub one_book : HasOneBook
  one_book d b c tree x y =
      let rules = one_rules d x.rules y.rules x.names y.names x.work y.work x.of y.of in
      let names = one_names d x.rules y.rules x.names y.names x.work y.work tree x.of y.of in
      let work = one_work d x.rules y.rules x.names y.names x.work y.work tree x.of y.of in
      let ends : EndsIn y.work d.passes (settled b.passes x.flow x.frames x.table) = subst (λ (w : Work). EndsIn w d.passes (settled b.passes x.flow x.frames x.table)) work x.settles in
      let end : settled b.passes x.flow x.frames x.table ≡ settled c.passes y.flow y.frames y.table = one_end y.work d.passes (settled b.passes x.flow x.frames x.table) (settled c.passes y.flow y.frames y.table) ends y.settles in
      let passes : b.passes ≡ c.passes = ap passes_of end in
      let flow : x.flow ≡ y.flow = ap (flow_or x.flow) end in
      let list : x.frames ≡ y.frames = ap pages_of end in
      let table : x.table ≡ y.table = ap table_of end in
      let print : ◌≡◌ {A = Print} (print_of d.faces x.rules x.names d.grid.columns b.passes x.flow x.frames) (print_of d.faces y.rules y.names d.grid.columns c.passes y.flow y.frames) = λ i. print_of d.faces (rules i) (names i) d.grid.columns (passes i) (flow i) (list i) in
      let count : b.pages ≡ c.pages = x.count ∙ ap (λ (fs : List Page). length (fold_of d.grid.columns fs)) list ∙ sym y.count in
      let put : output_of d.output (print_of d.faces x.rules x.names d.grid.columns b.passes x.flow x.frames) (fold_of d.grid.columns x.frames) x.table ≡ output_of d.output (print_of d.faces y.rules y.names d.grid.columns c.passes y.flow y.frames) (fold_of d.grid.columns y.frames) y.table =
      λ i. output_of d.output (print i) (fold_of d.grid.columns (list i)) (table i) in
      let bytes : b.bytes ≡ c.bytes = x.put ∙ put ∙ sym y.put in
      λ i. record { pages = count i; passes = passes i; bytes = bytes i }
