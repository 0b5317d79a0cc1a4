-- Of words over a shelf one end of the passes is expected and one book, and the end decides the answer.
use Rattle.std.proofs.Common.{◌≡◌, ◌∙◌, ℕ, ◌<◌, List, [], ◌∷◌, Option, Result, Ok, Err, length, map, refl, sym, ap, subst, arith}
use Rattle.bk_io.specs.Shelf.{Told}
use Rattle.bk_num.specs.declared.ids.NodeId.{NodeId}
use Rattle.dom.specs.Nodes.{IsTree, Node}
use Rattle.dom.specs.declared.dom.DomErr.{DomErr}
use Rattle.dom.specs.declared.dom.DomErr.TheVariants as dom_err
use Rattle.gen_text.specs.References.{AreTargets}
use Rattle.html_tree.specs.Order.{TextsAreTrees}
use Rattle.html_tree.specs.Tree.{tree_of}
use Rattle.metrics.specs.Text.{faces_of}
use Rattle.passes.specs.Passes.{End, SettleAtOnce, settled, unsettled, long, many}
use Rattle.passes.specs.Work.{Work}
use Rattle.css_page.specs.declared.rules.PageRule.{PageRule}
use Rattle.sheets.specs.Readings.{SheetOf}
use Rattle.sheets.specs.Sheets.{author_texts, element_sheets}
use Rattle.book.specs.Answer.{Book, IsBookOf}
use Rattle.book.specs.Document.{Document, BookTexts, document_of, faces_expected, nodes_expected, patterns_expected, sheets_expected}
use Rattle.book.specs.Expect.{Expect, free, refused, given, ◌>>=◌}
use Rattle.book.specs.Flow.{HasEnd, HasNoReferences, IsWorkOf}
use Rattle.book.specs.Laws.{AnswersFollowEnds, ExpectedIsTree, HasOneBook, HasOneEnd, IsAnswerAt, OneBookIsExpected, OneEndIsExpected, SettlesWith}
use Rattle.book.specs.Run.{Answers, IsExpected, IsOfOnePass, Meets, OneIsExpected, SettlesAtOnce, Writes, texts_expected}
use Rattle.book.specs.declared.outcome.LimitOf.TheVariants as limit
use Rattle.book.specs.declared.outcome.Outcome.{Outcome}
use Rattle.book.specs.declared.outcome.Outcome.TheVariants as out

-- ---- the document that is expected

-- a value comes through a step from one that the step before gave
pub given_through : {A B : Type 0} (x : Expect A) (k : A → Expect B) (b : B) → (x >>= k) ≡ given b → (a : A) × (k a ≡ given b) × (x ≡ given a)
given_through free k b e = cc
given_through (refused p) k b e = cc
given_through (given a) k b e = (a, e, refl)

abbrev nodes_or : Expect (List Node) → List Node
nodes_or free = []
nodes_or (refused p) = []
nodes_or (given nodes) = nodes

nodes_given : (r : Result (List Node) DomErr) (nodes : List Node) → nodes_expected r ≡ given nodes → r ≡ Ok nodes
nodes_given (Ok ns) nodes e = ap (λ x. Ok (nodes_or x)) e
nodes_given (Err dom_err.Nodes) nodes e = cc
nodes_given (Err dom_err.Depth) nodes e = cc
nodes_given (Err dom_err.NoMemory) nodes e = cc

abbrev pub document_or : Document → Expect Document → Document
document_or d free = d
document_or d (refused p) = d
document_or d (given e) = e

-- its nodes are those of a text
document_tree : TextsAreTrees → (reading : List ℕ → SheetOf) (t : BookTexts) (d : Document) → document_of reading t ≡ given d → IsTree d.nodes
document_tree trees reading t d e =
    let (faces, e1, f) = given_through (faces_expected (faces_of t.metrics)) _ d e in
    let (points, e2, p) = given_through (patterns_expected t.patterns) _ d e1 in
    let (nodes, e3, n) = given_through (nodes_expected (tree_of t.html)) _ d e2 in
    let (few, e4, s) = given_through (sheets_expected reading (author_texts (element_sheets nodes) t.sheets)) _ d e3 in
    let same : nodes ≡ d.nodes = ap (λ (x : Expect Document). (document_or d x).nodes) e4 in
    subst (λ (ns : List Node). IsTree ns) same (trees t.html nodes (nodes_given (tree_of t.html) nodes n))

pub expected_tree : TextsAreTrees → ExpectedIsTree
expected_tree trees ws told d x =
    let (texts, of, t) = given_through (texts_expected ws told) (document_of x.reading) d (sym x.is) in
    document_tree trees x.reading texts d of

one_document : OneIsExpected → (ws : List (List ℕ)) (told : List ℕ → Told) (d e : Document) → IsExpected ws told (given d) → IsExpected ws told (given e) → d ≡ e
one_document one ws told d e x y = ap (document_or d) (one ws told (given d) (given e) x y)

pub expected_end : TextsAreTrees → OneIsExpected → HasOneEnd → OneEndIsExpected
expected_end trees one ends ws told d e a b x y p q = ends e a b (expected_tree trees ws told e y) (subst (λ (z : Document). HasEnd z a) (one_document one ws told d e x y) p) q

pub expected_book : TextsAreTrees → OneIsExpected → HasOneBook → OneBookIsExpected
expected_book trees one books ws told d e b c x y p q = books e b c (expected_tree trees ws told e y) (subst (λ (z : Document). IsBookOf z b) (one_document one ws told d e x y) p) q

-- what is answered is of the document that is expected
of_expected : OneIsExpected → (ws : List (List ℕ)) (told : List ℕ → Told) (old new : Option (List ℕ)) (d : Document) (o : Outcome) → IsExpected ws told (given d) → Answers ws told old new o → Writes d old new o
of_expected one ws told old new d o x (e, y, m) = subst (λ (z : Expect Document). Meets z old new o) (one ws told e (given d) y x) m

-- ---- the answer by the end of the passes

book_end : (d : Document) (b : Book) (is : IsBookOf d b) → HasEnd d (settled b.passes is.flow is.frames is.table)
book_end d b is = record { rules = is.rules; names = is.names; work = is.work; of = is.of; ends = is.settles }

module _ (d : Document) (end : End) (one : (a : End) → HasEnd d a → end ≡ a) (old new : Option (List ℕ)) where
  settles_with : (b : Book) (is : IsBookOf d b) (pages passes : ℕ) → pages ≡ b.pages → passes ≡ b.passes → SettlesWith d.grid.columns end pages passes
  settles_with b is pages passes p k = record {
    flow = is.flow;
    list = is.frames;
    table = is.table;
    is = one (settled b.passes is.flow is.frames is.table) (book_end d b is) ∙ ap (λ (n : ℕ). settled n is.flow is.frames is.table) (sym k);
    count = p ∙ is.count;
  }

  follow : (o : Outcome) → Writes d old new o → IsAnswerAt d.grid.columns end o
  follow (out.Done pages passes) (b, whole, p, k, a) = settles_with b whole.0 pages passes p k
  follow out.WriteFault (b, whole, n) = (b.pages, b.passes, settles_with b whole.0 b.pages b.passes refl refl)
  follow (out.NotSettled target x y) m = one (unsettled target x y) m
  follow (out.Limit limit.Text) m = one long m
  follow (out.Limit limit.Pages) m = one many m
  follow (out.Limit limit.Nodes) m = absurd m
  follow (out.Limit limit.Depth) m = absurd m
  follow (out.Limit limit.Sheets) m = absurd m
  follow (out.Limit limit.Rules) m = absurd m
  follow (out.ReadFault f) m = tt
  follow out.NoMemory m = tt
  follow (out.NotRead k) m = m
  follow (out.TooLarge f) m = m
  follow (out.NotUtf8 f at) m = m
  follow (out.BadMetrics line why) m = m
  follow (out.BadPatterns line) m = m

pub follow_ends : OneIsExpected → OneEndIsExpected → AnswersFollowEnds
follow_ends one ends ws told old new d end o x p answers = follow d end (λ a q. ends ws told d d end a x x p q) old new o (of_expected one ws told old new d o x answers)

-- ---- without page references

module _ (law : SettleAtOnce) (d : Document) (none : HasNoReferences d) where
  no_targets : (rules : List PageRule) (names : List (List ℕ)) (w : Work) → IsWorkOf d rules names w → w.targets ≡ []
  no_targets rules names w of = ap (λ (v : Work). v.targets) of.is ∙ empty of.targets of.are
    where
      empty : (ns : List NodeId) → AreTargets d.nodes of.rows ns → ns ≡ []
      empty [] are = refl
      empty (n ∷ ns) are =
          let first : 0 < length (map (λ (m : NodeId). m.0) (n ∷ ns)) = omega arith in
          absurd (none names of.rows n.0 of.styles ((are.named n.0).0 (0, first, refl)))

  at_once : (old new : Option (List ℕ)) (o : Outcome) → Writes d old new o → IsOfOnePass o
  at_once old new (out.Done pages passes) (b, whole, p, k, a) =
      let is = whole.0 in
      k ∙ law is.work d.passes (settled b.passes is.flow is.frames is.table) (no_targets is.rules is.names is.work is.of) is.settles
  at_once old new (out.NotSettled target x y) m = law m.work d.passes (unsettled target x y) (no_targets m.rules m.names m.work m.of) m.ends
  at_once old new (out.Limit what) m = tt
  at_once old new out.WriteFault m = tt
  at_once old new (out.ReadFault f) m = tt
  at_once old new out.NoMemory m = tt
  at_once old new (out.NotRead k) m = tt
  at_once old new (out.TooLarge f) m = tt
  at_once old new (out.NotUtf8 f at) m = tt
  at_once old new (out.BadMetrics line why) m = tt
  at_once old new (out.BadPatterns line) m = tt

pub settles_at_once : SettleAtOnce → OneIsExpected → (ws : List (List ℕ)) (told : List ℕ → Told) (old new : Option (List ℕ)) (o : Outcome) → Answers ws told old new o → SettlesAtOnce ws told o
settles_at_once law one ws told old new o answers = λ d x none. at_once law d none old new o (of_expected one ws told old new d o x answers)
