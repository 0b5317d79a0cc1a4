-- What each step of a document gives comes to the document, or to its refusal.
use Rattle.std.proofs.Common.{◌≡◌, ℕ, List, Option, Some, Result, Ok, Err, refl}
use Rattle.metrics.specs.Text.{faces_of}
use Rattle.metrics.specs.Face.{FontFace}
use Rattle.dom.specs.Nodes.{Node}
use Rattle.html_tree.specs.Tree.{tree_of}
use Rattle.hyphen.specs.Meaning.{IsReading, value_in}
use Rattle.hyphen.specs.Pattern.{Pattern}
use Rattle.hyphen.specs.declared.patterns.Patterns.{Patterns}
use Rattle.soft_hyphens.specs.Words.{Points, points_with}
use Rattle.sheets.specs.Readings.{SheetOf}
use Rattle.sheets.specs.Sources.{AreRead}
use Rattle.sheets.specs.declared.read.Sheets.{Sheets}
use Rattle.sheets.specs.declared.read.SheetsErr.TheVariants as err
use Rattle.book.specs.Expect.{IsGiven, IsRefusedUnlessMemory}
use Rattle.sheets.specs.Sheets.{author_texts, element_sheets}
use Rattle.book.specs.Document.{Document, BookTexts, document_of, faces_expected, nodes_expected, patterns_expected, points_expected, sheets_expected}
use Rattle.book.specs.declared.outcome.Outcome.{Outcome}
use Rattle.book.specs.declared.outcome.Outcome.TheVariants as out
use Rattle.book.specs.declared.outcome.LimitOf.TheVariants as limit
use Rattle.book.proofs.Stopping.{after_given, refused_after, memory_bind}

-- what is read of sheets, as the sheets that are expected
module _ (reading : List ℕ → SheetOf) (texts : List (List ℕ)) where
  pub sheets_given : (s : Sheets) → AreRead reading texts (Ok s) → IsGiven (sheets_expected reading texts) tt
  sheets_given s h = rw (h.0, h.1) refl

  pub sheets_many : AreRead reading texts (Err err.Sheets) → IsRefusedUnlessMemory (sheets_expected reading texts) (out.Limit limit.Sheets)
  sheets_many h = rw h refl

  pub rules_many : AreRead reading texts (Err err.Rules) → IsRefusedUnlessMemory (sheets_expected reading texts) (out.Limit limit.Rules)
  rules_many h = rw (h.0, h.1) refl

abbrev document_by : BookTexts → List FontFace → Option Points → List Node → Document
document_by t faces points nodes = record { passes = t.passes; grid = t.grid; output = t.output; faces = faces; points = points; nodes = nodes; sheets = t.sheets }

-- the points of patterns that were read are those of the text's patterns
pub points_given : (said : Result (List Pattern) ℕ) (p : Patterns) → IsReading said (Ok p) → IsGiven (points_expected said) (Some (points_with (value_in p)))
points_given (Ok ps) p h = λ i. Some (points_with (λ word place. h word place i))
points_given (Err line) p h = absurd h

pub points_refused : (said : Result (List Pattern) ℕ) (line : ℕ) → said ≡ Err line → IsRefusedUnlessMemory (points_expected said) (out.BadPatterns line)
points_refused said line h = rw h refl

module _ (reading : List ℕ → SheetOf) (t : BookTexts) (faces : List FontFace) (points : Option Points) (nodes : List Node) (given_faces : IsGiven (faces_expected (faces_of t.metrics)) faces) (given_points : IsGiven (patterns_expected t.patterns) points) (given_nodes : IsGiven (nodes_expected (tree_of t.html)) nodes) where
  pub sheets_refused : (o : Outcome) → IsRefusedUnlessMemory (sheets_expected reading (author_texts (element_sheets nodes) t.sheets)) o → IsRefusedUnlessMemory (document_of reading t) o
  sheets_refused o r = refused_after (faces_expected (faces_of t.metrics)) faces _ o given_faces (
      refused_after (patterns_expected t.patterns) points _ o given_points (
      refused_after (nodes_expected (tree_of t.html)) nodes _ o given_nodes (memory_bind (sheets_expected reading (author_texts (element_sheets nodes) t.sheets)) _ o r)))

  pub document_given : IsGiven (sheets_expected reading (author_texts (element_sheets nodes) t.sheets)) tt → IsGiven (document_of reading t) (document_by t faces points nodes)
  document_given given_sheets = after_given (faces_expected (faces_of t.metrics)) faces _ (λ z. IsGiven z (document_by t faces points nodes)) tt given_faces (
      after_given (patterns_expected t.patterns) points _ (λ z. IsGiven z (document_by t faces points nodes)) tt given_points (
      after_given (nodes_expected (tree_of t.html)) nodes _ (λ z. IsGiven z (document_by t faces points nodes)) tt given_nodes (
      after_given (sheets_expected reading (author_texts (element_sheets nodes) t.sheets)) tt _ (λ z. IsGiven z (document_by t faces points nodes)) tt given_sheets refl)))
