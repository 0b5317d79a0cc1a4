use Rattle.std.proofs.Common.{ℕ, List, map, take}
use Rattle.std.specs.List.{AllZip}
use Rattle.sheets.specs.List.{sheet_in}
use Rattle.sheets.specs.Sheets.{author_texts}
use Rattle.sheets.specs.Files.{file_texts}
use Rattle.sheets.specs.Readings.{SheetOf, AreReadings}
use Rattle.sheets.specs.Sources.{ArePageRules, IsReadFrom, authors_of, sources_of}
use Rattle.sheets.proofs.ReadLemmas.{IsLeft}
use Rattle.sheets.proofs.read.read_listed.Given as goal

abbrev pub invariant-loop-number : goal.invariant-loop-number
invariant-loop-number l = record {
  read : AllZip IsReadFrom (sources_of (take l.number (author_texts (map sheet_in l.listed) (file_texts l.files)))) l.read;
  pages : ArePageRules (authors_of (take l.number (author_texts (map sheet_in l.listed) (file_texts l.files)))) l.pages.items;
  left : (reading : List ℕ → SheetOf) → AreReadings reading → IsLeft reading (author_texts (map sheet_in l.listed) (file_texts l.files)) l.number;
}
