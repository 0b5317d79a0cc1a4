-- A listed sheet as contracts see it.
use Rattle.sheets.specs.Sheets.{Sheet}
use Rattle.sheets.specs.declared.list.ElementSheet.{ElementSheet}

-- a sheet of the list as contracts see it
abbrev pub sheet_in : ElementSheet → Sheet
sheet_in s = record { element = s.element.0; text = s.text }
