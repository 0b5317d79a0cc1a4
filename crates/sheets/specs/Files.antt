-- The texts of files.
use Rattle.std.specs.Prelude.{ℕ, List, String, map, string_bytes}
use Rattle.bk_io.specs.Texts.{unmarked}

-- the texts of files, less a leading U+FEFF of each
abbrev pub file_texts : {A : Type 0} → List (String A) → List (List ℕ)
file_texts files = map (λ s. unmarked (string_bytes s)) files
