-- What a shelf with calls that fail is seen as.
use Rattle.std.specs.Prelude.{slice_get}
use Rattle.std.specs.Option.{option_map, option_and_then}
use Rattle.bk_io.specs.Memory.{Failing, files_in}
use Rattle.bk_io.specs.declared.mem_shelf.MemShelf.TheInside.{Inside}

-- a failing shelf as contracts see it
abbrev pub failing_of : Inside → Failing
failing_of s = record {
  files = files_in s.files.items;
  fail = s.fail.items;
  calls = s.calls;
  faults = s.faults;
  last = option_and_then (λ i. option_map (λ f. f.0) (slice_get s.files.items i)) s.last;
}
