-- The text of a file, or why it gives none.
use Rattle.std.specs.Prelude.{◌≡◌, ℕ, ◌≤◌, ◌<◌, List, length, true, false, Option, String, string_bytes}
use Rattle.std.specs.Global.{Global}
use Rattle.std.specs.Str.{is_utf8}
use Rattle.std.specs.Str.Lossy.{utf8_valid_len}
use Rattle.bk_io.specs.Shelf.{Told, IfHolds, Faulted}
use Rattle.bk_io.specs.declared.read_text.TextErr.{TextErr}
use Rattle.bk_io.specs.declared.read_text.TextErr.TheVariants as err

-- these bytes are UTF-8, at most so many, and the text is they
pub record IsWhole (limit : ℕ) (text : String Global) (file : List ℕ) : Type 0 where
  pub bytes : string_bytes text ≡ file
  pub utf8 : is_utf8 file ≡ true
  pub few : length file ≤ limit

-- the text of a file of at most so many bytes, where the shelf tells them
abbrev pub IsTextOf : Told → ℕ → String Global → Type 0
IsTextOf told limit text = IfHolds told (IsWhole limit text)

-- these bytes are at most so many and not UTF-8; so many first ones are their longest prefix that is
pub record IsBroken (limit at : ℕ) (file : List ℕ) : Type 0 where
  pub broken : is_utf8 file ≡ false
  pub prefix : at ≡ utf8_valid_len file
  pub few : length file ≤ limit

-- why a file gives no text: there is none or the shelf failed, it has more bytes than so many, or they aren't UTF-8
abbrev pub HasTextFault : Told → List ℕ → ℕ → ℕ → ℕ → Option (List ℕ) → TextErr → Type 0
HasTextFault told name limit before now last err.Failed = Faulted told name before now last
HasTextFault told name limit before now last err.TooLarge = IfHolds told (λ file. limit < length file)
HasTextFault told name limit before now last (err.NotUtf8 at) = IfHolds told (IsBroken limit at)
HasTextFault told name limit before now last err.NoMemory = Unit {0}
