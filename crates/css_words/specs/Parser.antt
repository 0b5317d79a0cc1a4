-- Readers as functions on the tokens that are left (css-values: the value definition syntax is met from left to right).
use Rattle.std.specs.Prelude.{◌≡◌, List, Option, Some, None, Result, Ok, Err}
use Rattle.css_tok.specs.Tokens.{Item}
use Rattle.css_tok.specs.Marks.{first_of, rest_of}
use Rattle.css_words.specs.Input.{past_spaces}
use Rattle.css_words.specs.declared.unread.Unread.{Unread}
use Rattle.css_words.specs.declared.unread.Unread.TheVariants.{NoReading, NoMemory}

-- the tokens that are left
abbrev pub Input : Type 0
Input = List Item

-- a value and what is left, or no reading
abbrev pub Outcome : Type 0 → Type 0
Outcome A = Option (A × Input)

-- a grammar, as what it reads of the tokens that are left
abbrev pub Parser : Type 0 → Type 0
Parser A = Input → Outcome A

-- what follows a reading; nothing follows where there is none
abbrev pub and_then : {A B : Type 0} → Outcome A → (A → Parser B) → Outcome B
and_then None f = None
and_then (Some p) f = f p.0 p.1

-- one reader after another
infixl 10 ◌>>=◌
abbrev pub ◌>>=◌ : {A B : Type 0} → Parser A → (A → Parser B) → Parser B
p >>= f = λ i. and_then (p i) f

infixl 10 ◌>>◌
abbrev pub ◌>>◌ : {A B : Type 0} → Parser A → Parser B → Parser B
p >> q = p >>= (λ _. q)

-- a value that takes no token, and no reading
abbrev pub pure : {A : Type 0} → A → Parser A
pure a = λ i. Some (a, i)

-- no reading
abbrev pub refuse : {A : Type 0} → Parser A
refuse = λ i. None

-- a grammar by a value, or another where there is none
abbrev pub on_some : {A B : Type 0} → Option A → Parser B → (A → Parser B) → Parser B
on_some None p f = p
on_some (Some x) p f = f x

-- the next token, and the one after it, if there are such; both stay
abbrev pub peek : Parser (Option Item)
peek = λ i. Some (first_of i, i)

-- the token after the next, if there is one; both stay
abbrev pub second : Parser (Option Item)
second = λ i. Some (first_of (rest_of i), i)

-- passes a token, and white space
abbrev pub advance : Parser (Unit {0})
advance = λ i. Some (tt, rest_of i)

-- passes white space
abbrev pub spaces : Parser (Unit {0})
spaces = λ i. Some (tt, past_spaces i)

-- what a function that reads ensures: the reader's outcome, unless memory fails
abbrev pub Reads : {A R : Type 0} → (R → A) → Outcome A → Result R Unread → Input → Type 0
Reads view outcome (Ok r) new = outcome ≡ Some (view r, new)
Reads view outcome (Err NoMemory) new = Unit {0}
Reads view outcome (Err NoReading) new = outcome ≡ None

-- the same where there is a reading always
abbrev pub Owns : {A : Type 0} → A → Result A Unread → Type 0
Owns a (Ok r) = r ≡ a
Owns a (Err NoMemory) = Unit {0}
Owns a (Err NoReading) = ⊥
