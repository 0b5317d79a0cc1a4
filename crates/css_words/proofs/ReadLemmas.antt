-- What a reader has ahead, a token at a time.
use Rattle.std.proofs.Common.{◌≡◌, ℕ, suc, ◌≤◌, ◌<◌, ◌-◌, ◌+◌, true, false, List, [], ◌∷◌, length, refl, ap, sym, ◌∙◌, arith}
use Rattle.std.specs.Prelude.{Option, Some, None, option_map, IfSome}
use Rattle.std.specs.List.{prefix_len}
use Rattle.css_words.specs.Ahead.{before, ahead, NoneEnds, IsFilled}
use Rattle.css_tok.specs.declared.tokens.CssToken.{CssToken}
use Rattle.css_tok.specs.Tokens.{Item, item_in, tokens_of}
use Rattle.css_words.specs.declared.reader.Skipped.{Skipped}
use Rattle.css_words.specs.Input.{kept, is_skipped, is_space, past_spaces}
use Rattle.css_tok.specs.Marks.{is_space_kind, first_of, rest_of}

pub kept_keeps : (s : Skipped) (t : CssToken) (ts : List Item) → is_skipped s t.kind ≡ false → kept s (item_in t ∷ ts) ≡ item_in t ∷ kept s ts
unfolding kept
kept_keeps s t ts is = rw is

pub kept_skips : (s : Skipped) (t : CssToken) (ts : List Item) → is_skipped s t.kind ≡ true → kept s (item_in t ∷ ts) ≡ kept s ts
unfolding kept
kept_skips s t ts is = rw is

pub kept_nil : (s : Skipped) → kept s [] ≡ []
unfolding kept
kept_nil s = refl

-- a turn of a counted loop, and its end
pub one_more : {X : Type 0} {x : X} (f : ℕ → X) (n at : ℕ) → at < n → x ≡ f (n - at) → x ≡ f (suc (n - (at + 1)))
one_more f n at below e = let turn : n - at ≡ suc (n - (at + 1)) = omega arith in e ∙ ap f turn

pub no_more : {X : Type 0} {x : X} (f : ℕ → X) (n at : ℕ) → n ≤ at → x ≡ f (n - at) → x ≡ f 0
no_more f n at done e = let none : n - at ≡ 0 = omega arith in e ∙ ap f none

first_is : (a : Option CssToken) (ts : List Item) → NoneEnds a ts → option_map item_in a ≡ first_of (before a ts)
unfolding first_of
first_is None ts e = rw e refl
first_is (Some t) ts e = refl

rest_is : (a : Option CssToken) (ts : List Item) → NoneEnds a ts → rest_of (before a ts) ≡ ts
unfolding rest_of
rest_is None ts e = rw e refl
rest_is (Some t) ts e = refl

pub next_is : (s : Skipped) (a b : Option CssToken) (text : List ℕ) → IsFilled s a b text → option_map item_in a ≡ first_of (ahead s a b text)
unfolding ahead
next_is s a b text f = first_is a _ f.after_next

pub later_is : (s : Skipped) (a b : Option CssToken) (text : List ℕ) → IsFilled s a b text → option_map item_in b ≡ first_of (rest_of (ahead s a b text))
unfolding ahead
later_is s a b text f = first_is b _ f.after_later ∙ ap first_of (sym (rest_is a _ f.after_next))

pub rest_ahead : (s : Skipped) (a b : Option CssToken) (text : List ℕ) → IsFilled s a b text → rest_of (ahead s a b text) ≡ before b (kept s (tokens_of text))
unfolding ahead
rest_ahead s a b text f = rest_is a _ f.after_next

pub some_ahead : (s : Skipped) (t : CssToken) (b : Option CssToken) (text : List ℕ) → 0 < length (ahead s (Some t) b text)
unfolding ahead
some_ahead s t b text = omega arith

-- a token that isn't there leaves nothing before a later one either
pub no_later : (b c : Option CssToken) (us ts : List Item) → NoneEnds b us → us ≡ before c ts → NoneEnds b (before c ts)
no_later None c us ts e is = sym is ∙ e
no_later (Some t) c us ts e is = tt

-- ---- what is left is no longer

pub rest_within : (ts : List Item) → length (rest_of ts) ≤ length ts
unfolding rest_of
rest_within [] = omega arith
rest_within (t ∷ ts) = omega arith

pub rest_less : (ts : List Item) → 0 < length ts → length (rest_of ts) < length ts
unfolding rest_of
rest_less [] some = absurd (omega arith)
rest_less (t ∷ ts) some = omega arith

pub space_goes : (ts : List Item) → is_space (first_of ts) ≡ true → past_spaces ts ≡ past_spaces (rest_of ts)
unfolding first_of rest_of past_spaces
space_goes [] e = refl
space_goes (t ∷ ts) e =
    let one : 1 + prefix_len (λ (u : Item). is_space_kind u.kind) ts ≡ suc (prefix_len (λ (u : Item). is_space_kind u.kind) ts) = omega arith in
    rw e (rw one refl)

pub space_ends : (ts : List Item) → is_space (first_of ts) ≡ false → past_spaces ts ≡ ts
unfolding first_of past_spaces
space_ends [] e = refl
space_ends (t ∷ ts) e = rw e refl

pub some_if : (s : Skipped) (a b : Option CssToken) (text : List ℕ) (ts : List Item) → ahead s a b text ≡ ts → IfSome a (λ t. 0 < length ts)
some_if s None b text ts is = tt
some_if s (Some t) b text ts is = rw (← is) (some_ahead s t b text)

pub advanced : (s : Skipped) (a b c : Option CssToken) (text more : List ℕ) (ts : List Item) → IsFilled s a b text → ahead s a b text ≡ ts → kept s (tokens_of text) ≡ before c (kept s (tokens_of more)) → ahead s b c more ≡ rest_of ts
unfolding ahead
advanced s a b c text more ts f is e = ap (before b) (sym e) ∙ sym (rest_ahead s a b text f) ∙ ap rest_of is

pub begun : (s : Skipped) (a b : Option CssToken) (text middle more : List ℕ) → kept s (tokens_of text) ≡ before a (kept s (tokens_of middle)) → kept s (tokens_of middle) ≡ before b (kept s (tokens_of more)) → ahead s a b more ≡ kept s (tokens_of text)
unfolding ahead
begun s a b text middle more e f = ap (before a) (sym f) ∙ sym e
