-- A command without subcommands has at most one kind of fault at any words.
use Rattle.std.proofs.Common.{◌≡◌, ◌≤◌, ◌+◌, ◌&&◌, ◌||◌, ℕ, Bool, zero, suc, true, false, not, List, [], ◌∷◌, length, drop, Option, Some, None, is_some, arith, ◌==◌}
use Rattle.std.specs.Prelude.{encode_utf8, slice_get, nat_lt, min, if◌then◌else◌}
use Rattle.std.specs.Option.{option_map_or}
use Rattle.std.specs.Str.{bytes_eq, chars}
use Rattle.clap.specs.Lexer.{long_of, short_of}
use Rattle.clap.specs.Matches.{count_text}
use Rattle.clap.specs.Kinds.{Kinds, check_kinds, or_else, range_kinds, request_kinds, value_kinds, values_kinds}
use Rattle.clap.specs.Facts.{parser_of_value, unwrap_or_range}
use Rattle.clap.specs.Values.{refused_kind}
use Rattle.clap.specs.ValueTests.{accepts}
use Rattle.clap.specs.Walk.{Held, Row, Rule, Step, Text, Waiting, Walk, action_of, arg_by_id, arg_by_index, arg_by_long, arg_by_short, attached_value, count_of, finished, has_row, is_empty, is_pending, most_values, nothing_held, reacted, settled, takes_several, takes_values, value, values_or_missing, walk, walk_from, walked, with_default, word_met, idle, option, positional}
use Rattle.clap.specs.Simple.{App, Shape, argument_words, built}
use Rattle.clap.specs.Faults.{action_fault, bundle_fault, bundle_step_fault, check_fault, count_fault, default_fault, defaults_fault, fault_of, flag_word_fault, flags_fault, given_default_fault, level_fault, long_fault, option_fault, other_fault, positional_fault, react_fault, repeat_fault, set_fault, settle_fault, short_fault, step_fault, stray_fault, turn_fault, use_fault, values_fault, walk_fault, word_fault}
use Rattle.clap.specs.declared.builder.action.ArgAction.{ArgAction}
use Rattle.clap.specs.declared.builder.action.ArgAction.TheVariants.{Set, Append, SetTrue, SetFalse, Count, Help, HelpShort, HelpLong, Version}
use Rattle.clap.specs.declared.builder.value_parser.ValueParser.{ValueParser}
use Rattle.clap.specs.declared.error.kind.ErrorKind.{ErrorKind}
use Rattle.clap.specs.declared.error.kind.ErrorKind.TheVariants as kind
use Rattle.clap.proofs.FaultLemmas.{leaf_fault}

-- at most one kind
pub record IsOne (kinds : Kinds) : Type 0 where
  pub most : length kinds ≤ 1

one_or : (a b : Kinds) → IsOne a → IsOne b → IsOne (or_else a b)
one_or [] b ha hb = hb
one_or (k ∷ ks) b ha hb = ha

one_if : (b : Bool) (x y : Kinds) → IsOne x → IsOne y → IsOne (if b then x else y)
one_if true x y hx hy = hx
one_if false x y hx hy = hy

none : IsOne []
none = record { most = omega arith }

single : (k : ErrorKind) → IsOne (k ∷ [])
single k = record { most = omega arith }

one_map : {X : Type 0} (f : X → Kinds) (o : Option X) (d : Kinds) → ((x : X) → IsOne (f x)) → IsOne d → IsOne (option_map_or f o d)
one_map f None d h hd = hd
one_map f (Some x) d h hd = h x

one_value : (i : Bool) (p : ValueParser) (t : Text) → IsOne (value_kinds i p t)
one_value i p t = one_if (accepts i p t) [] (refused_kind p ∷ []) none (single (refused_kind p))

one_values : (i : Bool) (p : ValueParser) (ts : List Text) → IsOne (values_kinds i p ts)
one_values i p [] = none
one_values i p (t ∷ ts) = one_or (value_kinds i p t) (values_kinds i p ts) (one_value i p t) (one_values i p ts)

one_range : (least most n : ℕ) → IsOne (range_kinds least most n)
one_range least most n =
    let above = if nat_lt most n then kind.TooManyValues ∷ [] else [] in
    let outside = if nat_lt n least then kind.TooFewValues ∷ [] else above in
    let exact = if least == n then [] else kind.WrongNumberOfValues ∷ [] in
    one_if (nat_lt 0 least && n == 0) (kind.InvalidValue ∷ []) (if least == most then exact else outside) (single kind.InvalidValue)
    (one_if (least == most) exact outside (one_if (least == n) [] (kind.WrongNumberOfValues ∷ []) none (single kind.WrongNumberOfValues))
    (one_if (nat_lt n least) (kind.TooFewValues ∷ []) above (single kind.TooFewValues)
    (one_if (nat_lt most n) (kind.TooManyValues ∷ []) [] (single kind.TooManyValues) none)))

one_request : (x : ArgAction) → IsOne (request_kinds x)
one_request Help = single kind.DisplayHelp
one_request HelpShort = single kind.DisplayHelp
one_request HelpLong = single kind.DisplayHelp
one_request Version = single kind.DisplayVersion
one_request x = none

-- ---- one use of an argument

one_text : (a : Rule) (ts : List Text) → IsOne (values_fault a ts)
one_text a ts = one_values a.ignore_case (parser_of_value a.parser) ts

one_count : (a : Rule) (ts : List Text) (rows : List Row) → IsOne (count_fault a ts rows)
one_count a [] rows = one_value a.ignore_case (parser_of_value a.parser) (count_text (min (count_of a.id rows + 1) 255))
one_count a (t ∷ ts) rows = one_text a (t ∷ ts)

one_set : (again : Bool) (a : Rule) (ts : List Text) (rows : List Row) → IsOne (set_fault again a ts rows)
one_set again a ts rows = one_or (repeat_fault again a.id rows) (values_fault a ts)
    (one_if (has_row a.id rows && not again) (kind.ArgumentConflict ∷ []) [] (single kind.ArgumentConflict) none) (one_text a ts)

one_action : (x : ArgAction) (again : Bool) (a : Rule) (ts : List Text) (rows : List Row) → IsOne (action_fault x again a ts rows)
one_action Set again a ts rows = one_set again a ts rows
one_action SetTrue again a ts rows = one_set again a ts rows
one_action SetFalse again a ts rows = one_set again a ts rows
one_action Append again a ts rows = one_text a ts
one_action Count again a ts rows = one_count a ts rows
one_action x again a ts rows = one_request x

one_use : (again : Bool) (a : Rule) (ts : List Text) (rows : List Row) → IsOne (use_fault again a ts rows)
one_use again a ts rows = one_or (range_kinds (unwrap_or_range a.range).start_inclusive (most_values a) (length ts))
    (action_fault (action_of a) again a (values_or_missing a ts) rows)
    (one_range (unwrap_or_range a.range).start_inclusive (most_values a) (length ts))
    (one_action (action_of a) again a (values_or_missing a ts) rows)

-- ---- one word

module _ (c : List Rule) (again : Bool) where
  one_settle : (h : Held) → IsOne (settle_fault c again h)
  one_settle h = one_map (λ p. option_map_or (λ a. use_fault again a p.1 h.rows) (arg_by_id c p.0) []) h.pending []
      (λ p. one_map (λ a. use_fault again a p.1 h.rows) (arg_by_id c p.0) [] (λ a. one_use again a p.1 h.rows) none) none

  one_react : (a : Rule) (ts : List Text) (h : Held) → IsOne (react_fault c again a ts h)
  one_react a ts h = one_or (settle_fault c again h) (use_fault again a ts (settled c h).rows)
      (one_settle h) (one_use again a ts (settled c h).rows)

  one_option : (a : Rule) (v : Option Text) (h : Held) → IsOne (option_fault c again a v h)
  one_option a (Some v) h = one_react a (v ∷ []) h
  one_option a None h = one_settle h

  one_long : (a : Option Rule) (v : Option Text) (h : Held) → IsOne (long_fault c again a v h)
  one_long None v h = single kind.UnknownArgument
  one_long (Some a) v h =
      let flag = if is_some v then kind.TooManyValues ∷ [] else react_fault c again a [] h in
      one_if (takes_values a) (option_fault c again a v h) flag (one_option a v h)
      (one_if (is_some v) (kind.TooManyValues ∷ []) (react_fault c again a [] h) (single kind.TooManyValues) (one_react a [] h))

  one_short : (a : Option Rule) (rest : Text) (h : Held) (next : Held → Kinds) → ((k : Held) → IsOne (next k)) → IsOne (short_fault c again a rest h next)
  one_short None rest h next all = single kind.UnknownArgument
  one_short (Some a) rest h next all =
      one_if (takes_values a) (option_fault c again a (attached_value rest) h) (or_else (react_fault c again a [] h) (next (reacted c a [] h)))
      (one_option a (attached_value rest) h)
      (one_or (react_fault c again a [] h) (next (reacted c a [] h)) (one_react a [] h) (all (reacted c a [] h)))

  one_bundle_step : (o : Option ℕ) (flags : Text) (skip : ℕ) (h : Held) (next : Text → ℕ → Held → Kinds)
      → ((t : Text) (n : ℕ) (k : Held) → IsOne (next t n k)) → IsOne (bundle_step_fault c again o flags skip h next)
  one_bundle_step None flags skip h next all = none
  one_bundle_step (Some x) flags zero h next all =
      let rest = drop (length (encode_utf8 x)) flags in
      one_short (arg_by_short c x) rest h (next rest 0) (all rest 0)
  one_bundle_step (Some x) flags (suc skip) h next all = all (drop (length (encode_utf8 x)) flags) skip h

  one_flags : (k : ℕ) (flags : Text) (skip : ℕ) (h : Held) → IsOne (flags_fault c again k flags skip h)
  unfolding flags_fault
  one_flags zero flags skip h = none
  one_flags (suc k) flags skip h =
      one_bundle_step (slice_get (chars flags) 0) flags skip h (flags_fault c again k) (one_flags k)

  one_flag_word : (o : Option (Text × Option Text)) (word : Text) (h : Held) → IsOne (flag_word_fault c again o word h)
  one_flag_word (Some p) word h = one_long (arg_by_long c p.0) p.1 h
  one_flag_word None word h = one_map (λ flags. bundle_fault c again flags h) (short_of word) []
      (λ flags. one_flags (length flags) flags h.skip (record h { skip = 0 })) none

module _ (s : Shape) where
  one_other : (word : Text) (h : Held) → IsOne (other_fault s None word h)
  one_other word h = one_if (bytes_eq word (45 ∷ 45 ∷ [])) [] (flag_word_fault s.rules s.args_override_self (long_of word) word h)
      none (one_flag_word s.rules s.args_override_self (long_of word) word h)

  one_word : (is_trailing : Bool) (waiting : Waiting) (word : Text) (h : Held) → IsOne (word_fault s [] is_trailing waiting word h)
  one_word is_trailing idle word h = one_if is_trailing [] (other_fault s None word h) none (one_other word h)
  one_word is_trailing (option id) word h = one_if is_trailing [] (other_fault s None word h) none (one_other word h)
  one_word is_trailing positional word h = one_if is_trailing [] (other_fault s None word h) none (one_other word h)

  one_positional : (a : Rule) (h : Held) → IsOne (positional_fault s.rules s.args_override_self a h)
  one_positional a h = one_if (is_pending a h.pending && takes_several a) [] (settle_fault s.rules s.args_override_self h)
      none (one_settle s.rules s.args_override_self h)

  -- ---- a command without subcommands

  module _ (leaf : s.is_leaf ≡ true) where
    one_stray : IsOne (stray_fault s)
    one_stray = rw leaf (single kind.UnknownArgument)

    one_step : (position : ℕ) (h : Held) (step : Step) → IsOne (step_fault s position h step)
    one_step position h value = one_map (λ a. positional_fault s.rules s.args_override_self a h) (arg_by_index s.rules position) (stray_fault s)
        (λ a. one_positional a h) one_stray
    one_step position h step = none

    one_turn : (w : Walk) (word : Text) → IsOne (turn_fault s [] w word)
    one_turn w word =
        let met = word_met s.rules [] w.is_trailing w.waiting w.position word w.held in
        let here = word_fault s [] w.is_trailing w.waiting word w.held in
        let after = step_fault s w.position met.0 met.1 in
        one_if (is_some w.stopped) [] (or_else here after) none
        (one_or here after (one_word w.is_trailing w.waiting word w.held) (one_step w.position met.0 met.1))

    one_walk : (w : Walk) (words : List Text) → IsOne (walk_fault s [] w words)
    unfolding walk_fault
    one_walk w [] = none
    one_walk w (word ∷ rest) = one_or (turn_fault s [] w word) (walk_fault s [] (walked s.rules [] w word) rest)
        (one_turn w word) (one_walk (walked s.rules [] w word) rest)

one_default : (rows : List Row) (a : Rule) → IsOne (default_fault rows a)
one_default rows a = one_if (has_row a.id rows || is_empty a.defaults) [] (given_default_fault a a.defaults) none
    (one_or (request_kinds (action_of a)) (values_fault a a.defaults) (one_request (action_of a)) (one_text a a.defaults))

one_defaults : (rows : List Row) (rules : List Rule) → IsOne (defaults_fault rows rules)
unfolding defaults_fault
one_defaults rows [] = none
one_defaults rows (a ∷ rest) = one_or (default_fault rows a) (defaults_fault (with_default rows a) rest)
    (one_default rows a) (one_defaults (with_default rows a) rest)

one_checks : (a b c : Bool) → IsOne (check_kinds a b c)
one_checks true b c = single kind.DisplayHelpOnMissingArgumentOrSubcommand
one_checks false true c = single kind.MissingSubcommand
one_checks false false true = single kind.MissingRequiredArgument
one_checks false false false = none

one_level : (s : Shape) → s.is_leaf ≡ true → (h : Held) (words : List Text) → IsOne (level_fault s [] h words false [])
one_level s leaf h words =
    let end = (walk s.rules [] h words).held in
    let settles = settle_fault s.rules s.args_override_self end in
    let defaults = defaults_fault (settled s.rules end).rows s.rules in
    let checks = check_fault s (finished s.rules end) false in
    one_or (walk_fault s [] (walk_from h) words) (or_else settles (or_else defaults checks)) (one_walk s leaf (walk_from h) words)
    (one_or settles (or_else defaults checks) (one_settle s.rules s.args_override_self end)
    (one_or defaults checks (one_defaults (settled s.rules end).rows s.rules) (one_checks _ _ _)))

pub one_kind : (a : App) (words : List Text) → (built a).top.is_leaf ≡ true → (built a).subs ≡ [] → IsOne (fault_of a words)
one_kind a words leaf subs = rw (leaf_fault (built a) nothing_held (argument_words a words) subs)
    (one_level (built a).top leaf nothing_held (argument_words a words))
