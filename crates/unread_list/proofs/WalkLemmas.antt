-- A sheet's parts, a step at a time.
use Rattle.std.proofs.Common.{◌≡◌, ℕ, zero, suc, ◌+◌, ◌-◌, ◌∙◌, List, [], ◌∷◌, ◌++◌, length, refl, ap, sym, length-append, arith}
use Rattle.std.specs.Prelude.{option_map, option_to_list}
use Rattle.css_tok.specs.Tokens.{Item, tokens_of, tokens_from}
use Rattle.unread_list.specs.Lines.{feeds, feeds_in, left_in, Passes}
use Rattle.unread_list.specs.Parts.{StepOf, step_at, parts_from, parts_of, start}
use Rattle.unread_list.specs.Steps.{IsStep, placed_in}
use Rattle.unread_list.specs.declared.reader.Lines.{Lines}
use Rattle.unread_list.specs.declared.part.Step.{Step}
use Rattle.unread_list.specs.declared.part.State.{State}

tokens_some : (bs : List ℕ) → tokens_of bs ≡ [] → bs ≡ []
unfolding tokens_of tokens_from
tokens_some [] e = refl
tokens_some (b ∷ bs) e = absurd (cc)

-- tokens that are left of a step are passed
skipped : (n : ℕ) (front us : List Item) (line : ℕ) (s : State) → n ≡ length front → parts_from n line s (front ++ us) ≡ parts_from 0 (line + feeds_in front) s us
unfolding parts_from feeds_in
skipped zero [] us line s e = ap (λ k. parts_from 0 k s us) (omega arith)
skipped zero (t ∷ front) us line s e = absurd (omega (arith, e))
skipped (suc n) [] us line s e = absurd (omega (arith, e))
skipped (suc n) (t ∷ front) us line s e = skipped n front us (line + feeds t.slice) s (omega (arith, e)) ∙ ap (λ k. parts_from 0 k s us) (omega arith)

first_step : (line : ℕ) (s : State) (t : Item) (ts : List Item) → parts_from 0 line s (t ∷ ts) ≡ option_to_list (step_at s line (t ∷ ts)).part ++ parts_from (length ts - length (step_at s line (t ∷ ts)).rest) (line + feeds t.slice) (step_at s line (t ∷ ts)).state ts
unfolding parts_from
first_step line s t ts = refl

no_more : (line : ℕ) (s : State) → parts_from 0 line s [] ≡ []
unfolding parts_from
no_more line s = refl

-- after a step that passed the first token and others come the parts of what is left
passed_on : (line next : ℕ) (s : State) (t : Item) (front us : List Item) (step : StepOf) → step_at s line (t ∷ (front ++ us)) ≡ step → us ≡ step.rest →
    next ≡ line + feeds_in (t ∷ front) → parts_from 0 line s (t ∷ (front ++ us)) ≡ option_to_list step.part ++ parts_from 0 next step.state us
unfolding feeds_in
passed_on line next s t front us step is rest lines =
    let count : length (front ++ us) - length step.rest ≡ length front = let e = ap length rest in let sum = length-append front us in omega (arith, e, sum) in
    let more : parts_from (length (front ++ us) - length step.rest) (line + feeds t.slice) step.state (front ++ us) ≡ parts_from 0 next step.state us =
    skipped (length (front ++ us) - length step.rest) front us (line + feeds t.slice) step.state count ∙ ap (λ k. parts_from 0 k step.state us) (omega (arith, lines)) in
    rw is at (first_step line s t (front ++ us)) ∙ ap (λ z. option_to_list step.part ++ z) more

goes_list : (line next : ℕ) (s : State) (ts us front : List Item) (step : StepOf) → step_at s line ts ≡ step → us ≡ step.rest → ts ≡ front ++ us → (front ≡ [] → ts ≡ []) →
    next ≡ line + feeds_in front → (ts ≡ [] → ⊥) → parts_from 0 line s ts ≡ option_to_list step.part ++ parts_from 0 next step.state us
goes_list line next s ts us [] step is rest parts some lines more = absurd (more (some refl))
goes_list line next s ts us (t ∷ front) step is rest parts some lines more =
    ap (parts_from 0 line s) parts ∙ passed_on line next s t front us step (ap (step_at s line) (sym parts) ∙ is) rest lines

-- the parts from one place are those of a step, and those from the next place
pub goes : (lines now : Lines) (s : State) (r : Step) → (lines.tokens.rest.now ≡ [] → ⊥) → IsStep (step_at s lines.line (left_in lines)) r now → Passes (left_in lines) (left_in now) lines.line now.line →
    parts_from 0 lines.line s (left_in lines) ≡ option_to_list (option_map placed_in r.part) ++ parts_from 0 now.line r.state (left_in now)
goes lines now s r some step p =
    let all = goes_list lines.line now.line s (left_in lines) (left_in now) p.front (step_at s lines.line (left_in lines)) refl step.rest p.is p.some p.lines (λ none. some (tokens_some lines.tokens.rest.now none)) in
    rw (step.part, step.state) all

pub begins : (text : List ℕ) → parts_of text ≡ parts_from 0 1 start (tokens_of text)
unfolding parts_of
begins text = refl

pub ends : (lines : Lines) (s : State) → lines.tokens.rest.now ≡ [] → parts_from 0 lines.line s (left_in lines) ≡ []
unfolding tokens_of tokens_from
ends lines s none = ap (λ z. parts_from 0 lines.line s (tokens_of z)) none ∙ no_more lines.line s
