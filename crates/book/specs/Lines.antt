-- How many lines a run fills at most: a line is filled once, and not where the pass before placed it.
use Rattle.std.specs.Prelude.{ℕ, List, Result, Ok, Err}
use Rattle.bk_io.specs.Shelf.{Told}
use Rattle.bk_num.specs.declared.ids.NodeId.{NodeId}
use Rattle.css_page.specs.declared.rules.PageRule.{PageRule}
use Rattle.gen_text.specs.References.{AreTargets}
use Rattle.passes.specs.Looked.{TakesFewSteps}
use Rattle.passes.specs.Work.{Work}
use Rattle.passes.specs.declared.settle.Settled.{Settled}
use Rattle.book.specs.Document.{Document}
use Rattle.book.specs.Expect.{Expect, given}
use Rattle.book.specs.Flow.{IsWorkOf}
use Rattle.book.specs.Laid.{work_in}
use Rattle.book.specs.Run.{IsExpected}
use Rattle.book.specs.declared.outcome.Outcome.{Outcome}
use Rattle.book.specs.declared.outcome.Outcome.TheVariants as out
use Rattle.book.specs.declared.styled.Styled.{Styled}

-- so many passes over a document in its styles take few steps
pub record TakesFewBy (s : Styled) (passes old new : ℕ) : Type 0 where
  pub targets : List NodeId
  pub are : AreTargets s.dom s.styles targets
  pub few : TakesFewSteps (work_in s targets) passes old new

-- so do the passes that settle, and those that don't
abbrev pub SettlesInFew : Styled → Result Settled Outcome → ℕ → ℕ → Type 0
SettlesInFew s (Ok laid) old new = TakesFewBy s laid.passes old new
SettlesInFew s (Err (out.NotSettled target before after)) old new = TakesFewBy s s.passes old new
SettlesInFew s (Err o) old new = Unit {0}

-- the same by the answer
abbrev pub EndsInFew : Styled → Outcome → ℕ → ℕ → Type 0
EndsInFew s (out.Done pages passes) old new = TakesFewBy s passes old new
EndsInFew s (out.NotSettled target before after) old new = TakesFewBy s s.passes old new
EndsInFew s o old new = Unit {0}

-- and over a document
pub record TakesFew (d : Document) (passes old new : ℕ) : Type 0 where
  pub rules : List PageRule
  pub names : List (List ℕ)
  pub work : Work
  pub of : IsWorkOf d rules names work
  pub few : TakesFewSteps work passes old new

abbrev pub FillsFew : Document → Outcome → ℕ → ℕ → Type 0
FillsFew d (out.Done pages passes) old new = TakesFew d passes old new
FillsFew d (out.NotSettled target before after) old new = TakesFew d d.passes old new
FillsFew d o old new = Unit {0}

-- where a document is expected, a run that is Done, or that tells that page references don't settle, takes no more
-- steps than its passes may look at lines that the pass before didn't place
abbrev pub MeetsInFew : Expect Document → Outcome → ℕ → ℕ → Type 0
MeetsInFew (given d) o old new = FillsFew d o old new
MeetsInFew e o old new = Unit {0}

-- what is expected of the words over the shelf is met so
abbrev pub AnswersInFew : List (List ℕ) → (List ℕ → Told) → Outcome → ℕ → ℕ → Type 0
AnswersInFew ws told o old new = (e : Expect Document) × IsExpected ws told e × MeetsInFew e o old new
