-- What holds of a value holds of what a box with it contains.
use Rattle.std.proofs.Common.{◌≡◌, Box, Global, IfOk, Result, Ok, Err, subst, sym}

pub boxed_has : {T : Type 0} {E : Type 0} (r : Result (Box T Global) E) (x : T) (P : T → Type 0) → IfOk r (λ b. b.value ≡ x) → P x → IfOk r (λ b. P b.value)
boxed_has (Ok b) x P e p = subst P (sym e) p
boxed_has (Err e) x P h p = tt
