use Rattle.std.proofs.Common.{◌≡◌, ◌∙◌, ◌<◌, ◌≤◌, ℕ, zero, suc, List, length, Option, Some, None, is_some, inl, inr, ap, arith, ◌+ℤ◌, ◌≤ℤ◌, ◌∷◌, ◌++◌, [], ℤ, Bool, true, false, refl, sym, subst, ◌||◌}
use Rattle.std.proofs.lemmas.Int.{to_z-of_z}
use mir.Val.{SFits}
use mir.Syntax.{w64}
use Rattle.cuts.specs.declared.look.Look.{Look}
use Rattle.cuts.specs.declared.row.SolidRow.{SolidRow}
use Rattle.cuts.specs.Prefixes.{HasMissed, HasPlaced, IsGoing, IsStacked, look_by}
use Rattle.cuts.specs.Seen.{seen_by}
use Rattle.cuts.proofs.LookLemmas.{took_missed, took_miss, seam_misses, seam_fits}
use Rattle.cuts.specs.Short.{short_by}
use Rattle.cuts.proofs.ShortLemmas.{short_missed, short_miss, short_going}
use Rattle.cuts.proofs.look.Look.see.Goals as goal

above : (n : ℕ) → (n ≡ 0 → ⊥) → 0 < n
above zero f = absurd (f refl)
above (suc n) f = omega arith

has_some : (rows : List SolidRow) (b : Bool) → (b ≡ false → rows ≡ []) → 0 < length rows → b ≡ true
has_some rows true f l = refl
has_some rows false f l = let e : length rows ≡ 0 = ap (λ (rs : List SolidRow). length rs) (f refl) in absurd (omega (arith, e))

-- before a point without room it is told how far the solids reach
going_placed : (kept : Bool) (height : ℤ) (rows : List SolidRow) (l : Look) → l.left ≡ None → IsStacked kept height rows l → HasPlaced kept rows l
going_placed kept height rows l none (inl placed) = placed
going_placed kept height rows l none (inr below) = absurd (let f : false ≡ true = sym (ap (λ (o : Option ℕ). is_some o) none) ∙ below.missed in cc)

pub returns-in-Some-clause-seen : goal.returns-in-Some-clause-seen
returns-in-Some-clause-seen c = λ rows list n told look.
    let m : HasMissed c.args.room.now.kept c.args.room.now.height list n rows c.in-Some.left = subst (look_by c.args.room.now.kept c.args.room.now.height list n rows c.args.self.now) c.in-Some.is look in
    took_missed c.args.room.now.kept c.args.room.now.height list n rows c.args.row.now c.in-Some.left c.left_after.result c.left_after.ensures.least m

pub returns-then-misses-clause-seen : goal.returns-then-misses-clause-seen
returns-then-misses-clause-seen c = λ rows list n told look.
    let kept : Bool = c.args.room.now.kept in
    let height : ℤ = c.args.room.now.height in
    let going : IsGoing kept height list n rows c.args.self.now = subst (look_by kept height list n rows c.args.self.now) c.in_default.is look in
    let area : SFits w64 c.args.area = c.ranges.area in
    let point = c.misses.ensures.point c.if-misses.true in
    let fitted : c.args.self.now.fitted ≡ true → ¬ ((c.args.self.now.reach.extent +ℤ c.args.area) ≤ℤ height) = simp to_z-of_z at (c.misses.ensures.fitted c.if-misses.true) in
    let none : c.args.self.now.fitted ≡ false → ¬ ((c.args.self.now.reach.extent +ℤ c.args.room.now.carried) ≤ℤ height) = c.misses.ensures.none c.if-misses.true in
    subst (HasMissed kept height list n (rows ++ c.args.row.now ∷ [])) (sym c.saturating_sub.ensures)
    (took_miss kept height list n rows c.args.row.now c.args.self.now c.least_with-self.result going c.least_with-self.ensures.own c.least_with-self.ensures.kept point.1 point.0
    (seam_misses kept height list n rows c.args.row.now c.args.self.now c.args.area c.args.room.now.carried going told c.requires.read.0.least point.0 fitted none))

pub returns-clause-seen : goal.returns-clause-seen
returns-clause-seen c = λ rows list n told look.
    let kept : Bool = c.args.room.now.kept in
    let height : ℤ = c.args.room.now.height in
    let old : Look = c.args.self.now in
    let new : Look = record { some = old.some; reach = old.reach; fitted = c.fits.result || old.fitted; least = c.least_with-self.result; left = old.left } in
    let going : IsGoing kept height list n rows old = subst (look_by kept height list n rows old) c.in_default.is look in
    let area : SFits w64 c.args.area = c.ranges.area in
    let fit : c.fits.result ≡ true → ((old.reach.extent +ℤ c.args.row.now.seam.tail) +ℤ c.args.area) ≤ℤ height = simp to_z-of_z at c.fits.ensures.fits in
    let fitted = seam_fits kept height list n rows c.args.row.now old c.args.area c.args.room.now.carried going told c.requires.read.0.least c.fits.result c.requires.small.tail.0 c.requires.area.low c.fits.ensures.point fit in
    subst (seen_by kept height list n rows c.args.row.now old new) (sym c.in_default.is) (record { going = going; own = c.least_with-self.ensures.own; more = c.least_with-self.ensures.kept; fitted = fitted })

pub returns-in-Some-clause-short : goal.returns-in-Some-clause-short
returns-in-Some-clause-short c = λ rows widest placed few more short.
    let kept : Bool = c.args.room.now.kept in
    let height : ℤ = c.args.room.now.height in
    let s : short_by kept height widest rows (Some c.in-Some.left) = subst (short_by kept height widest rows) c.in-Some.is short.short in
    let some : 0 < c.in-Some.left = above c.in-Some.left (λ e. more (c.in-Some.is ∙ ap (λ (m : ℕ). Some m) e)) in
    record { least = short.least; short = short_missed kept height widest rows c.args.row.now c.in-Some.left c.left_after.result (c.left_after.ensures.less some) s }

pub returns-then-misses-clause-short : goal.returns-then-misses-clause-short
returns-then-misses-clause-short c = λ rows widest placed few more short.
    let kept : Bool = c.args.room.now.kept in
    let height : ℤ = c.args.room.now.height in
    let s : short_by kept height widest rows None = subst (short_by kept height widest rows) c.in_default.is short.short in
    let least : c.least_with-self.result ≤ widest = c.least_with-self.ensures.most widest short.least few in
    record { least = least; short = subst (λ (m : ℕ). short_by kept height widest (rows ++ c.args.row.now ∷ []) (Some m)) (sym c.saturating_sub.ensures) (short_miss kept height widest rows c.args.row.now c.least_with-self.result least s) }

pub returns-clause-short : goal.returns-clause-short
returns-clause-short c = λ rows widest placed few more short.
    let kept : Bool = c.args.room.now.kept in
    let height : ℤ = c.args.room.now.height in
    let s : short_by kept height widest rows None = subst (short_by kept height widest rows) c.in_default.is short.short in
    let least : c.least_with-self.result ≤ widest = c.least_with-self.ensures.most widest short.least few in
    let is = going_placed kept height rows c.args.self.now c.in_default.is placed in
    record {
      least = least;
      short = subst (short_by kept height widest (rows ++ c.args.row.now ∷ [])) (sym c.in_default.is) (short_going kept height widest rows c.args.row.now (λ b l. subst (λ (e : ℤ). e ≤ℤ height) is.extent (c.misses.ensures.fits c.if-misses.false (has_some rows c.args.self.now.some is.none l) b)) s);
    }
