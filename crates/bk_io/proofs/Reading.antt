-- One fetch after another: the causes, and the bytes that came.
use Rattle.std.proofs.Common.{◌≡◌, ℕ, ◌+◌, ◌≤◌, List, ◌++◌, take, drop, length, Option, Err, inl, inr, arith, refl, ap, ◌∙◌}
use Rattle.std.proofs.Math.Seq.{take-add}
use Rattle.std.proofs.lemmas.List.{take_all, length-take}
use Rattle.bk_io.specs.Causes.{Rose}
use Rattle.bk_io.specs.Shelf.{Told, absent, HasFault, ReadAnswers, read_err_of, Fetches}
use Rattle.bk_io.specs.declared.shelf.FetchErr.{FetchErr}
use Rattle.bk_io.specs.declared.shelf.FetchErr.TheVariants as fetching
use Rattle.bk_io.specs.declared.read_all.ReadErr.TheVariants as reading

-- a count that rose since a later moment rose since an earlier one
pub Rose-since : (before mid now : ℕ) → before ≤ mid → Rose mid now → Rose before now
Rose-since before mid now h r = omega arith

-- the fault of the last call is that of all
pub HasFault-since : {told : Told} {name : List ℕ} {mid now : ℕ} {last : Option (List ℕ)} {P : Type 0} (before : ℕ) (Q : Type 0) → before ≤ mid → (told ≡ absent → mid ≡ before) → HasFault told name mid now last P → (Q → P) → HasFault told name before now last Q
HasFault-since {mid = mid} {now = now} before Q h a f q = record {
  later = omega (arith, f.later);
  failed = λ x. elim (f.failed (q x)) [ inl e ↦ inl e | inr r ↦ inr (Rose-since before mid now h r.0, r.1) ];
  absent = λ e. f.absent e ∙ a e;
}

-- a refused fetch answers nothing
pub ReadAnswers-refused : (told : Told) (limit : ℕ) (e : FetchErr) → ReadAnswers told limit (Err (read_err_of e))
ReadAnswers-refused told limit fetching.Failed = tt
ReadAnswers-refused told limit fetching.NoMemory = tt

-- what failed in the read failed in the fetch
pub failed_by_fetch : (e : FetchErr) → read_err_of e ≡ reading.Failed → e ≡ fetching.Failed
failed_by_fetch fetching.Failed h = refl
failed_by_fetch fetching.NoMemory h = absurd (cc)

-- the bytes after one more fetch
pub bytes_more : (file : List ℕ) (n count m : ℕ) (have given now : List ℕ) → have ≡ take n file → length given ≡ count → Fetches file n given → now ≡ have ++ given → m ≡ n + count → now ≡ take m file
bytes_more file n count m have given now h l f e k = rw (e, k, h, take-add) (ap (λ x. take n file ++ x) (f.bytes ∙ ap (λ j. take j (drop n file)) l))

-- where no more came, all had come
pub all_fetched : (file : List ℕ) (n : ℕ) (have given : List ℕ) → have ≡ take n file → length given ≡ 0 → Fetches file n given → have ≡ file
all_fetched file n have given h l f = h ∙ take_all n file (f.end l)

-- a front of the file is no longer than the file
pub length-front : (file front : List ℕ) (n : ℕ) → front ≡ take n file → length front ≤ length file
length-front file front n h = rw (h, length-take) (omega arith)
