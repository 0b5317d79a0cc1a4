-- A text to which others were appended, one after the other.
use Rattle.std.proofs.Common.{◌≡◌, ◌∙◌, ℕ, List, ◌++◌, ap, append_assoc}

pub appended : (old one two a b : List ℕ) → one ≡ old ++ a → two ≡ one ++ b → two ≡ old ++ (a ++ b)
appended old one two a b p q = q ∙ ap (λ (z : List ℕ). z ++ b) p ∙ append_assoc old a b

pub appended3 : (o s1 s2 s3 a1 a2 a3 : List ℕ) → s1 ≡ o ++ a1 → s2 ≡ s1 ++ a2 → s3 ≡ s2 ++ a3 → s3 ≡ o ++ (a1 ++ a2 ++ a3)
appended3 o s1 s2 s3 a1 a2 a3 p1 p2 p3 = appended o s2 s3 (a1 ++ a2) a3 (appended o s1 s2 a1 a2 p1 p2) p3

pub appended4 : (o s1 s2 s3 s4 a1 a2 a3 a4 : List ℕ) → s1 ≡ o ++ a1 → s2 ≡ s1 ++ a2 → s3 ≡ s2 ++ a3 → s4 ≡ s3 ++ a4 → s4 ≡ o ++ (a1 ++ a2 ++ a3 ++ a4)
appended4 o s1 s2 s3 s4 a1 a2 a3 a4 p1 p2 p3 p4 = appended o s3 s4 (a1 ++ a2 ++ a3) a4 (appended3 o s1 s2 s3 a1 a2 a3 p1 p2 p3) p4

pub appended5 : (o s1 s2 s3 s4 s5 a1 a2 a3 a4 a5 : List ℕ) → s1 ≡ o ++ a1 → s2 ≡ s1 ++ a2 → s3 ≡ s2 ++ a3 → s4 ≡ s3 ++ a4 → s5 ≡ s4 ++ a5 → s5 ≡ o ++ (a1 ++ a2 ++ a3 ++ a4 ++ a5)
appended5 o s1 s2 s3 s4 s5 a1 a2 a3 a4 a5 p1 p2 p3 p4 p5 = appended o s4 s5 (a1 ++ a2 ++ a3 ++ a4) a5 (appended4 o s1 s2 s3 s4 a1 a2 a3 a4 p1 p2 p3 p4) p5

pub appended6 : (o s1 s2 s3 s4 s5 s6 a1 a2 a3 a4 a5 a6 : List ℕ) → s1 ≡ o ++ a1 → s2 ≡ s1 ++ a2 → s3 ≡ s2 ++ a3 → s4 ≡ s3 ++ a4 → s5 ≡ s4 ++ a5 → s6 ≡ s5 ++ a6 → s6 ≡ o ++ (a1 ++ a2 ++ a3 ++ a4 ++ a5 ++ a6)
appended6 o s1 s2 s3 s4 s5 s6 a1 a2 a3 a4 a5 a6 p1 p2 p3 p4 p5 p6 = appended o s5 s6 (a1 ++ a2 ++ a3 ++ a4 ++ a5) a6 (appended5 o s1 s2 s3 s4 s5 a1 a2 a3 a4 a5 p1 p2 p3 p4 p5) p6

pub appended7 : (o s1 s2 s3 s4 s5 s6 s7 a1 a2 a3 a4 a5 a6 a7 : List ℕ) → s1 ≡ o ++ a1 → s2 ≡ s1 ++ a2 → s3 ≡ s2 ++ a3 → s4 ≡ s3 ++ a4 → s5 ≡ s4 ++ a5 → s6 ≡ s5 ++ a6 → s7 ≡ s6 ++ a7 → s7 ≡ o ++ (a1 ++ a2 ++ a3 ++ a4 ++ a5 ++ a6 ++ a7)
appended7 o s1 s2 s3 s4 s5 s6 s7 a1 a2 a3 a4 a5 a6 a7 p1 p2 p3 p4 p5 p6 p7 = appended o s6 s7 (a1 ++ a2 ++ a3 ++ a4 ++ a5 ++ a6) a7 (appended6 o s1 s2 s3 s4 s5 s6 a1 a2 a3 a4 a5 a6 p1 p2 p3 p4 p5 p6) p7
