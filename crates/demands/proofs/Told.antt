-- WHAT IS SAID, told apart: a refusal is no value, and has one number.
use Prim.Native.Nat.{ℕ}
use native.Mathlib.Omega.{arith}
use mathlib.Core.Path.{◌≡◌, ap}
use mathlib.Core.List.{List, []}
use Rattle.demands.specs.Said.{Said, refusal, values}

abbrev pub is_refusal : Said → ℕ
is_refusal (refusal x i n) = 1
is_refusal (values l) = 0

abbrev pub number : Said → ℕ
number (refusal x i n) = x
number (values l) = 0

abbrev pub values_in : Said → List ℕ
values_in (refusal x i n) = []
values_in (values l) = l

pub not-values : {X : Type 0} {l : List ℕ} {x i n : ℕ} → values l ≡ refusal x i n → X
not-values e = absurd (let z : ◌≡◌ {A = ℕ} 0 1 = ap is_refusal e in omega arith)

pub not_refusal : {X : Type 0} {l : List ℕ} {x i n : ℕ} → refusal x i n ≡ values l → X
not_refusal e = absurd (let z : ◌≡◌ {A = ℕ} 1 0 = ap is_refusal e in omega arith)
