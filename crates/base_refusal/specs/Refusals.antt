-- Mechanism, held to the specification by `demand1` (crate `demands`), which says each refusal by its number, place and length.
-- A refusal by its number, the place and the length of the part that it names: document 01, "What is answered, and what stays behind".
use Rattle.std.specs.Prelude.{ℕ}
use Rattle.base_refusal.specs.declared.Refusal.{Refusal}

abbrev pub refusal : ℕ → ℕ → ℕ → Refusal
refusal x i n = record { number = x; place = i; length = n }
