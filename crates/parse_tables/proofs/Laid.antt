-- A table laid over an array of its own length is the table. Assumes nothing.
use Prim.Native.Nat.{ℕ}
use mathlib.Core.Path.{◌≡◌, refl}
use mathlib.Core.List.{List}
use lib.ListN.{length}
use Rattle.base_bytes.specs.Lists.{pasted}
use Rattle.base_bytes.proofs.Lists.{paste_whole}
use Rattle.parse_tables.specs.Tables.{choices, rights}

choices_long : length choices ≡ 5476
unfolding choices
choices_long = refl

pub choices-laid : (ys : List ℕ) → length ys ≡ 5476 → pasted 5476 choices ys ≡ choices
choices-laid ys e = paste_whole 5476 choices ys choices_long e

rights_long : length rights ≡ 2275
unfolding rights
rights_long = refl

pub rights-laid : (ys : List ℕ) → length ys ≡ 2275 → pasted 2275 rights ys ≡ rights
rights-laid ys e = paste_whole 2275 rights ys rights_long e
