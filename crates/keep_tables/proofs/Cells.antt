-- Items that declare global or local variables.
use Prim.Native.Nat.{ℕ}
use mathlib.Core.Path.{◌≡◌}
use mathlib.Core.Bool.{true}
use mathlib.Core.List.{List}
use mathlib.Core.Logic.{◌⊎◌, inl, inr}
use lib.Dec.{eqb}
use borrow.Author.Tests.{eqb-true}
use Rattle.base_codes.specs.Codes.{c_declared, c_parameter}
use Rattle.base_bytes.proofs.Tests.{either_true}
use Rattle.table_layout.specs.Access.{code_of}
use Rattle.state_types.specs.Fits.{is_local}

pub local_is : (t : List ℕ) (d : ℕ) → is_local t d ≡ true → (code_of t d ≡ c_declared) ⊎ (code_of t d ≡ c_parameter)
local_is t d e = go (either_true (eqb (code_of t d) c_declared) (eqb (code_of t d) c_parameter) e)
  where
    go : (eqb (code_of t d) c_declared ≡ true) ⊎ (eqb (code_of t d) c_parameter ≡ true) → (code_of t d ≡ c_declared) ⊎ (code_of t d ≡ c_parameter)
    go (inl a) = inl (eqb-true (code_of t d) c_declared a)
    go (inr a) = inr (eqb-true (code_of t d) c_parameter a)
