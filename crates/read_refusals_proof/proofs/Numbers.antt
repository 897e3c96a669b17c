-- Grammar answers 2 or 3.
use Prim.Native.Nat.{ℕ, ◌≤◌}
use mathlib.Core.Path.{◌≡◌, sym}
use mathlib.Core.Bool.{Bool, true, false}
use mathlib.Core.Logic.{◌⊎◌, inl, inr}
use mathlib.Core.List.{List}
use native.Mathlib.Omega.{arith}
use borrow.Author.Tests.{le-ltb}
use lib.Dec.{leb}
use lib.ListN.{length}
use Rattle.base_ceilings.specs.Ceilings.{items_most, tokens_most}
use Rattle.base_bytes.specs.Choice.{pick}
use Rattle.parse_machine.specs.Machine.{Outcome, done, spent, machine}
use Rattle.parse_machine.specs.Answer.{items, refuse, judged, parsed}
use Rattle.parse_machine.specs.Depth.{too_deep}
use Rattle.parse_machine.proofs.Never.{Fine, never_spent}
use Rattle.parse_machine.specs.Machine as machines

pub grammar_number : (ks : List ℕ) (x k : ℕ) → length ks ≤ tokens_most → parsed ks items_most ≡ refuse x k → (x ≡ 2) ⊎ (x ≡ 3)
unfolding parsed
grammar_number ks x k short e = go (machine ks) (never_spent ks short) (rw (le-ltb tokens_most (length ks) short) at e)
  where
    number_of : {y j : ℕ} → refuse y j ≡ refuse x k → y ≡ x
    number_of e = cc

    over : (b : Bool) (d : ℕ) (o : List ℕ) → pick b (refuse 2 d) (items o) ≡ refuse x k → (x ≡ 2) ⊎ (x ≡ 3)
    over true d o e = inl (sym (number_of e))
    over false d o e = absurd (let z : ◌≡◌ {A = ℕ} 0 1 = cc in omega arith)

    out : (b : Bool) (d i : ℕ) → pick b (refuse 2 d) (refuse 3 i) ≡ refuse x k → (x ≡ 2) ⊎ (x ≡ 3)
    out true d i e = inl (sym (number_of e))
    out false d i e = inr (sym (number_of e))

    go : (o : Outcome) → Fine o → judged (too_deep ks) (length ks) o ≡ refuse x k → (x ≡ 2) ⊎ (x ≡ 3)
    go (done o) f e = over (leb (too_deep ks) (length ks)) (too_deep ks) o e
    go (machines.refused i) f e = out (leb (too_deep ks) i) (too_deep ks) i e
    go spent f e = absurd f
