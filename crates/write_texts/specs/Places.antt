-- Mechanism, of contracts alone: no theorem holds it to the specification; how the arrays of the code show a stack and a list of tokens.
-- A stack and a list of tokens that grow downwards in lent arrays: what they hold begins at a place.
use Rattle.std.specs.Prelude.{◌≡◌, List, ℕ, ◌+◌, ◌≤◌, length, drop}
use Rattle.write_texts.specs.Turning.{kept, told}

-- a stack that began at sp in old begins at r in new, holds st, and grew by at most n
pub record Pushed (old : List ℕ) (sp : ℕ) (new : List ℕ) (r : ℕ) (st : List ℕ) (n : ℕ) : Type 0 where
  pub holds : drop r new ≡ st
  pub low : sp ≤ r + n
  pub high : r ≤ sp
  pub size : length new ≡ length old

-- the tokens on top of the stack that began at sp are now in front of the tokens that began at tp
pub record Flushed (stack : List ℕ) (sp : ℕ) (old : List ℕ) (tp : ℕ) (new : List ℕ) (p q : ℕ) : Type 0 where
  pub left : drop p stack ≡ kept (drop sp stack)
  pub written : drop q new ≡ told (λ v. v) (drop sp stack) (drop tp old)
  pub moved : p + q ≡ sp + tp
  pub less : sp ≤ p
  pub within : p ≤ length stack
  pub size : length new ≡ length old
