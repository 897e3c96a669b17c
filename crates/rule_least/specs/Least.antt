-- Mechanism, of proofs alone (proofs/Theorems.antt). That the answer is the least fault is said of the specification's faults: `least-fault` (crate `legal_texts`).
use Rattle.std.specs.Prelude.{ℕ, suc, ◌+◌, ◌≡◌, List}
use Rattle.rule_item.specs.Rules.{bad}

-- no item of k from j on has a fault
pub data Free (cs vs hs ss ts : List ℕ) : ℕ → ℕ → Type 0 where
  done : {j : ℕ} → Free cs vs hs ss ts j 0
  more : {j k : ℕ} → bad cs vs hs ss ts j ≡ 0 → Free cs vs hs ss ts (j + 1) k → Free cs vs hs ss ts j (suc k)
