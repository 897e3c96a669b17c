-- Bridge, for `demand2` (crate `demands`): the bodies of a model by the number that tables know their unit by, and the statements in them.
use Rattle.std.specs.Prelude.{ℕ, suc, ◌+◌, ◌≡◌, List, ◌∷◌}
use Rattle.spec_grammar.specs.Tree.{Name, action, sequence, Tree, Group, Body, Activity, Part, process, init, Model}
use Rattle.spec_machine.specs.Sizes.{sum, size_group, size_activity, size_part}
use Rattle.spec_machine.specs.Stage.{Ways}
use Rattle.spec_machine.specs.Program.{Within, label_in, start_in, end_in, sequence_of}

-- `Holds m i u b k`: in the units m, whose numbers begin with i, the unit that is known by the number u (the last of its head) has the body b, whose numbers begin with k
pub data Holds : Model → ℕ → ℕ → Body → ℕ → Type 0 where
  in_process : {x : Activity} {w : Name} {gs : List Group} {b : Body} {m : Model} {i u k : ℕ} → suc u ≡ i + size_activity x → k ≡ suc u + sum size_group gs → Holds (process x w gs b ∷ m) i u b k
  in_init : {b : Body} {m : Model} {i k : ℕ} → k ≡ i + 1 → Holds (init b ∷ m) i i b k
  later : {x : Part} {m : Model} {i u k : ℕ} {b : Body} → Holds m (i + size_part x) u b k → Holds (x ∷ m) i u b k

-- in the model m, the unit of the number u has the statement a at place j, and h are the ways from there
pub record Statement (m : Model) (u : ℕ) (a : Tree action) (j : ℕ) (h : Ways) : Type 0 where
  pub own : Body
  pub at : ℕ
  pub held : Holds m 0 u own at
  pub inside : Within sequence (sequence_of own) (start_in own at) (end_in own at) 0 a j h.next h.out
  pub labels : (w : Name) → h.label w ≡ label_in w (sequence_of own) (start_in own at) 0

-- that unit ends at place j
pub record BodyEnd (m : Model) (u j : ℕ) : Type 0 where
  pub own : Body
  pub at : ℕ
  pub held : Holds m 0 u own at
  pub ends : j ≡ end_in own at
