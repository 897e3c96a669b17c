-- Document 01, "What is answered": "places that belong to the process's proctype or its end". The places of a unit.
use Rattle.std.specs.Prelude.{ℕ, ◌≡◌}
use Rattle.spec_grammar.specs.Tree.{action, sequence, Tree, Part, mtypes, global, process, init, Model}
use Rattle.spec_machine.specs.Program.{Within, start_in, end_in, sequence_of}
use Rattle.spec_machine.specs.Names.{unit_at}
use Rattle.spec_machine.specs.Begins.{items_before, body_in, body_of}

-- a unit with a body
abbrev pub Bodied : Part → Type 0
Bodied (mtypes ws) = ⊥
Bodied (global d) = ⊥
Bodied (process a w gs b) = Unit {0}
Bodied (init b) = Unit {0}

-- where the numbers of its body begin
abbrev pub body_at : Model → ℕ → ℕ
body_at m k = body_in (unit_at m k) (items_before m k)

abbrev pub start_of : Model → ℕ → ℕ
start_of m k = start_in (body_of (unit_at m k)) (body_at m k)

abbrev pub end_of : Model → ℕ → ℕ
end_of m k = end_in (body_of (unit_at m k)) (body_at m k)

-- in unit k the statement x stands at place j, place n follows it, and place o is behind its loop
abbrev pub At : Model → ℕ → Tree action → ℕ → ℕ → ℕ → Type 0
At m k x j n o = Within sequence (sequence_of (body_of (unit_at m k))) (start_of m k) (end_of m k) 0 x j n o

pub data Belongs (m : Model) (k j : ℕ) : Type 0 where
  ends : Bodied (unit_at m k) → j ≡ end_of m k → Belongs m k j
  stands : {x : Tree action} {n o : ℕ} → Bodied (unit_at m k) → At m k x j n o → Belongs m k j
