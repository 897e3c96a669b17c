-- Bridge, for `demand2` (crate `demands`).
-- WHEN TWO STAGES AGREE: c over states of the type S, d over states of the type T, for the statements of a body in which names stand for what `at` says. R says which states belong together,
-- P which places the process may go on at; x and y are the states before the step. Each observation is the same, each change leads from states that belong together to such states; each under
-- just the condition under which a lawful statement that is executable makes it.
use Rattle.std.specs.Prelude.{ℕ, ◌≡◌, Bool, true, false, List, length, ℤ, ltb}
use Rattle.base_bytes.specs.Choice.{pick}
use Rattle.base_bytes.specs.Lists.{same}
use Rattle.spec_text.specs.Names.{pid}
use Rattle.spec_grammar.specs.Tree.{Name, action, Tree, leaf, express, assign, increment, decrement, send, receive, assert, print, skip, goto, break, timeout, else, run, set_run, select, loop}
use Rattle.spec_rules.specs.Senses.{Sense, variable, constant, procedure, unknown, is_constant}
use Rattle.spec_rules.specs.Roles.{operand, received}
use Rattle.legal_rules.specs.Expressions.{usable}
use Rattle.spec_rules.specs.Statements.{Place, has, sense}
use Rattle.legal_rules.specs.Statements.{runs}
use Rattle.spec_machine.specs.Stage.{Stage, Ways}
use Rattle.spec_machine.specs.Ready.{ready}
use Rattle.spec_machine.specs.Effect.{Outcome}

abbrev pub is_variable : Sense → Bool
is_variable (variable c a) = true
is_variable constant = false
is_variable (procedure n) = false
is_variable unknown = false

-- a name that can be stored to
unfoldable pub storable : (Name → Sense) → Name → Bool
storable sense w = pick (same w pid) false (is_variable (sense w))

pub record Agrees {S T : Type 0} (R : S → T → Type 0) (P : ℕ → Type 0) (at : Place) (c : Stage S) (x : S) (d : Stage T) (y : T) : Type 0 where
  pub together : R x y
  -- ## what is seen
  pub number : (w : Name) → usable (sense at) operand false w ≡ true → c.scene.number w ≡ d.scene.number w
  pub some : (w : Name) → storable (sense at) w ≡ true → ltb 0 (c.scene.size w) ≡ true
  pub size : (w : Name) → storable (sense at) w ≡ true → c.scene.size w ≡ d.scene.size w
  pub element : (w : Name) (k : ℕ) → storable (sense at) w ≡ true → ltb k (c.scene.size w) ≡ true → c.scene.element w k ≡ d.scene.element w k
  pub made : (v : ℤ) → c.scene.made v ≡ d.scene.made v
  pub waiting : (v : ℤ) → c.scene.made v ≡ true → c.scene.waiting v ≡ d.scene.waiting v
  pub constant : (w : Name) (i : Bool) → usable (sense at) received i w ≡ true → (c.constant w ≡ is_constant (sense at w)) × (d.constant w ≡ is_constant (sense at w))
  pub capacity : (v : ℤ) → c.scene.made v ≡ true → c.capacity v ≡ d.capacity v
  pub fields : (v : ℤ) → c.scene.made v ≡ true → c.fields v ≡ d.fields v
  pub message : (v : ℤ) (k f : ℕ) → c.scene.made v ≡ true → ltb k (c.scene.waiting v) ≡ true → ltb f (c.fields v) ≡ true → c.message v k f ≡ d.message v k f
  pub room : (w : Name) (n : ℕ) → runs at w n ≡ true → c.room w ≡ d.room w
  pub newest : c.newest ≡ d.newest
  -- ## what is changed
  pub store : {a : S} {b : T} → R a b → (w : Name) (k : ℕ) (v : ℤ) → storable (sense at) w ≡ true → ltb k (c.scene.size w) ≡ true → R (c.store w k v a) (d.store w k v b)
  -- behind the others; any that waits
  pub put : (v : ℤ) (k : ℕ) (vs : List ℤ) → c.scene.made v ≡ true → ltb (c.scene.waiting v) (c.capacity v) ≡ true → k ≡ c.scene.waiting v → length vs ≡ c.fields v
      → R (c.put v k vs x) (d.put v k vs y)
  pub take : (v : ℤ) (k : ℕ) → c.scene.made v ≡ true → ltb k (c.scene.waiting v) ≡ true → R (c.take v k x) (d.take v k y)
  pub begin : (w : Name) (vs : List ℤ) → runs at w (length vs) ≡ true → c.room w ≡ true → R (c.begin w vs x) (d.begin w vs y)
  pub go : {a : S} {b : T} → R a b → (n : ℕ) → P n → R (c.go n a) (d.go n b)

-- the ways from a statement lead to such places; `loops` says that it is in a `do`
pub record Leading (P : ℕ → Type 0) (at : Place) (loops : Bool) (h : Ways) : Type 0 where
  pub next : P h.next
  pub out : loops ≡ true → P h.out
  pub label : (w : Name) → has at.labels w ≡ true → P (h.label w)

-- ## what follows
-- the same came of it, and the states after belong together
abbrev pub Related : {S T : Type 0} → (S → T → Type 0) → Outcome S → Outcome T → Type 0
Related R a b = (a.0 ≡ b.0) × R a.1 b.1

-- a statement that may be taken: it is executable, or an `else`; `if` and `do` are none
abbrev pub takable : {S : Type 0} → Stage S → Tree action → Bool
takable c (leaf (express e)) = ready c true (leaf (express e))
takable c (leaf (assign r e)) = true
takable c (leaf (increment r)) = true
takable c (leaf (decrement r)) = true
takable c (leaf (send mk r es)) = ready c true (leaf (send mk r es))
takable c (leaf (receive mk r xs)) = ready c true (leaf (receive mk r xs))
takable c (leaf (assert e)) = true
takable c (leaf (print w es)) = true
takable c (leaf skip) = true
takable c (leaf (goto w)) = true
takable c (leaf break) = true
takable c (leaf timeout) = true
takable c (leaf else) = true
takable c (leaf (run w es)) = ready c true (leaf (run w es))
takable c (leaf (set_run r w es)) = true
takable c (select os) = false
takable c (loop os) = false
