-- SOMETHING COMES OF EVERY STEP THAT MAY BE TAKEN: it is done, or it fails.
use Rattle.std.specs.Prelude.{Result, Ok, Err}
use Prim.Native.Nat.{ℕ}
use mathlib.Core.Path.{◌≡◌, refl, sym as inv}
use mathlib.Core.Bool.{Bool, true, false}
use mathlib.Core.List.{List}
use lib.ListN.{length}
use lib.IntN.{ℤ, pos, negsuc}
use Rattle.base_bytes.specs.Choice.{pick}
use Rattle.base_bytes.proofs.Tests.{true_false}
use Rattle.base_values.specs.Operators.{is_true}
use Rattle.base_outcome.specs.declared.Taken.{Taken}
use Rattle.base_outcome.specs.declared.Taken.TheVariants.{Done, Refuted, Faulted, Idle}
use Rattle.base_values.specs.declared.Fault.{Fault}
use Rattle.spec_grammar.specs.Tree.{Name, Received, action, Tree, leaf, express, assign, increment, decrement, send, receive, assert, print, skip, goto, break, timeout, else, run, set_run, select, loop}
use Rattle.spec_machine.specs.Eval.{eval}
use Rattle.spec_machine.specs.Stage.{Stage, Ways}
use Rattle.spec_machine.specs.Arguments.{name_of, Aim, hit, miss, aim, Reach, channel, astray, reach, WorkedOut, all, stopped, values, finding, Aims, hits, missed, targets}
use Rattle.spec_machine.specs.Messages.{Finding, found, none, spoilt}
use Rattle.spec_machine.specs.Ready.{finds, receivable, ready}
use Rattle.spec_machine.specs.Effect.{Outcome, expressed_by, asserted_by, assigned_by, stepped_by, sent_by, received_at, received_if, received_by, printed_by, ran_by, set_run_by, effect}
use Rattle.agree_transfer.specs.Agrees.{takable}

abbrev pub Busy : Taken → Type 0
Busy Done = Unit {0}
Busy Refuted = Unit {0}
Busy (Faulted f) = Unit {0}
Busy Idle = ⊥

module _ {S : Type 0} (c : Stage S) (h : Ways) (s : S) where
  expressed : (x : Result ℤ Fault) → Busy (expressed_by c h.next s x).0
  expressed (Ok v) = tt
  expressed (Err f) = tt

  asserted : (x : Result ℤ Fault) → Busy (asserted_by c h.next s x).0
  asserted (Ok v) = go (is_true v)
    where
      go : (b : Bool) → Busy (pick {A = Outcome S} b (Done, c.go h.next s) (Refuted, s)).0
      go true = tt
      go false = tt
  asserted (Err f) = tt

  assigned : (w : Name) (x : Result ℤ Fault) (a : Aim) → Busy (assigned_by c h.next s w x a).0
  assigned w (Ok v) (hit k) = tt
  assigned w (Err f) (hit k) = tt
  assigned w (Ok v) (miss g) = tt
  assigned w (Err f) (miss g) = tt

  stepped : (w : Name) (d : ℤ) (a : Aim) → Busy (stepped_by c h.next s w d a).0
  stepped w d (hit k) = tt
  stepped w d (miss f) = tt

  sent : (vs : WorkedOut) (r : Reach) → Busy (sent_by c h.next s vs r).0
  sent (all vs) (channel v) = tt
  sent (stopped f) (channel v) = tt
  sent (all vs) (astray f) = tt
  sent (stopped f) (astray g) = tt

  received_at_lem : (v : ℤ) (k : ℕ) (xs : List Received) (ks : Aims) → Busy (received_at c h.next s v k xs ks).0
  received_at_lem v k xs (hits ks) = tt
  received_at_lem v k xs (missed f) = tt

  received_if_lem : (v : ℤ) (xs : List Received) (z : Finding) → finds z ≡ true → Busy (received_if c h.next s v xs z).0
  received_if_lem v xs (found k) e = received_at_lem v k xs (targets c xs)
  received_if_lem v xs none e = absurd (true_false (inv e))
  received_if_lem v xs (spoilt f) e = tt

  received : (xs : List Received) (r : Reach) → receivable c xs r ≡ true → Busy (received_by c h.next s xs r).0
  received xs (channel v) e = received_if_lem v xs (finding c v xs) e
  received xs (astray f) e = tt

  printed : (vs : WorkedOut) → Busy (printed_by c h.next s vs).0
  printed (all vs) = tt
  printed (stopped f) = tt

  ran : (w : Name) (vs : WorkedOut) (b : Bool) → b ≡ true → Busy (pick {A = Outcome S} b (ran_by c h.next s w vs) (Idle, s)).0
  ran w (all vs) true e = tt
  ran w (stopped f) true e = tt
  ran w vs false e = absurd (true_false (inv e))

  set-ran : (x w : Name) (vs : WorkedOut) (a : Aim) (b : Bool) → c.room w ≡ b → Busy (set_run_by c h.next s x w vs a).0
  set-ran x w vs (miss f) b e = tt
  set-ran x w (all vs) (hit k) true e = rw e tt
  set-ran x w (stopped f) (hit k) true e = rw e tt
  set-ran x w vs (hit k) false e = rw e tt

  pub busy : (a : Tree action) → takable c a ≡ true → Busy (effect c h s a).0
  unfolding effect ready
  busy (leaf (express e)) k = expressed (eval c.scene e)
  busy (leaf (assign r e)) k = assigned (name_of r) (eval c.scene e) (aim c.scene r)
  busy (leaf (increment r)) k = stepped (name_of r) (pos 1) (aim c.scene r)
  busy (leaf (decrement r)) k = stepped (name_of r) (negsuc 0) (aim c.scene r)
  busy (leaf (send mk r es)) k = sent (values c.scene es) (reach c r (length es))
  busy (leaf (receive mk r xs)) k = received xs (reach c r (length xs)) k
  busy (leaf (assert e)) k = asserted (eval c.scene e)
  busy (leaf (print w es)) k = printed (values c.scene es)
  busy (leaf skip) k = tt
  busy (leaf (goto w)) k = tt
  busy (leaf break) k = tt
  busy (leaf timeout) k = tt
  busy (leaf else) k = tt
  busy (leaf (run w es)) k = ran w (values c.scene es) (c.room w) k
  busy (leaf (set_run r w es)) k = set-ran (name_of r) w (values c.scene es) (aim c.scene r) (c.room w) refl
  busy (select os) k = absurd (true_false (inv k))
  busy (loop os) k = absurd (true_false (inv k))
