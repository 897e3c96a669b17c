-- WHAT A STEP DID, in the order in which it was done: the stores, messages and processes that the statement's taking is made of. What the machine does is these deeds one after the other and nothing else
-- (`deeds_done`, proofs/Deeds.antt), so an account told from them tells what was done.
use Rattle.std.specs.Prelude.{ℕ, ◌+◌, List, [], ◌∷◌, ◌++◌, length, ℤ, pos, negsuc, ◌+ℤ◌, Result, Ok, Err}
use Rattle.base_bytes.specs.Choice.{pick}
use Rattle.base_values.specs.Bits.{wrap32}
use Rattle.base_values.specs.declared.Fault.{Fault}
use Rattle.spec_grammar.specs.Tree.{Name, Ref, Received, into, equal, exactly, exactly_true, exactly_false, action, Tree, leaf, express, assign, increment, decrement, send, receive, assert, print, skip, goto, break, timeout, else, run, set_run, select, loop, Leaf}
use Rattle.spec_machine.specs.Eval.{eval}
use Rattle.spec_machine.specs.Stage.{Message, Stage, Ways}
use Rattle.spec_machine.specs.Arguments.{name_of, Aim, hit, miss, aim, Reach, channel, astray, reach, WorkedOut, all, stopped, values, finding, Aims, hits, missed, targets}
use Rattle.spec_machine.specs.Messages.{Finding, found, none, spoilt}

pub data Deed : Type 0 where
  -- number k of a variable gets a value; the reference is that of the text
  stored : Ref → ℕ → ℤ → Deed
  -- a message of these values becomes message k of a channel
  sent : ℤ → ℕ → List ℤ → Deed
  -- message k of a channel goes out
  received : ℤ → ℕ → Deed
  -- a process of this proctype begins, with these arguments
  started : Name → List ℤ → Deed

module _ {S : Type 0} (c : Stage S) where
  -- ## what a deed does to a state
  abbrev pub performed : Deed → S → S
  performed (stored r k v) s = c.store (name_of r) k v s
  performed (sent v k vs) s = c.put v k vs s
  performed (received v k) s = c.take v k s
  performed (started w vs) s = c.begin w vs s

  unfoldable pub performed_all : List Deed → S → S
  performed_all [] s = s
  performed_all (d ∷ ds) s = performed_all ds (performed d s)

  -- ## by what was worked out
  abbrev pub store_of : Ref → ℕ → Result ℤ Fault → List Deed
  store_of r k (Ok v) = stored r k v ∷ []
  store_of r k (Err f) = []

  abbrev pub assigned : Ref → Result ℤ Fault → Aim → List Deed
  assigned r x (hit k) = store_of r k x
  assigned r x (miss f) = []

  abbrev pub stepped : Ref → ℤ → Aim → List Deed
  stepped r d (hit k) = stored r k (wrap32 (c.scene.element (name_of r) k +ℤ d)) ∷ []
  stepped r d (miss f) = []

  abbrev pub sent_in : ℤ → WorkedOut → List Deed
  sent_in v (all vs) = sent v (c.scene.waiting v) vs ∷ []
  sent_in v (stopped f) = []

  abbrev pub sending : WorkedOut → Reach → List Deed
  sending vs (channel v) = sent_in v vs
  sending vs (astray f) = []

  -- the fields of a message, from field f on, go to the variables among the arguments
  abbrev pub delivered : Message → ℕ → Received → ℕ → List Deed
  delivered x f (into r) k = pick (c.constant (name_of r)) [] (stored r k (x f) ∷ [])
  delivered x f (equal e) k = []
  delivered x f (exactly n) k = []
  delivered x f exactly_true k = []
  delivered x f exactly_false k = []

  unfoldable pub delivered_all : Message → ℕ → List Received → List ℕ → List Deed
  delivered_all x f [] ks = []
  delivered_all x f (r ∷ rs) [] = []
  delivered_all x f (r ∷ rs) (k ∷ ks) = delivered x f r k ++ delivered_all x (f + 1) rs ks

  abbrev pub received_at : ℤ → ℕ → List Received → Aims → List Deed
  received_at v k xs (hits ks) = received v k ∷ delivered_all (c.message v k) 0 xs ks
  received_at v k xs (missed f) = []

  abbrev pub received_if : ℤ → List Received → Finding → List Deed
  received_if v xs (found k) = received_at v k xs (targets c xs)
  received_if v xs none = []
  received_if v xs (spoilt f) = []

  abbrev pub receiving : List Received → Reach → List Deed
  receiving xs (channel v) = received_if v xs (finding c v xs)
  receiving xs (astray f) = []

  abbrev pub starting : Name → WorkedOut → List Deed
  starting w (all vs) = started w vs ∷ []
  starting w (stopped f) = []

  -- `v = run`: the process begins, then its number is stored; "`v = run` stores 0 where nothing fits"
  abbrev pub setting : Ref → ℕ → Name → WorkedOut → List Deed
  setting r k w (all vs) = started w vs ∷ stored r k c.newest ∷ []
  setting r k w (stopped f) = []

  abbrev pub setting_at : Ref → Name → WorkedOut → Aim → List Deed
  setting_at r w vs (hit k) = pick (c.room w) (setting r k w vs) (stored r k (pos 0) ∷ [])
  setting_at r w vs (miss f) = []

  -- ## statements
  abbrev pub leaf_deeds : Leaf → List Deed
  leaf_deeds (express e) = []
  leaf_deeds (assign r e) = assigned r (eval c.scene e) (aim c.scene r)
  leaf_deeds (increment r) = stepped r (pos 1) (aim c.scene r)
  leaf_deeds (decrement r) = stepped r (negsuc 0) (aim c.scene r)
  leaf_deeds (send o r es) = sending (values c.scene es) (reach c r (length es))
  leaf_deeds (receive o r xs) = receiving xs (reach c r (length xs))
  leaf_deeds (assert e) = []
  leaf_deeds (print w es) = []
  leaf_deeds skip = []
  leaf_deeds (goto w) = []
  leaf_deeds break = []
  leaf_deeds timeout = []
  leaf_deeds else = []
  leaf_deeds (run w es) = pick (c.room w) (starting w (values c.scene es)) []
  leaf_deeds (set_run r w es) = setting_at r w (values c.scene es) (aim c.scene r)

  unfoldable pub deeds : Tree action → List Deed
  deeds (leaf l) = leaf_deeds l
  deeds (select os) = []
  deeds (loop os) = []

-- ## where the process goes on when they are done
abbrev pub leaf_leads : Ways → Leaf → ℕ
leaf_leads h (express e) = h.next
leaf_leads h (assign r e) = h.next
leaf_leads h (increment r) = h.next
leaf_leads h (decrement r) = h.next
leaf_leads h (send o r es) = h.next
leaf_leads h (receive o r xs) = h.next
leaf_leads h (assert e) = h.next
leaf_leads h (print w es) = h.next
leaf_leads h skip = h.next
leaf_leads h (goto w) = h.label w
leaf_leads h break = h.out
leaf_leads h timeout = h.next
leaf_leads h else = h.next
leaf_leads h (run w es) = h.next
leaf_leads h (set_run r w es) = h.next

abbrev pub leads_to : Ways → Tree action → ℕ
leads_to h (leaf l) = leaf_leads h l
leads_to h (select os) = h.next
leads_to h (loop os) = h.next
