-- THE DEEDS ARE ALL THAT IS DONE: a step that is done leaves the state that its deeds lead to, one after the other, with its process gone on; a step that is not done leaves the state as it was.
use Rattle.std.specs.Prelude.{Result, Ok, Err}
use Prim.Native.Nat.{ℕ, ◌+◌}
use mathlib.Core.Path.{◌≡◌, refl, sym, ap, ◌∙◌, subst}
use mathlib.Core.Bool.{Bool, true, false}
use mathlib.Core.List.{List, [], ◌∷◌, ◌++◌}
use lib.ListN.{length}
use lib.IntN.{ℤ, pos, negsuc}
use Rattle.base_bytes.specs.Choice.{pick}
use Rattle.base_values.specs.Operators.{is_true}
use Rattle.base_outcome.specs.declared.Taken.{Taken}
use Rattle.base_outcome.specs.declared.Taken.TheVariants.{Done, Refuted, Faulted, Idle}
use Rattle.base_values.specs.declared.Fault.{Fault}
use Rattle.spec_grammar.specs.Tree.{Name, Ref, Received, into, equal, exactly, exactly_true, exactly_false, action, Tree, leaf, express, assign, increment, decrement, send, receive, assert, print, skip, goto, break, timeout, else, run, set_run, select, loop}
use Rattle.spec_machine.specs.Eval.{eval}
use Rattle.spec_machine.specs.Stage.{Message, Stage, Ways}
use Rattle.spec_machine.specs.Arguments.{name_of, Aim, hit, miss, aim, Reach, channel, astray, reach, WorkedOut, all, stopped, values, finding, Aims, hits, missed, targets}
use Rattle.spec_machine.specs.Messages.{Finding, found, none, spoilt}
use Rattle.spec_machine.specs.Effect as effects
use Rattle.spec_machine.specs.Effect.{Outcome, go_on, expressed_by, asserted_by, assigned_by, stepped_by, sent_by, received_by, printed_by, ran_by, set_by, set_run_by, delivery, deliveries, effect}
use Rattle.spec_account.specs.Deeds.{Deed, stored, performed_all, assigned, stepped, sending, delivered, delivered_all, received_at, received_if, receiving, starting, setting, setting_at, deeds, leads_to}

module _ {S : Type 0} (c : Stage S) where
  -- deeds after deeds
  performed-append : (a b : List Deed) (s : S) → performed_all c (a ++ b) s ≡ performed_all c b (performed_all c a s)
  unfolding performed_all
  performed-append [] b s = refl
  performed-append (d ∷ a) b s = performed-append a b (performed_all c (d ∷ []) s)

  -- the stores of a receive
  delivered-one : (x : Message) (f : ℕ) (r : Received) (k : ℕ) (s : S) → performed_all c (delivered c x f r k) s ≡ delivery c x f r k s
  unfolding performed_all
  delivered-one x f (into r) k s = go (c.constant (name_of r))
    where
      go : (b : Bool) → performed_all c (pick b [] (stored r k (x f) ∷ [])) s ≡ pick b s (c.store (name_of r) k (x f) s)
      go true = refl
      go false = refl
  delivered-one x f (equal e) k s = refl
  delivered-one x f (exactly n) k s = refl
  delivered-one x f exactly_true k s = refl
  delivered-one x f exactly_false k s = refl

  delivered-all : (x : Message) (f : ℕ) (rs : List Received) (ks : List ℕ) (s : S) → performed_all c (delivered_all c x f rs ks) s ≡ deliveries c x f rs ks s
  unfolding performed_all delivered_all deliveries
  delivered-all x f [] ks s = refl
  delivered-all x f (r ∷ rs) [] s = refl
  delivered-all x f (r ∷ rs) (k ∷ ks) s =
      performed-append (delivered c x f r k) (delivered_all c x (f + 1) rs ks) s ∙ ap (performed_all c (delivered_all c x (f + 1) rs ks)) (delivered-one x f r k s)
      ∙ delivered-all x (f + 1) rs ks (delivery c x f r k s)

  module _ (h : Ways) (s : S) where
    -- an outcome, and the state of the deeds: where it is done the process goes on from there, where it is not the state is what it was
    abbrev Told : ℕ → Taken → S → List Deed → Type 0
    Told n Done r ds = r ≡ c.go n (performed_all c ds s)
    Told n Refuted r ds = r ≡ s
    Told n (Faulted f) r ds = r ≡ s
    Told n Idle r ds = r ≡ s

    abbrev Tells : ℕ → Outcome S → List Deed → Type 0
    Tells n o ds = Told n o.0 o.1 ds

    module _ (n : ℕ) where
      assigned-told : (r : Ref) (x : Result ℤ Fault) (k : Aim) → Tells n (assigned_by c n s (name_of r) x k) (assigned c r x k)
      unfolding performed_all
      assigned-told r (Ok v) (hit k) = refl
      assigned-told r (Err f) (hit k) = refl
      assigned-told r x (miss f) = refl

      stepped-told : (r : Ref) (d : ℤ) (k : Aim) → Tells n (stepped_by c n s (name_of r) d k) (stepped c r d k)
      unfolding performed_all
      stepped-told r d (hit k) = refl
      stepped-told r d (miss f) = refl

      sent-told : (vs : WorkedOut) (q : Reach) → Tells n (sent_by c n s vs q) (sending c vs q)
      unfolding performed_all
      sent-told (all vs) (channel v) = refl
      sent-told (stopped f) (channel v) = refl
      sent-told vs (astray f) = refl

      received_at_lem : (v : ℤ) (k : ℕ) (xs : List Received) (z : Aims) → Tells n (effects.received_at c n s v k xs z) (received_at c v k xs z)
      unfolding performed_all
      received_at_lem v k xs (hits ks) = ap (c.go n) (sym (delivered-all (c.message v k) 0 xs ks (c.take v k s)))
      received_at_lem v k xs (missed f) = refl

      received-told : (xs : List Received) (q : Reach) → Tells n (received_by c n s xs q) (receiving c xs q)
      received-told xs (channel v) = go (finding c v xs)
        where
          go : (z : Finding) → Tells n (effects.received_if c n s v xs z) (received_if c v xs z)
          go (found k) = received_at_lem v k xs (targets c xs)
          go none = refl
          go (spoilt f) = refl
      received-told xs (astray f) = refl

      expressed-told : (x : Result ℤ Fault) → Tells n (expressed_by c n s x) []
      unfolding performed_all
      expressed-told (Ok v) = refl
      expressed-told (Err f) = refl

      nothing-told : Tells n (go_on c n s) []
      unfolding performed_all
      nothing-told = refl

      asserted-told : (x : Result ℤ Fault) → Tells n (asserted_by c n s x) []
      asserted-told (Ok v) = go (is_true v)
        where
          go : (b : Bool) → Tells n (pick b (go_on c n s) (Refuted, s)) []
          go true = nothing-told
          go false = refl
      asserted-told (Err f) = refl

      printed-told : (vs : WorkedOut) → Tells n (printed_by c n s vs) []
      unfolding performed_all
      printed-told (all vs) = refl
      printed-told (stopped f) = refl

      ran-told : (w : Name) (vs : WorkedOut) (b : Bool) → Tells n (pick b (ran_by c n s w vs) (Idle, s)) (pick b (starting c w vs) [])
      unfolding performed_all
      ran-told w (all vs) true = refl
      ran-told w (stopped f) true = refl
      ran-told w vs false = refl

      set_told : (r : Ref) (k : ℕ) (w : Name) (vs : WorkedOut) → Tells n (set_by c n s (name_of r) k w vs) (setting c r k w vs)
      unfolding performed_all
      set_told r k w (all vs) = refl
      set_told r k w (stopped f) = refl

      one_told : (r : Ref) (k : ℕ) (v : ℤ) → Tells n (go_on c n (c.store (name_of r) k v s)) (stored r k v ∷ [])
      unfolding performed_all
      one_told r k v = refl

      set_ran_told : (r : Ref) (w : Name) (vs : WorkedOut) (k : Aim) → Tells n (set_run_by c n s (name_of r) w vs k) (setting_at c r w vs k)
      set_ran_told r w vs (hit k) = go (c.room w)
        where
          go : (b : Bool) → Tells n (pick b (set_by c n s (name_of r) k w vs) (go_on c n (c.store (name_of r) k (pos 0) s))) (pick b (setting c r k w vs) (stored r k (pos 0) ∷ []))
          go true = set_told r k w vs
          go false = one_told r k (pos 0)
      set_ran_told r w vs (miss f) = refl

    effect-told : (a : Tree action) → Tells (leads_to h a) (effect c h s a) (deeds c a)
    unfolding effect deeds
    effect-told (leaf (express e)) = expressed-told h.next (eval c.scene e)
    effect-told (leaf (assign r e)) = assigned-told h.next r (eval c.scene e) (aim c.scene r)
    effect-told (leaf (increment r)) = stepped-told h.next r (pos 1) (aim c.scene r)
    effect-told (leaf (decrement r)) = stepped-told h.next r (negsuc 0) (aim c.scene r)
    effect-told (leaf (send o r es)) = sent-told h.next (values c.scene es) (reach c r (length es))
    effect-told (leaf (receive o r xs)) = received-told h.next xs (reach c r (length xs))
    effect-told (leaf (assert e)) = asserted-told h.next (eval c.scene e)
    effect-told (leaf (print w es)) = printed-told h.next (values c.scene es)
    effect-told (leaf skip) = nothing-told h.next
    effect-told (leaf (goto w)) = nothing-told (h.label w)
    effect-told (leaf break) = nothing-told h.out
    effect-told (leaf timeout) = nothing-told h.next
    effect-told (leaf else) = nothing-told h.next
    effect-told (leaf (run w es)) = ran-told h.next w (values c.scene es) (c.room w)
    effect-told (leaf (set_run r w es)) = set_ran_told h.next r w (values c.scene es) (aim c.scene r)
    effect-told (select os) = refl
    effect-told (loop os) = refl

    -- WHAT A STEP DID IS ITS DEEDS, one after the other
    pub deeds_done : (a : Tree action) → (effect c h s a).0 ≡ Done → (effect c h s a).1 ≡ c.go (leads_to h a) (performed_all c (deeds c a) s)
    deeds_done a e = subst (λ k. Told (leads_to h a) k (effect c h s a).1 (deeds c a)) e (effect-told a)

    -- and one that is not done did nothing
    pub no_deeds : (a : Tree action) → ((effect c h s a).0 ≡ Done → ⊥) → (effect c h s a).1 ≡ s
    no_deeds a n = go (effect c h s a).0 (effect-told a) n
      where
        go : (k : Taken) → Told (leads_to h a) k (effect c h s a).1 (deeds c a) → (k ≡ Done → ⊥) → (effect c h s a).1 ≡ s
        go Done t n = absurd (n refl)
        go Refuted t n = t
        go (Faulted f) t n = t
        go Idle t n = t
