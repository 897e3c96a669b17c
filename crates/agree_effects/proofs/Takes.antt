-- WHAT A STEP DOES: the step at the place of a statement of an accepted text's tree is, over its tables, what the tree's statement does, where the tables lead as the tree's ways do; in every
-- state and for every process, faults included.
use Prim.Native.Nat.{ℕ, ◌+◌, ◌-◌}
use native.Mathlib.Omega.{arith}
use mathlib.Core.Path.{◌≡◌, refl, sym, ap, subst, ◌∙◌}
use mathlib.Core.Bool.{true}
use mathlib.Core.List.{List, [], ◌∷◌, ◌++◌, append_assoc}
use lib.IntN.{ℤ, pos, negsuc}
use Rattle.base_codes.specs.Codes.{c_assert, c_assign, c_break, c_decrement, c_do, c_else, c_express, c_goto, c_if, c_increment, c_receive, c_run, c_send, c_set_run, c_skip, c_target, c_text, c_timeout}
use Rattle.table_layout.specs.Access.{code_of, link_of}
use Rattle.spec_grammar.specs.Tree.{action, Tree, leaf, express, assign, increment, decrement, send, receive, assert, print, skip, goto, break, timeout, else, run, set_run, select, loop}
use Rattle.base_codes.specs.Items.{Item, i_assert, i_assign, i_break, i_decrement, i_do, i_else, i_express, i_fi, i_goto, i_if, i_increment, i_name, i_od, i_skip, i_target, i_timeout}
use Rattle.parse_code.specs.Code.{code_exp, code_tree, code}
use Rattle.base_codes.specs.Items as items
use Rattle.read_passes.specs.Judging.{tables_text}
use Rattle.read_accepts_proof.specs.Meaning.{Accepts}
use Rattle.step_ready.specs.Executing.{mark_of, is_own_mark}
use Rattle.base_outcome.specs.declared.Taken.TheVariants.{Idle}
use Rattle.step_statements.specs.Statements.{passed, expressed, asserted, stepped, assigned, sent, received, printed}
use Rattle.step_take.specs.Effects.{ran, set_ran, targeted, taken_as, taken_by, taken_of}
use Rattle.agree_stage.specs.Scenes.{size_in}
use Rattle.agree_eval.specs.Names.{decl_at}
use Rattle.spec_machine.specs.Stage.{Ways}
use Rattle.agree_stage.specs.Tables.{Leads}
use Rattle.spec_machine.specs.Effect.{go_on, effect}
use Rattle.agree_stage.proofs.Stands.{Lying, lying_back}
use Rattle.agree_effects.specs.Few.{Few}
use Rattle.agree_effects.specs.Stages.{unit_at, stage_at}
use Rattle.agree_effects.proofs.Meant.{Quiet}
use Rattle.agree_effects.proofs.Parts.{Here, first_code}
use Rattle.agree_effects.proofs.Phrases.{behind_express, behind_assign, behind_assert, refers-target, refers_increment, refers_decrement, works}
use Rattle.agree_effects.proofs.Lists.{quiet_phrase, mark_code, behind_there}
use Rattle.agree_effects.proofs.Begins.{marks, alones, alone-mark, phrase_mark, name-mark, target_assign}
use Rattle.agree_effects.proofs.Shapes.{reference_there, sending, receiving, printing, running, set_running}
use Rattle.agree_effects.proofs.Stores.{expressed_is, asserted_is, stepped_is, assigned_is, printed_is, ran_is, set_ran_is}
use Rattle.agree_effects.proofs.Sends.{sent_is, received_is}
use Rattle.spec_machine.specs.Sizes as tree
use Rattle.agree_sizes.proofs.Sizes.{size_exp_lem}

-- ---- by the code of the mark
module _ (t : List ℕ) (p q m : ℕ) (s : List ℤ) where
  by_text : code_of t m ≡ c_text → taken_by t p q m s ≡ printed t p m s
  unfolding taken_as
  by_text e = rw e

  by_express : code_of t m ≡ c_express → taken_by t p q m s ≡ expressed t p q m s
  unfolding taken_as
  by_express e = rw e

  by_assign : (z : ℕ) → code_of t m ≡ c_target → link_of t m ≡ z → code_of t z ≡ c_assign → taken_by t p q m s ≡ assigned t p q m z s
  unfolding taken_as targeted
  by_assign z e l c = rw (e, l, c)

  by_set_run : (z : ℕ) → code_of t m ≡ c_target → link_of t m ≡ z → code_of t z ≡ c_set_run → taken_by t p q m s ≡ set_ran t p q m z s
  unfolding taken_as targeted
  by_set_run z e l c = rw (e, l, c)

  by_increment : code_of t m ≡ c_increment → taken_by t p q m s ≡ stepped t p (pos 1) q m s
  unfolding taken_as
  by_increment e = rw e

  by_decrement : code_of t m ≡ c_decrement → taken_by t p q m s ≡ stepped t p (negsuc 0) q m s
  unfolding taken_as
  by_decrement e = rw e

  by_send : code_of t m ≡ c_send → taken_by t p q m s ≡ sent t p q m s
  unfolding taken_as
  by_send e = rw e

  by_receive : code_of t m ≡ c_receive → taken_by t p q m s ≡ received t p q m s
  unfolding taken_as
  by_receive e = rw e

  by_assert : code_of t m ≡ c_assert → taken_by t p q m s ≡ asserted t p q m s
  unfolding taken_as
  by_assert e = rw e

  by_skip : code_of t m ≡ c_skip → taken_by t p q m s ≡ passed t p m s
  unfolding taken_as
  by_skip e = rw e

  by_goto : code_of t m ≡ c_goto → taken_by t p q m s ≡ passed t p m s
  unfolding taken_as
  by_goto e = rw e

  by_break : code_of t m ≡ c_break → taken_by t p q m s ≡ passed t p m s
  unfolding taken_as
  by_break e = rw e

  by_timeout : code_of t m ≡ c_timeout → taken_by t p q m s ≡ passed t p m s
  unfolding taken_as
  by_timeout e = rw e

  by_else : code_of t m ≡ c_else → taken_by t p q m s ≡ passed t p m s
  unfolding taken_as
  by_else e = rw e

  by_run : code_of t m ≡ c_run → taken_by t p q m s ≡ ran t p m s
  unfolding taken_as
  by_run e = rw e

  by_if : code_of t m ≡ c_if → taken_by t p q m s ≡ (Idle, s)
  unfolding taken_as
  by_if e = rw e

  by_do : code_of t m ≡ c_do → taken_by t p q m s ≡ (Idle, s)
  unfolding taken_as
  by_do e = rw e

module _ (t : List ℕ) (a : Accepts t) where
  abbrev T : List ℕ
  T = tables_text t

  module _ (j : ℕ) (s : List ℤ) (p : ℕ) where
    -- the mark stands at m
    at_mark : (m : ℕ) → mark_of T j ≡ m → taken_of T p j s ≡ taken_by T p j m s
    at_mark m e = ap (λ k. taken_by T p j k s) e

    -- a statement that only goes on
    alone-takes : (x : Item) (n : ℕ) → Here t a (x ∷ []) j → is_own_mark (items.code_of x) ≡ true → link_of T j ≡ n → (code_of T j ≡ items.code_of x → taken_by T p j j s ≡ passed T p j s)
        → taken_of T p j s ≡ go_on (stage_at t a s p j) n s
    alone-takes x n h o l f = at_mark j (alone-mark t a x [] j h o) ∙ f (first_code t a x [] j h) ∙ ap (λ k. go_on (stage_at t a s p j) k s) l

    idle_takes : (x : Item) (z : List Item) → Here t a (x ∷ z) j → is_own_mark (items.code_of x) ≡ true → (code_of T j ≡ items.code_of x → taken_by T p j j s ≡ (Idle, s)) → taken_of T p j s ≡ (Idle, s)
    idle_takes x z h o f = at_mark j (alone-mark t a x z j h o) ∙ f (first_code t a x z j h)

    none_yet : Quiet t a j j
    none_yet y u v = absurd (omega arith)

    takes_at : (x : Tree action) → Here t a (code_tree x) j → Few x → (h : Ways) → Leads T h x j → taken_of T p j s ≡ effect (stage_at t a s p j) h s x
    unfolding effect
    takes_at (leaf (express e)) f few h l =
        let m = j + size_in e in
        let z : j + tree.size_in (leaf (express e)) - 1 ≡ m = omega (arith, size_exp_lem e) in
        at_mark m (phrase_mark t a e i_express [] j f marks.0) ∙ by_express T p j m s (mark_code t a e i_express [] j f)
        ∙ expressed_is T (decl_at t a j) s p (unit_at t a) e j m h.next (works t a j j (omega arith) none_yet e i_express [] f behind_express s p) (ap (link_of T) (sym z) ∙ l)
    takes_at (leaf (assign r e)) f few h l =
        let R = code_exp r in
        let X = code_exp e in
        let m = j + size_in r in
        let k = m + 1 + size_in e in
        let y = X ++ i_assign ∷ [] in
        let g = subst (λ i. Here t a i j) (append_assoc R (i_target ∷ X) (i_assign ∷ [])) f in
        let o = reference_there t a r i_target y j refers-target g in
        let q = behind_there t a r i_target y j g in
        let z : j + tree.size_in (leaf (assign r e)) - 1 ≡ k = omega (arith, size_exp_lem r, size_exp_lem e) in
        at_mark m o.mark ∙ by_assign T p j m s k o.coded (target_assign t a e m (lying_back (code a.tree) R (i_target ∷ y) 0 j m refl g)) (mark_code t a e i_assign [] (m + 1) q)
        ∙ assigned_is T (decl_at t a j) s p (unit_at t a) r j m (o.located s p) o.declared e k h.next
        (works t a j (m + 1) (omega arith) (quiet_phrase t a j j none_yet r i_target y g (omega arith)) e i_assign [] q behind_assign s p) (ap (link_of T) (sym z) ∙ l)
    takes_at (leaf (increment r)) f few h l =
        let m = j + size_in r in
        let o = reference_there t a r i_increment [] j refers_increment f in
        let z : j + tree.size_in (leaf (increment r)) - 1 ≡ m = omega (arith, size_exp_lem r) in
        at_mark m o.mark ∙ by_increment T p j m s o.coded ∙ stepped_is T (decl_at t a j) s p (unit_at t a) r j m (o.located s p) o.declared (pos 1) h.next
        (ap (link_of T) (sym z) ∙ l)
    takes_at (leaf (decrement r)) f few h l =
        let m = j + size_in r in
        let o = reference_there t a r i_decrement [] j refers_decrement f in
        let z : j + tree.size_in (leaf (decrement r)) - 1 ≡ m = omega (arith, size_exp_lem r) in
        at_mark m o.mark ∙ by_decrement T p j m s o.coded ∙ stepped_is T (decl_at t a j) s p (unit_at t a) r j m (o.located s p) o.declared (negsuc 0) h.next
        (ap (link_of T) (sym z) ∙ l)
    takes_at (leaf (send mk r es)) f few h l =
        let g = sending t a mk r es j f in
        let m = j + size_in r in
        at_mark m g.0.mark ∙ by_send T p j m s g.0.coded ∙ sent_is T (decl_at t a j) s p (unit_at t a) r es j m (j + tree.size_in (leaf (send mk r es)) - 1) h.next (g.0.located s p)
        g.1 l
    takes_at (leaf (receive mk r ys)) f few h l =
        let g = receiving t a mk r ys j f in
        let m = j + size_in r in
        at_mark m g.0.mark ∙ by_receive T p j m s g.0.coded ∙ received_is T (decl_at t a j) s p (unit_at t a) r ys j m (j + tree.size_in (leaf (receive mk r ys)) - 1) h.next
        (g.0.located s p) g.1 l
    takes_at (leaf (assert e)) f few h l =
        let m = j + size_in e in
        let z : j + tree.size_in (leaf (assert e)) - 1 ≡ m = omega (arith, size_exp_lem e) in
        at_mark m (phrase_mark t a e i_assert [] j f marks.1) ∙ by_assert T p j m s (mark_code t a e i_assert [] j f)
        ∙ asserted_is T (decl_at t a j) s p (unit_at t a) e j m h.next (works t a j j (omega arith) none_yet e i_assert [] f behind_assert s p) (ap (link_of T) (sym z) ∙ l)
    takes_at (leaf (print w es)) f few h l =
        let g = printing t a w es j f in
        at_mark j g.mark ∙ by_text T p j j s g.coded ∙ printed_is T (decl_at t a j) s p (unit_at t a) es j (j + tree.size_in (leaf (print w es)) - 1) h.next g.passed few l
    takes_at (leaf skip) f few h l = let z : j ≡ j + 1 - 1 = omega arith in alone-takes i_skip h.next f alones.0 (ap (link_of T) z ∙ l) (by_skip T p j j s)
    takes_at (leaf (goto w)) f few h l =
        at_mark (j + 1) (name-mark t a w i_goto [] j f marks.2) ∙ by_goto T p j (j + 1) s
        (first_code t a i_goto [] (j + 1) (lying_back (code a.tree) (i_name w ∷ []) (i_goto ∷ []) 0 j (j + 1) refl f))
        ∙ ap (λ k. go_on (stage_at t a s p j) k s) l
    takes_at (leaf break) f few h l = alone-takes i_break h.out f alones.1 l (by_break T p j j s)
    takes_at (leaf timeout) f few h l = let z : j ≡ j + 1 - 1 = omega arith in alone-takes i_timeout h.next f alones.2 (ap (link_of T) z ∙ l) (by_timeout T p j j s)
    takes_at (leaf else) f few h l = let z : j ≡ j + 1 - 1 = omega arith in alone-takes i_else h.next f alones.3 (ap (link_of T) z ∙ l) (by_else T p j j s)
    takes_at (leaf (run w es)) f few h l =
        let g = running t a w es j f in
        let o = g.1 in
        at_mark (j + 1) g.0 ∙ by_run T p j (j + 1) s o.coded ∙ ran_is T (decl_at t a j) s p (unit_at t a) w es (j + 1) (j + tree.size_in (leaf (run w es)) - 1) h.next o.begun
        o.passed few l
    takes_at (leaf (set_run r w es)) f few h l =
        let g = set_running t a r w es j f in
        let m = j + size_in r in
        let b = g.0 in
        let o = g.2 in
        at_mark m b.mark ∙ by_set_run T p j m s (m + 2) b.coded g.1 o.coded
        ∙ set_ran_is T (decl_at t a j) s p (unit_at t a) r w es j m (m + 2) (j + tree.size_in (leaf (set_run r w es)) - 1) h.next (b.located s p) b.declared o.begun o.passed
        few l
    takes_at (select os) f few h l = idle_takes i_if (code_tree os ++ i_fi ∷ []) f alones.4 (by_if T p j j s)
    takes_at (loop os) f few h l = idle_takes i_do (code_tree os ++ i_od ∷ []) f alones.5 (by_do T p j j s)

  pub text-takes : (x : Tree action) {j : ℕ} → Lying (code a.tree) 0 (code_tree x) j → Few x → (h : Ways) → Leads (tables_text t) h x j → (s : List ℤ) (p : ℕ)
      → taken_of (tables_text t) p j s ≡ effect (stage_at t a s p j) h s x
  text-takes x {j} f few h l s p = takes_at j s p x f few h l
