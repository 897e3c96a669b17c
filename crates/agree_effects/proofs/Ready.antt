-- WHAT IS EXECUTABLE: at the place of a statement of an accepted text's tree the tables say so exactly where the tree's statement is executable, in every state and for every process.
use Rattle.std.specs.Prelude.{Result, Ok, Err}
use Prim.Native.Nat.{ℕ, ◌+◌, ◌-◌}
use native.Mathlib.Omega.{arith}
use mathlib.Core.Path.{◌≡◌, refl, sym, ap, subst, ◌∙◌}
use mathlib.Core.Bool.{Bool, true, false}
use mathlib.Core.List.{List, [], ◌∷◌, ◌++◌, append_assoc}
use lib.ListN.{length}
use lib.IntN.{ℤ}
use Rattle.base_ceilings.specs.Ceilings.{fields_most}
use Rattle.base_codes.specs.Codes.{c_assert, c_break, c_decrement, c_do, c_else, c_express, c_goto, c_if, c_increment, c_receive, c_run, c_send, c_skip, c_target, c_timeout, c_text}
use Rattle.table_layout.specs.Access.{code_of, link_of}
use Rattle.base_bytes.specs.Numbers.{nat}
use Rattle.spec_grammar.specs.Tree.{Ref, Expr, Received, action, Tree, leaf, express, assign, increment, decrement, send, receive, assert, print, skip, goto, break, timeout, else, run, set_run, select, loop}
use Rattle.read_passes.specs.Judging.{tables_text}
use Rattle.read_accepts_proof.specs.Meaning.{Accepts}
use Rattle.step_eval.specs.Expressions.{eval_of}
use Rattle.step_ready.specs.Channels.{tried_of}
use Rattle.step_ready.specs.Executing.{is_always, mark_of, fits_of, ready_by, ready_of, message_of, is_own_mark}
use Rattle.spec_machine.specs.Eval.{eval}
use Rattle.agree_stage.specs.Scenes.{scene_of, size_in}
use Rattle.agree_eval.specs.Names.{decl_at}
use Rattle.spec_machine.specs.Stage.{Stage}
use Rattle.spec_machine.specs.Arguments.{Reach, channel, astray, reach, finding}
use Rattle.spec_machine.specs.Messages.{Finding, found, none, spoilt}
use Rattle.spec_machine.specs.Ready.{passes, sendable, finds, receivable, ready}
use Rattle.agree_stage.proofs.Stands.{Lying, lying_back}
use Rattle.agree_effects.specs.Stages.{unit_at, stage_at}
use Rattle.agree_effects.specs.Walked.{Got}
use Rattle.agree_effects.proofs.Gathers.{count_is}
use Rattle.agree_effects.proofs.Receives.{as_found, got_count, found_is}
use Rattle.agree_effects.proofs.Channels.{record_of, Arrived, message_is, reach_few}
use Rattle.agree_effects.proofs.Parts.{Here, first_code}
use Rattle.agree_effects.proofs.Phrases.{Refers, behind_express, refers-target, refers_increment, refers_decrement, works}
use Rattle.agree_effects.proofs.Lists.{mark_code}
use Rattle.agree_effects.proofs.Begins.{marks, alones, alone-mark, phrase_mark, name-mark}
use Rattle.agree_effects.proofs.Shapes.{reference_there, sending, receiving, printing, running, set_running}
use Rattle.base_codes.specs.Items.{Item, i_assert, i_assign, i_break, i_decrement, i_do, i_else, i_express, i_fi, i_goto, i_if, i_increment, i_name, i_od, i_skip, i_target, i_timeout}
use Rattle.parse_code.specs.Code.{code_exp, code_tree, code}
use Rattle.base_codes.specs.Items as items
use Rattle.base_values.specs.declared.Fault.{Fault}
use Rattle.step_ready.specs.Channels as channels
use Rattle.step_ready.specs.Executing as tables

-- ---- by the code of the mark
module _ (t : List ℕ) (s : List ℤ) (p : ℕ) (late : Bool) (q m : ℕ) where
  by_express : code_of t m ≡ c_express → ready_by t s p late q m ≡ tables.passes (eval_of t s p q m)
  unfolding ready_by
  by_express e = rw e

  by_send : code_of t m ≡ c_send → ready_by t s p late q m ≡ tables.sendable t s (message_of t s p q m)
  unfolding ready_by
  by_send e = rw e

  by_receive : code_of t m ≡ c_receive → ready_by t s p late q m ≡ tables.receivable t s p (m + 1) (message_of t s p q m)
  unfolding ready_by
  by_receive e = rw e

  by_timeout : code_of t m ≡ c_timeout → ready_by t s p late q m ≡ late
  unfolding ready_by
  by_timeout e = rw e

  by_run : code_of t m ≡ c_run → ready_by t s p late q m ≡ fits_of t s (link_of t m)
  unfolding ready_by
  by_run e = rw e

  by_text : code_of t m ≡ c_text → ready_by t s p late q m ≡ true
  unfolding ready_by is_always
  by_text e = rw e

  by_target : code_of t m ≡ c_target → ready_by t s p late q m ≡ true
  unfolding ready_by is_always
  by_target e = rw e

  by_increment : code_of t m ≡ c_increment → ready_by t s p late q m ≡ true
  unfolding ready_by is_always
  by_increment e = rw e

  by_decrement : code_of t m ≡ c_decrement → ready_by t s p late q m ≡ true
  unfolding ready_by is_always
  by_decrement e = rw e

  by_assert : code_of t m ≡ c_assert → ready_by t s p late q m ≡ true
  unfolding ready_by is_always
  by_assert e = rw e

  by_skip : code_of t m ≡ c_skip → ready_by t s p late q m ≡ true
  unfolding ready_by is_always
  by_skip e = rw e

  by_goto : code_of t m ≡ c_goto → ready_by t s p late q m ≡ true
  unfolding ready_by is_always
  by_goto e = rw e

  by_break : code_of t m ≡ c_break → ready_by t s p late q m ≡ true
  unfolding ready_by is_always
  by_break e = rw e

  by_else : code_of t m ≡ c_else → ready_by t s p late q m ≡ false
  unfolding ready_by is_always
  by_else e = rw e

  by_if : code_of t m ≡ c_if → ready_by t s p late q m ≡ false
  unfolding ready_by is_always
  by_if e = rw e

  by_do : code_of t m ≡ c_do → ready_by t s p late q m ≡ false
  unfolding ready_by is_always
  by_do e = rw e

passes_is : (x : Result ℤ Fault) → tables.passes x ≡ passes x
passes_is (Ok v) = refl
passes_is (Err f) = refl

finds_is : (x : Finding) → channels.finds (as_found x) ≡ finds x
finds_is (found k) = refl
finds_is none = refl
finds_is (spoilt f) = refl

module _ (t : List ℕ) (a : Accepts t) where
  abbrev T : List ℕ
  T = tables_text t

  module _ (j : ℕ) (s : List ℤ) (p : ℕ) (late : Bool) where
    abbrev c : Stage (List ℤ)
    c = stage_at t a s p j

    -- the mark stands at m
    at_mark : (m : ℕ) → mark_of T j ≡ m → ready_of T s p late j ≡ ready_by T s p late j m
    at_mark m e = ap (ready_by T s p late j) e

    express_ready : (e : Expr) → Here t a (code_tree (leaf (express e))) j → ready_of T s p late j ≡ passes (eval (scene_of T s p (decl_at t a j)) e)
    express_ready e h =
        at_mark (j + size_in e) (phrase_mark t a e i_express [] j h marks.0) ∙ by_express T s p late j (j + size_in e) (mark_code t a e i_express [] j h)
        ∙ ap tables.passes (works t a j j (omega arith) (λ y u v. absurd (omega arith)) e i_express [] h behind_express s p) ∙ passes_is (eval (scene_of T s p (decl_at t a j)) e)

    send_ready : (mk : ℕ) (r : Ref) (es : List Expr) → Here t a (code_tree (leaf (send mk r es))) j → ready_of T s p late j ≡ sendable (stage_at t a s p j) (reach (stage_at t a s p j) r (length es))
    send_ready mk r es h =
        let f = sending t a mk r es j h in
        let g = f.0 in
        let m = j + size_in r in
        at_mark m g.mark ∙ by_send T s p late j m g.coded
        ∙ ap (tables.sendable T s) (message_is T (decl_at t a j) s p (unit_at t a) r j m (length es) (g.located s p) (count_is T (decl_at t a j) f.1 (fields_most + 1))) ∙ go (reach c r (length es))
      where
        go : (y : Reach) → tables.sendable T s (record_of y) ≡ sendable (stage_at t a s p j) y
        go (channel v) = refl
        go (astray f) = refl

    receive_ready : (mk : ℕ) (r : Ref) (ys : List Received) → Here t a (code_tree (leaf (receive mk r ys))) j → ready_of T s p late j ≡ receivable (stage_at t a s p j) ys (reach (stage_at t a s p j) r (length ys))
    receive_ready mk r ys h =
        let f = receiving t a mk r ys j h in
        let g = f.0 in
        let m = j + size_in r in
        at_mark m g.mark ∙ by_receive T s p late j m g.coded
        ∙ ap (tables.receivable T s p (m + 1)) (message_is T (decl_at t a j) s p (unit_at t a) r j m (length ys) (g.located s p) (got_count T (decl_at t a j) f.1 (fields_most + 1)))
        ∙ go f.1 (reach c r (length ys)) refl
      where
        go : {z : ℕ} → Got T (decl_at t a j) ys (j + size_in r + 1) z → (y : Reach) → reach (stage_at t a s p j) r (length ys) ≡ y
            → tables.receivable T s p (j + size_in r + 1) (record_of y) ≡ receivable (stage_at t a s p j) ys y
        go k (channel v) e =
            ap channels.finds (found_is T (decl_at t a j) s p (unit_at t a) k (reach_few T (decl_at t a j) s p (unit_at t a) r (length ys) (subst Arrived (sym e) tt)) v (tried_of s (nat v - 1)) 0)
            ∙ finds_is (finding c v ys)
        go k (astray f) e = refl

    alone-ready : (x : Item) (l : List Item) (b : Bool) → Here t a (x ∷ l) j → is_own_mark (items.code_of x) ≡ true → (code_of T j ≡ items.code_of x → ready_by T s p late j j ≡ b)
        → ready_of T s p late j ≡ b
    alone-ready x l b h o f = at_mark j (alone-mark t a x l j h o) ∙ f (first_code t a x l j h)

    reference_ready : (r : Ref) (x : Item) (z : List Item) → Refers x → Here t a (code_exp r ++ x ∷ z) j
        → (code_of T (j + size_in r) ≡ items.code_of x → ready_by T s p late j (j + size_in r) ≡ true) → ready_of T s p late j ≡ true
    reference_ready r x z b h f = let g = reference_there t a r x z j b h in at_mark (j + size_in r) g.mark ∙ f g.coded

    ready_at : (x : Tree action) → Here t a (code_tree x) j → ready_of T s p late j ≡ ready (stage_at t a s p j) late x
    unfolding ready
    ready_at (leaf (express e)) h = express_ready e h
    ready_at (leaf (assign r e)) h =
        reference_ready r i_target (code_exp e ++ i_assign ∷ []) refers-target (subst (λ l. Here t a l j) (append_assoc (code_exp r) (i_target ∷ code_exp e) (i_assign ∷ [])) h)
        (by_target T s p late j (j + size_in r))
    ready_at (leaf (increment r)) h = reference_ready r i_increment [] refers_increment h (by_increment T s p late j (j + size_in r))
    ready_at (leaf (decrement r)) h = reference_ready r i_decrement [] refers_decrement h (by_decrement T s p late j (j + size_in r))
    ready_at (leaf (send mk r es)) h = send_ready mk r es h
    ready_at (leaf (receive mk r ys)) h = receive_ready mk r ys h
    ready_at (leaf (assert e)) h = at_mark (j + size_in e) (phrase_mark t a e i_assert [] j h marks.1) ∙ by_assert T s p late j (j + size_in e) (mark_code t a e i_assert [] j h)
    ready_at (leaf (print w es)) h = let g = printing t a w es j h in at_mark j g.mark ∙ by_text T s p late j j g.coded
    ready_at (leaf skip) h = alone-ready i_skip [] true h alones.0 (by_skip T s p late j j)
    ready_at (leaf (goto w)) h =
        at_mark (j + 1) (name-mark t a w i_goto [] j h marks.2) ∙ by_goto T s p late j (j + 1)
        (first_code t a i_goto [] (j + 1) (lying_back (code a.tree) (i_name w ∷ []) (i_goto ∷ []) 0 j (j + 1) refl h))
    ready_at (leaf break) h = alone-ready i_break [] true h alones.1 (by_break T s p late j j)
    ready_at (leaf timeout) h = alone-ready i_timeout [] late h alones.2 (by_timeout T s p late j j)
    ready_at (leaf else) h = alone-ready i_else [] false h alones.3 (by_else T s p late j j)
    ready_at (leaf (run w es)) h = let g = running t a w es j h in at_mark (j + 1) g.0 ∙ by_run T s p late j (j + 1) g.1.coded ∙ ap (fits_of T s) g.1.begun
    ready_at (leaf (set_run r w es)) h = let g = (set_running t a r w es j h).0 in at_mark (j + size_in r) g.mark ∙ by_target T s p late j (j + size_in r) g.coded
    ready_at (select os) h = alone-ready i_if (code_tree os ++ i_fi ∷ []) false h alones.4 (by_if T s p late j j)
    ready_at (loop os) h = alone-ready i_do (code_tree os ++ i_od ∷ []) false h alones.5 (by_do T s p late j j)

  pub text-ready : (x : Tree action) {j : ℕ} → Lying (code a.tree) 0 (code_tree x) j → (s : List ℤ) (p : ℕ) (late : Bool)
      → ready_of (tables_text t) s p late j ≡ ready (stage_at t a s p j) late x
  text-ready x {j} h s p late = ready_at j s p late x h
