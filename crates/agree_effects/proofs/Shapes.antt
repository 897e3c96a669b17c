-- STATEMENTS WITH ARGUMENTS as they stand in the tables of an accepted text: their marks, what they refer to, and the arguments behind them.
use Prim.Native.Nat.{ℕ, ◌+◌, ◌-◌}
use native.Mathlib.Omega.{arith}
use mathlib.Core.Path.{◌≡◌, refl, sym, ap, subst, ◌∙◌}
use mathlib.Core.Bool.{true}
use mathlib.Core.Logic.{inl, inr}
use mathlib.Core.List.{List, [], ◌∷◌, ◌++◌, append_assoc}
use lib.ListN.{length, length-append}
use lib.IntN.{ℤ}
use Rattle.base_codes.specs.Codes.{c_run, c_set_run, c_text}
use Rattle.table_layout.specs.Access.{code_of, link_of}
use Rattle.spec_grammar.specs.Tree.{Name, Ref, Expr, Received, leaf, send, receive, print, run, set_run}
use Rattle.base_codes.specs.Items.{Item, i_end, i_name, i_receive, i_run, i_send, i_set_run, i_target, i_text}
use Rattle.parse_code.specs.Code.{each, code_exp, code_argument, code_received, code_tree, code}
use Rattle.base_codes.specs.Items as items
use Rattle.base_codes.specs.Sets.{is_part, is_alone}
use Rattle.read_passes.specs.Judging.{tables_text}
use Rattle.read_accepts_proof.specs.Meaning.{Accepts}
use Rattle.link_places.specs.Places.{is_mark}
use Rattle.step_eval.specs.Expressions.{locate_of}
use Rattle.step_ready.specs.Executing.{mark_of, is_own_mark}
use Rattle.agree_stage.specs.Scenes.{size_in, locate}
use Rattle.agree_eval.specs.Names.{decl_at}
use Rattle.spec_machine.specs.Arguments.{name_of}
use Rattle.spec_machine.specs.Sizes as tree
use Rattle.agree_stage.proofs.Stands.{lying_back}
use Rattle.agree_effects.specs.Stages.{unit_at}
use Rattle.agree_effects.specs.Walked.{Passed, Got}
use Rattle.agree_effects.proofs.Meant.{Quiet, quiet-join}
use Rattle.agree_effects.proofs.Parts.{Here, first_code}
use Rattle.agree_effects.proofs.Phrases.{Refers, refers-target, refers_send, refers_receive, refers-linked, refers_located}
use Rattle.agree_effects.proofs.Lists.{quiet-mark, quiet_phrase, mark_code, behind_there, arguments_there, received_there}
use Rattle.agree_effects.proofs.Begins.{alone-mark, phrase_mark, name-mark, target_run, run-unit}
use Rattle.agree_sizes.proofs.Sizes.{size-leaf}

run-mark : is_mark c_run ≡ true
unfolding is_part
run-mark = refl

text-alone : is_own_mark c_text ≡ true
unfolding is_own_mark is_alone
text-alone = refl

module _ (t : List ℕ) (a : Accepts t) where
  abbrev xs : List Item
  xs = code a.tree

  abbrev T : List ℕ
  T = tables_text t

  none_yet : (j : ℕ) → Quiet t a j j
  none_yet j y u v = absurd (omega arith)

  -- the reference that a statement begins with, and its mark m
  pub record Reference (r : Ref) (x : Item) (j m : ℕ) : Type 0 where
    pub mark : mark_of (tables_text t) j ≡ m
    pub coded : code_of (tables_text t) m ≡ items.code_of x
    pub declared : link_of (tables_text t) (m - 1) ≡ decl_at t a j (name_of r)
    pub located : (s : List ℤ) (p : ℕ) → locate_of (tables_text t) s p j m ≡ locate (tables_text t) s p (decl_at t a j) r

  pub reference_there : (r : Ref) (x : Item) (z : List Item) (j : ℕ) → Refers x → Here t a (code_exp r ++ x ∷ z) j → Reference r x j (j + size_in r)
  reference_there r x z j b p =
      record {
        mark = phrase_mark t a r x z j p b.behind.mark;
        coded = mark_code t a r x z j p;
        declared = refers-linked t a j j (omega arith) (none_yet j) r x z p b;
        located = refers_located t a j j (omega arith) (none_yet j) r x z p b;
      }

  -- ---- each of them
  pub sending : (mk : ℕ) (r : Ref) (es : List Expr) (j : ℕ) → Here t a (code_tree (leaf (send mk r es))) j
      → Reference r (i_send mk) j (j + size_in r) × Passed (tables_text t) (decl_at t a j) es (j + size_in r + 1) (j + tree.size_in (leaf (send mk r es)) - 1)
  sending mk r es j p =
      let sz = size-leaf (send mk r es) in
      let R = code_exp r in
      let E = each code_argument es in
      let h = subst (λ l. Here t a l j) (append_assoc R (i_send mk ∷ E) (i_end ∷ [])) p in
      let n : length ((R ++ i_send mk ∷ E) ++ i_end ∷ []) ≡ size_in r + 1 + length E + 1 = omega (arith, length-append (R ++ i_send mk ∷ E) (i_end ∷ []), length-append R (i_send mk ∷ E)) in (
        reference_there r (i_send mk) (E ++ i_end ∷ []) j refers_send h,
        arguments_there t a es j (j + size_in r + 1) (j + tree.size_in (leaf (send mk r es)) - 1) (omega arith)
            (quiet_phrase t a j j (none_yet j) r (i_send mk) (E ++ i_end ∷ []) h (omega arith)) (behind_there t a r (i_send mk) (E ++ i_end ∷ []) j h) (omega arith),
      )

  pub receiving : (mk : ℕ) (r : Ref) (ys : List Received) (j : ℕ) → Here t a (code_tree (leaf (receive mk r ys))) j
      → Reference r (i_receive mk) j (j + size_in r) × Got (tables_text t) (decl_at t a j) ys (j + size_in r + 1) (j + tree.size_in (leaf (receive mk r ys)) - 1)
  receiving mk r ys j p =
      let sz = size-leaf (receive mk r ys) in
      let R = code_exp r in
      let E = each code_received ys in
      let h = subst (λ l. Here t a l j) (append_assoc R (i_receive mk ∷ E) (i_end ∷ [])) p in
      let n : length ((R ++ i_receive mk ∷ E) ++ i_end ∷ []) ≡ size_in r + 1 + length E + 1 = omega (arith, length-append (R ++ i_receive mk ∷ E) (i_end ∷ []), length-append R (i_receive mk ∷ E)) in (
        reference_there r (i_receive mk) (E ++ i_end ∷ []) j refers_receive h,
        received_there t a ys j (j + size_in r + 1) (j + tree.size_in (leaf (receive mk r ys)) - 1) (omega arith)
            (quiet_phrase t a j j (none_yet j) r (i_receive mk) (E ++ i_end ∷ []) h (omega arith)) (behind_there t a r (i_receive mk) (E ++ i_end ∷ []) j h) (omega arith),
      )

  pub record Printing (es : List Expr) (j z : ℕ) : Type 0 where
    pub mark : mark_of (tables_text t) j ≡ j
    pub coded : code_of (tables_text t) j ≡ c_text
    pub passed : Passed (tables_text t) (decl_at t a j) es (j + 1) z

  pub printing : (w : List ℕ) (es : List Expr) (j : ℕ) → Here t a (code_tree (leaf (print w es))) j → Printing es j (j + tree.size_in (leaf (print w es)) - 1)
  printing w es j p =
      let sz = size-leaf (print w es) in
      let E = each code_argument es in
      let n : length (E ++ i_end ∷ []) ≡ length E + 1 = length-append E (i_end ∷ []) in
      let k =
      arguments_there t a es j (j + 1) (j + tree.size_in (leaf (print w es)) - 1) (omega arith) (quiet-mark t a (i_text w) (E ++ i_end ∷ []) j p (omega arith))
      (lying_back xs (i_text w ∷ []) (E ++ i_end ∷ []) 0 j (j + 1) refl p) (omega arith) in
      record {
        mark = alone-mark t a (i_text w) (E ++ i_end ∷ []) j p text-alone;
        coded = first_code t a (i_text w) (E ++ i_end ∷ []) j p;
        passed = k;
      }

  -- a name w and behind it the run m, of code c
  pub record Running (w : Name) (es : List Expr) (c j m z : ℕ) : Type 0 where
    pub coded : code_of (tables_text t) m ≡ c
    pub begun : link_of (tables_text t) m ≡ unit_at t a w
    pub passed : Passed (tables_text t) (decl_at t a j) es (m + 1) z

  pub running : (w : Name) (es : List Expr) (j : ℕ) → Here t a (code_tree (leaf (run w es))) j → (mark_of (tables_text t) j ≡ j + 1) × Running w es c_run j (j + 1) (j + tree.size_in (leaf (run w es)) - 1)
  running w es j p =
      let sz = size-leaf (run w es) in
      let E = each code_argument es in
      let n : length (E ++ i_end ∷ []) ≡ length E + 1 = length-append E (i_end ∷ []) in
      let q = lying_back xs (i_name w ∷ []) (i_run ∷ (E ++ i_end ∷ [])) 0 j (j + 1) refl p in
      let r = lying_back xs (i_run ∷ []) (E ++ i_end ∷ []) 0 (j + 1) (j + 1 + 1) refl q in
      let k =
      arguments_there t a es j (j + 1 + 1) (j + tree.size_in (leaf (run w es)) - 1) (omega arith)
      (quiet-join t a j (j + 1) (j + 1 + 1) (quiet-mark t a (i_name w) (i_run ∷ (E ++ i_end ∷ [])) j p (omega arith)) (quiet-mark t a i_run (E ++ i_end ∷ []) (j + 1) q (omega arith))) r
      (omega arith) in (
        name-mark t a w i_run (E ++ i_end ∷ []) j p run-mark,
        record {
          coded = first_code t a i_run (E ++ i_end ∷ []) (j + 1) q;
          begun = run-unit t a w i_run (E ++ i_end ∷ []) j p (inl refl);
          passed = k;
        },
      )

  pub set_running : (r : Ref) (w : Name) (es : List Expr) (j : ℕ) → Here t a (code_tree (leaf (set_run r w es))) j
      → Reference r i_target j (j + size_in r) × (link_of (tables_text t) (j + size_in r) ≡ j + size_in r + 2) × Running w es c_set_run j (j + size_in r + 2) (j + tree.size_in (leaf (set_run r w es)) - 1)
  set_running r w es j p =
      let sz = size-leaf (set_run r w es) in
      let R = code_exp r in
      let E = each code_argument es in
      let m = j + size_in r in
      let z = j + tree.size_in (leaf (set_run r w es)) - 1 in
      let Y = E ++ i_end ∷ [] in
      let h = subst (λ l. Here t a l j) (append_assoc R (i_target ∷ i_name w ∷ i_set_run ∷ E) (i_end ∷ [])) p in
      let n : length ((R ++ i_target ∷ i_name w ∷ i_set_run ∷ E) ++ i_end ∷ []) ≡ size_in r + 3 + length E + 1 =
      omega (arith, length-append (R ++ i_target ∷ i_name w ∷ i_set_run ∷ E) (i_end ∷ []), length-append R (i_target ∷ i_name w ∷ i_set_run ∷ E)) in
      let g = lying_back xs R (i_target ∷ i_name w ∷ i_set_run ∷ Y) 0 j m refl h in
      let q = lying_back xs (i_target ∷ []) (i_name w ∷ i_set_run ∷ Y) 0 m (m + 1) refl g in
      let o = lying_back xs (i_name w ∷ []) (i_set_run ∷ Y) 0 (m + 1) (m + 2) (omega arith) q in
      let v = lying_back xs (i_set_run ∷ []) Y 0 (m + 2) (m + 2 + 1) refl o in
      let d : m + 1 + 1 ≡ m + 2 = omega arith in
      let u =
      quiet-join t a j (m + 1) (m + 2) (quiet_phrase t a j j (none_yet j) r i_target (i_name w ∷ i_set_run ∷ Y) h (omega arith))
      (subst (Quiet t a (m + 1)) d (quiet-mark t a (i_name w) (i_set_run ∷ Y) (m + 1) q (omega arith))) in
      let k = arguments_there t a es j (m + 2 + 1) z (omega arith) (quiet-join t a j (m + 2) (m + 2 + 1) u (quiet-mark t a i_set_run Y (m + 2) o (omega arith))) v (omega arith) in (
        reference_there r i_target (i_name w ∷ i_set_run ∷ Y) j refers-target h,
        target_run t a w Y m g,
        record {
          coded = first_code t a i_set_run Y (m + 2) o;
          begun = ap (link_of T) (sym d) ∙ run-unit t a w i_set_run Y (m + 1) q (inr refl);
          passed = k;
        },
      )
