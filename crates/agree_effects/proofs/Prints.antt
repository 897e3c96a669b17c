-- WHAT A STEP PRINTS: at the place of a statement of an accepted text's tree the tables print what the tree's statement prints, in every state and for every process.
use Prim.Native.Nat.{ℕ, zero, suc, ◌+◌, ◌-◌, ◌<◌, ◌≤◌}
use native.Mathlib.Omega.{arith}
use mathlib.Core.Path.{◌≡◌, refl, sym, ap, subst, ◌∙◌}
use mathlib.Core.Logic.{inr}
use mathlib.Core.List.{List, [], ◌∷◌, ◌++◌, append_assoc}
use lib.ListN.{length, get_or, replicate, length-map}
use lib.IntN.{ℤ, pos}
use borrow.Author.Tests.{ne_eqb}
use Rattle.base_ceilings.specs.Ceilings.{numbers_most}
use Rattle.table_layout.specs.Access.{code_of, name_length, name_byte}
use Rattle.table_layout.specs.Trees.{entries_in}
use Rattle.table_layout.proofs.Holds.{holds_name_length, holds_name_byte}
use Rattle.spec_grammar.specs.Tree.{Expr, action, Tree, leaf, express, assign, increment, decrement, send, receive, assert, print, skip, goto, break, timeout, else, run, set_run, select, loop}
use Rattle.table_entries.specs.Entry.{nothing}
use Rattle.table_proof.proofs.Read.{get_only}
use Rattle.table_proof.proofs.Accepted.{accepted_fair, accepted_small}
use Rattle.read_passes.specs.Judging.{tables_text}
use Rattle.read_accepts_proof.specs.Meaning.{Accepts, links_at}
use Rattle.read_accepts_proof.proofs.Tables.{text-tables}
use Rattle.step_messages.specs.Messages.{gather_end, gather_list}
use Rattle.step_prints.specs.Printing.{written_from, text_of, unless_failed, printed_at}
use Rattle.spec_text.specs.Formats.{formatted, opened, counted}
use Rattle.agree_stage.specs.Scenes.{scene_of}
use Rattle.agree_eval.specs.Names.{decl_at}
use Rattle.agree_eval.proofs.Main.{items_long}
use Rattle.spec_machine.specs.Arguments.{WorkedOut, all, stopped, values}
use Rattle.spec_machine.specs.Effect.{format, text_by, prints}
use Rattle.agree_stage.proofs.Stands.{Lying}
use Rattle.agree_effects.specs.Few.{Few}
use Rattle.agree_effects.specs.Stages.{stage_at}
use Rattle.agree_effects.proofs.Gathers.{end_by, gather_ends}
use Rattle.agree_effects.proofs.Parts.{Here, here_lies, first-inside, first_code}
use Rattle.agree_effects.proofs.Marks.{leaf_no_text}
use Rattle.agree_effects.proofs.Lists.{leaf_there}
use Rattle.agree_effects.proofs.Shapes.{printing}
use Rattle.agree_effects.proofs.Values.{text-alike, gathered-alike}
use Rattle.base_codes.specs.Codes.{c_text}
use Rattle.base_codes.specs.Items.{Item, i_assert, i_assign, i_break, i_decrement, i_do, i_else, i_end, i_express, i_fi, i_goto, i_if, i_increment, i_name, i_od, i_plain, i_receive, i_run, i_send, i_set_run, i_skip, i_target, i_text, i_timeout}
use Rattle.parse_code.specs.Code.{each, code_exp, code_argument, code_received, code_tree, code}
use Rattle.table_entries.specs.Items.{entry_of}
use Rattle.base_codes.specs.Items as items
use Rattle.spec_machine.specs.Sizes as tree

-- ---- a format, byte by byte
format_is : (t : List ℕ) (vs : List ℤ) (w : List ℕ) (n j i was k : ℕ) → n ≡ length w → ((d : ℕ) → d < length w → name_byte t j (i + d) ≡ get_or w d 0)
    → written_from t vs n j i was k ≡ format vs was k w
unfolding written_from format
format_is t vs [] zero j i was k e f = refl
format_is t vs [] (suc n) j i was k e f = absurd (omega arith)
format_is t vs (b ∷ w) zero j i was k e f = absurd (omega arith)
format_is t vs (b ∷ w) (suc n) j i was k e f =
    let z : i ≡ i + 0 = omega arith in
    let q : name_byte t j i ≡ b = ap (name_byte t j) z ∙ f 0 (omega arith) in
    ap (λ x. formatted vs was x k ++ written_from t vs n j (i + 1) (opened was x) (counted was x k)) q
    ∙ ap (formatted vs was b k ++◌) (format_is t vs w n j (i + 1) (opened was b) (counted was b k) (omega arith)
    (λ d h. let y : i + 1 + d ≡ i + suc d = omega arith in ap (name_byte t j) y ∙ f (suc d) (omega arith)))

module _ (t : List ℕ) (a : Accepts t) where
  abbrev T : List ℕ
  T = tables_text t

  abbrev xs : List Item
  xs = code a.tree

  -- ---- the bytes of a string
  module _ (w : List ℕ) (l : List Item) (j : ℕ) (p : Here t a (i_text w ∷ l) j) where
    inside : j < length (entries_in a.tree)
    inside = omega (arith, first-inside t a (i_text w) l j p, items_long t a, length-map xs entry_of)

    entry_is : get_or (entries_in a.tree) j nothing ≡ entry_of (i_text w)
    entry_is = get_only entry_of xs j i_plain nothing (omega (arith, inside, length-map xs entry_of)) ∙ ap entry_of (here_lies t a (i_text w ∷ l) j p).0

    text-length : name_length T j ≡ length w
    text-length =
        ap (λ (x : List ℕ). name_length x j) (text-tables t a)
        ∙ holds_name_length (entries_in a.tree) (links_at t a) (accepted_fair t a.parts a.tree a.reads a.gram) j inside (inr (ap (λ x. x.code) entry_is))
        ∙ ap (λ x. length x.bytes) entry_is

    text-byte : (d : ℕ) → d < length w → name_byte T j d ≡ get_or w d 0
    text-byte d h =
        ap (λ (x : List ℕ). name_byte x j d) (text-tables t a)
        ∙ holds_name_byte (entries_in a.tree) (links_at t a) (accepted_fair t a.parts a.tree a.reads a.gram) j inside (inr (ap (λ x. x.code) entry_is))
        (accepted_small t a.parts a.tree a.reads a.gram) d
        (subst (λ x. d < length x.bytes) (sym entry_is) h) ∙ ap (λ x. get_or x.bytes d 0) entry_is

    text_is : (vs : List ℤ) → text_of T vs j ≡ format vs 0 0 w
    text_is vs = format_is T vs w (name_length T j) j 0 0 0 text-length (λ d h. let z : 0 + d ≡ d = omega arith in ap (name_byte T j) z ∙ text-byte d h)

  module _ (j : ℕ) (s : List ℤ) (p : ℕ) where
    none-printed : (code_of T j ≡ c_text → ⊥) → printed_at T s p j ≡ []
    unfolding printed_at
    none-printed n = rw (ne_eqb (code_of T j) c_text n)

    text-printed : code_of T j ≡ c_text → printed_at T s p j ≡ unless_failed (gather_end T s p numbers_most (j + 1)) (text_of T (gather_list T s p numbers_most (j + 1) 0 (replicate numbers_most (pos 0))) j)
    unfolding printed_at
    text-printed e = rw e

    print_prints : (w : List ℕ) (es : List Expr) → Here t a (code_tree (leaf (print w es))) j → length es ≤ numbers_most → printed_at T s p j ≡ text_by w (values (scene_of T s p (decl_at t a j)) es)
    print_prints w es h few =
        let g = printing t a w es j h in
        text-printed g.coded ∙ ap (λ y. unless_failed y (text_of T (gather_list T s p numbers_most (j + 1) 0 (replicate numbers_most (pos 0))) j)) (gather_ends T (decl_at t a j) s p g.passed numbers_most few)
        ∙ go (j + tree.size_in (leaf (print w es)) - 1) (values (scene_of T s p (decl_at t a j)) es) (λ vs e. gathered-alike T (decl_at t a j) s p g.passed few vs e) refl
      where
        go : (z : ℕ) (y : WorkedOut)
            → ((vs : List ℤ) → values (scene_of T s p (decl_at t a j)) es ≡ all vs → (i : ℕ) → get_or (gather_list T s p numbers_most (j + 1) 0 (replicate numbers_most (pos 0))) i (pos 0) ≡ get_or vs i (pos 0))
            → values (scene_of T s p (decl_at t a j)) es ≡ y → unless_failed (end_by z y) (text_of T (gather_list T s p numbers_most (j + 1) 0 (replicate numbers_most (pos 0))) j) ≡ text_by w y
        go z (all vs) f e = text-alike T (gather_list T s p numbers_most (j + 1) 0 (replicate numbers_most (pos 0))) vs (f vs e) (name_length T j) j 0 0 0 ∙ text_is w (each code_argument es ++ i_end ∷ []) j h vs
        go z (stopped f) g e = refl

    alone-prints : (x : Item) (z : List Item) → Here t a (x ∷ z) j → (items.code_of x ≡ c_text → ⊥) → printed_at T s p j ≡ []
    alone-prints x z h n = none-printed (λ e. n (sym (first_code t a x z j h) ∙ e))

    prints_at : (x : Tree action) → Here t a (code_tree x) j → Few x → printed_at T s p j ≡ prints (stage_at t a s p j) x
    prints_at (leaf (express e)) h few = none-printed (leaf_no_text (leaf_there t a e (i_express ∷ []) j h))
    prints_at (leaf (assign r e)) h few =
        none-printed (leaf_no_text (leaf_there t a r (i_target ∷ (code_exp e ++ i_assign ∷ [])) j
        (subst (λ l. Here t a l j) (append_assoc (code_exp r) (i_target ∷ code_exp e) (i_assign ∷ [])) h)))
    prints_at (leaf (increment r)) h few = none-printed (leaf_no_text (leaf_there t a r (i_increment ∷ []) j h))
    prints_at (leaf (decrement r)) h few = none-printed (leaf_no_text (leaf_there t a r (i_decrement ∷ []) j h))
    prints_at (leaf (send mk r es)) h few =
        let E = each code_argument es in
        none-printed (leaf_no_text (leaf_there t a r (i_send mk ∷ (E ++ i_end ∷ [])) j (subst (λ l. Here t a l j) (append_assoc (code_exp r) (i_send mk ∷ E) (i_end ∷ [])) h)))
    prints_at (leaf (receive mk r ys)) h few =
        let E = each code_received ys in
        none-printed (leaf_no_text (leaf_there t a r (i_receive mk ∷ (E ++ i_end ∷ [])) j (subst (λ l. Here t a l j) (append_assoc (code_exp r) (i_receive mk ∷ E) (i_end ∷ [])) h)))
    prints_at (leaf (assert e)) h few = none-printed (leaf_no_text (leaf_there t a e (i_assert ∷ []) j h))
    prints_at (leaf (print w es)) h few = print_prints w es h few
    prints_at (leaf skip) h few = alone-prints i_skip [] h (λ e. omega arith)
    prints_at (leaf (goto w)) h few = alone-prints (i_name w) (i_goto ∷ []) h (λ e. omega arith)
    prints_at (leaf break) h few = alone-prints i_break [] h (λ e. omega arith)
    prints_at (leaf timeout) h few = alone-prints i_timeout [] h (λ e. omega arith)
    prints_at (leaf else) h few = alone-prints i_else [] h (λ e. omega arith)
    prints_at (leaf (run w es)) h few = alone-prints (i_name w) (i_run ∷ (each code_argument es ++ i_end ∷ [])) h (λ e. omega arith)
    prints_at (leaf (set_run r w es)) h few =
        let E = each code_argument es in
        none-printed (leaf_no_text (leaf_there t a r (i_target ∷ i_name w ∷ i_set_run ∷ (E ++ i_end ∷ [])) j
        (subst (λ l. Here t a l j) (append_assoc (code_exp r) (i_target ∷ i_name w ∷ i_set_run ∷ E) (i_end ∷ [])) h)))
    prints_at (select os) h few = alone-prints i_if (code_tree os ++ i_fi ∷ []) h (λ e. omega arith)
    prints_at (loop os) h few = alone-prints i_do (code_tree os ++ i_od ∷ []) h (λ e. omega arith)

  pub text-prints : (x : Tree action) {j : ℕ} → Lying (code a.tree) 0 (code_tree x) j → Few x → (s : List ℤ) (p : ℕ) → printed_at (tables_text t) s p j ≡ prints (stage_at t a s p j) x
  text-prints x {j} h few s p = prints_at j s p x h few
