-- THE LAST ITEM OF A STATEMENT by the tables is that of the tree's statement: no item inside of a statement that holds no other has a code that ends one, and a selection is linked to what closes it.
use Prim.Native.Nat.{ℕ, zero, suc, ◌+◌, ◌-◌, ◌≤◌, ◌<◌}
use native.Mathlib.Omega.{arith}
use native.Mathlib.Numerals.{add-one}
use borrow.Author.Tests.{ne_eqb, lt-leb}
use mathlib.Core.Path.{◌≡◌, refl, sym as inv, ◌∙◌, ap, subst}
use mathlib.Core.Bool.{true, false}
use mathlib.Core.List.{List, [], ◌∷◌, ◌++◌}
use lib.ListN.{length, length-append, length-map}
use Rattle.base_codes.specs.Codes.{c_assert, c_assign, c_constant, c_end, c_express}
use Rattle.base_codes.specs.Items.{Item, i_assert, i_assign, i_break, i_decrement, i_else, i_end, i_express, i_fi, i_goto, i_increment, i_name, i_od, i_receive, i_run, i_send, i_set_run, i_skip, i_target, i_text, i_timeout}
use Rattle.base_codes.specs.Items as items
use Rattle.spec_grammar.specs.Tree.{Shape, Exp, Leaf, express, assign, increment, decrement, send, receive, assert, print, skip, goto, break, timeout, else, run, set_run, action, Tree, leaf, select, loop}
use Rattle.parse_code.specs.Code.{each, code_exp, code_argument, code_received, code_leaf, code_tree, code}
use Rattle.rule_sheets.specs.Walks.{first}
use Rattle.table_entries.specs.Items.{AllKnown, entry_of}
use Rattle.table_layout.specs.Access.{items_of, code_of}
use Rattle.table_layout.specs.Trees.{entries_in}
use Rattle.table_layout.proofs.Holds.{holds-items}
use Rattle.read_accepts_proof.specs.Meaning.{Accepts, links_at}
use Rattle.agree_sizes.proofs.Sizes.{size_tree}
use Rattle.agree_eval.specs.Held.{Held}
use Rattle.agree_eval.proofs.Items.{T}
use Rattle.agree_eval.proofs.Operators.{known-front}
use Rattle.agree_eval.proofs.Ranges.{Every, every_append, every_lift, InExp, exp_codes, InArgs, args_codes, all_received_codes}
use Rattle.agree_nesting.specs.Full.{Full}
use Rattle.agree_stage.proofs.Stands.{Lying}
use Rattle.agree_offers.proofs.Places.{held_there, inside_there, known_there}
use Rattle.agree_offers.proofs.Texts.{told}
use Rattle.show_statement.specs.Statements.{ends_leaf, is_branching, leaf_end, last_of}

-- ---- codes that end no statement
abbrev Inner : ℕ → Type 0
Inner c = ends_leaf c ≡ false

low : (c : ℕ) → c ≤ c_constant → Inner c
unfolding ends_leaf
low c h = rw (ne_eqb c c_end (λ e. omega arith), ne_eqb c c_express (λ e. omega arith), lt-leb c_assign c (omega arith), lt-leb c_assert c (omega arith))

exp_inner : {s : Shape} (e : Exp s) → Every Inner (code_exp e)
exp_inner e = every_lift InExp Inner (λ c h. let l = h.0 in low c (omega arith)) (code_exp e) (exp_codes e)

args-inner : (l : List Item) → Every InArgs l → Every Inner l
args-inner l h = every_lift InArgs Inner (λ c h. low c h.0) l h

-- ---- the last item of a statement that holds no other ends one, and none before it
record Closed (l : Leaf) : Type 0 where
  front : List Item
  last : Item
  is : code_leaf l ≡ front ++ last ∷ []
  inner : Every Inner front
  ends : ends_leaf (items.code_of last) ≡ true

closed : (l : Leaf) → Closed l
unfolding ends_leaf
closed (express e) = record { front = code_exp e; last = i_express; is = refl; inner = exp_inner e; ends = refl }
closed (assign r e) = record { front = code_exp r ++ i_target ∷ code_exp e; last = i_assign; is = refl; inner = every_append Inner (code_exp r) (i_target ∷ code_exp e) (exp_inner r) (λ k. refl, exp_inner e); ends = refl }
closed (increment r) = record { front = code_exp r; last = i_increment; is = refl; inner = exp_inner r; ends = refl }
closed (decrement r) = record { front = code_exp r; last = i_decrement; is = refl; inner = exp_inner r; ends = refl }
closed (send o r es) =
    let A = each code_argument es in
    record { front = code_exp r ++ i_send o ∷ A; last = i_end; is = refl; inner = every_append Inner (code_exp r) (i_send o ∷ A) (exp_inner r) (λ k. refl, args-inner A (args_codes es)); ends = refl }
closed (receive o r xs) =
    let A = each code_received xs in
    record { front = code_exp r ++ i_receive o ∷ A; last = i_end; is = refl; inner = every_append Inner (code_exp r) (i_receive o ∷ A) (exp_inner r) (λ k. refl, args-inner A (all_received_codes xs)); ends = refl }
closed (assert e) = record { front = code_exp e; last = i_assert; is = refl; inner = exp_inner e; ends = refl }
closed (print w es) = record { front = i_text w ∷ each code_argument es; last = i_end; is = refl; inner = (λ k. refl, args-inner (each code_argument es) (args_codes es)); ends = refl }
closed skip = record { front = []; last = i_skip; is = refl; inner = tt; ends = refl }
closed (goto w) = record { front = i_name w ∷ []; last = i_goto; is = refl; inner = (λ k. refl, tt); ends = refl }
closed break = record { front = []; last = i_break; is = refl; inner = tt; ends = refl }
closed timeout = record { front = []; last = i_timeout; is = refl; inner = tt; ends = refl }
closed else = record { front = []; last = i_else; is = refl; inner = tt; ends = refl }
closed (run w es) = record { front = i_name w ∷ i_run ∷ each code_argument es; last = i_end; is = refl; inner = (λ k. refl, (λ k. refl, args-inner (each code_argument es) (args_codes es))); ends = refl }
closed (set_run r w es) =
    let A = each code_argument es in
    record {
      front = code_exp r ++ i_target ∷ i_name w ∷ i_set_run ∷ A;
      last = i_end;
      is = refl;
      inner = every_append Inner (code_exp r) (i_target ∷ i_name w ∷ i_set_run ∷ A) (exp_inner r) (λ k. refl, (λ k. refl, (λ k. refl, args-inner A (args_codes es))));
      ends = refl;
    }

-- ---- the search for it
module _ (t : List ℕ) where
  searched : (l : List Item) (y : Item) (i n : ℕ) → Every Inner l → AllKnown l → Held t i (l ++ y ∷ []) → ends_leaf (items.code_of y) ≡ true → length l < n → first (λ k. ends_leaf (code_of t k)) i n ≡ i + length l
  unfolding first
  searched l y i zero e k h f g = absurd (omega arith)
  searched [] y i (suc n) e k h f g =
      let z : ends_leaf (code_of t i) ≡ true = ap ends_leaf h.0 ∙ f in
      rw z (omega arith)
  searched (x ∷ l) y i (suc n) e k h f g =
      let z : ends_leaf (code_of t i) ≡ false = ap ends_leaf h.0 ∙ e.0 k.0 in
      rw z (searched l y (i + 1) n e.1 k.1 (subst (λ j. Held t j (l ++ y ∷ [])) (inv (add-one i)) h.2) f (omega arith) ∙ omega arith)

module _ (t : List ℕ) (a : Accepts t) where
  pub items-all : items_of (T t a) ≡ length (code a.tree)
  items-all = holds-items (entries_in a.tree) (links_at t a) ∙ length-map (code a.tree) entry_of

  pub last-item : (x : Tree action) (j : ℕ) → Full x → Lying (code a.tree) 0 (code_tree x) j → suc (last_of (T t a) j) ≡ j + length (code_tree x)
  unfolding last_of leaf_end is_branching
  last-item (leaf l) j f p =
      let y = closed l in
      let n = length-append y.front (y.last ∷ []) in
      let c = ap length y.is in
      let w = inside_there t a (code_tree (leaf l)) j p in
      let i = items-all in
      let k = known-front y.front (y.last ∷ []) (subst AllKnown y.is (known_there t a (code_tree (leaf l)) j p)) in
      let s = searched (T t a) y.front y.last j (items_of (T t a) - j) y.inner k (subst (Held (T t a) j) y.is (held_there t a (code_tree (leaf l)) j p)) y.ends (omega arith) in
      rw (told t a (leaf l) j f p).0 (omega arith)
  last-item (select os) j f p =
      let g = told t a (select os) j f p in
      let z = size_tree os in
      let n = length-append (code_tree os) (i_fi ∷ []) in
      let s = g.1 in
      rw g.0 (omega arith)
  last-item (loop os) j f p =
      let g = told t a (loop os) j f p in
      let z = size_tree os in
      let n = length-append (code_tree os) (i_od ∷ []) in
      let s = g.1 in
      rw g.0 (omega arith)
