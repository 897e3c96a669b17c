-- THE ITEMS OF A STATEMENT STAND AT ITS PLACE in the code of the model, with what is before and behind them.
use Prim.Native.Nat.{ℕ, ◌+◌}
use native.Mathlib.Omega.{arith}
use mathlib.Core.Path.{◌≡◌, refl, sym, ap, ◌∙◌}
use mathlib.Core.List.{List, [], ◌∷◌, ◌++◌, append_assoc, append-nil}
use lib.ListN.{length, length-append}
use Rattle.spec_grammar.specs.Tree.{Sort, action, Tree, Body, body, Model}
use Rattle.base_codes.specs.Items.{Item, i_body, i_do, i_end_body, i_end_option, i_fi, i_if, i_init, i_label, i_local, i_name, i_od, i_option}
use Rattle.parse_code.specs.Code.{each, code_tree, code_declaration, code_group, code_body, code_activity, code_part, code}
use Rattle.spec_machine.specs.Stage.{Ways}
use Rattle.spec_machine.specs.Sizes.{size_in, size_part}
use Rattle.spec_machine.specs.Program.{Within, itself, in_if, in_do, unlabelled, behind_label, in_first, in_rest, in_option, in_others, start_in, sequence_of}
use Rattle.agree_sizes.specs.Bodies.{Holds, in_process, in_init, later, Statement}
use Rattle.agree_sizes.proofs.Sizes.{size_tree, size_activity_lem, size_groups, size-part, size-declarations}

-- the items x stand in the items l, which begin at item i, from item j on
pub record Lying (l : List Item) (i : ℕ) (x : List Item) (j : ℕ) : Type 0 where
  pub front : List Item
  pub rest : List Item
  pub split : l ≡ front ++ (x ++ rest)
  pub place : j ≡ i + length front

-- more before them, or behind them
pub lying_behind : (y l x : List Item) (i k j : ℕ) → k ≡ i + length y → Lying l k x j → Lying (y ++ l) i x j
lying_behind y l x i k j e p =
    record {
      front = y ++ p.front;
      rest = p.rest;
      split = ap (y ++◌) p.split ∙ sym (append_assoc y p.front (x ++ p.rest));
      place = let a = p.place in let b = length-append y p.front in omega arith;
    }

pub lying_before : (l z x : List Item) (i j : ℕ) → Lying l i x j → Lying (l ++ z) i x j
lying_before l z x i j p =
    record {
      front = p.front;
      rest = p.rest ++ z;
      split = ap (◌++ z) p.split ∙ append_assoc p.front (x ++ p.rest) z ∙ ap (p.front ++◌) (append_assoc x p.rest z);
      place = p.place;
    }

pub lying_whole : (x : List Item) (i : ℕ) → Lying x i x i
lying_whole x i = record { front = []; rest = []; split = sym (append-nil x); place = omega arith }

-- ---- in a tree
pub within_lies : {k : Sort} {t : Tree k} {i n o : ℕ} {a : Tree action} {j m u : ℕ} → Within k t i n o a j m u → Lying (code_tree t) i (code_tree a) j
within_lies (itself {a = a} {i = i}) = lying_whole (code_tree a) i
within_lies {i = i} {a = a} {j = j} (in_if {os = os} p) =
    lying_before (i_if ∷ code_tree os) (i_fi ∷ []) (code_tree a) i j (lying_behind (i_if ∷ []) (code_tree os) (code_tree a) i (i + 1) j refl (within_lies p))
within_lies {i = i} {a = a} {j = j} (in_do {os = os} p) =
    lying_before (i_do ∷ code_tree os) (i_od ∷ []) (code_tree a) i j (lying_behind (i_do ∷ []) (code_tree os) (code_tree a) i (i + 1) j refl (within_lies p))
within_lies (unlabelled p) = within_lies p
within_lies {i = i} {a = a} {j = j} (behind_label {w = w} {b = b} p) = lying_behind (i_name w ∷ i_label ∷ []) (code_tree b) (code_tree a) i (i + 2) j refl (within_lies p)
within_lies {i = i} {a = a} {j = j} (in_first {s = s} {q = q} p) = lying_before (code_tree s) (code_tree q) (code_tree a) i j (within_lies p)
within_lies {i = i} {a = a} {j = j} (in_rest {s = s} {q = q} p) = lying_behind (code_tree s) (code_tree q) (code_tree a) i (i + size_in s) j (omega (arith, size_tree s)) (within_lies p)
within_lies {i = i} {a = a} {j = j} (in_option {q = q} {os = os} p) =
    lying_before (i_option ∷ code_tree q) (i_end_option ∷ code_tree os) (code_tree a) i j (lying_behind (i_option ∷ []) (code_tree q) (code_tree a) i (i + 1) j refl (within_lies p))
within_lies {i = i} {a = a} {j = j} (in_others {q = q} {os = os} p) =
    lying_behind (i_option ∷ code_tree q) (i_end_option ∷ code_tree os) (code_tree a) i (i + 1 + size_in q) j (omega (arith, size_tree q))
    (lying_behind (i_end_option ∷ []) (code_tree os) (code_tree a) (i + 1 + size_in q) (i + 2 + size_in q) j (omega arith) (within_lies p))

-- ---- in a model
pub body_lies : {m : Model} {i u k : ℕ} {b : Body} → Holds m i u b k → Lying (code m) i (code_body b) k
body_lies {i = i} {u = u} {k = k} (in_process {x = x} {w = w} {gs = gs} {b = b} {m = m} e f) =
    lying_before (code_activity x w ++ each code_group gs ++ code_body b) (code m) (code_body b) i k
    (lying_behind (code_activity x w ++ each code_group gs) (code_body b) (code_body b) i k k (omega (arith, size_activity_lem x w, size_groups gs, length-append (code_activity x w) (each code_group gs))) (lying_whole (code_body b) k))
body_lies {i = i} {k = k} (in_init {b = b} {m = m} e) = lying_before (i_init ∷ code_body b) (code m) (code_body b) i k (lying_behind (i_init ∷ []) (code_body b) (code_body b) i k k e (lying_whole (code_body b) k))
body_lies {i = i} {k = k} (later {x = x} {m = m} {b = b} p) = lying_behind (code_part x) (code m) (code_body b) i (i + size_part x) k (omega (arith, size-part x)) (body_lies p)

-- one inside of another
pub lying_in : (l x y : List Item) (i j k : ℕ) → Lying l i x j → Lying x j y k → Lying l i y k
lying_in l x y i j k p q =
    record {
      front = p.front ++ q.front;
      rest = q.rest ++ p.rest;
      split =
          p.split ∙ ap (λ (z : List Item). p.front ++ (z ++ p.rest)) q.split ∙ ap (p.front ++◌) (append_assoc q.front (y ++ q.rest) p.rest ∙ ap (q.front ++◌) (append_assoc y q.rest p.rest))
          ∙ sym (append_assoc p.front q.front (y ++ (q.rest ++ p.rest)));
      place = let a = p.place in let b = q.place in let c = length-append p.front q.front in omega arith;
    }

-- the statements of a body
pub statements_lie : (b : Body) (k : ℕ) → Lying (code_body b) k (code_tree (sequence_of b)) (start_in b k)
statements_lie (body ds q) k =
    let D = each (code_declaration i_local) ds in
    lying_before (i_body ∷ D ++ code_tree q) (i_end_body ∷ []) (code_tree q) k (start_in (body ds q) k)
    (lying_behind (i_body ∷ D) (code_tree q) (code_tree q) k (start_in (body ds q) k) (start_in (body ds q) k) (omega (arith, size-declarations ds)) (lying_whole (code_tree q) (start_in (body ds q) k)))

pub statement_lies : {m : Model} {u j : ℕ} {a : Tree action} {h : Ways} → Statement m u a j h → Lying (code m) 0 (code_tree a) j
statement_lies {m} {u} {j} {a} {h} s =
    let b = s.own in
    let k = s.at in
    lying_in (code m) (code_tree (sequence_of b)) (code_tree a) 0 (start_in b k) j
    (lying_in (code m) (code_body b) (code_tree (sequence_of b)) 0 k (start_in b k) (body_lies s.held) (statements_lie b k)) (within_lies s.inside)

-- ---- parts of what lies: the first of them, those behind them, those between two others
pub lying_front : (l x y : List Item) (i j : ℕ) → Lying l i (x ++ y) j → Lying l i x j
lying_front l x y i j p = lying_in l (x ++ y) x i j j p (lying_before x y x j j (lying_whole x j))

pub lying_back : (l x y : List Item) (i j k : ℕ) → k ≡ j + length x → Lying l i (x ++ y) j → Lying l i y k
lying_back l x y i j k e p = lying_in l (x ++ y) y i j k p (lying_behind x y y j k k e (lying_whole y k))

pub lying_between : (l : List Item) (x : Item) (m : List Item) (y : Item) (i j : ℕ) → Lying l i (x ∷ (m ++ (y ∷ []))) j → Lying l i m (j + 1)
lying_between l x m y i j p = lying_front l m (y ∷ []) i (j + 1) (lying_back l (x ∷ []) (m ++ (y ∷ [])) i j (j + 1) refl p)
