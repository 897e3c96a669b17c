-- Expressions: what the grammar says, a stack with marks derives, and it writes the items and the tokens that `spots_exp` says.
use mathlib.Core.Path.{◌≡◌, refl, sym as inv, subst}
use mathlib.Core.Bool.{Bool, true, false, cond}
use mathlib.Core.Option.{some}
use mathlib.Core.List.{List, [], ◌∷◌, ◌++◌, append_assoc}
use Prim.Native.Nat.{ℕ, zero, suc, ◌+◌, ◌≤◌}
use native.Mathlib.Omega.{arith}
use lib.ListN.{length, length-append}
use lib.Dec.{T, ltb}
use borrow.Author.Tests.{lt-ltb}
use Rattle.base_kinds.specs.Kinds.{Token, sym, level}
use Rattle.spec_grammar.specs.Tree.{Expr}
use Rattle.spec_grammar.specs.Grammar.{is_minus, is_not, is_flip, E, e_plain, e_index, e_number, e_true, e_false, is_len, e_query, e_group, e_choice, e_unary, e_binary, e_up}
use Rattle.base_codes.specs.Items.{Item, i_binary}
use Rattle.spec_grammar.proofs.Levels.{level_top}
use Rattle.parse_grammar.specs.Engine.{nt, tm, act, In, here, there}
use Rattle.parse_grammar.specs.Productions.{NT, n_ix, Ter, any_name, Right, operation, eats, prods}
use Rattle.parse_grammar.proofs.Tests.{implies, below_out}
use Rattle.parse_grammar.proofs.LinkE.{ne, tl, operator_in, eats-same, e_bound}
use Rattle.parse_spots.specs.Spots.{Spot, spots_exp}
use Rattle.parse_spots_proof.specs.Marked.{Stack, ◌from◌, marks, hands, begun, M, m_emit, m_eat, m_put, m_by}

-- the constructors as functions, since a function's goal is known before its arguments are read
module _ {p : ℕ} {k : Stack} {i : ℕ} {w : List Token} {o : List Spot} where
  pub emit : {a : Item} → M k i w o → M (act a from p ∷ k) i w ((a, p) ∷ o)
  emit d = m_emit d

  pub eat : {t : Ter} {c : Token} → eats t c ≡ some [] → M k (i + 1) w o → M (tm t from p ∷ k) i (c ∷ w) o
  eat e d = m_eat e d

  pub put : {t : Ter} {c : Token} {a : Item} → eats t c ≡ some (a ∷ []) → M k (i + 1) w o → M (tm t from p ∷ k) i (c ∷ w) ((a, i) ∷ o)
  put e d = m_put e d

  pub by : {n : NT} {r : Right} → In r (prods n) → M (marks (begun n p i) r ++ k) i w o → M (nt n from p ∷ k) i w o
  by m d = m_by m d

-- the same derivation where its place is said in another way
pub fit : {k : Stack} {i j : ℕ} {w : List Token} {o : List Spot} → M k i w o → i ≡ j → M k j w o
fit {k} {i} {j} {w} {o} d e = subst (λ (x : ℕ). M k x w o) e d

pub to : (i : ℕ) {k : Stack} {j : ℕ} {w : List Token} {o : List Spot} → i ≡ j → M k i w o → M k j w o
to i {k} {j} {w} {o} e d = subst (λ (x : ℕ). M k x w o) e d

-- the operators of level l that may still follow
abbrev tail : Bool → ℕ → ℕ → Stack → Stack
tail true l p k = nt (tl l) from p ∷ k
tail false l p k = k

abbrev pub cont : ℕ → ℕ → Stack → Stack
cont l p k = tail (ltb l 11) l p k

none_in : (l : ℕ) → In [] (prods (tl l))
none_in zero = here
none_in (suc zero) = here
none_in (suc (suc zero)) = here
none_in (suc (suc (suc zero))) = here
none_in (suc (suc (suc (suc zero)))) = here
none_in (suc (suc (suc (suc (suc zero))))) = here
none_in (suc (suc (suc (suc (suc (suc zero)))))) = here
none_in (suc (suc (suc (suc (suc (suc (suc zero))))))) = here
none_in (suc (suc (suc (suc (suc (suc (suc (suc zero)))))))) = here
none_in (suc (suc (suc (suc (suc (suc (suc (suc (suc zero))))))))) = here
none_in (suc (suc (suc (suc (suc (suc (suc (suc (suc (suc zero)))))))))) = here
none_in (suc (suc (suc (suc (suc (suc (suc (suc (suc (suc (suc l))))))))))) = here

pub leave : (l p : ℕ) (k : Stack) {i : ℕ} {w : List Token} {o : List Spot} → M k i w o → M (cont l p k) i w o
leave l p k {i} {w} {o} d = go (ltb l 11)
  where
    go : (b : Bool) → M (tail b l p k) i w o
    go true = by (none_in l) d
    go false = d

climb : (l : ℕ) {p : ℕ} {k : Stack} {i : ℕ} {w : List Token} {o : List Spot} → 1 ≤ l → suc l ≤ 12 → M (nt (ne (suc l)) from i ∷ cont l i k) i w o → M (nt (ne l) from p ∷ k) i w o
climb zero h g d = absurd (omega arith)
climb (suc zero) h g d = by here d
climb (suc (suc zero)) h g d = by here d
climb (suc (suc (suc zero))) h g d = by here d
climb (suc (suc (suc (suc zero)))) h g d = by here d
climb (suc (suc (suc (suc (suc zero))))) h g d = by here d
climb (suc (suc (suc (suc (suc (suc zero)))))) h g d = by here d
climb (suc (suc (suc (suc (suc (suc (suc zero))))))) h g d = by here d
climb (suc (suc (suc (suc (suc (suc (suc (suc zero)))))))) h g d = by here d
climb (suc (suc (suc (suc (suc (suc (suc (suc (suc zero))))))))) h g d = by here d
climb (suc (suc (suc (suc (suc (suc (suc (suc (suc (suc zero)))))))))) h g d = by here d
climb (suc (suc (suc (suc (suc (suc (suc (suc (suc (suc (suc zero))))))))))) h g d = by here d
climb (suc (suc (suc (suc (suc (suc (suc (suc (suc (suc (suc (suc l)))))))))))) h g d = absurd (omega arith)

is_false : (b : Bool) → T (implies b false) → b ≡ false
is_false true t = absurd t
is_false false t = refl

no_hands : (l : ℕ) → l ≤ 10 → hands (tl l) ≡ false
no_hands l h = is_false (hands (tl l)) (below_out 11 (λ j. implies (hands (tl j)) false) tt l (omega arith))

-- what an operator's nonterminal is marked with does not count
remark : (l p q : ℕ) {k : Stack} {i : ℕ} {w : List Token} {o : List Spot} → l ≤ 10 → M (nt (tl l) from p ∷ k) i w o → M (nt (tl l) from q ∷ k) i w o
remark l p q {k} {i} {w} {o} h (m_by {r = r} m d) =
    by m (subst (λ (b : Bool). M (marks (cond b p i) r ++ k) i w o → M (marks (cond b q i) r ++ k) i w o) (inv (no_hands l h)) (λ z. z) d)

to_cont : (l p : ℕ) (k : Stack) {i : ℕ} {w : List Token} {o : List Spot} → l ≤ 10 → M (nt (tl l) from p ∷ k) i w o → M (cont l p k) i w o
to_cont l p k h d = rw (lt-ltb l 11 (omega arith)) d

from-cont : (l p q : ℕ) (k : Stack) {i : ℕ} {w : List Token} {o : List Spot} → l ≤ 10 → M (cont l p k) i w o → M (nt (tl l) from q ∷ k) i w o
from-cont l p q k h d = remark l p q h (rw (lt-ltb l 11 (omega arith)) at d)

-- after an expression of level l, an operator of that level
operates : (b l : ℕ) {p : ℕ} {k : Stack} {i : ℕ} {w : List Token} {o : List Spot} → level b ≡ suc l →
    M (nt (ne (suc (suc l))) from i ∷ act (i_binary b) from i ∷ nt (tl (suc l)) from i ∷ k) (i + 1) w o → M (nt (tl (suc l)) from p ∷ k) i (sym b ∷ w) o
operates b l {p} {k} {i} {w} {o} e d =
    by (operator_in b l e)
    (subst (λ (z : Bool). M (marks (cond z p i) (operation (ne (suc (suc l))) (tl (suc l)) b) ++ k) i (sym b ∷ w) o) (inv (no_hands (suc l) (level_top b l e))) (eat (eats-same b) d))

-- an expression of level l, then what the operators still to come derive
pub e_in : {l : ℕ} {ts : List Token} {e : Expr} (x : E l ts e) (i : ℕ) {p : ℕ} (k : Stack) (w : List Token) (o : List Spot) → 1 ≤ l → M (cont l i k) (i + length ts) w o →
    M (nt (ne l) from p ∷ k) i (ts ++ w) (spots_exp x i ++ o)
e_in e_plain i k w o h d = by here (put refl (by here (emit d)))
e_in (e_index x) i k w o h d =
    simp append_assoc (by here (put refl (by (there here) (eat refl (to (i + 2) (omega arith) (e_in x (i + 2) _ _ _ (omega arith) (by here (eat refl (emit
    (fit d (simp length-append (omega arith))))))))))))
e_in e_number i k w o h d = by (there here) (by here (put refl d))
e_in e_true i k w o h d = by (there here) (by (there here) (eat refl (emit d)))
e_in e_false i k w o h d = by (there here) (by (there (there here)) (eat refl (emit d)))
e_in (e_query is_len x) i k w o h d =
    simp append_assoc (by (there here) (by (there (there (there here))) (eat refl (eat refl (to (i + 2) (omega arith) (e_in x (i + 2) _ _ _ (omega arith) (eat refl (emit
    (fit d (simp length-append (omega arith)))))))))))
e_in (e_group x) i k w o h d =
    simp append_assoc (by (there here) (by (there (there (there (there here)))) (eat refl (e_in x (i + 1) _ _ _ (omega arith) (by here (by here (eat refl
    (fit d (simp length-append (omega arith))))))))))
e_in (e_choice {xs = xs} {ys = ys} x y z) i k w o h d =
    simp append_assoc (by (there here) (by (there (there (there (there here)))) (eat refl (e_in x (i + 1) _ _ _ (omega arith) (by here (to (i + length xs + 1) (omega arith)
    (by (there here) (eat refl (to (i + length xs + 2) (omega arith) (e_in y (i + length xs + 2) _ _ _ (omega arith) (by here (eat refl (emit (to (i + length xs + length ys + 3) (omega arith)
    (e_in z (i + length xs + length ys + 3) _ _ _ (omega arith) (by here (eat refl (emit (fit d (simp length-append (omega arith)))))))))))))))))))))
e_in (e_unary is_minus x) i k w o h d =
    simp append_assoc (by (there here) (by (there (there (there (there (there here))))) (eat refl (e_in x (i + 1) _ _ _ (omega arith) (emit (fit d (omega arith)))))))
e_in (e_unary is_not x) i k w o h d =
    simp append_assoc (by (there here) (by (there (there (there (there (there (there here)))))) (eat refl (e_in x (i + 1) _ _ _ (omega arith) (emit (fit d (omega arith)))))))
e_in (e_unary is_flip x) i k w o h d =
    simp append_assoc (by (there here) (by (there (there (there (there (there (there (there here))))))) (eat refl (e_in x (i + 1) _ _ _ (omega arith) (emit (fit d (omega arith)))))))
e_in (e_binary {l = l} {o = b} {xs = xs} q x y) i k w o h d =
    simp append_assoc (e_in x i _ _ _ h (to_cont (suc l) i k (level_top b l q) (operates b l q (e_in y (i + length xs + 1) _ _ _ (omega arith) (leave (suc (suc l)) _ _
    (emit (from-cont (suc l) i (i + length xs) k (level_top b l q) (fit d (simp length-append (omega arith))))))))))
e_in (e_up {l = l} x) i k w o h d = climb l h (e_bound x) (e_in x i _ _ _ (omega arith) (leave (suc l) i (cont l i k) d))

-- a reference
pub ref_in : {l : ℕ} {ts : List Token} {e : Expr} (x : E l ts e) → 12 ≤ l → (i : ℕ) {p q : ℕ} (k : Stack) (w : List Token) (o : List Spot) → M k (i + length ts) w o →
    M (tm any_name from p ∷ nt n_ix from q ∷ k) i (ts ++ w) (spots_exp x i ++ o)
ref_in e_plain h i k w o d = put refl (by here (emit d))
ref_in (e_index x) h i k w o d =
    simp append_assoc (put refl (by (there here) (eat refl (to (i + 2) (omega arith) (e_in x (i + 2) _ _ _ (omega arith) (by here (eat refl (emit (fit d (simp length-append (omega arith)))))))))))
ref_in e_number h i k w o d = absurd (omega arith)
ref_in e_true h i k w o d = absurd (omega arith)
ref_in e_false h i k w o d = absurd (omega arith)
ref_in (e_query is_len x) h i k w o d = absurd (omega arith)
ref_in (e_group x) h i k w o d = absurd (omega arith)
ref_in (e_choice x y z) h i k w o d = absurd (omega arith)
ref_in (e_unary u x) h i k w o d = absurd (omega arith)
ref_in (e_binary {l = l} {o = b} q x y) h i k w o d = absurd (omega (arith, level_top b l q))
ref_in (e_up x) h i k w o d = ref_in x (omega arith) i k w o d
