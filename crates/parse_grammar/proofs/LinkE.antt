-- Expressions: what the grammar says, the grammar as data derives.
use mathlib.Core.Path.{◌≡◌, refl}
use mathlib.Core.Bool.{Bool, true, false}
use mathlib.Core.Option.{some}
use mathlib.Core.List.{List, [], ◌∷◌, ◌++◌, append_assoc, map}
use Prim.Native.Nat.{ℕ, zero, suc, ◌≤◌}
use native.Mathlib.Omega.{arith}
use lib.Dec.{T, eqb, eqb→eq, eqb-suc-zero}
use Rattle.base_kinds.specs.Kinds.{Token, sym, level}
use Rattle.spec_grammar.specs.Marks.{'rpar, '], ':, '->, k_len}
use Rattle.spec_grammar.specs.Tree.{Expr}
use Rattle.spec_grammar.specs.Grammar.{is_minus, is_not, is_flip, E, e_plain, e_index, e_number, e_true, e_false, is_len, e_query, e_group, e_choice, e_unary, e_binary, e_up}
use Rattle.base_codes.specs.Items.{Item, i_binary, i_choice, i_express, i_index, i_query, i_otherwise, i_unary}
use Rattle.parse_code.specs.Code.{code_exp}
use Rattle.spec_grammar.proofs.Levels.{operator_small, level_top}
use Rattle.parse_grammar.specs.Engine.{nt, tm, act, In, here, there, L, emit, eat, by}
use Rattle.parse_grammar.specs.Productions.{NT, e1, e2, e3, e4, e5, e6, e7, e8, e9, e10, t1, t2, t3, t4, t5, t6, t7, t8, t9, t10, n_operand, n_ref, n_ix, n_closing, n_action, n_after_ref, sy, any_name, Right, key, eats, operators, operation, tails, prods, G}
use Rattle.parse_grammar.proofs.Tests.{below_out}
use Rattle.parse_grammar.proofs.Inst.{eqb_same}
use Rattle.base_bytes.specs.Choice.{either}

-- the nonterminal of a level; the operators that may still follow there; and those of all looser levels too
abbrev pub ne : ℕ → NT
ne zero = e1
ne (suc zero) = e1
ne (suc (suc zero)) = e2
ne (suc (suc (suc zero))) = e3
ne (suc (suc (suc (suc zero)))) = e4
ne (suc (suc (suc (suc (suc zero))))) = e5
ne (suc (suc (suc (suc (suc (suc zero)))))) = e6
ne (suc (suc (suc (suc (suc (suc (suc zero))))))) = e7
ne (suc (suc (suc (suc (suc (suc (suc (suc zero)))))))) = e8
ne (suc (suc (suc (suc (suc (suc (suc (suc (suc zero))))))))) = e9
ne (suc (suc (suc (suc (suc (suc (suc (suc (suc (suc zero)))))))))) = e10
ne (suc (suc (suc (suc (suc (suc (suc (suc (suc (suc (suc zero))))))))))) = n_operand
ne (suc (suc (suc (suc (suc (suc (suc (suc (suc (suc (suc (suc l)))))))))))) = n_ref

abbrev pub tl : ℕ → NT
tl zero = t1
tl (suc zero) = t1
tl (suc (suc zero)) = t2
tl (suc (suc (suc zero))) = t3
tl (suc (suc (suc (suc zero)))) = t4
tl (suc (suc (suc (suc (suc zero))))) = t5
tl (suc (suc (suc (suc (suc (suc zero)))))) = t6
tl (suc (suc (suc (suc (suc (suc (suc zero))))))) = t7
tl (suc (suc (suc (suc (suc (suc (suc (suc zero)))))))) = t8
tl (suc (suc (suc (suc (suc (suc (suc (suc (suc zero))))))))) = t9
tl (suc (suc (suc (suc (suc (suc (suc (suc (suc (suc zero)))))))))) = t10
tl (suc (suc (suc (suc (suc (suc (suc (suc (suc (suc (suc l))))))))))) = t10

abbrev pub cont : ℕ → Right → Right
cont zero k = k
cont (suc zero) k = nt t1 ∷ k
cont (suc (suc zero)) k = nt t2 ∷ k
cont (suc (suc (suc zero))) k = nt t3 ∷ k
cont (suc (suc (suc (suc zero)))) k = nt t4 ∷ k
cont (suc (suc (suc (suc (suc zero))))) k = nt t5 ∷ k
cont (suc (suc (suc (suc (suc (suc zero)))))) k = nt t6 ∷ k
cont (suc (suc (suc (suc (suc (suc (suc zero))))))) k = nt t7 ∷ k
cont (suc (suc (suc (suc (suc (suc (suc (suc zero)))))))) k = nt t8 ∷ k
cont (suc (suc (suc (suc (suc (suc (suc (suc (suc zero))))))))) k = nt t9 ∷ k
cont (suc (suc (suc (suc (suc (suc (suc (suc (suc (suc zero)))))))))) k = nt t10 ∷ k
cont (suc (suc (suc (suc (suc (suc (suc (suc (suc (suc (suc l))))))))))) k = k

abbrev conts : ℕ → Right → Right
conts zero k = k
conts (suc zero) k = nt t1 ∷ k
conts (suc (suc zero)) k = nt t2 ∷ nt t1 ∷ k
conts (suc (suc (suc zero))) k = nt t3 ∷ nt t2 ∷ nt t1 ∷ k
conts (suc (suc (suc (suc zero)))) k = nt t4 ∷ nt t3 ∷ nt t2 ∷ nt t1 ∷ k
conts (suc (suc (suc (suc (suc zero))))) k = nt t5 ∷ nt t4 ∷ nt t3 ∷ nt t2 ∷ nt t1 ∷ k
conts (suc (suc (suc (suc (suc (suc zero)))))) k = nt t6 ∷ nt t5 ∷ nt t4 ∷ nt t3 ∷ nt t2 ∷ nt t1 ∷ k
conts (suc (suc (suc (suc (suc (suc (suc zero))))))) k = nt t7 ∷ nt t6 ∷ nt t5 ∷ nt t4 ∷ nt t3 ∷ nt t2 ∷ nt t1 ∷ k
conts (suc (suc (suc (suc (suc (suc (suc (suc zero)))))))) k = nt t8 ∷ nt t7 ∷ nt t6 ∷ nt t5 ∷ nt t4 ∷ nt t3 ∷ nt t2 ∷ nt t1 ∷ k
conts (suc (suc (suc (suc (suc (suc (suc (suc (suc zero))))))))) k = nt t9 ∷ nt t8 ∷ nt t7 ∷ nt t6 ∷ nt t5 ∷ nt t4 ∷ nt t3 ∷ nt t2 ∷ nt t1 ∷ k
conts (suc (suc (suc (suc (suc (suc (suc (suc (suc (suc zero)))))))))) k = nt t10 ∷ nt t9 ∷ nt t8 ∷ nt t7 ∷ nt t6 ∷ nt t5 ∷ nt t4 ∷ nt t3 ∷ nt t2 ∷ nt t1 ∷ k
conts (suc (suc (suc (suc (suc (suc (suc (suc (suc (suc (suc l))))))))))) k = tails k

leave : (l : ℕ) {k : Right} {w : List Token} {o : List Item} → L G k w o → L G (cont l k) w o
leave zero d = d
leave (suc zero) d = by here d
leave (suc (suc zero)) d = by here d
leave (suc (suc (suc zero))) d = by here d
leave (suc (suc (suc (suc zero)))) d = by here d
leave (suc (suc (suc (suc (suc zero))))) d = by here d
leave (suc (suc (suc (suc (suc (suc zero)))))) d = by here d
leave (suc (suc (suc (suc (suc (suc (suc zero))))))) d = by here d
leave (suc (suc (suc (suc (suc (suc (suc (suc zero)))))))) d = by here d
leave (suc (suc (suc (suc (suc (suc (suc (suc (suc zero))))))))) d = by here d
leave (suc (suc (suc (suc (suc (suc (suc (suc (suc (suc zero)))))))))) d = by here d
leave (suc (suc (suc (suc (suc (suc (suc (suc (suc (suc (suc l))))))))))) d = d

climb : (l : ℕ) {k : Right} {w : List Token} {o : List Item} → 1 ≤ l → suc l ≤ 12 → L G (nt (ne (suc l)) ∷ cont l k) w o → L G (nt (ne l) ∷ k) w o
climb zero h i d = absurd (omega arith)
climb (suc zero) h i d = by here d
climb (suc (suc zero)) h i d = by here d
climb (suc (suc (suc zero))) h i d = by here d
climb (suc (suc (suc (suc zero)))) h i d = by here d
climb (suc (suc (suc (suc (suc zero))))) h i d = by here d
climb (suc (suc (suc (suc (suc (suc zero)))))) h i d = by here d
climb (suc (suc (suc (suc (suc (suc (suc zero))))))) h i d = by here d
climb (suc (suc (suc (suc (suc (suc (suc (suc zero)))))))) h i d = by here d
climb (suc (suc (suc (suc (suc (suc (suc (suc (suc zero))))))))) h i d = by here d
climb (suc (suc (suc (suc (suc (suc (suc (suc (suc (suc zero)))))))))) h i d = by here d
climb (suc (suc (suc (suc (suc (suc (suc (suc (suc (suc (suc zero))))))))))) h i d = by here d
climb (suc (suc (suc (suc (suc (suc (suc (suc (suc (suc (suc (suc l)))))))))))) h i d = absurd (omega arith)

loosen : (l : ℕ) (k : Right) {w : List Token} {o : List Item} → 1 ≤ l → L G (conts l k) w o → L G (conts (suc l) k) w o
loosen zero k h d = absurd (omega arith)
loosen (suc zero) k h d = by here d
loosen (suc (suc zero)) k h d = by here d
loosen (suc (suc (suc zero))) k h d = by here d
loosen (suc (suc (suc (suc zero)))) k h d = by here d
loosen (suc (suc (suc (suc (suc zero))))) k h d = by here d
loosen (suc (suc (suc (suc (suc (suc zero)))))) k h d = by here d
loosen (suc (suc (suc (suc (suc (suc (suc zero))))))) k h d = by here d
loosen (suc (suc (suc (suc (suc (suc (suc (suc zero)))))))) k h d = by here d
loosen (suc (suc (suc (suc (suc (suc (suc (suc (suc zero))))))))) k h d = by here d
loosen (suc (suc (suc (suc (suc (suc (suc (suc (suc (suc zero)))))))))) k h d = d
loosen (suc (suc (suc (suc (suc (suc (suc (suc (suc (suc (suc l))))))))))) k h d = d

-- the operators of a level are those that the grammar gives it
abbrev member : ℕ → List ℕ → Bool
member i [] = false
member i (j ∷ l) = either (eqb i j) (member i l)

member_in : (i : ℕ) (l : List ℕ) → T (member i l) → In i l
member_in i [] t = absurd t
member_in i (j ∷ l) t = go (eqb i j) refl t (member_in i l)
  where
    go : (b : Bool) → eqb i j ≡ b → T (either b (member i l)) → (T (member i l) → In i l) → In i (j ∷ l)
    go true e u f = let p : i ≡ j = eqb→eq i j (rw e tt) in rw p here
    go false e u f = there (f u)

map_in : {X Y : Type 0} (f : X → Y) (l : List X) (x : X) → In x l → In (f x) (map f l)
map_in f (y ∷ l) x here = here
map_in f (y ∷ l) x (there m) = there (map_in f l x m)
map_in {X = X} {Y = Y} f [] x x3 = elim x3 [ ]

abbrev operator_test : ℕ → Bool
operator_test o = either (eqb (level o) 0) (member o (operators (level o)))

is_operator : (o l : ℕ) → level o ≡ suc l → T (member o (operators (suc l)))
is_operator o l e =
    let t : T (either (eqb (suc l) 0) (member o (operators (suc l)))) = rw e at (below_out 19 operator_test tt o (operator_small o l e)) in
    rw (eqb-suc-zero l) at t

operator_row : (l : ℕ) {r : Right} → 1 ≤ l → l ≤ 10 → In r (map (operation (ne (suc l)) (tl l)) (operators l)) → In r (prods (tl l))
operator_row zero h i m = absurd (omega arith)
operator_row (suc zero) h i m = there m
operator_row (suc (suc zero)) h i m = there m
operator_row (suc (suc (suc zero))) h i m = there m
operator_row (suc (suc (suc (suc zero)))) h i m = there m
operator_row (suc (suc (suc (suc (suc zero))))) h i m = there m
operator_row (suc (suc (suc (suc (suc (suc zero)))))) h i m = there m
operator_row (suc (suc (suc (suc (suc (suc (suc zero))))))) h i m = there m
operator_row (suc (suc (suc (suc (suc (suc (suc (suc zero)))))))) h i m = there m
operator_row (suc (suc (suc (suc (suc (suc (suc (suc (suc zero))))))))) h i m = there m
operator_row (suc (suc (suc (suc (suc (suc (suc (suc (suc (suc zero)))))))))) h i m = there m
operator_row (suc (suc (suc (suc (suc (suc (suc (suc (suc (suc (suc l))))))))))) h i m = absurd (omega arith)

pub operator_in : (o l : ℕ) → level o ≡ suc l → In (operation (ne (suc (suc l))) (tl (suc l)) o) (prods (tl (suc l)))
operator_in o l e = operator_row (suc l) (omega arith) (level_top o l e)
    (map_in (operation (ne (suc (suc l))) (tl (suc l))) (operators (suc l)) o (member_in o (operators (suc l)) (is_operator o l e)))

pub eats-same : (o : ℕ) → eats (sy o) (sym o) ≡ some []
eats-same o = rw (eqb_same o)

-- after an expression of level l, an operator of that level
operates : (o l : ℕ) {k : Right} {w : List Token} {p : List Item} → level o ≡ suc l → L G (nt (ne (suc (suc l))) ∷ act (i_binary o) ∷ nt (tl (suc l)) ∷ k) w p →
    L G (nt (tl (suc l)) ∷ k) (sym o ∷ w) p
operates o l e d = by (operator_in o l e) (eat {a = []} (eats-same o) d)

to_cont : (l : ℕ) {k : Right} {w : List Token} {o : List Item} → 1 ≤ l → l ≤ 10 → L G (nt (tl l) ∷ k) w o → L G (cont l k) w o
to_cont zero h i d = absurd (omega arith)
to_cont (suc zero) h i d = d
to_cont (suc (suc zero)) h i d = d
to_cont (suc (suc (suc zero))) h i d = d
to_cont (suc (suc (suc (suc zero)))) h i d = d
to_cont (suc (suc (suc (suc (suc zero))))) h i d = d
to_cont (suc (suc (suc (suc (suc (suc zero)))))) h i d = d
to_cont (suc (suc (suc (suc (suc (suc (suc zero))))))) h i d = d
to_cont (suc (suc (suc (suc (suc (suc (suc (suc zero)))))))) h i d = d
to_cont (suc (suc (suc (suc (suc (suc (suc (suc (suc zero))))))))) h i d = d
to_cont (suc (suc (suc (suc (suc (suc (suc (suc (suc (suc zero)))))))))) h i d = d
to_cont (suc (suc (suc (suc (suc (suc (suc (suc (suc (suc (suc l))))))))))) h i d = absurd (omega arith)

from-cont : (l : ℕ) {k : Right} {w : List Token} {o : List Item} → 1 ≤ l → l ≤ 10 → L G (cont l k) w o → L G (nt (tl l) ∷ k) w o
from-cont zero h i d = absurd (omega arith)
from-cont (suc zero) h i d = d
from-cont (suc (suc zero)) h i d = d
from-cont (suc (suc (suc zero))) h i d = d
from-cont (suc (suc (suc (suc zero)))) h i d = d
from-cont (suc (suc (suc (suc (suc zero))))) h i d = d
from-cont (suc (suc (suc (suc (suc (suc zero)))))) h i d = d
from-cont (suc (suc (suc (suc (suc (suc (suc zero))))))) h i d = d
from-cont (suc (suc (suc (suc (suc (suc (suc (suc zero)))))))) h i d = d
from-cont (suc (suc (suc (suc (suc (suc (suc (suc (suc zero))))))))) h i d = d
from-cont (suc (suc (suc (suc (suc (suc (suc (suc (suc (suc zero)))))))))) h i d = d
from-cont (suc (suc (suc (suc (suc (suc (suc (suc (suc (suc (suc l))))))))))) h i d = absurd (omega arith)

to_conts : (l : ℕ) (k : Right) {w : List Token} {o : List Item} → suc l ≤ 10 → L G (nt (tl (suc l)) ∷ conts l k) w o → L G (conts (suc l) k) w o
to_conts zero k h d = d
to_conts (suc zero) k h d = d
to_conts (suc (suc zero)) k h d = d
to_conts (suc (suc (suc zero))) k h d = d
to_conts (suc (suc (suc (suc zero)))) k h d = d
to_conts (suc (suc (suc (suc (suc zero))))) k h d = d
to_conts (suc (suc (suc (suc (suc (suc zero)))))) k h d = d
to_conts (suc (suc (suc (suc (suc (suc (suc zero))))))) k h d = d
to_conts (suc (suc (suc (suc (suc (suc (suc (suc zero)))))))) k h d = d
to_conts (suc (suc (suc (suc (suc (suc (suc (suc (suc zero))))))))) k h d = d
to_conts (suc (suc (suc (suc (suc (suc (suc (suc (suc (suc l)))))))))) k h d = absurd (omega arith)

from-conts : (l : ℕ) (k : Right) {w : List Token} {o : List Item} → suc l ≤ 10 → L G (conts (suc l) k) w o → L G (nt (tl (suc l)) ∷ conts l k) w o
from-conts zero k h d = d
from-conts (suc zero) k h d = d
from-conts (suc (suc zero)) k h d = d
from-conts (suc (suc (suc zero))) k h d = d
from-conts (suc (suc (suc (suc zero)))) k h d = d
from-conts (suc (suc (suc (suc (suc zero))))) k h d = d
from-conts (suc (suc (suc (suc (suc (suc zero)))))) k h d = d
from-conts (suc (suc (suc (suc (suc (suc (suc zero))))))) k h d = d
from-conts (suc (suc (suc (suc (suc (suc (suc (suc zero)))))))) k h d = d
from-conts (suc (suc (suc (suc (suc (suc (suc (suc (suc zero))))))))) k h d = d
from-conts (suc (suc (suc (suc (suc (suc (suc (suc (suc (suc l)))))))))) k h d = absurd (omega arith)

pub e_bound : {l : ℕ} {ts : List Token} {e : Expr} → E l ts e → l ≤ 12
e_bound e_plain = omega arith
e_bound (e_index x) = omega arith
e_bound e_number = omega arith
e_bound e_true = omega arith
e_bound e_false = omega arith
e_bound (e_query is_len x) = omega arith
e_bound (e_group x) = omega arith
e_bound (e_choice x y z) = omega arith
e_bound (e_unary u x) = omega arith
e_bound (e_binary i x y) = omega (arith, e_bound x)
e_bound (e_up x) = omega (arith, e_bound x)

-- an expression of level l, then what the operators still to come derive
pub e_in : {l : ℕ} {ts : List Token} {e : Expr} → E l ts e → (k : Right) (w : List Token) (o : List Item) → 1 ≤ l → L G (cont l k) w o → L G (nt (ne l) ∷ k) (ts ++ w) (code_exp e ++ o)
e_in e_plain k w o h d = by here (eat refl (by here (emit d)))
e_in (e_index x) k w o h d = simp append_assoc (by here (eat refl (by (there here) (eat refl (e_in x (key '] ∷ act i_index ∷ k) ('] ∷ w) (i_index ∷ o) (omega arith) (leave 1 (eat refl (emit d))))))))
e_in e_number k w o h d = by (there here) (by here (eat refl d))
e_in e_true k w o h d = by (there here) (by (there here) (eat refl (emit d)))
e_in e_false k w o h d = by (there here) (by (there (there here)) (eat refl (emit d)))
e_in (e_query is_len x) k w o h d =
    simp append_assoc (by (there here) (by (there (there (there here))) (eat refl (eat refl (e_in x (key 'rpar ∷ act (i_query k_len) ∷ k) ('rpar ∷ w) (i_query k_len ∷ o) (omega arith) (eat refl (emit d)))))))
e_in (e_group x) k w o h d =
    simp append_assoc (by (there here) (by (there (there (there (there here)))) (eat refl (e_in x (nt n_closing ∷ k) ('rpar ∷ w) o (omega arith) (leave 1 (by here (eat refl d)))))))
e_in (e_choice {ys = ys} {zs = zs} {b = b} {c = c} x y z) k w o h d =
    let dz = e_in z (key 'rpar ∷ act i_choice ∷ k) ('rpar ∷ w) (i_choice ∷ o) (omega arith) (leave 1 (eat refl (emit d))) in
    let dy = e_in y (key ': ∷ act i_otherwise ∷ nt e1 ∷ key 'rpar ∷ act i_choice ∷ k) (': ∷ zs ++ 'rpar ∷ w) (i_otherwise ∷ code_exp c ++ i_choice ∷ o) (omega arith) (leave 1 (eat refl (emit dz))) in
    let dx = e_in x (nt n_closing ∷ k) ('-> ∷ (ys ++ (': ∷ zs ++ 'rpar ∷ w))) (code_exp b ++ (i_otherwise ∷ code_exp c ++ i_choice ∷ o)) (omega arith) (leave 1 (by (there here) (eat refl dy))) in
    simp append_assoc (by (there here) (by (there (there (there (there here)))) (eat refl dx)))
e_in (e_unary is_minus x) k w o h d =
    simp append_assoc (by (there here) (by (there (there (there (there (there here))))) (eat refl (e_in x (act (i_unary 15) ∷ k) w (i_unary 15 ∷ o) (omega arith) (emit d)))))
e_in (e_unary is_not x) k w o h d =
    simp append_assoc (by (there here) (by (there (there (there (there (there (there here)))))) (eat refl (e_in x (act (i_unary 19) ∷ k) w (i_unary 19 ∷ o) (omega arith) (emit d)))))
e_in (e_unary is_flip x) k w o h d =
    simp append_assoc (by (there here) (by (there (there (there (there (there (there (there here))))))) (eat refl (e_in x (act (i_unary 20) ∷ k) w (i_unary 20 ∷ o) (omega arith) (emit d)))))
e_in (e_binary {l = l} {o = p} {ys = ys} {b = b} i x y) k w o h d =
    simp append_assoc
    (e_in x k (sym p ∷ ys ++ w) (code_exp b ++ i_binary p ∷ o) h (to_cont (suc l) (omega arith) (level_top p l i)
    (operates p l i (e_in y (act (i_binary p) ∷ nt (tl (suc l)) ∷ k) w (i_binary p ∷ o) (omega arith) (leave (suc (suc l)) (emit (from-cont (suc l) (omega arith) (level_top p l i) d)))))))
e_in (e_up {l = l} x) k w o h d = climb l h (e_bound x) (e_in x (cont l k) w o (omega arith) (leave (suc l) d))

-- a reference
pub ref_in : {l : ℕ} {ts : List Token} {e : Expr} → E l ts e → 12 ≤ l → (k : Right) (w : List Token) (o : List Item) → L G k w o → L G (tm any_name ∷ nt n_ix ∷ k) (ts ++ w) (code_exp e ++ o)
ref_in e_plain h k w o d = eat refl (by here (emit d))
ref_in (e_index x) h k w o d = simp append_assoc (eat refl (by (there here) (eat refl (e_in x (key '] ∷ act i_index ∷ k) ('] ∷ w) (i_index ∷ o) (omega arith) (leave 1 (eat refl (emit d)))))))
ref_in e_number h k w o d = absurd (omega arith)
ref_in e_true h k w o d = absurd (omega arith)
ref_in e_false h k w o d = absurd (omega arith)
ref_in (e_query is_len x) h k w o d = absurd (omega arith)
ref_in (e_group x) h k w o d = absurd (omega arith)
ref_in (e_choice x y z) h k w o d = absurd (omega arith)
ref_in (e_unary u x) h k w o d = absurd (omega arith)
ref_in (e_binary {l = l} {o = p} i x y) h k w o d = absurd (omega (arith, level_top p l i))
ref_in (e_up x) h k w o d = ref_in x (omega arith) k w o d

-- an expression that a statement begins with
pub start_in : {l : ℕ} {ts : List Token} {e : Expr} → E l ts e → (k : Right) (w : List Token) (o : List Item) → 1 ≤ l → L G (conts l (act i_express ∷ k)) w o → L G (nt n_action ∷ k) (ts ++ w) (code_exp e ++ o)
start_in e_plain k w o h d = by here (eat refl (by here (emit (by (there (there (there (there (there here))))) d))))
start_in (e_index x) k w o h d = by here (ref_in (e_index x) (omega arith) (nt n_after_ref ∷ k) w o (by (there (there (there (there (there here))))) d))
start_in e_number k w o h d = by (there here) (by here (by here (eat refl d)))
start_in e_true k w o h d = by (there here) (by here (by (there here) (eat refl (emit d))))
start_in e_false k w o h d = by (there here) (by here (by (there (there here)) (eat refl (emit d))))
start_in (e_query is_len x) k w o h d =
    simp append_assoc (by (there here) (by here (by (there (there (there here))) (eat refl (eat refl (e_in x (key 'rpar ∷ act (i_query k_len) ∷ tails (act i_express ∷ k)) ('rpar ∷ w) (i_query k_len ∷ o) (omega arith) (eat refl (emit d))))))))
start_in (e_group x) k w o h d =
    simp append_assoc (by (there here) (by here (by (there (there (there (there here)))) (eat refl (e_in x (nt n_closing ∷ tails (act i_express ∷ k)) ('rpar ∷ w) o (omega arith) (leave 1 (by here (eat refl d))))))))
start_in (e_choice {ys = ys} {zs = zs} {b = b} {c = c} x y z) k w o h d =
    let dz = e_in z (key 'rpar ∷ act i_choice ∷ tails (act i_express ∷ k)) ('rpar ∷ w) (i_choice ∷ o) (omega arith) (leave 1 (eat refl (emit d))) in
    let dy = e_in y (key ': ∷ act i_otherwise ∷ nt e1 ∷ key 'rpar ∷ act i_choice ∷ tails (act i_express ∷ k)) (': ∷ zs ++ 'rpar ∷ w) (i_otherwise ∷ code_exp c ++ i_choice ∷ o) (omega arith) (leave 1 (eat refl (emit dz))) in
    let dx = e_in x (nt n_closing ∷ tails (act i_express ∷ k)) ('-> ∷ (ys ++ (': ∷ zs ++ 'rpar ∷ w))) (code_exp b ++ (i_otherwise ∷ code_exp c ++ i_choice ∷ o)) (omega arith) (leave 1 (by (there here) (eat refl dy))) in
    simp append_assoc (by (there here) (by here (by (there (there (there (there here)))) (eat refl dx))))
start_in (e_unary is_minus x) k w o h d =
    simp append_assoc (by (there here) (by here (by (there (there (there (there (there here))))) (eat refl (e_in x (act (i_unary 15) ∷ tails (act i_express ∷ k)) w (i_unary 15 ∷ o) (omega arith) (emit d))))))
start_in (e_unary is_not x) k w o h d =
    simp append_assoc (by (there here) (by here (by (there (there (there (there (there (there here)))))) (eat refl (e_in x (act (i_unary 19) ∷ tails (act i_express ∷ k)) w (i_unary 19 ∷ o) (omega arith) (emit d))))))
start_in (e_unary is_flip x) k w o h d =
    simp append_assoc (by (there here) (by here (by (there (there (there (there (there (there (there here))))))) (eat refl (e_in x (act (i_unary 20) ∷ tails (act i_express ∷ k)) w (i_unary 20 ∷ o) (omega arith) (emit d))))))
start_in (e_binary {l = l} {o = p} {ys = ys} {b = b} i x y) k w o h d =
    simp append_assoc
    (start_in x k (sym p ∷ ys ++ w) (code_exp b ++ i_binary p ∷ o) h (to_conts l (act i_express ∷ k) (level_top p l i)
    (operates p l i (e_in y (act (i_binary p) ∷ nt (tl (suc l)) ∷ conts l (act i_express ∷ k)) w (i_binary p ∷ o) (omega arith) (leave (suc (suc l)) (emit (from-conts l (act i_express ∷ k) (level_top p l i) d)))))))
start_in (e_up {l = l} x) k w o h d = start_in x k w o (omega arith) (loosen l (act i_express ∷ k) h d)
