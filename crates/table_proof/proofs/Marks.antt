-- Marks are known items, and have no bytes and no value.
use Prim.Native.Nat.{ℕ, ◌+◌, ◌≤◌}
use mathlib.Core.Path.{◌≡◌, refl}
use mathlib.Core.Bool.{Bool, true, false}
use mathlib.Core.List.{[]}
use native.Mathlib.Omega.{arith}
use lib.ListN.{length}
use lib.Dec.{T, eqb, leb, leb→le, eqb→eq}
use borrow.Author.Tests.{ne_eqb}
use Rattle.base_codes.specs.Codes.{c_complement, c_end_body, c_negate, c_not, c_number, c_or_else, c_plain, c_len, c_send, c_receive}
use Rattle.base_bytes.specs.Choice.{both, either, pick}
use Rattle.base_codes.specs.Sets.{within}
use Rattle.spec_grammar.specs.Grammar.{is_len, is_bang, is_ask, IsUnary, is_minus, is_not, is_flip}
use Rattle.base_codes.specs.Items.{Item, i_name, i_text, i_number, i_type, i_unary, i_binary, i_mark, i_operator}
use Rattle.table_entries.specs.Entry.{entry, number}
use Rattle.table_entries.specs.Items.{entry_of, Known, is_name_lem, is_text, is_number, is_mark_lem, is_type, is_unary, is_binary, is_operator, Operator, queries, sends, receives}
use Rattle.table_entries.proofs.Items.{operator_code}
use Rattle.spec_grammar.specs.Marks.{k_bang, k_ask, k_len}
use Rattle.table_proof.specs.Marks.{is_mark, differ}

pub both_parts : (a b : Bool) → T (both a b) → T a × T b
both_parts true b t = (tt, t)
both_parts false b t = absurd t

within_parts : (a b c : ℕ) → T (within a b c) → (a ≤ c) × (c ≤ b)
within_parts a b c t = let p = both_parts (leb a c) (leb c b) t in (leb→le a c p.0, leb→le c b p.1)

unary_by : (o : ℕ) (a b c : Bool) → eqb o 15 ≡ a → eqb o 19 ≡ b → eqb o 20 ≡ c → T (either a (either b c)) → IsUnary o
unary_by o true b c x y z t = let e : o ≡ 15 = eqb→eq o 15 (rw x tt) in rw e is_minus
unary_by o false true c x y z t = let e : o ≡ 19 = eqb→eq o 19 (rw y tt) in rw e is_not
unary_by o false false true x y z t = let e : o ≡ 20 = eqb→eq o 20 (rw z tt) in rw e is_flip
unary_by o false false false x y z t = absurd t

differ-eqb : (a b : ℕ) → T (differ a b) → eqb a b ≡ false
differ-eqb a b t = go (eqb a b) refl t
  where
    go : (x : Bool) → eqb a b ≡ x → T (pick x false true) → eqb a b ≡ false
    go true e t = absurd t
    go false e t = e

operator_by : (c o : ℕ) (x y z : Bool) → eqb c c_len ≡ x → eqb c c_send ≡ y → eqb c c_receive ≡ z → T (pick x (eqb o k_len) (pick y (eqb o k_bang) (both z (eqb o k_ask)))) → Operator c o
operator_by c o true y z e f g t = let p : c ≡ c_len = eqb→eq c c_len (rw e tt) in let q : o ≡ k_len = eqb→eq o k_len t in rw (p, q) (queries is_len)
operator_by c o false true z e f g t = let p : c ≡ c_send = eqb→eq c c_send (rw f tt) in let q : o ≡ k_bang = eqb→eq o k_bang t in rw (p, q) (sends is_bang)
operator_by c o false false true e f g t = let p : c ≡ c_receive = eqb→eq c c_receive (rw g tt) in let q : o ≡ k_ask = eqb→eq o k_ask t in rw (p, q) (receives is_ask)
operator_by c o false false false e f g t = absurd t

pub mark-known : (i : Item) → T (is_mark i) → Known i
mark-known (i_name w) t = absurd t
mark-known (i_text w) t = absurd t
mark-known (i_number n) t = absurd t
mark-known (i_type k) t = let p = within_parts 38 45 k t in is_type p.0 p.1
mark-known (i_unary o) t = is_unary (unary_by o (eqb o 15) (eqb o 19) (eqb o 20) refl refl refl t)
mark-known (i_binary o) t = let p = within_parts 1 18 o t in is_binary p.0 p.1
mark-known (i_mark c) t =
    let p = both_parts (within c_plain c_end_body c) _ t in
    let q = within_parts c_plain c_end_body c p.0 in
    let r = both_parts (differ c c_len) _ p.1 in
    let s = both_parts (differ c c_send) (differ c c_receive) r.1 in
    is_mark_lem q.0 q.1 (rw (differ-eqb c c_len r.0, differ-eqb c c_send s.0, differ-eqb c c_receive s.1) refl)
mark-known (i_operator c o) t = is_operator (operator_by c o (eqb c c_len) (eqb c c_send) (eqb c c_receive) refl refl refl t)

no_number : (x : ℕ) → c_or_else ≤ x → length (number (entry x [] 0)) ≡ 0
unfolding number
no_number x a = simp (ne_eqb x c_number (λ z. omega arith))

silent : {i : Item} → Known i → T (is_mark i) → (length (entry_of i).bytes ≡ 0) × (length (number (entry_of i)) ≡ 0)
silent (is_name_lem a b) t = absurd t
silent (is_text a b) t = absurd t
silent is_number t = absurd t
silent (is_type {k} a b) t = (refl, no_number (130 + k) (omega arith))
silent (is_unary is_minus) t = (refl, no_number c_negate (omega arith))
silent (is_unary is_not) t = (refl, no_number c_not (omega arith))
silent (is_unary is_flip) t = (refl, no_number c_complement (omega arith))
silent (is_binary {o} a b) t = (refl, no_number (146 + o) (omega arith))
silent (is_mark_lem {c} a b e) t = (refl, no_number c (omega arith))
silent (is_operator {c} x) t = let p = operator_code x in (refl, no_number c (omega arith))

pub mark-silent : (i : Item) → T (is_mark i) → (length (entry_of i).bytes ≡ 0) × (length (number (entry_of i)) ≡ 0)
mark-silent i t = silent (mark-known i t) t
