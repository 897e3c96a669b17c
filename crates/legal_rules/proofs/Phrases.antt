-- EXPRESSIONS have no fault exactly where they are lawful.
use Prim.Native.Nat.{ℕ, ◌+◌}
use mathlib.Core.Path.{◌≡◌, refl, sym, ap, ap₂, ◌∙◌}
use mathlib.Core.Bool.{Bool, true, false, not}
use mathlib.Core.List.{List, [], ◌∷◌, ◌++◌}
use lib.ListN.{length}
use lib.Dec.{eqb, leb}
use Rattle.base_ceilings.specs.Ceilings.{height_most}
use Rattle.base_bytes.specs.Choice.{pick, both}
use Rattle.base_bytes.specs.Lists.{same}
use Rattle.spec_text.specs.Names.{pid}
use Rattle.base_kinds.specs.Kinds.{Token}
use Rattle.spec_rules.specs.Heights.{height}
use Rattle.spec_grammar.specs.Tree.{Name, Shape, Exp, Expr, num, tru, fls, get, query, unary, binary, choice}
use Rattle.spec_grammar.specs.Grammar.{E, e_plain, e_index, e_number, e_true, e_false, e_query, e_group, e_choice, e_unary, e_binary, e_up, AnExpression}
use Rattle.spec_rules.specs.Senses.{Sense, variable, constant, procedure, unknown, Scope}
use Rattle.spec_rules.specs.Roles.{Role, operand, channel, for_pid, for_constant, for_chan, alike}
use Rattle.legal_rules.specs.Expressions.{suits, usable, named, lawful}
use Rattle.legal_rules.specs.Expressions as rule
use Rattle.spec_faults.specs.Faults.{unless, fault_at, constant_use, sense_use, use_number, in_expr, in_whole, in_argument}
use Rattle.legal_rules.proofs.None.{none, none_at, none-unless, both_assoc, both_turn, two, three}

-- ---- names
constant_ok : (may index : Bool) → eqb (constant_use may index) 0 ≡ both may (not index)
constant_ok true true = refl
constant_ok true false = refl
constant_ok false index = refl

variable_ok_lem : (may suits : Bool) → eqb (pick may (pick {A = ℕ} suits 0 5) 4) 0 ≡ both may suits
variable_ok_lem true true = refl
variable_ok_lem true false = refl
variable_ok_lem false s = refl

sense_ok : (role : Role) (index : Bool) (s : Sense) → eqb (sense_use role index s) 0 ≡ suits role index s
sense_ok role index (variable chan array) = variable_ok_lem (for_chan role chan) (alike index array)
sense_ok role index constant = constant_ok (for_constant role) index
sense_ok role index (procedure n) = refl
sense_ok role index unknown = refl

module _ (sense : Name → Sense) where
  use_ok : (role : Role) (index : Bool) (w : Name) (i : ℕ) → none (fault_at (use_number sense role index w) i) ≡ usable sense role index w
  unfolding usable use_number
  use_ok role index w i = none_at (use_number sense role index w) i ∙ go (same w pid)
    where
      go : (t : Bool) → eqb (pick t (constant_use (for_pid role) index) (sense_use role index (sense w))) 0 ≡ pick t (both (for_pid role) (not index)) (suits role index (sense w))
      go true = constant_ok (for_pid role) index
      go false = sense_ok role index (sense w)

  -- ---- expressions: a reference that stands alone is used as its role says
  abbrev as_role : Role → Expr → Bool
  as_role role (num n) = true
  as_role role tru = true
  as_role role fls = true
  as_role role (get r) = named sense role r
  as_role role (query o r) = named sense role (query o r)
  as_role role (unary o e) = named sense role (unary o e)
  as_role role (binary o a b) = named sense role (binary o a b)
  as_role role (choice a b c) = named sense role (choice a b c)

  as_operand : (e : Expr) → as_role operand e ≡ named sense operand e
  unfolding named
  as_operand (num n) = refl
  as_operand tru = refl
  as_operand fls = refl
  as_operand (get r) = refl
  as_operand (query o r) = refl
  as_operand (unary o e) = refl
  as_operand (binary o a b) = refl
  as_operand (choice a b c) = refl

  expr_ok : {l : ℕ} {ts : List Token} {e : Expr} (role : Role) (x : E l ts e) (i : ℕ) → none (in_expr sense role x i) ≡ as_role role e
  unfolding in_expr named
  expr_ok role (e_plain {w = w}) i = use_ok role false w i
  expr_ok role (e_index {w = w} {e = e} x) i =
      two (in_expr sense operand x (i + 2)) (fault_at (use_number sense role true w) i) (named sense operand e) (usable sense role true w) (expr_ok operand x (i + 2) ∙ as_operand e) (use_ok role true w i)
      ∙ both_turn (named sense operand e) (usable sense role true w)
  expr_ok role e_number i = refl
  expr_ok role e_true i = refl
  expr_ok role e_false i = refl
  expr_ok role (e_query o x) i = expr_ok channel x (i + 2)
  expr_ok role (e_group x) i = expr_ok role x (i + 1)
  expr_ok role (e_choice {xs = xs} {ys = ys} {a = a} {b = b} {c = c} x y z) i =
      three (in_expr sense operand x (i + 1)) (in_expr sense operand y (i + length xs + 2)) (in_expr sense operand z (i + length xs + length ys + 3)) (named sense operand a) (named sense operand b)
      (named sense operand c) (expr_ok operand x (i + 1) ∙ as_operand a) (expr_ok operand y (i + length xs + 2) ∙ as_operand b) (expr_ok operand z (i + length xs + length ys + 3) ∙ as_operand c)
  expr_ok role (e_unary {e = e} o x) i = expr_ok operand x (i + 1) ∙ as_operand e
  expr_ok role (e_binary {xs = xs} {a = a} {b = b} o x y) i =
      two (in_expr sense operand x i) (in_expr sense operand y (i + length xs + 1)) (named sense operand a) (named sense operand b) (expr_ok operand x i ∙ as_operand a)
      (expr_ok operand y (i + length xs + 1) ∙ as_operand b)
  expr_ok role (e_up x) i = expr_ok role x i

  -- a whole expression, and a reference
  pub whole_ok : {l : ℕ} {ts : List Token} {e : Expr} (x : E l ts e) (i : ℕ) → none (in_whole sense operand x i) ≡ rule.whole sense e
  unfolding lawful in_whole
  whole_ok {e = e} x i =
      two (in_expr sense operand x i) (unless (leb (height e) height_most) 2 i) (named sense operand e) (leb (height e) height_most) (expr_ok operand x i ∙ as_operand e)
      (none-unless (leb (height e) height_most) 1 i)
      ∙ both_turn (named sense operand e) (leb (height e) height_most)

  pub ref_ok : (role : Role) {l : ℕ} {ts : List Token} {r : Exp Shape.reference} (x : E l ts (get r)) (i : ℕ) → none (in_whole sense role x i) ≡ lawful sense role r
  unfolding lawful in_whole
  ref_ok role {r = r} x i =
      two (in_expr sense role x i) (unless (leb (height r) height_most) 2 i) (named sense role r) (leb (height r) height_most) (expr_ok role x i) (none-unless (leb (height r) height_most) 1 i)
      ∙ both_turn (named sense role r) (leb (height r) height_most)

  pub argument_ok : (scope : Scope) (ts : List Token) (e : Expr) (x : AnExpression ts e) (i : ℕ) → none (in_argument sense scope ts e x i) ≡ rule.whole sense e
  argument_ok scope ts e x i = whole_ok x i
