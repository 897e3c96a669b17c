-- How high expressions are: document 01, "Ceilings": "expression height 32 (operand 1; operator, index, `len` 1 above its highest part)".
use Rattle.std.specs.Prelude.{ℕ, suc, max}
use Rattle.spec_grammar.specs.Tree.{Shape, Exp, plain, indexed, num, tru, fls, get, query, unary, binary, choice}

-- a conditional is 1 above its highest part, as an operator is
abbrev pub height : {s : Shape} → Exp s → ℕ
height (plain w) = 1
height (indexed w e) = suc (height e)
height (num n) = 1
height tru = 1
height fls = 1
height (get r) = height r
height (query o r) = suc (height r)
height (unary o e) = suc (height e)
height (binary o a b) = suc (max (height a) (height b))
height (choice a b c) = suc (max (height a) (max (height b) (height c)))
