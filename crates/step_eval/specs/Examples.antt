-- Mechanism: worked examples, computed from its definitions; they are held to nothing else.
-- Expressions of the sample sheet of document 01, P1 and P7, worked out over the tables of their items by the definitions.
use Rattle.std.specs.Prelude.{ℕ, ◌≡◌, refl, List, [], ◌∷◌, pos, Ok, Err}
use Rattle.base_codes.specs.Codes.{c_add, c_and_then, c_divide, c_multiply}
use Rattle.table_layout.specs.Access.{code_of}
use Rattle.base_values.specs.Operators.{apply_of, divide_of}
use Rattle.base_values.specs.declared.Fault.TheVariants.{Divide}
use Rattle.step_eval.specs.Expressions.{node_of, eval_t, eval_of}

-- 2 5 3 * +, the words of the items, their links, their numbers
abbrev sum : List ℕ
sum = 17 ∷ 5 ∷ 3 ∷ 0 ∷ 71 ∷ 327 ∷ 583 ∷ c_multiply ∷ c_add ∷ 0 ∷ 0 ∷ 0 ∷ 2 ∷ 1 ∷ 2 ∷ 5 ∷ 3 ∷ []

-- P1: `2+5*3` 17
p1 : eval_of sum [] 0 0 5 ≡ Ok (pos 17)
unfolding code_of eval_t node_of apply_of
p1 = refl

-- 0 1 0 / &&
abbrev saved : List ℕ
saved = 17 ∷ 5 ∷ 3 ∷ 0 ∷ 71 ∷ 327 ∷ 583 ∷ c_divide ∷ c_and_then ∷ 0 ∷ 0 ∷ 0 ∷ 2 ∷ 1 ∷ 0 ∷ 1 ∷ 0 ∷ []

-- 1 0 / 0 &&
abbrev lost : List ℕ
lost = 17 ∷ 5 ∷ 3 ∷ 0 ∷ 71 ∷ 327 ∷ c_divide ∷ 583 ∷ c_and_then ∷ 0 ∷ 0 ∷ 1 ∷ 0 ∷ 3 ∷ 1 ∷ 0 ∷ 0 ∷ []

-- P7: `0&&1/0` 0, `1/0&&0` fault
p7 : (eval_of saved [] 0 0 5 ≡ Ok (pos 0)) × (eval_of lost [] 0 0 5 ≡ Err Divide)
unfolding code_of eval_t node_of apply_of divide_of
p7 = (refl, refl)
