-- Bridge, for `demand2` (crate `demands`).
-- Arguments as they stand in tables: each begins with an item that links to its mark, behind which the next one begins, and `end` stands behind the last. Document 01, "Grammar";
-- docs/TABLES.md, "Links". `t` are tables, p the number of the process, `decl` has for each name the item that declares it.
use Rattle.std.specs.Prelude.{ℕ, ◌+◌, ◌-◌, ◌≡◌, List, [], ◌∷◌, ℤ}
use Rattle.base_codes.specs.Codes.{c_end, c_into}
use Rattle.table_layout.specs.Access.{code_of, link_of}
use Rattle.spec_grammar.specs.Tree.{Name, Expr, Ref, Received, into, equal, exactly, exactly_true, exactly_false, num, tru, fls}
use Rattle.step_eval.specs.Expressions.{eval_of, locate_of}
use Rattle.spec_machine.specs.Eval.{eval}
use Rattle.agree_stage.specs.Scenes.{scene_of, locate}
use Rattle.spec_machine.specs.Arguments.{name_of}

module _ (t : List ℕ) (decl : Name → ℕ) where
  -- the expressions are arguments from item a on, and item z is their end
  pub data Passed : List Expr → ℕ → ℕ → Type 0 where
    no_more : {a : ℕ} → code_of t a ≡ c_end → Passed [] a a
    one_more_lem : {e : Expr} {es : List Expr} {a z : ℕ} (m : ℕ) → (code_of t a ≡ c_end → ⊥) → link_of t a ≡ m → ((s : List ℤ) (p : ℕ) → eval_of t s p a m ≡ eval (scene_of t s p decl) e)
        → Passed es (m + 1) z → Passed (e ∷ es) a z

  -- what stands from item a to before its mark m is received so
  pub record Stored (r : Ref) (a m : ℕ) : Type 0 where
    pub mark : code_of t m ≡ c_into
    pub declared : link_of t (m - 1) ≡ decl (name_of r)
    pub worked : (s : List ℤ) (p : ℕ) → eval_of t s p a m ≡ eval (scene_of t s p decl) r
    pub located : (s : List ℤ) (p : ℕ) → locate_of t s p a m ≡ locate t s p decl r

  pub record Compared (e : Expr) (a m : ℕ) : Type 0 where
    pub mark : code_of t m ≡ c_into → ⊥
    pub worked : (s : List ℤ) (p : ℕ) → eval_of t s p a m ≡ eval (scene_of t s p decl) e

  abbrev pub Agreed : Received → ℕ → ℕ → Type 0
  Agreed (into r) a m = Stored r a m
  Agreed (equal e) a m = Compared e a m
  Agreed (exactly n) a m = Compared (num n) a m
  Agreed exactly_true a m = Compared tru a m
  Agreed exactly_false a m = Compared fls a m

  -- these are received arguments from item a on, and item z is their end
  pub data Got : List Received → ℕ → ℕ → Type 0 where
    no_more : {a : ℕ} → code_of t a ≡ c_end → Got [] a a
    one_more_lem : {x : Received} {xs : List Received} {a z : ℕ} (m : ℕ) → (code_of t a ≡ c_end → ⊥) → link_of t a ≡ m → Agreed x a m → Got xs (m + 1) z → Got (x ∷ xs) a z
