-- Document 01: "Only the single step returns printed text", "A failed assertion or fault changes no state and prints nothing", "a backslash must be followed by `n`, `t`, `"` or a
-- backslash", "`%` .. followed by `d` or `%`". What a step prints, computed.
use Rattle.std.specs.Prelude.{ℕ, ◌≡◌, refl, List, [], ◌∷◌}
use Rattle.base_kinds.specs.Kinds.{bytes}
use Rattle.base_values.specs.declared.Fault.TheVariants.{Divide}
use Rattle.spec_grammar.specs.Tree.{Expr, action, Tree, num, leaf, assert, print, skip, set_minus, Declaration}
use Rattle.spec_machine.specs.Begins.{initial}
use Rattle.spec_machine.specs.Steps.{machine_of}
use Rattle.spec_machine.specs.Places.{start_of}
use Rattle.spec_machine.specs.ExamplesWords.{working, x, byte, int, neg, sum, faulty, of, scalar, only, offer, Faults}

-- what the first statement of `init{DECLARATIONS;S}` prints at the start
abbrev printed : List Declaration → Tree action → List ℕ
printed ds s = (machine_of (only ds s)).printed (initial (only ds s)) (offer 0 1 (start_of (only ds s) 0))

abbrev says : List ℕ → List Expr → List ℕ
says w es = printed [] (leaf (print w es))

-- ## `%d` and `%%`
plain_text : (says (bytes "O'Neill") [] ≡ bytes "O'Neill") × (says [] [] ≡ [])
unfolding working
plain_text = (refl, refl)

values : (says (bytes "%d") (num 0 ∷ []) ≡ bytes "0") × (says (bytes "<%d>") (num 479001600 ∷ []) ≡ bytes "<479001600>") × (says (bytes "%d%d") (num 1 ∷ num 23 ∷ []) ≡ bytes "123")
    × (says (bytes "%d,%d") (num 2 ∷ num 1 ∷ []) ≡ bytes "2,1")
unfolding working
values = (refl, refl, refl, refl)

percent : (says (bytes "100%%") [] ≡ bytes "100%") × (says (bytes "%%d") [] ≡ bytes "%d") × (says (bytes "%%%d") (num 5 ∷ []) ≡ bytes "%5")
unfolding working
percent = (refl, refl, refl)

-- in signed decimal, to the ends of the range
signed : (says (bytes "%d") (neg (num 7) ∷ []) ≡ bytes "-7") × (says (bytes "%d") (num 2147483647 ∷ []) ≡ bytes "2147483647")
    × (says (bytes "%d") (sum (num 2147483647) (num 1) ∷ []) ≡ bytes "-2147483648")
unfolding working
signed = (refl, refl, refl)

-- the value, whatever its type: a byte that got -1, an int
typed : (printed (scalar byte x (set_minus 1) ∷ []) (leaf (print (bytes "%d") (of x ∷ []))) ≡ bytes "255") × (printed (scalar int x (set_minus 1) ∷ []) (leaf (print (bytes "%d") (of x ∷ []))) ≡ bytes "-1")
unfolding working
typed = (refl, refl)

-- ## behind a backslash: `n` a line's end (10), `t` a tab (9), a quote (34), a backslash (92); no `%` opens there
escapes : (says (bytes "a\\n") [] ≡ 97 ∷ 10 ∷ []) × (says (bytes "\\t") [] ≡ 9 ∷ []) × (says (bytes "\\\"") [] ≡ 34 ∷ []) × (says (bytes "\\\\n") [] ≡ 92 ∷ 110 ∷ [])
    × (says (bytes "%d\\n") (num 5 ∷ []) ≡ 53 ∷ 10 ∷ [])
unfolding working
escapes = (refl, refl, refl, refl, refl)

-- ## nothing: a fault in a later value, in the first one, an assertion, `skip`
nothing : (says (bytes "a%d%d") (num 1 ∷ faulty ∷ []) ≡ []) × (says (bytes "a%d") (faulty ∷ []) ≡ []) × Faults [] (leaf (print (bytes "a%d") (faulty ∷ []))) Divide × (printed [] (leaf (assert (num 0))) ≡ [])
    × (printed [] (leaf skip) ≡ [])
unfolding working
nothing = (refl, refl, refl, refl, refl)
