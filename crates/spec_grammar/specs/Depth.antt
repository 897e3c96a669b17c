-- How deep brackets and selections may nest. Document 01, "Ceilings": "open brackets 32; open if/do 8"; refusals 2 and 3 are
-- judged in one pass: "Within a pass the smallest place wins, then the smallest number." One count runs over `(`, `[` and `{`, another over `if` and `do`.
use Rattle.std.specs.Prelude.{Bool, cond, List, [], ◌∷◌, ℕ, suc, ◌+◌, ◌-◌, eqb, leb}
use Rattle.std.proofs.Math.Option.{Option, none, some}
use Rattle.base_ceilings.specs.Ceilings.{brackets_most, selections_most}
use Rattle.base_kinds.specs.Kinds.{Token, kind_of}
use Rattle.spec_grammar.specs.Marks.{'lpar, 'rpar, '[, '], 'lbrace, 'rbrace, 'do, 'if, 'fi, 'od}
use Rattle.base_bytes.specs.Choice.{both, either}

abbrev is : Token → Token → Bool
is c t = eqb (kind_of t) (kind_of c)

-- what a token opens and closes
abbrev pub opens_bracket : Token → Bool
opens_bracket t = either (is 'lpar t) (either (is '[ t) (is 'lbrace t))

abbrev pub closes_bracket : Token → Bool
closes_bracket t = either (is 'rpar t) (either (is '] t) (is 'rbrace t))

abbrev pub opens_selection : Token → Bool
opens_selection t = either (is 'if t) (is 'do t)

abbrev pub closes_selection : Token → Bool
closes_selection t = either (is 'fi t) (is 'od t)

abbrev pub count_after : Bool → Bool → ℕ → ℕ
count_after opens closes n = cond opens (n + 1) (cond closes (n - 1) n)

-- the token passes a ceiling where b brackets and s selections are open
abbrev pub passes : ℕ → ℕ → Token → Bool
passes b s t = either (both (opens_bracket t) (leb brackets_most b)) (both (opens_selection t) (leb selections_most s))

abbrev pub one_later : Option ℕ → Option ℕ
one_later none = none
one_later (some i) = some (suc i)

-- the place of the first token that passes a ceiling
abbrev pub deep_from : ℕ → ℕ → List Token → Option ℕ
deep_from b s [] = none
deep_from b s (t ∷ ts) =
    cond (passes b s t) (some 0)
    (one_later (deep_from (count_after (opens_bracket t) (closes_bracket t) b) (count_after (opens_selection t) (closes_selection t) s) ts))

abbrev pub too_deep : List Token → Option ℕ
too_deep ts = deep_from 0 0 ts
