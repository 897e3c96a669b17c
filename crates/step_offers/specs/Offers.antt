-- Mechanism, held to the specification by `demand2` (crate `demands`), but for `pick_at`, `offers_most`, `count_of`, `is_some`, of contracts alone.
-- Which steps a place offers, each by its own place, in text order: document 01, "How it moves", "`else` when no other option of its selection is; `if` and `do`, themselves
-- no steps, when an option's first statement is". A selection that is an option's first statement gives its steps as the option's.
-- `t` are tables, `s` a state, p the number of the process; `late` says whether `timeout` is executable.
use Rattle.std.specs.Prelude.{ℕ, zero, suc, ◌+◌, ◌-◌, min, max, ◌*◌, Bool, true, false, List, [], ◌∷◌, ◌++◌, length, ℤ, eqb, ltb}
use Rattle.base_ceilings.specs.Ceilings.{items_most, selections_most, statements_most}
use Rattle.base_codes.specs.Codes.{c_do, c_else, c_if, c_label, c_option}
use Rattle.base_bytes.specs.Choice.{pick, both, either}
use Rattle.base_bytes.specs.Lists.{or_else}
use Rattle.table_layout.specs.Access.{code_of, link_of}
use Rattle.step_ready.specs.Executing.{ready_of}
use Rattle.step_offers.specs.declared.Walk.{Walk}
use Rattle.step_offers.specs.declared.Walk.TheVariants.{Found, Left}

module _ (t : List ℕ) where
  -- if or do
  abbrev pub is_selection : ℕ → Bool
  is_selection q = either (eqb (code_of t q) c_if) (eqb (code_of t q) c_do)

  -- ## options: each begins with `option`, which links to its end; the next stands behind that. Items from `stop` on are not looked at
  abbrev pub is_option : ℕ → ℕ → Bool
  is_option m stop = both (ltb m stop) (eqb (code_of t m) c_option)

  abbrev pub end_of : ℕ → ℕ → ℕ
  end_of m stop = max (m + 1) (min (link_of t m) stop)

  -- the place of an option's first statement, behind a label
  unfoldable pub first_of : ℕ → ℕ
  first_of m = pick (eqb (code_of t (m + 2)) c_label) (m + 3) (m + 1)

  -- what g gives for the first statement of each option, and where that option ends, at most n options
  unfoldable pub each_option : (ℕ → ℕ → List ℕ) → ℕ → ℕ → ℕ → List ℕ
  each_option g zero m stop = []
  each_option g (suc n) m stop = pick (is_option m stop) (g (first_of m) (end_of m stop) ++ each_option g n (end_of m stop + 1) stop) []

  -- the statement, if it is `else`
  abbrev pub else_at : ℕ → ℕ → List ℕ
  else_at q stop = pick (eqb (code_of t q) c_else) (q ∷ []) []

  module _ (s : List ℤ) (p : ℕ) (late : Bool) where
    -- at place q, where a selection ends before `stop`; selections nest d - 1 deep at the most
    unfoldable pub offers_from : ℕ → ℕ → ℕ → List ℕ
    offers_from zero q stop = []
    offers_from (suc d) q stop =
        pick (is_selection q)
        (or_else (each_option (λ f e. offers_from d f e) statements_most (q + 1) (min (link_of t q) stop)) (each_option else_at statements_most (q + 1) (min (link_of t q) stop)))
        (pick (ready_of t s p late q) (q ∷ []) [])

    -- at place q: "open if/do 8", and a model has at most 8,192 items
    abbrev pub offers_of : ℕ → List ℕ
    offers_of q = offers_from (selections_most + 1) q items_most

-- the k-th of a list, from 0, or how many are left to pass
unfoldable pub pick_at : ℕ → List ℕ → Walk
pick_at k [] = Left k
pick_at zero (x ∷ xs) = Found x
pick_at (suc k) (x ∷ xs) = pick_at k xs

-- how far they are counted, beyond what a model can offer
abbrev pub offers_most : ℕ
offers_most = 8 * statements_most

-- how many there are, as far as that
abbrev pub count_of : List ℕ → ℕ
count_of xs = min offers_most (length xs)

abbrev pub is_some : List ℕ → Bool
is_some [] = false
is_some (x ∷ xs) = true
