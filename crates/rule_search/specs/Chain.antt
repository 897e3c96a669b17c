-- Mechanism, of contracts alone: no theorem holds it to the specification; lent a chain, a search finds what specs/Search.antt says.
-- A chain through the declarations, so that a search for a name visits these alone: for each name the first item that declares it, in the first half, and for
-- each such item the next that declares the same name, in the second. The number 0 says nothing. `cs` are the items, `vs` what their tokens say.
use Rattle.std.specs.Prelude.{ℕ, zero, suc, ◌+◌, ◌-◌, ◌<◌, Bool, false, ◌≡◌, List, length, get_or, set, eqb, ltb}
use Rattle.base_ceilings.specs.Ceilings.{items_most}
use Rattle.base_bytes.specs.Choice.{pick, both, either}
use Rattle.rule_sheets.specs.Walks.{filled}
use Rattle.rule_search.specs.Sets.{among}

-- a name or a label is declared
unfoldable pub is_named : ℕ → Bool
is_named c = either (among 1 c) (among 2 c)

-- item d declares the name w, in whatever body
unfoldable pub names : List ℕ → List ℕ → ℕ → ℕ → Bool
names cs vs w d = both (is_named (get_or cs d 0)) (eqb (get_or vs (d - 1) 0) w)

-- no declaration is passed over: none of a name before its first, none of the same name between an item and its next
pub record Chained (cs vs l : List ℕ) : Type 0 where
  pub heads : (w i : ℕ) → w < items_most → i < get_or l w 0 → names cs vs w i ≡ false
  pub nexts : (d i : ℕ) → d < i → i < get_or l (d + items_most) 0 → names cs vs (get_or vs (d - 1) 0) i ≡ false

module _ (cs vs : List ℕ) where
  -- item j, where it declares a name, put before the first that is known for the name
  unfoldable pub linked : List ℕ → ℕ → List ℕ
  linked l j =
      pick (both (is_named (get_or cs j 0)) (ltb (get_or vs (j - 1) 0) items_most))
      (set (set l (j + items_most) (get_or l (get_or vs (j - 1) 0) 0)) (get_or vs (j - 1) 0) j) l

  -- the first j items, the last of them first
  unfoldable pub linked_back : ℕ → List ℕ → List ℕ
  linked_back zero l = l
  linked_back (suc j) l = linked_back j (linked l j)

-- the chain of a model in an array; left as it is where there are too many items
unfoldable pub chain_of : List ℕ → List ℕ → List ℕ → List ℕ
chain_of cs vs l = pick (ltb items_most (length cs)) l (linked_back cs vs (length cs) (filled (λ m w. length cs) 0 (length cs) l))

-- where a search for w starts, and where it goes on behind item d
unfoldable pub head_of : List ℕ → ℕ → ℕ
head_of l w = pick (ltb w items_most) (get_or l w 0) 0

unfoldable pub next_of : List ℕ → List ℕ → ℕ → ℕ → ℕ
next_of vs l w d = pick (both (eqb (get_or vs (d - 1) 0) w) (ltb d (get_or l (d + items_most) 0))) (get_or l (d + items_most) 0) (d + 1)
