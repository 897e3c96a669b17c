-- Bridge, for `demand2` (crate `demands`).
-- WHAT IS DECLARED, in text order, with what a declaration says of the item that makes it: one list for each space of names, the globals' and each body's. Document 01, "Names": "globals, mtype
-- names and proctypes share one space .. a local hides any of them". Tables and trees are both compared with these lists.
use Rattle.std.specs.Prelude.{ℕ, zero, suc, ◌+◌, List, [], ◌∷◌, ◌++◌, length}
use Rattle.std.proofs.Math.Option.{Option, none, some}
use Rattle.base_bytes.specs.Choice.{pick}
use Rattle.base_bytes.specs.Lists.{same}
use Rattle.spec_grammar.specs.Tree.{Name, Part, mtypes, process, init, Model}
use Rattle.spec_grammar.specs.Tree as tree
use Rattle.spec_machine.specs.Sizes.{size_part}
use Rattle.spec_machine.specs.Names.{Var, of_declaration, global_in, message_in}
use Rattle.agree_encode.specs.Encode.{head_in}
use Rattle.agree_encode.specs.Tabled.{total_of}

pub data What : Type 0 where
  -- a variable, and how many numbers of its space stand before its own
  slot : Var → ℕ → What
  -- an mtype name, by its number
  number : ℕ → What
  -- a proctype, by the item that begins it
  proctype : ℕ → What

pub record Entry : Type 0 where
  pub name : Name
  pub what : What

abbrev pub entry : Name → What → Entry
entry w y = record { name = w; what = y }

-- the first declaration of a name counts
unfoldable pub what_in : List Entry → Name → Option What
what_in [] w = none
what_in (e ∷ l) w = pick (same e.name w) (some e.what) (what_in l w)

-- ## how many numbers, and how many mtype names, a declaration adds to its space
abbrev pub size_in : What → ℕ
size_in (slot x o) = x.size
size_in (number n) = 0
size_in (proctype i) = 0

abbrev pub named_in : What → ℕ
named_in (slot x o) = 0
named_in (number n) = 1
named_in (proctype i) = 0

-- ## variables, behind o numbers; mtype names, behind n of them
abbrev pub slots : ℕ → List Var → List Entry
slots o [] = []
slots o (x ∷ xs) = entry x.name (slot x o) ∷ slots (o + x.size) xs

abbrev pub numbers : ℕ → List Name → List Entry
numbers n [] = []
numbers n (w ∷ ws) = entry w (number (suc n)) ∷ numbers (suc n) ws

-- ## what a unit, whose items begin at item i, adds to the space of the globals; all units; those up to unit k, with its own name
abbrev pub entries_in : ℕ → ℕ → ℕ → Part → List Entry
entries_in i o n (mtypes ws) = numbers n ws
entries_in i o n (tree.global d) = slots o (of_declaration d)
entries_in i o n (process a w gs b) = entry w (proctype (head_in (process a w gs b) i)) ∷ []
entries_in i o n (init b) = []

abbrev pub entries_of : ℕ → ℕ → ℕ → Model → List Entry
entries_of i o n [] = []
entries_of i o n (u ∷ m) = entries_in i o n u ++ entries_of (i + size_part u) (o + total_of (global_in u)) (n + length (message_in u)) m

abbrev pub entries_to : ℕ → ℕ → ℕ → Model → ℕ → List Entry
entries_to i o n [] k = []
entries_to i o n (u ∷ m) zero = entries_in i o n u
entries_to i o n (u ∷ m) (suc k) = entries_in i o n u ++ entries_to (i + size_part u) (o + total_of (global_in u)) (n + length (message_in u)) m k
