-- Bridge, for `demand2` (crate `demands`).
-- That tables tell a tree's selections and options apart, and where they end: docs/TABLES.md, "Links". `t` are tables; the tree's items begin at item i.
use Rattle.std.specs.Prelude.{ℕ, ◌+◌, ◌≤◌, ◌≡◌, false, List, eqb}
use Rattle.base_ceilings.specs.Ceilings.{statements_most}
use Rattle.base_codes.specs.Codes.{c_do, c_else, c_if, c_option}
use Rattle.table_layout.specs.Access.{code_of, link_of}
use Rattle.spec_grammar.specs.Tree.{Sort, Tree, leaf, select, loop, bare, labelled, end, then, over, option, is_else}
use Rattle.step_offers.specs.Offers.{is_selection, first_of}
use Rattle.spec_machine.specs.Sizes.{size_in}
use Rattle.spec_machine.specs.Program.{enter}
use Rattle.agree_nesting.specs.Full.{Starts}
use Rattle.agree_offers.specs.Depth.{options_in}

module _ (t : List ℕ) where
  abbrev pub Told : {k : Sort} → Tree k → ℕ → Type 0
  -- another statement is no selection, and `else` is told from the rest
  Told (leaf l) i = (is_selection t i ≡ false) × (eqb (code_of t i) c_else ≡ is_else l)
  -- if and do link to the item behind their options, of which there are at most 512
  Told (select os) i = (code_of t i ≡ c_if) × (link_of t i ≡ i + 1 + size_in os) × (options_in os ≤ statements_most) × Told os (i + 1)
  Told (loop os) i = (code_of t i ≡ c_do) × (link_of t i ≡ i + 1 + size_in os) × (options_in os ≤ statements_most) × Told os (i + 1)
  Told (bare a) i = Told a i
  Told (labelled w a) i = Told a (i + 2)
  Told end i = Unit {0}
  Told (then s q) i = Told s i × Told q (i + size_in s)
  Told over i = Unit {0}
  -- an option links to the item behind its statements, and its first statement is found
  Told (option q os) i = (code_of t i ≡ c_option) × (link_of t i ≡ i + 1 + size_in q) × Starts q × (first_of t i ≡ enter q (i + 1) 0) × Told q (i + 1) × Told os (i + 2 + size_in q)
