-- What names stand for: document 01, "Names": "globals, mtype names and proctypes share one space, each declared once; a local hides any of them from its own name on; labels are per body.
-- Variables and mtype names are declared before use, proctypes and labels may come later. `_pid` is neither declared nor stored to (4)."
use Rattle.std.specs.Prelude.{ℕ, Bool, true, false, not, List, [], ◌∷◌}
use Rattle.base_bytes.specs.Choice.{pick, both}
use Rattle.base_bytes.specs.Lists.{same}
use Rattle.spec_text.specs.Names.{pid}
use Rattle.spec_grammar.specs.Tree.{Name}

pub data Sense : Type 0 where
  -- a variable: is it a chan, is it an array
  variable : Bool → Bool → Sense
  -- an mtype name
  constant : Sense
  -- a proctype, and how many parameters it has
  procedure : ℕ → Sense
  unknown : Sense

pub record Declared : Type 0 where
  pub name : Name
  pub sense : Sense

abbrev pub declared : Name → Sense → Declared
declared w s = record { name = w; sense = s }

-- what is declared, in text order
abbrev pub Scope : Type 0
Scope = List Declared

-- the first declaration of a name counts
unfoldable pub sense_in : Scope → Name → Sense
sense_in [] w = unknown
sense_in (d ∷ l) w = pick (same d.name w) d.sense (sense_in l w)

abbrev pub is_unknown : Sense → Bool
is_unknown (variable c a) = false
is_unknown constant = false
is_unknown (procedure n) = false
is_unknown unknown = true

abbrev pub is_constant : Sense → Bool
is_constant (variable c a) = false
is_constant constant = true
is_constant (procedure n) = false
is_constant unknown = false

-- "each declared once", and `_pid` not at all
unfoldable pub fresh : Scope → Name → Bool
fresh l w = both (not (same w pid)) (is_unknown (sense_in l w))

-- what a name stands for in a body: "a local hides any of them"
abbrev pub hides : Sense → Sense → Sense
hides (variable c a) g = variable c a
hides constant g = constant
hides (procedure n) g = procedure n
hides unknown g = g

unfoldable pub sense_of : Scope → Scope → Name → Sense
sense_of locals globals w = hides (sense_in locals w) (sense_in globals w)
