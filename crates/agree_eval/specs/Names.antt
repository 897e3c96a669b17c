-- Bridge, for `demand2` (crate `demands`).
-- What a name means at an item of an accepted text: document 01, "Names": "globals, mtype names and proctypes share one space, each declared once; a local hides any of them from its own
-- name on". `t` is the text, `a` what makes it accepted.
use Rattle.std.specs.Prelude.{ℕ, suc, ◌<◌, Bool, false, List, [], ◌∷◌, map, get_or, replicate, eqb, ltb}
use Rattle.base_ceilings.specs.Ceilings.{items_most}
use Rattle.base_bytes.specs.Choice.{pick}
use Rattle.base_bytes.specs.Lists.{same}
use Rattle.spec_text.specs.Placed.{Placed}
use Rattle.spec_grammar.specs.Tree.{Name, Shape, Exp, plain, indexed, num, tru, fls, get, query, unary, binary, choice}
use Rattle.parse_machine.specs.Machine.{symbol_of, place_of}
use Rattle.rule_sheets.specs.Homes.{inside_of, homes_of}
use Rattle.rule_search.specs.Search.{lookup}
use Rattle.read_passes.specs.Judging.{payload}
use Rattle.read_accepts_proof.specs.Meaning.{Accepts}
use Rattle.base_codes.specs.Codes.{c_name}
use Rattle.base_codes.specs.Items.{Item}
use Rattle.parse_code.specs.Code.{code}
use Rattle.table_entries.specs.Items.{entry_of}
use Rattle.base_codes.specs.Items as items

-- the first item that is this name
abbrev pub is_name : Name → Item → Bool
is_name w x = pick (eqb (items.code_of x) c_name) (same (entry_of x).bytes w) false

unfoldable pub first_name : Name → List Item → ℕ
first_name w [] = 0
first_name w (x ∷ l) = pick (is_name w x) 0 (suc (first_name w l))

module _ (t : List ℕ) (a : Accepts t) where
  -- the codes of its items, what they say, and the bodies that they are in
  abbrev pub codes_at : List ℕ
  codes_at = map symbol_of a.numbers

  abbrev pub said_at : List ℕ
  said_at = payload t (map Placed.start a.parts) (map Placed.end a.parts) codes_at (map place_of a.numbers)

  abbrev pub homes_at : List ℕ
  homes_at = homes_of codes_at (replicate items_most 0)

  -- the declaration before item i that a name means in the body that item i is in; i itself, where there is none
  unfoldable pub meant_at : ℕ → Name → ℕ
  meant_at i w = lookup codes_at said_at homes_at (get_or said_at (first_name w (code a.tree)) 0) (inside_of codes_at i) i

  -- for `_pid`, which has none, the first item that is that name
  unfoldable pub decl_at : ℕ → Name → ℕ
  decl_at i w = pick (ltb (meant_at i w) i) (meant_at i w) (first_name w (code a.tree))

  -- the arrays of an expression that begins at item i are declared before it
  abbrev pub Arrays : ℕ → {k : Shape} → Exp k → Type 0
  Arrays i (plain w) = Unit {0}
  Arrays i (indexed w e) = (meant_at i w < i) × Arrays i e
  Arrays i (num n) = Unit {0}
  Arrays i tru = Unit {0}
  Arrays i fls = Unit {0}
  Arrays i (get r) = Arrays i r
  Arrays i (query mk r) = Arrays i r
  Arrays i (unary o e) = Arrays i e
  Arrays i (binary o x y) = Arrays i x × Arrays i y
  Arrays i (choice x y z) = Arrays i x × Arrays i y × Arrays i z
