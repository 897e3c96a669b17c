-- THE TABLES FIT: document 01, "Ceilings", "tables are lent as 16,384 unsigned 32-bit numbers"; and what the builder leaves where they fit.
use Prim.Native.Nat.{ℕ, ◌*◌, ◌≤◌}
use mathlib.Core.Path.{◌≡◌, sym, ◌∙◌}
use mathlib.Core.List.{List, ◌++◌}
use native.Mathlib.Omega.{arith}
use lib.ListN.{length, drop}
use Rattle.base_ceilings.specs.Ceilings.{normal_most, tables_room, text_most, tokens_most}
use Rattle.base_pens.specs.Pen.{pen, puts}
use Rattle.base_pens.proofs.Pen.{puts_fit, list_of, at_of}
use Rattle.table_entries.specs.Entry.{Entry, bytes, joined}
use Rattle.table_layout.specs.Tables.{numbers, pool, whole, tables_of}
use Rattle.table_layout.proofs.Building.{length-pool}
use Rattle.table_layout.proofs.Holds.{holds-length}

pub length-tables : (es : List Entry) (ls : List ℕ) → length (tables_of es ls) ≡ whole (length es) (length (numbers es)) (length (pool es))
unfolding tables_of
length-tables es ls = sym (holds-length es ls)

pub fits : (es : List Entry) (ls : List ℕ) → length es ≤ 5119 → length (numbers es) ≤ tokens_most → length (joined bytes es) ≤ normal_most → length (tables_of es ls) ≤ tables_room
fits es ls n k b = omega (arith, length-tables es ls, length-pool es)

-- those of a text whose normal text may be too long fit in twice that room
pub fits-twice : (es : List Entry) (ls : List ℕ) → length es ≤ 5119 → length (numbers es) ≤ tokens_most → length (joined bytes es) ≤ text_most → length (tables_of es ls) ≤ 2 * tables_room
fits-twice es ls n k b = omega (arith, length-tables es ls, length-pool es)

-- with room enough the builder's contract says: the tables, and behind them what was there; and its answer is their length
pub written : (t old new : List ℕ) (r : ℕ) → length t ≤ length old → pen new r ≡ puts t (pen old 0) → (new ≡ t ++ drop (length t) old) × (r ≡ length t)
written t old new r h e = let p = e ∙ puts_fit t old h in (list_of p, at_of p)
