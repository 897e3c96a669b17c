-- The codes of an accepted text's items are those of its tree.
use Prim.Native.Nat.{ℕ, ◌+◌, ◌≤◌, ◌<◌, min}
use native.Mathlib.Omega.{arith}
use mathlib.Core.Path.{◌≡◌, sym as inv, ap, ◌∙◌}
use mathlib.Core.List.{List, [], map, append-nil}
use lib.ListN.{length, get_or, length-map}
use lib.Seq.{ext_get_or}
use Rattle.base_ceilings.specs.Ceilings.{items_most}
use Rattle.spec_text.specs.Placed.{Placed}
use Rattle.text_spacing_proof.proofs.Exact.{reading_exact}
use Rattle.base_codes.specs.Items.{code_of, i_plain}
use Rattle.parse_code.specs.Code.{code}
use Rattle.parse_machine.specs.Machine.{symbol_of, place_of}
use Rattle.table_entries.specs.Entry.{Entry, nothing}
use Rattle.table_entries.specs.Sources.{entry_at, entries_of}
use Rattle.table_entries.specs.Items.{entry_of}
use Rattle.table_entries.proofs.Runs.{length_runs, runs_at}
use Rattle.table_layout.specs.Trees.{entries_in}
use Rattle.table_proof.proofs.Read.{get_only}
use Rattle.table_proof.proofs.Accepted.{accepted_items}
use Rattle.table_proof.proofs.Built.{accepted_entries}
use Rattle.table_proof.proofs.Wrote.{machine-right}
use Rattle.read_accepts_proof.specs.Meaning.{Accepts}
use Rattle.read_accepts_proof.proofs.Alike.{parsed_done}

module _ (t : List ℕ) (a : Accepts t) where
  abbrev ss : List ℕ
  ss = map Placed.start a.parts

  abbrev es : List ℕ
  es = map Placed.end a.parts

  abbrev pub cs : List ℕ
  cs = map symbol_of a.numbers

  abbrev ks : List ℕ
  ks = map place_of a.numbers

  entries_are : entries_of t ss es cs ks ≡ entries_in a.tree
  entries_are =
      rw (← append-nil ss, ← append-nil es, ← append-nil ks) (accepted_entries t a.parts a.tree a.reads a.gram [] [] [] symbol_of place_of a.numbers
      (machine-right a.parts a.numbers ((reading_exact t a.parts).0 a.reads).2 (parsed_done (map Placed.kind a.parts) a.numbers a.written)) a.coded)

  entries_long : length (entries_in a.tree) ≡ min items_most (length cs)
  unfolding entries_of
  entries_long = ap length (inv entries_are) ∙ length_runs (entry_at t ss es cs ks) 0 (min items_most (length cs))

  pub codes_few : length cs ≤ items_most
  codes_few = omega (arith, entries_long, accepted_items t a.parts a.tree a.reads a.gram)

  pub codes_long : length cs ≡ length (entries_in a.tree)
  codes_long = omega (arith, entries_long, accepted_items t a.parts a.tree a.reads a.gram)

  code_at : (j : ℕ) → j < length cs → get_or cs j 0 ≡ (get_or (entries_in a.tree) j nothing).code
  unfolding entries_of entry_at
  code_at j h = inv (ap (λ (l : List Entry). (get_or l j nothing).code) (inv entries_are) ∙ ap Entry.code (runs_at (entry_at t ss es cs ks) 0 (min items_most (length cs)) j (omega (arith, codes_few))) ∙ (let z : 0 + j ≡ j = omega arith in ap (λ n. get_or cs n 0) z))

  pub codes_are : cs ≡ map code_of (code a.tree)
  codes_are =
      ext_get_or 0 cs (map code_of (code a.tree)) (codes_long ∙ length-map (code a.tree) entry_of ∙ inv (length-map (code a.tree) code_of))
      (λ j h. let k : j < length (code a.tree) = omega (arith, codes_long, length-map (code a.tree) entry_of) in
      code_at j h ∙ ap Entry.code (get_only entry_of (code a.tree) j i_plain nothing k) ∙ inv (get_only code_of (code a.tree) j i_plain 0 k))
