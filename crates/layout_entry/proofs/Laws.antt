-- The laws that the entries cite beside those of `normal_entry`: no layout is longer than a text may be.
use mathlib.Core.Path.{◌≡◌, sym, ap, ◌∙◌}
use mathlib.Core.Bool.{Bool, true}
use mathlib.Core.List.{List}
use Prim.Native.Nat.{ℕ, ◌≤◌}
use native.Mathlib.Omega.{arith}
use lib.ListN.{length}
use Rattle.base_ceilings.specs.Ceilings.{tables_room, text_most}
use Rattle.std.specs.Prelude.{Result, Ok}
use Rattle.base_refusal.specs.declared.Refusal.{Refusal}
use Rattle.read_accepts_proof.proofs.Main.{accepted_means}
use Rattle.read_entry.specs.Entries.{read_of, left_of as readLeft}
use Rattle.write_texts.specs.Normal.{layout_of}
use Rattle.normal_proof.proofs.Owners.{genuine_owned}
use Rattle.read_genuine.specs.Genuine.{written, genuine}
use Rattle.normal_entry.proofs.Laws.{judged_is, written_is}
use Rattle.layout_proof.specs.Texts.{layout_text}
use Rattle.layout_proof.proofs.Texts.{text-layout, layout_short}
use Rattle.read_accepts_proof.specs.Meaning.{Accepts}

text-short : (t : List ℕ) (a : Accepts t) → length (layout_text t) ≤ text_most
text-short t a = omega (arith, ap length (text-layout t a), layout_short t a)

pub text-room : (t zeros tables : List ℕ) (r : Result (Unit {0}) Refusal) → length zeros ≡ tables_room → r ≡ read_of t zeros → tables ≡ readLeft t zeros → (w : List ℕ) → r ≡ Ok tt → w ≡ written tables → length (layout_of w) ≤ text_most
text-room t zeros tables r l e f w q ew = rw (ew ∙ written_is t zeros tables r l e f q) (text-short t (accepted_means t (sym (judged_is t zeros tables r l e f) ∙ q)))

pub tables-room : (ts : List ℕ) (b : Bool) (w : List ℕ) → b ≡ genuine ts → b ≡ true → w ≡ written ts → length (layout_of w) ≤ text_most
tables-room ts b w e q ew = let o = genuine_owned ts (sym e ∙ q) in rw (ew ∙ sym o.own) (text-short o.text (accepted_means o.text o.accepted))
