-- REFUSAL 8 IS EXACT: the check passes exactly the numbers whose written part is the tables of some accepted text. Assumes nothing.
use Prim.Native.Nat.{ℕ, ◌≤◌}
use native.Mathlib.Omega.{arith}
use mathlib.Core.Path.{◌≡◌, refl, sym, ◌∙◌, ap}
use mathlib.Core.Bool.{Bool, true, false}
use mathlib.Core.List.{List}
use borrow.Author.Tests.{le-ltb}
use lib.Dec.{ltb}
use lib.ListN.{length}
use Rattle.base_ceilings.specs.Ceilings.{normal_most}
use Rattle.base_bytes.specs.Choice.{pick}
use Rattle.base_bytes.specs.Lists.{same}
use Rattle.base_bytes.proofs.Lists.{same_refl, same_eq}
use Rattle.std.specs.Prelude.{Result, Ok, Err}
use Rattle.base_refusal.specs.declared.Refusal.{Refusal}
use Rattle.read_passes.specs.Judging.{judge_of, tables_text}
use Rattle.read_accepts_proof.proofs.Main.{accepted_means}
use Rattle.write_texts.specs.Normal.{normal_of}
use Rattle.read_genuine.specs.Genuine.{written, agrees, returns, genuine}
use Rattle.normal_proof.specs.Signing.{Owned}
use Rattle.normal_proof.proofs.Texts.{text-short, text_accepted, normal-tables}

pub genuine_owned : (ts : List ℕ) → genuine ts ≡ true → Owned ts
unfolding genuine returns
genuine_owned ts e = go (ltb normal_most (length (normal_of (written ts)))) (judge_of (normal_of (written ts))) refl e
  where
    go : (b : Bool) (j : Result (Unit {0}) Refusal) → judge_of (normal_of (written ts)) ≡ j → pick b false (agrees j (written ts) (tables_text (normal_of (written ts)))) ≡ true → Owned ts
    go true j h k = absurd (let z : ◌≡◌ {A = ℕ} 0 1 = cc in omega arith)
    go false (Ok u) h k = record { text = normal_of (written ts); accepted = h; own = sym (same_eq (written ts) (tables_text (normal_of (written ts))) k) }
    go false (Err r) h k = absurd (let z : ◌≡◌ {A = ℕ} 0 1 = cc in omega arith)

-- a short text that is accepted with the tables w returns them
returned : (w u : List ℕ) → length u ≤ normal_most → judge_of u ≡ Ok tt → tables_text u ≡ w → returns w u ≡ true
unfolding returns
returned w u h j e =
    ap (λ (b : Bool). pick b false (agrees (judge_of u) w (tables_text u))) (le-ltb normal_most (length u) h)
    ∙ (ap (λ (z : Result (Unit {0}) Refusal). agrees z w (tables_text u)) j ∙ ap (same w) e ∙ same_refl w)

pub owned_genuine : (ts : List ℕ) → Owned ts → genuine ts ≡ true
unfolding genuine
owned_genuine ts o =
    let u = o.text in
    let a = accepted_means u o.accepted in
    ap (λ (w : List ℕ). returns w (normal_of w)) (sym o.own) ∙ returned (tables_text u) (normal_of (tables_text u)) (text-short u a) (text_accepted u a) (normal-tables u a)
