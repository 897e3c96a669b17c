-- THE ITEMS OF A MODEL FIT, each where it stands, by its place in the list.
use Prim.Native.Nat.{ℕ, suc, ◌+◌, ◌≤◌, ◌<◌}
use mathlib.Core.Path.{◌≡◌, refl, sym, ap, subst, ◌∙◌}
use mathlib.Core.Bool.{true}
use mathlib.Core.List.{List, [], ◌∷◌, map}
use native.Mathlib.Omega.{arith}
use native.Mathlib.Decide.{ℕ_discrete}
use lib.ListN.{length, get_or}
use Rattle.base_kinds.specs.Kinds.{Token}
use Rattle.spec_grammar.specs.Tree.{Model}
use Rattle.spec_grammar.specs.Grammar.{Gram}
use Rattle.base_codes.specs.Items.{Item, code_of}
use Rattle.parse_code.specs.Code.{code}
use Rattle.table_entries.specs.Entry.{nothing}
use Rattle.table_entries.specs.Items.{entry_of}
use Rattle.link_phrases_proof.specs.Phrases.{At}
use Rattle.keep_forms.specs.Forms.{Form, step, fits, fresh, form_at, Formed}
use Rattle.keep_forms.proofs.Passes.{Passes}
use Rattle.keep_forms.proofs.Units.{model-passes}

-- items whose entries have the codes of a list stand in it
pub codes_stand : (l : List Item) (cs : List ℕ) (i : ℕ) → ((k : ℕ) → k < length l → (get_or (map entry_of l) k nothing).code ≡ get_or cs (i + k) 0) → At cs i l
codes_stand [] cs i h = tt
codes_stand (x ∷ l) cs i h = (
  ap (λ k. get_or cs k 0) (let e : i ≡ i + 0 = omega arith in e) ∙ sym (h 0 (omega arith)),
  codes_stand l cs (suc i) (λ k g. h (suc k) (omega arith) ∙ ap (λ k. get_or cs k 0) (let e : i + suc k ≡ suc i + k = omega arith in e)),
)

step_on : (cs : List ℕ) (i c : ℕ) → get_or cs i 0 ≡ c → step (form_at cs i) c ≡ form_at cs (suc i)
unfolding form_at
step_on cs i c e = ap (step (form_at cs i)) (sym e)

scanned : (l : List Item) (cs : List ℕ) (i : ℕ) (K : Form → Type 0) → At cs i l → Passes l (form_at cs i) K
    → ((j : ℕ) → i ≤ j → j < i + length l → fits (form_at cs j) (get_or cs j 0) ≡ true) × K (form_at cs (i + length l))
scanned [] cs i K a p = (λ j g h. absurd (omega arith), subst (λ k. K (form_at cs k)) (let e : i ≡ i + 0 = omega arith in e) p)
scanned (x ∷ l) cs i K a p =
    let r = scanned l cs (suc i) K a.1 (subst (λ s. Passes l s K) (step_on cs i (code_of x) a.0) p.1) in
    (λ j g h. go j (ℕ_discrete j i) g h r.0, subst (λ k. K (form_at cs k)) (let e : suc i + length l ≡ i + suc (length l) = omega arith in e) r.1)
  where
    go : (j : ℕ) → Dec (j ≡ i) → i ≤ j → j < i + suc (length l) → ((j : ℕ) → suc i ≤ j → j < suc i + length l → fits (form_at cs j) (get_or cs j 0) ≡ true) → fits (form_at cs j) (get_or cs j 0) ≡ true
    go j (yes e) g h r = subst (λ j. fits (form_at cs j) (get_or cs j 0) ≡ true) (sym e) (ap (fits (form_at cs i)) a.0 ∙ p.0)
    go j (no e) g h r = r j (omega arith) (omega arith)

first-form : (cs : List ℕ) → fresh ≡ form_at cs 0
unfolding form_at
first-form cs = refl

pub model_formed : (ts : List Token) (m : Model) → Gram ts m → (cs : List ℕ) → length cs ≡ length (code m) → At cs 0 (code m) → Formed cs
model_formed ts m g cs n a =
    let r = scanned (code m) cs 0 (λ s. s.zone ≡ 0) a (subst (λ s. Passes (code m) s (λ s. s.zone ≡ 0)) (first-form cs) (model-passes ts m g 0 (λ s. s.zone ≡ 0) (λ n. refl))) in
    record {
      each = λ j h. r.0 j (omega arith) (omega arith);
      shut = ap (λ k. (form_at cs k).zone) (let e : length cs ≡ 0 + length (code m) = omega arith in e) ∙ r.1;
    }
