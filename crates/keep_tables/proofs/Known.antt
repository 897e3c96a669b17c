-- What is known of the items of an accepted text, from what it means that it is accepted.
use Prim.Native.Nat.{ℕ, zero, suc, ◌+◌, ◌≤◌, ◌<◌}
use mathlib.Core.Path.{◌≡◌, refl, sym, ap, ◌∙◌}
use mathlib.Core.Bool.{Bool, true, false}
use mathlib.Core.List.{List, map}
use native.Mathlib.Omega.{arith}
use native.Mathlib.Decide.{ℕ_discrete}
use lib.ListN.{length, get_or, length-map}
use lib.Dec.{eqb, ltb}
use borrow.Author.Tests.{eqb-true, le-ltb}
use Rattle.base_ceilings.specs.Ceilings.{items_most}
use Rattle.base_bytes.specs.Choice.{pick}
use Rattle.spec_text.specs.Writing.{tokens_in}
use Rattle.parse_code.specs.Code.{code}
use Rattle.table_entries.specs.Entry.{nothing}
use Rattle.table_entries.specs.Items.{entry_of}
use Rattle.rule_item.specs.Rules.{bad}
use Rattle.rule_least.specs.Faults.{place, sooner, joined, least_from, least_of, checked}
use Rattle.rule_least.specs.declared.Fault.{Fault}
use Rattle.rule_least.specs.declared.Fault.TheVariants.{None, At}
use Rattle.rule_ceilings.specs.Ceilings.{passed, any_passed}
use Rattle.keep_forms.proofs.Scans.{codes_stand, model_formed}
use Rattle.keep_forms.proofs.Aims.{model-aims}
use Rattle.read_accepts_proof.specs.Meaning.{Accepts}
use Rattle.keep_tables.specs.Facts.{homes, starts, heights, Facts}
use Rattle.keep_tables.proofs.Tables.{few_items, ss, ks, codes_at, said_at, entries_are, entries-length, entry_is, entry-code}

-- ---- no item has a fault
is_none : Fault → ℕ
is_none None = 0
is_none (At m p) = 1

sooner-some : (p m : ℕ) (f : Fault) → sooner p m f ≡ None → ⊥
unfolding sooner is_none
sooner-some p m None e = let z : ◌≡◌ {A = ℕ} 1 0 = ap is_none e in omega arith
sooner-some p m (At n q) e = by (ltb p q) (ltb q p) (ltb n m) e
  where
    by : (a b c : Bool) → pick a (At m p) (pick b (At n q) (pick c (At n q) (At m p))) ≡ None → ⊥
    by true b c e = let z : ◌≡◌ {A = ℕ} 1 0 = ap is_none e in omega arith
    by false true c e = let z : ◌≡◌ {A = ℕ} 1 0 = ap is_none e in omega arith
    by false false true e = let z : ◌≡◌ {A = ℕ} 1 0 = ap is_none e in omega arith
    by false false false e = let z : ◌≡◌ {A = ℕ} 1 0 = ap is_none e in omega arith

module _ (cs vs hs ss ts toks : List ℕ) where
  joined-none : (j : ℕ) (f : Fault) → joined cs vs hs ss ts toks j f ≡ None → (bad cs vs hs ss ts j ≡ 0) × (f ≡ None)
  unfolding joined
  joined-none j f = go (eqb (bad cs vs hs ss ts j) 0) refl
    where
      go : (b : Bool) → eqb (bad cs vs hs ss ts j) 0 ≡ b → pick b f (sooner (place cs vs hs ss ts toks j) (bad cs vs hs ss ts j) f) ≡ None → (bad cs vs hs ss ts j ≡ 0) × (f ≡ None)
      go true q e = (eqb-true (bad cs vs hs ss ts j) 0 q, e)
      go false q e = absurd (sooner-some (place cs vs hs ss ts toks j) (bad cs vs hs ss ts j) f e)

  free_at : (n j : ℕ) → least_from cs vs hs ss ts toks j n ≡ None → (i : ℕ) → j ≤ i → i < j + n → bad cs vs hs ss ts i ≡ 0
  unfolding least_from
  free_at zero j e i g h = absurd (omega arith)
  free_at (suc n) j e i g h = go (ℕ_discrete i j) (free_at n (j + 1) (joined-none j _ e).1 i)
    where
      go : Dec (i ≡ j) → (j + 1 ≤ i → i < j + 1 + n → bad cs vs hs ss ts i ≡ 0) → bad cs vs hs ss ts i ≡ 0
      go (yes z) r = ap (bad cs vs hs ss ts) z ∙ (joined-none j _ e).0
      go (no z) r = r (omega arith) (omega arith)

pub checked_free : (cs vs toks : List ℕ) → checked cs vs toks ≡ None → (j : ℕ) → j < length cs → bad cs vs (homes cs) (starts cs) (heights cs) j ≡ 0
unfolding checked least_of
checked_free cs vs toks e j h = free_at cs vs (homes cs) (starts cs) (heights cs) toks (length cs) 0 e j (omega arith) (omega arith)

pub passed_none : (cs vs : List ℕ) → passed cs vs ≡ false → any_passed cs vs (homes cs) ≡ false
unfolding passed
passed_none cs vs e = let f = few_items cs vs e in sym (ap (λ b. pick b true (any_passed cs vs (homes cs))) (le-ltb items_most (length cs) f)) ∙ e

-- ---- the whole
module _ (t : List ℕ) (a : Accepts t) where
  codes_length : length (codes_at t a) ≡ length (code a.tree)
  codes_length = sym (entries-length t a) ∙ ap length (entries_are t a) ∙ length-map (code a.tree) entry_of

  codes_are : (k : ℕ) → k < length (code a.tree) → (get_or (map entry_of (code a.tree)) k nothing).code ≡ get_or (codes_at t a) (0 + k) 0
  codes_are k h =
      ap (λ l. (get_or l k nothing).code) (sym (entries_are t a)) ∙ ap (λ e. e.code) (entry_is t a k (let e = codes_length in omega arith)) ∙ entry-code t a k
      ∙ ap (λ i. get_or (codes_at t a) i 0) (let e : k ≡ 0 + k = omega arith in e)

  pub text_facts : Facts (codes_at t a) (said_at t a)
  text_facts =
      record {
        few = few_items (codes_at t a) (said_at t a) a.within;
        formed = model_formed (tokens_in t a.parts) a.tree a.gram (codes_at t a) codes_length (codes_stand (code a.tree) (codes_at t a) 0 codes_are);
        aimed = model-aims (tokens_in t a.parts) a.tree a.gram (codes_at t a) codes_length (codes_stand (code a.tree) (codes_at t a) 0 codes_are);
        ruled = checked_free (codes_at t a) (said_at t a) (ks t a) a.faultless;
        ceiled = passed_none (codes_at t a) (said_at t a) a.within;
      }
