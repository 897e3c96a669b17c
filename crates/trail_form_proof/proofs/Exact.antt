-- REFUSAL OF A TRAIL FOR ITS FORM, number and line: a trail is refused exactly as `Misformed` says (`form_misformed`), in one way only, and every other is the text of its records.
use mathlib.Core.Path.{◌≡◌, refl, sym, ap, ◌∙◌, subst}
use mathlib.Core.Bool.{Bool, true, false}
use mathlib.Core.List.{List, [], ◌∷◌, ◌++◌}
use mathlib.Core.Logic.{◌↔◌, ◌⊎◌, inl, inr}
use Prim.Native.Nat.{ℕ, zero, suc, ◌+◌, ◌-◌, ◌<◌}
use native.Mathlib.Omega.{arith}
use borrow.Author.Tests.{eqb-false, ne_eqb, lt-ltb, le-ltb, ltb-true, ltb-false}
use lib.Dec.{eqb, ltb}
use lib.ListN.{length, get_or, take, drop}
use Rattle.base_ceilings.specs.Ceilings.{steps_most, trail_most}
use Rattle.base_bytes.specs.Choice.{pick}
use Rattle.spec_text.specs.Formats.{digits_of}
use Rattle.spec_trails.specs.Trails.{tab, line_end, verdicts, Recorded, step_line, claim_line, Small, none, one_more_lem}
use Rattle.spec_trails.specs.Replays as claims
use Rattle.spec_trails.specs.Replays.{claimed}
use Rattle.spec_trails.specs.Texts.{TextOf}
use Rattle.spec_refusals.specs.Trails.{lines, NoRecord, Strays, no_record, behind_claim, too_many, Misformed, too_long, strays}
use Rattle.trail_form.specs.Records.{record_of}
use Rattle.trail_form.specs.Forms.{Form, form, spoiled, before, line_of, follow, form_from, form_of}
use Rattle.trail_form.specs.declared.Record.{Record}
use Rattle.trail_form.specs.declared.Record.TheVariants.{Step, Malformed}
use Rattle.trail_form.proofs.Numbers.{line_read}
use Rattle.trail_form.proofs.Written.{lined, step_plain, claim_claimed}
use Rattle.trail_form.proofs.Exact.{parted, Line, step, claim, neither, line_of_lem, not-form, form_exact}

-- ---- what is read of a record at the front
small_one : (a : Recorded) → Small (a ∷ []) → (a.process < 100000) × (a.choice < 100000)
small_one a (one_more_lem _ _ hp hk _) = (hp, hk)

small-more : (a : Recorded) (more : List Recorded) → Small (a ∷ []) → Small more → Small (a ∷ more)
small-more a more z s = let (hp, hk) = small_one a z in one_more_lem a more hp hk s

step-read : (a : Recorded) (u : List ℕ) → Small (a ∷ []) → (line left : ℕ)
    → form_from line left 0 (step_line a ++ line_end ∷ u) ≡ follow (Step a.process a.choice) line left (length u) (λ l. form_from (line + 1) l 0 u)
step-read a u z line left =
    let (hp, hk) = small_one a z in
    lined 83 (tab ∷ (digits_of a.process ++ tab ∷ digits_of a.choice)) u (step_plain a) line left
    ∙ ap (λ (r : Record). follow r line left (length u) (λ l. form_from (line + 1) l 0 u)) (line_read a.process a.choice hp hk)

claim_read : (c : claims.Claim) (u : List ℕ) (line left : ℕ)
    → form_from line left 0 (claim_line (claimed c) ++ line_end ∷ u) ≡ pick (eqb (length u) 0) (form [] (claimed c)) (spoiled 10 (line + 1))
claim_read c u line left =
    let w = claim_claimed c in
    lined 86 (tab ∷ get_or verdicts (claimed c - 1) []) u w.plain line left ∙ ap (λ (r : Record). follow r line left (length u) (λ l. form_from (line + 1) l 0 u)) w.read

-- ---- what stands at the front: a step, a claim, or what is refused at its line
data Front : List ℕ → Type 0 where
  a_step : (a : Recorded) (u : List ℕ) → Small (a ∷ []) → Front (step_line a ++ line_end ∷ u)
  a_claim : (c : claims.Claim) (u : List ℕ) → Front (claim_line (claimed c) ++ line_end ∷ u)
  no_good : {r : List ℕ} → ((line left : ℕ) → form_from line left 0 r ≡ spoiled 10 line) → Front r

-- a line without its end
open_read : (r : List ℕ) → ltb (line_of r) (length r) ≡ false → (line left : ℕ) → form_from line left 0 r ≡ spoiled 10 line
unfolding form_from
open_read [] e line left = refl
open_read (b ∷ s) e line left = rw e

-- a line that is no record
bad-read : (r : List ℕ) → ltb (line_of r) (length r) ≡ true → record_of (take (line_of r) r) ≡ Malformed → (line left : ℕ) → form_from line left 0 r ≡ spoiled 10 line
unfolding form_from
bad-read [] t e line left = refl
bad-read (b ∷ s) t e line left = rw (t, e)

front_of_lem : (r : List ℕ) → Front r
front_of_lem r = go (ltb (line_of r) (length r)) refl
  where
    by_line : {x : List ℕ} {k : Record} (u : List ℕ) → ltb (line_of r) (length r) ≡ true → Line x k → record_of (take (line_of r) r) ≡ k → r ≡ x ++ line_end ∷ u → Front r
    by_line u t (step a hp hk) e w = subst Front (sym w) (a_step a u (one_more_lem a [] hp hk none))
    by_line u t (claim c) e w = subst Front (sym w) (a_claim c u)
    by_line u t neither e w = no_good (bad-read r t e)

    go : (t : Bool) → ltb (line_of r) (length r) ≡ t → Front r
    go true t = by_line (drop (line_of r + 1) r) t (line_of_lem (take (line_of r) r)) refl (parted line_end r (ltb-true (line_of r) (length r) t))
    go false t = no_good (open_read r t)

-- ---- what is refused at its line has no record at its front, and the other way round
bad-none : (r : List ℕ) → form_from 1 0 0 r ≡ spoiled 10 1 → NoRecord r
bad-none r e =
    record {
      no_step = λ a u z w. let q : spoiled 2 1 ≡ spoiled 10 1 = sym (step-read a u z 1 0) ∙ ap (form_from 1 0 0) (sym w) ∙ e in let n : ◌≡◌ {A = ℕ} 2 10 = cc in omega arith;
      no_claim = λ c u w. other (claimed c) (eqb (length u) 0) (sym (claim_read c u 1 0) ∙ ap (form_from 1 0 0) (sym w) ∙ e);
    }
  where
    other : (v : ℕ) (t : Bool) → pick t (form [] v) (spoiled 10 (1 + 1)) ≡ spoiled 10 1 → ⊥
    other v true q = not-form (sym q)
    other v false q = let n : ◌≡◌ {A = ℕ} (1 + 1) 1 = cc in omega arith

none-bad : (r : List ℕ) → NoRecord r → (line left : ℕ) → form_from line left 0 r ≡ spoiled 10 line
none-bad r n = go (front_of_lem r) n
  where
    go : {r : List ℕ} → Front r → NoRecord r → (line left : ℕ) → form_from line left 0 r ≡ spoiled 10 line
    go (a_step a u z) n line left = absurd (n.no_step a u z refl)
    go (a_claim c u) n line left = absurd (n.no_claim c u refl)
    go (no_good f) n line left = f line left

-- ---- from the reading to where a trail strays
before_spoiled : (a : Recorded) (f : Form) {x l : ℕ} → before a f ≡ spoiled x l → f ≡ spoiled x l
before_spoiled a (form more w) e = absurd (not-form (sym e))
before_spoiled a (spoiled y m) e = e

same_refusal : (X : ℕ → ℕ → Type 0) {x l y m : ℕ} → spoiled x l ≡ spoiled y m → X x l → X y m
same_refusal X {x} {l} {y} {m} e z =
    let p : x ≡ y = cc in
    let q : l ≡ m = cc in
    rw (← p, ← q) z

-- one good line in front
strays_more : (most line : ℕ) (a : Recorded) (u : List ℕ) {x l : ℕ} → Small (a ∷ []) → Strays most (line + 1) u x l → Strays (suc most) line (step_line a ++ line_end ∷ u) x l
unfolding lines
strays_more most line a u z (no_record steps r e s h n) =
    let q : line + 1 + length steps ≡ line + length (a ∷ steps) = omega arith in
    rw q (no_record (a ∷ steps) r (ap (λ (y : List ℕ). step_line a ++ line_end ∷ y) e) (small-more a steps z s) (omega arith) n)
strays_more most line a u z (behind_claim steps c w e s h n) =
    let q : line + 1 + length steps ≡ line + length (a ∷ steps) = omega arith in
    rw q (behind_claim (a ∷ steps) c w (ap (λ (y : List ℕ). step_line a ++ line_end ∷ y) e) (small-more a steps z s) (omega arith) n)
strays_more most line a u z (too_many steps b w e s h y) =
    let q : line + 1 + length steps ≡ line + length (a ∷ steps) = omega arith in
    rw q (too_many (a ∷ steps) b w (ap (λ (y : List ℕ). step_line a ++ line_end ∷ y) e) (small-more a steps z s) (omega arith) y)

module _ (most line : ℕ) {x l : ℕ} where
  strays_claim : (c : claims.Claim) (u : List ℕ) (t : Bool) → eqb (length u) 0 ≡ t → pick t (form [] (claimed c)) (spoiled 10 (line + 1)) ≡ spoiled x l
      → Strays most line (claim_line (claimed c) ++ line_end ∷ u) x l
  unfolding lines
  strays_claim c u true k e = absurd (not-form (sym e))
  strays_claim c u false k e =
      let q : line + 0 + 1 ≡ line + 1 = omega arith in
      let n = eqb-false (length u) 0 k in
      same_refusal (Strays most line (claim_line (claimed c) ++ line_end ∷ u)) (ap (spoiled 10) q ∙ e) (behind_claim [] c u refl none (omega arith) (omega (arith, n)))

  strays_here : (r : List ℕ) → ((line left : ℕ) → form_from line left 0 r ≡ spoiled 10 line) → form_from line most 0 r ≡ spoiled x l → Strays most line r x l
  unfolding lines
  strays_here r f e =
      let q : line + 0 ≡ line = omega arith in
      same_refusal (Strays most line r) (ap (spoiled 10) q ∙ (sym (f line most) ∙ e)) (no_record [] r refl none (omega arith) (bad-none r (f 1 0)))

strays_full : (line : ℕ) (a : Recorded) (u : List ℕ) {x l : ℕ} → Small (a ∷ []) → spoiled 2 line ≡ spoiled x l → Strays 0 line (step_line a ++ line_end ∷ u) x l
unfolding lines
strays_full line a u z e =
    let q : line + 0 ≡ line = omega arith in
    same_refusal (Strays 0 line (step_line a ++ line_end ∷ u)) (ap (spoiled 2) q ∙ e) (too_many [] a u refl none refl z)

-- a step at the front is left to `i`
strays_front : (most line : ℕ) {r : List ℕ} {x l : ℕ} → Front r
    → ((a : Recorded) (u : List ℕ) → Small (a ∷ []) → follow (Step a.process a.choice) line most (length u) (λ k. form_from (line + 1) k 0 u) ≡ spoiled x l
    → Strays most line (step_line a ++ line_end ∷ u) x l) → form_from line most 0 r ≡ spoiled x l → Strays most line r x l
strays_front most line (a_step a u z) i e = i a u z (sym (step-read a u z line most) ∙ e)
strays_front most line (a_claim c u) i e = strays_claim most line c u (eqb (length u) 0) refl (sym (claim_read c u line most) ∙ e)
strays_front most line (no_good {r = r} f) i e = strays_here most line r f e

read_strays : (most line : ℕ) (r : List ℕ) (x l : ℕ) → form_from line most 0 r ≡ spoiled x l → Strays most line r x l
read_strays zero line r x l e = strays_front zero line (front_of_lem r) (λ a u z q. strays_full line a u z q) e
read_strays (suc most) line r x l e =
    strays_front (suc most) line (front_of_lem r) (λ a u z q. strays_more most line a u z (read_strays most (line + 1) u x l (before_spoiled a (form_from (line + 1) most 0 u) q))) e

-- ---- from where a trail strays to its reading
lines-read : (steps : List Recorded) (r : List ℕ) (line left most x l : ℕ) → Small steps → length steps + left ≡ most → form_from (line + length steps) left 0 r ≡ spoiled x l
    → form_from line most 0 (lines steps r) ≡ spoiled x l
unfolding lines
lines-read _ r line left most x l none h e =
    let p : line + 0 ≡ line = omega arith in
    let q : left ≡ most = omega arith in
    rw (p, q) at e
lines-read _ r line left zero x l (one_more_lem a more hp hk s) h e = absurd (omega arith)
lines-read _ r line left (suc most) x l (one_more_lem a more hp hk s) h e =
    let p : line + length (a ∷ more) ≡ line + 1 + length more = omega arith in
    step-read a (lines more r) (one_more_lem a [] hp hk none) line (suc most) ∙ ap (before a) (lines-read more r (line + 1) left most x l s (omega arith) (rw p at e))

strays_read : {most line x l : ℕ} {t : List ℕ} → Strays most line t x l → form_from line most 0 t ≡ spoiled x l
strays_read {most} {line} (no_record steps r e s h n) =
    ap (form_from line most 0) e ∙ lines-read steps r line (most - length steps) most 10 (line + length steps) s (omega arith) (none-bad r n (line + length steps) (most - length steps))
strays_read {most} {line} (behind_claim steps c u e s h n) =
    ap (form_from line most 0) e
    ∙ lines-read steps (claim_line (claimed c) ++ line_end ∷ u) line (most - length steps) most 10 (line + length steps + 1) s (omega arith)
    (claim_read c u (line + length steps) (most - length steps) ∙ rw (ne_eqb (length u) 0 (λ q. omega arith)))
strays_read {most} {line} (too_many steps a u e s h z) =
    ap (form_from line most 0) e ∙ lines-read steps (step_line a ++ line_end ∷ u) line 0 most 2 (line + length steps) s (omega arith) (step-read a u z (line + length steps) 0)

misformed_read : {t : List ℕ} {x l : ℕ} → Misformed t x l → form_of t ≡ spoiled x l
misformed_read {t} (too_long h) = rw (lt-ltb trail_most (length t) h)
misformed_read {t} (strays h z) = rw (le-ltb trail_most (length t) h) (strays_read z)

-- REFUSED: with that number, at that line
pub form_misformed : (t : List ℕ) (x l : ℕ) → (form_of t ≡ spoiled x l) ↔ Misformed t x l
form_misformed t x l = (to (ltb trail_most (length t)) refl, misformed_read)
  where
    to : (b : Bool) → ltb trail_most (length t) ≡ b → pick b (spoiled 2 0) (form_from 1 steps_most 0 t) ≡ spoiled x l → Misformed t x l
    to true h e = same_refusal (Misformed t) e (too_long (ltb-true trail_most (length t) h))
    to false h e = strays (ltb-false trail_most (length t) h) (read_strays steps_most 1 t x l e)

-- ---- so every trail is the text of its records or is refused, in one way
pub misformed_once : (t : List ℕ) (x l y m : ℕ) → Misformed t x l → Misformed t y m → (x ≡ y) × (l ≡ m)
misformed_once t x l y m a b = let e : spoiled x l ≡ spoiled y m = sym (misformed_read a) ∙ misformed_read b in (cc, cc)

pub formed_or_misformed : (t : List ℕ) → ((steps : List Recorded) × (v : ℕ) × TextOf steps_most t steps v) ⊎ ((x : ℕ) × (l : ℕ) × Misformed t x l)
formed_or_misformed t = go (form_of t) refl
  where
    go : (f : Form) → form_of t ≡ f → ((steps : List Recorded) × (v : ℕ) × TextOf steps_most t steps v) ⊎ ((x : ℕ) × (l : ℕ) × Misformed t x l)
    go (form steps v) e = inl (steps, v, (form_exact t steps v).0 e)
    go (spoiled x l) e = inr (x, l, (form_misformed t x l).0 e)
