-- A TRAIL THAT IS WRITTEN HAS ITS FORM: what is written of records and a claim is read back as these (`trail_formed`).
use Prim.Native.Nat.{ℕ, zero, suc, ◌+◌, ◌*◌, ◌-◌, ◌≤◌, ◌<◌}
use mathlib.Core.Path.{◌≡◌, refl, ap, ◌∙◌}
use mathlib.Core.Bool.{Bool, true}
use mathlib.Core.List.{List, [], ◌∷◌, ◌++◌}
use native.Mathlib.Omega.{arith}
use borrow.Author.Tests.{lt-ltb, le-ltb}
use lib.Dec.{ltb}
use lib.ListN.{length, get_or, take, drop, length-append}
use lib.Seq.{take-append_seam, drop-append-add}
use Rattle.base_ceilings.specs.Ceilings.{steps_most, trail_most}
use Rattle.base_bytes.specs.Choice.{pick}
use Rattle.base_bytes.specs.Lists as lists
use Rattle.spec_text.specs.Find.{find}
use Rattle.spec_text.specs.Spelled.{all}
use Rattle.spec_text.specs.Formats.{digits_of}
use Rattle.text_spacing_proof.proofs.Spans.{span-whole}
use Rattle.trail_form.specs.Records.{is_not, record_of}
use Rattle.spec_trails.specs.Trails.{tab, line_end, verdicts, Recorded, step_line, claim_line, trail_of, Small, none, one_more_lem}
use Rattle.trail_form.specs.Forms.{Form, form, spoiled, before, line_of, follow, form_from, form_of}
use Rattle.trail_form.specs.declared.Record.{Record}
use Rattle.trail_form.specs.declared.Record.TheVariants.{Step, Claim, Malformed}
use Rattle.spec_trails.specs.Replays as claims
use Rattle.spec_trails.specs.Replays.{assertion, fault, standing, claimed}
use Rattle.spec_machine.specs.Machine.{Verdict, finished, blocked, «open»}
use Rattle.trail_form.proofs.Scans.{pass}
use Rattle.trail_form.proofs.Numbers.{all_append, all-not, digits-all, digits_few, line_read}

-- ---- one line and what follows it
follow-same : (r : Record) (line left m : ℕ) (f g : ℕ → Form) → ((l : ℕ) → f l ≡ g l) → follow r line left m f ≡ follow r line left m g
follow-same (Step p k) line zero m f g h = refl
follow-same (Step p k) line (suc left) m f g h = ap (before (record { process = p; choice = k })) (h left)
follow-same (Claim v) line left m f g h = refl
follow-same Malformed line left m f g h = refl

module _ (b : ℕ) (x rest : List ℕ) (plain : all (is_not line_end) (b ∷ x) ≡ true) where
  line-length : line_of (b ∷ (x ++ line_end ∷ rest)) ≡ suc (length x)
  line-length = span-whole (is_not line_end) (b ∷ x) (line_end ∷ rest) plain refl

  whole_length : length (b ∷ (x ++ line_end ∷ rest)) ≡ suc (length x) + suc (length rest)
  whole_length = ap suc (length-append x (line_end ∷ rest)) ∙ omega arith

  behind-line : (line l : ℕ) → form_from line l (suc (length x)) (x ++ line_end ∷ rest) ≡ form_from line l 0 rest
  behind-line line l =
      let z : suc (length x) ≡ length x + 1 = omega arith in
      pass line l (suc (length x)) (x ++ line_end ∷ rest) ∙ ap (form_from line l 0) (ap (λ (j : ℕ). drop j (x ++ line_end ∷ rest)) z ∙ drop-append-add x (line_end ∷ rest) 1)

  by_length : (line left m n : ℕ) → m ≡ suc (length x) → n ≡ suc (length x) + suc (length rest)
      → pick (ltb m n) (follow (record_of (take m (b ∷ (x ++ line_end ∷ rest)))) line left (n - (m + 1)) (λ l. form_from (line + 1) l m (x ++ line_end ∷ rest))) (spoiled 10 line)
      ≡ follow (record_of (b ∷ x)) line left (length rest) (λ l. form_from (line + 1) l 0 rest)
  by_length line left m n em en =
      let z : suc (length x) + suc (length rest) - (suc (length x) + 1) ≡ length rest = omega arith in
      let t : take (suc (length x)) (b ∷ (x ++ line_end ∷ rest)) ≡ b ∷ x = take-append_seam (b ∷ x) (line_end ∷ rest) in
      rw (em, en, lt-ltb (suc (length x)) (suc (length x) + suc (length rest)) (omega arith), z, t)
      (follow-same (record_of (b ∷ x)) line left (length rest) (λ l. form_from (line + 1) l (suc (length x)) (x ++ line_end ∷ rest)) (λ l. form_from (line + 1) l 0 rest) (λ l. behind-line (line + 1) l))

  pub lined : (line left : ℕ) → form_from line left 0 (b ∷ (x ++ line_end ∷ rest)) ≡ follow (record_of (b ∷ x)) line left (length rest) (λ l. form_from (line + 1) l 0 rest)
  unfolding form_from
  lined line left = by_length line left (line_of (b ∷ (x ++ line_end ∷ rest))) (length (b ∷ (x ++ line_end ∷ rest))) line-length whole_length

-- ---- the first line of a step's and what follows
pub step_plain : (a : Recorded) → all (is_not line_end) (step_line a) ≡ true
unfolding all
step_plain a =
    all_append (is_not line_end) (digits_of a.process) (tab ∷ digits_of a.choice) (all-not line_end (omega arith) (digits_of a.process) (digits-all 10 a.process))
    (all-not line_end (omega arith) (digits_of a.choice) (digits-all 10 a.choice))

pub record First (a : Recorded) (rest x : List ℕ) : Type 0 where
  pub long : line_of x ≡ length (step_line a)
  pub ended : line_of x < length x
  pub here : record_of (take (line_of x) x) ≡ Step a.process a.choice
  pub others : drop (line_of x + 1) x ≡ rest

pub first-line : (a : Recorded) (rest : List ℕ) → a.process < 100000 → a.choice < 100000 → First a rest (step_line a ++ line_end ∷ rest)
first-line a rest hp hk =
    let y = tab ∷ (digits_of a.process ++ tab ∷ digits_of a.choice) in
    let n = line-length 83 y rest (step_plain a) in
    record {
      long = n;
      ended = omega (arith, n, whole_length 83 y rest (step_plain a));
      here = ap (λ (m : ℕ). record_of (take m (step_line a ++ line_end ∷ rest))) n ∙ (ap record_of (take-append_seam (step_line a) (line_end ∷ rest)) ∙ line_read a.process a.choice hp hk);
      others = ap (λ (m : ℕ). drop (m + 1) (step_line a ++ line_end ∷ rest)) n ∙ drop-append-add (step_line a) (line_end ∷ rest) 1;
    }

-- ---- the claim
pub record Claimed (v : ℕ) : Type 0 where
  pub read : record_of (claim_line v) ≡ Claim v
  pub plain : all (is_not line_end) (claim_line v) ≡ true
  short : length (claim_line v) ≤ 10

assert_claimed : Claimed 1
unfolding find lists.same all
assert_claimed = record { read = refl; plain = refl; short = omega arith }

fault-claimed : Claimed 2
unfolding find lists.same all
fault-claimed = record { read = refl; plain = refl; short = omega arith }

standing-claimed : (d : Verdict) → Claimed (claimed (standing d))
unfolding find lists.same all
standing-claimed finished = record { read = refl; plain = refl; short = omega arith }
standing-claimed blocked = record { read = refl; plain = refl; short = omega arith }
standing-claimed «open» = record { read = refl; plain = refl; short = omega arith }

pub claim_claimed : (c : claims.Claim) → Claimed (claimed c)
claim_claimed assertion = assert_claimed
claim_claimed fault = fault-claimed
claim_claimed (standing d) = standing-claimed d

-- ---- the whole trail
form-written : (steps : List Recorded) (v line left : ℕ) → Claimed v → Small steps → length steps ≤ left → form_from line left 0 (trail_of steps v) ≡ form steps v
unfolding trail_of
form-written _ v line left c none h = lined 86 (tab ∷ get_or verdicts (v - 1) []) [] c.plain line left ∙ ap (λ (r : Record). follow r line left 0 (λ l. form_from (line + 1) l 0 [])) c.read
form-written _ v line zero c (one_more_lem a more hp hk rest) h = absurd (omega arith)
form-written _ v line (suc left) c (one_more_lem a more hp hk rest) h =
    lined 83 (tab ∷ (digits_of a.process ++ tab ∷ digits_of a.choice)) (trail_of more v) (step_plain a) line (suc left)
    ∙ (ap (λ (r : Record). follow r line (suc left) (length (trail_of more v)) (λ l. form_from (line + 1) l 0 (trail_of more v))) (line_read a.process a.choice hp hk)
    ∙ ap (before a) (form-written more v (line + 1) left c rest (omega arith)))

step-short : (a : Recorded) → a.process < 100000 → a.choice < 100000 → length (step_line a) ≤ 13
step-short a hp hk = omega (arith, length-append (digits_of a.process) (tab ∷ digits_of a.choice), digits_few a.process hp, digits_few a.choice hk)

trail_short : (steps : List Recorded) (v : ℕ) → Claimed v → Small steps → length (trail_of steps v) ≤ length steps * 14 + 11
unfolding trail_of
trail_short _ v c none = omega (arith, length-append (claim_line v) (line_end ∷ []), c.short)
trail_short _ v c (one_more_lem a more hp hk rest) = omega (arith, length-append (step_line a) (line_end ∷ trail_of more v), step-short a hp hk, trail_short more v c rest)

-- every list of at most 2,048 steps with numbers of at most five digits, and every claim, written as a trail, is within its ceiling and has its form
pub trail_formed : (steps : List Recorded) (c : claims.Claim) → Small steps → length steps ≤ steps_most
    → (length (trail_of steps (claimed c)) ≤ trail_most) × (form_of (trail_of steps (claimed c)) ≡ form steps (claimed c))
trail_formed steps c small few =
    let v = claimed c in
    let w : Claimed v = claim_claimed c in
    let l : length (trail_of steps v) ≤ trail_most = omega (arith, trail_short steps v w small) in
    (l, ap (λ (b : Bool). pick b (spoiled 2 0) (form_from 1 steps_most 0 (trail_of steps v))) (le-ltb trail_most (length (trail_of steps v)) l) ∙ form-written steps v 1 steps_most w small few)
