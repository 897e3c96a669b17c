-- A TRAIL HAS ITS FORM EXACTLY WHERE IT IS THE TEXT OF ITS RECORDS (`form_exact`).
use Prim.Native.Nat.{ℕ, zero, suc, ◌+◌, ◌-◌, ◌≤◌, ◌<◌}
use mathlib.Core.Path.{◌≡◌, refl, sym, ap, ap₂, ◌∙◌, subst}
use mathlib.Core.Bool.{Bool, true, false, not}
use mathlib.Core.Logic.{◌↔◌}
use mathlib.Core.List.{List, [], ◌∷◌, ◌++◌}
use native.Mathlib.Omega.{arith}
use borrow.Author.Tests.{eqb-true, ne_eqb, ltb-true}
use lib.Dec.{eqb, ltb}
use lib.ListN.{length, get_or, take, drop, length-drop}
use Rattle.base_ceilings.specs.Ceilings.{steps_most, trail_most}
use Rattle.base_bytes.specs.Choice.{pick, both}
use Rattle.base_bytes.specs.Lists.{same}
use Rattle.base_bytes.proofs.Lists.{same_eq}
use Rattle.base_bytes.proofs.Tests.{both_true, true_false}
use Rattle.base_kinds.specs.Kinds.{bytes}
use Rattle.spec_text.specs.Find.{find}
use Rattle.text_pieces.specs.Spans.{span}
use Rattle.spec_text.specs.Digits.{decimal}
use Rattle.text_pieces.proofs.Sizes.{by_test}
use Rattle.spec_text.specs.Formats.{digits_of}
use Rattle.spec_machine.specs.Machine.{finished, blocked, «open»}
use Rattle.spec_trails.specs.Trails.{tab, line_end, Recorded, step_line, claim_line, trail_of, none, one_more_lem}
use Rattle.spec_trails.specs.Replays as claims
use Rattle.spec_trails.specs.Replays.{assertion, fault, standing, claimed, claim_by}
use Rattle.spec_trails.specs.Texts.{TextOf}
use Rattle.trail_form.specs.Records.{well_formed, is_not, field, behind_field, claim_of, record_of}
use Rattle.trail_form.specs.Forms.{Form, form, spoiled, before, line_of, follow, form_from, form_of}
use Rattle.trail_form.specs.declared.Record.{Record}
use Rattle.trail_form.specs.declared.Record.TheVariants.{Step, Claim, Malformed}
use Rattle.trail_form.proofs.Scans.{pass}
use Rattle.trail_form.proofs.Numbers.{formed_written}
use Rattle.trail_form.proofs.Written.{trail_formed}

-- what stands before the first byte c, that byte, and what stands behind it
pub parted : (c : ℕ) (x : List ℕ) → span (is_not c) x < length x → x ≡ take (span (is_not c) x) x ++ c ∷ drop (span (is_not c) x + 1) x
unfolding span
parted c [] h = absurd (omega arith)
parted c (b ∷ x) h = go (eqb b c) refl (parted c x) h
  where
    go : (t : Bool) → eqb b c ≡ t → (span (is_not c) x < length x → x ≡ take (span (is_not c) x) x ++ c ∷ drop (span (is_not c) x + 1) x) → pick (not t) (suc (span (is_not c) x)) 0 < suc (length x)
        → b ∷ x ≡ take (pick (not t) (suc (span (is_not c) x)) 0) (b ∷ x) ++ c ∷ drop (pick (not t) (suc (span (is_not c) x)) 0 + 1) (b ∷ x)
    go true e r h = ap (◌∷ x) (eqb-true b c e)
    go false e r h = let z : suc (span (is_not c) x) + 1 ≡ suc (span (is_not c) x + 1) = omega arith in rw z (ap (b ∷◌) (r (omega arith)))

-- ---- what a line is, by its record
pub data Line : List ℕ → Record → Type 0 where
  step : (a : Recorded) → a.process < 100000 → a.choice < 100000 → Line (step_line a) (Step a.process a.choice)
  claim : (c : claims.Claim) → Line (claim_line (claimed c)) (Claim (claimed c))
  neither : {x : List ℕ} → Line x Malformed

formed_some : (x : List ℕ) → well_formed x ≡ true → 1 ≤ length x
unfolding span
formed_some [] e = absurd (true_false (sym e))
formed_some (b ∷ x) e = omega arith

step_line_lem : (x : List ℕ) → well_formed (field x) ≡ true → well_formed (behind_field x) ≡ true → Line (83 ∷ tab ∷ x) (Step (decimal (field x)) (decimal (behind_field x)))
step_line_lem x p q =
    let (u, h) = formed_written (field x) p in
    let (v, k) = formed_written (behind_field x) q in
    let w : x ≡ digits_of (decimal (field x)) ++ tab ∷ digits_of (decimal (behind_field x)) =
    parted tab x (omega (arith, formed_some (behind_field x) q, length-drop (span (is_not tab) x + 1) x)) ∙ ap₂ (λ (y z : List ℕ). y ++ tab ∷ z) u v in
    subst (λ (y : List ℕ). Line (83 ∷ tab ∷ y) (Step (decimal (field x)) (decimal (behind_field x)))) (sym w)
    (step (record { process = decimal (field x); choice = decimal (behind_field x) }) h k)

claim_line_lem : (x : List ℕ) → Line (86 ∷ tab ∷ x) (claim_of x)
unfolding find
claim_line_lem x = go (same x (bytes "assert")) (same x (bytes "fault")) (same x (bytes "finished")) (same x (bytes "blocked")) (same x (bytes "open")) refl refl refl refl refl
  where
    word : (w : List ℕ) (r : Record) → same x w ≡ true → Line (86 ∷ tab ∷ w) r → Line (86 ∷ tab ∷ x) r
    word w r e l = subst (λ (y : List ℕ). Line (86 ∷ tab ∷ y) r) (sym (same_eq x w e)) l

    place : Bool → Bool → Bool → Bool → Bool → ℕ
    place a b c d e = pick a 1 (pick b 2 (pick c 3 (pick d 4 (pick e 5 0))))

    go : (a b c d e : Bool) → same x (bytes "assert") ≡ a → same x (bytes "fault") ≡ b → same x (bytes "finished") ≡ c → same x (bytes "blocked") ≡ d → same x (bytes "open") ≡ e
        → Line (86 ∷ tab ∷ x) (pick (eqb (place a b c d e) 0) Malformed (Claim (place a b c d e)))
    go true b c d e h i j k l = word (bytes "assert") (Claim 1) h (claim assertion)
    go false true c d e h i j k l = word (bytes "fault") (Claim 2) i (claim fault)
    go false false true d e h i j k l = word (bytes "finished") (Claim 3) j (claim (standing finished))
    go false false false true e h i j k l = word (bytes "blocked") (Claim 4) k (claim (standing blocked))
    go false false false false true h i j k l = word (bytes "open") (Claim 5) l (claim (standing «open»))
    go false false false false false h i j k l = neither

pub line_of_lem : (x : List ℕ) → Line x (record_of x)
line_of_lem x =
    by_test (Line x) (both (eqb (get_or x 0 0) 83) (eqb (get_or x 1 0) tab))
    (λ t. by_test (Line x) (both (well_formed (field (drop 2 x))) (well_formed (behind_field (drop 2 x))))
    (λ w. let (p, q) = both_true (well_formed (field (drop 2 x))) (well_formed (behind_field (drop 2 x))) w in
    subst (λ (y : List ℕ). Line y (Step (decimal (field (drop 2 x))) (decimal (behind_field (drop 2 x))))) (sym (front 83 (λ z. omega arith) t)) (step_line_lem (drop 2 x) p q))
    (λ _. neither))
    (λ _. by_test (Line x) (both (eqb (get_or x 0 0) 86) (eqb (get_or x 1 0) tab))
    (λ t. subst (λ (y : List ℕ). Line y (claim_of (drop 2 x))) (sym (front 86 (λ z. omega arith) t)) (claim_line_lem (drop 2 x)))
    (λ _. neither))
  where
    two-front : (x : List ℕ) (a b : ℕ) → (a ≡ 0 → ⊥) → (b ≡ 0 → ⊥) → get_or x 0 0 ≡ a → get_or x 1 0 ≡ b → x ≡ a ∷ b ∷ drop 2 x
    two-front [] a b h k e f = absurd (h (sym e))
    two-front (c ∷ []) a b h k e f = absurd (k (sym f))
    two-front (c ∷ d ∷ x) a b h k e f = rw (e, f)

    front : (a : ℕ) → (a ≡ 0 → ⊥) → both (eqb (get_or x 0 0) a) (eqb (get_or x 1 0) tab) ≡ true → x ≡ a ∷ tab ∷ drop 2 x
    front a h t = let (p, q) = both_true (eqb (get_or x 0 0) a) (eqb (get_or x 1 0) tab) t in two-front x a tab h (λ z. omega arith) (eqb-true (get_or x 0 0) a p) (eqb-true (get_or x 1 0) tab q)

-- ---- what is read is the text of its records
pub not-form : {x l v : ℕ} {steps : List Recorded} → spoiled x l ≡ form steps v → ⊥
not-form e = let z : ◌≡◌ {A = ℕ} 0 1 = cc in omega arith

-- one line, where what is read behind it is the text of its records
followed : {x : List ℕ} {r : Record} (y : List ℕ) (line left : ℕ) (rest : ℕ → Form) (steps : List Recorded) (v : ℕ) → Line x r
    → ((l : ℕ) (more : List Recorded) → left ≡ suc l → rest l ≡ form more v → TextOf l y more v) → follow r line left (length y) rest ≡ form steps v → TextOf left (x ++ line_end ∷ y) steps v
unfolding trail_of
followed y line left rest steps v neither h e = absurd (not-form e)
followed y line zero rest steps v (step a p k) h e = absurd (not-form e)
followed y line (suc left) rest steps v (step a p k) h e = go (rest left) refl e
  where
    go : (f : Form) → rest left ≡ f → before a f ≡ form steps v → TextOf (suc left) (step_line a ++ line_end ∷ y) steps v
    go (spoiled i l) q g = absurd (not-form g)
    go (form more w) q g =
        let z : a ∷ more ≡ steps = cc in
        let c : w ≡ v = cc in
        let t = h left more refl (q ∙ ap (form more) c) in
        rw (← z)
        (record {
          claim = t.claim;
          verdict = t.verdict;
          text = ap (λ (u : List ℕ). step_line a ++ line_end ∷ u) t.text;
          small = one_more_lem a more p k t.small;
          few = omega (arith, t.few);
        })
followed [] line left rest steps v (claim c) h e =
    let z : [] ≡ steps = cc in
    let q : claimed c ≡ v = cc in
    rw (← z, ← q) (record { claim = c; verdict = refl; text = refl; small = none; few = omega arith })
followed (b ∷ y) line left rest steps v (claim c) h e =
    absurd (not-form (ap (λ t. pick t (form [] (claimed c)) (spoiled 10 (line + 1))) (sym (ne_eqb (suc (length y)) 0 (λ z. omega arith))) ∙ e))

module _ (line left : ℕ) (steps : List Recorded) (v : ℕ) where
  -- behind a line
  abbrev behind : List ℕ → List ℕ
  behind x = drop (line_of x + 1) x

  lined : (x : List ℕ) → ((l : ℕ) (more : List Recorded) → left ≡ suc l → form_from (line + 1) l 0 (behind x) ≡ form more v → TextOf l (behind x) more v)
      → form_from line left 0 x ≡ form steps v → TextOf left x steps v
  unfolding form_from
  lined [] h e = absurd (not-form e)
  lined (b ∷ s) h e = go (ltb (line_of (b ∷ s)) (length (b ∷ s))) refl e
    where
      n : ℕ
      n = line_of (b ∷ s)

      go : (t : Bool) → ltb (line_of (b ∷ s)) (length (b ∷ s)) ≡ t
          → pick t (follow (record_of (take (line_of (b ∷ s)) (b ∷ s))) line left (length (b ∷ s) - (line_of (b ∷ s) + 1)) (λ l. form_from (line + 1) l (line_of (b ∷ s)) s)) (spoiled 10 line) ≡ form steps v
          → TextOf left (b ∷ s) steps v
      go false q e = absurd (not-form e)
      go true q e =
          let z : n + 1 ≡ suc n = omega arith in
          let d : drop (n + 1) (b ∷ s) ≡ drop n s = ap (λ (k : ℕ). drop k (b ∷ s)) z in
          subst (λ (x : List ℕ). TextOf left x steps v) (sym (parted line_end (b ∷ s) (ltb-true n (length (b ∷ s)) q)))
          (followed (behind (b ∷ s)) line left (λ l. form_from (line + 1) l n s) steps v (line_of_lem (take n (b ∷ s)))
          (λ l more k f. h l more k (ap (form_from (line + 1) l 0) d ∙ (sym (pass (line + 1) l n s) ∙ f)))
          (ap (λ m. follow (record_of (take n (b ∷ s))) line left m (λ l. form_from (line + 1) l n s)) (length-drop (n + 1) (b ∷ s)) ∙ e))

form-text : (left line : ℕ) (x : List ℕ) (steps : List Recorded) (v : ℕ) → form_from line left 0 x ≡ form steps v → TextOf left x steps v
form-text zero line x steps v e = lined line zero steps v x (λ l more k f. absurd (omega arith)) e
form-text (suc left) line x steps v e = lined line (suc left) steps v x (λ l more k f. let z : left ≡ l = omega arith in subst (λ i. TextOf i (behind line (suc left) steps v x) more v) z
    (form-text left (line + 1) (behind line (suc left) steps v x) more v (ap (λ i. form_from (line + 1) i 0 (behind line (suc left) steps v x)) z ∙ f))) e

-- ---- the claim by its number
pub claim_back : (c : claims.Claim) → claim_by (claimed c) ≡ c
claim_back assertion = refl
claim_back fault = refl
claim_back (standing finished) = refl
claim_back (standing blocked) = refl
claim_back (standing «open») = refl

pub verdict-claimed : {most : ℕ} {trail : List ℕ} {steps : List Recorded} {v : ℕ} → TextOf most trail steps v → claimed (claim_by v) ≡ v
verdict-claimed t = ap (λ i. claimed (claim_by i)) t.verdict ∙ (ap claimed (claim_back t.claim) ∙ sym t.verdict)

-- WELL FORMED: the text of its records
pub form_exact : (trail : List ℕ) (steps : List Recorded) (v : ℕ) → (form_of trail ≡ form steps v) ↔ TextOf steps_most trail steps v
form_exact trail steps v = (to (ltb trail_most (length trail)), from)
  where
    to : (b : Bool) → pick b (spoiled 2 0) (form_from 1 steps_most 0 trail) ≡ form steps v → TextOf steps_most trail steps v
    to true e = absurd (not-form e)
    to false e = form-text steps_most 1 trail steps v e

    from : TextOf steps_most trail steps v → form_of trail ≡ form steps v
    from t =
        ap form_of (t.text ∙ ap (trail_of steps) t.verdict) ∙ (trail_formed steps t.claim t.small t.few).1 ∙ ap (form steps) (sym t.verdict)
