-- The laws that the pass over a whole trail cites: what has been read so far, and one line more.
use mathlib.Core.Path.{◌≡◌, refl, sym, ap, ap₂, ◌∙◌}
use mathlib.Core.List.{List, [], ◌∷◌, ◌++◌}
use Prim.Native.Nat.{ℕ, zero, suc, ◌+◌, ◌-◌, ◌≤◌, ◌<◌}
use native.Mathlib.Omega.{arith}
use borrow.Author.Tests.{lt-ltb, le-ltb, ne_eqb}
use lib.Dec.{ltb}
use lib.ListN.{length, get_or, take, drop, length-append, length-drop, drop_of_length-le}
use lib.Seq.{drop-cons, drop-drop}
use Rattle.base_ceilings.specs.Ceilings.{steps_most, trail_most}
use Rattle.base_bytes.specs.Choice.{pick}
use Rattle.text_pieces.proofs.Laws.{span_le, tail-part}
use Rattle.trail_form.specs.Records.{is_not, record_of}
use Rattle.spec_trails.specs.Trails.{line_end, Recorded}
use Rattle.trail_form.specs.Forms.{Form, form, spoiled, before, line_of, follow, form_from, form_of, answer_of}
use Rattle.trail_form.specs.declared.Record.{Record}
use Rattle.trail_form.specs.declared.Record.TheVariants.{Step, Claim, Malformed}
use Rattle.trail_form.specs.declared.Formed.TheVariants.{Well, Spoiled}

-- the bytes of a line are passed one by one, or all at once
pub pass : (line left k : ℕ) (s : List ℕ) → form_from line left k s ≡ form_from line left 0 (drop k s)
unfolding form_from
pass line left zero s = refl
pass line left (suc k) [] = refl
pass line left (suc k) (b ∷ s) = pass line left k s

-- several steps before a form
abbrev pub befores : List Recorded → Form → Form
befores [] x = x
befores (a ∷ rest) x = before a (befores rest x)

befores_snoc : (done : List Recorded) (a : Recorded) (x : Form) → befores (done ++ (a ∷ [])) x ≡ befores done (before a x)
befores_snoc [] a x = refl
befores_snoc (b ∷ done) a x = ap (before b) (befores_snoc done a x)

befores_spoiled : (done : List Recorded) (x l : ℕ) → befores done (spoiled x l) ≡ spoiled x l
befores_spoiled [] x l = refl
befores_spoiled (b ∷ done) x l = ap (before b) (befores_spoiled done x l)

befores_end : (done : List Recorded) (v : ℕ) → befores done (form [] v) ≡ form done v
befores_end [] v = refl
befores_end (b ∷ done) v = ap (before b) (befores_end done v)

-- what is known at the head of the loop: at a place, on a line, with so many steps read
pub record SoFar (t : List ℕ) (at line n : ℕ) : Type 0 where
  pub steps : List Recorded
  pub whole : form_from 1 steps_most 0 t ≡ befores steps (form_from line (steps_most - n) 0 (drop at t))
  pub count : length steps ≡ n
  pub most : n ≤ steps_most
  pub place : at ≤ length t
  pub lines : line ≡ n + 1

pub at_start : (t : List ℕ) → SoFar t 0 1 0
at_start t = record { steps = []; whole = refl; count = refl; most = omega arith; place = omega arith; lines = refl }

module _ {t : List ℕ} {at line n : ℕ} (z : SoFar t at line n) where
  pub spoiled_at : (x l : ℕ) → form_from line (steps_most - n) 0 (drop at t) ≡ spoiled x l → Spoiled x l ≡ answer_of (form_from 1 steps_most 0 t)
  spoiled_at x l e = sym (ap answer_of (z.whole ∙ (ap (befores z.steps) e ∙ befores_spoiled z.steps x l)))

  pub no_line : length t ≤ at → Spoiled 10 line ≡ answer_of (form_from 1 steps_most 0 t)
  unfolding form_from
  no_line h = spoiled_at 10 line (rw (drop_of_length-le t h))

  module _ (h : at < length t) (m : ℕ) (em : m ≡ line_of (drop at t)) where
    here : drop at t ≡ get_or t at 0 ∷ drop (suc at) t
    here = drop-cons t at 0 h

    left_over : length (drop at t) ≡ length t - at
    left_over = length-drop at t

    pub within : at + m ≤ length t
    within = omega (arith, span_le (is_not line_end) (drop at t), left_over)

    whole-line : form_from line (steps_most - n) 0 (drop at t) ≡
        pick (ltb m (length t - at)) (follow (record_of (take m (drop at t))) line (steps_most - n) (length t - at - (m + 1)) (λ l. form_from (line + 1) l m (drop (suc at) t))) (spoiled 10 line)
    unfolding form_from
    whole-line = rw (em, ← left_over) (rw here)

    pub unended : at + m ≡ length t → Spoiled 10 line ≡ answer_of (form_from 1 steps_most 0 t)
    unended e = spoiled_at 10 line (whole-line ∙ rw (le-ltb m (length t - at) (omega arith)))

    module _ (d : at + m ≡ length t → ⊥) (r : Record) (er : r ≡ record_of (take m (drop at t))) where
      lined : form_from line (steps_most - n) 0 (drop at t) ≡ follow r line (steps_most - n) (length t - at - (m + 1)) (λ l. form_from (line + 1) l m (drop (suc at) t))
      lined = whole-line ∙ rw (lt-ltb m (length t - at) (omega (arith, within)), ← er)

      pub malformed : r ≡ Malformed → Spoiled 10 line ≡ answer_of (form_from 1 steps_most 0 t)
      malformed e = spoiled_at 10 line (lined ∙ rw e)

      pub claimed : (v : ℕ) → r ≡ Claim v → at + m + 1 ≡ length t → Well n v ≡ answer_of (form_from 1 steps_most 0 t)
      claimed v e q =
          let f : length t - at - (m + 1) ≡ 0 = omega arith in
          sym (ap answer_of (z.whole ∙ (ap (befores z.steps) (lined ∙ rw (e, f)) ∙ befores_end z.steps v)) ∙ ap (λ (k : ℕ). Well k v) z.count)

      pub more-behind : (v : ℕ) → r ≡ Claim v → (at + m + 1 ≡ length t → ⊥) → Spoiled 10 (line + 1) ≡ answer_of (form_from 1 steps_most 0 t)
      more-behind v e q = spoiled_at 10 (line + 1) (lined ∙ rw (e, ne_eqb (length t - at - (m + 1)) 0 (λ f. q (omega (arith, within)))))

      pub too_many : (p k : ℕ) → r ≡ Step p k → n ≡ steps_most → Spoiled 2 line ≡ answer_of (form_from 1 steps_most 0 t)
      too_many p k e q =
          let f : steps_most - n ≡ 0 = omega arith in
          spoiled_at 2 line (lined ∙ rw (e, f))

      pub one_more_lem : (p k : ℕ) → r ≡ Step p k → (n ≡ steps_most → ⊥) → SoFar t (at + m + 1) (line + 1) (n + 1)
      one_more_lem p k e q =
          let f : steps_most - n ≡ suc (steps_most - (n + 1)) = omega (arith, z.most) in
          let a : Recorded = record { process = p; choice = k } in
          let i : suc at + m ≡ at + m + 1 = omega arith in
          let s : drop m (drop (suc at) t) ≡ drop (at + m + 1) t = drop-drop m (suc at) t ∙ ap (λ (j : ℕ). drop j t) i in
          let g : form_from line (steps_most - n) 0 (drop at t) ≡ before a (form_from (line + 1) (steps_most - (n + 1)) 0 (drop (at + m + 1) t)) =
          lined ∙ rw (e, f) (ap (before a) (pass (line + 1) (steps_most - (n + 1)) m (drop (suc at) t) ∙ ap (form_from (line + 1) (steps_most - (n + 1)) 0) s)) in
          record {
            steps = z.steps ++ (a ∷ []);
            whole = z.whole ∙ (ap (befores z.steps) g ∙ sym (befores_snoc z.steps a (form_from (line + 1) (steps_most - (n + 1)) 0 (drop (at + m + 1) t))));
            count = length-append z.steps (a ∷ []) ∙ ap (◌+ 1) z.count;
            most = omega (arith, z.most);
            place = omega (arith, within);
            lines = ap (◌+ 1) z.lines;
          }

-- a text within its ceiling
pub in_room : (t : List ℕ) → length t ≤ trail_most → answer_of (form_from 1 steps_most 0 t) ≡ answer_of (form_of t)
in_room t h = rw (le-ltb trail_most (length t) h)

pub no_room : (t : List ℕ) → trail_most < length t → Spoiled 2 0 ≡ answer_of (form_of t)
no_room t h = rw (lt-ltb trail_most (length t) h)

-- the length and the record of a line that a call gave
module _ (t : List ℕ) (at m : ℕ) (e : m ≡ line_of (take (length t - at) (drop at t))) where
  pub line_is : m ≡ line_of (drop at t)
  line_is = rw (tail-part at t) at e

  pub record_is : {r : Record} → r ≡ record_of (take (line_of (take (length t - at) (drop at t))) (take (length t - at) (drop at t))) → r ≡ record_of (take m (drop at t))
  record_is f = f ∙ ap₂ (λ (n : ℕ) (x : List ℕ). record_of (take n x)) (sym e) (tail-part at t)
