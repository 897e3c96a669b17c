-- THE READER REFUSES EXACTLY AS THE TABLE SAYS (Q4): number, place and length, said of texts and derivations alone.
use Prim.Native.Nat.{ℕ}
use mathlib.Core.Path.{◌≡◌, refl, sym, ◌∙◌}
use mathlib.Core.Bool.{Bool, true, false, not}
use mathlib.Core.Logic.{◌↔◌, ◌⊎◌, inl, inr}
use mathlib.Core.List.{List, [], map}
use lib.ListN.{length}
use lib.Dec.{ltb}
use borrow.Author.Tests.{lt-ltb, ltb-true}
use Rattle.base_ceilings.specs.Ceilings.{normal_most}
use Rattle.base_bytes.proofs.Tests.{true_false, either_true, left-holds, right-holds}
use Rattle.spec_text.specs.Writing.{tokens_in}
use Rattle.spec_normal.specs.Normal.{normal}
use Rattle.spec_faults.specs.Faults.{faults_of}
use Rattle.spec_rules.specs.Ceilings as ceilings
use Rattle.spec_refusals.specs.Rows as rows
use Rattle.text_spoils_proof.proofs.Exact.{reading_spoils}
use Rattle.parse_machine.specs.Machine.{place_of}
use Rattle.read_accepts_proof.specs.Meaning.{Grammatical, codes_of, said}
use Rattle.read_accepts_proof.proofs.Alike.{overlong_is}
use Rattle.rule_ceilings.specs.Ceilings.{passed}
use Rattle.std.specs.Prelude.{Err}
use Rattle.base_refusal.specs.Refusals.{refusal}
use Rattle.read_entry.specs.Entries.{read_of}
use Rattle.read_refusals_proof.specs.Rows.{wide_at, Row, short, bytes, deep, stop, fault, ceiling}
use Rattle.read_refusals_proof.proofs.Main.{answer-row, row-answer}
use Rattle.legal_items.proofs.Says.{text_says}
use Rattle.legal_items.proofs.Modest.{passed-modest}
use Rattle.legal_items.proofs.Whole.{laid-tokens, tokens-read, text_parses}
use Rattle.legal_texts.proofs.Main.{rules, least-fault}

denied : (b : Bool) → not b ≡ true → b ≡ false
denied true e = absurd (true_false (sym e))
denied false e = refl

module _ (t old : List ℕ) where
  length_is : (g : Grammatical t) → wide_at t ≡ ltb normal_most (length (normal g.tree))
  length_is g = overlong_is t g.parts g.tree g.reads g.gram g.numbers g.written g.coded

  row_refused : (x i n : ℕ) → Row t old x i n → rows.Refused t (length old) x i n
  row_refused x i n (short h a b c) = rw (a, b, c) (rows.too_small h)
  row_refused x i n (bytes h e) = rows.text h (rows.bytes ((reading_spoils t x i n).0 e))
  row_refused x i n (deep ps k h e w a b c) = rw (a, b, c) (rows.text h (rows.deep (laid-tokens t ps e) w))
  row_refused x i n (stop ps k h e w a b c) = rw (a, b, c) (rows.text h (rows.stop (laid-tokens t ps e) w))
  row_refused x i n (fault g k h f b c) = rw (b, c) (rows.text h (rows.fault (laid-tokens t g.parts g.reads) g.gram g.shallow ((least-fault t g x k).0 f)))
  row_refused x i n (ceiling g h f p a b c) = rw (a, b, c) (rows.text h (by (either_true (passed (codes_of t g) (said t g)) _ p)))
    where
      faultless : faults_of g.gram ≡ []
      faultless = (rules g.tree (tokens_in t g.parts) g.gram (codes_of t g) (said t g) (map place_of g.numbers) (text_says t g)).0 f

      by : (passed (codes_of t g) (said t g) ≡ true) ⊎ (wide_at t ≡ true) → rows.Refusal t 6 0 0
      by (inl q) =
          rows.ceiling (laid-tokens t g.parts g.reads) g.gram g.shallow faultless
          (denied (ceilings.modest g.tree) (sym (passed-modest g.tree (codes_of t g) (said t g) (text_says t g)) ∙ q))
      by (inr q) = rows.overlong (laid-tokens t g.parts g.reads) g.gram g.shallow faultless (ltb-true normal_most (length (normal g.tree)) (sym (length_is g) ∙ q))

  refused_row : (x i n : ℕ) → rows.Refused t (length old) x i n → Row t old x i n
  unfolding text_parses
  refused_row _ _ _ (rows.too_small h) = short h refl refl refl
  refused_row x i n (rows.text h (rows.bytes s)) = bytes h ((reading_spoils t x i n).1 s)
  refused_row _ _ _ (rows.text h (rows.deep {ps = ps} {k = k} l w)) = deep ps k h (tokens-read t ps l) w refl refl refl
  refused_row _ _ _ (rows.text h (rows.stop {ps = ps} {k = k} l w)) = stop ps k h (tokens-read t ps l) w refl refl refl
  refused_row _ _ _ (rows.text h (rows.fault {ps = ps} {m = m} {x = x} {k = k} l g d s)) =
      let p = text_parses t ps m l g d in fault p k h ((least-fault t p x k).1 s) refl refl
  refused_row _ _ _ (rows.text h (rows.ceiling {ps = ps} {m = m} l g d w o)) =
      let p = text_parses t ps m l g d in
      ceiling p h ((rules m (tokens_in t ps) g (codes_of t p) (said t p) (map place_of p.numbers) (text_says t p)).1 w)
      (left-holds (passed (codes_of t p) (said t p)) _ (passed-modest m (codes_of t p) (said t p) (text_says t p) ∙ rw o refl)) refl refl refl
  refused_row _ _ _ (rows.text h (rows.overlong {ps = ps} {m = m} l g d w o)) =
      let p = text_parses t ps m l g d in
      ceiling p h ((rules m (tokens_in t ps) g (codes_of t p) (said t p) (map place_of p.numbers) (text_says t p)).1 w)
      (right-holds (passed (codes_of t p) (said t p)) _ (length_is p ∙ lt-ltb normal_most (length (normal m)) o)) refl refl refl

  pub refused_exact : (x i n : ℕ) → (read_of t old ≡ Err (refusal x i n)) ↔ rows.Refused t (length old) x i n
  refused_exact x i n = (λ e. row_refused x i n (answer-row t old x i n e), λ r. row-answer t old x i n (refused_row x i n r))
