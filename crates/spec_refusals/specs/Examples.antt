-- Document 01, row 10 of "What is answered", row 2 for trails, and "Trail lines": worked examples, each a small trail with the number and the line of its refusal.
-- "A missing `V` is 10 at the line after the last, a missing LF at its own line, anything after `V` on the next line."
use Rattle.std.specs.Prelude.{◌≡◌, refl, Bool, true, false, List, [], ◌∷◌, ◌++◌, ℕ, eqb, length, replicate}
use Rattle.std.proofs.Common.{sym, ap, ◌∙◌, arith}
use Rattle.std.proofs.lemmas.List.{length-replicate}
use Rattle.base_bytes.specs.Choice.{either}
use Rattle.base_bytes.proofs.Tests.{true_false}
use Rattle.base_kinds.specs.Kinds.{bytes}
use Rattle.spec_text.specs.Formats.{digits_by}
use Rattle.spec_machine.specs.Machine.{finished, blocked, «open»}
use Rattle.spec_trails.specs.Trails.{Recorded, line_end, step_line, claim_line, Small, none, one_more_lem}
use Rattle.spec_trails.specs.Replays.{Claim, assertion, fault, standing, claimed}
use Rattle.spec_refusals.specs.Trails.{lines, NoRecord, Strays, no_record, behind_claim, too_many, Misformed, too_long, strays}

-- `S`, process 0, its first step
abbrev first : Recorded
first = record { process = 0; choice = 1 }

small : Small (first ∷ [])
small = one_more_lem first [] (omega arith) (omega arith) none

-- ## no record stands where no line ends
unfoldable ends : List ℕ → Bool
ends [] = false
ends (b ∷ s) = either (eqb b line_end) (ends s)

ends_at : (s u : List ℕ) → ends (s ++ line_end ∷ u) ≡ true
unfolding ends
ends_at [] u = refl
ends_at (b ∷ s) u = rw (ends_at s u) (go (eqb b line_end))
  where
    go : (x : Bool) → either x true ≡ true
    go true = refl
    go false = refl

no_line : (r : List ℕ) → ends r ≡ false → NoRecord r
no_line r e = record {
  no_step = λ a u s p. true_false (sym (ap ends p ∙ ends_at (step_line a) u) ∙ e);
  no_claim = λ c u p. true_false (sym (ap ends p ∙ ends_at (claim_line (claimed c)) u) ∙ e);
}

-- nor where the first byte is neither `S` nor `V`
no_front : (b : ℕ) (s : List ℕ) → eqb b 83 ≡ false → eqb b 86 ≡ false → NoRecord (b ∷ s)
no_front b s p q = record { no_step = step; no_claim = claim }
  where
    step : (a : Recorded) (u : List ℕ) → Small (a ∷ []) → b ∷ s ≡ step_line a ++ line_end ∷ u → ⊥
    step a u h e = let f : b ≡ 83 = cc in true_false (rw f at p)

    claim : (c : Claim) (u : List ℕ) → b ∷ s ≡ claim_line (claimed c) ++ line_end ∷ u → ⊥
    claim c u e = let f : b ≡ 86 = cc in true_false (rw f at q)

-- ## "10, trail malformed"
-- the empty trail: the missing `V` is at line 1
empty_trail : Misformed [] 10 1
unfolding lines ends
empty_trail = strays (omega arith) (no_record [] [] refl none (omega arith) (no_line [] refl))

-- a step and no `V`, at the line after the last
missing_claim : Misformed (bytes "S\t0\t1\n") 10 2
unfolding lines ends digits_by
missing_claim = strays (omega arith) (no_record (first ∷ []) [] refl small (omega arith) (no_line [] refl))

-- a step, or the claim behind one, with no line end, at its own line
missing_line_end : (Misformed (bytes "S\t0\t1") 10 1) × (Misformed (bytes "S\t0\t1\nV\tassert") 10 2)
unfolding lines ends digits_by
missing_line_end = (
  strays (omega arith) (no_record [] (bytes "S\t0\t1") refl none (omega arith) (no_line (bytes "S\t0\t1") refl)),
  strays (omega arith) (no_record (first ∷ []) (bytes "V\tassert") refl small (omega arith) (no_line (bytes "V\tassert") refl)),
)

-- an empty line, a small letter
empty-line : Misformed (bytes "S\t0\t1\n\nV\tassert\n") 10 2
unfolding lines digits_by
empty-line = strays (omega arith) (no_record (first ∷ []) (bytes "\nV\tassert\n") refl small (omega arith) (no_front 10 (bytes "V\tassert\n") refl refl))

small_letter : Misformed (bytes "s\t0\t1\nV\tassert\n") 10 1
unfolding lines
small_letter = strays (omega arith) (no_record [] (bytes "s\t0\t1\nV\tassert\n") refl none (omega arith) (no_front 115 (bytes "\t0\t1\nV\tassert\n") refl refl))

-- another word than a verdict
other_word : Misformed (bytes "V\tdone\n") 10 1
unfolding lines
other_word = strays (omega arith) (no_record [] (bytes "V\tdone\n") refl none (omega arith) record { no_step = step; no_claim = claim })
  where
    step : (a : Recorded) (u : List ℕ) → Small (a ∷ []) → bytes "V\tdone\n" ≡ step_line a ++ line_end ∷ u → ⊥
    step a u h e = let f : ◌≡◌ {A = ℕ} 86 83 = cc in omega arith

    claim : (c : Claim) (u : List ℕ) → bytes "V\tdone\n" ≡ claim_line (claimed c) ++ line_end ∷ u → ⊥
    claim assertion u e = let f : ◌≡◌ {A = ℕ} 100 97 = cc in omega arith
    claim fault u e = let f : ◌≡◌ {A = ℕ} 100 102 = cc in omega arith
    claim (standing finished) u e = let f : ◌≡◌ {A = ℕ} 100 102 = cc in omega arith
    claim (standing blocked) u e = let f : ◌≡◌ {A = ℕ} 100 98 = cc in omega arith
    claim (standing «open») u e = let f : ◌≡◌ {A = ℕ} 100 111 = cc in omega arith

-- anything behind `V`, on the next line: a byte, an empty line, and a well-formed step
behind-verdict : (Misformed (bytes "V\tfinished\nx") 10 2) × (Misformed (bytes "S\t0\t1\nV\tassert\n\n") 10 3) × (Misformed (bytes "V\topen\nS\t0\t1\n") 10 2)
unfolding lines digits_by
behind-verdict = (
  strays (omega arith) (behind_claim [] (standing finished) (bytes "x") refl none (omega arith) (omega arith)),
  strays (omega arith) (behind_claim (first ∷ []) assertion (bytes "\n") refl small (omega arith) (omega arith)),
  strays (omega arith) (behind_claim [] (standing «open») (bytes "S\t0\t1\n") refl none (omega arith) (omega arith)),
)

-- ## "2 at the first well-formed step record past 2,048", here past 1, and "0 for the length of .. trail"
second-step : Strays 1 1 (bytes "S\t0\t1\nS\t0\t1\nV\topen\n") 2 2
unfolding lines digits_by
second-step = too_many (first ∷ []) first (bytes "V\topen\n") refl small refl small

-- one that is not well formed is 10 there
second_malformed : Strays 1 1 (bytes "S\t0\t1\nS\t0\t1") 10 2
unfolding lines ends digits_by
second_malformed = no_record (first ∷ []) (bytes "S\t0\t1") refl small (omega arith) (no_line (bytes "S\t0\t1") refl)

trail_32769 : Misformed (replicate 32769 83) 2 0
trail_32769 = too_long (omega (arith, length-replicate {A = ℕ} 32769 83))
