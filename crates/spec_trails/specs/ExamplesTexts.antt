-- Document 01, "Trail lines": worked examples of well-formed trails (`TextOf`), on both sides: "Whole trail for `init{assert(0)}`: `S<tab>0<tab>1<LF>V<tab>assert<LF>`".
use Rattle.std.specs.Prelude.{ℕ, ◌≡◌, refl, List, [], ◌∷◌}
use Rattle.std.proofs.Common.{arith}
use Rattle.base_kinds.specs.Kinds.{bytes}
use Rattle.spec_text.specs.Formats.{digits_by}
use Rattle.spec_machine.specs.Machine.{finished}
use Rattle.spec_trails.specs.Trails.{Recorded, trail_of, Small, none, one_more_lem}
use Rattle.spec_trails.specs.Replays.{assertion, standing}
use Rattle.spec_trails.specs.Texts.{TextOf}

abbrev step : ℕ → ℕ → Recorded
step p k = record { process = p; choice = k }

-- one step and its claim, where one may come; a number of five digits; a claim alone
one-step : TextOf 1 (bytes "S\t0\t1\nV\tassert\n") (step 0 1 ∷ []) 1
unfolding trail_of digits_by
one-step = record { claim = assertion; verdict = refl; text = refl; small = one_more_lem (step 0 1) [] (omega arith) (omega arith) none; few = omega arith }

five_digits : TextOf 1 (bytes "S\t99999\t0\nV\tfinished\n") (step 99999 0 ∷ []) 3
unfolding trail_of digits_by
five_digits = record { claim = standing finished; verdict = refl; text = refl; small = one_more_lem (step 99999 0) [] (omega arith) (omega arith) none; few = omega arith }

claim_alone : TextOf 0 (bytes "V\tfinished\n") [] 3
unfolding trail_of
claim_alone = record { claim = standing finished; verdict = refl; text = refl; small = none; few = omega arith }

-- a step too many, a number of six digits
one_too_many : {t : List ℕ} {v : ℕ} → TextOf 0 t (step 0 1 ∷ []) v → ⊥
one_too_many x = omega (arith, x.few)

six_digits : {t : List ℕ} {v : ℕ} → TextOf 9 t (step 100000 1 ∷ []) v → ⊥
six_digits x = go x.small
  where
    go : Small (step 100000 1 ∷ []) → ⊥
    go (one_more_lem a more h k s) = omega arith

-- the empty trail, one that lacks its last LF, one with another word, one with a leading zero: the text of no such records
empty_trail : {v : ℕ} → TextOf 9 [] [] v → ⊥
unfolding trail_of
empty_trail x = let e = x.text in let z : ◌≡◌ {A = ℕ} 0 1 = cc in omega arith

no_line_end : TextOf 9 (bytes "V\tfinished") [] 3 → ⊥
unfolding trail_of
no_line_end x = let e = x.text in let z : ◌≡◌ {A = ℕ} 0 1 = cc in omega arith

other_word : TextOf 9 (bytes "V\tblocked\n") [] 3 → ⊥
unfolding trail_of
other_word x = let e = x.text in let z : ◌≡◌ {A = ℕ} 98 102 = cc in omega arith

leading_zero : TextOf 9 (bytes "S\t00\t1\nV\tassert\n") (step 0 1 ∷ []) 1 → ⊥
unfolding trail_of digits_by
leading_zero x = let e = x.text in let z : ◌≡◌ {A = ℕ} 48 9 = cc in omega arith
