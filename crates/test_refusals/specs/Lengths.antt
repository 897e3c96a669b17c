-- Tests: worked examples and stored cases.
-- Request One, both sides of its two ceilings: "texts up to 65,536 bytes", and "one whose normal text exceeds 8,192 is refused with 6". The texts themselves are read in `test_layout`.
use Rattle.std.specs.Prelude.{ℕ, zero, suc, ◌≡◌, refl, List, [], ◌∷◌, length, replicate}
use Rattle.std.proofs.Common.{arith}
use Rattle.std.proofs.lemmas.List.{length-replicate}
use Rattle.base_bytes.specs.Lists.{same}
use Rattle.spec_text.specs.Find.{find}
use Rattle.spec_text.specs.Layout.{Gap, none, blank, ends}
use Rattle.spec_text.specs.Spoils.{Spoils, too_long}
use Rattle.spec_text.specs.Writing.{write_behind}
use Rattle.spec_grammar.specs.Tree.{sequence, Tree, leaf, print, bare, end, then, body, init, Model}
use Rattle.spec_normal.specs.Normal.{normal}
use Rattle.spec_refusals.specs.Texts.{Tokens}

blanks : (n : ℕ) → Gap (replicate n 32)
blanks zero = none
blanks (suc n) = blank refl (blanks n)

-- 65,536 blanks are laid out in no tokens; with one more the text is too long
text_65536 : Tokens (replicate 65536 32) []
text_65536 = record { laid = ends (blanks 65536); short = omega (arith, length-replicate {A = ℕ} 65536 32); few = omega arith }

text_65537 : Spoils (replicate 65537 32) 2 0 0
text_65537 = too_long (omega (arith, length-replicate {A = ℕ} 65537 32))

-- `printf` of 64 letters n times, and then of k
prints : ℕ → ℕ → Tree sequence
prints zero k = then (bare (leaf (print (replicate k 97) []))) end
prints (suc n) k = then (bare (leaf (print (replicate 64 97) []))) (prints n k)

abbrev printing : ℕ → ℕ → Model
printing n k = init (body [] (prints n k)) ∷ []

-- 5 bytes for `init{`, 75 for each of the first and its `;`, 10 and k for the last, 1 for `}`
normal_8192 : length (normal (printing 109 1)) ≡ 8192
unfolding prints write_behind find same
normal_8192 = refl

normal_8193 : length (normal (printing 109 2)) ≡ 8193
unfolding prints write_behind find same
normal_8193 = refl
