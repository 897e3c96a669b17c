-- How each array begins to be filled, and that it stays as it is where there is too much.
use Prim.Native.Nat.{ℕ, ◌+◌, ◌-◌, ◌≤◌, ◌<◌}
use mathlib.Core.Path.{◌≡◌, refl, ◌∙◌}
use mathlib.Core.List.{List}
use native.Mathlib.Numerals.{add-one}
use lib.ListN.{length, get_or}
use borrow.Author.Tests.{lt-ltb, le-ltb}
use Rattle.base_ceilings.specs.Ceilings.{items_most, text_most}
use Rattle.rule_sheets.specs.Walks.{filled}
use Rattle.rule_sheets.specs.Payload.{arg_of, args_of}
use Rattle.rule_sheets.specs.Homes.{inside, inside_of, home_of, homes_of}
use Rattle.rule_sheets.specs.Spans.{start_of, height_of, starts_of, heights_of}
use Rattle.rule_sheets.proofs.Walks.{filled-start}
use Rattle.base_codes.specs.Sets.{is_unit}

module _ (t ss es cs ks l : List ℕ) where
  pub args-text : text_most < length t → l ≡ args_of t ss es cs ks l
  unfolding args_of
  args-text h = simp (lt-ltb text_most (length t) h)

  pub args-items : length t ≤ text_most → items_most < length cs → l ≡ args_of t ss es cs ks l
  unfolding args_of
  args-items h k = simp (le-ltb text_most (length t) h, lt-ltb items_most (length cs) k)

  pub args-start : length t ≤ text_most → length cs ≤ items_most → filled (λ m j. arg_of t ss es cs ks j) 0 (length cs - 0) l ≡ args_of t ss es cs ks l
  unfolding args_of
  args-start h k = filled-start (λ m j. arg_of t ss es cs ks j) (length cs) l ∙ simp (le-ltb text_most (length t) h, le-ltb items_most (length cs) k)

module _ (cs l : List ℕ) where
  pub homes_long : items_most < length cs → l ≡ homes_of cs l
  unfolding homes_of
  homes_long h = simp (lt-ltb items_most (length cs) h)

  pub homes-start : length cs ≤ items_most → filled (λ m j. home_of cs j) 0 (length cs - 0) l ≡ homes_of cs l
  unfolding homes_of
  homes-start h = filled-start (λ m j. home_of cs j) (length cs) l ∙ simp (le-ltb items_most (length cs) h)

  pub starts_long : items_most < length cs → l ≡ starts_of cs l
  unfolding starts_of
  starts_long h = simp (lt-ltb items_most (length cs) h)

  pub starts-start : length cs ≤ items_most → filled (start_of cs) 0 (length cs - 0) l ≡ starts_of cs l
  unfolding starts_of
  starts-start h = filled-start (start_of cs) (length cs) l ∙ simp (le-ltb items_most (length cs) h)

module _ (cs ss l : List ℕ) where
  pub heights_long : items_most < length cs → l ≡ heights_of cs ss l
  unfolding heights_of
  heights_long h = simp (lt-ltb items_most (length cs) h)

  pub heights-start : length cs ≤ items_most → filled (height_of cs ss) 0 (length cs - 0) l ≡ heights_of cs ss l
  unfolding heights_of
  heights-start h = filled-start (height_of cs ss) (length cs) l ∙ simp (le-ltb items_most (length cs) h)

-- one item further
pub inside-more : (cs : List ℕ) (j h : ℕ) {r : ℕ} → h ≡ inside_of cs j → r ≡ inside (get_or cs j 0) j h → r ≡ inside_of cs (j + 1)
unfolding inside_of
inside-more cs j h e er = rw (add-one, ← e) er

pub inside-start : (cs : List ℕ) → 0 ≡ inside_of cs 0
unfolding inside_of
inside-start cs = refl

pub home_is : (cs : List ℕ) (j h : ℕ) {b : mathlib.Core.Bool.Bool} {v : ℕ} → h ≡ inside_of cs j → b ≡ is_unit (get_or cs j 0) → v ≡ Rattle.base_bytes.specs.Choice.pick b 0 h → v ≡ home_of cs j
unfolding home_of
home_is cs j h e eb ev = rw (ev, eb, e)
