-- What a tree offers depends on the tests of its own statements alone.
use Prim.Native.Nat.{ℕ, ◌+◌}
use mathlib.Core.Path.{◌≡◌, ap}
use mathlib.Core.Bool.{Bool}
use mathlib.Core.List.{List, [], ◌∷◌, ◌++◌}
use Rattle.base_bytes.specs.Choice.{pick}
use Rattle.spec_grammar.specs.Tree.{Sort, action, Tree, leaf, select, loop, bare, labelled, end, then, over, option}
use Rattle.base_bytes.specs.Lists.{or_else}
use Rattle.spec_machine.specs.Sizes.{size_in}
use Rattle.spec_machine.specs.Program.{enter, Within, itself, in_if, in_do, unlabelled, behind_label, in_first, in_option, in_others}
use Rattle.spec_machine.specs.Offers.{else_of, offers}

module _ (f g : Tree action → ℕ → Bool) where
  -- two tests that agree on the statements of a tree
  abbrev pub Agree : {k : Sort} → Tree k → ℕ → ℕ → ℕ → Type 0
  Agree {k} b i n o = (a : Tree action) (j m u : ℕ) → Within k b i n o a j m u → f a j ≡ g a j

  one : (a : Tree action) (i n o : ℕ) → Agree a i n o → pick (f a i) (i ∷ []) [] ≡ pick (g a i) (i ∷ []) []
  one a i n o h = ap (λ b. pick b (i ∷ []) []) (h a i n o itself)

  pub offers-same : {k : Sort} (b : Tree k) (i n o : ℕ) → Agree b i n o → offers f b i ≡ offers g b i
  unfolding offers
  offers-same (leaf l) i n o h = one (leaf l) i n o h
  offers-same (select os) i n o h = ap (λ (x : List ℕ). or_else x (else_of os (i + 1))) (offers-same os (i + 1) n o (λ a j m u w. h a j m u (in_if w)))
  offers-same (loop os) i n o h = ap (λ (x : List ℕ). or_else x (else_of os (i + 1))) (offers-same os (i + 1) i n (λ a j m u w. h a j m u (in_do w)))
  offers-same (bare b) i n o h = offers-same b i n o (λ a j m u w. h a j m u (unlabelled w))
  offers-same (labelled v b) i n o h = offers-same b (i + 2) n o (λ a j m u w. h a j m u (behind_label w))
  offers-same end i n o h = λ t. []
  offers-same (then s q) i n o h = offers-same s i (enter q (i + size_in s) n) o (λ a j m u w. h a j m u (in_first w))
  offers-same over i n o h = λ t. []
  offers-same (option q os) i n o h = λ t.
      offers-same q (i + 1) n o (λ a j m u w. h a j m u (in_option w)) t ++ offers-same os (i + 2 + size_in q) n o (λ a j m u w. h a j m u (in_others w)) t
