-- NO TEXT OF A TREE IS SHORTER THAN ITS NORMAL TEXT, spaces included; its printed tokens are ones that a text can hold, no more than the text's and no deeper. Assumes nothing.
use Prim.Native.Nat.{ℕ, ◌≤◌}
use native.Mathlib.Omega.{arith}
use mathlib.Core.Path.{◌≡◌, refl, ap}
use mathlib.Core.Option.{none}
use mathlib.Core.List.{List, [], ◌∷◌, append-nil}
use lib.ListN.{length, length-map}
use Rattle.base_ceilings.specs.Ceilings.{tokens_most}
use Rattle.base_kinds.specs.Kinds.{Token, text}
use Rattle.text_tokens.specs.Reading.{tokens, reading}
use Rattle.spec_text.specs.Placed.{Placed}
use Rattle.spec_text.specs.Writing.{token_in, tokens_in, write_behind, write}
use Rattle.text_spacing_proof.specs.Sound.{AllSound}
use Rattle.text_spacing_proof.proofs.Exact.{reading_exact}
use Rattle.text_spacing_proof.proofs.Written.{tokens-sound, written_shortest}
use Rattle.spec_grammar.specs.Tree.{Model}
use Rattle.spec_grammar.specs.Grammar.{Gram}
use Rattle.spec_grammar.specs.Print.{print_model}
use Rattle.spec_grammar.proofs.Lightest.{shortest}
use Rattle.spec_grammar.specs.Depth.{too_deep}
use Rattle.spec_normal.specs.Normal.{normal}
use Rattle.write_shortest_proof.specs.Lighter.{Lighter}
use Rattle.write_shortest_proof.proofs.Lightened.{model_lighter}

-- behind a string nothing joins
write-behind : (ts : List Token) → write ts ≡ write_behind (text []) ts
unfolding write_behind
write-behind [] = refl
write-behind (a ∷ ts) = refl

lighter_shorter : (us ts : List Token) → Lighter us ts → length (write us) ≤ length (write ts)
lighter_shorter us ts p =
    let q = p.short [] [] (λ a. omega arith) (text []) in
    omega (arith, rw (append-nil us, append-nil ts) at q, ap length (write-behind us), ap length (write-behind ts))

module _ (t : List ℕ) (ps : List Placed) (m : Model) (e : reading t ≡ tokens ps) (g : Gram (tokens_in t ps) m) where
  pub normal_shortest : length (normal m) ≤ length t
  normal_shortest = omega (arith, lighter_shorter (print_model m) (tokens_in t ps) (model_lighter g), written_shortest t ps e)

  pub printed-sound : AllSound (print_model m)
  printed-sound = (model_lighter g).sound (tokens-sound t ps e)

  pub printed_few : length (print_model m) ≤ tokens_most
  printed_few = omega (arith, shortest (tokens_in t ps) m g, length-map ps (token_in t), ((reading_exact t ps).0 e).2)

  pub printed_shallow : too_deep (tokens_in t ps) ≡ none → too_deep (print_model m) ≡ none
  printed_shallow d = (model_lighter g).flat 0 0 0 (omega arith) d
