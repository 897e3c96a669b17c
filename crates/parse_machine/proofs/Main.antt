-- WHAT THE ANSWERS MEAN, for any list of at most 2,048 tokens and arrays with room: items exactly for the texts of the grammar that are not too deep, and then they are
-- the code of the text's one tree; refusal 3 exactly at the first token that can continue no text; refusal 2 exactly at the first token too deep. Assumes nothing.
use Prim.Native.Nat.{ℕ, ◌≤◌}
use native.Mathlib.Omega.{arith}
use mathlib.Core.Path.{◌≡◌, refl, sym as inv, ap, ◌∙◌}
use mathlib.Core.Option.{none}
use mathlib.Core.List.{List, map}
use mathlib.Core.Bool.{Bool, true, false, cond}
use lib.ListN.{length}
use lib.Dec.{eqb}
use Rattle.base_kinds.specs.Kinds.{Token, kind_of}
use Rattle.spec_grammar.specs.Tree.{Model}
use Rattle.spec_grammar.specs.Grammar.{Gram}
use Rattle.base_codes.specs.Items.{Item}
use Rattle.parse_code.specs.Code.{code}
use Rattle.spec_grammar.specs.Depth.{too_deep}
use Rattle.parse_grammar.specs.Judge.{accepted, refused_2, refused_3, judge}
use Rattle.spec_grammar.specs.Refusals.{Two, Three}
use Rattle.parse_grammar.proofs.Judged.{judge-sound, judge_complete, judge-two, judge-three}
use Rattle.parse_machine.specs.Answer.{Answer, items, refuse, parsed}
use Rattle.parse_machine.specs.Items.{read, AllProper, meant}
use Rattle.parse_machine.proofs.Judge.{same_judgement}
use Rattle.base_ceilings.specs.Ceilings.{items_most, tokens_most}

module _ (ts : List Token) (proper : AllProper ts) (short : length ts ≤ tokens_most) (room : ℕ) (enough : items_most ≤ room) where
  judged_as : (a : Answer) → parsed (map kind_of ts) room ≡ a → judge ts ≡ meant ts a
  judged_as a e = inv (same_judgement ts proper short room enough) ∙ ap (meant ts) e

  pub items-mean : (o : List ℕ) → parsed (map kind_of ts) room ≡ items o → (m : Model) × Gram ts m × (map (read ts) o ≡ code m) × (too_deep ts ≡ none)
  items-mean o e = judge-sound ts (map (read ts) o) (judged_as (items o) e)

  pub two-means : (i : ℕ) → parsed (map kind_of ts) room ≡ refuse 2 i → Two ts i
  two-means i e = judge-two ts i (judged_as (refuse 2 i) e)

  pub three-means : (i : ℕ) → parsed (map kind_of ts) room ≡ refuse 3 i → Three ts i
  three-means i e = judge-three ts i (judged_as (refuse 3 i) e)

  not_accepted : (b : Bool) (i : ℕ) (c : List Item) → cond b (refused_2 i) (refused_3 i) ≡ accepted c → ◌≡◌ {A = ℕ} 0 1
  not_accepted true i c e = cc
  not_accepted false i c e = cc

  -- a text of the grammar that is not too deep is accepted, with the code of its tree
  pub accepts : (m : Model) → Gram ts m → too_deep ts ≡ none → (o : List ℕ) × (parsed (map kind_of ts) room ≡ items o) × (map (read ts) o ≡ code m)
  accepts m x d = go (parsed (map kind_of ts) room) refl (same_judgement ts proper short room enough ∙ judge_complete ts m x d)
    where
      go : (a : Answer) → parsed (map kind_of ts) room ≡ a → meant ts a ≡ accepted (code m) → (o : List ℕ) × (parsed (map kind_of ts) room ≡ items o) × (map (read ts) o ≡ code m)
      go (items o) e h = (o, e, cc)
      go (refuse k i) e h = absurd (omega (arith, not_accepted (eqb k 2) i (code m) h))
