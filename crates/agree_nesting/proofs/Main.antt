-- The link of an item that opens a selection or an option leads to the item that closes it (`linked_to`).
use Prim.Native.Nat.{ℕ, zero, ◌+◌, ◌≤◌, ◌<◌, min}
use native.Mathlib.Omega.{arith}
use mathlib.Core.Path.{◌≡◌, refl, sym as inv, ap, ◌∙◌, subst}
use mathlib.Core.List.{List, [], map, append-nil}
use lib.ListN.{length, get_or, replicate, length-replicate}
use borrow.Author.Tests.{le-ltb}
use Rattle.base_ceilings.specs.Ceilings.{items_most}
use Rattle.rule_sheets.specs.Homes.{homes_of}
use Rattle.rule_sheets.specs.Spans.{starts_of}
use Rattle.link_places.specs.Places.{close_of_lem}
use Rattle.link_items.specs.Links.{link_by, link_at, links_of}
use Rattle.link_phrases_proof.specs.Phrases.{At}
use Rattle.link_phrases_proof.proofs.Inside.{stands}
use Rattle.table_layout.specs.Access.{code_of, link_of}
use Rattle.read_accepts_proof.specs.Meaning.{Accepts}
use Rattle.agree_eval.specs.Names.{codes_at}
use Rattle.agree_eval.proofs.Codes.{codes_few, codes_are}
use Rattle.agree_eval.proofs.Items.{T, link_held}
use Rattle.agree_eval.proofs.Main.{items_long}
use Rattle.agree_eval.proofs.Starts.{back_at}
use Rattle.agree_nesting.proofs.Matches.{Opener, is_if, is_do, is_option, Match, kind_of, match_found}
use Rattle.base_codes.specs.Items.{Item}
use Rattle.parse_code.specs.Code.{code}
use Rattle.base_codes.specs.Sets.{class_of}
use Rattle.base_codes.specs.Items as items

-- ---- the link of what opens
module _ (cs vs : List ℕ) where
  abbrev hs : List ℕ
  hs = homes_of cs (replicate items_most 0)

  abbrev ss : List ℕ
  ss = starts_of cs (replicate items_most 0)

  link_closes : {p : ℕ} (l : List ℕ) (j : ℕ) → Opener p (get_or cs j 0) → link_at cs vs hs ss l j ≡ min 4294967295 (close_of_lem cs p (j + 1))
  unfolding link_at link_by class_of
  link_closes l j (is_if e) = rw e
  link_closes l j (is_do e) = rw e
  link_closes l j (is_option e) = rw e

  link_opens : {p : ℕ} (j : ℕ) → length cs ≤ items_most → j < length cs → Opener p (get_or cs j 0) → get_or (links_of cs vs (replicate items_most 0)) j 0 ≡ min 4294967295 (close_of_lem cs p (j + 1))
  unfolding links_of
  link_opens {p} j few h o =
      rw (le-ltb items_most (length cs) few)
      (back_at cs vs hs ss (length cs) j (min 4294967295 (close_of_lem cs p (j + 1))) (replicate items_most 0) h (omega (arith, length-replicate items_most zero)) (λ l. link_closes l j o))

module _ (t : List ℕ) (a : Accepts t) where
  abbrev pub xs : List Item
  xs = code a.tree

  abbrev pub C : List ℕ
  C = codes_at t a

  abbrev pub U : List ℕ
  U = T t a

  pub all_at : At C 0 xs
  all_at = subst (λ (l : List ℕ). At l 0 xs) (ap (map items.code_of) (append-nil xs) ∙ inv (codes_are t a)) (stands [] xs [] 0 refl)

  -- and its link
  pub linked_to : (i p hi : ℕ) → i < length xs → Opener p (get_or C i 0) → (m : Match C p i hi) → hi ≤ length xs → link_of U i ≡ m.at
  linked_to i p hi h o m b =
      link_held t a i h ∙ link_opens C _ i (codes_few t a) (omega (arith, items_long t a)) o ∙ ap (min 4294967295) (match_found C p i hi (kind_of o) m (omega (arith, items_long t a)))
      ∙ (let z = m.before in let w : min 4294967295 m.at ≡ m.at = omega (arith, items_long t a, codes_few t a) in w)
