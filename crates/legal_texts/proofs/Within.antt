-- The part that a refusal names lies in the text.
use Prim.Native.Nat.{ℕ, zero, suc, ◌+◌, ◌-◌, ◌≤◌, ◌<◌}
use native.Mathlib.Omega.{arith}
use mathlib.Core.Path.{◌≡◌, refl}
use mathlib.Core.Bool.{Bool, true, false}
use mathlib.Core.List.{List, [], ◌∷◌, map}
use borrow.Author.Tests.{ltb-true}
use lib.Dec.{ltb}
use lib.ListN.{length, get_or, length-map}
use Rattle.base_bytes.specs.Choice.{pick}
use Rattle.spec_text.specs.Placed.{Placed}
use Rattle.text_spacing_proof.specs.Sound.{Ordered}
use Rattle.spec_refusals.specs.Texts.{Tokens, start_at, size_at}
use Rattle.spec_refusals.specs.Rows.{Refusal, bytes, deep, stop, fault, ceiling, overlong}
use Rattle.text_spacing_proof.proofs.Written.{tokens_ordered}
use Rattle.text_spoils_proof.proofs.Within.{spoils_within}
use Rattle.legal_items.proofs.Whole.{tokens-read}

ordered_most : (i e : ℕ) (ps : List Placed) → Ordered i e ps → i ≤ e
ordered_most i e [] o = o
ordered_most i e (p ∷ ps) (a, b, o) = omega (arith, ordered_most p.end e ps o)

token_within : (i e : ℕ) (ps : List Placed) (k : ℕ) → Ordered i e ps → k < length ps → get_or (map Placed.start ps) k 0 + (get_or (map Placed.end ps) k 0 - get_or (map Placed.start ps) k 0) ≤ e
token_within i e [] k o h = absurd (omega arith)
token_within i e (p ∷ ps) zero (a, b, o) h = omega (arith, ordered_most p.end e ps o)
token_within i e (p ∷ ps) (suc k) (a, b, o) h = token_within p.end e ps k o (omega arith)

part-within : (t : List ℕ) (ps : List Placed) (k : ℕ) → Tokens t ps → start_at t ps k + size_at t ps k ≤ length t
part-within t ps k l = go (ltb k (length (map Placed.start ps))) refl
  where
    go : (b : Bool) → ltb k (length (map Placed.start ps)) ≡ b
        → pick b (get_or (map Placed.start ps) k 0) (length t) + pick b (get_or (map Placed.end ps) k 0 - get_or (map Placed.start ps) k 0) 0 ≤ length t
    go true e = token_within 0 (length t) ps k (tokens_ordered t ps (tokens-read t ps l)) (omega (arith, ltb-true k (length (map Placed.start ps)) e, length-map ps Placed.start))
    go false e = omega arith

pub refusal_within : {t : List ℕ} {x i n : ℕ} → Refusal t x i n → i + n ≤ length t
refusal_within (bytes s) = spoils_within s
refusal_within {t} (deep {ps = ps} {k = k} l w) = part-within t ps k l
refusal_within {t} (stop {ps = ps} {k = k} l w) = part-within t ps k l
refusal_within {t} (fault {ps = ps} {k = k} l g d s) = part-within t ps k l
refusal_within (ceiling l g d w o) = omega arith
refusal_within (overlong l g d w o) = omega arith
