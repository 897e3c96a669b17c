-- Mechanism, held to the specification by `demand2` (crate `demands`), but for `step_as`, of contracts alone.
-- The machine of tables, like that of the model by `machines_alike` (crate `agree_tables`): what is listed, asked for and judged over it is what `spec_machine` says of any
-- machine; and the answers of the code, each by the case that it stands for. `t` are tables, `s` a state.
use Rattle.std.specs.Prelude.{ℕ, zero, suc, min, ◌≡◌, Bool, true, List, [], ◌∷◌, ℤ, eqb}
use Rattle.std.proofs.Math.Option.{Option, none, some}
use Rattle.base_codes.specs.Codes.{c_end_body}
use Rattle.table_layout.specs.Access.{code_of}
use Rattle.state_layout.specs.Layout.{processes_of, place_of}
use Rattle.spec_machine.specs.Machine.{Machine, alone, finished, blocked, «open»}
use Rattle.step_offers.specs.Offers.{offers_of}
use Rattle.step_offers.specs.declared.Walk.{Walk}
use Rattle.step_offers.specs.declared.Walk.TheVariants.{Found, Left}
use Rattle.step_take.specs.Effects.{taken_of}
use Rattle.step_prints.specs.Printing.{printed_at}
use Rattle.base_outcome.specs.declared.Partner.TheVariants.{Nobody}
use Rattle.step_all.specs.declared.Offer.{Offer}
use Rattle.step_all.specs.declared.Offer.TheVariants.{Step, Beyond}
use Rattle.step_all.specs.declared.Verdict.{Verdict}
use Rattle.step_all.specs.declared.Verdict.TheVariants.{Finished, Blocked, Open}
use Rattle.base_ceilings.specs.Ceilings.{processes_most}
use Rattle.spec_machine.specs.Machine as machine

-- how many processes there are
abbrev pub processes : List ℤ → ℕ
processes s = min processes_most (processes_of s)

-- a process has ended where its place is the end of its body; no statement has a partner
abbrev pub machine_in : List ℕ → Machine (List ℤ)
machine_in t =
    record {
      processes = λ s. processes s;
      steps = λ s late p. alone (offers_of t s p late (place_of s p));
      ended = λ s p. eqb (code_of t (place_of s p)) c_end_body;
      take = λ s x. taken_of t x.process x.place s;
      printed = λ s x. printed_at t s x.process x.place;
    }

-- what a test shows which says that processes wait at place q: none that stands there is offered anything, `timeout` or not
abbrev pub Waits : List ℕ → List ℤ → ℕ → Bool → Type 0
Waits t s q b = b ≡ true → (p : ℕ) (late : Bool) → offers_of t s p late q ≡ []

-- the k-th step of process p, by what was found
abbrev pub offer_of : ℕ → ℕ → Walk → Offer
offer_of p k (Found q) = Step (record { process = p; number = k; place = q; partner = Nobody })
offer_of p k (Left n) = Beyond 0

-- a step that is asked for by its process and its number, if there is one
abbrev pub offer_as : Option machine.Step → Offer
offer_as none = Beyond 0
offer_as (some x) = Step x

-- the step of an answer, if it is one
abbrev pub step_in : Offer → Option machine.Step
step_in (Step x) = some x
step_in (Beyond n) = none

-- the n-th of a list, from 0, or how many are left to pass
unfoldable pub nth_in : ℕ → List machine.Step → Offer
nth_in n [] = Beyond n
nth_in zero (x ∷ xs) = Step x
nth_in (suc n) (x ∷ xs) = nth_in n xs

abbrev pub verdict_as : machine.Verdict → Verdict
verdict_as finished = Finished
verdict_as blocked = Blocked
verdict_as «open» = Open
