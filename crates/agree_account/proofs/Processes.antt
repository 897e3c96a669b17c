-- THE LINES OF A PROCESS: for an accepted text, in any state that fits, the lines that its tables and the numbers of the state give for a process are those of the tree and the plain state (`process-shown`);
-- and so the whole state is shown (`state-shown`).
use Prim.Native.Nat.{ℕ, ◌+◌, ◌≤◌, ◌<◌}
use native.Mathlib.Omega.{arith}
use mathlib.Core.Path.{◌≡◌, refl, sym as inv, ap, ap₂, ◌∙◌}
use mathlib.Core.Bool.{Bool, true}
use mathlib.Core.List.{List, [], ◌∷◌, ◌++◌}
use lib.ListN.{length, get_or}
use lib.IntN.{ℤ}
use borrow.Author.Tests.{eq-eqb}
use Rattle.base_bytes.specs.Choice.{pick}
use Rattle.base_kinds.specs.Kinds.{bytes}
use Rattle.spec_text.specs.Formats.{digits_of}
use Rattle.spec_grammar.specs.Tree.{Model}
use Rattle.read_passes.specs.Judging.{tables_text}
use Rattle.read_accepts_proof.specs.Meaning.{Accepts}
use Rattle.state_layout.specs.Layout.{place_of}
use Rattle.spec_machine.specs.State.{Process, State, no_process}
use Rattle.spec_machine.specs.Places.{end_of, Belongs, ends, stands}
use Rattle.spec_machine.specs.Fits.{Fits}
use Rattle.spec_machine.specs.Steps.{standing, ended_of}
use Rattle.spec_account.specs.States.{at_text, standing_text, locals_text, title_text, process_text, processes_text, state_text}
use Rattle.agree_encode.specs.Encode.{encode}
use Rattle.step_all.specs.Moving.{processes}
use Rattle.agree_states.proofs.Held.{place_is}
use Rattle.agree_transfer.proofs.Statements.{within_found}
use Rattle.agree_machine.proofs.Survey.{Holds, text_same}
use Rattle.agree_listing.proofs.Main.{charted, globals_shown, title_shown, locals_shown, channels-shown}
use Rattle.agree_texts.proofs.Main.{seen_shown}
use Rattle.show_state.specs.Listing.{along, globals_in, channels_in}
use Rattle.show_statement.specs.Statements.{seen_in}
use Rattle.show_steps.specs.Steps.{standing_in, process_in}

module _ (t : List ℕ) (a : Accepts t) (rest : List ℤ) (σ : State) (f : Fits (Belongs a.tree) a.tree σ) where
  abbrev m : Model
  m = a.tree

  abbrev T : List ℕ
  T = tables_text t

  abbrev S : List ℤ
  S = encode m σ ++ rest

  pub holding : Holds t a rest σ (encode a.tree σ ++ rest)
  holding = record { fits = f; is = refl }

  pub processes_there : processes (encode a.tree σ ++ rest) ≡ length σ.processes
  processes_there = inv ((text_same t a rest).processes holding)

  module _ (p : ℕ) (h : p < length σ.processes) where
    abbrev k : ℕ
    k = (get_or σ.processes p no_process).unit

    abbrev j : ℕ
    j = (get_or σ.processes p no_process).place

    -- it stands at the end of its body or at a statement of it
    standing_there : standing_in T (place_of S p) ≡ standing_text m σ p
    unfolding ended_of
    standing_there =
        ap (λ (b : Bool). pick b (bytes " ended") (bytes " at " ++ seen_in T (place_of S p))) (inv ((text_same t a rest).ended holding p h))
        ∙ ap (λ (q : ℕ). pick (ended_of m σ p) (bytes " ended") (bytes " at " ++ seen_in T q)) (place_is m T (charted t a) σ f rest p h) ∙ go (f.each p h).place
      where
        go : Belongs m k j → pick (ended_of m σ p) (bytes " ended") (bytes " at " ++ seen_in T j) ≡ standing_text m σ p
        go (ends b e) =
            let z : ended_of m σ p ≡ true = eq-eqb j (end_of m k) e in
            ap (λ (c : Bool). pick c (bytes " ended") (bytes " at " ++ seen_in T j)) z ∙ ap (λ (c : Bool). pick c (bytes " ended") (bytes " at " ++ at_text m σ (standing m σ p j))) (inv z)
        go (stands {x = x} {n = n} {o = o} b w) =
            let e = within_found w in
            ap (λ (l : List ℕ). pick (ended_of m σ p) (bytes " ended") (bytes " at " ++ l)) (seen_shown t a k j x n o e ∙ ap (at_text m σ) (inv e))

    -- A PROCESS
    pub process-shown : process_in (tables_text t) (encode a.tree σ ++ rest) p ≡ process_text a.tree σ p
    process-shown =
        ap₂ (λ (w l : List ℕ). bytes "process " ++ (digits_of p ++ (32 ∷ (w ++ (standing_in T (place_of S p) ++ (10 ∷ l)))))) (title_shown t a σ f rest p h) (locals_shown t a σ f rest p h)
        ∙ ap (λ (s : List ℕ). bytes "process " ++ (digits_of p ++ (32 ∷ (title_text m σ p ++ (s ++ (10 ∷ locals_text m σ p)))))) standing_there

  processes-from : (p : ℕ) (xs : List Process) → p + length xs ≤ length σ.processes → along (process_in T S) p (length xs) ≡ processes_text m σ p xs
  unfolding along processes_text
  processes-from p [] h = refl
  processes-from p (x ∷ xs) h = ap₂ ◌++◌ (process-shown p (omega arith)) (processes-from (p + 1) xs (omega arith))

  -- ALL OF THEM
  pub processes-shown : along (process_in (tables_text t) (encode a.tree σ ++ rest)) 0 (processes (encode a.tree σ ++ rest)) ≡ processes_text a.tree σ 0 σ.processes
  processes-shown = ap (along (process_in T S) 0) processes_there ∙ processes-from 0 σ.processes (omega arith)

  -- THE WHOLE STATE
  pub state-shown : globals_in (tables_text t) (encode a.tree σ ++ rest) ++ (along (process_in (tables_text t) (encode a.tree σ ++ rest)) 0 (processes (encode a.tree σ ++ rest)) ++ channels_in (tables_text t) (encode a.tree σ ++ rest))
      ≡ state_text a.tree σ
  unfolding state_text
  state-shown = ap₂ ◌++◌ (globals_shown t a σ f rest) (ap₂ ◌++◌ processes-shown (channels-shown t a σ f rest))
