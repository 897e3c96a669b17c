-- THE STATEMENTS OF AN ACCEPTED TEXT: what is executable, offered, done and printed at the place of a statement over its tables is what its tree says, in any numbers for a state.
use Prim.Native.Nat.{ℕ, ◌-◌}
use mathlib.Core.Path.{◌≡◌, ap, ◌∙◌, subst}
use mathlib.Core.Bool.{Bool}
use mathlib.Core.List.{List}
use lib.IntN.{ℤ}
use Rattle.spec_grammar.specs.Tree.{Sort, action, Tree}
use Rattle.read_passes.specs.Judging.{tables_text}
use Rattle.read_accepts_proof.specs.Meaning.{Accepts}
use Rattle.step_ready.specs.Executing.{ready_of}
use Rattle.step_offers.specs.Offers.{offers_of}
use Rattle.step_take.specs.Effects.{taken_of}
use Rattle.step_prints.specs.Printing.{printed_at}
use Rattle.spec_machine.specs.Stage.{Ways}
use Rattle.spec_machine.specs.Ready.{ready}
use Rattle.spec_machine.specs.Effect.{effect, prints}
use Rattle.spec_machine.specs.Offers.{offers}
use Rattle.spec_machine.specs.Program.{Within, itself, in_if, in_do, unlabelled, behind_label, in_first, in_rest, in_option, in_others}
use Rattle.agree_sizes.specs.Bodies.{Statement}
use Rattle.agree_stage.proofs.Stands.{statement_lies}
use Rattle.agree_stage.proofs.Offers.{offers-same}
use Rattle.agree_control.proofs.Main.{text-leads}
use Rattle.agree_offers.proofs.Main.{text-offers}
use Rattle.agree_effects.specs.Few.{Few}
use Rattle.agree_effects.proofs.Ready.{text-ready}
use Rattle.agree_effects.proofs.Takes.{text-takes}
use Rattle.agree_effects.proofs.Prints.{text-prints}
use Rattle.agree_effects.proofs.Bodies.{text-stage}
use Rattle.agree_places.proofs.Jumps.{text-label}
use Rattle.agree_tables.specs.Stages.{stage_here}

-- a statement inside of a statement
pub within-within : {k : Sort} {b : Tree k} {i n o : ℕ} {x : Tree action} {j m u : ℕ} {y : Tree action} {l v w : ℕ} → Within k b i n o x j m u → Within action x j m u y l v w → Within k b i n o y l v w
within-within itself q = q
within-within (in_if p) q = in_if (within-within p q)
within-within (in_do p) q = in_do (within-within p q)
within-within (unlabelled p) q = unlabelled (within-within p q)
within-within (behind_label p) q = behind_label (within-within p q)
within-within (in_first p) q = in_first (within-within p q)
within-within (in_rest p) q = in_rest (within-within p q)
within-within (in_option p) q = in_option (within-within p q)
within-within (in_others p) q = in_others (within-within p q)

module _ (t : List ℕ) (a : Accepts t) where
  abbrev T : List ℕ
  T = tables_text t

  -- ---- a statement of the tree, in any numbers for a state
  module _ {u j : ℕ} {x : Tree action} {h : Ways} (f : Statement a.tree u x j h) (s : List ℤ) (p : ℕ) where
    -- it is executable exactly where the tree says so
    pub statement_ready : (late : Bool) → ready_of T s p late j ≡ ready (stage_here t a s p u f) late x
    statement_ready late = text-ready t a x (statement_lies f) s p late ∙ ap (λ c. ready c late x) (text-stage t a f s p)

    -- what is done and printed is what the tree says
    pub statement_takes : Few x → taken_of T p j s ≡ effect (stage_here t a s p u f) h s x
    statement_takes few =
        text-takes t a x (statement_lies f) few h (text-leads t a f (λ w e. text-label t a (subst (λ y. Statement a.tree u y j h) e f))) s p ∙ ap (λ c. effect c h s x) (text-stage t a f s p)

    pub statement_prints : Few x → printed_at T s p j ≡ prints (stage_here t a s p u f) x
    statement_prints few = text-prints t a x (statement_lies f) few s p ∙ ap (λ c. prints c x) (text-stage t a f s p)

  module _ {u j : ℕ} {x : Tree action} {h : Ways} (f : Statement a.tree u x j h) (s : List ℤ) (p : ℕ) where
    -- the statements of a selection are statements of its body
    abbrev inner : (y : Tree action) (i m v : ℕ) → Within action x j h.next h.out y i m v → Statement a.tree u y i (record { next = m; out = v; label = h.label })
    inner y i m v w = record { own = f.own; at = f.at; held = f.held; inside = within-within f.inside w; labels = f.labels }

    -- the steps that it offers are those that the tree says
    pub statement_offers : (late : Bool) → offers_of T s p late j ≡ offers (λ y i. ready (stage_here t a s p u f) late y) x j
    statement_offers late =
        text-offers t a f s p late
        ∙ offers-same (λ y i. ready_of T s p late i) (λ y i. ready (stage_here t a s p u f) late y) x j h.next h.out (λ y i m v w. statement_ready (inner y i m v w) s p late)
