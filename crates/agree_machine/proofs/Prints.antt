-- WHAT A STEP PRINTS: for an accepted text, a step that is offered prints by its tables what it prints by its tree (`text-printed`), at most 100 bytes (`text-short`); and something comes of it (`text_busy`).
use Prim.Native.Nat.{ℕ, ◌+◌, ◌≤◌, ◌<◌}
use native.Mathlib.Omega.{arith}
use mathlib.Core.Path.{◌≡◌, refl, sym as inv, ap, ◌∙◌, subst}
use mathlib.Core.Bool.{Bool, true, false}
use mathlib.Core.List.{List, [], ◌++◌}
use lib.ListN.{length, get_or}
use lib.IntN.{ℤ}
use lib.Dec.{leb}
use Rattle.base_bytes.specs.Choice.{both}
use Rattle.base_bytes.proofs.Tests.{true_false, both_true}
use Rattle.spec_grammar.specs.Tree.{action, Tree, Body, body, Model}
use Rattle.read_passes.specs.Judging.{tables_text}
use Rattle.read_accepts_proof.specs.Meaning.{Accepts}
use Rattle.step_prints.specs.Printing.{printed_at}
use Rattle.legal_rules.specs.Statements.{allowed}
use Rattle.spec_rules.specs.Units.{of_model, tally}
use Rattle.legal_rules.specs.Units.{parts_lawful, mtypes_in, inits_in, model_lawful}
use Rattle.spec_machine.specs.Sizes.{size_in}
use Rattle.spec_machine.specs.Program.{start_in, end_in, label_in, sequence_of}
use Rattle.agree_sizes.specs.Bodies.{Statement}
use Rattle.agree_stage.specs.Tables.{stage_in}
use Rattle.agree_eval.specs.Names.{decl_at}
use Rattle.agree_effects.specs.Stages as doing
use Rattle.agree_tables.proofs.Statements.{within-within, statement_prints}
use Rattle.agree_transfer.specs.Agrees.{takable}
use Rattle.spec_machine.specs.State.{State, no_process}
use Rattle.spec_machine.specs.Names.{unit_at}
use Rattle.spec_machine.specs.Begins.{items_before, body_of}
use Rattle.spec_machine.specs.Plain.{plain_stage}
use Rattle.agree_transfer.specs.Alike.{In, first}
use Rattle.spec_machine.specs.Steps.{ways_of, steps_by, take_by, print_by, steps_of, take_of, print_of}
use Rattle.agree_encode.specs.Encode.{head_of, encode}
use Rattle.spec_machine.specs.Places.{Bodied, body_at, start_of, end_of, At, Belongs, ends, stands}
use Rattle.agree_encode.specs.Settings.{setting_of}
use Rattle.spec_machine.specs.Fits.{Fits}
use Rattle.agree_transfer.proofs.Transfer.{prints-same}
use Rattle.agree_tables.proofs.Agreed.{Kept, stages_agree}
use Rattle.agree_transfer.proofs.Statements.{within_found, end_nothing, offers_there}
use Rattle.agree_transfer.proofs.Ways.{Lawful, within-lawful}
use Rattle.agree_encode.proofs.Units.{unit-holds, unit-allowed}
use Rattle.agree_names.proofs.Main.{text-tabled, text_few}
use Rattle.agree_names.proofs.Texts.{text-lawful}
use Rattle.agree_machine.proofs.Survey.{text_begin}
use Rattle.agree_machine.proofs.Strings.{within_worded, text_worded}
use Rattle.agree_machine.proofs.Formats.{prints-short}
use Rattle.agree_machine.proofs.Busy.{Busy, busy}
use Rattle.agree_tables.proofs.Main.{none_in}

module _ (t : List ℕ) (a : Accepts t) (rest : List ℤ) (σ : State) (f : Fits (Belongs a.tree) a.tree σ) (p : ℕ) (g : p < length σ.processes) where
  abbrev m : Model
  m = a.tree

  abbrev T : List ℕ
  T = tables_text t

  abbrev S : List ℤ
  S = encode m σ ++ rest

  abbrev k : ℕ
  k = (get_or σ.processes p no_process).unit

  abbrev j : ℕ
  j = (get_or σ.processes p no_process).place

  lawful : (k : ℕ) → Bodied (unit_at m k) → allowed (setting_of m k) false false (sequence_of (body_of (unit_at m k))) ≡ true
  unfolding model_lawful
  lawful k b = unit-allowed (of_model m) [] m k (both_true (both (leb (tally mtypes_in m) 1) (leb (tally inits_in m) 1)) (parts_lawful (of_model m) [] m) (text-lawful t a)).1 b

  end_most : (b : Body) (i : ℕ) → start_in b i + size_in (sequence_of b) ≤ end_in b i
  end_most (body ds q) i = omega arith

  -- the statement of a step that is offered
  pub record Stood (q : ℕ) : Type 0 where
    pub act : Tree action
    pub next : ℕ
    pub out : ℕ
    pub bodied : Bodied (unit_at a.tree (get_or σ.processes p no_process).unit)
    pub at : At a.tree (get_or σ.processes p no_process).unit act q next out
    pub law : Lawful (Belongs a.tree (get_or σ.processes p no_process).unit) (setting_of a.tree (get_or σ.processes p no_process).unit) act out
    pub takes : takable (plain_stage a.tree p (unit_at a.tree (get_or σ.processes p no_process).unit) σ) act ≡ true

  pub stood : (late : Bool) (q : ℕ) → In q (steps_of a.tree σ p late) → Stood q
  unfolding steps_of
  stood late q h = go (f.each p g).place h
    where
      go : Belongs m k j → In q (steps_of m σ p late) → Stood q
      go (ends b e) h =
          none_in (subst (λ z. In q (steps_by m σ p late j z)) (end_nothing (sequence_of (body_of (unit_at m k))) (start_of m k) (end_of m k) 0 j
          (subst (λ z. start_of m k + size_in (sequence_of (body_of (unit_at m k))) ≤ z) (inv e) (end_most (body_of (unit_at m k)) (body_at m k)))) h)
      go (stands {x = x} {n = n} {o = o} b w) h =
          let r = offers_there (plain_stage m p (unit_at m k) σ) late x j n o q (subst (λ z. In q (steps_by m σ p late j z)) (within_found w) h) in
          let v : At m k r.act q r.next r.out = within-within w r.within in
          record {
            act = r.act;
            next = r.next;
            out = r.out;
            bodied = b;
            at = v;
            law = within-lawful (Belongs m k) (setting_of m k) v false false (lawful k b) (λ y c d e v. stands b v) (ends b refl) (λ e. absurd (true_false (inv e)));
            takes = r.takes;
          }

  pub text-printed : (late : Bool) (q : ℕ) → In q (steps_of a.tree σ p late) → print_of a.tree σ p q ≡ printed_at (tables_text t) (encode a.tree σ ++ rest) p q
  unfolding print_of
  text-printed late q h =
      let r = stood late q h in
      let X = text-tabled t a (text-lawful t a) (text_begin t a) k r.bodied in
      let l = r.law in
      let st : Statement m (head_of m k) r.act q (record { next = r.next; out = r.out; label = λ w. label_in w (sequence_of (body_of (unit_at m k))) (start_of m k) 0 }) =
      record { own = body_of (unit_at m k); at = body_at m k; held = unit-holds m k 0 (items_before m k) (omega arith) r.bodied; inside = r.at; labels = λ v. refl } in
      ap (print_by m σ p) (within_found r.at)
      ∙ prints-same (Kept (Belongs m) m k (setting_of m k) T (decl_at t a (start_of m k)) (doing.unit_at t a) X p rest) (Belongs m k) (setting_of m k)
      (plain_stage m p (unit_at m k) σ) σ (stage_in T S p (decl_at t a (start_of m k)) (doing.unit_at t a)) S
      (stages_agree (Belongs m) m k (setting_of m k) T (decl_at t a (start_of m k)) (doing.unit_at t a) X p rest σ (record { fits = f; is = refl; here = g; unit = refl }))
      l.loops l.first r.act l.law
      ∙ inv (statement_prints t a st S p (text_few t a (text-lawful t a) k r.bodied r.act q r.next r.out r.at))

  -- and it fits into the bytes that are lent for it
  pub text-short : (late : Bool) (q : ℕ) → In q (steps_of a.tree σ p late) → length (print_of a.tree σ p q) ≤ 100
  unfolding print_of
  text-short late q h =
      let r = stood late q h in
      let l = r.law in
      subst (λ z. length (print_by m σ p z) ≤ 100) (inv (within_found r.at))
      (prints-short (plain_stage m p (unit_at m k) σ) (setting_of m k) l.loops l.first r.act l.law (within_worded r.at (text_worded t a k)))

  -- it is done, or it fails
  pub text_busy : (late : Bool) (q : ℕ) → In q (steps_of a.tree σ p late) → Busy (take_of a.tree σ p q).0
  unfolding take_of
  text_busy late q h =
      let r = stood late q h in
      subst (λ z. Busy (take_by m σ p z).0) (inv (within_found r.at)) (busy (plain_stage m p (unit_at m k) σ) (ways_of m σ p r.next r.out) σ r.act r.takes)
