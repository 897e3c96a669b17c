-- WHAT KEEPS A `run` FROM STARTING: for an accepted text, in any state that fits, the line that its tables and the numbers of the state give is that of the tree and the plain state (`waits-shown`).
use Prim.Native.Nat.{ℕ, suc, ◌+◌, ◌≤◌, ◌<◌, min}
use native.Mathlib.Omega.{arith}
use mathlib.Core.Path.{◌≡◌, refl, sym as inv, ap, ap₂, subst, ◌∙◌}
use mathlib.Core.Bool.{Bool, true, false}
use mathlib.Core.List.{List, [], ◌∷◌, ◌++◌}
use lib.ListN.{length, get_or}
use lib.IntN.{ℤ}
use lib.Dec.{ltb, leb}
use Rattle.base_bytes.specs.Choice.{pick, both}
use Rattle.base_bytes.proofs.Tests.{true_false, both_true}
use Rattle.base_ceilings.specs.Ceilings.{processes_most, channels_most, items_most, selections_most}
use Rattle.base_kinds.specs.Kinds.{bytes}
use Rattle.spec_text.specs.Formats.{digits_of}
use Rattle.spec_grammar.specs.Tree.{Name, Sort, action, Tree, Leaf, leaf, Body, body, Model}
use Rattle.parse_code.specs.Code.{code_tree}
use Rattle.read_passes.specs.Judging.{tables_text}
use Rattle.read_accepts_proof.specs.Meaning.{Accepts}
use Rattle.read_accepts_proof.proofs.Tables.{text-tables}
use Rattle.legal_rules.specs.Statements.{allowed, runs}
use Rattle.legal_rules.specs.Units.{parts_lawful, mtypes_in, inits_in, model_lawful}
use Rattle.spec_rules.specs.Units.{of_model, tally}
use Rattle.spec_machine.specs.Sizes.{size_in}
use Rattle.spec_machine.specs.Program.{Within, itself, in_if, in_do, unlabelled, behind_label, in_first, in_rest, in_option, in_others, start_in, end_in, label_in, sequence_of}
use Rattle.spec_machine.specs.State.{Process, State, no_process}
use Rattle.spec_machine.specs.Names.{unit_at}
use Rattle.spec_machine.specs.Begins.{items_before, body_of}
use Rattle.spec_machine.specs.Places.{Bodied, body_at, start_of, end_of, At, Belongs, ends, stands}
use Rattle.spec_machine.specs.Fits.{Fits}
use Rattle.spec_machine.specs.Steps.{standing, stage_of}
use Rattle.spec_account.specs.Waits as plain
use Rattle.spec_account.specs.Waits.{stuck_in, stuck_at, ceiling_text, wait_text, waits_text}
use Rattle.state_layout.specs.Layout.{processes_of}
use Rattle.step_ready.specs.Executing.{fits_of}
use Rattle.agree_encode.specs.Encode.{head_of, encode}
use Rattle.agree_encode.specs.Settings.{setting_of}
use Rattle.agree_encode.proofs.Units.{unit-holds, unit-allowed}
use Rattle.agree_encode.proofs.Numbers.{processes_are}
use Rattle.agree_sizes.specs.Bodies.{Holds, in_process, in_init, later, Statement}
use Rattle.agree_sizes.proofs.Sizes.{size_tree}
use Rattle.agree_stage.proofs.Stands.{statement_lies}
use Rattle.agree_eval.specs.Names.{decl_at}
use Rattle.agree_eval.proofs.Codes.{codes_few}
use Rattle.agree_eval.proofs.Main.{items_long}
use Rattle.agree_nesting.specs.Full.{Full, FullBody, FullModel}
use Rattle.agree_nesting.proofs.Begun.{full-model}
use Rattle.agree_offers.specs.Depth.{depth}
use Rattle.agree_offers.specs.Told.{Told}
use Rattle.agree_offers.proofs.Places.{inside_there}
use Rattle.agree_offers.proofs.Texts.{told}
use Rattle.agree_offers.proofs.Main.{text_shallow, text-ends}
use Rattle.agree_effects.specs.Stages as stages
use Rattle.agree_transfer.proofs.Statements.{within_found, end_nothing}
use Rattle.agree_transfer.proofs.Ways.{within-lawful}
use Rattle.agree_tables.proofs.Statements.{within-within}
use Rattle.agree_tables.proofs.Agreed.{stages_agree}
use Rattle.agree_names.proofs.Main.{text-tabled}
use Rattle.agree_names.proofs.Texts.{text-lawful}
use Rattle.agree_machine.proofs.Survey.{text_begin}
use Rattle.agree_states.proofs.Held.{place_is}
use Rattle.agree_listing.proofs.Main.{charted}
use Rattle.agree_texts.proofs.Main.{seen_shown}
use Rattle.show_waits.specs.Waits as shown
use Rattle.show_waits.specs.Waits.{ceiling_in, stuck_from, stuck_of, wait_in, waits_in}
use Rattle.agree_waits.proofs.Walks.{Paired, One, stuck_end, walk}
use Rattle.agree_waits.proofs.Leaves.{leaf-waits}

-- ---- what holds of a model holds of its bodies, and of their statements
body_full : (b : Body) → FullBody b → Full (sequence_of b)
body_full (body ds q) f = f

holds-full : {m : Model} {i u k : ℕ} {b : Body} → Holds m i u b k → FullModel m → Full (sequence_of b)
holds-full (in_process {b = b} e g) f = body_full b f.0
holds-full (in_init {b = b} e) f = body_full b f.0
holds-full (later h) f = holds-full h f.1

within-full : {k : Sort} {x : Tree k} {i n o : ℕ} {y : Tree action} {j m u : ℕ} → Within k x i n o y j m u → (d : ℕ) → Full x → depth x ≤ d → Full y × (depth y ≤ d)
within-full itself d f h = (f, h)
within-full (in_if w) d f h = within-full w d f (omega arith)
within-full (in_do w) d f h = within-full w d f (omega arith)
within-full (unlabelled w) d f h = within-full w d f h
within-full (behind_label w) d f h = within-full w d f h
within-full (in_first w) d f h = within-full w d f.0 (omega arith)
within-full (in_rest w) d f h = within-full w d f.1 (omega arith)
within-full (in_option w) d f h = within-full w d f.1 (omega arith)
within-full (in_others w) d f h = within-full w d f.2 (omega arith)

end_most : (b : Body) (i : ℕ) → start_in b i + size_in (sequence_of b) ≤ end_in b i
end_most (body ds q) i = omega arith

module _ (t : List ℕ) (a : Accepts t) (rest : List ℤ) (σ : State) (f : Fits (Belongs a.tree) a.tree σ) where
  abbrev m : Model
  m = a.tree

  abbrev T : List ℕ
  T = tables_text t

  abbrev S : List ℤ
  S = encode m σ ++ rest

  lawful : (k : ℕ) → Bodied (unit_at m k) → allowed (setting_of m k) false false (sequence_of (body_of (unit_at m k))) ≡ true
  unfolding model_lawful
  lawful k b = unit-allowed (of_model m) [] m k (both_true (both (leb (tally mtypes_in m) 1) (leb (tally inits_in m) 1)) (parts_lawful (of_model m) [] m) (text-lawful t a)).1 b

  -- ---- where process p stands
  module _ (p : ℕ) (g : p < length σ.processes) where
    abbrev k : ℕ
    k = (get_or σ.processes p no_process).unit

    abbrev j : ℕ
    j = (get_or σ.processes p no_process).place

    abbrev room : Name → Bool
    room = (stage_of m σ p).room

    module _ (b : Bodied (unit_at m k)) where
      held : Holds m 0 (head_of m k) (body_of (unit_at m k)) (body_at m k)
      held = unit-holds m k 0 (items_before m k) (omega arith) b

      agrees : (w : Name) (n : ℕ) → runs (setting_of m k) w n ≡ true → room w ≡ fits_of T S (stages.unit_at t a w)
      agrees w n h =
          (stages_agree (Belongs m) m k (setting_of m k) T (decl_at t a (start_of m k)) (stages.unit_at t a) (text-tabled t a (text-lawful t a) (text_begin t a) k b) p rest σ
          (record { fits = f; is = refl; here = g; unit = refl })).room w n h

      standing_at : (x : Tree action) (i n o : ℕ) → At m k x i n o → Statement m (head_of m k) x i (record { next = n; out = o; label = λ w. label_in w (sequence_of (body_of (unit_at m k))) (start_of m k) 0 })
      standing_at x i n o w = record { own = body_of (unit_at m k); at = body_at m k; held = held; inside = w; labels = λ v. refl }

      one : (l : Leaf) (i n o : ℕ) → At m k (leaf l) i n o → One T S room l i
      unfolding allowed
      one l i n o w =
          let r = within-lawful (Belongs m k) (setting_of m k) w false false (lawful k b) (λ y c d e v. stands b v) (ends b refl) (λ e. absurd (true_false (inv e))) in
          leaf-waits t a S i room (setting_of m k) agrees l (statement_lies (standing_at (leaf l) i n o w)) r.loops r.first r.law (seen_shown t a k i (leaf l) n o (within_found w))

      stands_there : (x : Tree action) (n o : ℕ) → At m k x j n o → Paired T (stuck_from T S (selections_most + 1) j items_most) (stuck_in room x)
      stands_there x n o w =
          let y = statement_lies (standing_at x j n o w) in
          let h = within-full w selections_most (holds-full held (full-model a.gram)) (text_shallow t a held) in
          let e = h.1 in
          let i = inside_there t a (code_tree x) j y in
          walk T S room x j n o (subst (λ (U : List ℕ). Told U x j) (inv (text-tables t a)) (told t a x j h.0 y)) (λ l i u v z. one l i u v (within-within w z))
          (selections_most + 1) items_most (omega arith) (omega (arith, size_tree x, items_long t a, codes_few t a))

      ends_there : j ≡ end_of m k → Paired T (stuck_from T S (selections_most + 1) j items_most) (stuck_at m σ p (standing m σ p j))
      ends_there e =
          let z = end_nothing (sequence_of (body_of (unit_at m k))) (start_of m k) (end_of m k) 0 j (subst (λ n. start_of m k + size_in (sequence_of (body_of (unit_at m k))) ≤ n) (inv e) (end_most (body_of (unit_at m k)) (body_at m k))) in
          let c = text-ends t a (record { own = body_of (unit_at m k); at = body_at m k; held = held; ends = e }) in
          subst (λ (x : List ℕ). Paired T x (stuck_at m σ p (standing m σ p j))) (inv (stuck_end T S (selections_most + 1) j items_most c)) (subst (λ y. Paired T [] (stuck_at m σ p y)) (inv z) tt)

    waits_there : Paired T (stuck_of T S p) (stuck_at m σ p (standing m σ p j))
    waits_there = subst (λ (q : ℕ). Paired T (stuck_from T S (selections_most + 1) q items_most) (stuck_at m σ p (standing m σ p j))) (inv (place_is m T (charted t a) σ f rest p g)) (go (f.each p g).place)
      where
        go : Belongs m k j → Paired T (stuck_from T S (selections_most + 1) j items_most) (stuck_at m σ p (standing m σ p j))
        go (ends b e) = ends_there b e
        go (stands {x = x} {n = n} {o = o} b w) = subst (λ y. Paired T (stuck_from T S (selections_most + 1) j items_most) (stuck_at m σ p y)) (inv (within_found w)) (stands_there b x n o w)

  -- ---- its line
  count : processes_of S ≡ length σ.processes
  count = processes_are m rest σ f.processes

  ceiling_shown : ceiling_in S ≡ ceiling_text m σ
  ceiling_shown = ap (λ (n : ℕ). pick (ltb n processes_most) (digits_of channels_most ++ bytes " channels are the most\n") (digits_of processes_most ++ bytes " processes are the most\n")) count

  line-shown : (p : ℕ) (qs : List ℕ) (l : List (Tree action)) (x y : List ℕ) → Paired T qs l → x ≡ y → wait_in T S p qs x ≡ wait_text m σ p l y
  line-shown p [] [] x y h e = e
  line-shown p [] (b ∷ l) x y h e = absurd h
  line-shown p (q ∷ qs) [] x y h e = absurd h
  line-shown p (q ∷ qs) (b ∷ l) x y h e = ap₂ (λ (w c : List ℕ). bytes "\tprocess " ++ (digits_of p ++ (bytes " waits at " ++ (w ++ (bytes ": " ++ c))))) h ceiling_shown

  -- the processes from p on, which are those of the state
  from-shown : (p : ℕ) (xs : List Process) → p + length xs ≤ length σ.processes → ((i : ℕ) → i < length xs → get_or xs i no_process ≡ get_or σ.processes (p + i) no_process)
      → shown.waits_from T S p (length xs) ≡ plain.waits_from m σ p xs
  unfolding shown.waits_from plain.waits_from
  from-shown p [] h e = refl
  from-shown p (x ∷ xs) h e =
      let z : p + 0 ≡ p = omega arith in
      let q : get_or σ.processes p no_process ≡ x = ap (λ (n : ℕ). get_or σ.processes n no_process) (inv z) ∙ inv (e 0 (omega arith)) in
      line-shown p (stuck_of T S p) (stuck_at m σ p (standing m σ p x.place)) (shown.waits_from T S (p + 1) (length xs)) (plain.waits_from m σ (p + 1) xs)
      (subst (λ (y : Process). Paired T (stuck_of T S p) (stuck_at m σ p (standing m σ p y.place))) q (waits_there p (omega arith)))
      (from-shown (p + 1) xs (omega arith) (λ i l. e (suc i) (omega arith) ∙ ap (λ (n : ℕ). get_or σ.processes n no_process) (let v : p + suc i ≡ p + 1 + i = omega arith in v)))

  -- WHAT KEEPS A `run` FROM STARTING
  pub waits-shown : waits_in (tables_text t) (encode a.tree σ ++ rest) ≡ waits_text a.tree σ
  waits-shown =
      let h = f.processes in
      let c = count in
      let n : min (processes_of S) processes_most ≡ length σ.processes = omega arith in
      ap (shown.waits_from T S 0) n ∙ from-shown 0 σ.processes (omega arith) (λ i l. ap (λ (n : ℕ). get_or σ.processes n no_process) (let v : i ≡ 0 + i = omega arith in v))
