-- DEMAND 1, proved.
use Prim.Native.Nat.{ℕ, ◌+◌, ◌-◌, ◌≤◌, ◌<◌}
use native.Mathlib.Omega.{arith}
use mathlib.Core.Path.{◌≡◌, refl, sym, ap, ap₂, subst, ◌∙◌}
use mathlib.Core.Bool.{Bool, true, false}
use mathlib.Core.Option.{none}
use native.Mathlib.Decide.{dec_lt}
use mathlib.Core.Logic.{◌⊎◌, inl, inr, ◌↔◌}
use mathlib.Core.List.{List, []}
use borrow.Author.Tests.{lt-ltb, le-ltb, ltb-true, ltb-false, le-leb}
use lib.Dec.{ltb}
use lib.ListN.{length, take, drop, length-replicate}
use Rattle.base_ceilings.specs.Ceilings.{normal_most, tables_room}
use Rattle.base_bytes.specs.Choice.{pick}
use Rattle.base_bytes.proofs.Tests.{true_false}
use Rattle.spec_text.specs.Placed.{Placed}
use Rattle.spec_text.specs.Writing.{tokens_in}
use Rattle.spec_grammar.specs.Tree.{Model}
use Rattle.spec_grammar.specs.Grammar.{Gram}
use Rattle.spec_grammar.specs.Depth.{too_deep}
use Rattle.spec_faults.specs.Faults.{faults_of}
use Rattle.spec_rules.specs.Ceilings as ceilings
use Rattle.spec_refusals.specs.Texts.{Tokens}
use Rattle.spec_refusals.specs.Legal.{Legal}
use Rattle.spec_refusals.specs.Rows as rows
use Rattle.spec_refusals.specs.Rows.{Refusal, Refused}
use Rattle.std.specs.Prelude.{Result, Ok, Err}
use Rattle.base_refusal.specs.declared.Refusal.{Refusal as Given}
use Rattle.base_refusal.specs.Refusals.{refusal as given}
use Rattle.read_passes.specs.Judging.{judge_of, tables_text}
use Rattle.read_entry.specs.Entries as reading
use Rattle.read_entry.specs.Entries.{read_of, stays, part_start}
use Rattle.spec_normal.specs.Normal.{normal}
use Rattle.spec_layout.specs.Layout.{layout}
use Rattle.normal_entry.specs.Entries.{roomy, put, written_by, text_answer, text_left, tables_answer, tables_left}
use Rattle.write_texts.specs.Normal.{normal_of, layout_of}
use Rattle.read_genuine.specs.Genuine.{written, genuine}
use Rattle.legal_texts.proofs.Main.{read_legal}
use Rattle.legal_texts.proofs.Refusals.{refused_exact}
use Rattle.legal_texts.proofs.Within.{refusal_within}
use Rattle.demands.specs.Said as said
use Rattle.demands.specs.Said.{refusal}
use Rattle.demands.proofs.Told.{not-values}
use Rattle.demands.specs.Demand1 as one
use Rattle.demands.specs.Demand1.{Reader, Writer, TablesWriter}
use Rattle.demands.proofs.Owned.{blank, judged_by, legal_judged, left-wrote}
use Rattle.demands.proofs.Lent.{owner, tables-genuine}
use Rattle.demands.proofs.Stepper.{stepper}
use Rattle.demands.proofs.Replayed.{trail_refused}
use Rattle.demands.proofs.Demand3.{normal_is, layout_is}
use Rattle.demands.specs.Lent.{Tables}

-- ---- the reader
-- an answer that refuses, and its parts
parts_of : {A : Type 0} {r s : Given} → ◌≡◌ {A = Result A Given} (Err r) (Err s) → r ≡ s
parts_of e = cc

abbrev refusing : (A : Type 0) → Given → Result A Given
refusing A s = Err s

refused_as : {A : Type 0} {r : Given} {x i n : ℕ} → refusal r.number r.place r.length ≡ refusal x i n → ◌≡◌ {A = Result A Given} (Err r) (Err (given x i n))
refused_as {A} {r} {x} {i} {n} e =
    let a : r.number ≡ x = cc in
    let b : r.place ≡ i = cc in
    let c : r.length ≡ n = cc in
    let f : given r.number r.place r.length ≡ given x i n = rw (a, b, c) in
    ap (refusing A) f

reader-said : (j : Result (Unit {0}) Given) (x i n : ℕ) → (said.reader j ≡ refusal x i n) ↔ (j ≡ Err (given x i n))
reader-said (Ok u) x i n = (λ e. not-values e, λ e. absurd (let z : ◌≡◌ {A = ℕ} 0 1 = cc in omega arith))
reader-said (Err r) x i n = (λ e. refused_as e, λ e. ap (λ (s : Given). refusal s.number s.place s.length) (parts_of e))

blank-room : tables_room ≤ length blank
blank-room = omega (arith, length-replicate {A = ℕ} tables_room 0)

-- what the passes of the reader answer, lent room or not
judged_exact : (t : List ℕ) (x i n : ℕ) → (judge_of t ≡ Err (given x i n)) ↔ Refusal t x i n
judged_exact t x i n = (λ e. of_text ((refused_exact t blank x i n).0 (judged_by t blank blank-room ∙ e)), λ r. sym (judged_by t blank blank-room) ∙ (refused_exact t blank x i n).1 (rows.text blank-room r))
  where
    of_text : {y j m : ℕ} → Refused t (length blank) y j m → Refusal t y j m
    of_text (rows.too_small h) = absurd (omega (arith, blank-room))
    of_text (rows.text h r) = r

module _ (t : List ℕ) where
  reader_refuses : (old : List ℕ) (x i n : ℕ) → (said.reader (read_of t old) ≡ refusal x i n) ↔ Refused t (length old) x i n
  reader_refuses old x i n = (λ e. (refused_exact t old x i n).0 ((reader-said (read_of t old) x i n).0 e), λ r. (reader-said (read_of t old) x i n).1 ((refused_exact t old x i n).1 r))

  reader_six : (old : List ℕ) (ps : List Placed) (m : Model) → tables_room ≤ length old → Tokens t ps → (g : Gram (tokens_in t ps) m) → too_deep (tokens_in t ps) ≡ none → faults_of g ≡ []
      → (said.reader (read_of t old) ≡ refusal 6 0 0) ↔ ((ceilings.modest m ≡ false) ⊎ (normal_most < length (normal m)))
  reader_six old ps m r k g d l = (λ e. to e (ceilings.modest m) refl (dec_lt normal_most (length (normal m))), from)
    where
      to : said.reader (read_of t old) ≡ refusal 6 0 0 → (b : Bool) → ceilings.modest m ≡ b → Dec (normal_most < length (normal m)) → (ceilings.modest m ≡ false) ⊎ (normal_most < length (normal m))
      to e false q x = inl q
      to e true q (yes h) = inr h
      to e true q (no h) =
          let j = legal_judged t record { parts = ps; reads = k; tree = m; gram = g; shallow = d; faultless = l; modest = q; slim = omega (arith, h) } in
          absurd (let f : ◌≡◌ {A = Result (Unit {0}) Given} (Ok tt) (Err (given 6 0 0)) = sym j ∙ sym (judged_by t old r) ∙ (reader-said (read_of t old) 6 0 0).0 e in let z : ◌≡◌ {A = ℕ} 0 1 = cc in omega arith)

      from : (ceilings.modest m ≡ false) ⊎ (normal_most < length (normal m)) → said.reader (read_of t old) ≡ refusal 6 0 0
      from (inl h) = (reader_refuses old 6 0 0).1 (rows.text r (rows.ceiling k g d l h))
      from (inr h) = (reader_refuses old 6 0 0).1 (rows.text r (rows.overlong k g d l h))

  reader_unchanged : (old : List ℕ) (x i n : ℕ) → said.reader (read_of t old) ≡ refusal x i n → reading.left_of t old ≡ old
  unfolding reading.left_of
  reader_unchanged old x i n e = ap (λ (j : Result (Unit {0}) Given). stays j (tables_text t) old) ((reader-said (read_of t old) x i n).0 e)

  part_is : (x i n : ℕ) → Refusal t x i n → (reading.part t (judge_of t) ≡ take n (drop i t)) × (part_start (length t) (judge_of t) ≡ i) × (i + n ≤ length t)
  part_is x i n r =
      let e = (judged_exact t x i n).1 r in
      let w = refusal_within r in
      let h = le-leb (i + n) (length t) w in
      let z : i + n - i ≡ n = omega arith in
      (ap (reading.part t) e ∙ ap (λ (b : Bool). take (pick b (i + n) 0 - pick b i 0) (drop (pick b i 0) t)) h ∙ ap (λ (k : ℕ). take k (drop i t)) z, ap (part_start (length t)) e ∙ rw h refl, w)

  reader : Reader t
  reader =
      record {
        refuses = reader_refuses;
        six = reader_six;
        unchanged = reader_unchanged;
        part = part_is;
        no_part = λ l. (let e = legal_judged t l in (ap (reading.part t) e, ap (part_start (length t)) e));
      }

-- ---- normal text and layout
writer-said : (j : Result ℕ Given) (x i n : ℕ) → (said.writer j ≡ refusal x i n) ↔ (j ≡ Err (given x i n))
writer-said (Ok k) x i n = (λ e. not-values e, λ e. absurd (let z : ◌≡◌ {A = ℕ} 0 1 = cc in omega arith))
writer-said (Err r) x i n = (λ e. refused_as e, λ e. ap (λ (s : Given). refusal s.number s.place s.length) (parts_of e))

put-kept : (j : Result ℕ Given) (u out : List ℕ) (x i n : ℕ) → said.writer j ≡ refusal x i n → put j u out ≡ out
put-kept j u out x i n e = ap (λ (w : Result ℕ Given). put w u out) ((writer-said j x i n).0 e)

-- a text that is refused alone for its room
kept_seven : (u out : List ℕ) (x i n : ℕ) → roomy u out ≡ Err (given x i n) → (length out < length u) × (x ≡ 7) × (i ≡ 0) × (n ≡ 0)
kept_seven u out x i n e = go (ltb (length out) (length u)) refl e
  where
    go : (b : Bool) → ltb (length out) (length u) ≡ b → pick {A = Result ℕ Given} b (Err (given 7 0 0)) (Ok (length u)) ≡ Err (given x i n) → (length out < length u) × (x ≡ 7) × (i ≡ 0) × (n ≡ 0)
    go true h e = let f : given x i n ≡ given 7 0 0 = sym (parts_of e) in (ltb-true (length out) (length u) h, ap (λ (s : Given). s.number) f, ap (λ (s : Given). s.place) f, ap (λ (s : Given). s.length) f)
    go false h e = absurd (let z : ◌≡◌ {A = ℕ} 0 1 = cc in omega arith)

seven_kept : (u out : List ℕ) → length out < length u → roomy u out ≡ Err (given 7 0 0)
seven_kept u out h = rw (lt-ltb (length out) (length u) h) refl

-- what is written is g of tables, which for the tables of a legal text is f of its tree
module _ (f : Model → List ℕ) (g : List ℕ → List ℕ) (is : (t : List ℕ) (l : Legal t) → g (tables_text t) ≡ f l.tree) where
  writer_refuses : (t out : List ℕ) (x i n : ℕ) → (said.writer (text_answer g t out) ≡ refusal x i n) ↔ one.NotWritten f t (length out) x i n
  writer_refuses t out x i n = (λ e. to (judge_of t) refl ((writer-said (text_answer g t out) x i n).0 e), λ r. (writer-said (text_answer g t out) x i n).1 (from r))
    where
      to : (j : Result (Unit {0}) Given) → judge_of t ≡ j → text_answer g t out ≡ Err (given x i n) → one.NotWritten f t (length out) x i n
      to (Ok u) q e =
          let l = read_legal t blank (judged_by t blank blank-room ∙ q) in
          let (h, a, b, c) = kept_seven (g (tables_text t)) out x i n (ap (λ (k : Result (Unit {0}) Given). written_by k (g (tables_text t)) out) (sym q) ∙ e) in
          rw (a, b, c) (one.no_room l (omega (arith, h, ap length (is t l))))
      to (Err r) q e =
          let k : ◌≡◌ {A = Result ℕ Given} (Err r) (Err (given x i n)) = ap (λ (k : Result (Unit {0}) Given). written_by k (g (tables_text t)) out) (sym q) ∙ e in
          one.text ((judged_exact t x i n).0 (q ∙ ap (refusing (Unit {0})) (parts_of k)))

      from : {y j m : ℕ} → one.NotWritten f t (length out) y j m → text_answer g t out ≡ Err (given y j m)
      from {y} {j} {m} (one.text r) = ap (λ (k : Result (Unit {0}) Given). written_by k (g (tables_text t)) out) ((judged_exact t y j m).1 r)
      from (one.no_room l h) =
          ap (λ (k : Result (Unit {0}) Given). written_by k (g (tables_text t)) out) (legal_judged t l) ∙ seven_kept (g (tables_text t)) out (omega (arith, h, ap length (is t l)))

  writer : (t : List ℕ) → Writer f t (text_answer g t) (text_left g t)
  writer t = record { refuses = writer_refuses t; unchanged = λ out x i n e. put-kept (text_answer g t out) (g (tables_text t)) out x i n e }

  -- what tables give is their tree's
  tables_are : (ts : List ℕ) (m : Model) → Tables ts m → g (written ts) ≡ f m
  tables_are ts m h = ap g (h.wrote ∙ left-wrote h.text h.lent (legal_judged h.text h.legal) h.room) ∙ is h.text h.legal ∙ ap f h.tree

  from_refuses : (ts out : List ℕ) (x i n : ℕ) → (said.writer (tables_answer g ts out) ≡ refusal x i n) ↔ one.NotWrittenOf f ts (length out) x × (i ≡ 0) × (n ≡ 0)
  unfolding tables_answer
  from_refuses ts out x i n = (λ e. to (ltb (length ts) tables_room) refl (genuine ts) refl ((writer-said (tables_answer g ts out) x i n).0 e), λ r. (writer-said (tables_answer g ts out) x i n).1 (from r))
    where
      by : Bool → Bool → Result ℕ Given
      by a b = pick {A = Result ℕ Given} a (Err (given 7 0 0)) (pick {A = Result ℕ Given} b (roomy (g (written ts)) out) (Err (given 8 0 0)))

      to : (a : Bool) → ltb (length ts) tables_room ≡ a → (b : Bool) → genuine ts ≡ b → by (ltb (length ts) tables_room) (genuine ts) ≡ Err (given x i n) → one.NotWrittenOf f ts (length out) x × (i ≡ 0) × (n ≡ 0)
      to true p b q e =
          let k : ◌≡◌ {A = Result ℕ Given} (Err (given 7 0 0)) (Err (given x i n)) = ap (λ (y : Bool). by y (genuine ts)) (sym p) ∙ e in
          let z : given 7 0 0 ≡ given x i n = parts_of k in
          let u : 7 ≡ x = ap (λ (s : Given). s.number) z in
          let v : 0 ≡ i = ap (λ (s : Given). s.place) z in
          let w : 0 ≡ n = ap (λ (s : Given). s.length) z in
          (subst (one.NotWrittenOf f ts (length out)) u (one.too_small (ltb-true (length ts) tables_room p)), sym v, sym w)
      to false p true q e =
          let o = owner ts q in
          let (h, u, v, w) = kept_seven (g (written ts)) out x i n (ap₂ by (sym p) (sym q) ∙ e) in
          (rw u (one.no_room o.tree (ltb-false (length ts) tables_room p) o.tables (omega (arith, h, ap length (tables_are ts o.tree o.tables)))), v, w)
      to false p false q e =
          let k : ◌≡◌ {A = Result ℕ Given} (Err (given 8 0 0)) (Err (given x i n)) = ap₂ by (sym p) (sym q) ∙ e in
          let z : given 8 0 0 ≡ given x i n = parts_of k in
          let u : 8 ≡ x = ap (λ (s : Given). s.number) z in
          let v : 0 ≡ i = ap (λ (s : Given). s.place) z in
          let w : 0 ≡ n = ap (λ (s : Given). s.length) z in
          (subst (one.NotWrittenOf f ts (length out)) u (one.no_model (ltb-false (length ts) tables_room p) (λ m h. true_false (sym (tables-genuine ts m h) ∙ q))), sym v, sym w)

      not-genuine : ((m : Model) → Tables ts m → ⊥) → (b : Bool) → genuine ts ≡ b → b ≡ false
      not-genuine h true q = let o = owner ts q in absurd (h o.tree o.tables)
      not-genuine h false q = refl

      kept : {y : ℕ} → one.NotWrittenOf f ts (length out) y → tables_answer g ts out ≡ Err (given y 0 0)
      kept (one.too_small h) = rw (lt-ltb (length ts) tables_room h) refl
      kept (one.no_model r h) = ap₂ by (le-ltb (length ts) tables_room r) (not-genuine h (genuine ts) refl)
      kept (one.no_room m r h k) =
          ap₂ by (le-ltb (length ts) tables_room r) (tables-genuine ts m h) ∙ seven_kept (g (written ts)) out (omega (arith, k, ap length (tables_are ts m h)))

      from : one.NotWrittenOf f ts (length out) x × (i ≡ 0) × (n ≡ 0) → tables_answer g ts out ≡ Err (given x i n)
      from (r, a, b) = kept r ∙ ap₂ (λ (j m : ℕ). refusing ℕ (given x j m)) (sym a) (sym b)

  tables_writer : (ts : List ℕ) → TablesWriter f ts (tables_answer g ts) (tables_left g ts)
  tables_writer ts = record { refuses = from_refuses ts; unchanged = λ out x i n e. put-kept (tables_answer g ts out) (g (written ts)) out x i n e }

pub demand1 : one.Demand1
demand1 =
    record {
      reader = reader;
      writer = writer normal normal_of normal_is;
      tables_writer = tables_writer normal normal_of normal_is;
      layout_writer = writer layout layout_of layout_is;
      tables_layout_writer = tables_writer layout layout_of layout_is;
      stepper = stepper;
      replay = trail_refused;
    }
