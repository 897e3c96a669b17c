-- THE READER ACCEPTS EXACTLY THE TEXTS WITH A TREE that is not too deep, whose items have no fault and pass no ceiling, and whose normal text is not too long: both directions. Assumes nothing.
use Prim.Native.Nat.{ℕ, ◌≤◌, ◌<◌}
use native.Mathlib.Omega.{arith}
use mathlib.Core.Path.{◌≡◌, refl, sym as inv, ap, ◌∙◌, subst}
use mathlib.Core.Logic.{◌⊎◌, inl, inr}
use native.Mathlib.Decide.{ℕ_discrete}
use borrow.Author.Tests.{ne_eqb}
use mathlib.Core.List.{List, [], ◌∷◌, map}
use mathlib.Core.Bool.{Bool, true, false}
use lib.ListN.{length, replicate, length-map}
use lib.Dec.{ltb}
use Rattle.base_ceilings.specs.Ceilings.{items_most, normal_most, tokens_most}
use Rattle.parse_machine.proofs.Never.{lt_or_ge}
use Rattle.base_bytes.specs.Choice.{pick, both}
use Rattle.base_kinds.specs.Kinds.{sym, kind_of}
use Rattle.text_tokens.specs.Reading.{Reading, tokens, refused, reading}
use Rattle.spec_text.specs.Placed.{Placed}
use Rattle.spec_text.specs.Writing.{token_of, token_in, part_of, tokens_in}
use Rattle.text_spacing_proof.proofs.Exact.{reading_exact}
use Rattle.parse_machine.specs.Answer.{Answer, items, refuse, parsed}
use Rattle.parse_machine.specs.Items.{Proper, AllProper}
use Rattle.parse_machine.proofs.Main.{items-mean}
use Rattle.parse_machine.specs.Machine.{symbol_of, place_of}
use Rattle.rule_least.specs.Faults.{checked}
use Rattle.rule_ceilings.specs.Ceilings.{passed}
use Rattle.write_length.specs.Overlong.{overlong}
use Rattle.rule_least.specs.declared.Fault.{Fault}
use Rattle.rule_least.specs.declared.Fault.TheVariants.{None, At}
use Rattle.std.specs.Prelude.{Result, Ok, Err}
use Rattle.base_refusal.specs.declared.Refusal.{Refusal}
use Rattle.base_refusal.specs.Refusals.{refusal}
use Rattle.read_passes.specs.Judging.{ruled, by_rules, grammatical, by_grammar, lexical, pass_of, laid, tables_text, wide_room, front, is_wide, wide_text, judge_of}
use Rattle.read_accepts_proof.specs.Meaning.{Grammatical, said, Accepts}
use Rattle.base_codes.specs.Codes.{c_name, c_number, c_text}

-- ---- a token has its kind, and only names, numbers and strings have theirs
pub record Known (k : ℕ) (x : List ℕ) : Type 0 where
  pub kind : kind_of (token_of k x) ≡ k
  pub proper : Proper (token_of k x)

pub known : (k : ℕ) (x : List ℕ) → Known k x
known k x = go (ℕ_discrete k c_name) (ℕ_discrete k c_number) (ℕ_discrete k c_text)
  where
    go : Dec (k ≡ c_name) → Dec (k ≡ c_number) → Dec (k ≡ c_text) → Known k x
    go (yes e) b c = rw e record { kind = refl; proper = tt }
    go (no a) (yes e) c = rw e record { kind = refl; proper = tt }
    go (no a) (no b) (yes e) = rw e record { kind = refl; proper = tt }
    go (no a) (no b) (no c) =
        let e : token_of k x ≡ sym k = rw (ne_eqb k c_name a, ne_eqb k c_number b, ne_eqb k c_text c) in
        record { kind = ap kind_of e; proper = subst Proper (inv e) (out (lt_or_ge k c_name)) }
      where
        out : (k < c_name) ⊎ (c_name ≤ k) → (k < c_name) ⊎ (c_text < k)
        out (inl h) = inl h
        out (inr h) = inr (omega (arith, a, b, c))

pub kinds_are : (t : List ℕ) (ps : List Placed) → map kind_of (tokens_in t ps) ≡ map Placed.kind ps
kinds_are t [] = refl
kinds_are t (p ∷ ps) = rw ((known p.kind (part_of t p)).kind, kinds_are t ps)

pub all_proper : (t : List ℕ) (ps : List Placed) → AllProper (tokens_in t ps)
all_proper t [] = tt
all_proper t (p ∷ ps) = ((known p.kind (part_of t p)).proper, all_proper t ps)

-- ---- what the passes say: a text with a tree whose items have no fault and pass no ceiling
abbrev pub Passes : List ℕ → Type 0
Passes t = (g : Grammatical t) × (checked (map symbol_of g.numbers) (said t g) (map place_of g.numbers) ≡ None) × (passed (map symbol_of g.numbers) (said t g) ≡ false)

module _ (t : List ℕ) where
  from_rules : (ps : List Placed) (f : Fault) (over : Bool) → ruled (length t) (map Placed.start ps) (map Placed.end ps) f over ≡ Ok tt → (f ≡ None) × (over ≡ false)
  from_rules ps None true e = absurd (let z : ◌≡◌ {A = ℕ} 0 1 = cc in omega arith)
  from_rules ps None false e = (refl, refl)
  from_rules ps (At x k) over e = absurd (let z : ◌≡◌ {A = ℕ} 0 1 = cc in omega arith)

  pub short : (ps : List Placed) → reading t ≡ tokens ps → length (tokens_in t ps) ≤ tokens_most
  short ps e = omega (arith, length-map ps (token_in t), ((reading_exact t ps).0 e).2)

  from_grammar : (ps : List Placed) → reading t ≡ tokens ps → (a : Answer) → parsed (map Placed.kind ps) items_most ≡ a
      → grammatical t (map Placed.start ps) (map Placed.end ps) a ≡ Ok tt → Passes t
  unfolding by_rules
  from_grammar ps e (refuse x k) h q = absurd (let z : ◌≡◌ {A = ℕ} 0 1 = cc in omega arith)
  from_grammar ps e (items o) h q =
      let (m, g, c, d) = items-mean (tokens_in t ps) (all_proper t ps) (short ps e) items_most (omega arith) o (ap (λ ks. parsed ks items_most) (kinds_are t ps) ∙ h) in
      let (f, w) = from_rules ps _ _ q in
      (record { parts = ps; reads = e; tree = m; gram = g; shallow = d; numbers = o; written = h; coded = c }, f, w)

  from-reading : (r : Reading) → reading t ≡ r → lexical t r ≡ Ok tt → Passes t
  unfolding by_grammar
  from-reading (refused x i n) e q = absurd (let z : ◌≡◌ {A = ℕ} 0 1 = cc in omega arith)
  from-reading (tokens ps) e q = from_grammar ps e (parsed (map Placed.kind ps) items_most) refl q

  -- what all passes let through, but for the length of the normal text
  pub pass_means : pass_of t ≡ Ok tt → Passes t
  pass_means q = from-reading (reading t) refl q

  pub means_pass : Passes t → pass_of t ≡ Ok tt
  unfolding by_grammar by_rules
  means_pass (g, f, w) = rw (g.reads, g.written, f, w)

  -- refused by a pass, refused
  pub refused_stays : (x i n : ℕ) → pass_of t ≡ Err (refusal x i n) → judge_of t ≡ Err (refusal x i n)
  unfolding wide_text
  refused_stays x i n q = rw q (go (ltb normal_most (length t)))
    where
      go : (b : Bool) → pick {A = Result (Unit {0}) Refusal} (both b false) (Err (refusal 6 0 0)) (Err (refusal x i n)) ≡ Err (refusal x i n)
      go true = refl
      go false = refl

  -- let through by all passes, it is refused exactly where its normal text is too long
  pub let_through : pass_of t ≡ Ok tt → judge_of t ≡ pick (both (ltb normal_most (length t)) (overlong (front (laid (tables_text t) (replicate wide_room 0))))) (Err (refusal 6 0 0)) (Ok tt)
  unfolding wide_text
  let_through q = ap (λ (j : Result (Unit {0}) Refusal). pick (both (ltb normal_most (length t)) (is_wide j (tables_text t))) (Err (refusal 6 0 0)) j) q

  pub accepted_means : judge_of t ≡ Ok tt → Accepts t
  accepted_means q = go (pass_of t) refl
    where
      slims : (b : Bool) → pick {A = Result (Unit {0}) Refusal} b (Err (refusal 6 0 0)) (Ok tt) ≡ Ok tt → b ≡ false
      slims true e = absurd (let z : ◌≡◌ {A = ℕ} 0 1 = cc in omega arith)
      slims false e = refl

      go : (j : Result (Unit {0}) Refusal) → pass_of t ≡ j → Accepts t
      go (Err r) h = absurd (let f : Err r ≡ (Ok tt) = inv (refused_stays r.number r.place r.length h) ∙ q in let z : ◌≡◌ {A = ℕ} 0 1 = cc in omega arith)
      go (Ok u) h =
          let (g, f, w) = pass_means h in
          record {
            parts = g.parts;
            reads = g.reads;
            tree = g.tree;
            gram = g.gram;
            shallow = g.shallow;
            numbers = g.numbers;
            written = g.written;
            coded = g.coded;
            faultless = f;
            within = w;
            slim = slims _ (inv (let_through h) ∙ q);
          }

  pub means_accepted : Accepts t → judge_of t ≡ Ok tt
  means_accepted a =
      let g : Grammatical t = record { parts = a.parts; reads = a.reads; tree = a.tree; gram = a.gram; shallow = a.shallow; numbers = a.numbers; written = a.written; coded = a.coded } in
      let_through (means_pass (g, a.faultless, a.within)) ∙ rw a.slim
