-- A TEXT IS ACCEPTED EXACTLY WHEN IT HAS NO FAULT AND ITS TREE IS MODEST, from what the rules say of every tree: both directions.
use Prim.Native.Nat.{ℕ, ◌≤◌}
use native.Mathlib.Omega.{arith}
use mathlib.Core.Path.{◌≡◌, refl, sym as inv, ap, ◌∙◌}
use mathlib.Core.Option.{none}
use mathlib.Core.Bool.{Bool, true, false, not}
use mathlib.Core.List.{List, [], map}
use lib.ListN.{length}
use lib.Dec.{ltb}
use borrow.Author.Tests.{le-ltb}
use Rattle.base_ceilings.specs.Ceilings.{items_most, normal_most, tables_room}
use Rattle.base_bytes.specs.Choice.{pick}
use Rattle.base_bytes.proofs.Tests.{true_false}
use Rattle.base_kinds.specs.Kinds.{Token}
use Rattle.spec_grammar.specs.Tree.{Model}
use Rattle.spec_grammar.specs.Grammar.{Gram}
use Rattle.spec_text.specs.Writing.{tokens_in}
use Rattle.parse_machine.specs.Machine.{place_of}
use Rattle.parse_machine.specs.Answer.{parsed}
use Rattle.parse_machine.proofs.Main.{accepts}
use Rattle.rule_least.specs.Faults.{checked}
use Rattle.rule_least.specs.declared.Fault.TheVariants.{None}
use Rattle.std.specs.Prelude.{Ok, Err, Result}
use Rattle.base_refusal.specs.declared.Refusal.{Refusal}
use Rattle.base_refusal.specs.Refusals.{refusal}
use Rattle.read_passes.specs.Judging.{judge_of}
use Rattle.read_accepts_proof.specs.Meaning.{Accepts, Grammatical, codes_of, said}
use Rattle.read_accepts_proof.proofs.Main.{kinds_are, all_proper, short, accepted_means, means_accepted}
use Rattle.read_accepts_proof.proofs.Alike.{overlong_is, accepted_slim}
use Rattle.read_entry.specs.Entries.{read_of}
use Rattle.spec_normal.specs.Normal.{normal}
use Rattle.spec_faults.specs.Faults.{faults_of}
use Rattle.spec_rules.specs.Ceilings as ceilings
use Rattle.legal_terms.specs.Says.{Says}
use Rattle.spec_text.specs.Placed.{Placed}
use Rattle.text_tokens.specs.Reading.{tokens, reading}
use Rattle.text_spacing_proof.proofs.Exact.{reading_exact}
use Rattle.spec_grammar.specs.Depth.{too_deep}
use Rattle.spec_refusals.specs.Texts.{Tokens}
use Rattle.spec_refusals.specs.Legal.{Legal}
use Rattle.legal_items.proofs.Says.{text_says}
use Rattle.legal_items.proofs.Modest.{passed-modest}

denied : (b : Bool) → not b ≡ false → b ≡ true
denied true e = refl
denied false e = absurd (true_false e)

-- the tokens of a text are those of its layout
pub laid-tokens : (t : List ℕ) (ps : List Placed) → reading t ≡ tokens ps → Tokens t ps
laid-tokens t ps e = let (l, h, k) = (reading_exact t ps).0 e in record { laid = l; short = h; few = k }

pub tokens-read : (t : List ℕ) (ps : List Placed) → Tokens t ps → reading t ≡ tokens ps
tokens-read t ps l = (reading_exact t ps).1 (l.laid, l.short, l.few)

-- the first half of what acceptance means
pub accepted_parses : (t : List ℕ) → Accepts t → Grammatical t
accepted_parses t a = record { parts = a.parts; reads = a.reads; tree = a.tree; gram = a.gram; shallow = a.shallow; numbers = a.numbers; written = a.written; coded = a.coded }

-- a text with a tree that is not too deep has its items
unfoldable pub text_parses : (t : List ℕ) (ps : List Placed) (m : Model) → Tokens t ps → Gram (tokens_in t ps) m → too_deep (tokens_in t ps) ≡ none → Grammatical t
text_parses t ps m l g d =
    let ts = tokens_in t ps in
    let r = tokens-read t ps l in
    let (o, h, c) = accepts ts (all_proper t ps) (short t ps r) items_most (omega arith) m g d in
    record { parts = ps; reads = r; tree = m; gram = g; shallow = d; numbers = o; written = ap (λ (ks : List ℕ). parsed ks items_most) (inv (kinds_are t ps)) ∙ h; coded = c }

pub legal_parses : (t : List ℕ) → Legal t → Grammatical t
legal_parses t l = text_parses t l.parts l.tree l.reads l.gram l.shallow

-- what the rules say of every tree
module _ (rules : (m : Model) (ts : List Token) (g : Gram ts m) (cs vs toks : List ℕ) → Says m cs vs → (checked cs vs toks ≡ None → faults_of g ≡ []) × (faults_of g ≡ [] → checked cs vs toks ≡ None)) where
  pub accepted_lawful : (t : List ℕ) → judge_of t ≡ Ok tt → Legal t
  unfolding accepted_parses
  accepted_lawful t q =
      let a = accepted_means t q in
      let p = accepted_parses t a in
      let s = text_says t p in
      record {
        parts = a.parts;
        reads = laid-tokens t a.parts a.reads;
        tree = a.tree;
        gram = a.gram;
        shallow = a.shallow;
        faultless = (rules a.tree (tokens_in t a.parts) a.gram (codes_of t p) (said t p) (map place_of a.numbers) s).0 a.faultless;
        modest = denied (ceilings.modest a.tree) (inv (passed-modest a.tree (codes_of t p) (said t p) s) ∙ a.within);
        slim = accepted_slim t a;
      }

  pub lawful_accepted : (t : List ℕ) → Legal t → judge_of t ≡ Ok tt
  unfolding legal_parses text_parses
  lawful_accepted t l =
      let p = legal_parses t l in
      let s = text_says t p in
      means_accepted t
      record {
        parts = p.parts;
        reads = p.reads;
        tree = p.tree;
        gram = p.gram;
        shallow = l.shallow;
        numbers = p.numbers;
        written = p.written;
        coded = p.coded;
        faultless = (rules p.tree (tokens_in t p.parts) p.gram (codes_of t p) (said t p) (map place_of p.numbers) s).1 l.faultless;
        within = passed-modest p.tree (codes_of t p) (said t p) s ∙ ap not l.modest;
        slim = overlong_is t p.parts p.tree p.reads p.gram p.numbers p.written p.coded ∙ le-ltb normal_most (length (normal p.tree)) l.slim;
      }

  -- the same of the reader's entry, whose tables are lent with room or refused
  pub read-lawful : (t old : List ℕ) → read_of t old ≡ Ok tt → Legal t
  unfolding read_of
  read-lawful t old q = go (ltb (length old) tables_room) q
    where
      go : (b : Bool) → pick {A = Result (Unit {0}) Refusal} b (Err (refusal 7 0 0)) (judge_of t) ≡ Ok tt → Legal t
      go true e = absurd (let z : ◌≡◌ {A = ℕ} 0 1 = cc in omega arith)
      go false e = accepted_lawful t e

  pub lawful-read : (t old : List ℕ) → tables_room ≤ length old → Legal t → read_of t old ≡ Ok tt
  unfolding read_of
  lawful-read t old h l = rw (le-ltb (length old) tables_room h) (lawful_accepted t l)
