-- The tables of an accepted text hold its items, what their tokens say and their links.
use Prim.Native.Nat.{ℕ, zero, suc, ◌+◌, ◌≤◌, ◌<◌, min}
use mathlib.Core.Path.{◌≡◌, refl, sym, ap, subst, ◌∙◌}
use mathlib.Core.Bool.{Bool, true, false}
use mathlib.Core.List.{List, [], map, append-nil}
use native.Mathlib.Omega.{arith}
use lib.ListN.{length, get_or, replicate, length-replicate}
use lib.Dec.{ltb}
use borrow.Author.Tests.{le-ltb, ltb-false}
use Rattle.base_ceilings.specs.Ceilings.{items_most, text_most}
use Rattle.base_bytes.specs.Choice.{pick}
use Rattle.base_bytes.proofs.Tests.{true_false}
use Rattle.spec_text.specs.Placed.{Placed}
use Rattle.text_spacing_proof.proofs.Exact.{reading_exact}
use Rattle.parse_machine.specs.Machine.{symbol_of, place_of}
use Rattle.rule_sheets.specs.Homes.{homes_of}
use Rattle.rule_sheets.specs.Payload.{spelled, arg_of, args_of}
use Rattle.rule_sheets.proofs.Meaning.{filled_at}
use Rattle.rule_ceilings.specs.Ceilings.{passed, any_passed}
use Rattle.table_entries.specs.Entry.{Entry, nothing, runs}
use Rattle.table_entries.specs.Sources.{value_of, entry_at, entries_of}
use Rattle.table_layout.specs.Tables.{tables_of}
use Rattle.table_layout.specs.Trees.{entries_in}
use Rattle.table_layout.specs.Access.{items_of, code_of, link_of, number_of}
use Rattle.table_layout.specs.Back.{AllFair}
use Rattle.table_layout.proofs.Holds.{holds-items, holds-code, holds_link, holds-number}
use Rattle.table_proof.proofs.Accepted.{accepted_fair}
use Rattle.table_proof.proofs.Built.{accepted_entries}
use Rattle.table_proof.proofs.Wrote.{machine-right}
use Rattle.read_passes.specs.Judging.{payload, tables_from, tables_at, tables_text}
use Rattle.read_accepts_proof.specs.Meaning.{Accepts, links_at}
use Rattle.read_accepts_proof.proofs.Alike.{parsed_done}
use Rattle.keep_tables.specs.Held.{Held}
use Rattle.base_codes.specs.Codes.{c_number}
use Rattle.table_entries.proofs.Runs.{runs_at}

runs-length : (f : ℕ → Entry) (i k : ℕ) → length (runs f i k) ≡ k
unfolding runs
runs-length f i zero = refl
runs-length f i (suc k) = ap suc (runs-length f (i + 1) k)

pub few_items : (cs vs : List ℕ) → passed cs vs ≡ false → length cs ≤ items_most
unfolding passed
few_items cs vs e = go (ltb items_most (length cs)) refl (any_passed cs vs (homes_of cs (replicate items_most 0))) e
  where
    go : (b : Bool) → ltb items_most (length cs) ≡ b → (x : Bool) → pick b true x ≡ false → length cs ≤ items_most
    go true h x q = absurd (true_false q)
    go false h x q = ltb-false items_most (length cs) h

module _ (t : List ℕ) (a : Accepts t) where
  abbrev pub ss : List ℕ
  ss = map Placed.start a.parts

  abbrev pub es : List ℕ
  es = map Placed.end a.parts

  abbrev pub codes_at : List ℕ
  codes_at = map symbol_of a.numbers

  abbrev pub ks : List ℕ
  ks = map place_of a.numbers

  abbrev pub said_at : List ℕ
  said_at = payload t ss es codes_at ks

  few : length codes_at ≤ items_most
  few = few_items codes_at said_at a.within

  pub entries_are : entries_of t ss es codes_at ks ≡ entries_in a.tree
  entries_are =
      rw (← append-nil ss, ← append-nil es, ← append-nil ks) (accepted_entries t a.parts a.tree a.reads a.gram [] [] [] symbol_of place_of a.numbers
      (machine-right a.parts a.numbers ((reading_exact t a.parts).0 a.reads).2 (parsed_done (map Placed.kind a.parts) a.numbers a.written)) a.coded)

  entries-fair : AllFair (entries_of t ss es codes_at ks)
  entries-fair = subst AllFair (sym entries_are) (accepted_fair t a.parts a.tree a.reads a.gram)

  tables_are : tables_text t ≡ tables_of (entries_of t ss es codes_at ks) (links_at t a)
  unfolding tables_at tables_from
  tables_are = rw (a.reads, a.written)

  pub entries-length : length (entries_of t ss es codes_at ks) ≡ length codes_at
  unfolding entries_of
  entries-length = runs-length (entry_at t ss es codes_at ks) 0 (min items_most (length codes_at)) ∙ (let f = few in let e : min items_most (length codes_at) ≡ length codes_at = omega arith in e)

  pub entry_is : (i : ℕ) → i < length codes_at → get_or (entries_of t ss es codes_at ks) i nothing ≡ entry_at t ss es codes_at ks i
  unfolding entries_of
  entry_is i h = let f = few in runs_at (entry_at t ss es codes_at ks) 0 (min items_most (length codes_at)) i (omega arith) ∙ ap (entry_at t ss es codes_at ks) (let e : 0 + i ≡ i = omega arith in e)

  pub entry-code : (i : ℕ) → (entry_at t ss es codes_at ks i).code ≡ get_or codes_at i 0
  unfolding entry_at
  entry-code i = refl

  said : (i : ℕ) → i < length codes_at → get_or said_at i 0 ≡ arg_of t ss es codes_at ks i
  unfolding args_of
  said i h =
      let l = ((reading_exact t a.parts).0 a.reads).1 in
      let f = few in
      rw (le-ltb text_most (length t) l, le-ltb items_most (length codes_at) f)
      (filled_at (arg_of t ss es codes_at ks) 0 (length codes_at) (replicate items_most 0) i (omega arith) (omega arith) (omega (arith, length-replicate {A = ℕ} items_most 0)))

  entry_value : (i : ℕ) → get_or codes_at i 0 ≡ c_number → (entry_at t ss es codes_at ks i).value ≡ arg_of t ss es codes_at ks i
  unfolding entry_at value_of arg_of spelled
  entry_value i e = rw e

  pub text-held : Held (tables_text t) codes_at said_at (links_at t a)
  text-held =
      record {
        few = few;
        items = ap items_of tables_are ∙ holds-items (entries_of t ss es codes_at ks) (links_at t a) ∙ entries-length;
        codes = λ i h.
            ap (λ T. code_of T i) tables_are ∙ holds-code (entries_of t ss es codes_at ks) (links_at t a) entries-fair i (let e = entries-length in omega arith) ∙ ap (λ x. x.code) (entry_is i h) ∙ entry-code i;
        links = λ i h. ap (λ T. link_of T i) tables_are ∙ holds_link (entries_of t ss es codes_at ks) (links_at t a) entries-fair i (let e = entries-length in omega arith);
        numbers = λ i h c.
            ap (λ T. number_of T i) tables_are
            ∙ holds-number (entries_of t ss es codes_at ks) (links_at t a) entries-fair i (let e = entries-length in omega arith) (ap (λ x. x.code) (entry_is i h) ∙ entry-code i ∙ c)
            ∙ ap (λ x. x.value) (entry_is i h) ∙ entry_value i c ∙ sym (said i h);
      }
