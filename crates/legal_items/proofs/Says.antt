-- THE ITEMS OF A TEXT WITH A TREE SAY WHAT THE TREE SAYS: their codes are those of the tree's code, two names say the same exactly where they are the same, numbers say their value and
-- strings what their format asks for.
use Prim.Native.Nat.{ℕ, zero, suc, ◌+◌, ◌-◌, ◌≤◌, ◌<◌, min}
use native.Mathlib.Omega.{arith}
use mathlib.Core.Path.{◌≡◌, refl, sym as inv, ap, ap₂, ◌∙◌}
use mathlib.Core.Bool.{Bool, true, false}
use mathlib.Core.Logic.{◌⊎◌, inl, inr}
use mathlib.Core.List.{List, [], ◌∷◌, ◌++◌, map, append-nil}
use lib.ListN.{length, get_or, replicate, length-map, length-replicate}
use lib.Seq.{ext_get_or}
use lib.Dec.{eqb}
use borrow.Author.Tests.{le-ltb, eq-eqb, ne_eqb}
use Rattle.base_ceilings.specs.Ceilings.{items_most, number_most, text_most}
use Rattle.base_bytes.specs.Choice.{pick}
use Rattle.base_bytes.specs.Lists.{same}
use Rattle.base_bytes.proofs.Lists.{same_refl, same_eq}
use Rattle.base_bytes.proofs.Tests.{true_false}
use Rattle.spec_text.specs.Bytes.{quote}
use Rattle.spec_text.specs.Digits.{decimal}
use Rattle.spec_text.specs.Placed.{Placed}
use Rattle.spec_text.specs.Writing.{tokens_in}
use Rattle.text_spacing_proof.proofs.Exact.{reading_exact}
use Rattle.spec_grammar.specs.Tree.{Name}
use Rattle.parse_machine.specs.Machine.{symbol_of, place_of}
use Rattle.parse_machine.specs.Items.{read}
use Rattle.parse_machine.proofs.Never.{lt_or_ge}
use Rattle.table_entries.specs.Entry.{Entry, nothing}
use Rattle.table_entries.specs.Sources.{entry_at, entries_of, value_of}
use Rattle.table_entries.specs.Items.{entry_of}
use Rattle.table_entries.proofs.Runs.{length_runs, runs_at}
use Rattle.table_layout.specs.Trees.{entries_in}
use Rattle.rule_sheets.specs.Walks.{first}
use Rattle.rule_sheets.specs.Payload.{word_of, same_name, first_same, name_arg, arg_of, args_of, spelled}
use Rattle.spec_text.specs.Formats.{format_from, format_of, move_of}
use Rattle.spec_text.specs.Names.{pid}
use Rattle.rule_sheets.proofs.Meaning.{filled_at}
use Rattle.table_proof.specs.Read.{Right}
use Rattle.table_proof.proofs.Read.{get_only}
use Rattle.table_proof.proofs.Accepted.{accepted_known, accepted_items}
use Rattle.table_proof.proofs.Built.{accepted_entries}
use Rattle.table_proof.proofs.Wrote.{machine-right}
use Rattle.read_accepts_proof.proofs.Alike.{parsed_done, name-says, text_says as string-says}
use Rattle.agree_eval.proofs.Lookups.{first_reached}
use Rattle.legal_terms.specs.Says.{item_at, Says}
use Rattle.base_codes.specs.Codes.{c_name, c_number, c_text}
use Rattle.base_codes.specs.Items.{Item, code_of, i_name, i_number, i_plain, i_text}
use Rattle.parse_code.specs.Code.{code}
use Rattle.read_accepts_proof.specs.Meaning.{Grammatical, codes_of, said}

-- ---- lists
-- the first that passes does pass
first_passes : (p : ℕ → Bool) (i k : ℕ) → p (i + k) ≡ true → p (first p i k) ≡ true
unfolding first
first_passes p i zero e = ap p (let z : i ≡ i + 0 = omega arith in z) ∙ e
first_passes p i (suc k) e = go (p i) refl (first_passes p (i + 1) k (ap p (let z : i + 1 + k ≡ i + suc k = omega arith in z) ∙ e))
  where
    go : (b : Bool) → p i ≡ b → p (first p (i + 1) k) ≡ true → p (pick b i (first p (i + 1) k)) ≡ true
    go true h r = h
    go false h r = r

-- ---- formats: quotes are bytes like any other, but a `%` before the closing one is bad as one at the end is
format_end : (opened : Bool) (n bad : ℕ) (s : List ℕ) → format_from opened n bad (s ++ quote ∷ []) ≡ format_from opened n bad s
unfolding format_from
format_end true n bad [] = omega arith
format_end false n bad [] = omega arith
format_end opened n bad (b ∷ s) = format_end (eqb (move_of opened b) 1) (n + pick (eqb (move_of opened b) 2) 1 0) (pick (eqb (move_of opened b) 3) 1 bad) s

format-quoted : (s : List ℕ) → format_of (quote ∷ (s ++ quote ∷ [])) ≡ format_of s
unfolding format_from
format-quoted s = format_end false 0 0 s

-- ---- the text
module _ (t : List ℕ) (p : Grammatical t) where
  abbrev ss : List ℕ
  ss = map Placed.start p.parts

  abbrev es : List ℕ
  es = map Placed.end p.parts

  abbrev ks : List ℕ
  ks = map place_of p.numbers

  abbrev xs : List Item
  xs = code p.tree

  abbrev cs : List ℕ
  cs = codes_of t p

  right : (j : ℕ) → j < length p.numbers → Right p.parts (symbol_of (get_or p.numbers j 0)) (place_of (get_or p.numbers j 0))
  right = machine-right p.parts p.numbers ((reading_exact t p.parts).0 p.reads).2 (parsed_done (map Placed.kind p.parts) p.numbers p.written)

  entries_are : entries_of t ss es cs ks ≡ entries_in p.tree
  entries_are =
      rw (← append-nil ss, ← append-nil es, ← append-nil ks) (accepted_entries t p.parts p.tree p.reads p.gram [] [] [] symbol_of place_of p.numbers right p.coded)

  entries_long : length (entries_in p.tree) ≡ min items_most (length cs)
  unfolding entries_of
  entries_long = ap length (inv entries_are) ∙ length_runs (entry_at t ss es cs ks) 0 (min items_most (length cs))

  long : length cs ≡ length xs
  long = length-map p.numbers symbol_of ∙ inv (length-map p.numbers (read (tokens_in t p.parts))) ∙ ap length p.coded

  few : length cs ≤ items_most
  few = omega (arith, entries_long, accepted_items t p.parts p.tree p.reads p.gram)

  entry_is : (j : ℕ) → j < length cs → entry_at t ss es cs ks j ≡ entry_of (item_at xs j)
  unfolding entries_of
  entry_is j h =
      inv (runs_at (entry_at t ss es cs ks) 0 (min items_most (length cs)) j (omega (arith, few)) ∙ ap (entry_at t ss es cs ks) (let z : 0 + j ≡ j = omega arith in z))
      ∙ ap (λ (l : List Entry). get_or l j nothing) entries_are ∙ get_only entry_of xs j i_plain nothing (omega (arith, long))

  code_is : (j : ℕ) → j < length cs → get_or cs j 0 ≡ code_of (item_at xs j)
  unfolding entry_at
  code_is j h = ap Entry.code (entry_is j h)

  codes_are : cs ≡ map code_of xs
  codes_are = ext_get_or 0 cs (map code_of xs) (long ∙ inv (length-map xs code_of)) (λ j h. code_is j h ∙ inv (get_only code_of xs j i_plain 0 (omega (arith, long))))

  -- ---- what an item says
  said_is : (j : ℕ) → j < length cs → get_or (said t p) j 0 ≡ arg_of t ss es cs ks j
  unfolding args_of
  said_is j h =
      rw (le-ltb text_most (length t) ((reading_exact t p.parts).0 p.reads).1, le-ltb items_most (length cs) few)
      (filled_at (arg_of t ss es cs ks) 0 (length cs) (replicate items_most 0) j (omega arith) (omega arith) (omega (arith, few, length-replicate items_most zero)))

  name-said : (j : ℕ) → j < length cs → get_or cs j 0 ≡ c_name → get_or (said t p) j 0 ≡ name_arg t ss es cs ks j
  unfolding arg_of
  name-said j h e = said_is j h ∙ rw (eq-eqb (get_or cs j 0) c_name e)

  number-said : (j n : ℕ) → j < length cs → item_at xs j ≡ i_number n → get_or (said t p) j 0 ≡ n
  unfolding arg_of entry_at value_of spelled
  number-said j n h i =
      let e = code_is j h ∙ ap code_of i in
      let v : pick (eqb (get_or cs j 0) c_number) (min (number_most + 1) (decimal (word_of t ss es cs ks j))) 0 ≡ n = ap Entry.value (entry_is j h) ∙ ap (λ x. (entry_of x).value) i in
      said_is j h ∙ rw (ne_eqb (get_or cs j 0) c_name (λ z. omega arith), eq-eqb (get_or cs j 0) c_number e) (inv (rw (eq-eqb (get_or cs j 0) c_number e)) ∙ v)

  -- the number of an item, and its token
  module _ (j : ℕ) (h : j < length cs) where
    within : j < length p.numbers
    within = omega (arith, length-map p.numbers symbol_of)

    symbol_is : (c : ℕ) → get_or cs j 0 ≡ c → symbol_of (get_or p.numbers j 0) ≡ c
    symbol_is c e = inv (get_only symbol_of p.numbers j 0 0 within) ∙ e

    item-read : item_at xs j ≡ read (tokens_in t p.parts) (get_or p.numbers j 0)
    item-read = ap (λ (l : List Item). get_or l j i_plain) (inv p.coded) ∙ get_only (read (tokens_in t p.parts)) p.numbers j 0 i_plain within

    place_is : spelled t ss es (get_or ks j 0) ≡ spelled t ss es (place_of (get_or p.numbers j 0))
    place_is = ap (spelled t ss es) (get_only place_of p.numbers j 0 0 within)

    word_is : (w : Name) → item_at xs j ≡ i_name w → word_of t ss es cs ks j ≡ w
    word_is w i =
        place_is ∙ name-says t p.parts p.reads (get_or p.numbers j 0) (symbol_is c_name (code_is j h ∙ ap code_of i)) (right j within) ∙ ap (λ x. (entry_of x).bytes) (inv item-read ∙ i)

    string_is : (w : List ℕ) → item_at xs j ≡ i_text w → word_of t ss es cs ks j ≡ quote ∷ (w ++ quote ∷ [])
    string_is w i =
        place_is ∙ string-says t p.parts p.reads (get_or p.numbers j 0) (symbol_is c_text (code_is j h ∙ ap code_of i)) (right j within)
        ∙ ap (λ x. quote ∷ ((entry_of x).bytes ++ quote ∷ [])) (inv item-read ∙ i)

  string_said : (j : ℕ) (w : List ℕ) → j < length cs → item_at xs j ≡ i_text w → get_or (said t p) j 0 ≡ format_of w
  unfolding arg_of
  string_said j w h i =
      let e = code_is j h ∙ ap code_of i in
      said_is j h ∙ rw e (ap format_of (string_is j h w i) ∙ format-quoted w)

  -- ---- names
  pid-said : (j : ℕ) (w : Name) → j < length cs → item_at xs j ≡ i_name w → eqb (get_or (said t p) j 0) 0 ≡ same w pid
  unfolding name_arg
  pid-said j w h i =
      ap (λ n. eqb n 0) (name-said j h (code_is j h ∙ ap code_of i) ∙ ap (λ (u : List ℕ). pick (same u pid) 0 (first_same t ss es cs ks j + 1)) (word_is j h w i)) ∙ go (same w pid)
    where
      go : (b : Bool) → eqb (pick b 0 (first_same t ss es cs ks j + 1)) 0 ≡ b
      go true = refl
      go false = ne_eqb (first_same t ss es cs ks j + 1) 0 (λ e. omega arith)

  passes : (f j : ℕ) → get_or cs f 0 ≡ c_name → word_of t ss es cs ks f ≡ word_of t ss es cs ks j → same_name t ss es cs ks j f ≡ true
  unfolding same_name
  passes f j e q = rw (eq-eqb (get_or cs f 0) c_name e) (ap (λ (u : List ℕ). same u (word_of t ss es cs ks j)) q ∙ same_refl (word_of t ss es cs ks j))

  passed : (f j : ℕ) → same_name t ss es cs ks j f ≡ true → word_of t ss es cs ks f ≡ word_of t ss es cs ks j
  unfolding same_name
  passed f j e = go (eqb (get_or cs f 0) c_name) e
    where
      go : (b : Bool) → pick b (same (word_of t ss es cs ks f) (word_of t ss es cs ks j)) false ≡ true → word_of t ss es cs ks f ≡ word_of t ss es cs ks j
      go true q = same_eq (word_of t ss es cs ks f) (word_of t ss es cs ks j) q
      go false q = absurd (true_false (inv q))

  -- the first item of item j's name has that name
  first_word : (j : ℕ) → get_or cs j 0 ≡ c_name → word_of t ss es cs ks (first_same t ss es cs ks j) ≡ word_of t ss es cs ks j
  unfolding first_same
  first_word j e = passed _ j (first_passes (same_name t ss es cs ks j) 0 j (ap (same_name t ss es cs ks j) (let z : 0 + j ≡ j = omega arith in z) ∙ passes j j e refl))

  firsts : (f j : ℕ) → word_of t ss es cs ks f ≡ word_of t ss es cs ks j → first (same_name t ss es cs ks f) 0 f ≡ first (same_name t ss es cs ks j) 0 f
  unfolding same_name
  firsts f j q = ap (λ (u : List ℕ). first (λ i. pick (eqb (get_or cs i 0) c_name) (same (word_of t ss es cs ks i) u) false) 0 f) q

  -- two items of one name, the first of them at f
  ordered : (f j : ℕ) → f ≤ j → get_or cs f 0 ≡ c_name → word_of t ss es cs ks f ≡ word_of t ss es cs ks j → first_same t ss es cs ks f ≡ first_same t ss es cs ks j
  unfolding first_same
  ordered f j h e q =
      firsts f j q ∙ inv (ap (first (same_name t ss es cs ks j) 0) (let z : j ≡ f + (j - f) = omega arith in z)
      ∙ first_reached (same_name t ss es cs ks j) 0 f (j - f) (ap (same_name t ss es cs ks j) (let y : 0 + f ≡ f = omega arith in y) ∙ passes f j e q))

  first_equal : (j k : ℕ) → get_or cs j 0 ≡ c_name → get_or cs k 0 ≡ c_name → word_of t ss es cs ks j ≡ word_of t ss es cs ks k → first_same t ss es cs ks j ≡ first_same t ss es cs ks k
  first_equal j k e f q = go (lt_or_ge j k)
    where
      go : (j < k) ⊎ (k ≤ j) → first_same t ss es cs ks j ≡ first_same t ss es cs ks k
      go (inl h) = ordered j k (omega arith) e q
      go (inr h) = inv (ordered k j h f (inv q))

  names-said : (j k : ℕ) (v w : Name) → j < length cs → k < length cs → item_at xs j ≡ i_name v → item_at xs k ≡ i_name w
      → eqb (get_or (said t p) j 0) (get_or (said t p) k 0) ≡ same v w
  unfolding name_arg
  names-said j k v w h g i u =
      let e = code_is j h ∙ ap code_of i in
      let f = code_is k g ∙ ap code_of u in
      ap₂ eqb (name-said j h e ∙ ap (λ (y : List ℕ). pick (same y pid) 0 (first_same t ss es cs ks j + 1)) (word_is j h v i))
      (name-said k g f ∙ ap (λ (y : List ℕ). pick (same y pid) 0 (first_same t ss es cs ks k + 1)) (word_is k g w u)) ∙ go (same v w) refl e f
    where
      by : (b c : Bool) → same v pid ≡ b → same w pid ≡ c → same v w ≡ false → (first_same t ss es cs ks j ≡ first_same t ss es cs ks k → ⊥)
          → eqb (pick b 0 (first_same t ss es cs ks j + 1)) (pick c 0 (first_same t ss es cs ks k + 1)) ≡ false
      by true true x y q n = absurd (true_false (inv (same_refl v) ∙ ap (same v) (same_eq v pid x ∙ inv (same_eq w pid y)) ∙ q))
      by true false x y q n = ne_eqb 0 (first_same t ss es cs ks k + 1) (λ z. omega arith)
      by false true x y q n = ne_eqb (first_same t ss es cs ks j + 1) 0 (λ z. omega arith)
      by false false x y q n = ne_eqb (first_same t ss es cs ks j + 1) (first_same t ss es cs ks k + 1) (λ z. n (omega arith))

      go : (b : Bool) → same v w ≡ b → get_or cs j 0 ≡ c_name → get_or cs k 0 ≡ c_name → eqb (pick (same v pid) 0 (first_same t ss es cs ks j + 1)) (pick (same w pid) 0 (first_same t ss es cs ks k + 1)) ≡ b
      go true q e f =
          let z = same_eq v w q in
          eq-eqb _ _ (ap (λ (y : List ℕ). pick (same y pid) 0 (first_same t ss es cs ks j + 1)) z
          ∙ ap (λ n. pick (same w pid) 0 (n + 1)) (first_equal j k e f (word_is j h v i ∙ z ∙ inv (word_is k g w u))))
      go false q e f =
          by (same v pid) (same w pid) refl refl q
          (λ z. true_false (inv (same_refl v) ∙ ap (same v) (inv (word_is j h v i) ∙ inv (first_word j e) ∙ ap (word_of t ss es cs ks) z ∙ first_word k f ∙ word_is k g w u) ∙ q))

  pub text_says : Says p.tree (codes_of t p) (said t p)
  text_says =
      record {
        known = accepted_known t p.parts p.tree p.reads p.gram;
        codes = codes_are;
        few = few;
        pids = pid-said;
        names = names-said;
        numbers = number-said;
        strings = string_said;
      }
