-- What the name items of an accepted text say, and the bodies that the items of an expression are in.
use Prim.Native.Nat.{ℕ, zero, suc, ◌+◌, ◌-◌, ◌≤◌, ◌<◌}
use native.Mathlib.Omega.{arith}
use mathlib.Core.Path.{◌≡◌, refl, sym as inv, ap, ◌∙◌}
use mathlib.Core.Bool.{Bool, true, false}
use mathlib.Core.List.{List, [], ◌∷◌, map}
use lib.ListN.{length, get_or, replicate, length-map, length-replicate}
use lib.Dec.{eqb}
use borrow.Author.Tests.{le-ltb, eq-eqb, ne_eqb, eqb-true}
use Rattle.base_ceilings.specs.Ceilings.{items_most, text_most}
use Rattle.base_codes.specs.Codes.{c_argument, c_end_body, c_parameter, c_name}
use Rattle.base_bytes.specs.Choice.{pick}
use Rattle.base_bytes.specs.Lists.{same}
use Rattle.base_bytes.proofs.Lists.{same_refl, same_eq}
use Rattle.base_bytes.proofs.Tests.{true_false}
use Rattle.spec_text.specs.Placed.{Placed}
use Rattle.text_spacing_proof.proofs.Exact.{reading_exact}
use Rattle.spec_grammar.specs.Tree.{Name}
use Rattle.parse_machine.specs.Machine.{symbol_of, place_of}
use Rattle.rule_sheets.specs.Walks.{first}
use Rattle.rule_sheets.specs.Payload.{word_of, same_name, first_same, name_arg, arg_of, args_of, spelled}
use Rattle.spec_text.specs.Names.{pid}
use Rattle.rule_sheets.specs.Homes.{inside_of, home_of}
use Rattle.rule_sheets.proofs.Meaning.{filled_at, home_at}
use Rattle.table_proof.proofs.Read.{get_only}
use Rattle.table_proof.proofs.Wrote.{machine-right}
use Rattle.read_accepts_proof.specs.Meaning.{Accepts}
use Rattle.read_accepts_proof.proofs.Alike.{parsed_done, name-says}
use Rattle.agree_eval.specs.Names.{is_name, first_name, codes_at, said_at, homes_at}
use Rattle.agree_eval.proofs.Codes.{codes_few, codes_are}
use Rattle.agree_eval.proofs.Items.{items-count, item-read}
use Rattle.agree_eval.proofs.Lookups.{first_reached}
use Rattle.base_codes.specs.Items.{Item, i_name, i_plain}
use Rattle.parse_code.specs.Code.{code}
use Rattle.table_entries.specs.Items.{entry_of}
use Rattle.base_codes.specs.Items as items

-- ---- the first item that is a name
record First (w : Name) (l : List Item) (m : ℕ) : Type 0 where
  before : first_name w l ≤ m
  coded : items.code_of (get_or l (first_name w l) i_plain) ≡ c_name
  spelt : (entry_of (get_or l (first_name w l) i_plain)).bytes ≡ w

is_name_lem : (w : Name) (x : Item) → is_name w x ≡ true → (items.code_of x ≡ c_name) × ((entry_of x).bytes ≡ w)
is_name_lem w x e = go (eqb (items.code_of x) c_name) refl e
  where
    go : (b : Bool) → eqb (items.code_of x) c_name ≡ b → pick b (same (entry_of x).bytes w) false ≡ true → (items.code_of x ≡ c_name) × ((entry_of x).bytes ≡ w)
    go true h k = (eqb-true (items.code_of x) c_name h, same_eq (entry_of x).bytes w k)
    go false h k = absurd (true_false (inv k))

first_is : (w : Name) (l : List Item) (m : ℕ) → m < length l → get_or l m i_plain ≡ i_name w → First w l m
unfolding first_name
first_is w [] m h e = absurd (omega arith)
first_is w (x ∷ l) zero h e =
    let q : is_name w x ≡ true = ap (is_name w) e ∙ same_refl w in
    let z : first_name w (x ∷ l) ≡ 0 = rw q in
    record { before = omega arith; coded = ap (λ n. items.code_of (get_or (x ∷ l) n i_plain)) z ∙ ap items.code_of e; spelt = ap (λ n. (entry_of (get_or (x ∷ l) n i_plain)).bytes) z ∙ ap (λ y. (entry_of y).bytes) e }
first_is w (x ∷ l) (suc m) h e = go (is_name w x) refl (first_is w l m (omega arith) e)
  where
    go : (b : Bool) → is_name w x ≡ b → First w l m → First w (x ∷ l) (suc m)
    go true q r =
        let z : first_name w (x ∷ l) ≡ 0 = rw q in
        record { before = omega arith; coded = ap (λ n. items.code_of (get_or (x ∷ l) n i_plain)) z ∙ (is_name_lem w x q).0; spelt = ap (λ n. (entry_of (get_or (x ∷ l) n i_plain)).bytes) z ∙ (is_name_lem w x q).1 }
    go false q r =
        let z : first_name w (x ∷ l) ≡ suc (first_name w l) = rw q in
        let b = r.before in
        record { before = omega arith; coded = ap (λ n. items.code_of (get_or (x ∷ l) n i_plain)) z ∙ r.coded; spelt = ap (λ n. (entry_of (get_or (x ∷ l) n i_plain)).bytes) z ∙ r.spelt }

module _ (t : List ℕ) (a : Accepts t) where
  abbrev pub ss : List ℕ
  ss = map Placed.start a.parts

  abbrev pub es : List ℕ
  es = map Placed.end a.parts

  abbrev pub ks : List ℕ
  ks = map place_of a.numbers

  abbrev xs : List Item
  xs = code a.tree

  abbrev C : List ℕ
  C = codes_at t a

  long : length C ≡ length xs
  long = length-map a.numbers symbol_of ∙ items-count t a

  pub code_of_lem : (j : ℕ) → j < length xs → get_or C j 0 ≡ items.code_of (get_or xs j i_plain)
  code_of_lem j h = ap (λ (l : List ℕ). get_or l j 0) (codes_are t a) ∙ get_only items.code_of xs j i_plain 0 h

  -- what a name item says
  pub said : (j : ℕ) → j < length xs → get_or C j 0 ≡ c_name → get_or (said_at t a) j 0 ≡ name_arg t ss es C ks j
  unfolding args_of arg_of
  said j h e =
      rw (le-ltb text_most (length t) ((reading_exact t a.parts).0 a.reads).1, le-ltb items_most (length C) (codes_few t a))
      (filled_at (arg_of t ss es C ks) 0 (length C) (replicate items_most 0) j (omega arith) (omega (arith, long)) (omega (arith, codes_few t a, length-replicate items_most zero))
      ∙ (rw (eq-eqb (get_or C j 0) c_name e)))

  pub word_is : (j : ℕ) → j < length xs → get_or C j 0 ≡ c_name → word_of t ss es C ks j ≡ (entry_of (get_or xs j i_plain)).bytes
  word_is j h e =
      let k : j < length a.numbers = omega (arith, items-count t a) in
      let v = get_or a.numbers j 0 in
      ap (spelled t ss es) (get_only place_of a.numbers j 0 0 k)
      ∙ name-says t a.parts a.reads v (inv (get_only symbol_of a.numbers j 0 0 k) ∙ e)
      (machine-right a.parts a.numbers ((reading_exact t a.parts).0 a.reads).2 (parsed_done (map Placed.kind a.parts) a.numbers a.written) j k)
      ∙ ap (λ y. (entry_of y).bytes) (inv (item-read t a j h))

  -- two items of one name, the first of them at f
  firsts : (f m : ℕ) → word_of t ss es C ks f ≡ word_of t ss es C ks m → first (same_name t ss es C ks f) 0 f ≡ first (same_name t ss es C ks m) 0 f
  unfolding same_name
  firsts f m q = ap (λ (u : List ℕ). first (λ i. pick (eqb (get_or C i 0) c_name) (same (word_of t ss es C ks i) u) false) 0 f) q

  passes : (f m : ℕ) → get_or C f 0 ≡ c_name → word_of t ss es C ks f ≡ word_of t ss es C ks m → same_name t ss es C ks m f ≡ true
  unfolding same_name
  passes f m e q = rw (eq-eqb (get_or C f 0) c_name e) (ap (λ (u : List ℕ). same u (word_of t ss es C ks m)) q ∙ same_refl (word_of t ss es C ks m))

  same-said : (w : Name) (f m : ℕ) → f ≤ m → f < length xs → m < length xs → get_or C f 0 ≡ c_name → get_or C m 0 ≡ c_name
      → (entry_of (get_or xs f i_plain)).bytes ≡ w → (entry_of (get_or xs m i_plain)).bytes ≡ w → name_arg t ss es C ks f ≡ name_arg t ss es C ks m
  unfolding name_arg first_same
  same-said w f m b h k e g u v =
      let wf = word_is f h e ∙ u in
      let wm = word_is m k g ∙ v in
      let q : word_of t ss es C ks f ≡ word_of t ss es C ks m = wf ∙ inv wm in
      let z : m ≡ f + (m - f) = omega arith in
      ap (λ y. pick (same y pid) 0 (first (same_name t ss es C ks f) 0 f + 1)) q
      ∙ ap (λ n. pick (same (word_of t ss es C ks m) pid) 0 (n + 1)) (firsts f m q ∙ inv (ap (first (same_name t ss es C ks m) 0) z ∙ first_reached (same_name t ss es C ks m) 0 f (m - f) (let y : 0 + f ≡ f = omega arith in ap (same_name t ss es C ks m) y ∙ passes f m e q)))

  -- `_pid` says 0
  pub pid-said : (w : Name) (m : ℕ) → m < length xs → get_or xs m i_plain ≡ i_name w → same w pid ≡ true → get_or (said_at t a) m 0 ≡ 0
  unfolding name_arg
  pid-said w m h e q =
      let cm = code_of_lem m h ∙ ap items.code_of e in
      said m h cm ∙ ap (λ y. pick (same y pid) 0 (first_same t ss es C ks m + 1)) (word_is m h cm ∙ ap (λ y. (entry_of y).bytes) e) ∙ rw q

  -- the first item of a name says what each item of it says
  pub first_said : (w : Name) (m : ℕ) → m < length xs → get_or xs m i_plain ≡ i_name w → get_or (said_at t a) (first_name w xs) 0 ≡ get_or (said_at t a) m 0
  first_said w m h e =
      let r = first_is w xs m h e in
      let b = r.before in
      let k : first_name w xs < length xs = omega arith in
      let f = first_name w xs in
      let cf = code_of_lem f k ∙ r.coded in
      let cm = code_of_lem m h ∙ ap items.code_of e in
      said f k cf ∙ same-said w f m b k h cf cm r.spelt (ap (λ y. (entry_of y).bytes) e) ∙ inv (said m h cm)

  -- it is a name
  pub first_code : (w : Name) (m : ℕ) → m < length xs → get_or xs m i_plain ≡ i_name w → (first_name w xs < length xs) × (items.code_of (get_or xs (first_name w xs) i_plain) ≡ c_name)
  first_code w m h e = let r = first_is w xs m h e in let b = r.before in (omega arith, r.coded)

  -- ---- bodies
  home_low : (j : ℕ) → get_or C j 0 < c_argument → home_of C j ≡ inside_of C j
  unfolding home_of
  home_low j h = rw (le-ltb c_parameter (get_or C j 0) (omega arith))

  inside_on : (j : ℕ) → get_or C j 0 < c_argument → inside_of C (suc j) ≡ inside_of C j
  unfolding inside_of
  inside_on j h = rw (le-ltb c_parameter (get_or C j 0) (omega arith), ne_eqb (get_or C j 0) c_end_body (λ e. omega arith))

  module _ (i : ℕ) where
    inside-same : (d : ℕ) → ((x : ℕ) → i ≤ x → x < i + d → get_or C x 0 < c_argument) → inside_of C (i + d) ≡ inside_of C i
    inside-same zero low = let z : i + 0 ≡ i = omega arith in ap (inside_of C) z
    inside-same (suc d) low =
        let z : i + suc d ≡ suc (i + d) = omega arith in
        ap (inside_of C) z ∙ inside_on (i + d) (low (i + d) (omega arith) (omega arith)) ∙ inside-same d (λ x u v. low x u (omega arith))

    pub home_same : (j : ℕ) → i ≤ j → j < length xs → ((x : ℕ) → i ≤ x → x ≤ j → get_or C x 0 < c_argument) → get_or (homes_at t a) j 0 ≡ inside_of C i
    home_same j b h low =
        let z : i + (j - i) ≡ j = omega arith in
        home_at C (replicate items_most 0) j (omega (arith, long)) (codes_few t a) (omega (arith, codes_few t a, length-replicate items_most zero)) ∙ home_low j (low j b (omega arith))
        ∙ ap (inside_of C) (inv z) ∙ inside-same (j - i) (λ x u v. low x u (omega arith))
