-- TEXTS OF ONE TREE ARE JUDGED ALIKE: names, rules and ceilings look at the tree alone. Assumes nothing.
use Prim.Native.Nat.{ℕ, zero, suc, ◌+◌, ◌-◌, ◌≤◌, ◌<◌, min}
use native.Mathlib.Omega.{arith}
use native.Mathlib.Decide.{ℕ_discrete}
use mathlib.Core.Path.{◌≡◌, refl, sym as inv, ap, ap₂, ◌∙◌}
use mathlib.Core.Option.{none}
use mathlib.Core.Logic.{◌⊎◌, inl, inr}
use mathlib.Core.List.{List, [], ◌∷◌, ◌++◌, map, append-nil}
use mathlib.Core.Bool.{Bool, true, false}
use lib.ListN.{length, get_or, take, drop, replicate, length-map, length-append}
use lib.Seq.{take_at}
use lib.Dec.{ltb, leb}
use borrow.Author.Tests.{lt-ltb, le-ltb, ltb-false}
use Rattle.base_ceilings.specs.Ceilings.{items_most, normal_most, number_most, tokens_most}
use Rattle.base_codes.specs.Codes.{c_or_else, c_name, c_number, c_text}
use Rattle.base_bytes.specs.Choice.{pick, both}
use Rattle.base_bytes.specs.Lists.{piece}
use Rattle.base_kinds.specs.Kinds.{sym}
use Rattle.spec_text.specs.Bytes.{quote}
use Rattle.spec_text.specs.Digits.{decimal}
use Rattle.spec_grammar.specs.Grammar.{Gram}
use Rattle.spec_grammar.specs.Tree.{Model}
use Rattle.spec_normal.specs.Normal.{normal}
use Rattle.text_tokens.specs.Reading.{tokens, reading}
use Rattle.spec_text.specs.Placed.{Placed}
use Rattle.spec_text.specs.Spelled.{Spelled, word, digits, string, mark}
use Rattle.spec_text.specs.Writing.{token_of, token_in, part_of, tokens_in}
use Rattle.text_spacing_proof.proofs.Exact.{reading_exact}
use Rattle.text_spacing_proof.proofs.Written.{tokens_ordered, tokens-spelled}
use Rattle.text_spacing_proof.proofs.Tables.{mark_range, word_range}
use Rattle.spec_grammar.specs.Depth.{too_deep}
use Rattle.parse_machine.specs.Machine.{Outcome, done, refused, spent, machine, symbol_of, place_of}
use Rattle.parse_machine.specs.Depth.{too_deep as first-deep}
use Rattle.parse_machine.specs.Answer.{items, refuse, parsed, judged}
use Rattle.parse_machine.specs.Items.{read, held}
use Rattle.parse_machine.proofs.Main.{accepts}
use Rattle.parse_machine.proofs.Never.{lt_or_ge}
use Rattle.table_entries.specs.Entry.{Entry}
use Rattle.table_entries.specs.Items.{entry_of}
use Rattle.table_entries.proofs.Items.{mark-entry}
use Rattle.table_proof.specs.Read.{nowhere, Right}
use Rattle.table_proof.proofs.Read.{get_only, ordered_at}
use Rattle.table_proof.proofs.Wrote.{machine-right}
use Rattle.table_proof.proofs.Built.{accepted_entries}
use Rattle.table_entries.specs.Sources.{entries_of}
use Rattle.table_layout.specs.Tables.{tables_of}
use Rattle.table_layout.specs.Trees.{entries_in, tables_in}
use Rattle.link_items.specs.Links.{links_of}
use Rattle.write_length.specs.Overlong.{overlong}
use Rattle.read_length_proof.proofs.Main.{overlong_exact}
use Rattle.rule_sheets.specs.Payload.{spelled}
use Rattle.rule_sheets.proofs.Meaning.{Alike, args-alike}
use Rattle.rule_least.proofs.Theorems.{places_free}
use Rattle.std.specs.Prelude.{Ok}
use Rattle.read_passes.specs.Judging.{payload, laid, tables_from, tables_at, tables_text, wide_room, front, judge_of}
use Rattle.read_accepts_proof.specs.Meaning.{Accepts}
use Rattle.read_accepts_proof.proofs.Main.{kinds_are, all_proper, short, means_accepted}
use Rattle.base_codes.specs.Items.{Item, i_plain}
use Rattle.parse_code.specs.Code.{code}

-- ---- the parser's items are the machine's
pub parsed_done : (ks o : List ℕ) → parsed ks items_most ≡ items o → machine ks ≡ done o
unfolding parsed
parsed_done ks o e = go (ltb tokens_most (length ks)) (machine ks) refl e
  where
    deep : (b : Bool) (d : ℕ) (p : List ℕ) → pick b (refuse 2 d) (items p) ≡ items o → p ≡ o
    deep true d p q = absurd (let z : ◌≡◌ {A = ℕ} 0 1 = cc in omega arith)
    deep false d p q = cc

    bad : (b : Bool) (d i : ℕ) → pick b (refuse 2 d) (refuse 3 i) ≡ items o → ⊥
    bad true d i q = absurd (let z : ◌≡◌ {A = ℕ} 0 1 = cc in omega arith)
    bad false d i q = absurd (let z : ◌≡◌ {A = ℕ} 0 1 = cc in omega arith)

    go : (b : Bool) (r : Outcome) → machine ks ≡ r → pick b (refuse 2 tokens_most) (judged (first-deep ks) (length ks) r) ≡ items o → machine ks ≡ done o
    go true r h q = absurd (let z : ◌≡◌ {A = ℕ} 0 1 = cc in omega arith)
    go false (done p) h q = h ∙ ap done (deep (leb (first-deep ks) (length ks)) (first-deep ks) p q)
    go false (refused i) h q = absurd (bad (leb (first-deep ks) i) (first-deep ks) i q)
    go false spent h q = absurd (let z : ◌≡◌ {A = ℕ} 0 1 = cc in omega arith)

-- ---- what an item says of its spelling
whole-piece : (t : List ℕ) (s e : ℕ) → s ≤ e → e ≤ length t → piece t s e ≡ take (e - s) (drop s t)
whole-piece t s e h g =
    let a : min e (length t) ≡ e = omega arith in
    let b : min s e ≡ s = omega arith in
    rw (a, b)

text_spells : {k : ℕ} {x : List ℕ} → Spelled k x → k ≡ c_text → quote ∷ (take (length x - 2) (drop 1 x) ++ quote ∷ []) ≡ x
text_spells (word {b = b} {s = s} l a n) h = absurd (omega (arith, (word_range (b ∷ s)).1))
text_spells (digits p q r) h = absurd (omega arith)
text_spells (string {s = s} p q) h = ap (λ (z : List ℕ). quote ∷ (z ++ quote ∷ [])) (take_at s (quote ∷ []) (suc (length (s ++ quote ∷ [])) - 2) (omega (arith, length-append s (quote ∷ []))))
text_spells (mark {k = k} {x = x} f) h = absurd (omega (arith, mark_range x k f))

module _ (t : List ℕ) (ps : List Placed) (e : reading t ≡ tokens ps) where
  abbrev ss : List ℕ
  ss = map Placed.start ps

  abbrev es : List ℕ
  es = map Placed.end ps

  spelling : (k : ℕ) → k < length ps → spelled t ss es k ≡ part_of t (get_or ps k nowhere)
  unfolding spelled
  spelling k l =
      let a = ordered_at 0 (length t) ps (tokens_ordered t ps e) k l in
      rw (get_only Placed.start ps k nowhere 0 l, get_only Placed.end ps k nowhere 0 l) (whole-piece t (get_or ps k nowhere).start (get_or ps k nowhere).end a.0 a.1)

  -- one number of the parser
  module _ (v : ℕ) where
    token_at : symbol_of v ≤ c_text → place_of v < length ps → (get_or ps (place_of v) nowhere).kind ≡ symbol_of v → read (tokens_in t ps) v ≡ held (token_of (symbol_of v) (part_of t (get_or ps (place_of v) nowhere)))
    token_at b l q =
        rw (lt-ltb (symbol_of v) c_or_else (omega arith), get_only (token_in t) ps (place_of v) nowhere (sym 0) l) (ap (λ (z : ℕ). held (token_of z (part_of t (get_or ps (place_of v) nowhere)))) q)

    holds : (c : ℕ) → c ≤ c_text → symbol_of v ≡ c → Right ps (symbol_of v) (place_of v)
        → (place_of v < length ps) × ((get_or ps (place_of v) nowhere).kind ≡ c) × (read (tokens_in t ps) v ≡ held (token_of c (part_of t (get_or ps (place_of v) nowhere))))
    holds c b h (inl r) = (r.2, r.3 ∙ h, token_at r.1 r.2 r.3 ∙ ap (λ (z : ℕ). held (token_of z (part_of t (get_or ps (place_of v) nowhere)))) h)
    holds c b h (inr r) = absurd (omega (arith, r.0))

    pub name-says : symbol_of v ≡ c_name → Right ps (symbol_of v) (place_of v) → spelled t (map Placed.start ps) (map Placed.end ps) (place_of v) ≡ (entry_of (read (tokens_in t ps) v)).bytes
    name-says h r = let (l, q, i) = holds c_name (omega arith) h r in spelling (place_of v) l ∙ inv (ap (λ (z : Item). (entry_of z).bytes) i)

    number-says : symbol_of v ≡ c_number → Right ps (symbol_of v) (place_of v) → decimal (spelled t ss es (place_of v)) ≡ (entry_of (read (tokens_in t ps) v)).value
    number-says h r = let (l, q, i) = holds c_number (omega arith) h r in ap decimal (spelling (place_of v) l) ∙ inv (ap (λ (z : Item). (entry_of z).value) i)

    pub text_says : symbol_of v ≡ c_text → Right ps (symbol_of v) (place_of v) → spelled t (map Placed.start ps) (map Placed.end ps) (place_of v) ≡ quote ∷ ((entry_of (read (tokens_in t ps) v)).bytes ++ quote ∷ [])
    text_says h r =
        let (l, q, i) = holds c_text (omega arith) h r in
        spelling (place_of v) l ∙ inv (text_spells (tokens-spelled t ps e (place_of v) l) q) ∙ inv (ap (λ (z : Item). quote ∷ ((entry_of z).bytes ++ quote ∷ [])) i)

    code-says : Right ps (symbol_of v) (place_of v) → symbol_of v ≡ (entry_of (read (tokens_in t ps) v)).code
    code-says (inr r) = rw (le-ltb (symbol_of v) c_or_else r.0) (inv (ap Entry.code (mark-entry (symbol_of v) r.0 r.1)))
    code-says (inl r) = go (ℕ_discrete (symbol_of v) c_name) (ℕ_discrete (symbol_of v) c_number)
      where
        there : (c : ℕ) → c ≤ c_text → symbol_of v ≡ c → c ≡ (entry_of (held (token_of c (part_of t (get_or ps (place_of v) nowhere))))).code → symbol_of v ≡ (entry_of (read (tokens_in t ps) v)).code
        there c b h s = h ∙ s ∙ inv (ap (λ (z : Item). (entry_of z).code) (holds c b h (inl r)).2)

        go : Dec (symbol_of v ≡ c_name) → Dec (symbol_of v ≡ c_number) → symbol_of v ≡ (entry_of (read (tokens_in t ps) v)).code
        go (yes h) d = there c_name (omega arith) h refl
        go (no n) (yes h) = there c_number (omega arith) h refl
        go (no n) (no m) = there c_text (omega arith) (omega (arith, r.0, r.1)) refl

-- ---- lists
map_same : {A : Type 0} (f g : ℕ → A) (l : List ℕ) → ((j : ℕ) → j < length l → f (get_or l j 0) ≡ g (get_or l j 0)) → map f l ≡ map g l
map_same f g [] h = refl
map_same f g (a ∷ l) h = ap₂ ◌∷◌ (h 0 (omega arith)) (map_same f g l (λ j k. h (suc j) (omega arith)))

map_through : {A B : Type 0} (f : A → B) (g : ℕ → A) (l : List ℕ) → map (λ v. f (g v)) l ≡ map f (map g l)
map_through f g [] = refl
map_through f g (a ∷ l) = ap (f (g a) ∷◌) (map_through f g l)

pub past_end : (l : List ℕ) (j : ℕ) → length l ≤ j → get_or l j 0 ≡ 0
past_end [] j h = refl
past_end (a ∷ l) zero h = absurd (omega arith)
past_end (a ∷ l) (suc j) h = past_end l j (omega arith)

is_inside : (l : List ℕ) (j c : ℕ) → get_or l j 0 ≡ suc c → j < length l
is_inside l j c e = go (lt_or_ge j (length l))
  where
    go : (j < length l) ⊎ (length l ≤ j) → j < length l
    go (inl h) = h
    go (inr h) = absurd (omega (arith, e, past_end l j h))

-- ---- two texts whose items say the same
module _ (t : List ℕ) (ps : List Placed) (e : reading t ≡ tokens ps) (o : List ℕ) (right : (j : ℕ) → j < length o → Right ps (symbol_of (get_or o j 0)) (place_of (get_or o j 0)))
    (t2 : List ℕ) (ps2 : List Placed) (e2 : reading t2 ≡ tokens ps2) (o2 : List ℕ) (right2 : (j : ℕ) → j < length o2 → Right ps2 (symbol_of (get_or o2 j 0)) (place_of (get_or o2 j 0)))
    (same : map (read (tokens_in t ps)) o ≡ map (read (tokens_in t2 ps2)) o2) where
  codes_same : map symbol_of o ≡ map symbol_of o2
  codes_same =
      map_same symbol_of (λ v. (entry_of (read (tokens_in t ps) v)).code) o (λ j h. code-says t ps e (get_or o j 0) (right j h))
      ∙ map_through (λ i. (entry_of i).code) (read (tokens_in t ps)) o
      ∙ ap (map (λ i. (entry_of i).code)) same
      ∙ inv (map_through (λ i. (entry_of i).code) (read (tokens_in t2 ps2)) o2)
      ∙ inv (map_same symbol_of (λ v. (entry_of (read (tokens_in t2 ps2) v)).code) o2 (λ j h. code-says t2 ps2 e2 (get_or o2 j 0) (right2 j h)))

  lengths : length o ≡ length o2
  lengths = inv (length-map o symbol_of) ∙ ap length codes_same ∙ length-map o2 symbol_of

  -- item j of both, where it has code c
  record Both (j c : ℕ) : Type 0 where
    one : j < length o
    two : j < length o2
    code_one : symbol_of (get_or o j 0) ≡ c
    code_two : symbol_of (get_or o2 j 0) ≡ c
    item_same : read (tokens_in t ps) (get_or o j 0) ≡ read (tokens_in t2 ps2) (get_or o2 j 0)

  both_have : (j c : ℕ) → get_or (map symbol_of o) j 0 ≡ suc c → Both j (suc c)
  both_have j c q =
      let h : j < length o = omega (arith, is_inside (map symbol_of o) j c q, length-map o symbol_of) in
      let h2 : j < length o2 = omega (arith, lengths) in
      record {
        one = h;
        two = h2;
        code_one = inv (get_only symbol_of o j 0 0 h) ∙ q;
        code_two = inv (get_only symbol_of o2 j 0 0 h2) ∙ ap (λ (l : List ℕ). get_or l j 0) (inv codes_same) ∙ q;
        item_same = inv (get_only (read (tokens_in t ps)) o j 0 i_plain h) ∙ ap (λ (l : List Item). get_or l j i_plain) same ∙ get_only (read (tokens_in t2 ps2)) o2 j 0 i_plain h2;
      }

  module _ (j c : ℕ) (b : Both j c) where
    place-one : spelled t (map Placed.start ps) (map Placed.end ps) (get_or (map place_of o) j 0) ≡ spelled t (map Placed.start ps) (map Placed.end ps) (place_of (get_or o j 0))
    place-one = ap (spelled t (map Placed.start ps) (map Placed.end ps)) (get_only place_of o j 0 0 b.one)

    place-two : spelled t2 (map Placed.start ps2) (map Placed.end ps2) (place_of (get_or o2 j 0)) ≡ spelled t2 (map Placed.start ps2) (map Placed.end ps2) (get_or (map place_of o2) j 0)
    place-two = inv (ap (spelled t2 (map Placed.start ps2) (map Placed.end ps2)) (get_only place_of o2 j 0 0 b.two))

  alike : Alike (map symbol_of o) t (map Placed.start ps) (map Placed.end ps) (map place_of o) t2 (map Placed.start ps2) (map Placed.end ps2) (map place_of o2)
  alike =
      record {
        names = λ j q.
            let b = both_have j 69 q in
            place-one j c_name b ∙ name-says t ps e (get_or o j 0) b.code_one (right j b.one) ∙ ap (λ (i : Item). (entry_of i).bytes) b.item_same
            ∙ inv (name-says t2 ps2 e2 (get_or o2 j 0) b.code_two (right2 j b.two)) ∙ place-two j c_name b;
        numbers = λ j q.
            let b = both_have j c_name q in
            ap (min (number_most + 1)) (ap decimal (place-one j c_number b) ∙ number-says t ps e (get_or o j 0) b.code_one (right j b.one) ∙ ap (λ (i : Item). (entry_of i).value) b.item_same
            ∙ inv (number-says t2 ps2 e2 (get_or o2 j 0) b.code_two (right2 j b.two)) ∙ ap decimal (place-two j c_number b));
        strings = λ j q.
            let b = both_have j c_number q in
            place-one j c_text b ∙ text_says t ps e (get_or o j 0) b.code_one (right j b.one) ∙ ap (λ (i : Item). quote ∷ ((entry_of i).bytes ++ quote ∷ [])) b.item_same
            ∙ inv (text_says t2 ps2 e2 (get_or o2 j 0) b.code_two (right2 j b.two)) ∙ place-two j c_text b;
      }

-- ---- the items of two texts of one tree, and what they say
module _ (t : List ℕ) (ps : List Placed) (e : reading t ≡ tokens ps) (o : List ℕ) (w : parsed (map Placed.kind ps) items_most ≡ items o)
    (u : List ℕ) (qs : List Placed) (f : reading u ≡ tokens qs) (p : List ℕ) (v : parsed (map Placed.kind qs) items_most ≡ items p)
    (same : map (read (tokens_in t ps)) o ≡ map (read (tokens_in u qs)) p) where
  right_t : (j : ℕ) → j < length o → Right ps (symbol_of (get_or o j 0)) (place_of (get_or o j 0))
  right_t = machine-right ps o ((reading_exact t ps).0 e).2 (parsed_done (map Placed.kind ps) o w)

  right_u : (j : ℕ) → j < length p → Right qs (symbol_of (get_or p j 0)) (place_of (get_or p j 0))
  right_u = machine-right qs p ((reading_exact u qs).0 f).2 (parsed_done (map Placed.kind qs) p v)

  pub same_codes : map symbol_of o ≡ map symbol_of p
  same_codes = codes_same t ps e o right_t u qs f p right_u same

  pub same-payload : payload t (map Placed.start ps) (map Placed.end ps) (map symbol_of o) (map place_of o) ≡ payload u (map Placed.start qs) (map Placed.end qs) (map symbol_of p) (map place_of p)
  same-payload =
      args-alike (map symbol_of o) t (map Placed.start ps) (map Placed.end ps) (map place_of o) u (map Placed.start qs) (map Placed.end qs) (map place_of p)
      (alike t ps e o right_t u qs f p right_u same) (replicate items_most 0) ((reading_exact t ps).0 e).1 ((reading_exact u qs).0 f).1
      ∙ ap (λ (cs : List ℕ). payload u (map Placed.start qs) (map Placed.end qs) cs (map place_of p)) same_codes

-- ---- the entries of a text's items are those of its tree, and so is the length of its normal text
module _ (t : List ℕ) (ps : List Placed) (m : Model) (e : reading t ≡ tokens ps) (g : Gram (tokens_in t ps) m) (o : List ℕ) (w : parsed (map Placed.kind ps) items_most ≡ items o)
    (c : map (read (tokens_in t ps)) o ≡ code m) where
  pub entries_are : entries_of t (map Placed.start ps) (map Placed.end ps) (map symbol_of o) (map place_of o) ≡ entries_in m
  entries_are =
      rw (← append-nil (map Placed.start ps), ← append-nil (map Placed.end ps), ← append-nil (map place_of o)) (accepted_entries t ps m e g [] [] [] symbol_of place_of o
      (machine-right ps o ((reading_exact t ps).0 e).2 (parsed_done (map Placed.kind ps) o w)) c)

  pub tables_are : tables_text t ≡ tables_in m (links_of (map symbol_of o) (payload t (map Placed.start ps) (map Placed.end ps) (map symbol_of o) (map place_of o)) (replicate items_most 0))
  unfolding tables_at tables_from
  tables_are = rw (e, w) (ap (λ (x : List Entry). tables_of x (links_of (map symbol_of o) (payload t (map Placed.start ps) (map Placed.end ps) (map symbol_of o) (map place_of o)) (replicate items_most 0))) entries_are)

  pub overlong_is : both (ltb normal_most (length t)) (overlong (front (laid (tables_text t) (replicate wide_room 0)))) ≡ ltb normal_most (length (normal m))
  overlong_is = rw tables_are (overlong_exact t ps m e g _)

-- the normal text of an accepted text is not too long
pub accepted_slim : (t : List ℕ) (a : Accepts t) → length (normal a.tree) ≤ normal_most
accepted_slim t a = ltb-false normal_most (length (normal a.tree)) (inv (overlong_is t a.parts a.tree a.reads a.gram a.numbers a.written a.coded) ∙ a.slim)

-- ---- a text of an accepted text's tree that is not too deep is accepted
pub same_tree : (t u : List ℕ) (a : Accepts t) (qs : List Placed) → reading u ≡ tokens qs → Gram (tokens_in u qs) a.tree → too_deep (tokens_in u qs) ≡ none → judge_of u ≡ Ok tt
same_tree t u a qs e g d =
    let ps = a.parts in
    let o = a.numbers in
    let (p, h, c) = accepts (tokens_in u qs) (all_proper u qs) (short u qs e) items_most (omega arith) a.tree g d in
    let w : parsed (map Placed.kind qs) items_most ≡ items p = ap (λ (ks : List ℕ). parsed ks items_most) (inv (kinds_are u qs)) ∙ h in
    let k = same_codes t ps a.reads o a.written u qs e p w (a.coded ∙ inv c) in
    let v = same-payload t ps a.reads o a.written u qs e p w (a.coded ∙ inv c) in
    means_accepted u
    record {
      parts = qs;
      reads = e;
      tree = a.tree;
      gram = g;
      shallow = d;
      numbers = p;
      written = w;
      coded = c;
      faultless = rw (← v, ← k) (places_free _ _ (map place_of o) (map place_of p) a.faultless);
      within = rw (← v, ← k) a.within;
      slim = overlong_is u qs a.tree e g p w c ∙ le-ltb normal_most (length (normal a.tree)) (accepted_slim t a);
    }
