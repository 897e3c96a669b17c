-- WHAT IS SHOWN OF A STATEMENT IS THE TREE'S: for an accepted text, the bytes that the tables give for the statement at a place are those of the tree's statement there, none of them is cut off where it is shown, and
-- the place that they give is where it stands in the normal text.
use Prim.Native.Nat.{ℕ, zero, suc, ◌+◌, ◌-◌, ◌≤◌, min}
use native.Mathlib.Omega.{arith}
use mathlib.Core.Path.{◌≡◌, refl, ◌∙◌, ap, ap₂, subst}
use mathlib.Core.Bool.{false}
use mathlib.Core.List.{List, [], ◌∷◌, ◌++◌, append-nil}
use lib.ListN.{length, get_or, take, drop, length-map, length-append}
use lib.Seq.{take_all}
use lib.Dec.{eqb}
use Rattle.base_ceilings.specs.Ceilings.{items_most, normal_most}
use Rattle.base_kinds.specs.Kinds.{Token}
use Rattle.base_codes.specs.Items.{Item}
use Rattle.base_bytes.specs.Choice.{pick}
use Rattle.text_spacing_proof.specs.Sound.{AllSound}
use Rattle.spec_text.specs.Writing.{apart, spell, write_behind, write}
use Rattle.text_spacing_proof.proofs.Written.{tokens-sound}
use Rattle.spec_grammar.specs.Marks.{'rbrace}
use Rattle.spec_grammar.specs.Tree.{Sort, action, sequence, Tree, Body, body, Part, mtypes, global, process, init, Model}
use Rattle.spec_grammar.specs.Print.{print_tree, print_model}
use Rattle.parse_code.specs.Code.{code_tree, code_body, code}
use Rattle.table_entries.specs.Items.{AllKnown, entry_of}
use Rattle.table_layout.specs.Access.{items_of, code_of}
use Rattle.table_layout.specs.Back.{Small}
use Rattle.table_layout.specs.Trees.{entries_in, tables_in}
use Rattle.table_proof.proofs.Accepted.{accepted_known, accepted_small, accepted_items}
use Rattle.read_passes.specs.Judging.{tables_text}
use Rattle.read_accepts_proof.specs.Meaning.{Accepts, links_at}
use Rattle.read_accepts_proof.proofs.Tables.{text-tables}
use Rattle.write_letters.specs.Tokens.{held_of, token_by}
use Rattle.write_texts.specs.Turning.{marks, blanked, walk}
use Rattle.write_texts.specs.Normal.{codes_between, tokens_between}
use Rattle.write_texts.proofs.Tokens.{tokens-all}
use Rattle.write_reprint_proof.specs.Here.{tok, flagged, Here}
use Rattle.write_reprint_proof.proofs.Walk.{here-front, here_back}
use Rattle.write_reprint_proof.proofs.Statements.{walk_tree}
use Rattle.write_reprint_proof.proofs.Main.{all_here, length-marks, tokens_are}
use Rattle.write_shortest_proof.proofs.Lightened.{model_lighter}
use Rattle.read_accepts_proof.proofs.Alike.{accepted_slim}
use Rattle.spec_normal.specs.Normal.{normal}
use Rattle.spec_machine.specs.Program.{Within, itself, in_if, in_do, unlabelled, behind_label, in_first, in_rest, in_option, in_others, start_in, sequence_of}
use Rattle.agree_sizes.specs.Bodies.{Holds}
use Rattle.spec_machine.specs.Names.{unit_at}
use Rattle.spec_machine.specs.Begins.{items_before, body_in, body_of}
use Rattle.spec_machine.specs.Places.{Bodied, body_at, start_of, end_of}
use Rattle.spec_machine.specs.Steps.{found, statement_at}
use Rattle.agree_encode.specs.Encode.{head_of}
use Rattle.agree_encode.proofs.Units.{unit-holds}
use Rattle.agree_nesting.specs.Full.{Full, FullBody, FullPart, FullModel}
use Rattle.agree_nesting.proofs.Begun.{full-model}
use Rattle.agree_stage.proofs.Stands.{Lying, within_lies, body_lies, lying_in, statements_lie}
use Rattle.agree_offers.proofs.Places.{inside_there, known_there}
use Rattle.spec_account.specs.Bytes.{each_visible}
use Rattle.spec_account.specs.Statements.{statement_text, from_in, from_unit, stands_at}
use Rattle.spec_account.proofs.Statements.{found_within, found_bodied, unit-begins, stands-within, stands_there}
use Rattle.show_statement.specs.Statements.{last_of, statement_in, seen_in, length_from, place_in}
use Rattle.agree_texts.proofs.Blank.{blanked-length, blanked_is, blank-walk, here-alike, marks-alike}
use Rattle.agree_texts.proofs.From.{walk_model_from}
use Rattle.agree_texts.proofs.Last.{items-all, last-item}
use Rattle.agree_texts.proofs.Firsts.{text_safe, within-sound, model-sound}

-- ---- the options of a statement each hold one, as those of its model do
within-full : {k : Sort} {t : Tree k} {i n o : ℕ} {a : Tree action} {j m u : ℕ} → Within k t i n o a j m u → Full t → Full a
within-full itself f = f
within-full (in_if w) f = within-full w f
within-full (in_do w) f = within-full w f
within-full (unlabelled w) f = within-full w f
within-full (behind_label w) f = within-full w f
within-full (in_first w) f = within-full w f.0
within-full (in_rest w) f = within-full w f.1
within-full (in_option w) f = within-full w f.1
within-full (in_others w) f = within-full w f.2

body_full : (b : Body) → FullBody b → Full (sequence_of b)
body_full (body ds q) f = f

part-full : (p : Part) → FullPart p → Full (sequence_of (body_of p))
part-full (mtypes ws) f = tt
part-full (global d) f = tt
part-full (process x w gs b) f = body_full b f
part-full (init b) f = body_full b f

model-full : (m : Model) (k : ℕ) → FullModel m → Full (sequence_of (body_of (unit_at m k)))
model-full [] k f = tt
model-full (p ∷ m) zero f = part-full p f.0
model-full (p ∷ m) (suc k) f = model-full m k f.1

-- ---- the text of the first tokens is no longer than that of all
behind-longer : (a : Token) (xs ys : List Token) → length (write_behind a xs) ≤ length (write_behind a (xs ++ ys))
unfolding write_behind
behind-longer a [] ys = omega arith
behind-longer a (b ∷ xs) ys =
    let u : List ℕ = pick (apart a b) (32 ∷ []) [] in
    omega (arith, length-append u (spell b ++ write_behind b xs), length-append (spell b) (write_behind b xs), length-append u (spell b ++ write_behind b (xs ++ ys)), length-append (spell b) (write_behind b (xs ++ ys)), behind-longer b xs ys)

write-longer : (xs ys : List Token) → length (write xs) ≤ length (write (xs ++ ys))
write-longer [] ys = omega arith
write-longer (a ∷ xs) ys = omega (arith, length-append (spell a) (write_behind a xs), length-append (spell a) (write_behind a (xs ++ ys)), behind-longer a xs ys)

module _ (t : List ℕ) (a : Accepts t) where
  abbrev m : Model
  m = a.tree

  abbrev T : List ℕ
  T = tables_in m (links_at t a)

  abbrev h : ℕ → Token
  h = held_of T

  known : AllKnown (code m)
  known = accepted_known t a.parts m a.reads a.gram

  small : Small (entries_in m)
  small = accepted_small t a.parts m a.reads a.gram

  few : length (code m) ≤ items_most
  few = omega (arith, accepted_items t a.parts m a.reads a.gram, length-map (code m) entry_of)

  abbrev M : List ℕ
  M = marks false (code_of T) 0 (length (code m))

  all_stand : Here h M false 0 (code m)
  all_stand = all_here m (links_at t a) known small

  sound : AllSound (print_model m)
  sound = (model_lighter a.gram).sound (tokens-sound t a.parts a.reads)

  short : length (normal m) ≤ normal_most
  short = accepted_slim t a

  -- what the items between two places become, by the walk
  between : (from to : ℕ) (st : List ℕ) (ts : List Token) → to ≤ length (code m) → (walk (tok h) (blanked from (marks false (code_of T) 0 to)) to st [] ≡ ts)
      → walk (tok h) (blanked from (marks false (code_of T) 0 (min to (min items_most (items_of T))))) (length (blanked from (marks false (code_of T) 0 (min to (min items_most (items_of T)))))) st [] ≡ ts
  between from to st ts l e =
      let q : min to (min items_most (items_of T)) ≡ to = omega (arith, items-all t a, few) in
      ap (λ (n : ℕ). walk (tok h) (blanked from (marks false (code_of T) 0 n)) (length (blanked from (marks false (code_of T) 0 n))) st []) q
      ∙ ap (λ (n : ℕ). walk (tok h) (blanked from (marks false (code_of T) 0 to)) n st []) (blanked-length from (marks false (code_of T) 0 to) ∙ length-marks false (code_of T) 0 to) ∙ e

  module _ (k j : ℕ) (s : Tree action) (n o : ℕ) (e : statement_at (sequence_of (body_of (unit_at m k))) (start_of m k) (end_of m k) 0 j ≡ found s n o) where
    stood : Within sequence (sequence_of (body_of (unit_at m k))) (start_of m k) (end_of m k) 0 s j n o
    stood = found_within j (sequence_of (body_of (unit_at m k))) (start_of m k) (end_of m k) 0 s n o e

    bodied : Bodied (unit_at m k)
    bodied = found_bodied (unit_at m k) (start_of m k) (end_of m k) 0 j s n o e

    held : Holds m 0 (head_of m k) (body_of (unit_at m k)) (body_at m k)
    held = unit-holds m k 0 (items_before m k) (omega arith) bodied

    lies : Lying (code m) 0 (code_tree s) j
    lies =
        let b = body_of (unit_at m k) in
        lying_in (code m) (code_tree (sequence_of b)) (code_tree s) 0 (start_of m k) j
        (lying_in (code m) (code_body b) (code_tree (sequence_of b)) 0 (body_at m k) (start_of m k) (body_lies held) (statements_lie b (body_at m k))) (within_lies stood)

    full : Full s
    full = within-full stood (model-full m k (full-model a.gram))

    safe : eqb (get_or (statement_text s) 0 0) 58 ≡ false
    safe = text_safe s (known_there t a (code_tree s) j lies) (within-sound stood (model-sound m k sound))

    -- ---- its text
    abbrev to : ℕ
    to = j + length (code_tree s)

    within-items : to ≤ length (code m)
    within-items = inside_there t a (code_tree s) j lies

    abbrev N : List ℕ
    N = marks false (code_of T) 0 to

    stands : Here h (blanked j N) (flagged false lies.front) j (code_tree s)
    stands =
        let f = flagged false lies.front in
        let x = code_tree s in
        let p = here-front h M x lies.rest f j (here_back h M lies.front (x ++ lies.rest) false 0 j lies.place (subst (λ (l : List Item). Here h M false 0 l) lies.split all_stand)) in
        here-alike h N (blanked j N) j to (λ i u v. (blanked_is j N).above i u) x f j (omega arith) (omega arith)
        (here-alike h M N j to (λ i u v. marks-alike false (code_of T) 0 to (length (code m)) i v (omega (arith, within-items))) x f j (omega arith) (omega arith) p)

    tokens-shown : tokens_between T 130 j to ≡ print_tree s
    unfolding tokens_between codes_between token_by
    tokens-shown =
        between j to (130 ∷ []) (print_tree s) within-items
        (walk_tree h (blanked j N) s (flagged false lies.front) j to refl stands false [] [] ∙ blank-walk h N (blanked j N) j (blanked_is j N) j (131 ∷ []) (print_tree s ++ []) (omega arith) refl ∙ append-nil (print_tree s))

    -- THE BYTES THAT ARE SHOWN FOR A STATEMENT ARE THE TREE'S STATEMENT
    pub statement_shown : statement_in (tables_text t) j ≡ statement_text s
    unfolding statement_in
    statement_shown =
        let q : min items_most (last_of T j) + 1 ≡ to = omega (arith, last-item t a s j full lies, within-items, few) in
        ap (λ (U : List ℕ). write (tokens_between U 130 j (min items_most (last_of U j) + 1))) (text-tables t a) ∙ ap (λ (i : ℕ). write (tokens_between T 130 j i)) q ∙ ap write tokens-shown

    -- AND NOTHING OF IT IS CUT OFF where it is shown
    pub seen_shown : seen_in (tables_text t) j ≡ each_visible (statement_text s)
    unfolding seen_in
    seen_shown =
        let b = unit-begins m k j s n o e in
        let w : length (statement_text s) ≤ normal_most = omega (arith, write-longer (print_tree s) b.rest, ap (λ (ts : List Token). length (write ts)) b.is, stands-within m k j s n o e safe, short) in
        ap (λ (l : List ℕ). each_visible (take normal_most l)) statement_shown ∙ ap each_visible (take_all normal_most (statement_text s) w)

    -- ---- its place
    tokens-from : tokens_between T 143 j (items_of T) ≡ from_unit m k j
    unfolding tokens_between codes_between token_by from_unit
    tokens-from =
        ap (tokens_between T 143 j) (items-all t a)
        ∙ between j (length (code m)) (143 ∷ []) (from_unit m k j) (omega arith)
        (walk_model_from h M (blanked j M) m k bodied 0 (length (code m)) (ap (λ (i : ℕ). start_in (body_of (unit_at m k)) (body_in (unit_at m k) i)) (let z : items_before m k ≡ 0 + items_before m k = omega arith in z)) stood (blanked_is j M) false (omega arith) all_stand [] [] refl
        ∙ ap (λ (ts : List Token). from_in (sequence_of (body_of (unit_at m k))) (start_of m k) j ++ 'rbrace ∷ ts) (append-nil (print_model (drop (suc k) m))))

    from_there : length_from T j ≡ length (write (from_unit m k j))
    unfolding length_from
    from_there = ap (λ (ts : List Token). min (normal_most + 1) (length (write ts))) tokens-from ∙ omega (arith, stands-within m k j s n o e safe, short)

    from_start : length_from T 0 ≡ length (normal m)
    unfolding length_from
    from_start =
        ap (λ (ts : List Token). min (normal_most + 1) (length (write ts))) (tokens-all T (items_of T) refl ∙ tokens_are m (links_at t a) known small (omega (arith, accepted_items t a.parts m a.reads a.gram)))
        ∙ omega (arith, short)

    -- THE PLACE THAT IS SHOWN IS WHERE IT STANDS IN THE NORMAL TEXT
    pub place-shown : place_in (tables_text t) j ≡ stands_at m k j
    unfolding place_in
    place-shown = ap (λ (U : List ℕ). length_from U 0 - length_from U j) (text-tables t a) ∙ ap₂ ◌-◌ from_start from_there

    -- from there on the normal text is that of the statement and of all that follows it
    pub normal-from : drop (stands_at m k j) (normal m) ≡ write (from_unit m k j)
    normal-from = stands_there m k j s n o e safe
