-- THE PLACES OF A UNIT ARE PLACES BY THE TABLES: a mark stands before each statement, so that its first item is a place.
use Prim.Native.Nat.{ℕ, suc, ◌+◌, ◌-◌, ◌<◌}
use native.Mathlib.Omega.{arith}
use mathlib.Core.Path.{◌≡◌, refl, sym as inv, ap, ◌∙◌, subst}
use mathlib.Core.Bool.{true}
use mathlib.Core.Logic.{inl}
use mathlib.Core.List.{List, [], ◌∷◌, ◌++◌, map, append-nil}
use lib.ListN.{length, get_or, length-append, length-map}
use Rattle.base_codes.specs.Codes.{c_body, c_label, c_option}
use Rattle.spec_grammar.specs.Tree.{Sort, action, statement, sequence, options, Tree, bare, Body, body, Model}
use Rattle.base_codes.specs.Items.{i_end_body, i_local}
use Rattle.parse_code.specs.Code.{each, code_tree, code_declaration, code}
use Rattle.base_codes.specs.Items as items
use Rattle.base_codes.specs.Sets.{is_part}
use Rattle.link_places.specs.Places.{is_mark}
use Rattle.link_phrases_proof.specs.Phrases.{At}
use Rattle.link_phrases_proof.proofs.Inside as inside
use Rattle.link_phrases_proof.proofs.Starts.{at_front, at_back}
use Rattle.table_layout.specs.Access.{items_of, code_of}
use Rattle.table_proof.proofs.Accepted.{accepted_known}
use Rattle.read_passes.specs.Judging.{tables_text}
use Rattle.read_accepts_proof.specs.Meaning.{Accepts}
use Rattle.agree_eval.proofs.Codes.{codes_are}
use Rattle.agree_eval.proofs.Operators.{known-front, known-back}
use Rattle.agree_nesting.proofs.Begun.{full-model}
use Rattle.keep_tables.specs.Facts.{links_in, Facts}
use Rattle.keep_tables.specs.Held.{Held}
use Rattle.keep_tables.proofs.Tables.{codes_at, said_at, text-held}
use Rattle.keep_tables.proofs.Known.{text_facts}
use Rattle.keep_tables.proofs.Marks.{stop_of}
use Rattle.spec_machine.specs.Sizes.{size_in}
use Rattle.spec_machine.specs.Program.{Within, itself, in_if, in_do, unlabelled, behind_label, in_first, in_rest, in_option, in_others, start_in, end_in, sequence_of}
use Rattle.agree_sizes.specs.Bodies.{Holds}
use Rattle.agree_control.proofs.Begins.{dull-last, dull-declarations, statement_from}
use Rattle.agree_control.proofs.Bodies.{Whole, unit-whole}
use Rattle.agree_control.proofs.Follows.{statement_last, Here, here_if, here_do, here-bare, here_labelled, here-first, here-rest, here_option, here-others}
use Rattle.agree_control.proofs.Main.{text-unit}
use Rattle.keep_tables.specs.Well as well
use Rattle.spec_machine.specs.Names.{unit_at}
use Rattle.spec_machine.specs.Begins.{items_before, body_of}
use Rattle.agree_encode.specs.Encode.{head_of}
use Rattle.spec_machine.specs.Places.{Bodied, body_at, Belongs, ends, stands}
use Rattle.agree_encode.proofs.Units.{unit-holds}
use Rattle.agree_transfer.proofs.Statements.{within_range}
use Rattle.agree_states.specs.Charted.{Placed}
use Rattle.agree_states.proofs.Held.{code_inside}
use Rattle.agree_sizes.proofs.Sizes.{size-declarations, size_tree}

codes : (is_mark c_body ≡ true) × (is_mark c_label ≡ true) × (is_mark c_option ≡ true)
unfolding is_part
codes = (refl, refl, refl)

module _ (cs : List ℕ) where
  -- a mark stands before a statement; an option begins with one
  abbrev Marked : Sort → ℕ → Type 0
  Marked action i = is_mark (get_or cs (i - 1) 0) ≡ true
  Marked statement i = is_mark (get_or cs (i - 1) 0) ≡ true
  Marked sequence i = is_mark (get_or cs (i - 1) 0) ≡ true
  Marked options i = Unit {0}

  lead : {k : Sort} {t : Tree k} {i n o : ℕ} {a : Tree action} {j m u : ℕ} → Within k t i n o a j m u → Here cs k t i → Marked k i → Here cs action a j × (is_mark (get_or cs (j - 1) 0) ≡ true)
  lead itself h b = (h, b)
  lead (in_if p) h b = lead p (here_if cs h) tt
  lead (in_do p) h b = lead p (here_do cs h) tt
  lead (unlabelled p) h b = lead p (here-bare cs h) b
  lead {i = i} (behind_label p) h b =
      lead p (here_labelled cs h) (ap (λ j. is_mark (get_or cs j 0)) (let z : i + 2 - 1 ≡ suc i = omega arith in z) ∙ ap is_mark h.stands.1.0 ∙ codes.1)
  lead (in_first p) h b = lead p (here-first cs h) b
  lead {i = i} (in_rest {s = s} p) h b = lead p (here-rest cs h) (statement_last cs s i (here-first cs h).stands)
  lead {i = i} (in_option p) h b =
      lead p (here_option cs h) (ap (λ j. is_mark (get_or cs j 0)) (let z : i + 1 - 1 ≡ i = omega arith in z) ∙ ap is_mark h.stands.0 ∙ codes.2)
  lead (in_others p) h b = lead p (here-others cs h) tt

  -- the statements of a body
  begun : (b : Body) {u k : ℕ} → Whole cs u b k → Here cs sequence (sequence_of b) (start_in b k) × (is_mark (get_or cs (start_in b k - 1) 0) ≡ true)
  begun (body ds q) {u} {k} w =
      let D = each (code_declaration i_local) ds in
      let a = length-append (D ++ code_tree q) (i_end_body ∷ []) in
      let b = length-append D (code_tree q) in
      let all = w.all in
      let s = start_in (body ds q) k in
      let y = size-declarations ds in
      let z = size_tree q in
      let front = at_front cs (suc k) (D ++ code_tree q) (i_end_body ∷ []) w.stands.1 in
      let known = known-front (D ++ code_tree q) (i_end_body ∷ []) w.known.1 in
      let d = dull-declarations ds (known-front D (code_tree q) known) in (
        record { full = w.full; known = known-back D (code_tree q) known; stands = at_back cs D (code_tree q) (suc k) s (omega arith) front; ends = omega arith },
        ap (λ i. is_mark (get_or cs i 0)) (let z : s - 1 ≡ k + length D = omega arith in z) ∙ dull-last cs d k (ap is_mark w.stands.0 ∙ codes.0) (at_front cs (suc k) D (code_tree q) front),
      )

  body_head : (b : Body) {u k : ℕ} → Whole cs u b k → (u < start_in b k) × (end_in b k < length cs) × (end_in b k ≡ start_in b k + size_in (sequence_of b))
  body_head (body ds q) {u} {k} w =
      let D = each (code_declaration i_local) ds in
      let a = length-append (D ++ code_tree q) (i_end_body ∷ []) in
      let b = length-append D (code_tree q) in
      let all = w.all in
      let p = w.place in
      let y = size-declarations ds in
      let z = size_tree q in
      (omega arith, omega arith, refl)

module _ (t : List ℕ) (a : Accepts t) where
  abbrev m : Model
  m = a.tree

  abbrev T : List ℕ
  T = tables_text t

  abbrev C : List ℕ
  C = codes_at t a

  H : Held T C (said_at t a) (links_in C (said_at t a))
  H = text-held t a

  K : Facts C (said_at t a)
  K = text_facts t a

  long : 0 + length (code a.tree) ≡ length C
  long = let e = ap length (codes_are t a) ∙ length-map (code a.tree) items.code_of in omega arith

  all_at : At C 0 (code a.tree)
  all_at = subst (λ (l : List ℕ). At l 0 (code a.tree)) (ap (map items.code_of) (append-nil (code a.tree)) ∙ inv (codes_are t a)) (inside.stands [] (code a.tree) [] 0 refl)

  module _ (k : ℕ) (b : Bodied (unit_at m k)) where
    held : Holds m 0 (head_of m k) (body_of (unit_at m k)) (body_at m k)
    held = unit-holds m k 0 (items_before m k) (omega arith) b

    whole : Whole C (head_of m k) (body_of (unit_at m k)) (body_at m k)
    whole = unit-whole C held (full-model a.gram) (accepted_known t a.parts a.tree a.reads a.gram) all_at long

    unit_in : well.Unit T (head_of m k)
    unit_in = let c = text-unit t a held in let c2 = c.2 in (code_inside T (head_of m k) (omega arith), c.2, c.3)

    items_are : items_of T ≡ length C
    items_are = H.items

  -- A PLACE OF A UNIT IS ONE BY THE TABLES
  pub text-places : (k j : ℕ) → Belongs a.tree k j → Placed (tables_text t) (head_of a.tree k) j × (j < items_of (tables_text t))
  text-places k j (ends b e) =
      let c = text-unit t a (held k b) in
      let h = (body_head C (body_of (unit_at m k)) (whole k b)).1 in
      let i = items_are k b in
      (inl (e ∙ inv c.0), omega arith)
  text-places k j (stands {x = x} {n = n} {o = o} b w) =
      let c = text-unit t a (held k b) in
      let c0 = c.0 in
      let h = body_head C (body_of (unit_at m k)) (whole k b) in
      let h0 = h.0 in
      let h1 = h.1 in
      let h2 = h.2 in
      let i = items_are k b in
      let g = begun C (body_of (unit_at m k)) (whole k b) in
      let r = within_range w in
      let r0 = r.0 in
      let r1 = r.1 in
      let l = lead C w g.0 g.1 in
      let s = (statement_from C (bare x) l.0.known j l.0.stands l.0.ends l.1).0 in
      (subst (well.Stop T (head_of m k)) s (stop_of T C (said_at t a) H K (head_of m k) j (unit_in k b) (omega arith) (omega arith)), omega arith)
