-- From each statement of a tree the links of its items lead where the tree does: behind its last item the place that follows is found, and from inside of it the place behind its loop.
use Prim.Native.Nat.{ℕ, suc, ◌+◌, ◌-◌, ◌≤◌, ◌<◌, min}
use native.Mathlib.Omega.{arith}
use mathlib.Core.Path.{◌≡◌, refl, sym, ap, ◌∙◌, subst}
use mathlib.Core.Bool.{true, false}
use mathlib.Core.List.{List, [], ◌∷◌, ◌++◌}
use lib.ListN.{length, get_or, length-append}
use lib.Dec.{eqb}
use borrow.Author.Tests.{eq-eqb, ne_eqb}
use Rattle.base_ceilings.specs.Ceilings.{items_most}
use Rattle.base_codes.specs.Codes.{c_do, c_end_option, c_fi, c_if, c_od, c_option}
use Rattle.base_bytes.specs.Choice.{pick, both}
use Rattle.spec_grammar.specs.Tree.{Sort, action, statement, sequence, options, Tree, leaf, express, assign, increment, decrement, send, receive, assert, print, skip, goto, break, timeout, else, run, set_run, select, loop, bare, labelled, end, then, option, Name}
use Rattle.base_codes.specs.Items.{Item, code_of, i_assert, i_assign, i_break, i_decrement, i_do, i_else, i_end, i_end_option, i_express, i_fi, i_goto, i_if, i_increment, i_name, i_od, i_receive, i_run, i_send, i_set_run, i_skip, i_target, i_text, i_timeout}
use Rattle.base_codes.specs.Sets.{is_part, is_opening, is_closing, class_of}
use Rattle.parse_code.specs.Code.{each, code_exp, code_argument, code_received, code_tree}
use Rattle.table_entries.specs.Items.{AllKnown}
use Rattle.link_places.specs.Places.{is_mark, shallower, close_of_lem, open_of, place_from, past_option, next_from}
use Rattle.link_items.specs.Links.{link_by}
use Rattle.link_phrases_proof.specs.Phrases.{At}
use Rattle.link_phrases_proof.proofs.Starts.{at_front, at_back}
use Rattle.agree_eval.proofs.Operators.{known-front, known-back}
use Rattle.agree_nesting.specs.Full.{Full}
use Rattle.agree_nesting.proofs.Skips.{Kind, selections, loops}
use Rattle.agree_nesting.proofs.Trees.{tree_balanced}
use Rattle.keep_tables.specs.Facts.{homes, starts, links_in}
use Rattle.keep_tables.proofs.Links.{link_is}
use Rattle.spec_machine.specs.Sizes.{size_in}
use Rattle.agree_sizes.proofs.Sizes.{size_tree}
use Rattle.spec_machine.specs.Program.{place_in, enter, Within, itself, in_if, in_do, unlabelled, behind_label, in_first, in_rest, in_option, in_others}
use Rattle.agree_control.specs.Onward.{Onward}
use Rattle.agree_control.proofs.Passes.{back_pass, back_stop, back, close_skip, close_pass, close_stop}
use Rattle.agree_control.proofs.Begins.{statement_from}

-- ---- the last item of a statement
pub record Ended (a : Tree action) : Type 0 where
  pub front : List Item
  pub last : Item
  pub is : code_tree a ≡ front ++ (last ∷ [])
  pub mark : is_mark (code_of last) ≡ true
  pub onward : Onward a → class_of (code_of last) ≡ 7

pub ended : (a : Tree action) → Ended a
unfolding is_part class_of
ended (leaf (express e)) = record { front = code_exp e; last = i_express; is = refl; mark = refl; onward = λ z. refl }
ended (leaf (assign r e)) = record { front = code_exp r ++ i_target ∷ code_exp e; last = i_assign; is = refl; mark = refl; onward = λ z. refl }
ended (leaf (increment r)) = record { front = code_exp r; last = i_increment; is = refl; mark = refl; onward = λ z. refl }
ended (leaf (decrement r)) = record { front = code_exp r; last = i_decrement; is = refl; mark = refl; onward = λ z. refl }
ended (leaf (send mk r es)) = record { front = code_exp r ++ i_send mk ∷ each code_argument es; last = i_end; is = refl; mark = refl; onward = λ z. refl }
ended (leaf (receive mk r es)) = record { front = code_exp r ++ i_receive mk ∷ each code_received es; last = i_end; is = refl; mark = refl; onward = λ z. refl }
ended (leaf (assert e)) = record { front = code_exp e; last = i_assert; is = refl; mark = refl; onward = λ z. refl }
ended (leaf (print w es)) = record { front = i_text w ∷ each code_argument es; last = i_end; is = refl; mark = refl; onward = λ z. refl }
ended (leaf skip) = record { front = []; last = i_skip; is = refl; mark = refl; onward = λ z. refl }
ended (leaf (goto w)) = record { front = i_name w ∷ []; last = i_goto; is = refl; mark = refl; onward = λ z. absurd z }
ended (leaf break) = record { front = []; last = i_break; is = refl; mark = refl; onward = λ z. absurd z }
ended (leaf timeout) = record { front = []; last = i_timeout; is = refl; mark = refl; onward = λ z. refl }
ended (leaf else) = record { front = []; last = i_else; is = refl; mark = refl; onward = λ z. refl }
ended (leaf (run w es)) = record { front = i_name w ∷ i_run ∷ each code_argument es; last = i_end; is = refl; mark = refl; onward = λ z. refl }
ended (leaf (set_run r w es)) = record { front = code_exp r ++ i_target ∷ i_name w ∷ i_set_run ∷ each code_argument es; last = i_end; is = refl; mark = refl; onward = λ z. refl }
ended (select os) = record { front = i_if ∷ code_tree os; last = i_fi; is = refl; mark = refl; onward = λ z. refl }
ended (loop os) = record { front = i_do ∷ code_tree os; last = i_od; is = refl; mark = refl; onward = λ z. refl }

module _ (cs : List ℕ) where
  -- it stands before the item behind the statement
  pub last_at : (a : Tree action) (i : ℕ) → At cs i (code_tree a) → (1 ≤ size_in a) × (get_or cs (i + size_in a - 1) 0 ≡ code_of (ended a).last)
  last_at a i h =
      let r = ended a in
      let n : size_in a ≡ length r.front + 1 = sym (size_tree a) ∙ ap length r.is ∙ length-append r.front (r.last ∷ []) in
      let z : i + size_in a - 1 ≡ i + length r.front = omega arith in
      (omega arith, ap (λ j. get_or cs j 0) z ∙ (at_back cs r.front (r.last ∷ []) i (i + length r.front) refl (subst (At cs i) r.is h)).0)

  pub statement_last : (s : Tree statement) (i : ℕ) → At cs i (code_tree s) → is_mark (get_or cs (i + size_in s - 1) 0) ≡ true
  statement_last (bare a) i h = ap is_mark (last_at a i h).1 ∙ (ended a).mark
  statement_last (labelled w a) i h =
      ap (λ j. is_mark (get_or cs j 0)) (let z : i + (size_in a + 2) - 1 ≡ suc (suc i) + size_in a - 1 = omega arith in z) ∙ ap is_mark (last_at a (suc (suc i)) h.1.1).1 ∙ (ended a).mark

-- ---- trees of a text, where they stand
pub record Here (cs : List ℕ) (k : Sort) (t : Tree k) (i : ℕ) : Type 0 where
  pub full : Full t
  pub known : AllKnown (code_tree t)
  pub stands : At cs i (code_tree t)
  pub ends : i + size_in t < length cs

-- between the brackets of a selection
here_between : (cs : List ℕ) (i : ℕ) (b : Item) (os : Tree options) (z : Item) → Full os → AllKnown (b ∷ code_tree os ++ z ∷ []) → At cs i (b ∷ code_tree os ++ z ∷ []) → i + (size_in os + 2) < length cs → Here cs options os (i + 1)
here_between cs i b os z f k h e =
    record {
      full = f;
      known = known-front (code_tree os) (z ∷ []) k.1;
      stands = subst (λ j. At cs j (code_tree os)) (let z : suc i ≡ i + 1 = omega arith in z) (at_front cs (suc i) (code_tree os) (z ∷ []) h.1);
      ends = omega arith;
    }

module _ (cs : List ℕ) {i : ℕ} where
  pub here_if : {os : Tree options} → Here cs action (select os) i → Here cs options os (i + 1)
  here_if {os} h = here_between cs i i_if os i_fi h.full h.known h.stands h.ends

  pub here_do : {os : Tree options} → Here cs action (loop os) i → Here cs options os (i + 1)
  here_do {os} h = here_between cs i i_do os i_od h.full h.known h.stands h.ends

  pub here-bare : {a : Tree action} → Here cs statement (bare a) i → Here cs action a i
  here-bare h = record { full = h.full; known = h.known; stands = h.stands; ends = h.ends }

  pub here_labelled : {w : Name} {a : Tree action} → Here cs statement (labelled w a) i → Here cs action a (i + 2)
  here_labelled {w} {a} h =
      let e = h.ends in
      record { full = h.full; known = h.known.1.1; stands = subst (λ j. At cs j (code_tree a)) (let z : suc (suc i) ≡ i + 2 = omega arith in z) h.stands.1.1; ends = omega arith }

  pub here-first : {s : Tree statement} {q : Tree sequence} → Here cs sequence (then s q) i → Here cs statement s i
  here-first {s} {q} h =
      let e = h.ends in
      record { full = h.full.0; known = known-front (code_tree s) (code_tree q) h.known; stands = at_front cs i (code_tree s) (code_tree q) h.stands; ends = omega arith }

  pub here-rest : {s : Tree statement} {q : Tree sequence} → Here cs sequence (then s q) i → Here cs sequence q (i + size_in s)
  here-rest {s} {q} h =
      let e = h.ends in
      record { full = h.full.1; known = known-back (code_tree s) (code_tree q) h.known; stands = at_back cs (code_tree s) (code_tree q) i (i + size_in s) (omega (arith, size_tree s)) h.stands; ends = omega arith }

  pub here_option : {q : Tree sequence} {os : Tree options} → Here cs options (option q os) i → Here cs sequence q (i + 1)
  here_option {q} {os} h =
      let e = h.ends in
      record {
        full = h.full.1;
        known = known-front (code_tree q) (i_end_option ∷ code_tree os) h.known.1;
        stands = subst (λ j. At cs j (code_tree q)) (let z : suc i ≡ i + 1 = omega arith in z) (at_front cs (suc i) (code_tree q) (i_end_option ∷ code_tree os) h.stands.1);
        ends = omega arith;
      }

  pub option_behind : {q : Tree sequence} {os : Tree options} → Here cs options (option q os) i → At cs (i + 1 + size_in q) (i_end_option ∷ code_tree os)
  option_behind {q} {os} h = at_back cs (code_tree q) (i_end_option ∷ code_tree os) (suc i) (i + 1 + size_in q) (omega (arith, size_tree q)) h.stands.1

  pub here-others : {q : Tree sequence} {os : Tree options} → Here cs options (option q os) i → Here cs options os (i + 2 + size_in q)
  here-others {q} {os} h =
      let e = h.ends in
      record {
        full = h.full.2;
        known = (known-back (code_tree q) (i_end_option ∷ code_tree os) h.known.1).1;
        stands = subst (λ j. At cs j (code_tree os)) (let z : suc (i + 1 + size_in q) ≡ i + 2 + size_in q = omega arith in z) (option_behind h).1;
        ends = omega arith;
      }

  -- looking back from behind it, and looking on from it, pass over it
  tree_back : {k : Sort} {t : Tree k} → Here cs k t i → open_of cs (i + size_in t) 1 ≡ open_of cs i 1
  tree_back {t = t} h = ap (λ n. open_of cs (i + n) 1) (sym (size_tree t)) ∙ back cs (tree_balanced t h.full h.known) i 1 h.stands (omega arith)

  tree_skip : {k : Sort} {t : Tree k} {p : ℕ} → Kind p → Here cs k t i → close_of_lem cs p i ≡ close_of_lem cs p (i + size_in t)
  tree_skip {t = t} {p = p} kd h =
      let e = h.ends in
      close_skip cs kd (tree_balanced t h.full h.known) i h.stands (omega (arith, size_tree t)) ∙ ap (λ n. close_of_lem cs p (i + n)) (size_tree t)

-- ---- codes of selections and options
option_codes : (is_closing 0 c_fi ≡ true) × (is_closing 0 c_od ≡ true) × (is_closing 0 c_end_option ≡ false) × (is_opening 0 c_end_option ≡ false) × (is_opening 0 c_if ≡ true) × (is_opening 0 c_do ≡ true)
unfolding is_closing is_opening
option_codes = (refl, refl, refl, refl, refl, refl)

loop_codes : (is_closing 1 c_fi ≡ false) × (is_opening 1 c_fi ≡ false) × (is_closing 1 c_od ≡ true) × (is_closing 1 c_end_option ≡ false) × (is_opening 1 c_end_option ≡ false)
unfolding is_closing is_opening
loop_codes = (refl, refl, refl, refl, refl)

back_codes : (both (is_opening 0 c_option) true ≡ false) × (shallower c_option 1 ≡ 1) × (both (is_opening 0 c_end_option) true ≡ false) × (shallower c_end_option 1 ≡ 1)
unfolding is_closing is_opening shallower
back_codes = (refl, refl, refl, refl)

closing-class : (class_of c_fi ≡ 7) × (class_of c_od ≡ 7)
unfolding class_of
closing-class = (refl, refl)

module _ (cs vs : List ℕ) (few : length cs ≤ items_most) where
  abbrev pub L : List ℕ
  L = links_in cs vs

  -- behind the item e - 1 place n follows, and place o is behind the loop there
  pub record Behind (e n o : ℕ) : Type 0 where
    pub goes : (m : List ℕ) → ((j : ℕ) → e ≤ j → get_or m j 0 ≡ get_or L j 0) → next_from cs m e ≡ n
    pub small : n ≤ items_most
    pub out : get_or L (close_of_lem cs 1 e) 0 ≡ o

  -- the options from item i to item e are those of a selection; behind each place n follows
  pub record Choices (i e n o : ℕ) : Type 0 where
    pub start : ℕ
    pub opened : open_of cs i 1 ≡ start
    pub closed : is_closing 0 (get_or cs e 0) ≡ true
    pub leads : pick (eqb (get_or cs start 0) c_do) start (get_or L e 0) ≡ n
    pub small : n ≤ items_most
    pub out : get_or L (close_of_lem cs 1 e) 0 ≡ o

  -- the link of the last item of a statement
  next_link : (m : List ℕ) (j : ℕ) → class_of (get_or cs j 0) ≡ 7 → link_by cs vs (homes cs) (starts cs) (class_of (get_or cs j 0)) m j ≡ next_from cs m (j + 1)
  unfolding link_by
  next_link m j h = rw h

  pub link_next : (j n o : ℕ) → j < length cs → class_of (get_or cs j 0) ≡ 7 → Behind (j + 1) n o → get_or L j 0 ≡ n
  link_next j n o h c b =
      let l = link_is cs vs j few h in
      let s = b.small in
      l.1 ∙ ap (min 4294967295) (next_link l.0 j c ∙ b.goes l.0 (λ i g. l.2 i (omega arith))) ∙ (let z : min 4294967295 n ≡ n = omega arith in z)

  move : (d e n o : ℕ) → d ≡ e → Behind d n o → Behind e n o
  move d e n o z b = subst (λ i. Behind i n o) z b

  pub next_plain : (m : List ℕ) (k : ℕ) → (get_or cs k 0 ≡ c_end_option → ⊥) → next_from cs m k ≡ place_from cs k
  unfolding next_from
  next_plain m k z = rw (ne_eqb (get_or cs k 0) c_end_option z)

  next_option : (m : List ℕ) (k : ℕ) → get_or cs k 0 ≡ c_end_option → next_from cs m k ≡ pick (eqb (get_or cs (open_of cs k 1) 0) c_do) (open_of cs k 1) (get_or m (close_of_lem cs 0 k) 0)
  unfolding next_from past_option
  next_option m k z = rw (eq-eqb (get_or cs k 0) c_end_option z)

  -- ---- selections
  in_selection : {os : Tree options} {i n o : ℕ} → Here cs action (select os) i → Behind (i + size_in (select os)) n o → Choices (i + 1) (i + 1 + size_in os) n o
  in_selection {os} {i} {n} {o} h b =
      let g = h.ends in
      let e = i + 1 + size_in os in
      let c = (at_back cs (code_tree os) (i_fi ∷ []) (suc i) e (omega (arith, size_tree os)) h.stands.1).0 in
      let v = move (i + size_in (select os)) (e + 1) n o (omega arith) b in
      record {
        start = i;
        opened = ap (λ j. open_of cs j 1) (let z : i + 1 ≡ suc i = omega arith in z) ∙ back_stop cs i c_if h.stands.0 option_codes.4;
        closed = ap (is_closing 0) c ∙ option_codes.0;
        leads = ap (λ d. pick (eqb d c_do) i (get_or L e 0)) h.stands.0 ∙ link_next e n o (omega arith) (ap class_of c ∙ closing-class.0) v;
        small = b.small;
        out = ap (λ j. get_or L j 0) (close_pass cs 1 e c_fi (omega arith) c loop_codes.0 loop_codes.1) ∙ v.out;
      }

  in_loop : {os : Tree options} {i n o : ℕ} → Here cs action (loop os) i → Behind (i + size_in (loop os)) n o → Choices (i + 1) (i + 1 + size_in os) i n
  in_loop {os} {i} {n} {o} h b =
      let g = h.ends in
      let e = i + 1 + size_in os in
      let c = (at_back cs (code_tree os) (i_od ∷ []) (suc i) e (omega (arith, size_tree os)) h.stands.1).0 in
      let v = move (i + size_in (loop os)) (e + 1) n o (omega arith) b in
      record {
        start = i;
        opened = ap (λ j. open_of cs j 1) (let z : i + 1 ≡ suc i = omega arith in z) ∙ back_stop cs i c_do h.stands.0 option_codes.5;
        closed = ap (is_closing 0) c ∙ option_codes.1;
        leads = ap (λ d. pick (eqb d c_do) i (get_or L e 0)) h.stands.0;
        small = omega arith;
        out = ap (λ j. get_or L j 0) (close_stop cs 1 e c_od (omega arith) c loop_codes.2) ∙ link_next e n o (omega arith) (ap class_of c ∙ closing-class.1) v;
      }

  -- ---- options
  module _ {q : Tree sequence} {os : Tree options} {i n o : ℕ} (h : Here cs options (option q os) i) (c : Choices i (i + size_in (option q os)) n o) where
    abbrev k : ℕ
    k = i + 1 + size_in q

    abbrev e : ℕ
    e = i + size_in (option q os)

    ending : get_or cs k 0 ≡ c_end_option
    ending = (option_behind cs h).0

    others : Here cs options os (i + 2 + size_in q)
    others = here-others cs h

    -- from the end of this option
    back_to : open_of cs k 1 ≡ c.start
    back_to =
        tree_back cs (here_option cs h) ∙ ap (λ j. open_of cs j 1) (let z : i + 1 ≡ suc i = omega arith in z)
        ∙ back_pass cs i 1 1 c_option h.stands.0 back_codes.0 back_codes.1 ∙ c.opened

    -- on to the end of the selection
    on_to : (p : ℕ) → close_of_lem cs p k ≡ close_of_lem cs p (k + 1) → close_of_lem cs p (i + 2 + size_in q) ≡ close_of_lem cs p (i + 2 + size_in q + size_in os) → close_of_lem cs p k ≡ close_of_lem cs p e
    on_to p x y =
        x ∙ ap (close_of_lem cs p) (let z : k + 1 ≡ i + 2 + size_in q = omega arith in z) ∙ y ∙ ap (close_of_lem cs p) (let z : i + 2 + size_in q + size_in os ≡ e = omega arith in z)

    close_selection : close_of_lem cs 0 k ≡ e
    close_selection =
        let f = h.ends in
        on_to 0 (close_pass cs 0 k c_end_option (omega arith) ending option_codes.2 option_codes.3) (tree_skip cs selections others)
        ∙ close_stop cs 0 e (get_or cs e 0) f refl c.closed

    close_loop : close_of_lem cs 1 k ≡ close_of_lem cs 1 e
    close_loop =
        let f = h.ends in
        on_to 1 (close_pass cs 1 k c_end_option (omega arith) ending loop_codes.3 loop_codes.4) (tree_skip cs loops others)

    in_this : Behind k n o
    in_this =
        record {
          goes = λ m a. (
              next_option m k ending ∙ ap (λ j. pick (eqb (get_or cs j 0) c_do) j (get_or m (close_of_lem cs 0 k) 0)) back_to
              ∙ ap (pick (eqb (get_or cs c.start 0) c_do) c.start) (ap (λ j. get_or m j 0) close_selection ∙ a e (omega arith)) ∙ c.leads);
          small = c.small;
          out = ap (λ j. get_or L j 0) close_loop ∙ c.out;
        }

    in_next : Choices (i + 2 + size_in q) (i + 2 + size_in q + size_in os) n o
    in_next =
        subst (λ j. Choices (i + 2 + size_in q) j n o) (let z : e ≡ i + 2 + size_in q + size_in os = omega arith in z)
        record {
          start = c.start;
          opened = ap (λ j. open_of cs j 1) (let z : i + 2 + size_in q ≡ suc k = omega arith in z) ∙ back_pass cs k 1 1 c_end_option ending back_codes.2 back_codes.3 ∙ back_to;
          closed = c.closed;
          leads = c.leads;
          small = c.small;
          out = c.out;
        }

  -- ---- sequences
  in_statement : (s : Tree statement) (q : Tree sequence) {i n o : ℕ} → Here cs sequence (then s q) i → Behind (i + size_in (then s q)) n o → Behind (i + size_in s) (enter q (i + size_in s) n) o
  in_statement s end {i} {n} {o} h b = move (i + size_in (then s end)) (i + size_in s) n o (omega arith) b
  in_statement s (then r q) {i} {n} {o} h b =
      let f = here-first cs h in
      let g = here-rest cs h in
      let g1 = g.ends in
      let w = here-first cs g in
      let v = statement_from cs r w.known (i + size_in s) w.stands w.ends (statement_last cs s i f.stands) in
      record {
        goes = λ m a. (next_plain m (i + size_in s) v.1 ∙ v.0);
        small = place-small r (i + size_in s) w.ends;
        out =
            ap (λ j. get_or L j 0) (tree_skip cs loops g
            ∙ ap (close_of_lem cs 1) (let z : i + size_in s + size_in (then r q) ≡ i + size_in (then s (then r q)) = omega arith in z)) ∙ b.out;
      }
    where
      place-small : (r : Tree statement) (p : ℕ) → p + size_in r < length cs → place_in r p ≤ items_most
      place-small (bare a) p g = omega arith
      place-small (labelled w a) p g = omega arith

  abbrev pub Inside : Sort → ℕ → ℕ → ℕ → ℕ → Type 0
  Inside action i e n o = Behind e n o
  Inside statement i e n o = Behind e n o
  Inside sequence i e n o = Behind e n o
  Inside options i e n o = Choices i e n o

  -- ---- every statement of a tree
  pub follow : {k : Sort} {t : Tree k} {i n o : ℕ} {a : Tree action} {j m u : ℕ} → Within k t i n o a j m u → Here cs k t i → Inside k i (i + size_in t) n o
      → Behind (j + size_in a) m u × Here cs action a j
  follow itself h b = (b, h)
  follow (in_if p) h b = follow p (here_if cs h) (in_selection h b)
  follow (in_do p) h b = follow p (here_do cs h) (in_loop h b)
  follow (unlabelled p) h b = follow p (here-bare cs h) b
  follow {i = i} {n = n} {o = o} (behind_label {w = w} {b = b} p) h c = follow p (here_labelled cs h) (move (i + size_in (labelled w b)) (i + 2 + size_in b) n o (omega arith) c)
  follow (in_first {s = s} {q = q} p) h b = follow p (here-first cs h) (in_statement s q h b)
  follow {i = i} {n = n} {o = o} (in_rest {s = s} {q = q} p) h b =
      follow p (here-rest cs h) (move (i + size_in (then s q)) (i + size_in s + size_in q) n o (omega arith) b)
  follow (in_option p) h c = follow p (here_option cs h) (in_this h c)
  follow (in_others p) h c = follow p (here-others cs h) (in_next h c)
