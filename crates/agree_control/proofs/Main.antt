-- THE LINKS OF AN ACCEPTED TEXT LEAD WHERE ITS TREE DOES: from a unit to its end, from a body to its first statement, from each statement to the one that follows it, and from `break`
-- behind its loop.
use Prim.Native.Nat.{ℕ, zero, suc, ◌+◌, ◌-◌, ◌≤◌, ◌<◌, min}
use native.Mathlib.Omega.{arith}
use native.Mathlib.Decide.{dec_lt}
use mathlib.Core.Path.{◌≡◌, refl, sym, ap, ap₂, ◌∙◌, subst}
use mathlib.Core.Bool.{Bool, true, false}
use mathlib.Core.List.{List, [], ◌∷◌, ◌++◌, map, append-nil}
use lib.ListN.{length, get_or, replicate, length-append, length-map}
use lib.Dec.{eqb}
use borrow.Author.Tests.{le-ltb}
use Rattle.base_ceilings.specs.Ceilings.{items_most}
use Rattle.base_codes.specs.Codes.{c_body, c_break, c_end_body, c_init, c_proctype}
use Rattle.base_bytes.specs.Choice.{pick, both}
use Rattle.rule_sheets.proofs.Walks.{first_most}
use Rattle.spec_grammar.specs.Tree.{Name, action, sequence, Tree, leaf, express, assign, increment, decrement, send, receive, assert, print, skip, goto, break, timeout, else, run, set_run, select, loop, end, then, Declaration, Body, body}
use Rattle.base_codes.specs.Items.{Item, i_end_body, i_local}
use Rattle.parse_code.specs.Code.{each, code_tree, code_declaration, code_body, code}
use Rattle.base_codes.specs.Items as items
use Rattle.base_codes.specs.Sets.{is_part, is_closing, is_opening, class_of}
use Rattle.table_entries.specs.Items.{AllKnown}
use Rattle.link_places.specs.Places.{is_mark, is_stop, deeper, close_from, close_of_lem, place_from, past_loop}
use Rattle.link_places.proofs.Walks.{close_end}
use Rattle.link_items.specs.Links.{link_by, links_of}
use Rattle.link_phrases_proof.specs.Phrases.{At}
use Rattle.link_phrases_proof.proofs.Inside.{stands}
use Rattle.link_phrases_proof.proofs.Starts.{at_front, at_back}
use Rattle.table_layout.specs.Access.{code_of, link_of}
use Rattle.table_proof.proofs.Accepted.{accepted_known}
use Rattle.read_passes.specs.Judging.{tables_text}
use Rattle.read_accepts_proof.specs.Meaning.{Accepts}
use Rattle.agree_eval.proofs.Codes.{codes_are}
use Rattle.agree_eval.proofs.Operators.{known-front, known-back}
use Rattle.agree_nesting.proofs.Begun.{full-model}
use Rattle.agree_nesting.proofs.Skips.{loops}
use Rattle.keep_tables.specs.Facts.{homes, starts, links_in}
use Rattle.keep_tables.specs.Held.{Held}
use Rattle.keep_tables.proofs.Links.{back_keeps, link_is}
use Rattle.keep_tables.proofs.Tables.{codes_at, said_at, text-held}
use Rattle.spec_machine.specs.Stage.{Ways}
use Rattle.spec_machine.specs.Sizes.{sum, size_declaration, size_in}
use Rattle.agree_sizes.proofs.Sizes.{size_tree, size_body_lem, size-declarations}
use Rattle.spec_machine.specs.Program.{enter, Within, start_in, end_in, sequence_of}
use Rattle.agree_sizes.specs.Bodies.{Holds, Statement}
use Rattle.agree_stage.specs.Tables.{Leads}
use Rattle.agree_control.specs.Onward.{Onward}
use Rattle.agree_control.proofs.Insides.{inner-append, inner_tree, inner-declarations}
use Rattle.agree_control.proofs.Passes.{close_skip, close_pass, close_stop, close_inner}
use Rattle.agree_control.proofs.Begins.{end_here, dull_skip, dull-last, dull-declarations, statement_from}
use Rattle.agree_control.proofs.Bodies.{Whole, unit-whole}
use Rattle.agree_control.proofs.Follows.{ended, last_at, Here, here-first, Behind, next_plain, link_next, follow}

-- ---- the array of links
zeros : (n k : ℕ) → get_or (replicate n zero) k 0 ≡ 0
zeros zero k = refl
zeros (suc n) zero = refl
zeros (suc n) (suc k) = zeros n k

module _ (cs vs : List ℕ) (few : length cs ≤ items_most) where
  links_past : (k : ℕ) → length cs ≤ k → get_or (links_in cs vs) k 0 ≡ 0
  unfolding links_of
  links_past k h = rw (le-ltb items_most (length cs) few) (back_keeps cs vs (homes cs) (starts cs) (length cs) (replicate items_most 0) k h ∙ zeros items_most k)

  links-small : (k : ℕ) → get_or (links_in cs vs) k 0 ≤ 4294967295
  links-small k = go (dec_lt k (length cs))
    where
      go : Dec (k < length cs) → get_or (links_in cs vs) k 0 ≤ 4294967295
      go (yes h) = let l = (link_is cs vs k few h).1 in omega arith
      go (no h) = let l = links_past k (omega arith) in omega arith

-- ---- what is found stands behind
close_after : (cs : List ℕ) (p f k d : ℕ) → k ≤ close_from cs p k d f
unfolding close_from
close_after cs p zero k d = omega arith
close_after cs p (suc f) k d = go (both (is_closing p (get_or cs k 0)) (eqb d 1)) (close_after cs p f (k + 1) (deeper p (get_or cs k 0) d))
  where
    go : (b : Bool) → k + 1 ≤ close_from cs p (k + 1) (deeper p (get_or cs k 0) d) f → k ≤ pick b k (close_from cs p (k + 1) (deeper p (get_or cs k 0) d) f)
    go true h = omega arith
    go false h = omega arith

close_behind : (cs : List ℕ) (p k : ℕ) → k ≤ close_of_lem cs p k
unfolding close_of_lem
close_behind cs p k = close_after cs p (length cs - k) k 1

close_last : (cs : List ℕ) (p : ℕ) → close_of_lem cs p (length cs) ≡ length cs
unfolding close_of_lem
close_last cs p = sym (close_end cs p (length cs) 1 (omega arith))

place_most : (cs : List ℕ) (k : ℕ) → k ≤ length cs → place_from cs k ≤ length cs
unfolding place_from
place_most cs k h = let m = first_most (is_stop cs) k (length cs - k) in omega arith

-- ---- codes
body_codes : (is_mark c_body ≡ true) × (is_closing 3 c_body ≡ false) × (is_opening 3 c_body ≡ false) × (is_closing 3 c_end_body ≡ true)
unfolding is_part is_closing is_opening
body_codes = (refl, refl, refl, refl)

loop_codes : (is_closing 1 c_end_body ≡ false) × (is_opening 1 c_end_body ≡ false) × (is_closing 1 c_break ≡ false) × (is_opening 1 c_break ≡ false)
unfolding is_closing is_opening
loop_codes = (refl, refl, refl, refl)

-- where a sequence leads that begins at item s and ends before item e, the end of a body
enter-from : (cs : List ℕ) (q : Tree sequence) (s e : ℕ) → Here cs sequence q s → e ≡ s + size_in q → get_or cs e 0 ≡ c_end_body → is_mark (get_or cs (s - 1) 0) ≡ true → place_from cs s ≡ enter q s e
enter-from cs end s e h z c m = let g = h.ends in let w : s ≡ e = omega arith in ap (place_from cs) w ∙ end_here cs e (omega arith) c
enter-from cs (then r q) s e h z c m = let f = here-first cs h in (statement_from cs r f.known s f.stands f.ends m).0

-- ---- a unit with a body
module _ (cs vs : List ℕ) (few : length cs ≤ items_most) {u k : ℕ} (ds : List Declaration) (q : Tree sequence) (w : Whole cs u (body ds q) k) where
  abbrev D : List Item
  D = each (code_declaration i_local) ds

  abbrev s : ℕ
  s = start_in (body ds q) k

  abbrev e : ℕ
  e = end_in (body ds q) k

  before : length (D ++ code_tree q) ≡ sum size_declaration ds + size_in q
  before = length-append D (code_tree q) ∙ ap₂ ◌+◌ (size-declarations ds) (size_tree q)

  fits : e < length cs
  fits = let b = w.all in omega (arith, size_body_lem (body ds q))

  front : At cs (suc k) (D ++ code_tree q)
  front = at_front cs (suc k) (D ++ code_tree q) (i_end_body ∷ []) w.stands.1

  known : AllKnown (D ++ code_tree q)
  known = known-front (D ++ code_tree q) (i_end_body ∷ []) w.known.1

  at_end : get_or cs e 0 ≡ c_end_body
  at_end = (at_back cs (D ++ code_tree q) (i_end_body ∷ []) (suc k) e (omega (arith, before)) w.stands.1).0

  here : Here cs sequence q s
  here = record { full = w.full; known = known-back D (code_tree q) known; stands = at_back cs D (code_tree q) (suc k) s (omega (arith, size-declarations ds)) front; ends = fits }

  -- to its end
  closes : close_of_lem cs 3 (u + 1) ≡ e
  closes =
      let p = w.place in
      let f = fits in
      let b = before in
      ap (close_of_lem cs 3) (let z : u + 1 ≡ suc u = omega arith in z) ∙ close_inner cs w.between w.inner w.all_known (suc u) w.behind_head (omega arith) ∙ ap (close_of_lem cs 3) (sym p)
      ∙ close_pass cs 3 k c_body (omega arith) w.stands.0 body_codes.1 body_codes.2 ∙ ap (close_of_lem cs 3) (let z : k + 1 ≡ suc k = omega arith in z)
      ∙ close_inner cs (D ++ code_tree q) (inner-append D (code_tree q) (inner-declarations ds) (inner_tree q)) known (suc k) front (omega arith)
      ∙ ap (close_of_lem cs 3) (let z : suc k + length (D ++ code_tree q) ≡ e = omega arith in z) ∙ close_stop cs 3 e c_end_body f at_end body_codes.3

  unit_link : (m : List ℕ) (c : ℕ) → c ≡ 12 → link_by cs vs (homes cs) (starts cs) c m u ≡ close_of_lem cs 3 (u + 1)
  unfolding link_by
  unit_link m c h = rw h

  pub ends_at : get_or (links_in cs vs) u 0 ≡ e
  ends_at =
      let f = fits in
      let p = w.place in
      let l = link_is cs vs u few (omega arith) in
      l.1 ∙ ap (min 4294967295) (unit_link l.0 (class_of (get_or cs u 0)) w.head.2 ∙ closes) ∙ (let z : min 4294967295 e ≡ e = omega arith in z)

  -- to its first statement
  enters : place_from cs (k + 1) ≡ enter q s e
  enters =
      let f = fits in
      let n = size-declarations ds in
      let a = known-front D (code_tree q) known in
      let d = dull-declarations ds a in
      let h = at_front cs (suc k) D (code_tree q) front in
      ap (place_from cs) (let z : k + 1 ≡ suc k = omega arith in z) ∙ dull_skip cs d a (suc k) h (omega arith) ∙ ap (place_from cs) (let z : suc k + length D ≡ s = omega arith in z)
      ∙ enter-from cs q s e here refl at_end
      (ap (λ i. is_mark (get_or cs i 0)) (let z : s - 1 ≡ k + length D = omega arith in z) ∙ dull-last cs d k (ap is_mark w.stands.0 ∙ body_codes.0) h)

  body_link : (m : List ℕ) → link_by cs vs (homes cs) (starts cs) (class_of c_body) m k ≡ place_from cs (k + 1)
  unfolding link_by class_of
  body_link m = refl

  pub enters_at : get_or (links_in cs vs) k 0 ≡ enter q s e
  enters_at =
      let f = fits in
      let l = link_is cs vs k few (omega arith) in
      let m = place_most cs (k + 1) (omega arith) in
      l.1 ∙ ap (min 4294967295) (ap (λ c. link_by cs vs (homes cs) (starts cs) (class_of c) l.0 k) w.stands.0 ∙ body_link l.0)
      ∙ (let z : min 4294967295 (place_from cs (k + 1)) ≡ place_from cs (k + 1) = omega arith in z) ∙ enters

  -- behind its statements
  behind-all : Behind cs vs few e e 0
  behind-all =
      let f = fits in
      let a = size_body_lem (body ds q) in
      let b = w.all in
      let n : e + 1 ≡ k + length (code_body (body ds q)) = omega arith in
      record {
        goes = λ m g. (next_plain cs vs few m e (λ z. let x = at_end in omega arith) ∙ end_here cs e f at_end);
        small = omega arith;
        out =
            ap (λ i. get_or (links_in cs vs) i 0)
            (close_pass cs 1 e c_end_body f at_end loop_codes.0 loop_codes.1 ∙ ap (close_of_lem cs 1) n
            ∙ close_skip cs loops w.balanced (k + length (code_body (body ds q))) w.behind (omega arith) ∙ ap (close_of_lem cs 1) b ∙ close_last cs 1)
            ∙ links_past cs vs few (length cs) (omega arith);
      }

-- ---- a statement of a unit
module _ (cs vs : List ℕ) (few : length cs ≤ items_most) where
  reached : (b : Body) {u k : ℕ} → Whole cs u b k → {a : Tree action} {j n o : ℕ} → Within sequence (sequence_of b) (start_in b k) (end_in b k) 0 a j n o
      → Behind cs vs few (j + size_in a) n o × Here cs action a j
  reached (body ds q) w p = follow cs vs few p (here cs vs few ds q w) (behind-all cs vs few ds q w)

  onward_at : (x : Tree action) (j n o : ℕ) → Onward x → Behind cs vs few (j + size_in x) n o → Here cs action x j → get_or (links_in cs vs) (j + size_in x - 1) 0 ≡ n
  onward_at x j n o w b h =
      let r = last_at cs x j h.stands in
      let r0 = r.0 in
      let e = h.ends in
      link_next cs vs few (j + size_in x - 1) n o (omega arith) (ap class_of r.1 ∙ (ended x).onward w)
      (subst (λ i. Behind cs vs few i n o) (let z : j + size_in x ≡ j + size_in x - 1 + 1 = omega arith in z) b)

  break_link : (m : List ℕ) (j : ℕ) → link_by cs vs (homes cs) (starts cs) (class_of c_break) m j ≡ get_or m (close_of_lem cs 1 j) 0
  unfolding link_by class_of past_loop
  break_link m j = refl

  break_at : (j n o : ℕ) → Behind cs vs few (j + 1) n o → Here cs action (leaf break) j → get_or (links_in cs vs) j 0 ≡ o
  break_at j n o b h =
      let e = h.ends in
      let l = link_is cs vs j few (omega arith) in
      let c = close_pass cs 1 j c_break (omega arith) h.stands.0 loop_codes.2 loop_codes.3 in
      let g = close_behind cs 1 (j + 1) in
      let y = links-small cs vs few (close_of_lem cs 1 (j + 1)) in
      let v : get_or (links_in cs vs) (close_of_lem cs 1 (j + 1)) 0 ≡ o = b.out in
      l.1 ∙ ap (min 4294967295) (ap (λ c. link_by cs vs (homes cs) (starts cs) (class_of c) l.0 j) h.stands.0 ∙ break_link l.0 j ∙ ap (λ i. get_or l.0 i 0) c
      ∙ l.2 (close_of_lem cs 1 (j + 1)) (omega arith) ∙ v)
      ∙ (let z : min 4294967295 o ≡ o = omega arith in z)

-- ---- accepted texts
module _ (t : List ℕ) (a : Accepts t) where
  abbrev T : List ℕ
  T = tables_text t

  abbrev C : List ℕ
  C = codes_at t a

  abbrev S : List ℕ
  S = said_at t a

  H : Held T C S (links_in C S)
  H = text-held t a

  long : 0 + length (code a.tree) ≡ length C
  long = let e = ap length (codes_are t a) ∙ length-map (code a.tree) items.code_of in omega arith

  all_at : At C 0 (code a.tree)
  all_at = subst (λ (l : List ℕ). At l 0 (code a.tree)) (ap (map items.code_of) (append-nil (code a.tree)) ∙ sym (codes_are t a)) (stands [] (code a.tree) [] 0 refl)

  whole : {u k : ℕ} {b : Body} → Holds a.tree 0 u b k → Whole C u b k
  whole p = unit-whole C p (full-model a.gram) (accepted_known t a.parts a.tree a.reads a.gram) all_at long

  unit_by : (b : Body) {u k : ℕ} → Whole C u b k → (link_of T u ≡ end_in b k) × (code_of T (end_in b k) ≡ c_end_body) × (c_proctype ≤ code_of T u) × (code_of T u ≤ c_init)
  unit_by (body ds q) {u} {k} w =
      let f = fits C S H.few ds q w in
      let p = w.place in
      let g : u < length C = omega arith in
      let c = H.codes u g in
      let d = w.head in
      let d0 = d.0 in
      let d1 = d.1 in
      (H.links u g ∙ ends_at C S H.few ds q w, H.codes (end_in (body ds q) k) f ∙ at_end C S H.few ds q w, omega arith, omega arith)

  enter_by : (b : Body) {u k : ℕ} → Whole C u b k → link_of T k ≡ enter (sequence_of b) (start_in b k) (end_in b k)
  enter_by (body ds q) {u} {k} w = let f = fits C S H.few ds q w in H.links k (omega arith) ∙ enters_at C S H.few ds q w

  -- the item that begins a unit links to the end of its body
  pub text-unit : {u k : ℕ} {b : Body} → Holds a.tree 0 u b k
      → (link_of (tables_text t) u ≡ end_in b k) × (code_of (tables_text t) (end_in b k) ≡ c_end_body) × (c_proctype ≤ code_of (tables_text t) u) × (code_of (tables_text t) u ≤ c_init)
  text-unit {b = b} p = unit_by b (whole p)

  -- a body links to its first statement
  pub text-enter : {u k : ℕ} {b : Body} → Holds a.tree 0 u b k → link_of (tables_text t) k ≡ enter (sequence_of b) (start_in b k) (end_in b k)
  text-enter {b = b} p = enter_by b (whole p)

  -- the last item of a statement links to the place that follows
  pub text-next : {u j : ℕ} {x : Tree action} {h : Ways} → Statement a.tree u x j h → Onward x → link_of (tables_text t) (j + size_in x - 1) ≡ h.next
  text-next {u} {j} {x} {h} s w =
      let r = reached C S H.few s.own (whole s.held) s.inside in
      let e = r.1.ends in
      let f = (last_at C x j r.1.stands).0 in
      H.links (j + size_in x - 1) (omega arith) ∙ onward_at C S H.few x j h.next h.out w r.0 r.1

  -- `break` links to the place behind its loop
  pub text_out : {u j : ℕ} {h : Ways} → Statement a.tree u (leaf break) j h → link_of (tables_text t) j ≡ h.out
  text_out {u} {j} {h} s =
      let r = reached C S H.few s.own (whole s.held) s.inside in
      let e = r.1.ends in
      H.links j (omega arith) ∙ break_at C S H.few j h.next h.out r.0 r.1

  leads_by : (x : Tree action) {u j : ℕ} {h : Ways} → Statement a.tree u x j h → ((w : Name) → x ≡ leaf (goto w) → link_of (tables_text t) (j + 1) ≡ h.label w) → Leads (tables_text t) h x j
  leads_by (leaf (express e)) s g = text-next s tt
  leads_by (leaf (assign r e)) s g = text-next s tt
  leads_by (leaf (increment r)) s g = text-next s tt
  leads_by (leaf (decrement r)) s g = text-next s tt
  leads_by (leaf (send mk r es)) s g = text-next s tt
  leads_by (leaf (receive mk r xs)) s g = text-next s tt
  leads_by (leaf (assert e)) s g = text-next s tt
  leads_by (leaf (print w es)) s g = text-next s tt
  leads_by (leaf skip) s g = text-next s tt
  leads_by (leaf (goto w)) s g = g w refl
  leads_by (leaf break) s g = text_out s
  leads_by (leaf timeout) s g = text-next s tt
  leads_by (leaf else) s g = text-next s tt
  leads_by (leaf (run w es)) s g = text-next s tt
  leads_by (leaf (set_run r w es)) s g = text-next s tt
  leads_by (select os) s g = tt
  leads_by (loop os) s g = tt

  -- from every statement the tables lead where the tree does, if `goto` does
  pub text-leads : {u j : ℕ} {x : Tree action} {h : Ways} → Statement a.tree u x j h → ((w : Name) → x ≡ leaf (goto w) → link_of (tables_text t) (j + 1) ≡ h.label w) → Leads (tables_text t) h x j
  text-leads {x = x} s g = leads_by x s g
