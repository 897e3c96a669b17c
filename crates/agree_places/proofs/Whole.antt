-- EACH PLACE OF A UNIT OF AN ACCEPTED TEXT IS THE PLACE OF A STATEMENT OF ITS TREE, or the end of its body.
use Prim.Native.Nat.{ℕ, suc, ◌+◌, ◌-◌, ◌≤◌, ◌<◌}
use native.Mathlib.Omega.{arith}
use mathlib.Core.Path.{◌≡◌, refl, sym as inv, ap, ◌∙◌, subst}
use mathlib.Core.Bool.{Bool, true, false}
use mathlib.Core.List.{List}
use lib.ListN.{length, get_or}
use Rattle.base_codes.specs.Codes.{c_body}
use Rattle.base_bytes.specs.Choice.{pick, both}
use Rattle.base_bytes.proofs.Tests.{true_false, both_true}
use Rattle.spec_grammar.specs.Tree.{Name, Group, group, Body}
use Rattle.base_codes.specs.Items.{Item, i_group, i_name, i_parameter, i_type}
use Rattle.base_codes.specs.Sets.{is_part, is_alone, is_lead}
use Rattle.parse_code.specs.Code.{code_tree, code_parameter, code_group, code_body, code}
use Rattle.table_entries.specs.Items.{AllKnown}
use Rattle.table_proof.proofs.Accepted.{accepted_known}
use Rattle.link_places.specs.Places.{is_mark, is_place, mark_of}
use Rattle.table_layout.specs.Access.{code_of, link_of}
use Rattle.read_passes.specs.Judging.{tables_text}
use Rattle.read_accepts_proof.specs.Meaning.{Accepts}
use Rattle.state_check.specs.Standing.{place_at}
use Rattle.agree_eval.specs.Names.{codes_at, said_at}
use Rattle.agree_eval.proofs.Main.{items_long}
use Rattle.keep_tables.specs.Well.{Unit, Inside}
use Rattle.keep_tables.specs.Held.{Held}
use Rattle.keep_tables.specs.Facts.{links_in, Facts}
use Rattle.keep_tables.proofs.Tables.{text-held}
use Rattle.keep_tables.proofs.Known.{text_facts}
use Rattle.keep_tables.proofs.Units.{text-ends}
use Rattle.keep_tables.proofs.Variables.{unit_there}
use Rattle.keep_tables.proofs.Marks.{mark_is, mark_in, begun-class}
use Rattle.agree_nesting.proofs.Leaves.{quiet, none}
use Rattle.agree_control.proofs.Insides.{type_still}
use Rattle.agree_control.proofs.Begins.{Dull, dull-each, one, two, dull-declarations}
use Rattle.agree_control.proofs.Main.{text-unit}
use Rattle.spec_machine.specs.Program.{label_in, start_in, end_in, sequence_of}
use Rattle.agree_sizes.specs.Bodies.{Holds}
use Rattle.agree_stage.proofs.Stands.{body_lies, statements_lie, lying_in, lying_whole}
use Rattle.agree_offers.proofs.Places.{at_there}
use Rattle.agree_places.specs.Stated.{Stated, Head}
use Rattle.agree_places.proofs.Quiet.{quiet_none, dull-quiet}
use Rattle.agree_places.proofs.Places.{places_in}
use Rattle.agree_places.proofs.Heads.{stands-late}
use Rattle.agree_places.proofs.Units.{head_in}
use Rattle.agree_places.proofs.Jumps.{end_is}

-- ---- no place among parameters
dull_parameter : (w : Name) → AllKnown (code_parameter w) → Dull (code_parameter w)
unfolding quiet is_part is_alone is_lead
dull_parameter w k = two (i_name w) i_parameter refl (refl, refl) none

dull-group : (g : Group) → AllKnown (code_group g) → Dull (code_group g)
unfolding quiet is_part is_alone is_lead
dull-group (group c ws) k = one (i_type c) (type_still k.0) (one i_group (refl, refl) (dull-each code_parameter dull_parameter ws k.1.1))

body_quiet : quiet c_body ≡ true
unfolding quiet is_part is_alone
body_quiet = refl

module _ (t : List ℕ) (a : Accepts t) where
  abbrev T : List ℕ
  T = tables_text t

  abbrev C : List ℕ
  C = codes_at t a

  abbrev X : List Item
  X = code a.tree

  H : Held T C (said_at t a) (links_in C (said_at t a))
  H = text-held t a

  K : Facts C (said_at t a)
  K = text_facts t a

  -- a unit of the tables is one of the tree
  pub text_head : (u : ℕ) → Unit T u → Head a.tree 0 u
  text_head u n =
      let h : u < length C = subst (u <◌) H.items n.0 in
      let c = H.codes u h in
      let n1 = n.1 in
      let n2 = n.2 in
      head_in C a.tree 0 u (accepted_known t a.parts a.tree a.reads a.gram) (at_there t a X 0 (lying_whole X 0)) (omega arith) (omega (arith, items_long t a)) (omega arith) (omega arith)

  -- what is a place by the tables is one by the items
  place-says : (u q : ℕ) → Unit T u → Inside T u q → place_at T q ≡ true → is_place C q ≡ true
  unfolding is_place place_at
  place-says u q n i e = go (is_alone (get_or C q 0)) (is_part (get_or C q 0)) refl refl (subst (λ c. pick (is_alone c) true (pick (is_part c) (both (is_mark (code_of T (q - 1))) (is_lead (code_of T (link_of T q)))) false) ≡ true) (H.codes q h) e)
    where
      h : q < length C
      h = unit_there T C (said_at t a) H K u q n i

      go : (x y : Bool) → is_alone (get_or C q 0) ≡ x → is_part (get_or C q 0) ≡ y → pick (is_alone (get_or C q 0)) true (pick (is_part (get_or C q 0)) (both (is_mark (code_of T (q - 1))) (is_lead (code_of T (link_of T q)))) false) ≡ true
          → pick (is_alone (get_or C q 0)) true (pick (is_part (get_or C q 0)) (both (is_mark (get_or C (q - 1) 0)) (is_lead (get_or C (mark_of C q) 0))) false) ≡ true
      go true y p r z = rw p
      go false false p r z = absurd (true_false (inv z ∙ rw (p, r)))
      go false true p r z =
          let w = both_true (is_mark (code_of T (q - 1))) (is_lead (code_of T (link_of T q))) (inv (rw (p, r)) ∙ z) in
          let w0 : is_mark (get_or C (q - 1) 0) ≡ true = ap is_mark (inv (H.codes (q - 1) (omega (arith, h)))) ∙ w.0 in
          let k = mark_is T C (said_at t a) H K u q n i (begun-class T C (said_at t a) H K q h r w0) in
          let m = (mark_in T C (said_at t a) H K u q n i).1 in
          let e = text-ends T C (said_at t a) H K u n in
          let e1 = e.1 in
          let c : get_or C (mark_of C q) 0 ≡ code_of T (link_of T q) = inv (ap (code_of T) k ∙ H.codes (mark_of C q) (subst (mark_of C q <◌) H.items (omega arith))) in
          rw (p, r, w0, c, w.1)

  -- no place stands before the statements of a unit
  module _ (x : ℕ) (e : is_place C x ≡ true) where
    place-late : {u k : ℕ} (b : Body) → Holds a.tree 0 u b k → u < x → start_in b k ≤ x
    place-late {u} {k} b p g =
        stands-late t a b p x g (λ gs l h. dull-quiet t a (suc u) (dull-each code_group dull-group gs) l x (omega arith) h e) (λ z. quiet_none C x c_body z body_quiet e)
        (λ ds l y h. dull-quiet t a (k + 1) (dull-declarations ds) l x y h e)

  -- each place of a unit is that of a statement
  pub text-stated : (u q : ℕ) → Unit T u → Inside T u q → place_at T q ≡ true → Stated a.tree u q
  text-stated u q n i e =
      let r = text_head u n in
      let b = r.own in
      let k = r.at in
      let c = place-says u q n i e in
      let s = place-late q c b r.held i.0 in
      let z = end_is b k in
      let l = (text-unit t a r.held).0 in
      let i1 = i.1 in
      let f = places_in t a (sequence_of b) (start_in b k) (end_in b k) 0 (lying_in X (code_body b) (code_tree (sequence_of b)) 0 k (start_in b k) (body_lies r.held) (statements_lie b k)) q s (omega arith) c in
      record {
        act = f.0;
        ways = record { next = f.1; out = f.2; label = λ w. label_in w (sequence_of b) (start_in b k) 0 };
        stands = record { own = b; at = k; held = r.held; inside = f.3; labels = λ w. refl };
      }
