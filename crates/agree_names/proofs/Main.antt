-- NAMES STAND IN AN ACCEPTED TEXT'S TABLES FOR WHAT THEY STAND FOR IN ITS TREE: for every name that a lawful statement of a body may use, the item that its tables look up has the type, the size,
-- the place and the number of what the tree's resolution finds. And places are small numbers, and no statement begins with an `end_Body`.
use Prim.Native.Nat.{ℕ, zero, suc, ◌+◌, ◌≤◌, ◌<◌}
use native.Mathlib.Omega.{arith}
use native.Mathlib.Decide.{dec_lt}
use mathlib.Core.Path.{◌≡◌, refl, sym as inv, ap, ◌∙◌, subst}
use mathlib.Core.Bool.{Bool, true, false, not}
use mathlib.Core.Option.{Option, none, some}
use mathlib.Core.List.{List, [], ◌∷◌, ◌++◌}
use lib.ListN.{length, get_or}
use lib.IntN.{ℤ}
use lib.Dec.{eqb, leb}
use borrow.Author.Tests.{leb-true, lt-ltb, le-ltb, eq-eqb, ne_eqb, eqb-true}
use Rattle.base_codes.specs.Codes.{c_end_body, c_message}
use Rattle.base_bytes.specs.Choice.{pick, both}
use Rattle.base_bytes.specs.Lists.{same}
use Rattle.base_bytes.proofs.Tests.{true_false, both_true}
use Rattle.spec_text.specs.Names.{pid}
use Rattle.rule_sheets.specs.Homes.{inside_of}
use Rattle.rule_search.specs.Search.{find, lookup}
use Rattle.spec_grammar.specs.Tree.{Sort, Name, action, Tree, leaf, express, assign, increment, decrement, send, receive, assert, print, skip, goto, break, timeout, else, run, set_run, select, loop, set_channel, Body, body, mtypes, process, init, Model}
use Rattle.read_passes.specs.Judging.{tables_text}
use Rattle.read_accepts_proof.specs.Meaning.{Accepts}
use Rattle.table_layout.specs.Access.{code_of, link_of}
use Rattle.state_layout.specs.Layout.{local_at, global_at_lem, kept_most}
use Rattle.step_ready.specs.Channels.{capacity_of, fields_of}
use Rattle.step_ready.specs.Executing.{channels_from, channels_in}
use Rattle.step_messages.specs.Messages.{field_type}
use Rattle.step_take.specs.Effects.{called}
use Rattle.spec_rules.specs.Senses.{Sense, constant, procedure, unknown, Scope, sense_in, is_unknown, is_constant, hides, sense_of}
use Rattle.spec_rules.specs.Roles.{Role, operand, received, target}
use Rattle.legal_rules.specs.Expressions.{suits, usable, lawful, whole}
use Rattle.spec_rules.specs.Statements.{all, Place, sense}
use Rattle.legal_rules.specs.Statements.{takes, runs, allowed}
use Rattle.spec_rules.specs.Ceilings.{made_by_body, narrow, modest}
use Rattle.spec_rules.specs.Units.{of_part, of_model, tally}
use Rattle.legal_rules.specs.Units.{parts_lawful, mtypes_in, inits_in, model_lawful}
use Rattle.legal_terms.specs.Says.{item_at, Says}
use Rattle.spec_machine.specs.Sizes.{size_in}
use Rattle.spec_machine.specs.Program.{Within, itself, in_if, in_do, unlabelled, behind_label, in_first, in_rest, in_option, in_others, start_in, end_in, sequence_of}
use Rattle.agree_eval.specs.Names.{codes_at, said_at, homes_at, meant_at, decl_at}
use Rattle.agree_eval.proofs.Said.{first_said}
use Rattle.agree_transfer.proofs.Ways.{within-lawful}
use Rattle.agree_start.proofs.Units.{unit_long}
use Rattle.legal_items.proofs.Says.{text_says}
use Rattle.legal_items.proofs.Modest.{passed-modest}
use Rattle.legal_declarations.proofs.Homes.{home_inside}
use Rattle.legal_declarations.proofs.Standing.{long}
use Rattle.legal_declarations.proofs.Bodies.{Frame, home_in}
use Rattle.keep_tables.specs.Facts.{links_in, Facts}
use Rattle.keep_tables.specs.Held.{Held}
use Rattle.keep_tables.proofs.Tables.{text-held}
use Rattle.keep_tables.proofs.Known.{text_facts}
use Rattle.agree_transfer.specs.Agrees.{storable}
use Rattle.spec_machine.specs.Names.{variables_of, parameters_of, globals_of, messages_of, unit_at, proctype_of, Meaning, local, global, message, self, variable_from, message_from, meant}
use Rattle.spec_machine.specs.State.{Channel, State}
use Rattle.spec_machine.specs.Plain.{declared_by, is_message}
use Rattle.spec_machine.specs.Begins.{items_before, body_of, begins}
use Rattle.agree_encode.specs.Encode.{head_in, head_of, channel_item, encode}
use Rattle.spec_machine.specs.Fits.{Fits}
use Rattle.spec_machine.specs.Places.{Bodied, body_at, start_of, end_of, At, Belongs, ends, stands}
use Rattle.agree_encode.specs.Settings.{setting_from, setting_of}
use Rattle.agree_encode.specs.Tabled.{is_variable, offset_of, total_of, of_local, of_global, of_message}
use Rattle.agree_transfer.proofs.Statements.{within_range}
use Rattle.agree_encode.proofs.Units.{unit-holds, unit-allowed}
use Rattle.agree_names.specs.Entries.{What, slot, number, proctype, Entry, what_in, slots, entries_of, entries_to}
use Rattle.agree_names.proofs.Scopes.{Found, Good, or_else, known}
use Rattle.agree_names.proofs.Units.{InUnit, unit-entries, model-entries, unit_lies}
use Rattle.agree_names.proofs.Meanings.{kind_of, kind_found, alike_kind, alike-model, alike_locals, alike_globals, Meant, at, Variables, variables-mean, Globals, globals_mean, so_far, proctype-mean}
use Rattle.agree_names.proofs.Channels.{channel-made}
use Rattle.agree_names.proofs.Fields.{channel-says, field-says}
use Rattle.agree_names.proofs.Makes.{unit-makes}
use Rattle.agree_encode.proofs.Totals.{offset_most, Few, modest_few}
use Rattle.agree_names.proofs.Links.{code_there, variable_code, size-some, linked-global, linked_local, number_link}
use Rattle.base_ceilings.specs.Ceilings.{capacity_most, channels_most, fields_most, globals_most, items_most, mtypes_most, numbers_most, printed_most, processes_most}
use Rattle.base_codes.specs.Items.{Item, i_name}
use Rattle.base_codes.specs.Sets.{is_unit}
use Rattle.parse_code.specs.Code.{code}
use Rattle.rule_sheets.proofs.Meaning.{no_head}
use Rattle.spec_grammar.specs.Tree as tree
use Rattle.spec_rules.specs.Senses as senses
use Rattle.agree_effects.specs.Stages as stages
use Rattle.agree_effects.specs.Few as arguments
use Rattle.agree_transfer.specs.Agrees as agrees
use Rattle.spec_machine.specs.Names as names
use Rattle.agree_encode.specs.Tabled as tabled

-- ---- kinds: 0 a variable, 1 an mtype name, 2 a proctype, 3 none
abbrev kind_meant : Meaning → ℕ
kind_meant (local i x) = 0
kind_meant (global i x) = 0
kind_meant (message n) = 1
kind_meant self = 3
kind_meant names.unknown = 3

-- what hides what, by entries
kind_hides : (s r : Sense) (x y : Option What) → kind_of s ≡ kind_found x → kind_of r ≡ kind_found y → kind_of (hides s r) ≡ kind_found (or_else x y)
kind_hides (senses.variable c a) r none y p q = absurd (omega arith)
kind_hides (senses.variable c a) r (some x) y p q = p
kind_hides constant r none y p q = absurd (omega arith)
kind_hides constant r (some x) y p q = p
kind_hides (procedure n) r none y p q = absurd (omega arith)
kind_hides (procedure n) r (some x) y p q = p
kind_hides unknown r none y p q = q
kind_hides unknown r (some (slot x o)) y p q = absurd (omega arith)
kind_hides unknown r (some (number n)) y p q = absurd (omega arith)
kind_hides unknown r (some (proctype c)) y p q = absurd (omega arith)

suits_kind : (role : Role) (i : Bool) (s : Sense) → suits role i s ≡ true → kind_of s ≤ 1
suits_kind role i (senses.variable c a) h = omega arith
suits_kind role i constant h = omega arith
suits_kind role i (procedure n) h = absurd (true_false (inv h))
suits_kind role i unknown h = absurd (true_false (inv h))

variable_kind : (s : Sense) → agrees.is_variable s ≡ true → kind_of s ≡ 0
variable_kind (senses.variable c a) h = refl
variable_kind constant h = absurd (true_false (inv h))
variable_kind (procedure n) h = absurd (true_false (inv h))
variable_kind unknown h = absurd (true_false (inv h))

meaning_variable : (m : Model) (y : Meaning) → kind_meant y ≡ 0 → is_variable y ≡ true
meaning_variable m (local i x) e = refl
meaning_variable m (global i x) e = refl
meaning_variable m (message n) e = absurd (omega arith)
meaning_variable m self e = absurd (omega arith)
meaning_variable m names.unknown e = absurd (omega arith)

meaning-message : (m : Model) (y : Meaning) → is_message m 0 y ≡ eqb (kind_meant y) 1
meaning-message m (local i x) = refl
meaning-message m (global i x) = refl
meaning-message m (message n) = refl
meaning-message m self = refl
meaning-message m names.unknown = refl

sense-message : (s : Sense) → is_constant s ≡ eqb (kind_of s) 1
sense-message (senses.variable c a) = refl
sense-message constant = refl
sense-message (procedure n) = refl
sense-message unknown = refl

item-constant : (T : List ℕ) (m : Model) (u d : ℕ) (y : Meaning) → tabled.Item T m u d y → eqb (code_of T d) c_message ≡ is_message m 0 y
item-constant T m u d (local i x) (of_local l g s c n k) = c
item-constant T m u d (global i x) (of_global l g s c n k) = c
item-constant T m u d (message n) (of_message c l s) = eq-eqb (code_of T d) c_message c
item-constant T m u d self x' = elim x' [ ]
item-constant T m u d names.unknown x'' = elim x'' [ ]

-- a statement of a narrow tree is narrow
within-narrow : {k : Sort} {t : Tree k} {i n o : ℕ} {a : Tree action} {j m u : ℕ} → Within k t i n o a j m u → narrow t ≡ true → narrow a ≡ true
within-narrow itself h = h
within-narrow (in_if w) h = within-narrow w h
within-narrow (in_do w) h = within-narrow w h
within-narrow (unlabelled w) h = within-narrow w h
within-narrow (behind_label w) h = within-narrow w h
within-narrow (in_first {s = s} {q = q} w) h = within-narrow w (both_true (narrow s) (narrow q) h).0
within-narrow (in_rest {s = s} {q = q} w) h = within-narrow w (both_true (narrow s) (narrow q) h).1
within-narrow (in_option {q = q} {os = os} w) h = within-narrow w (both_true (narrow q) (narrow os) h).0
within-narrow (in_others {q = q} {os = os} w) h = within-narrow w (both_true (narrow q) (narrow os) h).1

module _ (t : List ℕ) (a : Accepts t) (legal : model_lawful a.tree ≡ true) where
  abbrev m : Model
  m = a.tree

  abbrev T : List ℕ
  T = tables_text t

  abbrev C : List ℕ
  C = codes_at t a

  abbrev W : List ℕ
  W = said_at t a

  abbrev hs : List ℕ
  hs = homes_at t a

  -- what its items say of its tree
  pub S : Says m C W
  S = text_says t record { parts = a.parts; reads = a.reads; tree = a.tree; gram = a.gram; shallow = a.shallow; numbers = a.numbers; written = a.written; coded = a.coded }

  pub H : Held T C W (links_in C W)
  H = text-held t a

  pub K : Facts C W
  K = text_facts t a

  -- "mtype names 64; .. global numbers 64; numbers per process 32"
  pub few : Few m
  few = modest_few m (go (modest m) (inv (passed-modest m C W S) ∙ a.within))
    where
      go : (b : Bool) → not b ≡ false → b ≡ true
      go true e = refl
      go false e = absurd (true_false e)

  pub parts : parts_lawful (of_model m) [] m ≡ true
  unfolding model_lawful
  parts = (both_true (both (leb (tally mtypes_in m) 1) (leb (tally inits_in m) 1)) (parts_lawful (of_model m) [] m) legal).1

  module _ (k : ℕ) (b : Bodied (unit_at m k)) where
    abbrev u : ℕ
    u = head_of m k

    abbrev f : ℕ
    f = start_of m k

    abbrev e : ℕ
    e = end_of m k

    abbrev L : List Entry
    L = slots 0 (variables_of (unit_at m k))

    abbrev G : List Entry
    G = entries_to 0 0 0 m k

    pub unit : InUnit m C W S (unit_at m k) G u (body_at m k) f e (unit-entries m C W S k b).0 (unit-entries m C W S k b).1.0
    unit = (unit-entries m C W S k b).1.1

    pub frame : Frame m C W S u (body_at m k) f e
    frame = unit.frame

    -- the statements begin in the body
    inside-start : inside_of C f ≡ suc u
    inside-start =
        let i0 = frame.parts in
        let i1 = frame.inner in
        let i2 = frame.last in
        let top = frame.top in
        inv (home_inside C S.few f (omega arith) (plain (dec_lt f e))) ∙ home_in m C W S u (body_at m k) f e frame f (omega arith) (omega arith)
      where
        plain : Dec (f < e) → is_unit (get_or C f 0) ≡ false
        plain (yes h) = let z = frame.said f (omega arith) h in no_head (get_or C f 0) (omega arith)
        plain (no h) = let i2 = frame.last in let z : get_or C f 0 ≡ c_end_body = ap (λ i. get_or C i 0) (let y : f ≡ e = omega arith in y) ∙ frame.ends in rw z refl

    -- ---- what a name of an item means where the statements begin
    module _ (w : Name) (j : ℕ) (h : j < length C) (q : item_at (code m) j ≡ i_name w) where
      abbrev v : ℕ
      v = get_or W j 0

      meant_is : meant_at t a f w ≡ lookup C W hs v (suc u) f
      unfolding meant_at
      meant_is =
          ap (λ y. lookup C W hs y (inside_of C f) f) (first_said t a w j (let z = long m C W S in omega arith) q) ∙ ap (λ y. lookup C W hs v y f) inside-start

      decl_found : (d : ℕ) → lookup C W hs v (suc u) f ≡ d → d < f
          → decl_at t a f w ≡ d
      unfolding decl_at
      decl_found d r l = let z : meant_at t a f w ≡ d = meant_is ∙ r in rw (lt-ltb (meant_at t a f w) f (omega arith)) z

      -- a local, or what no local hides
      decl_local : find C W hs 1 v (suc u) f < f
          → decl_at t a f w ≡ find C W hs 1 v (suc u) f
      unfolding lookup
      decl_local l = decl_found (find C W hs 1 v (suc u) f) (rw (lt-ltb (find C W hs 1 v (suc u) f) f l)) l

      decl-global : find C W hs 1 v (suc u) f ≡ f
          → find C W hs 1 v 0 f < f
          → decl_at t a f w ≡ find C W hs 1 v 0 f
      unfolding lookup
      decl-global z l = decl_found (find C W hs 1 v 0 f) (rw (le-ltb (find C W hs 1 v (suc u) f) f (omega arith))) l

    -- ---- the item of a name
    abbrev decl : Name → ℕ
    decl w = decl_at t a f w

    abbrev behind : Name → Meaning
    behind w = variable_from global 0 (globals_of m) w (message_from 1 (messages_of m) w)

    abbrev means : Name → Meaning
    means w = variable_from local 0 (variables_of (unit_at m k)) w (behind w)

    -- y is what w means, which is of the kind n, and the item that its tables look up is that
    pub record Resolved (w : Name) (y : Meaning) (n : ℕ) : Type 0 where
      pub item : tabled.Item T m k (decl w) y
      pub kind : kind_meant y ≡ n

    resolved : (w : Name) (d : ℕ) (x y : Meaning) → decl w ≡ d → x ≡ y → tabled.Item T m k d y → Resolved w x (kind_meant y)
    resolved w d x y p q i = record { item = subst (λ z. tabled.Item T m k z x) (inv p) (subst (tabled.Item T m k d) (inv q) i); kind = ap kind_meant q }

    named : (w : Name) → same w pid ≡ false → kind_found (or_else (what_in L w) (what_in G w)) ≤ 1 → Resolved w (means w) (kind_found (or_else (what_in L w) (what_in G w)))
    named w n h = go (what_in L w) (what_in G w) refl refl (variables-mean local 0 0 (variables_of (unit_at m k)) w (behind w)) h
      where
        -- what the first entry of the globals' space means in the tree
        outer : (y : What) → what_in G w ≡ some y
            → Globals global 0 0 (globals_of m) (message_from 1 (messages_of m) w) (behind w) 0 (length (messages_of m)) (message_from 1 (messages_of m) w) (some y)
        outer y q =
            subst (Globals global 0 0 (globals_of m) (message_from 1 (messages_of m) w) (behind w) 0 (length (messages_of m)) (message_from 1 (messages_of m) w)) (so_far 0 0 0 m k w y q)
            (globals_mean (of_model m) global w (message_from 1 (messages_of m) w) [] [] 0 0 0 0 m tt parts)

        -- what the search finds for it, where no local has the name
        found : (y : What) → what_in L w ≡ none → what_in G w ≡ some y → (d : ℕ) × ((decl w ≡ d) × Good C W hs 0 d y)
        found y p q =
            let s = unit.globals.spelt w (ap known q) in
            let j = s.0 in
            let c = s.1.0 in
            let i = s.1.1 in
            let l : find C W hs 1 (get_or W j 0) (suc u) f ≡ f = subst (Found C W hs (suc u) (find C W hs 1 (get_or W j 0) (suc u) f) f) p (unit.locals.gives j w c i n) in
            let g = subst (Found C W hs 0 (find C W hs 1 (get_or W j 0) 0 f) f) q (unit.globals.gives j w c i n) in
            (find C W hs 1 (get_or W j 0) 0 f, (decl-global w j c i l g.0, g.1))

        go : (x y : Option What) → what_in L w ≡ x → what_in G w ≡ y → Variables local 0 0 (variables_of (unit_at m k)) (behind w) (means w) x → kind_found (or_else x y) ≤ 1
            → Resolved w (means w) (kind_found (or_else x y))
        go (some (slot x o)) y p q (at i l g e r) h =
            let s = unit.locals.spelt w (ap known p) in
            let j = s.0 in
            let d = find C W hs 1 (get_or W j 0) (suc u) f in
            let c = subst (Found C W hs (suc u) d f) p (unit.locals.gives j w s.1.0 s.1.1 n) in
            let vs = variables_of (unit_at m k) in
            let most = offset_most vs i in
            let top = few.locals k b in
            let small : o ≤ 65535 = omega arith in
            let z : o ≡ offset_of vs i = omega arith in
            let codes = variable_code T C W H K (suc u) d o x c.1 small in
            resolved w d (means w) (local i x) (decl_local w j s.1.0 s.1.1 c.0) (r ∙ ap (λ j. local j x) (let z : 0 + i ≡ i = omega arith in z))
            (of_local l g (size-some T C W H K (suc u) d o x c.1 small) codes.0 codes.1
            (subst (tabled.Linked (link_of T d) x local_at) z (linked_local T C W H K (suc u) d o x c.1 small u refl)))
        go (some (number i)) y p q r h = absurd r
        go (some (proctype c)) y p q r h = absurd r
        go none none p q r h = absurd (omega arith)
        go none (some (slot x o)) p q r h = variable (outer (slot x o) q)
          where
            variable : Meant global 0 0 (globals_of m) x o (behind w) → Resolved w (means w) 0
            variable (at i l g e z) =
                let c = found (slot x o) p q in
                let d = c.0 in
                let most = offset_most (globals_of m) i in
                let top = few.globals in
                let small : o ≤ 65535 = omega arith in
                let y : o ≡ offset_of (globals_of m) i = omega arith in
                let codes = variable_code T C W H K 0 d o x c.1.1 small in
                resolved w d (means w) (global i x) c.1.0 (r ∙ z ∙ ap (λ j. global j x) (let z : 0 + i ≡ i = omega arith in z))
                (of_global l g (size-some T C W H K 0 d o x c.1.1 small) codes.0 codes.1
                (subst (tabled.Linked (link_of T d) x (λ p k. global_at_lem k)) y (linked-global T C W H K 0 d o x c.1.1 small refl)))
        go none (some (number i)) p q r h =
            let c = found (number i) p q in
            let d = c.0 in
            let o = outer (number i) q in
            let o2 = o.2 in
            let top = few.messages in
            let small : i ≤ mtypes_most = omega arith in
            resolved w d (means w) (message i) c.1.0 (r ∙ o.0 ∙ o.1)
            (of_message (code_there T C W H K d c_message (omega arith) c.1.1.0) (number_link T C W H K d i c.1.1.0 c.1.1.2 small) small)
        go none (some (proctype c)) p q r h = absurd (omega arith)

    -- ---- names that a lawful statement may use
    abbrev place : Place
    place = setting_of m k

    kind_sense : (w : Name) → kind_of (sense place w) ≡ kind_found (or_else (what_in L w) (what_in G w))
    unfolding sense_of
    kind_sense w =
        kind_hides (sense_in place.locals w) (sense_in place.globals w) (what_in L w) (what_in G w) (alike_kind place.locals L w (alike_locals (of_model m) [] m k b))
        (alike_kind place.globals G w (alike_globals (of_model m) m k b))

    meant-means : (w : Name) → same w pid ≡ false → meant m (unit_at m k) w ≡ means w
    unfolding meant
    meant-means w n = rw n

    -- a variable or an mtype name
    resolve : (w : Name) → same w pid ≡ false → kind_of (sense place w) ≤ 1 → Resolved w (meant m (unit_at m k) w) (kind_of (sense place w))
    resolve w n h =
        let z = kind_sense w in
        subst (λ i. Resolved w (meant m (unit_at m k) w) i) (inv z) (subst (λ y. Resolved w y (kind_found (or_else (what_in L w) (what_in G w)))) (inv (meant-means w n)) (named w n (omega arith)))

    pub text-names : (w : Name) → same w pid ≡ false → usable (sense place) operand false w ≡ true → tabled.Item T m k (decl w) (meant m (unit_at m k) w)
    unfolding usable
    text-names w n h = (resolve w n (suits_kind operand false (sense place w) (inv (rw n) ∙ h))).item

    pub text-stores : (w : Name) → storable (sense place) w ≡ true → tabled.Item T m k (decl w) (meant m (unit_at m k) w) × (is_variable (meant m (unit_at m k) w) ≡ true)
    unfolding storable
    text-stores w h = go (same w pid) refl h
      where
        go : (c : Bool) → same w pid ≡ c → pick c false (agrees.is_variable (sense place w)) ≡ true
            → tabled.Item T m k (decl w) (meant m (unit_at m k) w) × (is_variable (meant m (unit_at m k) w) ≡ true)
        go true n h = absurd (true_false (inv h))
        go false n h =
            let z = variable_kind (sense place w) h in
            let r = resolve w n (omega arith) in
            (r.item, meaning_variable m (meant m (unit_at m k) w) (r.kind ∙ z))

    pub text_constants : (w : Name) (i : Bool) → usable (sense place) received i w ≡ true
        → (is_message m 0 (meant m (unit_at m k) w) ≡ is_constant (sense place w)) × (eqb (code_of T (decl w)) c_message ≡ is_constant (sense place w))
    unfolding usable
    text_constants w i h = go (same w pid) refl h
      where
        go : (c : Bool) → same w pid ≡ c → pick c (both false (not i)) (suits received i (sense place w)) ≡ true
            → (is_message m 0 (meant m (unit_at m k) w) ≡ is_constant (sense place w)) × (eqb (code_of T (decl w)) c_message ≡ is_constant (sense place w))
        go true n h = absurd (true_false (inv h))
        go false n h =
            let r = resolve w n (suits_kind received i (sense place w) h) in
            let z : is_message m 0 (meant m (unit_at m k) w) ≡ is_constant (sense place w) =
            meaning-message m (meant m (unit_at m k) w) ∙ ap (λ n. eqb n 1) r.kind ∙ inv (sense-message (sense place w)) in
            (z, item-constant T m k (decl w) (meant m (unit_at m k) w) r.item ∙ z)

    -- ---- ceilings
    pub text_totals : (total_of (globals_of m) ≤ globals_most) × (total_of (variables_of (unit_at m k)) ≤ numbers_most)
    text_totals = (few.globals, few.locals k b)

    -- ---- places
    statement_range : (x : Tree action) (j n o : ℕ) → At m k x j n o → (f ≤ j) × (j < e)
    statement_range x j n o w =
        let r = within_range w in
        let y = r.1 in
        (r.0, let z = end_is (body_of (unit_at m k)) (body_at m k) in omega arith)
      where
        end_is : (b : Body) (i : ℕ) → end_in b i ≡ start_in b i + size_in (sequence_of b)
        end_is (body ds q) i = refl

    -- no statement begins with an `end_Body`
    pub text-begun : (x : Tree action) (j n o : ℕ) → At m k x j n o → eqb (code_of T j) c_end_body ≡ false
    text-begun x j n o w =
        let r = statement_range x j n o w in
        let r1 = r.1 in
        let top = frame.top in
        let c = frame.said j r.0 r.1 in
        let d = H.codes j (omega arith) in
        ne_eqb (code_of T j) c_end_body (λ z. omega arith)

    belongs-small : (j : ℕ) → Belongs m k j → j ≤ items_most
    belongs-small j (ends c z) = let top = frame.top in let g = S.few in omega arith
    belongs-small j (stands {x = x} {n = n} {o = o} c w) = let r = (statement_range x j n o w).1 in let top = frame.top in let g = S.few in omega arith

  -- places are small numbers: a model has at most 8,192 items
  pub text-belongs : (k j : ℕ) → Belongs m k j → j ≤ items_most
  text-belongs k j (ends c z) = belongs-small k c j (ends c z)
  text-belongs k j (stands c w) = belongs-small k c j (stands c w)

  pub text-small : (k j : ℕ) → Belongs m k j → j ≤ kept_most
  text-small k j b = omega (arith, text-belongs k j b)

  -- ---- channels by their declarations
  pub text-channels : (c : Channel) (n : ℕ) (ks : List ℕ) → declared_by m c ≡ set_channel n ks
      → (channel_item m c ≤ items_most) × (capacity_of T (channel_item m c) ≡ n) × (fields_of T (channel_item m c) ≡ length ks) × (n ≤ capacity_most) × (length ks ≤ fields_most)
  text-channels c n ks e = channel-says T m C W S H (channel_item m c) n ks (channel-made m C W S n ks (of_model m) c.unit c.variable parts e)

  pub text-fields : (c : Channel) (n : ℕ) (ks : List ℕ) → declared_by m c ≡ set_channel n ks → (f : ℕ) → f < length ks → field_type T (channel_item m c) f ≡ get_or ks f 0
  text-fields c n ks e f h = field-says T m C W S H (channel_item m c) n ks (channel-made m C W S n ks (of_model m) c.unit c.variable parts e) f h

  -- ---- proctypes by their names
  takes_kind : (s : Sense) (n : ℕ) → takes s n ≡ true → kind_of s ≡ 2
  takes_kind (senses.variable c x) n h = absurd (true_false (inv h))
  takes_kind constant n h = absurd (true_false (inv h))
  takes_kind (procedure i) n h = refl
  takes_kind unknown n h = absurd (true_false (inv h))

  setting-model : (M g : Scope) (x : Model) (k : ℕ) → Bodied (unit_at x k) → (setting_from M g x k).model ≡ M
  setting-model M g [] k b = absurd b
  setting-model M g (mtypes ws ∷ x) zero b = absurd b
  setting-model M g (tree.global d ∷ x) zero b = absurd b
  setting-model M g (process c w gs (body ds q) ∷ x) zero b = refl
  setting-model M g (init (body ds q) ∷ x) zero b = refl
  setting-model M g (u ∷ x) (suc k) b = setting-model M (g ++ of_part u) x k b

  -- the proctype that a run names: its unit, which the tables find
  pub record Run (w : Name) : Type 0 where
    pub head : stages.unit_at t a w ≡ head_of m (proctype_of m w)
    pub bodied : Bodied (unit_at m (proctype_of m w))
    pub sense : sense_in (of_model m) w ≡ procedure (length (parameters_of (unit_at m (proctype_of m w))))

  run_found : (w : Name) → kind_of (sense_in (of_model m) w) ≡ 2 → Run w
  unfolding stages.unit_at
  run_found w h = go (what_in E w) refl (inv (alike_kind (of_model m) E w (alike-model m 0 0 0)) ∙ h)
    where
      E : List Entry
      E = entries_of 0 0 0 m

      go : (y : Option What) → what_in (entries_of 0 0 0 m) w ≡ y → kind_found y ≡ 2 → Run w
      go none q z = absurd (omega arith)
      go (some (slot x o)) q z = absurd (omega arith)
      go (some (number i)) q z = absurd (omega arith)
      go (some (proctype d)) q z =
          let P = proctype-mean (of_model m) [] m 0 0 0 0 w d parts q in
          let A = (model-entries m C W S).1.1 in
          let s = A.spelt w (ap known q) in
          let j = s.0 in
          let c = subst (Found C W hs 0 (find C W hs 1 (get_or W j 0) 0 (length C)) (length C)) q (A.gives j w s.1.0 s.1.1 P.other) in
          let p : proctype_of m w ≡ P.unit = P.found ∙ (let z : 0 + P.unit ≡ P.unit = omega arith in z) in
          record {
            head = ap (λ v. find C W hs 1 v 0 (length C)) (first_said t a w j (let l = long m C W S in let z = s.1.0 in omega arith) s.1.1) ∙ c.1.2 ∙ P.head
                ∙ ap (head_in (unit_at m P.unit)) (let z : 0 + items_before m P.unit ≡ items_before m P.unit = omega arith in z) ∙ ap (head_of m) (inv p);
            bodied = subst (λ i. Bodied (unit_at m i)) (inv p) P.bodied;
            sense = P.sense ∙ ap (λ i. procedure (length (parameters_of (unit_at m i)))) (inv p);
          }

  -- a lawful run, of n arguments
  module _ (k : ℕ) (b : Bodied (unit_at m k)) (w : Name) (n : ℕ) (h : runs (setting_of m k) w n ≡ true) where
    taken : takes (sense_in (of_model m) w) n ≡ true
    unfolding runs
    taken =
        ap (λ (s : Scope). takes (sense_in s w) n) (inv (setting-model (of_model m) [] m k b))
        ∙ (both_true (is_unknown (sense_in (setting_of m k).locals w)) (takes (sense_in (setting_of m k).model w) n)
        (both_true (not (same w pid)) (both (is_unknown (sense_in (setting_of m k).locals w)) (takes (sense_in (setting_of m k).model w) n)) h).1
        ).1

    pub text-run : Run w
    text-run = run_found w (takes_kind (sense_in (of_model m) w) n taken)

    -- as many as there are parameters
    pub text_arity : n ≡ length (parameters_of (unit_at m (proctype_of m w)))
    text_arity = eqb-true n (length (parameters_of (unit_at m (proctype_of m w)))) (inv (ap (λ s. takes s n) text-run.sense) ∙ taken)

    run_few : n ≤ numbers_most
    run_few = let e = text_arity in let f = few.parameters (proctype_of m w) text-run.bodied in omega arith

  -- ---- arguments
  module _ (k : ℕ) (b : Bodied (unit_at m k)) where
    few_in : (x : Tree action) (loops first : Bool) → allowed (setting_of m k) loops first x ≡ true → narrow x ≡ true → arguments.Few x
    unfolding allowed
    few_in (leaf (express e)) c d h n = tt
    few_in (leaf (assign r e)) c d h n = tt
    few_in (leaf (increment r)) c d h n = tt
    few_in (leaf (decrement r)) c d h n = tt
    few_in (leaf (send mk r es)) c d h n = tt
    few_in (leaf (receive mk r xs)) c d h n = tt
    few_in (leaf (assert e)) c d h n = tt
    few_in (leaf (print w es)) c d h n = let z = leb-true (length es) printed_most n in omega arith
    few_in (leaf skip) c d h n = tt
    few_in (leaf (goto w)) c d h n = tt
    few_in (leaf break) c d h n = tt
    few_in (leaf timeout) c d h n = tt
    few_in (leaf else) c d h n = tt
    few_in (leaf (run w es)) c d h n = run_few k b w (length es) (both_true (runs (setting_of m k) w (length es)) (all (whole (sense (setting_of m k))) es) h).0
    few_in (leaf (set_run r w es)) c d h n =
        let p = (both_true (lawful (sense (setting_of m k)) target r) (both (runs (setting_of m k) w (length es)) (all (whole (sense (setting_of m k))) es)) h).1 in
        run_few k b w (length es) (both_true (runs (setting_of m k) w (length es)) (all (whole (sense (setting_of m k))) es) p).0
    few_in (select os) c d h n = tt
    few_in (loop os) c d h n = tt

    pub text_few : (x : Tree action) (j n o : ℕ) → At m k x j n o → arguments.Few x
    text_few x j n o w =
        let l = within-lawful (Belongs m k) (setting_of m k) w false false (unit-allowed (of_model m) [] m k parts b) (λ y c d e v. stands b v) (ends b refl) (λ e. absurd (true_false (inv e))) in
        few_in x l.loops l.first l.law (within-narrow w (few.prints k))

  -- ---- channels that a process makes
  unit-channels : (k : ℕ) → Bodied (unit_at m k) → channels_in T (head_of m k) ≡ made_by_body (body_of (unit_at m k))
  unit-channels k b =
      ap (λ n. channels_from T n (head_of m k)) (unit_long t a (unit-holds m k 0 (items_before m k) (omega arith) b))
      ∙ unit-makes T m C W S H (unit_at m k) (items_before m k) b (unit_lies m C W S k b) (frame k b)

  pub text-makes : (k : ℕ) → Bodied (unit_at m k) → (w : Name) (n : ℕ) → runs (setting_of m k) w n ≡ true → channels_in T (stages.unit_at t a w) ≡ made_by_body (body_of (unit_at m (proctype_of m w)))
  text-makes k b w n h = let r = text-run k b w n h in ap (channels_in T) r.head ∙ unit-channels (proctype_of m w) r.bodied

  -- ---- all that tables must say
  -- the one thing that is left: a process of unit k begins in numbers as it does in plain states
  abbrev pub Begins : Type 0
  Begins =
      (k : ℕ) → Bodied (unit_at m k) → (vs : List ℤ) → length vs ≡ length (parameters_of (unit_at m k)) → (σ : State) (r : List ℤ) → Fits (Belongs m) m σ → length σ.processes < processes_most
      → length σ.channels + made_by_body (body_of (unit_at m k)) ≤ channels_most
      → (called T (head_of m k) vs (encode m σ ++ r) ≡ encode m (begins m k vs σ) ++ r) × Fits (Belongs m) m (begins m k vs σ)

  pub text-tabled : Begins → (k : ℕ) → Bodied (unit_at m k) → tabled.Tabled (Belongs m) m k (setting_of m k) T (decl_at t a (start_of m k)) (stages.unit_at t a)
  text-tabled B k b =
      record {
        names = λ w n h. text-names k b w n h;
        stores = λ w h. text-stores k b w h;
        constants = λ w i h. text_constants k b w i h;
        globals = (text_totals k b).0;
        locals = (text_totals k b).1;
        channels = λ c n ks e. text-channels c n ks e;
        fields = λ c n ks e f h. text-fields c n ks e f h;
        makes = λ w n h. text-makes k b w n h;
        begins = λ w vs h σ r f p c.
            (let R = text-run k b w (length vs) h in
            let K = proctype_of m w in
            let q = B K R.bodied vs (text_arity k b w (length vs) h) σ r f p c in
            (ap (λ u. called T u vs (encode m σ ++ r)) R.head ∙ q.0, q.1));
      }
