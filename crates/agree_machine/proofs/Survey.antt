-- WHAT TABLES SAY OF AN ACCEPTED TEXT'S STATES, with no hypothesis: `Surveyed` (`agree_states`); and so processes begin in numbers as they do in plain states (`text-begun`), and the machine of the
-- tables is that of the model (`text_same`).
use Prim.Native.Nat.{ℕ, zero, suc, ◌+◌, ◌-◌, ◌≤◌, ◌<◌}
use native.Mathlib.Omega.{arith}
use mathlib.Core.Path.{◌≡◌, refl, sym as inv, ap, ◌∙◌, subst}
use mathlib.Core.Bool.{Bool, true, false, not}
use mathlib.Core.Logic.{◌⊎◌, inl, inr}
use mathlib.Core.List.{List, [], ◌∷◌}
use lib.ListN.{length, get_or}
use lib.IntN.{ℤ, pos}
use Rattle.base_codes.specs.Codes.{c_named}
use Rattle.base_bytes.specs.Choice.{pick}
use Rattle.base_bytes.specs.Lists.{same}
use Rattle.base_bytes.proofs.Tests.{true_false}
use Rattle.spec_grammar.specs.Tree.{Name, Value, set_name, set_channel, Part, mtypes, global, process, init, Model}
use Rattle.base_codes.specs.Items.{i_name, i_named}
use Rattle.parse_code.specs.Code.{code_value, code}
use Rattle.read_passes.specs.Judging.{tables_text}
use Rattle.read_accepts_proof.specs.Meaning.{Accepts}
use Rattle.table_layout.specs.Access.{link_of}
use Rattle.state_layout.specs.Layout.{kept, global_at_lem, local_at}
use Rattle.spec_rules.specs.Ceilings.{modest}
use Rattle.legal_terms.specs.Says.{item_at, Says}
use Rattle.legal_rules.specs.Units.{model_lawful}
use Rattle.legal_items.proofs.Modest.{passed-modest}
use Rattle.legal_declarations.proofs.Standing.{Lies, long, code_is}
use Rattle.legal_declarations.proofs.Judging.{hs}
use Rattle.agree_eval.specs.Names.{codes_at, said_at, homes_at}
use Rattle.spec_machine.specs.Names.{Var, variables_of, globals_of, messages_of, unit_at, message, message_from, number_of}
use Rattle.spec_machine.specs.State.{Channel, State}
use Rattle.spec_machine.specs.Plain.{no_var, declared_by}
use Rattle.spec_machine.specs.Begins.{items_before}
use Rattle.agree_encode.specs.Encode.{head_of, channel_item}
use Rattle.spec_machine.specs.Places.{Bodied, body_at, start_of}
use Rattle.agree_encode.specs.Tabled.{offset_of, Linked}
use Rattle.agree_transfer.specs.Alike.{Alike}
use Rattle.spec_machine.specs.Steps.{machine_of}
use Rattle.step_all.specs.Moving.{machine_in}
use Rattle.agree_tables.proofs.Main.{Holding}
use Rattle.agree_names.proofs.Scopes.{Declares}
use Rattle.agree_names.proofs.Links.{linked-global, linked_local}
use Rattle.agree_names.proofs.Main.{S, H, K, few, frame, Begins, text-channels, text-fields, text-tabled, text-small, text-begun, text_few}
use Rattle.agree_names.proofs.Values.{global_value, local_value}
use Rattle.agree_names.proofs.Texts.{text-lawful, text-alike}
use Rattle.agree_states.specs.Sites.{Site, no_site, unit_sites, global_here, global_sites, sites_at}
use Rattle.agree_states.specs.Charted.{global_item, local_item, Channelled, Surveyed}
use Rattle.agree_states.proofs.Sites.{unit_vars, sites_long, site_var}
use Rattle.agree_states.proofs.Initial.{global_vars}
use Rattle.agree_encode.proofs.Totals.{offset_most}
use Rattle.agree_states.proofs.Charts.{kept_is}
use Rattle.agree_states.proofs.Seen.{among}
use Rattle.agree_states.proofs.Texts.{text-begins}
use Rattle.agree_machine.proofs.Places.{text-places}
use Rattle.agree_machine.proofs.Sited.{Sited, AllSited, unit_sited, unit_there, globals_sited}

-- one of the sites: its offset is that of its variable
module _ (m : Model) (cs vs : List ℕ) (X : Says m cs vs) (h lo hi : ℕ) where
  sited_offset : (l : List Site) (xs : List Var) (o i : ℕ) (e : length l ≡ length xs) → ((n : ℕ) → n < length l → (get_or l n no_site).var ≡ get_or xs n no_var)
      → AllSited m cs vs X h lo hi l o → i < length l → Sited m cs vs X h lo hi (get_or l i no_site) (o + offset_of xs i)
  sited_offset [] xs o i e v a g = absurd (omega arith)
  sited_offset (s ∷ l) [] o i e v a g = absurd (omega arith)
  sited_offset (s ∷ l) (x ∷ xs) o zero e v a g = subst (Sited m cs vs X h lo hi s) (let z : o ≡ o + 0 = omega arith in z) a.0
  sited_offset (s ∷ l) (x ∷ xs) o (suc i) e v a g =
      let r = sited_offset l xs (o + s.var.size) i (omega arith) (λ n z. v (suc n) (omega arith)) a.1 (omega arith) in
      let q : s.var.size ≡ x.size = ap (λ (y : Var). y.size) (v 0 (omega arith)) in
      subst (Sited m cs vs X h lo hi (get_or l i no_site)) (let z : o + s.var.size + offset_of xs i ≡ o + (x.size + offset_of xs i) = omega arith in z) r

number_most : (n : ℕ) (ws : List Name) (w : Name) → number_of (message_from n ws w) ≤ n + length ws
unfolding message_from
number_most n [] w = omega arith
number_most n (v ∷ ws) w = go (same v w) (number_most (suc n) ws w)
  where
    go : (b : Bool) → number_of (message_from (suc n) ws w) ≤ suc n + length ws → number_of (pick b (message n) (message_from (suc n) ws w)) ≤ n + suc (length ws)
    go true h = omega arith
    go false h = omega arith

-- a unit with a body, or one whose sites are globals
kind_of : (u : Part) (i n : ℕ) → n < length (unit_sites u i) → Bodied u ⊎ (global_here u i ≡ unit_sites u i)
kind_of (mtypes ws) i n h = absurd (omega arith)
kind_of (global d) i n h = inr refl
kind_of (process a w gs b) i n h = inl tt
kind_of (init b) i n h = inl tt

module _ (t : List ℕ) (a : Accepts t) where
  abbrev m : Model
  m = a.tree

  abbrev T : List ℕ
  T = tables_text t

  abbrev C : List ℕ
  C = codes_at t a

  abbrev W : List ℕ
  W = said_at t a

  legal : model_lawful a.tree ≡ true
  legal = text-lawful t a

  abbrev X : Says a.tree (codes_at t a) (said_at t a)
  X = S t a legal

  pub text-modest : modest a.tree ≡ true
  text-modest = go (modest m) (inv (passed-modest m C W X) ∙ a.within)
    where
      go : (b : Bool) → not b ≡ false → b ≡ true
      go true e = refl
      go false e = absurd (true_false e)

  -- ---- sites of the globals
  global_long : length (global_sites m 0) ≡ length (globals_of m)
  global_long = sites_long (global_sites m 0) (globals_of m) (global_vars m 0)

  global_sited : (i : ℕ) → i < length (global_sites m 0) → Sited m C W X 0 0 (length C) (get_or (global_sites m 0) i no_site) (0 + offset_of (globals_of m) i)
  global_sited i h =
      sited_offset m C W X 0 0 (length C) (global_sites m 0) (globals_of m) 0 i global_long (λ n g. site_var (global_sites m 0) (globals_of m) (global_vars m 0) n g) (globals_sited m C W X) h

  globals : (i : ℕ) → i < length (globals_of m) → Linked (link_of T (global_item m i)) (get_or (globals_of m) i no_var) (λ p n. global_at_lem n) (offset_of (globals_of m) i)
  globals i h =
      let e = global_long in
      let g : i < length (global_sites m 0) = omega arith in
      let s = global_sited i g in
      let o = offset_of (globals_of m) i in
      let most = offset_most (globals_of m) i in
      let top = (few t a legal).globals in
      let D : Declares C W (hs m C W X) 0 (global_item m i) (get_or (global_sites m 0) i no_site).var o = subst (Declares C W (hs m C W X) 0 (global_item m i) (get_or (global_sites m 0) i no_site).var) (let z : 0 + o ≡ o = omega arith in z) s.declares in
      subst (λ (x : Var). Linked (link_of T (global_item m i)) x (λ p n. global_at_lem n) o) (site_var (global_sites m 0) (globals_of m) (global_vars m 0) i g)
      (linked-global T C W (H t a legal) (K t a legal) 0 (global_item m i) o (get_or (global_sites m 0) i no_site).var D (omega arith) refl)

  -- ---- sites of a unit with a body
  local_long : (k : ℕ) → length (sites_at m k) ≡ length (variables_of (unit_at m k))
  local_long k = sites_long (sites_at m k) (variables_of (unit_at m k)) (unit_vars (unit_at m k) (items_before m k))

  local_sited : (k : ℕ) → Bodied (unit_at m k) → (i : ℕ) → i < length (sites_at m k)
      → Sited m C W X (suc (head_of m k)) (body_at m k) (start_of m k) (get_or (sites_at m k) i no_site) (0 + offset_of (variables_of (unit_at m k)) i)
  local_sited k b i h =
      let r = unit_there m C W X k b in
      sited_offset m C W X (suc (head_of m k)) (body_at m k) (start_of m k) (sites_at m k) (variables_of (unit_at m k)) 0 i (local_long k)
      (λ n g. site_var (sites_at m k) (variables_of (unit_at m k)) (unit_vars (unit_at m k) (items_before m k)) n g)
      (unit_sited m C W X (unit_at m k) (items_before m k) b (frame t a legal k b) r.0 r.1) h

  locals : (k : ℕ) → Bodied (unit_at m k) → (i : ℕ) → i < length (variables_of (unit_at m k))
      → Linked (link_of T (local_item m k i)) (get_or (variables_of (unit_at m k)) i no_var) local_at (offset_of (variables_of (unit_at m k)) i)
  locals k b i h =
      let e = local_long k in
      let g : i < length (sites_at m k) = omega arith in
      let s = local_sited k b i g in
      let o = offset_of (variables_of (unit_at m k)) i in
      let most = offset_most (variables_of (unit_at m k)) i in
      let top = (few t a legal).locals k b in
      let D : Declares C W (hs m C W X) (suc (head_of m k)) (local_item m k i) (get_or (sites_at m k) i no_site).var o = subst (Declares C W (hs m C W X) (suc (head_of m k)) (local_item m k i) (get_or (sites_at m k) i no_site).var) (let z : 0 + o ≡ o = omega arith in z) s.declares in
      subst (λ (x : Var). Linked (link_of T (local_item m k i)) x local_at o) (site_var (sites_at m k) (variables_of (unit_at m k)) (unit_vars (unit_at m k) (items_before m k)) i g)
      (linked_local T C W (H t a legal) (K t a legal) (suc (head_of m k)) (local_item m k i) o (get_or (sites_at m k) i no_site).var D (omega arith) (head_of m k) refl)

  -- ---- values
  -- a name and `named` behind it, at item j
  valued : (h lo hi : ℕ) (s : Site) (o : ℕ) (w : Name) → Sited m C W X h lo hi s o → s.var.value ≡ set_name w
      → (suc s.worth < length C) × (item_at (code m) s.worth ≡ i_name w) × (get_or C (suc s.worth) 0 ≡ c_named) × (lo ≤ s.worth) × (suc s.worth < hi) × (get_or (homes_at t a) (suc s.worth) 0 ≡ h)
  valued h lo hi s o w x e =
      let y = subst (λ (v : Value). Lies (code m) s.worth (code_value v)) e x.value in
      let n : length (code_value s.var.value) ≡ 2 = ap (λ (v : Value). length (code_value v)) e in
      let l = long m C W X in
      let y2 = y.2.0 in
      let f = x.from (omega arith) in
      let g = x.to (omega arith) in
      (omega arith, y.1, code_is m C W X (suc s.worth) i_named y.2.0 y.2.1, f, omega arith, x.inner (suc s.worth) (omega arith) (omega arith))

  messages : (k i : ℕ) (w : Name) → i < length (sites_at m k) → (get_or (sites_at m k) i no_site).var.value ≡ set_name w
      → kept (link_of T (link_of T ((get_or (sites_at m k) i no_site).worth + 1))) ≡ pos (number_of (message_from 1 (messages_of m) w))
  messages k i w h e = go (kind_of (unit_at m k) (items_before m k) i h)
    where
      j : ℕ
      j = (get_or (sites_at m k) i no_site).worth

      done : (j : ℕ) → link_of T (link_of T (suc j)) ≡ number_of (message_from 1 (messages_of m) w) → kept (link_of T (link_of T (j + 1))) ≡ pos (number_of (message_from 1 (messages_of m) w))
      done j q =
          let n = number_most 1 (messages_of m) w in
          let f = (few t a legal).messages in
          ap kept (ap (λ i. link_of T (link_of T i)) (let z : j + 1 ≡ suc j = omega arith in z) ∙ q) ∙ kept_is (number_of (message_from 1 (messages_of m) w)) (omega arith)

      outside : (s : Site) (o : ℕ) → Sited m C W X 0 0 (length C) s o → s.var.value ≡ set_name w → kept (link_of T (link_of T (s.worth + 1))) ≡ pos (number_of (message_from 1 (messages_of m) w))
      outside s o x e = let v = valued 0 0 (length C) s o w x e in done s.worth (global_value t a legal s.worth w v.0 v.1 v.2 v.5)

      go : Bodied (unit_at m k) ⊎ (global_here (unit_at m k) (items_before m k) ≡ unit_sites (unit_at m k) (items_before m k))
          → kept (link_of T (link_of T ((get_or (sites_at m k) i no_site).worth + 1))) ≡ pos (number_of (message_from 1 (messages_of m) w))
      go (inl b) =
          let s = get_or (sites_at m k) i no_site in
          let v = valued (suc (head_of m k)) (body_at m k) (start_of m k) s (0 + offset_of (variables_of (unit_at m k)) i) w (local_sited k b i h) e in
          done s.worth (local_value t a legal s.worth w v.0 v.1 v.2 k b v.3 v.4)
      go (inr q) =
          let z : 0 + items_before m k ≡ items_before m k = omega arith in
          let g : i < length (global_here (unit_at m k) (0 + items_before m k)) =
          subst (λ n. i < length (global_here (unit_at m k) n)) (inv z) (subst (λ (l : List Site). i < length l) (inv q) h) in
          let x = among m 0 k i g in
          let p : get_or (global_sites m 0) x.place no_site ≡ get_or (sites_at m k) i no_site =
          x.is ∙ ap (λ n. get_or (global_here (unit_at m k) n) i no_site) z ∙ ap (λ (l : List Site). get_or l i no_site) q in
          subst (λ (s : Site). s.var.value ≡ set_name w → kept (link_of T (link_of T (s.worth + 1))) ≡ pos (number_of (message_from 1 (messages_of m) w))) p
          (outside (get_or (global_sites m 0) x.place no_site) (0 + offset_of (globals_of m) x.place) (global_sited x.place x.here)) e

  channels : (c : Channel) (n : ℕ) (ks : List ℕ) → declared_by m c ≡ set_channel n ks → Channelled T (channel_item m c) n ks
  channels c n ks e =
      let r = text-channels t a legal c n ks e in
      record { capacity = r.1; fields = r.2; types = λ f h. text-fields t a legal c n ks e f h; room = r.3; narrow = r.4 }

  -- ---- ALL OF IT
  pub text_surveyed : Surveyed a.tree (tables_text t)
  text_surveyed = record { globals = globals; locals = locals; messages = messages; places = text-places t a; channels = channels }

  -- A PROCESS BEGINS in numbers as it does in plain states
  pub text_begin : Begins t a (text-lawful t a)
  text_begin k b vs l σ r f p c = text-begins t a text-modest text_surveyed k b vs σ r f p c

  -- THE MACHINE OF AN ACCEPTED TEXT'S TABLES IS THAT OF ITS MODEL
  abbrev pub Holds : List ℤ → State → List ℤ → Type 0
  Holds rest = Holding t a (text-lawful t a) (text-tabled t a (text-lawful t a) text_begin) (text-small t a (text-lawful t a)) (λ k b x j n o w. text-begun t a (text-lawful t a) k b x j n o w) (λ k b x j n o w. text_few t a (text-lawful t a) k b x j n o w) rest

  pub text_same : (rest : List ℤ) → Alike (Holds rest) (machine_of a.tree) (machine_in (tables_text t))
  text_same rest = text-alike t a text_begin rest
