-- WHICH ITEMS DECLARE: the `declared`, `parameter` and `channel` items of tables that hold a model's code are those of its sites, and no others.
use Prim.Native.Nat.{ℕ, zero, suc, ◌+◌, ◌<◌, ◌≤◌}
use native.Mathlib.Omega.{arith}
use native.Mathlib.Decide.{ℕ_discrete, dec_lt}
use mathlib.Core.Path.{◌≡◌, refl, sym as inv, ap, ◌∙◌, subst}
use mathlib.Core.Bool.{true}
use mathlib.Core.Option.{Option, none, some}
use mathlib.Core.Logic.{◌⊎◌, inl, inr}
use mathlib.Core.List.{List, [], ◌∷◌, ◌++◌}
use lib.ListN.{length, get_or, length-append}
use Rattle.base_codes.specs.Codes.{c_active, c_active_many, c_body, c_channel, c_declared, c_end_body, c_false, c_field, c_global, c_group, c_init, c_local, c_message, c_minus, c_mtypes, c_name, c_named, c_number, c_parameter, c_proctype, c_size, c_true, c_value}
use Rattle.spec_grammar.specs.Tree.{Name, Value, unset, set_number, set_minus, set_true, set_false, set_name, set_channel, Variable, variable, Declaration, declare, Group, group, Body, body, Activity, idle, once, times, Part, mtypes, global, process, init, Model}
use Rattle.base_codes.specs.Items.{Item, i_active, i_active_many, i_body, i_channel, i_declared, i_end_body, i_false, i_field, i_global, i_group, i_init, i_local, i_message, i_minus, i_mtypes, i_name, i_named, i_number, i_parameter, i_proctype, i_size, i_true, i_type, i_value}
use Rattle.parse_code.specs.Code.{each, code_tree, code_field, code_size, code_value, code_variable, code_declaration, code_parameter, code_group, code_body, code_activity, code_message, code_part, code}
use Rattle.base_codes.specs.Items as items
use Rattle.table_entries.specs.Items.{AllKnown}
use Rattle.table_layout.specs.Access.{code_of}
use Rattle.agree_eval.specs.Held.{Held}
use Rattle.agree_eval.proofs.Items.{held-front, held_back}
use Rattle.agree_eval.proofs.Operators.{known-front, known-back}
use Rattle.agree_start.proofs.Items.{type_below, Below, below_tree}
use Rattle.spec_machine.specs.Names.{unit_at}
use Rattle.spec_machine.specs.Sizes.{sum, size_one, size_size, size_variable, size_declaration, size_group, size_activity, size_part}
use Rattle.agree_sizes.proofs.Sizes.{size-size, size_variable_lem, size_declaration_lem, size-group, size_groups, size_activity_lem, size-part}
use Rattle.spec_machine.specs.Program.{end_in}
use Rattle.spec_machine.specs.Begins.{items_before, body_in, body_of}
use Rattle.agree_encode.specs.Encode.{head_in}
use Rattle.spec_machine.specs.Places.{Bodied}
use Rattle.agree_encode.proofs.Rows.{get_left, get_right}
use Rattle.agree_states.specs.Sites.{chan, Site, no_site, site_of, sites_of, sites_in, local_sites, name_sites, group_in, group_sites, body_sites, unit_sites, global_here, global_sites}
use Rattle.agree_states.proofs.Sites.{head-inside}

-- a channel, or a declaring item, of these sites
pub record Makes (L : List Site) (j : ℕ) : Type 0 where
  pub site : ℕ
  pub here : site < length L
  pub makes : chan (get_or L site no_site).var.value ≡ true
  pub is : (get_or L site no_site).worth + 1 ≡ j

pub record Tells (L : List Site) (j : ℕ) : Type 0 where
  pub site : ℕ
  pub here : site < length L
  pub is : (get_or L site no_site).item ≡ j

makes-left : (L K : List Site) (j : ℕ) → Makes L j → Makes (L ++ K) j
makes-left L K j h =
    let e = get_left L K no_site h.site h.here in
    let n = length-append L K in
    let g = h.here in
    record { site = h.site; here = omega arith; makes = ap (λ (x : Site). chan x.var.value) e ∙ h.makes; is = ap (λ (x : Site). x.worth + 1) e ∙ h.is }

makes-right : (L K : List Site) (j : ℕ) → Makes K j → Makes (L ++ K) j
makes-right L K j h =
    let e = get_right L K no_site (length L) h.site (length L + h.site) refl refl in
    let n = length-append L K in
    let g = h.here in
    record { site = length L + h.site; here = omega arith; makes = ap (λ (x : Site). chan x.var.value) e ∙ h.makes; is = ap (λ (x : Site). x.worth + 1) e ∙ h.is }

tells_left : (L K : List Site) (j : ℕ) → Tells L j → Tells (L ++ K) j
tells_left L K j h =
    let e = get_left L K no_site h.site h.here in let n = length-append L K in let g = h.here in record { site = h.site; here = omega arith; is = ap (λ (x : Site). x.item) e ∙ h.is }

tells_right : (L K : List Site) (j : ℕ) → Tells K j → Tells (L ++ K) j
tells_right L K j h =
    let e = get_right L K no_site (length L) h.site (length L + h.site) refl refl in
    let n = length-append L K in
    let g = h.here in
    record { site = length L + h.site; here = omega arith; is = ap (λ (x : Site). x.item) e ∙ h.is }

-- a unit ends with its body
pub body_end : (u : Part) (i : ℕ) → Bodied u → end_in (body_of u) (body_in u i) < i + size_part u
body_end (process a w gs (body ds q)) i h = omega arith
body_end (init (body ds q)) i h = omega arith
body_end (mtypes _) i h = elim h [ ]
body_end (global _) i h = elim h [ ]

module _ (T : List ℕ) where
  -- item j, if it declares, does so for one of these sites
  pub record Spotted (L : List Site) (j : ℕ) : Type 0 where
    pub channel : code_of T j ≡ c_channel → Makes L j
    pub declared : code_of T j ≡ c_declared → Tells L j
    pub parameter : code_of T j ≡ c_parameter → Tells L j

  abbrev pub Seen : List Site → List Item → ℕ → Type 0
  Seen L l i = (j : ℕ) → i ≤ j → j < i + length l → Spotted L j

  spotted_left : (L K : List Site) (j : ℕ) → Spotted L j → Spotted (L ++ K) j
  spotted_left L K j s = record { channel = λ e. makes-left L K j (s.channel e); declared = λ e. tells_left L K j (s.declared e); parameter = λ e. tells_left L K j (s.parameter e) }

  spotted_right : (L K : List Site) (j : ℕ) → Spotted K j → Spotted (L ++ K) j
  spotted_right L K j s = record { channel = λ e. makes-right L K j (s.channel e); declared = λ e. tells_right L K j (s.declared e); parameter = λ e. tells_right L K j (s.parameter e) }

  seen_both : (L K : List Site) (x y : List Item) (i k : ℕ) → k ≡ i + length x → Seen L x i → Seen K y k → Seen (L ++ K) (x ++ y) i
  seen_both L K x y i k e a b j h g = go (dec_lt j (i + length x))
    where
      go : Dec (j < i + length x) → Spotted (L ++ K) j
      go (yes z) = spotted_left L K j (a j h z)
      go (no z) = let n = length-append x y in spotted_right L K j (b j (omega arith) (omega arith))

  -- of the same sites
  seen_more : (L : List Site) (x y : List Item) (i k : ℕ) → k ≡ i + length x → Seen L x i → Seen L y k → Seen L (x ++ y) i
  seen_more L x y i k e a b j h g = go (dec_lt j (i + length x))
    where
      go : Dec (j < i + length x) → Spotted L j
      go (yes z) = a j h z
      go (no z) = let n = length-append x y in b j (omega arith) (omega arith)

  seen_none : (L : List Site) (i : ℕ) → Seen L [] i
  seen_none L i j h g = absurd (omega arith)

  seen_first : (L : List Site) (x : Item) (l : List Item) (i : ℕ) → Spotted L i → Seen L l (suc i) → Seen L (x ∷ l) i
  seen_first L x l i s r j h g = go (ℕ_discrete j i)
    where
      go : Dec (j ≡ i) → Spotted L j
      go (yes z) = subst (Spotted L) (inv z) s
      go (no z) = r j (omega arith) (omega arith)

  -- any other code
  plain : (L : List Site) (j c : ℕ) → code_of T j ≡ c → (c ≡ c_channel → ⊥) → (c ≡ c_declared → ⊥) → (c ≡ c_parameter → ⊥) → Spotted L j
  plain L j c e x y z = record { channel = λ q. absurd (x (inv e ∙ q)); declared = λ q. absurd (y (inv e ∙ q)); parameter = λ q. absurd (z (inv e ∙ q)) }

  low : (L : List Site) (j c : ℕ) → code_of T j ≡ c → c < c_local → Spotted L j
  low L j c e h = plain L j c e (λ z. omega arith) (λ z. omega arith) (λ z. omega arith)

  seen_below : (L : List Site) (l : List Item) (i : ℕ) → Below l → AllKnown l → Held T i l → Seen L l i
  seen_below L [] i b k h = seen_none L i
  seen_below L (x ∷ l) i b k h = seen_first L x l i (low L i (items.code_of x) h.0 (b.0 k.0)) (seen_below L l (suc i) b.1 k.1 h.2)

  -- ---- variables
  fields_seen : (L : List Site) (ks : List ℕ) (i : ℕ) → AllKnown (each code_field ks) → Held T i (each code_field ks) → Seen L (each code_field ks) i
  fields_seen L [] i k h = seen_none L i
  fields_seen L (c ∷ ks) i k h =
      seen_first L (i_type c) (i_field ∷ each code_field ks) i (low L i (items.code_of (i_type c)) h.0 (type_below c k.0))
      (seen_first L i_field (each code_field ks) (suc i) (plain L (suc i) c_field h.2.0 (λ z. omega arith) (λ z. omega arith) (λ z. omega arith)) (fields_seen L ks (suc (suc i)) k.1.1 h.2.2))

  two_seen : (L : List Site) (x y : Item) (i a b : ℕ) → code_of T i ≡ a → a < c_local → code_of T (suc i) ≡ b → (b ≡ c_channel → ⊥) → (b ≡ c_declared → ⊥) → (b ≡ c_parameter → ⊥) → Seen L (x ∷ y ∷ []) i
  two_seen L x y i a b e h f p q r = seen_first L x (y ∷ []) i (low L i a e h) (seen_first L y [] (suc i) (plain L (suc i) b f p q r) (seen_none L (suc (suc i))))

  value_seen : (L : List Site) (v : Value) (i : ℕ) → (chan v ≡ true → Makes L (suc i)) → AllKnown (code_value v) → Held T i (code_value v) → Seen L (code_value v) i
  value_seen L unset i m k h = seen_none L i
  value_seen L (set_number n) i m k h = two_seen L (i_number n) i_value i c_number c_value h.0 (omega arith) h.2.0 (λ z. omega arith) (λ z. omega arith) (λ z. omega arith)
  value_seen L (set_minus n) i m k h = two_seen L (i_number n) i_minus i c_number c_minus h.0 (omega arith) h.2.0 (λ z. omega arith) (λ z. omega arith) (λ z. omega arith)
  value_seen L set_true i m k h = two_seen L i_true i_value i c_true c_value h.0 (omega arith) h.2.0 (λ z. omega arith) (λ z. omega arith) (λ z. omega arith)
  value_seen L set_false i m k h = two_seen L i_false i_value i c_false c_value h.0 (omega arith) h.2.0 (λ z. omega arith) (λ z. omega arith) (λ z. omega arith)
  value_seen L (set_name w) i m k h = two_seen L (i_name w) i_named i c_name c_named h.0 (omega arith) h.2.0 (λ z. omega arith) (λ z. omega arith) (λ z. omega arith)
  value_seen L (set_channel n ks) i m k h =
      let c = h.2.0 in
      seen_first L (i_number n) (i_channel ∷ each code_field ks) i (low L i c_number h.0 (omega arith))
      (seen_first L i_channel (each code_field ks) (suc i) record { channel = λ e. m refl; declared = λ e. absurd (omega arith); parameter = λ e. absurd (omega arith) }
      (fields_seen L ks (suc (suc i)) k.1.1 h.2.2))

  size_seen : (L : List Site) (z : Option ℕ) (i : ℕ) → Held T i (code_size z) → Seen L (code_size z) i
  size_seen L none i h = seen_none L i
  size_seen L (some n) i h = two_seen L (i_number n) i_size i c_number c_size h.0 (omega arith) h.2.0 (λ z. omega arith) (λ z. omega arith) (λ z. omega arith)

  one_seen : (k : ℕ) (x : Variable) (i : ℕ) → AllKnown (code_variable x) → Held T i (code_variable x) → Seen (site_of k x i ∷ []) (code_variable x) i
  one_seen c (variable w z v) i k h =
      let L = site_of c (variable w z v) i ∷ [] in
      let Z = code_size z in
      let d = h.2.0 in
      let n = size-size z in
      let e = suc (suc i) + length (code_size z) in
      seen_first L (i_name w) (i_declared ∷ (Z ++ code_value v)) i (low L i c_name h.0 (omega arith))
      (seen_first L i_declared (Z ++ code_value v) (suc i)
      record {
        channel = λ q. absurd (omega arith);
        declared = λ q. record { site = 0; here = omega arith; is = omega arith };
        parameter = λ q. absurd (omega arith);
      }
      (seen_more L Z (code_value v) (suc (suc i)) e refl (size_seen L z (suc (suc i)) (held-front T (suc (suc i)) Z (code_value v) h.2.2))
      (value_seen L v e (λ m. record { site = 0; here = omega arith; makes = m; is = omega arith }) (known-back Z (code_value v) k.1.1) (held_back T Z (code_value v) (suc (suc i)) e refl h.2.2))))

  variables_seen : (k : ℕ) (xs : List Variable) (i : ℕ) → AllKnown (each code_variable xs) → Held T i (each code_variable xs) → Seen (sites_of k xs i) (each code_variable xs) i
  variables_seen c [] i k h = seen_none [] i
  variables_seen c (x ∷ xs) i k h =
      let Y = code_variable x in
      let R = each code_variable xs in
      let n = i + size_variable x in
      let e : i + size_variable x ≡ i + length (code_variable x) = omega (arith, size_variable_lem x) in
      seen_both (site_of c x i ∷ []) (sites_of c xs n) Y R i n e (one_seen c x i (known-front Y R k) (held-front T i Y R h)) (variables_seen c xs n (known-back Y R k) (held_back T Y R i n e h))

  -- a mark is 210 or 211
  declaration_seen : (mark : Item) (d : Declaration) (i : ℕ) → c_local ≤ items.code_of mark → items.code_of mark ≤ c_global → AllKnown (code_declaration mark d) → Held T i (code_declaration mark d)
      → Seen (sites_in d i) (code_declaration mark d) i
  declaration_seen mark (declare c xs) i a b k h =
      let L = sites_of c xs (i + 2) in
      let R = each code_variable xs in
      let q : suc (suc i) ≡ i + 2 = omega arith in
      seen_first L (i_type c) (mark ∷ R) i (low L i (items.code_of (i_type c)) h.0 (type_below c k.0))
      (seen_first L mark R (suc i) (plain L (suc i) (items.code_of mark) h.2.0 (λ z. omega arith) (λ z. omega arith) (λ z. omega arith))
      (subst (Seen L R) (inv q) (variables_seen c xs (i + 2) k.1.1 (subst (λ n. Held T n R) q h.2.2))))

  locals_seen : (ds : List Declaration) (i : ℕ) → AllKnown (each (code_declaration i_local) ds) → Held T i (each (code_declaration i_local) ds) → Seen (local_sites ds i) (each (code_declaration i_local) ds) i
  locals_seen [] i k h = seen_none [] i
  locals_seen (d ∷ ds) i k h =
      let D = code_declaration i_local d in
      let R = each (code_declaration i_local) ds in
      let n = i + size_declaration d in
      let e : i + size_declaration d ≡ i + length (code_declaration i_local d) = omega (arith, size_declaration_lem i_local d) in
      seen_both (sites_in d i) (local_sites ds n) D R i n e (declaration_seen i_local d i (omega arith) (omega arith) (known-front D R k) (held-front T i D R h))
      (locals_seen ds n (known-back D R k) (held_back T D R i n e h))

  -- ---- parameters
  names_seen : (k : ℕ) (ws : List Name) (i : ℕ) → Held T i (each code_parameter ws) → Seen (name_sites k ws i) (each code_parameter ws) i
  names_seen c [] i h = seen_none [] i
  names_seen c (w ∷ ws) i h =
      let L = name_sites c (w ∷ []) i in
      let R = each code_parameter ws in
      let d = h.2.0 in
      let q : suc (suc i) ≡ i + 2 = omega arith in
      seen_both L (name_sites c ws (i + 2)) (code_parameter w) R i (i + 2) refl
      (seen_first L (i_name w) (i_parameter ∷ []) i (low L i c_name h.0 (omega arith))
      (seen_first L i_parameter [] (suc i)
      record {
        channel = λ e. absurd (omega arith);
        declared = λ e. absurd (omega arith);
        parameter = λ e. record { site = 0; here = omega arith; is = omega arith };
      } (seen_none L (suc (suc i)))))
      (names_seen c ws (i + 2) (subst (λ n. Held T n R) q h.2.2))

  group_seen : (g : Group) (i : ℕ) → AllKnown (code_group g) → Held T i (code_group g) → Seen (group_in g i) (code_group g) i
  group_seen (group c ws) i k h =
      let L = name_sites c ws (i + 2) in
      let R = each code_parameter ws in
      let q : suc (suc i) ≡ i + 2 = omega arith in
      seen_first L (i_type c) (i_group ∷ R) i (low L i (items.code_of (i_type c)) h.0 (type_below c k.0))
      (seen_first L i_group R (suc i) (plain L (suc i) c_group h.2.0 (λ z. omega arith) (λ z. omega arith) (λ z. omega arith))
      (subst (Seen L R) (inv q) (names_seen c ws (i + 2) (subst (λ n. Held T n R) q h.2.2))))

  groups_seen : (gs : List Group) (i : ℕ) → AllKnown (each code_group gs) → Held T i (each code_group gs) → Seen (group_sites gs i) (each code_group gs) i
  groups_seen [] i k h = seen_none [] i
  groups_seen (g ∷ gs) i k h =
      let G = code_group g in
      let R = each code_group gs in
      let n = i + size_group g in
      let e : i + size_group g ≡ i + length (code_group g) = omega (arith, size-group g) in
      seen_both (group_in g i) (group_sites gs n) G R i n e (group_seen g i (known-front G R k) (held-front T i G R h)) (groups_seen gs n (known-back G R k) (held_back T G R i n e h))

  -- ---- units
  body_seen : (b : Body) (i : ℕ) → AllKnown (code_body b) → Held T i (code_body b) → Seen (body_sites b i) (code_body b) i
  body_seen (body ds q) i k h =
      let L = local_sites ds (i + 1) in
      let D = each (code_declaration i_local) ds in
      let Q = code_tree q in
      let E = i_end_body ∷ [] in
      let A = i_body ∷ D in
      let k1 = known-front (A ++ Q) E k in
      let h1 = held-front T i (A ++ Q) E h in
      let kA = known-front A Q k1 in
      let hA = held-front T i A Q h1 in
      let s : suc i ≡ i + 1 = omega arith in
      let hE = held_back T (A ++ Q) E i (i + length (A ++ Q)) refl h in
      seen_more L (A ++ Q) E i (i + length (A ++ Q)) refl
      (seen_more L A Q i (i + length A) refl
      (seen_first L i_body D i (plain L i c_body hA.0 (λ z. omega arith) (λ z. omega arith) (λ z. omega arith))
      (subst (Seen L D) (inv s) (locals_seen ds (i + 1) kA.1 (subst (λ n. Held T n D) s hA.2))))
      (seen_below L Q (i + length A) (below_tree q) (known-back A Q k1) (held_back T A Q i (i + length A) refl h1)))
      (seen_first L i_end_body [] (i + length (A ++ Q)) (plain L (i + length (A ++ Q)) c_end_body hE.0 (λ z. omega arith) (λ z. omega arith) (λ z. omega arith)) (seen_none L (suc (i + length (A ++ Q)))))

  activity_seen : (L : List Site) (a : Activity) (w : Name) (i : ℕ) → Held T i (code_activity a w) → Seen L (code_activity a w) i
  activity_seen L idle w i h = two_seen L (i_name w) i_proctype i c_name c_proctype h.0 (omega arith) h.2.0 (λ z. omega arith) (λ z. omega arith) (λ z. omega arith)
  activity_seen L once w i h = two_seen L (i_name w) i_active i c_name c_active h.0 (omega arith) h.2.0 (λ z. omega arith) (λ z. omega arith) (λ z. omega arith)
  activity_seen L (times n) w i h =
      seen_first L (i_number n) (i_name w ∷ i_active_many ∷ []) i (low L i c_number h.0 (omega arith)) (two_seen L (i_name w) i_active_many (suc i) c_name c_active_many h.2.0 (omega arith) h.2.2.0 (λ z. omega arith) (λ z. omega arith) (λ z. omega arith))

  messages_seen : (L : List Site) (ws : List Name) (i : ℕ) → Held T i (each code_message ws) → Seen L (each code_message ws) i
  messages_seen L [] i h = seen_none L i
  messages_seen L (w ∷ ws) i h =
      seen_first L (i_name w) (i_message ∷ each code_message ws) i (low L i c_name h.0 (omega arith))
      (seen_first L i_message (each code_message ws) (suc i) (plain L (suc i) c_message h.2.0 (λ z. omega arith) (λ z. omega arith) (λ z. omega arith)) (messages_seen L ws (suc (suc i)) h.2.2))

  -- where a body begins
  heads_end : (a : Activity) (w : Name) (gs : List Group) (i : ℕ) → i + size_activity a + sum size_group gs ≡ i + length (code_activity a w ++ each code_group gs)
  heads_end a w gs i = omega (arith, size_activity_lem a w, size_groups gs, length-append (code_activity a w) (each code_group gs))

  pub unit_seen : (u : Part) (i : ℕ) → AllKnown (code_part u) → Held T i (code_part u) → Seen (unit_sites u i) (code_part u) i
  unit_seen (mtypes ws) i k h = seen_first [] i_mtypes (each code_message ws) i (plain [] i c_mtypes h.0 (λ z. omega arith) (λ z. omega arith) (λ z. omega arith)) (messages_seen [] ws (suc i) h.2)
  unit_seen (global d) i k h = declaration_seen i_global d i (omega arith) (omega arith) k h
  unit_seen (process a w gs b) i k h =
      let A = code_activity a w in
      let G = each code_group gs in
      let B = code_body b in
      let n = i + size_activity a in
      let o = body_in (process a w gs b) i in
      let e : i + size_activity a ≡ i + length (code_activity a w) = omega (arith, size_activity_lem a w) in
      let q = heads_end a w gs i in
      let k1 = known-front (A ++ G) B k in
      let h1 = held-front T i (A ++ G) B h in
      let L = group_sites gs n in
      seen_both L (body_sites b o) (A ++ G) B i o q
      (seen_more L A G i n e (activity_seen L a w i (held-front T i A G h1)) (groups_seen gs n (known-back A G k1) (held_back T A G i n e h1)))
      (body_seen b o (known-back (A ++ G) B k) (held_back T (A ++ G) B i o q h))
  unit_seen (init b) i k h =
      let q : suc i ≡ i + 1 = omega arith in
      let L = body_sites b (i + 1) in
      seen_first L i_init (code_body b) i (plain L i c_init h.0 (λ z. omega arith) (λ z. omega arith) (λ z. omega arith))
      (subst (Seen L (code_body b)) (inv q) (body_seen b (i + 1) k.1 (subst (λ n. Held T n (code_body b)) q h.2)))

  -- ---- the model: the unit in which an item stands
  pub record InUnit (us : Model) (i j : ℕ) : Type 0 where
    pub unit : ℕ
    pub here : unit < length us
    pub from : i + items_before us unit ≤ j
    pub to : j < i + items_before us unit + size_part (unit_at us unit)
    pub spotted : Spotted (unit_sites (unit_at us unit) (i + items_before us unit)) j

  pub model_seen : (us : Model) (i : ℕ) → AllKnown (code us) → Held T i (code us) → (j : ℕ) → i ≤ j → j < i + length (code us) → InUnit us i j
  unfolding items_before
  model_seen [] i k h j a b = absurd (omega arith)
  model_seen (u ∷ us) i k h j a b =
      let P = code_part u in
      let n = length-append (code_part u) (code us) in
      let e = i + size_part u in
      go (dec_lt j e) (λ z. model_seen us e (known-back P (code us) k) (held_back T P (code us) i e (omega (arith, size-part u)) h) j z (omega (arith, size-part u)))
    where
      s0 : i + 0 ≡ i
      s0 = omega arith

      go : Dec (j < i + size_part u) → (i + size_part u ≤ j → InUnit us (i + size_part u) j) → InUnit (u ∷ us) i j
      go (yes z) r =
          record {
            unit = 0;
            here = omega arith;
            from = omega arith;
            to = omega arith;
            spotted = subst (λ n. Spotted (unit_sites u n) j) (inv s0) (unit_seen u i (known-front (code_part u) (code us) k) (held-front T i (code_part u) (code us) h) j a (omega (arith, size-part u)));
          }
      go (no z) r =
          let w = r (omega arith) in
          let f = w.from in
          let g = w.to in
          let o = w.here in
          let q : i + size_part u + items_before us w.unit ≡ i + (size_part u + items_before us w.unit) = omega arith in
          record { unit = suc w.unit; here = omega arith; from = omega arith; to = omega arith; spotted = subst (λ n. Spotted (unit_sites (unit_at us w.unit) n) j) q w.spotted }

  -- ---- and each site stands there: its declaring item from lo on and before hi
  pub record Stood (lo hi : ℕ) (x : Site) : Type 0 where
    pub from : lo ≤ x.item
    pub to : x.item < hi
    pub tells : (code_of T x.item ≡ c_declared) ⊎ (code_of T x.item ≡ c_parameter)
    -- and its value
    pub value : Held T x.worth (code_value x.var.value)

  abbrev pub Standing : ℕ → ℕ → List Site → Type 0
  Standing lo hi [] = Unit {0}
  Standing lo hi (x ∷ l) = Stood lo hi x × Standing lo hi l

  standing-both : (lo hi : ℕ) (l k : List Site) → Standing lo hi l → Standing lo hi k → Standing lo hi (l ++ k)
  standing-both lo hi [] k a b = b
  standing-both lo hi (x ∷ l) k a b = (a.0, standing-both lo hi l k a.1 b)

  standing-wide : (lo hi low high : ℕ) → low ≤ lo → hi ≤ high → (l : List Site) → Standing lo hi l → Standing low high l
  standing-wide lo hi low high p q [] s = tt
  standing-wide lo hi low high p q (x ∷ l) s =
      let f = s.0.from in let g = s.0.to in (record { from = omega arith; to = omega arith; tells = s.0.tells; value = s.0.value }, standing-wide lo hi low high p q l s.1)

  pub standing_at : (lo hi : ℕ) (l : List Site) → Standing lo hi l → (n : ℕ) → n < length l → Stood lo hi (get_or l n no_site)
  standing_at lo hi [] s n h = absurd (omega arith)
  standing_at lo hi (x ∷ l) s zero h = s.0
  standing_at lo hi (x ∷ l) s (suc n) h = standing_at lo hi l s.1 n (omega arith)

  one-stands : (k : ℕ) (x : Variable) (i : ℕ) → Held T i (code_variable x) → Stood i (i + size_variable x) (site_of k x i)
  one-stands c (variable w z v) i h =
      let q : suc i ≡ i + 1 = omega arith in
      record {
        from = omega arith;
        to = omega arith;
        tells = inl (ap (code_of T) (inv q) ∙ h.2.0);
        value = held_back T (code_size z) (code_value v) (suc (suc i)) (i + 2 + size_size z) (omega (arith, size-size z)) h.2.2;
      }

  variables_stand : (k : ℕ) (xs : List Variable) (i : ℕ) → Held T i (each code_variable xs) → Standing i (i + sum size_variable xs) (sites_of k xs i)
  variables_stand c [] i h = tt
  variables_stand c (x ∷ xs) i h =
      let Y = code_variable x in
      let R = each code_variable xs in
      let n = i + size_variable x in
      let e = i + sum size_variable (x ∷ xs) in (
        (standing-wide i n i e (omega arith) (omega arith) (site_of c x i ∷ []) (one-stands c x i (held-front T i Y R h), tt)).0,
        standing-wide n (n + sum size_variable xs) i e (omega arith) (omega arith) (sites_of c xs n) (variables_stand c xs n (held_back T Y R i n (omega (arith, size_variable_lem x)) h)),
      )

  declaration_stands : (mark : Item) (d : Declaration) (i : ℕ) → Held T i (code_declaration mark d) → Standing i (i + size_declaration d) (sites_in d i)
  declaration_stands mark (declare c xs) i h =
      let R = each code_variable xs in
      let q : suc (suc i) ≡ i + 2 = omega arith in
      standing-wide (i + 2) (i + 2 + sum size_variable xs) i (i + size_declaration (declare c xs)) (omega arith) (omega arith) (sites_of c xs (i + 2))
      (variables_stand c xs (i + 2) (subst (λ n. Held T n R) q h.2.2))

  locals_stand : (ds : List Declaration) (i : ℕ) → Held T i (each (code_declaration i_local) ds) → Standing i (i + sum size_declaration ds) (local_sites ds i)
  locals_stand [] i h = tt
  locals_stand (d ∷ ds) i h =
      let D = code_declaration i_local d in
      let R = each (code_declaration i_local) ds in
      let n = i + size_declaration d in
      let e = i + sum size_declaration (d ∷ ds) in
      standing-both i e (sites_in d i) (local_sites ds n) (standing-wide i n i e (omega arith) (omega arith) (sites_in d i) (declaration_stands i_local d i (held-front T i D R h)))
      (standing-wide n (n + sum size_declaration ds) i e (omega arith) (omega arith) (local_sites ds n) (locals_stand ds n (held_back T D R i n (omega (arith, size_declaration_lem i_local d)) h)))

  names_stand : (k : ℕ) (ws : List Name) (i : ℕ) → Held T i (each code_parameter ws) → Standing i (i + sum size_one ws) (name_sites k ws i)
  names_stand c [] i h = tt
  names_stand c (w ∷ ws) i h =
      let R = each code_parameter ws in
      let s : suc i ≡ i + 1 = omega arith in
      let q : suc (suc i) ≡ i + 2 = omega arith in (
        record { from = omega arith; to = omega arith; tells = inr (ap (code_of T) (inv s) ∙ h.2.0); value = tt },
        standing-wide (i + 2) (i + 2 + sum size_one ws) i (i + sum size_one (w ∷ ws)) (omega arith) (omega arith) (name_sites c ws (i + 2)) (names_stand c ws (i + 2) (subst (λ n. Held T n R) q h.2.2)),
      )

  group-stands : (g : Group) (i : ℕ) → Held T i (code_group g) → Standing i (i + size_group g) (group_in g i)
  group-stands (group c ws) i h =
      let R = each code_parameter ws in
      let q : suc (suc i) ≡ i + 2 = omega arith in
      standing-wide (i + 2) (i + 2 + sum size_one ws) i (i + size_group (group c ws)) (omega arith) (omega arith) (name_sites c ws (i + 2)) (names_stand c ws (i + 2) (subst (λ n. Held T n R) q h.2.2))

  groups_stand : (gs : List Group) (i : ℕ) → Held T i (each code_group gs) → Standing i (i + sum size_group gs) (group_sites gs i)
  groups_stand [] i h = tt
  groups_stand (g ∷ gs) i h =
      let G = code_group g in
      let R = each code_group gs in
      let n = i + size_group g in
      let e = i + sum size_group (g ∷ gs) in
      standing-both i e (group_in g i) (group_sites gs n) (standing-wide i n i e (omega arith) (omega arith) (group_in g i) (group-stands g i (held-front T i G R h)))
      (standing-wide n (n + sum size_group gs) i e (omega arith) (omega arith) (group_sites gs n) (groups_stand gs n (held_back T G R i n (omega (arith, size-group g)) h)))

  body_stands : (b : Body) (i : ℕ) → Held T i (code_body b) → Standing i (end_in b i) (body_sites b i)
  body_stands (body ds q) i h =
      let D = each (code_declaration i_local) ds in
      let Q = code_tree q in
      let s : suc i ≡ i + 1 = omega arith in
      let hA = held-front T i (i_body ∷ D) Q (held-front T i (i_body ∷ D ++ Q) (i_end_body ∷ []) h) in
      standing-wide (i + 1) (i + 1 + sum size_declaration ds) i (end_in (body ds q) i) (omega arith) (omega arith) (local_sites ds (i + 1)) (locals_stand ds (i + 1) (subst (λ n. Held T n D) s hA.2))

  -- behind the first item of the unit, before the end of its body
  pub unit-stands : (u : Part) (i : ℕ) → Bodied u → Held T i (code_part u) → Standing (head_in u i) (end_in (body_of u) (body_in u i)) (unit_sites u i)
  unit-stands (process a w gs b) i p h =
      let A = code_activity a w in
      let G = each code_group gs in
      let B = code_body b in
      let n = i + size_activity a in
      let k = body_in (process a w gs b) i in
      let z = end_most b (i + size_activity a + sum size_group gs) in
      let hd = head_in (process a w gs b) i in
      standing-both hd (end_in b k) (group_sites gs n) (body_sites b k)
      (standing-wide n k hd (end_in b k) (omega arith) (omega arith) (group_sites gs n) (groups_stand gs n (held_back T A G i n (omega (arith, size_activity_lem a w)) (held-front T i (A ++ G) B h))))
      (standing-wide k (end_in b k) hd (end_in b k) (omega arith) (omega arith) (body_sites b k) (body_stands b k (held_back T (A ++ G) B i k (heads_end a w gs i) h)))
    where
      end_most : (b : Body) (k : ℕ) → k ≤ end_in b k
      end_most (body ds q) k = omega arith
  unit-stands (init b) i p h =
      let s : suc i ≡ i + 1 = omega arith in
      standing-wide (i + 1) (end_in b (i + 1)) i (end_in b (i + 1)) (omega arith) (omega arith) (body_sites b (i + 1)) (body_stands b (i + 1) (subst (λ n. Held T n (code_body b)) s h.2))
  unit-stands (mtypes _) i p h = elim p [ ]
  unit-stands (global _) i p h = elim p [ ]

  -- of any unit, in its items
  pub part-stands : (u : Part) (i : ℕ) → Held T i (code_part u) → Standing i (i + size_part u) (unit_sites u i)
  part-stands (mtypes ws) i h = tt
  part-stands (global d) i h = declaration_stands i_global d i h
  part-stands (process a w gs b) i h =
      let r = head-inside (process a w gs b) i tt in
      let e = body_end (process a w gs b) i tt in
      let r0 = r.0 in
      standing-wide (head_in (process a w gs b) i) (end_in b (body_in (process a w gs b) i)) i (i + size_part (process a w gs b)) r0 (omega arith) (unit_sites (process a w gs b) i)
      (unit-stands (process a w gs b) i tt h)
  part-stands (init b) i h =
      let e = body_end (init b) i tt in
      standing-wide i (end_in b (i + 1)) i (i + size_part (init b)) (omega arith) (omega arith) (unit_sites (init b) i) (unit-stands (init b) i tt h)

  pub unit-held : (us : Model) (i : ℕ) → Held T i (code us) → (k : ℕ) → k < length us → Held T (i + items_before us k) (code_part (unit_at us k))
  unfolding items_before
  unit-held [] i h k g = absurd (omega arith)
  unit-held (u ∷ us) i h zero g = subst (λ n. Held T n (code_part u)) (let z : i ≡ i + 0 = omega arith in z) (held-front T i (code_part u) (code us) h)
  unit-held (u ∷ us) i h (suc k) g =
      subst (λ n. Held T n (code_part (unit_at us k))) (let z : i + size_part u + items_before us k ≡ i + (size_part u + items_before us k) = omega arith in z)
      (unit-held us (i + size_part u) (held_back T (code_part u) (code us) i (i + size_part u) (omega (arith, size-part u)) h) k (omega arith))

  -- ---- globals are declared by `declared` items
  abbrev pub Declaring : ℕ → List Site → Type 0
  Declaring hi [] = Unit {0}
  Declaring hi (x ∷ l) = ((code_of T x.item ≡ c_declared) × (x.item < hi)) × Declaring hi l

  declaring-both : (hi : ℕ) (l k : List Site) → Declaring hi l → Declaring hi k → Declaring hi (l ++ k)
  declaring-both hi [] k a b = b
  declaring-both hi (x ∷ l) k a b = (a.0, declaring-both hi l k a.1 b)

  pub declaring_at : (hi : ℕ) (l : List Site) → Declaring hi l → (n : ℕ) → n < length l → (code_of T (get_or l n no_site).item ≡ c_declared) × ((get_or l n no_site).item < hi)
  declaring_at hi [] s n h = absurd (omega arith)
  declaring_at hi (x ∷ l) s zero h = s.0
  declaring_at hi (x ∷ l) s (suc n) h = declaring_at hi l s.1 n (omega arith)

  variables_declare : (k : ℕ) (xs : List Variable) (i hi : ℕ) → i + sum size_variable xs ≤ hi → Held T i (each code_variable xs) → Declaring hi (sites_of k xs i)
  variables_declare c [] i hi g h = tt
  variables_declare c (variable w z v ∷ xs) i hi g h =
      let Y = code_variable (variable w z v) in
      let R = each code_variable xs in
      let n = i + size_variable (variable w z v) in
      let q : i + 1 ≡ suc i = omega arith in
      ((ap (code_of T) q ∙ h.2.0, omega arith), variables_declare c xs n hi (omega arith) (held_back T Y R i n (omega (arith, size_variable_lem (variable w z v))) h))

  here-declares : (u : Part) (i hi : ℕ) → i + size_part u ≤ hi → Held T i (code_part u) → Declaring hi (global_here u i)
  here-declares (mtypes ws) i hi g h = tt
  here-declares (global (declare c xs)) i hi g h =
      let q : suc (suc i) ≡ i + 2 = omega arith in variables_declare c xs (i + 2) hi (omega arith) (subst (λ n. Held T n (each code_variable xs)) q h.2.2)
  here-declares (process a w gs b) i hi g h = tt
  here-declares (init b) i hi g h = tt

  pub globals_declare : (us : Model) (i hi : ℕ) → i + length (code us) ≤ hi → Held T i (code us) → Declaring hi (global_sites us i)
  globals_declare [] i hi g h = tt
  globals_declare (u ∷ us) i hi g h =
      let P = code_part u in
      let e = length-append (code_part u) (code us) in
      let z = size-part u in
      let n = i + size_part u in
      declaring-both hi (global_here u i) (global_sites us n) (here-declares u i hi (omega arith) (held-front T i P (code us) h))
      (globals_declare us n hi (omega arith) (held_back T P (code us) i n (omega arith) h))

-- the globals of unit k among all
pub record Among (us : Model) (i k n : ℕ) : Type 0 where
  pub place : ℕ
  pub here : place < length (global_sites us i)
  pub is : get_or (global_sites us i) place no_site ≡ get_or (global_here (unit_at us k) (i + items_before us k)) n no_site

pub among : (us : Model) (i k n : ℕ) → n < length (global_here (unit_at us k) (i + items_before us k)) → Among us i k n
unfolding items_before
among [] i zero n h = absurd (omega arith)
among [] i (suc k) n h = absurd (omega arith)
among (u ∷ us) i zero n h =
    let H = global_here u i in
    let R = global_sites us (i + size_part u) in
    let q : i + 0 ≡ i = omega arith in
    let g : n < length (global_here u i) = subst (λ a. n < length (global_here u a)) q h in
    let e = length-append (global_here u i) (global_sites us (i + size_part u)) in
    record { place = n; here = omega arith; is = get_left H R no_site n g ∙ ap (λ a. get_or (global_here u a) n no_site) (inv q) }
among (u ∷ us) i (suc k) n h =
    let H = global_here u i in
    let R = global_sites us (i + size_part u) in
    let q : i + (size_part u + items_before us k) ≡ i + size_part u + items_before us k = omega arith in
    let r = among us (i + size_part u) k n (subst (λ a. n < length (global_here (unit_at us k) a)) q h) in
    let e = length-append (global_here u i) (global_sites us (i + size_part u)) in
    let f = r.here in
    record {
      place = length H + r.place;
      here = omega arith;
      is = get_right H R no_site (length H) r.place (length H + r.place) refl refl ∙ r.is ∙ ap (λ a. get_or (global_here (unit_at us k) a) n no_site) (inv q);
    }
