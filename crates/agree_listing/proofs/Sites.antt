-- SITES IN THE ORDER OF THEIR ITEMS, each behind the item that is its variable's name.
use Prim.Native.Nat.{ℕ, zero, suc, ◌+◌, ◌-◌, ◌<◌, ◌≤◌}
use native.Mathlib.Omega.{arith}
use mathlib.Core.Path.{◌≡◌, ap, ◌∙◌, subst}
use mathlib.Core.List.{List, [], ◌∷◌, ◌++◌}
use lib.ListN.{length, get_or, length-append}
use Rattle.base_codes.specs.Items.{Item, i_body, i_end_body, i_global, i_local}
use Rattle.spec_grammar.specs.Tree.{Name, Variable, variable, Declaration, declare, Group, group, Body, body, Activity, Part, mtypes, global, process, init, Model}
use Rattle.parse_code.specs.Code.{each, code_tree, code_variable, code_declaration, code_parameter, code_group, code_body, code_activity, code_part, code}
use Rattle.spec_machine.specs.Sizes.{sum, size_one, size_variable, size_declaration, size_group, size_body, size_activity, size_part}
use Rattle.agree_sizes.proofs.Sizes.{size_variable_lem, size_declaration_lem, size-group, size_groups, size_activity_lem, size-part}
use Rattle.spec_machine.specs.Begins.{body_in}
use Rattle.spec_machine.specs.Places.{Bodied}
use Rattle.agree_encode.specs.Encode.{head_in}
use Rattle.agree_states.specs.Sites.{Site, no_site, sites_of, sites_in, local_sites, name_sites, group_in, group_sites, body_sites, unit_sites, global_here, global_sites}
use Rattle.agree_states.proofs.Sites.{some-items}
use Rattle.write_letters.specs.Tokens.{spelled}
use Rattle.agree_listing.proofs.Told.{Told, told-front, told_back, told-name}

module _ (T : List ℕ) where
  -- their items rise, from item lo on and before item hi
  abbrev pub Listed : List Site → ℕ → ℕ → Type 0
  Listed [] lo hi = lo ≤ hi
  Listed (x ∷ l) lo hi = (lo ≤ x.item) × (spelled T (x.item - 1) ≡ x.var.name) × Listed l (suc x.item) hi

  pub listed-named : (l : List Site) (lo hi : ℕ) → Listed l lo hi → (i : ℕ) → i < length l → spelled T ((get_or l i no_site).item - 1) ≡ (get_or l i no_site).var.name
  listed-named [] lo hi s i h = absurd (omega arith)
  listed-named (x ∷ l) lo hi s zero h = s.1
  listed-named (x ∷ l) lo hi s (suc i) h = listed-named l (suc x.item) hi s.2 i (omega arith)

  -- from an earlier item on
  pub listed-from : (l : List Site) (lo low hi : ℕ) → low ≤ lo → Listed l lo hi → Listed l low hi
  listed-from [] lo low hi h s = omega arith
  listed-from (x ∷ l) lo low hi h s = let a = s.0 in (omega arith, s.1, s.2)

  listed-both : (l k : List Site) (lo mid hi : ℕ) → Listed l lo mid → Listed k mid hi → Listed (l ++ k) lo hi
  listed-both [] k lo mid hi s r = listed-from k mid lo hi s r
  listed-both (x ∷ l) k lo mid hi s r = (s.0, s.1, listed-both l k (suc x.item) mid hi s.2 r)

  -- ---- declarations
  variables-listed : (k : ℕ) (xs : List Variable) (i e : ℕ) → i + sum size_variable xs ≤ e → Told T i (each code_variable xs) → Listed (sites_of k xs i) i e
  variables-listed k [] i e g h = omega arith
  variables-listed k (variable w z v ∷ xs) i e g h =
      let Y = code_variable (variable w z v) in
      let n = i + size_variable (variable w z v) in
      let q : i + 1 - 1 ≡ i = omega arith in (
        omega arith,
        ap (spelled T) q ∙ told-name T i w h.0,
        listed-from (sites_of k xs n) n (suc (i + 1)) e (omega arith)
            (variables-listed k xs n e (omega arith) (told_back T Y (each code_variable xs) i n (omega (arith, size_variable_lem (variable w z v))) h)),
      )

  declaration_listed : (mark : Item) (d : Declaration) (i e : ℕ) → i + size_declaration d ≤ e → Told T i (code_declaration mark d) → Listed (sites_in d i) i e
  declaration_listed mark (declare k xs) i e g h =
      listed-from (sites_of k xs (i + 2)) (i + 2) i e (omega arith)
      (variables-listed k xs (i + 2) e (omega arith) (subst (λ n. Told T n (each code_variable xs)) (let z : suc (suc i) ≡ i + 2 = omega arith in z) h.1.1))

  locals_listed : (ds : List Declaration) (i e : ℕ) → i + sum size_declaration ds ≤ e → Told T i (each (code_declaration i_local) ds) → Listed (local_sites ds i) i e
  locals_listed [] i e g h = omega arith
  locals_listed (d ∷ ds) i e g h =
      let D = code_declaration i_local d in
      let R = each (code_declaration i_local) ds in
      let n = i + size_declaration d in
      listed-both (sites_in d i) (local_sites ds n) i n e (declaration_listed i_local d i n (omega arith) (told-front T i D R h))
      (locals_listed ds n e (omega arith) (told_back T D R i n (omega (arith, size_declaration_lem i_local d)) h))

  -- ---- parameters
  names-listed : (k : ℕ) (ws : List Name) (i e : ℕ) → i + sum size_one ws ≤ e → Told T i (each code_parameter ws) → Listed (name_sites k ws i) i e
  names-listed k [] i e g h = omega arith
  names-listed k (w ∷ ws) i e g h =
      let q : i + 1 - 1 ≡ i = omega arith in (
        omega arith,
        ap (spelled T) q ∙ told-name T i w h.0,
        listed-from (name_sites k ws (i + 2)) (i + 2) (suc (i + 1)) e (omega arith)
            (names-listed k ws (i + 2) e (omega arith) (subst (λ n. Told T n (each code_parameter ws)) (let z : suc (suc i) ≡ i + 2 = omega arith in z) h.1.1)),
      )

  group-listed : (g : Group) (i e : ℕ) → i + size_group g ≤ e → Told T i (code_group g) → Listed (group_in g i) i e
  group-listed (group k ws) i e g h =
      listed-from (name_sites k ws (i + 2)) (i + 2) i e (omega arith)
      (names-listed k ws (i + 2) e (omega arith) (subst (λ n. Told T n (each code_parameter ws)) (let z : suc (suc i) ≡ i + 2 = omega arith in z) h.1.1))

  groups_listed : (gs : List Group) (i e : ℕ) → i + sum size_group gs ≤ e → Told T i (each code_group gs) → Listed (group_sites gs i) i e
  groups_listed [] i e g h = omega arith
  groups_listed (g ∷ gs) i e b h =
      let G = code_group g in
      let R = each code_group gs in
      let n = i + size_group g in
      listed-both (group_in g i) (group_sites gs n) i n e (group-listed g i n (omega arith) (told-front T i G R h))
      (groups_listed gs n e (omega arith) (told_back T G R i n (omega (arith, size-group g)) h))

  -- ---- units
  body_listed : (b : Body) (i e : ℕ) → i + size_body b ≤ e → Told T i (code_body b) → Listed (body_sites b i) i e
  body_listed (body ds q) i e g h =
      let D = each (code_declaration i_local) ds in
      let s : suc i ≡ i + 1 = omega arith in
      let A = told-front T i (i_body ∷ D) (code_tree q) (told-front T i (i_body ∷ D ++ code_tree q) (i_end_body ∷ []) h) in
      listed-from (local_sites ds (i + 1)) (i + 1) i e (omega arith) (locals_listed ds (i + 1) e (omega arith) (subst (λ n. Told T n D) s A.1))

  heads_end : (a : Activity) (w : Name) (gs : List Group) (i : ℕ) → i + size_activity a + sum size_group gs ≡ i + length (code_activity a w ++ each code_group gs)
  heads_end a w gs i = omega (arith, length-append (code_activity a w) (each code_group gs), size_activity_lem a w, size_groups gs)

  -- behind the first item of the unit
  pub unit-listed : (u : Part) (i : ℕ) → Bodied u → Told T i (code_part u) → Listed (unit_sites u i) (head_in u i) (i + size_part u)
  unit-listed (process a w gs b) i p h =
      let A = code_activity a w in
      let G = each code_group gs in
      let n = i + size_activity a in
      let k = body_in (process a w gs b) i in
      let e = i + size_part (process a w gs b) in
      let two = some-items a in
      listed-from (group_sites gs n ++ body_sites b k) n (head_in (process a w gs b) i) e (omega arith)
      (listed-both (group_sites gs n) (body_sites b k) n k e
      (groups_listed gs n k (omega arith) (told_back T A G i n (omega (arith, size_activity_lem a w)) (told-front T i (A ++ G) (code_body b) h)))
      (body_listed b k e (omega arith) (told_back T (A ++ G) (code_body b) i k (heads_end a w gs i) h)))
  unit-listed (init b) i p h =
      let e = i + size_part (init b) in
      listed-from (body_sites b (i + 1)) (i + 1) i e (omega arith) (body_listed b (i + 1) e (omega arith) (subst (λ n. Told T n (code_body b)) (let z : suc i ≡ i + 1 = omega arith in z) h.1))
  unit-listed (mtypes _) i p h = elim p [ ]
  unit-listed (global _) i p h = elim p [ ]

  here-listed : (u : Part) (i : ℕ) → Told T i (code_part u) → Listed (global_here u i) i (i + size_part u)
  here-listed (mtypes ws) i h = omega arith
  here-listed (global d) i h = declaration_listed i_global d i (i + size_declaration d) (omega arith) h
  here-listed (process a w gs b) i h = omega arith
  here-listed (init b) i h = omega arith

  pub globals_listed : (us : Model) (i : ℕ) → Told T i (code us) → Listed (global_sites us i) i (i + sum size_part us)
  globals_listed [] i h = omega arith
  globals_listed (u ∷ us) i h =
      let n = i + size_part u in
      let r = globals_listed us n (told_back T (code_part u) (code us) i n (omega (arith, size-part u)) h) in
      listed-both (global_here u i) (global_sites us n) i n (i + sum size_part (u ∷ us)) (here-listed u i (told-front T i (code_part u) (code us) h))
      (subst (Listed (global_sites us n) n) (let z : n + sum size_part us ≡ i + sum size_part (u ∷ us) = omega arith in z) r)
