-- THE INITIAL STATE in numbers is the plain one (`initial_is`), and it fits (`initial-fits`), for tables that chart a modest model: globals unit by unit, then the processes that start.
use Prim.Native.Nat.{ℕ, zero, suc, ◌+◌, ◌-◌, ◌*◌, ◌<◌, ◌≤◌, min}
use native.Mathlib.Omega.{arith}
use native.Mathlib.Nat.{suc-mul}
use mathlib.Core.Path.{◌≡◌, refl, sym as inv, ap, ap₂, ◌∙◌, subst}
use mathlib.Core.Bool.{true, false}
use mathlib.Core.List.{List, [], ◌∷◌, ◌++◌, map, append_assoc, append-nil}
use lib.ListN.{length, get_or, set, drop, replicate, length-append, length-replicate, length-drop, get_or-replicate}
use lib.IntN.{ℤ, pos}
use Rattle.base_ceilings.specs.Ceilings.{channels_most, globals_most, processes_most, state_room}
use Rattle.table_layout.specs.Access.{link_of}
use Rattle.state_layout.specs.Layout.{cleared, cell_of, global_at_lem, process_at_lem, channel_at}
use Rattle.agree_start.specs.Beginnings as numeric
use Rattle.agree_start.specs.Beginnings.{repeated, starts_in, begins_in, globals_in, started_in, all_started, initial_in}
use Rattle.spec_grammar.specs.Tree.{Body, Activity, idle, once, times, Part, mtypes, global, process, init, Model}
use Rattle.parse_code.specs.Code.{each}
use Rattle.spec_rules.specs.Statements.{all}
use Rattle.spec_rules.specs.Units.{tally}
use Rattle.spec_rules.specs.Ceilings.{made_by_declaration, made_by_body, started_by, start_count, channel_count, modest}
use Rattle.spec_machine.specs.Sizes.{sum, size_group, size_activity, size_part}
use Rattle.spec_machine.specs.State.{Channel, State}
use Rattle.spec_machine.specs.Names as names
use Rattle.spec_machine.specs.Names.{Var, variables_of, globals_of, unit_at}
use Rattle.spec_machine.specs.Begins.{Made, makes_all, items_before, body_in, body_of, begins, begins_times, globals_from, starts_from, initial}
use Rattle.spec_machine.specs.Begins as plain
use Rattle.spec_machine.specs.Plain.{no_var}
use Rattle.agree_encode.specs.Encode.{flat, head_in, head_of, encode}
use Rattle.spec_machine.specs.Places.{Bodied, body_at, Belongs}
use Rattle.spec_machine.specs.Fits.{Filled, Fits}
use Rattle.agree_encode.specs.Tabled.{offset_of, Linked}
use Rattle.agree_encode.proofs.Rows.{get_left, get_right}
use Rattle.agree_encode.proofs.Numbers.{channels_are, global-stored}
use Rattle.agree_encode.proofs.Grows.{channel-more}
use Rattle.agree_encode.proofs.Fitting.{ahead_is, flat_long}
use Rattle.agree_encode.proofs.Totals.{modest_few}
use Rattle.agree_states.specs.Sites.{chan, Site, no_site, unit_sites, global_here, global_sites, sites_at}
use Rattle.agree_states.specs.Charted.{global_item, Charted}
use Rattle.agree_states.proofs.Cells.{Shown, shown-same}
use Rattle.agree_states.proofs.Slices.{get_past}
use Rattle.agree_states.proofs.Sites.{some-items, var_of, map_both, declaration_vars, unit_vars, sites_long, site_var, unit-item}
use Rattle.agree_states.proofs.Making.{Shaped, Writes, Good, channels_in, along, sites_made}
use Rattle.agree_states.proofs.Begun.{zeros, zeros-shaped, zeros_long, drop-front, declaration_along, declaration_channels, begun-plainly}
use Rattle.agree_states.proofs.Lasting.{values-none, Sound, channels_among, among_sites, all_fit, begins-channels, begins-processes, begins-fits}

-- ---- units of the model from unit k on, whose items begin at item i
pub record Behind (m us : Model) (k i : ℕ) : Type 0 where
  pub at : (j : ℕ) → unit_at m (k + j) ≡ unit_at us j
  pub before : (j : ℕ) → items_before m (k + j) ≡ i + items_before us j

behind-next : (m : Model) (u : Part) (us : Model) (k i : ℕ) → Behind m (u ∷ us) k i → Behind m us (suc k) (i + size_part u)
unfolding items_before
behind-next m u us k i b =
    record {
      at = λ j. ap (unit_at m) (let z : suc k + j ≡ k + suc j = omega arith in z) ∙ b.at (suc j);
      before = λ j. ap (items_before m) (let z : suc k + j ≡ k + suc j = omega arith in z) ∙ b.before (suc j)
          ∙ (let z : i + (size_part u + items_before us j) ≡ i + size_part u + items_before us j = omega arith in z);
    }

behind-all : (m : Model) → Behind m m 0 0
behind-all m = record { at = λ j. ap (unit_at m) (let z : 0 + j ≡ j = omega arith in z); before = λ j. ap (items_before m) (let z : 0 + j ≡ j = omega arith in z) ∙ (let z : items_before m j ≡ 0 + items_before m j = omega arith in z) }

module _ (m : Model) (u : Part) (us : Model) (k i : ℕ) (b : Behind m (u ∷ us) k i) where
  unit-here : unit_at m k ≡ u
  unit-here = ap (unit_at m) (let z : k ≡ k + 0 = omega arith in z) ∙ b.at 0

  items-here : items_before m k ≡ i
  unfolding items_before
  items-here = ap (items_before m) (let z : k ≡ k + 0 = omega arith in z) ∙ b.before 0 ∙ (let z : i + 0 ≡ i = omega arith in z)

  sites_here : sites_at m k ≡ unit_sites u i
  sites_here = ap₂ unit_sites unit-here items-here

-- ---- global declarations
here_vars : (u : Part) (i : ℕ) → map var_of (global_here u i) ≡ names.global_in u
here_vars (mtypes ws) i = refl
here_vars (global d) i = declaration_vars d i
here_vars (process a w gs b) i = refl
here_vars (init b) i = refl

pub global_vars : (us : Model) (i : ℕ) → map var_of (global_sites us i) ≡ globals_of us
global_vars [] i = refl
global_vars (u ∷ us) i =
    map_both var_of (global_here u i) (global_sites us (i + size_part u)) ∙ ap₂ (λ (x y : List Var). x ++ y) (here_vars u i) (global_vars us (i + size_part u))

here-along : (T : List ℕ) (u : Part) (i : ℕ) (s : List ℤ) → numeric.global_in T u i s ≡ along T 0 (global_here u i) s
here-along T (mtypes ws) i s = refl
here-along T (global d) i s = declaration_along T 0 d i s
here-along T (process a w gs b) i s = refl
here-along T (init b) i s = refl

-- they are the unit's own
here_own : (u : Part) (i j : ℕ) → j < length (global_here u i) → global_here u i ≡ unit_sites u i
here_own (mtypes ws) i j h = refl
here_own (global d) i j h = refl
here_own (process a w gs b) i j h = absurd (omega arith)
here_own (init b) i j h = absurd (omega arith)

-- how many channels a unit's globals, and its processes that start, make
abbrev global_channels : Part → ℕ
global_channels (mtypes ws) = 0
global_channels (global d) = made_by_declaration d
global_channels (process a w gs b) = 0
global_channels (init b) = 0

abbrev own_channels : Part → ℕ
own_channels (mtypes ws) = 0
own_channels (global d) = 0
own_channels (process a w gs b) = started_by a * made_by_body b
own_channels (init b) = made_by_body b

here-channels : (u : Part) (i : ℕ) → channels_in (global_here u i) ≡ global_channels u
here-channels (mtypes ws) i = refl
here-channels (global d) i = declaration_channels d i
here-channels (process a w gs b) i = refl
here-channels (init b) i = refl

channels-split : (m : Model) → tally channel_count m ≡ tally global_channels m + tally own_channels m
channels-split [] = refl
channels-split (mtypes ws ∷ m) = let r = channels-split m in omega arith
channels-split (global d ∷ m) = let r = channels-split m in omega arith
channels-split (process a w gs b ∷ m) = let r = channels-split m in omega arith
channels-split (init b ∷ m) = let r = channels-split m in omega arith

-- ---- all zeros
zeros-flat : (xs : List Var) (k : ℕ) → get_or (flat (zeros xs)) k (pos 0) ≡ pos 0
zeros-flat [] zero = refl
zeros-flat [] (suc k) = refl
zeros-flat (x ∷ xs) k = go x.size k (zeros-flat xs)
  where
    go : (n k : ℕ) → ((k : ℕ) → get_or (flat (zeros xs)) k (pos 0) ≡ pos 0) → get_or (replicate n (pos 0) ++ flat (zeros xs)) k (pos 0) ≡ pos 0
    go zero k r = r k
    go (suc n) zero r = refl
    go (suc n) (suc k) r = go n k r

module _ (m : Model) where
  abbrev pub blank : State
  blank = record { globals = zeros (globals_of m); processes = []; channels = [] }

  pub cleared_is : (s : List ℤ) → state_room ≤ length s → cleared s ≡ encode m blank ++ drop state_room s
  cleared_is s h =
      ap (λ n. replicate n (pos 0) ++ drop n s) (let z : min state_room (length s) ≡ state_room = omega arith in z)
      ∙ shown-same m blank Z (let e = length-append (replicate state_room (pos 0)) (drop state_room s) in let f = length-replicate state_room (pos 0) in omega arith) shown
      ∙ ap (λ (l : List ℤ). encode m blank ++ l) (drop-front (replicate state_room (pos 0)) (drop state_room s) state_room (length-replicate state_room (pos 0)))
    where
      Z : List ℤ
      Z = replicate state_room (pos 0) ++ drop state_room s

      cell : (i : ℕ) → i < state_room → cell_of (replicate state_room (pos 0) ++ drop state_room s) i ≡ pos 0
      cell i g = get_left (replicate state_room (pos 0)) (drop state_room s) (pos 0) i (subst (i <◌) (inv (length-replicate state_room (pos 0))) g) ∙ get_or-replicate state_room i (pos 0) (pos 0) g

      none : (p k : ℕ) → get_or (get_or [] p []) k (pos 0) ≡ pos 0
      none p k = ap (λ (l : List ℤ). get_or l k (pos 0)) (get_past [] [] p (omega arith)) ∙ get_past [] (pos 0) k (omega arith)

      shown : Shown m record { globals = zeros (globals_of m); processes = []; channels = [] } (replicate state_room (pos 0) ++ drop state_room s)
      shown =
          record {
            processes_count = cell 0 (omega arith);
            channels_count = cell 1 (omega arith);
            globals = λ k g. cell (global_at_lem k) (omega arith) ∙ inv (zeros-flat (globals_of m) k);
            processes = λ p k g q. cell (process_at_lem p + k) (omega arith) ∙ inv (none p k);
            channels = λ c k g q. cell (channel_at c + k) (omega arith) ∙ inv (none c k);
            rest = λ i g q. cell i q;
          }

  -- ---- the globals in turn
  module _ (T : List ℕ) (X : Charted m T) (t : List ℤ) where
    abbrev xs : List Var
    xs = globals_of m

    abbrev E : List (List ℤ) → List Channel → List ℤ
    E N C = encode m record { globals = N; processes = []; channels = C } ++ t

    abbrev at : ℕ → ℕ → ℕ
    at p n = global_at_lem n

    W : Writes m (globals_of m) (λ p n. global_at_lem n) 0 (λ N C. encode m record { globals = N; processes = []; channels = C } ++ t)
    W =
        record {
          store = λ N C i n v S h q.
              ap (λ j. set (E N C) (global_at_lem (j + n)) v) (inv (ahead_is xs N S.all S.sized i))
              ∙ global-stored m t record { globals = N; processes = []; channels = C } i n v (subst (i <◌) (inv S.all) h) (subst (n <◌) (inv (S.sized i h)) q)
              (subst (◌≤ globals_most) (inv (flat_long xs N S.all S.sized)) X.globals_few);
          make = λ N C y e h. channel-more m t record { globals = N; processes = []; channels = C } y e h;
          count = λ N C h. channels_are m t record { globals = N; processes = []; channels = C } h;
        }

    good : (u : Part) (us : Model) (k i n : ℕ) → Behind m (u ∷ us) k i → ((j : ℕ) → get_or (global_sites m 0) (n + j) no_site ≡ get_or (global_sites (u ∷ us) i) j no_site)
        → n + length (global_sites (u ∷ us) i) ≡ length (global_sites m 0) → (j : ℕ) → j < length (global_here u i) → Good m T xs at 0 E W k (get_or (global_here u i) j no_site) (n + j) (0 + j)
    good u us k i n b same long j h =
        let v = global_vars m 0 in
        let len = length-append (global_here u i) (global_sites us (i + size_part u)) in
        let lx = sites_long (global_sites m 0) xs v in
        let g : n + j < length (global_sites m 0) = omega arith in
        let gx : n + j < length (globals_of m) = omega arith in
        let e : get_or (global_sites m 0) (n + j) no_site ≡ get_or (global_here u i) j no_site = same j ∙ get_left (global_here u i) (global_sites us (i + size_part u)) no_site j h in
        let ev : get_or (globals_of m) (n + j) no_var ≡ (get_or (global_here u i) j no_site).var = inv (site_var (global_sites m 0) xs v (n + j) g) ∙ ap var_of e in
        let own : sites_at m k ≡ global_here u i = sites_here m u us k i b ∙ inv (here_own u i j h) in
        let ho : j < length (sites_at m k) = subst (λ (l : List Site). j < length l) (inv own) h in
        let jj : j ≡ 0 + j = omega arith in
        subst (Good m T xs at 0 E W k (get_or (global_here u i) j no_site) (n + j)) jj
        record {
          here = gx;
          var = ev;
          link = subst (λ (x : Site). Linked (link_of T x.item) (get_or (global_here u i) j no_site).var at (offset_of xs (n + j))) e
              (subst (λ (y : Var). Linked (link_of T (global_item m (n + j))) y at (offset_of xs (n + j))) ev (X.globals (n + j) gx).2);
          worth = subst (λ (l : List Site). chan (get_or l j no_site).var.value ≡ false → numeric.value_in T (get_or l j no_site).var.value (get_or l j no_site).worth ≡ plain.value_of m (get_or l j no_site).var.value) own
              (X.worths k j ho);
          single = subst (λ (l : List Site). chan (get_or l j no_site).var.value ≡ true → (get_or l j no_site).var.size ≡ 1) own (X.singles k j ho);
          item = λ c.
              unit-item (unit_at m k) j (items_before m k) ho (subst (λ (l : List Site). chan (get_or l j no_site).var.value ≡ true) (inv own) c)
              ∙ ap (λ (l : List Site). (get_or l j no_site).worth + 1) own;
        }

    globals_made : (us : Model) (k i n : ℕ) (A Z : List (List ℤ)) (C : List Channel) → Behind m us k i → ((j : ℕ) → get_or (global_sites m 0) (n + j) no_site ≡ get_or (global_sites us i) j no_site)
        → n + length (global_sites us i) ≡ length (global_sites m 0) → Shaped xs (A ++ Z) → length A ≡ n → length Z ≡ length (global_sites us i) → length C + tally global_channels us ≤ channels_most
        → globals_in T us i (E (A ++ Z) C) ≡ E (globals_from m k us record { values = A; channels = C }).values (globals_from m k us record { values = A; channels = C }).channels
    unfolding globals_from
    globals_made [] k i n A [] C b same long S e z few = ap (λ (N : List (List ℤ)). E N C) (append-nil A)
    globals_made [] k i n A (x ∷ Z) C b same long S e z few = absurd (omega arith)
    globals_made (u ∷ us) k i n A Z C b same long S e z few =
        let H = global_here u i in
        let R = global_sites us (i + size_part u) in
        let len = length-append (global_here u i) (global_sites us (i + size_part u)) in
        let c = here-channels u i in
        let r = sites_made m T xs at 0 E W k H n 0 A Z C (good u us k i n b same long) S e (omega arith) (omega arith) in
        let v = here_vars u i in
        let Y = makes_all m k 0 (map var_of H) record { values = A; channels = C } in
        let Q = makes_all m k 0 (names.global_in u) record { values = A; channels = C } in
        let q : makes_all m k 0 (map var_of (global_here u i)) record { values = A; channels = C } ≡ makes_all m k 0 (names.global_in u) record { values = A; channels = C } =
        ap (λ (l : List Var). makes_all m k 0 l record { values = A; channels = C }) v in
        let r1 = r.1 in
        let r3 = r.3 in
        let d = length-drop (length (global_here u i)) Z in
        ap (globals_in T us (i + size_part u)) (here-along T u i (E (A ++ Z) C) ∙ r.0)
        ∙ globals_made us (suc k) (i + size_part u) (n + length H) Y.values (drop (length H) Z) Y.channels (behind-next m u us k i b)
        (λ j. ap (λ a. get_or (global_sites m 0) a no_site) (let y : n + length (global_here u i) + j ≡ n + (length (global_here u i) + j) = omega arith in y) ∙ same (length H + j)
        ∙ get_right H R no_site (length H) j (length H + j) refl refl)
        (omega arith) r.2 r1 (omega arith) (omega arith)
        ∙ ap (λ (y : Made). E (globals_from m (suc k) us y).values (globals_from m (suc k) us y).channels) q

    -- ---- and they fit
    globals_fit : (us : Model) (k i : ℕ) (zs : List Var) (A : List (List ℤ)) (C : List Channel) → Behind m us k i → Filled zs A → Sound m C
        → Filled (zs ++ globals_of us) (globals_from m k us record { values = A; channels = C }).values × Sound m (globals_from m k us record { values = A; channels = C }).channels
        × (length (globals_from m k us record { values = A; channels = C }).channels ≡ length C + tally global_channels us)
    unfolding globals_from
    globals_fit [] k i zs A C b v s = (subst (λ (l : List Var). Filled l A) (inv (append-nil zs)) v, s, omega arith)
    globals_fit (u ∷ us) k i zs A C b v s =
        let H = global_here u i in
        let hv = here_vars u i in
        let G = names.global_in u in
        let hl = sites_long (global_here u i) (names.global_in u) hv in
        let Y = makes_all m k 0 G record { values = A; channels = C } in
        let f = all_fit m k 0 G zs A C (λ j g. ap (λ a. get_or (variables_of (unit_at m k)) a no_var) (let z : 0 + j ≡ j = omega arith in z) ∙ own j (subst (j <◌) (inv hl) g))
        (λ j g c. single j (subst (j <◌) (inv hl) g) c) v s in
        let f2 = f.2 in
        let n : channels_among m (names.global_in u) ≡ global_channels u = ap (channels_among m) (inv hv) ∙ among_sites m H ∙ here-channels u i in
        let r = globals_fit us (suc k) (i + size_part u) (zs ++ G) Y.values Y.channels (behind-next m u us k i b) f.0 f.1 in
        let r2 = r.2 in (
          subst (λ (l : List Var). Filled l (globals_from m (suc k) us record { values = Y.values; channels = Y.channels }).values) (append_assoc zs G (globals_of us)) r.0,
          r.1,
          r2 ∙ (let z : length Y.channels + tally global_channels us ≡ length C + (global_channels u + tally global_channels us) = omega arith in z),
        )
      where
        site : (j : ℕ) → j < length (global_here u i) → (sites_at m k ≡ global_here u i) × ((get_or (sites_at m k) j no_site).var ≡ get_or (names.global_in u) j no_var) × (j < length (sites_at m k))
        site j h =
            let e : sites_at m k ≡ global_here u i = sites_here m u us k i b ∙ inv (here_own u i j h) in
            (e, ap (λ (l : List Site). (get_or l j no_site).var) e ∙ site_var (global_here u i) (names.global_in u) (here_vars u i) j h, subst (λ (l : List Site). j < length l) (inv e) h)

        own : (j : ℕ) → j < length (global_here u i) → get_or (variables_of (unit_at m k)) j no_var ≡ get_or (names.global_in u) j no_var
        own j h = let q = site j h in inv (site_var (sites_at m k) (variables_of (unit_at m k)) (unit_vars (unit_at m k) (items_before m k)) j q.2) ∙ q.1

        single : (j : ℕ) → j < length (global_here u i) → chan (get_or (names.global_in u) j no_var).value ≡ true → (get_or (names.global_in u) j no_var).size ≡ 1
        single j h c = let q = site j h in ap (λ (x : Var). x.size) (inv q.1) ∙ X.singles k j q.2 (ap (λ (x : Var). chan x.value) q.1 ∙ c)

-- ---- the processes that start
head_same : (a : Activity) (i : ℕ) → numeric.head_in a i ≡ i + size_activity a - 1
head_same idle i = omega arith
head_same once i = omega arith
head_same (times n) i = omega arith

starts-same : (a : Activity) → started_by a ≤ processes_most → starts_in a ≡ started_by a
starts-same idle h = refl
starts-same once h = refl
starts-same (times n) h = omega arith

module _ (m : Model) (T : List ℕ) (X : Charted m T) (t : List ℤ) where
  -- n times a process of unit k
  times-begun : (k : ℕ) (b : Bodied (unit_at m k)) (n : ℕ) (σ : State) → Fits (Belongs m) m σ → length σ.processes + n ≤ processes_most → length σ.channels + n * made_by_body (body_of (unit_at m k)) ≤ channels_most
      → (repeated (begins_in T (head_of m k) (body_of (unit_at m k)) (body_at m k)) n (encode m σ ++ t) ≡ encode m (begins_times m k n σ) ++ t) × Fits (Belongs m) m (begins_times m k n σ)
      × (length (begins_times m k n σ).processes ≡ length σ.processes + n) × (length (begins_times m k n σ).channels ≡ length σ.channels + n * made_by_body (body_of (unit_at m k)))
  unfolding begins_times
  times-begun k b zero σ F few room = (refl, F, omega arith, omega arith)
  times-begun k b (suc n) σ F few room =
      let M = made_by_body (body_of (unit_at m k)) in
      let e = suc-mul n (made_by_body (body_of (unit_at m k))) in
      let f : length σ.processes < processes_most = omega arith in
      let g : length σ.channels + made_by_body (body_of (unit_at m k)) ≤ channels_most = omega arith in
      let p = begins-processes m T X k b σ F f g [] in
      let c = begins-channels m T X k b σ F f g [] in
      let r = times-begun k b n (begins m k [] σ) (begins-fits m T X k b σ F f g []) (omega arith) (omega arith) in
      let r2 = r.2 in
      let r3 = r.3 in
      (ap (repeated (begins_in T (head_of m k) (body_of (unit_at m k)) (body_at m k)) n) (begun-plainly m T X k b σ t f g) ∙ r.0, r.1, omega arith, omega arith)

  -- what a unit starts
  abbrev Started : Part → ℕ → ℕ → State → Type 0
  Started u k i σ =
      (started_in T u i (encode m σ ++ t) ≡ encode m (begins_times m k (plain.starts_of m u) σ) ++ t) × Fits (Belongs m) m (begins_times m k (plain.starts_of m u) σ)
      × (length (begins_times m k (plain.starts_of m u) σ).processes ≡ length σ.processes + start_count u) × (length (begins_times m k (plain.starts_of m u) σ).channels ≡ length σ.channels + own_channels u)

  unit-started : (u : Part) (k i : ℕ) (σ : State) → unit_at m k ≡ u → items_before m k ≡ i → Fits (Belongs m) m σ → length σ.processes + start_count u ≤ processes_most → length σ.channels + own_channels u ≤ channels_most
      → Started u k i σ
  unfolding begins_times
  unit-started (mtypes ws) k i σ e f F few room = (refl, F, omega arith, omega arith)
  unit-started (global d) k i σ e f F few room = (refl, F, omega arith, omega arith)
  unit-started (process a w gs b) k i σ e f F few room =
      let u = process a w gs b in
      let h : Bodied (unit_at m k) = subst Bodied (inv e) tt in
      let B : body_of (unit_at m k) ≡ b = ap body_of e in
      let M : made_by_body (body_of (unit_at m k)) ≡ made_by_body b = ap made_by_body B in
      let r = times-begun k h (started_by a) σ F few (subst (λ n. length σ.channels + started_by a * n ≤ channels_most) (inv M) room) in
      let hd : numeric.head_in a i ≡ head_of m k = head_same a i ∙ ap₂ head_in (inv e) (inv f) in
      let s = some-items a in
      let n = head_same a i in
      let at : suc (numeric.head_in a i) + sum size_group gs ≡ body_at m k =
      (let z : suc (numeric.head_in a i) + sum size_group gs ≡ i + size_activity a + sum size_group gs = omega arith in z) ∙ ap₂ body_in (inv e) (inv f) in
      let st : starts_in a ≡ started_by a = starts-same a (omega arith) in (
        ap (λ n. repeated (begins_in T (numeric.head_in a i) b (suc (numeric.head_in a i) + sum size_group gs)) n (encode m σ ++ t)) st
            ∙ ap₂ (λ x y. repeated (begins_in T x b y) (started_by a) (encode m σ ++ t)) hd at
            ∙ ap (λ (x : Body). repeated (begins_in T (head_of m k) x (body_at m k)) (started_by a) (encode m σ ++ t)) (inv B) ∙ r.0,
        r.1,
        r.2,
        r.3 ∙ ap (λ n. length σ.channels + started_by a * n) M,
      )
  unit-started (init b) k i σ e f F few room =
      let h : Bodied (unit_at m k) = subst Bodied (inv e) tt in
      let B : body_of (unit_at m k) ≡ b = ap body_of e in
      let M : made_by_body (body_of (unit_at m k)) ≡ made_by_body b = ap made_by_body B in
      let o : 1 * made_by_body (body_of (unit_at m k)) ≡ made_by_body (body_of (unit_at m k)) = omega arith in
      let r = times-begun k h 1 σ F few (omega arith) in
      let r3 = r.3 in (
        ap₂ (λ x y. begins_in T x b y (encode m σ ++ t)) (ap₂ head_in (inv e) (inv f)) (ap₂ body_in (inv e) (inv f))
            ∙ ap (λ (x : Body). begins_in T (head_of m k) x (body_at m k) (encode m σ ++ t)) (inv B) ∙ r.0,
        r.1,
        r.2,
        omega arith,
      )

  all-started : (us : Model) (k i : ℕ) (σ : State) → Behind m us k i → Fits (Belongs m) m σ → length σ.processes + tally start_count us ≤ processes_most → length σ.channels + tally own_channels us ≤ channels_most
      → (all_started T us i (encode m σ ++ t) ≡ encode m (starts_from m k us σ) ++ t) × Fits (Belongs m) m (starts_from m k us σ)
  unfolding starts_from
  all-started [] k i σ b F few room = (refl, F)
  all-started (u ∷ us) k i σ b F few room =
      let s = unit-started u k i σ (unit-here m u us k i b) (items-here m u us k i b) F (omega arith) (omega arith) in
      let s2 = s.2 in
      let s3 = s.3 in
      let r = all-started us (suc k) (i + size_part u) (begins_times m k (plain.starts_of m u) σ) (behind-next m u us k i b) s.1 (omega arith) (omega arith) in
      (ap (all_started T us (i + size_part u)) s.0 ∙ r.0, r.1)

  -- ---- the whole
  module _ (few : tally start_count m ≤ processes_most) (room : tally channel_count m ≤ channels_most) where
    abbrev G : Made
    G = globals_from m 0 m record { values = []; channels = [] }

    abbrev base : State
    base = record { globals = G.values; processes = []; channels = G.channels }

    globals_in_lem : Filled (globals_of m) G.values × Sound m G.channels × (length G.channels ≡ 0 + tally global_channels m)
    globals_in_lem = globals_fit m T X t m 0 0 [] [] [] (behind-all m) values-none (λ c h. absurd (omega arith))

    base-fits : Fits (Belongs m) m base
    base-fits =
        let g2 = globals_in_lem.2 in
        let e = channels-split m in
        record { globals = globals_in_lem.0; processes = omega arith; channels = omega arith; each = λ p h. absurd (omega arith); queues = globals_in_lem.1 }

    started : (all_started T m 0 (encode m base ++ t) ≡ encode m (starts_from m 0 m base) ++ t) × Fits (Belongs m) m (starts_from m 0 m base)
    started = let g2 = globals_in_lem.2 in let e = channels-split m in all-started m 0 0 base (behind-all m) base-fits (omega arith) (omega arith)

    pub initial-fits : Fits (Belongs m) m (initial m)
    unfolding initial
    initial-fits = started.1

    globals_set : globals_in T m 0 (encode m (blank m) ++ t) ≡ encode m base ++ t
    globals_set =
        let v = global_vars m 0 in
        let l = sites_long (global_sites m 0) (globals_of m) v in
        let z = zeros_long (globals_of m) in
        let e = channels-split m in
        globals_made m T X t m 0 0 0 [] (zeros (globals_of m)) [] (behind-all m) (λ j. ap (λ a. get_or (global_sites m 0) a no_site) (let q : 0 + j ≡ j = omega arith in q)) (omega arith) (zeros-shaped (globals_of m)) refl
        (omega arith) (omega arith)

    pub initial-set : all_started T m 0 (globals_in T m 0 (encode m (blank m) ++ t)) ≡ encode m (initial m) ++ t
    unfolding initial
    initial-set = ap (all_started T m 0) globals_set ∙ started.0

-- THE INITIAL STATE of a modest model
module _ (m : Model) (T : List ℕ) (X : Charted m T) (small : modest m ≡ true) where
  pub initial_is : (s : List ℤ) → state_room ≤ length s → initial_in T m s ≡ encode m (initial m) ++ drop state_room s
  initial_is s h =
      let a = modest_few m small in
      ap (λ x. all_started T m 0 (globals_in T m 0 x)) (cleared_is m s h) ∙ initial-set m T X (drop state_room s) a.starts a.channels

  pub initially : Fits (Belongs m) m (initial m)
  initially = let a = modest_few m small in initial-fits m T X [] a.starts a.channels
