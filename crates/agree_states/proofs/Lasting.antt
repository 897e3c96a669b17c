-- WHAT IS MADE FITS: variables of their sizes and types, channels of their declarations; so one more process leaves a state of the model (`begins-fits`). Of tables only that a channel is no array.
use Prim.Native.Nat.{ℕ, zero, suc, ◌+◌, ◌-◌, ◌<◌, ◌≤◌}
use native.Mathlib.Omega.{arith}
use native.Mathlib.Decide.{dec_lt}
use mathlib.Core.Path.{◌≡◌, refl, sym as inv, ap, ap₂, ◌∙◌, subst}
use mathlib.Core.Bool.{true}
use mathlib.Core.List.{List, [], ◌∷◌, ◌++◌, map, append_assoc, append-nil}
use lib.ListN.{length, get_or, replicate, length-append, length-replicate, get_or-replicate}
use lib.IntN.{ℤ, pos}
use Rattle.base_ceilings.specs.Ceilings.{channels_most, processes_most}
use Rattle.base_values.specs.Types.{cast_of}
use Rattle.base_values.proofs.Laws.{cast_twice}
use Rattle.spec_grammar.specs.Tree.{Value, unset, set_number, set_minus, set_true, set_false, set_name, set_channel, action, Tree, sequence, bare, labelled, end, then, Body, body, Part, Model}
use Rattle.spec_machine.specs.Program.{Within, itself, unlabelled, behind_label, in_first, start_in, end_in, sequence_of}
use Rattle.spec_rules.specs.Ceilings.{made_by_body}
use Rattle.spec_machine.specs.State.{Channel, State, no_channel, no_process}
use Rattle.spec_machine.specs.Names.{Var, parameters_of, locals_of, variables_of, unit_at}
use Rattle.spec_machine.specs.Begins.{Made, value_of, plainly, makes, makes_all, given, items_before, body_of, first_in, begins}
use Rattle.spec_machine.specs.Plain.{no_var, declared_by}
use Rattle.spec_machine.specs.Places.{Bodied, body_at, Belongs, ends, stands}
use Rattle.spec_machine.specs.Fits.{Typed, Filled, ChannelFits, ProcessFits, Fits}
use Rattle.agree_encode.proofs.Rows.{get_left, get_right}
use Rattle.agree_encode.proofs.Fitting.{at_more}
use Rattle.agree_states.specs.Sites.{chan, Site, no_site, sites_at, body_sites}
use Rattle.agree_states.specs.Charted.{Charted}
use Rattle.agree_states.proofs.Sites.{var_of, unit_vars, body_vars, sites_long, site_var}
use Rattle.agree_states.proofs.Making.{making, channels_in}
use Rattle.agree_states.proofs.Begun.{unit-split, params_one, body_channels}

-- ---- variables one behind another
pub values-both : (xs ys : List Var) (l k : List (List ℤ)) → Filled xs l → Filled ys k → Filled (xs ++ ys) (l ++ k)
values-both xs ys l k v w =
    record {
      all = length-append l k ∙ ap₂ ◌+◌ v.all w.all ∙ inv (length-append xs ys);
      sized = λ i h. (go i h (dec_lt i (length xs))).0;
      typed = λ i h. (go i h (dec_lt i (length xs))).1;
    }
  where
    go : (i : ℕ) → i < length (xs ++ ys) → Dec (i < length xs) → (length (get_or (l ++ k) i []) ≡ (get_or (xs ++ ys) i no_var).size) × Typed (get_or (xs ++ ys) i no_var).type (get_or (l ++ k) i [])
    go i h (yes a) =
        let e = get_left xs ys no_var i a in
        let f = get_left l k [] i (subst (i <◌) (inv v.all) a) in (
          ap length f ∙ v.sized i a ∙ ap (λ (x : Var). x.size) (inv e),
          subst (λ (x : Var). Typed x.type (get_or (l ++ k) i [])) (inv e) (subst (Typed (get_or xs i no_var).type) (inv f) (v.typed i a)),
        )
    go i h (no a) =
        let n = length-append xs ys in
        let e = get_right xs ys no_var (length xs) (i - length xs) i refl (omega arith) in
        let f = get_right l k [] (length xs) (i - length xs) i v.all (omega arith) in
        let g : i - length xs < length ys = omega arith in (
          ap length f ∙ w.sized (i - length xs) g ∙ ap (λ (x : Var). x.size) (inv e),
          subst (λ (x : Var). Typed x.type (get_or (l ++ k) i [])) (inv e) (subst (Typed (get_or ys (i - length xs) no_var).type) (inv f) (w.typed (i - length xs) g)),
        )

pub values-none : Filled [] []
values-none = record { all = refl; sized = λ i h. absurd (omega arith); typed = λ i h. absurd (omega arith) }

values_one : (x : Var) (r : List ℤ) → length r ≡ x.size → Typed x.type r → Filled (x ∷ []) (r ∷ [])
values_one x r e h = record { all = refl; sized = λ i g. size i g; typed = λ i g. type i g }
  where
    size : (i : ℕ) → i < 1 → length (get_or (r ∷ []) i []) ≡ (get_or (x ∷ []) i no_var).size
    size zero g = e
    size (suc i) g = absurd (omega arith)

    type : (i : ℕ) → i < 1 → Typed (get_or (x ∷ []) i no_var).type (get_or (r ∷ []) i [])
    type zero g = h
    type (suc i) g = absurd (omega arith)

typed_all : (ty n : ℕ) (v : ℤ) → Typed ty (replicate n (cast_of ty v))
typed_all ty n v i h =
    let e = get_or-replicate n i (cast_of ty v) (pos 0) (subst (i <◌) (length-replicate n (cast_of ty v)) h) in subst (λ z. cast_of ty z ≡ z) (inv e) (cast_twice ty v)

typed_one : (ty : ℕ) (v : ℤ) → Typed ty (cast_of ty v ∷ [])
typed_one ty v zero h = cast_twice ty v
typed_one ty v (suc i) h = absurd (omega arith)

module _ (m : Model) where
  -- ---- parameters
  given-values : (xs : List Var) (vs : List ℤ) → ((j : ℕ) → j < length xs → (get_or xs j no_var).size ≡ 1) → Filled xs (given m xs vs)
  unfolding given
  given-values [] vs h = values-none
  given-values (x ∷ xs) [] h =
      values-both (x ∷ []) xs ((cast_of x.type (pos 0) ∷ []) ∷ []) (given m xs []) (values_one x (cast_of x.type (pos 0) ∷ []) (inv (h 0 (omega arith))) (typed_one x.type (pos 0)))
      (given-values xs [] (λ j g. h (suc j) (omega arith)))
  given-values (x ∷ xs) (v ∷ vs) h =
      values-both (x ∷ []) xs ((cast_of x.type v ∷ []) ∷ []) (given m xs vs) (values_one x (cast_of x.type v ∷ []) (inv (h 0 (omega arith))) (typed_one x.type v))
      (given-values xs vs (λ j g. h (suc j) (omega arith)))

  -- ---- one variable
  abbrev pub Sound : List Channel → Type 0
  Sound C = (c : ℕ) → c < length C → ChannelFits m (get_or C c no_channel)

  module _ (u i : ℕ) (x : Var) (zs : List Var) (A : List (List ℤ)) (C : List Channel) (v : Filled zs A) (s : Sound C) where
    plain_fits : Filled (zs ++ x ∷ []) (plainly m x A C).values
    plain_fits =
        let w = cast_of x.type (value_of m x.value) in
        values-both zs (x ∷ []) A (replicate x.size w ∷ []) v (values_one x (replicate x.size w) (length-replicate x.size w) (typed_all x.type x.size (value_of m x.value)))

    one-fits : (w : Value) → x.value ≡ w → (chan w ≡ true → x.size ≡ 1) → (chan w ≡ true → declared_by m record { unit = u; variable = i; held = [] } ≡ w)
        → Filled (zs ++ x ∷ []) (makes m u i x w A C).values × Sound (makes m u i x w A C).channels × (length (makes m u i x w A C).channels ≡ length C + making (chan w))
    one-fits unset e one made = (plain_fits, s, omega arith)
    one-fits (set_number n) e one made = (plain_fits, s, omega arith)
    one-fits (set_minus n) e one made = (plain_fits, s, omega arith)
    one-fits set_true e one made = (plain_fits, s, omega arith)
    one-fits set_false e one made = (plain_fits, s, omega arith)
    one-fits (set_name w) e one made = (plain_fits, s, omega arith)
    one-fits (set_channel n ks) e one made = (
      values-both zs (x ∷ []) A ((cast_of x.type (pos (length C + 1)) ∷ []) ∷ []) v (values_one x (cast_of x.type (pos (length C + 1)) ∷ []) (inv (one refl)) (typed_one x.type (pos (length C + 1)))),
      at_more (ChannelFits m) C record { unit = u; variable = i; held = [] } no_channel s
          record { capacity = n; types = ks; declared = made refl; room = omega arith; messages = λ j h. absurd (omega arith) },
      length-append C (record { unit = u; variable = i; held = [] } ∷ []),
    )

  abbrev pub channels_among : List Var → ℕ
  channels_among [] = 0
  channels_among (x ∷ xs) = making (chan x.value) + channels_among xs

  pub among_sites : (L : List Site) → channels_among (map var_of L) ≡ channels_in L
  among_sites [] = refl
  among_sites (x ∷ L) = ap (λ n. making (chan x.var.value) + n) (among_sites L)

  -- ALL IN TURN, variables i and on of unit u
  pub all_fit : (u i : ℕ) (xs zs : List Var) (A : List (List ℤ)) (C : List Channel) → ((j : ℕ) → j < length xs → get_or (variables_of (unit_at m u)) (i + j) no_var ≡ get_or xs j no_var)
      → ((j : ℕ) → j < length xs → chan (get_or xs j no_var).value ≡ true → (get_or xs j no_var).size ≡ 1) → Filled zs A → Sound C
      → Filled (zs ++ xs) (makes_all m u i xs record { values = A; channels = C }).values × Sound (makes_all m u i xs record { values = A; channels = C }).channels
      × (length (makes_all m u i xs record { values = A; channels = C }).channels ≡ length C + channels_among xs)
  unfolding makes_all
  all_fit u i [] zs A C own one v s = (subst (λ (y : List Var). Filled y A) (inv (append-nil zs)) v, s, omega arith)
  all_fit u i (x ∷ xs) zs A C own one v s =
      let o : get_or (variables_of (unit_at m u)) i no_var ≡ x = ap (λ n. get_or (variables_of (unit_at m u)) n no_var) (let y : i ≡ i + 0 = omega arith in y) ∙ own 0 (omega arith) in
      let k = one-fits u i x zs A C v s x.value refl (one 0 (omega arith)) (λ c. ap (λ (y : Var). y.value) o) in
      let k2 = k.2 in
      let Y = makes m u i x x.value A C in
      let r = all_fit u (suc i) xs (zs ++ x ∷ []) Y.values Y.channels
      (λ j g. ap (λ n. get_or (variables_of (unit_at m u)) n no_var) (let y : suc i + j ≡ i + suc j = omega arith in y) ∙ own (suc j) (omega arith)) (λ j g. one (suc j) (omega arith)) k.0 k.1 in
      let r2 = r.2 in (
        subst (λ (y : List Var). Filled y (makes_all m u (suc i) xs record { values = Y.values; channels = Y.channels }).values) (append_assoc zs (x ∷ []) xs) r.0,
        r.1,
        r2 ∙ (let y : length Y.channels + channels_among xs ≡ length C + channels_among (x ∷ xs) = omega arith in y),
      )

  -- ---- where a body begins is one of its places
  pub data Entered (b : Body) (i : ℕ) : Type 0 where
    at_end : first_in b i ≡ end_in b i → Entered b i
    at_statement : {x : Tree action} {n o : ℕ} → Within sequence (sequence_of b) (start_in b i) (end_in b i) 0 x (first_in b i) n o → Entered b i

  entered : (b : Body) (i : ℕ) → Entered b i
  entered (body ds end) i = at_end refl
  entered (body ds (then (bare a) q)) i = at_statement (in_first (unlabelled itself))
  entered (body ds (then (labelled w a) q)) i = at_statement (in_first (behind_label itself))

  pub first-belongs : (k : ℕ) → Bodied (unit_at m k) → Belongs m k (first_in (body_of (unit_at m k)) (body_at m k))
  first-belongs k b = go (entered (body_of (unit_at m k)) (body_at m k))
    where
      go : Entered (body_of (unit_at m k)) (body_at m k) → Belongs m k (first_in (body_of (unit_at m k)) (body_at m k))
      go (at_end e) = ends b e
      go (at_statement w) = stands b w

-- ---- one process more
module _ (m : Model) (T : List ℕ) (X : Charted m T) (k : ℕ) (b : Bodied (unit_at m k)) (σ : State) (F : Fits (Belongs m) m σ) (few : length σ.processes < processes_most)
    (room : length σ.channels + made_by_body (body_of (unit_at m k)) ≤ channels_most) (vs : List ℤ) where
  abbrev u : Part
  u = unit_at m k

  abbrev Ps : List Var
  Ps = parameters_of u

  abbrev Ls : List Var
  Ls = locals_of (body_of u)

  abbrev Y : Made
  Y = makes_all m k (length Ps) Ls record { values = given m Ps vs; channels = σ.channels }

  own : (j : ℕ) → get_or (variables_of (unit_at m k)) (length (parameters_of (unit_at m k)) + j) no_var ≡ get_or (locals_of (body_of (unit_at m k))) j no_var
  own j = ap (λ (l : List Var). get_or l (length Ps + j) no_var) (unit-split u b) ∙ get_right Ps Ls no_var (length Ps) j (length Ps + j) refl refl

  one : (j : ℕ) → j < length Ls → chan (get_or Ls j no_var).value ≡ true → (get_or Ls j no_var).size ≡ 1
  one j h c =
      let v = unit_vars u (items_before m k) in
      let n = sites_long (sites_at m k) (variables_of u) v in
      let e = ap length (unit-split u b) ∙ length-append Ps Ls in
      let g : length (parameters_of (unit_at m k)) + j < length (sites_at m k) = omega arith in
      let s : (get_or (sites_at m k) (length (parameters_of (unit_at m k)) + j) no_site).var ≡ get_or (locals_of (body_of (unit_at m k))) j no_var = site_var (sites_at m k) (variables_of u) v (length Ps + j) g ∙ own j in
      ap (λ (x : Var). x.size) (inv s) ∙ X.singles k (length Ps + j) g (ap (λ (x : Var). chan x.value) s ∙ c)

  made : Filled (Ps ++ Ls) Y.values × Sound m Y.channels × (length Y.channels ≡ length σ.channels + channels_among m Ls)
  made = all_fit m k (length Ps) Ls Ps (given m Ps vs) σ.channels (λ j h. own j) one (given-values m Ps vs (params_one u b)) F.queues

  made-many : channels_among m Ls ≡ made_by_body (body_of u)
  made-many = ap (channels_among m) (inv (body_vars (body_of u) (body_at m k))) ∙ among_sites m (body_sites (body_of u) (body_at m k)) ∙ body_channels (body_of u) (body_at m k)

  pub begins-channels : length (begins m k vs σ).channels ≡ length σ.channels + made_by_body (body_of (unit_at m k))
  unfolding begins
  begins-channels = made.2 ∙ ap (λ n. length σ.channels + n) made-many

  pub begins-processes : length (begins m k vs σ).processes ≡ length σ.processes + 1
  unfolding begins
  begins-processes = length-append σ.processes (record { unit = k; place = first_in (body_of u) (body_at m k); variables = Y.values } ∷ [])

  -- A STATE THAT FITS, WITH ONE MORE PROCESS, fits
  pub begins-fits : Fits (Belongs m) m (begins m k vs σ)
  unfolding begins
  begins-fits =
      record {
        globals = F.globals;
        processes = let e = begins-processes in omega arith;
        channels = let e = begins-channels in omega arith;
        each = at_more (ProcessFits (Belongs m) m) σ.processes record { unit = k; place = first_in (body_of u) (body_at m k); variables = Y.values } no_process F.each
            record { place = first-belongs m k b; values = subst (λ (xs : List Var). Filled xs Y.values) (inv (unit-split u b)) made.0 };
        queues = made.1;
      }
