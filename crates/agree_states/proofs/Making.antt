-- VARIABLES MADE IN TURN, in numbers and plainly: said once for the globals and for the variables of a process (`Writes` is what the two have in common).
use Prim.Native.Nat.{ℕ, zero, suc, ◌+◌, ◌<◌, ◌≤◌, min}
use native.Mathlib.Omega.{arith}
use mathlib.Core.Path.{◌≡◌, refl, sym as inv, ap, ap₂, ◌∙◌, subst}
use mathlib.Core.Bool.{Bool, true, false}
use mathlib.Core.List.{List, [], ◌∷◌, ◌++◌, map, append_assoc}
use lib.ListN.{length, get_or, set, drop, replicate, length-append, length-set, length-replicate}
use lib.Seq.{get_or-set_same, set-get_or, set-set}
use lib.IntN.{ℤ, pos}
use Rattle.base_ceilings.specs.Ceilings.{channels_most}
use Rattle.table_layout.specs.Access.{link_of}
use Rattle.base_values.specs.Types.{cast_of}
use Rattle.state_layout.specs.Layout.{kept, channels_of, kept_most}
use Rattle.state_layout.specs.Walks.{walk}
use Rattle.step_eval.specs.Variables.{type_of, slot_of}
use Rattle.state_start.specs.Starting.{filled, stored, channel_made}
use Rattle.agree_start.specs.Beginnings.{everywhere, value_in, valued_in}
use Rattle.spec_grammar.specs.Tree.{Value, unset, set_number, set_minus, set_true, set_false, set_name, set_channel, Model}
use Rattle.spec_machine.specs.State.{Channel}
use Rattle.spec_machine.specs.Names.{Var}
use Rattle.spec_machine.specs.Begins.{value_of, plainly, makes, makes_all}
use Rattle.spec_machine.specs.Plain.{no_var, one_stored}
use Rattle.agree_encode.specs.Encode.{channel_item}
use Rattle.agree_encode.specs.Tabled.{offset_of, Linked}
use Rattle.agree_encode.proofs.Rows.{get_right, set-right}
use Rattle.agree_encode.proofs.Fitting.{at_set}
use Rattle.agree_states.specs.Sites.{chan, Site, no_site}
use Rattle.agree_states.proofs.Sites.{var_of}

-- each variable with as many numbers as it has
pub record Shaped (xs : List Var) (N : List (List ℤ)) : Type 0 where
  pub all : length N ≡ length xs
  pub sized : (i : ℕ) → i < length xs → length (get_or N i []) ≡ (get_or xs i no_var).size

pub shaped-set : (xs : List Var) (N : List (List ℤ)) (i : ℕ) (a : List ℤ) → Shaped xs N → length a ≡ (get_or xs i no_var).size → Shaped xs (set N i a)
shaped-set xs N i a s e =
    record {
      all = length-set N i a ∙ s.all;
      sized = λ j h. at_set (λ n z. length z ≡ (get_or xs n no_var).size) N i a [] (λ n q. s.sized n (subst (n <◌) s.all q)) (λ q. e) j (subst (j <◌) (inv s.all) h);
    }

-- E N C are the numbers of a state with the variables N, of the globals or of process p, and the channels C: a number stored, a channel made
pub record Writes (m : Model) (xs : List Var) (at : ℕ → ℕ → ℕ) (p : ℕ) (E : List (List ℤ) → List Channel → List ℤ) : Type 0 where
  pub store : (N : List (List ℤ)) (C : List Channel) (i k : ℕ) (v : ℤ) → Shaped xs N → i < length xs → k < (get_or xs i no_var).size → set (E N C) (at p (offset_of xs i + k)) v ≡ E (one_stored N i k v) C
  pub make : (N : List (List ℤ)) (C : List Channel) (y : Channel) → y.held ≡ [] → length C < channels_most → channel_made (channel_item m y) (E N C) ≡ E N (C ++ y ∷ [])
  pub count : (N : List (List ℤ)) (C : List Channel) → length C ≤ channels_most → channels_of (E N C) ≡ length C

-- ---- every number of a list
sets_from : ℕ → ℕ → ℤ → List ℤ → List ℤ
sets_from j zero v a = a
sets_from j (suc n) v a = sets_from (suc j) n v (set a j v)

sets_behind : (j n : ℕ) (v x : ℤ) (a : List ℤ) → sets_from (suc j) n v (x ∷ a) ≡ x ∷ sets_from j n v a
unfolding sets_from
sets_behind j zero v x a = refl
sets_behind j (suc n) v x a = sets_behind (suc j) n v x (set a j v)

sets-all : (n : ℕ) (v : ℤ) (a : List ℤ) → length a ≡ n → sets_from 0 n v a ≡ replicate n v
unfolding sets_from
sets-all zero v [] e = refl
sets-all zero v (x ∷ a) e = absurd (omega arith)
sets-all (suc n) v [] e = absurd (omega arith)
sets-all (suc n) v (x ∷ a) e = sets_behind 0 n v v a ∙ ap (λ (l : List ℤ). v ∷ l) (sets-all n v a (omega arith))

pub set_mid : (A : List (List ℤ)) (z r : List ℤ) (Z : List (List ℤ)) (n : ℕ) → length A ≡ n → set (A ++ z ∷ Z) n r ≡ (A ++ r ∷ []) ++ Z
set_mid A z r Z n e = set-right A (z ∷ Z) r n 0 n e (omega arith) ∙ inv (append_assoc A (r ∷ []) Z)

pub set-one : (a : List ℤ) (v : ℤ) → length a ≡ 1 → set a 0 v ≡ v ∷ []
set-one [] v e = absurd (omega arith)
set-one (x ∷ []) v e = refl
set-one (x ∷ y ∷ a) v e = absurd (omega arith)

-- ---- sites in turn
-- how many channels they make
abbrev pub making : Bool → ℕ
making true = 1
making false = 0

abbrev pub channels_in : List Site → ℕ
channels_in [] = 0
channels_in (x ∷ l) = making (chan x.var.value) + channels_in l

-- what is done with each
abbrev pub along : List ℕ → ℕ → List Site → List ℤ → List ℤ
along T p [] s = s
along T p (x ∷ l) s = along T p l (valued_in T (link_of T x.item) p x.var.value x.worth s)

module _ (m : Model) (T : List ℕ) (xs : List Var) (at : ℕ → ℕ → ℕ) (p : ℕ) (E : List (List ℤ) → List Channel → List ℤ) (W : Writes m xs at p E) where
  -- ---- every element of variable i
  module _ (l i : ℕ) (L : Linked l (get_or xs i no_var) at (offset_of xs i)) (N : List (List ℤ)) (S : Shaped xs N) (h : i < length xs) (C : List Channel) (v : ℤ) where
    stored_in : (a : List ℤ) (j : ℕ) → length a ≡ (get_or xs i no_var).size → j < (get_or xs i no_var).size → set (E (set N i a) C) (slot_of l p j) v ≡ E (set N i (set a j v)) C
    stored_in a j e g =
        ap (λ q. set (E (set N i a) C) q v) (L.slot p j g) ∙ W.store (set N i a) C i j v (shaped-set xs N i a S e) h g
        ∙ ap (λ (Y : List (List ℤ)). E Y C) (set-set N i a (set (get_or (set N i a) i []) j v) ∙ ap (λ (b : List ℤ). set N i (set b j v)) (get_or-set_same N i a [] (subst (i <◌) (inv S.all) h)))

    fill-walk : (n j : ℕ) (a : List ℤ) → length a ≡ (get_or xs i no_var).size → j + n ≡ (get_or xs i no_var).size
        → walk (λ k x. set x (slot_of l p k) v) j n (E (set N i a) C) ≡ E (set N i (sets_from j n v a)) C
    unfolding walk sets_from
    fill-walk zero j a e g = refl
    fill-walk (suc n) j a e g =
        ap₂ (λ k s. walk (λ k x. set x (slot_of l p k) v) k n s) (let z : j + 1 ≡ suc j = omega arith in z) (stored_in a j e (omega arith))
        ∙ fill-walk n (suc j) (set a j v) (length-set a j v ∙ e) (omega arith)

    pub fill : filled l p v (E N C) ≡ E (set N i (replicate (get_or xs i no_var).size v)) C
    unfolding filled
    fill =
        ap₂ (λ n (Y : List (List ℤ)). walk (λ k x. set x (slot_of l p k) v) 0 n (E Y C)) L.size (inv (set-get_or N i []))
        ∙ fill-walk (get_or xs i no_var).size 0 (get_or N i []) (S.sized i h) (omega arith)
        ∙ ap (λ (a : List ℤ). E (set N i a) C) (sets-all (get_or xs i no_var).size v (get_or N i []) (S.sized i h))

  -- ---- a site: the n-th of the variables xs, and variable i of unit u
  pub record Good (u : ℕ) (x : Site) (n i : ℕ) : Type 0 where
    pub here : n < length xs
    pub var : get_or xs n no_var ≡ x.var
    pub link : Linked (link_of T x.item) x.var at (offset_of xs n)
    pub worth : chan x.var.value ≡ false → value_in T x.var.value x.worth ≡ value_of m x.var.value
    pub single : chan x.var.value ≡ true → x.var.size ≡ 1
    pub item : chan x.var.value ≡ true → channel_item m record { unit = u; variable = i; held = [] } ≡ x.worth + 1

  module _ (u : ℕ) (x : Site) (n i : ℕ) (g : Good u x n i) (A : List (List ℤ)) (z : List ℤ) (Z : List (List ℤ)) (C : List Channel) (S : Shaped xs (A ++ z ∷ Z)) (e : length A ≡ n) where
    abbrev X : Var
    X = x.var

    abbrev l : ℕ
    l = link_of T x.item

    linked : Linked (link_of T x.item) (get_or xs n no_var) at (offset_of xs n)
    linked = subst (λ (y : Var). Linked (link_of T x.item) y at (offset_of xs n)) (inv g.var) g.link

    plain_made : (v : ℤ) → v ≡ value_of m X.value → everywhere l p v (E (A ++ z ∷ Z) C) ≡ E ((plainly m X A C).values ++ Z) C
    plain_made v f =
        fill l n linked (A ++ z ∷ Z) S g.here C (cast_of (type_of l) v)
        ∙ ap₂ (λ (y : Var) (w : ℤ). E (set (A ++ z ∷ Z) n (replicate y.size w)) C) g.var (ap₂ cast_of g.link.type f)
        ∙ ap (λ (Y : List (List ℤ)). E Y C) (set_mid A z (replicate X.size (cast_of X.type (value_of m X.value))) Z n e)

    more_long : (r : List ℤ) → length (A ++ r ∷ []) ≡ suc n
    more_long r = length-append A (r ∷ []) ∙ (let y : length A + 1 ≡ suc n = omega arith in y)

    more_shape : (r : List ℤ) → length r ≡ X.size → Shaped xs ((A ++ r ∷ []) ++ Z)
    more_shape r f = subst (Shaped xs) (set_mid A z r Z n e) (shaped-set xs (A ++ z ∷ Z) n r S (f ∙ ap (λ (y : Var). y.size) (inv g.var)))

    plain_long : length (plainly m X A C).values ≡ suc n
    plain_long = more_long (replicate X.size (cast_of X.type (value_of m X.value)))

    plain_shape : Shaped xs ((plainly m X A C).values ++ Z)
    plain_shape = more_shape (replicate X.size (cast_of X.type (value_of m X.value))) (length-replicate X.size (cast_of X.type (value_of m X.value)))

    z_long : length z ≡ (get_or xs n no_var).size
    z_long = ap length (inv (get_right A (z ∷ Z) [] n 0 n e (omega arith))) ∙ S.sized n g.here

    channel-made : (k : ℕ) → k ≡ x.worth → chan X.value ≡ true → length C < channels_most
        → stored l p (kept (channels_of (E (A ++ z ∷ Z) C) + 1)) (channel_made (k + 1) (E (A ++ z ∷ Z) C))
        ≡ E ((A ++ (cast_of X.type (pos (length C + 1)) ∷ []) ∷ []) ++ Z) (C ++ record { unit = u; variable = i; held = [] } ∷ [])
    channel-made k q c few =
        let D = C ++ record { unit = u; variable = i; held = [] } ∷ [] in
        let one : (get_or xs n no_var).size ≡ 1 = ap (λ (y : Var). y.size) g.var ∙ g.single c in
        let w : cast_of (type_of l) (kept (channels_of (E (A ++ z ∷ Z) C) + 1)) ≡ cast_of X.type (pos (length C + 1)) =
        ap₂ cast_of g.link.type (ap (λ a. kept (a + 1)) (W.count (A ++ z ∷ Z) C (omega arith)) ∙ ap pos (let y : min kept_most (length C + 1) ≡ length C + 1 = omega arith in y)) in
        let val = cast_of X.type (pos (length C + 1)) in
        ap₂ (λ s (v : ℤ). set s (slot_of l p 0) v) (ap (λ d. channel_made d (E (A ++ z ∷ Z) C)) (ap (λ a. a + 1) q ∙ inv (g.item c)) ∙ W.make (A ++ z ∷ Z) C record { unit = u; variable = i; held = [] } refl few) w
        ∙ ap (λ a. set (E (A ++ z ∷ Z) D) a val) (linked.slot p 0 (omega arith)) ∙ W.store (A ++ z ∷ Z) D n 0 val S g.here (omega arith)
        ∙ ap (λ (b : List ℤ). E (set (A ++ z ∷ Z) n b) D)
        (ap (λ (b : List ℤ). set b 0 val) (get_right A (z ∷ Z) [] n 0 n e (omega arith)) ∙ set-one z val (z_long ∙ one))
        ∙ ap (λ (Y : List (List ℤ)). E Y D) (set_mid A z (val ∷ []) Z n e)

    one-made : (v : Value) → X.value ≡ v → length C + making (chan v) ≤ channels_most
        → valued_in T l p v x.worth (E (A ++ z ∷ Z) C) ≡ E ((makes m u i X v A C).values ++ Z) (makes m u i X v A C).channels
    one-made unset f few = plain_made (pos 0) (ap (value_of m) (inv f))
    one-made (set_number a) f few = plain_made (value_in T (set_number a) x.worth) (ap (λ y. value_in T y x.worth) (inv f) ∙ g.worth (ap chan f))
    one-made (set_minus a) f few = plain_made (value_in T (set_minus a) x.worth) (ap (λ y. value_in T y x.worth) (inv f) ∙ g.worth (ap chan f))
    one-made set_true f few = plain_made (pos 1) (ap (value_of m) (inv f))
    one-made set_false f few = plain_made (pos 0) (ap (value_of m) (inv f))
    one-made (set_name w) f few = plain_made (value_in T (set_name w) x.worth) (ap (λ y. value_in T y x.worth) (inv f) ∙ g.worth (ap chan f))
    one-made (set_channel a ks) f few = channel-made x.worth refl (ap chan f) (omega arith)

    pub site_made : length C + making (chan X.value) ≤ channels_most
        → valued_in T l p X.value x.worth (E (A ++ z ∷ Z) C) ≡ E ((makes m u i X X.value A C).values ++ Z) (makes m u i X X.value A C).channels
    site_made few = one-made X.value refl few

    -- and one variable more is made, with as many numbers as it has
    made_shape : (v : Value) → X.value ≡ v
        → (length (makes m u i X v A C).values ≡ suc n) × Shaped xs ((makes m u i X v A C).values ++ Z) × (length (makes m u i X v A C).channels ≡ length C + making (chan v))
    made_shape unset f = (plain_long, plain_shape, omega arith)
    made_shape (set_number a) f = (plain_long, plain_shape, omega arith)
    made_shape (set_minus a) f = (plain_long, plain_shape, omega arith)
    made_shape set_true f = (plain_long, plain_shape, omega arith)
    made_shape set_false f = (plain_long, plain_shape, omega arith)
    made_shape (set_name w) f = (plain_long, plain_shape, omega arith)
    made_shape (set_channel a ks) f = (more_long (cast_of X.type (pos (length C + 1)) ∷ []), more_shape (cast_of X.type (pos (length C + 1)) ∷ []) (inv (g.single (ap chan f))), length-append C (record { unit = u; variable = i; held = [] } ∷ []))

  -- ALL IN TURN: behind what was made before (A, C) the variables of the sites, in numbers as plainly; variables that are not yet made stay (Z)
  pub sites_made : (u : ℕ) (L : List Site) (n i : ℕ) (A Z : List (List ℤ)) (C : List Channel) → ((j : ℕ) → j < length L → Good u (get_or L j no_site) (n + j) (i + j)) → Shaped xs (A ++ Z) → length A ≡ n
      → length L ≤ length Z → length C + channels_in L ≤ channels_most
      → (along T p L (E (A ++ Z) C) ≡ E ((makes_all m u i (map var_of L) record { values = A; channels = C }).values ++ drop (length L) Z) (makes_all m u i (map var_of L) record { values = A; channels = C }).channels)
      × (length (makes_all m u i (map var_of L) record { values = A; channels = C }).values ≡ n + length L)
      × Shaped xs ((makes_all m u i (map var_of L) record { values = A; channels = C }).values ++ drop (length L) Z)
      × (length (makes_all m u i (map var_of L) record { values = A; channels = C }).channels ≡ length C + channels_in L)
  unfolding makes_all
  sites_made u [] n i A Z C G S e h few = (refl, e ∙ (let y : n ≡ n + 0 = omega arith in y), S, omega arith)
  sites_made u (x ∷ L) n i A [] C G S e h few = absurd (omega arith)
  sites_made u (x ∷ L) n i A (z ∷ Z) C G S e h few =
      let g : Good u x n i = subst (λ a. Good u x a i) (let y : n + 0 ≡ n = omega arith in y) (subst (λ a. Good u x (n + 0) a) (let y : i + 0 ≡ i = omega arith in y) (G 0 (omega arith))) in
      let Y = makes m u i x.var x.var.value A C in
      let k = made_shape u x n i g A z Z C S e x.var.value refl in
      let k2 = k.2 in
      let r = sites_made u L (suc n) (suc i) Y.values Z Y.channels
      (λ j q. subst (λ a. Good u (get_or L j no_site) a (suc i + j)) (let y : n + suc j ≡ suc n + j = omega arith in y)
      (subst (λ a. Good u (get_or L j no_site) (n + suc j) a) (let y : i + suc j ≡ suc i + j = omega arith in y) (G (suc j) (omega arith))))
      k.1 k.0 (omega arith) (omega arith) in
      let r1 = r.1 in
      let r3 = r.3 in (
        ap (along T p L) (site_made u x n i g A z Z C S e (omega arith)) ∙ r.0,
        r1 ∙ (let y : suc n + length L ≡ n + suc (length L) = omega arith in y),
        r.2,
        r3 ∙ (let y : length Y.channels + channels_in L ≡ length C + channels_in (x ∷ L) = omega arith in y),
      )
