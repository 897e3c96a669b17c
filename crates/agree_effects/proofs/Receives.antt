-- RECEIVED ARGUMENTS over tables: they agree with a message where the tree's do, and find the same, their targets are the tree's or the first fault, and what is stored goes where the tree says.
use Rattle.std.specs.Prelude.{Result, Ok, Err}
use Prim.Native.Nat.{ℕ, zero, suc, ◌+◌, ◌-◌, ◌≤◌, ◌<◌, min}
use native.Mathlib.Omega.{arith}
use mathlib.Core.Path.{◌≡◌, refl, sym, ap, ◌∙◌}
use mathlib.Core.Bool.{Bool, true, false}
use mathlib.Core.List.{List, [], ◌∷◌}
use lib.ListN.{length, get_or, set}
use lib.IntN.{ℤ, pos, negsuc}
use lib.Dec.{eqb, ltb}
use borrow.Author.Tests.{eq-eqb, ne_eqb}
use Rattle.base_ceilings.specs.Ceilings.{fields_most}
use Rattle.base_codes.specs.Codes.{c_end, c_into, c_message}
use Rattle.base_bytes.specs.Choice.{pick}
use Rattle.table_layout.specs.Access.{code_of, link_of}
use Rattle.base_values.specs.Types.{cast_of}
use Rattle.base_values.specs.declared.Fault.{Fault}
use Rattle.base_values.specs.declared.Fault.TheVariants.{Index}
use Rattle.base_values.specs.Operators.{is_true, equal_by}
use Rattle.state_layout.specs.Layout.{field_of}
use Rattle.base_bytes.specs.Numbers.{nat}
use Rattle.spec_grammar.specs.Tree.{Name, Ref, plain, indexed, Received, into, equal, exactly, exactly_true, exactly_false}
use Rattle.step_eval.specs.Variables.{type_of, size_of, slot_of, element_of}
use Rattle.step_eval.specs.Expressions.{holds, eval_of}
use Rattle.step_ready.specs.Channels.{arguments_from, compared_at, agrees_of, matches_from, found_by, found_from}
use Rattle.step_ready.specs.declared.Found.{Found}
use Rattle.step_ready.specs.declared.Found.TheVariants.{Message, Nothing, Spoilt}
use Rattle.step_messages.specs.Messages.{on_place, aim_of, aim_end, aim_list, delivered_one, delivered}
use Rattle.spec_machine.specs.Eval.{eval}
use Rattle.agree_stage.specs.Scenes.{scene_of, locate}
use Rattle.spec_machine.specs.Stage.{Stage}
use Rattle.spec_machine.specs.Messages.{Finding, found, none, spoilt, find_by, find_from}
use Rattle.agree_stage.specs.Tables.{stage_in}
use Rattle.spec_machine.specs.Arguments.{name_of, Aim, hit, miss, aim_by, aim, agree, agree_by, agrees, Aims, hits, missed, before, aims_by, target, targets}
use Rattle.spec_machine.specs.Effect.{delivery, deliveries}
use Rattle.agree_effects.specs.Walked.{Stored, Agreed, Got, no_more, one_more_lem}
use Rattle.agree_effects.proofs.Gathers.{fill}

abbrev pub end_aims : ℕ → Aims → Result ℕ Fault
end_aims z (hits ks) = Ok z
end_aims z (missed f) = Err f

-- what is found, as the tables' machine says it
abbrev pub as_found : Finding → Found
as_found (found k) = Message k
as_found none = Nothing
as_found (spoilt f) = Spoilt f

found_by_lem : (w : ℕ) (x : Result ℤ Fault) (rest : Finding) → found_by w x (as_found rest) ≡ as_found (find_by w x rest)
found_by_lem w (Ok v) rest = go (is_true v)
  where
    go : (b : Bool) → pick b (Message w) (as_found rest) ≡ as_found (pick b (found w) rest)
    go true = refl
    go false = refl
found_by_lem w (Err f) rest = refl

abbrev pub Sure : Aims → Type 0
Sure (hits ks) = Unit {0}
Sure (missed f) = ⊥

abbrev pub aimed : Aims → List ℕ
aimed (hits ks) = ks
aimed (missed f) = []

before-ends : (k z : ℕ) (x : Aims) → end_aims z x ≡ end_aims z (before k x)
before-ends k z (hits ks) = refl
before-ends k z (missed f) = refl

pub targets-count : (c : Stage (List ℤ)) (xs : List Received) → Sure (targets c xs) → length (aimed (targets c xs)) ≡ length xs
unfolding targets
targets-count c [] w = refl
targets-count c (x ∷ xs) w = go (target c x) (targets c xs) w (targets-count c xs)
  where
    go : (y : Aim) (r : Aims) → Sure (aims_by y r) → (Sure r → length (aimed r) ≡ length xs) → length (aimed (aims_by y r)) ≡ suc (length xs)
    go (hit k) (hits ks) w below = ap suc (below tt)
    go (hit k) (missed f) w below = absurd w
    go (miss f) r w below = absurd w

module _ (t : List ℕ) (decl : Name → ℕ) where
  pub got_count : {xs : List Received} {a z : ℕ} → Got t decl xs a z → (n : ℕ) → arguments_from t n a ≡ min n (length xs)
  unfolding arguments_from
  got_count (no_more e) zero = refl
  got_count (no_more {a = a} e) (suc n) = rw (eq-eqb (code_of t a) c_end e) (let z : 0 ≡ min (suc n) 0 = omega arith in z)
  got_count (one_more_lem {xs = xs} m c l v r) zero = let z : 0 ≡ min 0 (suc (length xs)) = omega arith in z
  got_count (one_more_lem {xs = xs} {a = a} m c l v r) (suc n) =
      rw (ne_eqb (code_of t a) c_end c) (ap (λ k. 1 + arguments_from t n (k + 1)) l ∙ ap (1 +◌) (got_count r n)
      ∙ (let z : 1 + min n (length xs) ≡ min (suc n) (suc (length xs)) = omega arith in z))

  -- an mtype name is compared, a variable is stored to
  abbrev constant : Name → Bool
  constant w = eqb (code_of t (decl w)) c_message

  stored_compared : (r : Ref) (a m : ℕ) → Stored t decl r a m → compared_at t m ≡ eqb (code_of t (decl (name_of r))) c_message
  unfolding compared_at
  stored_compared r a m g = rw (eq-eqb (code_of t m) c_into g.mark) (ap (λ d. eqb (code_of t d) c_message) g.declared)

  other_compared : (m : ℕ) → (code_of t m ≡ c_into → ⊥) → compared_at t m ≡ true
  unfolding compared_at
  other_compared m h = rw (ne_eqb (code_of t m) c_into h)

  -- ---- where a reference stands
  abbrev pub placed : ℕ → Name → Aim → Result ℕ Fault
  placed p w (hit k) = Ok (slot_of (link_of t (decl w)) p k)
  placed p w (miss f) = Err f

  element_aim : (s : List ℤ) (p : ℕ) (w : Name) (x : Result ℤ Fault) → element_of (link_of t (decl w)) p x ≡ placed p w (aim_by (scene_of t s p decl) w x)
  element_aim s p w (Ok (pos i)) = go (ltb i (size_of (link_of t (decl w))))
    where
      go : (b : Bool) → pick b (Ok (slot_of (link_of t (decl w)) p i)) (Err Index) ≡ placed p w (pick b (hit i) (miss Index))
      go true = refl
      go false = refl
  element_aim s p w (Ok (negsuc i)) = refl
  element_aim s p w (Err f) = refl

  pub locate-aim : (s : List ℤ) (p : ℕ) (r : Ref) → locate t s p decl r ≡ placed p (name_of r) (aim (scene_of t s p decl) r)
  unfolding locate
  locate-aim s p (plain w) = refl
  locate-aim s p (indexed w e) = element_aim s p w (eval (scene_of t s p decl) e)

  -- the place of each target, 0 of one that is compared
  abbrev spot : ℕ → Received → ℕ → ℕ
  spot p (into r) k = pick (constant (name_of r)) 0 (slot_of (link_of t (decl (name_of r))) p k)
  spot p (equal e) k = 0
  spot p (exactly n) k = 0
  spot p exactly_true k = 0
  spot p exactly_false k = 0

  abbrev pub spots : ℕ → List Received → List ℕ → List ℕ
  spots p [] ks = []
  spots p (x ∷ xs) [] = []
  spots p (x ∷ xs) (k ∷ ks) = spot p x k ∷ spots p xs ks

  module _ (s : List ℤ) (p : ℕ) (unit : Name → ℕ) where
    abbrev c : Stage (List ℤ)
    c = stage_in t s p decl unit

    -- ---- agreement with message w of channel v
    abbrev message : ℤ → ℕ → ℕ → ℤ
    message v w = (stage_in t s p decl unit).message v w

    agreed_other : (v : ℤ) (w f a m : ℕ) (y : Result ℤ Fault) → (code_of t m ≡ c_into → ⊥) → eval_of t s p a m ≡ y → agrees_of t s p (nat v - 1) w a m f ≡ equal_by y (field_of s (nat v - 1) w f)
    unfolding agrees_of
    agreed_other v w f a m y n e = rw (other_compared m n, e)

    agree_is : (x : Received) (a m : ℕ) → Agreed t decl x a m → (v : ℤ) (w f : ℕ) → agrees_of t s p (nat v - 1) w a m f ≡ agree (stage_in t s p decl unit) (message v w) f x
    unfolding agrees_of eval
    agree_is (into r) a m g v w f =
        rw (stored_compared r a m g) (ap (λ y. pick (constant (name_of r)) y (Ok (pos 1)))
        (ap (λ y. equal_by y (field_of s (nat v - 1) w f)) (g.worked s p)))
    agree_is (equal e) a m g v w f = agreed_other v w f a m (eval c.scene e) g.mark (g.worked s p)
    agree_is (exactly n) a m g v w f = agreed_other v w f a m (Ok (pos n)) g.mark (g.worked s p)
    agree_is exactly_true a m g v w f = agreed_other v w f a m (Ok (pos 1)) g.mark (g.worked s p)
    agree_is exactly_false a m g v w f = agreed_other v w f a m (Ok (pos 0)) g.mark (g.worked s p)

    matches_is : {xs : List Received} {a z : ℕ} → Got t decl xs a z → (n : ℕ) → length xs ≤ n → (v : ℤ) (w f : ℕ)
        → matches_from t s p n (nat v - 1) w a f ≡ agrees (stage_in t s p decl unit) (message v w) f xs
    unfolding matches_from agrees
    matches_is (no_more e) zero h v w f = refl
    matches_is (no_more {a = a} e) (suc n) h v w f = rw (eq-eqb (code_of t a) c_end e)
    matches_is (one_more_lem m k l g r) zero h v w f = absurd (omega arith)
    matches_is (one_more_lem {x = x} {xs = xs} {a = a} m k l g r) (suc n) h v w f =
        rw (ne_eqb (code_of t a) c_end k) (ap (λ i. pick (holds (agrees_of t s p (nat v - 1) w a i f)) (matches_from t s p n (nat v - 1) w (i + 1) (f + 1)) (agrees_of t s p (nat v - 1) w a i f)) l
        ∙ ap (λ y. pick (holds y) (matches_from t s p n (nat v - 1) w (m + 1) (f + 1)) y) (agree_is x a m g v w f)
        ∙ ap (λ y. pick (holds (agree c (message v w) f x)) y (agree c (message v w) f x)) (matches_is r n (omega arith) v w (f + 1)) ∙ go (agree c (message v w) f x) (agrees c (message v w) (f + 1) xs))
      where
        go : (y z : Result ℤ Fault) → pick (holds y) z y ≡ agree_by y z
        go (Ok w) z = refl
        go (Err w) z = refl

    -- ---- what is found among n messages of channel v, from message w on
    pub found_is : {xs : List Received} {a z : ℕ} → Got t decl xs a z → length xs ≤ fields_most → (v : ℤ) (n w : ℕ)
        → found_from t s p n (nat v - 1) w a ≡ as_found (find_from (λ k. agrees (stage_in t s p decl unit) ((stage_in t s p decl unit).message v k) 0 xs) w n)
    unfolding found_from find_from
    found_is g h v zero w = refl
    found_is {xs} {a} g h v (suc n) w =
        ap (λ y. found_by w y (found_from t s p n (nat v - 1) (w + 1) a)) (matches_is g fields_most h v w 0)
        ∙ ap (found_by w (agrees c (message v w) 0 xs)) (found_is g h v n (w + 1)) ∙ found_by_lem w (agrees c (message v w) 0 xs) (find_from (λ k. agrees c (message v k) 0 xs) (w + 1) n)

    -- ---- targets
    abbrev spot_by : Received → Aim → Result ℕ Fault
    spot_by x (hit k) = Ok (spot p x k)
    spot_by x (miss f) = Err f

    aim_other : (a m : ℕ) → (code_of t m ≡ c_into → ⊥) → aim_of t s p a m ≡ Ok 0
    aim_other a m n = rw (other_compared m n)

    aim_is : (x : Received) (a m : ℕ) → Agreed t decl x a m → aim_of t s p a m ≡ spot_by x (target (stage_in t s p decl unit) x)
    aim_is (into r) a m g =
        rw (stored_compared r a m g) (ap (λ y. pick (constant (name_of r)) (Ok 0) y) (g.located s p ∙ locate-aim s p r) ∙ go (constant (name_of r)) refl (aim c.scene r))
      where
        go : (b : Bool) → constant (name_of r) ≡ b → (y : Aim) → pick b (Ok 0) (placed p (name_of r) y) ≡ spot_by (into r) (pick b (hit 0) y)
        go true e y = rw e
        go false e (hit k) = rw e
        go false e (miss f) = refl
    aim_is (equal e) a m g = aim_other a m g.mark
    aim_is (exactly n) a m g = aim_other a m g.mark
    aim_is exactly_true a m g = aim_other a m g.mark
    aim_is exactly_false a m g = aim_other a m g.mark

    pub aim-ends : {xs : List Received} {a z : ℕ} → Got t decl xs a z → (n : ℕ) → length xs ≤ n → aim_end t s p n a ≡ end_aims z (targets (stage_in t s p decl unit) xs)
    unfolding aim_end targets
    aim-ends (no_more e) zero h = refl
    aim-ends (no_more {a = a} e) (suc n) h = rw (eq-eqb (code_of t a) c_end e)
    aim-ends (one_more_lem m k l g r) zero h = absurd (omega arith)
    aim-ends (one_more_lem {x = x} {xs = xs} {a = a} {z = z} m k l g r) (suc n) h =
        rw (ne_eqb (code_of t a) c_end k) (ap (λ i. on_place (aim_of t s p a i) (λ u. aim_end t s p n (i + 1)) (λ f. Err f)) l
        ∙ ap (λ y. on_place y (λ u. aim_end t s p n (m + 1)) (λ f. Err f)) (aim_is x a m g) ∙ go (target c x) (targets c xs) (aim-ends r n (omega arith)))
      where
        go : (y : Aim) (q : Aims) → aim_end t s p n (m + 1) ≡ end_aims z q → on_place (spot_by x y) (λ u. aim_end t s p n (m + 1)) (λ f. Err f) ≡ end_aims z (aims_by y q)
        go (hit i) q below = below ∙ before-ends i z q
        go (miss f) q below = refl

    pub aim_fills : {xs : List Received} {a z : ℕ} → Got t decl xs a z → (n : ℕ) → length xs ≤ n → (k : ℕ) (l : List ℕ) → Sure (targets (stage_in t s p decl unit) xs)
        → aim_list t s p n a k l ≡ fill l k (spots p xs (aimed (targets (stage_in t s p decl unit) xs)))
    unfolding aim_list targets
    aim_fills (no_more e) zero h k l w = refl
    aim_fills (no_more {a = a} e) (suc n) h k l w = rw (eq-eqb (code_of t a) c_end e)
    aim_fills (one_more_lem m d e g r) zero h k l w = absurd (omega arith)
    aim_fills (one_more_lem {x = x} {xs = xs} {a = a} m d e g r) (suc n) h k l w =
        rw (ne_eqb (code_of t a) c_end d) (ap (λ i. on_place (aim_of t s p a i) (λ u. aim_list t s p n (i + 1) (k + 1) (set l k u)) (λ f. l)) e
        ∙ ap (λ y. on_place y (λ u. aim_list t s p n (m + 1) (k + 1) (set l k u)) (λ f. l)) (aim_is x a m g)
        ∙ go (target c x) (targets c xs) w (λ u. aim_fills r n (omega arith) (k + 1) (set l k u)))
      where
        go : (y : Aim) (q : Aims) → Sure (aims_by y q) → ((u : ℕ) → Sure q → aim_list t s p n (m + 1) (k + 1) (set l k u) ≡ fill (set l k u) (k + 1) (spots p xs (aimed q)))
            → on_place (spot_by x y) (λ u. aim_list t s p n (m + 1) (k + 1) (set l k u)) (λ f. l) ≡ fill l k (spots p (x ∷ xs) (aimed (aims_by y q)))
        go (hit i) (hits ks) w below = below (spot p x i) tt
        go (hit i) (missed f) w below = absurd w
        go (miss f) q w below = absurd w

    -- ---- stores
    stored_there : (r : Ref) (a m : ℕ) → Stored t decl r a m → (u : ℕ → ℤ) (f k : ℕ) (ps : List ℕ) (l : List ℤ) → get_or ps f 0 ≡ spot p (into r) k → get_or l f (pos 0) ≡ u f
        → (x : List ℤ) → delivered_one t m f ps l x ≡ delivery (stage_in t s p decl unit) u f (into r) k x
    stored_there r a m g u f k ps l e d x =
        rw (stored_compared r a m g) (ap (λ i. pick (constant w) x (set x (get_or ps f 0) (cast_of (type_of (link_of t i)) (get_or l f (pos 0))))) g.declared
        ∙ ap (λ y. pick (constant w) x (set x (get_or ps f 0) (cast_of (type_of (link_of t (decl w))) y))) d ∙ go (constant w) refl)
      where
        w : Name
        w = name_of r

        go : (b : Bool) → eqb (code_of t (decl (name_of r))) c_message ≡ b → pick b x (set x (get_or ps f 0) (cast_of (type_of (link_of t (decl (name_of r)))) (u f)))
            ≡ pick b x (set x (slot_of (link_of t (decl (name_of r))) p k) (cast_of (type_of (link_of t (decl (name_of r)))) (u f)))
        go true q = refl
        go false q = ap (λ i. set x i (cast_of (type_of (link_of t (decl (name_of r)))) (u f))) (e ∙ rw q)

    other_there : (m f : ℕ) (ps : List ℕ) (l x : List ℤ) → (code_of t m ≡ c_into → ⊥) → delivered_one t m f ps l x ≡ x
    other_there m f ps l x n = rw (other_compared m n)

    one-delivered : (y : Received) (a m : ℕ) → Agreed t decl y a m → (u : ℕ → ℤ) (f k : ℕ) (ps : List ℕ) (l : List ℤ) → get_or ps f 0 ≡ spot p y k → get_or l f (pos 0) ≡ u f
        → (x : List ℤ) → delivered_one t m f ps l x ≡ delivery (stage_in t s p decl unit) u f y k x
    one-delivered (into r) a m g u f k ps l e d x = stored_there r a m g u f k ps l e d x
    one-delivered (equal y) a m g u f k ps l e d x = other_there m f ps l x g.mark
    one-delivered (exactly n) a m g u f k ps l e d x = other_there m f ps l x g.mark
    one-delivered exactly_true a m g u f k ps l e d x = other_there m f ps l x g.mark
    one-delivered exactly_false a m g u f k ps l e d x = other_there m f ps l x g.mark

    pub delivered_is : {xs : List Received} {a z : ℕ} → Got t decl xs a z → (n : ℕ) → length xs ≤ n → (u : ℕ → ℤ) (f : ℕ) (ps : List ℕ) (l : List ℤ) (ks : List ℕ) → length ks ≡ length xs
        → ((i : ℕ) → i < length xs → get_or ps (f + i) 0 ≡ get_or (spots p xs ks) i 0) → ((i : ℕ) → i < length xs → get_or l (f + i) (pos 0) ≡ u (f + i))
        → (x : List ℤ) → delivered t n a f ps l x ≡ deliveries (stage_in t s p decl unit) u f xs ks x
    unfolding delivered deliveries
    delivered_is (no_more e) zero h u f ps l ks q gp gl x = refl
    delivered_is (no_more {a = a} e) (suc n) h u f ps l ks q gp gl x = rw (eq-eqb (code_of t a) c_end e)
    delivered_is (one_more_lem m d e g r) zero h u f ps l ks q gp gl x = absurd (omega arith)
    delivered_is (one_more_lem m d e g r) (suc n) h u f ps l [] q gp gl x = absurd (omega arith)
    delivered_is (one_more_lem {x = y} {xs = xs} {a = a} m d e g r) (suc n) h u f ps l (k ∷ ks) q gp gl x =
        let z : f ≡ f + 0 = omega arith in
        rw (ne_eqb (code_of t a) c_end d) (ap (λ i. delivered t n (i + 1) (f + 1) ps l (delivered_one t i f ps l x)) e
        ∙ ap (delivered t n (m + 1) (f + 1) ps l) (one-delivered y a m g u f k ps l (ap (λ i. get_or ps i 0) z ∙ gp 0 (omega arith))
        (ap (λ i. get_or l i (pos 0)) z ∙ gl 0 (omega arith) ∙ ap u (sym z)) x)
        ∙ delivered_is r n (omega arith) u (f + 1) ps l ks (omega arith) (λ i b. let w : f + 1 + i ≡ f + suc i = omega arith in ap (λ j. get_or ps j 0) w ∙ gp (suc i) (omega arith))
        (λ i b. let w : f + 1 + i ≡ f + suc i = omega arith in ap (λ j. get_or l j (pos 0)) w ∙ gl (suc i) (omega arith) ∙ ap u (sym w)) (delivery c u f y k x))
