-- WHERE TWO STAGES AGREE, every lawful statement is executable in both or in neither, offers the same steps, prints the same, and what comes of it is the same, in states that belong together.
use Rattle.std.specs.Prelude.{Result, Ok, Err}
use Prim.Native.Nat.{ℕ, suc, ◌+◌, min}
use native.Mathlib.Omega.{arith}
use mathlib.Core.Path.{◌≡◌, refl, sym as inv, ap, ap₂, ◌∙◌, subst}
use mathlib.Core.Bool.{Bool, true, false, not}
use mathlib.Core.List.{List, [], ◌∷◌, ◌++◌}
use lib.ListN.{length}
use lib.IntN.{ℤ, pos, negsuc, ◌+ℤ◌}
use lib.Dec.{eqb, ltb}
use Rattle.base_ceilings.specs.Ceilings.{height_most}
use Rattle.base_bytes.specs.Choice.{pick, both}
use Rattle.base_bytes.specs.Lists.{same, or_else}
use Rattle.base_bytes.proofs.Tests.{true_false, both_true}
use Rattle.spec_text.specs.Names.{pid}
use Rattle.base_values.specs.Operators.{is_true, equal_by}
use Rattle.base_values.specs.declared.Fault.{Fault}
use Rattle.base_values.specs.declared.Fault.TheVariants.{Index, Channel, Fields}
use Rattle.spec_rules.specs.Heights.{height}
use lib.Dec.{leb}
use borrow.Author.Tests.{lt-ltb, eqb-true}
use Rattle.spec_grammar.specs.Tree.{Received, into, equal, exactly, exactly_true, exactly_false, Sort, action, Tree, leaf, express, assign, increment, decrement, send, receive, assert, print, skip, goto, break, timeout, else, run, set_run, select, loop, bare, labelled, end, then, over, option}
use Rattle.spec_grammar.specs.Tree.{Name, Shape, Exp, Expr, Ref, plain, indexed, num, tru, fls, get, query, unary, binary, choice}
use Rattle.spec_rules.specs.Senses.{Sense, variable, constant, procedure, unknown, is_constant}
use Rattle.spec_rules.specs.Roles.{Role, operand, channel, target, received, for_constant, for_pid, for_chan, alike}
use Rattle.legal_rules.specs.Expressions.{suits, usable, named, lawful, whole}
use Rattle.spec_rules.specs.Statements.{Place, all, has, is_else_lem, sense}
use Rattle.legal_rules.specs.Statements.{runs, receives, formats, allowed}
use Rattle.spec_machine.specs.Eval.{element_by, length_by, sign_by, operate_by, choose_by, eval}
use Rattle.spec_machine.specs.Stage.{Message, Stage, Ways}
use Rattle.spec_machine.specs.Messages.{Finding, found, none, spoilt, find_from}
use Rattle.spec_machine.proofs.Messages.{found_first, find-same}
use Rattle.spec_machine.specs.Arguments.{name_of, Aim, hit, miss, aim_by, aim, Reach, astray, reach_by, reach_at, reach, WorkedOut, stopped, values_by, values, agree, agree_by, agrees, finding, Aims, hits, missed, aims_by, targets}
use Rattle.spec_machine.specs.Arguments as args
use Rattle.spec_machine.specs.Ready.{passes, sendable, finds, receivable, ready}
use Rattle.spec_machine.specs.Effect.{fault, delivery, deliveries, go_on, expressed_by, asserted_by, assigned_by, stepped_by, sent_by, received_at, received_if, received_by, printed_by, ran_by, set_by, set_run_by, effect, text_by, prints}
use Rattle.spec_machine.specs.Offers.{else_of, offers}
use Rattle.spec_machine.specs.Sizes.{size_in}
use Rattle.base_values.specs.Bits.{wrap32}
use Rattle.base_outcome.specs.declared.Taken.TheVariants.{Refuted}
use Rattle.agree_transfer.specs.Agrees.{is_variable, storable, Agrees, Leading, Related, takable}

from_0 : {n k : ℕ} → n ≡ k → n ≡ 0 + k
from_0 e = omega arith

-- ---- what a name is used for
module _ (sense : Name → Sense) where
  suits-operand : (r : Role) (i : Bool) (s : Sense) → suits r i s ≡ true → suits operand i s ≡ true
  suits-operand r i (variable ch ar) h = (both_true (for_chan r ch) (alike i ar) h).1
  suits-operand r i constant h = (both_true (for_constant r) (not i) h).1
  suits-operand r i (procedure n) h = h
  suits-operand r i unknown h = h

  pub as_operand : (r : Role) (i : Bool) (w : Name) → usable sense r i w ≡ true → usable sense operand i w ≡ true
  unfolding usable
  as_operand r i w h = go (same w pid) h
    where
      go : (b : Bool) → pick b (both (for_pid r) (not i)) (suits r i (sense w)) ≡ true → pick b (not i) (suits operand i (sense w)) ≡ true
      go true e = (both_true (for_pid r) (not i) e).1
      go false e = suits-operand r i (sense w) e

  -- with an index, or as a target or a channel: a variable
  suits_indexed : (r : Role) (s : Sense) → suits r true s ≡ true → is_variable s ≡ true
  suits_indexed r (variable ch ar) h = refl
  suits_indexed r constant h = (both_true (for_constant r) false h).1
  suits_indexed r (procedure n) h = h
  suits_indexed r unknown h = h

  pub indexed_storable : (r : Role) (w : Name) → usable sense r true w ≡ true → storable sense w ≡ true
  unfolding usable storable
  indexed_storable r w h = go (same w pid) h
    where
      go : (b : Bool) → pick b (both (for_pid r) false) (suits r true (sense w)) ≡ true → pick b false (is_variable (sense w)) ≡ true
      go true e = (both_true (for_pid r) false e).1
      go false e = suits_indexed r (sense w) e

  suits-target : (i : Bool) (s : Sense) → suits target i s ≡ true → is_variable s ≡ true
  suits-target i (variable ch ar) h = refl
  suits-target i constant h = h
  suits-target i (procedure n) h = h
  suits-target i unknown h = h

  pub target-storable : (i : Bool) (w : Name) → usable sense target i w ≡ true → storable sense w ≡ true
  unfolding usable storable
  target-storable i w h = go (same w pid) h
    where
      go : (b : Bool) → pick b false (suits target i (sense w)) ≡ true → pick b false (is_variable (sense w)) ≡ true
      go true e = e
      go false e = suits-target i (sense w) e

  suits-channel : (i : Bool) (s : Sense) → suits channel i s ≡ true → is_variable s ≡ true
  suits-channel i (variable ch ar) h = refl
  suits-channel i constant h = h
  suits-channel i (procedure n) h = h
  suits-channel i unknown h = h

  pub channel-storable : (i : Bool) (w : Name) → usable sense channel i w ≡ true → storable sense w ≡ true
  unfolding usable storable
  channel-storable i w h = go (same w pid) h
    where
      go : (b : Bool) → pick b false (suits channel i (sense w)) ≡ true → pick b false (is_variable (sense w)) ≡ true
      go true e = e
      go false e = suits-channel i (sense w) e

  suits-received : (i : Bool) (s : Sense) → suits received i s ≡ true → is_constant s ≡ false → is_variable s ≡ true
  suits-received i (variable ch ar) h e = refl
  suits-received i constant h e = inv e
  suits-received i (procedure n) h e = h
  suits-received i unknown h e = h

  pub received-storable : (i : Bool) (w : Name) → usable sense received i w ≡ true → is_constant (sense w) ≡ false → storable sense w ≡ true
  unfolding usable storable
  received-storable i w h k = go (same w pid) h
    where
      go : (b : Bool) → pick b false (suits received i (sense w)) ≡ true → pick b false (is_variable (sense w)) ≡ true
      go true e = e
      go false e = suits-received i (sense w) e k

module _ {S T : Type 0} (R : S → T → Type 0) (P : ℕ → Type 0) (at : Place) (c : Stage S) (x : S) (d : Stage T) (y : T) (a : Agrees R P at c x d y) where
  -- ---- expressions
  element_same : (w : Name) → storable (sense at) w ≡ true → (v : Result ℤ Fault) → element_by c.scene w v ≡ element_by d.scene w v
  element_same w h (Ok (pos i)) = go (ltb i (c.scene.size w)) refl
    where
      go : (b : Bool) → ltb i (c.scene.size w) ≡ b → pick b (Ok (c.scene.element w i)) (Err Index) ≡ pick (ltb i (d.scene.size w)) (Ok (d.scene.element w i)) (Err Index)
      go true e = rw (inv (ap (ltb i) (a.size w h)) ∙ e) (ap Ok (a.element w i h e))
      go false e = rw (inv (ap (ltb i) (a.size w h)) ∙ e)
  element_same w h (Ok (negsuc i)) = refl
  element_same w h (Err f) = refl

  length-same : (v : Result ℤ Fault) → length_by c.scene v ≡ length_by d.scene v
  length-same (Ok v) = go (c.scene.made v) refl
    where
      go : (b : Bool) → c.scene.made v ≡ b → pick b (Ok (pos (c.scene.waiting v))) (Err Channel) ≡ pick (d.scene.made v) (Ok (pos (d.scene.waiting v))) (Err Channel)
      go true e = rw (inv (a.made v) ∙ e) (ap (λ n. Ok (pos n)) (a.waiting v e))
      go false e = rw (inv (a.made v) ∙ e)
  length-same (Err f) = refl

  pub eval-same : {k : Shape} (e : Exp k) (r : Role) → named (sense at) r e ≡ true → eval c.scene e ≡ eval d.scene e
  unfolding eval named
  eval-same (plain w) r h = ap Ok (a.number w (as_operand (sense at) r false w h))
  eval-same (indexed w e) r h =
      let p = both_true (usable (sense at) r true w) (named (sense at) operand e) h in
      element_same w (indexed_storable (sense at) r w p.0) (eval c.scene e) ∙ ap (element_by d.scene w) (eval-same e operand p.1)
  eval-same (num n) r h = refl
  eval-same tru r h = refl
  eval-same fls r h = refl
  eval-same (get e) r h = eval-same e operand h
  eval-same (query mk e) r h = length-same (eval c.scene e) ∙ ap (length_by d.scene) (eval-same e channel h)
  eval-same (unary o e) r h = ap (sign_by o) (eval-same e operand h)
  eval-same (binary o e f) r h =
      let p = both_true (named (sense at) operand e) (named (sense at) operand f) h in
      ap₂ (operate_by o) (eval-same e operand p.0) (eval-same f operand p.1)
  eval-same (choice e f g) r h =
      let p = both_true (named (sense at) operand e) (both (named (sense at) operand f) (named (sense at) operand g)) h in
      let q = both_true (named (sense at) operand f) (named (sense at) operand g) p.1 in
      λ k. choose_by (eval-same e operand p.0 k) (eval-same f operand q.0 k) (eval-same g operand q.1 k)

  -- a whole expression, or a reference that stands alone
  lawful-same : {k : Shape} (e : Exp k) (r : Role) → lawful (sense at) r e ≡ true → eval c.scene e ≡ eval d.scene e
  unfolding lawful
  lawful-same e r h = eval-same e r (both_true (leb (height e) height_most) (named (sense at) r e) h).1

  -- ---- references
  -- a role in which no mtype name and no `_pid` stands
  abbrev pub Storable : Ref → Type 0
  Storable r = storable (sense at) (name_of r) ≡ true

  pub target-named : (r : Ref) → lawful (sense at) target r ≡ true → Storable r
  unfolding lawful named
  target-named (plain w) h = target-storable (sense at) false w (both_true (leb (height (plain w)) height_most) (usable (sense at) target false w) h).1
  target-named (indexed w e) h =
      let p = both_true (leb (height (indexed w e)) height_most) (both (usable (sense at) target true w) (named (sense at) operand e)) h in
      target-storable (sense at) true w (both_true (usable (sense at) target true w) (named (sense at) operand e) p.1).0

  channel-named : (r : Ref) → lawful (sense at) channel r ≡ true → Storable r
  unfolding lawful named
  channel-named (plain w) h = channel-storable (sense at) false w (both_true (leb (height (plain w)) height_most) (usable (sense at) channel false w) h).1
  channel-named (indexed w e) h =
      let p = both_true (leb (height (indexed w e)) height_most) (both (usable (sense at) channel true w) (named (sense at) operand e)) h in
      channel-storable (sense at) true w (both_true (usable (sense at) channel true w) (named (sense at) operand e) p.1).0

  -- the number of its variable is there
  abbrev pub There : Name → Aim → Type 0
  There w (hit k) = ltb k (c.scene.size w) ≡ true
  There w (miss f) = Unit {0}

  aimed_same : (w : Name) → storable (sense at) w ≡ true → (v : Result ℤ Fault) → (aim_by c.scene w v ≡ aim_by d.scene w v) × There w (aim_by c.scene w v)
  aimed_same w h (Ok (pos i)) = go (ltb i (c.scene.size w)) refl
    where
      go : (b : Bool) → ltb i (c.scene.size w) ≡ b → (pick b (hit i) (miss Index) ≡ pick (ltb i (d.scene.size w)) (hit i) (miss Index)) × There w (pick b (hit i) (miss Index))
      go true e = (rw (inv (ap (ltb i) (a.size w h)) ∙ e), e)
      go false e = (rw (inv (ap (ltb i) (a.size w h)) ∙ e), tt)
  aimed_same w h (Ok (negsuc i)) = (refl, tt)
  aimed_same w h (Err f) = (refl, tt)

  pub aim_same : (r : Ref) (o : Role) → lawful (sense at) o r ≡ true → Storable r → (aim c.scene r ≡ aim d.scene r) × There (name_of r) (aim c.scene r)
  unfolding lawful named
  aim_same (plain w) o h g = (refl, a.some w g)
  aim_same (indexed w e) o h g =
      let p = both_true (leb (height (indexed w e)) height_most) (both (usable (sense at) o true w) (named (sense at) operand e)) h in
      let q = both_true (usable (sense at) o true w) (named (sense at) operand e) p.1 in
      let k = aimed_same w g (eval c.scene e) in
      (k.0 ∙ ap (aim_by d.scene w) (eval-same e operand q.1), k.1)

  -- ---- channel operands
  -- the channel was made, and has n fields
  abbrev pub Made : ℕ → Reach → Type 0
  Made n (args.channel v) = (c.scene.made v ≡ true) × (c.fields v ≡ n)
  Made n (astray f) = Unit {0}

  reached_same : (n : ℕ) (v : ℤ) → (reach_by c n v ≡ reach_by d n v) × Made n (reach_by c n v)
  reached_same n v = go (c.scene.made v) refl
    where
      inner : (b : Bool) → eqb (c.fields v) n ≡ b → c.scene.made v ≡ true
          → (pick b (args.channel v) (astray Fields) ≡ pick (eqb (d.fields v) n) (args.channel v) (astray Fields)) × Made n (pick b (args.channel v) (astray Fields))
      inner true e m = (rw (inv (ap (λ k. eqb k n) (a.fields v m)) ∙ e), (m, eqb-true (c.fields v) n e))
      inner false e m = (rw (inv (ap (λ k. eqb k n) (a.fields v m)) ∙ e), tt)

      go : (b : Bool) → c.scene.made v ≡ b
          → (pick b (pick (eqb (c.fields v) n) (args.channel v) (astray Fields)) (astray Channel) ≡ reach_by d n v)
          × Made n (pick b (pick (eqb (c.fields v) n) (args.channel v) (astray Fields)) (astray Channel))
      go true e = let r = inner (eqb (c.fields v) n) refl e in (rw (inv (a.made v) ∙ e) r.0, r.1)
      go false e = (rw (inv (a.made v) ∙ e), tt)

  pub reach-same : (r : Ref) (n : ℕ) → lawful (sense at) channel r ≡ true → (reach c r n ≡ reach d r n) × Made n (reach c r n)
  reach-same r n h =
      let g = channel-named r h in
      let k = aim_same r channel h g in
      let z = go (aim c.scene r) k.1 g in
      (z.0 ∙ ap (reach_at d n (name_of r)) k.0, z.1)
    where
      go : (q : Aim) → There (name_of r) q → Storable r → (reach_at c n (name_of r) q ≡ reach_at d n (name_of r) q) × Made n (reach_at c n (name_of r) q)
      go (hit k) t g = let z = reached_same n (c.scene.element (name_of r) k) in (z.0 ∙ ap (reach_by d n) (a.element (name_of r) k g t), z.1)
      go (miss f) t g = (refl, tt)

  -- ---- arguments
  values_same : (es : List Expr) → all (whole (sense at)) es ≡ true → values c.scene es ≡ values d.scene es
  unfolding values
  values_same [] h = refl
  values_same (e ∷ es) h =
      let p = both_true (whole (sense at) e) (all (whole (sense at)) es) h in
      ap₂ values_by (lawful-same e operand p.0) (values_same es p.1)

  -- as many values as arguments
  abbrev Counted : ℕ → WorkedOut → Type 0
  Counted n (args.all vs) = length vs ≡ n
  Counted n (stopped f) = Unit {0}

  values-counted : (es : List Expr) → Counted (length es) (values c.scene es)
  unfolding values
  values-counted [] = refl
  values-counted (e ∷ es) = go (eval c.scene e) (values c.scene es) (values-counted es)
    where
      go : (v : Result ℤ Fault) (vs : WorkedOut) → Counted (length es) vs → Counted (suc (length es)) (values_by v vs)
      go (Ok v) (args.all vs) k = ap suc k
      go (Ok v) (stopped f) k = tt
      go (Err f) vs k = tt

  pub into_usable : (r : Ref) → lawful (sense at) received r ≡ true → (c.constant (name_of r) ≡ is_constant (sense at (name_of r))) × (d.constant (name_of r) ≡ is_constant (sense at (name_of r)))
  unfolding lawful named
  into_usable (plain n) h = a.constant n false (both_true (leb (height (plain n)) height_most) (usable (sense at) received false n) h).1
  into_usable (indexed n e) h =
      let p = both_true (leb (height (indexed n e)) height_most) (both (usable (sense at) received true n) (named (sense at) operand e)) h in
      a.constant n true (both_true (usable (sense at) received true n) (named (sense at) operand e) p.1).0

  pub received-named : (r : Ref) → lawful (sense at) received r ≡ true → is_constant (sense at (name_of r)) ≡ false → Storable r
  unfolding lawful named
  received-named (plain n) h k = received-storable (sense at) false n (both_true (leb (height (plain n)) height_most) (usable (sense at) received false n) h).1 k
  received-named (indexed n e) h k =
      let p = both_true (leb (height (indexed n e)) height_most) (both (usable (sense at) received true n) (named (sense at) operand e)) h in
      received-storable (sense at) true n (both_true (usable (sense at) received true n) (named (sense at) operand e) p.1).0 k

  -- each target that is stored to is there
  abbrev InSize : Received → ℕ → Type 0
  InSize (into r) k = is_constant (sense at (name_of r)) ≡ false → ltb k (c.scene.size (name_of r)) ≡ true
  InSize (equal e) k = Unit {0}
  InSize (exactly n) k = Unit {0}
  InSize exactly_true k = Unit {0}
  InSize exactly_false k = Unit {0}

  abbrev AllOk : List Received → List ℕ → Type 0
  AllOk [] ks = Unit {0}
  AllOk (r ∷ rs) [] = Unit {0}
  AllOk (r ∷ rs) (k ∷ ks) = InSize r k × AllOk rs ks

  abbrev AimOk : Received → Aim → Type 0
  AimOk r (hit k) = InSize r k
  AimOk r (miss f) = Unit {0}

  abbrev AimsOk : List Received → Aims → Type 0
  AimsOk rs (hits ks) = AllOk rs ks
  AimsOk rs (missed f) = Unit {0}

  target-same : (r : Received) → receives at r ≡ true → (args.target c r ≡ args.target d r) × AimOk r (args.target c r)
  target-same (into r) h = go (is_constant (sense at (name_of r))) refl
    where
      k : (c.constant (name_of r) ≡ is_constant (sense at (name_of r))) × (d.constant (name_of r) ≡ is_constant (sense at (name_of r)))
      k = into_usable r h

      there : (q : Aim) → There (name_of r) q → AimOk (into r) q
      there (hit n) t = λ e. t
      there (miss f) t = tt

      go : (b : Bool) → is_constant (sense at (name_of r)) ≡ b
          → (pick (c.constant (name_of r)) (hit 0) (aim c.scene r) ≡ pick (d.constant (name_of r)) (hit 0) (aim d.scene r)) × AimOk (into r) (pick (c.constant (name_of r)) (hit 0) (aim c.scene r))
      go true e =
          let z : AimOk (into r) (hit 0) = λ n. absurd (true_false (inv e ∙ n)) in (
            ap (λ b. pick b (hit 0) (aim c.scene r)) (k.0 ∙ e) ∙ inv (ap (λ b. pick b (hit 0) (aim d.scene r)) (k.1 ∙ e)),
            subst (λ b. AimOk (into r) (pick b (hit 0) (aim c.scene r))) (inv (k.0 ∙ e)) z,
          )
      go false e =
          let g = aim_same r received h (received-named r h e) in (
            ap (λ b. pick b (hit 0) (aim c.scene r)) (k.0 ∙ e) ∙ g.0 ∙ inv (ap (λ b. pick b (hit 0) (aim d.scene r)) (k.1 ∙ e)),
            subst (λ b. AimOk (into r) (pick b (hit 0) (aim c.scene r))) (inv (k.0 ∙ e)) (there (aim c.scene r) g.1),
          )
  target-same (equal e) h = (refl, tt)
  target-same (exactly n) h = (refl, tt)
  target-same exactly_true h = (refl, tt)
  target-same exactly_false h = (refl, tt)

  targets-same : (rs : List Received) → all (receives at) rs ≡ true → (targets c rs ≡ targets d rs) × AimsOk rs (targets c rs)
  unfolding targets
  targets-same [] h = (refl, tt)
  targets-same (r ∷ rs) h =
      let p = both_true (receives at r) (all (receives at) rs) h in
      let g = target-same r p.0 in
      let l = targets-same rs p.1 in
      (ap₂ aims_by g.0 l.0, go (args.target c r) (targets c rs) g.1 l.1)
    where
      go : (q : Aim) (z : Aims) → AimOk r q → AimsOk rs z → AimsOk (r ∷ rs) (aims_by q z)
      go (hit k) (hits ks) o os = (o, os)
      go (hit k) (missed f) o os = tt
      go (miss f) z o os = tt

  -- ---- received arguments, against two messages that have the same values in their n fields, wherever they lie
  module _ (n : ℕ) (u w : Message) (same : (f : ℕ) → ltb f n ≡ true → u f ≡ w f) where
    equal_same : (q : Result ℤ Fault) (f : ℕ) → ltb f n ≡ true → equal_by q (u f) ≡ equal_by q (w f)
    equal_same q f l = ap (equal_by q) (same f l)

    agree_same : (r : Received) (f : ℕ) → receives at r ≡ true → ltb f n ≡ true → agree c u f r ≡ agree d w f r
    agree_same (into r) f h l =
        let k = into_usable r h in
        ap₂ (λ b q. pick b q (Ok (pos 1))) (k.0 ∙ inv k.1) (ap₂ equal_by (lawful-same r received h) (same f l))
    agree_same (equal e) f h l = ap₂ equal_by (lawful-same e operand h) (same f l)
    agree_same (exactly n) f h l = equal_same (Ok (pos n)) f l
    agree_same exactly_true f h l = equal_same (Ok (pos 1)) f l
    agree_same exactly_false f h l = equal_same (Ok (pos 0)) f l

    agrees-same : (rs : List Received) (f : ℕ) → all (receives at) rs ≡ true → n ≡ f + length rs → agrees c u f rs ≡ agrees d w f rs
    unfolding agrees
    agrees-same [] f h l = refl
    agrees-same (r ∷ rs) f h l =
        let p = both_true (receives at r) (all (receives at) rs) h in
        ap₂ agree_by (agree_same r f p.0 (lt-ltb f n (omega (arith, l)))) (agrees-same rs (f + 1) p.1 (omega (arith, l)))

    -- the stores of its fields
    delivery-same : (r : Received) (f k : ℕ) → receives at r ≡ true → ltb f n ≡ true → InSize r k → {p : S} {q : T} → R p q → R (delivery c u f r k p) (delivery d w f r k q)
    delivery-same (into r) f k h l o {p} {q} g = go (is_constant (sense at (name_of r))) refl
      where
        b : (c.constant (name_of r) ≡ is_constant (sense at (name_of r))) × (d.constant (name_of r) ≡ is_constant (sense at (name_of r)))
        b = into_usable r h

        go : (t : Bool) → is_constant (sense at (name_of r)) ≡ t
            → R (pick (c.constant (name_of r)) p (c.store (name_of r) k (u f) p)) (pick (d.constant (name_of r)) q (d.store (name_of r) k (w f) q))
        go true e = rw (b.0 ∙ e, b.1 ∙ e) g
        go false e =
            rw (b.0 ∙ e, b.1 ∙ e)
            (subst (λ z. R (c.store (name_of r) k (u f) p) (d.store (name_of r) k z q)) (same f l) (a.store g (name_of r) k (u f) (received-named r h e) (o e)))
    delivery-same (equal e) f k h l o g = g
    delivery-same (exactly n) f k h l o g = g
    delivery-same exactly_true f k h l o g = g
    delivery-same exactly_false f k h l o g = g

    deliveries-same : (rs : List Received) (f : ℕ) (ks : List ℕ) → all (receives at) rs ≡ true → n ≡ f + length rs → AllOk rs ks → {p : S} {q : T} → R p q
        → R (deliveries c u f rs ks p) (deliveries d w f rs ks q)
    unfolding deliveries
    deliveries-same [] f ks h l o g = g
    deliveries-same (r ∷ rs) f [] h l o g = g
    deliveries-same (r ∷ rs) f (k ∷ ks) h l o g =
        let p = both_true (receives at r) (all (receives at) rs) h in
        deliveries-same rs (f + 1) ks p.1 (omega (arith, l)) o.1 (delivery-same r f k p.0 (lt-ltb f n (omega (arith, l))) o.0 g)

  -- ---- what a receive finds in a channel
  -- a message that is found waits
  found_waits : (v : ℤ) (rs : List Received) (k : ℕ) → finding c v rs ≡ found k → ltb k (c.scene.waiting v) ≡ true
  found_waits v rs k e = let b = (found_first (λ k. agrees c (c.message v k) 0 rs) (min 1 (c.scene.waiting v)) 0 k e).below in lt-ltb k (c.scene.waiting v) (omega arith)

  finding-same : (v : ℤ) (rs : List Received) → c.scene.made v ≡ true → c.fields v ≡ length rs → all (receives at) rs ≡ true → finding c v rs ≡ finding d v rs
  finding-same v rs m l h =
      find-same (λ k. agrees c (c.message v k) 0 rs) (λ k. agrees d (d.message v k) 0 rs) (min 1 (c.scene.waiting v)) 0
      (λ k p q. agrees-same (c.fields v) (c.message v k) (d.message v k) (λ f g. a.message v k f m (lt-ltb k (c.scene.waiting v) (omega arith)) g) rs 0 h (from_0 l))
      ∙ ap (λ n. find_from (λ k. agrees d (d.message v k) 0 rs) 0 (min 1 n)) (a.waiting v m)

  -- ---- WHAT IS EXECUTABLE
  sendable-same : (n : ℕ) (q : Reach) → Made n q → sendable c q ≡ sendable d q
  sendable-same n (args.channel v) m = ap₂ ltb (a.waiting v m.0) (a.capacity v m.0)
  sendable-same n (astray f) m = refl

  receivable-same : (rs : List Received) (q : Reach) → Made (length rs) q → all (receives at) rs ≡ true → receivable c rs q ≡ receivable d rs q
  receivable-same rs (args.channel v) m h = ap finds (finding-same v rs m.0 m.1 h)
  receivable-same rs (astray f) m h = refl

  pub ready-same : (late loops fst : Bool) (t : Tree action) → allowed at loops fst t ≡ true → ready c late t ≡ ready d late t
  unfolding ready allowed
  ready-same late loops fst (leaf (express e)) h = ap passes (lawful-same e operand h)
  ready-same late loops fst (leaf (assign r e)) h = refl
  ready-same late loops fst (leaf (increment r)) h = refl
  ready-same late loops fst (leaf (decrement r)) h = refl
  ready-same late loops fst (leaf (send mk r es)) h =
      let p = both_true (lawful (sense at) channel r) (both (leb (length es) 4) (all (whole (sense at)) es)) h in
      let q = reach-same r (length es) p.0 in
      sendable-same (length es) (reach c r (length es)) q.1 ∙ ap (sendable d) q.0
  ready-same late loops fst (leaf (receive mk r rs)) h =
      let p = both_true (lawful (sense at) channel r) (both (leb (length rs) 4) (all (receives at) rs)) h in
      let q = reach-same r (length rs) p.0 in
      receivable-same rs (reach c r (length rs)) q.1 (both_true (leb (length rs) 4) (all (receives at) rs) p.1).1 ∙ ap (receivable d rs) q.0
  ready-same late loops fst (leaf (assert e)) h = refl
  ready-same late loops fst (leaf (print w es)) h = refl
  ready-same late loops fst (leaf skip) h = refl
  ready-same late loops fst (leaf (goto w)) h = refl
  ready-same late loops fst (leaf break) h = refl
  ready-same late loops fst (leaf timeout) h = refl
  ready-same late loops fst (leaf else) h = refl
  ready-same late loops fst (leaf (run w es)) h = a.room w (length es) (both_true (runs at w (length es)) (all (whole (sense at)) es) h).0
  ready-same late loops fst (leaf (set_run r w es)) h = refl
  ready-same late loops fst (select os) h = refl
  ready-same late loops fst (loop os) h = refl

  -- ---- WHAT IS PRINTED
  pub prints-same : (loops fst : Bool) (t : Tree action) → allowed at loops fst t ≡ true → prints c t ≡ prints d t
  unfolding allowed
  prints-same loops fst (leaf (express e)) h = refl
  prints-same loops fst (leaf (assign r e)) h = refl
  prints-same loops fst (leaf (increment r)) h = refl
  prints-same loops fst (leaf (decrement r)) h = refl
  prints-same loops fst (leaf (send mk r es)) h = refl
  prints-same loops fst (leaf (receive mk r rs)) h = refl
  prints-same loops fst (leaf (assert e)) h = refl
  prints-same loops fst (leaf (print w es)) h = ap (text_by w) (values_same es (both_true (formats at w (length es)) (all (whole (sense at)) es) h).1)
  prints-same loops fst (leaf skip) h = refl
  prints-same loops fst (leaf (goto w)) h = refl
  prints-same loops fst (leaf break) h = refl
  prints-same loops fst (leaf timeout) h = refl
  prints-same loops fst (leaf else) h = refl
  prints-same loops fst (leaf (run w es)) h = refl
  prints-same loops fst (leaf (set_run r w es)) h = refl
  prints-same loops fst (select os) h = refl
  prints-same loops fst (loop os) h = refl

  -- ---- WHAT IS OFFERED
  abbrev can : Bool → Tree action → ℕ → Bool
  can late t i = ready c late t

  abbrev could : Bool → Tree action → ℕ → Bool
  could late t i = ready d late t

  one_same : (late loops fst : Bool) (t : Tree action) (i : ℕ) → allowed at loops fst t ≡ true → pick (ready c late t) (i ∷ []) [] ≡ pick (ready d late t) (i ∷ []) []
  one_same late loops fst t i h = ap (λ b. pick b (i ∷ []) []) (ready-same late loops fst t h)

  pub offers-same : (late loops fst : Bool) {k : Sort} (t : Tree k) (i : ℕ) → allowed at loops fst t ≡ true → offers (can late) t i ≡ offers (could late) t i
  unfolding offers allowed
  offers-same late loops fst (leaf l) i h = one_same late loops fst (leaf l) i h
  offers-same late loops fst (select os) i h = ap (λ (z : List ℕ). or_else z (else_of os (i + 1))) (offers-same late loops false os (i + 1) (both_true (leb (is_else_lem os) 1) (allowed at loops false os) h).1)
  offers-same late loops fst (loop os) i h = ap (λ (z : List ℕ). or_else z (else_of os (i + 1))) (offers-same late true false os (i + 1) (both_true (leb (is_else_lem os) 1) (allowed at true false os) h).1)
  offers-same late loops fst (bare t) i h = offers-same late loops fst t i h
  offers-same late loops fst (labelled w t) i h = offers-same late loops false t (i + 2) h
  offers-same late loops fst end i h = refl
  offers-same late loops fst (then t q) i h = offers-same late loops fst t i (both_true (allowed at loops fst t) (allowed at loops false q) h).0
  offers-same late loops fst over i h = refl
  offers-same late loops fst (option q os) i h =
      let p = both_true (allowed at loops true q) (allowed at loops false os) h in
      ap₂ ◌++◌ (offers-same late loops true q (i + 1) p.0) (offers-same late loops false os (i + 2 + size_in q) p.1)

  -- ---- WHAT COMES OF A STEP
  module _ (loops fst : Bool) (h : Ways) (way : Leading P at loops h) where
    on : {p : S} {q : T} → R p q → Related R (go_on c h.next p) (go_on d h.next q)
    on g = (refl, a.go g h.next way.next)

    failed : (f : Fault) → Related R (fault x f) (fault y f)
    failed f = (refl, a.together)

    expressed-same : (v : Result ℤ Fault) → Related R (expressed_by c h.next x v) (expressed_by d h.next y v)
    expressed-same (Ok v) = on a.together
    expressed-same (Err f) = failed f

    asserted-same : (v : Result ℤ Fault) → Related R (asserted_by c h.next x v) (asserted_by d h.next y v)
    asserted-same (Ok v) = go (is_true v)
      where
        go : (b : Bool) → Related R (pick b (go_on c h.next x) (Refuted, x)) (pick b (go_on d h.next y) (Refuted, y))
        go true = on a.together
        go false = (refl, a.together)
    asserted-same (Err f) = failed f

    assigned-same : (w : Name) → storable (sense at) w ≡ true → (v : Result ℤ Fault) (k : Aim) → There w k → Related R (assigned_by c h.next x w v k) (assigned_by d h.next y w v k)
    assigned-same w s (Ok v) (hit k) t = on (a.store a.together w k v s t)
    assigned-same w s (Err f) (hit k) t = failed f
    assigned-same w s v (miss f) t = failed f

    stepped_same : (w : Name) → storable (sense at) w ≡ true → (e : ℤ) (k : Aim) → There w k → Related R (stepped_by c h.next x w e k) (stepped_by d h.next y w e k)
    stepped_same w s e (hit k) t =
        on (subst (λ z. R (c.store w k (wrap32 (c.scene.element w k +ℤ e)) x) (d.store w k (wrap32 (z +ℤ e)) y)) (a.element w k s t)
        (a.store a.together w k (wrap32 (c.scene.element w k +ℤ e)) s t))
    stepped_same w s e (miss f) t = failed f

    sent-same : (n : ℕ) (vs : WorkedOut) → Counted n vs → (q : Reach) → Made n q → sendable c q ≡ true → Related R (sent_by c h.next x vs q) (sent_by d h.next y vs q)
    sent-same n (args.all vs) k (args.channel v) m e =
        on (subst (λ n. R (c.put v (c.scene.waiting v) vs x) (d.put v n vs y)) (a.waiting v m.0) (a.put v (c.scene.waiting v) vs m.0 e refl (k ∙ inv m.1)))
    sent-same n (stopped f) k (args.channel v) m e = failed f
    sent-same n vs k (astray f) m e = failed f

    received-same : (rs : List Received) → all (receives at) rs ≡ true → (q : Reach) → Made (length rs) q → receivable c rs q ≡ true
        → Related R (received_by c h.next x rs q) (received_by d h.next y rs q)
    received-same rs g (args.channel v) m e =
        subst (λ l. Related R (received_if c h.next x v rs (finding c v rs)) (received_if d h.next y v rs l)) (finding-same v rs m.0 m.1 g) (taken (finding c v rs) refl)
      where
        aims : (k : ℕ) → ltb k (c.scene.waiting v) ≡ true → (z : Aims) → AimsOk rs z → Related R (received_at c h.next x v k rs z) (received_at d h.next y v k rs z)
        aims k w (hits ks) o =
            on (deliveries-same (c.fields v) (c.message v k) (d.message v k) (λ f. a.message v k f m.0 w) rs 0 ks g (from_0 m.1) o (a.take v k m.0 w))
        aims k w (missed f) o = failed f

        taken : (z : Finding) → finding c v rs ≡ z → Related R (received_if c h.next x v rs z) (received_if d h.next y v rs z)
        taken (found k) w =
            let q = targets-same rs g in
            subst (λ l. Related R (received_at c h.next x v k rs (targets c rs)) (received_at d h.next y v k rs l)) q.0 (aims k (found_waits v rs k w) (targets c rs) q.1)
        taken none w = (refl, a.together)
        taken (spoilt f) w = failed f
    received-same rs g (astray f) m e = failed f

    printed-same : (vs : WorkedOut) → Related R (printed_by c h.next x vs) (printed_by d h.next y vs)
    printed-same (args.all vs) = on a.together
    printed-same (stopped f) = failed f

    ran-same : (w : Name) (n : ℕ) → runs at w n ≡ true → c.room w ≡ true → (vs : WorkedOut) → Counted n vs → Related R (ran_by c h.next x w vs) (ran_by d h.next y w vs)
    ran-same w n g e (args.all vs) k = on (a.begin w vs (subst (λ l. runs at w l ≡ true) (inv k) g) e)
    ran-same w n g e (stopped f) k = failed f

    set_ran_same : (r : Name) → storable (sense at) r ≡ true → (w : Name) (n : ℕ) → runs at w n ≡ true → (vs : WorkedOut) → Counted n vs → (k : Aim) → There r k
        → Related R (set_run_by c h.next x r w vs k) (set_run_by d h.next y r w vs k)
    set_ran_same r s w n g vs l (hit k) t = room (c.room w) refl
      where
        set : c.room w ≡ true → (vs : WorkedOut) → Counted n vs → Related R (set_by c h.next x r k w vs) (set_by d h.next y r k w vs)
        set e (args.all vs) l =
            on (subst (λ z. R (c.store r k c.newest (c.begin w vs x)) (d.store r k z (d.begin w vs y))) a.newest
            (a.store (a.begin w vs (subst (λ l. runs at w l ≡ true) (inv l) g) e) r k c.newest s t))
        set e (stopped f) l = failed f

        room : (b : Bool) → c.room w ≡ b
            → Related R (pick b (set_by c h.next x r k w vs) (go_on c h.next (c.store r k (pos 0) x))) (pick (d.room w) (set_by d h.next y r k w vs) (go_on d h.next (d.store r k (pos 0) y)))
        room true e = rw (inv (a.room w n g) ∙ e) (set e vs l)
        room false e = rw (inv (a.room w n g) ∙ e) (on (a.store a.together r k (pos 0) s t))
    set_ran_same r s w n g vs l (miss f) t = failed f

    pub effect-same : (t : Tree action) → allowed at loops fst t ≡ true → takable c t ≡ true → Related R (effect c h x t) (effect d h y t)
    unfolding effect allowed ready
    effect-same (leaf (express e)) g k =
        subst (λ z. Related R (expressed_by c h.next x (eval c.scene e)) (expressed_by d h.next y z)) (lawful-same e operand g) (expressed-same (eval c.scene e))
    effect-same (leaf (assign r e)) g k =
        let p = both_true (lawful (sense at) target r) (whole (sense at) e) g in
        let s = target-named r p.0 in
        let q = aim_same r target p.0 s in
        subst (λ z. Related R (assigned_by c h.next x (name_of r) (eval c.scene e) (aim c.scene r)) (assigned_by d h.next y (name_of r) (eval d.scene e) z)) q.0
        (subst (λ z. Related R (assigned_by c h.next x (name_of r) (eval c.scene e) (aim c.scene r)) (assigned_by d h.next y (name_of r) z (aim c.scene r))) (lawful-same e operand p.1)
        (assigned-same (name_of r) s (eval c.scene e) (aim c.scene r) q.1))
    effect-same (leaf (increment r)) g k =
        let s = target-named r g in
        let q = aim_same r target g s in
        subst (λ z. Related R (stepped_by c h.next x (name_of r) (pos 1) (aim c.scene r)) (stepped_by d h.next y (name_of r) (pos 1) z)) q.0
        (stepped_same (name_of r) s (pos 1) (aim c.scene r) q.1)
    effect-same (leaf (decrement r)) g k =
        let s = target-named r g in
        let q = aim_same r target g s in
        subst (λ z. Related R (stepped_by c h.next x (name_of r) (negsuc 0) (aim c.scene r)) (stepped_by d h.next y (name_of r) (negsuc 0) z)) q.0
        (stepped_same (name_of r) s (negsuc 0) (aim c.scene r) q.1)
    effect-same (leaf (send mk r es)) g k =
        let p = both_true (lawful (sense at) channel r) (both (leb (length es) 4) (all (whole (sense at)) es)) g in
        let q = reach-same r (length es) p.0 in
        subst (λ z. Related R (sent_by c h.next x (values c.scene es) (reach c r (length es))) (sent_by d h.next y (values d.scene es) z)) q.0
        (subst (λ z. Related R (sent_by c h.next x (values c.scene es) (reach c r (length es))) (sent_by d h.next y z (reach c r (length es))))
        (values_same es (both_true (leb (length es) 4) (all (whole (sense at)) es) p.1).1)
        (sent-same (length es) (values c.scene es) (values-counted es) (reach c r (length es)) q.1 k))
    effect-same (leaf (receive mk r rs)) g k =
        let p = both_true (lawful (sense at) channel r) (both (leb (length rs) 4) (all (receives at) rs)) g in
        let q = reach-same r (length rs) p.0 in
        subst (λ z. Related R (received_by c h.next x rs (reach c r (length rs))) (received_by d h.next y rs z)) q.0
        (received-same rs (both_true (leb (length rs) 4) (all (receives at) rs) p.1).1 (reach c r (length rs)) q.1 k)
    effect-same (leaf (assert e)) g k =
        subst (λ z. Related R (asserted_by c h.next x (eval c.scene e)) (asserted_by d h.next y z)) (lawful-same e operand g) (asserted-same (eval c.scene e))
    effect-same (leaf (print w es)) g k =
        subst (λ z. Related R (printed_by c h.next x (values c.scene es)) (printed_by d h.next y z))
        (values_same es (both_true (formats at w (length es)) (all (whole (sense at)) es) g).1) (printed-same (values c.scene es))
    effect-same (leaf skip) g k = on a.together
    effect-same (leaf (goto w)) g k = (refl, a.go a.together (h.label w) (way.label w (both_true (not (same w pid)) (has at.labels w) g).1))
    effect-same (leaf break) g k = (refl, a.go a.together h.out (way.out g))
    effect-same (leaf timeout) g k = on a.together
    effect-same (leaf else) g k = on a.together
    effect-same (leaf (run w es)) g k =
        let p = both_true (runs at w (length es)) (all (whole (sense at)) es) g in
        let z = ran-same w (length es) p.0 k (values c.scene es) (values-counted es) in
        rw (k, inv (a.room w (length es) p.0) ∙ k)
        (subst (λ z. Related R (ran_by c h.next x w (values c.scene es)) (ran_by d h.next y w z)) (values_same es p.1) z)
    effect-same (leaf (set_run r w es)) g k =
        let p = both_true (lawful (sense at) target r) (both (runs at w (length es)) (all (whole (sense at)) es)) g in
        let u = both_true (runs at w (length es)) (all (whole (sense at)) es) p.1 in
        let s = target-named r p.0 in
        let q = aim_same r target p.0 s in
        subst (λ z. Related R (set_run_by c h.next x (name_of r) w (values c.scene es) (aim c.scene r)) (set_run_by d h.next y (name_of r) w (values d.scene es) z)) q.0
        (subst (λ z. Related R (set_run_by c h.next x (name_of r) w (values c.scene es) (aim c.scene r)) (set_run_by d h.next y (name_of r) w z (aim c.scene r))) (values_same es u.1)
        (set_ran_same (name_of r) s w (length es) u.0 (values c.scene es) (values-counted es) (aim c.scene r) q.1))
    effect-same (select os) g k = absurd (true_false (inv k))
    effect-same (loop os) g k = absurd (true_false (inv k))
