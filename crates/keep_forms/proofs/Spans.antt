-- Units by their places: behind what is_unit one stands its body, and behind that its end, before another is_unit.
use Prim.Native.Nat.{ℕ, zero, suc, ◌+◌, ◌-◌, ◌≤◌, ◌<◌}
use mathlib.Core.Path.{◌≡◌, refl, sym, ap, subst, ◌∙◌}
use mathlib.Core.Bool.{Bool, true, false, not}
use mathlib.Core.List.{List}
use native.Mathlib.Omega.{arith}
use native.Mathlib.Decide.{ℕ_discrete}
use lib.ListN.{length, get_or}
use lib.Dec.{eqb, ltb}
use borrow.Author.Tests.{eqb-true, eq-eqb, ne_eqb, ltb-true, lt-ltb}
use Rattle.base_codes.specs.Codes.{c_active_many, c_argument, c_assign, c_body, c_channel, c_constant, c_end, c_end_body, c_end_option, c_fi, c_label, c_od, c_parameter, c_set_run}
use Rattle.base_codes.specs.Sets.{within as in_range, is_unit, is_part, is_alone, is_lead}
use Rattle.base_bytes.specs.Choice.{pick, both, either}
use Rattle.base_bytes.proofs.Tests.{both_true, true_false, pick-says}
use Rattle.keep_forms.specs.Forms.{Form, leaf, joins, refers, inner, step, fits, form_at, Formed}

-- ---- what a test says
pick_other : (b c : Bool) → pick b true c ≡ true → b ≡ false → c ≡ true
pick_other true c e h = absurd (true_false h)
pick_other false c e h = e

-- each part of the test, by itself
pub record Says (s : Form) (c : ℕ) : Type 0 where
  pub unit : is_unit c ≡ true → s.zone ≡ 0
  pub body : c ≡ c_body → s.zone ≡ 1
  pub end : c ≡ c_end_body → (s.zone ≡ 2) × (s.depth ≡ 0) × (s.loops ≡ 0)
  pub within : inner c ≡ true → s.zone ≡ 2
  pub parameter : c ≡ c_parameter → s.zone ≡ 1
  pub joined : either (joins c) (eqb c c_label) ≡ true → s.part ≡ true
  pub referred : refers c ≡ true → s.ref ≡ true
  pub aimed : is_part c ≡ false → s.aim ≡ true → either (eqb c c_assign) (eqb c c_set_run) ≡ true
  pub closing : either (eqb c c_fi) (either (eqb c c_od) (eqb c c_end_option)) ≡ true → 0 < s.depth
  pub looping : c ≡ c_od → 0 < s.loops
  pub channel : c ≡ c_channel → s.near ≡ 2
  pub many : c ≡ c_active_many → s.near ≡ 4
  pub option : either (is_alone c) (either (leaf c) s.part) ≡ false → not (in_range 1 2 s.stage) ≡ true
  pub led : either (either (is_part c) (is_lead c)) (either (not s.part) (either s.args s.aim)) ≡ false → 2 < s.stage → (c ≡ c_label) × (s.stage ≡ 3)
  pub asked : is_part c ≡ false → s.args ≡ true → pick (eqb c c_end) (not s.part) (both (in_range c_argument c_constant c) s.part) ≡ true

module _ (s : Form) (c : ℕ) (h : fits s c ≡ true) where
  pub says : Says s c
  unfolding fits
  says =
      let a = both_true _ _ h in
      let b = both_true _ _ a.1 in
      let d = both_true _ _ b.1 in
      let e = both_true _ _ d.1 in
      let f = both_true _ _ e.1 in
      let g = both_true _ _ f.1 in
      let i = both_true _ _ g.1 in
      let j = both_true _ _ i.1 in
      let k = both_true _ _ j.1 in
      let l = both_true _ _ k.1 in
      let m = both_true _ _ l.1 in
      let p = both_true _ _ m.1 in
      let n = both_true _ _ p.1 in
      let o = both_true _ _ n.1 in
      record {
        unit = λ z. eqb-true s.zone 0 (pick-says (is_unit c) (eqb s.zone 0) a.0 z);
        body = λ z. eqb-true s.zone 1 (pick-says (eqb c c_body) (eqb s.zone 1) b.0 (eq-eqb c c_body z));
        end = λ z.
            let q = pick-says (eqb c c_end_body) (both (eqb s.zone 2) (both (eqb s.depth 0) (eqb s.loops 0))) d.0 (eq-eqb c c_end_body z) in
            let r = both_true (eqb s.zone 2) (both (eqb s.depth 0) (eqb s.loops 0)) q in
            let t = both_true (eqb s.depth 0) (eqb s.loops 0) r.1 in
            (eqb-true s.zone 2 r.0, eqb-true s.depth 0 t.0, eqb-true s.loops 0 t.1);
        within = λ z. eqb-true s.zone 2 (pick-says (inner c) (eqb s.zone 2) e.0 z);
        parameter = λ z. eqb-true s.zone 1 (pick-says (eqb c c_parameter) (eqb s.zone 1) f.0 (eq-eqb c c_parameter z));
        joined = λ z. pick-says (either (joins c) (eqb c c_label)) s.part g.0 z;
        referred = λ z. pick-says (refers c) s.ref i.0 z;
        aimed = λ z y. pick-says s.aim _ (pick_other (is_part c) _ j.0 z) y;
        closing = λ z. ltb-true 0 s.depth (pick-says (either (eqb c c_fi) (either (eqb c c_od) (eqb c c_end_option))) (ltb 0 s.depth) k.0 z);
        looping = λ z. ltb-true 0 s.loops (pick-says (eqb c c_od) (ltb 0 s.loops) l.0 (eq-eqb c c_od z));
        channel = λ z. eqb-true s.near 2 (pick-says (eqb c c_channel) (eqb s.near 2) m.0 (eq-eqb c c_channel z));
        many = λ z. eqb-true s.near 4 (pick-says (eqb c c_active_many) (eqb s.near 4) p.0 (eq-eqb c c_active_many z));
        option = λ z. pick_other (either (is_alone c) (either (leaf c) s.part)) _ n.0 z;
        led = λ z y.
            let q = pick-says (ltb 2 s.stage) (both (eqb c c_label) (eqb s.stage 3)) (pick_other (either (either (is_part c) (is_lead c)) (either (not s.part) (either s.args s.aim))) _ o.0 z) (lt-ltb 2 s.stage y) in
            let r = both_true (eqb c c_label) (eqb s.stage 3) q in
            (eqb-true c c_label r.0, eqb-true s.stage 3 r.1);
        asked = λ z y. pick-says s.args _ (pick_other (is_part c) _ o.1 z) y;
      }

-- ---- one item more
module _ (cs : List ℕ) (j : ℕ) where
  zone_next : (form_at cs (suc j)).zone ≡ pick (is_unit (get_or cs j 0)) 1 (pick (eqb (get_or cs j 0) c_body) 2 (pick (eqb (get_or cs j 0) c_end_body) 0 (form_at cs j).zone))
  unfolding form_at step
  zone_next = refl

  pub zone_begun : is_unit (get_or cs j 0) ≡ true → (form_at cs (suc j)).zone ≡ 1
  zone_begun e = zone_next ∙ rw e

  pub zone_kept : is_unit (get_or cs j 0) ≡ false → (get_or cs j 0 ≡ c_body → ⊥) → (get_or cs j 0 ≡ c_end_body → ⊥) → (form_at cs (suc j)).zone ≡ (form_at cs j).zone
  zone_kept e f g = zone_next ∙ rw (e, ne_eqb (get_or cs j 0) c_body f, ne_eqb (get_or cs j 0) c_end_body g)

  pub zone_body : get_or cs j 0 ≡ c_body → (form_at cs (suc j)).zone ≡ 2
  zone_body e = zone_next ∙ rw e

-- ---- from a place in a unit to its end
module _ (cs : List ℕ) (F : Formed cs) where
  pub said : (j : ℕ) → j < length cs → Says (form_at cs j) (get_or cs j 0)
  said j h = says (form_at cs j) (get_or cs j 0) (F.each j h)

  no_unit : (j : ℕ) → j < length cs → 1 ≤ (form_at cs j).zone → is_unit (get_or cs j 0) ≡ false
  no_unit j h g = go (is_unit (get_or cs j 0)) refl
    where
      go : (b : Bool) → is_unit (get_or cs j 0) ≡ b → b ≡ false
      go true e = absurd (let z = (said j h).unit e in omega arith)
      go false e = refl

  -- the end of the unit that item j - 1 is in
  abbrev pub Closed : ℕ → ℕ → Type 0
  Closed j e = (j ≤ e) × (e < length cs) × (get_or cs e 0 ≡ c_end_body) × ((i : ℕ) → j ≤ i → i < e → (is_unit (get_or cs i 0) ≡ false) × (get_or cs i 0 ≡ c_end_body → ⊥) × (1 ≤ (form_at cs i).zone))

  until_end : (n j : ℕ) → j + n ≡ length cs → 1 ≤ (form_at cs j).zone → (e : ℕ) × Closed j e
  until_end zero j q h = absurd (let z : (form_at cs j).zone ≡ 0 = ap (λ k. (form_at cs k).zone) (let y : j ≡ length cs = omega arith in y) ∙ F.shut in omega arith)
  until_end (suc n) j q h = go (ℕ_discrete (get_or cs j 0) c_end_body) (ℕ_discrete (get_or cs j 0) c_body) (λ g. until_end n (suc j) (omega arith) g)
    where
      b : is_unit (get_or cs j 0) ≡ false
      b = no_unit j (omega arith) h

      more : (get_or cs j 0 ≡ c_end_body → ⊥) → (e : ℕ) × Closed (suc j) e → (e : ℕ) × Closed j e
      more n r =
          let e = r.0 in
          let c = r.1 in
          let le = c.0 in
          (e, (omega arith, c.1, c.2, λ i g k. at i g k (ℕ_discrete i j) c.3))
        where
          at : (i : ℕ) → j ≤ i → {e : ℕ} → i < e → Dec (i ≡ j) → ((i : ℕ) → suc j ≤ i → i < e → (is_unit (get_or cs i 0) ≡ false) × (get_or cs i 0 ≡ c_end_body → ⊥) × (1 ≤ (form_at cs i).zone))
              → (is_unit (get_or cs i 0) ≡ false) × (get_or cs i 0 ≡ c_end_body → ⊥) × (1 ≤ (form_at cs i).zone)
          at i g k (yes z) f = subst (λ i. (is_unit (get_or cs i 0) ≡ false) × (get_or cs i 0 ≡ c_end_body → ⊥) × (1 ≤ (form_at cs i).zone)) (sym z) (b, n, h)
          at i g k (no z) f = f i (omega arith) k

      go : Dec (get_or cs j 0 ≡ c_end_body) → Dec (get_or cs j 0 ≡ c_body) → (1 ≤ (form_at cs (suc j)).zone → (e : ℕ) × Closed (suc j) e) → (e : ℕ) × Closed j e
      go (yes e) d r = (j, (omega arith, omega arith, e, λ i g k. absurd (omega arith)))
      go (no e) (yes d) r = more e (r (let z = zone_body cs j d in omega arith))
      go (no e) (no d) r = more e (r (let z = zone_kept cs j b d e in omega arith))

  -- ---- units
  pub unit-closed : (u : ℕ) → u < length cs → is_unit (get_or cs u 0) ≡ true → (e : ℕ) × Closed (suc u) e
  unit-closed u h b = until_end (length cs - suc u) (suc u) (omega arith) (let z = zone_begun cs u b in omega arith)
