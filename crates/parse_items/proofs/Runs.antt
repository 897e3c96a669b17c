-- Runs of the machine: what a turn of the loop does to them, and the entry. Over plain variables. Assumes nothing.
use Prim.Native.Nat.{ℕ, suc, ◌-◌, ◌≤◌, ◌<◌}
use native.Mathlib.Omega.{arith}
use mathlib.Core.Path.{◌≡◌, refl, sym, ap, subst, ◌∙◌}
use mathlib.Core.List.{List, [], ◌∷◌, map}
use lib.ListN.{length, take, drop, set, length-set, drop_of_length-le}
use lib.Seq.{length-take-le, drop-cons, get_or-set_same}
use borrow.Author.Tests.{lt-ltb, le-ltb, le-leb, lt-leb, leb-true, leb-false}
use mathlib.Core.Bool.{Bool, true, false}
use lib.Dec.{leb}
use Rattle.std.specs.Prelude.{Option, None, Some}
use Rattle.std.specs.Bool.{then_some}
use Rattle.std.proofs.lemmas.Option.{none-some, same_Some}
use Rattle.parse_machine.proofs.Ranges.{Ranged, items_in_range}
use Rattle.base_ceilings.specs.Ceilings.{items_most, tokens_most}
use Rattle.base_kinds.specs.Kinds.{Token, kind_of}
use Rattle.parse_grammar.specs.Judge.{judge}
use Rattle.parse_machine.specs.Depth.{too_deep}
use Rattle.parse_machine.specs.Items.{AllProper, meant}
use Rattle.parse_machine.proofs.Judge.{same_judgement}
use Rattle.parse_machine.specs.Machine.{Outcome, done, refused, spent, Next, Config, step, next, run, start, machine, most_stack}
use Rattle.parse_machine.specs.Answer.{items, refuse, judged, parsed}
use Rattle.parse_items.specs.Parse.{Parses}
use Rattle.parse_items.specs.Views.{conf, Stepped, Ran, Spread}
use Rattle.parse_items.specs.declared.State.{State}
use Rattle.parse_items.specs.declared.Step.{Step}
use Rattle.parse_items.specs.declared.Step.TheVariants.{Go, Stop, Done, Spent}
use Rattle.parse_items.specs.declared.Halt.{Halt}
use Rattle.parse_items.specs.declared.Halt.TheVariants.{Accepted, Stopped, Exhausted}
use Rattle.parse_items.specs.declared.Parsed.TheVariants.{Items, Refused}

one_left : (l : List ℕ) (j x : ℕ) → j < length l → length l ≡ suc j → drop j (set l j x) ≡ x ∷ []
one_left l j x h e =
    drop-cons (set l j x) j 0 (rw (length-set l j x) h)
    ∙ rw (get_or-set_same l j x 0 h, drop_of_length-le (set l j x) {i = suc j} (rw (length-set l j x) (omega arith)))

pub start_law : (ks l o : List ℕ) (f : ℕ) → length l ≡ most_stack → run ks f start ≡ run ks f (conf (set l (most_stack - 1) 141) o (record { sp = (most_stack - 1); pos = 0; n = 0 }))
start_law ks l o f h = ap (λ (s : List ℕ). run ks f (record { st = s; pos = 0; out = [] })) (sym (one_left l (most_stack - 1) 141 (omega arith) h))

turn : (ks : List ℕ) (f g : ℕ) (c : Config) → f ≡ suc g → run ks f c ≡ next (run ks g) (step ks c)
unfolding run
turn ks f g c h = ap (λ (n : ℕ). run ks n c) h

pub dry : (ks : List ℕ) (f : ℕ) (c : Config) → f ≤ 0 → run ks f c ≡ spent
unfolding run
dry ks f c h =
    let e : f ≡ 0 = omega arith in
    ap (λ (n : ℕ). run ks n c) e

module _ (ks a o a' o' : List ℕ) (s : State) (f g : ℕ) (res : Outcome) (x : Step) (h : f ≡ suc g) (r : res ≡ run ks f (conf a o s)) (k : Stepped (step ks (conf a o s)) x a' o') where
  at_variant : (y : Step) → x ≡ y → Stepped (step ks (conf a o s)) y a' o'
  at_variant y e = subst (λ (z : Step). Stepped (step ks (conf a o s)) z a' o') e k

  after : (n : Next) → step ks (conf a o s) ≡ n → res ≡ next (run ks g) n
  after n e = r ∙ turn ks f g (conf a o s) h ∙ ap (next (run ks g)) e

  pub go_run : (s' : State) → x ≡ Go s' → (s'.sp ≤ most_stack) × (s'.n ≤ items_most) × (s'.pos ≤ tokens_most) × (res ≡ run ks g (conf a' o' s'))
  go_run s' e = let w = at_variant (Go s') e in (w.1, w.2, w.3, after _ w.0)

  pub stop_run : (i : ℕ) → x ≡ Stop i → res ≡ refused i
  stop_run i e = after _ (at_variant (Stop i) e)

  pub done_run : (n : ℕ) → x ≡ Done n → (res ≡ done (take n o')) × (n ≤ items_most)
  done_run n e = let w = at_variant (Done n) e in (after _ w.0, w.1)

  pub spent_run : x ≡ Spent → res ≡ spent
  spent_run e = after _ (at_variant Spent e)

-- ---- the place that is too deep, or none
by_some : (b : Bool) (x k : ℕ) → then_some b x ≡ Some k → (b ≡ true) × (k ≡ x)
by_some true x k e = (refl, sym (same_Some x k e))
by_some false x k e = absurd (none-some k e)

by_none : (b : Bool) (x : ℕ) → then_some b x ≡ None → b ≡ false
by_none true x e = absurd (none-some x (sym e))
by_none false x e = refl

module _ (ks : List ℕ) {d : Option ℕ} (ed : d ≡ then_some (leb (too_deep ks) (length ks)) (too_deep ks)) where
  pub deep_is : (k : ℕ) → d ≡ Some k → k ≡ too_deep ks
  deep_is k e = (by_some (leb (too_deep ks) (length ks)) (too_deep ks) k (sym ed ∙ e)).1

  pub deep-inside : (k : ℕ) → d ≡ Some k → k ≤ length ks
  deep-inside k e = rw (deep_is k e) (leb-true (too_deep ks) (length ks) (by_some (leb (too_deep ks) (length ks)) (too_deep ks) k (sym ed ∙ e)).0)

  pub none_deep : d ≡ None → length ks < too_deep ks
  none_deep e = leb-false (too_deep ks) (length ks) (by_none (leb (too_deep ks) (length ks)) (too_deep ks) (sym ed ∙ e))

pub stop-inside : (ks o : List ℕ) {x : Halt} → length ks ≤ tokens_most → Ran (machine ks) x o → (i : ℕ) → x ≡ Stopped i → i ≤ length ks
stop-inside ks o g k i e = subst (Ranged ks) (subst (λ (z : Halt). Ran (machine ks) z o) e k) (items_in_range ks g)

-- ---- the entry
means_law : (ks : List ℕ) (room : ℕ) (ts : List Token) → map kind_of ts ≡ ks → AllProper ts → length ts ≤ tokens_most → items_most ≤ room → meant ts (parsed ks room) ≡ judge ts
means_law ks room ts e proper short enough = rw (← e) (same_judgement ts proper short room enough)

module _ (ks codes tokens sizes : List ℕ) (room : ℕ) where
  pub refusing : (k i : ℕ) → parsed ks room ≡ refuse k i → Parses ks room (Refused k i) codes codes tokens tokens sizes sizes
  refusing k i e = record { answered = rw e; codes_are = rw e; tokens_are = rw e; sizes_are = rw e; means = means_law ks room }

  pub no_room : room < items_most → parsed ks room ≡ refuse 7 0
  unfolding parsed
  no_room h = simp (lt-ltb room items_most h)

  module _ (h : items_most ≤ room) where
    pub too_long : tokens_most < length ks → parsed ks room ≡ refuse 2 tokens_most
    unfolding parsed
    too_long g = simp (le-ltb room items_most h, lt-ltb tokens_most (length ks) g)

    module _ (g : length ks ≤ tokens_most) (d : ℕ) (ed : d ≡ too_deep ks) (x : Halt) (o : List ℕ) (k : Ran (machine ks) x o) where
      is_judged : parsed ks room ≡ judged d (length ks) (machine ks)
      unfolding parsed
      is_judged = simp (le-ltb room items_most h, le-ltb tokens_most (length ks) g, ← ed)

      variant : (y : Halt) → x ≡ y → Ran (machine ks) y o
      variant y e = subst (λ (z : Halt). Ran (machine ks) z o) e k

      pub deep-first : (i : ℕ) → x ≡ Stopped i → d ≤ i → parsed ks room ≡ refuse 2 d
      deep-first i e l = is_judged ∙ ap (judged d (length ks)) (variant (Stopped i) e) ∙ simp (le-leb d i l)

      pub fault-first : (i : ℕ) → x ≡ Stopped i → i < d → parsed ks room ≡ refuse 3 i
      fault-first i e l = is_judged ∙ ap (judged d (length ks)) (variant (Stopped i) e) ∙ simp (lt-leb d i l)

      pub deep-text : (n : ℕ) → x ≡ Accepted n → d ≤ length ks → parsed ks room ≡ refuse 2 d
      deep-text n e l = is_judged ∙ ap (judged d (length ks)) (variant (Accepted n) e).0 ∙ simp (le-leb d (length ks) l)

      pub exhausted : x ≡ Exhausted → parsed ks room ≡ refuse 6 0
      exhausted e = is_judged ∙ ap (judged d (length ks)) (variant Exhausted e)

      pub small : (n : ℕ) → x ≡ Accepted n → n ≤ items_most
      small n e = (variant (Accepted n) e).1

      module _ (n : ℕ) (e : x ≡ Accepted n) (l : length ks < d) (lo : length o ≡ items_most) where
        accepted : parsed ks room ≡ items (take n o)
        accepted = is_judged ∙ ap (judged d (length ks)) (variant (Accepted n) e).0 ∙ simp (lt-leb d (length ks) l)

        pub accepting : (codes' tokens' sizes' : List ℕ) → Spread n o codes codes' tokens tokens' sizes sizes' → Parses ks room (Items n) codes codes' tokens tokens' sizes sizes'
        accepting codes' tokens' sizes' w =
            let t : length (take n o) ≡ n = length-take-le n o (omega (arith, small n e)) in
            record {
              answered = rw (accepted, t);
              codes_are = rw (accepted, t) w.codes_are;
              tokens_are = rw (accepted, t) w.tokens_are;
              sizes_are = rw (accepted, t) w.sizes_are;
              means = means_law ks room;
            }
