-- HOW LONG A PRINTED TEXT IS: at most 100 bytes. Each byte of a format writes at most one, but a `%d`, whose two bytes write at most 11; and there are at most 4 of them, as many as the rules count.
use Prim.Native.Nat.{ℕ, ◌+◌, ◌*◌, ◌/◌, ◌%◌, ◌≤◌}
use native.Mathlib.Omega.{arith}
use mathlib.Core.Path.{◌≡◌, refl, sym as inv, ap, ◌∙◌}
use mathlib.Core.Bool.{Bool, true, false}
use mathlib.Core.List.{List, [], ◌∷◌, ◌++◌}
use lib.ListN.{length, get_or, length-append}
use lib.IntN.{ℤ, pos, negsuc}
use lib.Dec.{eqb}
use borrow.Author.Tests.{eqb-true}
use Rattle.base_ceilings.specs.Ceilings.{printed_most}
use Rattle.base_bytes.specs.Choice.{pick}
use Rattle.base_bytes.proofs.Tests.{true_false, both_true}
use Rattle.spec_text.specs.Bytes.{is_escape}
use Rattle.spec_text.specs.Spelled.{Between, empty, plain, escape}
use Rattle.spec_text.specs.Formats.{move_of, format_from, format_of}
use Rattle.spec_grammar.specs.Tree.{action, Tree, leaf, express, assign, increment, decrement, send, receive, assert, print, skip, goto, break, timeout, else, run, set_run, select, loop}
use Rattle.spec_text.specs.Formats.{decimal_of, escaped, formatted, opened, counted}
use Rattle.legal_rules.specs.Expressions.{whole}
use Rattle.spec_rules.specs.Statements as statements
use Rattle.spec_rules.specs.Statements.{Place, sense}
use Rattle.legal_rules.specs.Statements.{formats, allowed}
use Rattle.spec_machine.specs.Stage.{Stage}
use Rattle.spec_machine.specs.Arguments.{WorkedOut, all, stopped, values}
use Rattle.spec_machine.specs.Effect.{format, text_by, prints}
use Rattle.write_letters.proofs.Tokens.{digits-short}
use Rattle.agree_machine.proofs.Strings.{Fair, Worded}

-- ---- numbers
decimal_most : (z : ℤ) → length (decimal_of z) ≤ 11
decimal_most (pos n) = omega (arith, digits-short 10 n)
decimal_most (negsuc n) = omega (arith, digits-short 10 (n + 1))

-- ---- what the rules count, byte by byte
none-counted : (n : ℕ) → format_from false n 0 [] ≡ 2 * n
unfolding format_from
none-counted n = omega arith

open_counted : (n : ℕ) → format_from true n 0 [] ≡ 2 * n + 1
unfolding format_from
open_counted n = refl

module _ (n b : ℕ) (s : List ℕ) where
  plain_counted : eqb b 37 ≡ false → format_from false n 0 (b ∷ s) ≡ format_from false (n + 0) 0 s
  unfolding format_from
  plain_counted e = rw e

  opening_counted : eqb b 37 ≡ true → format_from false n 0 (b ∷ s) ≡ format_from true (n + 0) 0 s
  unfolding format_from
  opening_counted e = rw e

  number-counted : eqb b 100 ≡ true → format_from true n 0 (b ∷ s) ≡ format_from false (n + 1) 0 s
  unfolding format_from
  number-counted e = rw e

  percent_counted : eqb b 100 ≡ false → eqb b 37 ≡ true → format_from true n 0 (b ∷ s) ≡ format_from false (n + 0) 0 s
  unfolding format_from
  percent_counted e f = rw (e, f)

  bad-counted : eqb b 100 ≡ false → eqb b 37 ≡ false → format_from true n 0 (b ∷ s) ≡ format_from false (n + 0) 1 s
  unfolding format_from
  bad-counted e f = rw (e, f)

-- a bad `%` is never forgotten
bad_odd : (s : List ℕ) (o : Bool) (n : ℕ) → format_from o n 1 s % 2 ≡ 1
unfolding format_from
bad_odd [] true n = omega arith
bad_odd [] false n = omega arith
bad_odd (b ∷ s) o n = go (eqb (move_of o b) 3) (bad_odd s (eqb (move_of o b) 1) (n + pick (eqb (move_of o b) 2) 1 0))
  where
    go : (c : Bool) → format_from (eqb (move_of o b) 1) (n + pick (eqb (move_of o b) 2) 1 0) 1 s % 2 ≡ 1
        → format_from (eqb (move_of o b) 1) (n + pick (eqb (move_of o b) 2) 1 0) (pick c 1 1) s % 2 ≡ 1
    go true h = h
    go false h = h

escape_plain : (b : ℕ) → is_escape b ≡ true → eqb b 37 ≡ false
escape_plain b h = go (eqb b 37) refl
  where
    go : (c : Bool) → eqb b 37 ≡ c → eqb b 37 ≡ false
    go true e = absurd (true_false (inv h ∙ ap is_escape (eqb-true b 37 e)))
    go false e = e

-- ---- what a format writes, byte by byte
module _ (vs : List ℤ) where
  nothing_written : (was k : ℕ) → format vs was k [] ≡ []
  unfolding format
  nothing_written was k = refl

  module _ (k b : ℕ) (s : List ℕ) where
    plain_written : eqb b 92 ≡ false → eqb b 37 ≡ false → format vs 0 k (b ∷ s) ≡ b ∷ format vs 0 k s
    unfolding format formatted opened counted
    plain_written e f = rw (e, f)

    opening_written : eqb b 92 ≡ false → eqb b 37 ≡ true → format vs 0 k (b ∷ s) ≡ format vs 37 k s
    unfolding format formatted opened counted
    opening_written e f = rw (e, f)

    escape_written : format vs 0 k (92 ∷ b ∷ s) ≡ escaped b ∷ format vs 0 k s
    unfolding format formatted opened counted
    escape_written = refl

    number-written : eqb b 100 ≡ true → format vs 37 k (b ∷ s) ≡ decimal_of (get_or vs k (pos 0)) ++ format vs 0 (k + 1) s
    unfolding format formatted opened counted
    number-written e = rw e

    percent_written : eqb b 100 ≡ false → format vs 37 k (b ∷ s) ≡ b ∷ format vs 0 k s
    unfolding format formatted opened counted
    percent_written e = rw e

  -- what is open behind a `%`, and its byte, which has written nothing yet
  abbrev open_by : Bool → ℕ
  open_by true = 37
  open_by false = 0

  abbrev owed : Bool → ℕ
  owed true = 1
  owed false = 0

  abbrev Most : List ℕ → Type 0
  Most s = (o : Bool) (n k : ℕ) → format_from o n 0 s % 2 ≡ 0 → length (format vs (open_by o) k s) + 9 * n ≤ length s + owed o + 9 * (format_from o n 0 s / 2)

  none_most : Most []
  none_most true n k e = absurd (omega (arith, open_counted n))
  none_most false n k e = omega (arith, none-counted n, ap length (nothing_written 0 k))

  plain_most : (b : ℕ) (s : List ℕ) → eqb b 92 ≡ false → Most s → Most (b ∷ s)
  plain_most b s r x true n k e = go (eqb b 100) (eqb b 37) refl refl
    where
      go : (c d : Bool) → eqb b 100 ≡ c → eqb b 37 ≡ d → length (format vs 37 k (b ∷ s)) + 9 * n ≤ length (b ∷ s) + 1 + 9 * (format_from true n 0 (b ∷ s) / 2)
      go true d f g =
          let y = number-counted n b s f in
          let z = x false (n + 1) (k + 1) (omega arith) in
          omega (arith, ap length (number-written k b s f), length-append (decimal_of (get_or vs k (pos 0))) (format vs 0 (k + 1) s), decimal_most (get_or vs k (pos 0)))
      go false true f g = let y = percent_counted n b s f g in let z = x false (n + 0) k (omega arith) in omega (arith, ap length (percent_written k b s f))
      go false false f g = absurd (omega (arith, bad-counted n b s f g, bad_odd s false (n + 0)))
  plain_most b s r x false n k e = go (eqb b 37) refl
    where
      go : (d : Bool) → eqb b 37 ≡ d → length (format vs 0 k (b ∷ s)) + 9 * n ≤ length (b ∷ s) + 0 + 9 * (format_from false n 0 (b ∷ s) / 2)
      go true g = let y = opening_counted n b s g in let z = x true (n + 0) k (omega arith) in omega (arith, ap length (opening_written k b s r g))
      go false g = let y = plain_counted n b s g in let z = x false (n + 0) k (omega arith) in omega (arith, ap length (plain_written k b s r g))

  escape_most : (b : ℕ) (s : List ℕ) → is_escape b ≡ true → Most s → Most (92 ∷ b ∷ s)
  escape_most b s p x true n k e = absurd (omega (arith, bad-counted n 92 (b ∷ s) refl refl, bad_odd (b ∷ s) false (n + 0)))
  escape_most b s p x false n k e =
      let y = plain_counted n 92 (b ∷ s) refl in
      let v = plain_counted (n + 0) b s (escape_plain b p) in
      let z = x false (n + 0 + 0) k (omega arith) in
      omega (arith, ap length (escape_written k b s))

  written_most : {s : List ℕ} → Between s → Most s
  written_most empty = none_most
  written_most (plain {b = b} {s = s} p q r x) = plain_most b s r (written_most x)
  written_most (escape {b = b} {s = s} p x) = escape_most b s p (written_most x)

  text_most : (at : Place) (w : List ℕ) (n : ℕ) → Fair w → n ≤ printed_most → formats at w n ≡ true → length (format vs 0 0 w) ≤ 100
  unfolding formats
  text_most at w n f h e =
      let p = both_true (eqb (format_of w % 2) 0) (eqb n (format_of w / 2)) e in
      let z = eqb-true (format_of w % 2) 0 p.0 in
      let y = eqb-true n (format_of w / 2) p.1 in
      let x = written_most f.between false 0 0 z in
      let s = f.short in
      omega arith

-- WHAT A LAWFUL STATEMENT PRINTS is short
pub prints-short : {S : Type 0} (c : Stage S) (at : Place) (l f : Bool) (x : Tree action) → allowed at l f x ≡ true → Worded x → length (prints c x) ≤ 100
unfolding allowed
prints-short c at l f (leaf (express e)) h g = omega arith
prints-short c at l f (leaf (assign r e)) h g = omega arith
prints-short c at l f (leaf (increment r)) h g = omega arith
prints-short c at l f (leaf (decrement r)) h g = omega arith
prints-short c at l f (leaf (send mk r es)) h g = omega arith
prints-short c at l f (leaf (receive mk r xs)) h g = omega arith
prints-short c at l f (leaf (assert e)) h g = omega arith
prints-short c at l f (leaf (print w es)) h g = go (values c.scene es)
  where
    go : (vs : WorkedOut) → length (text_by w vs) ≤ 100
    go (all vs) = text_most vs at w (length es) g.0 g.1 (both_true (formats at w (length es)) (statements.all (whole (sense at)) es) h).0
    go (stopped f) = omega arith
prints-short c at l f (leaf skip) h g = omega arith
prints-short c at l f (leaf (goto w)) h g = omega arith
prints-short c at l f (leaf break) h g = omega arith
prints-short c at l f (leaf timeout) h g = omega arith
prints-short c at l f (leaf else) h g = omega arith
prints-short c at l f (leaf (run w es)) h g = omega arith
prints-short c at l f (leaf (set_run r w es)) h g = omega arith
prints-short c at l f (select os) h g = omega arith
prints-short c at l f (loop os) h g = omega arith
