-- Document 01, "Tempting slips": "letting `else` pass beside a faulting guard; using a new `i` for the index in `c?i,a[i]`", and "a full and an empty channel": worked examples on both
-- sides of a boundary, computed. The stage is a small one of its own: a state has i, a[0], a[1] and c.
use Rattle.std.specs.Prelude.{ℕ, ◌+◌, ◌≡◌, refl, true, false, List, [], ◌∷◌, get_or, set, ℤ, pos, eqb, Result, Ok, Err}
use Rattle.base_bytes.specs.Choice.{pick}
use Rattle.base_bytes.specs.Lists.{same}
use Rattle.base_bytes.specs.Numbers.{nat}
use Rattle.base_values.specs.Operators.{apply_of, divide_of}
use Rattle.base_values.specs.declared.Fault.{Fault}
use Rattle.base_values.specs.declared.Fault.TheVariants.{Divide, Index, Fields}
use Rattle.base_outcome.specs.declared.Taken.TheVariants.{Done, Faulted}
use Rattle.spec_grammar.specs.Marks.{k_bang, k_ask}
use Rattle.spec_grammar.specs.Tree.{Name, Expr, Tree, action, plain, indexed, num, get, binary, choice, into, leaf, express, send, receive, skip, else, select, bare, labelled, end, then, over, option}
use Rattle.spec_machine.specs.Eval.{eval}
use Rattle.spec_machine.specs.Stage.{Stage, Ways}
use Rattle.spec_machine.specs.Messages.{find_from}
use Rattle.spec_machine.specs.Arguments.{values, agrees, targets}
use Rattle.spec_machine.specs.Ready.{ready}
use Rattle.spec_machine.specs.Effect.{deliveries, effect}
use Rattle.spec_machine.specs.Program.{label_in}
use Rattle.spec_machine.specs.Offers.{offers}

abbrev i : Name
i = 105 ∷ []

abbrev a : Name
a = 97 ∷ []

abbrev c : Name
c = 99 ∷ []

-- where a variable begins
abbrev slot : Name → ℕ
slot w = pick (same w i) 0 (pick (same w a) 1 3)

-- channel 1 holds up to `most` messages of 2 fields; one waits, of the values 1 and 7
abbrev small : ℕ → List ℤ → Stage (List ℤ)
small most s =
    record {
      scene =
          record {
            number = λ w. get_or s (slot w) (pos 0);
            size = λ w. pick (same w a) 2 1;
            element = λ w k. get_or s (slot w + k) (pos 0);
            made = λ v. eqb (nat v) 1;
            waiting = λ v. 1;
          };
      constant = λ w. false;
      capacity = λ v. most;
      fields = λ v. 2;
      message = λ v k f. pick (eqb f 0) (pos 1) (pos 7);
      room = λ w. false;
      newest = pos 1;
      store = λ w k v x. set x (slot w + k) v;
      put = λ v k l x. x;
      take = λ v k x. x;
      begin = λ w l x. x;
      go = λ n x. x;
    }

-- i is 0, c is 1
abbrev before : List ℤ
before = pos 0 ∷ pos 0 ∷ pos 0 ∷ pos 1 ∷ []

abbrev ways : Ways
ways = record { next = 9; out = 0; label = λ w. 0 }

-- ## `if::GUARD;skip::else fi`, whose items begin at item 10: the guard has place 12, `else` place 17
abbrev chosen : Expr → Tree action
chosen guard = select (option (then (bare (leaf (express guard))) (then (bare (leaf skip)) end)) (option (then (bare (leaf else)) end) over))

abbrev offered : Expr → List ℕ
offered guard = offers (λ x j. ready (small 1 before) false x) (chosen guard) 10

zero-guard : offered (num 0) ≡ 17 ∷ []
unfolding offers ready eval
zero-guard = refl

one-guard : offered (num 1) ≡ 12 ∷ []
unfolding offers ready eval
one-guard = refl

-- `1/0`: `else` does not pass beside a guard that faults
faulty-guard : offered (binary 17 (num 1) (num 0)) ≡ 12 ∷ []
unfolding offers ready eval apply_of divide_of
faulty-guard = refl

-- ## `c!1,2` where one message waits
full : ready (small 1 before) false (leaf (send k_bang (plain c) (num 1 ∷ num 2 ∷ []))) ≡ false
unfolding ready same
full = refl

free : ready (small 2 before) false (leaf (send k_bang (plain c) (num 1 ∷ num 2 ∷ []))) ≡ true
unfolding ready same
free = refl

-- one argument for two fields: a fault, so executable, and with it taken the state stays
short : (ready (small 1 before) false (leaf (send k_bang (plain c) (num 1 ∷ []))) ≡ true) × (effect (small 1 before) ways before (leaf (send k_bang (plain c) (num 1 ∷ []))) ≡ (Faulted Fields, before))
unfolding ready effect values eval same
short = (refl, refl)

-- ## `c?i,a[i]`: the index is the old i, so a[0] gets 7 and i gets 1
old_index : effect (small 1 before) ways before (leaf (receive k_ask (plain c) (into (plain i) ∷ into (indexed a (get (plain i))) ∷ []))) ≡ (Done, pos 1 ∷ pos 7 ∷ pos 0 ∷ pos 1 ∷ [])
unfolding effect agrees find_from targets deliveries eval same
old_index = refl

-- `c?i,a[2]`: an index out of range changes nothing, i neither
past_end : effect (small 1 before) ways before (leaf (receive k_ask (plain c) (into (plain i) ∷ into (indexed a (num 2)) ∷ []))) ≡ (Faulted Index, before)
unfolding effect agrees find_from targets deliveries eval same
past_end = refl

-- ## "`&&`, `||` and the conditional evaluate only what they need", and give 0 or 1
abbrev worth : Expr → Result ℤ Fault
worth e = eval (small 1 before).scene e

abbrev faulty : Expr
faulty = binary 17 (num 1) (num 0)

lazily : (worth (binary 1 (num 2) faulty) ≡ Ok (pos 1)) × (worth (binary 2 (num 0) faulty) ≡ Ok (pos 0)) × (worth (choice (num 5) (num 2) faulty) ≡ Ok (pos 2))
    × (worth (choice (num 0) faulty (num 3)) ≡ Ok (pos 3))
unfolding eval
lazily = (refl, refl, refl, refl)

-- the left operand's fault comes first
left-first : (worth (binary 2 faulty (num 0)) ≡ Err Divide) × (worth (binary 14 faulty (get (indexed a (num 2)))) ≡ Err Divide)
    × (worth (binary 14 (get (indexed a (num 2))) faulty) ≡ Err Index)
unfolding eval apply_of divide_of same
left-first = (refl, refl, refl)

-- ## `skip;i:skip`, whose items begin at item 10: a `goto i` leads to the second `skip`, behind its label
labelled_place : label_in i (then (bare (leaf skip)) (then (labelled i (leaf skip)) end)) 10 0 ≡ 13
unfolding same
labelled_place = refl
