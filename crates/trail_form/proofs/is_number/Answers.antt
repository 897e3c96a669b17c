use borrow.Author.Tests.{eq-eqb, ne_eqb, le-leb, lt-leb}
use lib.ListN.{length}
use Rattle.trail_form.proofs.is_number.Goals as goal

pub returns-then-digits-x : goal.returns-then-digits-x
returns-then-digits-x c = rw (← c.digits.ensures, ne_eqb c.digits.result (length c.args.x.now) c.if-digits-x.true)

pub returns-then-x-lt1 : goal.returns-then-x-lt1
returns-then-x-lt1 c = rw (← c.digits.ensures, eq-eqb c.digits.result (length c.args.x.now) c.if-digits-x.false, lt-leb 1 (length c.args.x.now) c.if-x-lt1.true)

pub returns-then-x-gt-DIGITS_MOST : goal.returns-then-x-gt-DIGITS_MOST
returns-then-x-gt-DIGITS_MOST c = rw (← c.digits.ensures, eq-eqb c.digits.result (length c.args.x.now) c.if-digits-x.false, le-leb 1 (length c.args.x.now) c.if-x-lt1.false, lt-leb (length c.args.x.now) 5 c.if-x-gt-DIGITS_MOST.true)

pub returns-then-x-eq1 : goal.returns-then-x-eq1
returns-then-x-eq1 c = rw (← c.digits.ensures, eq-eqb c.digits.result (length c.args.x.now) c.if-digits-x.false, le-leb 1 (length c.args.x.now) c.if-x-lt1.false, le-leb (length c.args.x.now) 5 c.if-x-gt-DIGITS_MOST.false, eq-eqb (length c.args.x.now) 1 c.if-x-eq1.true)

pub returns : goal.returns
returns c = rw (← c.digits.ensures, eq-eqb c.digits.result (length c.args.x.now) c.if-digits-x.false, le-leb 1 (length c.args.x.now) c.if-x-lt1.false, le-leb (length c.args.x.now) 5 c.if-x-gt-DIGITS_MOST.false, ne_eqb (length c.args.x.now) 1 c.if-x-eq1.false)
