use Rattle.base_bytes.specs.Lists.{same}
use Rattle.spec_text.specs.Find.{find}
use Rattle.text_spellings.proofs.Laws as laws
use native.Mathlib.Omega.{arith}
use Rattle.text_spellings.proofs.place_of_two.Goals as goal

pub returns-in-31868 : goal.returns-in-31868
unfolding find same
returns-in-31868 c = let e = laws.two-split c.args.a c.args.b 124 124 c.ranges.b.fits (omega arith) c.in-31868.is in rw (e.0, e.1)

pub returns-in-9766 : goal.returns-in-9766
unfolding find same
returns-in-9766 c = let e = laws.two-split c.args.a c.args.b 38 38 c.ranges.b.fits (omega arith) c.in-9766.is in rw (e.0, e.1)

pub returns-in-15677 : goal.returns-in-15677
unfolding find same
returns-in-15677 c = let e = laws.two-split c.args.a c.args.b 61 61 c.ranges.b.fits (omega arith) c.in-15677.is in rw (e.0, e.1)

pub returns-in-8509 : goal.returns-in-8509
unfolding find same
returns-in-8509 c = let e = laws.two-split c.args.a c.args.b 33 61 c.ranges.b.fits (omega arith) c.in-8509.is in rw (e.0, e.1)

pub returns-in-15421 : goal.returns-in-15421
unfolding find same
returns-in-15421 c = let e = laws.two-split c.args.a c.args.b 60 61 c.ranges.b.fits (omega arith) c.in-15421.is in rw (e.0, e.1)

pub returns-in-15933 : goal.returns-in-15933
unfolding find same
returns-in-15933 c = let e = laws.two-split c.args.a c.args.b 62 61 c.ranges.b.fits (omega arith) c.in-15933.is in rw (e.0, e.1)

pub returns-in-15420 : goal.returns-in-15420
unfolding find same
returns-in-15420 c = let e = laws.two-split c.args.a c.args.b 60 60 c.ranges.b.fits (omega arith) c.in-15420.is in rw (e.0, e.1)

pub returns-in-15934 : goal.returns-in-15934
unfolding find same
returns-in-15934 c = let e = laws.two-split c.args.a c.args.b 62 62 c.ranges.b.fits (omega arith) c.in-15934.is in rw (e.0, e.1)

pub returns-in-14906 : goal.returns-in-14906
unfolding find same
returns-in-14906 c = let e = laws.two-split c.args.a c.args.b 58 58 c.ranges.b.fits (omega arith) c.in-14906.is in rw (e.0, e.1)

pub returns-in-11582 : goal.returns-in-11582
unfolding find same
returns-in-11582 c = let e = laws.two-split c.args.a c.args.b 45 62 c.ranges.b.fits (omega arith) c.in-11582.is in rw (e.0, e.1)

pub returns-in-11051 : goal.returns-in-11051
unfolding find same
returns-in-11051 c = let e = laws.two-split c.args.a c.args.b 43 43 c.ranges.b.fits (omega arith) c.in-11051.is in rw (e.0, e.1)

pub returns-in-11565 : goal.returns-in-11565
unfolding find same
returns-in-11565 c = let e = laws.two-split c.args.a c.args.b 45 45 c.ranges.b.fits (omega arith) c.in-11565.is in rw (e.0, e.1)

pub returns-in-8481 : goal.returns-in-8481
unfolding find same
returns-in-8481 c = let e = laws.two-split c.args.a c.args.b 33 33 c.ranges.b.fits (omega arith) c.in-8481.is in rw (e.0, e.1)

pub returns-in-16191 : goal.returns-in-16191
unfolding find same
returns-in-16191 c = let e = laws.two-split c.args.a c.args.b 63 63 c.ranges.b.fits (omega arith) c.in-16191.is in rw (e.0, e.1)

pub returns-in_default : goal.returns-in_default
unfolding find
returns-in_default c = simp (laws.two-one, laws.two-differ c.args.a c.args.b 124 124 c.in_default.in_default-own.rest.0.0.0.0.0.0.0.0.0.0.0.0.0.1, laws.two-differ c.args.a c.args.b 38 38 c.in_default.in_default-own.rest.0.0.0.0.0.0.0.0.0.0.0.0.1, laws.two-differ c.args.a c.args.b 61 61 c.in_default.in_default-own.rest.0.0.0.0.0.0.0.0.0.0.0.1, laws.two-differ c.args.a c.args.b 33 61 c.in_default.in_default-own.rest.0.0.0.0.0.0.0.0.0.0.1, laws.two-differ c.args.a c.args.b 60 61 c.in_default.in_default-own.rest.0.0.0.0.0.0.0.0.0.1, laws.two-differ c.args.a c.args.b 62 61 c.in_default.in_default-own.rest.0.0.0.0.0.0.0.0.1, laws.two-differ c.args.a c.args.b 60 60 c.in_default.in_default-own.rest.0.0.0.0.0.0.0.1, laws.two-differ c.args.a c.args.b 62 62 c.in_default.in_default-own.rest.0.0.0.0.0.0.1, laws.two-differ c.args.a c.args.b 58 58 c.in_default.in_default-own.rest.0.0.0.0.0.1, laws.two-differ c.args.a c.args.b 45 62 c.in_default.in_default-own.rest.0.0.0.0.1, laws.two-differ c.args.a c.args.b 43 43 c.in_default.in_default-own.rest.0.0.0.1, laws.two-differ c.args.a c.args.b 45 45 c.in_default.in_default-own.rest.0.0.1, laws.two-differ c.args.a c.args.b 33 33 c.in_default.in_default-own.rest.0.1, laws.two-differ c.args.a c.args.b 63 63 c.in_default.in_default-own.rest.1)
