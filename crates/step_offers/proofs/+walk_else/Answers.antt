use Rattle.step_offers.proofs.Laws.{one_less, option_below, options_none, options_over, options_found, options_left}
use Rattle.step_offers.specs.Offers.{else_at}
use borrow.Fn.PlainCycle.{is}
use Rattle.step_offers.proofs.+walk_else.Goals as goal

pub returns-then-n-eq0 : goal.returns-then-n-eq0
returns-then-n-eq0 t c = options_none c.args.t.now (else_at c.args.t.now) c.args.m c.args.stop c.args.k c.if-n-eq0.true

pub returns-then-not-is_option : goal.returns-then-not-is_option
returns-then-not-is_option t c = options_over c.args.t.now (else_at c.args.t.now) c.args.m c.args.stop c.args.k (one_less c.if-n-eq0.false) c.is_option.ensures (c.if-not-is_option.true)

pub end_of-e-requires : goal.end_of-e-requires
end_of-e-requires t c = (option_below c.args.t.now c.args.m c.args.stop c.is_option.ensures (c.if-not-is_option.false), c.requires)

pub returns-in-Found : goal.returns-in-Found
returns-in-Found t c = options_found c.args.t.now (else_at c.args.t.now) c.args.m c.args.stop c.args.k (one_less c.if-n-eq0.false) c.is_option.ensures (c.if-not-is_option.false) c.end_of-e.ensures.value c.first_of-f.ensures.value c.else_at-w.ensures c.in-Found.is

pub returns-in-Left : goal.returns-in-Left
returns-in-Left t c = options_left c.args.t.now (else_at c.args.t.now) c.args.m c.args.stop c.args.k (one_less c.if-n-eq0.false) c.is_option.ensures (c.if-not-is_option.false) c.end_of-e.ensures.value c.first_of-f.ensures.value c.else_at-w.ensures c.in-Left.is c.walk_else.ensures
