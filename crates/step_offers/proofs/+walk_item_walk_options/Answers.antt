use Rattle.step_offers.proofs.Laws.{one_less, option_below, options_none, options_over, options_found, options_left, offers-none, item-ready, item-not, item_found, item-left, item_else}
use Rattle.step_offers.specs.Offers.{offers_from}
use Rattle.step_offers.proofs.+walk_item_walk_options.Goals as goal

pub walk_item-returns-then-d-eq0 : goal.walk_item-returns-then-d-eq0
walk_item-returns-then-d-eq0 t c = offers-none c.args.t.now c.args.s.now c.args.p c.args.late c.args.q c.args.stop c.args.k c.if-d-eq0.true

pub walk_item-returns-in-Found : goal.walk_item-returns-in-Found
walk_item-returns-in-Found t c = item_found c.args.t.now c.args.s.now c.args.p c.args.late c.args.q c.args.stop c.args.k (one_less c.if-d-eq0.false) c.is_selection.ensures c.if-is_selection.true c.link.ensures.value c.least-e.ensures c.walk_options-w.ensures c.in-Found.is

pub walk_item-returns-then-l-k : goal.walk_item-returns-then-l-k
walk_item-returns-then-l-k t c = item_else c.args.t.now c.args.s.now c.args.p c.args.late c.args.q c.args.stop c.args.k (one_less c.if-d-eq0.false) c.is_selection.ensures c.if-is_selection.true c.link.ensures.value c.least-e.ensures c.walk_options-w.ensures c.in-Left.is c.if-l-k.true c.walk_else.ensures

pub walk_item-returns-else-l-k : goal.walk_item-returns-else-l-k
walk_item-returns-else-l-k t c = item-left c.args.t.now c.args.s.now c.args.p c.args.late c.args.q c.args.stop c.args.k (one_less c.if-d-eq0.false) c.is_selection.ensures c.if-is_selection.true c.link.ensures.value c.least-e.ensures c.walk_options-w.ensures c.in-Left.is c.if-l-k.false

pub walk_item-returns-then-ready : goal.walk_item-returns-then-ready
walk_item-returns-then-ready t c = item-ready c.args.t.now c.args.s.now c.args.p c.args.late c.args.q c.args.stop c.args.k (one_less c.if-d-eq0.false) c.is_selection.ensures c.if-is_selection.false c.ready.ensures c.if-ready.true c.pick_one.ensures

pub walk_item-returns-else-ready : goal.walk_item-returns-else-ready
walk_item-returns-else-ready t c = item-not c.args.t.now c.args.s.now c.args.p c.args.late c.args.q c.args.stop c.args.k (one_less c.if-d-eq0.false) c.is_selection.ensures c.if-is_selection.false c.ready.ensures c.if-ready.false

pub walk_options-returns-then-n-eq0 : goal.walk_options-returns-then-n-eq0
walk_options-returns-then-n-eq0 t c = options_none c.args.t.now (λ x y. offers_from c.args.t.now c.args.s.now c.args.p c.args.late c.args.d x y) c.args.m c.args.stop c.args.k c.if-n-eq0.true

pub walk_options-returns-then-not-is_option : goal.walk_options-returns-then-not-is_option
walk_options-returns-then-not-is_option t c = options_over c.args.t.now (λ x y. offers_from c.args.t.now c.args.s.now c.args.p c.args.late c.args.d x y) c.args.m c.args.stop c.args.k (one_less c.if-n-eq0.false) c.is_option.ensures (c.if-not-is_option.true)

pub walk_options-end_of-e-requires : goal.walk_options-end_of-e-requires
walk_options-end_of-e-requires t c = (option_below c.args.t.now c.args.m c.args.stop c.is_option.ensures (c.if-not-is_option.false), c.requires)

pub walk_options-returns-in-Found : goal.walk_options-returns-in-Found
walk_options-returns-in-Found t c = options_found c.args.t.now (λ x y. offers_from c.args.t.now c.args.s.now c.args.p c.args.late c.args.d x y) c.args.m c.args.stop c.args.k (one_less c.if-n-eq0.false) c.is_option.ensures (c.if-not-is_option.false) c.end_of-e.ensures.value c.first_of.ensures.value c.walk_item-w.ensures c.in-Found.is

pub walk_options-returns-in-Left : goal.walk_options-returns-in-Left
walk_options-returns-in-Left t c = options_left c.args.t.now (λ x y. offers_from c.args.t.now c.args.s.now c.args.p c.args.late c.args.d x y) c.args.m c.args.stop c.args.k (one_less c.if-n-eq0.false) c.is_option.ensures (c.if-not-is_option.false) c.end_of-e.ensures.value c.first_of.ensures.value c.walk_item-w.ensures c.in-Left.is c.walk_options.ensures
