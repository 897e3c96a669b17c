use Rattle.show_waits.specs.Waits.{stuck_from}
use Rattle.show_waits.proofs.Laws.{stuck_none, item_stuck, item-not, item_options}
use Rattle.step_offers.proofs.Laws.{one_less, option_below, options_none, options_over, options_found, options_left}
use Rattle.show_waits.proofs.+walk_item_walk_options.Goals as goal

pub walk_item-returns-then-d-eq0 : goal.walk_item-returns-then-d-eq0
walk_item-returns-then-d-eq0 t c = stuck_none c.args.t.now c.args.s.now c.args.q c.args.stop c.args.k c.if-d-eq0.true

pub walk_item-returns-then-is_selection : goal.walk_item-returns-then-is_selection
walk_item-returns-then-is_selection t c = item_options c.args.t.now c.args.s.now c.args.q c.args.stop c.args.k (one_less c.if-d-eq0.false) c.is_selection.ensures c.if-is_selection.true c.link.ensures.value c.least-e.ensures c.walk_options.ensures

pub walk_item-returns-then-is_stuck : goal.walk_item-returns-then-is_stuck
walk_item-returns-then-is_stuck t c = item_stuck c.args.t.now c.args.s.now c.args.q c.args.stop c.args.k (one_less c.if-d-eq0.false) c.is_selection.ensures c.if-is_selection.false c.is_stuck.ensures c.if-is_stuck.true c.pick_one.ensures

pub walk_item-returns-else-is_stuck : goal.walk_item-returns-else-is_stuck
walk_item-returns-else-is_stuck t c = item-not c.args.t.now c.args.s.now c.args.q c.args.stop c.args.k (one_less c.if-d-eq0.false) c.is_selection.ensures c.if-is_selection.false c.is_stuck.ensures c.if-is_stuck.false

pub walk_options-returns-then-n-eq0 : goal.walk_options-returns-then-n-eq0
walk_options-returns-then-n-eq0 t c = options_none c.args.t.now (λ x y. stuck_from c.args.t.now c.args.s.now c.args.d x y) c.args.m c.args.stop c.args.k c.if-n-eq0.true

pub walk_options-returns-then-not-is_option : goal.walk_options-returns-then-not-is_option
walk_options-returns-then-not-is_option t c = options_over c.args.t.now (λ x y. stuck_from c.args.t.now c.args.s.now c.args.d x y) c.args.m c.args.stop c.args.k (one_less c.if-n-eq0.false) c.is_option.ensures (c.if-not-is_option.true)

pub walk_options-end_of-e-requires : goal.walk_options-end_of-e-requires
walk_options-end_of-e-requires t c = (option_below c.args.t.now c.args.m c.args.stop c.is_option.ensures (c.if-not-is_option.false), c.requires)

pub walk_options-returns-in-Found : goal.walk_options-returns-in-Found
walk_options-returns-in-Found t c = options_found c.args.t.now (λ x y. stuck_from c.args.t.now c.args.s.now c.args.d x y) c.args.m c.args.stop c.args.k (one_less c.if-n-eq0.false) c.is_option.ensures (c.if-not-is_option.false) c.end_of-e.ensures.value c.first_of.ensures.value c.walk_item-w.ensures c.in-Found.is

pub walk_options-returns-in-Left : goal.walk_options-returns-in-Left
walk_options-returns-in-Left t c = options_left c.args.t.now (λ x y. stuck_from c.args.t.now c.args.s.now c.args.d x y) c.args.m c.args.stop c.args.k (one_less c.if-n-eq0.false) c.is_option.ensures (c.if-not-is_option.false) c.end_of-e.ensures.value c.first_of.ensures.value c.walk_item-w.ensures c.in-Left.is c.walk_options.ensures
