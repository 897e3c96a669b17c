use native.Mathlib.Omega.{arith}
use Rattle.parse_items.proofs.Laws.{spread_law}
use Rattle.parse_machine.specs.Machine.{symbol_of, place_of, count_of_lem}
use Rattle.parse_items.proofs.spread.Goals as goal

pub loop-i-preserved : goal.loop-i-preserved
loop-i-preserved c = (spread_law symbol_of c.args.work.now c.args.codes.now c.loop-i.codes c.loop-i.i c.symbol_of.result (omega arith) (omega arith) c.symbol_of.ensures c.loop-i.invariant.0, spread_law place_of c.args.work.now c.args.tokens.now c.loop-i.tokens c.loop-i.i c.token_of.result (omega arith) (omega arith) c.token_of.ensures c.loop-i.invariant.1, spread_law count_of_lem c.args.work.now c.args.sizes.now c.loop-i.sizes c.loop-i.i c.size_of.result (omega arith) (omega arith) c.size_of.ensures c.loop-i.invariant.2)
