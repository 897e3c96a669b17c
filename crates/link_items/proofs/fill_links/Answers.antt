use Rattle.rule_search.proofs.Chain.{chained}
use Rattle.link_items.proofs.Fills as fills
use native.Mathlib.Omega.{arith}
use Rattle.link_items.proofs.fill_links.Goals as goal

pub returns-then-codes-gt-ITEMS_MOST : goal.returns-then-codes-gt-ITEMS_MOST
returns-then-codes-gt-ITEMS_MOST c = fills.links_long c.args.codes.now c.args.args.now c.args.links.now (omega arith)

pub fill_back-requires : goal.fill_back-requires
fill_back-requires c = (omega arith, rw c.fill_chain.ensures (chained c.args.codes.now c.args.args.now))

pub returns : goal.returns
returns c = fills.links-filled c.args.codes.now c.args.args.now c.args.links.now c.fill_back.new.links (omega arith) c.fill_homes.ensures c.fill_starts.ensures c.fill_back.ensures
