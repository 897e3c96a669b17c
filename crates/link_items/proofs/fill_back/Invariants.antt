use Rattle.link_items.specs.Links.{filled_back}
use lib.ListN.{length}
use mathlib.Core.Path.{◌≡◌}
use Rattle.link_items.proofs.fill_back.Given as goal

abbrev pub invariant-loop-j : goal.invariant-loop-j
invariant-loop-j l = filled_back l.codes l.args l.homes l.starts l.j l.links ≡ filled_back l.codes l.args l.homes l.starts (length l.codes) l.initial.links
