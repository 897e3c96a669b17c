-- Top: a statement about the entries, over the specification.
-- THE ONE DOOR. All that is promised of the entries is `Demands`, proved as `demands` (proofs/Top.antt) with no hypothesis: every text, tree, list of lent numbers or bytes and trail is bound in it.
-- What cannot be reached from here is not claimed. What a name of an entry's definition (`read_of`, `ran_of` ..) has to do with the code is that entry's contract.
use Rattle.demands.specs.Demand1.{Demand1}
use Rattle.demands.specs.Demand2.{Demand2}
use Rattle.demands.specs.Demand3.{Demand3}

pub record Demands : Type 0 where
  -- refuses with the number and place of document 01's table, and leaves what is lent as it says
  pub demand1 : Demand1
  -- accepts exactly the edition's texts, and moves as the machine does
  pub demand2 : Demand2
  -- one normal text, never longer, equal exactly when the trees are, read back to the same tables, with the same answers
  pub demand3 : Demand3
