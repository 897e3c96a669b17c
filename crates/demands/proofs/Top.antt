-- THE THEOREM: all that is promised of the entries, with no hypothesis.
use Rattle.demands.specs.Demand2.{Demand2}
use Rattle.demands.specs.Top.{Demands}
use Rattle.demands.proofs.Lent.{cases}
use Rattle.demands.proofs.Reading.{reading}
use Rattle.demands.proofs.Moving.{starting, moving, faults_apart}
use Rattle.demands.proofs.Trails.{acceptance}
use Rattle.demands.proofs.InWords.{in_words}
use Rattle.demands.proofs.Demand1.{demand1}
use Rattle.demands.proofs.Demand3.{demand3}

demand2 : Demand2
demand2 = record { reader = reading; cases = cases; start = starting; moves = moving; faults_apart = faults_apart; trails = acceptance; in_words = in_words }

pub demands : Demands
demands = record { demand1 = demand1; demand2 = demand2; demand3 = demand3 }
