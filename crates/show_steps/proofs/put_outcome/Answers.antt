use Rattle.base_pens.proofs.Pen as pens
use Rattle.show_steps.proofs.put_outcome.Goals as goal

pub returns-in-Done : goal.returns-in-Done
returns-in-Done c = rw c.in-Done.is (pens.then_puts _ _ _ _ _ c.put_deeds-a.ensures c.put_printed.ensures)

pub returns-in-Refuted : goal.returns-in-Refuted
returns-in-Refuted c = rw c.in-Refuted.is c.put_all.ensures

pub returns-in-Faulted : goal.returns-in-Faulted
returns-in-Faulted c = rw c.in-Faulted.is c.put_fault.ensures

pub returns-in-Idle : goal.returns-in-Idle
returns-in-Idle c = rw c.in-Idle.is (pens.none-put _)
