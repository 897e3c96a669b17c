use Rattle.spec_text.specs.Formats.{digits_of}
use Rattle.base_kinds.specs.Kinds.{bytes}
use Rattle.base_ceilings.specs.Ceilings.{processes_most, channels_most}
use Rattle.base_pens.proofs.Pen as pens
use Rattle.show_waits.proofs.Laws as laws
use Rattle.show_waits.proofs.put_ceiling.Goals as goal

pub returns-then-processes-lt-PROCESSES_MOST : goal.returns-then-processes-lt-PROCESSES_MOST
returns-then-processes-lt-PROCESSES_MOST c = laws.channels-put c.args.s.now _ _ _ c.processes.ensures.value c.if-processes-lt-PROCESSES_MOST.true (pens.then_puts (digits_of channels_most) (bytes " channels are the most\n") _ _ _ c.put_count-a.ensures c.put_all.ensures)

pub returns-else-processes-lt-PROCESSES_MOST : goal.returns-else-processes-lt-PROCESSES_MOST
returns-else-processes-lt-PROCESSES_MOST c = laws.processes-put c.args.s.now _ _ _ c.processes.ensures.value c.if-processes-lt-PROCESSES_MOST.false (pens.then_puts (digits_of processes_most) (bytes " processes are the most\n") _ _ _ c.put_count-b.ensures c.put_all-else-processes-lt-PROCESSES_MOST.ensures)
