use mathlib.Core.Path.{sym, ap}
use Rattle.step_entry.specs.Entries.{took_by}
use Rattle.step_entry.proofs.Laws as laws
use Rattle.step_entry.proofs.move_on.Goals as goal

pub returns-in-Done : goal.returns-in-Done
returns-in-Done c = let all = laws.move_answer c.args.w.now c.args.state.now c.args.x c.args.printed.now c.print_at-n.new.out c.print_at-n.result c.print_at-n.ensures c.advance-r.result c.advance-r.new.s c.advance-r.ensures _ (sym (ap (λ z. took_by z c.print_at-n.result) c.in-Done.is)) in record { value = all.0; state_after = all.1.0; printed_after = all.1.1 }

pub returns-in-Refuted : goal.returns-in-Refuted
returns-in-Refuted c = let all = laws.move_answer c.args.w.now c.args.state.now c.args.x c.args.printed.now c.print_at-n.new.out c.print_at-n.result c.print_at-n.ensures c.advance-r.result c.advance-r.new.s c.advance-r.ensures _ (sym (ap (λ z. took_by z c.print_at-n.result) c.in-Refuted.is)) in record { value = all.0; state_after = all.1.0; printed_after = all.1.1 }

pub returns-in-Faulted : goal.returns-in-Faulted
returns-in-Faulted c = let all = laws.move_answer c.args.w.now c.args.state.now c.args.x c.args.printed.now c.print_at-n.new.out c.print_at-n.result c.print_at-n.ensures c.advance-r.result c.advance-r.new.s c.advance-r.ensures _ (sym (ap (λ z. took_by z c.print_at-n.result) c.in-Faulted.is)) in record { value = all.0; state_after = all.1.0; printed_after = all.1.1 }

pub returns-in-Idle : goal.returns-in-Idle
returns-in-Idle c = let all = laws.move_answer c.args.w.now c.args.state.now c.args.x c.args.printed.now c.print_at-n.new.out c.print_at-n.result c.print_at-n.ensures c.advance-r.result c.advance-r.new.s c.advance-r.ensures _ (sym (ap (λ z. took_by z c.print_at-n.result) c.in-Idle.is)) in record { value = all.0; state_after = all.1.0; printed_after = all.1.1 }
