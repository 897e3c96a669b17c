-- Faults: document 01, "How it moves", "Faults: zero divisor, shift outside 0 to 31, index out of range, a channel number that was never made,
-- wrong field count at run time". The enum `Fault` names them in this order; the one place where they are numbered.
use Rattle.std.specs.Prelude.{ℕ}
use Rattle.base_values.specs.declared.Fault.{Fault}
use Rattle.base_values.specs.declared.Fault.TheVariants.{Divide, Shift, Index, Channel, Fields}

abbrev pub fault_number : Fault → ℕ
fault_number Divide = 1
fault_number Shift = 2
fault_number Index = 3
fault_number Channel = 4
fault_number Fields = 5
