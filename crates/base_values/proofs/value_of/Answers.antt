use Rattle.base_values.proofs.Wrapping.{under-fits, under_narrows, under-read}
use Rattle.std.proofs.Common.{rules}
use Rattle.base_values.proofs.value_of.Goals as goal

pub overflow_sub-result : goal.overflow_sub-result
overflow_sub-result c = under-fits c.args.u (search rules) (search rules)

pub overflow_cast-result-else-u-lt2147483648-2 : goal.overflow_cast-result-else-u-lt2147483648-2
overflow_cast-result-else-u-lt2147483648-2 c = under_narrows c.args.u (search rules) (search rules)

pub returns-else-u-lt2147483648 : goal.returns-else-u-lt2147483648
returns-else-u-lt2147483648 c = under-read c.args.u (search rules) (search rules)
