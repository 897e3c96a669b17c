use Rattle.show_printed.proofs.Laws as laws
use Rattle.show_printed.proofs.put_coded.Goals as goal

pub returns : goal.returns
returns c = laws.coded-put _ _ _ _ _ _ _ _ c.put-q.ensures c.put-r.ensures c.hex_digit.ensures c.put-s.ensures c.hex_digit-2.ensures c.put.ensures
