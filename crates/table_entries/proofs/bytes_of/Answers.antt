use Rattle.table_entries.proofs.Sources as laws
use Rattle.table_entries.proofs.bytes_of.Goals as goal

pub returns-then-c-eq-NAME : goal.returns-then-c-eq-NAME
returns-then-c-eq-NAME c = laws.bytes-name c.args.text.now c.args.c c.args.from c.args.to c.if-c-eq-NAME.true c.clip.ensures

pub returns-then-c-eq-TEXT : goal.returns-then-c-eq-TEXT
returns-then-c-eq-TEXT c = laws.bytes_string c.args.text.now c.args.c c.args.from c.args.to c.if-c-eq-NAME.false c.if-c-eq-TEXT.true c.saturating_sub.ensures c.clip-then-c-eq-TEXT.ensures

pub returns : goal.returns
returns c = laws.bytes-none c.args.text.now c.args.c c.args.from c.args.to c.if-c-eq-NAME.false c.if-c-eq-TEXT.false
