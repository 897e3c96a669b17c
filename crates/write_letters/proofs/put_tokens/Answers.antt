use Rattle.write_letters.proofs.Tokens as laws
use mathlib.Core.Path.{sym, refl, ◌∙◌}
use Rattle.write_letters.proofs.put_tokens.Goals as goal

pub loop-v-init : goal.loop-v-init
loop-v-init c = laws.tokens-start c.args.t.now c.args.toks.now _

pub loop-v-preserved : goal.loop-v-preserved
loop-v-preserved c = laws.tokens-more c.args.t.now c.args.toks.now c.loop-v.v-index _ _ _ _ _ c.loop-v-test.true refl c.kind_by-k.ensures c.put_token-q.ensures ∙ c.loop-v.invariant

pub returns : goal.returns
returns c = sym (laws.tokens_end c.args.t.now c.args.toks.now c.loop-v.v-index c.loop-v.k _ c.loop-v-test.false) ∙ c.loop-v.invariant
