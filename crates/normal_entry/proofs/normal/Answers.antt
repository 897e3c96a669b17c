use Rattle.write_texts.specs.Normal.{normal_of}
use mathlib.Core.Path.{◌≡◌, refl, ◌∙◌}
use borrow.Author.Rules.{rules}
use Rattle.std.specs.Prelude.{Err}
use Rattle.normal_entry.proofs.Laws as laws
use Rattle.normal_entry.proofs.normal.Goals as goal

pub returns-in_err-read : goal.returns-in_err-read
returns-in_err-read c =
    let all = laws.text_refused c.args.text.now _ _ c.read.result refl c.read.ensures.value c.read.ensures.tables_after normal_of _ c.args.out.now c.in_err-read.was in
    let e : c.from_residual.result ≡ Err c.in_err-read.field-0.0 = search rules in
    record { value = e ∙ all.0; out_after = all.1 }

pub lay-requires : goal.lay-requires
lay-requires c = laws.text-room c.args.text.now _ _ c.read.result refl c.read.ensures.value c.read.ensures.tables_after _ c.in_ok-read.was c.written.ensures

pub returns : goal.returns
returns c = let all = laws.text-written c.args.text.now _ _ c.read.result refl c.read.ensures.value c.read.ensures.tables_after normal_of _ c.args.out.now _ c.lay.result c.in_ok-read.was c.written.ensures c.lay.ensures.value c.lay.ensures.out_after in record { value = all.0; out_after = all.1 }
