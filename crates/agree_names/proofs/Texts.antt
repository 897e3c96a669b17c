-- FOR EVERY ACCEPTED TEXT: the machine of its tables is that of its model (crate `agree_tables`), where processes begin in numbers as they do in plain states.
use Prim.Native.Nat.{ℕ}
use mathlib.Core.Path.{◌≡◌}
use mathlib.Core.Bool.{true}
use mathlib.Core.List.{List, map}
use lib.IntN.{ℤ}
use Rattle.spec_text.specs.Writing.{tokens_in}
use Rattle.parse_machine.specs.Machine.{place_of}
use Rattle.read_passes.specs.Judging.{tables_text}
use Rattle.read_accepts_proof.specs.Meaning.{Accepts}
use Rattle.legal_rules.specs.Units.{model_lawful}
use Rattle.agree_eval.specs.Names.{codes_at, said_at}
use Rattle.legal_items.proofs.Says.{text_says}
use Rattle.legal_rules.proofs.Lawful.{faultless_lawful}
use Rattle.legal_texts.proofs.Main.{rules}
use Rattle.agree_transfer.specs.Alike.{Alike}
use Rattle.spec_machine.specs.Steps.{machine_of}
use Rattle.step_all.specs.Moving.{machine_in}
use Rattle.agree_tables.proofs.Main.{Holding, machines_alike}
use Rattle.agree_names.proofs.Main.{Begins, text-tabled, text-small, text-begun, text_few}

module _ (t : List ℕ) (a : Accepts t) where
  -- its tree is lawful
  pub text-lawful : model_lawful a.tree ≡ true
  text-lawful =
      faultless_lawful a.gram
      ((rules a.tree (tokens_in t a.parts) a.gram (codes_at t a) (said_at t a) (map place_of a.numbers)
      (text_says t record { parts = a.parts; reads = a.reads; tree = a.tree; gram = a.gram; shallow = a.shallow; numbers = a.numbers; written = a.written; coded = a.coded })).0 a.faultless)

  module _ (B : Begins t a text-lawful) (rest : List ℤ) where
    pub text-alike : Alike (Holding t a text-lawful (text-tabled t a text-lawful B) (text-small t a text-lawful) (λ k b x j n o w. text-begun t a text-lawful k b x j n o w) (λ k b x j n o w. text_few t a text-lawful k b x j n o w) rest)
        (machine_of a.tree) (machine_in (tables_text t))
    text-alike = machines_alike t a text-lawful (text-tabled t a text-lawful B) (text-small t a text-lawful) (λ k b x j n o w. text-begun t a text-lawful k b x j n o w) (λ k b x j n o w. text_few t a text-lawful k b x j n o w) rest
