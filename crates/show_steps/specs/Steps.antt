-- Mechanism, held to the specification by `offer-shown`, `step-shown`, `outcome-shown`, `taken-shown`, `instead_shown` and `process-shown` (crate `agree_account`).
-- The lines of steps and of processes, read from the tables `t` of a model and the numbers of states.
use Rattle.std.specs.Prelude.{ℕ, ◌-◌, ◌*◌, Bool, true, false, List, [], ◌∷◌, ◌++◌, take, replicate, ℤ, pos, eqb, ltb}
use Rattle.base_ceilings.specs.Ceilings.{processes_most, items_most, state_room, print_room}
use Rattle.base_bytes.specs.Lists.{piece}
use Rattle.base_bytes.specs.Choice.{pick}
use Rattle.base_kinds.specs.Kinds.{bytes}
use Rattle.base_codes.specs.Codes.{c_end_body}
use Rattle.base_outcome.specs.declared.Taken.{Taken}
use Rattle.base_outcome.specs.declared.Taken.TheVariants.{Done, Refuted, Faulted, Idle}
use Rattle.spec_text.specs.Formats.{digits_of}
use Rattle.table_layout.specs.Access.{code_of}
use Rattle.state_layout.specs.Layout.{unit_of, place_of}
use Rattle.spec_machine.specs.Machine.{Step, offered}
use Rattle.step_all.specs.Moving.{machine_in, processes}
use Rattle.step_prints.specs.Printing as paper
use Rattle.step_prints.specs.Printing.{printed_at}
use Rattle.show_words.specs.Words.{title_in}
use Rattle.show_state.specs.Listing.{locals_in}
use Rattle.show_statement.specs.Statements.{seen_in, length_from}
use Rattle.show_deeds.specs.Deeds.{deeds_in}
use Rattle.spec_account.specs.Steps.{tab, printed_text, fault_text}

-- line i of a trail asks for the k-th step of process p
abbrev pub row_in : ℕ → ℕ → ℕ → List ℕ
row_in i p k = digits_of i ++ (tab ∷ (digits_of p ++ (tab ∷ (digits_of k ++ tab ∷ []))))

-- so many steps are listed, always more than there are
abbrev pub listed_most : ℕ
listed_most = processes_most * items_most

-- one of them is a step of process p
unfoldable pub any_of : ℕ → List Step → Bool
any_of p [] = false
any_of p (x ∷ xs) = pick (eqb x.process p) true (any_of p xs)

abbrev pub none_by : Bool → List ℕ
none_by true = []
none_by false = bytes "    nothing\n"

abbrev pub paper_of : List ℕ → paper.Pen
paper_of text = paper.puts text (paper.pen (replicate print_room 0) 0)

-- the first n numbers of a state, with zeros behind the last
abbrev pub padded : ℕ → List ℤ → List ℤ
padded n s = take n (s ++ replicate n (pos 0))

module _ (t : List ℕ) where
  abbrev pub title_at : List ℤ → ℕ → List ℕ
  title_at s p = title_in t (unit_of s p)

  -- an offered step
  abbrev pub offer_in : List ℤ → Step → List ℕ
  offer_in s x = digits_of x.process ++ (tab ∷ (digits_of x.number ++ (tab ∷ (title_at s x.process ++ (tab ∷ (seen_in t x.place ++ 10 ∷ []))))))

  -- a step of a trail, where the normal text has `whole` bytes
  abbrev pub step_in : List ℤ → ℕ → ℕ → Step → List ℕ
  step_in s whole i x = row_in i x.process x.number ++ (title_at s x.process ++ (tab ∷ (digits_of (whole - length_from t x.place) ++ (tab ∷ (seen_in t x.place ++ 10 ∷ [])))))

  -- what came of it, where it led from one state to another and printed so
  abbrev pub outcome_in : List ℤ → List ℤ → Step → List ℕ → Taken → List ℕ
  outcome_in before after x printed Done = deeds_in t before after x.process x.place ++ printed_text printed
  outcome_in before after x printed Refuted = bytes "\tassert: the assertion is 0\n"
  outcome_in before after x printed (Faulted f) = fault_text f
  outcome_in before after x printed Idle = []

  -- what a step prints, on a paper of the room that is lent
  abbrev pub printed_in : List ℤ → Step → List ℕ
  printed_in s x = piece (paper_of (printed_at t s x.process x.place)).bytes 0 (paper_of (printed_at t s x.process x.place)).at

  -- the step and what came of it, told by the numbers before it as they were kept
  abbrev pub taken_in : List ℤ → List ℤ → ℕ → ℕ → Step → Taken → List ℕ
  taken_in before after whole i x r = step_in before whole i x ++ outcome_in (padded state_room before) after x (printed_in before x) r

  -- a step that process p was offered
  abbrev pub other_in : ℕ → Step → List ℕ
  other_in p x = pick (eqb x.process p) (bytes "    " ++ (digits_of x.number ++ (tab ∷ (seen_in t x.place ++ 10 ∷ [])))) []

  unfoldable pub others_in : ℕ → List Step → List ℕ
  others_in p [] = []
  others_in p (x ∷ xs) = other_in p x ++ others_in p xs

  -- the steps that are offered, as far as they are listed
  abbrev pub listed_in : List ℤ → List Step
  listed_in s = take listed_most (offered (machine_in t) s)

  abbrev pub instead_in : List ℤ → ℕ → List ℕ
  instead_in s p =
      pick (ltb p (processes s))
      (bytes "  process " ++ (digits_of p ++ (bytes " was offered instead:\n" ++ (others_in p (listed_in s) ++ none_by (any_of p (listed_in s))))))
      (bytes "  there is no process " ++ (digits_of p ++ 10 ∷ []))

  -- process p: where it stands, and its variables
  abbrev pub standing_in : ℕ → List ℕ
  standing_in q = pick (eqb (code_of t q) c_end_body) (bytes " ended") (bytes " at " ++ seen_in t q)

  abbrev pub process_in : List ℤ → ℕ → List ℕ
  process_in s p = bytes "process " ++ (digits_of p ++ (32 ∷ (title_at s p ++ (standing_in (place_of s p) ++ (10 ∷ locals_in t s p)))))
