-- Mechanism, of contracts alone: no theorem holds it to the specification; how the arrays of the code show the machine's state.
-- How the arrays of the code show the machine's state: the stack is what lies from `sp` on, the items are the first n of the output.
use Rattle.std.specs.Prelude.{ℕ, ◌≤◌, ◌≡◌, List, ◌++◌, map, take, drop}
use Rattle.base_ceilings.specs.Ceilings.{items_most, tokens_most}
use Rattle.parse_machine.specs.Machine.{Config, Outcome, done, refused, spent, Next, go, stop, symbol_of, place_of, count_of_lem, most_stack}
use Rattle.parse_items.specs.declared.State.{State}
use Rattle.parse_items.specs.declared.Step.{Step}
use Rattle.parse_items.specs.declared.Step.TheVariants.{Go, Stop, Done, Spent}
use Rattle.parse_items.specs.declared.Halt.{Halt}
use Rattle.parse_items.specs.declared.Halt.TheVariants.{Accepted, Stopped, Exhausted}

abbrev pub conf : List ℕ → List ℕ → State → Config
conf a o s = record { st = drop s.sp a; pos = s.pos; out = take s.n o }

abbrev pub Stepped : Next → Step → List ℕ → List ℕ → Type 0
Stepped x (Go s) a o = (x ≡ go (conf a o s)) × (s.sp ≤ most_stack) × (s.n ≤ items_most) × (s.pos ≤ tokens_most)
Stepped x (Stop i) a o = x ≡ stop (refused i)
Stepped x (Done n) a o = (x ≡ stop (done (take n o))) × (n ≤ items_most)
Stepped x Spent a o = x ≡ stop spent

abbrev pub Ran : Outcome → Halt → List ℕ → Type 0
Ran x (Accepted n) o = (x ≡ done (take n o)) × (n ≤ items_most)
Ran x (Stopped i) o = x ≡ refused i
Ran x Exhausted o = x ≡ spent

-- the first n items in three arrays
pub record Spread (n : ℕ) (work codes codes' tokens tokens' sizes sizes' : List ℕ) : Type 0 where
  pub codes_are : codes' ≡ map symbol_of (take n work) ++ drop n codes
  pub tokens_are : tokens' ≡ map place_of (take n work) ++ drop n tokens
  pub sizes_are : sizes' ≡ map count_of_lem (take n work) ++ drop n sizes
