-- Mechanism, of proofs alone: what they need to know of the code of statements, whatever statements there are.
use Rattle.std.specs.Prelude.{ℕ, ◌≤◌, ◌≡◌, true, List, [], ◌∷◌, ◌++◌}
use Rattle.base_codes.specs.Codes.{c_end_option, c_if, c_label, c_receive, c_send, c_set_run, c_true}
use Rattle.base_codes.specs.Items.{Item, code_of, i_name, i_text, i_number, i_label, i_mark, i_operator}
use Rattle.base_codes.specs.Sets.{is_alone, is_lead}
use Rattle.spec_grammar.specs.Tree.{Shape, Exp}
use Rattle.parse_code.specs.Code.{code_exp}

-- an item of a leaf that is in none of its expressions, by its code
pub data Spoken : Item → Type 0 where
  of_name : {w : List ℕ} → Spoken (i_name w)
  of_text : {w : List ℕ} → Spoken (i_text w)
  of_number : {n : ℕ} → Spoken (i_number n)
  of_mark : {c : ℕ} → c_true ≤ c → c ≤ c_set_run → (c ≡ c_label → ⊥) → Spoken (i_mark c)
  of_operator : {c o : ℕ} → c_send ≤ c → c ≤ c_receive → Spoken (i_operator c o)

-- an item of a tree around its leaves
pub data Framing : Item → Type 0 where
  of_label : Framing i_label
  of_frame : {c : ℕ} → c_if ≤ c → c ≤ c_end_option → Framing (i_mark c)

-- what a leaf begins with: its own mark alone, a string, a name and a mark, or an expression and a mark
pub data Begun (x : List Item) : Type 0 where
  alone : {m : Item} → x ≡ m ∷ [] → is_alone (code_of m) ≡ true → Begun x
  with_text : {w : List ℕ} {r : List Item} → x ≡ i_text w ∷ r → Begun x
  with_name : {w : List ℕ} {m : Item} {r : List Item} → x ≡ i_name w ∷ m ∷ r → is_lead (code_of m) ≡ true → Begun x
  with_phrase : (s : Shape) (e : Exp s) (m : Item) (r : List Item) → x ≡ code_exp e ++ (m ∷ r) → is_lead (code_of m) ≡ true → Begun x
