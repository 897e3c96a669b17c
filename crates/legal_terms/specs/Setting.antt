-- Bridge, for `read_legal`, `legal_read` (crate `legal_texts`).
-- What searches over the items find for the names of a body's statements, in terms of its place in the tree (specs/Statements.antt of `spec_rules`). The statements stand from item `from` to before item `to`;
-- `xs` are the items, `cs` their codes, `vs` what their tokens say, `hs` the bodies that they are in, h the number of this body (specs/Homes.antt of `rule_sheets`).
use Rattle.std.specs.Prelude.{ℕ, ◌≤◌, ◌<◌, ◌≡◌, true, false, not, List, length, get_or, ltb}
use Rattle.base_codes.specs.Codes.{c_argument, c_end_option, c_message, c_text}
use Rattle.base_bytes.specs.Lists.{same}
use Rattle.spec_text.specs.Names.{pid}
use Rattle.rule_search.specs.Sets.{among}
use Rattle.rule_search.specs.Search.{find, lookup, count}
use Rattle.rule_item.specs.Rules.{is_array, is_chan, global_of, body_of}
use Rattle.spec_grammar.specs.Tree.{Name}
use Rattle.base_codes.specs.Items.{Item, i_name}
use Rattle.spec_rules.specs.Senses.{Sense, variable, constant, procedure, unknown, is_unknown, sense_in, sense_of}
use Rattle.spec_rules.specs.Statements.{Place}
use Rattle.legal_terms.specs.Says.{item_at}

-- item d is what a name of this sense finds; an unknown one finds no declaration of a variable or an mtype name
abbrev pub Finds : List ℕ → ℕ → Sense → Type 0
Finds cs d (variable chan array) = (among 14 (get_or cs d 0) ≡ true) × (is_chan cs d ≡ chan) × (is_array cs d ≡ array)
Finds cs d constant = get_or cs d 0 ≡ c_message
Finds cs d (procedure n) = among 13 (get_or cs d 0) ≡ true
Finds cs d unknown = (among 14 (get_or cs d 0) ≡ false) × (get_or cs d 0 ≡ c_message → ⊥)

-- the same for the proctype of a run, over the whole model, with how many parameters it has
abbrev pub Runs : List ℕ → List ℕ → ℕ → Sense → Type 0
Runs cs hs g (variable chan array) = among 13 (get_or cs g 0) ≡ false
Runs cs hs g constant = among 13 (get_or cs g 0) ≡ false
Runs cs hs g (procedure n) = (among 13 (get_or cs g 0) ≡ true) × (count cs hs 6 (body_of cs g) 0 (length cs) ≡ n)
Runs cs hs g unknown = among 13 (get_or cs g 0) ≡ false

pub record Setting (xs : List Item) (cs vs hs : List ℕ) (h from to : ℕ) (at : Place) : Type 0 where
  -- the statements are in the body, and what stands in statements alone stands nowhere else in it: strings, marks of arguments and of statements, labels, selections
  pub home : (j : ℕ) → from ≤ j → j < to → get_or hs j 0 ≡ h
  pub string_inside : (j : ℕ) → j < length cs → get_or hs j 0 ≡ h → get_or cs j 0 ≡ c_text → (from ≤ j) × (j < to)
  pub mark_inside : (j : ℕ) → j < length cs → get_or hs j 0 ≡ h → c_argument ≤ get_or cs j 0 → get_or cs j 0 ≤ c_end_option → (from ≤ j) × (j < to)
  -- a name among the statements: the declaration before it that it means
  pub finds : (j : ℕ) (w : Name) → from ≤ j → j < to → item_at xs j ≡ i_name w → same w pid ≡ false → Finds cs (lookup cs vs hs (get_or vs j 0) h j) (sense_of at.locals at.globals w)
  -- a local hides a proctype
  pub hidden : (j : ℕ) (w : Name) → from ≤ j → j < to → item_at xs j ≡ i_name w → same w pid ≡ false → ltb (find cs vs hs 1 (get_or vs j 0) h j) j ≡ not (is_unknown (sense_in at.locals w))
  pub runs : (j : ℕ) (w : Name) → from ≤ j → j < to → item_at xs j ≡ i_name w → same w pid ≡ false → Runs cs hs (global_of cs vs hs j) (sense_in at.model w)
