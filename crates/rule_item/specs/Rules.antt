-- Mechanism, held to the specification by `all-faults` (crate `legal_texts`).
-- The rules, each the number of the fault that an item has by it, 0 for none: document 01, "Names", "Ceilings" and rows 2, 4 and 5 of "What is answered".
-- `cs` are the items, `vs` what their tokens say, `hs` the bodies that they are in, `ss` where expressions start, `ts` how high they are: no place of the text.
use Rattle.std.specs.Prelude.{ℕ, zero, suc, ◌+◌, ◌-◌, ◌/◌, ◌%◌, ◌*◌, Bool, true, false, List, length, get_or, eqb, ltb, leb}
use Rattle.base_ceilings.specs.Ceilings.{array_most, capacity_most, fields_most, height_most}
use Rattle.base_codes.specs.Codes.{c_chan, c_decrement, c_do, c_else, c_fi, c_if, c_increment, c_index, c_into, c_len, c_message, c_od, c_option, c_receive, c_run, c_send, c_set_run, c_size, c_target, c_number, c_text}
use Rattle.base_bytes.specs.Choice.{pick, both, either}
use Rattle.rule_search.specs.Sets.{among}
use Rattle.rule_search.specs.Search.{find, lookup, last, opener, count}
use Rattle.base_codes.specs.Sets.{within, rule_of}

-- ## variables
-- `[size]`: a number and `size` follow
unfoldable pub is_array : List ℕ → ℕ → Bool
is_array cs d = both (eqb (get_or cs (d + 1) 0) c_number) (eqb (get_or cs (d + 2) 0) c_size)

-- the type, which stands before the last local, global or group, is `chan`
unfoldable pub is_chan : List ℕ → ℕ → Bool
is_chan cs d = eqb (get_or cs (last cs 3 d - 2) 0) c_chan

-- ## references
-- what a reference is for, by the item behind it: 1 a channel operand (len, send, receive), 2 a target (target, increment, decrement), 3 received (into),
-- 0 an operand
unfoldable pub role_of : ℕ → ℕ
role_of c = pick (either (eqb c c_len) (within c_send c_receive c)) 1 (pick (either (eqb c c_target) (within c_increment c_decrement c)) 2 (pick (eqb c c_into) 3 0))

-- `_pid` and mtype names: 4 where they may not stand, 5 with an index
abbrev pub bad_plain : Bool → Bool → ℕ
bad_plain may indexed = pick may (pick indexed 5 0) 4

-- a scalar with an index, or an array without one: 5
abbrev pub bad_index : Bool → Bool → ℕ
bad_index indexed array = pick indexed (pick array 0 5) (pick array 5 0)

-- "A channel operand is a chan variable": 4 whatever its index
unfoldable pub bad_variable : List ℕ → ℕ → ℕ → Bool → ℕ
bad_variable cs d role indexed = pick (eqb role 1) (pick (is_chan cs d) (bad_index indexed (is_array cs d)) 4) (bad_index indexed (is_array cs d))

module _ (cs vs hs : List ℕ) where
  -- a reference by its name's item m, in body h, for a role: `_pid` is an operand only, an mtype name an operand or received, and any other name that is no
  -- variable declared before is unknown or of the wrong kind: 4
  unfoldable pub bad_use : ℕ → ℕ → ℕ → Bool → ℕ
  bad_use m h role indexed =
      pick (eqb (get_or vs m 0) 0) (bad_plain (eqb role 0) indexed)
      (pick (eqb (get_or cs (lookup cs vs hs (get_or vs m 0) h m) 0) c_message) (bad_plain (either (eqb role 0) (eqb role 3)) indexed)
      (pick (among 14 (get_or cs (lookup cs vs hs (get_or vs m 0) h m) 0)) (bad_variable cs (lookup cs vs hs (get_or vs m 0) h m) role indexed) 4))

  -- plain, index
  unfoldable pub bad_ref : List ℕ → ℕ → ℕ
  bad_ref ss j = bad_use (get_or ss j 0) (get_or hs j 0) (role_of (get_or cs (j + 1) 0)) (eqb (get_or cs j 0) c_index)

  -- ## declarations
  -- "each declared once": a name that is `_pid`, or declared before in the same space (set 1: names; 2: labels): 4
  unfoldable pub bad_twice : ℕ → ℕ → ℕ
  bad_twice set j = pick (either (eqb (get_or vs (j - 1) 0) 0) (ltb (find cs vs hs set (get_or vs (j - 1) 0) (get_or hs j 0) j) j)) 4 0

  -- a declared value that is a name: an mtype name declared before (a local hides it): else 4
  unfoldable pub bad_named : ℕ → ℕ
  bad_named j = pick (eqb (get_or cs (lookup cs vs hs (get_or vs (j - 1) 0) (get_or hs j 0) (j - 1)) 0) c_message) 0 4

  -- ## goto and run
  -- a label of the same body, anywhere in it: else 4
  unfoldable pub bad_goto : ℕ → ℕ
  bad_goto j = pick (ltb (find cs vs hs 2 (get_or vs (j - 1) 0) (get_or hs j 0) (length cs)) (length cs)) 0 4

  -- the first global declaration of the name of item m in the whole text ("proctypes and labels may come later")
  unfoldable pub global_of : ℕ → ℕ
  global_of m = find cs vs hs 1 (get_or vs m 0) 0 (length cs)

  -- no local of that name, and that declaration is a proctype: else 4
  unfoldable pub bad_run : ℕ → ℕ
  bad_run j =
      pick (ltb (find cs vs hs 1 (get_or vs (j - 1) 0) (get_or hs j 0) (j - 1)) (j - 1)) 4
      (pick (among 13 (get_or cs (global_of (j - 1)) 0)) 0 4)

-- the body of the unit that item g begins; 0 for none
unfoldable pub body_of : List ℕ → ℕ → ℕ
body_of cs g = pick (ltb g (length cs)) (g + 1) 0

module _ (cs vs hs : List ℕ) where
  -- ## argument counts
  -- k arguments for the run at item o: as many as the proctype has parameters, else 5; not judged where the name is bad
  unfoldable pub bad_passing : ℕ → ℕ → ℕ
  bad_passing o k = pick (eqb (bad_run cs vs hs o) 0) (pick (eqb k (count cs hs 6 (body_of cs (global_of cs vs hs (o - 1))) 0 (length cs))) 0 5) 0

  -- k arguments for what item o began: printf as many as its `%d`; "more than 4 message arguments" (send, receive); run, set-run
  unfoldable pub bad_count : ℕ → ℕ → ℕ
  bad_count o k =
      pick (eqb (get_or cs o 0) c_text) (pick (eqb k (get_or vs o 0 / 2)) 0 5)
      (pick (eqb (get_or cs o 0) c_send) (pick (ltb fields_most k) 5 0)
      (pick (eqb (get_or cs o 0) c_receive) (pick (ltb fields_most k) 5 0)
      (pick (eqb (get_or cs o 0) c_run) (bad_passing o k)
      (pick (eqb (get_or cs o 0) c_set_run) (bad_passing o k) 0))))

  unfoldable pub bad_end : ℕ → ℕ
  bad_end j = bad_count (opener cs j) (count cs hs 5 (get_or hs j 0) (opener cs j) j)

-- ## selections
-- `break` outside every `do`: 5. Inside one, more `do` than `od` stand before it in the body.
unfoldable pub bad_break : List ℕ → List ℕ → ℕ → ℕ
bad_break cs hs j = pick (ltb (count cs hs 8 (get_or hs j 0) 0 j) (count cs hs 7 (get_or hs j 0) 0 j)) 0 5

module _ (cs : List ℕ) where
  -- going back over item k, how deep we are: 1 in the selection where we began, 0 outside it; fi and od lead in, if and do lead out
  unfoldable pub depth_on : ℕ → ℕ → ℕ
  depth_on k d =
      pick (eqb d 0) 0
      (pick (either (eqb (get_or cs k 0) c_fi) (eqb (get_or cs k 0) c_od)) (d + 1)
      (pick (either (eqb (get_or cs k 0) c_if) (eqb (get_or cs k 0) c_do)) (d - 1) d))

  -- an option of that selection that begins with `else`
  unfoldable pub twin_at : ℕ → ℕ → Bool
  twin_at k d = both (eqb d 1) (both (eqb (get_or cs k 0) c_option) (eqb (get_or cs (k + 1) 0) c_else))

  unfoldable pub twin : ℕ → ℕ → Bool
  twin zero d = false
  twin (suc k) d = pick (twin_at k d) true (twin k (depth_on k d))

  -- "`else` is only the first statement of an option, unlabelled, once per selection": the item before it is option, and no earlier option of the
  -- selection begins with one; else 5
  unfoldable pub bad_else : ℕ → ℕ
  bad_else j = pick (eqb (get_or cs (j - 1) 0) c_option) (pick (twin (j - 1) 1) 5 0) 5

-- a second `mtype` list (set 9) or `init` (set 10): 5
unfoldable pub bad_second : List ℕ → List ℕ → ℕ → ℕ → ℕ
bad_second cs hs set j = pick (ltb 0 (count cs hs set 0 0 j)) 5 0

-- ## numbers
-- "array 1 to 32 .. capacity 1 to 8": else 5
unfoldable pub bad_size : List ℕ → ℕ → ℕ → ℕ
bad_size vs most j = pick (both (ltb 0 (get_or vs (j - 1) 0)) (leb (get_or vs (j - 1) 0) most)) 0 5

-- "message fields 1 to 4": the fifth type, whose field is the tenth item behind its channel: 5
unfoldable pub bad_field : List ℕ → ℕ → ℕ
bad_field cs j = pick (eqb (j - last cs 16 j) (2 * fields_most + 1)) 5 0

-- "`%` in a format not followed by `d` or `%`": 5
unfoldable pub bad_format : List ℕ → ℕ → ℕ
bad_format vs j = pick (eqb (get_or vs j 0 % 2) 1) 5 0

-- "expression height 32", of the whole expression or the reference standing alone that ends before item j: 2
unfoldable pub bad_height : List ℕ → ℕ → ℕ
bad_height ts j = pick (ltb height_most (get_or ts (j - 1) 0)) 2 0

module _ (cs vs hs ss ts : List ℕ) where
  -- the number of the fault of item j by a rule
  unfoldable pub bad_by : ℕ → ℕ → ℕ
  bad_by rule j =
      pick (eqb rule 1) (bad_format vs j)
      (pick (eqb rule 2) (bad_height ts j)
      (pick (eqb rule 3) (bad_break cs hs j)
      (pick (eqb rule 4) (bad_else cs j)
      (pick (eqb rule 5) (bad_second cs hs 9 j)
      (pick (eqb rule 6) (bad_second cs hs 10 j)
      (pick (eqb rule 7) (bad_twice cs vs hs 2 j)
      (pick (eqb rule 8) (bad_twice cs vs hs 1 j)
      (pick (eqb rule 9) (bad_goto cs vs hs j)
      (pick (eqb rule 10) (bad_run cs vs hs j)
      (pick (eqb rule 11) (bad_size vs array_most j)
      (pick (eqb rule 12) (bad_named cs vs hs j)
      (pick (eqb rule 13) (bad_size vs capacity_most j)
      (pick (eqb rule 14) (bad_field cs j)
      (pick (eqb rule 15) (bad_ref cs vs hs ss j)
      (pick (eqb rule 16) (bad_end cs vs hs j)
      (pick (eqb rule 17) (bad_height ts j) 0))))))))))))))))

  -- and by its own
  abbrev pub bad : ℕ → ℕ
  bad j = bad_by (rule_of (get_or cs j 0)) j
