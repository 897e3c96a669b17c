-- THE THEOREMS that make the machine exact (document 01, refusal 3: "first token that can continue no text of the grammar, or end of text").
use mathlib.Core.Path.{◌≡◌, refl, ap, sym as inv, ◌∙◌}
use mathlib.Core.List.{List, [], ◌∷◌, ◌++◌}
use Prim.Native.Nat.{ℕ}
use native.Mathlib.Omega.{arith}
use Rattle.base_kinds.specs.Kinds.{Token}
use Rattle.spec_grammar.specs.Tree.{Model}
use Rattle.spec_grammar.specs.Grammar.{Gram}
use Rattle.base_codes.specs.Items.{Item}
use Rattle.parse_code.specs.Code.{code}
use Rattle.spec_grammar.specs.Print.{print_model}
use Rattle.spec_grammar.specs.Viable.{StrayAt}
use Rattle.parse_grammar.specs.Engine.{nt, Answer, ok, bad, L}
use Rattle.parse_grammar.specs.Productions.{n_model, G}
use Rattle.parse_grammar.specs.Guide.{U, parse_model}
use Rattle.parse_grammar.proofs.Core.{Ran, fine, refused, ran, sound, complete}
use Rattle.parse_grammar.proofs.Inst.{K, good, start}
use Rattle.parse_grammar.proofs.Link.{into_table}
use Rattle.parse_grammar.proofs.Table.{from-table}
use Rattle.parse_code.proofs.Built.{code_injective}
use Rattle.spec_grammar.proofs.Printed.{print_in}

-- what is accepted is a text of the grammar, and the answer is the code of its tree
pub parse-sound : (ts : List Token) (o : List Item) → parse_model ts ≡ ok o → (m : Model) × Gram ts m × (o ≡ code m)
parse-sound ts o e = from-table (sound G U K good (nt n_model ∷ []) ts o start e)

-- every text of the grammar is accepted, with the code of its tree
pub parse_complete : (ts : List Token) (m : Model) → Gram ts m → parse_model ts ≡ ok (code m)
parse_complete ts m x = complete G U K good (nt n_model ∷ []) ts (code m) start (into_table x)

-- one tree per text
pub one_tree : (ts : List Token) (m n : Model) → Gram ts m → Gram ts n → m ≡ n
one_tree ts m n x y =
    let p : code m ≡ code n = (let a = parse_complete ts m x in let b = parse_complete ts n y in cc) in code_injective m n p

-- where it stops is the first token that can continue no text
pub parse_refused : (ts : List Token) (i : ℕ) → parse_model ts ≡ bad i → StrayAt ts i
parse_refused ts i e = go (parse_model ts) (ran G U K good (nt n_model ∷ []) ts start) e
  where
    go : (x : Answer Item) → Ran G U K good (nt n_model ∷ []) ts x → x ≡ bad i → StrayAt ts i
    go (ok o) r e' = absurd (let z : ◌≡◌ {A = ℕ} 0 1 = cc in omega arith)
    go (bad j) (refused l (us, o, d) f g) e' =
        let h : j ≡ i = cc in
        let (m, x, w) = from-table d in
        let z : StrayAt ts j = record { within = l; viable = (us, m, x); dead = λ h vs n y. f h vs (code n) (into_table y); no_text = λ n y. g (code n) (into_table y) } in
        rw h at z

-- the printed tokens of a text's tree read back to the same code
pub round_trip : (ts : List Token) (m : Model) → Gram ts m → parse_model (print_model m) ≡ ok (code m)
round_trip ts m x = parse_complete (print_model m) m (print_in x)

-- texts whose trees print alike have one tree
pub print_injective : (ts us : List Token) (m n : Model) → Gram ts m → Gram us n → print_model m ≡ print_model n → m ≡ n
print_injective ts us m n x y e = one_tree (print_model m) m n (print_in x) (rw e (print_in y))
