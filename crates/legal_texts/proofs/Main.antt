-- THE READER ACCEPTS EXACTLY THE EDITION'S TEXTS (Q2), and the faults of the others are the specification's, number and token.
use Prim.Native.Nat.{ℕ, suc, ◌≤◌}
use native.Mathlib.Omega.{arith}
use mathlib.Core.Path.{◌≡◌, refl, sym, ap, ap₂, subst, ◌∙◌}
use mathlib.Core.Logic.{◌↔◌}
use mathlib.Core.List.{List, [], ◌∷◌, ◌++◌, map, append_assoc}
use lib.ListN.{length, get_or, length-append}
use lib.Seq.{get_or-append_seam}
use Rattle.base_ceilings.specs.Ceilings.{items_most, tables_room}
use Rattle.base_kinds.specs.Kinds.{Token}
use Rattle.base_codes.specs.Items.{Item, i_plain}
use Rattle.spec_text.specs.Writing.{tokens_in}
use Rattle.spec_grammar.specs.Tree.{Model}
use Rattle.spec_grammar.specs.Grammar.{Gram}
use Rattle.spec_faults.specs.Faults.{faults_of, Least}
use Rattle.spec_refusals.specs.Legal.{Legal}
use Rattle.parse_code.specs.Code.{code}
use Rattle.parse_spots.specs.Spots.{Spot, items, tokens, spots}
use Rattle.parse_spots.proofs.Coded.{spots-code}
use Rattle.parse_spots_proof.proofs.Main.{items-spots}
use Rattle.parse_machine.specs.Machine.{place_of}
use Rattle.parse_machine.specs.Answer.{parsed}
use Rattle.rule_least.specs.Faults.{checked}
use Rattle.rule_least.specs.declared.Fault.TheVariants.{None, At}
use Rattle.rule_least.proofs.Theorems.{places_free}
use Rattle.read_accepts_proof.specs.Meaning.{Grammatical, codes_of, said}
use Rattle.read_accepts_proof.proofs.Main.{kinds_are}
use Rattle.std.specs.Prelude.{Ok}
use Rattle.read_entry.specs.Entries.{read_of}
use Rattle.legal_terms.specs.Says.{Says}
use Rattle.legal_terms.specs.Faulted.{faults_from, Stand}
use Rattle.legal_items.proofs.Says.{text_says}
use Rattle.legal_items.proofs.Whole as whole
use Rattle.legal_statements.proofs.Main.{statements-faults}
use Rattle.legal_declarations.proofs.Main as declarations
use Rattle.legal_texts.proofs.Least.{checked-least, checked-none}

-- ---- items with their tokens stand where they are
stands : (xs : List Item) (toks : List ℕ) (i : ℕ) (ip : List Item) (tp : List ℕ) (l : List Spot) → xs ≡ ip ++ items l → toks ≡ tp ++ tokens l → i ≡ length ip → i ≡ length tp → Stand xs toks i l
stands xs toks i ip tp [] e f p q = tt
stands xs toks i ip tp (s ∷ l) e f p q = (
  ap₂ (λ (y : List Item) (n : ℕ). get_or y n i_plain) e p ∙ get_or-append_seam ip s.0 (items l) i_plain,
  ap₂ (λ (y : List ℕ) (n : ℕ). get_or y n 0) f q ∙ get_or-append_seam tp s.1 (tokens l) 0,
  stands xs toks (suc i) (ip ++ s.0 ∷ []) (tp ++ s.1 ∷ []) l (e ∙ sym (append_assoc ip (s.0 ∷ []) (items l))) (f ∙ sym (append_assoc tp (s.1 ∷ []) (tokens l)))
      (omega (arith, length-append ip (s.0 ∷ []))) (omega (arith, length-append tp (s.1 ∷ []))),
)

-- ---- THE FAULTS OF A MODEL'S ITEMS, with the tokens of a derivation, are those of the derivation
pub all-faults : (m : Model) (ts : List Token) (g : Gram ts m) (cs vs : List ℕ) → Says m cs vs → faults_from cs vs (tokens (spots g 0)) 0 (length cs) ≡ faults_of g
all-faults m ts g cs vs s =
    declarations.all-faults m cs vs (tokens (spots g 0)) s (statements-faults m cs vs (tokens (spots g 0)) s) ts g
    (stands (code m) (tokens (spots g 0)) 0 [] [] (spots g 0) (sym (spots-code g 0)) refl refl refl)

-- the items of a model have no fault exactly where a derivation has none
pub rules : (m : Model) (ts : List Token) (g : Gram ts m) (cs vs toks : List ℕ) → Says m cs vs → (checked cs vs toks ≡ None → faults_of g ≡ []) × (faults_of g ≡ [] → checked cs vs toks ≡ None)
rules m ts g cs vs toks s =
    let own = tokens (spots g 0) in
    let all = all-faults m ts g cs vs s in
    (λ e. sym all ∙ (checked-none cs vs own).0 (places_free cs vs toks own e), λ e. places_free cs vs own toks ((checked-none cs vs own).1 (all ∙ e)))

-- what the rules answer of a text is the least fault of its derivation, number and token
pub least-fault : (t : List ℕ) (p : Grammatical t) (x k : ℕ) → (checked (codes_of t p) (said t p) (map place_of p.numbers) ≡ At x k) ↔ Least (faults_of p.gram) x k
least-fault t p x k =
    let ts = tokens_in t p.parts in
    let e : map place_of p.numbers ≡ tokens (spots p.gram 0) =
    items-spots ts p.tree p.gram items_most p.numbers (ap (λ (ks : List ℕ). parsed ks items_most) (kinds_are t p.parts) ∙ p.written) in
    let all = all-faults p.tree ts p.gram (codes_of t p) (said t p) (text_says t p) in
    let own = checked-least (codes_of t p) (said t p) (tokens (spots p.gram 0)) x k in (
      λ c. subst (λ l. Least l x k) all (own.0 (ap (checked (codes_of t p) (said t p)) (sym e) ∙ c)),
      λ c. ap (checked (codes_of t p) (said t p)) e ∙ own.1 (subst (λ l. Least l x k) (sym all) c),
    )

pub read_legal : (t old : List ℕ) → read_of t old ≡ Ok tt → Legal t
read_legal t old = whole.read-lawful rules t old

pub legal_read : (t old : List ℕ) → tables_room ≤ length old → Legal t → read_of t old ≡ Ok tt
legal_read t old = whole.lawful-read rules t old
