-- The normal text of a tree: document 01, "Normal text": "the fewest parentheses, `;`, comma notation, no optional separator, and one space exactly where two tokens
-- side by side would read otherwise".
use Rattle.std.specs.Prelude.{List, ℕ}
use Rattle.spec_grammar.specs.Tree.{Model}
use Rattle.spec_grammar.specs.Print.{print_model}
use Rattle.spec_text.specs.Writing.{write}

abbrev pub normal : Model → List ℕ
normal m = write (print_model m)
