-- Mechanism, of the grammar as data: the other fixed tokens by name, as specs/Marks.antt of `spec_grammar` has those that the grammar names.
use Rattle.base_kinds.specs.Kinds.{Token, sym}
use Rattle.spec_grammar.specs.Marks.{k_bang, k_ask, k_len}

abbrev pub '|| : Token
'|| = sym 1

abbrev pub '&& : Token
'&& = sym 2

abbrev pub '== : Token
'== = sym 6

abbrev pub '+ : Token
'+ = sym 14

abbrev pub '* : Token
'* = sym 16

abbrev pub '! : Token
'! = sym k_bang

abbrev pub '~ : Token
'~ = sym 20

abbrev pub '? : Token
'? = sym k_ask

abbrev pub '!! : Token
'!! = sym 36

abbrev pub 'bit : Token
'bit = sym 38

abbrev pub 'bool : Token
'bool = sym 39

abbrev pub 'byte : Token
'byte = sym 40

abbrev pub 'pid : Token
'pid = sym 42

abbrev pub 'chan : Token
'chan = sym 43

abbrev pub 'short : Token
'short = sym 44

abbrev pub 'int : Token
'int = sym 45

abbrev pub 'len : Token
'len = sym k_len
