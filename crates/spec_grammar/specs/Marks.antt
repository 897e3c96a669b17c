-- Document 01, "Marks: `( ) [ ] { } , ; : :: -> ..`" and "Keywords: active assert ..": the fixed tokens that the grammar names: a quote, then the spelling, or a word where a
-- name may not hold that spelling. The numbers are those of specs/Kinds.antt of `base_kinds`; the grammar tells operators, types and queries by them.
use Rattle.std.specs.Prelude.{ℕ}
use Rattle.base_kinds.specs.Kinds.{Token, sym}

-- the kinds that trees hold of `!`, `?` and `len`
abbrev pub k_bang : ℕ
k_bang = 19

abbrev pub k_ask : ℕ
k_ask = 35

abbrev pub k_len : ℕ
k_len = 57

abbrev pub '- : Token
'- = sym 15

abbrev pub 'lpar : Token
'lpar = sym 21

abbrev pub 'rpar : Token
'rpar = sym 22

abbrev pub '[ : Token
'[ = sym 23

abbrev pub '] : Token
'] = sym 24

abbrev pub 'lbrace : Token
'lbrace = sym 25

abbrev pub 'rbrace : Token
'rbrace = sym 26

abbrev pub 'comma : Token
'comma = sym 27

abbrev pub 'semi : Token
'semi = sym 28

abbrev pub ': : Token
': = sym 29

abbrev pub ':: : Token
':: = sym 30

abbrev pub '-> : Token
'-> = sym 31

abbrev pub '= : Token
'= = sym 32

abbrev pub '++ : Token
'++ = sym 33

abbrev pub '-- : Token
'-- = sym 34

abbrev pub 'mtype : Token
'mtype = sym 41

abbrev pub 'active : Token
'active = sym 46

abbrev pub 'assert : Token
'assert = sym 47

abbrev pub 'break : Token
'break = sym 48

abbrev pub 'do : Token
'do = sym 49

abbrev pub 'else : Token
'else = sym 50

abbrev pub 'eval : Token
'eval = sym 51

abbrev pub 'false : Token
'false = sym 52

abbrev pub 'fi : Token
'fi = sym 53

abbrev pub 'goto : Token
'goto = sym 54

abbrev pub 'if : Token
'if = sym 55

abbrev pub 'init : Token
'init = sym 56

abbrev pub 'od : Token
'od = sym 58

abbrev pub 'of : Token
'of = sym 59

abbrev pub 'printf : Token
'printf = sym 60

abbrev pub 'proctype : Token
'proctype = sym 61

abbrev pub 'run : Token
'run = sym 62

abbrev pub 'skip : Token
'skip = sym 63

abbrev pub 'timeout : Token
'timeout = sym 64

abbrev pub 'true : Token
'true = sym 65
