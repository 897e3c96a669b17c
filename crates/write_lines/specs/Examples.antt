-- Mechanism: worked examples, computed from its definitions; they are held to nothing else.
-- Tokens laid out in lines.
use Rattle.std.specs.Prelude.{◌≡◌, refl, [], ◌∷◌}
use Rattle.base_kinds.specs.Kinds.{bytes, name, number}
use Rattle.base_bytes.specs.Lists.{same}
use Rattle.spec_text.specs.Find.{find}
use Rattle.spec_text.specs.Formats.{digits_by}
use Rattle.text_pens.specs.After.{joins_by}
use Rattle.spec_grammar.specs.Marks.{'lpar, 'rpar, 'lbrace, 'rbrace, '[, '], '=, 'comma, 'semi, ':, '::, 'do, 'fi, 'if, 'init, 'mtype, 'od, 'of, 'proctype, 'active, 'skip, 'break}
use Rattle.parse_grammar.specs.Marks.{'int, 'byte, 'chan}
use Rattle.write_lines.specs.Lines.{place_behind, bodies, starts_line, ends_line, lay_after, lay_all}

units :
    lay_all ('mtype ∷ '= ∷ 'lbrace ∷ name (bytes "a") ∷ 'comma ∷ name (bytes "b") ∷ 'rbrace ∷ 'chan ∷ name (bytes "c") ∷ '= ∷ '[ ∷ number 2 ∷ '] ∷ 'of ∷ 'lbrace ∷ 'int ∷ 'comma ∷ 'byte ∷ 'rbrace
    ∷ 'int ∷ name (bytes "x") ∷ 'active ∷ 'proctype ∷ name (bytes "P") ∷ 'lpar ∷ 'int ∷ name (bytes "a") ∷ 'semi ∷ 'byte ∷ name (bytes "b") ∷ 'rpar ∷ 'lbrace ∷ 'skip ∷ 'rbrace ∷ 'init ∷ 'lbrace ∷ 'skip ∷ 'rbrace ∷ [])
    ≡ bytes "mtype={a,b}\nchan c=[2]of{int,byte}\nint x\nactive proctype P(int a;byte b)\n{\n  skip\n}\ninit\n{\n  skip\n}\n"
unfolding place_behind bodies starts_line ends_line lay_after joins_by digits_by find same
units = refl

selections :
    lay_all ('init ∷ 'lbrace ∷ 'chan ∷ name (bytes "c") ∷ '= ∷ '[ ∷ number 2 ∷ '] ∷ 'of ∷ 'lbrace ∷ 'int ∷ 'rbrace ∷ 'semi ∷ name (bytes "L") ∷ ': ∷ 'if ∷ ':: ∷ 'do ∷ ':: ∷ 'break ∷ 'od ∷ ':: ∷ 'skip ∷ 'semi ∷ 'skip ∷ 'fi ∷ 'semi ∷ 'skip ∷ 'rbrace ∷ [])
    ≡ bytes "init\n{\n  chan c=[2]of{int};\n  L:if\n    ::\n    do\n      ::\n      break\n    od\n    ::\n    skip;\n    skip\n  fi;\n  skip\n}\n"
unfolding place_behind bodies starts_line ends_line lay_after joins_by digits_by find same
selections = refl
