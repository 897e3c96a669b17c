-- WRITING BY KINDS ALONE IS WRITING: what is known of the token before, its kind, is enough to decide on the space.
use Prim.Native.Nat.{ℕ}
use mathlib.Core.Path.{◌≡◌, refl, ap}
use mathlib.Core.List.{List, [], ◌∷◌, ◌++◌}
use lib.ListN.{get_or}
use Rattle.base_kinds.specs.Kinds.{Token, sym, name, number, text, kind_of}
use Rattle.spec_text.specs.Spelled.{joins}
use Rattle.spec_text.specs.Writing.{spell, write_behind, write}
use Rattle.text_pens.specs.After.{joins_by, write_after}

pub kind_decides : (a : Token) (c : ℕ) → joins (kind_of a) (spell a) c ≡ joins_by (kind_of a) c
unfolding joins_by
kind_decides (sym k) c = refl
kind_decides (name w) c = refl
kind_decides (number n) c = refl
kind_decides (text w) c = refl

pub behind-after : (a : Token) (ts : List Token) → write_behind a ts ≡ write_after (kind_of a) ts
unfolding write_behind write_after
behind-after a [] = refl
behind-after a (b ∷ ts) = rw (kind_decides a (get_or (spell b) 0 0), behind-after b ts)

-- behind a string nothing joins, so the first token is written as if it stood behind one
pub write-after : (ts : List Token) → write ts ≡ write_after 72 ts
unfolding write_after joins_by
write-after [] = refl
write-after (a ∷ ts) = ap (spell a ++◌) (behind-after a ts)
