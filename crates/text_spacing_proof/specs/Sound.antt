-- Mechanism, held to the specification by `reading_exact` (proofs/Exact.antt): tokens that a text can hold, and texts whose tokens lie apart.
use Rattle.std.specs.Prelude.{◌≡◌, true, List, [], ◌∷◌, ℕ, ◌≤◌, ◌<◌}
use Rattle.base_ceilings.specs.Ceilings.{number_most}
use Rattle.base_kinds.specs.Kinds.{Token, sym, name, number, text, name_kind, string_kind}
use Rattle.spec_text.specs.Placed.{Placed}
use Rattle.spec_text.specs.Spelled.{Spelled}
use Rattle.spec_text.specs.Writing.{spell, token_in, apart}

-- a token that a text can hold
abbrev pub Sound : Token → Type 0
Sound (sym k) = Spelled k (spell (sym k))
Sound (name w) = Spelled name_kind w
Sound (number n) = n ≤ number_most
Sound (text w) = Spelled string_kind (spell (text w))

abbrev pub AllSound : List Token → Type 0
AllSound [] = Unit {0}
AllSound (a ∷ ts) = Sound a × AllSound ts

-- from place i on, each token has a byte and ends before the next begins, and the last ends by place e
abbrev pub Ordered : ℕ → ℕ → List Placed → Type 0
Ordered i e [] = i ≤ e
Ordered i e (p ∷ ps) = (i ≤ p.start) × (p.start < p.end) × Ordered p.end e ps

-- neighbours of a text that would read otherwise side by side have a byte between them
abbrev pub Spaced : List ℕ → List Placed → Type 0
Spaced t [] = Unit {0}
Spaced t (p ∷ []) = Unit {0}
Spaced t (p ∷ q ∷ ps) = (apart (token_in t p) (token_in t q) ≡ true → p.end < q.start) × Spaced t (q ∷ ps)
