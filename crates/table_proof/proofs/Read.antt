-- THE ENTRIES READ FROM A TEXT'S ARRAYS ARE THOSE OF ITS ITEMS.
use Prim.Native.Nat.{ℕ, zero, suc, ◌+◌, ◌-◌, ◌≤◌, ◌<◌, min}
use mathlib.Core.Path.{◌≡◌, refl, sym as inv, ◌∙◌, ap, ap₂}
use mathlib.Core.Bool.{Bool, true, false}
use mathlib.Core.Logic.{◌⊎◌, inl, inr, ⊎_elim}
use mathlib.Core.List.{List, [], ◌∷◌, ◌++◌, map}
use native.Mathlib.Omega.{arith}
use native.Mathlib.Nat.{add-zero}
use lib.ListN.{length, get_or, take, drop, length-map, length-drop}
use lib.Seq.{drop-drop, take-take, length-take-le}
use lib.Dec.{eqb, ltb}
use borrow.Author.Tests.{lt-ltb, le-ltb, ne_eqb, eqb-true, eqb-false, ltb-true, ltb-false}
use Rattle.base_ceilings.specs.Ceilings.{items_most, number_most, string_most}
use Rattle.base_codes.specs.Codes.{c_end_body, c_or_else, c_name, c_number, c_text}
use Rattle.base_kinds.specs.Kinds.{sym, name, number, text}
use Rattle.spec_text.specs.Digits.{decimal}
use Rattle.text_tokens.specs.Reading.{tokens, reading}
use Rattle.spec_text.specs.Placed.{Placed}
use Rattle.spec_text.specs.Writing.{part_of, token_in, tokens_in}
use Rattle.text_spacing_proof.specs.Sound.{Sound, AllSound}
use Rattle.text_spacing_proof.proofs.Written.{tokens-sound, tokens_ordered}
use Rattle.text_spacing_proof.specs.Sound.{Ordered}
use Rattle.parse_tables.specs.Numbering.{item}
use Rattle.table_entries.specs.Entry.{Entry, entry, runs}
use Rattle.table_entries.specs.Items.{entry_of}
use Rattle.table_entries.specs.Sources.{bytes_of, value_of, entry_at, entries_of}
use Rattle.table_entries.proofs.Items.{mark-entry}
use Rattle.base_bytes.specs.Lists.{piece}
use Rattle.parse_machine.specs.Items.{held, read_as}
use Rattle.table_proof.specs.Read.{nowhere, Right}
use Rattle.table_proof.proofs.Tokens.{sound-held}
use Rattle.base_codes.specs.Items.{Item}

-- ## parts of a text
take_none : (n : ℕ) → take {A = ℕ} n [] ≡ []
take_none zero = refl
take_none (suc n) = refl

drop-take : (n : ℕ) (l : List ℕ) → drop 1 (take n l) ≡ take (n - 1) (drop 1 l)
drop-take zero l = refl
drop-take (suc n) [] = inv (take_none (suc n - 1))
drop-take (suc n) (x ∷ l) = let e : suc n - 1 ≡ n = omega arith in rw e

piece_is : (t : List ℕ) (a e f : ℕ) → a ≤ e → e ≤ length t → f ≡ e → piece t a f ≡ take (e - a) (drop a t)
piece_is t a e f o h g =
    let x : min f (length t) ≡ e = omega arith in
    let y : min a e ≡ a = omega arith in
    rw (x, y)

three-least : (a b l : ℕ) → a < b → a ≤ l → min (min a (b + string_most)) l ≡ a
three-least a b l h k = omega arith

least_of : (a b : ℕ) → b ≤ a → min a b ≡ b
least_of a b h = omega arith

none_left : (a : ℕ) → a - a ≡ 0
none_left a = omega arith

few_left : (a : ℕ) → a ≤ 2 → a - 2 ≡ 0
few_left a h = omega arith

lt_or_ge : (a b : ℕ) → (a < b) ⊎ (b ≤ a)
lt_or_ge a b = by (ltb a b) refl
  where
    by : (x : Bool) → ltb a b ≡ x → (a < b) ⊎ (b ≤ a)
    by true e = inl (ltb-true a b e)
    by false e = inr (ltb-false a b e)

-- ## the entry of a token
module _ (t : List ℕ) (s e : ℕ) (o : s ≤ e) (h : e ≤ length t) where
  abbrev x : List ℕ
  x = take (e - s) (drop s t)

  size : length x ≡ e - s
  size = length-take-le (e - s) (drop s t) (rw length-drop (omega arith))

  name-entry : length x ≤ string_most → entry c_name (bytes_of t c_name s e) (value_of t c_name s e) ≡ entry c_name x 0
  unfolding bytes_of value_of
  name-entry n = let f : min e (s + string_most) ≡ e = omega (arith, size) in rw (piece_is t s e (min e (s + string_most)) o h f)

  number-entry : decimal x ≤ number_most → entry c_number (bytes_of t c_number s e) (value_of t c_number s e) ≡ entry c_number [] (decimal x)
  unfolding bytes_of value_of
  number-entry n = let f : min (number_most + 1) (decimal x) ≡ decimal x = omega arith in rw (piece_is t s e e o h refl, f)

  inner : take (length x - 2) (drop 1 x) ≡ take (e - 1 - (s + 1)) (drop (s + 1) t)
  inner =
      let k : length x - 2 ≡ e - 1 - (s + 1) = omega (arith, size) in
      rw (k, drop-take (e - s) (drop s t), drop-drop 1 s t) (take-take (e - 1 - (s + 1)) (e - s - 1) (drop (s + 1) t) (omega arith))

  text-entry : s + 1 ≤ e - 1 → length (take (length x - 2) (drop 1 x)) ≤ string_most → entry c_text (bytes_of t c_text s e) (value_of t c_text s e) ≡ entry c_text (take (length x - 2) (drop 1 x)) 0
  unfolding bytes_of value_of
  text-entry two n =
      let l : length (take (e - 1 - (s + 1)) (drop (s + 1) t)) ≡ e - 1 - (s + 1) = length-take-le (e - 1 - (s + 1)) (drop (s + 1) t) (rw length-drop (omega arith)) in
      let m : length (take (e - 1 - (s + 1)) (drop (s + 1) t)) ≤ string_most = rw inner at n in
      let f : min (e - 1) (s + 1 + string_most) ≡ e - 1 = omega arith in
      rw (piece_is t (s + 1) (e - 1) (min (e - 1) (s + 1 + string_most)) two (omega arith) f, inner)

  text-short : e - 1 < s + 1 → entry c_text (bytes_of t c_text s e) (value_of t c_text s e) ≡ entry c_text (take (length x - 2) (drop 1 x)) 0
  unfolding bytes_of value_of
  text-short two =
      rw (three-least (e - 1) (s + 1) (length t) two (omega arith), least_of (s + 1) (e - 1) (omega arith), none_left (e - 1), few_left (length x) (omega (arith, size)))

three : (c : ℕ) → c_name ≤ c → c ≤ c_text → (c ≡ c_name) ⊎ ((c ≡ c_number) ⊎ (c ≡ c_text))
three c a b = by (eqb c c_name) refl (eqb c c_number) refl
  where
    by : (x : Bool) → eqb c c_name ≡ x → (y : Bool) → eqb c c_number ≡ y → (c ≡ c_name) ⊎ ((c ≡ c_number) ⊎ (c ≡ c_text))
    by true e y f = inl (eqb-true c c_name e)
    by false e true f = inr (inl (eqb-true c c_number f))
    by false e false f = let p = eqb-false c c_name e in let q = eqb-false c c_number f in inr (inr (omega arith))

abbrev Reads : List ℕ → Placed → ℕ → Type 0
Reads t p c = entry c (bytes_of t c p.start p.end) (value_of t c p.start p.end) ≡ entry_of (held (token_in t p))

module _ (t : List ℕ) (p : Placed) (o : p.start ≤ p.end) (h : p.end ≤ length t) (s : Sound (token_in t p)) where
  reads-name : p.kind ≡ c_name → Reads t p c_name
  reads-name k =
      let w : Sound (name (part_of t p)) = rw k at s in
      rw k (name-entry t p.start p.end o h (sound-held (name (part_of t p)) w).0)

  reads-number : p.kind ≡ c_number → Reads t p c_number
  reads-number k =
      let w : Sound (number (decimal (part_of t p))) = rw k at s in
      rw k (number-entry t p.start p.end o h w)

  reads-text : p.kind ≡ c_text → Reads t p c_text
  reads-text k =
      let w : Sound (text (take (length (part_of t p) - 2) (drop 1 (part_of t p)))) = rw k at s in
      rw k (⊎_elim (λ g. text-short t p.start p.end o h g) (λ g. text-entry t p.start p.end o h g (sound-held (text (take (length (part_of t p) - 2) (drop 1 (part_of t p)))) w).0) (lt_or_ge (p.end - 1) (p.start + 1)))

  pub token_entry : (c : ℕ) → c_name ≤ c → c ≤ c_text → p.kind ≡ c → Reads t p c
  token_entry c a b k = go (three c a b)
    where
      go : (c ≡ c_name) ⊎ ((c ≡ c_number) ⊎ (c ≡ c_text)) → Reads t p c
      go (inl e) = rw e (reads-name (k ∙ e))
      go (inr (inl e)) = rw e (reads-number (k ∙ e))
      go (inr (inr e)) = rw e (reads-text (k ∙ e))

mark-read : (t : List ℕ) (c s e : ℕ) → c_or_else ≤ c → c ≤ c_end_body → entry c (bytes_of t c s e) (value_of t c s e) ≡ entry_of (item c)
unfolding bytes_of value_of
mark-read t c s e a b =
    simp (ne_eqb c c_name (λ z. omega arith), ne_eqb c c_number (λ z. omega arith), ne_eqb c c_text (λ z. omega arith)) (inv (mark-entry c a b))

-- ## all of them
get_map : {A B : Type 0} (f : A → B) (l : List A) (z : List B) (j : ℕ) (d : A) (b : B) → j < length l → get_or (map f l ++ z) j b ≡ f (get_or l j d)
get_map f [] z j d b h = absurd (omega arith)
get_map f (a ∷ l) z zero d b h = refl
get_map f (a ∷ l) z (suc j) d b h = get_map f l z j d b (omega arith)

pub get_only : {A B : Type 0} (f : A → B) (l : List A) (j : ℕ) (d : A) (b : B) → j < length l → get_or (map f l) j b ≡ f (get_or l j d)
get_only f [] j d b h = absurd (omega arith)
get_only f (a ∷ l) zero d b h = refl
get_only f (a ∷ l) (suc j) d b h = get_only f l j d b (omega arith)

ordered_most : (i e : ℕ) (ps : List Placed) → Ordered i e ps → i ≤ e
ordered_most i e [] h = h
ordered_most i e (p ∷ ps) h = omega (arith, h.0, h.1, ordered_most p.end e ps h.2)

pub ordered_at : (i e : ℕ) (ps : List Placed) → Ordered i e ps → (k : ℕ) → k < length ps → ((get_or ps k nowhere).start ≤ (get_or ps k nowhere).end) × ((get_or ps k nowhere).end ≤ e)
ordered_at i e [] h k l = absurd (omega arith)
ordered_at i e (p ∷ ps) h zero l = (omega (arith, h.1), ordered_most p.end e ps h.2)
ordered_at i e (p ∷ ps) h (suc k) l = ordered_at p.end e ps h.2 k (omega arith)

sound_at : (t : List ℕ) (ps : List Placed) → AllSound (tokens_in t ps) → (k : ℕ) → k < length ps → Sound (token_in t (get_or ps k nowhere))
sound_at t [] s k l = absurd (omega arith)
sound_at t (p ∷ ps) s zero l = s.0
sound_at t (p ∷ ps) s (suc k) l = sound_at t ps s.1 k (omega arith)

runs_map : (h : ℕ → Entry) (r : ℕ → Item) (o : List ℕ) (i : ℕ) → ((j : ℕ) → j < length o → h (i + j) ≡ entry_of (r (get_or o j 0))) → runs h i (length o) ≡ map entry_of (map r o)
unfolding runs
runs_map h r [] i e = refl
runs_map h r (v ∷ o) i e =
    ap₂ ◌∷◌ (ap h (inv (add-zero i)) ∙ e 0 (omega arith))
    (runs_map h r o (i + 1) (λ j l. let q : i + 1 + j ≡ i + suc j = omega arith in ap h q ∙ e (suc j) (omega arith)))

module _ (t : List ℕ) (ps : List Placed) (e : reading t ≡ tokens ps) (x y : List ℕ) where
  abbrev starts : List ℕ
  starts = map Placed.start ps ++ x

  abbrev ends : List ℕ
  ends = map Placed.end ps ++ y

  -- one item
  read_one : (c k : ℕ) → Right ps c k → entry c (bytes_of t c (get_or starts k 0) (get_or ends k 0)) (value_of t c (get_or starts k 0) (get_or ends k 0)) ≡ entry_of (read_as (tokens_in t ps) c k)
  read_one c k (inl r) =
      let p = get_or ps k nowhere in
      let l : k < length ps = r.2 in
      let a = ordered_at 0 (length t) ps (tokens_ordered t ps e) k l in
      rw (get_map Placed.start ps x k nowhere 0 l, get_map Placed.end ps y k nowhere 0 l, lt-ltb c c_or_else (omega (arith, r.1)), get_only (token_in t) ps k nowhere (sym 0) l)
      (token_entry t p a.0 a.1 (sound_at t ps (tokens-sound t ps e) k l) c r.0 r.1 r.3)
  read_one c k (inr r) = rw (le-ltb c c_or_else r.0) (mark-read t c (get_or starts k 0) (get_or ends k 0) r.0 r.1)

  -- the numbers v of o, of which f is the code and g the token
  module _ (f g : ℕ → ℕ) (o : List ℕ) (z : List ℕ) (few : length o ≤ items_most) (right : (j : ℕ) → j < length o → Right ps (f (get_or o j 0)) (g (get_or o j 0))) where
    pub entries-read : entries_of t (map Placed.start ps ++ x) (map Placed.end ps ++ y) (map f o) (map g o ++ z) ≡ map entry_of (map (λ v. read_as (tokens_in t ps) (f v) (g v)) o)
    unfolding entries_of entry_at
    entries-read =
        let n : min items_most (length (map f o)) ≡ length o = omega (arith, length-map o f) in
        rw n (runs_map (entry_at t starts ends (map f o) (map g o ++ z)) (λ v. read_as (tokens_in t ps) (f v) (g v)) o 0
        (λ j l. let q : 0 + j ≡ j = omega arith in rw (q, get_only f o j 0 0 l, get_map g o z j 0 0 l) (read_one (f (get_or o j 0)) (g (get_or o j 0)) (right j l))))
