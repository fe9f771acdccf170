-- Proves which bytes the words of a line lack. The argument goes through the bytes of each kind of word.
use Rattle.std.proofs.Common.{◌≡◌, ℕ, zero, suc, ◌<◌, List, [], ◌∷◌, ◌++◌, Bool, true, false, ◌&&◌, ◌==◌, not, length, get_or, codes, eqb, All, Some, None, refl, ap, sym, subst, ◌∙◌, inl, inr, arith}
use Rattle.std.specs.Prelude.{nat_le}
use Rattle.std.specs.Char.{is_ascii_digit, is_ascii_lowercase}
use Rattle.std.specs.List.{list_any, list_all, flat_map}
use Rattle.std.specs.Str.{all_ascii_digits}
use Rattle.std.proofs.lemmas.Bool.{eqb-true, ne_eqb, and_parts, or_parts, cases_Bool}
use Rattle.std.proofs.lemmas.List.Folds.{list_any-append}
use Rattle.dsql_history.specs.scan.declared.dest.Dest.{Dest}
use Rattle.dsql_history.specs.scan.declared.dest.Dest.TheVariants.{Text}
use Rattle.dsql_script_spelling.specs.Dests.{dest_word, dests_word, comma}
use Rattle.dsql_script_calls.specs.ScriptWords.{space, client_of, client_number, is_number, is_name, is_name_byte, is_database, most_name_rest}
use Rattle.dsql_script_calls.proofs.ScriptClients.{digits_of_number}

-- Returns the bracket that begins an array.
abbrev pub bracket : ℕ
bracket = 91

-- Holds if the byte doesn't stand in the text.
abbrev pub Lacks : ℕ → List ℕ → Type 0
Lacks c text = list_any (λ byte. byte == c) text ≡ false

none_at : (p : ℕ → Bool) (xs : List ℕ) (k d : ℕ) → list_any p xs ≡ false → k < length xs → p (get_or xs k d) ≡ false
none_at p [] k d none less = absurd (omega arith)
none_at p (x ∷ xs) zero d none less = (or_parts (p x) (list_any p xs) none).0
none_at p (x ∷ xs) (suc k) d none less = none_at p xs k d (or_parts (p x) (list_any p xs) none).1 (omega arith)

pub none_of : (p : ℕ → Bool) (xs : List ℕ) → list_any p xs ≡ false → All (λ x. p x ≡ false) xs
none_of p xs none = λ k d less. none_at p xs k d none less

pub lacks_first : (c byte : ℕ) (rest : List ℕ) → (byte == c) ≡ false → Lacks c rest → Lacks c (byte ∷ rest)
lacks_first c byte rest other none = rw other none

pub lacks_both : (c : ℕ) (front rest : List ℕ) → Lacks c front → Lacks c rest → Lacks c (front ++ rest)
lacks_both c front rest none more = rw (list_any-append (λ byte. byte == c) front rest, none) more

-- A byte that passes a test differs from a byte that fails it.
differs : (test : ℕ → Bool) (c byte : ℕ) → test c ≡ false → test byte ≡ true → (byte == c) ≡ false
differs test c byte fails passes = ne_eqb byte c (λ e. let clash : test c ≡ true = subst (λ (b : ℕ). test b ≡ true) e passes in cc)

lacks_all : (test : ℕ → Bool) (c : ℕ) (text : List ℕ) → test c ≡ false → list_all test text ≡ true → Lacks c text
lacks_all test c [] fails all = refl
lacks_all test c (byte ∷ text) fails all =
    let parts = and_parts (test byte) (list_all test text) all in
    lacks_first c byte text (differs test c byte fails parts.0) (lacks_all test c text fails parts.1)

pub lacks_digits : (c : ℕ) (text : List ℕ) → is_ascii_digit c ≡ false → all_ascii_digits text ≡ true → Lacks c text
lacks_digits c [] fails all = refl
lacks_digits c (byte ∷ text) fails all =
    let parts = and_parts (is_ascii_digit byte) (all_ascii_digits text) all in
    lacks_first c byte text (differs is_ascii_digit c byte fails parts.0) (lacks_digits c text fails parts.1)

-- The bytes that the words for destinations lack.

pub dest_lacks_comma : (dest : Dest) → Lacks comma (dest_word dest)
dest_lacks_comma Text = refl
dest_lacks_comma _ = refl

dest_lacks_space : (dest : Dest) → Lacks space (dest_word dest)
dest_lacks_space Text = refl
dest_lacks_space _ = refl

dest_lacks_bracket : (dest : Dest) → Lacks bracket (dest_word dest)
dest_lacks_bracket Text = refl
dest_lacks_bracket _ = refl

module _ (c : ℕ) (other : (comma == c) ≡ false) (each : (dest : Dest) → Lacks c (dest_word dest)) where
  more_lack : (dests : List Dest) → Lacks c (flat_map (λ dest. codes "," ++ dest_word dest) dests)
  more_lack [] = refl
  more_lack (dest ∷ dests) =
      let rest = flat_map (λ (d : Dest). codes "," ++ dest_word d) dests in
      lacks_first c comma (dest_word dest ++ rest) other (lacks_both c (dest_word dest) rest (each dest) (more_lack dests))

  dests_lack : (dests : List Dest) → Lacks c (dests_word dests)
  dests_lack [] = refl
  dests_lack (dest ∷ dests) = lacks_both c (dest_word dest) (flat_map (λ (d : Dest). codes "," ++ dest_word d) dests) (each dest) (more_lack dests)

pub dests_lack_space : (dests : List Dest) → Lacks space (dests_word dests)
dests_lack_space dests = dests_lack space refl dest_lacks_space dests

pub dests_lack_bracket : (dests : List Dest) → Lacks bracket (dests_word dests)
dests_lack_bracket dests = dests_lack bracket refl dest_lacks_bracket dests

-- The bytes that a label lacks.

pub label_lacks : (c : ℕ) (label : List ℕ) → is_name_byte c ≡ false → is_name label ≡ true → Lacks c label
label_lacks c [] other name = cc
label_lacks c (first ∷ rest) other name =
    let whole = and_parts (is_ascii_lowercase first && nat_le (length rest) most_name_rest && list_all is_name_byte rest) (not (is_database (first ∷ rest))) name in
    let front = and_parts (is_ascii_lowercase first && nat_le (length rest) most_name_rest) (list_all is_name_byte rest) whole.0 in
    let letter = and_parts (is_ascii_lowercase first) (nat_le (length rest) most_name_rest) front.0 in
    let begins : is_name_byte first ≡ true = rw letter.0 refl in
    lacks_first c first rest (differs is_name_byte c first other begins) (lacks_all is_name_byte c rest other front.1)

-- The bytes that the word for a client lacks: it is `c` and digits.

digits_are : (digits : List ℕ) (client : ℕ) → client_number digits ≡ Some client → all_ascii_digits digits ≡ true
digits_are digits client is = elim (cases_Bool (is_number digits)) [
  | inl number ↦ (digits_of_number digits number).0
  | inr other ↦ let none : client_number digits ≡ None = rw other refl in absurd cc
]

pub client_word : (word : List ℕ) (client : ℕ) → client_of word ≡ Some client → (digits : List ℕ) × (word ≡ 99 ∷ digits) × (all_ascii_digits digits ≡ true)
client_word [] client is = absurd cc
client_word (first ∷ digits) client is = elim (cases_Bool (eqb 99 first)) [
  | inl same ↦
      let read : client_of (first ∷ digits) ≡ client_number digits = rw same refl in
      (digits, ap (λ b. b ∷ digits) (sym (eqb-true 99 first same)), digits_are digits client (sym read ∙ is))
  | inr other ↦ let none : client_of (first ∷ digits) ≡ None = rw other refl in absurd cc
]

pub client_lacks : (c : ℕ) (word : List ℕ) (client : ℕ) → (99 == c) ≡ false → is_ascii_digit c ≡ false → client_of word ≡ Some client → Lacks c word
client_lacks c word client other fails is =
    let named = client_word word client is in
    rw named.1 (lacks_first c 99 named.0 other (lacks_digits c named.0 fails named.2))
