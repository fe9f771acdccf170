-- What is written for a text, one byte at a time: a byte is one of the five marks, a control character, or neither.
use Rattle.std.proofs.Common.{◌≡◌, ℕ, Bool, true, false, List, [], ◌∷◌, ◌++◌, None, refl, ap, ◌∙◌, inl, inr, ne_eqb}
use Rattle.std.specs.List.{list_all}
use Rattle.std.proofs.lemmas.Bool.{cases_eq}
use Rattle.std.proofs.lemmas.List.Folds.{list_all-append}
use Rattle.dsql_timeline_page.specs.Escape.{is_control, escaped_byte, escaped, is_harmless, read_on, shown_byte, shown}

-- Holds if what is written for a byte is harmless and is read back.
record IsSound (b : ℕ) : Type 0 where
  harmless : list_all is_harmless (escaped_byte b) ≡ true
  back : (more : List ℕ) → read_on None (escaped_byte b ++ more) ≡ shown_byte b ∷ read_on None more

-- Holds if a byte is none of the five marks.
record IsNoMark (b : ℕ) : Type 0 where
  ampersand : b ≡ 38 → ⊥
  less : b ≡ 60 → ⊥
  greater : b ≡ 62 → ⊥
  double : b ≡ 34 → ⊥
  single : b ≡ 39 → ⊥

IsSound-other : (b : ℕ) → IsNoMark b → (control : Bool) → is_control b ≡ control → IsSound b
IsSound-other b other true is =
    let m1 = ne_eqb b 38 other.ampersand in
    let m2 = ne_eqb b 60 other.less in
    let m3 = ne_eqb b 62 other.greater in
    let m4 = ne_eqb b 34 other.double in
    let m5 = ne_eqb b 39 other.single in
    record { harmless = rw (m1, m2, m3, m4, m5, is) refl; back = λ more. rw (m1, m2, m3, m4, m5, is) refl }
IsSound-other b other false is =
    let m1 = ne_eqb b 38 other.ampersand in
    let m2 = ne_eqb b 60 other.less in
    let m3 = ne_eqb b 62 other.greater in
    let m4 = ne_eqb b 34 other.double in
    let m5 = ne_eqb b 39 other.single in
    record {
      harmless = rw (m1, m2, m3, m4, m5, is, m2, m3, m4, m5, is) refl;
      back = λ more. rw (m1, m2, m3, m4, m5, is, m1) refl;
    }

IsSound-mark : (b mark : ℕ) → b ≡ mark → IsSound mark → IsSound b
IsSound-mark b mark is sound = rw is sound

sound : (b : ℕ) → IsSound b
sound b =
    elim (cases_eq b 38) [
      | inl is ↦ IsSound-mark b 38 is (record { harmless = refl; back = λ more. refl })
      | inr ampersand ↦ elim (cases_eq b 60) [
        | inl is ↦ IsSound-mark b 60 is (record { harmless = refl; back = λ more. refl })
        | inr less ↦ elim (cases_eq b 62) [
          | inl is ↦ IsSound-mark b 62 is (record { harmless = refl; back = λ more. refl })
          | inr greater ↦ elim (cases_eq b 34) [
            | inl is ↦ IsSound-mark b 34 is (record { harmless = refl; back = λ more. refl })
            | inr double ↦ elim (cases_eq b 39) [
              | inl is ↦ IsSound-mark b 39 is (record { harmless = refl; back = λ more. refl })
              | inr single ↦ IsSound-other b (record { ampersand = ampersand; less = less; greater = greater; double = double; single = single }) (is_control b) refl
            ]
          ]
        ]
      ]
    ]

pub harmless : (text : List ℕ) → list_all is_harmless (escaped text) ≡ true
harmless [] = refl
harmless (b ∷ text) = list_all-append is_harmless (escaped_byte b) (escaped text) ∙ rw ((sound b).harmless, harmless text) refl

pub back : (text : List ℕ) → read_on None (escaped text) ≡ shown text
back [] = refl
back (b ∷ text) = (sound b).back (escaped text) ∙ ap (λ t. shown_byte b ∷ t) (back text)
