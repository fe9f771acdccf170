-- Proves which number follows the word for a kind of owner. The argument rests on what std says of a prefix.
use Rattle.std.proofs.Common.{◌≡◌, ◌≢◌, ℕ, List, ◌++◌, true, eqb, length, drop, None, refl, sym, ap, ◌∙◌, inl, inr}
use Rattle.std.proofs.lemmas.Bool.{cases_Bool, eqb-true, eq-eqb}
use Rattle.std.proofs.lemmas.Slice.Eq.{starts_is}
use Rattle.dsql_script_calls.specs.ScriptWords.{begins_with}
use Rattle.dsql_script_event_lines.specs.Moves.{numbered, number_behind}

tells_same : (a b : ℕ) → (eqb a b ≡ true → a ≡ b) × (a ≡ b → eqb a b ≡ true)
tells_same a b = (eqb-true a b, eq-eqb a b)

module _ (kind word : List ℕ) where
  pub number_behind-found : (x : List ℕ) (n : ℕ) → n ≡ length kind → word ≡ kind ++ drop n word → x ≡ drop n word → number_behind kind word ≡ numbered x
  number_behind-found x n len split rest =
      let begins : begins_with word kind ≡ true = (starts_is tells_same word kind (begins_with word kind) refl).1 (drop n word) split in
      let left : drop (length kind) word ≡ x = ap (λ k. drop k word) (sym len) ∙ sym rest in
      rw (begins, left) refl

  pub number_behind-none : ((rest : List ℕ) → word ≢ kind ++ rest) → number_behind kind word ≡ None
  number_behind-none none = elim (cases_Bool (begins_with word kind)) [
    | inl begins ↦ absurd (none (drop (length kind) word) ((starts_is tells_same word kind (begins_with word kind) refl).0 begins))
    | inr other ↦ rw other refl
  ]
