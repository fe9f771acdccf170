-- The words of a text, derived from the contracts of `split_once` and `contains` about its first space.
use Rattle.std.proofs.Common.{◌≡◌, ◌≢◌, ℕ, ◌<◌, length, get_or, List, [], ◌∷◌, ◌++◌, Option, Some, None, false, eqb, refl, subst, sym, ◌∙◌, ◌+◌, MatchOption, Bor, arith}
use Rattle.std.specs.List.{All, count_by}
use Rattle.std.proofs.lemmas.Bool.{ne_eqb}
use Rattle.std.proofs.lemmas.List.{get_or_default}
use Rattle.std.proofs.lemmas.List.Splits.{slice_split_none, slice_split_at, length-slice_split}
use Rattle.dsql_mem_session.specs.Statement.{words_of, statement_of_parts}

-- Holds if the text has no space.
pub record HasNoSpace (bs : List ℕ) : Type 0 where
  pub none : (i : ℕ) → i < length bs → get_or bs i 0 ≢ 32

pub no_space_passes : (bs : List ℕ) → HasNoSpace bs → All (λ b. eqb b 32 ≡ false) bs
no_space_passes bs h k d below =
    ne_eqb (get_or bs k d) 32 (λ e. h.none k below (sym (get_or_default bs k d 0 below) ∙ e))

-- A text without a space is one word.
pub words_of-alone : (bs : List ℕ) → HasNoSpace bs → words_of bs ≡ bs ∷ []
words_of-alone bs h = slice_split_none (λ b. eqb b 32) bs (no_space_passes bs h)

-- What stands before the first space is the first word.
pub words_of-first : (bs first rest : List ℕ) → bs ≡ first ++ 32 ∷ rest → HasNoSpace first → words_of bs ≡ first ∷ words_of rest
words_of-first bs first rest e h =
    subst (λ (t : List ℕ). words_of t ≡ first ∷ words_of rest) (sym e)
    (slice_split_at (λ b. eqb b 32) first 32 rest (no_space_passes first h) refl)

-- The contract of `split_once` at a space, restated in words.
pub words_of-parts : (bs : List ℕ) (r : Option (Bor (List ℕ) × Bor (List ℕ))) → MatchOption r ((i : ℕ) → i < length bs → get_or bs i 0 ≢ 32) (λ x. (bs ≡ x.0.now ++ 32 ∷ x.1.now) × ((i : ℕ) → i < length x.0.now → get_or x.0.now i 0 ≢ 32)) → MatchOption r (words_of bs ≡ bs ∷ []) (λ x. words_of bs ≡ x.0.now ∷ words_of x.1.now)
words_of-parts bs None h = words_of-alone bs (record { none = h })
words_of-parts bs (Some x) h = words_of-first bs x.0.now x.1.now h.0 (record { none = h.1 })

-- A verb followed by three parts or more is no statement.
pub statement_of_parts-many : (verb first second : List ℕ) (parts : List (List ℕ)) → 0 < length parts → statement_of_parts (verb ∷ first ∷ second ∷ parts) ≡ None
statement_of_parts-many verb first second [] n = absurd (omega arith)
statement_of_parts-many verb first second (third ∷ parts) n = refl

-- A text has at least one part.
pub words_of-some : (bs : List ℕ) → 0 < length (words_of bs)
words_of-some bs =
    let n : length (words_of bs) ≡ count_by (λ b. eqb b 32) bs + 1 = length-slice_split (λ b. eqb b 32) bs in
    omega (arith, n)
