-- The line of a call after one more entry of the journal is as it was, or has that entry.
use Rattle.std.proofs.Common.{◌≡◌, ℕ, Bool, true, false, ◌==◌, ◌||◌, ◌⊎◌, inl, inr, List, ◌∷◌, refl}
use Rattle.dsql_history.specs.journal.declared.entry.Entry.{Entry}
use Rattle.dsql_history.specs.journal.Readers.{of_tenure}
use Rattle.dsql_history.specs.works.Exchanges.{step_of, with_exchange}
use Rattle.dsql_history.specs.Readers.Lines.{line_among, is_about, is_of_line}
use Rattle.dsql_laws_tenures.specs.Tenures.{made_by}
use Rattle.dsql_laws_tenures.proofs.Numbers.{neither}

-- Holds if the entry isn't of the line.
pub record Away (n t : ℕ) (e : Entry) (J : List Entry) : Type 0 where
  pub same : made_by n t (e ∷ J) ≡ made_by n t J
  pub other : (e.tenure == t) ≡ true → (e.call_no == n) ≡ false
  pub not_about : (e.tenure == t) ≡ true → is_about (made_by n t J) e.call ≡ false

-- Holds if the entry is of the line.
pub record Here (n t : ℕ) (e : Entry) (J : List Entry) : Type 0 where
  pub more : made_by n t (e ∷ J) ≡ with_exchange (step_of e.call) e.answer (made_by n t J)
  pub tenure : (e.tenure == t) ≡ true
  pub of_line : (e.call_no == n) || is_about (made_by n t J) e.call ≡ true

pub line_step : (n t : ℕ) (e : Entry) (J : List Entry) → Away n t e J ⊎ Here n t e J
line_step n t e J = by_tenure (e.tenure == t) refl
  where
    by_line : (b : Bool) → (e.tenure == t) ≡ true → is_of_line n e (line_among n (of_tenure t J)) ≡ b → Away n t e J ⊎ Here n t e J
    by_line true is of =
        inr (record { more = rw is (rw of refl); tenure = is; of_line = of })
    by_line false is of =
        let both = neither (e.call_no == n) (is_about (made_by n t J) e.call) of in
        inl (record { same = rw is (rw of refl); other = λ _. both.0; not_about = λ _. both.1 })

    by_tenure : (b : Bool) → (e.tenure == t) ≡ b → Away n t e J ⊎ Here n t e J
    by_tenure true is = by_line (is_of_line n e (line_among n (of_tenure t J))) is refl
    by_tenure false is = inl (record { same = rw is refl; other = λ h. absurd cc; not_about = λ h. absurd cc })
