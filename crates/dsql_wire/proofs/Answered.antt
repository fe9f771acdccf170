-- Which entry an answer makes of a permit: both parts are read off the definition of `answered`.
use Rattle.std.proofs.Common.{◌≡◌, Bool, true, false, cond, refl, sym, ◌∙◌, ap}
use Rattle.dsql_driver.specs.declared.answer.DriverAnswer.{DriverAnswer}
use Rattle.dsql_driver.specs.Fits.{is_done}
use Rattle.dsql_tenure_journal.specs.declared.entry.Entry.{Entry}
use Rattle.dsql_tenure_journal.specs.declared.entry.Permit.{Permit}
use Rattle.dsql_driver.specs.Kinds.{is_begin}
use Rattle.dsql_tenure_journal.specs.Permits.{entry_of}
use Rattle.dsql_tenure.specs.Judged.{answered}

pub call_of_answered : (p : Permit) (a : DriverAnswer) → (answered p a).call ≡ p.call
call_of_answered p a = go (is_begin p.call) (is_done a)
  where
    go : (b d : Bool) → (cond b (cond d (entry_of p a) (record (entry_of p a) { tx = 0 })) (entry_of p a)).call ≡ p.call
    go true true = refl
    go true false = refl
    go false d = refl

pub answer_of_answered : (p : Permit) (a : DriverAnswer) → (answered p a).answer ≡ a
answer_of_answered p a = go (is_begin p.call) (is_done a)
  where
    go : (b d : Bool) → (cond b (cond d (entry_of p a) (record (entry_of p a) { tx = 0 })) (entry_of p a)).answer ≡ a
    go true true = refl
    go true false = refl
    go false d = refl

-- An entry that some answer makes of a permit is the entry that its own answer makes of it.
pub by_its_own : (p : Permit) (a : DriverAnswer) (e : Entry) → e ≡ answered p a → e ≡ answered p e.answer
by_its_own p a e is =
    let own : e.answer ≡ a = ap (λ (x : Entry). x.answer) is ∙ answer_of_answered p a in
    is ∙ ap (answered p) (sym own)

-- Holds if an entry has the permit's call and this answer, as an entry that the answer makes of the permit
-- does.
pub record Makes (p : Permit) (a : DriverAnswer) (e : Entry) : Type 0 where
  pub call : e.call ≡ p.call
  pub answer : e.answer ≡ a

pub makes : (p : Permit) (a : DriverAnswer) (e : Entry) → e ≡ answered p a → Makes p a e
makes p a e is = record {
  call = ap (λ (x : Entry). x.call) is ∙ call_of_answered p a;
  answer = ap (λ (x : Entry). x.answer) is ∙ answer_of_answered p a;
}
