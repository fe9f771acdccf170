-- In each lawful history, an answer that may come is under way.
use Rattle.std.proofs.Common.{◌≡◌, inl, inr, true, false, not, ◌&&◌, List, [], ◌∷◌, refl, ap, ◌∙◌}
use Rattle.std.proofs.lemmas.Bool.{or_cases}
use Rattle.dsql_laws.specs.journal.declared.entry.Entry.{Entry}
use Rattle.dsql_laws_work.proofs.Rows.{same_or_not, not_true}
use Rattle.dsql_laws.proofs.Tests.{both}
use Rattle.dsql_laws.specs.history.declared.event.Event.{Event}
use Rattle.dsql_laws.specs.history.declared.event.Event.TheVariants.{Heard}
use Rattle.dsql_laws.specs.history.Readers.Pool.{place, home}
use Rattle.dsql_laws.specs.history.Rules.Line.{is_due_at, parts, may_come}
use Rattle.dsql_laws.specs.history.Legal.{Lawful}
use Rattle.dsql_laws_calls.specs.UnderWay.{StaysWithItsCall}
use Rattle.dsql_laws_calls.proofs.Owners.{owner_is_of, at_home}
use Rattle.dsql_laws_calls.proofs.BeginningsAt.{is_answer, heard_other}
use Rattle.dsql_laws_calls.proofs.UnderWay.{Facts, UnderWay}
use Rattle.dsql_laws_calls.proofs.DueWay.{due_under_way}
use Rattle.dsql_laws_calls.proofs.StaysUnderWay.{stays_under_way}
use Rattle.dsql_laws_calls.proofs.Sound.{Sound, quiet_facts, ends_same, going_same, made_same, ends_heard, going_heard, made_heard}

comes_on : (H : List Event) (last : Event) → Lawful (last ∷ H) → Sound H → Facts (last ∷ H) → (e : Entry) → may_come (last ∷ H) e ≡ true → UnderWay (last ∷ H) e
comes_on H last l s f e h =
    elim (or_cases (is_due_at (last ∷ H) (place (last ∷ H) e.conn) e) (not (parts last e) && may_come H e) h) [
      | inl now ↦ due_under_way (last ∷ H) e l f now
      | inr before ↦ (let b = both (not (parts last e)) (may_come H e) before in stays_under_way H last e l (not_true (parts last e) b.0) b.1 (s.coming e b.1))
    ]

heard_facts : (H : List Event) (e : Entry) → Lawful (Heard e ∷ H) → Sound H → Facts (Heard e ∷ H)
heard_facts H e l s = record {
  ends = λ c t own is on.
      elim (same_or_not e.conn c) [
        | inl here ↦ ends_heard H e l s c t own is here on
        | inr apart ↦ ends_same H (Heard e) s c t own is (heard_other H e c apart) on
      ];
  going = λ c t own is m inner u sent.
      elim (same_or_not e.conn c) [
        | inl here ↦ going_heard H e l s c t own is here m inner u sent
        | inr apart ↦ going_same H (Heard e) l s c t own is (heard_other H e c apart) m inner u sent
      ];
  made = λ c t own is call.
      elim (same_or_not e.conn c) [
        | inl here ↦ made_heard H e l s c t own is here call
        | inr apart ↦ made_same H (Heard e) l s c t own is (heard_other H e c apart) call
      ];
}

quiet : (H : List Event) (e : Event) → Lawful (e ∷ H) → is_answer e ≡ false → Sound H → Sound (e ∷ H)
quiet H e l none s = let f = quiet_facts H e l none s in record { facts = f; coming = comes_on H e l s f }

start : Facts []
start = record { ends = λ c t own is on. absurd cc; going = λ c t own is m inner u sent. absurd cc; made = λ c t own is call. absurd cc }

pub sound : (H : List Event) → Lawful H → Sound H
sound [] l = record { facts = start; coming = λ e h. absurd cc }
sound (Heard e ∷ H) l = let s = sound H l.0 in let f = heard_facts H e l s in record { facts = f; coming = comes_on H (Heard e) l s f }
sound (e ∷ H) l = quiet H e l refl (sound H l.0)

-- While an answer is under way, its connection stays lent.
pub stays_with_its_call : (H : List Event) (e : Entry) → Lawful H → may_come H e ≡ true → StaysWithItsCall H e
stays_with_its_call H e l h =
    let s = sound H l in
    let u = s.coming e h in
    let o = owner_is_of H e.conn e.tenure u.owner l u.lent in
    record {
      owner = u.owner;
      lent = u.lent;
      not_house = o.0;
      used = u.borrowed;
      site = λ some. ap (home H) (u.borrowed some) ∙ at_home H e.conn e.tenure u.owner l u.lent;
      unfinished = u.unfinished;
    }
