-- An answer that the core welcomes may come next by every rule. The argument fills in what the answer decides, which can
-- be computed for each answer.
use Rattle.std.proofs.Common.{◌≡◌, ℕ, true, false, List, [], ◌∷◌, Option, None, refl, ap}
use Rattle.dsql_engine_laws.specs.driver.declared.call.DriverCall.{DriverCall}
use Rattle.dsql_engine_laws.specs.driver.declared.call.DriverCall.TheVariants.{Next, Query}
use Rattle.dsql_engine_laws.specs.driver.declared.answer.DriverAnswer.{DriverAnswer}
use Rattle.dsql_engine_laws.specs.journal.declared.entry.Entry.{Entry}
use Rattle.dsql_engine_laws.specs.journal.Readers.{is_empty}
use Rattle.dsql_engine_laws.specs.history.declared.event.Event.{Event}
use Rattle.dsql_engine_laws.specs.history.declared.event.Event.TheVariants.{Heard}
use Rattle.dsql_engine_laws.specs.history.declared.reply.Reply.{Reply}
use Rattle.dsql_engine_laws.specs.history.declared.work.Work.{Work}
use Rattle.dsql_engine_laws.specs.history.Readers.Course.{has_begun}
use Rattle.dsql_engine_laws.specs.history.Readers.Decisions.{fetch_decision, query_decision}
use Rattle.dsql_engine_laws.specs.history.Readers.Tries.{tries, tries_again, try_number}
use Rattle.dsql_engine_laws.specs.history.Readers.Works.{work}
use Rattle.dsql_engine_laws.specs.history.Legal.{Allowed, Legal}
use Rattle.dsql_engine_laws.specs.hearing.Hearing.{IsWelcome, MayHear}
use Rattle.dsql_engine_laws.specs.hearing.declared.hear.Hearing.{Hearing}
use Rattle.dsql_engine_laws.proofs.hearing.Welcome.{may_hear}

-- Returns what the answer to a Query or a Next decides for a call with this work. Other answers decide nothing here.
abbrev decided : ℕ → Work → DriverCall → DriverAnswer → Option Reply
decided number its (Next rows) answer = fetch_decision (tries_again its number) number its answer
decided number its (Query input params) answer = query_decision (tries_again its number) number its answer
decided number its _ answer = None

some_begun : (past : List Event) → has_begun past ≡ true → is_empty past ≡ false
some_begun [] begun = absurd cc
some_begun (e ∷ past) begun = refl

pub allowed_welcome : (past : List Event) (e : Entry) → Legal past → IsWelcome past e → Allowed past (Heard e)
allowed_welcome past e legal welcome =
    let number : ℕ = try_number (tries past e.call_no) in
    let its : Work = work past e.call_no in
    let ready : Hearing = record { copy = e.answer; reply = decided number its e.call e.answer } in
    let hears : MayHear past e ready =
    may_hear past e ready legal.lawful legal.settled (some_begun past legal.begun) welcome
    (record {
      same = refl;
      decides = λ unfinished. record {
        same = refl;
        fetch = λ some rows is. ap (λ (call : DriverCall). decided number its call e.answer) is;
        query = λ some input params is. ap (λ (call : DriverCall). decided number its call e.answer) is;
      };
    }) in
    hears.allowed
