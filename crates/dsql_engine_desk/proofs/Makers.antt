-- Only a call that is to hand out rows has rows, and only one that is to begin a transaction has begun one.
use Rattle.std.proofs.Common.{◌≡◌, ◌≢◌, ℕ, Bool, true, false, List, None, is_some, refl}
use Rattle.dsql_laws_calls.specs.history.declared.event.Event.{Event}
use Rattle.dsql_laws_calls.specs.history.declared.work.Work.{Work}
use Rattle.dsql_laws_calls.specs.history.declared.work.Task.TheVariants.{HandOut}
use Rattle.dsql_laws_calls.specs.history.declared.work.Work.TheVariants.{Begin, Statement}
use Rattle.dsql_laws_calls.specs.works.declared.work.Aim.TheVariants as aims
use Rattle.dsql_laws_calls.specs.history.Readers.HandedOut.{rows_by}
use Rattle.dsql_laws_calls.specs.history.Readers.Transactions.{is_begun}
use Rattle.dsql_laws_calls.specs.history.Readers.Works.{aim_of, work}
use Rattle.dsql_laws_calls.specs.history.Legal.{Lawful}
use Rattle.dsql_laws_calls.proofs.Begun.{begun_begins}
use Rattle.dsql_laws_calls.proofs.Makers.{hands_out, rows_hand_out}
use Rattle.dsql_laws_calls.proofs.Plain.{begins}
use Rattle.dsql_engine_calls.specs.Calls.{options_of}

hands_aim : (w : Work) → hands_out w ≡ true → aim_of w ≡ aims.HandOut
hands_aim (Statement it (HandOut label)) h = refl
hands_aim w h = absurd cc

pub hands_none : (H : List Event) (n : ℕ) → aim_of (work H n) ≢ aims.HandOut → is_some (rows_by H n) ≡ false
hands_none H n other = by (is_some (rows_by H n)) refl
  where
    by : (b : Bool) → is_some (rows_by H n) ≡ b → is_some (rows_by H n) ≡ false
    by true made = absurd (other (hands_aim (work H n) (rows_hand_out H n made)))
    by false none = none

begins_options : (w : Work) → begins w ≡ true → options_of w ≡ None → ⊥
begins_options (Begin label level read_only) h none = cc
begins_options w h none = absurd cc

pub begins_none : (H : List Event) (n : ℕ) → Lawful H → options_of (work H n) ≡ None → is_begun H n ≡ false
begins_none H n l none = by (is_begun H n) refl
  where
    by : (b : Bool) → is_begun H n ≡ b → is_begun H n ≡ false
    by true begun = absurd (begins_options (work H n) (begun_begins H n l begun) none)
    by false unbegun = unbegun
