-- Words for worked journals: entries of connection 1. A journal is written oldest first here, and `after` reads
-- it newest first.
use Rattle.std.specs.Prelude.{◌≡◌, ℕ, Bool, true, false, List, [], ◌∷◌, reverse, pos, codes}
use Rattle.dsql_tenure_journal.specs.declared.entry.Entry.{Entry}
use Rattle.dsql_tenure_journal.specs.declared.entry.Owner.{Owner}
use Rattle.dsql_tenure_journal.specs.declared.entry.Owner.TheVariants.{Call, Tx, Pin, House}
use Rattle.dsql_driver.specs.declared.call.DriverCall.{DriverCall}
use Rattle.dsql_driver.specs.declared.call.DriverCall.TheVariants.{Connect, Prepare, Exec, Query, Begin}
use Rattle.dsql_driver.specs.declared.answer.DriverAnswer.{DriverAnswer}
use Rattle.dsql_driver.specs.declared.answer.DriverAnswer.TheVariants.{Done, Prepared, Result, Cursor, Row, Fail}
use Rattle.dsql_driver.specs.declared.call.Input.TheVariants.{Text, Handle}
use Rattle.dsql_driver.specs.declared.call.Level.TheVariants.{Default}
use Rattle.dsql_value.specs.declared.value.Value.TheVariants.{Nil}
use Rattle.dsql_tenure_journal.specs.Journal.{may_follow, is_journal_prefix}

-- Driver calls.
abbrev pub exec_text : DriverCall
exec_text = Exec (Text (codes "SET a 1")) []

abbrev pub query_text : DriverCall
query_text = Query (Text (codes "LIST a")) []

abbrev pub exec_handle : ℕ → DriverCall
exec_handle h = Exec (Handle h) []

abbrev pub query_handle : ℕ → DriverCall
query_handle h = Query (Handle h) []

abbrev pub prepare : DriverCall
prepare = Prepare (codes "SET a ?")

abbrev pub begin : DriverCall
begin = Begin Default false

-- Answers.
abbrev pub result : DriverAnswer
result = Result (pos 0) (pos 1)

abbrev pub gives_handle : ℕ → DriverAnswer
gives_handle h = Prepared h (pos 1)

abbrev pub gives_cursor : ℕ → DriverAnswer
gives_cursor r = Cursor r (codes "key" ∷ codes "value" ∷ [])

abbrev pub row_of_two : DriverAnswer
row_of_two = Row (Nil ∷ Nil ∷ [])

abbrev pub row_of_three : DriverAnswer
row_of_three = Row (Nil ∷ Nil ∷ Nil ∷ [])

abbrev pub fails : DriverAnswer
fails = Fail (codes "x")

-- Returns an entry of a tenure, with its owner, call number and transaction.
abbrev pub heard : ℕ → Owner → ℕ → ℕ → DriverCall → DriverAnswer → Entry
heard tenure owner call_no tx call answer =
    record { conn = 1; tenure = tenure; owner = owner; call_no = call_no; tx = tx; call = call; answer = answer }

-- Returns an entry of the house.
abbrev pub house : ℕ → DriverCall → DriverAnswer → Entry
house tenure call answer = heard tenure House 0 0 call answer

-- Returns an entry of a call on the DB.
abbrev pub by_call : ℕ → ℕ → DriverCall → DriverAnswer → Entry
by_call n tenure call answer = heard tenure (Call n) n 0 call answer

-- Returns an entry of transaction 1 in its own tenure 2.
abbrev pub in_tx : ℕ → DriverCall → DriverAnswer → Entry
in_tx call_no call answer = heard 2 (Tx 1) call_no 1 call answer

-- Returns an entry of pin 1 in tenure 2, with a transaction or 0.
abbrev pub in_pin : ℕ → ℕ → DriverCall → DriverAnswer → Entry
in_pin call_no tx call answer = heard 2 (Pin 1) call_no tx call answer

-- Returns a journal that begins with a Connect answered Done, newest entry first.
abbrev pub after : List Entry → List Entry
after entries = reverse (house 1 Connect Done ∷ entries)

-- Holds if what stands before is a beginning of a whole journal and isn't one with the entry, since this rule
-- is broken.
abbrev pub Refuses : List Entry → Entry → (List Entry → Entry → Bool) → Type 0
Refuses before e rule = (is_journal_prefix before ≡ true) × (may_follow before e ≡ false) × (rule before e ≡ false)
