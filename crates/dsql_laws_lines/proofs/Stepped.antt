-- Kept lines and held calls over a step: both depend only on how many calls each client has made.
use Rattle.std.proofs.Common.{◌≡◌, ◌≢◌, ℕ, ◌≤◌, ◌<◌, ◌+◌, ◌-◌, ◌⊎◌, inl, inr, Bool, true, false, not, ◌&&◌, cond, List, [], ◌∷◌, ◌++◌, length, drop, slice_index_or, refl, sym, ap, subst, ◌∙◌, arith}
use Rattle.std.proofs.lemmas.List.{drop_more}
use Rattle.dsql_laws_calls.specs.journal.Readers.{is_empty}
use Rattle.dsql_laws_calls.specs.history.declared.event.Event.{Event}
use Rattle.dsql_laws_calls.specs.history.declared.event.Event.TheVariants.{Entered}
use Rattle.dsql_laws_calls.specs.history.declared.event.Op.{Op}
use Rattle.dsql_laws_calls.specs.history.Readers.Clients.{is_free, made_by}
use Rattle.dsql_laws_calls.proofs.laws.Tests.{together}
use Rattle.dsql_laws_calls.proofs.laws_work.Rows.{same_or_not}
use Rattle.dsql_follows.specs.declared.line.Line.{Line}
use Rattle.dsql_follows.specs.declared.line.Line.TheVariants.{Skip, Client, Start}
use Rattle.dsql_follows.specs.Moments.{Moment, is_held, is_start, kept, lines_of}
use Rattle.dsql_follows.specs.Sentences.{is_next, may_enter}
use Rattle.dsql_laws_steps.specs.Steps.{goes_by_itself, stepped}
use Rattle.dsql_laws_steps.specs.Groups.{IsGroup}
use Rattle.dsql_laws_lines.specs.Entries.{is_entry}
use Rattle.dsql_laws_lines.specs.Running.{AllMade}
use Rattle.dsql_laws_lines.proofs.KeptLines.{kept_among}
use Rattle.dsql_laws_lines.proofs.Made.{group_made, made_by_others, made_else, made_one_more}
use Rattle.dsql_laws_lines.proofs.SameOps.{op_itself}

pub enters_not : (n : ℕ) (first : Event) → goes_by_itself n first ≡ true → is_entry first ≡ false
enters_not n (Entered client k op) h = absurd cc
enters_not n e h = refl

-- If a client has made as many calls as before, the same lines are kept and its call is held as before.

module _ (m : Moment) (first : Event) (n : ℕ) (events : List Event) (k : ℕ) (same : made_by (events ++ m.past) k ≡ made_by m.past k) where
  pub kept_as_made : kept (stepped m first n events) k ≡ kept m k
  kept_as_made = ap (λ i. drop i (lines_of m.lines k)) same

  pub held_as_made : is_held (stepped m first n events) k ≡ is_held m k
  held_as_made = ap (λ i. not m.released && is_start (slice_index_or (lines_of m.lines k) (i - 1) Skip)) same

  pub made_as_before : made_by m.past k ≤ length (lines_of m.lines k) → made_by (events ++ m.past) k ≤ length (lines_of m.lines k)
  made_as_before so_many = subst (λ i. i ≤ length (lines_of m.lines k)) (sym same) so_many

-- A step in which no call enters.

as_many : (m : Moment) (first : Event) (n : ℕ) (events : List Event) (k : ℕ) → IsGroup first n events → is_entry first ≡ false → made_by (events ++ m.past) k ≡ made_by m.past k
as_many m first n events k g none = group_made first n k events m.past g ∙ made_else first m.past k none

pub step_keeps : (m : Moment) (first : Event) (n : ℕ) (events : List Event) (k : ℕ) → IsGroup first n events → is_entry first ≡ false → kept (stepped m first n events) k ≡ kept m k
step_keeps m first n events k g none = kept_as_made m first n events k (as_many m first n events k g none)

pub step_holds : (m : Moment) (first : Event) (n : ℕ) (events : List Event) (k : ℕ) → IsGroup first n events → is_entry first ≡ false → is_held (stepped m first n events) k ≡ is_held m k
step_holds m first n events k g none = held_as_made m first n events k (as_many m first n events k g none)

pub step_made : (m : Moment) (first : Event) (n : ℕ) (events : List Event) → IsGroup first n events → is_entry first ≡ false → AllMade m → AllMade (stepped m first n events)
step_made m first n events g none all k = made_as_before m first n events k (as_many m first n events k g none) (all k)

-- A step in which a call enters.

one_more : (m : Moment) (client n : ℕ) (op : Op) (events : List Event) → IsGroup (Entered client n op) n events → made_by (events ++ m.past) client ≡ made_by m.past client + 1
one_more m client n op events g = group_made (Entered client n op) n client events m.past g ∙ made_one_more m.past client n op

as_many_others : (m : Moment) (client n : ℕ) (op : Op) (events : List Event) (k : ℕ) → IsGroup (Entered client n op) n events → k ≢ client → made_by (events ++ m.past) k ≡ made_by m.past k
as_many_others m client n op events k g apart = group_made (Entered client n op) n k events m.past g ∙ made_by_others m.past client n k op apart

pub entry_keeps_others : (m : Moment) (client n : ℕ) (op : Op) (events : List Event) (k : ℕ) → IsGroup (Entered client n op) n events → k ≢ client
    → kept (stepped m (Entered client n op) n events) k ≡ kept m k
entry_keeps_others m client n op events k g apart = kept_as_made m (Entered client n op) n events k (as_many_others m client n op events k g apart)

pub entry_holds_others : (m : Moment) (client n : ℕ) (op : Op) (events : List Event) (k : ℕ) → IsGroup (Entered client n op) n events → k ≢ client
    → is_held (stepped m (Entered client n op) n events) k ≡ is_held m k
entry_holds_others m client n op events k g apart = held_as_made m (Entered client n op) n events k (as_many_others m client n op events k g apart)

head_or : List Line → Line → Line
head_or [] d = d
head_or (x ∷ xs) d = x

-- Holds if the first kept line comes right after the lines that were entered.
record Taken (m : Moment) (client : ℕ) (line : Line) (rest : List Line) : Type 0 where
  within : made_by m.past client < length (lines_of m.lines client)
  here : slice_index_or (lines_of m.lines client) (made_by m.past client) Skip ≡ line
  behind : drop (made_by m.past client + 1) (lines_of m.lines client) ≡ rest

taken : (m : Moment) (client : ℕ) (line : Line) (rest : List Line) → kept m client ≡ line ∷ rest → Taken m client line rest
unfolding head_or
taken m client line rest first =
    let within = kept_among m client (ap (λ xs. not (is_empty xs)) first) in
    let split = sym (drop_more (lines_of m.lines client) (made_by m.past client) Skip within) ∙ first in
    record { within = within; here = ap (λ xs. head_or xs Skip) split; behind = ap (drop 1) split }

pub entry_takes : (m : Moment) (client n : ℕ) (op : Op) (events : List Event) (line : Line) (rest : List Line) → IsGroup (Entered client n op) n events → kept m client ≡ line ∷ rest
    → kept (stepped m (Entered client n op) n events) client ≡ rest
entry_takes m client n op events line rest g first =
    let t = taken m client line rest first in
    ap (λ i. drop i (lines_of m.lines client)) (one_more m client n op events g) ∙ t.behind

pub entry_holds : (m : Moment) (client n : ℕ) (op : Op) (events : List Event) (line : Line) (rest : List Line) → IsGroup (Entered client n op) n events → kept m client ≡ line ∷ rest
    → is_held (stepped m (Entered client n op) n events) client ≡ (not m.released && is_start line)
entry_holds m client n op events line rest g first =
    let t = taken m client line rest first in
    let more = one_more m client n op events g in
    let last : made_by (events ++ m.past) client - 1 ≡ made_by m.past client = omega (arith, more) in
    ap (λ i. not m.released && is_start (slice_index_or (lines_of m.lines client) i Skip)) last ∙ ap (λ it. not m.released && is_start it) t.here

pub entry_made : (m : Moment) (client n : ℕ) (op : Op) (events : List Event) (line : Line) (rest : List Line) → IsGroup (Entered client n op) n events → kept m client ≡ line ∷ rest → AllMade m
    → AllMade (stepped m (Entered client n op) n events)
entry_made m client n op events line rest g first all k = by (same_or_not k client)
  where
    by : (k ≡ client) ⊎ (k ≢ client) → made_by (events ++ m.past) k ≤ length (lines_of m.lines k)
    by (inl same) =
        let t = taken m client line rest first in
        let within = t.within in
        let more = one_more m client n op events g in
        subst (λ j. made_by (events ++ m.past) j ≤ length (lines_of m.lines j)) (sym same) (omega (arith, more, within))
    by (inr apart) = made_as_before m (Entered client n op) n events k (as_many_others m client n op events k g apart) (all k)

-- A free client may enter its first kept line.

enters_first : (m : Moment) (client n : ℕ) (op : Op) (line : Line) (rest : List Line) → is_free m.past client ≡ true → kept m client ≡ line ∷ rest → is_next op (line ∷ rest) ≡ true
    → may_enter m (Entered client n op) ≡ true
enters_first m client n op line rest free first next = together (is_free m.past client) (is_next op (kept m client)) free (ap (is_next op) first ∙ next)

pub call_may_enter : (m : Moment) (client n : ℕ) (op : Op) (rest : List Line) → is_free m.past client ≡ true → kept m client ≡ Client client op ∷ rest → may_enter m (Entered client n op) ≡ true
call_may_enter m client n op rest free first = enters_first m client n op (Client client op) rest free first (op_itself op)

pub start_may_enter : (m : Moment) (client n : ℕ) (op : Op) (rest : List Line) → is_free m.past client ≡ true → kept m client ≡ Start client op ∷ rest → may_enter m (Entered client n op) ≡ true
start_may_enter m client n op rest free first = enters_first m client n op (Start client op) rest free first (op_itself op)

pub line_may_enter : (m : Moment) (client n : ℕ) (op : Op) (holds : Bool) (rest : List Line) → is_free m.past client ≡ true → kept m client ≡ cond holds (Start client op) (Client client op) ∷ rest
    → may_enter m (Entered client n op) ≡ true
line_may_enter m client n op true rest free first = start_may_enter m client n op rest free first
line_may_enter m client n op false rest free first = call_may_enter m client n op rest free first
