-- A call that was lent a connection and awaits an answer there sends something, so it keeps the connection.
use Rattle.std.proofs.Common.{◌≡◌, ◌≢◌, ℕ, ◌==◌, ◌⊎◌, inl, inr, Bool, true, false, ◌||◌, List, [], ◌∷◌, length, Option, Some, None, is_some, refl, sym, ap, subst, ◌∙◌}
use Rattle.std.specs.Option.{option_map}
use Rattle.dsql_laws_calls.specs.driver.declared.call.DriverCall.TheVariants as calls_of
use Rattle.dsql_laws_calls.specs.course.Made.{own_cursor}
use Rattle.dsql_laws_calls.specs.course.declared.course.Wish.TheVariants as wishes
use Rattle.dsql_laws_calls.specs.journal.declared.entry.Entry.{Entry}
use Rattle.dsql_laws_calls.specs.journal.declared.entry.Owner.{Owner}
use Rattle.dsql_laws_calls.specs.journal.Kinds.{is_call, number_of}
use Rattle.dsql_laws_calls.specs.journal.Readers.{of_tenure}
use Rattle.dsql_laws_calls.specs.pool.declared.conn.Conn.{Conn}
use Rattle.dsql_laws_calls.specs.pool.declared.conn.Place.TheVariants.{Lent}
use Rattle.dsql_laws_calls.specs.pool.declared.moves.Move.TheVariants.{Lend}
use Rattle.dsql_laws_calls.specs.pool.Changes.{lent}
use Rattle.dsql_laws_calls.specs.pool.Places.{conn_of, is_idle, is_opening}
use Rattle.dsql_laws_calls.proofs.pool.Found.{found_changed}
use Rattle.dsql_laws_calls.specs.works.Exchanges.{exchanges}
use Rattle.dsql_laws_calls.specs.works.Line.{Asked, handed}
use Rattle.dsql_laws_calls.specs.works.declared.work.Aim.TheVariants as aims
use Rattle.dsql_laws_calls.proofs.laws_work.Rows.{same_or_not}
use Rattle.dsql_laws_calls.proofs.Found.{place_in}
use Rattle.dsql_laws_replies.proofs.Awaited.{is_one, needs_answer, awaits, awaited_due, handed_awaits}
use Rattle.dsql_laws_calls.specs.history.declared.event.Event.{Event}
use Rattle.dsql_laws_calls.specs.history.declared.event.Event.TheVariants.{Heard, Pool}
use Rattle.dsql_laws_calls.specs.history.declared.work.Work.{Work}
use Rattle.dsql_laws_calls.specs.history.declared.work.Task.TheVariants as tasks
use Rattle.dsql_laws_calls.specs.history.declared.work.Work.TheVariants as works_of
use Rattle.dsql_laws_calls.specs.history.Readers.Course.{caps}
use Rattle.dsql_laws_calls.specs.history.Readers.HandedOut.{rows_by}
use Rattle.dsql_laws_calls.specs.history.Readers.Journals.{heard_in}
use Rattle.dsql_laws_calls.specs.history.Readers.Lines.{is_about, line_among}
use Rattle.dsql_laws_calls.specs.history.Readers.Pool.{pool, place}
use Rattle.dsql_laws_calls.specs.history.Readers.Unfinished.{is_unfinished}
use Rattle.dsql_laws_calls.specs.history.Readers.Works.{work, asks, aim_of, owner_as}
use Rattle.dsql_laws_calls.specs.history.Rules.Line.{is_used, sends_from}
use Rattle.dsql_laws_calls.specs.history.Rules.Sent.{asked_by, is_reset_due}
use Rattle.dsql_laws_calls.specs.history.Legal.{Allowed, Lawful}
use Rattle.dsql_laws_calls.proofs.laws.Tried.{lends_to}
use Rattle.dsql_laws_calls.proofs.Owners.{owner_is_of}
use Rattle.dsql_laws_calls.proofs.Lent.{stays_lent}
use Rattle.dsql_laws_calls.proofs.Looks.{heard_there}
use Rattle.dsql_laws_calls.proofs.Stays.{not_looking, work_stays, asked_stays}
use Rattle.dsql_laws_calls.proofs.Plain.{begins}
use Rattle.dsql_laws_calls.proofs.Makers.{hands_out, rows_hand_out}
use Rattle.dsql_laws_calls.proofs.Begun.{begun_begins}
use Rattle.dsql_laws_calls.proofs.Beginnings.{begin_owner, begin_there}
use Rattle.dsql_laws_calls.proofs.BeginningsAt.{heard_more, heard_other, beginnings}
use Rattle.dsql_laws_calls.proofs.CallTenures.{line_of_call}
use Rattle.dsql_laws_calls.proofs.LineParts.{about_none, grows}
use Rattle.dsql_laws_calls.proofs.Lines.{line_there}
use Rattle.dsql_laws_calls.proofs.Own.{own_used}
use Rattle.dsql_laws_calls.proofs.RowsNew.{held}
use Rattle.dsql_laws_calls.proofs.Tenures.{fresh_lending}
use Rattle.dsql_laws_calls.proofs.UnderWay.{UnderWay}
use Rattle.dsql_laws_calls.proofs.Untried.{moves_of}
use Rattle.dsql_laws_calls.proofs.Why.{Why}
use Rattle.dsql_laws_calls.proofs.Coming.{sound}
use Rattle.dsql_laws_calls.proofs.Sound.{same_lent}
use Rattle.dsql_laws_replies.proofs.Begins.{begin_awaits, begin_sends}

never : (b : Bool) → b ≡ true → b ≡ false → ⊥
never b x y = cc

-- Is true if the call awaits an answer, by what was heard in its tenure.
abbrev pub awaited_by : Work → Asked → ℕ → List Entry → Bool
awaited_by (works_of.Begin label level read_only) asked n L = begin_awaits (line_among n L)
awaited_by w asked n L = awaits (is_one asked.aim) L (length asked.params)

pub begin_awaited : (w : Work) (asked : Asked) (n : ℕ) (L : List Entry) → begins w ≡ true → awaited_by w asked n L ≡ begin_awaits (line_among n L)
begin_awaited (works_of.Begin label level read_only) asked n L h = refl
begin_awaited w asked n L h = absurd cc

pub plain_awaited : (w : Work) (asked : Asked) (n : ℕ) (L : List Entry) → begins w ≡ false → awaited_by w asked n L ≡ awaits (is_one asked.aim) L (length asked.params)
plain_awaited (works_of.Begin label level read_only) asked n L h = absurd cc
plain_awaited w asked n L h = refl

awaits_first : (w : Work) (asked : Asked) (n : ℕ) → awaited_by w asked n [] ≡ true
awaits_first (works_of.Begin label level read_only) asked n = refl
awaits_first w asked n = refl

pub awaited_as : (v w : Work) (x y : Asked) (n : ℕ) (L M : List Entry) → w ≡ v → y ≡ x → M ≡ L → awaited_by v x n L ≡ true → awaited_by w y n M ≡ true
awaited_as v w x y n L M a b c h = rw (a, b, c) h

-- Holds if it takes an answer to decide for call n.
abbrev pub Needs : List Event → ℕ → Type 0
Needs H n = needs_answer (caps H) (aim_of (work H n)) ≡ true

pub record Awaits (H : List Event) (n : ℕ) : Type 0 where
  pub conn : ℕ
  pub tenure : ℕ
  pub owner : Owner
  pub number : number_of owner ≡ n
  pub lent : place H conn ≡ Some (Lent tenure owner)
  pub awaited : awaited_by (work H n) (asked_by H n) n (heard_in H conn tenure) ≡ true

-- If the call that is lent a connection begins no transaction, the connection's owner is a call.
pub plain_call : (H : List Event) (c t : ℕ) (own : Owner) → Lawful H → place H c ≡ Some (Lent t own) → begins (work H (number_of own)) ≡ false → is_call own ≡ true
plain_call H c t own l is plain = let o = owner_is_of H c t own l is in ap is_call o.1 ∙ by (work H (number_of own)) plain
  where
    by : (w : Work) → begins w ≡ false → is_call (owner_as w (number_of own)) ≡ true
    by (works_of.Begin label level read_only) h = absurd cc
    by w h = refl

-- A call that awaits an answer sends something.
sends_there : (H : List Event) (c t : ℕ) (own : Owner) → Lawful H → place H c ≡ Some (Lent t own) → Needs H (number_of own) → awaited_by (work H (number_of own)) (asked_by H (number_of own)) (number_of own) (heard_in H c t) ≡ true
    → is_some (line_there H c t own (number_of own) wishes.Nothing) ≡ true
sends_there H c t own l is needs h = by (begins (work H (number_of own))) refl
  where
    by : (b : Bool) → begins (work H (number_of own)) ≡ b → is_some (line_there H c t own (number_of own) wishes.Nothing) ≡ true
    by true begin =
        let at = begin_there H c t own begin (begin_owner H c t own l is begin) in
        ap (λ d. is_some d) at.2
        ∙ begin_sends (caps H) (is_reset_due H c) (calls_of.Begin at.0 at.1) (line_among (number_of own) (heard_in H c t))
        (sym (begin_awaited (work H (number_of own)) (asked_by H (number_of own)) (number_of own) (heard_in H c t) begin) ∙ h)
    by false plain =
        let call = plain_call H c t own l is plain in
        let s = sound H l in
        let f = s.facts in
        ap (λ d. is_some d) (line_of_call H c t own wishes.Nothing l is call)
        ∙ awaited_due (caps H) (is_reset_due H c) (asked_by H (number_of own)) wishes.Nothing (heard_in H c t) needs (f.made c t own is call)
        (sym (plain_awaited (work H (number_of own)) (asked_by H (number_of own)) (number_of own) (heard_in H c t) plain) ∙ h)

pub awaiting_sends : (H : List Event) (n : ℕ) → Lawful H → Needs H n → (a : Awaits H n) → is_some (line_there H a.conn a.tenure a.owner n wishes.Nothing) ≡ true
awaiting_sends H n l needs a =
    subst (λ k. is_some (line_there H a.conn a.tenure a.owner k wishes.Nothing) ≡ true) a.number
    (sends_there H a.conn a.tenure a.owner l a.lent (subst (λ k. Needs H k) (sym a.number) needs)
    (subst (λ k. awaited_by (work H k) (asked_by H k) k (heard_in H a.conn a.tenure) ≡ true) (sym a.number) a.awaited))

-- So its connection is in use.
awaiting_used : (H : List Event) (n : ℕ) → Lawful H → is_unfinished H n ≡ true → Needs H n → (a : Awaits H n) → is_used H (number_of a.owner) ≡ true
awaiting_used H n l u needs a =
    own_used H a.conn a.tenure a.owner l a.lent (ap (is_unfinished H) a.number ∙ u)
    (subst (λ k. is_some (line_there H a.conn a.tenure a.owner k wishes.Nothing) ≡ true) (sym a.number) (awaiting_sends H n l needs a))

pub awaiting_stays : (H : List Event) (e : Event) (n : ℕ) → Lawful (e ∷ H) → is_unfinished H n ≡ true → Needs H n → (a : Awaits H n) → place (e ∷ H) a.conn ≡ Some (Lent a.tenure a.owner)
awaiting_stays H e n l u needs a = stays_lent H e a.conn a.tenure a.owner l.0 l.1 a.lent (awaiting_used H n l.0 u needs a)

busy_so : (H : List Event) (n : ℕ) → asks (work H n) ≡ true → work H n ≡ works_of.Look → ⊥
busy_so H n own = not_looking (work H n) own

-- If nothing more was heard on the connection, the call still awaits an answer.
pub still_awaits : (H : List Event) (e : Event) (n : ℕ) → Lawful (e ∷ H) → is_unfinished H n ≡ true → asks (work H n) ≡ true → Needs H n → (a : Awaits H n) → heard_in (e ∷ H) a.conn a.tenure ≡ heard_in H a.conn a.tenure → Awaits (e ∷ H) n
still_awaits H e n l u own needs a same = record {
  conn = a.conn;
  tenure = a.tenure;
  owner = a.owner;
  number = a.number;
  lent = awaiting_stays H e n l u needs a;
  awaited =
      awaited_as (work H n) (work (e ∷ H) n) (asked_by H n) (asked_by (e ∷ H) n) n (heard_in H a.conn a.tenure) (heard_in (e ∷ H) a.conn a.tenure) (work_stays H e n (busy_so H n own)) (asked_stays H e n (busy_so H n own)) same
      a.awaited;
}

-- A connection is lent to the call.

lent_in : (found : Option Conn) (t k : ℕ) (o : Owner) → (is_idle (place_in found) || is_opening (place_in found)) ≡ true → place_in (option_map (lent t o k) found) ≡ Some (Lent t o)
lent_in None t k o h = absurd cc
lent_in (Some x) t k o h = refl

pub lends_there : (H : List Event) (c t : ℕ) (o : Owner) (m : ℕ) → Allowed H (Pool (Lend c t o m)) → place (Pool (Lend c t o m) ∷ H) c ≡ Some (Lent t o)
lends_there H c t o m a =
    ap place_in (found_changed c (lent t o (pool H).moment) (λ x. refl) (pool H).conns) ∙ lent_in (conn_of c (pool H).conns) t (pool H).moment o (moves_of H c t o m a)

pub awaits_lent : (H : List Event) (c t : ℕ) (o : Owner) (m : ℕ) → Lawful (Pool (Lend c t o m) ∷ H) → Awaits (Pool (Lend c t o m) ∷ H) m
awaits_lent H c t o m l = record {
  conn = c;
  tenure = t;
  owner = o;
  number = sym (lends_to H c t o m l.1);
  lent = lends_there H c t o m l.1;
  awaited = ap (awaited_by (work H m) (asked_by H m) m) (fresh_lending H c t o m l.0 l.1) ∙ awaits_first (work H m) (asked_by H m) m;
}

-- The answer is for another call.

-- What is heard on a lent connection was under way there.
pub under_way : (H : List Event) (e : Entry) (t : ℕ) (own : Owner) → Lawful (Heard e ∷ H) → place H e.conn ≡ Some (Lent t own) → (u : UnderWay H e) × (u.owner ≡ own)
under_way H e t own l is =
    let there = heard_there H e l.1 in
    let line : sends_from H (Some (Lent t own)) e ≡ true = subst (λ at. sends_from H at e ≡ true) is there.line in
    let s = sound H l.0 in
    let u = s.coming e line in
    let same = same_lent e.tenure t u.owner own (sym u.lent ∙ is) in
    (u, same.1)

-- A call that has made rows opened them in its tenure, so it awaits no answer.
opened : (H : List Event) (c t : ℕ) (own : Owner) → Lawful H → place H c ≡ Some (Lent t own) → begins (work H (number_of own)) ≡ false → is_some (rows_by H (number_of own)) ≡ true
    → awaits (is_one (asked_by H (number_of own)).aim) (heard_in H c t) (length (asked_by H (number_of own)).params) ≡ false
opened H c t own l is plain some = by (own_cursor (exchanges (heard_in H c t))) refl (held H c t own l is some)
  where
    handing : (w : Work) → hands_out w ≡ true → aim_of w ≡ aims.HandOut
    handing (works_of.Statement scope (tasks.HandOut label)) h = refl
    handing w h = absurd cc

    by : (o : Option ℕ) → own_cursor (exchanges (heard_in H c t)) ≡ o → is_some o ≡ true → awaits (is_one (asked_by H (number_of own)).aim) (heard_in H c t) (length (asked_by H (number_of own)).params) ≡ false
    by None cursor h = absurd cc
    by (Some r) cursor h =
        let s = sound H l in
        let f = s.facts in
        let aim = handing (work H (number_of own)) (rows_hand_out H (number_of own) some) in
        handed_awaits (caps H) (asked_by H (number_of own)) (heard_in H c t) r (f.made c t own is (plain_call H c t own l is plain)) (ap (λ a. handed a (exchanges (heard_in H c t))) aim ∙ cursor)

-- While a call awaits an answer, no other call sends on its connection.
nobody_else : (H : List Event) (e : Entry) (t : ℕ) (own : Owner) → Lawful (Heard e ∷ H) → place H e.conn ≡ Some (Lent t own) → begins (work H (number_of own)) ≡ false → number_of own ≢ e.call_no
    → awaits (is_one (asked_by H (number_of own)).aim) (heard_in H e.conn t) (length (asked_by H (number_of own)).params) ≡ true → ⊥
nobody_else H e t own l is plain apart h = let u = under_way H e t own l is in by u.0 u.1
  where
    why : Why H e.conn e.tenure own e.call_no → ⊥
    why (inl its) = apart its.itself
    why (inr (inl rows)) = never (awaits (is_one (asked_by H (number_of own)).aim) (heard_in H e.conn t) (length (asked_by H (number_of own)).params)) h (opened H e.conn t own l.0 is plain rows.some)
    why (inr (inr tx)) = never (begins (work H (number_of own))) (begun_begins H (number_of own) l.0 tx.begun) plain

    by : (u : UnderWay H e) → u.owner ≡ own → ⊥
    by u same = why (subst (λ o. Why H e.conn e.tenure o e.call_no) same u.why)

-- What other calls send doesn't join the line of a begin.
begin_apart : (H : List Event) (e : Entry) (c t : ℕ) (own : Owner) → Lawful H → place H c ≡ Some (Lent t own) → begins (work H (number_of own)) ≡ true → (e.call_no == number_of own) ≡ false
    → line_among (number_of own) (e ∷ heard_in H c t) ≡ line_among (number_of own) (heard_in H c t)
begin_apart H e c t own l is begin other = by (grows (number_of own) e (heard_in H c t))
  where
    none : exchanges (line_among (number_of own) (heard_in H c t)) ≡ []
    none = let b = beginnings H l in b.steps c t own is begin

    by : (line_among (number_of own) (e ∷ heard_in H c t) ≡ line_among (number_of own) (heard_in H c t))
        ⊎ ((line_among (number_of own) (e ∷ heard_in H c t) ≡ e ∷ line_among (number_of own) (heard_in H c t)) × (((e.call_no == number_of own) ≡ true) ⊎ (is_about (exchanges (line_among (number_of own) (heard_in H c t))) e.call ≡ true)))
        → line_among (number_of own) (e ∷ heard_in H c t) ≡ line_among (number_of own) (heard_in H c t)
    by (inl same) = same
    by (inr (more, inl mine)) = absurd (never (e.call_no == number_of own) mine other)
    by (inr (more, inr about)) = absurd (never (is_about (exchanges (line_among (number_of own) (heard_in H c t))) e.call) about (ap (λ made. is_about made e.call) none ∙ about_none e.call))

pub other_awaits : (H : List Event) (e : Entry) (n : ℕ) → Lawful (Heard e ∷ H) → is_unfinished H n ≡ true → asks (work H n) ≡ true → Needs H n → (e.call_no == n) ≡ false → n ≢ e.call_no → Awaits H n → Awaits (Heard e ∷ H) n
other_awaits H e n l u own needs other apart a = by (same_or_not e.conn a.conn)
  where
    begin_case : e.conn ≡ a.conn → begins (work H n) ≡ true → Awaits (Heard e ∷ H) n
    begin_case here begin = record {
      conn = a.conn;
      tenure = a.tenure;
      owner = a.owner;
      number = a.number;
      lent = awaiting_stays H (Heard e) n l u needs a;
      awaited =
          awaited_as (work H n) (work H n) (asked_by H n) (asked_by (Heard e ∷ H) n) n (e ∷ heard_in H a.conn a.tenure) (heard_in (Heard e ∷ H) a.conn a.tenure) refl (asked_stays H (Heard e) n (busy_so H n own))
          (heard_more H e a.conn a.tenure a.owner l.1 a.lent here)
          (begin_awaited (work H n) (asked_by H n) n (e ∷ heard_in H a.conn a.tenure) begin ∙ ap begin_awaits unmoved ∙ (sym (begin_awaited (work H n) (asked_by H n) n (heard_in H a.conn a.tenure) begin) ∙ a.awaited));
    }
      where
        unmoved : line_among n (e ∷ heard_in H a.conn a.tenure) ≡ line_among n (heard_in H a.conn a.tenure)
        unmoved =
            subst (λ k. line_among k (e ∷ heard_in H a.conn a.tenure) ≡ line_among k (heard_in H a.conn a.tenure)) a.number
            (begin_apart H e a.conn a.tenure a.owner l.0 a.lent (ap (λ k. begins (work H k)) a.number ∙ begin) (ap (λ k. e.call_no == k) a.number ∙ other))

    plain_case : e.conn ≡ a.conn → begins (work H n) ≡ false → Awaits (Heard e ∷ H) n
    plain_case here plain =
        let there : place H e.conn ≡ Some (Lent a.tenure a.owner) = ap (place H) here ∙ a.lent in
        let h : awaits (is_one (asked_by H n).aim) (heard_in H a.conn a.tenure) (length (asked_by H n).params) ≡ true = sym (plain_awaited (work H n) (asked_by H n) n (heard_in H a.conn a.tenure) plain) ∙ a.awaited in
        absurd (nobody_else H e a.tenure a.owner l there (ap (λ k. begins (work H k)) a.number ∙ plain) (λ same. apart (sym a.number ∙ same))
        (subst (λ k. awaits (is_one (asked_by H k).aim) (heard_in H e.conn a.tenure) (length (asked_by H k).params) ≡ true) (sym a.number)
        (subst (λ c. awaits (is_one (asked_by H n).aim) (heard_in H c a.tenure) (length (asked_by H n).params) ≡ true) (sym here) h)))

    case : e.conn ≡ a.conn → (b : Bool) → begins (work H n) ≡ b → Awaits (Heard e ∷ H) n
    case here true is = begin_case here is
    case here false is = plain_case here is

    by : (e.conn ≡ a.conn) ⊎ (e.conn ≢ a.conn) → Awaits (Heard e ∷ H) n
    by (inl here) = case here (begins (work H n)) refl
    by (inr off) = still_awaits H (Heard e) n l u own needs a (ap (λ J. of_tenure a.tenure J) (heard_other H e a.conn off))
