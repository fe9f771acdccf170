-- A call in a transaction has sent nothing yet, awaits an answer, or has settled its reply.
use Rattle.std.proofs.Common.{◌≡◌, ℕ, ◌⊎◌, inl, inr, true, false, List, ◌∷◌, length, Some, None, is_some, refl, ap, subst, ◌∙◌}
use Rattle.dsql_laws_calls.specs.driver.declared.caps.Caps.{Caps}
use Rattle.dsql_laws_calls.specs.course.Made.{Exchange, own_cursor}
use Rattle.dsql_laws_calls.specs.course.declared.course.Wish.TheVariants as wishes
use Rattle.dsql_laws_calls.specs.journal.declared.entry.Entry.{Entry}
use Rattle.dsql_laws_calls.specs.journal.declared.entry.Owner.{Owner}
use Rattle.dsql_laws_calls.specs.journal.Kinds.{number_of}
use Rattle.dsql_laws_calls.specs.journal.Readers.{of_tenure, went_bad}
use Rattle.dsql_laws_calls.specs.pool.declared.conn.Place.TheVariants.{Lent}
use Rattle.dsql_laws_calls.specs.works.Exchanges.{exchanges}
use Rattle.dsql_laws_calls.specs.works.Line.{Asked, handed, sent_as}
use Rattle.dsql_laws_calls.specs.works.declared.work.Aim.{Aim}
use Rattle.dsql_laws_calls.specs.works.declared.work.Aim.TheVariants as aims
use Rattle.dsql_laws_calls.specs.history.Rules.Wishes.{newest_sender}
use Rattle.dsql_laws_calls.specs.history.declared.event.Event.{Event}
use Rattle.dsql_laws_calls.specs.history.declared.work.Scope.TheVariants.{Held}
use Rattle.dsql_laws_calls.specs.history.Readers.Course.{caps}
use Rattle.dsql_laws_calls.specs.history.Readers.Calls.{decided}
use Rattle.dsql_laws_calls.specs.history.Readers.Journals.{journal, heard_in}
use Rattle.dsql_laws_calls.specs.history.Readers.Lines.{line_among, has_sent}
use Rattle.dsql_laws_calls.specs.history.Readers.Pool.{place}
use Rattle.dsql_laws_calls.specs.history.Readers.Transactions.{is_begun}
use Rattle.dsql_laws_calls.specs.history.Readers.Unfinished.{is_unfinished}
use Rattle.dsql_laws_calls.specs.history.Readers.Works.{work, scope}
use Rattle.dsql_laws_calls.specs.history.Rules.Sent.{asked_by, untested}
use Rattle.dsql_laws_calls.specs.history.Legal.{Allowed, Lawful}
use Rattle.dsql_laws_calls.proofs.Lent.{stays_lent, lent_before}
use Rattle.dsql_laws_calls.proofs.Stays.{asked_stays}
use Rattle.dsql_laws_calls.proofs.Begun.{begun_begins, stays_begun}
use Rattle.dsql_laws_calls.proofs.Beginnings.{begin_owner, lent_once_begun}
use Rattle.dsql_laws_calls.proofs.BeginningsAt.{is_answer, heard_same, beginnings}
use Rattle.dsql_laws_calls.proofs.Inside.{inside_busy}
use Rattle.dsql_laws_calls.proofs.Lines.{line_there, caps_stay}
use Rattle.dsql_laws_calls.proofs.Quiet as of_quiet
use Rattle.dsql_laws_calls.proofs.Quiet.{next_inside}
use Rattle.dsql_laws_calls.proofs.DueWay as of_due
use Rattle.dsql_laws_calls.proofs.UnderWay.{line_made}
use Rattle.dsql_laws_calls.proofs.Why.{ended_there, tx_used}
use Rattle.dsql_laws_replies.proofs.InnerAwaits.{Fresh, Awaiting, inner_sends}
use Rattle.dsql_laws_replies.proofs.InnerOver.{Over}
use Rattle.dsql_laws_replies.proofs.Records.{record_stays}

-- Holds if nothing was heard for call n.
abbrev pub Unsent : List Event → ℕ → Type 0
Unsent H n = (c : ℕ) → has_sent n (journal H c) ≡ false

abbrev AwaitsAt : Caps → Asked → List Exchange → Type 0
AwaitsAt can asked made = Awaiting can asked.aim (length asked.params) made

abbrev OverAt : Caps → Asked → List Exchange → Type 0
OverAt can asked made = Over can asked.aim (length asked.params) made

-- Holds if call n sent the newest driver call of transaction k, and awaits an answer.
pub record InAwaits (H : List Event) (n k : ℕ) : Type 0 where
  pub conn : ℕ
  pub tenure : ℕ
  pub owner : Owner
  pub number : number_of owner ≡ k
  pub lent : place H conn ≡ Some (Lent tenure owner)
  pub begun : is_begun H k ≡ true
  pub newest : newest_sender (heard_in H conn tenure) ≡ n
  pub none : ended_there (heard_in H conn tenure) ≡ false
  pub awaited : AwaitsAt (caps H) (asked_by H n) (line_made H conn tenure n)

-- Holds if an answer has decided for call n.
pub record IsOver (H : List Event) (n k : ℕ) : Type 0 where
  pub told : is_some (decided H n) ≡ true
  pub begun : is_begun H k ≡ true
  pub over : (c t : ℕ) (own : Owner) → place H c ≡ Some (Lent t own) → number_of own ≡ k → OverAt (caps H) (asked_by H n) (line_made H c t n)

abbrev pub Inner : List Event → ℕ → ℕ → Type 0
Inner H n k = (Unsent H n × ((is_some (decided H n) ≡ true) ⊎ (is_begun H k ≡ true))) ⊎ (InAwaits H n k ⊎ IsOver H n k)

pub awaits_as : (ca cb : Caps) (x y : Asked) (n : ℕ) (L M : List Entry) → cb ≡ ca → y ≡ x → M ≡ L → AwaitsAt ca x (exchanges (line_among n L)) → AwaitsAt cb y (exchanges (line_among n M))
awaits_as ca cb x y n L M a b c h = rw (a, b, c) h

pub over_as : (ca cb : Caps) (x y : Asked) (n : ℕ) (L M : List Entry) → cb ≡ ca → y ≡ x → M ≡ L → OverAt ca x (exchanges (line_among n L)) → OverAt cb y (exchanges (line_among n M))
over_as ca cb x y n L M a b c h = rw (a, b, c) h

-- The transaction keeps its connection.
awaits_lent : (H : List Event) (e : Event) (n k : ℕ) → Lawful (e ∷ H) → (a : InAwaits H n k) → place (e ∷ H) a.conn ≡ Some (Lent a.tenure a.owner)
awaits_lent H e n k l a = stays_lent H e a.conn a.tenure a.owner l.0 l.1 a.lent (tx_used H a.conn a.tenure a.owner l.0 a.lent (record { begun = ap (is_begun H) a.number ∙ a.begun; left = inl a.none }))

-- If nothing more was heard on the connection, the call still awaits an answer.
pub awaits_still : (H : List Event) (e : Event) (n k : ℕ) → Lawful (e ∷ H) → scope (work H n) ≡ Held k → (a : InAwaits H n k) → journal (e ∷ H) a.conn ≡ journal H a.conn → InAwaits (e ∷ H) n k
awaits_still H e n k l s a J = record {
  conn = a.conn;
  tenure = a.tenure;
  owner = a.owner;
  number = a.number;
  lent = awaits_lent H e n k l a;
  begun = stays_begun H e k a.begun;
  newest = ap (λ j. newest_sender (of_tenure a.tenure j)) J ∙ a.newest;
  none = ap (λ j. ended_there (of_tenure a.tenure j)) J ∙ a.none;
  awaited =
      awaits_as (caps H) (caps (e ∷ H)) (asked_by H n) (asked_by (e ∷ H) n) n (heard_in H a.conn a.tenure) (heard_in (e ∷ H) a.conn a.tenure) (caps_stay H e a.conn (Lent a.tenure a.owner) l.1 a.lent)
      (asked_stays H e n (inside_busy (work H n) k s)) (ap (of_tenure a.tenure) J) a.awaited;
}

pub over_at : (H : List Event) (e : Event) (n k : ℕ) → Lawful (e ∷ H) → scope (work H n) ≡ Held k → IsOver H n k → (c t : ℕ) (own : Owner) → place H c ≡ Some (Lent t own) → number_of own ≡ k → journal (e ∷ H) c ≡ journal H c → OverAt (caps (e ∷ H)) (asked_by (e ∷ H) n) (line_made (e ∷ H) c t n)
over_at H e n k l s o c t own is number J =
    over_as (caps H) (caps (e ∷ H)) (asked_by H n) (asked_by (e ∷ H) n) n (heard_in H c t) (heard_in (e ∷ H) c t) (caps_stay H e c (Lent t own) l.1 is) (asked_stays H e n (inside_busy (work H n) k s)) (ap (of_tenure t) J)
    (o.over c t own is number)

-- The event isn't an answer.
pub inner_quiet : (H : List Event) (e : Event) (n k : ℕ) → Lawful (e ∷ H) → is_answer e ≡ false → is_unfinished (e ∷ H) n ≡ true → scope (work H n) ≡ Held k → Inner H n k → Inner (e ∷ H) n k
inner_quiet H e n k l none u s i = by i
  where
    same : is_some (decided (e ∷ H) n) ≡ is_some (decided H n)
    same = ap (λ r. is_some r.decided) (record_stays H e n l.1 none (inside_busy (work H n) k s) u)

    by : Inner H n k → Inner (e ∷ H) n k
    by (inl (unsent, inl d)) = inl (λ c. ap (has_sent n) (heard_same H e c none) ∙ unsent c, inl (same ∙ d))
    by (inl (unsent, inr b)) = inl (λ c. ap (has_sent n) (heard_same H e c none) ∙ unsent c, inr (stays_begun H e k b))
    by (inr (inl a)) = inr (inl (awaits_still H e n k l s a (heard_same H e a.conn none)))
    by (inr (inr o)) = inr (inr (record {
      told = same ∙ o.told;
      begun = stays_begun H e k o.begun;
      over = λ c t own is number.
          elim (lent_before H e c t own l.0 is) [
            | inl before ↦ over_at H e n k l s o c t own before number (heard_same H e c none)
            | inr w ↦ absurd (lent_once_begun H c t own w.0 l.0 (subst (λ x. Allowed H x) w.1 l.1) (beginnings H l.0) (ap (is_begun H) number ∙ o.begun))
          ];
    }))

-- The event is an answer.

-- A call that awaits an answer has handed out no rows.
pub unhanded : (can : Caps) (aim : Aim) (count : ℕ) (made : List Exchange) → Awaiting can aim count made → handed aim made ≡ None
unhanded can aim count made (inr (inr (one, x))) = ap (λ a. handed a made) one
unhanded can aims.HandOut count made (inl (inl f)) = rw f refl
unhanded can aims.HandOut count made (inl (inr f)) = rw f refl
unhanded can aims.HandOut count made (inr (inl p)) = rw p.is (opened p.rest p.before)
  where
    opened : (rest : List Exchange) → Fresh rest → own_cursor rest ≡ None
    opened rest (inl f) = rw f refl
    opened rest (inr f) = rw f refl
unhanded can _ count made h = refl

-- So the next step of its course comes next in its line.
line_next : (H : List Event) (c t : ℕ) (own : Owner) (n k : ℕ) → Lawful H → place H c ≡ Some (Lent t own) → number_of own ≡ k → is_begun H k ≡ true → scope (work H n) ≡ Held k → handed (asked_by H n).aim (line_made H c t n) ≡ None
    → line_there H c t own n wishes.Nothing ≡ sent_as (untested (caps H)) (asked_by H n) (next_inside (caps H) (went_bad (journal H c)) (asked_by H n) (line_made H c t n))
line_next H c t own n k l is number begun s none =
    of_due.inner_is H c t own n wishes.Nothing k (begin_owner H c t own l is (begun_begins H (number_of own) l (ap (is_begun H) number ∙ begun))) s
    ∙ of_quiet.inner_is (caps H) (went_bad (journal H c)) (asked_by H n) wishes.Nothing (line_among n (heard_in H c t)) none

pub awaiting_line : (H : List Event) (c t : ℕ) (own : Owner) (n k : ℕ) → Lawful H → place H c ≡ Some (Lent t own) → number_of own ≡ k → is_begun H k ≡ true → scope (work H n) ≡ Held k → AwaitsAt (caps H) (asked_by H n) (line_made H c t n)
    → is_some (line_there H c t own n wishes.Nothing) ≡ true
awaiting_line H c t own n k l is number begun s h =
    ap (λ d. is_some d) (line_next H c t own n k l is number begun s (unhanded (caps H) (asked_by H n).aim (length (asked_by H n).params) (line_made H c t n) h))
    ∙ inner_sends (caps H) (went_bad (journal H c)) (asked_by H n).text (asked_by H n).params (work H n) k (line_made H c t n) s h
