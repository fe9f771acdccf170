-- The history is settled at each event from outside. Then a call that has settled its reply and has more to
-- send holds the turn on its connection. The call sent the newest driver call there, and only its own driver
-- calls may be answered there.
use Rattle.std.proofs.Common.{◌≡◌, ◌≢◌, ℕ, ◌==◌, ◌⊎◌, inl, inr, Bool, true, false, not, ◌&&◌, ◌||◌, cond, List, [], ◌∷◌, Some, None, is_some, refl, sym, ap, subst, ◌∙◌}
use Rattle.std.proofs.lemmas.Bool.{or_cases}
use Rattle.dsql_laws_calls.specs.journal.declared.entry.Entry.{Entry}
use Rattle.dsql_laws_calls.specs.journal.declared.entry.Owner.{Owner}
use Rattle.dsql_laws_calls.specs.journal.Kinds.{number_of}
use Rattle.dsql_laws_calls.specs.journal.Readers.{of_tenure}
use Rattle.dsql_laws_calls.specs.pool.declared.conn.Place.{Place}
use Rattle.dsql_laws_calls.specs.pool.declared.conn.Place.TheVariants.{Lent}
use Rattle.dsql_laws_calls.specs.pool.Places.{is_lent}
use Rattle.dsql_laws_calls.specs.history.Rules.Wishes.{newest_sender}
use Rattle.dsql_laws_calls.proofs.laws.Tests.{both, other_number, same_number}
use Rattle.dsql_laws_calls.proofs.laws_work.Rows.{same_or_not}
use Rattle.dsql_laws_calls.specs.history.declared.event.Event.{Event}
use Rattle.dsql_laws_calls.specs.history.declared.event.Event.TheVariants.{Heard}
use Rattle.dsql_laws_calls.specs.history.Readers.Calls.{site, decided}
use Rattle.dsql_laws_calls.specs.history.Readers.Journals.{journal, heard_in}
use Rattle.dsql_laws_calls.specs.history.Readers.Pool.{place, home}
use Rattle.dsql_laws_calls.specs.history.Readers.Works.{borrower}
use Rattle.dsql_laws_calls.specs.history.Rules.Line.{if_sending, holder, holder_at, has_turn, is_due_at, parts, may_come}
use Rattle.dsql_laws_calls.specs.history.Legal.{Lawful, Calm}
use Rattle.dsql_laws_calls.proofs.laws.Tried.{lends_to}
use Rattle.dsql_laws_calls.proofs.BeginningsAt.{is_answer, heard_same, heard_more, heard_other}
use Rattle.dsql_laws_calls.proofs.Coming.{stays_with_its_call}
use Rattle.dsql_laws_calls.proofs.Idle.{lends_from}
use Rattle.dsql_laws_calls.proofs.Lent.{Lends, lent_before}
use Rattle.dsql_laws_calls.proofs.Looks.{heard_there, comes}
use Rattle.dsql_laws_calls.proofs.Own.{due_now}
use Rattle.dsql_laws_calls.proofs.Told.{asks_undecided, wants_undecided}
use Rattle.dsql_laws_calls.proofs.UnderWay.{clash}
use Rattle.dsql_laws_others.proofs.Lends.{lends}
use Rattle.dsql_laws_others.proofs.LentBeside.{free_before, unlent_home}
use Rattle.dsql_laws_others.proofs.LentOthers.{due_others}
use Rattle.dsql_laws_others.proofs.Settling.{apart_of}
use Rattle.dsql_laws_answers.proofs.Elsewhere.{comes_there}
use Rattle.dsql_laws_answers.proofs.Due.{due_there}
use Rattle.dsql_laws_answers.proofs.Settled.{Settling, decided_not}
use Rattle.dsql_laws_answers.proofs.Deciding.{Deciding, its_site, was_deciding}

pub record Holding (H : List Event) : Type 0 where
  pub newest : (m c t : ℕ) (own : Owner) → Deciding H m c t own → newest_sender (heard_in H c t) ≡ m
  pub sender : (e : Entry) (m t : ℕ) (own : Owner) → may_come H e ≡ true → Deciding H m e.conn t own → e.call_no ≡ m

-- What is heard of a call is heard on the connection that it uses.
pub heard_at : (H : List Event) (e : Entry) (m c t : ℕ) (own : Owner) → Lawful (Heard e ∷ H) → place H c ≡ Some (Lent t own) → borrower H m ≡ number_of own → m ≢ 0 → e.call_no ≡ m → e.conn ≡ c
heard_at H e m c t own l is uses number same =
    let some : e.call_no ≢ 0 = λ none. number (sym same ∙ none) in
    let there = heard_there H e l.1 in
    let st = stays_with_its_call H e l.0 (comes H e (place H e.conn) there.sets there.line (other_number e.call_no 0 some)) in
    sym (st.site some) ∙ (ap (site H) same ∙ its_site H m c t own l.0 uses is)

-- A call to which a connection has just been lent has settled nothing, and no other call uses the connection
-- yet.
none_lent : {A : Type 0} → (H : List Event) (m c t : ℕ) (own : Owner) (k : ℕ) → Lawful (lends H c t own k) → Deciding (lends H c t own k) m c t own → A
none_lent H m c t own k l d = by (same_or_not m k)
  where
    s : Settling (lends H c t own k) m
    s = d.settling

    by : {A : Type 0} → (m ≡ k) ⊎ (m ≢ k) → A
    by (inl same) =
        decided_not (decided H m) s.decided
        (elim (lends_from H c t own k l.0 l.1) [
          | inl may ↦ ap (decided H) same ∙ asks_undecided H k may
          | inr wanting ↦ ap (decided H) same ∙ wants_undecided H k l.0 (λ none. s.number (same ∙ none)) wanting
        ])
    by (inr apart) =
        let due = ap (λ q. is_some q) (sym (due_others H c t own k m l apart)) ∙ d.sends in
        let there = due_there H m s.number due in
        let at : site H m ≡ home H k = ap (home H) (d.uses ∙ sym (lends_to H c t own k l.1)) in
        clash (sym (ap is_lent (sym (ap (place H) at) ∙ there.lent)) ∙ unlent_home H c t own k l)

kept_newest : (H : List Event) (last : Event) (m c t : ℕ) (own : Owner) → Holding H → journal (last ∷ H) c ≡ journal H c → Deciding H m c t own → newest_sender (heard_in (last ∷ H) c t) ≡ m
kept_newest H last m c t own h same d = ap (λ J. newest_sender (of_tenure t J)) same ∙ h.newest m c t own d

newest_heard : (H : List Event) (e : Entry) (m c t : ℕ) (own : Owner) → Lawful (Heard e ∷ H) → Calm (Heard e ∷ H) → Holding H → place H c ≡ Some (Lent t own) → Deciding (Heard e ∷ H) m c t own → newest_sender (heard_in (Heard e ∷ H) c t) ≡ m
newest_heard H e m c t own l calm h is d = by (same_or_not e.conn c) (same_or_not e.call_no m)
  where
    s : Settling (Heard e ∷ H) m
    s = d.settling

    before : e.call_no ≢ m → Deciding H m c t own
    before apart = was_deciding H (Heard e) m c t own l calm is (λ x same. subst (λ y. y.call_no ≢ m) (entry_of same) apart) d
      where
        entry_of : {x : Entry} → Heard e ≡ Heard x → e ≡ x
        entry_of same = cc

    by : (e.conn ≡ c) ⊎ (e.conn ≢ c) → (e.call_no ≡ m) ⊎ (e.call_no ≢ m) → newest_sender (heard_in (Heard e ∷ H) c t) ≡ m
    by (inl here) (inl same) = ap newest_sender (heard_more H e c t own l.1 is here) ∙ same
    by (inl here) (inr apart) =
        absurd (apart (h.sender e m t own (comes_there H e t own (record { lawful = l; lent = ap (place H) here ∙ is })) (subst (λ x. Deciding H m x t own) (sym here) (before apart))))
    by (inr away) (inl same) = absurd (away (heard_at H e m c t own l is d.uses s.number same))
    by (inr away) (inr apart) = kept_newest H (Heard e) m c t own h (heard_other H e c away) (before apart)

newest_quiet : (H : List Event) (last : Event) (m c t : ℕ) (own : Owner) → Lawful (last ∷ H) → Calm (last ∷ H) → Holding H → is_answer last ≡ false → place H c ≡ Some (Lent t own) → Deciding (last ∷ H) m c t own → newest_sender (heard_in (last ∷ H) c t) ≡ m
newest_quiet H last m c t own l calm h quiet is d =
    kept_newest H last m c t own h (heard_same H last c quiet)
    (was_deciding H last m c t own l calm is (λ e same. absurd (never (sym (ap is_answer same) ∙ quiet))) d)
  where
    never : true ≡ false → ⊥
    never x = cc

newest_next : (H : List Event) (last : Event) → Lawful (last ∷ H) → Calm (last ∷ H) → Holding H → (m c t : ℕ) (own : Owner) → Deciding (last ∷ H) m c t own → newest_sender (heard_in (last ∷ H) c t) ≡ m
newest_next H last l calm h m c t own d = from (lent_before H last c t own l.0 d.lent)
  where
    by : (e : Event) → last ≡ e → Lawful (e ∷ H) → Calm (e ∷ H) → place H c ≡ Some (Lent t own) → Deciding (e ∷ H) m c t own → newest_sender (heard_in (e ∷ H) c t) ≡ m
    by (Heard x) same lx cx is dx = newest_heard H x m c t own lx cx h is dx
    by e same lx cx is dx = newest_quiet H e m c t own lx cx h refl is dx

    from : (place H c ≡ Some (Lent t own)) ⊎ Lends last c t own → newest_sender (heard_in (last ∷ H) c t) ≡ m
    from (inl is) = by last refl l calm is d
    from (inr w) =
        none_lent H m c t own w.0 (subst (λ e. Lawful (e ∷ H)) w.1 l) (subst (λ e. Deciding (e ∷ H) m c t own) w.1 d)

-- Whose turn it is.

its_turn : (H : List Event) (e : Entry) (m t : ℕ) (own : Owner) → newest_sender (heard_in H e.conn t) ≡ m → has_turn H e.conn e.call_no ≡ true → Deciding H m e.conn t own → e.call_no ≡ m
its_turn H e m t own newest turn d = by (m == 0) (m == e.call_no) refl refl (sym (ap (λ k. (k == 0) || (k == e.call_no)) holds) ∙ turn)
  where
    s : Settling H m
    s = d.settling

    holds : holder H e.conn ≡ m
    holds = ap (holder_at H e.conn) d.lent ∙ (ap (if_sending H) newest ∙ ap (λ b. cond b m 0) d.sends)

    by : (a b : Bool) → (m == 0) ≡ a → (m == e.call_no) ≡ b → (a || b) ≡ true → e.call_no ≡ m
    by true b none same h = absurd (s.number (same_number m 0 none))
    by false true none same h = sym (same_number m e.call_no same)
    by false false none same h = absurd cc

not_so : (b : Bool) → not b ≡ true → b ≡ false
not_so true h = absurd cc
not_so false h = refl

came_before : (H : List Event) (last : Event) (e : Entry) (m t : ℕ) (own : Owner) → Lawful (last ∷ H) → Calm (last ∷ H) → Holding H → parts last e ≡ false → may_come H e ≡ true → Deciding (last ∷ H) m e.conn t own → e.call_no ≡ m
came_before H last e m t own l calm h on may d = from (lent_before H last e.conn t own l.0 d.lent)
  where
    s : Settling (last ∷ H) m
    s = d.settling

    heard_apart : (x : Entry) → last ≡ Heard x → place H e.conn ≡ Some (Lent t own) → x.call_no ≢ m
    heard_apart x same is its =
        let uses : borrower (Heard x ∷ H) m ≡ number_of own = subst (λ y. borrower (y ∷ H) m ≡ number_of own) same d.uses in
        let there : x.conn ≡ e.conn = heard_at H x m e.conn t own (subst (λ y. Lawful (y ∷ H)) same l) is uses s.number its in
        let off : (x.conn == e.conn) ≡ false = sym (ap (λ y. parts y e) same) ∙ on in
        apart_of x.conn e.conn off there

    from : (place H e.conn ≡ Some (Lent t own)) ⊎ Lends last e.conn t own → e.call_no ≡ m
    from (inl is) = h.sender e m t own may (was_deciding H last m e.conn t own l calm is (λ x same. heard_apart x same is) d)
    from (inr w) =
        let st = stays_with_its_call H e l.0 may in
        absurd (free_before H e.conn t own w.0 e.tenure st.owner (subst (λ y. Lawful (y ∷ H)) w.1 l) st.lent)

sender_next : (H : List Event) (last : Event) → Lawful (last ∷ H) → Calm (last ∷ H) → Holding H → (e : Entry) (m t : ℕ) (own : Owner) → may_come (last ∷ H) e ≡ true → Deciding (last ∷ H) m e.conn t own → e.call_no ≡ m
sender_next H last l calm h e m t own may d =
    elim (or_cases (is_due_at (last ∷ H) (place (last ∷ H) e.conn) e) (not (parts last e) && may_come H e) may) [
      | inl now ↦ (let u = due_now (last ∷ H) e now in its_turn (last ∷ H) e m t own (newest_next H last l calm h m e.conn t own d) u.turn d)
      | inr before ↦ (let b = both (not (parts last e)) (may_come H e) before in came_before H last e m t own l calm h (not_so (parts last e) b.0) b.1 d)
    ]

pub holding : (H : List Event) → Lawful H → Calm H → Holding H
holding [] l calm = record { newest = λ m c t own d. absurd (never m c t own d); sender = λ e m t own may d. absurd cc }
  where
    none_open : {p : Place} → None ≡ Some p → ⊥
    none_open x = cc

    never : (m c t : ℕ) (own : Owner) → Deciding [] m c t own → ⊥
    never m c t own d = none_open d.lent
holding (last ∷ H) l calm = let h = holding H l.0 calm.0 in record { newest = newest_next H last l calm h; sender = sender_next H last l calm h }
