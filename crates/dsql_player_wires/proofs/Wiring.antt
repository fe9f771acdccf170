-- Wires that fit a history also fit the next one. The argument is that an answer changes only the slot and the
-- journal of its connection.
use Rattle.std.proofs.Common.{◌≡◌, ◌≢◌, inl, inr, ℕ, Bool, true, false, List, [], ◌∷◌, ◌++◌, Option, Some, None, refl, sym, ◌∙◌, ap, subst, set}
use Rattle.std.specs.Prelude.{option_map, is_some, IsSomeAnd, MatchBool}
use Rattle.std.specs.List.{list_all}
use Rattle.dsql_history.specs.driver.Kinds.{is_connect, is_shut}
use Rattle.dsql_history.specs.driver.Wires.{WireTold, with_call}
use Rattle.dsql_history.specs.journal.HandlesAndCursors.{fits_at_its_place}
use Rattle.dsql_history.specs.journal.declared.entry.Entry.{Entry}
use Rattle.dsql_history.specs.declared.event.Event.{Event}
use Rattle.dsql_history.specs.declared.event.Event.TheVariants.{Heard}
use Rattle.dsql_history.specs.Readers.Journals.{journal}
use Rattle.dsql_wire.specs.Journaled.{Journaled}
use Rattle.dsql_player_wires.specs.Told.{hears_nothing}
use Rattle.dsql_player_wires.specs.WiresFit.{slot, is_wired, HoldsWire, FitsAt, WiresFit, HearsEntry, OpensWire}
use Rattle.dsql_player_wires.proofs.Journals.{same_or_not, journal_here, journal_elsewhere, unheard_event, unheard, still_wired, shut_unwired, opened_wired}
use Rattle.dsql_player_wires.proofs.Slots.{slot_elsewhere, set_default}

-- A record that changes is still there.
pub still_some : {A B : Type 0} (change : A → B) (record_of : Option A) → is_some (option_map change record_of) ≡ is_some record_of
still_some change None = refl
still_some change (Some old) = refl

-- If a slot holds its wire and the wire hears one more entry, it still holds its wire.
holds_more : {W : Type 0} (heard : W → Option WireTold) (telling : Bool) (e : Entry) (c : ℕ) (entries : List Entry) (before after : Option (Journaled W)) → HoldsWire heard telling c entries before
    → HearsEntry heard e before after → HoldsWire heard telling c (e ∷ entries) after
holds_more heard telling e c entries None after h t = absurd h
holds_more heard telling e c entries (Some b) None h t = absurd t
holds_more heard telling e c entries (Some b) (Some a) h t = record {
  conn = t.conn ∙ h.conn;
  journal = t.journal ∙ ap (λ j. e ∷ j) h.journal;
  tells = λ all. ap is_some t.told ∙ still_some (with_call (e.call, e.answer)) (heard b.wire) ∙ h.tells all;
}

-- The slot of a connection that has a wire holds it, and an empty slot fits a connection that has none.
pub holds_here : {W : Type 0} (heard : W → Option WireTold) (telling : Bool) (c : ℕ) (entries : List Entry) (w : Option (Journaled W)) → is_wired entries ≡ true → FitsAt heard telling c entries w
    → HoldsWire heard telling c entries w
holds_here heard telling c entries w has fit = subst (λ (b : Bool). MatchBool b (HoldsWire heard telling c entries w) (w ≡ None)) has fit

none_here : {W : Type 0} (heard : W → Option WireTold) (telling : Bool) (c : ℕ) (entries : List Entry) (w : Option (Journaled W)) → is_wired entries ≡ false → w ≡ None → FitsAt heard telling c entries w
none_here heard telling c entries w none is = subst (λ (b : Bool). MatchBool b (HoldsWire heard telling c entries w) (w ≡ None)) (sym none) is

-- A slot that isn't empty is that of a connection with a wire.
pub some_wired : {W : Type 0} (heard : W → Option WireTold) (telling : Bool) (c : ℕ) (entries : List Entry) (w : Option (Journaled W)) (wired : Bool) → is_some w ≡ true
    → MatchBool wired (HoldsWire heard telling c entries w) (w ≡ None) → HoldsWire heard telling c entries w
some_wired heard telling c entries w true some fit = fit
some_wired heard telling c entries w false some fit = let clash : true ≡ false = sym some ∙ ap is_some fit in absurd cc

heard_some : {W : Type 0} (heard : W → Option WireTold) (e : Entry) (before after : Option (Journaled W)) → HearsEntry heard e before after → is_some before ≡ true
heard_some heard e None after h = absurd h
heard_some heard e (Some b) after h = refl

pub holds_wired : {W : Type 0} (heard : W → Option WireTold) (telling : Bool) (c : ℕ) (entries : List Entry) (w : Option (Journaled W)) (wired : Bool) → is_wired entries ≡ wired
    → HoldsWire heard telling c entries w → MatchBool wired (HoldsWire heard telling c entries w) (w ≡ None) → is_wired entries ≡ true
holds_wired heard telling c entries w true is holds fit = is
holds_wired heard telling c entries None false is holds fit = absurd holds
holds_wired heard telling c entries (Some w) false is holds fit = absurd cc

-- A slot whose wire hears an entry holds its wire afterwards.
pub holds_heard : {W : Type 0} (heard : W → Option WireTold) (telling : Bool) (past : List Event) (e : Entry) (before after : List (Option (Journaled W))) → WiresFit heard telling past before
    → HearsEntry heard e (slot before e.conn) (slot after e.conn) → HoldsWire heard telling e.conn (e ∷ journal past e.conn) (slot after e.conn)
holds_heard heard telling past e before after fit hears =
    let J = journal past e.conn in
    let w = slot before e.conn in
    holds_more heard telling e e.conn J w (slot after e.conn) (some_wired heard telling e.conn J w (is_wired J) (heard_some heard e w (slot after e.conn) hears) (fit e.conn)) hears

-- What fits at its place on the wire fits in the connection's journal.
pub held_fits : {W : Type 0} (heard : W → Option WireTold) (telling : Bool) (c : ℕ) (entries : List Entry) (e : Entry) (w : Option (Journaled W)) → FitsAt heard telling c entries w
    → IsSomeAnd w (λ w. fits_at_its_place w.journal e ≡ true) → fits_at_its_place entries e ≡ true
held_fits heard telling c entries e None fit fits = absurd fits
held_fits {W} heard telling c entries e (Some w) fit fits =
    let holds : HoldsWire heard telling c entries (Some w) = some_wired heard telling c entries (Some w) (is_wired entries) refl fit in
    subst (λ (j : List Entry). fits_at_its_place j e ≡ true) holds.journal fits

-- If only the slot and the journal of connection d change, and that slot fits, all wires fit.
pub fit_but_one : {W : Type 0} (heard : W → Option WireTold) (telling : Bool) (past now : List Event) (before after : List (Option (Journaled W))) (d : ℕ)
    → ((c : ℕ) → c ≢ d → journal now c ≡ journal past c) → ((c : ℕ) → c ≢ d → slot after c ≡ slot before c)
    → WiresFit heard telling past before → FitsAt heard telling d (journal now d) (slot after d) → WiresFit heard telling now after
fit_but_one {W} heard telling past now before after d journals slots fit here =
    λ c. elim (same_or_not c d) [
      | inl e ↦ subst (λ (k : ℕ). FitsAt heard telling k (journal now k) (slot after k)) (sym e) here
      | inr n ↦ subst (λ (j : List Entry). FitsAt heard telling c j (slot after c)) (sym (journals c n))
          (subst (λ (w : Option (Journaled W)). FitsAt heard telling c (journal past c) w) (sym (slots c n)) (fit c))
    ]

-- What isn't heard changes no wire.
pub event_fits : {W : Type 0} (heard : W → Option WireTold) (telling : Bool) (e : Event) (past : List Event) (ws : List (Option (Journaled W))) → hears_nothing e ≡ true → WiresFit heard telling past ws
    → WiresFit heard telling (e ∷ past) ws
event_fits heard telling e past ws quiet fit = λ c. subst (λ (j : List Entry). FitsAt heard telling c j (slot ws c)) (sym (unheard_event e past c quiet)) (fit c)

pub unheard_fits : {W : Type 0} (heard : W → Option WireTold) (telling : Bool) (more past : List Event) (ws : List (Option (Journaled W))) → list_all hears_nothing more ≡ true → WiresFit heard telling past ws
    → WiresFit heard telling (more ++ past) ws
unheard_fits heard telling more past ws quiet fit = λ c. subst (λ (j : List Entry). FitsAt heard telling c j (slot ws c)) (sym (unheard more past c quiet)) (fit c)

-- An empty table fits a history in which nothing was heard.
pub fresh_fits : {W : Type 0} (heard : W → Option WireTold) (telling : Bool) (past : List Event) (ws : List (Option (Journaled W))) → ((c : ℕ) → journal past c ≡ []) → ws ≡ [] → WiresFit heard telling past ws
fresh_fits heard telling past ws nothing none = λ c. rw (nothing c, none) refl

-- If an entry was heard of a connection that keeps its wire, the wires fit.
pub answered_fits : {W : Type 0} (heard : W → Option WireTold) (telling : Bool) (past : List Event) (e : Entry) (before after : List (Option (Journaled W))) → is_connect e.call ≡ false → is_shut e.call ≡ false
    → ((c : ℕ) → c ≢ e.conn → slot after c ≡ slot before c) → HearsEntry heard e (slot before e.conn) (slot after e.conn)
    → WiresFit heard telling past before → WiresFit heard telling (Heard e ∷ past) after
answered_fits {W} heard telling past e before after opens shuts others hears fit =
    let J = journal past e.conn in
    let w = slot before e.conn in
    let held : HoldsWire heard telling e.conn J w = some_wired heard telling e.conn J w (is_wired J) (heard_some heard e w (slot after e.conn) hears) (fit e.conn) in
    let wired : is_wired (e ∷ J) ≡ true = still_wired e J opens shuts ∙ holds_wired heard telling e.conn J w (is_wired J) refl held (fit e.conn) in
    let holds : HoldsWire heard telling e.conn (e ∷ J) (slot after e.conn) = holds_more heard telling e e.conn J w (slot after e.conn) held hears in
    let here : FitsAt heard telling e.conn (e ∷ J) (slot after e.conn) =
    subst (λ (b : Bool). MatchBool b (HoldsWire heard telling e.conn (e ∷ J) (slot after e.conn)) (slot after e.conn ≡ None)) (sym wired) holds in
    fit_but_one heard telling past (Heard e ∷ past) before after e.conn (journal_elsewhere past e) others fit
    (subst (λ (j : List Entry). FitsAt heard telling e.conn j (slot after e.conn)) (sym (journal_here past e)) here)

-- If a connection was shut and its wire given back, the wires fit.
pub shut_fits : {W : Type 0} (heard : W → Option WireTold) (telling : Bool) (past : List Event) (e : Entry) (before mid after : List (Option (Journaled W))) → is_shut e.call ≡ true
    → ((c : ℕ) → c ≢ e.conn → slot mid c ≡ slot before c) → after ≡ set mid e.conn None
    → WiresFit heard telling past before → WiresFit heard telling (Heard e ∷ past) after
shut_fits heard telling past e before mid after shuts others taken fit =
    let J = journal past e.conn in
    let none : slot after e.conn ≡ None = ap (λ ws. slot ws e.conn) taken ∙ set_default mid e.conn None in
    fit_but_one heard telling past (Heard e ∷ past) before after e.conn
    (journal_elsewhere past e)
    (λ c n. ap (λ ws. slot ws c) taken ∙ (slot_elsewhere mid e.conn None c n ∙ others c n))
    fit
    (subst (λ (j : List Entry). FitsAt heard telling e.conn j (slot after e.conn)) (sym (journal_here past e))
    (none_here heard telling e.conn (e ∷ J) (slot after e.conn) (shut_unwired e J shuts) none))

-- If a connection was opened or its Connect refused, the wires fit.
pub opened_fits : {W : Type 0} (heard : W → Option WireTold) (telling : Bool) (past : List Event) (e : Entry) (before after : List (Option (Journaled W))) → is_connect e.call ≡ true → journal past e.conn ≡ []
    → ((c : ℕ) → c ≢ e.conn → slot after c ≡ slot before c) → OpensWire heard telling e (slot after e.conn)
    → WiresFit heard telling past before → WiresFit heard telling (Heard e ∷ past) after
opened_fits heard telling past e before after opens nothing others wire fit =
    let alone : journal (Heard e ∷ past) e.conn ≡ e ∷ [] = journal_here past e ∙ ap (λ j. e ∷ j) nothing in
    fit_but_one heard telling past (Heard e ∷ past) before after e.conn (journal_elsewhere past e) others fit
    (subst (λ (j : List Entry). FitsAt heard telling e.conn j (slot after e.conn)) (sym alone)
    (subst (λ (b : Bool). MatchBool b (HoldsWire heard telling e.conn (e ∷ []) (slot after e.conn)) (slot after e.conn ≡ None)) (sym (opened_wired e opens)) wire))

-- Holds if a wire has heard what it had heard before, whatever was planned on it.
pub record SameButPlans {W : Type 0} (heard : W → Option WireTold) (before after : Journaled W) : Type 0 where
  pub conn : after.conn ≡ before.conn
  pub journal : after.journal ≡ before.journal
  pub telling : is_some (heard after.wire) ≡ is_some (heard before.wire)

still_held : {W : Type 0} (heard : W → Option WireTold) (telling : Bool) (c : ℕ) (entries : List Entry) (before after : Journaled W) (wired : Bool) → SameButPlans heard before after
    → MatchBool wired (HoldsWire heard telling c entries (Some before)) (Some before ≡ None) → MatchBool wired (HoldsWire heard telling c entries (Some after)) (Some after ≡ None)
still_held heard telling c entries before after true same h = record {
  conn = same.conn ∙ h.conn;
  journal = same.journal ∙ h.journal;
  tells = λ all. same.telling ∙ h.tells all;
}
still_held heard telling c entries before after false same h = absurd cc

pub fits_at_still : {W : Type 0} (heard : W → Option WireTold) (telling : Bool) (c : ℕ) (entries : List Entry) (before after : Journaled W) → SameButPlans heard before after → FitsAt heard telling c entries (Some before)
    → FitsAt heard telling c entries (Some after)
fits_at_still heard telling c entries before after same h = still_held heard telling c entries before after (is_wired entries) same h
