-- A rollback restores what was there when the transaction began. The session's notes lead the store back, and
-- each write keeps that so.
use Rattle.std.proofs.Common.{◌≡◌, ℕ, List, [], ◌∷◌, Bool, true, false, cond, Option, Some, None, is_some, option_map, ap, sym, subst, refl, ◌∙◌}
use Rattle.std.specs.List.{list_all}
use Rattle.std.specs.Str.{bytes_eq}
use Rattle.std.proofs.lemmas.Bool.{and_parts}
use Rattle.std.proofs.lemmas.Slice.Eq.{bytes_eq-Decides}
use Rattle.dsql_driver.specs.declared.answer.DriverAnswer.TheVariants.{Done}
use Rattle.dsql_driver.specs.declared.call.DriverCall.{DriverCall}
use Rattle.dsql_driver.specs.declared.call.DriverCall.TheVariants.{Connect, Valid, Ping, Prepare, CloseStmt, Exec, Query, Next, CloseRows, Begin, Rollback}
use Rattle.dsql_driver.specs.declared.call.Level.{Level}
use Rattle.dsql_value.specs.declared.value.Value.{Value}
use Rattle.dsql_driver_session.specs.Session.{SessionState}
use Rattle.dsql_mem_calls.specs.Effect.{effect, carried_out, in_undo}
use Rattle.dsql_mem_session.specs.Calls.{executed_in, in_transaction}
use Rattle.dsql_mem_store.specs.Entries.{Entries, AreAscending, value_at, with_state}
use Rattle.dsql_mem.specs.Laws.{RollbackRestores, leaves_transaction, after_calls}
use Rattle.dsql_mem_session.specs.declared.session.MemSession.{MemSession}
use Rattle.dsql_mem_store.specs.Undo.{rolled_back}
use Rattle.dsql_mem_session.specs.declared.execute.Outcome.{Outcome}
use Rattle.dsql_mem_session.specs.declared.execute.Outcome.TheVariants as outcome
use Rattle.dsql_mem_store.specs.declared.note.Note.{Note}
use Rattle.dsql_mem_store.proofs.Ascending.{ascending-with_state}
use Rattle.dsql_mem_store.proofs.DelLaw.{deletes_one_key}
use Rattle.dsql_mem_store.proofs.SetLaw.{sets_one_key}

bytes_eq-swap : (xs ys : List ℕ) → bytes_eq xs ys ≡ bytes_eq ys xs
bytes_eq-swap xs ys = both (bytes_eq xs ys) (bytes_eq ys xs) (λ h. (bytes_eq-Decides ys xs).1 (sym ((bytes_eq-Decides xs ys).0 h))) (λ h. (bytes_eq-Decides xs ys).1 (sym ((bytes_eq-Decides ys xs).0 h))) where
  both : (b c : Bool) → (b ≡ true → c ≡ true) → (c ≡ true → b ≡ true) → b ≡ c
  both true c f g = sym (f refl)
  both false true f g = g refl
  both false false f g = refl

value_at-with_state : (q key : List ℕ) (state : Option Value) (store : Entries) → AreAscending store → value_at q (with_state key state store) ≡ cond (bytes_eq q key) state (value_at q store)
value_at-with_state q key (Some value) store h = sets_one_key key value store q
value_at-with_state q key None store h =
    deletes_one_key key store q h ∙ ap (λ b. cond b None (value_at q store)) (bytes_eq-swap key q)

-- Holds if two stores have the same value at each key.
record Same (s t : Entries) : Type 0 where
  at : (q : List ℕ) → value_at q s ≡ value_at q t

rolled_back-Same : (notes : List Note) (s t : Entries) → AreAscending s → AreAscending t → Same s t → Same (rolled_back notes s) (rolled_back notes t)
rolled_back-Same [] s t a b h = h
rolled_back-Same (n ∷ notes) s t a b h =
    rolled_back-Same notes (with_state n.key n.value s) (with_state n.key n.value t) (ascending-with_state n.key n.value s a) (ascending-with_state n.key n.value t b)
    (record {
      at = λ q. value_at-with_state q n.key n.value s a
          ∙ ap (λ v. cond (bytes_eq q n.key) n.value v) (h.at q)
          ∙ sym (value_at-with_state q n.key n.value t b);
    })

-- Giving the key back the value that it had undoes a write.
undone : (key : List ℕ) (state : Option Value) (store : Entries) → AreAscending store → Same (with_state key (value_at key store) (with_state key state store)) store
undone key state store h = record {
  at = λ q. value_at-with_state q key (value_at key store) (with_state key state store) (ascending-with_state key state store h)
      ∙ ap (λ v. cond (bytes_eq q key) (value_at key store) v) (value_at-with_state q key state store h)
      ∙ merge (bytes_eq q key) (value_at key store) state (value_at q store) (λ is. ap (λ k. value_at k store) (sym ((bytes_eq-Decides q key).0 is)));
} where
  merge : (b : Bool) (x y z : Option Value) → (b ≡ true → x ≡ z) → cond b x (cond b y z) ≡ z
  merge true x y z h = h refl
  merge false x y z h = refl

-- Holds if a session's notes lead a store back to what it was.
record LeadsBack (store : Entries) (session : MemSession) (origin : Entries) : Type 0 where
  notes : List Note
  noted : session.undo ≡ Some notes
  ascending : AreAscending store
  back : Same (rolled_back notes store) origin

carried_out-LeadsBack : (store : Entries) (session : MemSession) (origin : Entries) (o : Outcome) → LeadsBack store session origin → LeadsBack (carried_out store session o).store (carried_out store session o).session origin
carried_out-LeadsBack store session origin (outcome.Write key state count) h = record {
  notes = record { key = key; value = value_at key store } ∷ h.notes;
  noted = ap (option_map (λ notes. record { key = key; value = value_at key store } ∷ notes)) h.noted;
  ascending = ascending-with_state key state store h.ascending;
  back = record {
    at = λ q. (rolled_back-Same h.notes _ store (ascending-with_state key (value_at key store) _ (ascending-with_state key state store h.ascending)) h.ascending (undone key state store h.ascending)).at q
        ∙ h.back.at q;
  };
}
carried_out-LeadsBack store session origin (outcome.Refused answer) h = h

-- A call that changes only handles and cursors leaves what the notes lead back to.
aside : (store : Entries) (session : MemSession) (origin : Entries) (live : SessionState) → LeadsBack store session origin → LeadsBack store (record session { live = live }) origin
aside store session origin live h =
    record { notes = h.notes; noted = h.noted; ascending = h.ascending; back = h.back }

one_call : (store : Entries) (session : MemSession) (origin : Entries) (call : DriverCall) → leaves_transaction call ≡ true → LeadsBack store session origin → LeadsBack (effect store session call).store (effect store session call).session origin
one_call store session origin Connect l h = h
one_call store session origin Valid l h = h
one_call store session origin Ping l h = h
one_call store session origin (Exec i params) l h = carried_out-LeadsBack store session origin (executed_in store session.live i params) h
one_call store session origin (Prepare text) l h = aside store session origin _ h
one_call store session origin (CloseStmt handle) l h = aside store session origin _ h
one_call store session origin (Query i params) l h = aside store session origin _ h
one_call store session origin (Next rows) l h = aside store session origin _ h
one_call store session origin (CloseRows rows) l h = aside store session origin _ h
one_call store session origin _ l h = cc

all_calls : (store : Entries) (session : MemSession) (origin : Entries) (calls : List DriverCall) → list_all leaves_transaction calls ≡ true → LeadsBack store session origin → LeadsBack (after_calls store session calls).0 (after_calls store session calls).1 origin
all_calls store session origin [] l h = h
all_calls store session origin (call ∷ calls) l h =
    let both = and_parts (leaves_transaction call) (list_all leaves_transaction calls) l in
    all_calls (effect store session call).store (effect store session call).session origin calls both.1
    (one_call store session origin call both.0 h)

begun-LeadsBack : (store : Entries) (session : MemSession) (level : Level) (read_only : Bool) → AreAscending store → is_some session.undo ≡ false → LeadsBack store (effect store session (Begin level read_only)).session store
begun-LeadsBack store session level read_only ascending none =
    subst (λ (b : Bool). LeadsBack store (in_undo store session (cond b (session.undo, in_transaction) (Some [], Done))).session store) (sym none)
    (record { notes = []; noted = refl; ascending = ascending; back = record { at = λ q. refl } })

rollback-store : (store : Entries) (session : MemSession) (notes : List Note) → session.undo ≡ Some notes → (effect store session Rollback).store ≡ rolled_back notes store
rollback-store store session notes h = rw h refl

pub rollback_restores : RollbackRestores
rollback_restores store session level read_only calls key ascending none all =
    let begun = (effect store session (Begin level read_only)).session in
    let done = all_calls store begun store calls all (begun-LeadsBack store session level read_only ascending none) in
    ap (value_at key) (rollback-store (after_calls store begun calls).0 (after_calls store begun calls).1 done.notes done.noted)
    ∙ done.back.at key
