-- Whether a tenure could end with what was left open.
use Rattle.std.specs.Prelude.{ℕ, Bool, ◌&&◌, ◌||◌, not, ◌==◌, length}
use Rattle.std.specs.List.{list_all}
use Rattle.dsql_tenure_journal.specs.Kinds.{is_call}
use Rattle.dsql_tenure_asked.specs.declared.left.Left.{Left}

-- Is true if no transaction of that tenure is open.
abbrev pub has_ended : Left → ℕ → Bool
has_ended left number = not (number == left.last_tenure) || (length left.transactions.now == 0)

-- Is true if no cursor of that tenure is live, and no handle except those that calls on the database prepared.
abbrev pub has_closed : Left → ℕ → Bool
has_closed left number =
    list_all (λ c. not (c.tenure == number)) left.cursors.now
    && list_all (λ h. not (h.tenure == number) || is_call h.owner) left.handles.now

-- Is true if that tenure could end. What is live counts only if nothing was answered Bad.
abbrev pub could_end : Left → ℕ → Bool → Bool
could_end left number bad = has_ended left number && (bad || has_closed left number)
