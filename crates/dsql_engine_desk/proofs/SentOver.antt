-- What is sent over rows from which a call wants something.
use Rattle.std.proofs.Common.{◌≡◌, ◌≢◌, ◌⊎◌, inl, inr, ℕ, List, sym, ap, ◌∙◌}
use Rattle.dsql_laws_calls.specs.course.declared.course.Wish.{Wish}
use Rattle.dsql_laws_calls.specs.course.declared.course.Wish.TheVariants as wishes
use Rattle.dsql_laws_calls.specs.history.declared.event.Event.{Event}
use Rattle.dsql_laws_calls.specs.history.Rules.Sent.{line_of, sent_for}

pub sent_wanted : (H : List Event) (k : ℕ) (it : Wish) → (it ≡ wishes.Fetch) ⊎ (it ≡ wishes.Close) → (it ≢ wishes.Nothing) × (line_of H k it ≡ sent_for H k it)
sent_wanted H k it (inl is) = (λ none. let wrong : wishes.Fetch ≡ wishes.Nothing = sym is ∙ none in absurd cc, ap (line_of H k) is ∙ sym (ap (sent_for H k) is))
sent_wanted H k it (inr is) = (λ none. let wrong : wishes.Close ≡ wishes.Nothing = sym is ∙ none in absurd cc, ap (line_of H k) is ∙ sym (ap (sent_for H k) is))
