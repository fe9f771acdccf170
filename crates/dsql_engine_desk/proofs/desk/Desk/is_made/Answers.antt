use Rattle.std.proofs.Common.{◌≡◌, ◌||◌, Bool, List, ℕ, is_some, sym, ap, ◌∙◌}
use Rattle.std.specs.Prelude.{position}
use Rattle.indexmap.specs.IndexMap.{get_by_text}
use Rattle.dsql_laws_calls.specs.history.declared.event.Event.{Event}
use Rattle.dsql_laws_calls.specs.history.Readers.Works.{begins_as, hands_out_as, works}
use Rattle.dsql_engine_desk.specs.Desk.{past, Stands}
use Rattle.dsql_engine_desk.proofs.MadeLabels.{made_known}
use Rattle.dsql_engine_desk.proofs.desk.Desk.is_made.Goals as goal

pub returns-then-contains_key : goal.returns-then-contains_key
unfolding Stands
returns-then-contains_key c =
    let H : List Event = past c.args.self.now in
    let label : List ℕ = c.args.label.now in
    let rows : c.contains_key.result ≡ is_some (position (hands_out_as label) (works H)) =
    c.contains_key.ensures ∙ (ap (λ l. is_some (get_by_text c.args.self.now.labels l)) c.as_str-name.ensures ∙ ap (λ o. is_some o) (c.requires.tables.labels label)) in
    let some = ap (λ (b : Bool). b || is_some (position (begins_as label) (works H))) (sym rows ∙ c.if-contains_key.true) in
    c.if-contains_key.true ∙ (sym some ∙ made_known H label)

pub returns-else-contains_key : goal.returns-else-contains_key
unfolding Stands
returns-else-contains_key c =
    let H : List Event = past c.args.self.now in
    let label : List ℕ = c.args.label.now in
    let rows : c.contains_key.result ≡ is_some (position (hands_out_as label) (works H)) =
    c.contains_key.ensures ∙ (ap (λ l. is_some (get_by_text c.args.self.now.labels l)) c.as_str-name.ensures ∙ ap (λ o. is_some o) (c.requires.tables.labels label)) in
    let tx : c.contains_key-else-contains_key.result ≡ is_some (position (begins_as label) (works H)) =
    c.contains_key-else-contains_key.ensures
    ∙ (ap (λ l. is_some (get_by_text c.args.self.now.tx_labels l)) c.as_str-name.ensures ∙ ap (λ o. is_some o) (c.requires.tables.tx_labels label)) in
    let none = ap (λ (b : Bool). b || is_some (position (begins_as label) (works H))) (sym rows ∙ c.if-contains_key.false) in
    tx ∙ (sym none ∙ made_known H label)
