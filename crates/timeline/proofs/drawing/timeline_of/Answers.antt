-- The events that are drawn are those that were read.
use Rattle.std.proofs.Common.{◌≡◌, ap, ◌∙◌}
use Rattle.dsql_timeline_picture.specs.Pictures.{picture_of}
use Rattle.timeline.proofs.drawing.timeline_of.Goals as goal

pub returns : goal.returns
returns c =
    let same : c.deref.result.now ≡ c.in_ok-events.field-0.events.items = cc in
    record { events = c.in_ok-events.field-0.events.items; read = c.in_ok-events.ensures.read; drawn = c.in_ok-page.ensures ∙ ap picture_of same }
