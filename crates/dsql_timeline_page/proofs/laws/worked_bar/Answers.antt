use Rattle.std.proofs.Common.{refl}
use Rattle.std.specs.Fmt.{digits}
use Rattle.dsql_timeline_page.specs.Bars.{bar_text}
use Rattle.dsql_timeline_page.proofs.laws.worked_bar.Goals as goal

pub returns : goal.returns
unfolding digits bar_text
returns c = record { tenure = refl }
