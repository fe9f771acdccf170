use Rattle.dsql_player.proofs.Emptied.{emptied}
use Rattle.dsql_player.proofs.LastPart.{all_over, end_begun, end_done, end_ended, end_on, end_stops}
use Rattle.dsql_player.proofs.carrying.the_end_is_carried_out.Goals as goal

pub returns-clause-begun : goal.returns-clause-begun
returns-clause-begun g c = end_begun

pub returns-clause-on : goal.returns-clause-on
returns-clause-on g c = end_on

pub returns-clause-ends : goal.returns-clause-ends
returns-clause-ends g c = end_ended

pub returns-clause-stops : goal.returns-clause-stops
returns-clause-stops g c = end_stops

pub returns-clause-done : goal.returns-clause-done
returns-clause-done g c = end_done

pub returns-clause-over : goal.returns-clause-over
returns-clause-over g c = all_over

pub returns-clause-empty : goal.returns-clause-empty
returns-clause-empty g c = emptied g.W.Wire.told
