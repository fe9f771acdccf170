use Rattle.dsql_laws_tenures.proofs.SharedCursors as cursors
use Rattle.dsql_laws_tenures.proofs.SharedHandles as handles
use Rattle.dsql_laws_tenures.proofs.laws.what_a_line_has_is_its_own.Goals as goal

pub returns : goal.returns
returns c = record { cursor = cursors.one_line; given_cursor = cursors.given_to; handle = handles.one_line; given_handle = handles.given_to }
