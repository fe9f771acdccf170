use Rattle.std.specs.Option.{option_copied}
use Rattle.dsql_script_reader.proofs.ScriptForms.{form_of_maxopen, form_of_maxidle, form_of_maxlife, form_of_maxidletime, form_of_tick, form_of_fault, form_of_step, form_of_client}
use Rattle.dsql_script_reader.proofs.reader.read_form.Goals as goal

pub returns-in-maxopen : goal.returns-in-maxopen
returns-in-maxopen c =
    let set = form_of_maxopen c.args.head c.args.words.now (option_copied c.args.array) _ c.in-len1-up.len_at_least c.in-maxopen.is in
    rw set c.read_set.ensures

pub returns-in-maxidle : goal.returns-in-maxidle
returns-in-maxidle c =
    let set = form_of_maxidle c.args.head c.args.words.now (option_copied c.args.array) _ c.in-len1-up.len_at_least c.in-maxidle.is in
    rw set c.read_set-in-maxidle.ensures

pub returns-in-maxlife : goal.returns-in-maxlife
returns-in-maxlife c =
    let set = form_of_maxlife c.args.head c.args.words.now (option_copied c.args.array) _ c.in-len1-up.len_at_least c.in-maxlife.is in
    rw set c.read_set-in-maxlife.ensures

pub returns-in-maxidletime : goal.returns-in-maxidletime
returns-in-maxidletime c =
    let set = form_of_maxidletime c.args.head c.args.words.now (option_copied c.args.array) _ c.in-len1-up.len_at_least c.in-maxidletime.is in
    rw set c.read_set-in-maxidletime.ensures

pub returns-in-tick : goal.returns-in-tick
returns-in-tick c =
    let tick = form_of_tick c.args.head c.args.words.now (option_copied c.args.array) _ c.in-len1-up.len_at_least c.in-tick.is in
    rw tick c.read_tick.ensures

pub returns-in-fault : goal.returns-in-fault
returns-in-fault c =
    let plan = form_of_fault c.args.head c.args.words.now (option_copied c.args.array) _ c.in-len1-up.len_at_least c.in-fault.is in
    rw plan c.read_plan.ensures

pub returns-in-step : goal.returns-in-step
returns-in-step c =
    let step = form_of_step c.args.head c.args.words.now (option_copied c.args.array) _ c.in-len1-up.len_at_least c.in-step.is in
    rw step c.read_step.ensures

pub returns-in_default-first : goal.returns-in_default-first
returns-in_default-first c =
    let not = c.in_default-first in
    let client = form_of_client c.args.head c.args.words.now (option_copied c.args.array) _ c.in-len1-up.len_at_least not.not-version not.not-caps not.not-maxopen not.not-maxidle not.not-maxlife not.not-maxidletime not.not-tick not.not-fault not.not-start not.not-step in
    rw client c.read_client.ensures
