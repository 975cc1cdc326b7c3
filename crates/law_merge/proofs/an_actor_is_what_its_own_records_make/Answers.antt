use Rattle.law_merge.proofs.Imports.{setting_of, start}
use Rattle.law_merge.proofs.OwnRecordsMake.{client_made, server_made}
use Rattle.law_merge.proofs.an_actor_is_what_its_own_records_make.Goals as goal

pub returns-clause-server : goal.returns-clause-server
returns-clause-server c script records n = server_made (setting_of script) (start (setting_of script)) records n

pub returns-clause-client : goal.returns-clause-client
returns-clause-client c script records caller = client_made (setting_of script) (start (setting_of script)) records caller
