use denote.Exit.{yes}
use denote.Param.Send.{arg_send, param_send}
use Rattle.disk_moments.proofs.remembering.Remembering.TheSendSync.{the_send}
use Rattle.disk_moments.proofs.journal_use.begin.Goals as goal

pub format-requires-send-D : goal.format-requires-send-D
format-requires-send-D c κs = param_send 1 _ (arg_send _ yes _ the_send)
