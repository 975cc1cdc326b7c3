-- It owns nothing, so it may go to another thread.
use denote.Param.Send.{IsSend}
use Rattle.device_faults.specs.contracts.count.Count.{the_row}

pub send : IsSend the_row
send = record { owned = λ n vs. ((λ _. (tt, tt)), tt); leaving = λ k d w. tt }
