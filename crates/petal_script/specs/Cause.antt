-- What a refusal tells of a line.
use Rattle.std.specs.Prelude.{ℕ, List, codes}
use Rattle.petal_script.specs.declared.cause.Cause.{Cause}
use Rattle.petal_script.specs.declared.cause.Cause.TheVariants.{NotAscii, TooLong, NoServersLine, BadLine, BadName, BadNumber, BadTuple, TooMany, NoMajority}

-- what is wrong with a refused line
abbrev pub cause_text : Cause → List ℕ
cause_text NotAscii = codes "not ascii"
cause_text TooLong = codes "too long"
cause_text NoServersLine = codes "no servers line"
cause_text BadLine = codes "bad line"
cause_text BadName = codes "bad name"
cause_text BadNumber = codes "bad number"
cause_text BadTuple = codes "bad tuple"
cause_text TooMany = codes "too many"
cause_text NoMajority = codes "no majority"
