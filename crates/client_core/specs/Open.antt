-- The open request in code: the block that a write sends is made once.
use Rattle.std.specs.Prelude.{ℕ, true, false, List, [], Option, Some, None, option_map}
use Rattle.script_lines.specs.Pattern.{pattern_block}
use Rattle.script_lines.specs.declared.answer.Answer.{Answer}
use Rattle.script_lines.specs.declared.request.Request.{Request}
use Rattle.script_lines.specs.declared.request.Request.TheVariants as request
use Rattle.spec_rules.specs.State.{State}
use Rattle.spec_rules.specs.Clients.{Client, Asked, Reaction, rests, answers, asking, first_round, goes_out_where, goes_the_old_way}
use Rattle.client_core.specs.declared.hearing.Heard.{Heard}
use Rattle.client_core.specs.declared.hearing.Heard.TheVariants as heard
use Rattle.client_core.specs.declared.open.Last.{Last}
use Rattle.client_core.specs.declared.open.Way.{Way}
use Rattle.client_core.specs.declared.round.Round.{Round}

-- a request that was never sent, called at a revision
abbrev pub fresh : (line seq : ℕ) → Request → (rev : ℕ) → Asked
fresh line seq asked rev = record {
  line = line;
  seq = seq;
  request = asked;
  turn = 0;
  rev = rev;
  witnesses = 0;
  saw_missing = false;
  old_way = false;
  round = first_round asked;
  seen = [];
}

-- the bytes that a request sends
abbrev pub bytes_sent : Request → Option (List ℕ)
bytes_sent (request.Write name block pattern) = Some (pattern_block pattern)
bytes_sent _ = None

abbrev pub answers_where : Client → Option Asked → Answer → Reaction
answers_where client None given = rests client
answers_where client (Some asked) given = answers client asked given

-- the request, where its rounds are so far
abbrev pub in_round : Round → Option Asked → Option Asked
in_round round asked = option_map (λ (was : Asked). record was { round = round.number; seen = round.shown }) asked

-- the request goes the old way, where there is one
abbrev pub goes_old_where : State → ℕ → Client → Option Asked → Reaction
goes_old_where state me client None = rests client
goes_old_where state me client (Some asked) = goes_the_old_way state me client asked

-- what comes of a letter
abbrev pub outcome : Heard → State → ℕ → Client → Option Asked → Reaction
outcome heard.Nothing state me client asked = rests client
outcome (heard.Answered given) state me client asked = answers_where client asked given
outcome heard.Again state me client asked = asking state client (goes_out_where state me client asked)
outcome heard.OldWay state me client asked = goes_old_where state me client asked
outcome (heard.Round round) state me client asked = rests (record client { asked = in_round round asked })

-- the request, where so many of its Witnesses were applied
abbrev pub with_witnesses : ℕ → Option Asked → Option Asked
with_witnesses witnesses asked = option_map (λ (was : Asked). record was { witnesses = witnesses }) asked

-- the request, where this was its latest send
abbrev pub sent_last : Last → Asked → Asked
sent_last last asked = record asked { turn = last.turn; rev = last.rev; saw_missing = last.way.saw_missing; old_way = last.way.old_way }

abbrev pub with_send : Last → Option Asked → Option Asked
with_send last asked = option_map (sent_last last) asked

-- the request, where so many of its Witnesses were applied, and it goes this way
abbrev pub on_way : Asked → ℕ → Way → Asked
on_way asked witnesses way = record asked { witnesses = witnesses; saw_missing = way.saw_missing; old_way = way.old_way }

-- the way that it goes
abbrev pub way_of : Asked → Way
way_of asked = record { saw_missing = asked.saw_missing; old_way = asked.old_way }

-- it is told that the new map has nothing
abbrev pub turned : Way
turned = record { saw_missing = true; old_way = true }

-- the request's line and its round, where it is a settle
abbrev pub settle_in : Asked → Request → Option (ℕ × ℕ)
settle_in asked request.Settle = Some (asked.line, asked.round)
settle_in asked _ = None
