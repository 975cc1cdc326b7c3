-- What a send of the open request does.
use Rattle.std.specs.Prelude.{Some, None}
use Rattle.spec_rules.specs.Clients.{Client, Asked, Reaction}
use Rattle.client_core.specs.Open.{sent_last, with_send}
use Rattle.client_core.specs.Posting.{posts_of}
use Rattle.client_core.specs.declared.sending.Sent.{Sent}

-- what a client leaves and sends whose request goes out
abbrev pub sent_by : Client → Asked → Sent → Reaction
sent_by client asked sent = record {
  client = record client { asks = sent.asks; asked = Some (sent_last sent.last asked) };
  posts = posts_of sent.post;
  answer = None;
}

-- the same of the open request, where there is one
abbrev pub sent_where : Client → Sent → Reaction
sent_where client sent = record {
  client = record client { asks = sent.asks; asked = with_send sent.last client.asked };
  posts = posts_of sent.post;
  answer = None;
}
