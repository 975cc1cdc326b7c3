-- What a server wants chosen so that it, and the links that it shares, return to what they were.
use Rattle.std.specs.Prelude.{ℕ, Bool, true, false, List, [], ◌∷◌, slice_get, if◌then◌else◌, Option, Some, None}
use Rattle.std.specs.List.{flat_map}
use Rattle.global_tables.specs.declared.link.LinkRow.{LinkRow}
use Rattle.petal_command.specs.declared.command.Command.{Command}
use Rattle.petal_command.specs.declared.command.Command.TheVariants.{Join, Caught}
use Rattle.petal_msg.specs.declared.copying.NextCopy.{NextCopy}
use Rattle.petal_msg.specs.declared.copying.NextCopy.TheVariants.{Nothing}
use Rattle.petal_msg.specs.declared.copying.Progress.{Progress}
use Rattle.spec_state.specs.Command.{may_join}
use Rattle.spec_state.specs.State.{inc_of}
use Rattle.spec_rules.specs.Copies.{next_copy}
use Rattle.spec_rules.specs.Progress.{progress_on, with_progress}
use Rattle.spec_rules.specs.State.{State, is_in, link_named, other_in}
use Rattle.spec_rules.specs.Server.{PairState, JobContext}

-- its own Join, while it is Out with an earlier incarnation; it says whether the server comes with an empty store
abbrev pub own_join : State → (me inc : ℕ) → (fresh : Bool) → List Command
own_join state me inc fresh = if may_join (slice_get state.view.members me) inc then Join me inc fresh ∷ [] else []

abbrev pub is_nothing : NextCopy → Bool
is_nothing Nothing = true
is_nothing _ = false

abbrev pub caught_as : JobContext → LinkRow → (other : ℕ) → Option ℕ → List Command
caught_as here row other None = []
caught_as here row other (Some inc) = Caught row.map row.link here.me here.inc other inc ∷ []

abbrev pub caught_of : JobContext → PairState → LinkRow → Option ℕ → List Command
caught_of here own row None = []
caught_of here own row (Some other) = if is_nothing (next_copy here.state row own) then caught_as here row other (inc_of here.state other) else []

-- the Caught of each link that it holds alone, whose other server is In, and of which nothing is left to copy, by map and link
abbrev pub caught_links : JobContext → PairState → List Command
caught_links here own = flat_map (λ row. caught_of here own row (other_in here.state here.me row)) here.state.links

-- a server that is not In as itself wants its Join alone
abbrev pub returning : JobContext → PairState → List Command
returning here own =
    if is_in here.state here.me here.inc then caught_links here own
    else own_join here.state here.me here.inc own.store.fresh

abbrev pub holds_link : PairState → Option LinkRow → PairState
holds_link own None = own
holds_link own (Some row) =
    let before : Progress = progress_on own row in
    with_progress own row (record before { caught = true })

-- a ballot is started for this command: with a Caught, the link's writes are held from now on
abbrev pub proposed : State → PairState → Option Command → PairState
proposed state own (Some (Caught of link holder holder_inc other other_inc)) = holds_link own (link_named state (record { map = of; link = link }))
proposed state own _ = own
