-- What of a history the plain machine is told.
use Rattle.std.specs.Prelude.{ℕ, ◌==◌, ◌&&◌, ◌||◌, not, Bool, false, option_map, List, [], ◌∷◌, ◌++◌, map, filter, find}
use Rattle.std.specs.Prelude.{drop, length, if◌then◌else◌, Option, Some, None}
use Rattle.std.specs.List.{flat_map, range_with_len, fold, filter_map}
use Rattle.std.specs.Ordering.{nat_cmp}
use Rattle.petal_table.specs.Table.{Table, put}
use Rattle.global_tables.specs.Disk.{disk_at}
use Rattle.global_tables.specs.declared.disk.DiskRow.{DiskRow}
use Rattle.global_tables.specs.declared.disk.Snapshot.{Snapshot}
use Rattle.spec_machine.specs.Machine.{same_bytes}
use Rattle.spec_machine.specs.Run.{IsRun}
use Rattle.spec_machine.specs.declared.event.Event.{Event}
use Rattle.spec_machine.specs.declared.event.Event.TheVariants.{Make, Freeze, Begin, Take, End, Look}
use Rattle.spec_machine.specs.declared.event.Write.{Write}
use Rattle.spec_machine.specs.declared.event.WriteEnd.{WriteEnd}
use Rattle.spec_machine.specs.declared.event.WriteEnd.TheVariants as write_end
use Rattle.petal_msg.specs.declared.body.Body.{Body}
use Rattle.petal_msg.specs.declared.body.Body.TheVariants as body
use Rattle.petal_msg.specs.declared.letter.Actor.{Actor}
use Rattle.petal_msg.specs.declared.letter.Actor.TheVariants as actor
use Rattle.petal_msg.specs.declared.letter.Letter.{Letter}
use Rattle.script_lines.specs.Pattern.{pattern_block}
use Rattle.script_lines.specs.declared.answer.Answer.{Answer}
use Rattle.script_lines.specs.declared.answer.Answer.TheVariants as answer
use Rattle.script_lines.specs.declared.request.Line.{Line}
use Rattle.script_lines.specs.declared.request.Request.{Request}
use Rattle.script_lines.specs.declared.request.Request.TheVariants as request
use Rattle.script_lines.specs.declared.script.Script.{Script}
use Rattle.spec_rules.specs.Clients.{Asked}
use Rattle.spec_rules.specs.Server.{Server}
use Rattle.spec_rules.specs.State.{State, leaving}
use Rattle.spec_rules.specs.World.{Setting, World, start, setting_of, chosen_state, counted, server_state}
use Rattle.spec_rules.specs.declared.job.Job.{Job}
use Rattle.spec_rules.specs.declared.job.Job.TheVariants as job
use Rattle.spec_rules.specs.declared.step.Step.{Step}
use Rattle.spec_rules.specs.declared.step.Step.TheVariants.{Call, Deliver}
use Rattle.spec_history.specs.Contents.{content_in, content_where, has_content, has_content_where}
use Rattle.spec_history.specs.Steps.{stepped}
use Rattle.spec_history.specs.declared.record.Record.{Record}

-- ### Calls and answers of writes

abbrev pub write_by : (client seq : ℕ) → Request → Option Write
write_by client seq (request.Write name block pattern) =
    Some (record { client = client; seq = seq; disk = name; block = block; bytes = pattern_block pattern })
write_by client seq _ = None

abbrev pub write_asked : ℕ → Option Asked → Option Write
write_asked client None = None
write_asked client (Some asked) = write_by client asked.seq asked.request

-- the client's write that is called and not yet answered
abbrev pub open_write : World → ℕ → Option Write
open_write w client = write_asked client (w.clients client).asked

abbrev pub begun : Option Write → List Event
begun None = []
begun (Some write) = Begin write ∷ []

-- the step in which a client calls a write tells that it begins
abbrev pub begins : Step → Actor → World → List Event
begins (Call line) (actor.Client c) later = begun (open_write later c)
begins _ _ later = []

-- how a write ends that is answered so. What no write is answered is no end of one
abbrev pub end_of : Answer → Option WriteEnd
end_of answer.Ok = Some write_end.Ok
end_of answer.NoSpace = Some write_end.NoSpace
end_of answer.Unavailable = Some write_end.Unavailable
end_of answer.NoDisk = Some write_end.NoDisk
end_of (answer.Data bytes) = None
end_of answer.NoSnap = None
end_of answer.Exists = None
end_of answer.Moving = None
end_of answer.Failed = None

abbrev pub end_by : Write → Option WriteEnd → Option (List Event)
end_by write None = None
end_by write (Some how) = Some (End write how ∷ [])

-- the end of the client's open write, where it is answered; where that is no end of a write, the events are no run
abbrev pub ended : Option Write → Option (ℕ × Answer) → Option (List Event)
ended None given = Some []
ended (Some write) None = Some []
ended (Some write) (Some given) = end_by write (end_of given.1)

-- the step in which a write is answered tells that it ends
abbrev pub ends : Actor → World → Option (ℕ × Answer) → Option (List Event)
ends (actor.Client c) w given = ended (open_write w c) given
ends (actor.Server n) w given = Some []

-- ### Contents that change

-- the blocks of the cells of a server's chains
abbrev pub blocks_of : Server → List ℕ
blocks_of server = map (λ row. row.0.block) server.own.store.chains

-- the blocks that some server has an entry of, by number
abbrev pub blocks_in : Setting → World → List ℕ
blocks_in setting w =
    map (λ row. row.0) (fold (λ (t : Table ℕ ℕ) b. put nat_cmp t b b) [] (flat_map (λ n. blocks_of (w.servers n)) (range_with_len 0 setting.servers)))

-- a step, as contents see it: the worlds before and after it with the stores that count, and what is chosen in each
pub record Change : Type 0 where
  pub setting : Setting
  pub w : World
  pub next : World
  pub chosen : State
  pub chosen_next : State

abbrev pub change_by : Setting → World → World → Change
change_by setting w next =
    record { setting = setting; w = counted setting w; next = counted setting next; chosen = chosen_state setting w; chosen_next = chosen_state setting next }

-- the content of a disk's block at the disk's epoch, before the step and after it
abbrev pub before_step : Change → DiskRow → ℕ → List ℕ
before_step change row block = content_in change.chosen change.w row row.epoch block

abbrev pub after_step : Change → DiskRow → ℕ → List ℕ
after_step change row block = content_where change.chosen_next change.next (disk_at change.chosen_next.disks.rows row.id) row.epoch block

-- the block has a content at the disk's epoch before the step, or after it
abbrev pub had_content : Change → DiskRow → ℕ → Bool
had_content change row block = has_content change.chosen change.w row row.epoch block

abbrev pub has_content_next : Change → DiskRow → ℕ → Bool
has_content_next change row block =
    has_content_where change.chosen_next change.next (disk_at change.chosen_next.disks.rows row.id) row.epoch block

-- the block has a content after the step, and had none or another one. It can have one again where nobody's copy counted: a region is on its
-- way from a link that was Lost, and the block is written under the new map
abbrev pub is_changed : Change → DiskRow → ℕ → Bool
is_changed change row block =
    has_content_next change row block
    && (not (had_content change row block) || not (same_bytes (before_step change row block) (after_step change row block)))

-- the blocks of a disk whose content is another after the step, by number
abbrev pub changed_blocks : Change → DiskRow → List ℕ
changed_blocks change row = filter (is_changed change row) (blocks_in change.setting change.next)

abbrev pub writes_so : List ℕ → ℕ → List ℕ → Write → Bool
writes_so name block bytes write = same_bytes write.disk name && (write.block == block) && same_bytes write.bytes bytes

-- the write under way that gives the disk's block this content: of several, the one of the least client
abbrev pub taker : World → List ℕ → ℕ → List ℕ → Option Write
taker w name block bytes = find (writes_so name block bytes) (filter_map (open_write w) (range_with_len 0 9))

abbrev pub with_first : Option Event → Option (List Event) → Option (List Event)
with_first None events = None
with_first (Some event) None = None
with_first (Some event) (Some events) = Some (event ∷ events)

-- the events, where each is there
abbrev pub all_there : List (Option Event) → Option (List Event)
all_there [] = Some []
all_there (event ∷ later) = with_first event (all_there later)

abbrev pub taken : Option Write → Option Event
taken None = None
taken (Some write) = Some (Take write)

abbrev pub takes_on : Change → DiskRow → List (Option Event)
takes_on change row = map (λ b. taken (taker change.w row.name b (after_step change row b))) (changed_blocks change row)

-- a content that changed was written by a write under way, by disk and block; where there is none, the events are no run
abbrev pub takes : Change → Option (List Event)
takes change = all_there (flat_map (takes_on change) change.chosen.disks.rows)

-- ### Disks

abbrev pub make_of : DiskRow → Event
make_of row = Make row.name

-- the disks that the entries make which this step chose, in their order
abbrev pub makes : Change → List Event
makes change = map make_of (drop (length change.chosen.disks.rows) change.chosen_next.disks.rows)

-- ### Snapshots

-- the snapshots of a disk that may be unknown
abbrev pub snapshots_of : Option DiskRow → List Snapshot
snapshots_of None = []
snapshots_of (Some row) = row.snaps

abbrev pub freeze_of : DiskRow → Snapshot → Event
freeze_of row snap = Freeze row.name snap.name

-- the snapshots of the disk that this step made, in their order
abbrev pub freezes_on : Change → DiskRow → List Event
freezes_on change row = map (freeze_of row) (drop (length (snapshots_of (disk_at change.chosen.disks.rows row.id))) row.snaps)

-- a snapshot is taken in the step that chose the entry with which its fence takes effect
abbrev pub freezes : Change → List Event
freezes change = flat_map (freezes_on change) change.chosen_next.disks.rows

-- ### Reads

abbrev pub same_actor : Actor → Actor → Bool
same_actor (actor.Server n) (actor.Server m) = n == m
same_actor (actor.Client c) (actor.Client d) = c == d
same_actor _ _ = false

-- two letters have one name
abbrev pub same_name : Letter → Letter → Bool
same_name a b = same_actor a.from b.from && (a.stamp == b.stamp) && (a.nth == b.nth)

abbrev pub line_of_data : ℕ → Answer → Option ℕ
line_of_data line (answer.Data bytes) = Some line
line_of_data line _ = None

-- the line that is answered with data
abbrev pub data_line : Option (ℕ × Answer) → Option ℕ
data_line None = None
data_line (Some given) = line_of_data given.0 given.1

-- the line that this record answers with data, where it is the delivery of this letter
abbrev pub accepts : Letter → Step → Option (ℕ × Answer) → Option ℕ
accepts letter (Deliver other) given = if same_name letter other then data_line given else None
accepts letter _ given = None

abbrev pub first_of : Option ℕ → Option ℕ → Option ℕ
first_of None other = other
first_of (Some line) other = Some line

-- the line that the letter answers in one of these records
abbrev pub accepted : List Record → Letter → Option ℕ
accepted [] letter = None
accepted (own ∷ later) letter = first_of (accepts letter own.step own.answer) (accepted later letter)

abbrev pub look_by : Request → List ℕ → List Event
look_by (request.Read name snap block) bytes = Look name snap block bytes ∷ []
look_by _ bytes = []

abbrev pub look_for : List Line → Option ℕ → List ℕ → List Event
look_for lines None bytes = []
look_for lines (Some number) bytes = flat_map (λ line. if line.number == number then look_by line.request bytes else []) lines

-- the letter asks for a cell of an old map, in a region that is on its way
abbrev pub asks_old : State → Body → Bool
asks_old state (body.Read client seq cell epoch) = leaving state cell
asks_old state _ = false

abbrev pub job_asks_old : State → List Job → Bool
job_asks_old state (job.Letter letter ∷ jobs) = asks_old state letter.body
job_asks_old state _ = false

-- a step of this actor handles such a letter
abbrev pub reads_old : Setting → World → Actor → Bool
reads_old setting w (actor.Server n) = job_asks_old (server_state setting w n) (w.servers n).queue
reads_old setting w (actor.Client c) = false

-- the client's open request asks the old map, by its latest send at this revision
abbrev pub is_old_way : Option Asked → Bool
is_old_way None = false
is_old_way (Some asked) = asked.old_way

abbrev pub goes_old : World → Actor → Bool
goes_old w (actor.Server n) = false
goes_old w (actor.Client c) = is_old_way (w.clients c).asked

-- the record is the delivery of this letter
abbrev pub delivers : Letter → Step → Bool
delivers letter (Deliver other) = same_name letter other
delivers letter _ = false

-- with the delivery of this letter the client asks the old map
abbrev pub turns : Letter → World → Record → (next : World) → Bool
turns letter w own next = delivers letter own.step && not (goes_old w own.actor) && goes_old next own.actor

-- the letter that told of this read that the new map has nothing
pub record NotThere : Type 0 where
  pub letter : Letter
  pub seq : ℕ

-- data that was sent for this read under the old map, at the letter's revision, and that answers the client's line in one of these records
abbrev pub data_of : NotThere → List Record → Letter → Body → Option (ℕ × List ℕ)
data_of told later letter (body.Data seq bytes) =
    if same_actor told.letter.to letter.to && (told.letter.rev == letter.rev) && (told.seq == seq)
    then option_map (λ line. (line, bytes)) (accepted later letter) else None
data_of told later letter _ = None

abbrev pub first_data : Option (ℕ × List ℕ) → Option (ℕ × List ℕ) → Option (ℕ × List ℕ)
first_data None other = other
first_data (Some given) other = Some given

abbrev pub data_among : NotThere → List Record → List Letter → Option (ℕ × List ℕ)
data_among told later [] = None
data_among told later (letter ∷ letters) = first_data (data_of told later letter letter.body) (data_among told later letters)

-- the data that a read gets by the old map, which this letter made it ask
abbrev pub old_data : Setting → World → List Record → NotThere → (turned : Bool) → Option (ℕ × List ℕ)
old_data setting w [] told turned = None
old_data setting w (own ∷ later) told turned =
    let next = (stepped setting w own).world in
    let now = if turned && reads_old setting w own.actor then data_among told later own.sent else None in
    first_data now (old_data setting next later told (turned || turns told.letter w own next))

abbrev pub look_for_data : List Line → Option (ℕ × List ℕ) → List Event
look_for_data lines None = []
look_for_data lines (Some given) = look_for lines (Some given.0) given.1

-- the step that sent a letter whose data answers a read tells that the read looks. Where that was read under the old map of a region that is
-- on its way, the step tells it that sent the NotHere which made the client ask there
abbrev pub look_of : Setting → (w next : World) → Actor → List Record → Letter → Body → List Event
look_of setting w next who later letter (body.Data seq bytes) =
    if reads_old setting w who then [] else look_for setting.lines (accepted later letter) bytes
look_of setting w next who later letter (body.NotHere seq) =
    look_for_data setting.lines (old_data setting next later (record { letter = letter; seq = seq }) false)
look_of setting w next who later letter _ = []

abbrev pub looks : Setting → (w next : World) → Record → List Record → List Event
looks setting w next own later = flat_map (λ letter. look_of setting w next own.actor later letter letter.body) own.sent

-- ### All steps

-- what is begun, taken and told, and ended: no run, where what is taken, or what is ended, is none
abbrev pub events_with : List Event → Option (List Event) → List Event → Option (List Event) → Option (List Event)
events_with before None following last = None
events_with before (Some taken_now) following None = None
events_with before (Some taken_now) following (Some last) = Some (before ++ taken_now ++ (following ++ last))

-- the events of one step, in the order begin, take, make, freeze, look, end
abbrev pub events_at : Setting → World → Record → List Record → Option (List Event)
events_at setting w own later =
    let next = (stepped setting w own).world in
    let change = change_by setting w next in
    events_with (begins own.step own.actor next) (takes change) (makes change ++ freezes change ++ looks setting w next own later)
    (ends own.actor w own.answer)

abbrev pub joined : Option (List Event) → Option (List Event) → Option (List Event)
joined None events = None
joined (Some now) None = None
joined (Some now) (Some later) = Some (now ++ later)

abbrev pub events_from : Setting → World → List Record → Option (List Event)
events_from setting w [] = Some []
events_from setting w (own ∷ later) = joined (events_at setting w own later) (events_from setting (stepped setting w own).world later)

-- the events of a history
abbrev pub events_of : Script → List Record → Option (List Event)
events_of script records = events_from (setting_of script) (start (setting_of script)) records

-- the events are a run of the plain machine
abbrev pub IsRunOf : Option (List Event) → Type 0
IsRunOf None = ⊥
IsRunOf (Some events) = IsRun events
