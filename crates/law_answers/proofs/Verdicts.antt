-- Where a plain log gives a client its verdict: by the client's own command, of which the state before its place says what the verdict says;
-- and a snapshot that waits there is taken once its fence passes.
use Rattle.law_answers.proofs.Imports.{◌+◌, ◌<◌, ◌∙◌, ◌≡◌, ◌≢◌, ◌≤◌, ◌⊎◌, Answer, Command, DiskRow, Fence, HasProperTuples, IsForSnapshot, IsRequeued}
use Rattle.law_answers.proofs.Imports.{IsUnsettled, List, MakeDisk, None, Of_disk, Of_region, Option, Region, Request, Snap, Snapshot, Some, StartMove}
use Rattle.law_answers.proofs.Imports.{Verdict, Whole, act, act_make, act_start, acting, ap, arith, asker, cases_lt, command_of, effect, false, following}
use Rattle.law_answers.proofs.Imports.{get_after, get_last, get_within, has_made, head_get, here_now, inl, inr, is_moving, is_name_taken, is_new, is_none}
use Rattle.law_answers.proofs.Imports.{is_snap, is_some, is_taken, lacks_disk, latest, length, named, none_some, one_passed, option_map_or, passed}
use Rattle.law_answers.proofs.Imports.{passed_here, passing, ready_by, refl, requeued_awaiting, requeued_itself, requeued_reported, row_frozen, row_moving}
use Rattle.law_answers.proofs.Imports.{same_some, servers_in, settled, settled_keeps, slice_get, slice_get_within, snapshot_named, some_or_none, state_after}
use Rattle.law_answers.proofs.Imports.{subst, suc, sym, take, text_itself, told, true, true_false, unwrap_or, verdict_answer, verdict_for, view-effect}
use Rattle.law_answers.proofs.Imports.{with_disk, with_fence, with_move, with_queued, zero, ℕ}
use Rattle.global_tables.specs.Disk.{same_name}
use Rattle.spec_state.specs.State.{State}
use Rattle.spec_state.specs.Command.{after}
use Rattle.law_state.proofs.Fences.{Acted}
use Rattle.law_answers.proofs.CommandsWereAsked.{asker_of}
use Rattle.law_answers.proofs.EntriesTellClients.{told_answers, judged_last, judged_old, old_now, onward_new, passed_old, passed_or, passed_stays}
use Rattle.law_answers.proofs.EntriesTellClients.{settled_old, told_old, told_or, told_stays}
use Rattle.law_answers.proofs.RequestsStayDone.{nobody_told, named_on, last_found, has_kept, made_on, asks_it, request_of, same_whole, no_whole, row_known_at}
use Rattle.law_answers.proofs.RequestsStayDone.{settled_moving, IsMoving}
use Rattle.law_answers.proofs.OldNumbersStayOld.{at_next, entry_plain, many_at, old_on, own_old, plain_at}
use Rattle.global_tables.specs.declared.disk.Verdict.TheVariants as verdict
use Rattle.script_lines.specs.declared.answer.Answer.TheVariants as answer
use Rattle.script_lines.specs.declared.request.Request.TheVariants as request
use Rattle.law_state.proofs.EntryOutcomes as entries

-- ### Along a log

module _ (servers : ℕ) (log : List Command) (plain : HasProperTuples servers log) where
  -- the state before a place
  abbrev at : ℕ → State
  at k = state_after servers (take k log)

  -- ### One request

  module _ (c seq : ℕ) (few : c < 9) (asked : Request)
      (own : (k : ℕ) (e : Command) → slice_get log k ≡ Some e → asker e ≡ Some (c, seq) → command_of c seq asked ≡ Some e) where
    -- the request's own command stands at this place, and is new there; what it is answered, the state before says
    pub record Placed (given : Answer) : Type 0 where
      pub place : ℕ
      pub command : Command
      pub of_it : command_of c seq asked ≡ Some command
      pub is : slice_get log place ≡ Some command
      pub new : is_new seq (latest (at place) c) ≡ true
      pub taken : given ≡ answer.Exists → is_name_taken (at place) asked ≡ true
      pub unknown : given ≡ answer.NoDisk → lacks_disk (at place) asked ≡ true
      pub moving : given ≡ answer.Moving → is_moving (at place) asked ≡ true
      pub still : given ≡ answer.Ok → is_moving (at place) asked ≡ false
      pub free : given ≡ answer.Ok → is_name_taken (at place) asked ≡ false
      pub known : given ≡ answer.Ok → lacks_disk (at place) asked ≡ false

    few_at : (k : ℕ) → k ≤ length log → c < length (at k).verdicts
    few_at k low = let many = many_at servers log plain k low in omega arith

    -- what the request is answered so far
    abbrev says : State → Option Answer
    says t = verdict_for seq (latest t c)

    -- what it is answered it is answered still, until the client is told of a later command
    abbrev Stays : (s t : State) → Type 0
    Stays s t = (given : Answer) → says s ≡ Some given → (says t ≡ Some given) ⊎ (is_new (suc seq) (latest t c) ≡ false)

    -- the fence of this disk and name is for the request's snapshot, of which nothing is said before it is taken
    pub record Waits (t : State) (disk : ℕ) (name : List ℕ) : Type 0 where
      pub placed : Placed answer.Ok
      pub of : List ℕ
      pub asks : asked ≡ request.Snap of name
      pub row : DiskRow
      pub found : named t.disks.rows of ≡ Some row
      pub id : row.id ≡ disk
      pub old : is_new seq (latest t c) ≡ false
      pub quiet : (given : Answer) → says t ≡ Some given → given ≡ answer.Ok

    -- what is answered was placed, and what it asked for is there; and so waits each fence of this client and number
    pub record Has (t : State) : Type 0 where
      pub told : (given : Answer) → says t ≡ Some given → Placed given × (given ≡ answer.Ok → has_kept t asked ≡ true)
      pub waits : (i : ℕ) (fence : Fence) (disk : ℕ) (name : List ℕ) → slice_get t.view.queue i ≡ Some fence → fence.kind ≡ Whole disk name c seq
          → Waits t disk name

    -- what a step tells of the request: what was told before; or that its command, which was new, stands there, or that its snapshot is taken
    abbrev OldOrTold : (s t : State) → Answer → Type 0
    OldOrTold s t given =
        (says s ≡ Some given)
        ⊎ Placed given × (given ≡ answer.Ok → has_kept t asked ≡ true) × ((is_new seq (latest s c) ≡ true) ⊎ (given ≡ answer.Ok))

    record Tells (s t : State) : Type 0 where
      tells : (given : Answer) → says t ≡ Some given → OldOrTold s t given
      old : is_new seq (latest s c) ≡ false → is_new seq (latest t c) ≡ false
      stays : Stays s t

    waits_on : (s t : State) → IsUnsettled servers s → Acted servers s t → Tells s t → (disk : ℕ) (name : List ℕ) → Waits s disk name → Waits t disk name
    waits_on s t p acted tells disk name w =
        let later = named_on servers s t p acted.plain acted.grown w.of w.row w.found in
        record {
          placed = w.placed;
          of = w.of;
          asks = w.asks;
          row = later.0;
          found = later.1;
          id = later.2.id ∙ w.id;
          old = tells.old w.old;
          quiet = λ given e. elim (tells.tells given e) [
            | inl before ↦ w.quiet given before
            | inr told ↦ elim told.2 [ inl new ↦ true_false new w.old | inr ok ↦ ok ]
          ];
        }

    -- a fence that stood before, or waits for the request's snapshot
    abbrev OldOrWaits : (s t : State) → Fence → Type 0
    OldOrWaits s t fence =
        ((i : ℕ) × (before : Fence) × (slice_get s.view.queue i ≡ Some before) × (fence.kind ≡ before.kind))
        ⊎ ((disk : ℕ) (name : List ℕ) → fence.kind ≡ Whole disk name c seq → Waits t disk name)

    -- a step that tells this client nothing
    silent : (s t : State) → latest t c ≡ latest s c → Tells s t
    silent s t same = record {
      tells = λ given e. inl (ap (verdict_for seq) (sym same) ∙ e);
      old = λ old. ap (is_new seq) same ∙ old;
      stays = λ given e. inl (ap (verdict_for seq) same ∙ e);
    }

    abbrev Goes : (s t : State) → Type 0
    Goes s t = Has t × Stays s t

    -- the fences that stand then stood before, or wait for the request's snapshot
    abbrev Queues : (s t : State) → Type 0
    Queues s t = (i : ℕ) (fence : Fence) → slice_get t.view.queue i ≡ Some fence → OldOrWaits s t fence

    has_next : (s t : State) → IsUnsettled servers s → Has s → Acted servers s t → Tells s t → Queues s t → Goes s t
    has_next s t p h acted tells queue = (
      record {
        told = λ given e. elim (tells.tells given e) [
          | inl old ↦ (let was = h.told given old in (was.0, λ ok. made_on servers s t p acted.plain acted.grown asked (was.1 ok)))
          | inr new ↦ (new.0, new.1)
        ];
        waits = λ i fence disk name e kind. elim (queue i fence e) [
          | inl old ↦ waits_on s t p acted tells disk name (h.waits old.0 old.1 disk name old.2 (sym old.3 ∙ kind))
          | inr new ↦ new disk name kind
        ];
      },
      tells.stays,
    )

    old_queue : (s t : State) → IsRequeued s.view.queue t.view.queue → Queues s t
    old_queue s t was i fence e = let before = was i fence e in inl (i, before.0, before.1, before.2)

    -- ### A fence that passes

    passing_made : (s : State) (p : IsUnsettled servers s) (fence : Fence) (first : slice_get s.view.queue 0 ≡ Some fence)
        → (active : IsForSnapshot s fence) → Waits s active.disk active.name → has_kept (one_passed s fence) asked ≡ true
    passing_made s p fence first active w =
        let t = one_passed s fence in
        let acted = passing servers s p fence first in
        let later = named_on servers s t p acted.plain acted.grown w.of w.row w.found in
        let now : later.0 ≡ row_frozen active.name active.row =
        same_some (sym later.3 ∙ ap (slice_get t.disks.rows) w.id ∙ passed_here servers s p fence first active) in
        ap (has_kept t) w.asks ∙ ap (λ o. option_map_or (λ (row : DiskRow). is_some (snapshot_named row.snaps active.name)) o false) later.1
        ∙ ap (λ (row : DiskRow). is_some (snapshot_named row.snaps active.name)) now
        ∙ last_found (λ (x : Snapshot). same_name x.name active.name) active.row.snaps (record { name = active.name; epoch = active.row.epoch })
        (text_itself active.name)

    -- the fences after it stood before
    queue_after : (s : State) (fence : Fence) → Queues s (one_passed s fence)
    queue_after s fence i other e =
        let there : slice_get (following (servers_in s.view.members) s.view.queue) i ≡ Some other =
        sym (ap (λ (v : Rattle.global_tables.specs.View.View). slice_get v.queue i) (view-effect fence.kind _)) ∙ e in
        let before = get_after (servers_in s.view.members) s.view.queue i other there in
        inl (suc i, before.0, before.1, before.2)

    disk_passes : (s : State) → IsUnsettled servers s → Has s → (fence : Fence) → slice_get s.view.queue 0 ≡ Some fence → IsForSnapshot s fence
        → Tells s (one_passed s fence)
    disk_passes s p h fence first active =
        let waiting = λ (same : active.client ≡ c) (number : active.seq ≡ seq). h.waits 0 fence active.disk active.name first
        (active.kind ∙ (λ i. Whole active.disk active.name (same i) (number i))) in
        record {
          tells = λ given e. elim (passed_or s fence active.disk active.name active.client c active.seq seq given active.kind e) [
            | inl old ↦ inl old
            | inr hit ↦
                let w = waiting hit.0 hit.1 in
                inr (subst Placed (same_some hit.2) w.placed, λ ok. passing_made s p fence first active w, inr (sym (same_some hit.2)))
          ];
          old = passed_old s fence c seq;
          stays = λ given e. inl (passed_stays s fence active.disk active.name active.client c active.seq seq given active.kind
              (λ same number. (waiting same number).quiet given e) e);
        }

    -- one for a region tells nobody
    passes_by : (s : State) → IsUnsettled servers s → Has s → (fence : Fence) → slice_get s.view.queue 0 ≡ Some fence
        → IsUnsettled servers (one_passed s fence) × Goes s (one_passed s fence)
    passes_by s p h fence first =
        let acted = passing servers s p fence first in
        let tells : Tells s (one_passed s fence) = elim (p.fences.each 0 fence first) [
          | Of_disk active ↦ disk_passes s p h fence first active
          | Of_region active ↦ silent s _ (ap (λ kind. latest (effect kind (record s { view = passed s.view })) c) active.kind)
        ] in
        (acted.plain, has_next s (one_passed s fence) p h acted tells (queue_after s fence))

    stays_then : (s t u : State) → Stays s t → Stays t u → (is_new (suc seq) (latest t c) ≡ false → is_new (suc seq) (latest u c) ≡ false) → Stays s u
    stays_then s t u first second gone given e = elim (first given e) [ inl still ↦ second given still | inr later ↦ inr (gone later) ]

    settles : (s : State) → IsUnsettled servers s → Has s → Goes s (settled s)
    settles s p h =
        (settled_keeps (λ t. IsUnsettled servers t × Goes s t)
        (λ t fence ready now.
        let passed = passes_by t now.0 now.1.0 fence (head_get t.view.queue fence (ready_by t.view.queue fence ready).first) in
        (passed.0, (passed.1.0, stays_then s t (one_passed t fence) now.1.1 passed.1.1 (passed_old t fence c (suc seq))))) s
        (p, (h, λ given e. inl e))).1

    -- ### The command of an entry

    module _ (k : ℕ) (low : k ≤ length log) (h : Has (at k)) where
      abbrev s : State
      s = at k

      p : IsUnsettled servers s
      p = (plain_at servers log plain k).unsettled

      -- what the command leads to
      abbrev To : State → Type 0
      To t = Acted servers s t → Goes s t

      still : (t : State) → IsRequeued s.view.queue t.view.queue → latest t c ≡ latest s c → To t
      still t queue same acted = has_next s t p h acted (silent s t same) (old_queue s t queue)

      new_at : (d q : ℕ) → d ≡ c → q ≡ seq → is_new q (latest s d) ≡ true → is_new seq (latest s c) ≡ true
      new_at d q one two new = (λ i. is_new (sym two i) (latest s (sym one i))) ∙ new

      -- what a new command tells
      telling : (u : State) (d q : ℕ) (v : Verdict) → u.verdicts ≡ s.verdicts → is_new q (latest s d) ≡ true
          → (d ≡ c → q ≡ seq → (given : Answer) → verdict_answer v ≡ Some given
          → Placed given × (given ≡ answer.Ok → has_kept (told u d q v) asked ≡ true)) → Tells s (told u d q v)
      telling u d q v same new placed =
          let at_u : (n : ℕ) → latest u n ≡ latest s n = λ n. ap (λ verdicts. unwrap_or (slice_get verdicts n) None) same in
          record {
            tells = λ given e. elim (told_or u d c q seq v given e) [
              | inl old ↦ inl (ap (verdict_for seq) (sym (at_u c)) ∙ old)
              | inr hit ↦ (let r = placed hit.0 hit.1 given hit.2 in inr (r.0, r.1, inl (new_at d q hit.0 hit.1 new)))
            ];
            old = λ old. told_old u d c q seq v (λ r is. onward_new q (latest s d) new r (ap (is_new r) (sym (at_u d)) ∙ is)) (ap (is_new seq) (at_u c) ∙ old);
            stays = λ given e. told_stays u d c q seq v given (ap (is_new q) (at_u d) ∙ new) (ap (verdict_for seq) (at_u c) ∙ e);
          }

      -- what the state before says of the request, by what its command is answered
      abbrev Judges : Answer → Type 0
      Judges answer.Exists = is_name_taken s asked ≡ true
      Judges answer.NoDisk = lacks_disk s asked ≡ true
      Judges answer.Moving = is_moving s asked ≡ true
      Judges answer.Ok = (is_moving s asked ≡ false) × (is_name_taken s asked ≡ false) × (lacks_disk s asked ≡ false)
      Judges _ = Unit

      -- and the state after it
      abbrev Keeps : State → Answer → Type 0
      Keeps t answer.Ok = has_kept t asked ≡ true
      Keeps t _ = Unit

      placed_here : (command : Command) (given : Answer) → command_of c seq asked ≡ Some command → slice_get log k ≡ Some command
          → is_new seq (latest s c) ≡ true → Judges given → Placed given
      placed_here command given of_it there new judged = record {
        place = k;
        command = command;
        of_it = of_it;
        is = there;
        new = new;
        taken = λ is. subst Judges is judged;
        unknown = λ is. subst Judges is judged;
        moving = λ is. subst Judges is judged;
        still = λ is. (subst Judges is judged).0;
        free = λ is. (subst Judges is judged).1;
        known = λ is. (subst Judges is judged).2;
      }

      -- the command that stands here is the request's, where it is of its client and number
      is_own : (d q : ℕ) (command : Command) → slice_get log k ≡ Some command → asker command ≡ Some (d, q) → d ≡ c → q ≡ seq
          → (command_of c seq asked ≡ Some command) × (asked ≡ request_of command)
      is_own d q command there of_it one two =
          let mine = own k command there (of_it ∙ λ i. Some (one i, two i)) in (mine, asks_it c seq asked command mine)

      -- a new command is told its verdict
      judged : (u : State) (d q : ℕ) (v : Verdict) (given : Answer) (command : Command) → u.verdicts ≡ s.verdicts → verdict_answer v ≡ Some given
          → asker command ≡ Some (d, q) → slice_get log k ≡ Some command → is_new q (latest s d) ≡ true
          → (asked ≡ request_of command → Judges given × Keeps (told u d q v) given) → Queues s (told u d q v) → To (told u d q v)
      judged u d q v given command same is of_it there new why queue acted =
          has_next s (told u d q v) p h acted
          (telling u d q v same new (λ one two other e.
          let mine = is_own d q command there of_it one two in
          let w = why mine.1 in
          subst (λ g. Placed g × (g ≡ answer.Ok → has_kept (told u d q v) asked ≡ true)) (same_some (sym is ∙ e))
          (placed_here command given mine.0 there (new_at d q one two new) w.0, λ ok. subst (Keeps (told u d q v)) ok w.1))) queue

      -- one that is refused changes nothing else
      refused : (d q : ℕ) (v : Verdict) (given : Answer) (command : Command) → verdict_answer v ≡ Some given → asker command ≡ Some (d, q)
          → slice_get log k ≡ Some command → is_new q (latest s d) ≡ true
          → (asked ≡ request_of command → Judges given × Keeps (told s d q v) given) → To (told s d q v)
      refused d q v given command is of_it there new why =
          judged s d q v given command refl is of_it there new why (old_queue s (told s d q v) (requeued_itself s.view.queue))

      -- a disk that is made
      module _ (d q : ℕ) (name tuple : List ℕ) (there : slice_get log k ≡ Some (MakeDisk d q name tuple)) (new : is_new q (latest s d) ≡ true) where
        makes : named s.disks.rows name ≡ None → To (told (with_disk s name tuple) d q verdict.Ok)
        makes none =
            judged (with_disk s name tuple) d q verdict.Ok answer.Ok (MakeDisk d q name tuple) refl refl refl there new (λ a. (
              (ap (is_moving s) a, ap (is_name_taken s) a ∙ ap is_some none, ap (lacks_disk s) a),
              ap (has_kept (told (with_disk s name tuple) d q verdict.Ok)) a
                  ∙ last_found (λ (row : DiskRow). same_name row.name name) s.disks.rows _ (text_itself name),
            )) (old_queue s (told (with_disk s name tuple) d q verdict.Ok) (requeued_itself s.view.queue))

      -- a snapshot that is asked for
      module _ (d q : ℕ) (of name : List ℕ) (there : slice_get log k ≡ Some (Snap d q of name)) (new : is_new q (latest s d) ≡ true) where
        -- the state in which its fence waits
        module _ (row : DiskRow) (found : named s.disks.rows of ≡ Some row) (free : is_taken s name row ≡ false) where
          abbrev queued : State
          queued = with_fence s (Whole row.id name d q)

          abbrev waiting : State
          waiting = told queued d q verdict.Waiting

          late_waits : (disk : ℕ) (text : List ℕ) → Whole row.id name d q ≡ Whole disk text c seq → Waits waiting disk text
          late_waits disk text kind =
              let same = same_whole row.id disk d c q seq name text kind in
              let a = is_own d q (Snap d q of name) there refl same.2 same.3 in
              let is_new_here = new_at d q same.2 same.3 new in
              record {
                placed = placed_here (Snap d q of name) answer.Ok a.0 there is_new_here (
                  ap (is_moving s) a.1,
                  ap (is_name_taken s) a.1 ∙ ap (λ o. option_map_or (is_taken s name) o false) found ∙ free,
                  ap (lacks_disk s) a.1 ∙ ap is_none found,
                );
                of = of;
                asks = a.1 ∙ ap (request.Snap of) same.1;
                row = row;
                found = found;
                id = same.0;
                old = old_now queued d c q seq verdict.Waiting same.2 same.3 (few_at k low);
                quiet = λ given e. elim (told_or queued d c q seq verdict.Waiting given e) [
                  | inl before ↦ true_false is_new_here (judged_old seq (latest s c) given before)
                  | inr hit ↦ none_some refl hit.2
                ];
              }

          queues : To waiting
          queues acted =
              has_next s waiting p h acted
              (telling queued d q verdict.Waiting refl new (λ one two given e. none_some refl e))
              (λ i fence e. elim (get_last s.view.queue _ i fence e) [
                | inl old ↦ inl (i, fence, old, refl)
                | inr late ↦ inr (λ disk text kind. late_waits disk text (sym (ap (λ (f : Fence). f.kind) late.1) ∙ kind))
              ])

      -- a fence for a region is after those that stood
      region_queued_then : (t : State) (disk region : ℕ) → (i : ℕ) (fence : Fence)
          → slice_get (with_queued s.view (Region disk region)).queue i ≡ Some fence → OldOrWaits s t fence
      region_queued_then t disk region i fence e = elim (get_last s.view.queue _ i fence e) [
        | inl old ↦ inl (i, fence, old, refl)
        | inr late ↦ inr (λ disk text kind. no_whole (sym (ap (λ (f : Fence). f.kind) late.1) ∙ kind))
      ]

      -- a move that begins
      module _ (d q : ℕ) (of tuple : List ℕ) (there : slice_get log k ≡ Some (StartMove d q of tuple)) (new : is_new q (latest s d) ≡ true) where
        begins : (row : DiskRow) → named s.disks.rows of ≡ Some row → row.moving ≡ None → To (told (with_move s tuple row.id) d q verdict.Ok)
        begins row found free =
            judged (with_move s tuple row.id) d q verdict.Ok answer.Ok (StartMove d q of tuple) refl refl refl there new (λ a. (
              (
                ap (is_moving s) a ∙ ap (λ o. option_map_or (λ (r : DiskRow). is_some r.moving) o false) found ∙ ap is_some free,
                ap (is_name_taken s) a,
                ap (lacks_disk s) a ∙ ap is_none found,
              ),
              ap (has_kept (told (with_move s tuple row.id) d q verdict.Ok)) a,
            )) (region_queued_then (told (with_move s tuple row.id) d q verdict.Ok) row.id 0)

      -- what is refused is so by the state before
      refuses : (e : Command) (v : Verdict) → entries.IsRefused s e v → (d q : ℕ) → asker e ≡ Some (d, q) → slice_get log k ≡ Some e
          → is_new q (latest s d) ≡ true → To (told s d q v)
      refuses _ _ (entries.Disk_exists client seq name tuple there) d q of_it is new =
          refused d q verdict.Exists answer.Exists (MakeDisk client seq name tuple) refl of_it is new (λ a. (ap (is_name_taken s) a ∙ there, tt))
      refuses _ _ (entries.Snap_exists client seq disk name row found taken) d q of_it is new =
          refused d q verdict.Exists answer.Exists (Snap client seq disk name) refl of_it is new (λ a.
          (ap (is_name_taken s) a ∙ ap (λ o. option_map_or (is_taken s name) o false) found ∙ taken, tt))
      refuses _ _ (entries.Snap_unknown client seq disk name none) d q of_it is new =
          refused d q verdict.NoDisk answer.NoDisk (Snap client seq disk name) refl of_it is new (λ a. (ap (lacks_disk s) a ∙ ap is_none none, tt))
      refuses _ _ (entries.Move_unknown client seq disk tuple none) d q of_it is new =
          refused d q verdict.NoDisk answer.NoDisk (StartMove client seq disk tuple) refl of_it is new (λ a. (ap (lacks_disk s) a ∙ ap is_none none, tt))
      refuses _ _ (entries.Is_moving client seq disk tuple row found busy) d q of_it is new =
          refused d q verdict.Moving answer.Moving (StartMove client seq disk tuple) refl of_it is new (λ a.
          (ap (is_moving s) a ∙ ap (λ o. option_map_or (λ (r : DiskRow). is_some r.moving) o false) found ∙ busy, tt))

      acts : (e : Command) (t : State) → entries.Outcome servers s (plain_at servers log plain k) e t → slice_get log k ≡ Some e → To t
      acts _ _ (entries.Unchanged entry old) there = λ acted. (h, λ given e. inl e)
      acts _ _ (entries.Tells entry client number v asks new why) there = refuses entry v why client number asks there new
      acts _ _ (entries.Makes client number name tuple new none proper) there = makes client number name tuple there new none
      acts _ _ (entries.Queues client number of name new row found free) there = queues client number of name there new row found free
      acts _ _ (entries.Begins client number of tuple new row found free proper) there = begins client number of tuple there new row found free
      acts _ _ (entries.Leaves server inc up) there = still _ (requeued_awaiting _ s.view.queue) refl
      acts _ _ (entries.Reports server inc fence head up) there = still _ (requeued_reported server s.view.queue) refl
      acts _ _ (entries.Moves_on of region link n all more) there =
          λ acted. has_next s _ p h acted (silent s _ refl) (region_queued_then _ n.row.id (region + 1))
      acts _ _ _ there = still _ (requeued_itself s.view.queue) refl

    has_renumbered : (t : State) (rev : ℕ) → Has t → Has (record t { rev = rev })
    has_renumbered t rev h = record {
      told = λ given e. let was = h.told given e in (was.0, λ ok. renumbered_made asked (was.1 ok));
      waits = λ i fence disk name e kind. let w = h.waits i fence disk name e kind in
          record { placed = w.placed; of = w.of; asks = w.asks; row = w.row; found = w.found; id = w.id; old = w.old; quiet = w.quiet };
    }
      where
        renumbered_made : (what : Request) → has_kept t what ≡ true → has_kept (record t { rev = rev }) what ≡ true
        renumbered_made (request.Disk name tuple) h = h
        renumbered_made (request.Snap name snap) h = h
        renumbered_made (request.Move name tuple) h = h
        renumbered_made _ h = h

    has_start : Has (at 0)
    has_start = record {
      told = λ given e. none_some (ap (verdict_for seq) (nobody_told 9 c)) e;
      waits = λ i fence disk name e kind. none_some refl e;
    }

    -- what an entry leads to, and so what its command is answered
    entered : (k : ℕ) → k + 1 ≤ length log → Has (at k) → (e : Command) → slice_get log k ≡ Some e
        → Goes (at k) (at (suc k)) × Stays (act e (at k)) (at (suc k))
    entered k low h e there =
        let acted = acting servers (at k) e (plain_at servers log plain k) (entry_plain servers log plain k e there) in
        let acts_so = acts k (omega arith) h e (act e (at k))
        (entries.outcome servers (at k) (plain_at servers log plain k) e (entry_plain servers log plain k e there)) there acted in
        let settled_so = settles (act e (at k)) acted.plain acts_so.0 in
        subst (λ (t : State). Goes (at k) t × Stays (act e (at k)) t) (sym (at_next servers log plain k e there)) (
          (
            has_renumbered _ _ settled_so.0,
            stays_then (at k) (act e (at k)) (after (at k) e) acts_so.1 settled_so.1 (settled_old (act e (at k)) c (suc seq)),
          ),
          settled_so.1,
        )

    next_by : (k : ℕ) → k + 1 ≤ length log → Has (at k) → Goes (at k) (at (suc k))
    next_by k low h = let e = get_within log k (omega arith) in (entered k low h e.0 e.1).0

    pub has_at : (k : ℕ) → k ≤ length log → Has (at k)
    has_at zero low = has_start
    has_at (suc k) low = (next_by k (omega arith) (has_at k (omega arith))).0

    stays_on : (i k : ℕ) → i ≤ k → k ≤ length log → Stays (at i) (at k)
    stays_on i zero le low given h = let same : i ≡ 0 = omega arith in inl (subst (λ j. says (at j) ≡ Some given) same h)
    stays_on i (suc k) le low given h = elim (cases_lt i (suc k)) [
      | inr past ↦ (let same : i ≡ suc k = omega arith in inl (subst (λ j. says (at j) ≡ Some given) same h))
      | inl before ↦ elim (stays_on i k (omega arith) (omega arith) given h) [
        | inl still ↦ (next_by k (omega arith) (has_at k (omega arith))).1 given still
        | inr later ↦ inr (old_on servers log plain c (suc seq) k (suc k) (omega arith) low later)
      ]
    ]

    -- ### The place of the verdict

    -- the first state that answers the request, after so many entries and one more, answers it so
    pub judged_first : (k : ℕ) → k ≤ length log → (given : Answer) → says (at k) ≡ Some given
        → (j : ℕ) × (j + 1 ≤ k) × (says (at (j + 1)) ≡ Some given) × ((i : ℕ) → i ≤ j → says (at i) ≡ None)
    judged_first zero low given h = none_some (ap (verdict_for seq) (nobody_told 9 c)) h
    judged_first (suc m) low given h = elim (some_or_none (says (at m))) [
      | inl some ↦ elim ((next_by m (omega arith) (has_at m (omega arith))).1 some.0 some.1) [
        | inl still ↦
            (let one : some.0 ≡ given = same_some (sym still ∙ h) in
            let r = judged_first m (omega arith) given (some.1 ∙ ap Some one) in
            (r.0, (let le = r.1 in omega arith), r.2, r.3))
        | inr later ↦ judged_last seq (latest (at (suc m)) c) given h later
      ]
      | inr none ↦ (
        m,
        omega arith,
        subst (λ n. says (at n) ≡ Some given) (let e : suc m ≡ m + 1 = omega arith in e) h,
        λ i below. elim (some_or_none (says (at i))) [
          | inr silent ↦ silent
          | inl some ↦ elim (stays_on i m below (omega arith) some.0 some.1) [
            | inl still ↦ none_some none still
            | inr later ↦ judged_last seq (latest (at (suc m)) c) given h (old_on servers log plain c (suc seq) m (suc m) (omega arith) low later)
          ]
        ],
      )
    ]

    -- the place of its command is the first one of that, and lies before
    pub placed_first : (given : Answer) (p : Placed given) (i : ℕ) → i < p.place → slice_get log i ≢ Some p.command
    placed_first given p i below there =
        let here = slice_get_within log p.place p.command p.is in
        true_false p.new (old_on servers log plain c seq (suc i) p.place (omega arith) (omega arith)
        (own_old servers log plain c seq i p.command there (omega arith) (asker_of c seq asked p.command p.of_it) few))

    pub placed_before : (k : ℕ) (given : Answer) → says (at k) ≡ Some given → (p : Placed given) → p.place < k
    placed_before k given h p = elim (cases_lt p.place k) [
      | inl lt ↦ lt
      | inr le ↦
          let here = slice_get_within log p.place p.command p.is in
          true_false p.new (old_on servers log plain c seq k p.place le (omega arith) (judged_old seq (latest (at k) c) given h))
    ]

    -- ### A request that isn't for a snapshot

    -- the new command of a disk is answered by the state right after it, but where that state tells of a later command
    disk_answers : (k : ℕ) → k + 1 ≤ length log → (name tuple : List ℕ) → slice_get log k ≡ Some (MakeDisk c seq name tuple)
        → is_new seq (latest (at k) c) ≡ true
        → ((given : Answer) × (says (at (suc k)) ≡ Some given)) ⊎ (is_new (suc seq) (latest (at (suc k)) c) ≡ false)
    disk_answers k low name tuple there new =
        let now = act_make (λ (t : State). (given : Answer) × (says t ≡ Some given)) (at k) c seq name tuple (λ old. true_false new old)
        (λ _ taken. (answer.Exists, told_answers (at k) c seq verdict.Exists answer.Exists (few_at k (omega arith)) refl))
        (λ _ free. (answer.Ok, told_answers (with_disk (at k) name tuple) c seq verdict.Ok answer.Ok (few_at k (omega arith)) refl)) in
        elim ((entered k low (has_at k (omega arith)) (MakeDisk c seq name tuple) there).1 now.0 now.1) [
          | inl still ↦ inl (now.0, still)
          | inr later ↦ inr later
        ]

    -- what the new command of a move comes to: its verdict, and where it is granted the disk is on the move then
    record Begun (t : State) (name : List ℕ) : Type 0 where
      given : Answer
      so : says t ≡ Some given
      moves : given ≡ answer.Ok → IsMoving t name

    move_answers : (k : ℕ) → k + 1 ≤ length log → (name tuple : List ℕ) → slice_get log k ≡ Some (StartMove c seq name tuple)
        → is_new seq (latest (at k) c) ≡ true → Begun (at (suc k)) name ⊎ (is_new (suc seq) (latest (at (suc k)) c) ≡ false)
    move_answers k low name tuple there new =
        let e = StartMove c seq name tuple in
        let acted = acting servers (at k) e (plain_at servers log plain k) (entry_plain servers log plain k e there) in
        let now = begun_by acted in
        let moving : IsMoving (act e (at k)) name → IsMoving (at (suc k)) name =
        λ m. subst (λ (t : State). IsMoving t name) (sym (at_next servers log plain k e there))
        (let s = settled_moving servers (act e (at k)) acted.plain name m in record { row = s.row; found = s.found; moves = s.moves }) in
        elim ((entered k low (has_at k (omega arith)) e there).1 now.given now.so) [
          | inl still ↦ inl (record { given = now.given; so = still; moves = λ ok. moving (now.moves ok) })
          | inr later ↦ inr later
        ]
      where
        begun_moving : (row : DiskRow) → named (at k).disks.rows name ≡ Some row → row.moving ≡ None
            → Acted servers (at k) (told (with_move (at k) tuple row.id) c seq verdict.Ok)
            → IsMoving (told (with_move (at k) tuple row.id) c seq verdict.Ok) name
        begun_moving row found free acts =
            let t = told (with_move (at k) tuple row.id) c seq verdict.Ok in
            let p = (plain_at servers log plain k).unsettled in
            let later = named_on servers (at k) t p acts.plain acts.grown name row found in
            let known = row_known_at (at k) p name row found in
            let now : row_moving (length (at k).maps) row ≡ later.0 =
            same_some (sym (here_now servers (at k) p row.id row known (row_moving (length (at k).maps))) ∙ later.3) in
            record { row = later.0; found = later.1; moves = ap (λ (r : DiskRow). is_some r.moving) (sym now) }

        begun_by : Acted servers (at k) (act (StartMove c seq name tuple) (at k)) → Begun (act (StartMove c seq name tuple) (at k)) name
        begun_by acted =
            act_start (λ (t : State). Acted servers (at k) t → Begun t name) (at k) c seq name tuple (λ old. true_false new old)
            (λ _ none acts. record {
              given = answer.NoDisk;
              so = told_answers (at k) c seq verdict.NoDisk answer.NoDisk (few_at k (omega arith)) refl;
              moves = λ is. (let f : answer.NoDisk ≡ answer.Ok = is in absurd cc);
            })
            (λ _ row found busy acts. record {
              given = answer.Moving;
              so = told_answers (at k) c seq verdict.Moving answer.Moving (few_at k (omega arith)) refl;
              moves = λ is. (let f : answer.Moving ≡ answer.Ok = is in absurd cc);
            })
            (λ _ row found free acts. record {
              given = answer.Ok;
              so = told_answers (with_move (at k) tuple row.id) c seq verdict.Ok answer.Ok (few_at k (omega arith)) refl;
              moves = λ is. begun_moving row found free acts;
            }) acted

    -- so its verdict stands right after its place
    pub judged_at_once : (j : ℕ) → j + 1 ≤ length log → (given : Answer) → says (at (j + 1)) ≡ Some given → ((i : ℕ) → i ≤ j → says (at i) ≡ None)
        → (p : Placed given) → p.place ≤ j → is_snap asked ≡ false → j ≡ p.place
    judged_at_once j low given so until p le other = elim (cases_lt p.place j) [
      | inr past ↦ omega arith
      | inl before ↦
          elim (made_of asked other p.command p.of_it) [
            | inl made ↦ elim (disk_answers p.place (omega arith) made.0 made.1 (p.is ∙ ap Some made.2) p.new) [
              | inl some ↦ none_some (until (suc p.place) (omega arith)) some.1
              | inr later ↦ judged_last seq (latest (at (j + 1)) c) given so
                  (old_on servers log plain c (suc seq) (suc p.place) (j + 1) (omega arith) low later)
            ]
            | inr moved ↦ elim (move_answers p.place (omega arith) moved.0 moved.1 (p.is ∙ ap Some moved.2) p.new) [
              | inl some ↦ none_some (until (suc p.place) (omega arith)) some.so
              | inr later ↦ judged_last seq (latest (at (j + 1)) c) given so
                  (old_on servers log plain c (suc seq) (suc p.place) (j + 1) (omega arith) low later)
            ]
          ]
    ]
      where
        made_of : (what : Request) → is_snap what ≡ false → (command : Command) → command_of c seq what ≡ Some command
            → ((name : List ℕ) × (tuple : List ℕ) × (command ≡ MakeDisk c seq name tuple))
            ⊎ ((name : List ℕ) × (tuple : List ℕ) × (command ≡ StartMove c seq name tuple))
        made_of (request.Disk name tuple) h command e = inl (name, tuple, sym (same_some e))
        made_of (request.Move name tuple) h command e = inr (name, tuple, sym (same_some e))
        made_of (request.Snap name snap) h command e = true_false refl h
        made_of _ h command e = none_some refl e

    -- and what it asked for is there then: also a disk that is on the move
    pub judged_made : (j : ℕ) → j + 1 ≤ length log → (given : Answer) → says (at (j + 1)) ≡ Some given → (p : Placed given)
        → (is_snap asked ≡ false → j ≡ p.place) → has_kept (at (j + 1)) asked ≡ true → given ≡ answer.Ok → has_made (at (j + 1)) asked ≡ true
    judged_made j low given so p at_once kept ok = by asked refl
      where
        moved : (name tuple : List ℕ) → asked ≡ request.Move name tuple → has_made (at (j + 1)) asked ≡ true
        moved name tuple is =
            let here : j ≡ p.place = at_once (ap is_snap is) in
            let there : slice_get log j ≡ Some (StartMove c seq name tuple) =
            ap (slice_get log) here ∙ p.is ∙ sym p.of_it ∙ ap (command_of c seq) is in
            let new : is_new seq (latest (at j) c) ≡ true = ap (λ i. is_new seq (latest (at i) c)) here ∙ p.new in
            elim (move_answers j low name tuple there new) [
              | inl begun ↦
                  let next : suc j ≡ j + 1 = omega arith in
                  let same : begun.given ≡ answer.Ok = same_some (sym begun.so ∙ ap (λ i. says (at i)) next ∙ so) ∙ ok in
                  let m = begun.moves same in
                  ap (has_made (at (j + 1))) is
                  ∙ ap (λ i. option_map_or (λ (r : DiskRow). is_some r.moving) (named (at i).disks.rows name) false) (sym next)
                  ∙ ap (λ o. option_map_or (λ (r : DiskRow). is_some r.moving) o false) m.found ∙ m.moves
              | inr later ↦
                  let next : suc j ≡ j + 1 = omega arith in
                  judged_last seq (latest (at (j + 1)) c) given so (subst (λ i. is_new (suc seq) (latest (at i) c) ≡ false) next later)
            ]

        by : (what : Request) → asked ≡ what → has_made (at (j + 1)) asked ≡ true
        by (request.Move name tuple) is = moved name tuple is
        by (request.Disk name tuple) is = ap (has_made (at (j + 1))) is ∙ sym (ap (has_kept (at (j + 1))) is) ∙ kept
        by (request.Snap name snap) is = ap (has_made (at (j + 1))) is ∙ sym (ap (has_kept (at (j + 1))) is) ∙ kept
        by what is = true_false kept (ap (has_kept (at (j + 1))) is)
