-- At a tick a server asks again for what its operations and copies wait for, and for nothing else.
use Rattle.law_steps.proofs.Imports.{[], ◌++◌, ◌∷◌, ◌≡◌, Action, Ask, Cell, Copy, In, LinkRow, List, MarkKind, NextCopy, None, Option, Pending, Post, Some}
use Rattle.law_steps.proofs.Imports.{Stage, Stored, alone_action, ask_posts, awaited, ballot_posts, both_action, by_bool, by_test, cell_cmp, cell_cmp_total}
use Rattle.law_steps.proofs.Imports.{chain_in, copies_again, copy_awaited, copy_posts, copy_stage, copying_on, epochs_of, false, fill_posts, fills_row}
use Rattle.law_steps.proofs.Imports.{flat_map, has_proposed, in-append, in_both, inl, inr, is_in, is_logged, key_at, leads_link, length, live, mark_left}
use Rattle.law_steps.proofs.Imports.{nat_lt, next_copy, next_stage, not, not_true, only, option_map_or, origin_by, other_in, page_asked, page_for, page_posts}
use Rattle.law_steps.proofs.Imports.{pending_on, post_to, refl, second, sends_entry, sent_again, slice_get, subject_of, subst, sym, tick_posts, true}
use Rattle.law_steps.proofs.Imports.{true_false, voter_of, was_true, ℕ}
use Rattle.law_steps.specs.Operations.{IsStaged, Waiting, Putting, Copying, waiting, putting, copying}
use Rattle.law_steps.specs.DidLead.{Asks, A_trim, A_copied_entry, A_page, An_entry_to_move, Of_the_log, other_on}
use Rattle.law_steps.specs.DidStep.{IsSeatedOrMute, is_between}
use Rattle.law_steps.specs.Ready.{IsRising}
use Rattle.law_steps.proofs.KnownServer.{KnownServer, parts_of}
use Rattle.law_steps.proofs.TablesOfPuts.{at_row}
use Rattle.law_steps.proofs.InvertFiller.{row_fills}
use Rattle.law_steps.proofs.InvertHolder.{unpaged}
use Rattle.law_steps.proofs.InvertLead.{asks_slot, asks_copy, both_next, alone_next}
use Rattle.law_steps.proofs.WhoLeads.{retired_second}
use Rattle.law_steps.proofs.LogJobs.{ballot_logged, ask_logged}
use Rattle.law_steps.proofs.IdleServers.{logged_apart}
use Rattle.petal_msg.specs.declared.body.Body.TheVariants as body
use Rattle.petal_msg.specs.declared.copying.CopyAction.TheVariants as copy_action
use Rattle.petal_msg.specs.declared.operation.Action.TheVariants as action

pub in_flat_map : {A B : Type 0} (f : A → List B) (xs : List A) (y : B) → In y (flat_map f xs) → (x : A) × In x xs × In y (f x)
unfolding In
in_flat_map f [] y h = absurd h
in_flat_map f (x ∷ xs) y h = elim (in-append y (f x) (flat_map f xs) h) [
  | inl now ↦ (x, inl refl, now)
  | inr later ↦ let found = in_flat_map f xs y later in (found.0, inr found.1, found.2)
]

module _ (it : KnownServer) where
  open it use {rests, n, steady}
  open parts_of it use {here, server, own, log, hears_server}

  abbrev A : Post → Type 0
  A post = Asks here own post

  pub staged : (cell : Cell) (op : Pending) → pending_on own cell ≡ Some op → IsStaged here.state n (has_proposed here.state own) cell op
  staged = (rests.pending n).staged

  -- a holder that is alone waits for no answer
  alone_sends : (op : Pending) (post : Post) → In post (awaited here own op (alone_action op.stage)) → ⊥
  unfolding In
  alone_sends op post =
      by_test (λ a. In post (awaited here own op a) → ⊥) (not op.stage.stale) _ _ (λ t i. i)
      (λ t. by_test (λ a. In post (awaited here own op a) → ⊥) (not op.stage.put) _ _ (λ t i. i)
      (λ t. by_test (λ a. In post (awaited here own op a) → ⊥) op.stage.busy _ _ (λ t i. i) (λ t i. i)))

  -- nor does an operation on a cell that is no longer live
  retired_sends : (op : Pending) → second here.state op.cell ≡ None → (next : Action) (post : Post) → In post (awaited here own op next) → ⊥
  unfolding In
  retired_sends op none action.Reserve post i = subst (λ o. In post (post_to o (body.Reserve op.op op.cell))) none i
  retired_sends op none action.Replicate post i =
      subst (λ o. In post (post_to o (body.Replicate op.op op.key op.version (origin_by here.state op) op.bytes))) none i
  retired_sends op none _ post i = i

  asked_again : (op : Pending) → pending_on own op.cell ≡ Some op → (post : Post) → In post (sent_again here own op) → A post
  unfolding In
  asked_again op is post h =
      let s = staged op.cell op is in
      by_bool (live here.state op.cell)
      (λ on. by_bool (in_both here.state op.cell)
      (λ both. elim (s.stage on both) [
        | Waiting stage ↦ asks_slot hears_server here own steady staged op is stage post (sent both waiting stage (s.leads on))
        | Copying stage ↦ asks_copy hears_server here own steady staged op is stage post (sent both copying stage (s.leads on))
        | Putting stage ↦ absurd (sent both putting stage (s.leads on))
      ])
      (λ apart. absurd (alone_sends op post
      (subst (λ a. In post (awaited here own op a)) (alone_next hears_server here own steady staged op (s.leads on) apart) h))))
      (λ off. absurd (retired_sends op (retired_second here.state op.cell off) (next_stage here.state n op) post h))
    where
      sent : in_both here.state op.cell ≡ true → (stage : Stage) → op.stage ≡ stage → leads_link here.state n op.cell ≡ true
          → In post (awaited here own op (both_action stage))
      sent both stage e lead = subst (λ a. In post (awaited here own op a)) (both_next hears_server here own steady staged op stage lead both e) h

  abbrev pairs : List Post
  pairs = flat_map (λ (row : Cell × Pending). sent_again here own row.1) own.pairs.pending

  pending_asks : (post : Post) → In post pairs → A post
  pending_asks post h =
      let found = in_flat_map (λ (row : Cell × Pending). sent_again here own row.1) own.pairs.pending post h in
      let row = found.0 in
      let is : pending_on own row.0 ≡ Some row.1 = at_row cell_cmp_total own.pairs.pending row (rests.pending n).rising found.1 in
      asked_again row.1 (subst (λ (q : Cell). pending_on own q ≡ Some row.1) (sym (staged row.0 row.1 is).own) is) post found.2

  -- ### Copies and pages again

  trim_asks : (cell : Cell) (copy : Copy) → copying_on own cell ≡ Some copy → copy.trimmed ≡ false → (o : Option ℕ) → other_on here cell ≡ o → (post : Post)
      → In post (post_to o (body.Trim copy.op cell (epochs_of (chain_in own.store.chains cell)))) → A post
  unfolding In
  trim_asks cell copy is fresh None e post h = absurd h
  trim_asks cell copy is fresh (Some to) e post h = only A _ post h (A_trim cell copy to is fresh e)

  entry_asks : (cell : Cell) (copy : Copy) → copying_on own cell ≡ Some copy → copy.trimmed ≡ true → (row : Option (ℕ × Stored))
      → slice_get (chain_in own.store.chains cell) copy.index ≡ row → (o : Option ℕ) → other_on here cell ≡ o → (post : Post)
      → In post (sends_entry here own cell copy row).posts → A post
  unfolding In
  entry_asks cell copy is trimmed None f o e post h = absurd h
  entry_asks cell copy is trimmed (Some row) f o e post h = sent o e
      (subst (λ x. In post (post_to x (body.Sync copy.op (key_at cell row.0) row.1.version copy.index row.1.bytes))) e h)
    where
      sent : (o : Option ℕ) → other_on here cell ≡ o → In post (post_to o (body.Sync copy.op (key_at cell row.0) row.1.version copy.index row.1.bytes)) → A post
      sent None e h = absurd h
      sent (Some to) e h = only A _ post h (A_copied_entry cell copy row to is trimmed f e)

  copy_asks : (cell : Cell) (copy : Copy) → copying_on own cell ≡ Some copy → (post : Post)
      → In post (copy_awaited here own cell copy (copy_stage own.store cell copy)) → A post
  unfolding In
  copy_asks cell copy is post =
      by_test (λ a. In post (copy_awaited here own cell copy a) → A post) (not copy.trimmed) copy_action.Trim _
      (λ t h. trim_asks cell copy is (not_true copy.trimmed t) (other_on here cell) refl post h)
      (λ t. by_test (λ a. In post (copy_awaited here own cell copy a) → A post) (nat_lt copy.index (length (chain_in own.store.chains cell))) copy_action.Sync _
      (λ u h. entry_asks cell copy is (was_true copy.trimmed t) _ refl (other_on here cell) refl post h)
      (λ u. silent_end (mark_left own.store cell)))
    where
      silent_end : (o : Option MarkKind) → In post (copy_awaited here own cell copy (option_map_or copy_action.Unmark o copy_action.Close)) → A post
      silent_end None h = absurd h
      silent_end (Some kind) h = absurd h

  copies_ask : IsRising cell_cmp own.copies.pending → (post : Post) → In post (copy_posts here own) → A post
  copies_ask rising post h =
      let found = in_flat_map (λ (row : Cell × Copy). copy_awaited here own row.0 row.1 (copy_stage own.store row.0 row.1)) own.copies.pending post h in
      let row = found.0 in
      copy_asks row.0 row.1 (at_row cell_cmp_total own.copies.pending row rising found.1) post found.2

  page_asks : (row : LinkRow) → In row here.state.links → (o : Option ℕ) → other_in here.state n row ≡ o → (post : Post)
      → In post (page_for here.state own row o) → A post
  unfolding In
  page_asks row there None e post h = absurd h
  page_asks row there (Some other) e post h = by (next_copy here.state row own) refl h
    where
      by : (next : NextCopy) → next_copy here.state row own ≡ next → In post (page_asked own row other next) → A post
      by Ask f i = only A _ post i (A_page row other there e (unpaged here.state row own f))
      by _ f i = absurd i

  pages_ask : (post : Post) → In post (page_posts here own) → A post
  pages_ask post h =
      let found = in_flat_map (λ (row : LinkRow). page_for here.state own row (other_in here.state n row)) here.state.links post h in
      page_asks found.0 found.1 (other_in here.state n found.0) refl post found.2

  no_post : (post : Post) → In post [] → A post
  unfolding In
  no_post post i = absurd i

  fills_ask : is_in here.state here.me here.inc ≡ true → (post : Post) → In post (fill_posts here own) → A post
  fills_ask seat post h =
      let found = in_flat_map (λ (row : LinkRow). fills_row here own row) here.state.links post h in
      An_entry_to_move post (row_fills here own seat found.0 found.1 post found.2)

  again_asks : (post : Post) → In post (copies_again here own) → A post
  again_asks post h =
      by_test (λ (xs : List Post). In post xs → A post) (is_in here.state here.me here.inc)
      (copy_posts here own ++ page_posts here own ++ fill_posts here own) []
      (λ t i. elim (in-append post (copy_posts here own ++ page_posts here own) (fill_posts here own) i) [
        | inl former ↦ elim (in-append post (copy_posts here own) (page_posts here own) former) [
          | inl copy ↦ copies_ask (rests.copying n) post copy
          | inr page ↦ pages_ask post page
        ]
        | inr fill ↦ fills_ask t post fill
      ])
      (λ t i. no_post post i) h

  -- what a tick sends is of the log, of an operation, or of copies, pages and entries that move
  tick_parts : (P : Post → Type 0) → ((post : Post) → is_logged (subject_of post.body) ≡ true → P post) → ((post : Post) → In post pairs → P post)
      → ((post : Post) → In post (copies_again here own) → P post) → (post : Post) → In post (tick_posts here server) → P post
  tick_parts P of_log of_pairs of_copies post h =
      let ballots = ballot_posts (voter_of here) log.phase in
      elim (in-append post (ballots ++ pairs ++ copies_again here own) (ask_posts (voter_of here) log) h) [
        | inr asks ↦ of_log post (ask_logged (voter_of here) log post asks)
        | inl former ↦ elim (in-append post (ballots ++ pairs) (copies_again here own) former) [
          | inr again ↦ of_copies post again
          | inl earlier ↦ elim (in-append post ballots pairs earlier) [
            | inl ballot ↦ of_log post (ballot_logged (voter_of here) log.phase post ballot)
            | inr pair ↦ of_pairs post pair
          ]
        ]
      ]

  pub tick_asks : (post : Post) → In post (tick_posts here server) → A post
  tick_asks = tick_parts A Of_the_log pending_asks again_asks

  -- a tick of a server that is not In as itself: nothing is pending there, and of copies nothing is sent
  tick_mute : server.life.running ≡ true → is_in here.state here.me here.inc ≡ false → (post : Post) → In post (tick_posts here server)
      → is_between (subject_of post.body) ≡ false
  unfolding In
  tick_mute runs out =
      tick_parts (λ post. is_between (subject_of post.body) ≡ false) (λ post logged. logged_apart (subject_of post.body) logged) no_pair no_copy
    where
      no_copy : (post : Post) → In post (copies_again here own) → is_between (subject_of post.body) ≡ false
      no_copy post = by_test (λ (xs : List Post). In post xs → is_between (subject_of post.body) ≡ false) (is_in here.state here.me here.inc) _ _
          (λ t. true_false t out) (λ t i. absurd i)

      no_pair : (post : Post) → In post pairs → is_between (subject_of post.body) ≡ false
      no_pair post i =
          let found = in_flat_map (λ (row : Cell × Pending). sent_again here own row.1) own.pairs.pending post i in
          let row = found.0 in
          true_false (rests.seated n row.0 row.1 runs (at_row cell_cmp_total own.pairs.pending row (rests.pending n).rising found.1)) out

  pub tick_seated : server.life.running ≡ true → IsSeatedOrMute here own (record { own = own; posts = tick_posts here server; jobs = [] })
  tick_seated runs = by_bool (is_in here.state here.me here.inc) (λ t. inl t) (λ out. inr (record { same = refl; mute = tick_mute runs out }))
