-- Who serves a link at a prefix of what is chosen after a step, after what was chosen before it: a server that served it then, or the other server of
-- one that held it alone, by a Caught right after what was chosen then. That one's holder had started the ballot, so the two copies are equal.
use Rattle.law_moves.proofs.Imports.{[], if◌then◌else◌, ◌&&◌, ◌++◌, ◌<◌, ◌==◌, ◌||◌, ◌∙◌, ◌∷◌, ◌≡◌, ◌≢◌, ◌⊎◌, AliveIn, AreSteps, At, Bool, Both, ByBoth}
use Rattle.law_moves.proofs.Imports.{ByNone, ByOne, By_caught, By_join, By_leave, Caught, Cell, Chain, Command, Copies, Good, HasJoinedSince, HasProperTuples}
use Rattle.law_moves.proofs.Imports.{IsCaughtBy, IsCaughtIn, IsCaughtStill, IsLast, IsLinked, IsPrefix, IsServing, IsSteady, IsTouchedBy, Join, Leave}
use Rattle.law_moves.proofs.Imports.{LinkRow, LinkState, List, Lost, OneMore, Only, PairState, Progress, Server, Some, State, Store, WasStarted, alive_on, ap}
use Rattle.law_moves.proofs.Imports.{arith, at, at-empty, before_part, blank_joins_in, blanked_state, by_bool, cell_link, chain_in, chosen_caught_was}
use Rattle.law_moves.proofs.Imports.{chosen_log, counted_by, ends_of, false, has_server, history_grows, history_is_firm, id_of, inl, inr, is_flagged}
use Rattle.law_moves.proofs.Imports.{joined_where, kept_by, length, length-append, link_cmp, linked_between, log_alone, log_lost, log_steady, log_touched}
use Rattle.law_moves.proofs.Imports.{no_copies, number_itself, one_before, one_prefix, option_map_or, other_of, other_than, place_by, prefix_itself}
use Rattle.law_moves.proofs.Imports.{prefix_long, prefix_more, prefix_on, prefix_plain, refl, row_blanked, row_joined, rows_later, same_only, same_or_apart}
use Rattle.law_moves.proofs.Imports.{serves, serves_alone, serves_its, split_last, stands_in, state_next, subst, sym, true, true_false, ℕ}
use Rattle.law_moves.proofs.StepsTellEntries.{Goes_on, Is_bare, Keeps, mine_top, Awakes, Works, gone, middle}
use Rattle.law_copies.proofs.ServedAtLaterPrefixes.{holder_is_one}
use Rattle.law_moves.proofs.MoveWorlds.{row_serving, top_last}

join_server : {n inc m other : ℕ} {blank bare : Bool} → Join n inc blank ≡ Join m other bare → n ≡ m
join_server e = cc

join_blank : {n inc m other : ℕ} {blank bare : Bool} → Join n inc blank ≡ Join m other bare → blank ≡ bare
join_blank e = cc

module _ (it : OneMore) where
  open it use {prior, prior.{script, sound, records as prefix}, own, legal}
  open ends_of it use {setting, w, v, top, whole, By, top_whole, plain, records}

  plain_at : (f : List Command) → IsPrefix f whole → HasProperTuples script.servers f
  plain_at f lies = prefix_plain script.servers f whole plain lies

  steady_at : (f : List Command) → IsPrefix f whole → IsSteady (By f)
  steady_at f lies = log_steady script.servers f (plain_at f lies)

  mid : Good setting records top (counted_by setting top v)
  mid = middle it

  -- a server has applied no more than was chosen before the step, unless it has just booted
  within_or_awake : (n : ℕ) → IsPrefix (v.servers n).log.applied top ⊎ ((v.servers n).own.copies ≡ no_copies)
  within_or_awake n = elim (gone it n) [
    | Goes_on (Keeps kept) same ↦ inl kept.within
    | Goes_on (Works job) same ↦ inl (subst (λ l. IsPrefix l top) (sym job.log_is) (mine_top it n))
    | Goes_on (Awakes asleep is) same ↦ inr (ap (λ (s : Server). s.own.copies) is)
    | Is_bare asleep bare same ↦ inl (subst (λ (s : Server). IsPrefix s.log.applied top) (sym bare) (mine_top it n))
  ]

  -- the holder of a Caught that is chosen had applied the entries before it, so they were chosen before the step
  started_within : (holder inc : ℕ) (f : List Command) (row : LinkRow) → WasStarted setting records holder inc f (id_of row) → IsPrefix f top
  started_within holder inc f row was = elim (split_last prefix own was.before was.later was.is) [
    | inr more ↦
        let part_prefix = prior.legal in
        let legal_there = before_part script was.before more.0 (subst (AreSteps script) more.1 part_prefix) in
        subst (λ l. IsPrefix l top) was.at (prefix_on _ (chosen_log setting (At script was.before)) top
        ((history_is_firm script was.before sound legal_there).servers holder)
        (history_grows script prefix sound part_prefix was.before more.0 more.1))
    | inl all ↦ elim (within_or_awake holder) [
      | inl within ↦ subst (λ l. IsPrefix l top) (ap (λ rs. ((At script rs).servers holder).log.applied) (sym all) ∙ was.at) within
      | inr none ↦ true_false (ap (λ rs. is_flagged ((At script rs).servers holder).own (id_of row)) (sym all) ∙ was.minded)
          (ap (λ (c : Copies). option_map_or (λ (p : Progress). p.caught) (at link_cmp c.progress (id_of row)) false) none
          ∙ ap (λ o. option_map_or (λ (p : Progress). p.caught) o false) (at-empty link_cmp (id_of row)))
    ]
  ]

  pub caught_within : (f : List Command) (entry : Command) (row : LinkRow) → IsPrefix (f ++ entry ∷ []) whole → IsCaughtBy (By f) entry row → IsPrefix f top
  caught_within f entry row stands acts =
      started_within acts.holder acts.inc f row (chosen_caught_was script records sound legal f row.map row.link acts.holder acts.inc
      (other_of acts.holder row) acts.other_inc (subst (λ c. IsPrefix (f ++ c ∷ []) whole) acts.is stands))

  -- so none stands after more than that
  no_caught : (low f : List Command) (cell : Cell) (row : LinkRow) (holder : ℕ) (fills : Bool) → length top < length low → IsPrefix f whole
      → IsCaughtStill script.servers low f cell row holder fills → ⊥
  no_caught low f cell row holder fills lt lies still =
      let c = still.found in
      let within = caught_within c.until c.entry _ (prefix_on (c.until ++ c.entry ∷ []) f whole c.stands lies) c.acts in
      let a = prefix_long c.until top within in
      let b = prefix_long low c.until c.following in
      omega arith

  -- ### A server that serves the link later

  module _ (f : List Command) (on : IsPrefix top f) (lies : IsPrefix f whole) (n : ℕ) (cell : Cell) (row : LinkRow) (is : IsLinked setting top cell row)
      (alive : AliveIn (By f) cell) (serving : IsServing (By f) n cell) where
    not_lost : {A : Type 0} → serving.row.state ≡ Lost → A
    not_lost lost = true_false serving.so (ap (serves n serving.row) lost)

    not_held : {A : Type 0} (h : ℕ) {fills : Bool} → (h == n) ≡ false → serving.row.state ≡ Only h fills → A
    not_held h apart so = true_false (ap (λ k. k == n) (sym (serves_alone h n serving.row so serving.so)) ∙ number_itself n) apart

    -- it has not come back with nothing in between
    module _ (inc : ℕ) (j : HasJoinedSince script.servers top f n inc true) where
      abbrev joined : List Command
      joined = j.until ++ Join n inc true ∷ []

      until_f : IsPrefix j.until f
      until_f = prefix_on j.until joined f (prefix_more j.until (Join n inc true)) j.stands

      abbrev there : (r : LinkRow) × IsLinked setting j.until cell r
      there = linked_between setting whole plain top j.until f cell row serving.row j.following until_f lies is serving.is

      has : has_server n there.0 ≡ true
      has = sym (one_before there.0 serving.row n (rows_later setting whole plain j.until f cell there.0 serving.row until_f lies there.1 serving.is))
          ∙ serving.one_of

      following : length top < length joined
      following = let a = prefix_long top j.until j.following in omega (arith, length-append j.until (Join n inc true ∷ []))

      -- the link's row then
      by_row : (r : LinkRow) → IsLinked setting joined cell r
          → (r.state ≡ Lost) ⊎ ((h : ℕ) × (fills : Bool) × ((h == n) ≡ false) × (r.state ≡ Only h fills)) → ⊥
      by_row r linked (inl lost) = not_lost (log_lost script.servers joined f (plain_at f lies) j.stands cell r serving.row linked lost serving.is)
      by_row r linked (inr one) = elim (log_alone script.servers joined f (plain_at f lies) j.stands cell r serving.row one.0 one.1 linked one.3 serving.is) [
        | inl still ↦ not_held one.0 one.2 still.1
        | inr (inl lost) ↦ not_lost lost.0
        | inr (inr c) ↦ absurd (no_caught joined f cell r one.0 one.1 following lies c)
      ]

      blanked : (has_it : Bool) (state : LinkState) → state ≢ Both
          → (blanked_state n has_it state ≡ Lost) ⊎ ((h : ℕ) × (fills : Bool) × ((h == n) ≡ false) × (blanked_state n has_it state ≡ Only h fills))
      blanked has_it Both apart = absurd (apart refl)
      blanked has_it (Only h fills) apart = by_bool (h == n)
          (λ t. inl (ap (λ b. if b then Lost else Only h (has_it || fills)) t))
          (λ no. inr (h, has_it || fills, no, ap (λ b. if b then Lost else Only h (has_it || fills)) no))
      blanked has_it Lost apart = inl refl

      by_touch : IsTouchedBy cell there.0 (By j.until) (Join n inc true) → ⊥
      by_touch (By_leave left linked seats) = let g : Join n inc true ≡ Leave left.server left.inc = left.is in absurd cc
      by_touch (By_caught acts stays) =
          let g : Join n inc true ≡ Caught there.0.map there.0.link acts.holder acts.inc (other_of acts.holder there.0) acts.other_inc = acts.is in absurd cc
      by_touch (By_join join linked apart seats) =
          let server_is = join_server join.is in
          let blank_is = join_blank join.is in
          let link : IsLinked setting joined cell (row_blanked n there.0) =
          ap (λ (s : State). cell_link s cell) (state_next setting j.until (Join n inc true)) ∙ linked
          ∙ (λ i. Some (row_joined (sym server_is i) (sym blank_is i) there.0)) in
          by_row (row_blanked n there.0) link (blanked (has_server n there.0) there.0.state apart)

      never_joined : ⊥
      never_joined = by_touch (log_touched script.servers j.until (Join n inc true) cell there.0 (plain_at j.until (prefix_on j.until f whole until_f lies))
          (plain (Join n inc true) (stands_in j.until whole (Join n inc true) (prefix_on joined f whole j.stands lies))) there.1 (λ i. j.may i && has i))

    -- so the same store counts
    pub same_joins : blank_joins_in setting f n ≡ blank_joins_in setting top n
    same_joins = elim (same_or_apart (blank_joins_in setting top n) (blank_joins_in setting f n)) [
      | inl same ↦ sym same
      | inr more ↦ (let j = joined_where script.servers n top f on more in absurd (never_joined j.0 j.1))
    ]

    -- ### Who served it before

    pub data ServedBefore : Type 0 where
      It_did : IsServing (By top) n cell → ServedBefore
      It_came : (h : ℕ) → IsServing (By top) h cell
          → chain_in (kept_by setting top v n).chains cell ≡ chain_in (kept_by setting top v h).chains cell → ServedBefore

    top_alive : AliveIn (By top) cell
    top_alive = alive_on setting whole plain top f cell on lies alive

    is_one : has_server n row ≡ true
    is_one = sym (one_before row serving.row n (rows_later setting whole plain top f cell row serving.row on lies is serving.is)) ∙ serving.one_of

    -- by a Caught right after what was chosen
    module _ (h : ℕ) (fills : Bool) (alone : row.state ≡ Only h fills) (apart : (h == n) ≡ false)
        (still : IsCaughtStill script.servers top f cell row h fills) where
      abbrev c : IsCaughtIn script.servers top f cell (record row { state = Only h still.later })
      c = still.found

      abbrev was : LinkRow
      was = record row { state = Only h still.later }

      stands : IsPrefix (c.until ++ c.entry ∷ []) whole
      stands = prefix_on (c.until ++ c.entry ∷ []) f whole c.stands lies

      until_top : IsPrefix c.until top
      until_top = caught_within c.until c.entry was stands c.acts

      at_top : c.until ≡ top
      at_top = one_prefix c.until top top until_top (prefix_itself top)
          (let a = prefix_long c.until top until_top in let b = prefix_long top c.until c.following in omega arith)

      until_alive : AliveIn (By c.until) cell
      until_alive = alive_on setting top (prefix_plain script.servers top whole plain top_whole) c.until top cell until_top (prefix_itself top) top_alive

      last : IsLast mid.reached setting c.until cell was
      last = subst (λ l. IsLinked setting l cell was → IsLast mid.reached setting l cell was) (sym at_top)
          (top_last setting records top (counted_by setting top v) (prefix_plain script.servers top whole plain top_whole) mid cell was) c.was

      mind : (by : PairState) × (mid.visits c.acts.holder (place_by setting c.until was) cell ≡ Some by) × (is_flagged by (id_of was) ≡ true)
      mind = mid.started c.acts.holder c.acts.inc c.acts.whole c.until cell was until_top c.was until_alive c.acts.alone c.acts.holds
          (chosen_caught_was script records sound legal c.until was.map was.link c.acts.holder c.acts.inc
          (other_of c.acts.holder was) c.acts.other_inc (subst (λ e. IsPrefix (c.until ++ e ∷ []) whole) c.acts.is stands))

      equal : chain_in (mid.stores c.acts.holder (blank_joins_in setting c.until c.acts.holder)).chains cell
          ≡ chain_in (mid.stores (other_of c.acts.holder was) (blank_joins_in setting c.until (other_of c.acts.holder was))).chains cell
      equal = ((mid.alone c.until cell was c.acts.holder c.acts.whole until_top c.was c.acts.alone).beside top_alive last).alike.caught mind.0 mind.1 mind.2

      holder_is : c.acts.holder ≡ h
      holder_is = same_only (sym c.acts.alone)

      other_is : other_of h row ≡ n
      other_is = other_than h n row (holder_is_one (By top) (steady_at top top_whole) h cell row is alone) is_one apart

      abbrev chain_of : ℕ → Chain
      chain_of k = chain_in (mid.stores k (blank_joins_in setting c.until k)).chains cell

      counts : (k : ℕ) → chain_of k ≡ chain_in (kept_by setting top v k).chains cell
      counts k = ap (λ l. chain_in (mid.stores k (blank_joins_in setting l k)).chains cell) at_top ∙ ap (λ (s : Store). chain_in s.chains cell) (mid.now k)

      came : ServedBefore
      came = It_came h (row_serving (By top) h cell row is (holder_is_one (By top) (steady_at top top_whole) h cell row is alone) (serves_its h row alone))
          (sym (counts n) ∙ ap chain_of (sym other_is ∙ ap (λ k. other_of k row) (sym holder_is)) ∙ sym equal ∙ ap chain_of holder_is ∙ counts h)

    pub served_before : ServedBefore
    served_before = elim ((steady_at top top_whole).linked cell row is).served [
      | ByBoth so first second ↦ It_did (row_serving (By top) n cell row is is_one (ap (serves n row) so ∙ is_one))
      | ByNone one other so pair out ↦ not_lost (log_lost script.servers top f (plain_at f lies) on cell row serving.row is so serving.is)
      | ByOne h other fills so pair out ↦ by_bool (h == n)
          (λ t. It_did (row_serving (By top) n cell row is is_one (ap (serves n row) so ∙ t)))
          (λ apart. elim (log_alone script.servers top f (plain_at f lies) on cell row serving.row h fills is so serving.is) [
            | inl still ↦ not_held h apart still.1
            | inr (inl lost) ↦ not_lost lost.0
            | inr (inr still) ↦ came h fills so apart still
          ])
    ]
