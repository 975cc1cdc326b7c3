-- The laws, over every legal history of a sound script.
use Rattle.law_copies.proofs.Imports.{[], ◌++◌, ◌==◌, ◌∙◌, ◌∷◌, ◌≡◌, ◌≢◌, ◌≤◌, AreSteps, At, BeforeBlank, Command, HasJoinedSince, HasProperTuples, In}
use Rattle.law_copies.proofs.Imports.{IsPrefix, IsSound, Join, List, None, OneMore, Option, Record, Script, Server, Setting, Some, Store, World, ap}
use Rattle.law_copies.proofs.Imports.{append-nil, append_assoc, arith, before_part, blank_joins_in, by_run, by_test, chosen_join_acts, chosen_log, false}
use Rattle.law_copies.proofs.Imports.{firm_in, grown_in, in_former, inl, inr, is_in, join_has_begun, join_was_wanted, joined_counts, joined_in, joined_once}
use Rattle.law_copies.proofs.Imports.{joins_grow, kept_store, longer, more_of, none_some, parted, prefix_more, prefix_on, refl, run_of, same_numbers}
use Rattle.law_copies.proofs.Imports.{same_or_apart, same_some, server_state, setting_in, setting_of, start, state_after, subst, sym, true, true_false, ℕ}
use Rattle.law_steps.proofs.LogHistories.{history_grows, history_is_firm}
use Rattle.law_copies.specs.WaitingStores.{AreEmpty, IsEmpty, IsOwn}
use Rattle.law_copies.proofs.EmptyJoins.{joined_where, stands_in}
use Rattle.law_copies.proofs.StoreKept.{Kept, kept_blanked, kept_more, kept_moves}
use Rattle.law_jobs.proofs.Runs.{after}
use Rattle.law_copies.proofs.StoresAlongRecords.{before_last, stays_filled, step_moves, waits_moves, waits_since}

-- what is kept of all servers' stores
abbrev AllKept : Setting → World → Type 0
AllKept setting w = (n : ℕ) → Kept setting.servers (chosen_log setting w) n (w.servers n) (w.before_blank n)

start_kept : (setting : Setting) → AllKept setting (start setting)
start_kept setting n = record { empty = λ waits. true_false waits refl; filled = λ up seat. refl; blanked = λ b is. none_some refl is }

step_kept : (it : OneMore) → AllKept (setting_in it.prior) (after it.prior) → AllKept (setting_in it.prior) (after (longer it))
step_kept it all n =
    let setting = setting_in it.prior in
    let w = after it.prior in
    let v = after (longer it) in
    let old = it.prior in
    kept_more old.script.servers (chosen_log setting w) (chosen_log setting v) n (v.servers n) (v.before_blank n) (grown_in it)
    (elim (step_moves it n) [
      | inl moved ↦ subst (Kept old.script.servers (chosen_log setting w) n (v.servers n)) (sym moved.before)
          (kept_moves old.script.servers (chosen_log setting w) n (w.servers n) (w.before_blank n) (all n) (firm_in old).plain
          (λ runs i. stays_filled old.script old.sound old.records old.legal n (w.servers n).life.inc
          (join_was_wanted old.script old.records old.sound old.legal n (w.servers n).life.inc false i) runs refl)
          (λ log inc blank stands. chosen_join_acts old.script old.records old.sound old.legal log n inc blank stands) (v.servers n) moved.moves)
      | inr blank ↦ subst (λ (x : Server × Option BeforeBlank). Kept old.script.servers (chosen_log setting w) n x.0 x.1)
          (λ i. (sym blank.now i, sym blank.before i))
          (kept_blanked old.script.servers (chosen_log setting w) n (w.servers n) blank.rests
          (λ inc bare i. join_has_begun old.script old.records old.sound old.legal n inc bare i) _ refl)
    ])

pub kept_after : (script : Script) (records : List Record) → IsSound script → AreSteps script records → AllKept (setting_of script) (At script records)
kept_after script records sound legal =
    by_run (λ run. AllKept (setting_in run) (after run)) (λ first quiet begun. start_kept (setting_of first)) step_kept (run_of script sound records legal)

pub always_empty : (script : Script) (records : List Record) → IsSound script → AreSteps script records → AreEmpty (At script records)
always_empty script records sound legal n = (kept_after script records sound legal n).empty

pub blanked_waits : (script : Script) (records : List Record) (n : ℕ) (before : BeforeBlank) → IsSound script → AreSteps script records
    → (At script records).before_blank n ≡ Some before
    → before.joins ≡ blank_joins_in (setting_of script) (chosen_log (setting_of script) (At script records)) n
    → ((At script records).servers n).own.store.fresh ≡ true
blanked_waits script records n before sound legal is joins = ((kept_after script records sound legal n).blanked before is).waits joins

-- ### Whose own store counts

-- what stands before an entry of a plain log is plain
until_plain : (servers : ℕ) (until chosen : List Command) (entry : Command) → HasProperTuples servers chosen → IsPrefix (until ++ entry ∷ []) chosen
    → HasProperTuples servers until
until_plain servers until chosen entry plain stands c i =
    let prefix = prefix_on until (until ++ entry ∷ []) chosen (prefix_more until entry) stands in
    plain c (subst (In c) (sym prefix.is) (in_former c until prefix.later i))

pub own_by : (joins : ℕ) (o : Option BeforeBlank) → ((b : BeforeBlank) → o ≡ Some b → b.joins ≢ joins) → (store : Store) → kept_store joins o store ≡ store
own_by joins None apart store = refl
own_by joins (Some b) apart store = by_test (λ s. s ≡ store) (b.joins == joins) b.store store
    (λ same. absurd (apart b refl (same_numbers b.joins joins same))) (λ other. refl)

module _ (script : Script) (records : List Record) (n : ℕ) (sound : IsSound script) (legal : AreSteps script records)
    (runs : ((At script records).servers n).life.running ≡ true)
    (seat : is_in (server_state (setting_of script) (At script records) n) n ((At script records).servers n).life.inc ≡ true) where
  pub in_filled : ((At script records).servers n).own.store.fresh ≡ false
  in_filled = (kept_after script records sound legal n).filled runs seat

  pub in_own : IsOwn (setting_of script) (At script records) n
  in_own = own_by _ ((At script records).before_blank n) (λ b is same. true_false (blanked_waits script records n b sound legal is same) in_filled)

-- once it is In as itself, none of its Joins with an empty store acts any more
pub in_counts : (script : Script) (records : List Record) (n : ℕ) (prefix : List Command) → IsSound script → AreSteps script records
    → IsPrefix prefix (chosen_log (setting_of script) (At script records))
    → is_in (state_after script.servers prefix) n ((At script records).servers n).life.inc ≡ true
    → blank_joins_in (setting_of script) prefix n ≡ blank_joins_in (setting_of script) (chosen_log (setting_of script) (At script records)) n
in_counts script records n prefix sound legal is_prefix seat =
    let setting = setting_of script in
    let chosen = chosen_log setting (At script records) in
    elim (same_or_apart (blank_joins_in setting prefix n) (blank_joins_in setting chosen n)) [
      | inl same ↦ same
      | inr more ↦
          let found = joined_where script.servers n prefix chosen is_prefix more in
          let begun = join_has_begun script records sound legal n found.0 true (stands_in found.1.until chosen (Join n found.0 true) found.1.stands) in
          true_false found.1.may
          (joined_once script.servers prefix found.1.until n ((At script records).servers n).life.inc
          (until_plain script.servers found.1.until chosen (Join n found.0 true) (history_is_firm script records sound legal).plain found.1.stands)
          found.1.following found.0 seat begun)
    ]

-- ### A Join with an empty store

module _ (script : Script) (prefix : List Record) (own : Record) (n : ℕ) (sound : IsSound script) (legal : AreSteps script (prefix ++ own ∷ [])) where
  abbrev setting : Setting
  setting = setting_of script

  abbrev w : World
  w = At script prefix

  abbrev v : World
  v = At script (prefix ++ own ∷ [])

  part : AreSteps script prefix
  part = before_part script prefix (own ∷ []) legal

  grown : IsPrefix (chosen_log setting w) (chosen_log setting v)
  grown = history_grows script (prefix ++ own ∷ []) sound legal prefix (own ∷ []) refl

  -- what joins now is later than what has joined
  is_later : (inc later : ℕ) → HasJoinedSince script.servers (chosen_log setting w) (chosen_log setting v) n inc true
      → In (Join n later true) (chosen_log setting w) → inc ≤ later → ⊥
  is_later inc later joined i le =
      let log = parted (Join n later true) (chosen_log setting w) i in
      let stands : IsPrefix (log.0 ++ Join n later true ∷ []) (chosen_log setting w) =
      record { later = log.1; is = log.2 ∙ sym (append_assoc log.0 (Join n later true ∷ []) log.1) } in
      let plain = (history_is_firm script prefix sound part).plain in
      let seat = joined_in script.servers log.0 (chosen_log setting w) n later true plain (record {
        until = log.0;
        following = record { later = []; is = sym (append-nil log.0) };
        stands = stands;
        may = chosen_join_acts script prefix sound part log.0 n later true stands;
      }) in
      let whole = (history_is_firm script (prefix ++ own ∷ []) sound legal).plain in
      true_false joined.may
      (joined_once script.servers (log.0 ++ Join n later true ∷ []) joined.until n later
      (until_plain script.servers joined.until (chosen_log setting v) (Join n inc true) whole joined.stands)
      (prefix_on (log.0 ++ Join n later true ∷ []) (chosen_log setting w) joined.until stands joined.following) inc seat le)

  module _ (more : blank_joins_in setting (chosen_log setting w) n ≢ blank_joins_in setting (chosen_log setting v) n) where
    found : (inc : ℕ) × HasJoinedSince script.servers (chosen_log setting w) (chosen_log setting v) n inc true
    found = joined_where script.servers n (chosen_log setting w) (chosen_log setting v) grown more

    -- the store waited when the Join was wanted, and has not been settled since
    join_waits : (v.servers n).own.store.fresh ≡ true
    join_waits =
        let was = join_was_wanted script (prefix ++ own ∷ []) sound legal n found.0 true
        (stands_in found.1.until (chosen_log setting v) (Join n found.0 true) found.1.stands) in
        let before = before_last prefix own was.before was.own was.later was.is in
        let since = waits_since n found.0 (run_of script sound prefix part) was.before before.0 before.1 was.lives was.waits in
        elim since.1 [
          | inl waits ↦ elim (step_moves (more_of script sound prefix own legal) n) [
            | inl moved ↦ elim (waits_moves script.servers (chosen_log setting w) n (w.servers n) (v.servers n) moved.moves waits) [
              | inl still ↦ still
              | inr joined ↦ absurd (is_later found.0 (w.servers n).life.inc found.1 joined since.0)
            ]
            | inr blank ↦ ap (λ (server : Server). server.own.store.fresh) blank.now
          ]
          | inr joined ↦ absurd (is_later found.0 joined.0 found.1 joined.2 joined.1)
        ]

    pub join_empty : IsEmpty (v.servers n).own.store
    join_empty = always_empty script (prefix ++ own ∷ []) sound legal n join_waits

    -- fewer had joined when it was blanked
    pub join_own : IsOwn setting v n
    join_own =
        let fewer = joined_counts script.servers (chosen_log setting w) (chosen_log setting v) n found.0 found.1 in
        own_by _ (v.before_blank n) (λ b is same. elim (step_moves (more_of script sound prefix own legal) n) [
          | inl moved ↦
              let old = (kept_after script prefix sound part n).blanked b (sym moved.before ∙ is) in
              let le = joins_grow script.servers old.prefix (chosen_log setting w) n old.stands in
              let e = old.joins in
              absurd (omega arith)
          | inr blank ↦
              let e : blank_joins_in setting (chosen_log setting w) n ≡ b.joins = ap (λ (b : BeforeBlank). b.joins) (same_some (sym blank.before ∙ is)) in
              absurd (omega arith)
        ])
