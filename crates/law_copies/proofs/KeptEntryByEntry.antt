-- What is kept of a prefix of the chosen log that no server was beyond is kept of the whole, entry by entry, by the stores that count then.
use Rattle.law_copies.proofs.Imports.{[], if◌then◌else◌, ◌++◌, ◌<◌, ◌==◌, ◌∙◌, ◌∷◌, ◌≡◌, ◌≢◌, ◌≤◌, ◌⊎◌, Bool, Cell, Command, Firm, IsPrefix, Join, List, None}
use Rattle.law_copies.proofs.Imports.{Record, Rests, Setting, State, Store, World, ap, append-nil, append_assoc, arith, blank_joins_in, by_bool, chosen_log}
use Rattle.law_copies.proofs.Imports.{counted, counted_by, false, inl, inr, is_in, joined_in, joined_once, joins_blank, joins_grow, kept_by, kept_store}
use Rattle.law_copies.proofs.Imports.{number_itself, prefix_itself, prefix_more, prefix_on, prefix_plain, refl, same_numbers, server_state, state_after}
use Rattle.law_copies.proofs.Imports.{subst, sym, true, true_false, ℕ}
use Rattle.law_copies.specs.WaitingStores.{IsEmpty, IsOwn}
use Rattle.law_copies.specs.GoodCopies.{Good, store_of}
use Rattle.law_copies.specs.Pair.{HaveMarks}
use Rattle.law_copies.specs.Visits.{Visits, with_stores}
use Rattle.law_copies.proofs.NewEntryKeepsPrefixes.{grown_one}
use Rattle.law_copies.proofs.AtNext.{AreRecounted, IsAfter, IsGrownTo, following_on}
use Rattle.law_copies.proofs.ServedAtLaterPrefixes.{AllStarted}
use Rattle.law_copies.proofs.BlankJoinsRenewLinks.{blank_join, counts_more, counts_same}

-- what is known of a world at which more is chosen than these entries: the store of a server of which more Joins with an empty store count
-- is empty, and its own; and who was ever In has begun
pub record IsFurther (setting : Setting) (records : List Record) (v : World) (first : List Command) : Type 0 where
  pub firm : Firm setting v
  pub rests : Rests setting v
  pub started : AllStarted setting records v
  pub empty : (n : ℕ) → blank_joins_in setting first n ≢ blank_joins_in setting (chosen_log setting v) n → IsEmpty (store_of v n)
  pub own : (n : ℕ) → blank_joins_in setting first n ≢ blank_joins_in setting (chosen_log setting v) n → IsOwn setting v n
  pub begun : (n inc : ℕ) (prefix : List Command) → IsPrefix prefix (chosen_log setting v) → is_in (state_after setting.servers prefix) n inc ≡ true
      → inc ≤ (v.servers n).life.inc

module _ (setting : Setting) (records : List Record) (v : World) (first : List Command) (further : IsFurther setting records v first) where
  abbrev chosen : List Command
  chosen = chosen_log setting v

  abbrev joins : List Command → ℕ → ℕ
  joins log n = blank_joins_in setting log n

  -- the stores that count by a prefix after those first entries: once more Joins of a server count, its own
  abbrev recounted_by : List Command → ℕ → Store
  recounted_by log n = if joins log n == joins first n then kept_by setting first v n else store_of v n

  stores_so : (log : List Command) (n : ℕ) (b : Bool) → (joins log n == joins first n) ≡ b
      → recounted_by log n ≡ (if b then kept_by setting first v n else store_of v n)
  stores_so log n b e = ap (λ c. if c then kept_by setting first v n else store_of v n) e

  stores_first : (n : ℕ) → recounted_by first n ≡ kept_by setting first v n
  stores_first n = stores_so first n true (number_itself (joins first n))

  stores_chosen : (n : ℕ) → recounted_by chosen n ≡ kept_by setting chosen v n
  stores_chosen n = by_bool (joins chosen n == joins first n)
      (λ t. stores_so chosen n true t ∙ ap (λ m. kept_store m (v.before_blank n) (store_of v n)) (sym (same_numbers (joins chosen n) (joins first n) t)))
      (λ f. stores_so chosen n false f ∙ sym (further.own n (λ e. true_false (ap (λ m. m == joins first n) (sym e) ∙ number_itself (joins first n)) f)
      (store_of v n)))

  module _ (top : List Command) (entry : Command) (one : IsPrefix first top) (two : IsPrefix (top ++ entry ∷ []) chosen)
      (following : IsAfter setting records top v) (good : Good setting records top (with_stores v (recounted_by top))) where
    abbrev so_far : State
    so_far = state_after setting.servers top

    apart_first : (n : ℕ) → joins_blank so_far entry n ≡ true → (log : List Command) → IsPrefix (top ++ entry ∷ []) log → joins first n < joins log n
    apart_first n on log is_prefix =
        let low = joins_grow setting.servers first top n one in
        let more = counts_more setting top entry n on in
        let high = joins_grow setting.servers (top ++ entry ∷ []) log n is_prefix in
        omega arith

    not_first : (n : ℕ) → joins_blank so_far entry n ≡ true → (joins (top ++ entry ∷ []) n == joins first n) ≡ false
    not_first n on = by_bool (joins (top ++ entry ∷ []) n == joins first n)
        (λ t. let lt = apart_first n on (top ++ entry ∷ []) (prefix_itself (top ++ entry ∷ [])) in
        let e = same_numbers (joins (top ++ entry ∷ []) n) (joins first n) t in
        absurd (omega arith))
        (λ f. f)

    -- it joins as an incarnation that has begun, and is In as no later one
    is_out : (n : ℕ) → joins_blank so_far entry n ≡ true → is_in (server_state setting v n) n (v.servers n).life.inc ≡ false
    is_out n on = by_bool (is_in (server_state setting v n) n (v.servers n).life.inc)
        (λ seat.
        let j = blank_join so_far entry n on in
        let stands : IsPrefix (top ++ Join n j.inc true ∷ []) chosen = subst (λ c. IsPrefix (top ++ c ∷ []) chosen) j.is two in
        let plain = prefix_plain setting.servers (top ++ Join n j.inc true ∷ []) chosen further.firm.plain stands in
        let joined = joined_in setting.servers top (top ++ Join n j.inc true ∷ []) n j.inc true plain
        (record { until = top; following = prefix_itself top; stands = prefix_itself (top ++ Join n j.inc true ∷ []); may = j.may }) in
        let low = further.begun n j.inc (top ++ Join n j.inc true ∷ []) stands joined in
        true_false j.may
        (joined_once setting.servers (v.servers n).log.applied top n (v.servers n).life.inc
        (prefix_plain setting.servers top chosen further.firm.plain (prefix_on top _ chosen (prefix_more top entry) two)) (following.now n)
        j.inc seat low))
        (λ out. out)

    recounted : AreRecounted setting v so_far entry (recounted_by top) (recounted_by (top ++ entry ∷ []))
    recounted = record {
      same = λ n off. ap (λ m. if m == joins first n then kept_by setting first v n else store_of v n) (counts_same setting top entry n off);
      renewed = λ n on.
          let is = stores_so (top ++ entry ∷ []) n false (not_first n on) in
          let lt = apart_first n on chosen two in
          let empty = further.empty n (λ e. absurd (omega (arith, e, lt))) in
          record {
            chains = ap (λ (s : Store). s.chains) is ∙ empty.chains;
            marks = ap (λ (s : Store). s.marks) is ∙ empty.marks;
            out = is_out n on;
            rested = λ when. subst (HaveMarks (server_state setting v n) (v.servers n).own.pairs.pending) (sym is) (rested n on when);
          };
    }
      where
        own_by : (n : ℕ) → v.before_blank n ≡ None → (b : Bool) → (if b then kept_by setting first v n else store_of v n) ≡ store_of v n
        own_by n none true = ap (λ o. kept_store (joins first n) o (store_of v n)) none
        own_by n none false = refl

        rested : (n : ℕ) → joins_blank so_far entry n ≡ true → ((v.servers n).life.running ≡ true) ⊎ (v.before_blank n ≡ None)
            → HaveMarks (server_state setting v n) (v.servers n).own.pairs.pending (store_of v n)
        rested n on (inl runs) = λ cell op lives there. true_false (further.rests.seated n cell op runs there) (is_out n on)
        rested n on (inr none) = subst (HaveMarks (server_state setting v n) (v.servers n).own.pairs.pending)
            (own_by n none (joins top n == joins first n)) (good.marks n (inr none))

  grow_by : (visits : Visits) (reached : Cell → ℕ) (more top : List Command) → chosen ≡ top ++ more → IsPrefix first top → IsAfter setting records top v
      → IsGrownTo setting records (with_stores v (recounted_by top)) visits reached top → IsGrownTo setting records
      (with_stores v (recounted_by chosen)) visits reached chosen
  grow_by visits reached [] top e one following grown =
      subst (λ log. IsGrownTo setting records (with_stores v (recounted_by log)) visits reached log) (sym (e ∙ append-nil top)) grown
  grow_by visits reached (entry ∷ more) top e one following grown =
      let onward : chosen ≡ (top ++ entry ∷ []) ++ more = e ∙ sym (append_assoc top (entry ∷ []) more) in
      let is_prefix : IsPrefix (top ++ entry ∷ []) chosen = record { later = more; is = onward } in
      grow_by visits reached more (top ++ entry ∷ []) onward (prefix_on first top (top ++ entry ∷ []) one (prefix_more top entry))
      (following_on setting records top (top ++ entry ∷ []) v (prefix_more top entry) following)
      (grown_one (record {
        setting = setting;
        records = records;
        top = top;
        entry = entry;
        u = v;
        old = recounted_by top;
        new = recounted_by (top ++ entry ∷ []);
        good = grown.good;
        following = following;
        all = prefix_plain setting.servers (top ++ entry ∷ []) chosen further.firm.plain is_prefix;
        started = λ of link holder inc other other_inc same. further.started top of link holder inc other other_inc
            (subst (λ (x : Command). IsPrefix (top ++ x ∷ []) chosen) same is_prefix);
        recounts = recounted top entry one is_prefix following grown.good;
      }) visits reached grown.visits_are grown.reached_is)

  -- what is kept of a prefix of the chosen log that no server was beyond is kept of the whole, by the stores that count then
  pub grow : (visits : Visits) (reached : Cell → ℕ) → IsPrefix first chosen → IsAfter setting records first v
      → IsGrownTo setting records (counted_by setting first v) visits reached first → IsGrownTo setting records (counted setting v) visits reached chosen
  grow visits reached is_prefix following grown =
      subst (λ w. IsGrownTo setting records w visits reached chosen) (λ i. with_stores v (λ n. stores_chosen n i))
      (grow_by visits reached is_prefix.later first is_prefix.is (prefix_itself first) following
      (subst (λ w. IsGrownTo setting records w visits reached first) (λ i. with_stores v (λ n. sym (stores_first n) i)) grown))
