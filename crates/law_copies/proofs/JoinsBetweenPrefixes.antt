-- Joins with an empty store between two prefixes of the log, as they concern a link that one server holds alone.
use Rattle.law_copies.proofs.Imports.{[], if◌then◌else◌, ◌&&◌, ◌++◌, ◌<◌, ◌||◌, ◌∙◌, ◌∷◌, ◌≡◌, ◌≢◌, ◌⊎◌, Bool, Both, By_caught, By_join, By_leave, Caught}
use Rattle.law_copies.proofs.Imports.{Cell, Command, Firm, HasJoinedSince, HasProperTuple, HasProperTuples, In, IsPrefix, Join, Leave, LinkRow, List, Lost}
use Rattle.law_copies.proofs.Imports.{None, Only, PairState, Record, Setting, Some, State, Store, World, ap, append-nil, append_assoc, arith, blank_joins_in}
use Rattle.law_copies.proofs.Imports.{blanked_state, by_bool, cell_link, chain_in, chosen_log, has_server, id_of, in_later, inl, inr, is_flagged}
use Rattle.law_copies.proofs.Imports.{joined_counts, joins_blank, joins_grow, log_lost, log_steady, log_touched, needs_full_copy, number_itself, one_before}
use Rattle.law_copies.proofs.Imports.{other_of, prefix_itself, prefix_more, prefix_on, prefix_plain, refl, row_blanked, row_joined, state_after, subst, sym}
use Rattle.law_copies.proofs.Imports.{true, ℕ}
use Rattle.law_copies.specs.GoodCopies.{Good}
use Rattle.law_copies.specs.Visits.{AliveIn, IsLinked, place_by, store_by, with_stores}
use Rattle.law_copies.proofs.BlankJoinsMakePlaces.{joins_earlier}
use Rattle.law_copies.proofs.ServedAtLaterPrefixes.{AllStarted, alone_not_lost, alone_or_flagged, alone_since, been_below, holder_is_one}
use Rattle.law_copies.proofs.FramesKeepPrefixes.{other_is_one}
use Rattle.law_copies.proofs.PlacesByPrefixes.{alive_on, at_most_or_above, prefixes_meet, linked_between, other_later, places_up, rows_later, state_next}
use Rattle.law_copies.proofs.BlankJoinsRenewLinks.{blank_join, blanked_alone, counts_same}

same_joins : {a b i j : ℕ} {one other : Bool} → Join a i one ≡ Join b j other → (a ≡ b) × (one ≡ other)
same_joins e = (cc, cc)

module _ (setting : Setting) (n : ℕ) where
  -- where more of them count by a longer prefix one stands between
  joined_by : (later prefix : List Command) → blank_joins_in setting prefix n < blank_joins_in setting (prefix ++ later) n
      → (inc : ℕ) × HasJoinedSince setting.servers prefix (prefix ++ later) n inc true
  joined_by [] prefix lt = absurd (omega (arith, ap (λ log. blank_joins_in setting log n) (append-nil prefix)))
  joined_by (entry ∷ later) prefix lt =
      let whole : prefix ++ entry ∷ later ≡ (prefix ++ entry ∷ []) ++ later = sym (append_assoc prefix (entry ∷ []) later) in
      by_bool (joins_blank (state_after setting.servers prefix) entry n)
      (λ on.
      let j = blank_join (state_after setting.servers prefix) entry n on in (
        j.inc,
        record {
          until = prefix;
          following = prefix_itself prefix;
          stands = record { later = later; is = ap (λ c. prefix ++ c ∷ later) j.is ∙ sym (append_assoc prefix (Join n j.inc true ∷ []) later) };
          may = j.may;
        },
      ))
      (λ off.
      let same = counts_same setting prefix entry n off in
      let more = ap (λ log. blank_joins_in setting log n) whole in
      let rest = joined_by later (prefix ++ entry ∷ []) (omega (arith, same, more)) in (
        rest.0,
        record {
          until = rest.1.until;
          following = prefix_on prefix (prefix ++ entry ∷ []) rest.1.until (prefix_more prefix entry) rest.1.following;
          stands = subst (IsPrefix (rest.1.until ++ Join n rest.0 true ∷ [])) (sym whole) rest.1.stands;
          may = rest.1.may;
        },
      ))

  pub joined_between : (prefix more : List Command) → IsPrefix prefix more → blank_joins_in setting prefix n < blank_joins_in setting more n
      → (inc : ℕ) × HasJoinedSince setting.servers prefix more n inc true
  joined_between prefix more is_prefix lt =
      subst (λ log. (inc : ℕ) × HasJoinedSince setting.servers prefix log n inc true) (sym is_prefix.is)
      (joined_by is_prefix.later prefix (subst (λ log. blank_joins_in setting prefix n < blank_joins_in setting log n) is_prefix.is lt))

-- a server's link after its Join with an empty store
pub record IsBlankedAt (setting : Setting) (until : List Command) (n inc : ℕ) (cell : Cell) (row : LinkRow) : Type 0 where
  pub linked : IsLinked setting (until ++ Join n inc true ∷ []) cell (row_blanked n row)
  pub apart : row.state ≢ Both

module _ (setting : Setting) (whole : List Command) (all : HasProperTuples setting.servers whole) where
  pub blanked_at : (prefix : List Command) (n inc : ℕ) (cell : Cell) (row : LinkRow) (joined : HasJoinedSince setting.servers prefix whole n inc true)
      → IsLinked setting joined.until cell row → has_server n row ≡ true → IsBlankedAt setting joined.until n inc cell row
  unfolding In
  blanked_at prefix n inc cell row joined is has =
      let until = joined.until in
      let entry : Command = Join n inc true in
      let plain = prefix_plain setting.servers (until ++ entry ∷ []) whole all joined.stands in
      let plain_entry : HasProperTuple setting.servers entry = plain entry (in_later entry until (entry ∷ []) (inl refl)) in
      let plain_until = prefix_plain setting.servers until (until ++ entry ∷ []) plain (prefix_more until entry) in
      elim (log_touched setting.servers until entry cell row plain_until plain_entry is (ap (λ b. b && has_server n row) joined.may ∙ has)) [
        | By_leave left at seats ↦ let f : Join n inc true ≡ Leave left.server left.inc = left.is in absurd cc
        | By_join j at apart seats ↦ (
            let same = same_joins (sym j.is) in
            record {
              linked = ap (λ (s : State). cell_link s cell) (state_next setting until entry) ∙ at ∙ (λ i. Some (row_joined (same.0 i) (same.1 i) row));
              apart = apart;
            })
        | By_caught acts stays ↦ (
            let f : Join n inc true ≡ Caught row.map row.link acts.holder acts.inc (other_of acts.holder row) acts.other_inc = acts.is in
            absurd cc)
      ]

module _ (setting : Setting) (records : List Record) (w : World) (stores : ℕ → Store) (firm : Firm setting w)
    (good : Good setting records (chosen_log setting w) (with_stores w stores)) (started : AllStarted setting records w) where
  abbrev chosen : List Command
  chosen = chosen_log setting w

  -- a holder that holds the link still has the same store, or was done with it, where the other server has been at no later place
  pub held_same : (prefix more : List Command) (cell : Cell) (row now : LinkRow) (holder : ℕ) (whole last : Bool) → IsPrefix prefix more → IsPrefix more chosen
      → IsLinked setting prefix cell row → row.state ≡ Only holder whole → IsLinked setting more cell now → AliveIn (state_after setting.servers more) cell
      → now.state ≡ Only holder last
      → ((place : ℕ) → place_by setting prefix row < place → good.visits (other_of holder row) place cell ≡ None)
      → (blank_joins_in setting prefix holder ≡ blank_joins_in setting more holder)
      ⊎ ((own : PairState) × (good.visits holder (place_by setting prefix row) cell ≡ Some own) × (is_flagged own (id_of row) ≡ true))
  held_same prefix more cell row now holder whole last one two is alone end alive still unseen =
      elim (at_most_or_above (blank_joins_in setting more holder) (blank_joins_in setting prefix holder)) [
        | inl le ↦ inl (let up = joins_grow setting.servers prefix more holder one in omega arith)
        | inr lt ↦ (
            let h = joined_between setting holder prefix more one lt in
            let j = h.1 in
            let plain = prefix_plain setting.servers more chosen firm.plain two in
            let until_more = prefix_on j.until (j.until ++ Join holder h.0 true ∷ []) more (prefix_more j.until (Join holder h.0 true)) j.stands in
            let until_chosen = prefix_on j.until more chosen until_more two in
            let mid = linked_between setting chosen firm.plain prefix j.until more cell row now j.following until_more two is end in
            let mid_alive = alive_on setting chosen firm.plain j.until more cell until_more two alive in
            elim (alone_or_flagged setting records w stores firm good started prefix j.until cell row mid.0 holder whole j.following until_chosen is alone mid.1
            mid_alive unseen) [
              | inl held ↦ (
                  let steady = log_steady setting.servers j.until (prefix_plain setting.servers j.until chosen firm.plain until_chosen) in
                  let has = holder_is_one (state_after setting.servers j.until) steady holder cell mid.0 mid.1 held.1 in
                  let b = blanked_at setting more plain prefix holder h.0 cell mid.0 j mid.1 has in
                  let gone : (row_blanked holder mid.0).state ≡ Lost = lost_then mid.0 holder held.0 held.1 in
                  alone_not_lost now holder still
                  (log_lost setting.servers (j.until ++ Join holder h.0 true ∷ []) more plain j.stands cell (row_blanked holder mid.0) now b.linked gone end))
              | inr (inl lost) ↦ alone_not_lost now holder still (log_lost setting.servers j.until more plain until_more cell mid.0 now mid.1 lost end)
              | inr (inr flagged) ↦ inr flagged
            ])
      ]
    where
      lost_then : (mid : LinkRow) (n : ℕ) (kept : Bool) → mid.state ≡ Only n kept → (row_blanked n mid).state ≡ Lost
      lost_then mid n kept so =
          ap (λ s. blanked_state n (has_server n mid) s) so
          ∙ ap (λ b. if b then Lost else Only n (has_server n mid || kept)) (number_itself n)

  -- a running server that is In as itself, from its own entries on, to which each later prefix is at the same place, or held by it alone:
  -- where the other one came back with nothing since, all is to be copied to it, and it has nothing of the cell
  module _ (k : ℕ) (cell : Cell) (row : LinkRow) (is : IsLinked setting (w.servers k).log.applied cell row) (has : has_server k row ≡ true) where
    abbrev prefix : List Command
    prefix = (w.servers k).log.applied

    pub record IsUnfilled (more : List Command) (now : LinkRow) : Type 0 where
      pub whole : needs_full_copy now.state ≡ true
      pub empty : chain_in (store_by setting good.stores more (other_of k now)).chains cell ≡ []

    pub to_fill : {B : Type 0} → ((more : List Command) (now : LinkRow) → IsPrefix prefix more → IsPrefix more chosen → IsLinked setting more cell now
        → AliveIn (state_after setting.servers more) cell
        → (place_by setting more now ≡ place_by setting prefix row) ⊎ ((whole : Bool) × (now.state ≡ Only k whole)) ⊎ B)
        → (more : List Command) (now : LinkRow) (whole : Bool) → IsPrefix prefix more → IsPrefix more chosen → IsLinked setting more cell now
        → AliveIn (state_after setting.servers chosen) cell
        → now.state ≡ Only k whole → blank_joins_in setting prefix (other_of k row) < blank_joins_in setting more (other_of k row)
        → IsUnfilled more now ⊎ B
    to_fill since more now whole one two end alive alone lt =
        let o = other_of k row in
        let h = joined_between setting o prefix more one lt in
        let j = h.1 in
        let joined : List Command = j.until ++ Join o h.0 true ∷ [] in
        let plain = prefix_plain setting.servers more chosen firm.plain two in
        let joined_chosen = prefix_on joined more chosen j.stands two in
        let until_chosen = prefix_on j.until joined chosen (prefix_more j.until (Join o h.0 true)) joined_chosen in
        let prefix_joined = prefix_on prefix j.until joined j.following (prefix_more j.until (Join o h.0 true)) in
        let until_more = prefix_on j.until joined more (prefix_more j.until (Join o h.0 true)) j.stands in
        let mid = linked_between setting chosen firm.plain prefix j.until more cell row now j.following until_more two is end in
        let alive_then = alive_on setting chosen firm.plain more chosen cell two (prefix_itself chosen) alive in
        let so_mid = rows_later setting chosen firm.plain prefix j.until cell row mid.0 j.following until_chosen is mid.1 in
        let has_mid : has_server o mid.0 ≡ true = one_before row mid.0 o so_mid ∙ other_is_one row k in
        let b = blanked_at setting more plain prefix o h.0 cell mid.0 j mid.1 has_mid in
        let more_o = joined_counts setting.servers prefix joined o h.0
        (record { until = j.until; following = j.following; stands = prefix_itself joined; may = j.may }) in
        let later = joins_earlier setting chosen firm.plain prefix joined cell row (row_blanked o mid.0) o (firm.servers k) joined_chosen is b.linked
        (other_is_one row k) has_mid more_o in
        elim (since joined (row_blanked o mid.0) prefix_joined joined_chosen b.linked
        (alive_on setting chosen firm.plain joined more cell j.stands two alive_then)) [
          | inl same ↦ absurd (omega arith)
          | inr (inr other) ↦ inr other
          | inr (inl held) ↦ (
              let kept = blanked_alone mid.0 o k held.0 has_mid b.apart held.1 in
              let all_of : held.0 ≡ true = kept.1 in
              elim (alone_since setting records w stores firm good started joined more cell
              (row_blanked o mid.0) now k held.0 j.stands two b.linked held.1 end alive_then) [
                | inl still ↦ inl (unfilled more now still.0 (still.2 all_of) one two end alive still.1 lt)
                | inr (inl lost) ↦ alone_not_lost now k alone lost
                | inr (inr u) ↦ (
                    let u_chosen = prefix_on u.until more chosen u.before two in
                    let up = places_up setting chosen firm.plain joined u.until cell (row_blanked o mid.0) u.row u.following u_chosen b.linked u.linked in
                    let most = been_below setting records w stores firm good k (place_by setting u.until u.row) cell u.own row u.visited is in
                    absurd (omega arith))
              ])
        ]
      where
        unfilled : (more : List Command) (now : LinkRow) (whole : Bool) → whole ≡ true → IsPrefix prefix more → IsPrefix more chosen
            → IsLinked setting more cell now
            → AliveIn (state_after setting.servers chosen) cell → now.state ≡ Only k whole → blank_joins_in setting prefix
            (other_of k row) < blank_joins_in setting more (other_of k row) → IsUnfilled more now
        unfilled more now whole all_of one two end alive alone lt =
            let so = rows_later setting chosen firm.plain prefix more cell row now one two is end in
            let is_all : needs_full_copy now.state ≡ true = ap needs_full_copy alone ∙ all_of in
            record {
              whole = is_all;
              empty = elim ((good.alone more cell now k whole two end alone).unfilled alive is_all) [
                | inl empty ↦ empty
                | inr fill ↦ (
                    let o = other_of k row in
                    let same : other_of k now ≡ o = other_later row now k so in
                    let joins = fill.joins ∙ ap (blank_joins_in setting more) same in
                    let few : blank_joins_in setting prefix o < blank_joins_in setting fill.more o =
                    omega (arith, lt, ap (blank_joins_in setting fill.more) (sym same) ∙ joins) in
                    let meet = joins_earlier setting chosen firm.plain prefix fill.more cell row fill.row o (firm.servers k) fill.within is fill.linked
                    (other_is_one row k) (fill_has fill.more fill.row fill.within fill.linked) few in
                    let most = been_below setting records w stores firm good k (place_by setting fill.more fill.row) cell fill.own row fill.visited is in
                    absurd (omega arith))
              ];
            }
          where
            fill_has : (g : List Command) (other : LinkRow) → IsPrefix g chosen → IsLinked setting g cell other → has_server (other_of k row) other ≡ true
            fill_has g other is_prefix linked = elim (prefixes_meet prefix g chosen (firm.servers k) is_prefix) [
              | inl p ↦ one_before row other (other_of k row) (rows_later setting chosen firm.plain prefix g cell row other p is_prefix is linked)
                  ∙ other_is_one row k
              | inr p ↦ sym (one_before other row (other_of k row) (rows_later setting chosen firm.plain g prefix cell other row p (firm.servers k) linked is))
                  ∙ other_is_one row k
            ]
