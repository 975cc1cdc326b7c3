-- What a prefix of a log has, and each entry after it keeps, the whole log has.
use Rattle.law_state.proofs.Imports.{[], ◌++◌, ◌∙◌, ◌∷◌, ◌≡◌, Cell, Command, In, IsPrefix, List, State, after, append-nil, append_assoc, arith, fold-append}
use Rattle.law_state.proofs.Imports.{in_former, in_later, inl, is_up_as, refl, start, state_after, subst, sym, true, ℕ}
use Rattle.law_state.specs.Plain.{HasProperTuple, HasProperTuples}
use Rattle.law_state.specs.Tables.{IsSettledState}
use Rattle.law_state.proofs.Ages.{between}
use Rattle.law_state.proofs.EntriesOnlyAdd.{log_plain}
use Rattle.law_state.proofs.Prefixes.{prefix_itself, prefix_more, prefix_on}
use Rattle.law_state.proofs.Steady.{prefix_plain, log_below}
use Rattle.law_state.specs.Homes.{IsRetired}

-- an entry of the log after this front of it
pub record NextEntry (servers : ℕ) (prefix whole : List Command) : Type 0 where
  pub until : List Command
  pub entry : Command
  pub following : IsPrefix prefix until
  pub stands : IsPrefix (until ++ entry ∷ []) whole
  pub plain : HasProperTuples servers until
  pub proper : HasProperTuple servers entry

module _ (servers : ℕ) (prefix whole : List Command) (all : HasProperTuples servers whole) (is_prefix : IsPrefix prefix whole) where
  abbrev pub reached : NextEntry servers prefix whole → State
  reached it = state_after servers it.until

  pub settled_there : (it : NextEntry servers prefix whole) → IsSettledState servers (reached it)
  settled_there it = log_plain servers it.until it.plain

  pub next_plain : (it : NextEntry servers prefix whole) → HasProperTuples servers (it.until ++ it.entry ∷ [])
  next_plain it = prefix_plain servers (it.until ++ it.entry ∷ []) whole all it.stands

  pub next_is : (it : NextEntry servers prefix whole) → state_after servers (it.until ++ it.entry ∷ []) ≡ after (reached it) it.entry
  next_is it = fold-append after (start servers) it.until (it.entry ∷ [])

  -- said of the log so far, and of the state that it makes
  pub by_entries : (P : List Command → State → Type 0)
      → ((it : NextEntry servers prefix whole) → P it.until (reached it) → P (it.until ++ it.entry ∷ []) (after (reached it) it.entry))
      → P prefix (state_after servers prefix) → P whole (state_after servers whole)
  unfolding In
  by_entries P step h = subst (λ log. P log (state_after servers log)) (sym is_prefix.is) (onward prefix is_prefix.later (prefix_itself prefix) is_prefix.is h)
    where
      onward : (until rest : List Command) → IsPrefix prefix until → whole ≡ until ++ rest → P until (state_after servers until)
          → P (until ++ rest) (state_after servers (until ++ rest))
      onward until [] following lies h = subst (λ log. P log (state_after servers log)) (sym (append-nil until)) h
      onward until (entry ∷ rest) following lies h =
          let next = until ++ entry ∷ [] in
          let on : next ++ rest ≡ until ++ entry ∷ rest = append_assoc until (entry ∷ []) rest in
          let plain = prefix_plain servers next whole all (record { later = rest; is = lies ∙ sym on }) in
          let it : NextEntry servers prefix whole = record {
            until = until;
            entry = entry;
            following = following;
            stands = record { later = rest; is = lies ∙ sym on };
            plain = prefix_plain servers until next plain (prefix_more until entry);
            proper = plain entry (in_later entry until (entry ∷ []) (inl refl));
          } in
          subst (λ log. P log (state_after servers log)) on (onward next rest (prefix_on prefix until next following (prefix_more until entry)) (lies ∙ sym on)
          (subst (P next) (sym (next_is it)) (step it h)))

  -- who is In at first and at last is In before each entry and after it
  pub in_between : (it : NextEntry servers prefix whole) (n inc : ℕ) → is_up_as (state_after servers prefix) n inc ≡ true
      → is_up_as (state_after servers whole) n inc ≡ true
      → (is_up_as (reached it) n inc ≡ true) × (is_up_as (after (reached it) it.entry) n inc ≡ true)
  in_between it n inc first last =
      let next = it.until ++ it.entry ∷ [] in
      let one = (log_below servers prefix it.until it.plain it.following).ages n in
      let two = (log_below servers it.until next (next_plain it) (prefix_more it.until it.entry)).ages n in
      let three = (log_below servers next whole all it.stands).ages n in (
        between (state_after servers prefix) (reached it) (state_after servers whole) n inc one (omega arith) first last,
        subst (λ (t : State). is_up_as t n inc ≡ true) (next_is it)
            (between (state_after servers prefix) (state_after servers next) (state_after servers whole) n inc (omega arith) three first last),
      )

  -- a cell that has died stays so
  pub retired_next : (it : NextEntry servers prefix whole) (cell : Cell) → IsRetired (reached it) cell → IsRetired (after (reached it) it.entry) cell
  retired_next it cell gone = subst (λ (t : State). IsRetired t cell) (next_is it)
      ((log_below servers it.until (it.until ++ it.entry ∷ []) (next_plain it) (prefix_more it.until it.entry)).died cell gone)

  pub in_whole : (it : NextEntry servers prefix whole) → In it.entry whole
  unfolding In
  in_whole it = subst (In it.entry) (sym it.stands.is)
      (in_former it.entry (it.until ++ it.entry ∷ []) it.stands.later (in_later it.entry it.until (it.entry ∷ []) (inl refl)))
