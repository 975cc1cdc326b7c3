-- Which votes stand after one commit.
use Rattle.law_log.proofs.Imports.{◌↔◌, ◌≡◌, ◌⊎◌, Accepted, Ballot, Command, In, List, StateRecord, World, accepted_in, committed, committed_in, inl, inr}
use Rattle.law_log.proofs.Imports.{stays_in, subst, sym, vote, ℕ}
use Rattle.law_log.specs.AgreedLog.{IsSeenAt}

pub in_committed : (records : List StateRecord) (entry : StateRecord) (place : ℕ) (ballot : Ballot) (command : Command)
    → In (Accepted place ballot command) (committed records entry) ↔ ((entry ≡ Accepted place ballot command) ⊎ In (Accepted place ballot command) records)
in_committed records entry place ballot command = (
  λ i. elim (committed_in _ records entry i) [ inl old ↦ inr old | inr is ↦ inl (sym is) ],
  λ h. elim h [
    | inl is ↦ subst (λ e. In (Accepted place ballot command) (committed records e)) (sym is) (accepted_in records place ballot command)
    | inr old ↦ stays_in _ records entry old
  ],
)

-- a record of no vote leaves the votes as they were
pub same_votes : (n : ℕ) (records : List StateRecord) (entries : List Command) (p : World) (new : StateRecord)
    → ((j : ℕ) (ballot : Ballot) (command : Command) → new ≡ Accepted j ballot command → ⊥) → IsSeenAt n records entries p
    → (j : ℕ) (ballot : Ballot) (command : Command) → In (vote n j ballot command) p.votes ↔ In (Accepted j ballot command) (committed records new)
same_votes n records entries p new apart seen j ballot command = (
  λ i. (in_committed records new j ballot command).1 (inr ((seen.votes j ballot command).0 i)),
  λ i. elim ((in_committed records new j ballot command).0 i) [
    | inl e ↦ absurd (apart j ballot command e)
    | inr old ↦ (seen.votes j ballot command).1 old
  ],
)
