-- Whose record it is: the records of one server, and of one client.
use Rattle.law_merge.proofs.Imports.{if◌then◌else◌, ◌==◌, ◌∙◌, ◌∷◌, ◌≡◌, ◌≢◌, Bool, List, Record, ap, by_bool, false, number_itself, refl, same_numbers, sym}
use Rattle.law_merge.proofs.Imports.{true, ℕ}
use Rattle.law_merge.specs.Alone.{is_by_client, is_by_server, of_client, of_server}
use Rattle.petal_msg.specs.declared.letter.Actor.TheVariants as actor

is_apart : (m n : ℕ) → m ≢ n → (n == m) ≡ false
is_apart m n ne = by_bool (n == m) (λ e. absurd (ne (sym (same_numbers n m e)))) (λ f. f)

taken : (t : Bool) (own : Record) (later : List Record) → t ≡ true → (if t then own ∷ later else later) ≡ own ∷ later
taken true own later e = refl
taken false own later e = absurd (cc)

passed : (t : Bool) (own : Record) (later : List Record) → t ≡ false → (if t then own ∷ later else later) ≡ later
passed true own later e = absurd (cc)
passed false own later e = refl

-- by the test itself
pub server_taken : (n : ℕ) (own : Record) (later : List Record) → is_by_server n own.actor ≡ true → of_server n (own ∷ later) ≡ own ∷ of_server n later
server_taken n own later is = taken (is_by_server n own.actor) own (of_server n later) is

pub server_other : (n : ℕ) (own : Record) (later : List Record) → is_by_server n own.actor ≡ false → of_server n (own ∷ later) ≡ of_server n later
server_other n own later is = passed (is_by_server n own.actor) own (of_server n later) is

-- by the actor
pub server_first : (n : ℕ) (own : Record) (later : List Record) → own.actor ≡ actor.Server n → of_server n (own ∷ later) ≡ own ∷ of_server n later
server_first n own later is = taken (is_by_server n own.actor) own (of_server n later) (ap (is_by_server n) is ∙ number_itself n)

pub server_passed : (m n : ℕ) (own : Record) (later : List Record) → m ≢ n → own.actor ≡ actor.Server n → of_server m (own ∷ later) ≡ of_server m later
server_passed m n own later ne is = passed (is_by_server m own.actor) own (of_server m later) (ap (is_by_server m) is ∙ is_apart m n ne)

pub server_none : (m c : ℕ) (own : Record) (later : List Record) → own.actor ≡ actor.Client c → of_server m (own ∷ later) ≡ of_server m later
server_none m c own later is = passed (is_by_server m own.actor) own (of_server m later) (ap (is_by_server m) is)

pub client_first : (c : ℕ) (own : Record) (later : List Record) → own.actor ≡ actor.Client c → of_client c (own ∷ later) ≡ own ∷ of_client c later
client_first c own later is = taken (is_by_client c own.actor) own (of_client c later) (ap (is_by_client c) is ∙ number_itself c)

pub client_passed : (d c : ℕ) (own : Record) (later : List Record) → d ≢ c → own.actor ≡ actor.Client c → of_client d (own ∷ later) ≡ of_client d later
client_passed d c own later ne is = passed (is_by_client d own.actor) own (of_client d later) (ap (is_by_client d) is ∙ is_apart d c ne)

pub client_none : (d n : ℕ) (own : Record) (later : List Record) → own.actor ≡ actor.Server n → of_client d (own ∷ later) ≡ of_client d later
client_none d n own later is = passed (is_by_client d own.actor) own (of_client d later) (ap (is_by_client d) is)
