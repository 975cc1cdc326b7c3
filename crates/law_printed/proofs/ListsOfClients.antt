-- The clients' lists, one after the other: each client's records among them are its list.
use Rattle.law_answers.proofs.Imports.{[], ◌++◌, ◌+◌, ◌<◌, ◌≤◌, ◌∙◌, ◌∷◌, ◌≡◌, ◌≢◌, Bool, In, List, None, Record, Script, Some, ap, arith, by_bool}
use Rattle.law_answers.proofs.Imports.{cond, false, filter, in-append, inl, inr, length, none_some, number_itself, refl}
use Rattle.law_answers.proofs.Imports.{same_numbers, same_some, setting_of, slice_get, start, subst, suc, sym, true, zero, ℕ}
use Rattle.law_answers.proofs.LinesHavePlaces.{line_at}
use Rattle.law_copies.proofs.ChainsRise.{all_left}
use Rattle.law_state.proofs.ListLookups.{get_within}
use Rattle.law_merge.specs.Alone.{IsAloneClient, is_by_client, of_client}
use Rattle.law_printed.specs.Answers.{AnswerAlone, HaveParts}
use Rattle.law_printed.specs.Clients.{AreBy, AreClients, AreOfClients, EachIsBy, HaveAllPlayed, WentOn, all_records}
use Rattle.law_printed.specs.Played.{HasPlayedBy, HavePlayed}
use Rattle.petal_msg.specs.declared.letter.Actor.TheVariants as actor
use Rattle.std.proofs.lemmas.Bool.{cases_lt}

-- ### One list

all_kept : {A : Type 0} (p : A → Bool) (xs : List A) → ((x : A) → In x xs → p x ≡ true) → filter p xs ≡ xs
unfolding In
all_kept p [] each = refl
all_kept p (x ∷ xs) each =
    ap (λ b. cond b (x ∷ filter p xs) (filter p xs)) (each x (inl refl)) ∙ ap (λ ys. x ∷ ys) (all_kept p xs (λ y i. each y (inr i)))

filter_joined : {A : Type 0} (p : A → Bool) (xs ys : List A) → filter p (xs ++ ys) ≡ filter p xs ++ filter p ys
filter_joined p [] ys = refl
filter_joined p (x ∷ xs) ys = elim (p x) as (λ b. cond b (x ∷ filter p (xs ++ ys)) (filter p (xs ++ ys)) ≡ cond b (x ∷ filter p xs) (filter p xs) ++ filter p ys) [
  | true ↦ ap (λ zs. x ∷ zs) (filter_joined p xs ys)
  | false ↦ filter_joined p xs ys
]

is_apart : (c d : ℕ) → c ≢ d → is_by_client c (actor.Client d) ≡ false
is_apart c d ne = by_bool (is_by_client c (actor.Client d)) (λ e. absurd (ne (sym (same_numbers d c e)))) (λ f. f)

own_list : (c : ℕ) (list : List Record) → AreBy c list → of_client c list ≡ list
own_list c list by = all_kept (λ (own : Record). is_by_client c own.actor) list (λ own i. ap (is_by_client c) (by own i) ∙ number_itself c)

other_list : (c d : ℕ) (list : List Record) → c ≢ d → AreBy d list → of_client c list ≡ []
other_list c d list ne by = all_left (λ (own : Record). is_by_client c own.actor) list (λ own i. ap (is_by_client c) (by own i) ∙ is_apart c d ne)

-- ### All lists

-- the first list is that of client n
abbrev AreFrom : ℕ → List (List Record) → Type 0
AreFrom n lists = (k : ℕ) (list : List Record) → slice_get lists k ≡ Some list → AreBy (n + k) list

rest_from : (n : ℕ) (first : List Record) (lists : List (List Record)) → AreFrom n (first ∷ lists) → AreFrom (n + 1) lists
rest_from n first lists by k list is = subst (λ m. AreBy m list) (let e : n + suc k ≡ (n + 1) + k = omega arith in e) (by (suc k) list is)

first_by : (n : ℕ) (first : List Record) (lists : List (List Record)) → AreFrom n (first ∷ lists) → AreBy n first
first_by n first lists by = subst (λ m. AreBy m first) (let e : n + 0 ≡ n = omega arith in e) (by 0 first refl)

none_there : (lists : List (List Record)) (n c : ℕ) → AreFrom n lists → ((k : ℕ) → k < length lists → c ≢ n + k) → of_client c (all_records lists) ≡ []
none_there [] n c by ne = refl
none_there (first ∷ lists) n c by ne =
    filter_joined (λ (own : Record). is_by_client c own.actor) first (all_records lists)
    ∙ ap (λ xs. xs ++ of_client c (all_records lists))
    (other_list c n first (λ e. ne 0 (omega arith) (let f = e in omega arith)) (first_by n first lists by))
    ∙ none_there lists (n + 1) c (rest_from n first lists by) (λ k lt e. ne (suc k) (omega arith) (let f = e in omega arith))

there : (lists : List (List Record)) (n k : ℕ) (list : List Record) → AreFrom n lists → slice_get lists k ≡ Some list
    → of_client (n + k) (all_records lists) ≡ list
there [] n k list by is = none_some refl is
there (first ∷ lists) n zero list by is =
    filter_joined (λ (own : Record). is_by_client (n + 0) own.actor) first (all_records lists)
    ∙ ap (λ xs. xs ++ of_client (n + 0) (all_records lists)) (own_list (n + 0) first (by 0 first refl))
    ∙ ap (λ xs. first ++ xs) (none_there lists (n + 1) (n + 0) (rest_from n first lists by) (λ k lt e. let f = e in absurd (omega arith)))
    ∙ append_nil first ∙ same_some is
  where
    append_nil : (xs : List Record) → xs ++ [] ≡ xs
    append_nil [] = refl
    append_nil (x ∷ xs) = ap (λ ys. x ∷ ys) (append_nil xs)
there (first ∷ lists) n (suc k) list by is =
    filter_joined (λ (own : Record). is_by_client (n + suc k) own.actor) first (all_records lists)
    ∙ ap (λ xs. xs ++ of_client (n + suc k) (all_records lists))
    (other_list (n + suc k) n first (λ e. let f = e in absurd (omega arith)) (first_by n first lists by))
    ∙ ap (λ m. of_client m (all_records lists)) (let e : n + suc k ≡ (n + 1) + k = omega arith in e)
    ∙ there lists (n + 1) k list (rest_from n first lists by) is

from_start : (lists : List (List Record)) → EachIsBy lists → AreFrom 0 lists
from_start lists by k list is = subst (λ m. AreBy m list) (let e : k ≡ 0 + k = omega arith in e) (by k list is)

pub list_there : (lists : List (List Record)) → EachIsBy lists → (c : ℕ) (list : List Record) → slice_get lists c ≡ Some list
    → of_client c (all_records lists) ≡ list
list_there lists by c list is =
    ap (λ m. of_client m (all_records lists)) (let e : c ≡ 0 + c = omega arith in e) ∙ there lists 0 c list (from_start lists by) is

pub no_list : (lists : List (List Record)) → EachIsBy lists → (c : ℕ) → length lists ≤ c → of_client c (all_records lists) ≡ []
no_list lists by c past = none_there lists 0 c (from_start lists by) (λ k lt e. let f = e in absurd (omega arith))

-- ### Whose each record is

whose : (lists : List (List Record)) (n : ℕ) → AreFrom n lists → (own : Record) → In own (all_records lists) → (c : ℕ) × (own.actor ≡ actor.Client c)
unfolding In
whose [] n by own i = absurd i
whose (first ∷ lists) n by own i = elim (in-append own first (all_records lists) i) [
  | inl here ↦ (n, first_by n first lists by own here)
  | inr later ↦ whose lists (n + 1) (rest_from n first lists by) own later
]

pub no_server : (lists : List (List Record)) → EachIsBy lists → (own : Record) (n : ℕ) → In own (all_records lists) → own.actor ≡ actor.Server n → own.answer ≡ None
no_server lists by own n i is = absurd (apart n (whose lists 0 (from_start lists by) own i).0 (sym is ∙ (whose lists 0 (from_start lists by) own i).1))
  where
    apart : (m c : ℕ) → actor.Server m ≡ actor.Client c → ⊥
    apart m c e = cc

-- ### What the laws ask of a list of records

pub lists_alone : (script : Script) (lists : List (List Record)) → AreClients script lists → AnswerAlone script (all_records lists)
lists_alone script lists clients = record {
  servers = no_server lists clients.by;
  clients = λ c. elim (cases_lt c (length lists)) [
    | inl lt ↦ (
        let list = get_within lists c lt in
        subst (IsAloneClient (setting_of script) c ((start (setting_of script)).clients c) 0) (sym (list_there lists clients.by c list.0 list.1))
        (clients.alone c list.0 list.1))
    | inr past ↦
        subst (IsAloneClient (setting_of script) c ((start (setting_of script)).clients c) 0) (sym (no_list lists clients.by c past)) tt
  ];
}

pub lists_played : (script : Script) (phases : ℕ) (lists : List (List Record)) → EachIsBy lists → AreOfClients (length lists) script.lines
    → HaveAllPlayed script phases lists → HavePlayed script phases (all_records lists)
lists_played script phases lists by of_clients played c = elim (cases_lt c (length lists)) [
  | inl lt ↦ (
      let list = get_within lists c lt in
      subst (HasPlayedBy script phases c) (sym (list_there lists by c list.0 list.1)) (played c list.0 list.1))
  | inr past ↦ subst (HasPlayedBy script phases c) (sym (no_list lists by c past)) (record {
    free = refl;
    called = λ place line is before.
        let own = line_at script.lines c place line is in
        let less = of_clients line own.0 in
        let e = own.1 in
        absurd (omega arith);
    only = λ place line is before. absurd (omega arith);
  })
]

pub lists_parts : (olds sinces news : List (List Record)) → EachIsBy olds → EachIsBy sinces → EachIsBy news → WentOn olds sinces news
    → HaveParts (all_records olds) (all_records sinces) (all_records news)
lists_parts olds sinces news old_by since_by new_by went = record {
  clients = λ c. elim (cases_lt c (length news)) [
    | inl lt ↦
        let old = get_within olds c (let e = went.old_size in omega arith) in
        let since = get_within sinces c (let e = went.since_size in omega arith) in
        let new = get_within news c lt in
        list_there news new_by c new.0 new.1
        ∙ went.each c old.0 since.0 new.0 old.1 since.1 new.1
        ∙ ap (λ xs. xs ++ since.0) (sym (list_there olds old_by c old.0 old.1))
        ∙ ap (λ ys. of_client c (all_records olds) ++ ys) (sym (list_there sinces since_by c since.0 since.1))
    | inr past ↦
        no_list news new_by c past
        ∙ ap (λ xs. xs ++ []) (sym (no_list olds old_by c (let e = went.old_size in omega arith)))
        ∙ ap (λ ys. of_client c (all_records olds) ++ ys) (sym (no_list sinces since_by c (let e = went.since_size in omega arith)))
  ];
  servers = λ own n i is. elim (in-append own (all_records olds) (all_records sinces) i) [
    | inl before ↦ no_server olds old_by own n before is
    | inr since ↦ no_server sinces since_by own n since is
  ];
}
