-- What a line is told is the first fault that it has.
use Rattle.law_script.proofs.Imports.{[], ◌&&◌, ◌++◌, ◌+◌, ◌-◌, ◌==◌, ◌>>=◌, ◌||◌, ◌∙◌, ◌∷◌, ◌≡◌, ◌≢◌, BadLine, BadName, BadNumber, BadTuple, Bool, CallKind}
use Rattle.law_script.proofs.Imports.{Cause, Err, Fill, Line, List, NoMajority, NoServersLine, None, NotAscii, Ok, Option, Pattern, Ramp, Request, Result}
use Rattle.law_script.proofs.Imports.{Script, Some, TextLine, TooLong, TooMany, Which, Word, a_call, a_name, a_server, a_tuple, adds, ap, arith, boot_of}
use Rattle.law_script.proofs.Imports.{cases_Bool, client_request, codes, cond, counted, disk_of, drop, false, fault_of, filled_of, find, first_line}
use Rattle.law_script.proofs.Imports.{four_words, halves_of, in_limits, inl, inr, is_ascii, is_client, is_name, is_none, is_number, is_skipped, is_some}
use Rattle.law_script.proofs.Imports.{is_tuple, is_word, later_line, length, line_verdict, list_all, list_any, longest_line, longest_script, move_of, nat_eq}
use Rattle.law_script.proofs.Imports.{nat_le, nat_lt, ne_eqb, net_line, no_majority, no_word, not, numbers_of, one_word, operator_request, or_else, position}
use Rattle.law_script.proofs.Imports.{read_of, refl, servers_line, slice_index, snap_of, spread_of, stop_at, stop_of, suc, take, three_words, too_many, true}
use Rattle.law_script.proofs.Imports.{tuple_of, two_words, value, version_by, version_of, words_of, write_of, ℕ}
use Rattle.law_script.specs.Faults.{Positions, place, numbers_only, server_place, servers_positions, net_positions, bare_positions, spread_positions}
use Rattle.law_script.specs.Faults.{write_positions, version_names, read_positions, snap_positions, client_positions, stop_positions, boot_positions}
use Rattle.law_script.specs.Faults.{is_device, is_kind, fault_positions, operator_positions, line_positions, is_good, bad_name, bad_number, is_unfit}
use Rattle.law_script.specs.Faults.{bad_tuple, lacks_servers, with_request, lines_with, are_too_many, leave_no_majority, servers_in, has_fault, in_order, told}
use Rattle.device_faults.specs.declared.which.Which.TheVariants as devices
use Rattle.device_faults.specs.declared.plan.CallKind.TheVariants as calls

-- ### Steps

abbrev or_first : Option Cause → Option Cause → Option Cause
or_first None later = later
or_first (Some cause) later = Some cause

told_bind : {A B : Type 0} (r : Result A Cause) (f : A → Result B Cause) (later : Option Cause) → ((x : A) → told (f x) ≡ later)
    → told (r >>= f) ≡ or_first (told r) later
told_bind (Ok x) f later same = same x
told_bind (Err cause) f later same = refl

or_cond : (t : Bool) (cause : Cause) (later : Option Cause) → or_first (cond t (Some cause) None) later ≡ cond t (Some cause) later
or_cond true cause later = refl
or_cond false cause later = refl

joins : (b t : Bool) (cause : Cause) (later : Option Cause)
    → or_first (cond b None (Some cause)) (cond t (Some cause) later) ≡ cond (not b || t) (Some cause) later
joins true t cause later = refl
joins false t cause later = refl

kept_or : {A : Type 0} (b : Bool) (x : A) (cause : Cause) → told (or_else (cond b (Some x) None) cause) ≡ cond b None (Some cause)
kept_or true x cause = refl
kept_or false x cause = refl

kept_if : {A : Type 0} (b : Bool) (x : A) (cause : Cause) → told (cond b (Ok x) (Err cause)) ≡ cond b None (Some cause)
kept_if true x cause = refl
kept_if false x cause = refl

name_told : (word : Word) → told (a_name word) ≡ cond (is_name word) None (Some BadName)
name_told word = kept_or (is_name word) word BadName

limited : (b : Bool) (n : ℕ) (c : ℕ → Bool)
    → told (or_else (cond b (Some n) None) BadNumber >>= (λ m. cond (c m) (Ok m) (Err BadNumber))) ≡ cond (b && c n) None (Some BadNumber)
limited true n c = kept_if (c n) n BadNumber
limited false n c = refl

number_told : (least most : ℕ) (word : Word) → told (in_limits least most word) ≡ cond (is_good (place least most word)) None (Some BadNumber)
unfolding in_limits
number_told least most word = limited (is_number word) (value word) (λ n. nat_le least n && nat_le n most)

-- a name, and what comes after it
named : {B : Type 0} (word : Word) (f : List ℕ → Result B Cause) (t : Bool) (later : Option Cause)
    → ((x : List ℕ) → told (f x) ≡ cond t (Some BadName) later) → told (a_name word >>= f) ≡ cond (not (is_name word) || t) (Some BadName) later
named word f t later same = told_bind (a_name word) f (cond t (Some BadName) later) same
    ∙ ap (λ e. or_first e (cond t (Some BadName) later)) (name_told word) ∙ joins (is_name word) t BadName later

-- a number, and what comes after it
numbered : {B : Type 0} (least most : ℕ) (word : Word) (f : ℕ → Result B Cause) (t : Bool) (later : Option Cause)
    → ((x : ℕ) → told (f x) ≡ cond t (Some BadNumber) later)
    → told (in_limits least most word >>= f) ≡ cond (not (is_good (place least most word)) || t) (Some BadNumber) later
numbered least most word f t later same = told_bind (in_limits least most word) f (cond t (Some BadNumber) later) same
    ∙ ap (λ e. or_first e (cond t (Some BadNumber) later)) (number_told least most word) ∙ joins (is_good (place least most word)) t BadNumber later

-- ### Words in their places

-- what words in their places are told, and what comes after them
abbrev places_told : ℕ → Option Positions → Option Cause → Option Cause
places_told servers places later =
    cond (is_none places) (Some BadLine)
    (cond (bad_name places) (Some BadName) (cond (bad_number places) (Some BadNumber) (cond (bad_tuple servers places) (Some BadTuple) later)))

split : {A : Type 0} (n : ℕ) (b : Bool) (r s : Result A Cause) (p q : Option Positions) → told r ≡ places_told n p None → told s ≡ places_told n q None
    → told (cond b r s) ≡ places_told n (cond b p q) None
split n true r s p q here there = here
split n false r s p q here there = there

split_not : {A : Type 0} (n : ℕ) (b : Bool) (r : Result A Cause) (p : Option Positions) → told r ≡ places_told n p None
    → told (cond (not b) (Err BadLine) r) ≡ places_told n (cond b p None) None
split_not n true r p same = same
split_not n false r p same = refl

-- longer than a line of its form
not_none : (n : ℕ) → (suc n == 0) ≡ false
not_none n = let more : suc n ≢ 0 = omega arith in ne_eqb (suc n) 0 more

not_one : (n : ℕ) → (suc (suc (suc n)) == 1) ≡ false
not_one n = let more : suc (suc (suc n)) ≢ 1 = omega arith in ne_eqb (suc (suc (suc n))) 1 more

not_two : (n : ℕ) → (suc (suc (suc n)) == 2) ≡ false
not_two n = let more : suc (suc (suc n)) ≢ 2 = omega arith in ne_eqb (suc (suc (suc n))) 2 more

without_form : (n : ℕ) (b : Bool) (p : Option Positions) → b ≡ false → Some BadLine ≡ places_told n (cond b p None) None
without_form n true p is = absurd (cc)
without_form n false p is = refl

-- ### Clients

fit : (servers : ℕ) (ids : List ℕ) (b : Bool) → told (or_else (cond b (Some ids) None) BadTuple) ≡ cond (not b) (Some BadTuple) None
fit servers ids true = refl
fit servers ids false = refl

tuple_by : (servers : ℕ) (ids : Option (List ℕ)) → told (or_else ids BadNumber >>= (λ ns. or_else (tuple_of servers ns) BadTuple))
    ≡ cond (is_none ids || false) (Some BadNumber) (cond (is_unfit servers ids) (Some BadTuple) None)
tuple_by servers None = refl
tuple_by servers (Some ids) = fit servers ids (is_tuple servers ids)

tuple_told : (servers : ℕ) (words : List Word) → told (a_tuple servers words) ≡ cond (is_none (numbers_of words) || false) (Some BadNumber)
    (cond (is_unfit servers (numbers_of words)) (Some BadTuple) None)
unfolding a_tuple
tuple_told servers words = tuple_by servers (numbers_of words)

told_last : {A B : Type 0} (r : Result A Cause) (f : A → B) → told (r >>= (λ x. Ok (f x))) ≡ told r
told_last (Ok x) f = refl
told_last (Err cause) f = refl

abbrev both : ℕ → Word → List Word → Result (List ℕ × List ℕ) Cause
both servers disk words = a_name disk >>= (λ name. a_tuple servers words >>= (λ tuple. Ok (name, tuple)))

both_told : (servers : ℕ) (disk : Word) (words : List Word)
    → told (both servers disk words) ≡ places_told servers (Some (record { names = disk ∷ []; numbers = []; tuple = Some words })) None
both_told servers disk words =
    named {B = List ℕ × List ℕ} disk (λ name. a_tuple servers words >>= (λ tuple. Ok (name, tuple))) false
    _ (λ name. told_last {B = List ℕ × List ℕ} (a_tuple servers words) (λ tuple. (name, tuple)) ∙ tuple_told servers words)

spread_told : (servers : ℕ) (words : List Word) → told (spread_of servers words) ≡ places_told servers (spread_positions words) None
unfolding spread_of
spread_told servers [] = refl
spread_told servers (disk ∷ []) = refl
spread_told servers (disk ∷ on ∷ []) = elim (cases_Bool (is_word on (codes "on"))) [ inl is ↦ rw is refl | inr is ↦ rw is refl ]
spread_told servers (disk ∷ on ∷ server ∷ words) =
    elim (cases_Bool (is_word on (codes "on"))) [ inl is ↦ rw (is, not_none (length words)) (both_told servers disk (server ∷ words)) | inr is ↦ rw is refl ]

disk_told : (servers : ℕ) (words : List Word) → told (disk_of servers words) ≡ places_told servers (spread_positions words) None
unfolding disk_of
disk_told servers words = told_last (spread_of servers words) _ ∙ spread_told servers words

move_told : (servers : ℕ) (words : List Word) → told (move_of servers words) ≡ places_told servers (spread_positions words) None
unfolding move_of
move_told servers words = told_last (spread_of servers words) _ ∙ spread_told servers words

filled_told : (n : ℕ) (disk block x : Word) (pattern : ℕ → Pattern) → told (filled_of disk block pattern x)
    ≡ places_told n (Some (record { names = disk ∷ []; numbers = place 0 281474976710655 block ∷ place 0 255 x ∷ []; tuple = None })) None
unfolding filled_of
filled_told n disk block x pattern =
    named disk _ false
    _ (λ name. numbered 0 281474976710655 block _ (not (is_good (place 0 255 x)) || false) None (λ b. numbered 0 255 x _ false None (λ y. refl)))

halves_told : (n : ℕ) (disk block x y : Word) → told (halves_of disk block x y)
    ≡ places_told n (Some (record { names = disk ∷ []; numbers = place 0 281474976710655 block ∷ place 0 255 x ∷ place 0 255 y ∷ []; tuple = None })) None
unfolding halves_of
halves_told n disk block x y =
    named disk _ false _ (λ name. numbered 0 281474976710655 block _ (not (is_good (place 0 255 x)) || (not (is_good (place 0 255 y)) || false)) None
    (λ b. numbered 0 255 x _ (not (is_good (place 0 255 y)) || false) None (λ c. numbered 0 255 y _ false None (λ d. refl))))

by_length : (n : ℕ) (fill ramp halves : Bool) (count : ℕ) (filled ramped halved : Result Request Cause) (p : Option Positions)
    → told filled ≡ places_told n (cond (count == 1) p None) None
    → told ramped ≡ places_told n (cond (count == 1) p None) None → told halved ≡ places_told n (cond (count == 2) p None) None
    → (count == 0) ≡ false → told (cond fill filled (cond ramp ramped (cond halves halved (Err BadLine))))
    ≡ places_told n (cond (count == cond fill 1 (cond ramp 1 (cond halves 2 0))) p None) None
by_length n true ramp halves count filled ramped halved p f r h some = f
by_length n false true halves count filled ramped halved p f r h some = r
by_length n false false true count filled ramped halved p f r h some = h
by_length n false false false count filled ramped halved p f r h some = rw some refl

write_told : (n : ℕ) (words : List Word) → told (write_of words) ≡ places_told n (write_positions words) None
unfolding write_of one_word two_words
write_told n [] = refl
write_told n (disk ∷ []) = refl
write_told n (disk ∷ block ∷ []) = refl
write_told n (disk ∷ block ∷ kind ∷ []) = elim (cases_Bool (is_word kind (codes "fill"))) [
  | inl is ↦ rw is refl
  | inr a ↦ elim (cases_Bool (is_word kind (codes "ramp"))) [
    | inl is ↦ rw (a, is) refl
    | inr b ↦ elim (cases_Bool (is_word kind (codes "halves"))) [ inl is ↦ rw (a, b, is) refl | inr c ↦ rw (a, b, c) refl ]
  ]
]
write_told n (disk ∷ block ∷ kind ∷ x ∷ []) = by_length n (is_word kind (codes "fill")) (is_word kind (codes "ramp"))
    (is_word kind (codes "halves")) 1 _ _ _ _ (filled_told n disk block x Fill) (filled_told n disk block x Ramp) refl refl
write_told n (disk ∷ block ∷ kind ∷ x ∷ y ∷ []) = by_length n (is_word kind (codes "fill")) (is_word kind (codes "ramp"))
    (is_word kind (codes "halves")) 2 _ _ _ _ refl refl (halves_told n disk block x y) refl
write_told n (disk ∷ block ∷ kind ∷ x ∷ y ∷ z ∷ more) = by_length n (is_word kind (codes "fill"))
    (is_word kind (codes "ramp")) (is_word kind (codes "halves")) (length (x ∷ y ∷ z ∷ more)) _ _ _ _ (without_form n _ _ (not_one (length more)))
    (without_form n _ _ (not_one (length more))) (without_form n _ _ (not_two (length more))) (not_none (suc (suc (length more))))

version_by_told : (word : Word) (at : Option ℕ) → told (version_by word at) ≡ cond (list_any (λ w. not (is_name w)) (version_names word at)) (Some BadName) None
version_by_told word None = named word _ false None (λ name. refl)
version_by_told word (Some at) =
    named (take at word) _ (not (is_name (drop (at + 1) word)) || false) None (λ name. named (drop (at + 1) word) _ false None (λ snap. refl))

version_told : (word : Word)
    → told (version_of word) ≡ cond (list_any (λ w. not (is_name w)) (version_names word (position (nat_eq 64) word))) (Some BadName) None
unfolding version_of
version_told word = version_by_told word (position (nat_eq 64) word)

read_told : (n : ℕ) (words : List Word) → told (read_of words) ≡ places_told n (read_positions words) None
unfolding read_of one_word two_words
read_told n [] = refl
read_told n (disk ∷ []) = refl
read_told n (disk ∷ block ∷ []) =
    let later : Option Cause = cond (not (is_good (place 0 281474976710655 block)) || false) (Some BadNumber) None in
    told_bind (version_of disk) _ later (λ version. numbered 0 281474976710655 block _ false None (λ b. refl))
    ∙ ap (λ e. or_first e later) (version_told disk)
    ∙ or_cond (list_any (λ w. not (is_name w)) (version_names disk (position (nat_eq 64) disk))) BadName later
read_told n (disk ∷ block ∷ other ∷ more) = refl

snap_told : (n : ℕ) (words : List Word) → told (snap_of words) ≡ places_told n (snap_positions words) None
unfolding snap_of one_word two_words
snap_told n [] = refl
snap_told n (disk ∷ []) = refl
snap_told n (disk ∷ snap ∷ []) = named disk _ (not (is_name snap) || false) None (λ name. named snap _ false None (λ s. refl))
snap_told n (disk ∷ snap ∷ other ∷ more) = refl

client_told : (servers : ℕ) (words : List Word) → told (client_request servers words) ≡ places_told servers (client_positions words) None
unfolding client_request
client_told servers [] = refl
client_told servers (verb ∷ words) =
    split servers (is_word verb (codes "disk")) _ _ _ _ (disk_told servers words)
    (split servers (is_word verb (codes "write")) _ _ _ _ (write_told servers words)
    (split servers (is_word verb (codes "read")) _ _ _ _ (read_told servers words)
    (split servers (is_word verb (codes "snap")) _ _ _ _ (snap_told servers words)
    (split servers (is_word verb (codes "move")) _ _ _ _ (move_told servers words) refl))))

-- ### The operator

one_server : (n servers : ℕ) (s : Word) (f : ℕ → Request)
    → told (a_server servers s >>= (λ server. Ok (f server))) ≡ places_told n (numbers_only (server_place servers s ∷ [])) None
one_server n servers s f = numbered 0 (servers - 1) s _ false None (λ server. refl)

server_and_call : (n servers : ℕ) (s k : Word) (f : ℕ → ℕ → Request) → told (a_server servers s >>= (λ server. a_call k >>= (λ at. Ok (f server at))))
    ≡ places_told n (numbers_only (server_place servers s ∷ place 1 1000000 k ∷ [])) None
server_and_call n servers s k f =
    numbered 0 (servers - 1) s _ (not (is_good (place 1 1000000 k)) || false) None (λ server. numbered 1 1000000 k _ false None (λ at. refl))

stop_told : (n servers : ℕ) (words : List Word) → told (stop_of servers words) ≡ places_told n (stop_positions servers words) None
unfolding stop_of stop_at one_word two_words
stop_told n servers [] = refl
stop_told n servers (s ∷ []) = one_server n servers s _
stop_told n servers (s ∷ at ∷ []) = refl
stop_told n servers (s ∷ at ∷ k ∷ []) = split_not n (is_word at (codes "at")) _ _ (server_and_call n servers s k _)
stop_told n servers (s ∷ at ∷ k ∷ other ∷ more) = rw (not_none (suc (suc (length more)))) refl

boot_told : (n servers : ℕ) (request : ℕ → Request) (words : List Word)
    → told (boot_of servers request words) ≡ places_told n (boot_positions servers words) None
unfolding boot_of one_word
boot_told n servers request [] = refl
boot_told n servers request (s ∷ []) = one_server n servers s request
boot_told n servers request (s ∷ other ∷ more) = refl

device_split : {B : Type 0} (n : ℕ) (a b : Bool) (f : Which → Result B Cause) (p : Option Positions) → ((which : Which) → told (f which) ≡ places_told n p None)
    → told (cond a (Ok devices.Data) (cond b (Ok devices.State) (Err BadLine)) >>= f) ≡ places_told n (cond (a || b) p None) None
device_split n true b f p same = same devices.Data
device_split n false true f p same = same devices.State
device_split n false false f p same = refl

kind_split : {B : Type 0} (n : ℕ) (a b c : Bool) (f : CallKind → Result B Cause) (p : Option Positions)
    → ((kind : CallKind) → told (f kind) ≡ places_told n p None)
    → told (cond a (Ok calls.Read) (cond b (Ok calls.Write) (cond c (Ok calls.Sync) (Err BadLine))) >>= f) ≡ places_told n (cond ((a || b) || c) p None) None
kind_split n true b c f p same = same calls.Read
kind_split n false true c f p same = same calls.Write
kind_split n false false true f p same = same calls.Sync
kind_split n false false false f p same = refl

and_cond : (n : ℕ) (a b : Bool) (p : Option Positions) → places_told n (cond a (cond b p None) None) None ≡ places_told n (cond (a && b) p None) None
and_cond n true b p = refl
and_cond n false b p = refl

fault_told : (n servers : ℕ) (words : List Word) → told (fault_of servers words) ≡ places_told n (fault_positions servers words) None
unfolding fault_of one_word two_words three_words four_words
fault_told n servers [] = refl
fault_told n servers (s ∷ []) = refl
fault_told n servers (s ∷ device ∷ []) = refl
fault_told n servers (s ∷ device ∷ kind ∷ []) = refl
fault_told n servers (s ∷ device ∷ kind ∷ k ∷ []) =
    device_split n (is_word device (codes "data"))
    (is_word device (codes "state")) _ (cond (is_kind kind) (numbers_only (server_place servers s ∷ place 1 1000000 k ∷ [])) None)
    (λ which. kind_split n (is_word kind (codes "read")) (is_word kind (codes "write"))
    (is_word kind (codes "sync")) _ (numbers_only (server_place servers s ∷ place 1 1000000 k ∷ []))
    (λ call. server_and_call n servers s k _))
    ∙ and_cond n (is_device device) (is_kind kind) (numbers_only (server_place servers s ∷ place 1 1000000 k ∷ []))
fault_told n servers (s ∷ device ∷ kind ∷ k ∷ other ∷ more) = refl

-- a verb alone
bare_told : {A : Type 0} (n : ℕ) (x : A) (words : List Word) → told (no_word words >>= (λ none. Ok x)) ≡ places_told n (bare_positions words) None
bare_told n x [] = refl
bare_told n x (other ∷ more) = refl

operator_told : (n servers : ℕ) (words : List Word) → told (operator_request servers words) ≡ places_told n (operator_positions servers words) None
unfolding operator_request
operator_told n servers [] = refl
operator_told n servers (verb ∷ words) =
    split n (is_word verb (codes "stop")) _ _ _ _ (stop_told n servers words)
    (split n (is_word verb (codes "start")) _ _ _ _ (boot_told n servers _ words)
    (split n (is_word verb (codes "blank")) _ _ _ _ (boot_told n servers _ words)
    (split n (is_word verb (codes "fault")) _ _ _ _ (fault_told n servers words)
    (split n (is_word verb (codes "settle")) _ _ _ _ (bare_told n _ words) refl))))

-- ### Other lines

servers_told : (n : ℕ) (words : List Word) → told (servers_line words) ≡ places_told n (servers_positions words) None
unfolding servers_line one_word two_words three_words
servers_told n [] = refl
servers_told n (a ∷ []) = refl
servers_told n (a ∷ slots ∷ []) = refl
servers_told n (a ∷ slots ∷ k ∷ []) = split_not n (is_word slots (codes "slots"))
    _ _ (numbered 2 8 a _ (not (is_good (place 1 1024 k)) || false) None (λ servers. numbered 1 1024 k _ false None (λ b. refl)))
servers_told n (a ∷ slots ∷ k ∷ other ∷ more) = refl

net_split : (n : ℕ) (l a b : Bool) (lose twice : Result Script Cause) (p : Option Positions)
    → told lose ≡ places_told n p None → told twice ≡ places_told n p None
    → told (cond (not l) (Err BadLine) (cond a lose (cond b twice (Err BadLine)))) ≡ places_told n (cond (l && (a || b)) p None) None
net_split n false a b lose twice p x y = refl
net_split n true true b lose twice p x y = x
net_split n true false true lose twice p x y = y
net_split n true false false lose twice p x y = refl

net_told : (n : ℕ) (s : Script) (words : List Word) → told (net_line s words) ≡ places_told n (net_positions s words) None
unfolding net_line one_word two_words
net_told n s [] = refl
net_told n s (what ∷ []) = refl
net_told n s (what ∷ k ∷ []) =
    net_split n (length s.lines == 0) (is_word what (codes "lose") && not (is_some s.lose)) (is_word what (codes "twice") && not (is_some s.twice)) _ _ _
    (numbered 2 1000000 k _ false None (λ a. refl)) (numbered 2 1000000 k _ false None (λ a. refl))
net_told n s (what ∷ k ∷ other ∷ more) = refl

-- ### Requests in their script

abbrev limits_told : ℕ → Option (List Line) → Option Cause
limits_told servers lines = cond (are_too_many lines) (Some TooMany) (cond (leave_no_majority servers lines) (Some NoMajority) None)

two_limits : {A : Type 0} (a b : Bool) (x : A)
    → told (cond a (Err TooMany) (cond b (Err NoMajority) (Ok x))) ≡ cond a (Some TooMany) (cond b (Some NoMajority) None)
two_limits true b x = refl
two_limits false true x = refl
two_limits false false x = refl

adds_told : (s : Script) (number client : ℕ) (request : Request)
    → told (adds s number client request) ≡ limits_told s.servers (with_request s number client (Ok request))
unfolding adds
adds_told s number client request =
    let lines : List Line = s.lines ++ record { number = number; phase = s.phases - 1; client = client; request = request } ∷ [] in
    two_limits (too_many (s.lines ++ record { number = number; phase = s.phases - 1; client = client; request = request } ∷ []))
    (no_majority s.servers (s.lines ++ record { number = number; phase = s.phases - 1; client = client; request = request } ∷ [])) _

none_before : (a b c d : Bool) (later : Option Cause)
    → None ≡ cond a (Some BadLine) (cond b (Some BadName) (cond c (Some BadNumber) (cond d (Some BadTuple) None)))
    → later ≡ cond a (Some BadLine) (cond b (Some BadName) (cond c (Some BadNumber) (cond d (Some BadTuple) later)))
none_before true b c d later is = absurd (cc)
none_before false true c d later is = absurd (cc)
none_before false false true d later is = absurd (cc)
none_before false false false true later is = absurd (cc)
none_before false false false false later is = refl

asks_told : (n : ℕ) (s : Script) (number client : ℕ) (r : Result Request Cause) (p : Option Positions) → told r ≡ places_told n p None
    → told (r >>= adds s number client) ≡ places_told n p (limits_told s.servers (with_request s number client r))
asks_told n s number client (Ok request) p same = adds_told s number client request
    ∙ none_before (is_none p) (bad_name p) (bad_number p) (bad_tuple n p) (limits_told s.servers (with_request s number client (Ok request))) same
asks_told n s number client (Err cause) p same = same

later_split : (n m : ℕ) (servers net wait op client : Bool) (nets waits ops : Result Script Cause)
    (number : ℕ) (clients : ℕ → Result Script Cause) (pn pw po pc : Option Positions) (lo lc : Option (List Line)) → told nets ≡ places_told n pn None
    → told waits ≡ places_told n pw None → told ops ≡ places_told n po (limits_told m lo) → told (clients number) ≡ places_told n pc (limits_told m lc)
    → told (cond servers (Err BadLine) (cond net nets (cond wait waits (cond op ops (cond client (Ok number) (Err BadLine) >>= clients)))))
    ≡ places_told n (cond servers None (cond net pn (cond wait pw (cond op po (cond client pc None)))))
    (limits_told m (cond (servers || (net || wait)) None (cond op lo (cond client lc None))))
later_split n m true net wait op client nets waits ops number clients pn pw po pc lo lc a b c d = refl
later_split n m false true wait op client nets waits ops number clients pn pw po pc lo lc a b c d = a
later_split n m false false true op client nets waits ops number clients pn pw po pc lo lc a b c d = b
later_split n m false false false true client nets waits ops number clients pn pw po pc lo lc a b c d = c
later_split n m false false false false true nets waits ops number clients pn pw po pc lo lc a b c d = d
later_split n m false false false false false nets waits ops number clients pn pw po pc lo lc a b c d = refl

later_told : (s : Script) (number : ℕ) (words : List Word)
    → told (later_line s number words) ≡ places_told s.servers (line_positions (Some s) words) (limits_told s.servers (lines_with (Some s) number words))
unfolding later_line
later_told s number [] = refl
later_told s number (first ∷ words) =
    later_split s.servers s.servers (is_word first (codes "servers")) (is_word first (codes "net")) (is_word first (codes "wait"))
    (is_word first (codes "op")) (is_client first) _ _ _ _ _ _ _ _ _ _ _
    (net_told s.servers s words)
    (bare_told s.servers _ words)
    (asks_told s.servers s number 8 (operator_request s.servers words) (operator_positions s.servers words) (operator_told s.servers s.servers words))
    (asks_told s.servers s number (slice_index first 0 - 97) (client_request s.servers words) (client_positions words) (client_told s.servers words))

first_split : (b : Bool) (r : Result Script Cause) (p : Option Positions) → told r ≡ places_told 0 p None
    → told (cond b r (Err NoServersLine)) ≡ cond (not b) (Some NoServersLine) (places_told 0 p None)
first_split true r p same = same
first_split false r p same = refl

first_told : (number : ℕ) (words : List Word) → told (first_line words) ≡ cond (lacks_servers None words) (Some NoServersLine)
    (places_told 0 (line_positions None words) (limits_told 0 (lines_with None number words)))
unfolding first_line
first_told number [] = refl
first_told number (first ∷ words) = first_split (is_word first (codes "servers")) (servers_line words) (servers_positions words) (servers_told 0 words)

counted_told : (before : Option Script) (number : ℕ) (words : List Word) → told (counted before number words) ≡ cond (lacks_servers before words)
    (Some NoServersLine) (places_told (servers_in before) (line_positions before words) (limits_told (servers_in before) (lines_with before number words)))
counted_told None number words = first_told number words
counted_told (Some s) number words = later_told s number words

line_split : (ascii long skip a b c d e f g : Bool) (before : Option Script) (r : Result Script Cause) → told r ≡ cond a (Some NoServersLine)
    (cond b (Some BadLine) (cond c (Some BadName) (cond d (Some BadNumber) (cond e (Some BadTuple) (cond f (Some TooMany) (cond g (Some NoMajority) None))))))
    → told (cond (not ascii) (Err NotAscii) (cond long (Err TooLong) (cond skip (Ok before) (r >>= (λ s. Ok (Some s))))))
    ≡ cond (not ascii) (Some NotAscii) (cond long (Some TooLong)
    (cond (not skip && a) (Some NoServersLine) (cond (not skip && b) (Some BadLine) (cond (not skip && c) (Some BadName) (cond (not skip && d)
    (Some BadNumber) (cond (not skip && e) (Some BadTuple) (cond (not skip && f) (Some TooMany) (cond (not skip && g) (Some NoMajority) None))))))))
line_split false long skip a b c d e f g before r same = refl
line_split true true skip a b c d e f g before r same = refl
line_split true false true a b c d e f g before r same = refl
line_split true false false a b c d e f g before r same = told_last r Some ∙ same

pub first_fault : (before : Option Script) (line : TextLine) → told (line_verdict before line) ≡ find (λ cause. has_fault cause before line) in_order
unfolding line_verdict
first_fault before line =
    line_split (list_all is_ascii line.text) (nat_lt longest_line (length line.text) || nat_lt longest_script line.reach) (is_skipped line.text)
    _ _ _ _ _ _ _ before (counted before line.number (words_of line.text))
    (counted_told before line.number (words_of line.text))
