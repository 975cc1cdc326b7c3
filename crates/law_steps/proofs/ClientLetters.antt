-- What clients send is reads, writes, and words of the agreed log.
use Rattle.law_steps.proofs.Imports.{◌||◌, ◌≡◌, Asked, Body, Bool, Client, In, Line, List, Logged, Option, Post, Reaction, State, Subject, is_asked}
use Rattle.law_steps.proofs.Imports.{is_logged, refl, subject_of, true, true_false, ℕ}
use Rattle.law_steps.specs.DidClient.{Turned, Says, Of_the_log, A_write, A_read, Goes_on, Is_told, Begins}

-- a read, a write, or a word of the agreed log
abbrev pub is_ask : Body → Bool
is_ask said = is_asked (subject_of said) || is_logged (subject_of said)

logged_asks : (subject : Subject) → is_logged subject ≡ true → (is_asked subject || is_logged subject) ≡ true
logged_asks Logged e = refl
logged_asks _ e = true_false e refl

says_asks : (state : State) (c : ℕ) (open_now : Option Asked) (post : Post) → Says state c open_now post → is_ask post.body ≡ true
says_asks state c open_now _ (Of_the_log post e) = logged_asks (subject_of post.body) e
says_asks state c open_now _ (A_write asked name block pattern disk to is asks found rev) = refl
says_asks state c open_now _ (A_read asked name snap block disk epoch to is asks found e rev) = refl

pub turned_asks : (heard : ℕ → Body → Type 0) (servers : ℕ) (lines : List Line) (c : ℕ) (client : Client) (in_call : Bool) (reacted : Reaction)
    → Turned heard servers lines c client in_call reacted → (post : Post) → In post reacted.posts → is_ask post.body ≡ true
unfolding In
turned_asks heard servers lines c client _ _ (Goes_on reacted seq stays only) post h = says_asks _ c _ post (only.says post h)
turned_asks heard servers lines c client _ _ (Is_told reacted asked h' is read seq stays only) post h = says_asks _ c _ post (only.says post h)
turned_asks heard servers lines c client _ _ (Begins reacted line asked is free seq there called only) post h = says_asks _ c _ post (only.says post h)
turned_asks heard servers lines c client _ _ _ post h = absurd h
