-- What says nothing of other revisions and of servers that run: each letter of the log, and each that is handled at its sender's revision alone.
use Rattle.law_answers.proofs.Imports.{[], ◌++◌, ◌≡◌, Body, Bool, In, IsCalm, IsDated, JobResult, List, PairState, Post, false, in-append, inl, inr}
use Rattle.law_answers.proofs.Imports.{is_logged, refl, subject_of, true, true_false}
use Rattle.petal_msg.specs.declared.body.Body.TheVariants as body

abbrev pub is_mute : Body → Bool
is_mute (body.WrongRev seq) = false
is_mute (body.Seen line round running inc full) = false
is_mute _ = true

abbrev pub IsMute : Body → Type 0
IsMute said = is_mute said ≡ true

abbrev pub AreMute : List Post → Type 0
AreMute posts = (post : Post) → In post posts → IsMute post.body

abbrev pub M : JobResult → Type 0
M done = AreMute done.posts

pub none_mute : AreMute []
unfolding In
none_mute post h = absurd h

pub both_mute : (one other : List Post) → AreMute one → AreMute other → AreMute (one ++ other)
both_mute one other a b post h = elim (in-append post one other h) [
  | inl i ↦ a post i
  | inr i ↦ b post i
]

pub logged_mute : (said : Body) → is_logged (subject_of said) ≡ true → IsMute said
logged_mute (body.WrongRev seq) h = true_false h refl
logged_mute (body.Seen line round running inc full) h = true_false h refl
logged_mute _ h = refl

pub dated_mute : (said : Body) → IsDated said → IsMute said
dated_mute (body.WrongRev seq) h = true_false refl h
dated_mute (body.Seen line round running inc full) h = true_false refl h
dated_mute _ h = refl

pub calm_mute : (own : PairState) (done : JobResult) → IsCalm own done → M done
calm_mute own done calm post h = dated_mute post.body (calm.quiet.posts post h)
