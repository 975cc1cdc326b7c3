-- What a server queues for itself brings no letter, and while it is not In as itself its jobs of pairs and copies leave all as it was.
use Rattle.law_steps.proofs.Imports.{◌≡◌, Copied, In, Job, JobContext, JobResult, Letter, PairState, Paired, Subject, ap, by_bool, by_test, does, false, inl}
use Rattle.law_steps.proofs.Imports.{inr, is_in, is_logged, not, refl, silent, subst, sym, true, true_false}
use Rattle.law_steps.specs.DidStep.{IsSeatedOrMute, LeavesAll, is_between}
use Rattle.spec_rules.specs.declared.job.Job.TheVariants as job

pub same_letter : {one two : Letter} → job.Letter one ≡ job.Letter two → one ≡ two
same_letter e = cc

-- what is of the agreed log is of no pair
pub logged_apart : (s : Subject) → is_logged s ≡ true → is_between s ≡ false
logged_apart Paired e = true_false e refl
logged_apart Copied e = true_false e refl
logged_apart _ e = refl

pub leaves_silent : (own : PairState) → LeavesAll own (silent own)
unfolding In
leaves_silent own = record { same = refl; mute = λ post i. absurd i }

-- a job of the pairs does nothing where the server is not In as itself
asleep : (here : JobContext) (own : PairState) (what : Job) → is_in here.state here.me here.inc ≡ false → does here own what ≡ silent own
unfolding does
asleep here own (job.Letter letter) out = by_test (λ (d : JobResult). d ≡ silent own) (not (is_in here.state here.me here.inc)) _ _ (λ t. refl)
    (λ t. true_false (ap not out) t)
asleep here own (job.Stage cell) out = by_test (λ (d : JobResult). d ≡ silent own) (is_in here.state here.me here.inc) _ _ (λ t. true_false t out) (λ t. refl)
asleep here own (job.Repair link) out = by_test (λ (d : JobResult). d ≡ silent own) (is_in here.state here.me here.inc) _ _ (λ t. true_false t out) (λ t. refl)
asleep here own job.Sweep out = by_test (λ (d : JobResult). d ≡ silent own) (is_in here.state here.me here.inc) _ _ (λ t. true_false t out) (λ t. refl)
asleep here own _ out = refl

pub seated_does : (here : JobContext) (own : PairState) (what : Job) → IsSeatedOrMute here own (does here own what)
seated_does here own what = by_bool (is_in here.state here.me here.inc) (λ t. inl t)
    (λ out. inr (subst (LeavesAll own) (sym (asleep here own what out)) (leaves_silent own)))
