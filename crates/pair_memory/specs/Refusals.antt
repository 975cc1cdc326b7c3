-- A store's refusals, as those of a job.
use Rattle.kept_chains.specs.StoreError.{StoreError}
use Rattle.kept_chains.specs.StoreError.TheVariants as store
use Rattle.pair_memory.specs.declared.error.WorkError.{WorkError}
use Rattle.pair_memory.specs.declared.error.WorkError.TheVariants.{Failed, NoRoom, NoMemory}

-- what a refusal means for the job; where no slot is asked for and nothing is opened, only the first three come
abbrev pub work_error : StoreError → WorkError
work_error store.Failed = Failed
work_error store.MarksFull = NoRoom
work_error store.NoMemory = NoMemory
work_error store.NoSpace = Failed
work_error (store.BadRecord index) = Failed
