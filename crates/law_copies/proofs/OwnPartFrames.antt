-- Small changes of a server's own part, and what each leaves of other cells.
use Rattle.law_copies.proofs.Imports.{◌∙◌, ◌≡◌, Cell, List, Mark, PairState, ap, at, cell_cmp, chain_in, has_mark, mark_on, refl}
use Rattle.law_copies.specs.LoneSteps.{KeepsCell}

-- the same pairs, copies, chains and marks
pub record IsAlikeOwn (one other : PairState) : Type 0 where
  pub pending : other.pairs.pending ≡ one.pairs.pending
  pub followed : other.pairs.last ≡ one.pairs.last
  pub copying : other.copies.pending ≡ one.copies.pending
  pub last : other.copies.last ≡ one.copies.last
  pub chains : other.store.chains ≡ one.store.chains
  pub marks : other.store.marks ≡ one.store.marks

pub keeps_alike : (q : Cell) (own to : PairState) → IsAlikeOwn own to → KeepsCell q own to
keeps_alike q own to same = record {
  rest = record {
    chain = ap (λ t. chain_in t q) same.chains;
    pending = ap (λ t. at cell_cmp t q) same.pending;
    copying = ap (λ t. at cell_cmp t q) same.copying;
    last = ap (λ t. at cell_cmp t q) same.last;
    followed = ap (λ t. at cell_cmp t q) same.followed;
  };
  marks = λ kind. ap (λ (ms : List Mark). has_mark (mark_on kind q) ms) same.marks;
}

pub keeps_itself : (q : Cell) (own : PairState) → KeepsCell q own own
keeps_itself q own = keeps_alike q own own
    (record { pending = refl; followed = refl; copying = refl; last = refl; chains = refl; marks = refl })

pub keeps_then : (q : Cell) (a b c : PairState) → KeepsCell q a b → KeepsCell q b c → KeepsCell q a c
keeps_then q a b c k l = record {
  rest = record {
    chain = l.rest.chain ∙ k.rest.chain;
    pending = l.rest.pending ∙ k.rest.pending;
    copying = l.rest.copying ∙ k.rest.copying;
    last = l.rest.last ∙ k.rest.last;
    followed = l.rest.followed ∙ k.rest.followed;
  };
  marks = λ kind. l.marks kind ∙ k.marks kind;
}
