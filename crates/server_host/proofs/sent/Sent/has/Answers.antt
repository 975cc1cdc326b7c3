-- A letter was sent where it stands at its name.
use Rattle.std.proofs.Common.{◌≡◌, Some, None, Bool, false, IsTrue}
use Rattle.petal_table.specs.Table.{Table, at}
use Rattle.petal_msg.specs.declared.letter.Letter.{Letter}
use Rattle.server_host.specs.Sent.{name_of, name_cmp}
use Rattle.server_host.specs.declared.name.LetterName.{LetterName}
use Rattle.server_host.proofs.sent.Sent.has.Goals as goal

abbrev Stands : Table LetterName Letter → Letter → Bool → Type 0
Stands rows letter result = (IsTrue result → at name_cmp rows (name_of letter) ≡ Some letter)
    × (at name_cmp rows (name_of letter) ≡ Some letter → IsTrue result)

nowhere : (inside rows : Table LetterName Letter) (name : LetterName) (letter : Letter) → inside ≡ rows → name ≡ name_of letter
    → None ≡ at name_cmp inside name → Stands rows letter false
nowhere inside rows name letter v n e = (λ f. cc, λ h. let k : at name_cmp rows (name_of letter) ≡ None = cc in cc)

there : (inside rows : Table LetterName Letter) (name : LetterName) (letter one found : Letter) (b : Bool) → inside ≡ rows → name ≡ name_of letter
    → Some one ≡ at name_cmp inside name → found ≡ one → (IsTrue b → found ≡ letter) → (found ≡ letter → IsTrue b) → Stands rows letter b
there inside rows name letter one found b v n e f same equal =
    let k : at name_cmp rows (name_of letter) ≡ Some found = cc in
    (λ t. let s = same t in cc, λ h. equal cc)

pub returns-in-None : goal.returns-in-None
returns-in-None c = nowhere _ _ _ _ c.self.view_is c.name_of.ensures c.in-None.ensures

pub returns-in-Some : goal.returns-in-Some
returns-in-Some c = there _ _ _ _ _ _ _ c.self.view_is c.name_of.ensures c.in-Some.ensures c.get-in-Some.ensures c.is_same.ensures.0 c.is_same.ensures.1
