-- A value by the equation that shows it: of what a model sees, the record of the fields.
use Rattle.std.proofs.Common.{◌≡◌}

abbrev pub left_of : {A : Type 0} {x y : A} → x ≡ y → A
left_of {x = x} is = x
