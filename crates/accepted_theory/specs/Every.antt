-- What holds of every element of a list: the premise under which two functions need to agree only on what the tables know.
-- Rests on nothing but lists.
use Rattle.std.specs.Prelude.{List, [], ◌∷◌}

abbrev pub Every : {A : Type 0} → (A → Type 0) → List A → Type 0
Every P [] = Unit {0}
Every P (x ∷ xs) = P x × Every P xs
