-- Entries gone through one after another: each is marked on the state that those before it left.
use Rattle.std.specs.Prelude.{List, [], ◌∷◌}

-- the entries, each marked
unfoldable pub answered : {S E : Type 0} → (S → E → E) → (S → E → S) → S → List E → List E
answered mark after s [] = []
answered mark after s (e ∷ es) = mark s e ∷ answered mark after (after s e) es

-- the state that they leave
unfoldable pub after_all : {S E : Type 0} → (S → E → S) → S → List E → S
after_all after s [] = s
after_all after s (e ∷ es) = after_all after (after s e) es
