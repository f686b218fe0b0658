-- What a list of consents means as a register.
use Rattle.std.specs.Prelude.{◌≡◌, ℕ, ◌/◌, ◌≤◌, min, Bool, true, List, ◌==◌}
use Rattle.records.specs.Kinds.{same_consent}
use Rattle.records.specs.Lists.{holds}
use Rattle.records.specs.declared.kinds.Consent.{Consent}
use Rattle.register.specs.Meaning.{Consents, Register, in_range, owned}

abbrev pub consent : ℕ → ℕ → ℕ → Consent
consent o q t = record { owner = o; purpose = q; data_type = t }

abbrev pub of_owner : ℕ → Consent → Bool
of_owner o x = x.owner == o

unfoldable pub entries_of : List Consent → Consents
entries_of xs o q t = holds same_consent xs (consent o q t)

-- how many consents each of 128 owners may have in so many places
abbrev pub share : ℕ → ℕ
share places = min (places / 128) 256

abbrev pub list_meaning : ℕ → List Consent → Register
list_meaning places xs = record { limit = share places; entries = entries_of xs }

-- what is in the list is in range
abbrev pub Inside : List Consent → Type 0
Inside xs = (x : Consent) → entries_of xs x.owner x.purpose x.data_type ≡ true → in_range x.owner x.purpose x.data_type ≡ true

-- no owner has more than the limit
abbrev pub Under : ℕ → List Consent → Type 0
Under limit xs = (o : ℕ) → owned (entries_of xs) o ≤ limit
