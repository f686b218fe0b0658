-- When a use is covered. This is the one place that says so: a draw and an entry both look here.
use Rattle.std.specs.Prelude.{◌≡◌, ℕ, ◌<◌, Bool, true, ◌&&◌, ◌==◌}
use Rattle.vocabulary.specs.Tables.{some_below}
use Rattle.register.specs.Meaning.{Consents}
use Rattle.records.specs.Lists.{some}
use Rattle.directory.specs.State.{is_open, active_in}
use Rattle.ledger.specs.declared.place.Use.{Use}
use Rattle.rules.specs.State.{ObjectState, belongs_to, types_of, Tables}

-- an active role of the session itself holds the plain grant
abbrev pub holds_plain : Tables → ℕ → ℕ → ℕ → Bool
holds_plain t s p b = some (λ g. (g.operation == p) && (g.object == b && active_in (t.directory.session s) g.role)) t.plain_grants

-- an active role of the session itself holds the private grant for this purpose
abbrev pub holds_private : Tables → Use → Bool
holds_private t u =
    some (λ g. (g.operation == u.operation) && (g.object == u.object && (g.purpose == u.purpose && active_in (t.directory.session u.session) g.role)))
    t.private_grants

-- the word of o on the purpose q stands for at least one data type of the object
unfoldable pub agrees : Consents → ℕ → ℕ → ObjectState → Bool
agrees word o q x = some_below 16 (λ t. types_of x t && word o q t)

abbrev pub covers : Tables → Consents → ℕ → Use → Bool
covers t word o u =
    is_open (t.directory.session u.session)
    && (belongs_to o (t.object u.object)
    && (holds_private t u
    && agrees word o u.purpose (t.object u.object)))

-- the same in words
pub record Covered (t : Tables) (word : Consents) (o : ℕ) (u : Use) : Type 0 where
  -- the session is open, and the object exists and belongs to o
  pub session : is_open (t.directory.session u.session) ≡ true
  pub object : belongs_to o (t.object u.object) ≡ true
  -- an active role of the session holds the private grant
  pub granted : holds_private t u ≡ true
  -- the word of o on the purpose stands for some data type of the object
  pub data_type : ℕ
  pub small : data_type < 16
  pub of_object : types_of (t.object u.object) data_type ≡ true
  pub stands : word o u.purpose data_type ≡ true
