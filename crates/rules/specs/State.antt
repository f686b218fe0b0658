-- What the kernel knows.
use Rattle.std.specs.Prelude.{ℕ, Bool, true, false, List, [], ◌==◌}
use Rattle.register.specs.Meaning.{Register}
use Rattle.records.specs.declared.kinds.PlainGrant.{PlainGrant}
use Rattle.records.specs.declared.kinds.PrivateGrant.{PrivateGrant}
use Rattle.directory.specs.State.{DirectoryState, bare}
use Rattle.ledger.specs.Table.{Table, bare_ledgers}

-- an object is absent, plain, or personal with its owner and its data types
pub data ObjectState : Type 0 where
  absent : ObjectState
  plain : ObjectState
  personal : ℕ → (ℕ → Bool) → ObjectState

abbrev pub exists : ObjectState → Bool
exists absent = false
exists plain = true
exists (personal o types) = true

abbrev pub is_plain : ObjectState → Bool
is_plain absent = false
is_plain plain = true
is_plain (personal o types) = false

abbrev pub is_personal : ObjectState → Bool
is_personal absent = false
is_personal plain = false
is_personal (personal o types) = true

-- whether it is personal and o's
abbrev pub belongs_to : ℕ → ObjectState → Bool
belongs_to o absent = false
belongs_to o plain = false
belongs_to o (personal k types) = k == o

-- the owner and the data types of a personal object
abbrev pub owner_of : ObjectState → ℕ
owner_of absent = 0
owner_of plain = 0
owner_of (personal o types) = o

abbrev pub types_of : ObjectState → ℕ → Bool
types_of absent t = false
types_of plain t = false
types_of (personal o types) t = types t

-- everything but the consents and the ledgers
pub record Tables : Type 0 where
  pub directory : DirectoryState
  pub owner : ℕ → Bool
  -- pairs of a purpose and a data type
  pub offered : ℕ → ℕ → Bool
  pub object : ℕ → ObjectState
  pub plain_grants : List PlainGrant
  pub private_grants : List PrivateGrant

pub record State : Type 0 where
  pub tables : Tables
  pub register : Register
  pub ledgers : Table

-- the register's limit, and the places of the two grant sets
pub record Bounds : Type 0 where
  pub limit : ℕ
  pub plain_places : ℕ
  pub private_places : ℕ

abbrev pub bare_tables : Tables
bare_tables = record { directory = bare; owner = λ _. false; offered = λ _ _. false; object = λ _. absent; plain_grants = []; private_grants = [] }

-- nothing in any table, every count at 0
abbrev pub bare_state : Bounds → State
bare_state b = record { tables = bare_tables; register = record { limit = b.limit; entries = λ _ _ _. false }; ledgers = bare_ledgers }
