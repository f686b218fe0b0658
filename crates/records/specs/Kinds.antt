-- When two records are the same, and which things a record names.
use Rattle.std.specs.Prelude.{ℕ, Bool, false, ◌&&◌, ◌==◌}
use Rattle.records.specs.declared.kinds.Consent.{Consent}
use Rattle.records.specs.declared.kinds.PlainGrant.{PlainGrant}
use Rattle.records.specs.declared.kinds.PrivateGrant.{PrivateGrant}
use Rattle.records.specs.declared.record.Thing.{Thing}
use Rattle.records.specs.declared.record.Thing.TheVariants.{Role, Object, Owner, Pair}

-- all fields are equal
abbrev pub same_plain : PlainGrant → PlainGrant → Bool
same_plain x y = x.operation == y.operation && (x.object == y.object && x.role == y.role)

abbrev pub same_private : PrivateGrant → PrivateGrant → Bool
same_private x y = x.operation == y.operation && (x.object == y.object && (x.purpose == y.purpose && x.role == y.role))

abbrev pub same_consent : Consent → Consent → Bool
same_consent x y = x.owner == y.owner && (x.purpose == y.purpose && x.data_type == y.data_type)

-- a grant names its object and its role
abbrev pub names_grant : ℕ → ℕ → Thing → Bool
names_grant object role (Role r) = r == role
names_grant object role (Object b) = b == object
names_grant object role (Owner o) = false
names_grant object role (Pair p) = false

abbrev pub names_plain : PlainGrant → Thing → Bool
names_plain x thing = names_grant x.object x.role thing

abbrev pub names_private : PrivateGrant → Thing → Bool
names_private x thing = names_grant x.object x.role thing

-- a consent names its owner and its pair of purpose and data type
abbrev pub names_consent : Consent → Thing → Bool
names_consent x (Role r) = false
names_consent x (Object b) = false
names_consent x (Owner o) = x.owner == o
names_consent x (Pair p) = x.purpose == p.purpose && x.data_type == p.data_type
