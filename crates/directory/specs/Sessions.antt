-- Which roles a user may activate, and which sessions end when a right is lost.
use Rattle.std.specs.Prelude.{ℕ, Bool, false, cond, not}
use Rattle.vocabulary.specs.Tables.{so_far}
use Rattle.hierarchy.specs.Reach.{reach_of, all_in}
use Rattle.directory.specs.State.{SessionState, closed, opened, DirectoryState, is_open, is_of, with_sessions}
use Rattle.directory.specs.declared.session.Which.{Which}
use Rattle.directory.specs.declared.session.Which.TheVariants.{AllOpen, OfUser, Stale}

-- each wanted role is one that a role of the user is above or equal to
abbrev pub authorised : DirectoryState → ℕ → (ℕ → Bool) → Bool
authorised d u wanted = all_in wanted (reach_of d.inherits (d.assigned u))

-- a session is stale where one of its active roles is one that its user is not authorised for
abbrev pub is_stale : DirectoryState → SessionState → Bool
is_stale d closed = false
is_stale d (opened u active) = not (authorised d u active)

-- whether a session is one of those that are meant
abbrev pub is_meant : DirectoryState → Which → SessionState → Bool
is_meant d AllOpen x = is_open x
is_meant d (OfUser u) x = is_of u x
is_meant d Stale x = is_stale d x

-- the sessions, which are numbered below 64, that are meant
unfoldable pub sessions_that : DirectoryState → Which → ℕ → Bool
sessions_that d which = so_far (λ s. is_meant d which (d.session s)) 64

-- these sessions end
unfoldable pub ended : (ℕ → Bool) → DirectoryState → DirectoryState
ended which d = with_sessions (λ s. cond (which s) closed (d.session s)) d

-- every stale session ends
abbrev pub reviewed : DirectoryState → DirectoryState
reviewed d = ended (sessions_that d Stale) d
