-- The rules: what a call is answered, what it leaves, and whom it concerns.
use Rattle.std.specs.Prelude.{ℕ, zero, suc, ◌+◌, Bool, false, cond, ◌==◌}
use Rattle.vocabulary.specs.Questions.{first_no, if_accepted}
use Rattle.ledger.specs.Places.{permits_of}
use Rattle.ledger.specs.Table.{Table}
use Rattle.ledger.specs.declared.place.Closing.TheVariants.{Lapse}
use Rattle.ledger.specs.declared.place.Which.TheVariants.{Serial}
use Rattle.calls.specs.declared.command.Command.TheVariants.{Directory as DirectoryFamily, Consent as ConsentFamily, Session as SessionFamily, Question as QuestionFamily}
use Rattle.calls.specs.declared.command.Consent.{Consent}
use Rattle.calls.specs.declared.command.Consent.TheVariants.{Offer, Retract, Give, Withdraw}
use Rattle.calls.specs.declared.command.Question.{Question}
use Rattle.calls.specs.declared.command.Question.TheVariants.{Authorised, Consented}
use Rattle.calls.specs.declared.command.Session.{Session}
use Rattle.calls.specs.declared.command.Session.TheVariants.{Open, End, ActivateRole, DropRole, AccessPlain, Use as UseCommand, Look}
use Rattle.rules.specs.Told.{Values, no_values, permit_values, count_values, Told, accepted, refused}
use Rattle.rules.specs.State.{belongs_to, owner_of, Tables, State, Bounds}
use Rattle.rules.specs.Views.{View, view}
use Rattle.rules.specs.Numbers.{give_asked, withdraw_asked, number}
use Rattle.rules.specs.Effects.{tables_after, register_after, ledgers_after, closed_in}
use Rattle.rules.specs.declared.call.Call.{Call}
use Rattle.rules.specs.declared.call.Call.TheVariants.{Command as CommandCall, Draw, Enter, HandBack, Ledger}

-- which layer refuses: the register where the kernel's own questions were all answered yes
abbrev pub register_layer : ℕ → ℕ
register_layer zero = 1
register_layer (suc n) = 2

abbrev pub consent_layer : Tables → Consent → ℕ
consent_layer t (Offer q d) = 2
consent_layer t (Retract q d) = 2
consent_layer t (Give o q d) = register_layer (first_no (give_asked t o q d))
consent_layer t (Withdraw o q d) = register_layer (first_no (withdraw_asked t o q d))

abbrev pub layer : Tables → Call → ℕ
layer t (CommandCall (DirectoryFamily c)) = 2
layer t (CommandCall (ConsentFamily c)) = consent_layer t c
layer t (CommandCall (SessionFamily c)) = 2
layer t (CommandCall (QuestionFamily c)) = 2
layer t (Draw u) = 2
layer t (Enter o n) = 2
layer t (HandBack o n) = 2
layer t (Ledger o) = 2

-- what an accepted call carries: a draw its permit, a ledger question the counts
abbrev pub values : View → Call → Values
values v (CommandCall c) = no_values
values v (Draw u) = permit_values (owner_of (v.tables.object u.object)) ((v.ledger (owner_of (v.tables.object u.object))).issued + 1)
values v (Enter o n) = no_values
values v (HandBack o n) = no_values
values v (Ledger o) = count_values (v.ledger o).issued (v.ledger o).entered (v.ledger o).handed_back (v.ledger o).lapsed (v.ledger o).still_open

abbrev pub answer : Bounds → View → Call → Told
answer k v c = if_accepted (number k v c) (accepted (values v c)) (refused (number k v c) (layer v.tables c))

-- what a refused call leaves of the ledgers: all as it was, but that the permit of an entry refused with 19 lapses
abbrev pub ledgers_refused : Call → ℕ → Table → Table
ledgers_refused (CommandCall c) n f = f
ledgers_refused (Draw u) n f = f
ledgers_refused (Enter o serial) n f = cond (n == 19) (closed_in Lapse o (permits_of (Serial serial)) f) f
ledgers_refused (HandBack o serial) n f = f
ledgers_refused (Ledger o) n f = f

-- what a call leaves, by the number that it is answered
abbrev pub after : Call → ℕ → State → State
after c n s = record {
  tables = if_accepted n (tables_after s.tables c) s.tables;
  register = if_accepted n (register_after s.register c) s.register;
  ledgers = if_accepted n (ledgers_after s.tables c s.ledgers) (ledgers_refused c n s.ledgers);
}

abbrev pub next : Bounds → Call → State → State
next k c s = after c (number k (view s) c) s

-- a give or a withdrawal of the owner o
abbrev pub consent_speaks : Consent → ℕ → Bool
consent_speaks (Offer q d) o = false
consent_speaks (Retract q d) o = false
consent_speaks (Give k q d) o = k == o
consent_speaks (Withdraw k q d) o = k == o

abbrev pub speaks : Call → ℕ → Bool
speaks (CommandCall (DirectoryFamily c)) o = false
speaks (CommandCall (ConsentFamily c)) o = consent_speaks c o
speaks (CommandCall (SessionFamily c)) o = false
speaks (CommandCall (QuestionFamily c)) o = false
speaks (Draw u) o = false
speaks (Enter k n) o = false
speaks (HandBack k n) o = false
speaks (Ledger k) o = false

abbrev pub session_concerns : Tables → Session → ℕ → Bool
session_concerns t (Open s u) o = false
session_concerns t (End s) o = false
session_concerns t (ActivateRole s r) o = false
session_concerns t (DropRole s r) o = false
session_concerns t (AccessPlain s p b) o = false
session_concerns t (UseCommand s p b q) o = belongs_to o (t.object b)
session_concerns t (Look s p b q) o = belongs_to o (t.object b)

abbrev pub question_concerns : Question → ℕ → Bool
question_concerns (Authorised u r) o = false
question_concerns (Consented k q d) o = k == o

-- whether a call concerns the owner o, whatever it is answered
abbrev pub concerns : Call → Tables → ℕ → Bool
concerns (CommandCall (DirectoryFamily c)) t o = false
concerns (CommandCall (ConsentFamily c)) t o = consent_speaks c o
concerns (CommandCall (SessionFamily c)) t o = session_concerns t c o
concerns (CommandCall (QuestionFamily c)) t o = question_concerns c o
concerns (Draw u) t o = belongs_to o (t.object u.object)
concerns (Enter k n) t o = k == o
concerns (HandBack k n) t o = k == o
concerns (Ledger k) t o = k == o
