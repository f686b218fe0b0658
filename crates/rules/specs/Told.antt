-- What an answer tells: its number, its layer, and the values that it carries.
use Rattle.std.specs.Prelude.{ℕ, Ok, Err, Result}
use Rattle.register.specs.Answers.{fault_number as register_number}
use Rattle.rules.specs.declared.answer.Given.{Given}
use Rattle.rules.specs.declared.answer.Given.TheVariants.{Nothing, Permit, Counts as CountsGiven}
use Rattle.rules.specs.declared.fault.KernelFault.{KernelFault}
use Rattle.rules.specs.declared.fault.KernelFault.TheVariants.{OutOfRange, NoUser, NoRole, NoObject, NoOwner, NoSession, NotOffered, WrongSort, AlreadyThere, NotThere, Circle, NotAuthorised, NoPlace, NotGranted, NoConsent, PlacesTaken, SerialsUsedUp, NotOpen, NotCovered, Register}

abbrev pub fault_number : KernelFault → ℕ
fault_number OutOfRange = 1
fault_number NoUser = 2
fault_number NoRole = 3
fault_number NoObject = 4
fault_number NoOwner = 5
fault_number NoSession = 6
fault_number NotOffered = 7
fault_number WrongSort = 8
fault_number AlreadyThere = 9
fault_number NotThere = 10
fault_number Circle = 11
fault_number NotAuthorised = 12
fault_number NoPlace = 13
fault_number NotGranted = 14
fault_number NoConsent = 15
fault_number PlacesTaken = 16
fault_number SerialsUsedUp = 17
fault_number NotOpen = 18
fault_number NotCovered = 19
fault_number (Register f) = register_number f

-- the layer that refused: 1 for the register, 2 for the kernel
abbrev pub fault_layer : KernelFault → ℕ
fault_layer OutOfRange = 2
fault_layer NoUser = 2
fault_layer NoRole = 2
fault_layer NoObject = 2
fault_layer NoOwner = 2
fault_layer NoSession = 2
fault_layer NotOffered = 2
fault_layer WrongSort = 2
fault_layer AlreadyThere = 2
fault_layer NotThere = 2
fault_layer Circle = 2
fault_layer NotAuthorised = 2
fault_layer NoPlace = 2
fault_layer NotGranted = 2
fault_layer NoConsent = 2
fault_layer PlacesTaken = 2
fault_layer SerialsUsedUp = 2
fault_layer NotOpen = 2
fault_layer NotCovered = 2
fault_layer (Register f) = 1

-- the permit of a draw, and the counts of a ledger question; zeros where the answer carries none
pub record Values : Type 0 where
  pub owner : ℕ
  pub serial : ℕ
  pub issued : ℕ
  pub entered : ℕ
  pub handed_back : ℕ
  pub lapsed : ℕ
  pub still_open : ℕ

abbrev pub no_values : Values
no_values = record { owner = 0; serial = 0; issued = 0; entered = 0; handed_back = 0; lapsed = 0; still_open = 0 }

abbrev pub permit_values : ℕ → ℕ → Values
permit_values o n = record { owner = o; serial = n; issued = 0; entered = 0; handed_back = 0; lapsed = 0; still_open = 0 }

abbrev pub count_values : ℕ → ℕ → ℕ → ℕ → ℕ → Values
count_values i e h l p = record { owner = 0; serial = 0; issued = i; entered = e; handed_back = h; lapsed = l; still_open = p }

-- number 0 and layer 0 where the call was accepted
pub record Told : Type 0 where
  pub number : ℕ
  pub layer : ℕ
  pub values : Values

abbrev pub accepted : Values → Told
accepted v = record { number = 0; layer = 0; values = v }

abbrev pub refused : ℕ → ℕ → Told
refused n l = record { number = n; layer = l; values = no_values }

-- what an accepted call gives back
abbrev pub given : Given → Values
given Nothing = no_values
given (Permit o n) = permit_values o n
given (CountsGiven c) = count_values c.issued c.entered c.handed_back c.lapsed c.«open»

abbrev pub told : Result Given KernelFault → Told
told (Ok g) = accepted (given g)
told (Err f) = refused (fault_number f) (fault_layer f)
