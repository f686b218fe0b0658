-- The number of each fault of a book, and the word of each answer.
use Rattle.std.specs.Prelude.{ℕ, ◌+◌, ◌*◌, Ok, Err, Result}
use Rattle.book.specs.declared.types.Fault.{Fault}
use Rattle.book.specs.declared.types.Fault.TheVariants.{TooLarge, BadLength, UnknownKind, WrongFieldCount}
use Rattle.book.specs.declared.types.Layer.{Layer}
use Rattle.book.specs.declared.types.Layer.TheVariants.{Register, Kernel}
use Rattle.book.specs.declared.types.Refusal.{Refusal}

abbrev pub fault_number : Fault → ℕ
fault_number TooLarge = 20
fault_number BadLength = 21
fault_number UnknownKind = 22
fault_number WrongFieldCount = 23

abbrev pub layer_number : Layer → ℕ
layer_number Register = 1
layer_number Kernel = 2

-- a command was accepted, or refused
abbrev pub Outcome : Type 0
Outcome = Result (Unit {0}) Refusal

-- the word that is written into a record's answer field
abbrev pub answer_word : Outcome → ℕ
answer_word (Ok u) = 0
answer_word (Err r) = r.number + 256 * layer_number r.layer
