-- The lines that are printed, byte for byte: single spaces, decimal numbers, byte 10 at the end.
use Rattle.std.specs.Prelude.{ℕ, List, [], ◌∷◌, ◌++◌, take, codes, decimal, Ok, Err}
use Rattle.calls.specs.Layout.{layout}
use Rattle.calls.specs.Name.{command_name}
use Rattle.calls.specs.declared.command.Command.{Command}
use Rattle.calls.specs.declared.command.Family.{Family}
use Rattle.calls.specs.declared.command.Family.TheVariants as family
use Rattle.book.specs.Numbers.{Outcome, fault_number}
use Rattle.book.specs.declared.types.Fault.{Fault}
use Rattle.book.specs.declared.types.Layer.{Layer}
use Rattle.book.specs.declared.types.Layer.TheVariants.{Register, Kernel}
use Rattle.lines.specs.declared.line.Line.{Line}

-- what a line says
abbrev pub text : Line → List ℕ
text l = take l.len l.bytes

abbrev pub layer_name : Layer → List ℕ
layer_name Register = codes "register"
layer_name Kernel = codes "kernel"

-- the place and the kind, with which the line of a record begins
abbrev pub record_head : ℕ → ℕ → List ℕ
record_head place kind = decimal place ++ codes " " ++ decimal kind ++ codes " "

abbrev pub ok_line : ℕ → ℕ → List ℕ
ok_line place kind = record_head place kind ++ codes "ok" ++ codes "\n"

abbrev pub no_line : ℕ → ℕ → Layer → ℕ → List ℕ
no_line place kind layer number = record_head place kind ++ codes "no" ++ codes " " ++ layer_name layer ++ codes " " ++ decimal number ++ codes "\n"

abbrev pub answer_line : ℕ → ℕ → Outcome → List ℕ
answer_line place kind (Ok u) = ok_line place kind
answer_line place kind (Err r) = no_line place kind r.layer r.number

abbrev pub end_line : ℕ → List ℕ
end_line size = codes "end" ++ codes " " ++ decimal size ++ codes "\n"

abbrev pub bad_line : ℕ → Fault → List ℕ
bad_line place fault = codes "bad" ++ codes " " ++ decimal place ++ codes " " ++ decimal (fault_number fault) ++ codes "\n"

-- these bytes, and behind them each field behind a space
abbrev pub with_fields : List ℕ → List ℕ → List ℕ
with_fields line [] = line
with_fields line (w ∷ ws) = with_fields (line ++ codes " " ++ decimal w) ws

-- a command at its place: its kind, its name and its fields
abbrev pub command_line : ℕ → Command → List ℕ
command_line place c = with_fields (record_head place (layout c).kind ++ command_name c) (layout c).fields ++ codes "\n"

abbrev pub family_name : Family → List ℕ
family_name family.Directory = codes "directory"
family_name family.Consent = codes "consent"
family_name family.Session = codes "session"
family_name family.Question = codes "question"

-- how many records of a family there are
abbrev pub count_line : Family → ℕ → List ℕ
count_line f n = family_name f ++ codes " " ++ decimal n ++ codes "\n"
