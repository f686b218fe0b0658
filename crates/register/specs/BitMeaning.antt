-- What a bit register means.
use Rattle.register.specs.Meaning.{Register}
use Rattle.register.specs.BitRows.{entries_in}
use Rattle.register.specs.declared.bit_register.BitRegister.{BitRegister}

abbrev pub bit_meaning : BitRegister → Register
bit_meaning s = record { limit = 256; entries = entries_in s.types }
