-- What is true of every register of either make.
use Rattle.std.specs.Prelude.{◌/◌, ◌%◌}
use Rattle.std.proofs.Common.{arith}
use Rattle.std.proofs.lemmas.Bool.{and_parts}
use Rattle.vocabulary.proofs.Counts.{count_le}
use Rattle.records.specs.Sets.{records, room}
use Rattle.register.specs.Meaning.{Sound, in_range, owned}
use Rattle.register.specs.BitRows.{entries_in}
use Rattle.register.specs.BitMeaning.{bit_meaning}
use Rattle.register.specs.ListMeaning.{consent, list_meaning}
use Rattle.register.specs.declared.bit_register.BitRegister.{BitRegister}
use Rattle.register.specs.declared.list_register.ListRegister.{ListRegister}

pub bit_sound : (s : BitRegister) → Sound (bit_meaning s)
unfolding owned
bit_sound s =
    record {
      inside = λ o q t e. (and_parts (in_range o q t) _ e).0;
      least = omega arith;
      most = omega arith;
      under = λ o. count_le (λ n. entries_in s.types o (n / 16) (n % 16)) 256;
    }

pub list_sound : (s : ListRegister) → Sound (list_meaning (room s.set) (records s.set))
list_sound s = record { inside = λ o q t e. s.inside (consent o q t) e; least = omega (arith, s.enough); most = omega arith; under = s.under }
