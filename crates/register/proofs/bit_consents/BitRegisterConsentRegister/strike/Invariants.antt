use Rattle.std.proofs.Common.{◌≡◌, length}
use Rattle.register.specs.BitRows.{Wide, entries_in}
use Rattle.register.proofs.Sweeps.{owners_out}
use Rattle.register.proofs.bit_consents.BitRegisterConsentRegister.strike.Given as goal

abbrev pub invariant-loop-of_owner : goal.invariant-loop-of_owner
invariant-loop-of_owner l =
    record {
      long : length l.of_owner-items ≡ 128;
      wide : Wide l.of_owner-items;
      struck : entries_in l.of_owner-items ≡ owners_out l.pair.purpose l.pair.data_type l.of_owner-index (entries_in l.fn.self.types);
    }
