-- A ledger that is sound and as the account has it stays so, whatever a call does to it.
use Rattle.std.proofs.Common.{ℕ, ◌+◌, ◌<◌, cond, eqb, sym, refl, ◌∙◌, subst, inl, inr, arith}
use Rattle.std.proofs.lemmas.List.{length-map}
use Rattle.std.proofs.lemmas.Bool.{cases_Bool, eqb-true}
use Rattle.bits.specs.Tables.{put}
use Rattle.ledger.specs.Places.{Permits}
use Rattle.ledger.specs.States.{LedgerState, empty_ledger, opens, drawn, closed, Sound}
use Rattle.ledger.specs.Table.{Table}
use Rattle.ledger.specs.declared.place.Closing.{Closing}
use Rattle.ledger.specs.declared.place.Closing.TheVariants.{Entry, HandingBack, Lapse}
use Rattle.ledger.specs.declared.place.Use.{Use}
use Rattle.ledger.proofs.Closings.{closed_opens, closed_inside, closed_distinct}
use Rattle.ledger.proofs.Draws.{placed_length, placed_opens, placed_inside, placed_distinct}
use Rattle.ledger_laws.specs.Fates.{Account, issue_step, close_step, Accounted}
use Rattle.ledger_laws.proofs.Steps.{close_accounted, drawn_accounted}

pub closed_sound : (c : Closing) (these : Permits) (s : LedgerState) → Sound s → Sound (closed c these s)
closed_sound Entry these s sound = record { eight = length-map s.places _ ∙ sound.eight; balance = omega (arith, sound.balance, closed_opens these s.places); within = closed_inside these s.issued s.places sound.within; apart = closed_distinct these s.places sound.apart }
closed_sound HandingBack these s sound = record { eight = length-map s.places _ ∙ sound.eight; balance = omega (arith, sound.balance, closed_opens these s.places); within = closed_inside these s.issued s.places sound.within; apart = closed_distinct these s.places sound.apart }
closed_sound Lapse these s sound = record { eight = length-map s.places _ ∙ sound.eight; balance = omega (arith, sound.balance, closed_opens these s.places); within = closed_inside these s.issued s.places sound.within; apart = closed_distinct these s.places sound.apart }

pub drawn_sound : (u : Use) (s : LedgerState) → opens s < 8 → Sound s → Sound (drawn u s)
drawn_sound u s room sound = record {
  eight = placed_length (s.issued + 1) u s.places ∙ sound.eight;
  balance = omega (arith, sound.balance, placed_opens (s.issued + 1) u s.places (omega (arith, sound.eight)));
  within = placed_inside s.issued u s.places sound.within;
  apart = placed_distinct s.issued u s.places sound.within sound.apart;
}

pub empty_sound : Sound empty_ledger
empty_sound = record { eight = refl; balance = refl; within = refl; apart = refl }

-- sound, and as the account has it
pub record Kept (a : Account) (s : LedgerState) : Type 0 where
  pub sound : Sound s
  pub accounted : Accounted a s

pub closed_kept : (c : Closing) (these : Permits) (a : Account) (s : LedgerState) → Kept a s → Kept (close_step c these a) (closed c these s)
closed_kept c these a s kept =
    let after = closed_sound c these s kept.sound in
    record { sound = after; accounted = close_accounted a s kept.sound kept.accounted c these after }

pub drawn_kept : (u : Use) (a : Account) (s : LedgerState) → opens s < 8 → Kept a s → Kept (issue_step u a) (drawn u s)
drawn_kept u a s room kept =
    let after = drawn_sound u s room kept.sound in
    record { sound = after; accounted = drawn_accounted a s kept.sound kept.accounted u room after }

-- one ledger of the table is put, and the account of that owner goes on likewise
pub put_kept : (k : ℕ) (step : Account → Account) (new : LedgerState) (accounts : ℕ → Account) (f : Table) → ((o : ℕ) → Kept (accounts o) (f o)) → Kept (step (accounts k)) new → (o : ℕ) → Kept (cond (eqb o k) (step (accounts o)) (accounts o)) (put k new f o)
put_kept k step new accounts f kept here o =
    elim (cases_Bool (eqb o k)) [
      | inl e ↦ simp e (subst (λ j. Kept (step (accounts j)) new) (sym (eqb-true o k e)) here)
      | inr e ↦ simp e (kept o)
    ]
