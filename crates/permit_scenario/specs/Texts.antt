-- The text of each line, and of an account.
use Rattle.std.specs.Prelude.{◌++◌, ◌∷◌, ℕ, List, Ok, Err, decimal, codes}
use Rattle.ledger.specs.Answers.{fault_number}
use Rattle.ledger.specs.declared.place.Closing.{Closing}
use Rattle.ledger.specs.declared.place.Closing.TheVariants.{Entry, HandingBack, Lapse}
use Rattle.permit_scenario.specs.declared.line.Account.{Account}
use Rattle.permit_scenario.specs.declared.line.Line.{Line}
use Rattle.permit_scenario.specs.declared.line.Line.TheVariants.{Drawn, Spent, Ended}

abbrev pub verb_text : Closing → List ℕ
verb_text Entry = codes "enter"
verb_text HandingBack = codes "hand back"
verb_text Lapse = codes "lapse"

abbrev pub line_text : Line → List ℕ
line_text (Drawn s o (Ok n)) = codes "session " ++ (decimal s ++ (codes ": draw for owner " ++ (decimal o ++ (codes ": permit " ++ decimal n))))
line_text (Drawn s o (Err f)) = codes "session " ++ (decimal s ++ (codes ": draw for owner " ++ (decimal o ++ (codes ": refused with " ++ decimal (fault_number f)))))
line_text (Spent p c (Ok u)) = verb_text c ++ (codes " permit " ++ (decimal p.serial ++ (codes " of owner " ++ (decimal p.owner ++ codes ": accepted"))))
line_text (Spent p c (Err f)) = verb_text c ++ (codes " permit " ++ (decimal p.serial ++ (codes " of owner " ++ (decimal p.owner ++ (codes ": refused with " ++ decimal (fault_number f))))))
line_text (Ended s) = codes "session " ++ (decimal s ++ codes " ends")

-- the counts, and below them their sum
abbrev pub counts_text : Account → List ℕ
counts_text a =
    codes "owner " ++ (decimal a.owner ++ (codes ": issued " ++ (decimal a.counts.issued ++ (codes ", entered " ++ (decimal a.counts.entered ++ (codes ", handed back " ++ (decimal a.counts.handed_back ++ (codes ", lapsed " ++ (decimal a.counts.lapsed ++ (codes ", open " ++ decimal a.counts.«open»))))))))))

abbrev pub sum_text : Account → List ℕ
sum_text a =
    codes "  " ++ (decimal a.counts.issued ++ (codes " = " ++ (decimal a.counts.entered ++ (codes " + " ++ (decimal a.counts.handed_back ++ (codes " + " ++ (decimal a.counts.lapsed ++ (codes " + " ++ decimal a.counts.«open»))))))))

abbrev pub account_text : Account → List ℕ
account_text a = counts_text a ++ (10 ∷ sum_text a)
