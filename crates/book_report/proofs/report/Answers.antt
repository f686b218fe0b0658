use Rattle.std.proofs.Common.{◌++◌, ap, ◌∙◌, append_assoc}
use Rattle.book_report.specs.Report.{record_lines, count_lines, closing}
use Rattle.book_report.proofs.report.Goals as goal

pub returns : goal.returns
returns c =
    let survey = c.survey-survey.result in
    let surveyed = c.survey-survey.ensures in
    let listed = c.in_ok-out.ensures in
    let entries = (surveyed.only listed.entries listed.to listed.tiles listed.stops).0 in
    let lines = record_lines 0 surveyed.entries in
    record {
      survey = survey;
      surveyed = surveyed;
      text =
          c.in_ok-put_closing.ensures
          ∙ ap (λ l. l ++ closing c.args.book.now survey.ending)
          (c.in_ok-put_counts.ensures ∙ ap (λ l. l ++ count_lines survey.tally) (listed.lines ∙ ap (record_lines 0) entries))
          ∙ append_assoc lines (count_lines survey.tally) (closing c.args.book.now survey.ending);
    }
