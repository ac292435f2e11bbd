-- If a year and a month are read, the text is a month with their bounds, so a text that is no month gives `None`.
use Rattle.std.proofs.Common.{◌≡◌, true, false, rules}
use Rattle.desk_engine.proofs.months.month_of.Goals as goal

pub returns-clause-none : goal.returns-clause-none
returns-clause-none c = (
  λ no. let k : true ≡ false = no in cc,
  λ none. absurd (none c.month_at.result.from c.month_at.result.to (record {
    year = c.in_ok-year.year;
    month = c.in_ok-year.month;
    in_years = c.in_ok-year.ensures.some.0;
    in_months = c.in_ok-year.ensures.some.1;
    text_is = search rules;
    begins = c.month_at.ensures.begins;
    ends = c.month_at.ensures.ends;
  })),
)
