-- A text of one to sixteen digits is UTF-8, and `from_str_radix` reads the number that the definition computes.
use Rattle.std.proofs.Common.{◌∙◌, sym}
use Rattle.desk_wire.proofs.DecimalDigits.{decimal_parses, reads_utf8, text_read}
use Rattle.desk_wire.proofs.decimals.decimal_of.Goals as goal

pub returns-in_err-ok : goal.returns-in_err-ok
returns-in_err-ok c =
    absurd (reads_utf8 _ c.args.text.now c.from_utf8.result (sym c.is_decimal.ensures ∙ c.if-not-is_decimal.false) c.from_utf8.ensures.cases (sym c.ok.ensures.value ∙ c.in_err-ok.was))

pub returns : goal.returns
returns c =
    let read = text_read _ c.args.text.now c.from_utf8.result c.in_ok-ok.field-0 c.from_utf8.ensures.cases (sym c.ok.ensures.value ∙ c.in_ok-ok.was) in
    c.ok-2.ensures.value ∙ decimal_parses c.args.text.now _ (sym c.is_decimal.ensures ∙ c.if-not-is_decimal.false) (rw read at c.from_str_radix.ensures.value)
