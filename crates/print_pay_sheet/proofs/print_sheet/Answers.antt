-- `print_sheet`: by whether the input begins with a rate.
use mathlib.Core.Path.{◌≡◌, sym, ◌∙◌}
use mathlib.Core.Bool.{true}
use native.Mathlib.Omega.{arith}
use lib.Seq.{length-take-le}
use Rattle.tape_model.specs.Listing.{numbers}
use Rattle.listing.proofs.Texts.{wrote_as, wrote-within}
use Rattle.print_pay_sheet.specs.Printed.{has_rate}
use Rattle.print_pay_sheet.proofs.Rates.{count-within, end-inside, rate_digits}
use Rattle.print_pay_sheet.proofs.Inputs.{no_rate, rate_printed, printed-length}
use Rattle.print_pay_sheet.proofs.print_sheet.Goals as goal

pub put_line-requires : goal.put_line-requires
unfolding numbers
put_line-requires c = omega arith

pub returns-then-not-has_rate : goal.returns-then-not-has_rate
unfolding numbers
returns-then-not-has_rate c =
    let w = wrote_as (sym (no_rate c.args.input.now (sym c.has_rate.ensures ∙ c.if-not-has_rate.true))) c.put_line.ensures in
    let within = wrote-within (omega (arith, printed-length c.args.input.now)) w in
    record { wrote = w; prefix_len = (within, sym (length-take-le _ _ within)) }

pub slice_bounds-rate_of-end : goal.slice_bounds-rate_of-end
slice_bounds-rate_of-end c = sym (length-take-le _ _ (omega (arith, c.digit_count-digits.ensures, count-within c.args.input.now)))

pub rate_of-rate-requires : goal.rate_of-rate-requires
rate_of-rate-requires c =
    let has : has_rate c.args.input.now ≡ true = sym c.has_rate.ensures ∙ c.if-not-has_rate.false in
    rw c.digit_count-digits.ensures (rate_digits c.args.input.now has)

pub overflow_add-digits : goal.overflow_add-digits
overflow_add-digits c = let inside = end-inside c.args.input.now (sym c.has_rate.ensures ∙ c.if-not-has_rate.false) in omega (arith, c.digit_count-digits.ensures)

pub slice_bounds-put_sheet_of-count : goal.slice_bounds-put_sheet_of-count
slice_bounds-put_sheet_of-count c = let inside = end-inside c.args.input.now (sym c.has_rate.ensures ∙ c.if-not-has_rate.false) in omega (arith, c.digit_count-digits.ensures)

pub slice_bounds-put_sheet_of-start : goal.slice_bounds-put_sheet_of-start
slice_bounds-put_sheet_of-start c = slice_bounds-put_sheet_of-count c

pub returns : goal.returns
returns c =
    let input = c.args.input.now in
    let has : has_rate input ≡ true = sym c.has_rate.ensures ∙ c.if-not-has_rate.false in
    let w = wrote_as (rate_printed input _ _ has c.digit_count-digits.ensures c.rate_of-rate.ensures) c.put_sheet_of.ensures in
    let within = wrote-within (omega (arith, printed-length input)) w in
    record { wrote = w; prefix_len = (within, sym (length-take-le _ _ within)) }
